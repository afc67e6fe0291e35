-- Lengths in brackets, and the elements of an initialiser.
-- This is how the code computes it; the rules of typing are the relations of c_typed_law.
use Rattle.std.specs.Prelude.{ℕ, List, Result, Ok}
use Rattle.c_types.specs.declared.types.CType.{CType}
use Rattle.c_types.specs.Answers.{Fault, ◌>>=◌}
use Rattle.c_typed_addressed.specs.c_typed_scope.specs.declared.entry.Entry.{Entry}
use Rattle.c_typed_addressed.specs.c_typed_scope.specs.declared.entry.Signature.{Signature}
use Rattle.c_typed_addressed.specs.c_typed_scope.specs.Scopes.{Scope}
use Rattle.c_typed_addressed.specs.c_typed_scope.specs.Layout.{Area}
use Rattle.c_typed_addressed.specs.c_typed_scope.specs.Contents.{wanted, length_of, Filled, element_of}
use Rattle.c_typed_addressed.specs.c_phrases.specs.Phrases.{AnExp, SomeExps, no_exps, exps}
use Rattle.c_typed_addressed.specs.c_typed_expressions.specs.Phrases.{first}
use Rattle.c_typed_addressed.specs.c_typed_expressions.specs.Expressions.{type_exp}

module _ (names : List (List ℕ × Entry)) (signatures : List Signature) (scope : Scope) where
  -- a length in brackets; its literals are objects where it is no array's
  unfoldable pub type_length : AnExp → Area → Result (ℕ × Area) Fault
  type_length e a = type_exp names signatures scope e a >>= λ x. wanted (length_of x.0) (first e) >>= λ n. Ok (n, x.1)

  unfoldable pub type_element : CType → AnExp → Filled × Area → Result (Filled × Area) Fault
  type_element t e s = type_exp names signatures scope e s.1 >>= λ x. element_of t (first e) x.0 x.1.objects s.0 >>= λ f. Ok (f, x.1)

  -- the elements of a list, one after another
  abbrev pub type_elements : CType → SomeExps → Filled × Area → Result (Filled × Area) Fault
  type_elements t no_exps s = Ok s
  type_elements t (exps e es) s = type_element t e s >>= λ next. type_elements t es next

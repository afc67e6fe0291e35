-- Blocks from the innermost out.
use Rattle.std.proofs.Common.{◌≡◌, ◌∙◌, ◌++◌, ℕ, List, [], ◌∷◌, Option, Some, None, reverse, refl, ap}
use Rattle.std.proofs.lemmas.List.{reverse-append}
use Rattle.std.specs.Option.{option_or}
use Rattle.gg_base.proofs.Mapping.{first_given}
use Rattle.c_typed_scope.specs.declared.entry.Entry.{Entry}
use Rattle.c_typed_scope.specs.Scopes.{find, find_outer, later}

later_none : (o : Option Entry) → option_or o None ≡ o
later_none None = refl
later_none (Some e) = refl

inner_joined : (inner outer : List (List (List ℕ × Entry))) (name : List ℕ)
    → first_given (λ b. find b name) (inner ++ outer) ≡ later (first_given (λ b. find b name) inner) (first_given (λ b. find b name) outer)
inner_joined [] outer name = refl
inner_joined (b ∷ inner) outer name = by (find b name) (inner_joined inner outer name)
  where
    by : (o : Option Entry) → first_given (λ x. find x name) (inner ++ outer) ≡ later (first_given (λ x. find x name) inner) (first_given (λ x. find x name) outer)
        → option_or o (first_given (λ x. find x name) (inner ++ outer)) ≡ later (option_or o (first_given (λ x. find x name) inner)) (first_given (λ x. find x name) outer)
    by None e = e
    by (Some x) e = refl

-- the first from the innermost out is the last of all
pub inner_reversed : (blocks : List (List (List ℕ × Entry))) (name : List ℕ) → first_given (λ b. find b name) (reverse blocks) ≡ find_outer blocks name
inner_reversed [] name = refl
inner_reversed (b ∷ rest) name =
    ap (first_given (λ x. find x name)) (reverse-append (b ∷ []) rest)
    ∙ (inner_joined (reverse rest) (b ∷ []) name
    ∙ (ap (λ (o : Option Entry). later o (option_or (find b name) None)) (inner_reversed rest name)
    ∙ ap (λ (o : Option Entry). later (find_outer rest name) o) (later_none (find b name))))

-- What a symbol's entry is worth.
use Rattle.std.proofs.Common.{◌≡◌, ℕ, zero, suc, ◌+◌, ◌-◌, ◌*◌, ◌^◌, ◌<◌, ◌≤◌, List, length, Option, Some, None, true, refl, sym, ap, ◌∙◌, subst, arith, slice_get}
use Rattle.std.specs.Prelude.{IsSome, ◌&&◌, nat_le}
use Rattle.std.proofs.lemmas.Bool.Decides.{nat_tests}
use Rattle.std.proofs.lemmas.Bool.{eqb-true, and_parts}
use Rattle.std.proofs.lemmas.Option.{same_Some}
use Rattle.gg_base.specs.declared.size.Size.{Size}
use Rattle.gg_base.specs.declared.size.Size.TheVariants.{Long}
use Rattle.gg_base.specs.Sizes.{bytes_of}
use Rattle.gg_base.specs.Arithmetic.{add32}
use Rattle.tree_core.specs.declared.token.Tok.{Tok}
use Rattle.tree_core.specs.declared.token.Tok.TheVariants as tok
use Rattle.tree_core.specs.declared.tree.Att.{Att}
use Rattle.tree_core.specs.declared.tree.Att.TheVariants as att
use Rattle.tree_core.specs.declared.program.Object.{Object}
use Rattle.tree_core.specs.declared.program.TreeProgram.{TreeProgram}
use Rattle.tree_core.specs.Attributes.{attribute_of, is_of_kind}
use Rattle.tree_core.specs.Area.{fetched}
use Rattle.tree_meaning.specs.State.{State, Extent}
use Rattle.tree_meaning.specs.declared.value.Meaning.{Meaning as Place}
use Rattle.tree_meaning.specs.declared.value.Value.TheVariants as values
use Rattle.tree_meaning.specs.Values.{Sight, read, token_means}
use Rattle.tree_meaning.specs.Values as trees
use Rattle.tree_meaning.proofs.Values.{there_is}
use Rattle.md_reader.specs.declared.types.Kind.{Kind}
use Rattle.md_reader.specs.declared.types.Kind.TheVariants as kind
use Rattle.md_reader.specs.declared.types.Sym.{Sym}
use Rattle.md_reader.specs.Patterns.{kind_at}
use Rattle.md_reader.specs.State.{Content}
use Rattle.sel_target.specs.sel_terms.specs.RuleFacts.{size_of_kind, size_of_symbol}
use Rattle.sel_target.specs.declared.attr.Attr.{Attr}
use Rattle.sel_target.specs.declared.attr.Attr.TheVariants as attr
use Rattle.sel_target.specs.Meaning.{Meaning}
use Rattle.sel_target.specs.Values.{address_of, worth, token_worth, own_operand}
use Rattle.sel_target.specs.Laws.{IsLawful}
use Rattle.sel_target.specs.Spelled.{TokenIsSpelled}
use Rattle.sel_target.specs.Instances.{KindFits, SymFits, TokenIsWhole, IsWhole, InFrame}
use Rattle.sel_terms_trees.specs.Senses.{Sense, means}
use Rattle.sel_parse_stands.specs.Stands.{NamedBy, ClassIs, register, in_slot, value, place, number, address, SymbolIs, token, class, Sees, IsFrame}
use Rattle.sel_target.specs.Values.{PlaceIs, local, argument, memory}
use Rattle.sel_parse_stands.proofs.Loaded.{IsLoaded}

number_same : (k n : ℕ) → values.Number k ≡ values.Number n → k ≡ n
number_same k n e = cc

object_reads : (o : Option Object) (offset n : ℕ) → trees.address_of o offset ≡ values.Number n → address_of o offset ≡ Some n
object_reads None offset n e = absurd (cc)
object_reads (Some o) offset n e = ap Some (number_same (add32 o.address offset) n e)

is_some : {X : Type 0} (o : Option X) (x : X) → o ≡ Some x → IsSome o
is_some None x e = absurd (cc)
is_some (Some y) x e = refl

argument_small : (k : ℕ) → (nat_le 1 k && nat_le k 255) ≡ true → k < 1024
argument_small k e = (let h = and_parts (nat_le 1 k) (nat_le k 255) e in within (h.1)) where
  within : nat_le k 255 ≡ true → k < 1024
  within g = grind (arith, nat_tests)

module _ {O I S F : Type 0} (of : Meaning O I S F) (law : IsLawful of) (q : TreeProgram) (d : Content) (first : ℕ) (f : Extent) (fs : List Extent) (t : State) (s : Sight) (m0 : S)
    (frame : IsFrame of q d first f fs t s m0) (m : S) (sees : Sees of q d first f fs t s m0 m) where
  argument_reads : (k n : ℕ) → 1 ≤ k → slice_get s.arguments (k - 1) ≡ Some n → of.reads (of.argument k) Long m ≡ Some n
  argument_reads zero n one e = absurd (omega (arith, one))
  argument_reads (suc k) n one e =
      let back : (suc k) - 1 ≡ k = omega arith in
      let on : k + 1 ≡ suc k = omega arith in
      subst (λ j. of.reads (of.argument j) Long m ≡ Some n) on
      (law.reads.argument_read q f fs t k n m sees.agrees (subst (λ j. slice_get t.running.arguments j ≡ Some n) back (subst (λ as_. slice_get as_ ((suc k) - 1) ≡ Some n) frame.arguments e)))

  token_reads : (x : Tok) (a : Att) (n : ℕ) → is_of_kind (attribute_of x) a ≡ true → NamedBy of q d first f fs t s m0 x a
      → read s (token_means q.objects s x a values.Wild values.Wild) ≡ values.Number n → token_worth of q x a m ≡ Some n
  token_reads tok.Zero (att.Number k) n fit named e = ap Some (eqb-true k 0 fit ∙ number_same 0 n e)
  token_reads tok.One (att.Number k) n fit named e = ap Some (eqb-true k 1 fit ∙ number_same 1 n e)
  token_reads tok.Two (att.Number k) n fit named e = ap Some (eqb-true k 2 fit ∙ number_same 2 n e)
  token_reads tok.Four (att.Number k) n fit named e = ap Some (eqb-true k 4 fit ∙ number_same 4 n e)
  token_reads tok.Eight (att.Number k) n fit named e = ap Some (eqb-true k 8 fit ∙ number_same 8 n e)
  token_reads tok.Const (att.Number k) n fit named e = ap Some (number_same k n e)
  token_reads tok.Gaddr (att.Object object offset) n fit named e = object_reads (slice_get q.objects object) offset n e
  token_reads tok.Loc (att.Slot k) n fit named e = sees.locals k n (there_is (s.locals k) n e)
  token_reads tok.Arg (att.Slot k) n fit named e = argument_reads k n named.0 (there_is (slice_get s.arguments (k - 1)) n e)
  token_reads _ _ n fit named e = absurd (cc)

  place_reads : (z : Size) (o : O) (g : Place) (n : ℕ) → of.fits (kind.Place z) o ≡ true → PlaceIs of f t m z o g → read s g ≡ values.Number n → of.reads o z m ≡ Some n
  place_reads z o g n fits (local k long is lt low) e =
      subst (λ y. of.reads o y m ≡ Some n) (sym long) (subst (λ p. of.reads p Long m ≡ Some n) (sym is) (sees.locals k n (there_is (s.locals k) n e)))
  place_reads z o g n fits (argument k long is lt numbered) e =
      subst (λ y. of.reads o y m ≡ Some n) (sym long)
      (subst (λ p. of.reads p Long m ≡ Some n) (sym is) (argument_reads (k + 1) n (let one : 1 ≤ k + 1 = omega arith in one) (there_is (slice_get s.arguments (k + 1 - 1)) n e)))
  place_reads z o g n fits (memory a names) e =
      law.reads.memory_read q f fs t o z a n m sees.agrees fits names (subst (λ bytes. fetched z bytes a ≡ Some n) frame.area (there_is (fetched z s.area a) n e))

  class_reads : (k : Option Kind) (a : Attr O) (v : Sense) (n : ℕ) → ClassIs of q d first f fs t s m0 m k a v → read s (means q.objects s v) ≡ values.Number n
      → worth of q (size_of_kind k) a m ≡ Some n
  class_reads k a v n (register r x lt is) e = is ∙ ap Some (number_same x n e)
  class_reads k a v n (in_slot w x le lt is) e = is ∙ ap Some (number_same x n e)
  class_reads k a v n (value z o x fits is) e = is ∙ ap Some (number_same x n e)
  class_reads k a v n (place z o g fits is) e = place_reads z o g n fits is e
  class_reads k a v n (number x lt) e = ap Some (number_same x n e)
  class_reads k a v n (address o x fits is) e = is ∙ ap Some (number_same x n e)

  -- where a symbol stands for a number, its attribute is worth it
  pub symbol_reads : (x : Sym) (k : Option Kind) (a : Attr O) (v : Sense) (n : ℕ) → SymbolIs of q d first f fs t s m0 m x k a v → read s (means q.objects s v) ≡ values.Number n
      → worth of q (size_of_symbol d.classes x) a m ≡ Some n
  symbol_reads x k a v n (token l fit named) e = token_reads l.tok l.att n fit named.0 e
  symbol_reads x k a v n (class c a' v' is) e = class_reads (kind_at d.classes c) a v n is e

  -- a symbol's number is of its size
  class_small : (k : Option Kind) (a : Attr O) (v : Sense) (n : ℕ) → ClassIs of q d first f fs t s m0 m k a v → worth of q (size_of_kind k) a m ≡ Some n → n < 2 ^ (8 * bytes_of (size_of_kind k))
  class_small k a v n (register r x lt is) e = law.reads.reads_small q f fs t (of.register r) Long n m sees.agrees e
  class_small k a v n (in_slot w x le lt is) e = law.reads.reads_small q f fs t (of.slot w) Long n m sees.agrees e
  class_small k a v n (value z o x fits is) e = law.reads.reads_small q f fs t o z n m sees.agrees e
  class_small k a v n (place z o g fits is) e = law.reads.reads_small q f fs t o z n m sees.agrees e
  class_small k a v n (number x lt) e = subst (λ y. y < 2 ^ 32) (let same_number : x ≡ n = cc in same_number) lt
  class_small k a v n (address o x fits is) e = law.reads.names_small q f fs t o Long n m sees.agrees e

  address_small : (o : Option Object) (offset n : ℕ) → address_of o offset ≡ Some n → n < 2 ^ 32
  address_small None offset n e = absurd (cc)
  address_small (Some o) offset n e = subst (λ y. y < 2 ^ 32) (let is : add32 o.address offset ≡ n = cc in is) (omega arith)

  token_small : (x : Tok) (a : Att) (n : ℕ) → is_of_kind (attribute_of x) a ≡ true → NamedBy of q d first f fs t s m0 x a → token_worth of q x a m ≡ Some n → n < 2 ^ 32
  token_small tok.Zero att.Nothing n fit named e = absurd (cc)
  token_small tok.Zero (att.Number k) n fit named e = subst (λ y. y < 2 ^ 32) (let is : k ≡ n = cc in is) named
  token_small tok.Zero (att.Object object offset) n fit named e = absurd (cc)
  token_small tok.Zero (att.Slot k) n fit named e = absurd (cc)
  token_small tok.Zero (att.Branch rel label) n fit named e = absurd (cc)
  token_small tok.Zero (att.Label label) n fit named e = absurd (cc)
  token_small tok.Zero (att.Callee function count) n fit named e = absurd (cc)
  token_small tok.One att.Nothing n fit named e = absurd (cc)
  token_small tok.One (att.Number k) n fit named e = subst (λ y. y < 2 ^ 32) (let is : k ≡ n = cc in is) named
  token_small tok.One (att.Object object offset) n fit named e = absurd (cc)
  token_small tok.One (att.Slot k) n fit named e = absurd (cc)
  token_small tok.One (att.Branch rel label) n fit named e = absurd (cc)
  token_small tok.One (att.Label label) n fit named e = absurd (cc)
  token_small tok.One (att.Callee function count) n fit named e = absurd (cc)
  token_small tok.Two att.Nothing n fit named e = absurd (cc)
  token_small tok.Two (att.Number k) n fit named e = subst (λ y. y < 2 ^ 32) (let is : k ≡ n = cc in is) named
  token_small tok.Two (att.Object object offset) n fit named e = absurd (cc)
  token_small tok.Two (att.Slot k) n fit named e = absurd (cc)
  token_small tok.Two (att.Branch rel label) n fit named e = absurd (cc)
  token_small tok.Two (att.Label label) n fit named e = absurd (cc)
  token_small tok.Two (att.Callee function count) n fit named e = absurd (cc)
  token_small tok.Four att.Nothing n fit named e = absurd (cc)
  token_small tok.Four (att.Number k) n fit named e = subst (λ y. y < 2 ^ 32) (let is : k ≡ n = cc in is) named
  token_small tok.Four (att.Object object offset) n fit named e = absurd (cc)
  token_small tok.Four (att.Slot k) n fit named e = absurd (cc)
  token_small tok.Four (att.Branch rel label) n fit named e = absurd (cc)
  token_small tok.Four (att.Label label) n fit named e = absurd (cc)
  token_small tok.Four (att.Callee function count) n fit named e = absurd (cc)
  token_small tok.Eight att.Nothing n fit named e = absurd (cc)
  token_small tok.Eight (att.Number k) n fit named e = subst (λ y. y < 2 ^ 32) (let is : k ≡ n = cc in is) named
  token_small tok.Eight (att.Object object offset) n fit named e = absurd (cc)
  token_small tok.Eight (att.Slot k) n fit named e = absurd (cc)
  token_small tok.Eight (att.Branch rel label) n fit named e = absurd (cc)
  token_small tok.Eight (att.Label label) n fit named e = absurd (cc)
  token_small tok.Eight (att.Callee function count) n fit named e = absurd (cc)
  token_small tok.Const att.Nothing n fit named e = absurd (cc)
  token_small tok.Const (att.Number k) n fit named e = subst (λ y. y < 2 ^ 32) (let is : k ≡ n = cc in is) named
  token_small tok.Const (att.Object object offset) n fit named e = absurd (cc)
  token_small tok.Const (att.Slot k) n fit named e = absurd (cc)
  token_small tok.Const (att.Branch rel label) n fit named e = absurd (cc)
  token_small tok.Const (att.Label label) n fit named e = absurd (cc)
  token_small tok.Const (att.Callee function count) n fit named e = absurd (cc)
  token_small tok.Gaddr att.Nothing n fit named e = absurd (cc)
  token_small tok.Gaddr (att.Number k) n fit named e = absurd (cc)
  token_small tok.Gaddr (att.Object object offset) n fit named e = address_small (slice_get q.objects object) offset n e
  token_small tok.Gaddr (att.Slot k) n fit named e = absurd (cc)
  token_small tok.Gaddr (att.Branch rel label) n fit named e = absurd (cc)
  token_small tok.Gaddr (att.Label label) n fit named e = absurd (cc)
  token_small tok.Gaddr (att.Callee function count) n fit named e = absurd (cc)
  token_small tok.Loc att.Nothing n fit named e = absurd (cc)
  token_small tok.Loc (att.Number k) n fit named e = absurd (cc)
  token_small tok.Loc (att.Object object offset) n fit named e = absurd (cc)
  token_small tok.Loc (att.Slot k) n fit named e = law.reads.reads_small q f fs t (of.local k) Long n m sees.agrees e
  token_small tok.Loc (att.Branch rel label) n fit named e = absurd (cc)
  token_small tok.Loc (att.Label label) n fit named e = absurd (cc)
  token_small tok.Loc (att.Callee function count) n fit named e = absurd (cc)
  token_small tok.Arg att.Nothing n fit named e = absurd (cc)
  token_small tok.Arg (att.Number k) n fit named e = absurd (cc)
  token_small tok.Arg (att.Object object offset) n fit named e = absurd (cc)
  token_small tok.Arg (att.Slot k) n fit named e = law.reads.reads_small q f fs t (of.argument k) Long n m sees.agrees e
  token_small tok.Arg (att.Branch rel label) n fit named e = absurd (cc)
  token_small tok.Arg (att.Label label) n fit named e = absurd (cc)
  token_small tok.Arg (att.Callee function count) n fit named e = absurd (cc)
  token_small tok.IndirB att.Nothing n fit named e = absurd (cc)
  token_small tok.IndirB (att.Number k) n fit named e = absurd (cc)
  token_small tok.IndirB (att.Object object offset) n fit named e = absurd (cc)
  token_small tok.IndirB (att.Slot k) n fit named e = absurd (cc)
  token_small tok.IndirB (att.Branch rel label) n fit named e = absurd (cc)
  token_small tok.IndirB (att.Label label) n fit named e = absurd (cc)
  token_small tok.IndirB (att.Callee function count) n fit named e = absurd (cc)
  token_small tok.IndirW att.Nothing n fit named e = absurd (cc)
  token_small tok.IndirW (att.Number k) n fit named e = absurd (cc)
  token_small tok.IndirW (att.Object object offset) n fit named e = absurd (cc)
  token_small tok.IndirW (att.Slot k) n fit named e = absurd (cc)
  token_small tok.IndirW (att.Branch rel label) n fit named e = absurd (cc)
  token_small tok.IndirW (att.Label label) n fit named e = absurd (cc)
  token_small tok.IndirW (att.Callee function count) n fit named e = absurd (cc)
  token_small tok.IndirL att.Nothing n fit named e = absurd (cc)
  token_small tok.IndirL (att.Number k) n fit named e = absurd (cc)
  token_small tok.IndirL (att.Object object offset) n fit named e = absurd (cc)
  token_small tok.IndirL (att.Slot k) n fit named e = absurd (cc)
  token_small tok.IndirL (att.Branch rel label) n fit named e = absurd (cc)
  token_small tok.IndirL (att.Label label) n fit named e = absurd (cc)
  token_small tok.IndirL (att.Callee function count) n fit named e = absurd (cc)
  token_small tok.Plus att.Nothing n fit named e = absurd (cc)
  token_small tok.Plus (att.Number k) n fit named e = absurd (cc)
  token_small tok.Plus (att.Object object offset) n fit named e = absurd (cc)
  token_small tok.Plus (att.Slot k) n fit named e = absurd (cc)
  token_small tok.Plus (att.Branch rel label) n fit named e = absurd (cc)
  token_small tok.Plus (att.Label label) n fit named e = absurd (cc)
  token_small tok.Plus (att.Callee function count) n fit named e = absurd (cc)
  token_small tok.Minus att.Nothing n fit named e = absurd (cc)
  token_small tok.Minus (att.Number k) n fit named e = absurd (cc)
  token_small tok.Minus (att.Object object offset) n fit named e = absurd (cc)
  token_small tok.Minus (att.Slot k) n fit named e = absurd (cc)
  token_small tok.Minus (att.Branch rel label) n fit named e = absurd (cc)
  token_small tok.Minus (att.Label label) n fit named e = absurd (cc)
  token_small tok.Minus (att.Callee function count) n fit named e = absurd (cc)
  token_small tok.Mul att.Nothing n fit named e = absurd (cc)
  token_small tok.Mul (att.Number k) n fit named e = absurd (cc)
  token_small tok.Mul (att.Object object offset) n fit named e = absurd (cc)
  token_small tok.Mul (att.Slot k) n fit named e = absurd (cc)
  token_small tok.Mul (att.Branch rel label) n fit named e = absurd (cc)
  token_small tok.Mul (att.Label label) n fit named e = absurd (cc)
  token_small tok.Mul (att.Callee function count) n fit named e = absurd (cc)
  token_small tok.Div att.Nothing n fit named e = absurd (cc)
  token_small tok.Div (att.Number k) n fit named e = absurd (cc)
  token_small tok.Div (att.Object object offset) n fit named e = absurd (cc)
  token_small tok.Div (att.Slot k) n fit named e = absurd (cc)
  token_small tok.Div (att.Branch rel label) n fit named e = absurd (cc)
  token_small tok.Div (att.Label label) n fit named e = absurd (cc)
  token_small tok.Div (att.Callee function count) n fit named e = absurd (cc)
  token_small tok.Mod att.Nothing n fit named e = absurd (cc)
  token_small tok.Mod (att.Number k) n fit named e = absurd (cc)
  token_small tok.Mod (att.Object object offset) n fit named e = absurd (cc)
  token_small tok.Mod (att.Slot k) n fit named e = absurd (cc)
  token_small tok.Mod (att.Branch rel label) n fit named e = absurd (cc)
  token_small tok.Mod (att.Label label) n fit named e = absurd (cc)
  token_small tok.Mod (att.Callee function count) n fit named e = absurd (cc)
  token_small tok.And att.Nothing n fit named e = absurd (cc)
  token_small tok.And (att.Number k) n fit named e = absurd (cc)
  token_small tok.And (att.Object object offset) n fit named e = absurd (cc)
  token_small tok.And (att.Slot k) n fit named e = absurd (cc)
  token_small tok.And (att.Branch rel label) n fit named e = absurd (cc)
  token_small tok.And (att.Label label) n fit named e = absurd (cc)
  token_small tok.And (att.Callee function count) n fit named e = absurd (cc)
  token_small tok.Or att.Nothing n fit named e = absurd (cc)
  token_small tok.Or (att.Number k) n fit named e = absurd (cc)
  token_small tok.Or (att.Object object offset) n fit named e = absurd (cc)
  token_small tok.Or (att.Slot k) n fit named e = absurd (cc)
  token_small tok.Or (att.Branch rel label) n fit named e = absurd (cc)
  token_small tok.Or (att.Label label) n fit named e = absurd (cc)
  token_small tok.Or (att.Callee function count) n fit named e = absurd (cc)
  token_small tok.Xor att.Nothing n fit named e = absurd (cc)
  token_small tok.Xor (att.Number k) n fit named e = absurd (cc)
  token_small tok.Xor (att.Object object offset) n fit named e = absurd (cc)
  token_small tok.Xor (att.Slot k) n fit named e = absurd (cc)
  token_small tok.Xor (att.Branch rel label) n fit named e = absurd (cc)
  token_small tok.Xor (att.Label label) n fit named e = absurd (cc)
  token_small tok.Xor (att.Callee function count) n fit named e = absurd (cc)
  token_small tok.Lsh att.Nothing n fit named e = absurd (cc)
  token_small tok.Lsh (att.Number k) n fit named e = absurd (cc)
  token_small tok.Lsh (att.Object object offset) n fit named e = absurd (cc)
  token_small tok.Lsh (att.Slot k) n fit named e = absurd (cc)
  token_small tok.Lsh (att.Branch rel label) n fit named e = absurd (cc)
  token_small tok.Lsh (att.Label label) n fit named e = absurd (cc)
  token_small tok.Lsh (att.Callee function count) n fit named e = absurd (cc)
  token_small tok.Rsh att.Nothing n fit named e = absurd (cc)
  token_small tok.Rsh (att.Number k) n fit named e = absurd (cc)
  token_small tok.Rsh (att.Object object offset) n fit named e = absurd (cc)
  token_small tok.Rsh (att.Slot k) n fit named e = absurd (cc)
  token_small tok.Rsh (att.Branch rel label) n fit named e = absurd (cc)
  token_small tok.Rsh (att.Label label) n fit named e = absurd (cc)
  token_small tok.Rsh (att.Callee function count) n fit named e = absurd (cc)
  token_small tok.Neg att.Nothing n fit named e = absurd (cc)
  token_small tok.Neg (att.Number k) n fit named e = absurd (cc)
  token_small tok.Neg (att.Object object offset) n fit named e = absurd (cc)
  token_small tok.Neg (att.Slot k) n fit named e = absurd (cc)
  token_small tok.Neg (att.Branch rel label) n fit named e = absurd (cc)
  token_small tok.Neg (att.Label label) n fit named e = absurd (cc)
  token_small tok.Neg (att.Callee function count) n fit named e = absurd (cc)
  token_small tok.Com att.Nothing n fit named e = absurd (cc)
  token_small tok.Com (att.Number k) n fit named e = absurd (cc)
  token_small tok.Com (att.Object object offset) n fit named e = absurd (cc)
  token_small tok.Com (att.Slot k) n fit named e = absurd (cc)
  token_small tok.Com (att.Branch rel label) n fit named e = absurd (cc)
  token_small tok.Com (att.Label label) n fit named e = absurd (cc)
  token_small tok.Com (att.Callee function count) n fit named e = absurd (cc)
  token_small tok.Sxb att.Nothing n fit named e = absurd (cc)
  token_small tok.Sxb (att.Number k) n fit named e = absurd (cc)
  token_small tok.Sxb (att.Object object offset) n fit named e = absurd (cc)
  token_small tok.Sxb (att.Slot k) n fit named e = absurd (cc)
  token_small tok.Sxb (att.Branch rel label) n fit named e = absurd (cc)
  token_small tok.Sxb (att.Label label) n fit named e = absurd (cc)
  token_small tok.Sxb (att.Callee function count) n fit named e = absurd (cc)
  token_small tok.Zxb att.Nothing n fit named e = absurd (cc)
  token_small tok.Zxb (att.Number k) n fit named e = absurd (cc)
  token_small tok.Zxb (att.Object object offset) n fit named e = absurd (cc)
  token_small tok.Zxb (att.Slot k) n fit named e = absurd (cc)
  token_small tok.Zxb (att.Branch rel label) n fit named e = absurd (cc)
  token_small tok.Zxb (att.Label label) n fit named e = absurd (cc)
  token_small tok.Zxb (att.Callee function count) n fit named e = absurd (cc)
  token_small tok.Sxw att.Nothing n fit named e = absurd (cc)
  token_small tok.Sxw (att.Number k) n fit named e = absurd (cc)
  token_small tok.Sxw (att.Object object offset) n fit named e = absurd (cc)
  token_small tok.Sxw (att.Slot k) n fit named e = absurd (cc)
  token_small tok.Sxw (att.Branch rel label) n fit named e = absurd (cc)
  token_small tok.Sxw (att.Label label) n fit named e = absurd (cc)
  token_small tok.Sxw (att.Callee function count) n fit named e = absurd (cc)
  token_small tok.Zxw att.Nothing n fit named e = absurd (cc)
  token_small tok.Zxw (att.Number k) n fit named e = absurd (cc)
  token_small tok.Zxw (att.Object object offset) n fit named e = absurd (cc)
  token_small tok.Zxw (att.Slot k) n fit named e = absurd (cc)
  token_small tok.Zxw (att.Branch rel label) n fit named e = absurd (cc)
  token_small tok.Zxw (att.Label label) n fit named e = absurd (cc)
  token_small tok.Zxw (att.Callee function count) n fit named e = absurd (cc)
  token_small tok.Ncb att.Nothing n fit named e = absurd (cc)
  token_small tok.Ncb (att.Number k) n fit named e = absurd (cc)
  token_small tok.Ncb (att.Object object offset) n fit named e = absurd (cc)
  token_small tok.Ncb (att.Slot k) n fit named e = absurd (cc)
  token_small tok.Ncb (att.Branch rel label) n fit named e = absurd (cc)
  token_small tok.Ncb (att.Label label) n fit named e = absurd (cc)
  token_small tok.Ncb (att.Callee function count) n fit named e = absurd (cc)
  token_small tok.Ncw att.Nothing n fit named e = absurd (cc)
  token_small tok.Ncw (att.Number k) n fit named e = absurd (cc)
  token_small tok.Ncw (att.Object object offset) n fit named e = absurd (cc)
  token_small tok.Ncw (att.Slot k) n fit named e = absurd (cc)
  token_small tok.Ncw (att.Branch rel label) n fit named e = absurd (cc)
  token_small tok.Ncw (att.Label label) n fit named e = absurd (cc)
  token_small tok.Ncw (att.Callee function count) n fit named e = absurd (cc)
  token_small tok.AssignB att.Nothing n fit named e = absurd (cc)
  token_small tok.AssignB (att.Number k) n fit named e = absurd (cc)
  token_small tok.AssignB (att.Object object offset) n fit named e = absurd (cc)
  token_small tok.AssignB (att.Slot k) n fit named e = absurd (cc)
  token_small tok.AssignB (att.Branch rel label) n fit named e = absurd (cc)
  token_small tok.AssignB (att.Label label) n fit named e = absurd (cc)
  token_small tok.AssignB (att.Callee function count) n fit named e = absurd (cc)
  token_small tok.AssignW att.Nothing n fit named e = absurd (cc)
  token_small tok.AssignW (att.Number k) n fit named e = absurd (cc)
  token_small tok.AssignW (att.Object object offset) n fit named e = absurd (cc)
  token_small tok.AssignW (att.Slot k) n fit named e = absurd (cc)
  token_small tok.AssignW (att.Branch rel label) n fit named e = absurd (cc)
  token_small tok.AssignW (att.Label label) n fit named e = absurd (cc)
  token_small tok.AssignW (att.Callee function count) n fit named e = absurd (cc)
  token_small tok.AssignL att.Nothing n fit named e = absurd (cc)
  token_small tok.AssignL (att.Number k) n fit named e = absurd (cc)
  token_small tok.AssignL (att.Object object offset) n fit named e = absurd (cc)
  token_small tok.AssignL (att.Slot k) n fit named e = absurd (cc)
  token_small tok.AssignL (att.Branch rel label) n fit named e = absurd (cc)
  token_small tok.AssignL (att.Label label) n fit named e = absurd (cc)
  token_small tok.AssignL (att.Callee function count) n fit named e = absurd (cc)
  token_small tok.Cbr att.Nothing n fit named e = absurd (cc)
  token_small tok.Cbr (att.Number k) n fit named e = absurd (cc)
  token_small tok.Cbr (att.Object object offset) n fit named e = absurd (cc)
  token_small tok.Cbr (att.Slot k) n fit named e = absurd (cc)
  token_small tok.Cbr (att.Branch rel label) n fit named e = absurd (cc)
  token_small tok.Cbr (att.Label label) n fit named e = absurd (cc)
  token_small tok.Cbr (att.Callee function count) n fit named e = absurd (cc)
  token_small tok.Push att.Nothing n fit named e = absurd (cc)
  token_small tok.Push (att.Number k) n fit named e = absurd (cc)
  token_small tok.Push (att.Object object offset) n fit named e = absurd (cc)
  token_small tok.Push (att.Slot k) n fit named e = absurd (cc)
  token_small tok.Push (att.Branch rel label) n fit named e = absurd (cc)
  token_small tok.Push (att.Label label) n fit named e = absurd (cc)
  token_small tok.Push (att.Callee function count) n fit named e = absurd (cc)
  token_small tok.Ret att.Nothing n fit named e = absurd (cc)
  token_small tok.Ret (att.Number k) n fit named e = absurd (cc)
  token_small tok.Ret (att.Object object offset) n fit named e = absurd (cc)
  token_small tok.Ret (att.Slot k) n fit named e = absurd (cc)
  token_small tok.Ret (att.Branch rel label) n fit named e = absurd (cc)
  token_small tok.Ret (att.Label label) n fit named e = absurd (cc)
  token_small tok.Ret (att.Callee function count) n fit named e = absurd (cc)
  token_small tok.Call att.Nothing n fit named e = absurd (cc)
  token_small tok.Call (att.Number k) n fit named e = absurd (cc)
  token_small tok.Call (att.Object object offset) n fit named e = absurd (cc)
  token_small tok.Call (att.Slot k) n fit named e = absurd (cc)
  token_small tok.Call (att.Branch rel label) n fit named e = absurd (cc)
  token_small tok.Call (att.Label label) n fit named e = absurd (cc)
  token_small tok.Call (att.Callee function count) n fit named e = absurd (cc)
  token_small tok.Save att.Nothing n fit named e = absurd (cc)
  token_small tok.Save (att.Number k) n fit named e = absurd (cc)
  token_small tok.Save (att.Object object offset) n fit named e = absurd (cc)
  token_small tok.Save (att.Slot k) n fit named e = absurd (cc)
  token_small tok.Save (att.Branch rel label) n fit named e = absurd (cc)
  token_small tok.Save (att.Label label) n fit named e = absurd (cc)
  token_small tok.Save (att.Callee function count) n fit named e = absurd (cc)
  token_small tok.Jump att.Nothing n fit named e = absurd (cc)
  token_small tok.Jump (att.Number k) n fit named e = absurd (cc)
  token_small tok.Jump (att.Object object offset) n fit named e = absurd (cc)
  token_small tok.Jump (att.Slot k) n fit named e = absurd (cc)
  token_small tok.Jump (att.Branch rel label) n fit named e = absurd (cc)
  token_small tok.Jump (att.Label label) n fit named e = absurd (cc)
  token_small tok.Jump (att.Callee function count) n fit named e = absurd (cc)
  token_small tok.End att.Nothing n fit named e = absurd (cc)
  token_small tok.End (att.Number k) n fit named e = absurd (cc)
  token_small tok.End (att.Object object offset) n fit named e = absurd (cc)
  token_small tok.End (att.Slot k) n fit named e = absurd (cc)
  token_small tok.End (att.Branch rel label) n fit named e = absurd (cc)
  token_small tok.End (att.Label label) n fit named e = absurd (cc)
  token_small tok.End (att.Callee function count) n fit named e = absurd (cc)

  pub symbol_small : (x : Sym) (k : Option Kind) (a : Attr O) (v : Sense) (n : ℕ) → SymbolIs of q d first f fs t s m0 m x k a v → worth of q (size_of_symbol d.classes x) a m ≡ Some n
      → n < 2 ^ (8 * bytes_of (size_of_symbol d.classes x))
  symbol_small x k a v n (token l fit named) e = token_small l.tok l.att n fit named.0 e
  symbol_small x k a v n (class c a' v' is) e = class_small (kind_at d.classes c) a v n is e

  -- an entry that isn't in a slot fits its symbol
  class_fits : (k : Option Kind) (a : Attr O) (v : Sense) → IsLoaded a → ClassIs of q d first f fs t s m0 m k a v → KindFits of k a
  class_fits k a v loaded (register r x lt is) = lt
  class_fits k a v loaded (in_slot w x le lt is) = absurd loaded
  class_fits k a v loaded (value z o x fits is) = fits
  class_fits k a v loaded (place z o g fits is) = fits
  class_fits k a v loaded (number x lt) = lt
  class_fits k a v loaded (address o x fits is) = fits

  pub in_frame : (x : Tok) (a : Att) → is_of_kind (attribute_of x) a ≡ true → NamedBy of q d first f fs t s m0 x a → InFrame a
  in_frame tok.Zero att.Nothing fit named = tt
  in_frame tok.Zero (att.Number k) fit named = tt
  in_frame tok.Zero (att.Object object offset) fit named = tt
  in_frame tok.Zero (att.Branch rel label) fit named = tt
  in_frame tok.Zero (att.Label label) fit named = tt
  in_frame tok.Zero (att.Callee function count) fit named = tt
  in_frame tok.One att.Nothing fit named = tt
  in_frame tok.One (att.Number k) fit named = tt
  in_frame tok.One (att.Object object offset) fit named = tt
  in_frame tok.One (att.Branch rel label) fit named = tt
  in_frame tok.One (att.Label label) fit named = tt
  in_frame tok.One (att.Callee function count) fit named = tt
  in_frame tok.Two att.Nothing fit named = tt
  in_frame tok.Two (att.Number k) fit named = tt
  in_frame tok.Two (att.Object object offset) fit named = tt
  in_frame tok.Two (att.Branch rel label) fit named = tt
  in_frame tok.Two (att.Label label) fit named = tt
  in_frame tok.Two (att.Callee function count) fit named = tt
  in_frame tok.Four att.Nothing fit named = tt
  in_frame tok.Four (att.Number k) fit named = tt
  in_frame tok.Four (att.Object object offset) fit named = tt
  in_frame tok.Four (att.Branch rel label) fit named = tt
  in_frame tok.Four (att.Label label) fit named = tt
  in_frame tok.Four (att.Callee function count) fit named = tt
  in_frame tok.Eight att.Nothing fit named = tt
  in_frame tok.Eight (att.Number k) fit named = tt
  in_frame tok.Eight (att.Object object offset) fit named = tt
  in_frame tok.Eight (att.Branch rel label) fit named = tt
  in_frame tok.Eight (att.Label label) fit named = tt
  in_frame tok.Eight (att.Callee function count) fit named = tt
  in_frame tok.Const att.Nothing fit named = tt
  in_frame tok.Const (att.Number k) fit named = tt
  in_frame tok.Const (att.Object object offset) fit named = tt
  in_frame tok.Const (att.Branch rel label) fit named = tt
  in_frame tok.Const (att.Label label) fit named = tt
  in_frame tok.Const (att.Callee function count) fit named = tt
  in_frame tok.Gaddr att.Nothing fit named = tt
  in_frame tok.Gaddr (att.Number k) fit named = tt
  in_frame tok.Gaddr (att.Object object offset) fit named = tt
  in_frame tok.Gaddr (att.Branch rel label) fit named = tt
  in_frame tok.Gaddr (att.Label label) fit named = tt
  in_frame tok.Gaddr (att.Callee function count) fit named = tt
  in_frame tok.Loc att.Nothing fit named = tt
  in_frame tok.Loc (att.Number k) fit named = tt
  in_frame tok.Loc (att.Object object offset) fit named = tt
  in_frame tok.Loc (att.Slot k) fit named = (let w = frame.within in let g = frame.few in omega (arith, named))
  in_frame tok.Loc (att.Branch rel label) fit named = tt
  in_frame tok.Loc (att.Label label) fit named = tt
  in_frame tok.Loc (att.Callee function count) fit named = tt
  in_frame tok.Arg att.Nothing fit named = tt
  in_frame tok.Arg (att.Number k) fit named = tt
  in_frame tok.Arg (att.Object object offset) fit named = tt
  in_frame tok.Arg (att.Slot k) fit named = argument_small k fit
  in_frame tok.Arg (att.Branch rel label) fit named = tt
  in_frame tok.Arg (att.Label label) fit named = tt
  in_frame tok.Arg (att.Callee function count) fit named = tt
  in_frame tok.IndirB att.Nothing fit named = tt
  in_frame tok.IndirB (att.Number k) fit named = tt
  in_frame tok.IndirB (att.Object object offset) fit named = tt
  in_frame tok.IndirB (att.Branch rel label) fit named = tt
  in_frame tok.IndirB (att.Label label) fit named = tt
  in_frame tok.IndirB (att.Callee function count) fit named = tt
  in_frame tok.IndirW att.Nothing fit named = tt
  in_frame tok.IndirW (att.Number k) fit named = tt
  in_frame tok.IndirW (att.Object object offset) fit named = tt
  in_frame tok.IndirW (att.Branch rel label) fit named = tt
  in_frame tok.IndirW (att.Label label) fit named = tt
  in_frame tok.IndirW (att.Callee function count) fit named = tt
  in_frame tok.IndirL att.Nothing fit named = tt
  in_frame tok.IndirL (att.Number k) fit named = tt
  in_frame tok.IndirL (att.Object object offset) fit named = tt
  in_frame tok.IndirL (att.Branch rel label) fit named = tt
  in_frame tok.IndirL (att.Label label) fit named = tt
  in_frame tok.IndirL (att.Callee function count) fit named = tt
  in_frame tok.Plus att.Nothing fit named = tt
  in_frame tok.Plus (att.Number k) fit named = tt
  in_frame tok.Plus (att.Object object offset) fit named = tt
  in_frame tok.Plus (att.Branch rel label) fit named = tt
  in_frame tok.Plus (att.Label label) fit named = tt
  in_frame tok.Plus (att.Callee function count) fit named = tt
  in_frame tok.Minus att.Nothing fit named = tt
  in_frame tok.Minus (att.Number k) fit named = tt
  in_frame tok.Minus (att.Object object offset) fit named = tt
  in_frame tok.Minus (att.Branch rel label) fit named = tt
  in_frame tok.Minus (att.Label label) fit named = tt
  in_frame tok.Minus (att.Callee function count) fit named = tt
  in_frame tok.Mul att.Nothing fit named = tt
  in_frame tok.Mul (att.Number k) fit named = tt
  in_frame tok.Mul (att.Object object offset) fit named = tt
  in_frame tok.Mul (att.Branch rel label) fit named = tt
  in_frame tok.Mul (att.Label label) fit named = tt
  in_frame tok.Mul (att.Callee function count) fit named = tt
  in_frame tok.Div att.Nothing fit named = tt
  in_frame tok.Div (att.Number k) fit named = tt
  in_frame tok.Div (att.Object object offset) fit named = tt
  in_frame tok.Div (att.Branch rel label) fit named = tt
  in_frame tok.Div (att.Label label) fit named = tt
  in_frame tok.Div (att.Callee function count) fit named = tt
  in_frame tok.Mod att.Nothing fit named = tt
  in_frame tok.Mod (att.Number k) fit named = tt
  in_frame tok.Mod (att.Object object offset) fit named = tt
  in_frame tok.Mod (att.Branch rel label) fit named = tt
  in_frame tok.Mod (att.Label label) fit named = tt
  in_frame tok.Mod (att.Callee function count) fit named = tt
  in_frame tok.And att.Nothing fit named = tt
  in_frame tok.And (att.Number k) fit named = tt
  in_frame tok.And (att.Object object offset) fit named = tt
  in_frame tok.And (att.Branch rel label) fit named = tt
  in_frame tok.And (att.Label label) fit named = tt
  in_frame tok.And (att.Callee function count) fit named = tt
  in_frame tok.Or att.Nothing fit named = tt
  in_frame tok.Or (att.Number k) fit named = tt
  in_frame tok.Or (att.Object object offset) fit named = tt
  in_frame tok.Or (att.Branch rel label) fit named = tt
  in_frame tok.Or (att.Label label) fit named = tt
  in_frame tok.Or (att.Callee function count) fit named = tt
  in_frame tok.Xor att.Nothing fit named = tt
  in_frame tok.Xor (att.Number k) fit named = tt
  in_frame tok.Xor (att.Object object offset) fit named = tt
  in_frame tok.Xor (att.Branch rel label) fit named = tt
  in_frame tok.Xor (att.Label label) fit named = tt
  in_frame tok.Xor (att.Callee function count) fit named = tt
  in_frame tok.Lsh att.Nothing fit named = tt
  in_frame tok.Lsh (att.Number k) fit named = tt
  in_frame tok.Lsh (att.Object object offset) fit named = tt
  in_frame tok.Lsh (att.Branch rel label) fit named = tt
  in_frame tok.Lsh (att.Label label) fit named = tt
  in_frame tok.Lsh (att.Callee function count) fit named = tt
  in_frame tok.Rsh att.Nothing fit named = tt
  in_frame tok.Rsh (att.Number k) fit named = tt
  in_frame tok.Rsh (att.Object object offset) fit named = tt
  in_frame tok.Rsh (att.Branch rel label) fit named = tt
  in_frame tok.Rsh (att.Label label) fit named = tt
  in_frame tok.Rsh (att.Callee function count) fit named = tt
  in_frame tok.Neg att.Nothing fit named = tt
  in_frame tok.Neg (att.Number k) fit named = tt
  in_frame tok.Neg (att.Object object offset) fit named = tt
  in_frame tok.Neg (att.Branch rel label) fit named = tt
  in_frame tok.Neg (att.Label label) fit named = tt
  in_frame tok.Neg (att.Callee function count) fit named = tt
  in_frame tok.Com att.Nothing fit named = tt
  in_frame tok.Com (att.Number k) fit named = tt
  in_frame tok.Com (att.Object object offset) fit named = tt
  in_frame tok.Com (att.Branch rel label) fit named = tt
  in_frame tok.Com (att.Label label) fit named = tt
  in_frame tok.Com (att.Callee function count) fit named = tt
  in_frame tok.Sxb att.Nothing fit named = tt
  in_frame tok.Sxb (att.Number k) fit named = tt
  in_frame tok.Sxb (att.Object object offset) fit named = tt
  in_frame tok.Sxb (att.Branch rel label) fit named = tt
  in_frame tok.Sxb (att.Label label) fit named = tt
  in_frame tok.Sxb (att.Callee function count) fit named = tt
  in_frame tok.Zxb att.Nothing fit named = tt
  in_frame tok.Zxb (att.Number k) fit named = tt
  in_frame tok.Zxb (att.Object object offset) fit named = tt
  in_frame tok.Zxb (att.Branch rel label) fit named = tt
  in_frame tok.Zxb (att.Label label) fit named = tt
  in_frame tok.Zxb (att.Callee function count) fit named = tt
  in_frame tok.Sxw att.Nothing fit named = tt
  in_frame tok.Sxw (att.Number k) fit named = tt
  in_frame tok.Sxw (att.Object object offset) fit named = tt
  in_frame tok.Sxw (att.Branch rel label) fit named = tt
  in_frame tok.Sxw (att.Label label) fit named = tt
  in_frame tok.Sxw (att.Callee function count) fit named = tt
  in_frame tok.Zxw att.Nothing fit named = tt
  in_frame tok.Zxw (att.Number k) fit named = tt
  in_frame tok.Zxw (att.Object object offset) fit named = tt
  in_frame tok.Zxw (att.Branch rel label) fit named = tt
  in_frame tok.Zxw (att.Label label) fit named = tt
  in_frame tok.Zxw (att.Callee function count) fit named = tt
  in_frame tok.Ncb att.Nothing fit named = tt
  in_frame tok.Ncb (att.Number k) fit named = tt
  in_frame tok.Ncb (att.Object object offset) fit named = tt
  in_frame tok.Ncb (att.Branch rel label) fit named = tt
  in_frame tok.Ncb (att.Label label) fit named = tt
  in_frame tok.Ncb (att.Callee function count) fit named = tt
  in_frame tok.Ncw att.Nothing fit named = tt
  in_frame tok.Ncw (att.Number k) fit named = tt
  in_frame tok.Ncw (att.Object object offset) fit named = tt
  in_frame tok.Ncw (att.Branch rel label) fit named = tt
  in_frame tok.Ncw (att.Label label) fit named = tt
  in_frame tok.Ncw (att.Callee function count) fit named = tt
  in_frame tok.AssignB att.Nothing fit named = tt
  in_frame tok.AssignB (att.Number k) fit named = tt
  in_frame tok.AssignB (att.Object object offset) fit named = tt
  in_frame tok.AssignB (att.Branch rel label) fit named = tt
  in_frame tok.AssignB (att.Label label) fit named = tt
  in_frame tok.AssignB (att.Callee function count) fit named = tt
  in_frame tok.AssignW att.Nothing fit named = tt
  in_frame tok.AssignW (att.Number k) fit named = tt
  in_frame tok.AssignW (att.Object object offset) fit named = tt
  in_frame tok.AssignW (att.Branch rel label) fit named = tt
  in_frame tok.AssignW (att.Label label) fit named = tt
  in_frame tok.AssignW (att.Callee function count) fit named = tt
  in_frame tok.AssignL att.Nothing fit named = tt
  in_frame tok.AssignL (att.Number k) fit named = tt
  in_frame tok.AssignL (att.Object object offset) fit named = tt
  in_frame tok.AssignL (att.Branch rel label) fit named = tt
  in_frame tok.AssignL (att.Label label) fit named = tt
  in_frame tok.AssignL (att.Callee function count) fit named = tt
  in_frame tok.Cbr att.Nothing fit named = tt
  in_frame tok.Cbr (att.Number k) fit named = tt
  in_frame tok.Cbr (att.Object object offset) fit named = tt
  in_frame tok.Cbr (att.Branch rel label) fit named = tt
  in_frame tok.Cbr (att.Label label) fit named = tt
  in_frame tok.Cbr (att.Callee function count) fit named = tt
  in_frame tok.Push att.Nothing fit named = tt
  in_frame tok.Push (att.Number k) fit named = tt
  in_frame tok.Push (att.Object object offset) fit named = tt
  in_frame tok.Push (att.Branch rel label) fit named = tt
  in_frame tok.Push (att.Label label) fit named = tt
  in_frame tok.Push (att.Callee function count) fit named = tt
  in_frame tok.Ret att.Nothing fit named = tt
  in_frame tok.Ret (att.Number k) fit named = tt
  in_frame tok.Ret (att.Object object offset) fit named = tt
  in_frame tok.Ret (att.Branch rel label) fit named = tt
  in_frame tok.Ret (att.Label label) fit named = tt
  in_frame tok.Ret (att.Callee function count) fit named = tt
  in_frame tok.Call att.Nothing fit named = tt
  in_frame tok.Call (att.Number k) fit named = tt
  in_frame tok.Call (att.Object object offset) fit named = tt
  in_frame tok.Call (att.Branch rel label) fit named = tt
  in_frame tok.Call (att.Label label) fit named = tt
  in_frame tok.Call (att.Callee function count) fit named = tt
  in_frame tok.Save att.Nothing fit named = tt
  in_frame tok.Save (att.Number k) fit named = tt
  in_frame tok.Save (att.Object object offset) fit named = tt
  in_frame tok.Save (att.Slot k) fit named = (let w = frame.within in let g = frame.few in omega (arith, named.0))
  in_frame tok.Save (att.Branch rel label) fit named = tt
  in_frame tok.Save (att.Label label) fit named = tt
  in_frame tok.Save (att.Callee function count) fit named = tt
  in_frame tok.Jump att.Nothing fit named = tt
  in_frame tok.Jump (att.Number k) fit named = tt
  in_frame tok.Jump (att.Object object offset) fit named = tt
  in_frame tok.Jump (att.Branch rel label) fit named = tt
  in_frame tok.Jump (att.Label label) fit named = tt
  in_frame tok.Jump (att.Callee function count) fit named = tt
  in_frame tok.End att.Nothing fit named = tt
  in_frame tok.End (att.Number k) fit named = tt
  in_frame tok.End (att.Object object offset) fit named = tt
  in_frame tok.End (att.Branch rel label) fit named = tt
  in_frame tok.End (att.Label label) fit named = tt
  in_frame tok.End (att.Callee function count) fit named = tt
  in_frame _ _ fit named = absurd (cc)

  pub symbol_fits : (x : Sym) (k : Option Kind) (a : Attr O) (v : Sense) → IsLoaded a → SymbolIs of q d first f fs t s m0 m x k a v → SymFits of d.classes x a
  symbol_fits x k a v loaded (token l fit named) = (refl, fit, in_frame l.tok l.att fit named.0)
  symbol_fits x k a v loaded (class c a' v' is) = class_fits (kind_at d.classes c) a v loaded is

  class_spells : (k : Option Kind) (a : Attr O) (v : Sense) → ClassIs of q d first f fs t s m0 m k a v → TokenIsSpelled q a
  class_spells k a v (register r n lt is) = tt
  class_spells k a v (in_slot w n le lt is) = tt
  class_spells k a v (value z o n fits is) = tt
  class_spells k a v (place z o g fits is) = tt
  class_spells k a v (number n lt) = tt
  class_spells k a v (address o n fits is) = tt

  pub symbol_spells : (x : Sym) (k : Option Kind) (a : Attr O) (v : Sense) → SymbolIs of q d first f fs t s m0 m x k a v → TokenIsSpelled q a
  symbol_spells x k a v (token l fit named) = named.1
  symbol_spells x k a v (class c a' v' is) = class_spells (kind_at d.classes c) a v is

  argument_whole : (k : ℕ) → 1 ≤ k → k ≤ length t.running.arguments → IsSome (of.reads (of.argument k) Long m)
  argument_whole zero one le = absurd (omega (arith, one))
  argument_whole (suc k) one le =
      (let on : k + 1 ≡ suc k = omega arith in subst (λ j. IsSome (of.reads (of.argument j) Long m)) on (law.reads.argument_there q f fs t k m sees.agrees (omega (arith, le))))

  argument_homes : (k : ℕ) → 1 ≤ k → k ≤ length t.running.arguments → IsSome (of.names (of.argument k) Long m)
  argument_homes zero one le = absurd (omega (arith, one))
  argument_homes (suc k) one le =
      (let on : k + 1 ≡ suc k = omega arith in subst (λ j. IsSome (of.names (of.argument j) Long m)) on (law.reads.argument_named q f fs t k m sees.agrees (omega (arith, le))))

  local_whole : (k : ℕ) → k < f.locals → IsSome (of.reads (of.local k) Long m)
  local_whole k lt = (let w = frame.within in let g = frame.few in law.reads.local_there q f fs t k m sees.agrees (omega (arith, lt)) (omega (arith, lt)))

  local_homes : (k : ℕ) → k < f.locals → IsSome (of.names (of.local k) Long m)
  local_homes k lt = (let w = frame.within in let g = frame.few in law.reads.local_named q f fs t k m sees.agrees (omega (arith, lt)) (omega (arith, lt)))

  -- each symbol but a place has a value
  token_whole : (x : Tok) (a : Att) → is_of_kind (attribute_of x) a ≡ true → NamedBy of q d first f fs t s m0 x a → TokenIsWhole x a (token_worth of q x a m)
  token_whole tok.Zero (att.Number k) fit named = refl
  token_whole tok.One (att.Number k) fit named = refl
  token_whole tok.Two (att.Number k) fit named = refl
  token_whole tok.Four (att.Number k) fit named = refl
  token_whole tok.Eight (att.Number k) fit named = refl
  token_whole tok.Const (att.Number k) fit named = refl
  token_whole tok.Gaddr (att.Object object offset) fit named = named
  token_whole tok.Loc (att.Slot k) fit named = local_whole k named
  token_whole tok.Arg (att.Slot k) fit named = argument_whole k named.0 named.1
  token_whole tok.IndirB att.Nothing fit named = tt
  token_whole tok.IndirW att.Nothing fit named = tt
  token_whole tok.IndirL att.Nothing fit named = tt
  token_whole tok.Plus att.Nothing fit named = tt
  token_whole tok.Minus att.Nothing fit named = tt
  token_whole tok.Mul att.Nothing fit named = tt
  token_whole tok.Div att.Nothing fit named = tt
  token_whole tok.Mod att.Nothing fit named = tt
  token_whole tok.And att.Nothing fit named = tt
  token_whole tok.Or att.Nothing fit named = tt
  token_whole tok.Xor att.Nothing fit named = tt
  token_whole tok.Lsh att.Nothing fit named = tt
  token_whole tok.Rsh att.Nothing fit named = tt
  token_whole tok.Neg att.Nothing fit named = tt
  token_whole tok.Com att.Nothing fit named = tt
  token_whole tok.Sxb att.Nothing fit named = tt
  token_whole tok.Zxb att.Nothing fit named = tt
  token_whole tok.Sxw att.Nothing fit named = tt
  token_whole tok.Zxw att.Nothing fit named = tt
  token_whole tok.Ncb att.Nothing fit named = tt
  token_whole tok.Ncw att.Nothing fit named = tt
  token_whole tok.AssignB att.Nothing fit named = tt
  token_whole tok.AssignW att.Nothing fit named = tt
  token_whole tok.AssignL att.Nothing fit named = tt
  token_whole tok.Cbr (att.Branch rel label) fit named = tt
  token_whole tok.Push att.Nothing fit named = tt
  token_whole tok.Ret att.Nothing fit named = tt
  token_whole tok.Call (att.Callee function count) fit named = tt
  token_whole tok.Save (att.Slot k) fit named = tt
  token_whole tok.Jump (att.Label label) fit named = tt
  token_whole tok.End att.Nothing fit named = tt
  token_whole _ _ fit named = absurd (cc)

  class_whole : (k : Option Kind) (a : Attr O) (v : Sense) → ClassIs of q d first f fs t s m0 m k a v → IsWhole a (worth of q (size_of_kind k) a m)
  class_whole k a v (register r x lt is) = is_some (of.reads (of.register r) Long m) x is
  class_whole k a v (in_slot w x le lt is) = is_some (of.reads (of.slot w) Long m) x is
  class_whole k a v (value z o x fits is) = is_some (of.reads o z m) x is
  class_whole k a v (place z o g fits is) = tt
  class_whole k a v (number x lt) = refl
  class_whole k a v (address o x fits is) = is_some (of.names o Long m) x is

  pub symbol_whole : (x : Sym) (k : Option Kind) (a : Attr O) (v : Sense) → SymbolIs of q d first f fs t s m0 m x k a v → IsWhole a (worth of q (size_of_symbol d.classes x) a m)
  symbol_whole x k a v (token l fit named) = token_whole l.tok l.att fit named.0
  symbol_whole x k a v (class c a' v' is) = class_whole (kind_at d.classes c) a v is

  -- a place can be found
  place_homes : (z : Size) (o : O) (g : Place) → PlaceIs of f t m z o g → IsSome (of.names o z m)
  place_homes z o g (local k long is lt low) = subst (λ y. IsSome (of.names o y m)) (sym long) (subst (λ p. IsSome (of.names p Long m)) (sym is) (local_homes k lt))
  place_homes z o g (argument k long is lt numbered) =
      subst (λ y. IsSome (of.names o y m)) (sym long)
      (subst (λ p. IsSome (of.names p Long m)) (sym is) (argument_homes (k + 1) (let one : 1 ≤ k + 1 = omega arith in one) (let le : k + 1 ≤ length t.running.arguments = omega (arith, lt) in le)))
  place_homes z o g (memory a names) = is_some (of.names o z m) a names

  class_homes : (k : Option Kind) (a : Attr O) (v : Sense) (p : O) → ClassIs of q d first f fs t s m0 m k a v → own_operand of a ≡ Some p → IsSome (of.names p (size_of_kind k) m)
  class_homes k a v p (place z o g fits is) e = subst (λ y. IsSome (of.names y z m)) (same_Some o p e) (place_homes z o g is)
  class_homes k a v p _ e = absurd (cc)

  token_homes : (x : Tok) (a : Att) (p : O) → is_of_kind (attribute_of x) a ≡ true → NamedBy of q d first f fs t s m0 x a → own_operand of (attr.Token (record { tok = x; att = a })) ≡ Some p
      → IsSome (of.names p Long m)
  token_homes tok.Zero att.Nothing p fit named e = absurd (cc)
  token_homes tok.Zero (att.Number k) p fit named e = absurd (cc)
  token_homes tok.Zero (att.Object object offset) p fit named e = absurd (cc)
  token_homes tok.Zero (att.Slot k) p fit named e = absurd (cc)
  token_homes tok.Zero (att.Branch rel label) p fit named e = absurd (cc)
  token_homes tok.Zero (att.Label label) p fit named e = absurd (cc)
  token_homes tok.Zero (att.Callee function count) p fit named e = absurd (cc)
  token_homes tok.One att.Nothing p fit named e = absurd (cc)
  token_homes tok.One (att.Number k) p fit named e = absurd (cc)
  token_homes tok.One (att.Object object offset) p fit named e = absurd (cc)
  token_homes tok.One (att.Slot k) p fit named e = absurd (cc)
  token_homes tok.One (att.Branch rel label) p fit named e = absurd (cc)
  token_homes tok.One (att.Label label) p fit named e = absurd (cc)
  token_homes tok.One (att.Callee function count) p fit named e = absurd (cc)
  token_homes tok.Two att.Nothing p fit named e = absurd (cc)
  token_homes tok.Two (att.Number k) p fit named e = absurd (cc)
  token_homes tok.Two (att.Object object offset) p fit named e = absurd (cc)
  token_homes tok.Two (att.Slot k) p fit named e = absurd (cc)
  token_homes tok.Two (att.Branch rel label) p fit named e = absurd (cc)
  token_homes tok.Two (att.Label label) p fit named e = absurd (cc)
  token_homes tok.Two (att.Callee function count) p fit named e = absurd (cc)
  token_homes tok.Four att.Nothing p fit named e = absurd (cc)
  token_homes tok.Four (att.Number k) p fit named e = absurd (cc)
  token_homes tok.Four (att.Object object offset) p fit named e = absurd (cc)
  token_homes tok.Four (att.Slot k) p fit named e = absurd (cc)
  token_homes tok.Four (att.Branch rel label) p fit named e = absurd (cc)
  token_homes tok.Four (att.Label label) p fit named e = absurd (cc)
  token_homes tok.Four (att.Callee function count) p fit named e = absurd (cc)
  token_homes tok.Eight att.Nothing p fit named e = absurd (cc)
  token_homes tok.Eight (att.Number k) p fit named e = absurd (cc)
  token_homes tok.Eight (att.Object object offset) p fit named e = absurd (cc)
  token_homes tok.Eight (att.Slot k) p fit named e = absurd (cc)
  token_homes tok.Eight (att.Branch rel label) p fit named e = absurd (cc)
  token_homes tok.Eight (att.Label label) p fit named e = absurd (cc)
  token_homes tok.Eight (att.Callee function count) p fit named e = absurd (cc)
  token_homes tok.Const att.Nothing p fit named e = absurd (cc)
  token_homes tok.Const (att.Number k) p fit named e = absurd (cc)
  token_homes tok.Const (att.Object object offset) p fit named e = absurd (cc)
  token_homes tok.Const (att.Slot k) p fit named e = absurd (cc)
  token_homes tok.Const (att.Branch rel label) p fit named e = absurd (cc)
  token_homes tok.Const (att.Label label) p fit named e = absurd (cc)
  token_homes tok.Const (att.Callee function count) p fit named e = absurd (cc)
  token_homes tok.Gaddr att.Nothing p fit named e = absurd (cc)
  token_homes tok.Gaddr (att.Number k) p fit named e = absurd (cc)
  token_homes tok.Gaddr (att.Object object offset) p fit named e = absurd (cc)
  token_homes tok.Gaddr (att.Slot k) p fit named e = absurd (cc)
  token_homes tok.Gaddr (att.Branch rel label) p fit named e = absurd (cc)
  token_homes tok.Gaddr (att.Label label) p fit named e = absurd (cc)
  token_homes tok.Gaddr (att.Callee function count) p fit named e = absurd (cc)
  token_homes tok.Loc att.Nothing p fit named e = absurd (cc)
  token_homes tok.Loc (att.Number k) p fit named e = absurd (cc)
  token_homes tok.Loc (att.Object object offset) p fit named e = absurd (cc)
  token_homes tok.Loc (att.Slot k) p fit named e = subst (λ y. IsSome (of.names y Long m)) (same_Some (of.local k) p e) (local_homes k named)
  token_homes tok.Loc (att.Branch rel label) p fit named e = absurd (cc)
  token_homes tok.Loc (att.Label label) p fit named e = absurd (cc)
  token_homes tok.Loc (att.Callee function count) p fit named e = absurd (cc)
  token_homes tok.Arg att.Nothing p fit named e = absurd (cc)
  token_homes tok.Arg (att.Number k) p fit named e = absurd (cc)
  token_homes tok.Arg (att.Object object offset) p fit named e = absurd (cc)
  token_homes tok.Arg (att.Slot k) p fit named e = subst (λ y. IsSome (of.names y Long m)) (same_Some (of.argument k) p e) (argument_homes k named.0 named.1)
  token_homes tok.Arg (att.Branch rel label) p fit named e = absurd (cc)
  token_homes tok.Arg (att.Label label) p fit named e = absurd (cc)
  token_homes tok.Arg (att.Callee function count) p fit named e = absurd (cc)
  token_homes tok.IndirB att.Nothing p fit named e = absurd (cc)
  token_homes tok.IndirB (att.Number k) p fit named e = absurd (cc)
  token_homes tok.IndirB (att.Object object offset) p fit named e = absurd (cc)
  token_homes tok.IndirB (att.Slot k) p fit named e = absurd (cc)
  token_homes tok.IndirB (att.Branch rel label) p fit named e = absurd (cc)
  token_homes tok.IndirB (att.Label label) p fit named e = absurd (cc)
  token_homes tok.IndirB (att.Callee function count) p fit named e = absurd (cc)
  token_homes tok.IndirW att.Nothing p fit named e = absurd (cc)
  token_homes tok.IndirW (att.Number k) p fit named e = absurd (cc)
  token_homes tok.IndirW (att.Object object offset) p fit named e = absurd (cc)
  token_homes tok.IndirW (att.Slot k) p fit named e = absurd (cc)
  token_homes tok.IndirW (att.Branch rel label) p fit named e = absurd (cc)
  token_homes tok.IndirW (att.Label label) p fit named e = absurd (cc)
  token_homes tok.IndirW (att.Callee function count) p fit named e = absurd (cc)
  token_homes tok.IndirL att.Nothing p fit named e = absurd (cc)
  token_homes tok.IndirL (att.Number k) p fit named e = absurd (cc)
  token_homes tok.IndirL (att.Object object offset) p fit named e = absurd (cc)
  token_homes tok.IndirL (att.Slot k) p fit named e = absurd (cc)
  token_homes tok.IndirL (att.Branch rel label) p fit named e = absurd (cc)
  token_homes tok.IndirL (att.Label label) p fit named e = absurd (cc)
  token_homes tok.IndirL (att.Callee function count) p fit named e = absurd (cc)
  token_homes tok.Plus att.Nothing p fit named e = absurd (cc)
  token_homes tok.Plus (att.Number k) p fit named e = absurd (cc)
  token_homes tok.Plus (att.Object object offset) p fit named e = absurd (cc)
  token_homes tok.Plus (att.Slot k) p fit named e = absurd (cc)
  token_homes tok.Plus (att.Branch rel label) p fit named e = absurd (cc)
  token_homes tok.Plus (att.Label label) p fit named e = absurd (cc)
  token_homes tok.Plus (att.Callee function count) p fit named e = absurd (cc)
  token_homes tok.Minus att.Nothing p fit named e = absurd (cc)
  token_homes tok.Minus (att.Number k) p fit named e = absurd (cc)
  token_homes tok.Minus (att.Object object offset) p fit named e = absurd (cc)
  token_homes tok.Minus (att.Slot k) p fit named e = absurd (cc)
  token_homes tok.Minus (att.Branch rel label) p fit named e = absurd (cc)
  token_homes tok.Minus (att.Label label) p fit named e = absurd (cc)
  token_homes tok.Minus (att.Callee function count) p fit named e = absurd (cc)
  token_homes tok.Mul att.Nothing p fit named e = absurd (cc)
  token_homes tok.Mul (att.Number k) p fit named e = absurd (cc)
  token_homes tok.Mul (att.Object object offset) p fit named e = absurd (cc)
  token_homes tok.Mul (att.Slot k) p fit named e = absurd (cc)
  token_homes tok.Mul (att.Branch rel label) p fit named e = absurd (cc)
  token_homes tok.Mul (att.Label label) p fit named e = absurd (cc)
  token_homes tok.Mul (att.Callee function count) p fit named e = absurd (cc)
  token_homes tok.Div att.Nothing p fit named e = absurd (cc)
  token_homes tok.Div (att.Number k) p fit named e = absurd (cc)
  token_homes tok.Div (att.Object object offset) p fit named e = absurd (cc)
  token_homes tok.Div (att.Slot k) p fit named e = absurd (cc)
  token_homes tok.Div (att.Branch rel label) p fit named e = absurd (cc)
  token_homes tok.Div (att.Label label) p fit named e = absurd (cc)
  token_homes tok.Div (att.Callee function count) p fit named e = absurd (cc)
  token_homes tok.Mod att.Nothing p fit named e = absurd (cc)
  token_homes tok.Mod (att.Number k) p fit named e = absurd (cc)
  token_homes tok.Mod (att.Object object offset) p fit named e = absurd (cc)
  token_homes tok.Mod (att.Slot k) p fit named e = absurd (cc)
  token_homes tok.Mod (att.Branch rel label) p fit named e = absurd (cc)
  token_homes tok.Mod (att.Label label) p fit named e = absurd (cc)
  token_homes tok.Mod (att.Callee function count) p fit named e = absurd (cc)
  token_homes tok.And att.Nothing p fit named e = absurd (cc)
  token_homes tok.And (att.Number k) p fit named e = absurd (cc)
  token_homes tok.And (att.Object object offset) p fit named e = absurd (cc)
  token_homes tok.And (att.Slot k) p fit named e = absurd (cc)
  token_homes tok.And (att.Branch rel label) p fit named e = absurd (cc)
  token_homes tok.And (att.Label label) p fit named e = absurd (cc)
  token_homes tok.And (att.Callee function count) p fit named e = absurd (cc)
  token_homes tok.Or att.Nothing p fit named e = absurd (cc)
  token_homes tok.Or (att.Number k) p fit named e = absurd (cc)
  token_homes tok.Or (att.Object object offset) p fit named e = absurd (cc)
  token_homes tok.Or (att.Slot k) p fit named e = absurd (cc)
  token_homes tok.Or (att.Branch rel label) p fit named e = absurd (cc)
  token_homes tok.Or (att.Label label) p fit named e = absurd (cc)
  token_homes tok.Or (att.Callee function count) p fit named e = absurd (cc)
  token_homes tok.Xor att.Nothing p fit named e = absurd (cc)
  token_homes tok.Xor (att.Number k) p fit named e = absurd (cc)
  token_homes tok.Xor (att.Object object offset) p fit named e = absurd (cc)
  token_homes tok.Xor (att.Slot k) p fit named e = absurd (cc)
  token_homes tok.Xor (att.Branch rel label) p fit named e = absurd (cc)
  token_homes tok.Xor (att.Label label) p fit named e = absurd (cc)
  token_homes tok.Xor (att.Callee function count) p fit named e = absurd (cc)
  token_homes tok.Lsh att.Nothing p fit named e = absurd (cc)
  token_homes tok.Lsh (att.Number k) p fit named e = absurd (cc)
  token_homes tok.Lsh (att.Object object offset) p fit named e = absurd (cc)
  token_homes tok.Lsh (att.Slot k) p fit named e = absurd (cc)
  token_homes tok.Lsh (att.Branch rel label) p fit named e = absurd (cc)
  token_homes tok.Lsh (att.Label label) p fit named e = absurd (cc)
  token_homes tok.Lsh (att.Callee function count) p fit named e = absurd (cc)
  token_homes tok.Rsh att.Nothing p fit named e = absurd (cc)
  token_homes tok.Rsh (att.Number k) p fit named e = absurd (cc)
  token_homes tok.Rsh (att.Object object offset) p fit named e = absurd (cc)
  token_homes tok.Rsh (att.Slot k) p fit named e = absurd (cc)
  token_homes tok.Rsh (att.Branch rel label) p fit named e = absurd (cc)
  token_homes tok.Rsh (att.Label label) p fit named e = absurd (cc)
  token_homes tok.Rsh (att.Callee function count) p fit named e = absurd (cc)
  token_homes tok.Neg att.Nothing p fit named e = absurd (cc)
  token_homes tok.Neg (att.Number k) p fit named e = absurd (cc)
  token_homes tok.Neg (att.Object object offset) p fit named e = absurd (cc)
  token_homes tok.Neg (att.Slot k) p fit named e = absurd (cc)
  token_homes tok.Neg (att.Branch rel label) p fit named e = absurd (cc)
  token_homes tok.Neg (att.Label label) p fit named e = absurd (cc)
  token_homes tok.Neg (att.Callee function count) p fit named e = absurd (cc)
  token_homes tok.Com att.Nothing p fit named e = absurd (cc)
  token_homes tok.Com (att.Number k) p fit named e = absurd (cc)
  token_homes tok.Com (att.Object object offset) p fit named e = absurd (cc)
  token_homes tok.Com (att.Slot k) p fit named e = absurd (cc)
  token_homes tok.Com (att.Branch rel label) p fit named e = absurd (cc)
  token_homes tok.Com (att.Label label) p fit named e = absurd (cc)
  token_homes tok.Com (att.Callee function count) p fit named e = absurd (cc)
  token_homes tok.Sxb att.Nothing p fit named e = absurd (cc)
  token_homes tok.Sxb (att.Number k) p fit named e = absurd (cc)
  token_homes tok.Sxb (att.Object object offset) p fit named e = absurd (cc)
  token_homes tok.Sxb (att.Slot k) p fit named e = absurd (cc)
  token_homes tok.Sxb (att.Branch rel label) p fit named e = absurd (cc)
  token_homes tok.Sxb (att.Label label) p fit named e = absurd (cc)
  token_homes tok.Sxb (att.Callee function count) p fit named e = absurd (cc)
  token_homes tok.Zxb att.Nothing p fit named e = absurd (cc)
  token_homes tok.Zxb (att.Number k) p fit named e = absurd (cc)
  token_homes tok.Zxb (att.Object object offset) p fit named e = absurd (cc)
  token_homes tok.Zxb (att.Slot k) p fit named e = absurd (cc)
  token_homes tok.Zxb (att.Branch rel label) p fit named e = absurd (cc)
  token_homes tok.Zxb (att.Label label) p fit named e = absurd (cc)
  token_homes tok.Zxb (att.Callee function count) p fit named e = absurd (cc)
  token_homes tok.Sxw att.Nothing p fit named e = absurd (cc)
  token_homes tok.Sxw (att.Number k) p fit named e = absurd (cc)
  token_homes tok.Sxw (att.Object object offset) p fit named e = absurd (cc)
  token_homes tok.Sxw (att.Slot k) p fit named e = absurd (cc)
  token_homes tok.Sxw (att.Branch rel label) p fit named e = absurd (cc)
  token_homes tok.Sxw (att.Label label) p fit named e = absurd (cc)
  token_homes tok.Sxw (att.Callee function count) p fit named e = absurd (cc)
  token_homes tok.Zxw att.Nothing p fit named e = absurd (cc)
  token_homes tok.Zxw (att.Number k) p fit named e = absurd (cc)
  token_homes tok.Zxw (att.Object object offset) p fit named e = absurd (cc)
  token_homes tok.Zxw (att.Slot k) p fit named e = absurd (cc)
  token_homes tok.Zxw (att.Branch rel label) p fit named e = absurd (cc)
  token_homes tok.Zxw (att.Label label) p fit named e = absurd (cc)
  token_homes tok.Zxw (att.Callee function count) p fit named e = absurd (cc)
  token_homes tok.Ncb att.Nothing p fit named e = absurd (cc)
  token_homes tok.Ncb (att.Number k) p fit named e = absurd (cc)
  token_homes tok.Ncb (att.Object object offset) p fit named e = absurd (cc)
  token_homes tok.Ncb (att.Slot k) p fit named e = absurd (cc)
  token_homes tok.Ncb (att.Branch rel label) p fit named e = absurd (cc)
  token_homes tok.Ncb (att.Label label) p fit named e = absurd (cc)
  token_homes tok.Ncb (att.Callee function count) p fit named e = absurd (cc)
  token_homes tok.Ncw att.Nothing p fit named e = absurd (cc)
  token_homes tok.Ncw (att.Number k) p fit named e = absurd (cc)
  token_homes tok.Ncw (att.Object object offset) p fit named e = absurd (cc)
  token_homes tok.Ncw (att.Slot k) p fit named e = absurd (cc)
  token_homes tok.Ncw (att.Branch rel label) p fit named e = absurd (cc)
  token_homes tok.Ncw (att.Label label) p fit named e = absurd (cc)
  token_homes tok.Ncw (att.Callee function count) p fit named e = absurd (cc)
  token_homes tok.AssignB att.Nothing p fit named e = absurd (cc)
  token_homes tok.AssignB (att.Number k) p fit named e = absurd (cc)
  token_homes tok.AssignB (att.Object object offset) p fit named e = absurd (cc)
  token_homes tok.AssignB (att.Slot k) p fit named e = absurd (cc)
  token_homes tok.AssignB (att.Branch rel label) p fit named e = absurd (cc)
  token_homes tok.AssignB (att.Label label) p fit named e = absurd (cc)
  token_homes tok.AssignB (att.Callee function count) p fit named e = absurd (cc)
  token_homes tok.AssignW att.Nothing p fit named e = absurd (cc)
  token_homes tok.AssignW (att.Number k) p fit named e = absurd (cc)
  token_homes tok.AssignW (att.Object object offset) p fit named e = absurd (cc)
  token_homes tok.AssignW (att.Slot k) p fit named e = absurd (cc)
  token_homes tok.AssignW (att.Branch rel label) p fit named e = absurd (cc)
  token_homes tok.AssignW (att.Label label) p fit named e = absurd (cc)
  token_homes tok.AssignW (att.Callee function count) p fit named e = absurd (cc)
  token_homes tok.AssignL att.Nothing p fit named e = absurd (cc)
  token_homes tok.AssignL (att.Number k) p fit named e = absurd (cc)
  token_homes tok.AssignL (att.Object object offset) p fit named e = absurd (cc)
  token_homes tok.AssignL (att.Slot k) p fit named e = absurd (cc)
  token_homes tok.AssignL (att.Branch rel label) p fit named e = absurd (cc)
  token_homes tok.AssignL (att.Label label) p fit named e = absurd (cc)
  token_homes tok.AssignL (att.Callee function count) p fit named e = absurd (cc)
  token_homes tok.Cbr att.Nothing p fit named e = absurd (cc)
  token_homes tok.Cbr (att.Number k) p fit named e = absurd (cc)
  token_homes tok.Cbr (att.Object object offset) p fit named e = absurd (cc)
  token_homes tok.Cbr (att.Slot k) p fit named e = absurd (cc)
  token_homes tok.Cbr (att.Branch rel label) p fit named e = absurd (cc)
  token_homes tok.Cbr (att.Label label) p fit named e = absurd (cc)
  token_homes tok.Cbr (att.Callee function count) p fit named e = absurd (cc)
  token_homes tok.Push att.Nothing p fit named e = absurd (cc)
  token_homes tok.Push (att.Number k) p fit named e = absurd (cc)
  token_homes tok.Push (att.Object object offset) p fit named e = absurd (cc)
  token_homes tok.Push (att.Slot k) p fit named e = absurd (cc)
  token_homes tok.Push (att.Branch rel label) p fit named e = absurd (cc)
  token_homes tok.Push (att.Label label) p fit named e = absurd (cc)
  token_homes tok.Push (att.Callee function count) p fit named e = absurd (cc)
  token_homes tok.Ret att.Nothing p fit named e = absurd (cc)
  token_homes tok.Ret (att.Number k) p fit named e = absurd (cc)
  token_homes tok.Ret (att.Object object offset) p fit named e = absurd (cc)
  token_homes tok.Ret (att.Slot k) p fit named e = absurd (cc)
  token_homes tok.Ret (att.Branch rel label) p fit named e = absurd (cc)
  token_homes tok.Ret (att.Label label) p fit named e = absurd (cc)
  token_homes tok.Ret (att.Callee function count) p fit named e = absurd (cc)
  token_homes tok.Call att.Nothing p fit named e = absurd (cc)
  token_homes tok.Call (att.Number k) p fit named e = absurd (cc)
  token_homes tok.Call (att.Object object offset) p fit named e = absurd (cc)
  token_homes tok.Call (att.Slot k) p fit named e = absurd (cc)
  token_homes tok.Call (att.Branch rel label) p fit named e = absurd (cc)
  token_homes tok.Call (att.Label label) p fit named e = absurd (cc)
  token_homes tok.Call (att.Callee function count) p fit named e = absurd (cc)
  token_homes tok.Save att.Nothing p fit named e = absurd (cc)
  token_homes tok.Save (att.Number k) p fit named e = absurd (cc)
  token_homes tok.Save (att.Object object offset) p fit named e = absurd (cc)
  token_homes tok.Save (att.Slot k) p fit named e = absurd (cc)
  token_homes tok.Save (att.Branch rel label) p fit named e = absurd (cc)
  token_homes tok.Save (att.Label label) p fit named e = absurd (cc)
  token_homes tok.Save (att.Callee function count) p fit named e = absurd (cc)
  token_homes tok.Jump att.Nothing p fit named e = absurd (cc)
  token_homes tok.Jump (att.Number k) p fit named e = absurd (cc)
  token_homes tok.Jump (att.Object object offset) p fit named e = absurd (cc)
  token_homes tok.Jump (att.Slot k) p fit named e = absurd (cc)
  token_homes tok.Jump (att.Branch rel label) p fit named e = absurd (cc)
  token_homes tok.Jump (att.Label label) p fit named e = absurd (cc)
  token_homes tok.Jump (att.Callee function count) p fit named e = absurd (cc)
  token_homes tok.End att.Nothing p fit named e = absurd (cc)
  token_homes tok.End (att.Number k) p fit named e = absurd (cc)
  token_homes tok.End (att.Object object offset) p fit named e = absurd (cc)
  token_homes tok.End (att.Slot k) p fit named e = absurd (cc)
  token_homes tok.End (att.Branch rel label) p fit named e = absurd (cc)
  token_homes tok.End (att.Label label) p fit named e = absurd (cc)
  token_homes tok.End (att.Callee function count) p fit named e = absurd (cc)

  pub symbol_homes : (x : Sym) (k : Option Kind) (a : Attr O) (v : Sense) (p : O) → SymbolIs of q d first f fs t s m0 m x k a v → own_operand of a ≡ Some p
      → IsSome (of.names p (size_of_symbol d.classes x) m)
  symbol_homes x k a v p (token l fit named) e = token_homes l.tok l.att p fit named.0 e
  symbol_homes x k a v p (class c a' v' is) e = class_homes (kind_at d.classes c) a v p is e

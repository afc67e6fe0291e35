-- A symbol with a number is read as that number, in an instance of a rule.
use Rattle.std.proofs.Common.{◌≡◌, ℕ, zero, suc, ◌*◌, ◌%◌, ◌^◌, ◌<◌, ◌==◌, List, [], ◌∷◌, Option, Some, None, Bool, true, refl, sym, ap, ◌∙◌, subst, arith, slice_get}
use Rattle.std.specs.Prelude.{IsSome, is_some, unwrap_or}
use Rattle.std.proofs.lemmas.Bool.{and_parts, false≢true}
use Rattle.std.proofs.lemmas.Option.{none-some, same_Some}
use Rattle.gg_base.specs.declared.size.Size.{Size}
use Rattle.gg_base.specs.declared.size.Size.TheVariants.{Byte, Word as Halfword, Long}
use Rattle.gg_base.specs.Sizes.{bytes_of}
use Rattle.gg_base.proofs.Words.{low_long}
use Rattle.gg_base.proofs.Facts.{the_number}
use Rattle.tree_core.specs.declared.token.Tok.{Tok}
use Rattle.tree_core.specs.declared.tree.Att.{Att}
use Rattle.tree_core.specs.declared.tree.Att.TheVariants as att
use Rattle.tree_core.specs.declared.tree.Leaf.{Leaf}
use Rattle.tree_core.specs.declared.program.TreeProgram.{TreeProgram}
use Rattle.sel_target.specs.tree_meaning.specs.State.{Extent}
use Rattle.md_reader.specs.declared.types.Class.{Class}
use Rattle.md_reader.specs.declared.types.Sym.{Sym}
use Rattle.md_reader.specs.declared.types.Sym.TheVariants as grammar_symbol
use Rattle.md_reader.specs.declared.types.Rule.{Rule}
use Rattle.md_reader.specs.Patterns.{kind_at}
use Rattle.term_core.specs.Shape.{Symbol}
use Rattle.sel_target.specs.sel_terms.specs.Effects.{EffectShape}
use Rattle.sel_target.specs.sel_terms.specs.RuleFacts.{size_of_symbol, size_of_some, size_at}
use Rattle.sel_target.specs.sel_terms.proofs.Facts.{size_behind}
use Rattle.sel_target.specs.declared.attr.Attr.{Attr}
use Rattle.sel_target.specs.declared.attr.Attr.TheVariants as attr
use Rattle.sel_target.specs.Values.{View, value, worth, address_of, slot_place, read_of}
use Rattle.sel_target.specs.Instances.{SymFits, Fit, Instance}
use Rattle.sel_target.proofs.Facts.{no_token}
use Rattle.sel_toy_machine.specs.declared.operand.Operand.{Operand}
use Rattle.sel_toy_machine.specs.declared.operand.Operand.TheVariants as operand
use Rattle.sel_toy_machine.specs.Machine.{Machine, part}
use Rattle.sel_toy_machine.specs.Forms.{is_sized}
use Rattle.sel_toy_machine.specs.Filling.{nought, token_operand, source_of, some_source, source_at}
use Rattle.sel_toy_machine.specs.Running.{taken}
use Rattle.sel_toy_machine.proofs.Readings.{part_same}
use Rattle.sel_toy_machine.specs.Toy.{toy}

pub same_size : (a b : Size) → (bytes_of a == bytes_of b) ≡ true → a ≡ b
same_size Byte Byte e = refl
same_size Halfword Halfword e = refl
same_size Long Long e = refl
same_size _ _ e = absurd (false≢true e)

-- the_number view's number of a symbol is its value as a term
pub symbol_value : (v : View) (i x : ℕ) (size : Size) → v.symbol i ≡ Some x → x < 2 ^ (8 * bytes_of size) → value v (Symbol i) ≡ x
symbol_value v i x size e lt = ap (λ o. unwrap_or o 0 % 2 ^ 32) e ∙ low_long size x lt

-- a symbol with what stands for it
pub record Filled (classes : List Class) (right : List Sym) (hs : List (Attr Operand)) (j : ℕ) : Type 0 where
  pub symbol : Sym
  pub attribute : Attr Operand
  pub there : slice_get right j ≡ Some symbol
  pub at : slice_get hs j ≡ Some attribute
  pub fits : SymFits toy classes symbol attribute

pub filled_at : (classes : List Class) (right : List Sym) (hs : List (Attr Operand)) (j : ℕ) → Fit toy classes right hs → is_some (slice_get right j) ≡ true → Filled classes right hs j
filled_at classes [] hs j fit e = absurd (false≢true e)
filled_at classes (s ∷ right) [] j fit e = absurd fit
filled_at classes (s ∷ right) (h ∷ hs) zero fit e = record { symbol = s; attribute = h; there = refl; at = refl; fits = fit.0 }
filled_at classes (s ∷ right) (h ∷ hs) (suc j) fit e =
    (let r = filled_at classes right hs j fit.1 e in record { symbol = r.symbol; attribute = r.attribute; there = r.there; at = r.at; fits = r.fits })

-- a token's symbol is a longword
token_size : (classes : List Class) (s : Sym) (l : Leaf) → SymFits toy classes s (attr.Token l) → size_of_symbol classes s ≡ Long
token_size classes (grammar_symbol.Tok x) l h = refl
token_size classes (grammar_symbol.Class c) l h = absurd (no_token toy (kind_at classes c) l h)

number_taken : (size : Size) (n x : ℕ) → n ≡ x → x < 2 ^ (8 * bytes_of size) → Some (part size n) ≡ Some x
number_taken size n x e lt = ap Some (ap (part size) e ∙ part_same size x lt)

slot_taken : (o : Option Operand) (x : ℕ) (m : Machine) → read_of toy o Long m ≡ Some x → toy.reads (unwrap_or o nought) Long m ≡ Some x
slot_taken None x m e = absurd (none-some x e)
slot_taken (Some o) x m e = e

token_taken : (q : TreeProgram) (y : Tok) (a : Att) (x : ℕ) (m : Machine) → Rattle.sel_target.specs.Values.token_worth toy q y a m ≡ Some x → x < 2 ^ 32 →
    toy.reads (token_operand q y a) Long m ≡ Some x
token_taken q y (att.Number n) x m e lt = number_taken Long n x (same_Some n x e) lt
token_taken q y (att.Object object offset) x m e lt = number_taken Long (unwrap_or (address_of (slice_get q.objects object) offset) 0) x (ap (λ o. unwrap_or o 0) e) lt
token_taken q y (att.Slot k) x m e lt = slot_taken (slot_place operand.Word operand.Argument y k) x m e
token_taken q y _ x m e lt = absurd (none-some x e)

-- an attribute's number is what an instruction takes of it
attr_taken : (q : TreeProgram) (h : Attr Operand) (size : Size) (x : ℕ) (m : Machine) → ((l : Leaf) → h ≡ attr.Token l → size ≡ Long) →
    worth toy q size h m ≡ Some x → x < 2 ^ (8 * bytes_of size) → taken (source_of q h) size m ≡ Some x
attr_taken q (attr.Reg r) size x m long e lt = e
attr_taken q (attr.InSlot w) size x m long e lt = e
attr_taken q (attr.Value o) size x m long e lt = e
attr_taken q (attr.Place o) size x m long e lt = e
attr_taken q (attr.Con n) size x m long e lt = number_taken size n x (same_Some n x e) lt
attr_taken q (attr.Ea o) size x m long e lt = e
attr_taken q (attr.Token l) size x m long e lt =
    let is = long l refl in
    subst (λ z. toy.reads (token_operand q l.tok l.att) z m ≡ Some x) (sym is) (token_taken q l.tok l.att x m e (subst (λ z. x < 2 ^ (8 * bytes_of z)) is lt))
attr_taken q attr.Nothing size x m long e lt = absurd (none-some x e)

module _ (every : Bool) (q : TreeProgram) (f : Extent) (fs : List Extent) (classes : List Class) (rule : Rule) (e : EffectShape) (hs : List (Attr Operand)) (v : View) (m : Machine)
    (inst : Instance toy every q f fs classes rule e hs v m) where
  -- the_number hole of a symbol with its number
  pub record Numbered (size : Size) (i : ℕ) : Type 0 where
    pub number : ℕ
    pub index : ℕ
    pub is_index : i ≡ suc index
    pub known : v.symbol i ≡ Some number
    pub below : number < 2 ^ (8 * bytes_of size)
    pub hole_of : Filled classes rule.right hs index
    pub sized : size_at classes rule.right i ≡ size

  pub numbered : (size : Size) (i : ℕ) → is_sized classes rule.right size i ≡ true → IsSome (v.symbol i) → Numbered size i
  numbered size zero sized some = absurd (false≢true sized)
  numbered size (suc j) sized some =
      let b = and_parts (is_some (slice_get rule.right j)) (bytes_of (size_at classes rule.right (suc j)) == bytes_of size) sized in
      let z = same_size (size_at classes rule.right (suc j)) size b.1 in
      let n = the_number (v.symbol (suc j)) some in
      record {
        number = n.0;
        index = j;
        is_index = refl;
        known = n.1;
        below = subst (λ y. n.0 < 2 ^ (8 * bytes_of y)) z (inst.small (suc j) n.0 n.1);
        hole_of = filled_at classes rule.right hs j inst.holes_fit b.0;
        sized = z;
      }

  -- a source is worth what its symbol is as a term
  pub source_taken : (size : Size) (i : ℕ) → is_sized classes rule.right size i ≡ true → IsSome (v.symbol i) → taken (source_at q hs i) size m ≡ Some (value v (Symbol i))
  source_taken size zero sized some = absurd (false≢true sized)
  source_taken size (suc j) sized some =
      let n = numbered size (suc j) sized some in
      let back : n.index ≡ j = (let e = n.is_index in omega (arith, e)) in
      let r = subst (Filled classes rule.right hs) back n.hole_of in
      let worth_is = subst (λ z. worth toy q z r.attribute m ≡ Some n.number) n.sized (inst.values (suc j) n.number r.attribute r.at n.known) in
      let long : (l : Leaf) → r.attribute ≡ attr.Token l → size ≡ Long = λ l is.
      sym n.sized ∙ size_behind classes rule.right j ∙ ap (size_of_some classes) r.there ∙ token_size classes r.symbol l (subst (SymFits toy classes r.symbol) is r.fits) in
      ap (λ o. taken (some_source q o) size m) r.at ∙ attr_taken q r.attribute size n.number m long worth_is n.below ∙ ap Some (sym (symbol_value v (suc j) n.number size n.known n.below))

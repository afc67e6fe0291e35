-- The toy machine saves and reloads.
use Rattle.std.proofs.Common.{◌≡◌, ℕ, ◌*◌, ◌^◌, ◌<◌, ◌==◌, [], ◌∷◌, Option, Some, true, refl, sym, ap, ◌∙◌, subst}
use Rattle.std.specs.Prelude.{◌&&◌}
use Rattle.std.proofs.lemmas.Bool.{and_parts, eqb-true}
use Rattle.std.proofs.lemmas.Option.{none-some}
use Rattle.gg_base.specs.declared.size.Size.{Size}
use Rattle.gg_base.specs.declared.size.Size.TheVariants.{Long}
use Rattle.gg_base.specs.Sizes.{bytes_of, low}
use Rattle.tree_core.specs.declared.program.TreeProgram.{TreeProgram}
use Rattle.md_reader_pieces.specs.declared.piece.Line.{Line}
use Rattle.md_reader.specs.declared.types.Kind.{Kind}
use Rattle.md_reader.specs.declared.types.Kind.TheVariants as kind
use Rattle.term_core.specs.Shape.{Shape, Symbol}
use Rattle.sel_target.specs.sel_terms.specs.Effects.{ActShape, EffectShape, Value, StoreHome}
use Rattle.sel_target.specs.sel_terms.proofs.Facts.{same_Value}
use Rattle.sel_target.specs.sel_terms_meaning.specs.Alike.{IsNarrowEffect}
use Rattle.sel_target.specs.declared.attr.Attr.{Attr}
use Rattle.sel_target.specs.declared.attr.Attr.TheVariants as attr
use Rattle.sel_target.specs.Meaning.{RegAt, WordAt}
use Rattle.sel_target.specs.Values.{View, value, worth}
use Rattle.sel_target.specs.Outcomes.{Sets, SetsName}
use Rattle.sel_target.specs.SavingLaws.{Saves, Reloads, IsValue, operand as is_operand, register as is_register, saving, reloading, SavesAndReloads}
use Rattle.sel_target.proofs.Facts.{low_is}
use Rattle.sel_toy_machine.specs.declared.operand.Operand.{Operand}
use Rattle.sel_toy_machine.specs.declared.operand.Operand.TheVariants as operand
use Rattle.sel_toy_machine.specs.declared.operand.Source.TheVariants as source
use Rattle.sel_toy_machine.specs.declared.operand.Destination.TheVariants as destination
use Rattle.sel_toy_machine.specs.declared.form.Form.{Form}
use Rattle.sel_toy_machine.specs.declared.form.Form.TheVariants as form
use Rattle.sel_toy_machine.specs.Machine.{Machine, reads, names}
use Rattle.sel_toy_machine.specs.Forms.{form_of}
use Rattle.sel_toy_machine.specs.Templates.{undivided}
use Rattle.sel_toy_machine.specs.Spills.{found_spill}
use Rattle.sel_toy_machine.specs.Filling.{filled, source_of}
use Rattle.sel_toy_machine.specs.Running.{taken}
use Rattle.sel_toy_machine.proofs.Sources.{same_size, symbol_value}
use Rattle.sel_toy_machine.proofs.Kept.{sets_register, sets_word, sets_name}
use Rattle.sel_toy_machine.proofs.Taken.{or_ok, where_is}
use Rattle.sel_toy_machine.proofs.Results.{move_runs}
use Rattle.sel_toy_machine.specs.Toy.{toy}

-- what a line's form and its effect are
pub record Found (o : Option Form) (g : Form) (e : EffectShape) (a : ActShape) : Type 0 where
  pub form_is : o ≡ Some g
  pub effect_is : undivided a ≡ e

is_one : (i : ℕ) → (i == 1) ≡ true → i ≡ 1
is_one i e = eqb-true i 1 e

value_found : (size : Size) (o : Option Form) (e : EffectShape) → found_spill (kind.Value size) o ≡ Some e → Found o (form.Move size 1) e (StoreHome size 0 (Symbol 1))
value_found size (Some (form.Move z i)) e h =
    let w = where_is ((bytes_of z == bytes_of size) && (i == 1)) (undivided (StoreHome size 0 (Symbol 1))) e h in
    let b = and_parts (bytes_of z == bytes_of size) (i == 1) w.0 in
    record { form_is = ap (λ y. Some (form.Move y i)) (same_size z size b.0) ∙ ap (λ j. Some (form.Move size j)) (is_one i b.1); effect_is = w.1 }
value_found size _ e h = absurd (none-some e h)

place_found : (size : Size) (o : Option Form) (e : EffectShape) → found_spill (kind.Place size) o ≡ Some e → Found o (form.Address 1) e (StoreHome Long 0 (Symbol 1))
place_found size (Some (form.Address i)) e h =
    let w = where_is (i == 1) (undivided (StoreHome Long 0 (Symbol 1))) e h in
    record { form_is = ap (λ j. Some (form.Address j)) (is_one i w.0); effect_is = w.1 }
place_found size _ e h = absurd (none-some e h)

address_found : (o : Option Form) (e : EffectShape) → found_spill kind.Ea o ≡ Some e → Found o (form.Address 1) e (StoreHome Long 0 (Symbol 1))
address_found (Some (form.Address i)) e h =
    let w = where_is (i == 1) (undivided (StoreHome Long 0 (Symbol 1))) e h in
    record { form_is = ap (λ j. Some (form.Address j)) (is_one i w.0); effect_is = w.1 }
address_found _ e h = absurd (none-some e h)

reload_found : (o : Option Form) (e : EffectShape) → found_spill kind.Reg o ≡ Some e → Found o (form.Move Long 1) e (Value (Symbol 1))
reload_found (Some (form.Move Long i)) e h =
    let w = where_is (i == 1) (undivided (Value (Symbol 1))) e h in
    record { form_is = ap (λ j. Some (form.Move Long j)) (is_one i w.0); effect_is = w.1 }
reload_found _ e h = absurd (none-some e h)

stored_same : (y z : Size) (i j : ℕ) (a b : Shape) → StoreHome y i a ≡ StoreHome z j b → a ≡ b
stored_same y z i j a b e = cc

stored_term : (y z : Size) (e : EffectShape) (t : Shape) → undivided (StoreHome y 0 (Symbol 1)) ≡ e → e.act ≡ StoreHome z 0 t → Symbol 1 ≡ t
stored_term y z e t is act = stored_same y z 0 0 (Symbol 1) t (ap (λ (x : EffectShape). x.act) is ∙ act)

value_taken : (q : TreeProgram) (size : Size) (a : Attr Operand) (n : ℕ) (m : Machine) → IsValue toy size a → worth toy q size a m ≡ Some n → taken (source_of q a) size m ≡ Some n
value_taken q size a n m (is_operand o fits) e = e
value_taken q size a n m (is_register r long lt) e = e

value_spilled : (q : TreeProgram) (size : Size) (l : Line) (s : Saves toy (kind.Value size) l) (a : Attr Operand) (w n : ℕ) (v : View) (m : Machine) →
    IsValue toy size a → v.symbol 1 ≡ Some n → worth toy q size a m ≡ Some n → n < 2 ^ (8 * bytes_of size) →
    Sets toy (saving toy q l a w) (WordAt w) q size (attr.Value (operand.Word w)) (low size (value v s.term)) m
value_spilled q size l s a w n v m is known e lt =
    let r = value_found size (form_of l.pieces) s.effect (or_ok l.line (found_spill (kind.Value size) (form_of l.pieces)) s.effect s.taken) in
    let term = stored_term size size s.effect s.term r.effect_is s.act in
    let number : n ≡ low size (value v s.term) = sym (ap (low size) (ap (value v) (sym term) ∙ symbol_value v 1 n size known lt) ∙ low_is size n lt) in
    subst (λ x. Sets toy (saving toy q l a w) (WordAt w) q size (attr.Value (operand.Word w)) x m) number
    (subst (λ o. Sets toy (filled q o (a ∷ []) (attr.Place (operand.Word w)) ∷ []) (WordAt w) q size (attr.Value (operand.Word w)) n m) (sym r.form_is)
    (sets_word q _ size w n m lt (move_runs size (source_of q a) (destination.Word w) m n (value_taken q size a n m is e))))

-- an address is saved
name_spilled : (q : TreeProgram) (l : Line) (e : EffectShape) (t : Shape) (h : Attr Operand) (o : Operand) (w n : ℕ) (v : View) (m : Machine) →
    Found (form_of l.pieces) (form.Address 1) e (StoreHome Long 0 (Symbol 1)) → e.act ≡ StoreHome Long 0 t → Rattle.sel_toy_machine.specs.Filling.operand_of q h ≡ o →
    v.symbol 1 ≡ Some n → names o Long m ≡ Some n → n < 2 ^ 32 →
    SetsName toy (saving toy q l h w) (WordAt w) (operand.Deferred w) (value v t) m
name_spilled q l e t h o w n v m r act is known named lt =
    let term = stored_term Long Long e t r.effect_is act in
    let number : n ≡ value v t = sym (ap (value v) (sym term) ∙ symbol_value v 1 n Long known lt) in
    subst (λ x. SetsName toy (saving toy q l h w) (WordAt w) (operand.Deferred w) x m) number
    (subst (λ g. SetsName toy (filled q g (h ∷ []) (attr.Place (operand.Word w)) ∷ []) (WordAt w) (operand.Deferred w) n m) (sym r.form_is)
    (sets_name _ w n m lt (move_runs Long (source.Address (Rattle.sel_toy_machine.specs.Filling.operand_of q h)) (destination.Word w) m n (ap (λ p. names p Long m) is ∙ named))))

-- the address of a place is the same at every size
same_name : (o : Operand) (y z : Size) (m : Machine) → names o y m ≡ names o z m
same_name (operand.Register r) y z m = refl
same_name (operand.Based r) y z m = refl
same_name (operand.Word w) y z m = refl
same_name (operand.Deferred w) y z m = refl
same_name (operand.Argument k) y z m = refl
same_name (operand.Number n) y z m = refl

reloaded : (q : TreeProgram) (l : Line) (s : Reloads toy l) (w r n : ℕ) (v : View) (m : Machine) → r < 12 → v.symbol 1 ≡ Some n → reads (operand.Word w) Long m ≡ Some n → n < 2 ^ 32 →
    Sets toy (reloading toy q l w r) (RegAt r) q Long (attr.Reg r) (value v s.term) m
reloaded q l s w r n v m lt known e small =
    let g = reload_found (form_of l.pieces) s.effect (or_ok l.line (found_spill kind.Reg (form_of l.pieces)) s.effect s.taken) in
    let term = same_Value (Symbol 1) s.term (ap (λ (x : EffectShape). x.act) g.effect_is ∙ s.act) in
    let number : n ≡ value v s.term = sym (ap (value v) (sym term) ∙ symbol_value v 1 n Long known small) in
    subst (λ x. Sets toy (reloading toy q l w r) (RegAt r) q Long (attr.Reg r) x m) number
    (subst (λ o. Sets toy (filled q o (attr.Value (operand.Word w) ∷ []) (attr.Reg r) ∷ []) (RegAt r) q Long (attr.Reg r) n m) (sym g.form_is)
    (sets_register q _ r n m lt small (move_runs Long (source.Read (operand.Word w)) (destination.Register r) m n e)))

saved_narrow : (k : Kind) (o : Option Form) (e : EffectShape) → found_spill k o ≡ Some e → IsNarrowEffect e
saved_narrow (kind.Value size) o e h = subst IsNarrowEffect (value_found size o e h).effect_is (tt, tt)
saved_narrow (kind.Place size) o e h = subst IsNarrowEffect (place_found size o e h).effect_is (tt, tt)
saved_narrow kind.Ea o e h = subst IsNarrowEffect (address_found o e h).effect_is (tt, tt)
saved_narrow kind.Reg o e h = subst IsNarrowEffect (reload_found o e h).effect_is (tt, tt)
saved_narrow kind.Con o e h = absurd (none-some e h)
saved_narrow kind.Nothing o e h = absurd (none-some e h)

pub toy_saves : SavesAndReloads toy
toy_saves = record {
  value_spilled = λ q f fs size l s a w n v m is set slot e lt. value_spilled q size l s a w n v m is set.symbol e lt;
  place_spilled = λ q f fs size l s o w n v m fits set slot e lt.
      name_spilled q l s.effect s.term (attr.Place o) o w n v m (place_found size (form_of l.pieces) s.effect (or_ok l.line (found_spill (kind.Place size)
      (form_of l.pieces)) s.effect s.taken)) s.act refl
      set.symbol (same_name o Long size m ∙ e) lt;
  address_spilled = λ q f fs l s o w n v m fits set slot e lt.
      name_spilled q l s.effect s.term (attr.Ea o) o w n v m (address_found (form_of l.pieces) s.effect (or_ok l.line (found_spill kind.Ea (form_of l.pieces)) s.effect s.taken)) s.act refl
      set.symbol e lt;
  reloaded = λ q f fs l s w r n v m lt below set e small. reloaded q l s w r n v m lt set.symbol e small;
  saved_narrow = λ k l e h. saved_narrow k (form_of l.pieces) e (or_ok l.line (found_spill k (form_of l.pieces)) e h);
  value_written = λ q size l a w can s is lt. refl;
  place_written = λ q size l o w can s fits lt. refl;
  address_written = λ q l o w can s fits lt. refl;
  reload_written = λ q l w r can s lt below. refl;
}

-- The instructions that save entries and reload registers' symbols pass.
use Rattle.std.proofs.Common.{◌≡◌, ℕ, zero, suc, ◌+◌, ◌-◌, ◌<◌, ◌≤◌, List, [], ◌∷◌, Option, Some, None, Bool, true, false, refl, sym, subst, arith, slice_get}
use Rattle.std.specs.List.{AllByRecursion as All}
use Rattle.gg_base.proofs.Facts.{all_append}
use Rattle.gg_base.specs.declared.size.Size.TheVariants.{Long}
use Rattle.tree_core.specs.declared.program.TreeProgram.{TreeProgram}
use Rattle.md_reader.specs.declared.types.Kind.{Kind}
use Rattle.md_reader.specs.declared.types.Kind.TheVariants as kind
use Rattle.md_reader.specs.declared.types.Sym.{Sym}
use Rattle.md_reader.specs.declared.types.Sym.TheVariants as grammar_symbol
use Rattle.md_reader.specs.Patterns.{kind_at}
use Rattle.md_reader.specs.State.{Content}
use Rattle.sel_target.specs.declared.attr.Attr.{Attr}
use Rattle.sel_target.specs.declared.attr.Attr.TheVariants as attr
use Rattle.sel_target.specs.Meaning.{Meaning}
use Rattle.sel_target.specs.Laws.{IsLawful}
use Rattle.sel_target.specs.Instances.{KindFits}
use Rattle.sel_target.specs.SavingLaws.{operand, register, saving, reloading}
use Rattle.sel_target.specs.Symbols.{saving_line, reload_line}
use Rattle.sel_parse_lines.specs.sel_parse_selected.specs.Entries.{Entry}
use Rattle.sel_parse_lines.specs.sel_parse_selected.specs.Desk.{Desk, Outcome, Full, Stuck, Done, is_free_register, free_register, is_free_word, free_slot}
use Rattle.sel_parse_lines.specs.sel_parse_selected.specs.Spills.{Where, holds_register, victim, entry_in_slot, saved, saved_in, spilled, with_free, due_by, due}
use Rattle.sel_parse_lines.specs.sel_parse_selected.specs.Reductions.{loaded, reloaded_by, reloaded_at, reloaded}
use Rattle.sel_parse_law.specs.sel_parse_stands.specs.Lines.{LinesSave}
use Rattle.sel_parse_law.specs.sel_parse_stands.proofs.Desks as desks
use Rattle.sel_parse_law.specs.sel_parse_stands.proofs.Desks.{MayMove, may_victim}
use Rattle.sel_parse_law.specs.sel_parse_stands.proofs.Saving.{lowest_found, slot_holds_none}
use Rattle.sel_parse_lines.proofs.Each.{Each, each_bind}
use Rattle.sel_parse_law.specs.sel_parse_slots.proofs.Fine as fine
use Rattle.sel_parse_law.specs.sel_parse_slots.proofs.Fine.{charge, IsFine, fine_spilled}
use Rattle.sel_parse_law.specs.sel_parse_slots.proofs.Counting.{Good, fine_at, slot_kind, Counted, IsDue, due_good, one_good}
use Rattle.sel_parse_written.specs.Claims.{LinesPass}
use Rattle.sel_parse_written.proofs.Classes.{KindIs, AllKinds, kind_there, kinds_set}

-- what holds of what is done, if there is room, and what holds in any case
pub both : {X : Type 0} (top : ℕ) (o : Outcome X) (P Q : X → Type 0) → Good top o P → Each Q o → Each (λ (x : X). P x × Q x) o
both top Full P Q h k = tt
both top Stuck P Q h k = tt
both top (Done x) P Q h k = (h, k)

module _ {O I S F : Type 0} (of : Meaning O I S F) (law : IsLawful of) (q : TreeProgram) (d : Content) (first : ℕ) (good : I → Bool) (pass : LinesPass of q d good)
    (lines : LinesSave of d) where
  abbrev pub Passes : List I → Type 0
  Passes code = All (λ (i : I). good i ≡ true) code

  -- ---- one entry

  abbrev IsSaved : Option Kind → Attr O → ℕ → Type 0
  IsSaved k a w = good (of.instr q (saving_line d k) (a ∷ []) (attr.Place (of.slot w))) ≡ true

  class_saved : (w : ℕ) → w < 1024 → (k : Option Kind) (a : Attr O) → KindFits of k a → 1 ≤ charge of law q d first a → IsSaved k a w
  class_saved w low (Some kind.Reg) (attr.Reg r) h held = pass.values Long (saving_line d (Some (kind.Value Long))) (attr.Reg r) w (lines.values Long) (register r refl h) low
  class_saved w low (Some (kind.Value z)) (attr.Value o) h held = pass.values z (saving_line d (Some (kind.Value z))) (attr.Value o) w (lines.values z) (operand o h) low
  class_saved w low (Some (kind.Place z)) (attr.Place o) h held = pass.places z (saving_line d (Some (kind.Place z))) o w (lines.places z) h low
  class_saved w low (Some kind.Con) (attr.Con n) h held = absurd (omega (arith, held))
  class_saved w low (Some kind.Ea) (attr.Ea o) h held = pass.addresses (saving_line d (Some kind.Ea)) o w lines.addresses h low
  class_saved w low k a h held = absurd h

  -- an entry that holds a register is saved by a line that passes
  pub entry_saved : (s : Sym) (k : Option Kind) (a : Attr O) (w : ℕ) → w < 1024 → IsFine of law q d first s a → KindIs d s k
      → holds_register of (record { kind = k; attr = a }) ≡ true → IsSaved k a w
  entry_saved s k a w low (fine.token l fit own) is h =
      absurd (let held = (fine_spilled of law q d first (grammar_symbol.Tok l.tok) k (attr.Token l) w low (fine.token l fit own) h).held_less in omega (arith, held))
  entry_saved s k a w low (fine.class c a' fits) is h =
      let held = (fine_spilled of law q d first (grammar_symbol.Class c) k a' w low (fine.class c a' fits) h).held_less in
      subst (λ (x : Option Kind). IsSaved x a' w) (sym is) (class_saved w low (kind_at d.classes c) a' fits (omega (arith, held)))
  entry_saved s k a w low (fine.slot c u e lt) is h = absurd (slot_holds_none of law k u lt h)
  entry_saved s k a w low (fine.statement c e) is h =
      absurd (let held = (fine_spilled of law q d first (grammar_symbol.Class c) k attr.Nothing w low (fine.statement c e) h).held_less in omega (arith, held))

  -- ---- a desk whose code passes
  module _ (right a : List Sym) (c : ℕ) (gb gs : List ℕ) where
    abbrev Count : ℕ → Desk O I → Type 0
    Count i desk = Counted of law q d first right a c gb gs i desk

    pub record Written (desk : Desk O I) : Type 0 where
      pub below : AllKinds d a desk.below
      pub symbols : AllKinds d right desk.symbols
      pub code : Passes desk.code

    saved_written : (i : ℕ) (desk : Desk O I) (p : Where) (e : Entry O) (w : ℕ) → Count i desk → MayMove of desk p e → free_slot of first desk ≡ Some w
        → Written desk → Written (saved of q d first desk p e w)
    saved_written i desk p e w h (desks.below j e' at holding) free g =
        let range = lowest_found (is_free_word of desk) first (1024 - first) w free in
        let from = range.from in
        let upto = range.below in
        let s = fine_at of law q d first a desk.below j e h.below_fine at in
        let kept = kind_there d a desk.below j e s.0 g.below at s.1 in
        let line = entry_saved s.0 e.kind e.attr w (omega (arith, from, upto)) s.2 kept holding in
        record {
          below = kinds_set d a desk.below j (entry_in_slot of e w) g.below (λ x there. kind_there d a desk.below j e x g.below at there);
          symbols = g.symbols;
          code = all_append (λ (x : I). good x ≡ true) desk.code (saving of q (saving_line d e.kind) e.attr w) g.code (line, tt);
        }
    saved_written i desk p e w h (desks.among j e' at holding apart) free g =
        let range = lowest_found (is_free_word of desk) first (1024 - first) w free in
        let from = range.from in
        let upto = range.below in
        let s = fine_at of law q d first right desk.symbols j e h.symbols_fine at in
        let kept = kind_there d right desk.symbols j e s.0 g.symbols at s.1 in
        let line = entry_saved s.0 e.kind e.attr w (omega (arith, from, upto)) s.2 kept holding in
        record {
          below = g.below;
          symbols = kinds_set d right desk.symbols j (entry_in_slot of e w) g.symbols (λ x there. kind_there d right desk.symbols j e x g.symbols at there);
          code = all_append (λ (x : I). good x ≡ true) desk.code (saving of q (saving_line d e.kind) e.attr w) g.code (line, tt);
        }

    spilled_written : (i : ℕ) (given : Bool) (desk : Desk O I) → Count i desk → Written desk → Each Written (spilled of q d first desk (victim of given desk))
    spilled_written i given desk h g = by (victim of given desk) refl
      where
        saved_by : (p : Where) (e : Entry O) → MayMove of desk p e → (o : Option ℕ) → free_slot of first desk ≡ o
            → Each Written (saved_in of q d first desk p (Some e) o)
        saved_by p e goes None at = tt
        saved_by p e goes (Some w) at = saved_written i desk p e w h goes at g

        by : (o : Option Where) → victim of given desk ≡ o → Each Written (spilled of q d first desk o)
        by None at = tt
        by (Some p) at =
            let x = may_victim of given desk p at in
            subst (λ o. Each Written (saved_in of q d first desk p o (free_slot of first desk))) (sym x.1) (saved_by p x.0 x.2 (free_slot of first desk) refl)

    -- a register that is due is free then
    pub record Free (given : Bool) (p : ℕ × Desk O I) : Type 0 where
      pub written : Written p.1
      pub free : is_free_register of d given p.1 p.0 ≡ true

    due_written : (i : ℕ) (given : Bool) (desk : Desk O I) → Count i desk → Written desk → Each (Free given) (due of q d first given desk)
    due_written i given desk h g = by (free_register of d given desk) refl
      where
        taken : (x : Desk O I) → Written x → (o : Option ℕ) → free_register of d given x ≡ o → Each (Free given) (with_free of q d first x o)
        taken x k None at = tt
        taken x k (Some r) at = record { written = k; free = (lowest_found (is_free_register of d given x) 0 12 r at).is }

        by : (o : Option ℕ) → free_register of d given desk ≡ o → Each (Free given) (due_by of q d first given desk o)
        by None at =
            each_bind Written (Free given) (spilled of q d first desk (victim of given desk)) (λ x. with_free of q d first x (free_register of d given x))
            (spilled_written i given desk h g) (λ x k. taken x k (free_register of d given x) refl)
        by (Some r) at = record { written = g; free = (lowest_found (is_free_register of d given desk) 0 12 r at).is }

    abbrev pub IsTaken : ℕ → Bool → Desk O I → ℕ × Desk O I → Type 0
    IsTaken i given desk p = IsDue of law q d first right a c gb gs i desk p × Free given p

    pub due_taken : (i : ℕ) (given : Bool) (desk : Desk O I) → Count i desk → Written desk → Each (IsTaken i given desk) (due of q d first given desk)
    due_taken i given desk h g =
        both (first + c) (due of q d first given desk) (IsDue of law q d first right a c gb gs i desk) (Free given) (due_good of law q d first right a c gb gs i given desk h)
        (due_written i given desk h g)

    -- ---- reloads

    slot_reloaded : (i : ℕ) (desk : Desk O I) (k : Option Kind) (w : ℕ) (p : ℕ × Desk O I) → slice_get desk.symbols i ≡ Some (record { kind = k; attr = attr.InSlot w }) → Count i desk
        → Written desk → IsTaken i false desk p → Each Written (loaded of q d first i (record { kind = k; attr = attr.InSlot w }) w p)
    slot_reloaded i desk k w p at h g taken =
        let s = fine_at of law q d first right desk.symbols i (record { kind = k; attr = attr.InSlot w }) h.symbols_fine at in
        let sk = slot_kind of law q d first right a c gb gs s.0 w (attr.InSlot w) s.2 refl in
        let now = taken.1.written in
        record {
          below = now.below;
          symbols = kinds_set d right p.1.symbols i (record { kind = k; attr = attr.Reg p.0 }) now.symbols
              (λ x there. kind_there d right desk.symbols i (record { kind = k; attr = attr.InSlot w }) x g.symbols at there);
          code = all_append (λ (x : I). good x ≡ true) p.1.code (reloading of q (reload_line d) w p.0) now.code
              (pass.reloads (reload_line d) w p.0 lines.reloads taken.0.small (subst (λ (x : ℕ). x < 1024) sk.1 sk.2), tt);
        }

    one_written : (i : ℕ) (desk : Desk O I) → Count i desk → Written desk → Each Written (reloaded_at of q d first i desk (slice_get desk.symbols i))
    one_written i desk h g = at (slice_get desk.symbols i) refl
      where
        by : (k : Option Kind) (b : Attr O) → slice_get desk.symbols i ≡ Some (record { kind = k; attr = b })
            → Each Written (reloaded_by of q d first i desk (record { kind = k; attr = b }) b)
        by k (attr.Reg r) e = g
        by k (attr.InSlot w) e =
            each_bind (IsTaken i false desk) Written (due of q d first false desk) (loaded of q d first i (record { kind = k; attr = attr.InSlot w }) w) (due_taken i false desk h g)
            (λ p m. slot_reloaded i desk k w p e h g m)
        by k (attr.Value o) e = g
        by k (attr.Place o) e = g
        by k (attr.Con n) e = g
        by k (attr.Ea o) e = g
        by k (attr.Token l) e = g
        by k attr.Nothing e = g

        at : (o : Option (Entry O)) → slice_get desk.symbols i ≡ o → Each Written (reloaded_at of q d first i desk o)
        at None e = g
        at (Some x) e = by x.kind x.attr e

    -- so many symbols are in place, and the code passes
    abbrev pub Brought : ℕ → Desk O I → Type 0
    Brought i desk = Count i desk × Written desk

    pub reloaded_written : (n i : ℕ) (desk : Desk O I) → Count i desk → Written desk → Each (Brought (i + n)) (reloaded of q d first n i desk)
    reloaded_written zero i desk h g = (let same : i ≡ i + 0 = omega arith in (subst (λ (k : ℕ). Count k desk) same h, g))
    reloaded_written (suc n) i desk h g =
        let one : suc i ≡ i + 1 = omega arith in
        let all : i + 1 + n ≡ i + suc n = omega arith in
        let here = reloaded_at of q d first i desk (slice_get desk.symbols i) in
        each_bind (Brought (suc i)) (Brought (i + suc n)) here (reloaded of q d first n (i + 1))
        (both (first + c) here (Count (suc i)) Written (one_good of law q d first right a c gb gs i desk h) (one_written i desk h g))
        (λ x k. subst (λ (m : ℕ). Each (Brought m) (reloaded of q d first n (i + 1) x)) all (reloaded_written n (i + 1) x (subst (λ (m : ℕ). Count m x) one k.0) k.1))

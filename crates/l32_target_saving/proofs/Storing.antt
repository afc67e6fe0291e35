-- What a line does that saves or reloads.
use Rattle.std.proofs.Common.{◌≡◌, inl, inr, ℕ, ◌+◌, ◌*◌, ◌<◌, ◌≤◌, true, Option, Some, None, Result, Ok, List, [], ◌∷◌, map, refl, sym, ap, subst, ◌∙◌, arith}
use Rattle.std.specs.List.{AllByRecursion}
use Rattle.std.proofs.lemmas.Option.{same_Some}
use Rattle.gg_base.specs.declared.size.Size.{Size}
use Rattle.gg_base.specs.declared.size.Size.TheVariants.{Byte, Word, Long}
use Rattle.gg_base.specs.Arithmetic.{add32, neg32}
use Rattle.gg_base.specs.Sizes.{bytes_of}
use Rattle.gg_base.proofs.Facts.{err_ok, ok_same}
use Rattle.l32_target_rules.specs.vax_target_meaning.specs.tree_core.specs.declared.program.TreeProgram.{TreeProgram}
use Rattle.l32_target_rules.specs.vax_target_meaning.specs.tree_meaning.specs.State.{Extent}
use Rattle.l32_target_rules.specs.judging_laws.specs.md_reader_pieces.specs.declared.piece.Line.{Line}
use Rattle.l32_target_rules.specs.judging_laws.specs.md_reader.specs.declared.types.Kind.{Kind}
use Rattle.l32_target_rules.specs.judging_laws.specs.term_core.specs.Shape.{Shape}
use Rattle.l32_target_rules.specs.judging_laws.specs.sel_terms.specs.Effects.{ActShape, EffectShape, StoreHome}
use Rattle.l32_target_rules.specs.judging_laws.specs.sel_target.specs.declared.attr.Attr.{Attr}
use Rattle.l32_target_rules.specs.judging_laws.specs.sel_target.specs.declared.attr.Attr.TheVariants as attr
use Rattle.l32_target_rules.specs.judging_laws.specs.sel_target.specs.Courses.{Course, comes}
use Rattle.l32_target_rules.specs.judging_laws.specs.sel_target.specs.Meaning.{WordAt}
use Rattle.l32_target_rules.specs.judging_laws.specs.sel_target.specs.Values.{View, IsRead}
use Rattle.l32_target_rules.specs.judging_laws.specs.sel_target.specs.EffectTerms.{terms_of}
use Rattle.l32_target_rules.specs.judging_laws.specs.sel_target.specs.Outcomes.{Keeps}
use Rattle.l32_target_rules.specs.judging_laws.specs.sel_target.specs.SavingLaws.{IsSlot}
use Rattle.l32_target_rules.specs.judging_laws.specs.vax_templates.specs.declared.setting.Own.TheVariants as own
use Rattle.l32_target_rules.specs.judging_laws.specs.vax_templates.specs.Settings.{saved_hole, saved_setting}
use Rattle.l32_target_rules.specs.judging_laws.specs.vax_templates.specs.Deeds.{Last, Ended}
use Rattle.l32_target_rules.specs.judging_laws.specs.vax_templates.specs.GiveLines.{last_deed}
use Rattle.l32_target_rules.specs.judging_laws.specs.vax_templates.specs.Found.{saved_give}
use Rattle.l32_target_rules.specs.judging_laws.specs.template_judging.specs.Found as any
use Rattle.l32_target_rules.specs.l32_states.specs.call_pieces.specs.Piece.{word_of}
use Rattle.l32_target_rules.specs.l32_templates.specs.l32_core.specs.declared.operand.Operand32.{Operand32}
use Rattle.l32_target_rules.specs.l32_templates.specs.l32_core.specs.declared.code.Instr32.{Instr32}
use Rattle.l32_target_rules.specs.l32_templates.specs.l32_machine.specs.declared.turn.Stop32.{Stop32}
use Rattle.l32_target_rules.specs.l32_templates.specs.l32_machine.specs.State.{State}
use Rattle.l32_target_rules.specs.l32_templates.specs.l32_machine.specs.Memory.{written}
use Rattle.l32_target_rules.specs.l32_templates.specs.l32_machine.specs.Calls.{silent}
use Rattle.l32_target_rules.specs.l32_templates.specs.Homes.{home}
use Rattle.l32_target_rules.specs.l32_templates.specs.Filled.{register_in}
use Rattle.l32_target_rules.specs.l32_templates.specs.Found.{l32_lines}
use Rattle.l32_target_rules.specs.l32_target_meaning.specs.Running.{course_of, run}
use Rattle.l32_target_rules.specs.l32_target_meaning.specs.L32.{l32}
use Rattle.l32_target_rules.specs.l32_target_operands.specs.Scenes.{Scene, worth, Sees}
use Rattle.l32_target_rules.specs.l32_target_lines.specs.Lines.{IsStored, MayHold, EndIsRead, NoneIsZero}
use Rattle.l32_target_rules.specs.judging_effects.specs.Laws.{IsFound}
use Rattle.l32_target_rules.specs.judging_effects.proofs.Founds.{template_is, reads_safe}
use Rattle.l32_target_rules.specs.l32_states.proofs.Touching.{stack_written}
use Rattle.l32_target_rules.specs.l32_target_runs.specs.Runs.{EndsIn, RunsTo, IsDone, IsApart, line_of, spots_of}
use Rattle.l32_target_rules.specs.l32_target_runs.proofs.Kept.{none_then}
use Rattle.l32_target_rules.specs.l32_target_runs.proofs.Law.{lines_run}
use Rattle.l32_target_saving.proofs.Words.{IsFrameWord, frame_word, with_word, slot_keeps}
use Rattle.l32_target_saving.proofs.Scene.{scene}

-- how a line that saves or reloads was judged
pub saved_is : (k : Kind) (l : Line) (e : EffectShape) → l32.spill_effect k l ≡ Ok e → IsFound l32_lines (saved_setting k) (saved_hole k ∷ []) None (l ∷ []) (saved_give k) e
unfolding any.saved_found
saved_is k l e h = template_is l32_lines (saved_setting k) (saved_hole k ∷ []) None (l ∷ []) (saved_give k) e h

module _ (q : TreeProgram) (k : Kind) (a res : Attr Operand32) (v : View) (m : State) (seen : Sees (scene q k a res v) None m) (low : register_in res < 12)
    (apart : IsApart (scene q k a res v)) (l : Line) (e : EffectShape) (taken : l32.spill_effect k l ≡ Ok e) (undivided : e.divisors ≡ [])
    (calm : AllByRecursion (λ (t : Shape). IsRead v t) (terms_of e)) where
  abbrev pub S : Scene
  S = scene q k a res v

  pub F : IsFound l32_lines (saved_setting k) (saved_hole k ∷ []) None (l ∷ []) (saved_give k) e
  F = saved_is k l e taken

  none_zero : NoneIsZero S F.progress.divisors
  none_zero = subst (λ (ds : List Shape). NoneIsZero S ds) (sym (ap (λ (x : EffectShape). x.divisors) F.is ∙ undivided)) tt

  -- the line is run
  pub ran : EndIsRead S F.progress.last → RunsTo S F.progress.own m (run (map (line_of S) (l ∷ [])) m) F.progress.last
  ran end =
      lines_run S m (l ∷ []) F.progress seen (λ is. refl) apart low F.judged
      (record { reads = reads_safe true v e F.progress.reads F.none_dropped_so calm; ends_read = end }) none_zero

  pub act_is : F.deed ≡ e.act
  act_is = ap (λ (x : EffectShape). x.act) F.is

  last_is : (x : Last) (deed : ActShape) → last_deed x ≡ Ok deed → x ≡ Ended deed
  last_is (Ended y) deed h = ap Ended (ok_same y deed h)
  last_is _ deed h = absurd (err_ok _ deed h)

  -- a line that saves ends in its act
  pub ends_in : last_deed F.progress.last ≡ Ok F.deed → EndIsRead S (Ended e.act) → EndsIn S m e.act (run (map (line_of S) (l ∷ [])) m)
  ends_in given end =
      let is = last_is F.progress.last F.deed given ∙ ap Ended act_is in
      subst (RunsTo S F.progress.own m (run (map (line_of S) (l ∷ [])) m)) is (ran (subst (EndIsRead S) (sym is) end))

-- ---- a slot is written

module _ (q : TreeProgram) (f : Extent) (fs : List Extent) (k : Kind) (a : Attr Operand32) (w : ℕ) (v : View) (m : State) (slot : IsSlot l32 f w) (agrees : l32.agrees q f fs v.state m)
    (z : Size) (slotted : (saved_setting k).own ≡ own.Slot z) (size : Size) (t : Shape) where
  abbrev pub T : Scene
  T = scene q k a (attr.Place (home w)) v

  -- only the slot has changed
  pub record Stored (did : Course Instr32 State) : Type 0 where
    pub before : State
    pub word : IsFrameWord before w
    pub is : did ≡ comes (with_word before w word size (worth T t))
    pub keeps : Keeps l32 (WordAt w ∷ []) m (with_word before w word size (worth T t))

  own_none : (o : Option Shape) → MayHold T o → o ≡ None
  own_none None may = refl
  own_none (Some x) may = absurd (let y : own.Slot z ≡ own.Register = sym slotted ∙ may in cc)

  address_is : (n : State) (x : ℕ) → IsStored T n 0 x → x ≡ add32 n.fp (neg32 (4 * (w + 1)))
  address_is n x (inl s) = sym (same_Some (add32 n.fp (neg32 (4 * (w + 1)))) x s.1)
  address_is n x (inr s) = sym (same_Some (add32 n.fp (neg32 (4 * (w + 1)))) x s)

  -- a word ends in the stack
  word_top : (n : State) (g : IsFrameWord n w) (size : Size) → word_of n.fp w + bytes_of size ≤ 2147483648
  word_top n g Byte = omega (arith, g.far, g.top)
  word_top n g Word = omega (arith, g.far, g.top)
  word_top n g Long = omega (arith, g.far, g.top)

  written_so : (n : State) (g : IsFrameWord n w) → written n (add32 n.fp (neg32 (4 * (w + 1)))) size (worth T t) ≡ Ok (with_word n w g size (worth T t))
  written_so n g =
      let there : add32 n.fp (neg32 (4 * (w + 1))) ≡ word_of n.fp w = omega (arith, g.far, g.top, g.low) in
      ap (λ (x : ℕ). written n x size (worth T t)) there ∙ stack_written n (word_of n.fp w) size (worth T t) g.area g.from (word_top n g size)

  done_so : (n : State) (g : IsFrameWord n w) (did : Course Instr32 State) → IsDone T n (StoreHome size 0 t) did → did ≡ comes (with_word n w g size (worth T t))
  done_so n g did (inl x) =
      let p = x.1 in
      p.is
      ∙ ap (λ (y : ℕ). course_of (silent (written n y size (worth T t)))) (address_is n p.address p.there)
      ∙ ap (λ (r : Result State Stop32). course_of (silent r)) (written_so n g)
  done_so n g did (inr x) = absurd (let y = x.1 in cc)

  pub stores : (did : Course Instr32 State) → EndsIn T m (StoreHome size 0 t) did → Stored did
  stores did x =
      let kept = subst (λ (o : Option Shape). Keeps l32 (spots_of T o) m x.state) (own_none x.own_is x.reaches.may) x.reaches.keeps in
      let there = kept.agrees q f fs v.state tt agrees in
      let g = frame_word q.objects f fs v.state x.state there w slot.free.1 slot.low in
      record {
        before = x.state;
        word = g;
        is = done_so x.state g did x.does;
        keeps = none_then (WordAt w ∷ []) m x.state (with_word x.state w g size (worth T t)) kept (slot_keeps x.state w g size (worth T t));
      }

-- A line that was checked to save stores what it saves in its slot.
use Rattle.std.proofs.Common.{◌≡◌, ◌<◌, inl, inr, ℕ, true, false, cond, Some, None, Result, Ok, List, [], ◌∷◌, sym, ap, subst, ◌∙◌}
use Rattle.std.specs.List.{AllByRecursion}
use Rattle.std.proofs.lemmas.Option.{same_Some}
use Rattle.gg_base.specs.declared.size.Size.{Size}
use Rattle.gg_base.proofs.Facts.{ok_same}
use Rattle.tree_core.specs.declared.program.TreeProgram.{TreeProgram}
use Rattle.md_reader_pieces.specs.declared.piece.Line.{Line}
use Rattle.vax_target_spelling.specs.md_reader.specs.declared.types.Kind.{Kind}
use Rattle.vax_target_spelling.specs.md_reader.specs.declared.types.Give.TheVariants as give
use Rattle.term_core.specs.Shape.{Shape}
use Rattle.vax_target_spelling.specs.sel_terms.specs.Effects.{EffectShape, StoreHome}
use Rattle.vax_target_spelling.specs.sel_target.specs.declared.attr.Attr.{Attr}
use Rattle.vax_target_spelling.specs.sel_target.specs.declared.attr.Attr.TheVariants as attr
use Rattle.vax_target_spelling.specs.sel_target.specs.Courses as courses
use Rattle.vax_target_spelling.specs.sel_target.specs.Values.{View, value, IsRead}
use Rattle.vax_core.specs.declared.register.Reg.TheVariants.{Fp}
use Rattle.vax_core.specs.declared.operand.Operand.{Operand}
use Rattle.vax_core.specs.declared.code.Instr.{Instr}
use Rattle.vax_core.specs.Homes.{word_addr, home}
use Rattle.vax_machine.specs.declared.turn.Stop.{Stop}
use Rattle.vax_machine.specs.declared.function.Conditions.{Conditions}
use Rattle.vax_machine.specs.declared.operands.Location.{Location}
use Rattle.vax_machine.specs.declared.operands.Location.TheVariants as locations
use Rattle.vax_machine.specs.State.{State, reg, with_conditions, ◌>>=◌}
use Rattle.vax_machine.specs.Operands.{located}
use Rattle.vax_target_spelling.specs.vax_machine_lists.specs.Instructions.{Course, course_of, followed}
use Rattle.vax_target_runs.specs.vax_confined.specs.Confined.{is_own_place, performed, exec}
use Rattle.vax_target_spelling.specs.vax_states.specs.Stack.{word_of}
use Rattle.vax_target_spelling.specs.vax_templates.specs.Settings.{saved_hole, saved_setting, is_reload}
use Rattle.vax_target_spelling.specs.vax_templates.specs.Deeds.{Last, Plain, Ended}
use Rattle.vax_target_spelling.specs.vax_templates.specs.Found.{saved_found, template_found}
use Rattle.vax_target_spelling.specs.vax_target_meaning.specs.Reading.{displaced, names}
use Rattle.vax_target_spelling.specs.vax_target_meaning.specs.Running as running
use Rattle.vax_target_spelling.specs.vax_target_meaning.specs.Vax.{vax}
use Rattle.vax_target_runs.specs.vax_target_operands.specs.Scenes.{Scene, worth, Sees}
use Rattle.vax_target_runs.specs.vax_target_confined.specs.Claims.{StandsAt}
use Rattle.vax_target_runs.specs.vax_target_confined.proofs.Reading.{home_is_own, own_touched}
use Rattle.vax_target_runs.specs.vax_target_lines.specs.Lines.{IsStored, putting, DoesDeed, DoesLine, terms_of_last}
use Rattle.vax_target_runs.specs.vax_target_lines.proofs.Performing.{lines_do}
use Rattle.vax_target_saving.specs.Laws.{with_word}
use Rattle.vax_target_saving.proofs.Words.{IsFrameWord, is_written}
use Rattle.vax_target_saving.proofs.Storing.{slot_address}
use Rattle.vax_target_saving.proofs.Found.{StatementFound, statement_found}
use Rattle.vax_target_saving.proofs.Parts.{stored_reads}
use Rattle.vax_target_saving.proofs.Scene.{scene}

-- ---- the slot

-- where a slot's operand stands
slot_stands : (m : State) (w : ℕ) (size : Size) (l : Location) → IsFrameWord m w → StandsAt m (home w) size l → l ≡ locations.Memory (word_of (reg m Fp) w)
unfolding located
slot_stands m w size l f s =
    let found : (locations.Memory (displaced m Fp (word_addr w)), m) ≡ (s.base, m) =
    ok_same {E = Stop} (locations.Memory (displaced m Fp (word_addr w)), m) (s.base, m) s.finds in
    sym s.is ∙ (sym (ap (λ (x : Location × State). x.0) found) ∙ ap locations.Memory (slot_address m w f))

-- and the address that it names
slot_named : (m : State) (w : ℕ) (size : Size) (a : ℕ) → IsFrameWord m w → names (home w) size m ≡ Some a → a ≡ word_of (reg m Fp) w
slot_named m w size a f e = sym (same_Some (displaced m Fp (word_addr w)) a e) ∙ slot_address m w f

-- a number is put there
puts : (m : State) (w : ℕ) (size : Size) (x : ℕ) (k : Conditions) → IsFrameWord m w → putting m (locations.Memory (word_of (reg m Fp) w)) size x k ≡ course_of (Ok (None, with_word m w size x k))
puts m w size x k f = ap (λ (r : Result State Stop). course_of (r >>= λ (n : State). Ok (None, with_conditions n k))) (is_written m w f size x)

-- ---- the line

-- the line comes to a state in which its number stands in the slot
pub record Stored (q : TreeProgram) (l : Line) (a : Attr Operand) (w : ℕ) (size : Size) (x : ℕ) (m : State) : Type 0 where
  pub conditions : Conditions
  pub ran : vax.run (vax.instr q l (a ∷ []) (attr.Place (home w)) ∷ []) m ≡ courses.comes (with_word m w size x conditions)

pub one_line : (i : Instr) (m n : State) → performed i m ≡ course_of (Ok (None, n)) → vax.run (i ∷ []) m ≡ courses.comes n
one_line i m n e = ap (λ (c : Course). running.course_of (followed c [] (exec []))) e

module _ (q : TreeProgram) (k : Kind) (a : Attr Operand) (w : ℕ) (v : View) (m : State) (f : IsFrameWord m w) (low : w < 1024) where
  abbrev the : Scene
  the = scene q k a (attr.Place (home w)) v

  place_is : (size : Size) (l : Location) → IsStored the m size 0 l → l ≡ locations.Memory (word_of (reg m Fp) w)
  place_is size l (inl s) = slot_stands m w size l f s.1
  place_is size l (inr h) = h.is ∙ ap locations.Memory (slot_named m w size h.address f h.named_so)

  stores : (size : Size) (t : Shape) (l : Line) → DoesDeed the m (StoreHome size 0 t) (performed (vax.instr q l (a ∷ []) (attr.Place (home w))) m) →
      Stored q l a w size (value v t) m
  stores size t l p = record {
    conditions = p.conditions;
    ran = one_line (vax.instr q l (a ∷ []) (attr.Place (home w))) m (with_word m w size (value v t) p.conditions)
        (p.is (own_touched m (is_own_place (home w)) p.place size (home_is_own w low))
        ∙ (ap (λ (x : Location). putting m x size (value v t) p.conditions) (place_is size p.place p.there) ∙ puts m w size (value v t) p.conditions f));
  }

  found_so : is_reload k ≡ false → (l : Line) (e : EffectShape) → saved_found k l ≡ Ok e → StatementFound (saved_setting k) (saved_hole k ∷ []) l e
  unfolding saved_found
  found_so saves l e is =
      statement_found (saved_setting k) (saved_hole k ∷ []) l e
      (ap (λ b. template_found (saved_setting k) (saved_hole k ∷ []) None (l ∷ []) (cond b give.Fresh give.Nothing)) (sym saves) ∙ is)

  none_zero : (ds : List Shape) → ds ≡ [] → AllByRecursion (λ (d : Shape). worth the d ≡ 0 → ⊥) ds
  none_zero ds e = subst (λ (x : List Shape). AllByRecursion (λ (d : Shape). worth the d ≡ 0 → ⊥) x) (sym e) tt

  pub line_stores : is_reload k ≡ false → (l : Line) (e : EffectShape) (size : Size) (t : Shape) → Sees the None m → saved_found k l ≡ Ok e →
      e.act ≡ StoreHome size 0 t → e.divisors ≡ [] → IsRead v t → Stored q l a w size (value v t) m
  line_stores saves l e size t sees_m taken act none read =
      let g = found_so saves l e taken in
      let d = g.line.deed in
      let last : d.last ≡ Ended (StoreHome size 0 t) = g.act ∙ ap Ended act in
      let does = lines_do the None m true Plain l.pieces d sees_m tt tt g.line.did
      (stored_reads v e size 0 t act none read d.reads g.line.reads)
      (λ s. subst (λ (x : Last). AllByRecursion (λ (r : Shape). IsRead v r) (terms_of_last x)) (sym last) (read, tt))
      (none_zero d.divisors (g.line.divisors ∙ none)) in
      stores size t l (subst (λ (x : Last). DoesLine the m d.own (performed (vax.instr q l (a ∷ []) (attr.Place (home w))) m) x) last does).1

-- The law of lines that reload.
use Rattle.std.proofs.Common.{◌≡◌, ℕ, ◌^◌, ◌<◌, true, Option, Some, None, Ok, List, [], ◌∷◌, refl, sym, ap, subst, ◌∙◌, arith, get_or-set_same, get_or-set_other}
use Rattle.std.specs.List.{AllByRecursion}
use Rattle.gg_base.specs.declared.size.Size.TheVariants.{Long}
use Rattle.md_reader_pieces.specs.declared.piece.Line.{Line}
use Rattle.vax_target_spelling.specs.md_reader.specs.declared.types.Kind.TheVariants as kind
use Rattle.term_core.specs.Shape.{Shape, Symbol}
use Rattle.term_core.proofs.Values.{small}
use Rattle.vax_target_spelling.specs.sel_terms.specs.Effects.{EffectShape}
use Rattle.vax_target_spelling.specs.sel_terms.proofs.Facts.{same_Value}
use Rattle.vax_target_spelling.specs.sel_target.specs.declared.attr.Attr.TheVariants as attr
use Rattle.vax_target_spelling.specs.sel_target.specs.Values.{value, term_state, IsRead}
use Rattle.vax_core.specs.Homes.{home}
use Rattle.vax_core.specs.Registers.{reg_number}
use Rattle.vax_machine.specs.declared.function.Conditions.{Conditions}
use Rattle.vax_machine.specs.State.{State, with_reg, with_conditions}
use Rattle.vax_target_runs.specs.vax_confined.specs.Confined.{performed}
use Rattle.vax_target_spelling.specs.vax_machine_lists.specs.Sound.{IsSound}
use Rattle.vax_target_spelling.specs.vax_machine_lists.proofs.Soundness.{conditions_sound}
use Rattle.vax_target_spelling.specs.vax_states.proofs.Keeping.{sound_register}
use Rattle.vax_target_spelling.specs.vax_templates.specs.declared.setting.Hole.TheVariants as hole_kind
use Rattle.vax_target_spelling.specs.vax_templates.specs.Settings.{saved_setting}
use Rattle.vax_target_spelling.specs.vax_templates.specs.Deeds.{Last, Plain}
use Rattle.vax_target_spelling.specs.vax_templates.specs.Found.{saved_found}
use Rattle.vax_target_spelling.specs.vax_templates.specs.Filled.{numbered}
use Rattle.vax_target_spelling.specs.vax_target_meaning.specs.Vax.{vax}
use Rattle.vax_target_runs.specs.vax_target_operands.specs.Scenes.{worth}
use Rattle.vax_target_runs.specs.vax_target_lines.specs.Lines.{DoesLine, terms_of_last}
use Rattle.vax_target_runs.specs.vax_target_lines.proofs.Performing.{lines_do, number_is}
use Rattle.vax_target_runs.specs.vax_target_confined.proofs.Reading.{register_reads}
use Rattle.vax_target_runs.specs.Kept.{Differs}
use Rattle.vax_target_runs.proofs.Kept.{registers_are_kept}
use Rattle.vax_target_saving.specs.Laws.{LinesReload}
use Rattle.vax_target_saving.proofs.Found.{ResultFound, result_found}
use Rattle.vax_target_saving.proofs.Parts.{value_reads}
use Rattle.vax_target_saving.proofs.Scene.{scene, sees, symbol_is}
use Rattle.vax_target_saving.proofs.Lines.{one_line}
use Rattle.vax_target_saving.proofs.Owned.{line_plain}

-- a register with a number
abbrev reloaded : State → ℕ → ℕ → Conditions → State
reloaded m r x k = with_conditions (with_reg m (numbered r) x) k

module _ (m : State) (r x : ℕ) (k : Conditions) (low : r < 12) (fits : x < 2 ^ 32) (sound : IsSound m) where
  differs : Differs (λ y. y ≡ r) m (reloaded m r x k)
  differs = record {
    registers = (with_reg m (numbered r) x).registers;
    conditions = k;
    is = refl;
    others = λ y off. get_or-set_other m.registers (reg_number (numbered r)) y x 0 (λ e. off (e ∙ number_is r low));
    sound = conditions_sound (with_reg m (numbered r) x) k (sound_register m (reg_number (numbered r)) x sound fits);
  }

  there : vax.reads (vax.register r) Long (reloaded m r x k) ≡ Some x
  there =
      register_reads r low Long (reloaded m r x k)
      ∙ ap Some (get_or-set_same m.registers (reg_number (numbered r)) x 0 (omega (arith, number_is r low, low, sound.registers)))

found_so : (l : Line) (e : EffectShape) → saved_found kind.Reg l ≡ Ok e → ResultFound (saved_setting kind.Reg) (hole_kind.Value Long ∷ []) l e
unfolding saved_found
found_so l e is = result_found (saved_setting kind.Reg) (hole_kind.Value Long ∷ []) l e is

pub lines_reload : LinesReload
lines_reload q f fs l s w r n v m low slot set e fits =
    let c = scene q kind.Reg (attr.Value (home w)) (attr.Reg r) v in
    let g = found_so l s.effect s.taken in
    let d = g.line.deed in
    let means : vax.reads (home w) Long m ≡ Some (value v (Symbol 1)) = e ∙ ap Some (sym (symbol_is v n set.symbol fits)) in
    let seen = sees q kind.Reg (attr.Value (home w)) (attr.Reg r) v m means f fs set.agrees (record { number = r; is = refl; low = low }) in
    let plain : d.last ≡ Plain = line_plain (saved_setting kind.Reg) (hole_kind.Value Long ∷ []) true None Plain l.pieces d g.line.did g.value g.own in
    let term : g.value ≡ s.term = same_Value g.value s.term (g.act ∙ s.act) in
    let none : AllByRecursion (λ (t : Shape). worth c t ≡ 0 → ⊥) d.divisors =
    subst (λ (x : List Shape). AllByRecursion (λ (t : Shape). worth c t ≡ 0 → ⊥) x) (sym (g.line.divisors ∙ s.undivided)) tt in
    let ends : AllByRecursion (λ (t : Shape). IsRead v t) (terms_of_last d.last) = subst (λ (x : Last). AllByRecursion (λ (t : Shape). IsRead v t) (terms_of_last x)) (sym plain) tt in
    let does = lines_do c None m true Plain l.pieces d seen tt tt g.line.did (value_reads v s.effect s.term s.act s.undivided set.read d.reads g.line.reads) (λ b. ends) none in
    let i = vax.instr q l (attr.Value (home w) ∷ []) (attr.Reg r) in
    let so : DoesLine c m (Some s.term) (performed i m) Plain =
    subst (λ (o : Option Shape). DoesLine c m o (performed i m) Plain) (g.own ∙ ap Some term) (subst (λ (x : Last). DoesLine c m d.own (performed i m) x) plain does) in
    let bound = small (term_state v) s.term in
    record {
      state = reloaded m r (value v s.term) so.conditions;
      ran = one_line i m (reloaded m r (value v s.term) so.conditions) so.is;
      gets = there m r (value v s.term) so.conditions low bound set.agrees.sound;
      keeps = registers_are_kept r m (reloaded m r (value v s.term) so.conditions) low (differs m r (value v s.term) so.conditions low bound set.agrees.sound);
    }

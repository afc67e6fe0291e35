-- Runs of guarded codes keep r2 to r11, and a call up to its return leaves the caller's registers and its frame.
use Rattle.std.proofs.Common.{◌≡◌, ℕ, ◌<◌, ◌≤◌, List, [], ◌∷◌, ◌++◌, None, Ok, refl, sym, ap, ◌∙◌, subst, arith}
use Rattle.std.specs.Prelude.{slice_index}
use Rattle.c_program.specs.Programs.{AProgram}
use Rattle.c_sound.specs.Sound.{IsSound}
use Rattle.gg_compile_laws.specs.c_sound_texts.proofs.Law.{typed_is_sound}
use Rattle.c_lower_scheme.specs.Programs.{lowered}
use Rattle.c_lower_valid.proofs.Law.{lowered_is_valid}
use Rattle.c_lower_valid.proofs.Naming.{labels_stay}
use Rattle.c_lower_calm.proofs.Law.{each_tree_is_calm}
use Rattle.vax_core.specs.declared.code.CodeItem.{CodeItem}
use Rattle.vax_core.specs.declared.code.Code.{Code}
use Rattle.vax_machine_live.specs.declared.frame.Frame.{Frame}
use Rattle.vax_machine.specs.State.{State}
use Rattle.vax_frames_law.specs.Guarding.{IsGuarded, KeepsRegisters}
use Rattle.vax_frames_law.specs.Within.{mask_from}
use Rattle.vax_frames_law.proofs.Guarding.{steps_keep, returns_restore, calls_save, runs_begin_intact}
use Rattle.vax_frames_law.proofs.Undoing.{returns_undo}
use Rattle.gg_compile_laws.specs.gg_compile_keeps.specs.Programs.{IsSelectable}
use Rattle.gg_compile_laws.specs.Keeping.{IsWithinLimits}
use Rattle.gg_compile_laws.specs.Typed.{FitFrames}
use Rattle.gg_compile_laws.proofs.Objects.{hold_numbers, are_apart, objects_named}
use Rattle.gg_compile_laws.proofs.Limits.{typed_programs_are_within_limits}
use Rattle.gg_compile_codes.specs.Reached.{Reached, begins, goes, writes, GoesOn, here, goes_on, writes_on}
use Rattle.gg_compile_codes.specs.Framed.{GuardedRunsKeepRegisters, TypedCodesKeepRegisters, CallsAreOver}
use Rattle.gg_compile_codes.proofs.Frames.{selected_codes_are_guarded}

pub guarded_runs_keep_registers : GuardedRunsKeepRegisters
guarded_runs_keep_registers c input _ guarded (begins n e) = runs_begin_intact c input (mask_from 0 c.items) n guarded e
guarded_runs_keep_registers c input _ guarded (goes m n r e) =
    (steps_keep c.items (mask_from 0 c.items) guarded m n (guarded_runs_keep_registers c input m guarded r)).0 e
guarded_runs_keep_registers c input _ guarded (writes b m n r e) =
    (steps_keep c.items (mask_from 0 c.items) guarded m n (guarded_runs_keep_registers c input m guarded r)).1 b e

-- ---- the code of a typed program

selectable : (p : AProgram) → IsSound p → IsWithinLimits (lowered p) → IsSelectable (lowered p)
selectable p s limits =
    let labels = labels_stay p s in
    record {
      valid = lowered_is_valid p s;
      calm = each_tree_is_calm p;
      locals = limits.locals;
      apart = are_apart p.objects (lowered p).functions labels;
      numbers = hold_numbers p.objects _ labels s.contents;
      names = record { objects = objects_named p.objects labels.spelled; functions = limits.names };
      longwords = limits.longwords;
      small = limits.small;
    }

pub typed_codes_keep_registers : TypedCodesKeepRegisters
typed_codes_keep_registers p d c input m t few fit s r =
    let ok = selectable p (typed_is_sound p t.unit t.ends t.tokens t.typed) (typed_programs_are_within_limits p t few) in
    guarded_runs_keep_registers c input m (selected_codes_are_guarded (lowered p) d c ok fit s) r

-- ---- a call up to its return

module _ (code : List CodeItem) (mask_at : ℕ → ℕ) (guarded : IsGuarded code mask_at) (n : State) (begun : KeepsRegisters code mask_at n) where
  still_kept : (q : State) → GoesOn n q → KeepsRegisters code mask_at q
  still_kept _ here = begun
  still_kept _ (goes_on s t g e f) = (steps_keep code mask_at guarded s t (still_kept s g)).0 e
  still_kept _ (writes_on b s t g e f) = (steps_keep code mask_at guarded s t (still_kept s g)).1 b e

pub calls_are_over : CallsAreOver
calls_are_over code mask_at m n q r count place back guarded long low few call begun on same number returns =
    let saves = calls_save m n count place back call in
    let kept = still_kept code mask_at guarded n begun q on in
    record {
      undone = returns_undo m n q r count place back None long low few call same number returns;
      kept = λ k low_k high_k.
          returns_restore code mask_at q r m.frames saves.f kept (same ∙ saves.frames) returns k low_k high_k
          ∙ saves.saved k (omega arith) high_k;
    }

-- The code of a typed program whose functions want other locals in registers.
use Rattle.std.proofs.Math.Logic.{∥∥₁_elim}
use native.Mathlib.Bridge.{le_prop}
use Rattle.tree_core.specs.declared.program.TreeProgram.{TreeProgram}
use Rattle.tree_homes.proofs.Running.{rehomed_follows}
use Rattle.c_program.specs.Programs.{AProgram}
use Rattle.c_sound.specs.Sound.{IsSound}
use Rattle.c_lower_follows.specs.c_meaning.specs.Programs.{source}
use Rattle.c_lower_scheme.specs.Programs.{lowered}
use Rattle.c_lower_follows.proofs.Law.{lowering_follows}
use Rattle.c_lower_valid.proofs.Law.{lowered_is_valid}
use Rattle.c_lower_valid.proofs.Naming.{labels_stay}
use Rattle.c_lower_calm.proofs.Law.{each_tree_is_calm}
use Rattle.gg_compile_laws.specs.c_typed_check.specs.Typed.{IsTypedUnit}
use Rattle.gg_compile_laws.specs.c_sound_texts.proofs.Law.{typed_is_sound}
use Rattle.gg_compile_laws.specs.gg_compile_keeps.specs.Programs.{IsSelectable}
use Rattle.gg_compile_laws.specs.gg_compile_keeps.proofs.Law.{selected_codes_keep_trees}
use Rattle.gg_compile_laws.proofs.Objects.{all_below, hold_numbers, are_apart, objects_named}
use Rattle.gg_compile_laws.proofs.Limits.{typed_programs_are_within_limits}
use Rattle.gg_compile_laws.proofs.Typed.{typed_programs_are_ready}
use Rattle.gg_compile_laws.proofs.Programs.{selected_codes_can_be_written}
use Rattle.gg_compile_laws.specs.Typed.{FitFrames}
use Rattle.gg_compile_homes.specs.Claims.{AreRehomedTrees, FitsCode, RehomedTreesAreReady, RehomedProgramsAreWithinLimits, RehomedTreesFitCode}
use Rattle.gg_compile_homes.specs.Claims.{RehomedCodesKeepPrograms, RehomedCodesCanBeWritten}
use Rattle.gg_compile_homes.proofs.Trees as trees
use Rattle.gg_compile_homes.proofs.Fitting.{locals_fit, objects_fit}

pub sound : (p : AProgram) → IsTypedUnit p → IsSound p
sound p t = typed_is_sound p t.unit t.ends t.tokens t.typed

-- the program's own trees
own_selectable : (p : AProgram) → IsTypedUnit p → FitFrames p → IsSelectable (lowered p)
own_selectable p t fit =
    let s = sound p t in
    let labels = labels_stay p s in
    let limits = typed_programs_are_within_limits p t fit in
    record {
      valid = lowered_is_valid p s;
      calm = each_tree_is_calm p;
      locals = limits.locals;
      apart = are_apart p.objects (lowered p).functions labels;
      numbers = hold_numbers p.objects _ labels s.contents;
      names = record { objects = objects_named p.objects labels.spelled; functions = limits.names };
      longwords = limits.longwords;
      small = limits.small;
    }

pub selectable : (p : AProgram) (q : TreeProgram) → AreRehomedTrees p q → IsSelectable q
selectable p q h = trees.selectable (lowered p) q h.rehomed (own_selectable p h.typed h.fit)

pub rehomed_trees_are_ready : RehomedTreesAreReady
rehomed_trees_are_ready p q h = trees.ready (lowered p) q h.rehomed (typed_programs_are_ready p h.typed h.fit)

pub rehomed_programs_are_within_limits : RehomedProgramsAreWithinLimits
rehomed_programs_are_within_limits p q h = trees.within_limits (lowered p) q h.rehomed (typed_programs_are_within_limits p h.typed h.fit)

fit_code : (p : AProgram) (q : TreeProgram) → AreRehomedTrees p q → FitsCode q
fit_code p q h =
    let ok = selectable p q h in
    record { locals = locals_fit q ok.locals; objects = objects_fit q ok.valid }

pub rehomed_trees_fit_code : RehomedTreesFitCode
rehomed_trees_fit_code p q h = record {
  locals = λ n d lt. ∥∥₁_elim h le_prop (λ k. (fit_code p q k).locals n d lt);
  objects = λ n d lt. ∥∥₁_elim h le_prop (λ k. (fit_code p q k).objects n d lt);
}

pub rehomed_codes_keep_programs : RehomedCodesKeepPrograms
rehomed_codes_keep_programs p q d c h shown selected =
    let keeps = selected_codes_keep_trees q d c (selectable p q h) shown selected in
    record {
      loads = keeps.loads;
      follows = λ input bytes.
          keeps.follows (source p input) input (all_below input bytes)
          (rehomed_follows (lowered p) q h.rehomed (source p input) input (lowering_follows p (sound p h.typed) input bytes));
    }

pub rehomed_codes_can_be_written : RehomedCodesCanBeWritten
rehomed_codes_can_be_written p q d c h shown selected =
    let ok = selectable p q h in
    selected_codes_can_be_written q d c ok.valid (rehomed_programs_are_within_limits p q h) (trees.plain_objects q ok) shown selected

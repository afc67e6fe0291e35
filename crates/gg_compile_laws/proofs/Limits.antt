-- The trees of a typed program are within the limits of code, and their code keeps it.
use Rattle.std.proofs.Common.{◌≡◌, ℕ, ◌≤◌, Some, ap, arith}
use Rattle.std.specs.Prelude.{slice_get}
use Rattle.std.proofs.lemmas.Option.{slice_get_within}
use Rattle.c_program.specs.Need.{need_of}
use Rattle.c_program.specs.Programs.{ARoutine, AProgram}
use Rattle.c_typed_check.specs.Typed.{need_in, need_at}
use Rattle.c_sound_texts.proofs.Law.{typed_is_sound}
use Rattle.gg_compile_counts.specs.gg_compile_spelled.proofs.Law.{lowered_is_spelled, labels_are_small}
use Rattle.gg_compile_counts.specs.gg_compile_spelled.proofs.Names.{names_are_spelled}
use Rattle.gg_compile_counts.specs.gg_compile_spelled.proofs.Sources.{typed_have_names}
use Rattle.gg_compile_counts.specs.gg_compile_spelled.proofs.Locals.{locals_are_few}
use Rattle.gg_compile_counts.proofs.Law.{typed_have_few_labels}
use Rattle.gg_compile_laws.proofs.Keeping.{selected_codes_keep_programs}
use Rattle.gg_compile_laws.specs.Typed.{FitFrames, TypedProgramsAreWithinLimits, TypedCodesKeepPrograms}

pub need_few : (p : AProgram) → FitFrames p → (n : ℕ) (g : ARoutine) → slice_get p.routines n ≡ Some g → need_of g.locals g.block g.body ≤ 1024
need_few p fit n g e =
    let need : need_at p n ≡ need_of g.locals g.block g.body = ap need_in e in
    let few = fit n (slice_get_within p.routines n g e) in
    omega (arith, need, few)

pub typed_programs_are_within_limits : TypedProgramsAreWithinLimits
typed_programs_are_within_limits p t fit =
    let sound = typed_is_sound p t.unit t.ends t.tokens t.typed in
    let few = typed_have_few_labels p t.unit t.ends t.tokens t.typed in
    record {
      names = names_are_spelled p (typed_have_names p t.unit t.ends t.tokens t.typed);
      longwords = lowered_is_spelled p sound (omega arith);
      small = labels_are_small p sound (omega arith);
      locals = locals_are_few p 1024 sound (need_few p fit);
    }

pub typed_codes_keep_programs : TypedCodesKeepPrograms
typed_codes_keep_programs p d c t fit shown selected =
    selected_codes_keep_programs p d c (typed_is_sound p t.unit t.ends t.tokens t.typed) (typed_programs_are_within_limits p t fit) shown selected

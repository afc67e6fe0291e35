-- The trees of a typed program can be written, so their run begins.
use Rattle.c_program.specs.Programs.{AProgram}
use Rattle.c_sound.specs.Sound.{IsSound}
use Rattle.c_lower_scheme.specs.Programs.{lowered}
use Rattle.c_lower_valid.proofs.Law.{lowered_is_valid}
use Rattle.c_lower_valid.proofs.Naming.{labels_stay}
use Rattle.gg_compile_laws.specs.c_sound_texts.proofs.Law.{typed_is_sound}
use Rattle.gg_compile_laws.specs.Keeping.{IsWithinLimits}
use Rattle.gg_compile_laws.proofs.Objects.{all_below, hold_numbers, are_apart, objects_named}
use Rattle.gg_compile_laws.proofs.Limits.{typed_programs_are_within_limits}
use Rattle.gg_program_begins.specs.Claims.{IsWritable, EachTypedProgramBegins}
use Rattle.gg_program_begins.proofs.Empty.{each_program_begins}

writable : (p : AProgram) → IsSound p → IsWithinLimits (lowered p) → IsWritable (lowered p)
writable p s limits =
    let labels = labels_stay p s in
    record {
      valid = lowered_is_valid p s;
      names = record { objects = objects_named p.objects labels.spelled; functions = limits.names };
      apart = are_apart p.objects (lowered p).functions labels;
      numbers = hold_numbers p.objects _ labels s.contents;
      locals = limits.locals;
    }

pub each_typed_program_begins : EachTypedProgramBegins
each_typed_program_begins p input t few bytes =
    let limits = typed_programs_are_within_limits p t few in
    each_program_begins (lowered p) input (writable p (typed_is_sound p t.unit t.ends t.tokens t.typed) limits) (all_below input bytes)

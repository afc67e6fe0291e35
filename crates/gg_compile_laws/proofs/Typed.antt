-- The trees of a typed program are ready.
use Rattle.c_sound_texts.proofs.Law.{typed_is_sound}
use Rattle.c_lower_valid.proofs.Law.{lowered_is_valid}
use Rattle.gg_compile_laws.proofs.Objects.{objects_named}
use Rattle.gg_compile_laws.proofs.Rooms.{lowered_programs_have_rooms}
use Rattle.gg_compile_laws.specs.Typed.{TypedProgramsAreReady}
use Rattle.gg_compile_laws.proofs.Limits.{need_few, typed_programs_are_within_limits}

pub typed_programs_are_ready : TypedProgramsAreReady
typed_programs_are_ready p t fit =
    let sound = typed_is_sound p t.unit t.ends t.tokens t.typed in
    let within = typed_programs_are_within_limits p t fit in
    record {
      valid = lowered_is_valid p sound;
      rooms = lowered_programs_have_rooms p sound (need_few p fit);
      names = record { objects = objects_named p.objects sound.labels.spelled; functions = within.names };
      longwords = within.longwords;
    }

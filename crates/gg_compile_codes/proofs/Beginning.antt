-- The runs of a typed program's trees begin.
use Rattle.c_program.specs.Programs.{AProgram}
use Rattle.c_sound.specs.Sound.{IsSound}
use Rattle.gg_compile_laws.specs.c_sound_texts.proofs.Law.{typed_is_sound}
use Rattle.c_lower_scheme.specs.Programs.{lowered}
use Rattle.c_lower_valid.proofs.Law.{lowered_is_valid}
use Rattle.c_lower_valid.proofs.Naming.{labels_stay}
use Rattle.c_lower_calm.proofs.Law.{each_tree_is_calm}
use Rattle.gg_compile_laws.specs.gg_compile_keeps.specs.Programs.{IsSelectable}
use Rattle.gg_compile_laws.specs.gg_compile_keeps.proofs.Law.{is_written}
use Rattle.gg_compile_laws.specs.Keeping.{IsWithinLimits}
use Rattle.gg_compile_laws.proofs.Objects.{all_below, hold_numbers, are_apart, objects_named}
use Rattle.gg_compile_laws.proofs.Limits.{typed_programs_are_within_limits}
use Rattle.gg_compile_codes.specs.Beginning.{TypedProgramsBegin}
use Rattle.gg_compile_codes.proofs.Starting.{written_programs_begin}

selectable : (p : AProgram) → IsSound p → IsWithinLimits (lowered p) → IsSelectable (lowered p)
selectable p s limits =
    let labels = labels_stay p s in
    record {
      valid = lowered_is_valid p s;
      calm = each_tree_is_calm p;
      locals = limits.locals;
      apart = are_apart p.objects (lowered p).functions labels;
      numbers = hold_numbers p.objects _ labels s.contents;
      names = record { objects = objects_named p.objects labels.spelled; functions = limits.names };
      longwords = limits.longwords;
      small = limits.small;
    }

pub typed_programs_begin : TypedProgramsBegin
typed_programs_begin p d c input t few fit s bytes =
    let ok = selectable p (typed_is_sound p t.unit t.ends t.tokens t.typed) (typed_programs_are_within_limits p t few) in
    written_programs_begin (lowered p) c input ok.names (is_written (lowered p) d c ok fit s) (all_below input bytes)

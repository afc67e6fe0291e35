-- The code that is selected of a C program's trees keeps the program.
use Rattle.c_program.specs.Programs.{AProgram}
use Rattle.c_sound.specs.Sound.{IsSound}
use Rattle.c_lower_follows.specs.c_meaning.specs.Programs.{source}
use Rattle.c_lower_scheme.specs.Programs.{lowered}
use Rattle.c_lower_follows.proofs.Law.{lowering_follows}
use Rattle.c_lower_valid.proofs.Law.{lowered_is_valid}
use Rattle.c_lower_valid.proofs.Naming.{labels_stay}
use Rattle.c_lower_calm.proofs.Law.{each_tree_is_calm}
use Rattle.gg_compile_keeps.specs.Programs.{IsSelectable}
use Rattle.gg_compile_keeps.proofs.Law.{selected_codes_keep_trees}
use Rattle.gg_compile_laws.specs.Keeping.{IsWithinLimits, SelectedCodesKeepPrograms}
use Rattle.gg_compile_laws.proofs.Objects.{all_below, hold_numbers, are_apart, objects_named}

selectable : (p : AProgram) → IsSound p → IsWithinLimits (lowered p) → IsSelectable (lowered p)
selectable p s limits =
    let labels = labels_stay p s in
    record {
      valid = lowered_is_valid p s;
      calm = each_tree_is_calm p;
      locals = limits.locals;
      apart = are_apart p.objects (lowered p).functions labels;
      numbers = hold_numbers p.objects _ labels s.contents;
      names = record { objects = objects_named p.objects labels.spelled; functions = limits.names };
      longwords = limits.longwords;
      small = limits.small;
    }

pub selected_codes_keep_programs : SelectedCodesKeepPrograms
selected_codes_keep_programs p d c s limits fit selected =
    let keeps = selected_codes_keep_trees (lowered p) d c (selectable p s limits) fit selected in
    record {
      loads = keeps.loads;
      follows = λ input bytes. keeps.follows (source p input) input (all_below input bytes) (lowering_follows p s input bytes);
    }

-- A text can be written of the code that is selected of a program's trees.
use Rattle.std.proofs.Common.{List, [], ◌∷◌, sym, subst}
use Rattle.std.specs.List.{list_all, AllByRecursion as All}
use Rattle.std.proofs.lemmas.List.Elements.{recursion_from_All}
use Rattle.std.proofs.lemmas.Bool.{and_from}
use Rattle.tree_core.specs.declared.program.Object.{Object}
use Rattle.c_program.specs.Programs.{AProgram}
use Rattle.c_sound.specs.Sound.{IsSound}
use Rattle.c_sound_texts.proofs.Law.{typed_is_sound}
use Rattle.c_lower_scheme.specs.Programs.{lowered}
use Rattle.c_lower_valid.proofs.Law.{lowered_is_valid}
use Rattle.vax_core.specs.declared.code.AreaItem.{AreaItem}
use Rattle.vax_core.specs.Valid.{is_area_item, is_code_item}
use Rattle.vax_machine_lists.specs.Sound.{AllBelow}
use Rattle.gg_compile_keeps.specs.vax_target_meaning.specs.Fitting.{CanWrite}
use Rattle.gg_compile_counts.specs.gg_compile_law.specs.Spelling.{HoldsNumbers}
use Rattle.gg_compile_laws.proofs.Objects.{hold_numbers, objects_named}
use Rattle.gg_compile_laws.proofs.Limits.{typed_programs_are_within_limits}
use Rattle.gg_compile_laws.specs.Written.{HasPlainObjects, SelectedCodesCanBeWritten, SelectedProgramsCanBeWritten, TypedCodesCanBeWritten}
use Rattle.gg_compile_laws.proofs.Tests.{all_true}
use Rattle.gg_compile_laws.proofs.Areas.{area_fine}
use Rattle.gg_compile_laws.proofs.Areas as areas
use Rattle.gg_compile_laws.proofs.Functions.{code_fine}

pub selected_codes_can_be_written : SelectedCodesCanBeWritten
selected_codes_can_be_written q d c valid limits plain fit s =
    let can : CanWrite q = record { objects = plain.labels; functions = limits.names } in
    and_from (list_all is_area_item c.area) (list_all is_code_item c.items)
    (all_true is_area_item c.area (subst (λ (a : List AreaItem). All areas.Fine a) (sym s.area) (area_fine q valid plain)))
    (all_true is_code_item c.items (code_fine q valid limits can d fit c.items s.functions))

-- ---- the objects of a C program

bytes_of : (all os : List Object) → All (HoldsNumbers all) os → All (λ (o : Object). AllBelow 256 o.bytes) os
bytes_of all [] h = tt
bytes_of all (o ∷ os) h = (h.0.1, bytes_of all os h.1)

plain_objects : (p : AProgram) → IsSound p → HasPlainObjects (lowered p)
plain_objects p s = record {
  labels = objects_named p.objects s.labels.spelled;
  bytes = bytes_of p.objects p.objects (recursion_from_All (HoldsNumbers p.objects) p.objects (hold_numbers p.objects _ s.labels s.contents));
}

pub selected_programs_can_be_written : SelectedProgramsCanBeWritten
selected_programs_can_be_written p d c s limits fit selected =
    selected_codes_can_be_written (lowered p) d c (lowered_is_valid p s) limits (plain_objects p s) fit selected

pub typed_codes_can_be_written : TypedCodesCanBeWritten
typed_codes_can_be_written p d c t fit shown selected =
    selected_programs_can_be_written p d c (typed_is_sound p t.unit t.ends t.tokens t.typed) (typed_programs_are_within_limits p t fit) shown selected

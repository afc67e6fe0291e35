-- What the laws of lowering say of the trees of a program, brought together.
use Rattle.c_program.specs.Programs.{AProgram}
use Rattle.c_sound.specs.Sound.{IsSound}
use Rattle.c_lower.specs.c_sound_texts.proofs.Law.{typed_is_sound}
use Rattle.c_sound_sources.proofs.Law.{sources_are_sound}
use Rattle.c_lower_scheme.specs.Programs.{lowered}
use Rattle.c_lower.specs.c_lower_follows.proofs.Law.{lowering_follows}
use Rattle.c_lower_valid.proofs.Law.{lowered_is_valid}
use Rattle.c_lower_valid.proofs.Naming.{labels_stay}
use Rattle.c_lower_bounds.proofs.Law.{each_function_fits, functions_stay}
use Rattle.c_lower_calm.proofs.Law.{each_tree_is_calm}
use Rattle.c_lower_calm.proofs.Standing.{plain_statements_are_one_tree}
use Rattle.c_lower_laid.proofs.Laid.{each_function_is_laid}
use Rattle.c_lower.specs.Claims.{HasParts}
use Rattle.c_lower.proofs.Sound.{few_args}
use Rattle.c_lowered.specs.Lowered.{SoundProgramsAreLowered, TypedProgramsAreLowered, SourcesAreLowered}

has_parts : (p : AProgram) → IsSound p → HasParts p (lowered p)
has_parts p s =
    let stay = functions_stay p in
    record {
      count = stay.count;
      functions = λ n g f e d. record { same = stay.functions n g f e d; fits = each_function_fits p s n g f e d };
      objects = stay.objects;
      few = few_args p ∣ s ∣₁;
      labels = labels_stay p s;
    }

pub sound_programs_are_lowered : SoundProgramsAreLowered
sound_programs_are_lowered p s = record {
  follows = λ input bytes. lowering_follows p s input bytes;
  valid = lowered_is_valid p s;
  calm = each_tree_is_calm p;
  parts = has_parts p s;
  plain = plain_statements_are_one_tree p;
  laid = each_function_is_laid p;
}

pub typed_programs_are_lowered : TypedProgramsAreLowered
typed_programs_are_lowered p t = sound_programs_are_lowered p (typed_is_sound p t.unit t.ends t.tokens t.typed)

pub sources_are_lowered : SourcesAreLowered
sources_are_lowered bytes p are reads = sound_programs_are_lowered p (sources_are_sound bytes p are reads)

use Rattle.gg_load_phrases.proofs.Law.{unit_of_source}
use Rattle.gg_load_phrases.proofs.generated_source_has_unit.Goals as goal

pub returns : goal.returns
returns c = unit_of_source

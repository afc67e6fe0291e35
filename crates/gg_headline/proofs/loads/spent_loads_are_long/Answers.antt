use Rattle.gg_headline.proofs.Loading.{spent_loads_are_long}
use Rattle.gg_headline.proofs.loads.spent_loads_are_long.Goals as goal

pub returns : goal.returns
returns g c =
    spent_loads_are_long c.generated_source_has_program.ensures.reads c.sources_have_one_program.ensures c.generated_codes_are_bounded.ensures _

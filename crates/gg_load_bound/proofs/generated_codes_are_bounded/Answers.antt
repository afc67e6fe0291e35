use Rattle.gg_load_bound.proofs.Law.{generated_codes_are_bounded}
use Rattle.gg_load_bound.proofs.generated_codes_are_bounded.Goals as goal

pub returns : goal.returns
returns c =
    generated_codes_are_bounded c.generated_source_has_program.ensures.reads c.generated_source_has_program.ensures.needs c.generated_source_runs.ensures.run c.generated_source_runs.ensures.few

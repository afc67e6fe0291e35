use Rattle.gg_load_meaning.proofs.Whole.{source_comes, source_few, outcome_one, outcome_two}
use Rattle.gg_load_meaning.proofs.generated_source_runs.Goals as goal

pub returns-clause-run : goal.returns-clause-run
returns-clause-run c = source_comes c.tasks_mean.ensures

pub returns-clause-few : goal.returns-clause-few
returns-clause-few c = source_few

pub returns-clause-one : goal.returns-clause-one
returns-clause-one c = outcome_one

pub returns-clause-two : goal.returns-clause-two
returns-clause-two c = outcome_two

use Rattle.run_leads.proofs.Leading.{halts_answer}
use Rattle.run_leads.proofs.laws.halts_answer.Goals as goal

pub returns : goal.returns
returns c = halts_answer

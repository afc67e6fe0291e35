use Rattle.run_leads.proofs.Leading.{leads_ask}
use Rattle.run_leads.proofs.laws.leads_ask.Goals as goal

pub returns : goal.returns
returns c = leads_ask

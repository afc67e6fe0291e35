use Rattle.run_leads.proofs.Leading.{leads_compose}
use Rattle.run_leads.proofs.laws.leads_compose.Goals as goal

pub returns : goal.returns
returns c = leads_compose

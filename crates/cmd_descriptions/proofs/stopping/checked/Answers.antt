use Rattle.lr_checked.proofs.Tables.{few_sums, sums_are_first}
use Rattle.cmd_descriptions.proofs.stopping.checked.Goals as goal

pub returns-in-Ok-clause-sums : goal.returns-in-Ok-clause-sums
returns-in-Ok-clause-sums g c = few_sums c.args.tables c.is_numbered.ensures c.in-Ok.ensures.few

pub returns-in-Err-clause-refused : goal.returns-in-Err-clause-refused
returns-in-Err-clause-refused g c = record {
  fault = c.in-Err.refused.1;
  real = c.in-Err.ensures.real;
  sums = sums_are_first c.args.tables c.is_numbered.ensures c.in-Err.refused.1 c.in-Err.ensures.full;
  told = c.tell_refused.ensures;
}

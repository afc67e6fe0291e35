use Rattle.vax_validated.proofs.validated.ValidatedPass.rewrite.Goals as goal

pub returns-then-same_items-clause-alike : goal.returns-then-same_items-clause-alike
returns-then-same_items-clause-alike g c = c.alike_is_same.ensures c.args.code

pub returns-in-None-clause-alike : goal.returns-in-None-clause-alike
returns-in-None-clause-alike g c = c.alike_is_same.ensures c.args.code

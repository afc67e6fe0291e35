use Rattle.sel_terms.proofs.Trees.{answer_wanted}
use Rattle.sel_terms.proofs.pattern.pattern_effect.Goals as goal

pub returns-clause-wanted : goal.returns-clause-wanted
returns-clause-wanted c = answer_wanted c.args.classes.now c.args.rule.now _ c.effect_read.ensures

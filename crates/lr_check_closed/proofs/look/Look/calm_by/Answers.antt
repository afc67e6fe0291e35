use Rattle.std.proofs.Common.{List, [], ◌∷◌, Contains, sym, subst, ◌∙◌}
use Rattle.md_reader.specs.declared.types.Sym.TheVariants as grammar_symbol
use Rattle.lr_check_ways.specs.declared.ways.Reduction.{Reduction}
use Rattle.lr_check_closed.specs.Looks.{automaton}
use Rattle.lr_check_closed.proofs.Ending.{calms_nowhere, class_calms}
use Rattle.lr_check_closed.proofs.look.Look.calm_by.Goals as goal

pub returns-in-None : goal.returns-in-None
returns-in-None c = λ are b is. calms_nowhere (automaton c.args.self.now) c.args.state b (grammar_symbol.Class c.args.class ∷ []) (sym c.over.ensures ∙ c.in-None.is)

pub returns-then-all_settle : goal.returns-then-all_settle
returns-then-all_settle c = λ are. class_calms (automaton c.args.self.now) c.args.state c.in-Some.over c.args.class c.leading_to_calm-set.result c.args.calm.now
    c.in-Some-ways_at.ways.now (c.requires.ways c.in-Some.over c.in-Some-ways_at.ways.now c.in-Some-ways_at.ensures) (sym c.over.ensures ∙ c.in-Some.is) are
    (λ x there. c.all_settle.ensures c.if-all_settle.true x (subst (λ (xs : List Reduction). Contains xs x) (sym c.deref.ensures.value) there))

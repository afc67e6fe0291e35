use Rattle.std.proofs.lemmas.Result.{IfOk-weaker}
use Rattle.tree_meaning.specs.View.{state}
use Rattle.tree_meaning.proofs.Meanings.{root_steps}
use Rattle.tree_meaning.proofs.machine.Machine.step.Goals as goal

pub returns : goal.returns
returns c =
    IfOk-weaker _ _ _ (λ done h. root_steps c.args.self.now.program.now (state c.args.self.now) c.args.leaves.now c.in-Some.kids.now c.in-Some.root.now _ c.kids.result.now
    c.take_kids-first.result.0 c.take_kids-first.result.1 done c.act.new.self c.in-Some.ensures.cases.0 c.in_ok-stack.ensures c.kids.ensures c.take_kids-first.ensures.first
    c.take_kids-first.ensures.second h) c.act.ensures

use Rattle.std.proofs.Math.Logic.{∥∥₁_map}
use Rattle.gg_compile.proofs.Fitting.{objects_small}
use Rattle.gg_compile.proofs.Ready.{all_go}
use Rattle.gg_compile.proofs.compiler.code_of.Goals as goal

pub assemble-requires-clause-objects : goal.assemble-requires-clause-objects
assemble-requires-clause-objects c = objects_small c.args.trees.now (∥∥₁_map c.requires.ready (λ r. r.valid))

pub assemble-requires-clause-goes : goal.assemble-requires-clause-goes
assemble-requires-clause-goes c =
    rw c.generator.ensures
    (all_go c.args.trees.now c.args.accepted.now.content c.requires.ready c.is_accepted.ensures.fit c.is_accepted.ensures.never)

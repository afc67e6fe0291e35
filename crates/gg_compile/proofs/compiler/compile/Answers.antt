use Rattle.c_program.specs.Programs.{program}
use Rattle.gg_compile.proofs.Fitting.{locals_fit}
use Rattle.gg_compile.proofs.Ready.{ready, code_valid, code_keeps}
use Rattle.gg_compile.proofs.compiler.compile.Goals as goal

pub code_of-requires-clause-ready : goal.code_of-requires-clause-ready
code_of-requires-clause-ready c =
    ready c.args.source.now c.in_ok-trees.trees c.in_ok-trees.ensures.trees c.in_ok-check_needs.ensures.fit

pub code_of-requires-clause-locals : goal.code_of-requires-clause-locals
code_of-requires-clause-locals c =
    locals_fit (program c.args.source.now.held) c.in_ok-trees.trees c.in_ok-trees.ensures.parts c.in_ok-check_needs.ensures.fit

pub returns-clause-valid : goal.returns-clause-valid
returns-clause-valid c =
    code_valid c.args.source.now c.in_ok-trees.trees c.in_ok-trees.ensures.trees c.in_ok-check_needs.ensures.fit c.args.accepted.now.content
    c.in_ok-code.code c.is_accepted.ensures.fit c.in_ok-code.ensures

pub returns-clause-keeps : goal.returns-clause-keeps
returns-clause-keeps c =
    code_keeps c.args.source.now c.in_ok-trees.trees c.in_ok-trees.ensures.trees c.in_ok-check_needs.ensures.fit c.args.accepted.now.content
    c.in_ok-code.code c.is_accepted.ensures.fit c.in_ok-code.ensures

use Rattle.gg_load_program.specs.Program.{source_program}
use Rattle.cmd_load.proofs.Sizes.{within}
use Rattle.cmd_load.proofs.generated.generate.Goals as goal

pub read_source-requires : goal.read_source-requires
read_source-requires c = rw (c.deref.ensures.value, c.in_ok-source.ensures.text) (within c.args.functions c.requires.1)

pub returns-in-Ok-clause-program : goal.returns-in-Ok-clause-program
returns-in-Ok-clause-program c =
    c.in-Ok.ensures.only (source_program c.args.functions)
    (rw (c.deref.ensures.value, c.in_ok-source.ensures.text) (c.generated_source_has_program.ensures.reads c.args.functions c.requires.1))

pub unreachable-requires : goal.unreachable-requires
unreachable-requires c =
    rw c.in-Err-At.field-0-is at (
    c.in-Err-At.ensures.only (source_program c.args.functions)
    (rw (c.deref.ensures.value, c.in_ok-source.ensures.text) (c.generated_source_has_program.ensures.reads c.args.functions c.requires.1))
    )

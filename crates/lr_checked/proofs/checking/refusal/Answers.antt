use Rattle.std.proofs.Common.{refl, sym, inl, inr, subst}
use Rattle.md_reader.specs.Valid.{IsValid}
use Rattle.lr_check.specs.declared.sample.Outcome.TheVariants as outcome
use Rattle.lr_check.specs.Parse.{Replays}
use Rattle.lr_check.specs.Statement.{IsStatement}
use Rattle.lr_checked.proofs.Refusing.{replayed_blocks, replayed_loops}
use Rattle.lr_checked.specs.Refusals.{FaultIsReal}
use Rattle.lr_checked.proofs.Drawn.{drawn_statement, drawn_real}
use Rattle.lr_checked.proofs.checking.refusal.Goals as goal

pub returns-in-Ok-Blocks-clause-real : goal.returns-in-Ok-Blocks-clause-real
returns-in-Ok-Blocks-clause-real c =
    let s : IsStatement c.args.sample = drawn_statement c.args.tables.now.content c.args.flaw.now c.args.sample c.requires in
    replayed_blocks c.args.tables.now.content c.args.sample s c.in-Ok-Blocks.field-0-0
    (subst (Replays c.args.tables.now.content c.args.sample) c.in-Ok-Blocks.field-0-is c.in-Ok-Blocks.ensures.parse)

pub returns-in-Ok-Loops-clause-real : goal.returns-in-Ok-Loops-clause-real
returns-in-Ok-Loops-clause-real c =
    let s : IsStatement c.args.sample = drawn_statement c.args.tables.now.content c.args.flaw.now c.args.sample c.requires in
    replayed_loops c.args.tables.now.content c.args.sample s c.in-Ok-Loops.field-0-0
    (subst (Replays c.args.tables.now.content c.args.sample) c.in-Ok-Loops.field-0-is c.in-Ok-Loops.ensures.parse)

pub returns-in-Ok-Long-clause-real : goal.returns-in-Ok-Long-clause-real
returns-in-Ok-Long-clause-real c =
    subst (FaultIsReal c.args.tables.now.content) (sym c.unreplayed.ensures)
    (drawn_real c.args.tables.now (subst IsValid c.description.ensures c.is_valid.ensures) c.is_numbered.ensures c.args.sample c.args.flaw.now c.requires outcome.Long
    (subst (Replays c.args.tables.now.content c.args.sample) c.in-Ok-Long.field-0-is c.in-Ok-Long.ensures.parse) (inr refl))

pub returns-in-Ok-Done-clause-real : goal.returns-in-Ok-Done-clause-real
returns-in-Ok-Done-clause-real c =
    subst (FaultIsReal c.args.tables.now.content) (sym c.unreplayed-in-Ok-Done.ensures)
    (drawn_real c.args.tables.now (subst IsValid c.description.ensures c.is_valid.ensures) c.is_numbered.ensures c.args.sample c.args.flaw.now c.requires outcome.Done
    (subst (Replays c.args.tables.now.content c.args.sample) c.in-Ok-Done.field-0-is c.in-Ok-Done.ensures.parse) (inl refl))

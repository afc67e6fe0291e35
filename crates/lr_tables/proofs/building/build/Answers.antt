use Rattle.std.proofs.Common.{◌∙◌, ap, length, List, Err}
use Rattle.md_reader.specs.declared.types.Class.{Class}
use Rattle.lr_tables.specs.Statements.{stmt_of}
use Rattle.lr_tables.proofs.Limits.{built_few, full_many}
use Rattle.lr_tables.proofs.building.build.Goals as goal

pub returns-in-Ok-clause-few : goal.returns-in-Ok-clause-few
returns-in-Ok-clause-few c =
    built_few c.args.description c.is_valid.ensures _ _ _ _ c.rules.ensures (c.statements-stmt.ensures ∙ ap (λ (x : List Class). stmt_of x) c.classes.ensures)
    (ap (λ (x : List Class). length x) c.classes-2.ensures) c.in-Ok.ensures.kept.are_rows

pub returns-in-Err-clause-full : goal.returns-in-Err-clause-full
returns-in-Err-clause-full c = λ e.
    full_many c.args.description c.is_valid.ensures _ _ _ c.rules.ensures (c.statements-stmt.ensures ∙ ap (λ (x : List Class). stmt_of x) c.classes.ensures)
    (ap (λ (x : List Class). length x) c.classes-2.ensures) (c.in-Err.ensures.full (ap Err e))

use Rattle.std.proofs.lemmas.Result.{IfErr-weaker}
use Rattle.cmd_session.specs.declared.status.Status.{Status}
use Rattle.cmd_session.specs.Writing.{change}
use Rattle.cmd_files.specs.Outsides.{lookup}
use Rattle.sel_parse.specs.Shown.{first_refusal}
use Rattle.cmd_descriptions.specs.Machines.{machine_of}
use Rattle.cmd_descriptions.specs.Descriptions.{NotAcceptedFor, NoTables, Stopped, NoRules}
use Rattle.cmd_descriptions.specs.Rules.{RulesRefusedBy}
use Rattle.cmd_descriptions.proofs.Accepting.{accepted}
use Rattle.cmd_descriptions.proofs.accepted.read_accepted_for.Goals as goal

pub returns-in-Err-clause-refused : goal.returns-in-Err-clause-refused
returns-in-Err-clause-refused g c = NoTables c.in-Err.ensures.refused

pub returns-in-Err-checked-clause-refused : goal.returns-in-Err-checked-clause-refused
returns-in-Err-checked-clause-refused g c =
    Stopped c.in-Ok.tables.content c.in-Ok.ensures.description c.in-Ok.ensures.unfailed c.in-Ok.ensures.few
    (rw c.in-Ok.ensures.untold at c.in-Err-checked.ensures.refused)

pub returns-in-Ok-checked-clause-refused : goal.returns-in-Ok-checked-clause-refused
returns-in-Ok-checked-clause-refused g c =
    IfErr-weaker c.shown.result
    (λ (s : Status). RulesRefusedBy (first_refusal g.T.Templates.meaning.effect g.T.Templates.meaning.spill_effect c.in-Ok.tables.content) s
    (change g.E.Sink c.args.report.now c.shown.new.report))
    (λ (s : Status). NotAcceptedFor (machine_of g.W.TargetWord.target_word g.T.Templates.meaning) c.args.name.now (lookup g.F.Folder c.args.folder.now c.read_tables.new.folder) s
    (change g.E.Sink c.args.report.now c.shown.new.report))
    (λ s r. NoRules c.in-Ok.tables.content c.in-Ok.ensures.description c.in-Ok.ensures.unfailed c.in-Ok.ensures.few c.in-Ok-checked.ensures.sums c.in-Ok-checked.ensures.never r)
    (rw (c.in-Ok-checked.ensures.tables, c.in-Ok-checked.ensures.untold, c.in-Ok.ensures.untold) at c.shown.ensures.refused)

pub returns-in-Ok-checked-clause-accepted : goal.returns-in-Ok-checked-clause-accepted
returns-in-Ok-checked-clause-accepted g c =
    accepted (machine_of g.W.TargetWord.target_word g.T.Templates.meaning) c.shown.result c.in-Ok.tables c.in-Ok-checked.tables c.shown.ensures.tables c.shown.ensures.shown c.in-Ok-checked.ensures.tables
    c.in-Ok.ensures.few c.in-Ok-checked.ensures.sums c.in-Ok-checked.ensures.never

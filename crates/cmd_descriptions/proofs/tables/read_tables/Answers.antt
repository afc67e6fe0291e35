use Rattle.std.proofs.lemmas.Result.{IfErr-weaker}
use Rattle.cmd_session.specs.declared.status.Status.{Status}
use Rattle.cmd_session.specs.Writing.{change}
use Rattle.cmd_files.specs.Outsides.{lookup}
use Rattle.cmd_descriptions.specs.Descriptions.{BuildRefused, TablesRefused, NotRead, NotBuilt}
use Rattle.cmd_descriptions.proofs.tables.read_tables.Goals as goal

pub returns-in-Ok-clause-refused : goal.returns-in-Ok-clause-refused
returns-in-Ok-clause-refused g c =
    IfErr-weaker c.build_tables.result
    (λ (s : Status). BuildRefused c.in-Ok.text.description s (change g.E.Sink c.args.report.now c.build_tables.new.report))
    (λ (s : Status). TablesRefused g.W.TargetWord.target_word c.args.name.now (lookup g.F.Folder c.args.folder.now c.read_file.new.folder) s
    (change g.E.Sink c.args.report.now c.build_tables.new.report))
    (λ s r. NotBuilt c.in-Ok.text.description c.in-Ok.ensures.item c.in-Ok.ensures.unfailed r)
    (rw c.in-Ok.ensures.untold at c.build_tables.ensures.refused)

pub returns-in-Err-clause-refused : goal.returns-in-Err-clause-refused
returns-in-Err-clause-refused g c = NotRead c.in-Err.ensures.refused

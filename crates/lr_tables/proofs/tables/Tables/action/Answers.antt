use Rattle.std.proofs.Common.{sym, subst, List}
use Rattle.lr_tables.specs.declared.types.Choice.{Choice}
use Rattle.lr_tables.specs.Candidates.{Candidates}
use Rattle.lr_tables.specs.Statements.{stmt_of}
use Rattle.lr_tables.proofs.Law.{candidates}
use Rattle.lr_tables.proofs.Validity.{is_grammar}
use Rattle.lr_tables.proofs.tables.Tables.action.Goals as goal

pub returns-clause-candidates : goal.returns-clause-candidates
returns-clause-candidates c = λ a l.
    let t = c.args.self.now in
    subst (λ (x : List Choice). Candidates t.content.rules (stmt_of t.content.classes) t a c.args.token x) (sym c.choices.ensures)
    (candidates t.content.rules (stmt_of t.content.classes) _ (is_grammar t.content c.is_valid.ensures) t.content t.rows c.is_numbered.ensures a c.args.state c.args.token l)

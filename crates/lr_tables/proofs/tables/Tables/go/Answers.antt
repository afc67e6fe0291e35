use Rattle.std.proofs.Common.{sym, subst, Option, ℕ}
use Rattle.lr_tables.specs.Candidates.{Goes}
use Rattle.lr_tables.specs.Statements.{stmt_of}
use Rattle.lr_tables.proofs.Law.{goes}
use Rattle.lr_tables.proofs.Validity.{is_grammar}
use Rattle.lr_tables.proofs.tables.Tables.go.Goals as goal

pub returns-clause-goes : goal.returns-clause-goes
returns-clause-goes c = λ a l.
    let t = c.args.self.now in
    subst (λ (x : Option ℕ). Goes t.content.rules (stmt_of t.content.classes) t a c.args.class x) (sym c.over.ensures)
    (goes t.content.rules (stmt_of t.content.classes) _ (is_grammar t.content c.is_valid.ensures) t.content t.rows c.is_numbered.ensures a c.args.state c.args.class l)

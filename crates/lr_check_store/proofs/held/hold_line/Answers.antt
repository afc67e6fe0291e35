use Rattle.std.proofs.Common.{◌≡◌, Contains, subst, sym}
use Rattle.lr_check_rows.specs.declared.rows.Line.{Line}
use Rattle.lr_check_store.specs.Store.{AreApart}
use Rattle.lr_check_store.proofs.Lines.{apart_more}
use Rattle.lr_check_store.proofs.held.hold_line.Goals as goal

pub returns-in_ok-push-in-None-clause-apart : goal.returns-in_ok-push-in-None-clause-apart
returns-in_ok-push-in-None-clause-apart c = λ apart. subst AreApart (sym c.in_ok-push-in-None.ensures.items)
    (apart_more c.args.row.now.lines.items c.args.line apart (subst (λ ls. (l : Line) → Contains ls l → l.list ≡ c.args.line.list → ⊥) c.deref.ensures.value c.in-None.ensures.none))

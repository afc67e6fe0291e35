use Rattle.std.proofs.Common.{List, sym, subst}
use Rattle.lr_tables.specs.View.{RowView}
use Rattle.lr_tables.specs.Entries.{AreEven}
use Rattle.lr_tables.specs.Kept.{IsKept}
use Rattle.lr_tables.proofs.KeepTurns.{are_even, are_tables}
use Rattle.lr_tables.proofs.kept.all_kept.Goals as goal

pub keep-requires : goal.keep-requires
keep-requires c =
    subst AreEven (sym c.as_slice.ensures.value) (are_even c.args.rules.now c.args.stmt c.args.classes c.in_ok-rows.rows.items c.requires.few c.in_ok-rows.ensures.rows)

pub returns-clause-kept : goal.returns-clause-kept
returns-clause-kept c =
    are_tables c.args.rules.now c.args.stmt c.args.classes c.in_ok-rows.rows.items c.in_ok-kept.kept c.in_ok-rows.ensures.rows
    (subst (λ (x : List RowView). IsKept x c.in_ok-kept.kept) c.as_slice.ensures.value c.in_ok-kept.ensures)

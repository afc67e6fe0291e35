-- The rows, by computation.
use Rattle.std.proofs.Common.{refl}
use Rattle.sel_parse_selected.specs.Rows.{Rows}

pub worked : Rows
worked = record {
  tree = refl;
  refused = refl;
  place = refl;
  full = refl;
  stuck = refl;
  same = refl;
  other_size = refl;
  within = refl;
  without = refl;
  unsigned = refl;
}

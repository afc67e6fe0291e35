-- The rows, by computing.
use Rattle.std.proofs.Common.{refl}
use Rattle.vax_homes.specs.Rows.{Rows}

pub rows : Rows
rows = record {
  deferred_row = refl;
  address_row = refl;
  nobody_row = refl;
  seven_row = refl;
  busy_row = refl;
  byte_row = refl;
  indexed_row = refl;
}

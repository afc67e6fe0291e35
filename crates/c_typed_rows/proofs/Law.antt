-- Each operator's function is its rows.
use Rattle.c_typed_rows.specs.Rows.{RowsAreAnswered}
use Rattle.c_typed_rows.proofs.Operands.{taken, fit, values, casts, sizes, type_sizes, choices}
use Rattle.c_typed_rows.proofs.Prefixes.{prefixes_mean, indexes, steps_mean}
use Rattle.c_typed_rows.proofs.Stores.{assignments}

pub rows_are_answered : RowsAreAnswered
rows_are_answered = record {
  prefixes = prefixes_mean;
  indexes = indexes;
  steps = steps_mean;
  casts = casts;
  sizes = sizes;
  type_sizes = type_sizes;
  choices = choices;
  assignments = assignments;
  values = values;
  taken = taken;
  fit = fit;
}

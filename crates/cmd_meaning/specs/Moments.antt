-- What is left of a source's run.
use Rattle.std.specs.Prelude.{ℕ, ◌+◌, ◌-◌, length}
use Rattle.gg_base.specs.Runs.{Remaining}

-- the bytes and the counted turns and calls that are still to come
abbrev pub left_of : Remaining → ℕ
left_of r = length r.outcome.output + (r.outcome.number - r.taken)

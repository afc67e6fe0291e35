-- The examples, by computation.
use Rattle.std.proofs.Common.{refl}
use Rattle.c_types.specs.Constants.{scale}
use Rattle.c_types.specs.Types.{size_of, target, integer_size}
use Rattle.c_lower_scheme.specs.Examples.{Examples}

pub worked : Examples
unfolding scale size_of target integer_size
worked = record { calling = refl; indexing = refl; storing = refl; holding = refl }

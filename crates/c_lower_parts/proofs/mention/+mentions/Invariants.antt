use Rattle.std.proofs.Common.{◌*◌}
use Rattle.c_types.specs.Typed.{expression_of, place_of, expressions_of}
use Rattle.c_lower_parts.specs.Sizes.{size, place_size, all_size}
use Rattle.c_lower_parts.proofs.mention.+mentions.Given as goal

abbrev pub decreases-mentions : goal.decreases-mentions
decreases-mentions l = 4 * size (expression_of l.e.now)

abbrev pub decreases-place_mentions : goal.decreases-place_mentions
decreases-place_mentions l = 4 * place_size (place_of l.place.now)

abbrev pub decreases-any_mentions : goal.decreases-any_mentions
decreases-any_mentions l = 4 * all_size (expressions_of l.es.now)

-- The law of this crate: L32's templates store only to symbols that are places.
use Rattle.sel_parse_effect.specs.Places.{StoresToPlaces}
use Rattle.l32_target_statements.specs.l32_target_meaning.specs.L32.{l32}

abbrev pub StoresGoToPlaces : Type 0
StoresGoToPlaces = StoresToPlaces l32

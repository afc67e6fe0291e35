-- What the code holds of results as the plain data of which the definitions speak.
use Rattle.term_core.specs.Shape.{Shape}
use Rattle.vax_pairs.specs.TermStates as terms
use Rattle.vax_pairs_walk.specs.Views.{held, signs_of}
use Rattle.vax_pairs_walk.specs.declared.results.Outcome.{Outcome}

abbrev pub given_of : Outcome → Shape × terms.Signs
given_of g = (held g.number, signs_of g.signs)

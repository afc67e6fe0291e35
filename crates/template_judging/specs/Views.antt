-- What the code has of lines and templates as the plain data of which the definitions speak.
use Rattle.std.specs.Prelude.{ℕ, List, map}
use Rattle.term_core.specs.Shape.{Shape, shape_of}
use Rattle.sel_terms.specs.Effects.{act_of}
use Rattle.vax_templates.specs.Giving.{Given}
use Rattle.vax_templates.specs.Giving as given
use Rattle.vax_templates.specs.Deeds.{Last, Deed}
use Rattle.vax_templates.specs.Deeds as last
use Rattle.vax_templates.specs.Progress.{Progress}
use Rattle.vax_target_taking.specs.Views.{held, term_of}
use Rattle.template_judging.specs.declared.outcome.Outcome.{Outcome}
use Rattle.template_judging.specs.declared.outcome.Outcome.TheVariants as outcomes
use Rattle.template_judging.specs.declared.step.Before.{Before}
use Rattle.template_judging.specs.declared.step.Before.TheVariants as befores
use Rattle.template_judging.specs.declared.step.Step.{Step}
use Rattle.template_judging.specs.declared.dropped.LineReads.{LineReads}
use Rattle.template_judging.specs.declared.found.Run.{Run}

abbrev pub given_of : Outcome → Given
given_of (outcomes.Computes t) = given.Computes (held t)
given_of (outcomes.Divides t d) = given.Divides (held t) (held d)
given_of (outcomes.Compares a b) = given.Compares (held a) (held b)
given_of (outcomes.Tests t) = given.Tests (held t)

abbrev pub last_of : Before → Last
last_of befores.Plain = last.Plain
last_of (befores.Compared a b) = last.Compared (held a) (held b)
last_of (befores.Tested t) = last.Tested (held t)
last_of (befores.Returning t) = last.Returning (held t)
last_of (befores.Ended deed) = last.Ended (act_of deed.value)

abbrev pub deed_of : Step → Deed
deed_of d = record {
  own = term_of d.own;
  last = last_of d.leaves;
  divisors = map shape_of d.divisors.items;
  reads = map shape_of d.reads.items;
  missized = d.is_missized;
}

abbrev pub reads_of : LineReads → ℕ × List Shape
reads_of r = (r.line, map shape_of r.terms.items)

abbrev pub progress_of : Run → Progress
progress_of r = record {
  own = term_of r.own;
  last = last_of r.leaves;
  divisors = map shape_of r.divisors.items;
  reads =
      map reads_of r.reads.items;
}

use Rattle.std.proofs.Common.{◌≡◌, map, drop}
use Rattle.sel_terms.specs.Effects.{effect_of}
use Rattle.vax_templates.specs.Dropped.{first_dropped}
use Rattle.template_judging.specs.Views.{reads_of}
use Rattle.template_judging.proofs.dropped.first_dropped.Given as goal

abbrev pub invariant-loop-read : goal.invariant-loop-read
invariant-loop-read l = first_dropped (effect_of l.effect) (map reads_of l.reads) ≡ first_dropped (effect_of l.effect) (map reads_of (drop l.read-index l.reads))

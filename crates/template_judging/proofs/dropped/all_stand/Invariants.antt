use Rattle.std.proofs.Common.{◌≡◌, map, drop}
use Rattle.std.specs.List.{list_all}
use Rattle.term_core.specs.Shape.{shape_of}
use Rattle.sel_terms.specs.Effects.{effect_of}
use Rattle.vax_templates.specs.Dropped.{effect_contains}
use Rattle.template_judging.proofs.dropped.all_stand.Given as goal

abbrev pub invariant-loop-t : goal.invariant-loop-t
invariant-loop-t l = list_all (effect_contains (effect_of l.effect)) (map shape_of l.reads) ≡ list_all (effect_contains (effect_of l.effect)) (map shape_of (drop l.t-index l.reads))

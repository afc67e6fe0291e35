use Rattle.std.proofs.Common.{◌+◌}
use Rattle.gg_base.specs.Numbers.{truth}
use Rattle.vax_image_branches.specs.Rounds.{room}
use Rattle.vax_image_forms.proofs.Settling.{SettlesIn}
use Rattle.vax_image_forms.proofs.window.settle.Given as goal

abbrev pub invariant-loop-grows : goal.invariant-loop-grows
invariant-loop-grows l = SettlesIn l.pieces l.window.first l.window.count l.fn.forms l.grew l.grows l.forms

abbrev pub decreases-loop-grows : goal.decreases-loop-grows
decreases-loop-grows l = room l.forms + truth l.grows

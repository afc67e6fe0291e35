use Rattle.std.proofs.Common.{◌+◌, ◌-◌, ◌*◌, length}
use Rattle.vax_image_branches.specs.Least.{IsBelow}
use Rattle.vax_image_branches.specs.Rounds.{room}
use Rattle.vax_image_forms.proofs.least.sweep.Given as goal

abbrev pub invariant-loop-first : goal.invariant-loop-first
invariant-loop-first l = IsBelow l.pieces l.forms

-- how often a branch may still grow, and then how many pieces stand behind the window's first
abbrev pub decreases-loop-first : goal.decreases-loop-first
decreases-loop-first l = room l.forms * (length l.pieces + 1) + (length l.pieces - l.first)

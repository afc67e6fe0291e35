use Rattle.vax_image_forms.proofs.Settling.{GoingIn}
use Rattle.vax_image_forms.proofs.window.round.Given as goal

abbrev pub invariant-loop-j : goal.invariant-loop-j
invariant-loop-j l = GoingIn l.pieces l.window.first l.window.count l.fn.forms l.j l.grew l.forms

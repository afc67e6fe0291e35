use Rattle.vax_image_forms.proofs.Shifting.{PlacedIn}
use Rattle.vax_image_forms.proofs.window.places_in.Given as goal

abbrev pub invariant-loop-j : goal.invariant-loop-j
invariant-loop-j l = PlacedIn l.pieces l.forms l.window.first l.j l.places.items l.end

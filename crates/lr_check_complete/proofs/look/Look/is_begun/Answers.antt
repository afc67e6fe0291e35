use Rattle.std.proofs.Common.{sym, subst}
use Rattle.lr_check_found.specs.declared.places.Origin.{Origin}
use Rattle.lr_check_found.specs.Items.{Begun}
use Rattle.lr_check_complete.specs.Looks.{automaton}
use Rattle.lr_check_complete.proofs.look.Look.is_begun.Goals as goal

pub returns-in-Root : goal.returns-in-Root
returns-in-Root c = λ u. subst (λ (o : Origin). Begun (automaton c.args.self.now) c.args.self.now.found.now c.args.place.now o) (sym c.in-Root.is) (Begun.root (c.fits.ensures u))

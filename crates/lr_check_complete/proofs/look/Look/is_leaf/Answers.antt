use Rattle.std.proofs.lemmas.Bool.{eqb-true}
use Rattle.lr_check_complete.specs.Looks.{automaton}
use Rattle.lr_check_complete.proofs.Framing.{none_kids}
use Rattle.lr_check_complete.proofs.Following.{made_leaf}
use Rattle.lr_check_complete.proofs.look.Look.is_leaf.Goals as goal

pub returns-in-Some : goal.returns-in-Some
returns-in-Some c = λ u. made_leaf (automaton c.args.self.now) c.args.self.now.found.now c.args.number c.in-Some.field-0-1 c.in-Some.place c.in-Some.ensures.0 c.in-Some.ensures.1
    (none_kids c.in-Some.place.token c.kids.result.now c.kids.ensures (eqb-true _ _ u))

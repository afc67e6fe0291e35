use Rattle.std.proofs.Common.{◌≡◌, ℕ, subst, arith}
use Rattle.vax_image_forms.proofs.Settling.{GoingIn, stayed, grew_on, rounded}
use Rattle.vax_image_forms.proofs.window.round.Goals.{then-turn, else-turn}
use Rattle.vax_image_forms.proofs.window.round.Goals as goal

pub loop-j-preserved : goal.loop-j-preserved
loop-j-preserved c =
    let w = c.args.window in
    elim c.if-turn.branch [
      | then-turn x ↦ rw x.grew-is (grew_on c.args.pieces.now c.args.places.now c.args.forms.now c.loop-j.forms c.turn.new.forms w.first w.count c.loop-j.j c.loop-j.grew
          c.requires.below c.requires.places c.loop-j-test.true c.loop-j.invariant (rw x.if-turn.true at c.turn.ensures))
      | else-turn x ↦ rw x.grew-is (stayed c.args.pieces.now c.args.places.now c.args.forms.now c.loop-j.forms c.turn.new.forms w.first w.count c.loop-j.j c.loop-j.grew
          c.requires.places c.loop-j-test.true c.loop-j.invariant (rw x.if-turn.false at c.turn.ensures))
    ]

pub returns : goal.returns
returns c =
    let w = c.args.window in
    let all : c.loop-j.j ≡ w.count = omega arith in
    rounded c.args.pieces.now c.args.forms.now c.loop-j.forms w.first w.count c.loop-j.grew
    (subst (λ (j : ℕ). GoingIn c.args.pieces.now w.first w.count c.args.forms.now j c.loop-j.grew c.loop-j.forms) all c.loop-j.invariant)

use Rattle.std.proofs.Common.{ℕ, take, true, ◌≡◌}
use Rattle.gg_base.proofs.Facts.{false_true}
use Rattle.vax_codes.specs.Marks.{is_in}
use Rattle.vax_codes.proofs.Marking.{adds_none, one_more}
use Rattle.vax_codes.proofs.marks.Marks.add_all.Goals as goal

pub loop-place-init : goal.loop-place-init
loop-place-init c = adds_none (λ (p : ℕ). is_in p (take 0 c.args.places.now) ≡ true) c.args.self.now (λ p e. false_true e)

pub loop-place-preserved : goal.loop-place-preserved
loop-place-preserved c =
    one_more c.args.places.now c.loop-place.place-index 0 c.args.self.now c.loop-place.self c.add.new.self c.loop-place-test.true c.loop-place.invariant c.in_ok-add.ensures

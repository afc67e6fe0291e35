use Rattle.std.proofs.Common.{ℕ, length, refl, ap, arith}
use Rattle.lr_check_complete.specs.Looks.{automaton}
use Rattle.lr_check_complete.specs.Kids.{ReducesIn}
use Rattle.lr_check_complete.proofs.Turns.{looks_there, looks_both, looks_map, up_to}
use Rattle.lr_check_complete.proofs.look.Look.all_reductions.Goals as goal

pub loop-number-init : goal.loop-number-init
loop-number-init c = looks_there c.args.self.now _ _ (λ i lt. absurd (omega (arith, lt)))

pub loop-number-preserved : goal.loop-number-preserved
loop-number-preserved c = looks_both c.args.self.now _ _ _ _ _ _
    (λ below here. up_to c.loop-number.number (λ (i : ℕ). ReducesIn (automaton c.args.self.now) c.args.self.now.found.now i) c.loop-number.number below refl here)
    c.loop-number.invariant c.in_ok-new_reductions.ensures

pub returns : goal.returns
returns c = looks_map c.args.self.now _ _ _ _ (λ g i lt. g i (omega (arith, lt, ap length c.settlings-number-end.ensures))) c.loop-number.invariant

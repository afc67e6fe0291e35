use Rattle.std.proofs.Common.{◌≡◌, ℕ, drop, subst, arith}
use Rattle.vax_codes.specs.Nexts.{HasNexts}
use Rattle.vax_codes.proofs.Finding.{all_behind}
use Rattle.vax_codes.proofs.nexts.Nexts.of.Goals as goal

pub returns : goal.returns
returns c =
    let end : c.loop-place.place ≡ 0 = omega (arith, c.loop-place-test.false) in
    λ name. all_behind c.loop-place.nexts c.args.items.now name (subst (λ (k : ℕ). HasNexts c.loop-place.nexts (drop k c.args.items.now) k) end c.loop-place.invariant)

use Rattle.std.proofs.Common.{◌≡◌, ℕ, length, subst, arith}
use Rattle.vax_codes.specs.Marks.{Adds}
use Rattle.vax_codes.proofs.Bringing.{Asking, none_asked, asked_more, all_asked}
use Rattle.vax_codes.proofs.reading.ask_all.Goals as goal

pub loop-place-init : goal.loop-place-init
loop-place-init c = none_asked c.args.items.now c.args.marks.now

pub loop-place-preserved : goal.loop-place-preserved
loop-place-preserved c =
    asked_more c.args.items.now c.loop-place.place c.index-items-place.result c.args.marks.now c.loop-place.marks c.ask.new.marks c.loop-place-test.true c.index-items-place.is
    c.loop-place.invariant c.in_ok-ask.ensures

pub returns : goal.returns
returns c =
    let end : c.loop-place.place ≡ length c.args.items.now = omega (arith, c.loop-place-test.false, c.loop-place.auto.place-end) in
    all_asked c.args.items.now c.args.marks.now c.loop-place.marks c.requires
    (subst (λ (n : ℕ). Adds (Asking c.args.items.now n) c.args.marks.now c.loop-place.marks) end c.loop-place.invariant)

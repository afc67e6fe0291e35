use Rattle.std.proofs.Common.{◌≡◌, ◌-◌, ◌+◌, take, drop, ◌∙◌, arith}
use Rattle.sel_parse_desk.proofs.JoinedLemmas.{one_there}
use Rattle.sel_parse_desk.proofs.entries.Entries.alone.Goals as goal

pub returns : goal.returns
returns g c =
    let one : c.args.at + 1 - c.args.at ≡ 1 = omega arith in
    (λ i. take (one i) (drop c.args.at (c.attrs.ensures.attrs i))) ∙ one_there c.args.self.now c.args.at c.requires

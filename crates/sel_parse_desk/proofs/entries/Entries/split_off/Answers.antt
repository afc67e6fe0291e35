use Rattle.std.proofs.Common.{◌≡◌, Vec, List, length, take, drop, sym, ap, ◌∙◌, arith, length-take, length-drop}
use Rattle.sel_parse_desk.specs.Entries.{Entry}
use Rattle.sel_parse_desk.specs.Joined.{joined}
use Rattle.sel_parse_desk.proofs.JoinedLemmas.{length-joined, joined-take, joined-drop, are_low-take, are_low-drop, low_so}
use Rattle.sel_parse_desk.proofs.entries.Entries.split_off.Goals as goal

pub split_off-requires : goal.split_off-requires
split_off-requires g c =
    let long : length c.args.self.now ≡ length c.self.inside.kinds.items =
    sym (ap (λ (es : List (Entry g.row.O.Denot)). length es) c.self.view_is)
    ∙ length-joined c.self.inside.kinds.items c.self.inside.attrs.items c.self.invariant.0 in
    omega (arith, long, c.requires)

pub invariant_of-result : goal.invariant_of-result
invariant_of-result g c =
    let k = ap (λ (ks : List _). length ks) c.in_ok-kinds.ensures.tail in
    let a = ap (λ (hs : List _). length hs) c.in-Ok.ensures.tail in
    let l = length-drop c.args.at c.self.inside.kinds.items in
    let m = length-drop c.args.at c.self.inside.attrs.items in (
      omega (arith, k, a, l, m, c.self.invariant.0),
      low_so c.in-Ok.attrs.items (drop c.args.at c.self.inside.attrs.items) c.in-Ok.ensures.tail (are_low-drop c.args.at c.self.inside.attrs.items c.self.invariant.1),
    )

pub invariant_of-self-in-Ok : goal.invariant_of-self-in-Ok
invariant_of-self-in-Ok g c =
    let k = ap (λ (ks : List _). length ks) c.in_ok-kinds.ensures.items in
    let a = ap (λ (hs : List _). length hs) c.in-Ok.ensures.items in
    let l = length-take c.args.at c.self.inside.kinds.items in
    let m = length-take c.args.at c.self.inside.attrs.items in (
      omega (arith, k, a, l, m, c.self.invariant.0),
      low_so c.split_off-2.new.self.items (take c.args.at c.self.inside.attrs.items) c.in-Ok.ensures.items (are_low-take c.args.at c.self.inside.attrs.items c.self.invariant.1),
    )

pub invariant_of-self-in-Err-1 : goal.invariant_of-self-in-Err-1
invariant_of-self-in-Err-1 g c =
    let same = c.truncate.ensures.items ∙ ap (λ (v : Vec _ _). take c.args.at v.items) c.in-Err.ensures.err in
    let k = ap (λ (ks : List _). length ks) c.in_ok-kinds.ensures.items in
    let a = ap (λ (hs : List _). length hs) same in
    let l = length-take c.args.at c.self.inside.kinds.items in
    let m = length-take c.args.at c.self.inside.attrs.items in (
      omega (arith, k, a, l, m, c.self.invariant.0),
      low_so c.truncate.new.self.items (take c.args.at c.self.inside.attrs.items) same (are_low-take c.args.at c.self.inside.attrs.items c.self.invariant.1),
    )

pub returns-in-Ok-clause-before : goal.returns-in-Ok-clause-before
returns-in-Ok-clause-before g c =
    (λ i. joined (c.in_ok-kinds.ensures.items i) (c.in-Ok.ensures.items i))
    ∙ (joined-take c.args.at c.self.inside.kinds.items c.self.inside.attrs.items ∙ ap (λ (es : List (Entry g.row.O.Denot)). take c.args.at es) c.self.view_is)

pub returns-in-Ok-clause-behind : goal.returns-in-Ok-clause-behind
returns-in-Ok-clause-behind g c =
    (λ i. joined (c.in_ok-kinds.ensures.tail i) (c.in-Ok.ensures.tail i))
    ∙ (joined-drop c.args.at c.self.inside.kinds.items c.self.inside.attrs.items ∙ ap (λ (es : List (Entry g.row.O.Denot)). drop c.args.at es) c.self.view_is)

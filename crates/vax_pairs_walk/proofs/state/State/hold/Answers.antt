use Rattle.std.proofs.Common.{◌≡◌, List, map, slice_set, ap, ◌∙◌}
use Rattle.std.proofs.lemmas.List.{map-set}
use Rattle.term_core.specs.Shape.{Shape, shape_of}
use Rattle.vax_pairs_walk.specs.Views.{signs_of, carry_of}
use Rattle.vax_pairs_walk.proofs.state.State.hold.Goals as goal

pub returns : goal.returns
returns c =
    let s = c.args.self.now in
    let e : shape_of c.into_inner.result ≡ shape_of c.args.t.value = cc c.into_inner.ensures in
    ap (λ (ts : List Shape). record { registers = ts; signs = signs_of s.signs; carry = carry_of s.carry })
    (map-set shape_of s.registers.items c.args.r c.into_inner.result ∙ ap (λ (t : Shape). slice_set (map shape_of s.registers.items) c.args.r t) e)

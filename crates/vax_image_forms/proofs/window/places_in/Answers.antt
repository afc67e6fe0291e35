use Rattle.std.proofs.Common.{◌≡◌, ℕ, ◌+◌, subst, refl, arith, ◌∙◌}
use Rattle.vax_image_forms.specs.Windows.{ArePlacesIn}
use Rattle.vax_image_forms.proofs.Shifting.{read_fits, read_on, are_small}
use Rattle.vax_image_forms.proofs.window.places_in.Goals as goal

pub overflow_add-end : goal.overflow_add-end
overflow_add-end c =
    let w = c.args.window in
    let l = c.loop-j in
    omega (
      arith,
      read_fits c.args.pieces.now c.args.forms.now w.first l.j (w.first + l.j) l.places.items l.end c.from-end.result c.requires.pieces refl (omega arith)
          (c.from-end.ensures ∙ c.length.ensures) l.invariant,
    )

pub loop-j-preserved : goal.loop-j-preserved
loop-j-preserved c =
    let w = c.args.window in
    let l = c.loop-j in
    rw c.in_ok-push.ensures.items (read_on c.args.pieces.now c.args.forms.now w.first l.j (w.first + l.j) l.places.items l.end c.from-end.result
    c.requires.forms refl (omega arith) (c.from-end.ensures ∙ c.length.ensures) l.invariant)

pub returns-clause-small : goal.returns-clause-small
returns-clause-small c =
    let w = c.args.window in
    let l = c.loop-j in
    let all : l.j ≡ w.count = omega arith in
    are_small c.args.pieces.now c.args.forms.now w.first w.count l.places.items c.requires.pieces c.requires.inside
    (subst (λ (j : ℕ). ArePlacesIn c.args.pieces.now c.args.forms.now w.first j l.places.items) all l.invariant.places)

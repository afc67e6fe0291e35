use Rattle.std.proofs.Common.{length, [], ◌∷◌, ◌++◌, ap, ◌∙◌, arith}
use Rattle.lr_check_store.specs.Store.{StoreView}
use Rattle.lr_check_store.proofs.Starting.{sound_ways}
use Rattle.lr_check_store.proofs.store.Store.add_ways.Goals as goal

pub returns : goal.returns
returns c = λ A sound are. sound_ways A c.args.self.now _ c.args.state c.args.ways sound (ap (λ (v : StoreView). v.rows) c.self.view_is) (ap (λ (v : StoreView). v.lists) c.self.view_is)
    (c.in_ok-push.ensures.items ∙ ap (λ (v : StoreView). v.ways ++ c.args.ways ∷ []) c.self.view_is)
    (let ok = c.self.inside.ways.ok.0 in let many = ap (λ (v : StoreView). length v.ways) c.self.view_is in
    omega (arith, ok, many, c.number.ensures, c.if-number-len.false, c.len.ensures)) are

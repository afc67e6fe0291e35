use Rattle.std.proofs.Common.{length, [], ◌∷◌, ◌++◌, refl, ap, ◌∙◌, arith}
use Rattle.lr_check_rows.specs.declared.rows.Row.{Row}
use Rattle.lr_check_store.specs.Store.{StoreView}
use Rattle.lr_check_store.proofs.Starting.{sound_row}
use Rattle.lr_check_store.proofs.store.Store.add_row.Goals as goal

pub returns : goal.returns
returns c = λ A sound.
    let r : Row = record { state = c.args.state; token = c.args.token; places = 0; lines = c.new.result } in
    sound_row A c.args.self.now _ r sound (c.in_ok-push.ensures.items ∙ ap (λ (v : StoreView). v.rows ++ r ∷ []) c.self.view_is) (ap (λ (v : StoreView). v.lists) c.self.view_is)
    (ap (λ (v : StoreView). v.ways) c.self.view_is)
    (let ok = c.self.inside.rows.ok.0 in let many = ap (λ (v : StoreView). length v.rows) c.self.view_is in
    omega (arith, ok, many, c.slot_of.ensures, c.if-slot_of-len.false, c.len.ensures)) refl c.new.ensures.items

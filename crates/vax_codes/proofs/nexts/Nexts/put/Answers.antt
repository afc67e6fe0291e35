use Rattle.std.proofs.Common.{◌≡◌, ◌∷◌, rules, sym, subst}
use Rattle.std.proofs.lemmas.Grind.{common_steps}
use Rattle.vax_core.specs.declared.code.CodeItem.{CodeItem}
use Rattle.vax_core.specs.declared.code.CodeItem.TheVariants as item_kind
use Rattle.vax_codes.specs.Nexts.{HasNexts}
use Rattle.vax_codes.proofs.Finding.{label_in_front}
use Rattle.vax_codes.proofs.nexts.Nexts.put.Goals as goal

pub returns-in_ok-add-in-Label : goal.returns-in_ok-add-in-Label
returns-in_ok-add-in-Label c =
    let is : c.args.item.now ≡ item_kind.Label c.as_slice.result.now = search (rules, common_steps) in
    λ items h.
    subst (λ (x : CodeItem). HasNexts c.add.new.self (x ∷ items) c.args.place) (sym is)
    (label_in_front c.args.self.now c.add.new.self c.as_slice.result.now items c.args.place c.in_ok-add-in-Label.ensures.names c.in_ok-add-in-Label.ensures.next c.in_ok-add-in-Label.ensures.last h)

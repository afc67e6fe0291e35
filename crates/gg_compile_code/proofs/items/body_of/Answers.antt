use Rattle.std.proofs.Common.{◌≡◌, ℕ, ◌<◌, length, get_or, sym, ◌∙◌, subst, rules}
use Rattle.vax_target.specs.vax_target_meaning.specs.Vax.{vax}
use Rattle.gg_compile_code.specs.Going.{ItemGoes}
use Rattle.gg_compile_code.proofs.Putting.{at_index, begins, more_selected}
use Rattle.gg_compile_code.proofs.items.body_of.Goals as goal

pub loop-item-init : goal.loop-item-init
loop-item-init c = record {
  code = begins vax _ _ _ _ _ c.new-items.ensures.items c.new-slots.ensures.used;
  first = c.new-slots.ensures.first;
}

pub put_item-requires : goal.put_item-requires
put_item-requires c =
    let items = c.args.f.now.items in
    let i = c.loop-item.item-index in
    let x = c.item-item.result in
    let lt : i < length items = search rules in
    let at : get_or items i x ≡ x = search rules in
    record {
      goes =
          subst (λ (l : ℕ). ItemGoes vax c.args.generator.now.tables.content c.args.program.now l x) (sym c.loop-item.invariant.first)
          (c.requires.goes i x (at_index items i x lt at));
    }

pub loop-item-preserved : goal.loop-item-preserved
loop-item-preserved c =
    let items = c.args.f.now.items in
    let i = c.loop-item.item-index in
    let x = c.item-item.result in
    let lt : i < length items = search rules in
    let at : get_or items i x ≡ x = search rules in
    let put = c.in_ok-put_item.ensures in
    record {
      code = more_selected vax _ _ items i _ _ x c.loop-item.slots _ _ _ lt at c.loop-item.invariant.first c.loop-item.invariant.code put;
      first = put.first ∙ c.loop-item.invariant.first;
    }

use Rattle.std.proofs.Common.{◌≡◌, ◌+◌, ◌++◌, ◌∷◌, [], List, take, get_or, sym, ap, ◌∙◌, suc, ℕ, arith, rules}
use Rattle.std.proofs.Math.Seq.{take-suc}
use Rattle.vax_core.specs.declared.code.AreaItem.{AreaItem}
use Rattle.tree_core.specs.declared.program.Object.{Object}
use Rattle.gg_compile_law.specs.Spelling.{block_of, blocks_of}
use Rattle.gg_compile_area.proofs.Steps.{blocks_more}
use Rattle.gg_compile_area.proofs.area.area_items.Goals as goal

pub loop-o-preserved : goal.loop-o-preserved
loop-o-preserved c =
    let all = c.args.objects.now in
    let i = c.loop-o.o-index in
    let o = c.o-item.result in
    let at : get_or all i o ≡ o = search rules in
    let next : suc i ≡ i + 1 = omega arith in
    let front : take (suc i) all ≡ take i all ++ o ∷ [] = take-suc all i o c.loop-o-test.true ∙ ap (λ (x : Object). take i all ++ x ∷ []) at in
    let put : c.put_block.new.items.items ≡ c.loop-o.items.items ++ block_of all o = search rules in
    put ∙ ap (λ (l : List AreaItem). l ++ block_of all o) c.loop-o.invariant
    ∙ sym (blocks_more all (take i all) o) ∙ ap (λ (l : List Object). blocks_of all l) (sym front) ∙ ap (λ (k : ℕ). blocks_of all (take k all)) next

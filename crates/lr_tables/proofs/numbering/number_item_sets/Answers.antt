use Rattle.std.proofs.Common.{◌≡◌, ◌∙◌, sym, ap, arith, length, ◌++◌, ◌∷◌, [], List, slice_get, Some, Err}
use Rattle.std.proofs.lemmas.Result.{err_from_is_err_and}
use Rattle.lr_tables.specs.declared.marks.Edge.{Edge}
use Rattle.lr_tables.specs.Items.{start}
use Rattle.lr_tables.specs.Sets.{chains, item_set}
use Rattle.lr_tables.specs.Numbering.{kernels, found}
use Rattle.lr_tables.proofs.Loops.{found_first, first_many, found_turn, found_over, kernel_read, keys_grow, err_same}
use Rattle.lr_tables.proofs.numbering.number_item_sets.Goals as goal

pub loop-kernel-init : goal.loop-kernel-init
loop-kernel-init c =
    let f : kernels c.enter.new.sets.keys ≡ found c.args.rules.now c.args.stmt c.args.classes 0 =
    found_first _ _ _ _ _ _ (ap kernels c.new-sets.ensures.empty) (c.in_ok-push.ensures.items ∙ ap (λ l. l ++ start ∷ []) c.new-first.ensures.items) c.in_ok-enter.ensures in
    let n : length c.enter.new.sets.keys ≡ 1 = first_many _ _ _ c.enter.new.sets.keys f in
    record { found = f; few = omega (arith, n); within = omega arith }

pub returns-in_err-enter_row-clause-full : goal.returns-in_err-enter_row-clause-full
returns-in_err-enter_row-clause-full c = λ e.
    let p = err_from_is_err_and c.from_residual-in_err-enter_row.result c.from_residual-in_err-enter_row.ensures.1 in
    let k : slice_get (kernels c.loop-kernel.sets.keys) c.loop-kernel.at
    ≡ Some c.as_slice.result.now = kernel_read c.loop-kernel.sets.keys c.loop-kernel.at c.in-Some.kernel.now c.as_slice.result.now c.in-Some.ensures.key c.as_slice.ensures.value in
    let items : c.as_slice-in-Some.result.now ≡ item_set c.args.rules.now c.args.stmt c.args.classes (chains c.args.rules.now) c.as_slice.result.now =
    c.as_slice-in-Some.ensures.value ∙ c.in_ok-items.ensures ∙ ap (λ (x : List Edge). item_set c.args.rules.now c.args.stmt c.args.classes x c.as_slice.result.now) c.requires.chained in
    found_over _ _ _ c.loop-kernel.at _ _ _ c.loop-kernel.invariant.found k items (c.in_err-enter_row.ensures.full (ap Err (sym p.2 ∙ err_same _ _ (sym p.1 ∙ e))))

pub loop-kernel-preserved : goal.loop-kernel-preserved
loop-kernel-preserved c =
    let k : slice_get (kernels c.loop-kernel.sets.keys) c.loop-kernel.at
    ≡ Some c.as_slice.result.now = kernel_read c.loop-kernel.sets.keys c.loop-kernel.at c.in-Some.kernel.now c.as_slice.result.now c.in-Some.ensures.key c.as_slice.ensures.value in
    let items : c.as_slice-in-Some.result.now ≡ item_set c.args.rules.now c.args.stmt c.args.classes (chains c.args.rules.now) c.as_slice.result.now =
    c.as_slice-in-Some.ensures.value ∙ c.in_ok-items.ensures ∙ ap (λ (x : List Edge). item_set c.args.rules.now c.args.stmt c.args.classes x c.as_slice.result.now) c.requires.chained in
    record {
      found = found_turn _ _ _ c.loop-kernel.at _ _ _ _ c.loop-kernel.invariant.found k items c.in_ok-enter_row.ensures.entered;
      few = c.in_ok-enter_row.ensures.few;
      within = keys_grow _ _ _ _ c.loop-kernel.at c.loop-kernel.sets.keys _ _ c.in-Some.ensures.key c.in_ok-enter_row.ensures.entered;
    }

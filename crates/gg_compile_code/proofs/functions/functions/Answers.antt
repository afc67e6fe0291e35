use Rattle.std.proofs.Common.{◌≡◌, ◌<◌, length, get_or, rules}
use Rattle.vax_target.specs.vax_target_meaning.specs.Vax.{vax}
use Rattle.gg_compile_code.proofs.Putting.{at_index, functions_begin, more_functions}
use Rattle.gg_compile_code.proofs.functions.functions.Goals as goal

pub loop-f-init : goal.loop-f-init
loop-f-init c = functions_begin vax _ _ _ c.new-code.ensures.items

pub function-requires-clause-goes : goal.function-requires-clause-goes
function-requires-clause-goes c =
    let fs = c.args.program.now.functions in
    let i = c.loop-f.f-index in
    let f = c.f-item.result in
    let lt : i < length fs = search rules in
    let at : get_or fs i f ≡ f = search rules in
    c.requires.goes i f (at_index fs i f lt at)

pub loop-f-preserved : goal.loop-f-preserved
loop-f-preserved c =
    let fs = c.args.program.now.functions in
    let i = c.loop-f.f-index in
    let f = c.f-item.result in
    let lt : i < length fs = search rules in
    let at : get_or fs i f ≡ f = search rules in
    more_functions vax _ _ fs i f _ _ _ lt at c.loop-f.invariant c.in_ok-part.ensures c.in_ok-append.ensures.items

use Rattle.std.proofs.Common.{rules, ◌≡◌, length}
use Rattle.std.proofs.lemmas.Iterator.{YieldsList-from_map}
use Rattle.std.proofs.lemmas.Iterator.Adapters.{YieldsList-from_vec, items_from_extend}
use Rattle.std.proofs.lemmas.Iterator.Consumers.{YieldsList-at}
use Rattle.std.specs.Vec.Iter.{into_iter_len}
use borrow.Author.Tests.{tests}
use Rattle.vax_core.specs.declared.code.CodeItem.TheVariants.{Instr}
use Rattle.gg_compile_code.proofs.items.put_instrs.Goals as goal

pub returns : goal.returns
returns c =
    let instrs = c.args.instrs.items in
    let long : into_iter_len c.into_iter.result ≡ length instrs = search rules in
    let h = items_from_extend c.extend.result c.extend.ensures.ran
    (YieldsList-from_map _ Instr (YieldsList-at c.map.ensures.source (YieldsList-from_vec instrs c.into_iter.ensures.rest long)) c.map.ensures.closure (λ x r q k. search (rules, tests))) in
    search (rules, h)

use Rattle.std.proofs.Common.{sym, ◌∙◌, rules, tests}
use Rattle.std.proofs.lemmas.Iterator.{YieldsList-from_slice}
use Rattle.std.proofs.lemmas.Iterator.Search.{find_from_yields_List}
use Rattle.vax_image_format.specs.Opcodes.{has_opcode}
use Rattle.vax_image_format.proofs.opcodes.among.Goals as goal

pub returns : goal.returns
returns c =
    let b = c.args.b in
    let ops = c.args.ops.now in
    sym (c.copied.ensures ∙ find_from_yields_List (has_opcode b) c.find.new.self _ c.find.result c.find.ensures.ran (YieldsList-from_slice ops cc) (λ x b q k. search (rules, tests)))

use Rattle.std.proofs.Common.{rules, arith, length, sym, ◌∙◌}
use Rattle.std.proofs.lemmas.Bool.{ne_eqb}
use Rattle.std.proofs.lemmas.Iterator.{YieldsList-from_slice, YieldsList-from_zip}
use Rattle.std.proofs.lemmas.Iterator.Search.{all_from_yields_List}
use borrow.Author.Tests.{tests}
use Rattle.c_typed_statements.proofs.Parameters.{same_pair, same_pairs, same_length}
use Rattle.c_typed_statements.proofs.signatures.same_types.Goals as goal

pub returns-then-a-b : goal.returns-then-a-b
returns-then-a-b c =
    all_from_yields_List {s = c.zip.result} same_pair c.all.new.self _ _ c.all.ensures.ran
    (YieldsList-from_zip (YieldsList-from_slice c.args.a.now cc) (YieldsList-from_slice c.args.b.now cc)) (λ x b q k. search (rules, tests))
    ∙ same_pairs c.args.a.now c.args.b.now (omega (arith, c.if-a-b.true))

pub returns-else-a-b : goal.returns-else-a-b
returns-else-a-b c = ne_eqb (length c.args.a.now) (length c.args.b.now) c.if-a-b.false ∙ sym (same_length c.args.a.now c.args.b.now c.if-a-b.false)

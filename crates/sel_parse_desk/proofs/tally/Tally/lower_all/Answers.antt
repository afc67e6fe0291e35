use Rattle.std.proofs.Common.{arith}
use Rattle.sel_parse_desk.specs.Entries.{in_register, in_word}
use Rattle.sel_parse_desk.proofs.Counting.{count-more, count-one}
use Rattle.sel_parse_desk.proofs.tally.Tally.lower_all.Goals as goal

pub lower-requires-clause-in_registers : goal.lower-requires-clause-in_registers
lower-requires-clause-in_registers g c = λ r small.
    let k = c.loop-attr.invariant.0 r small in
    let some = c.requires.in_registers r small in
    let one_more = count-one (in_register g.T.Templates.meaning r) c.args.attrs.now c.loop-attr.attr-index c.attr-item.result c.loop-attr-test.true c.attr-item.is in
    omega (arith, k, some, one_more)

pub lower-requires-clause-in_words : goal.lower-requires-clause-in_words
lower-requires-clause-in_words g c = λ w small.
    let k = c.loop-attr.invariant.1 w small in
    let some = c.requires.in_words w small in
    let one_more = count-one (in_word g.T.Templates.meaning w) c.args.attrs.now c.loop-attr.attr-index c.attr-item.result c.loop-attr-test.true c.attr-item.is in
    omega (arith, k, some, one_more)

pub loop-attr-preserved : goal.loop-attr-preserved
loop-attr-preserved g c = (
  λ r small. (let k = c.loop-attr.invariant.0 r small in
      let less = c.lower.ensures.registers r small in
      let more = count-more (in_register g.T.Templates.meaning r) c.args.attrs.now c.loop-attr.attr-index c.attr-item.result c.loop-attr-test.true c.attr-item.is in
      omega (arith, k, less, more)),
  λ w small. (let k = c.loop-attr.invariant.1 w small in
      let less = c.lower.ensures.words w small in
      let more = count-more (in_word g.T.Templates.meaning w) c.args.attrs.now c.loop-attr.attr-index c.attr-item.result c.loop-attr-test.true c.attr-item.is in
      omega (arith, k, less, more)),
)

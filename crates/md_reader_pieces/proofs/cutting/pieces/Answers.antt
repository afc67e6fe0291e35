use Rattle.std.proofs.Common.{arith, rules, ◌+◌}
use Rattle.std.proofs.lemmas.List.{take_rest}
use Rattle.md_reader_pieces.specs.Pieces.{Lacks, pieces}
use Rattle.md_reader_pieces.proofs.PieceLaws.{begun, goes_on, lacks}
use Rattle.md_reader_pieces.proofs.cutting.pieces.Goals as goal

pub loop-at-init : goal.loop-at-init
loop-at-init c = (
  begun c.args.text.now c.new-read.result.items c.push_plain.new.read.items c.part_len-at.result c.part_len-at.ensures.len c.new-read.ensures.items
      c.in_ok-push_plain.ensures,
  c.part_len-at.ensures.bound,
)

pub returns-in_err-push_hole : goal.returns-in_err-push_hole
returns-in_err-push_hole c =
    let h : Lacks c.in_err-push_hole.field-0.0 (pieces c.args.text.now) =
    lacks c.args.text.now _ c.loop-at.at c.part_len-len.result c.loop-at.read.items _ c.in_err-push_hole.field-0.0 c.loop-at-test.true
    (take_rest c.args.text.now (c.loop-at.at + 1)) c.part_len-len.ensures.len c.in_err-push_hole.ensures c.loop-at.invariant.0 in
    search (rules, h)

pub loop-at-preserved : goal.loop-at-preserved
loop-at-preserved c = (
  goes_on c.args.text.now _ c.loop-at.at c.part_len-len.result c.loop-at.read.items c.push_hole.new.read.items _ c.loop-at-test.true
      (take_rest c.args.text.now (c.loop-at.at + 1)) c.part_len-len.ensures.len c.in_ok-push_hole.ensures c.loop-at.invariant.0,
  omega arith,
)

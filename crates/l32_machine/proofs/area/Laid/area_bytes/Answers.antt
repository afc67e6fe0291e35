use Rattle.std.proofs.Common.{arith}
use Rattle.gg_base.proofs.Facts.{front_is}
use Rattle.vax_machine.proofs.LayoutLaws.{ends_inside, bytes_more, end_more, valid_more, long_more}
use Rattle.vax_machine.specs.Area.{bytes_from, end_from}
use Rattle.l32_machine.proofs.area.Laid.area_bytes.Goals as goal

pub overflow_add-at : goal.overflow_add-at
overflow_add-at c =
    let inside = ends_inside c.args.self.now.names.now.layout.now c.loop-item.item-index c.loop-item.at c.item-item.result c.loop-item-test.true c.item-item.is c.loop-item.invariant.end in
    omega (arith, inside, c.args.self.now.laid.end, c.args.self.now.laid.small, c.size_at-at.ensures.size)

pub loop-item-preserved : goal.loop-item-preserved
loop-item-preserved c =
    let layout = c.args.self.now.names.now.layout.now in
    let i = c.loop-item.item-index in
    let item = c.item-item.result in
    let front = front_is layout i item c.loop-item-test.true c.item-item.is in
    record {
      bytes = bytes_more layout layout i c.loop-item.at c.size_at-at.result item c.loop-item.bytes.items c.put_item.new.bytes.items (bytes_from layout layout 65536) front
          c.size_at-at.ensures.size c.in_ok-put_item.ensures c.loop-item.invariant.bytes;
      end = end_more layout i c.loop-item.at c.size_at-at.result (end_from layout 65536) item front c.size_at-at.ensures.size c.loop-item.invariant.end;
      long = long_more layout c.loop-item.at c.size_at-at.result item c.loop-item.bytes.items c.put_item.new.bytes.items c.size_at-at.ensures.size c.in_ok-put_item.ensures c.loop-item.invariant.long;
      valid = valid_more layout i item front c.loop-item.invariant.valid;
    }

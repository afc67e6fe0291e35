use Rattle.std.proofs.Common.{◌≡◌, ◌<◌, ◌∷◌, ◌++◌, [], length, arith, rules}
use Rattle.std.specs.Prelude.{Some, None}
use Rattle.l32_reader.specs.Lines.{item_front}
use Rattle.l32_reader.proofs.TextLaws.{item_shorter, code_goes_on, wrong_code}
use Rattle.l32_reader.proofs.reader.read.Goals as goal

pub loop-rest-smaller : goal.loop-rest-smaller
loop-rest-smaller c = item_shorter c.loop-rest.rest.now c.in-Ok.item c.in-Ok.after.now c.in-Ok.ensures

pub loop-rest-preserved : goal.loop-rest-preserved
loop-rest-preserved c =
    let read : item_front c.loop-rest.rest.now ≡ Some (c.in-Ok.item, c.in-Ok.after.now) = c.in-Ok.ensures in
    let pushed : c.push.new.self.items ≡ c.loop-rest.items.items ++ c.in-Ok.item ∷ [] = c.in_ok-push-in-Ok.ensures.items in
    let shorter = item_shorter c.loop-rest.rest.now c.in-Ok.item c.in-Ok.after.now read in
    record {
      lines = code_goes_on c.args.bytes.now c.in_ok-area.field-0.items.items c.loop-rest.items.items c.loop-rest.line c.loop-rest.rest.now c.in-Ok.item c.in-Ok.after.now
          c.push.new.self.items read pushed c.loop-rest.invariant.lines;
      count = omega (arith, shorter, c.loop-rest.invariant.count);
    }

pub returns-in-Err-NotOfForm-clause-first : goal.returns-in-Err-NotOfForm-clause-first
returns-in-Err-NotOfForm-clause-first c =
    let some : 0 < length c.loop-rest.rest.now = search rules in
    let no_line : item_front c.loop-rest.rest.now ≡ None = rw c.in-Err-NotOfForm.field-0-is at c.in-Err-NotOfForm.ensures in
    wrong_code c.args.bytes.now c.in_ok-area.field-0.items.items c.loop-rest.items.items c.loop-rest.line c.loop-rest.rest.now _ some no_line c.loop-rest.invariant.lines c.code_kind.ensures

use Rattle.std.proofs.Common.{◌≡◌, ◌∷◌, ◌++◌, [], arith}
use Rattle.vax_reader.specs.Fronts.{strip}
use Rattle.vax_reader.specs.Lines.{area_front}
use Rattle.std.specs.Prelude.{Some, None, codes}
use Rattle.vax_reader.proofs.TextLaws.{area_shorter, area_goes_on}
use Rattle.l32_reader.proofs.TextLaws.{wrong_start, wrong_area}
use Rattle.l32_reader.proofs.reader.area_part.Goals as goal

pub returns-in_default-clause-first : goal.returns-in_default-clause-first
returns-in_default-clause-first c =
    let no_data : strip (codes "\t.data\n") c.args.bytes.now ≡ None = c.in_default.ensures in
    wrong_start c.args.bytes.now _ no_data c.start_kind.ensures

pub lines-smaller : goal.lines-smaller
lines-smaller c = area_shorter c.lines.rest.now c.in-Ok.item c.in-Ok.after.now c.in-Ok.ensures

pub lines-preserved : goal.lines-preserved
lines-preserved c =
    let read : area_front c.lines.rest.now ≡ Some (c.in-Ok.item, c.in-Ok.after.now) = c.in-Ok.ensures in
    let pushed : c.push.new.self.items ≡ c.lines.items.items ++ c.in-Ok.item ∷ [] = c.in_ok-push-in-Ok.ensures.items in
    let shorter = area_shorter c.lines.rest.now c.in-Ok.item c.in-Ok.after.now read in
    record {
      lines = area_goes_on c.args.bytes.now c.lines.items.items c.lines.line c.lines.rest.now c.in-Ok.item c.in-Ok.after.now c.push.new.self.items read pushed c.lines.invariant.lines;
      count = omega (arith, shorter, c.lines.invariant.count);
    }

pub returns-in-Err-NotOfForm-clause-first : goal.returns-in-Err-NotOfForm-clause-first
returns-in-Err-NotOfForm-clause-first c =
    let no_end : strip (codes "\t.text\n") c.lines.rest.now ≡ None = c.in_default-strip.ensures in
    let no_line : area_front c.lines.rest.now ≡ None = rw c.in-Err-NotOfForm.field-0-is at c.in-Err-NotOfForm.ensures in
    wrong_area c.args.bytes.now c.lines.items.items c.lines.line c.lines.rest.now _ no_end no_line c.lines.invariant.lines c.area_kind.ensures

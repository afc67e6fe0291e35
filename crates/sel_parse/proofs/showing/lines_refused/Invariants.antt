use Rattle.std.proofs.Common.{◌≡◌, true}
use Rattle.std.specs.Iterator.Adapters.{zip_first, zip_second}
use Rattle.std.specs.List.{AllByRecursion, list_all}
use Rattle.std.specs.Slice.Iter.{iter_rest}
use Rattle.md_reader.specs.Valid.{IsSpill}
use Rattle.sel_target.specs.Calls.{can_be_saved}
use Rattle.sel_parse.specs.Shown.{lines_refused}
use Rattle.sel_parse.proofs.showing.lines_refused.Given as goal

abbrev pub invariant-loop-kind : goal.invariant-loop-kind
invariant-loop-kind g l =
    let kinds_left = iter_rest (zip_first l.kind-iterator) in
    let lines_left = iter_rest (zip_second l.kind-iterator) in
    record {
      kinds : list_all can_be_saved kinds_left ≡ true;
      lines : AllByRecursion IsSpill lines_left;
      same : lines_refused g.T.Templates.meaning.spill_effect l.kinds l.lines ≡ lines_refused g.T.Templates.meaning.spill_effect kinds_left lines_left;
    }

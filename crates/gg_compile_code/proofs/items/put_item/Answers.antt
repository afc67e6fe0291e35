use Rattle.std.proofs.Common.{Err, ap}
use Rattle.sel_parse.specs.declared.selection.SelectFault.{SelectFault}
use Rattle.vax_target.specs.vax_target_meaning.specs.Vax.{vax}
use Rattle.gg_compile_code.proofs.Putting.{puts_label, puts_tree}
use Rattle.gg_compile_code.proofs.items.put_item.Goals as goal

pub select-requires : goal.select-requires
select-requires c = record { goes = rw c.as_slice.ensures ((rw c.in-Root.is at c.requires.goes).parses) }

pub unreachable-requires : goal.unreachable-requires
unreachable-requires c = (rw c.in-Root.is at c.requires.goes).has_room (rw c.as_slice.ensures at (c.in-Err-FrameFull.ensures.full (ap (λ (e : SelectFault). Err e) c.in-Err-FrameFull.field-0-is)))

pub returns-in_ok-put_label-in-Label : goal.returns-in_ok-put_label-in-Label
returns-in_ok-put_label-in-Label c =
    rw c.in-Label.is (puts_label vax _ _ c.args.slots.now c.in-Label.label _ _ c.in_ok-put_label-in-Label.ensures)

pub returns-in_ok-put_instrs-in-Ok : goal.returns-in_ok-put_instrs-in-Ok
returns-in_ok-put_instrs-in-Ok c =
    rw c.in-Root.is
    (puts_tree vax _ _ c.args.slots.now c.select.new.slots c.in-Root.leaves _ _ _ (rw c.as_slice.ensures at c.in-Ok.ensures.code) c.select.ensures.first
    c.in_ok-put_instrs-in-Ok.ensures)

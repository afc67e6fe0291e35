use Rattle.std.proofs.Common.{◌∙◌, ap, sym}
use Rattle.std.specs.Prelude.{slice_get}
use Rattle.sel_target.specs.declared.attr.Attr.{Attr}
use Rattle.sel_parse_desk.specs.Entries.{slot_of}
use Rattle.sel_parse_desk.proofs.JoinedLemmas.{slot_in-attr}
use Rattle.sel_parse_desk.proofs.entries.Entries.slot.Goals as goal

pub returns-clause-slot : goal.returns-clause-slot
returns-clause-slot g c =
    c.slot_of.ensures.slot ∙ (ap (λ (h : Attr g.row.O.Denot). slot_of h) c.attr.ensures.attr ∙ sym (slot_in-attr (slice_get c.args.self.now c.args.at)))

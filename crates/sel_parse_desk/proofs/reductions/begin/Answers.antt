use Rattle.sel_parse_desk.proofs.Tallies.{none_tallied}
use Rattle.sel_parse_desk.proofs.reductions.begin.Goals as goal

pub returns-clause-ready : goal.returns-clause-ready
returns-clause-ready g c = (
  none_tallied g.T.Templates.meaning c.new-entries.result c.in_ok-tally.tally.registers.items c.in_ok-tally.tally.words.items c.new-entries.ensures
      c.in_ok-tally.ensures.registers c.in_ok-tally.ensures.words,
  c.requires,
)

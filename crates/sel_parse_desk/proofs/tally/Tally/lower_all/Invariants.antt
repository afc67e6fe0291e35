use Rattle.std.proofs.Common.{take}
use Rattle.sel_parse_desk.specs.Tallied.{HaveFallen, registers_among, words_among}
use Rattle.sel_parse_desk.proofs.tally.Tally.lower_all.Given as goal

abbrev pub invariant-loop-attr : goal.invariant-loop-attr
invariant-loop-attr g l =
    HaveFallen 12 l.initial.self.registers.items l.self.registers.items (registers_among g.T.Templates.meaning (take l.attr-index l.attrs))
    × HaveFallen 1024 l.initial.self.words.items l.self.words.items (words_among g.T.Templates.meaning (take l.attr-index l.attrs))

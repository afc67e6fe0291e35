use Rattle.std.proofs.Common.{◌≡◌, ℕ, ◌≤◌}
use Rattle.std.specs.Prelude.{slice_index}
use Rattle.sel_parse_desk.specs.Tallied.{HaveFallen, registers_of}
use Rattle.sel_parse_desk.proofs.tally.Tally.lower.Given as goal

abbrev pub invariant-loop-register : goal.invariant-loop-register
invariant-loop-register g l =
    HaveFallen l.register l.initial.self.registers.items l.self.registers.items (registers_of g.T.Templates.meaning l.attr)
    × ((r : ℕ) → l.register ≤ r → slice_index l.self.registers.items r ≡ slice_index l.initial.self.registers.items r)
    × (l.self.words ≡ l.initial.self.words)

use Rattle.std.proofs.Common.{◌≡◌, ◌≤◌, drop}
use Rattle.c_program.specs.Statements.{acts}
use Rattle.c_lower_scheme.specs.Flow.{two_done}
use Rattle.c_lower_scheme.specs.Statements.{lower_row}
use Rattle.c_lower_parts.specs.Views.{done, destination}
use Rattle.c_lower_code.proofs.lowerer.Lowerer.+statement.Given as goal

abbrev pub invariant-row-loop-i : goal.invariant-row-loop-i
invariant-row-loop-i l =
    (two_done (done l.whole) (lower_row l.self.frame.locals l.self.frame.functions l.self.frame.first (destination l.self.frame.out) (acts (drop l.i l.all))
    l.exits.broken l.exits.onward l.whole.free.labels)
    ≡ lower_row l.self.frame.locals l.self.frame.functions l.self.frame.first (destination l.self.frame.out) (acts l.all) l.exits.broken l.exits.onward l.l)
    × (l.self.frame.first ≤ l.whole.free.temps)

use Rattle.std.proofs.Common.{◌≡◌, ◌≤◌, drop}
use Rattle.std.specs.Prelude.{map}
use Rattle.c_program.specs.Statements.{declaration, acts}
use Rattle.c_lower_scheme.specs.Flow.{two_done}
use Rattle.c_lower_scheme.specs.Statements.{declare}
use Rattle.c_lower_parts.specs.Views.{done, destination}
use Rattle.c_lower_code.proofs.lowerer.Lowerer.declare.Given as goal

abbrev pub invariant-loop-i : goal.invariant-loop-i
invariant-loop-i l =
    (two_done (done l.whole) (declare l.self.frame.locals l.self.frame.functions l.self.frame.first (destination l.self.frame.out)
    (map declaration (drop l.i l.ds)) (acts l.rest) l.whole.free.labels)
    ≡ declare l.self.frame.locals l.self.frame.functions l.self.frame.first (destination l.self.frame.out) (map declaration l.ds) (acts l.rest) l.l)
    × (l.self.frame.first ≤ l.whole.free.temps)

use Rattle.std.proofs.Common.{◌≡◌, length}
use Rattle.c_program.specs.Programs.{program}
use Rattle.gg_compile.specs.Needs.{FitBefore}
use Rattle.gg_compile.proofs.needs.check_needs.Given as goal

-- the functions so far fit
abbrev pub invariant-loop-number : goal.invariant-loop-number
invariant-loop-number l = (l.count ≡ length l.source.held.routines.items) × FitBefore (program l.source.held) l.number

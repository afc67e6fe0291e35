use Rattle.std.proofs.Common.{◌≡◌, map, take}
use Rattle.cmd_compile.proofs.passing.all_changes.Given as goal

abbrev pub invariant-loop-pass : goal.invariant-loop-pass
invariant-loop-pass g l = l.counts.items ≡ map (λ b. (goal.Pass-dyn g (b.vtable, b.value)).made b.value) (take l.pass-index l.passes)

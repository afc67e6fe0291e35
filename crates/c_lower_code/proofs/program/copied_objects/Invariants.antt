use Rattle.std.proofs.Common.{◌≡◌, ◌++◌, drop}
use Rattle.c_lower_code.specs.Bytes.{AllHoldBytes}
use Rattle.c_lower_code.proofs.program.copied_objects.Given as goal

abbrev pub invariant-loop-object : goal.invariant-loop-object
invariant-loop-object l = (l.copy.items ++ drop l.object-index l.objects ≡ l.objects) × (AllHoldBytes (drop l.object-index l.objects) → AllHoldBytes l.objects)

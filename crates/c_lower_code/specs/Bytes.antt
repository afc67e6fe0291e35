-- Objects that hold bytes.
use Rattle.std.specs.Prelude.{List}
use Rattle.std.specs.List.{AllByRecursion}
use Rattle.tree_core.specs.declared.program.Object.{Object}
use Rattle.c_sound.specs.Fits.{AreBytes}

abbrev pub AllHoldBytes : List Object → Type 0
AllHoldBytes os = AllByRecursion (λ (o : Object). AreBytes o.bytes) os

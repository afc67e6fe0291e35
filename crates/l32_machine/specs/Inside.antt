-- A region lies in the bytes that it is kept in.
use Rattle.std.specs.Prelude.{◌+◌, ◌≤◌, length}
use Rattle.gg_base.specs.declared.size.Size.{Size}
use Rattle.gg_base.specs.Sizes.{bytes_of}
use Rattle.l32_machine.specs.declared.memory.Region.{Region}
use Rattle.l32_machine.specs.declared.memory.Region.TheVariants as regions
use Rattle.l32_machine.specs.State.{State}

abbrev pub IsInside : State → Size → Region → Type 0
IsInside m size (regions.Area at) = at + bytes_of size ≤ length m.area
IsInside m size (regions.Stack at) = at + bytes_of size ≤ length m.stack

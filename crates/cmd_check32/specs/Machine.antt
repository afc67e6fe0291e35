-- L32, as a machine for which descriptions are checked.
use Rattle.std.specs.Prelude.{codes}
use Rattle.l32_target_meaning.specs.L32.{l32}
use Rattle.cmd_descriptions.specs.Machines.{Machine, machine_of}

abbrev pub the_l32 : Machine
the_l32 = machine_of (codes "l32") l32

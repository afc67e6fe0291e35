-- The VAX, as a machine for which descriptions are checked.
use Rattle.std.specs.Prelude.{codes}
use Rattle.vax_target.specs.vax_target_meaning.specs.Vax.{vax}
use Rattle.cmd_descriptions.specs.Machines.{Machine, machine_of}

abbrev pub the_vax : Machine
the_vax = machine_of (codes "vax") vax

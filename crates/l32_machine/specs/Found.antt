-- A table of names as a function.
use Rattle.std.specs.Str.{bytes_eq}
use Rattle.indexmap.specs.IndexMap.{get_by}
use Rattle.l32_machine.specs.declared.table.Table.{Table}
use Rattle.vax_machine.specs.Tables.{Names}

abbrev pub found : Table → Names
found t = λ name. get_by (λ k. bytes_eq name k.now) t.numbers

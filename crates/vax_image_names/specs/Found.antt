-- A table of names as a function.
use Rattle.std.specs.Str.{bytes_eq}
use Rattle.indexmap.specs.IndexMap.{get_by}
use Rattle.vax_machine.specs.Tables.{Names}
use Rattle.vax_image_names.specs.declared.table.Table.{Table}

abbrev pub found : Table → Names
found t = λ name. get_by (λ k. bytes_eq name k.now) t.numbers

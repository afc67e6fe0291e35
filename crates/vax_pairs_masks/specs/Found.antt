-- A table of labels as a function.
use Rattle.std.specs.Str.{bytes_eq}
use Rattle.indexmap.specs.IndexMap.{get_by}
use Rattle.vax_machine.specs.Tables.{Names}
use Rattle.vax_pairs_masks.specs.declared.labels.Labels.{Labels}

abbrev pub found : Labels → Names
found l = λ name. get_by (λ k. bytes_eq name k.now) l.places

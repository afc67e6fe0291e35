-- What the code holds, as plain data.
use Rattle.c_typed_scope.specs.declared.scope.Blocks.{Blocks}
use Rattle.c_typed_scope.specs.declared.data.Data.{Data}
use Rattle.c_typed_scope.specs.declared.contents.Contents.{Contents}
use Rattle.c_typed_scope.specs.Scopes.{Scope}
use Rattle.c_typed_scope.specs.Layout.{Area}
use Rattle.c_typed_scope.specs.Contents.{Filled}

abbrev pub scope : Blocks → Scope
scope b = record { outer = b.outer.items; here = b.here }

abbrev pub area : Data → Area
area d = record { objects = d.objects.items; end = d.end; literals = d.literals; statics = d.statics; measuring = d.measuring }

abbrev pub filled_so_far : Contents → Filled
filled_so_far c = record { bytes = c.bytes.items; links = c.links.items }

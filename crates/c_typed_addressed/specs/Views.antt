-- What the code holds, as plain data.
use Rattle.c_typed_scope.specs.Views.{scope}
use Rattle.c_typed_addressed.specs.declared.search.Addressed.{Addressed}
use Rattle.c_typed_addressed.specs.declared.search.Search.{Search as Held}
use Rattle.c_typed_addressed.specs.Marks.{Marks}
use Rattle.c_typed_addressed.specs.Statements.{Search}

abbrev pub marks : Addressed → Marks
marks a = record { parameters = a.parameters.items; locals = a.locals.items }

abbrev pub searched : Held → Search
searched s = record { scope = scope s.blocks; found = marks s.found }

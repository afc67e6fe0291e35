-- The functions of a text, as the rules of the types take them: their names, and their types by number.
use Rattle.std.specs.Prelude.{ℕ, List}
use Rattle.c_typed_scope.specs.declared.entry.Entry.{Entry}
use Rattle.c_typed_scope.specs.declared.entry.Signature.{Signature}
use Rattle.c_typed_expressions.specs.declared.phrase.Functions.{Functions}

abbrev pub by_functions : {R : Type 0} → Functions → (List (List ℕ × Entry) → List Signature → R) → R
by_functions f rule = rule f.names f.signatures.items

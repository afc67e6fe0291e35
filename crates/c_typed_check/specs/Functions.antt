-- The functions that the code knows, as plain data.
use Rattle.c_typed_expressions.specs.declared.phrase.Functions.{Functions}
use Rattle.c_typed_statements.specs.c_typed_definition.specs.Signatures.{Known}

abbrev pub functions_of : Functions → Known
functions_of f = record { names = f.names; signatures = f.signatures.items }

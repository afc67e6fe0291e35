-- What a proof unfolds to compute the types of phrases.
use Rattle.c_types.specs.Types.{is_integer, is_scalar, same_type, same_integer, target, pointer_to, integer_size, size_of}
use Rattle.c_types.specs.Typed.{place_type, type_of, is_null}
use Rattle.c_types.specs.Constants.{is_constant, value_of, constant_of}
use Rattle.c_typed_operators.specs.Rules.{fits, arithmetic, plus, binary_of}
use Rattle.c_typed_operators.specs.Prefixes.{element, index_of}
use Rattle.c_typed_operators.specs.Stores.{store, store_by, assign_of, given}
use Rattle.c_typed_operators.specs.Choices.{condition_of}
use Rattle.c_typed_scope.specs.Scopes.{lookup, is_taken, with_name, enter, leave}
use Rattle.c_typed_scope.specs.Layout.{aligned, placed}
use Rattle.c_typed_scope.specs.Contents.{length_of, filled}
use Rattle.c_typed_expressions.specs.Phrases.{first}
use Rattle.c_typed_expressions.specs.Expressions.{integer_of, written, named, callee}
use Rattle.c_typed_addressed.specs.Expressions.{name_of}
use Rattle.c_typed_addressed.specs.Statements.{addressed}
use Rattle.c_typed_definition.specs.Initialisers.{type_length}
use Rattle.c_typed_definition.specs.Forms.{form_of, automatic_form, many}
use Rattle.c_typed_definition.specs.State.{laid}
use Rattle.c_typed_definition.specs.Declarations.{object_with, counted_array, array_object, type_object}
use Rattle.c_typed_definition.specs.Automatics.{type_automatic, automatic_variable}
use Rattle.c_typed_definition.specs.Statements.{type_full, type_condition}
use Rattle.c_typed_definition.specs.Headings.{agrees}
use Rattle.c_typed_definition.specs.Bodies.{fits_stack}
use Rattle.c_typed_definition.specs.Texts.{type_parameter, type_introduced}

-- types, and operators on typed operands
unfoldable pub operators_compute : Unit {0}
unfolding is_integer is_scalar same_type same_integer target pointer_to integer_size size_of place_type type_of is_null fits arithmetic plus binary_of element index_of
operators_compute = tt

-- assignments, arguments and conditions
unfoldable pub values_compute : Unit {0}
unfolding operators_compute store store_by assign_of given condition_of first
values_compute = tt

-- what names stand for, and expressions
unfoldable pub expressions_compute : Unit {0}
unfolding values_compute lookup is_taken with_name enter leave integer_of written named callee type_full type_condition
expressions_compute = tt

-- parameters, locals and bodies
unfoldable pub functions_compute : Unit {0}
unfolding expressions_compute automatic_form type_automatic automatic_variable agrees type_parameter type_introduced aligned fits_stack
functions_compute = tt

-- the variables to which `&` is applied
unfoldable pub marks_compute : Unit {0}
unfolding addressed name_of lookup is_taken with_name enter leave
marks_compute = tt

-- objects
unfoldable pub objects_compute : Unit {0}
unfolding expressions_compute is_constant value_of constant_of aligned placed length_of filled type_length form_of many laid object_with counted_array array_object type_object
objects_compute = tt

-- What a declarator tells by itself.
use Rattle.std.specs.Prelude.{◌≡◌, Bool}
use Rattle.c_types.specs.declared.types.CType.{CType}
use Rattle.c_types.specs.declared.fault.TypeKind.TheVariants.{Twice, BadInit, BadType}
use Rattle.c_types.specs.Answers.{Fault}
use Rattle.c_types.specs.Types.{is_scalar}
use Rattle.c_typed_scope.specs.Scopes.{Scope, is_taken}
use Rattle.c_phrases.specs.Units.{ADeclarator}
use Rattle.c_typed_definition.specs.c_typed_expressions.specs.Phrases.{init_in, brackets_in}
use Rattle.c_typed_definition.specs.c_typed_expressions.specs.Relations.{Unless}
use Rattle.c_typed_definition.specs.Forms.{form_fits, is_automatic}
use Rattle.c_typed_law.specs.Tests.{With, Without, Lacking, Never}

-- what a declarator tells by itself: the name is free in its block, the initialiser has the form that the variable
-- wants, and the type is an integer or a pointer
abbrev pub IsForm : ADeclarator → CType → Scope → Unit {0} → Type 0
IsForm d t scope ok = Without (is_taken scope d.name) (With (form_fits t (brackets_in d.length) (init_in d.init))
    (With (is_scalar t) (λ u. u ≡ tt))) ok

abbrev pub FormFault : ADeclarator → CType → Scope → Fault → Type 0
FormFault d t scope f = Unless (is_taken scope d.name) d.at Twice (Lacking (form_fits t (brackets_in d.length) (init_in d.init))
    d.at BadInit (Lacking (is_scalar t) d.at BadType Never)) f

-- so does an automatic variable; no array is declared `register`
abbrev pub IsAutomaticForm : Bool → ADeclarator → CType → Scope → Unit {0} → Type 0
IsAutomaticForm is_register d t scope ok =
    Without (is_taken scope d.name) (With (form_fits t (brackets_in d.length) (init_in d.init))
    (With (is_automatic is_register (brackets_in d.length) t) (λ u. u ≡ tt))) ok

abbrev pub AutomaticFormFault : Bool → ADeclarator → CType → Scope → Fault → Type 0
AutomaticFormFault is_register d t scope f =
    Unless (is_taken scope d.name) d.at Twice (Lacking (form_fits t (brackets_in d.length) (init_in d.init)) d.at BadInit
    (Lacking (is_automatic is_register (brackets_in d.length) t) d.at BadType Never)) f

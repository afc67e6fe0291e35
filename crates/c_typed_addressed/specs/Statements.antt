-- Where the statements of a function apply `&` to its variables. Names stand for the innermost declaration, as in typing.
use Rattle.std.specs.Prelude.{ℕ, false, List, [], ◌∷◌, ◌++◌, length, Option, Some, None, if◌then◌else◌}
use Rattle.c_phrases.specs.declared.operator.Storage.{Storage}
use Rattle.c_phrases.specs.declared.operator.Storage.TheVariants as storages
use Rattle.c_phrases.specs.declared.tree.Named.{Named}
use Rattle.c_phrases.specs.Phrases.{AnExp}
use Rattle.c_phrases.specs.Units.{AnInit, value, elements, ADeclarator, AParam, AStatement, block, empty, expression, break_off}
use Rattle.c_phrases.specs.Units.{continue_on, give_back, if_then, if_else, while_loop, do_loop, for_loop, SomeItems, no_items}
use Rattle.c_phrases.specs.Units.{local_item, statement_item}
use Rattle.c_types.specs.declared.types.CType.TheVariants as types
use Rattle.c_types.specs.declared.typed.Variable.{Variable}
use Rattle.c_types.specs.declared.typed.Variable.TheVariants as variables
use Rattle.c_typed_scope.specs.declared.entry.Entry.TheVariants as entries
use Rattle.c_typed_scope.specs.Scopes.{Scope, is_taken, with_name, enter, leave}
use Rattle.c_typed_expressions.specs.Phrases.{init_in, brackets_in}
use Rattle.c_typed_addressed.specs.Marks.{Marks, no_marks}
use Rattle.c_typed_addressed.specs.Expressions.{marks_of, marks_of_all, marks_of_part}

-- what is in scope, and what is found so far
pub record Search : Type 0 where
  pub scope : Scope
  pub found : Marks

abbrev pub at_first : Search
at_first = record { scope = record { outer = []; here = [] }; found = no_marks }

abbrev pub finding : Marks → Search → Search
finding m s = record { scope = s.scope; found = m }

abbrev pub scoping : Scope → Search → Search
scoping scope s = record { scope = scope; found = s.found }

-- a name is in scope from here on; one that the block declares already is refused by typing
abbrev pub declared : List ℕ → Variable → Search → Search
declared n v s = scoping (if is_taken s.scope n then s.scope else with_name n (entries.Variable types.Void v) s.scope) s

abbrev pub in_length : Option (Option AnExp) → Search → Search
in_length None s = s
in_length (Some e) s = finding (marks_of_part s.scope e s.found) s

abbrev pub in_init : Option AnInit → Search → Search
in_init None s = s
in_init (Some (value e)) s = finding (marks_of s.scope e s.found) s
in_init (Some (elements es comma)) s = finding (marks_of_all s.scope es s.found) s

abbrev pub one_more_local : Marks → Marks
one_more_local m = record { parameters = m.parameters; locals = m.locals ++ false ∷ [] }

abbrev pub one_more_parameter : Marks → Marks
one_more_parameter m = record { parameters = m.parameters ++ false ∷ []; locals = m.locals }

-- the variable of a declarator: the next automatic local, or a static one, whose number doesn't matter
abbrev pub next_variable : Storage → Marks → Variable × Marks
next_variable (storages.Static at) m = (variables.Static 0, m)
next_variable storages.Automatic m = (variables.Automatic (length m.locals), one_more_local m)
next_variable (storages.Register at) m = (variables.Automatic (length m.locals), one_more_local m)

abbrev pub declaring : List ℕ → Variable × Marks → Search → Search
declaring n v s = declared n v.0 (finding v.1 s)

abbrev pub in_declarator : Storage → ADeclarator → Search → Search
in_declarator storage d s =
    let t = in_length (brackets_in d.length) s in in_init (init_in d.init) (declaring d.name (next_variable storage t.found) t)

abbrev pub in_declarators : Storage → List ADeclarator → Search → Search
in_declarators storage [] s = s
in_declarators storage (d ∷ ds) s = in_declarators storage ds (in_declarator storage d s)

abbrev pub entered : Search → Search
entered s = scoping (enter s.scope) s

abbrev pub scoped : Search → Search
scoped s = scoping (leave s.scope) s

abbrev pub in_expression : AnExp → Search → Search
in_expression e s = finding (marks_of s.scope e s.found) s

abbrev pub in_part : Option AnExp → Search → Search
in_part e s = finding (marks_of_part s.scope e s.found) s

abbrev mutual
  pub in_statement : AStatement → Search → Search
  in_statement (block row) s = scoped (in_items row (entered s))
  in_statement empty s = s
  in_statement (expression e) s = in_expression e s
  in_statement (break_off at) s = s
  in_statement (continue_on at) s = s
  in_statement (give_back at e) s = in_part e s
  in_statement (if_then at o c a) s = in_statement a (in_expression c s)
  in_statement (if_else at o c a other b) s = in_statement b (in_statement a (in_expression c s))
  in_statement (while_loop at o c a) s = in_statement a (in_expression c s)
  in_statement (do_loop at a again o c) s = in_expression c (in_statement a s)
  in_statement (for_loop at o i c e a) s = in_statement a (in_part e (in_part c (in_part i s)))

  -- the first of these
  pub in_item : SomeItems → Search → Search
  in_item no_items s = s
  in_item (local_item l rest) s = in_declarators l.storage l.declarators s
  in_item (statement_item a rest) s = in_statement a s

  pub in_items : SomeItems → Search → Search
  in_items no_items s = s
  in_items (local_item l rest) s = in_items rest (in_declarators l.storage l.declarators s)
  in_items (statement_item a rest) s = in_items rest (in_statement a s)

abbrev pub named : Option Named → Variable → Search → Search
named None v s = s
named (Some name) v s = declared name.name v s

abbrev pub next_parameter : Option Named → Search → Search
next_parameter name s = named name (variables.Parameter (length s.found.parameters)) (finding (one_more_parameter s.found) s)

abbrev pub in_parameter : AParam → Search → Search
in_parameter p s = next_parameter p.name (in_length (brackets_in p.length) s)

abbrev pub in_parameters : List AParam → Search → Search
in_parameters [] s = s
in_parameters (p ∷ ps) s = in_parameters ps (in_parameter p s)

-- The parameters and the body's outermost block are one scope.
unfoldable pub addressed : List AParam → SomeItems → Marks
addressed ps row = (in_items row (in_parameters ps at_first)).found

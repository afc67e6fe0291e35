-- A phrase that is typed adds at most as many automatic locals as it has tokens.
use Rattle.std.proofs.Common.{◌≡◌, ℕ, ◌+◌, ◌≤◌, Bool, true, List, [], ◌∷◌, ◌++◌, length, Option, Some, None, ap, arith, ◌*◌, ◌∙◌, false}
use Rattle.std.proofs.lemmas.List.{length-append}
use Rattle.std.specs.Prelude.{not, ◌&&◌}
use Rattle.c_tokens.specs.declared.marks.Mark.TheVariants as marks
use Rattle.c_tokens.specs.declared.words.Key.TheVariants as keys
use Rattle.c_phrases.specs.declared.operator.Spec.{Spec}
use Rattle.c_phrases.specs.declared.operator.Storage.{Storage}
use Rattle.c_phrases.specs.declared.operator.Storage.TheVariants as storages
use Rattle.c_phrases.specs.Classes.{Placed, word, sign}
use Rattle.c_phrases.specs.Phrases.{AnExp, SomeExps, no_exps, exps}
use Rattle.c_phrases.specs.Spelling.{onto_spec}
use Rattle.c_phrases.specs.Units.{AnInit, value, elements, ADeclarator, AStatement, block, empty, expression, break_off, continue_on, give_back, if_then, if_else, while_loop, do_loop, for_loop}
use Rattle.c_phrases.specs.Units.{SomeItems, no_items, local_item, statement_item}
use Rattle.c_phrases.specs.UnitSpelling.{onto_part, onto_declarator, onto_more_declarators, onto_declarators, onto_condition, onto_statement, onto_items}
use Rattle.c_types.specs.declared.types.CType.{CType}
use Rattle.c_types.specs.Typed.{AnExpression, Constant}
use Rattle.c_types.specs.Types.{size_of}
use Rattle.c_program.specs.Statements.{ADeclaration, AnAction, SomeActions, StoreOf}
use Rattle.c_syntax.proofs.ExpressionLaws.{longer_exp}
use Rattle.c_syntax.proofs.ListLaws.{longer_declarator, longer_part}
use Rattle.c_syntax.proofs.ItemLaws.{longer_spec, longer_storage}
use Rattle.c_typed_scope.specs.declared.entry.Entry.{Entry}
use Rattle.c_typed_scope.specs.declared.entry.Signature.{Signature}
use Rattle.c_typed_expressions.specs.Phrases.{init_in, brackets_in}
use Rattle.c_typed_expressions.specs.Expressions.{written}
use Rattle.c_typed_definition.specs.State.{State, with_local, with_register}
use Rattle.c_typed_definition.specs.Statements.{entered}
use Rattle.c_typed_definition.specs.Rooms.{offset_in, is_next_addressed}
use Rattle.c_typed_definition.specs.Automatics.{memory_variable, memory_array}
use Rattle.c_typed_law.specs.Objects.{IsObjectBy}
use Rattle.c_typed_law.specs.Locals.{IsBegun, IsAutomatic, IsLocal, AreLocals, IsMemoryBegun, IsVariable, IsAutomaticBy}
use Rattle.c_typed_law.specs.Statements.{IsFull, IsCondition, IsPart, IsTurn, IsReturn, IsStatement, AreItems}
use Rattle.c_typed_law.specs.Arrays.{IsGiven, IsStored, AreStored, IsArrayBegun, IsAutomaticLength}

-- how many automatic locals there are so far
abbrev pub Count : State → ℕ
Count s = length s.locals

abbrev Counted : List ADeclaration × State → ℕ
Counted z = Count z.1

module _ (names : List (List ℕ × Entry)) (signatures : List Signature) where
  -- ---- declarations

  object_keeps : (is_static : Bool) (t : CType) (d : ADeclarator) (o : Option (Option AnExp)) (s : State) (r : ℕ × State)
      → IsObjectBy names signatures is_static t d o s r → Count r.1 ≡ Count s
  object_keeps is_static t d None s r j = ap (λ (z : ℕ × State). Count z.1) j.whole.whole
  object_keeps is_static t d (Some e) s r j = ap (λ (z : ℕ × State). Count z.1) j.whole.whole.whole.whole.whole

  given_keeps : (t : CType) (e : AnExp) (s : State) (x : AnExpression × State) → IsGiven names signatures t e s x → Count x.1 ≡ Count s
  given_keeps t e s x j = ap (λ (z : AnExpression × State). Count z.1) j.whole.whole

  begun_keeps : (t : CType) (n : ℕ) (i : Option AnInit) (done : List ADeclaration) (s : State) (r : List ADeclaration × State)
      → IsBegun names signatures t n i done s r → Count r.1 ≡ Count s
  begun_keeps t n None done s r j = ap Counted j
  begun_keeps t n (Some (elements es trailing)) done s r j = ap Counted j
  begun_keeps t n (Some (value e)) done s r j = ap Counted j.whole ∙ given_keeps t e s j.part j.typed

  -- what lies in the block is no automatic local
  stored_keeps : (t : CType) (o : ℕ) (e : AnExp) (done : List ADeclaration) (s : State) (r : List ADeclaration × State)
      → IsStored names signatures t o e done s r → Count r.1 ≡ Count s
  stored_keeps t o e done s r j = ap Counted j.whole ∙ given_keeps t e s j.part j.typed

  list_keeps : (t : CType) (o : ℕ) (es : SomeExps) (done : List ADeclaration) (s : State) (r : List ADeclaration × State)
      → AreStored names signatures t o es done s r → Count r.1 ≡ Count s
  list_keeps t o no_exps done s r j = ap Counted j
  list_keeps t o (exps e es) done s r j =
      list_keeps t (o + size_of t) es j.part.0 j.part.1 r j.whole ∙ stored_keeps t o e done s j.part j.typed

  memory_keeps : (t : CType) (o : ℕ) (i : Option AnInit) (done : List ADeclaration) (s : State) (r : List ADeclaration × State)
      → IsMemoryBegun names signatures t o i done s r → Count r.1 ≡ Count s
  memory_keeps t o None done s r j = ap Counted j
  memory_keeps t o (Some (elements es trailing)) done s r j = ap Counted j
  memory_keeps t o (Some (value e)) done s r j = stored_keeps t o e (done ++ StoreOf t o (Constant 0) ∷ []) s r j

  array_keeps : (t : CType) (o : ℕ) (i : Option AnInit) (done : List ADeclaration) (s : State) (r : List ADeclaration × State)
      → IsArrayBegun names signatures t o i done s r → Count r.1 ≡ Count s
  array_keeps t o None done s r j = ap Counted j
  array_keeps t o (Some (elements es trailing)) done s r j = list_keeps t o es done s r j
  array_keeps t o (Some (value e)) done s r j = ap Counted j

  length_keeps : (l : Option AnExp) (i : Option AnInit) (s : State) (m : ℕ × State) → IsAutomaticLength names signatures l i s m → Count m.1 ≡ Count s
  length_keeps None i s m j = ap (λ (z : ℕ × State). Count z.1) j
  length_keeps (Some e) i s m j = ap (λ (z : ℕ × State). Count z.1) j.whole

  variable_adds : (in_memory : Bool) (t : CType) (d : ADeclarator) (done : List ADeclaration) (s : State) (r : List ADeclaration × State)
      → IsVariable names signatures in_memory t d done s r → Count r.1 ≤ 1 + Count s
  variable_adds true t d done s r j =
      let x = memory_keeps t (offset_in (size_of t) s.room) (init_in d.init) done (memory_variable t d s) r j in omega arith
  variable_adds false t d done s r j =
      let x = begun_keeps t (length s.locals) (init_in d.init) done (with_local t d.name s) r j in
      let one = length-append s.locals (t ∷ []) in
      omega arith

  automatic_by_adds : (l : Option (Option AnExp)) (is_register : Bool) (t : CType) (d : ADeclarator) (done : List ADeclaration) (s : State)
      (r : List ADeclaration × State) → IsAutomaticBy names signatures l is_register t d done s r → Count r.1 ≤ 1 + Count s
  automatic_by_adds None is_register t d done s r j = variable_adds (not is_register && is_next_addressed s.room) t d done s r j
  automatic_by_adds (Some l) is_register t d done s r j =
      let m = j.part in
      let k = j.whole in
      let q = k.whole in
      let x = length_keeps l (init_in d.init) s m j.typed in
      let y = array_keeps t (offset_in (size_of t) m.1.room) (init_in d.init) done (memory_array t (k.part * size_of t) d m.1) q.part q.typed in
      let is = ap Counted q.whole in
      omega arith

  automatic_adds : (is_register : Bool) (spec : Spec) (d : ADeclarator) (done : List ADeclaration) (s : State) (r : List ADeclaration × State)
      → IsAutomatic names signatures is_register spec d done s r → (w : List Placed) → Count r.1 + length w ≤ Count s + length (onto_declarator d w)
  automatic_adds is_register spec d done s r j w =
      let x = automatic_by_adds (brackets_in d.length) is_register (written spec d.stars) d done s r j.whole in
      omega (arith, longer_declarator d w)

  local_adds : (storage : Storage) (spec : Spec) (d : ADeclarator) (done : List ADeclaration) (s : State) (r : List ADeclaration × State)
      → IsLocal names signatures storage spec d done s r → (w : List Placed) → Count r.1 + length w ≤ Count s + length (onto_declarator d w)
  local_adds storages.Automatic spec d done s r j w = automatic_adds false spec d done s r j w
  local_adds (storages.Register at) spec d done s r j w = automatic_adds true spec d done (with_register s) r j w
  local_adds (storages.Static at) spec d done s r j w =
      let x = object_keeps true (written spec d.stars) d (brackets_in d.length) s j.part j.typed.whole in
      let is = ap Counted j.whole in
      omega (arith, longer_declarator d w)

  locals_add : (storage : Storage) (spec : Spec) (ds : List ADeclarator) (done : List ADeclaration) (s : State) (r : List ADeclaration × State)
      → AreLocals names signatures storage spec ds done s r → (w : List Placed)
      → Count r.1 + length w ≤ Count s + length (onto_more_declarators ds w)
  locals_add storage spec [] done s r j w = let is = ap Counted j in omega arith
  locals_add storage spec (d ∷ ds) done s r j w =
      let x = local_adds storage spec d done s j.part j.typed (onto_more_declarators ds w) in
      let y = locals_add storage spec ds j.part.0 j.part.1 r j.whole w in
      omega arith

  declarators_add : (storage : Storage) (spec : Spec) (ds : List ADeclarator) (s : State) (r : List ADeclaration × State)
      → AreLocals names signatures storage spec ds [] s r → (w : List Placed) → Count r.1 + length w ≤ Count s + length (onto_declarators ds w)
  declarators_add storage spec [] s r j w = let is = ap Counted j in omega arith
  declarators_add storage spec (d ∷ ds) s r j w =
      let x = local_adds storage spec d [] s j.part j.typed (onto_more_declarators ds w) in
      let y = locals_add storage spec ds j.part.0 j.part.1 r j.whole w in
      omega arith

  -- ---- expressions in statements

  full_keeps : (e : AnExp) (s : State) (r : AnExpression × State) → IsFull names signatures e s r → Count r.1 ≡ Count s
  full_keeps e s r j = ap (λ (z : AnExpression × State). Count z.1) j.whole

  condition_keeps : (e : AnExp) (s : State) (r : AnExpression × State) → IsCondition names signatures e s r → Count r.1 ≡ Count s
  condition_keeps e s r j =
      let x = full_keeps e s j.part j.typed in
      let is = ap (λ (z : AnExpression × State). Count z.1) j.whole.whole in
      omega arith

  -- a part that may be left out
  part_keeps : (e : Option AnExp) (s : State) (r : Option AnExpression × State) → IsPart names signatures e s r → Count r.1 ≡ Count s
  part_keeps None s r j = ap (λ (z : Option AnExpression × State). Count z.1) j
  part_keeps (Some e) s r j =
      let x = full_keeps e s j.part j.typed in
      let is = ap (λ (z : Option AnExpression × State). Count z.1) j.whole in
      omega arith

  turn_keeps : (e : Option AnExp) (s : State) (r : Option AnExpression × State) → IsTurn names signatures e s r → Count r.1 ≡ Count s
  turn_keeps None s r j = ap (λ (z : Option AnExpression × State). Count z.1) j
  turn_keeps (Some e) s r j =
      let x = condition_keeps e s j.part j.typed in
      let is = ap (λ (z : Option AnExpression × State). Count z.1) j.whole in
      omega arith

  -- ---- statements

  module _ (result_type : CType) where
    return_keeps : (e : Option AnExp) (s : State) (r : AnAction × State) → IsReturn names signatures result_type e s r → Count r.1 ≡ Count s
    return_keeps None s r j = ap (λ (z : AnAction × State). Count z.1) j
    return_keeps (Some e) s r j =
        let x = full_keeps e s j.part j.typed in
        let is = ap (λ (z : AnAction × State). Count z.1) j.whole.whole in
        omega arith

    mutual
      pub statement_adds : (looping : Bool) (a : AStatement) (s : State) (r : AnAction × State)
          → IsStatement names signatures result_type looping a s r → (w : List Placed) → Count r.1 + length w ≤ Count s + length (onto_statement a w)
      statement_adds looping (block row) s r j w =
          let x = items_add looping row (entered s) j.part j.typed (sign marks.CloseBrace 0 ∷ w) in
          let is = ap (λ (z : AnAction × State). Count z.1) j.whole in
          omega arith
      statement_adds looping empty s r j w = let is = ap (λ (z : AnAction × State). Count z.1) j in omega arith
      statement_adds looping (expression e) s r j w =
          let x = full_keeps e s j.part j.typed in
          let is = ap (λ (z : AnAction × State). Count z.1) j.whole in
          omega (arith, longer_exp e (sign marks.Semicolon 0 ∷ w))
      statement_adds looping (break_off at) s r j w = let is = ap (λ (z : AnAction × State). Count z.1) j.typed in omega arith
      statement_adds looping (continue_on at) s r j w = let is = ap (λ (z : AnAction × State). Count z.1) j.typed in omega arith
      statement_adds looping (give_back at e) s r j w =
          let x = return_keeps e s r j in
          omega (arith, longer_part e (sign marks.Semicolon 0 ∷ w))
      statement_adds looping (if_then at o c a) s r j w =
          let k = j.whole in
          let x = condition_keeps c s j.part j.typed in
          let y = statement_adds looping a j.part.1 k.part k.typed w in
          let is = ap (λ (z : AnAction × State). Count z.1) k.whole in
          omega (arith, longer_exp c (sign marks.CloseParenthesis 0 ∷ onto_statement a w))
      statement_adds looping (if_else at o c a other b) s r j w =
          let k = j.whole in
          let m = k.whole in
          let v : List Placed = word keys.Else other ∷ onto_statement b w in
          let x = condition_keeps c s j.part j.typed in
          let y = statement_adds looping a j.part.1 k.part k.typed v in
          let u = statement_adds looping b k.part.1 m.part m.typed w in
          let is = ap (λ (z : AnAction × State). Count z.1) m.whole in
          omega (arith, longer_exp c (sign marks.CloseParenthesis 0 ∷ onto_statement a v))
      statement_adds looping (while_loop at o c a) s r j w =
          let k = j.whole in
          let x = condition_keeps c s j.part j.typed in
          let y = statement_adds true a j.part.1 k.part k.typed w in
          let is = ap (λ (z : AnAction × State). Count z.1) k.whole in
          omega (arith, longer_exp c (sign marks.CloseParenthesis 0 ∷ onto_statement a w))
      statement_adds looping (do_loop at a again o c) s r j w =
          let k = j.whole in
          let v : List Placed = sign marks.CloseParenthesis 0 ∷ sign marks.Semicolon 0 ∷ w in
          let x = statement_adds true a s j.part j.typed (word keys.While again ∷ onto_condition o c (sign marks.Semicolon 0 ∷ w)) in
          let y = condition_keeps c j.part.1 k.part k.typed in
          let is = ap (λ (z : AnAction × State). Count z.1) k.whole in
          omega (arith, longer_exp c v)
      statement_adds looping (for_loop at o i c e a) s r j w =
          let k = j.whole in
          let m = k.whole in
          let q = m.whole in
          let last : List Placed = sign marks.CloseParenthesis 0 ∷ onto_statement a w in
          let middle : List Placed = sign marks.Semicolon 0 ∷ onto_part e last in
          let x = part_keeps i s j.part j.typed in
          let y = turn_keeps c j.part.1 k.part k.typed in
          let u = part_keeps e k.part.1 m.part m.typed in
          let v = statement_adds true a m.part.1 q.part q.typed w in
          let is = ap (λ (z : AnAction × State). Count z.1) q.whole in
          omega (arith, longer_part i (sign marks.Semicolon 0 ∷ onto_part c middle), longer_part c middle, longer_part e last)

      pub items_add : (looping : Bool) (row : SomeItems) (s : State) (r : SomeActions × State)
          → AreItems names signatures result_type looping row s r → (w : List Placed) → Count r.1 + length w ≤ Count s + length (onto_items row w)
      items_add looping no_items s r j w = let is = ap (λ (z : SomeActions × State). Count z.1) j in omega arith
      items_add looping (local_item l rest) s r j w =
          let k = j.whole in
          let behind : List Placed = sign marks.Semicolon 0 ∷ onto_items rest w in
          let x = declarators_add l.storage l.spec l.declarators s j.part j.typed behind in
          let y = items_add looping rest j.part.1 k.part k.typed w in
          let is = ap (λ (z : SomeActions × State). Count z.1) k.whole in
          omega (
            arith,
            longer_storage l.storage (onto_spec l.spec (onto_declarators l.declarators behind)),
            longer_spec l.spec (onto_declarators l.declarators behind),
          )
      items_add looping (statement_item a rest) s r j w =
          let k = j.whole in
          let x = statement_adds looping a s j.part j.typed (onto_items rest w) in
          let y = items_add looping rest j.part.1 k.part k.typed w in
          let is = ap (λ (z : SomeActions × State). Count z.1) k.whole in
          omega arith

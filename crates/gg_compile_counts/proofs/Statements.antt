-- A typed statement is at most as large as its phrase has tokens.
use Rattle.std.proofs.Common.{◌≡◌, ℕ, ◌+◌, ◌≤◌, Bool, true, List, [], ◌∷◌, ◌++◌, length, Option, Some, None, ap, arith, false, refl, ◌-◌, ◌*◌, ◌==◌, ◌∙◌}
use Rattle.std.specs.Prelude.{not, ◌&&◌, if◌then◌else◌}
use Rattle.c_tokens.specs.declared.marks.Mark.TheVariants as marks
use Rattle.c_tokens.specs.declared.words.Key.TheVariants as keys
use Rattle.c_phrases.specs.declared.operator.Spec.{Spec}
use Rattle.c_phrases.specs.declared.operator.Storage.{Storage}
use Rattle.c_phrases.specs.declared.operator.Storage.TheVariants as storages
use Rattle.c_phrases.specs.Classes.{Placed, word, sign}
use Rattle.c_phrases.specs.Phrases.{AnExp, SomeExps, no_exps, exps}
use Rattle.c_phrases.specs.Spelling.{onto_exp, onto_spec, onto_name, onto_first, onto_others}
use Rattle.c_phrases.specs.Units.{AnInit, value, elements, AnInitialised, ADeclarator, AStatement, block, empty}
use Rattle.c_phrases.specs.Units.{expression, break_off, continue_on, give_back, if_then, if_else, while_loop}
use Rattle.c_phrases.specs.Units.{do_loop, for_loop, SomeItems, no_items, local_item, statement_item}
use Rattle.c_phrases.specs.UnitSpelling.{onto_part, onto_length, onto_init, onto_initialised, onto_declarator}
use Rattle.c_phrases.specs.UnitSpelling.{onto_more_declarators, onto_declarators, onto_condition}
use Rattle.c_phrases.specs.UnitSpelling.{onto_statement, onto_items, onto_trailing}
use Rattle.c_types.specs.declared.types.CType.{CType}
use Rattle.c_types.specs.Typed.{AnExpression, Constant}
use Rattle.c_types.specs.Types.{size_of}
use Rattle.c_program.specs.Need.{nodes, maybe_nodes}
use Rattle.c_program.specs.Statements.{ADeclaration, KeepOf, ClearOf, BeginOf, AnAction, SomeActions, StoreOf, ZerosOf}
use Rattle.c_syntax.proofs.ExpressionLaws.{longer_first, longer_stars, longer_exp}
use Rattle.c_syntax.proofs.ListLaws.{longer_length, longer_declarator, longer_trailing}
use Rattle.c_syntax.proofs.ItemLaws.{longer_spec, longer_storage}
use Rattle.c_typed_scope.specs.declared.entry.Entry.{Entry}
use Rattle.c_typed_scope.specs.declared.entry.Signature.{Signature}
use Rattle.c_typed_expressions.specs.Phrases.{init_in, brackets_in}
use Rattle.c_typed_expressions.specs.Expressions.{written}
use Rattle.gg_compile_spelled.specs.c_typed_definition.specs.State.{State, with_local, with_register}
use Rattle.gg_compile_spelled.specs.c_typed_definition.specs.Statements.{entered}
use Rattle.gg_compile_spelled.specs.c_typed_definition.specs.Forms.{text_of, given_count}
use Rattle.gg_compile_spelled.specs.c_typed_definition.specs.Rooms.{offset_in, is_next_addressed}
use Rattle.gg_compile_spelled.specs.c_typed_definition.specs.Automatics.{memory_variable, memory_array, zeros, text_stores, text_stored}
use Rattle.gg_compile_spelled.specs.c_typed_law.specs.Locals.{IsBegun, IsAutomatic, IsLocal, AreLocals, IsMemoryBegun, IsVariable, IsAutomaticBy}
use Rattle.gg_compile_spelled.specs.c_typed_law.specs.Statements.{IsFull, IsCondition, IsPart, IsTurn, IsReturn, IsStatement, AreItems}
use Rattle.gg_compile_spelled.specs.c_typed_law.specs.Arrays.{IsGiven, IsStored, AreStored, IsArrayBegun}
use Rattle.gg_compile_counts.specs.Sizes.{declared_size, act_size, row_size}
use Rattle.gg_compile_counts.proofs.Phrases.{exp_nodes}

-- ---- declarations

declared_behind : (ds es : List ADeclaration) → declared_size (ds ++ es) ≡ declared_size ds + declared_size es
declared_behind [] es = omega arith
declared_behind (KeepOf object ∷ ds) es = declared_behind ds es
declared_behind (ClearOf n ∷ ds) es = declared_behind ds es
declared_behind (BeginOf n e ∷ ds) es = let x = declared_behind ds es in omega arith
declared_behind (StoreOf t o e ∷ ds) es = let x = declared_behind ds es in omega arith
declared_behind (ZerosOf t o n ∷ ds) es = let x = declared_behind ds es in omega arith

-- the size of one declaration
abbrev One : ADeclaration → ℕ
One d = declared_size (d ∷ [])

-- the size of what declarations have become
abbrev Done : List ADeclaration × State → ℕ
Done r = declared_size r.0

-- one more
pushed : (done : List ADeclaration) (d : ADeclaration) (s : State) (r : List ADeclaration × State) → r ≡ (done ++ d ∷ [], s) → Done r ≡ declared_size done + One d
pushed done d s r is = ap Done is ∙ declared_behind done (d ∷ [])

-- a string that is stored is nothing
text_is_none : (t : CType) (o : ℕ) (bs : List ℕ) → declared_size (text_stores t o bs) ≡ 0
text_is_none t o [] = refl
text_is_none t o (b ∷ bs) = let x = text_is_none t (o + 1) bs in omega arith

stored_is_none : (t : CType) (o : ℕ) (p : Option (List ℕ)) → declared_size (text_stored t o p) ≡ 0
stored_is_none t o None = refl
stored_is_none t o (Some bs) = text_is_none t o bs

-- a run of zeros is at most one
zeros_few : (t : CType) (o n : ℕ) → declared_size (zeros t o n) ≤ 1
zeros_few t o n = by (n == 0)
  where
    by : (test : Bool) → declared_size (if test then [] else ZerosOf t o n ∷ []) ≤ 1
    by true = omega arith
    by false = omega arith

module _ (names : List (List ℕ × Entry)) (signatures : List Signature) where
  given_nodes : (t : CType) (e : AnExp) (s : State) (x : AnExpression × State) → IsGiven names signatures t e s x → (w : List Placed)
      → nodes x.0 + length w ≤ length (onto_exp e w)
  given_nodes t e s x j w =
      let k = j.whole in
      let y = exp_nodes names signatures s.scope e s.area j.part j.typed w in
      let converted = ap nodes k.typed.typed in
      let is = ap (λ (z : AnExpression × State). nodes z.0) k.whole in
      omega arith

  -- a list's elements are at most as many tokens
  list_size : (es : SomeExps) (trailing : Bool) (w : List Placed) → length w ≤ length (onto_init (elements es trailing) w)
  list_size es trailing w =
      let v : List Placed = sign marks.CloseBrace 0 ∷ w in
      omega (arith, longer_first es (onto_trailing trailing v), longer_trailing trailing v)

  init_size : (t : CType) (n : ℕ) (i : AnInit) (done : List ADeclaration) (s : State) (r : List ADeclaration × State)
      → IsBegun names signatures t n (Some i) done s r → (w : List Placed) → Done r + length w ≤ declared_size done + length (onto_init i w)
  init_size t n (value e) done s r j w =
      let x = given_nodes t e s j.part j.typed w in
      let is = pushed done (BeginOf n j.part.0) j.part.1 r j.whole in
      omega arith
  init_size t n (elements es trailing) done s r j w =
      let is = pushed done (ClearOf n) s r j in
      let x = list_size es trailing w in
      omega arith

  begun_size : (t : CType) (n : ℕ) (i : Option AnInitialised) (done : List ADeclaration) (s : State) (r : List ADeclaration × State)
      → IsBegun names signatures t n (init_in i) done s r → (w : List Placed) → Done r + length w ≤ declared_size done + length (onto_initialised i w)
  begun_size t n None done s r j w = let is = pushed done (ClearOf n) s r j in omega arith
  begun_size t n (Some i) done s r j w = let x = init_size t n i.with_init done s r j w in omega arith

  -- ---- values in the block

  stored_size : (t : CType) (o : ℕ) (e : AnExp) (done : List ADeclaration) (s : State) (r : List ADeclaration × State)
      → IsStored names signatures t o e done s r → (w : List Placed) → Done r + length w ≤ declared_size done + length (onto_exp e w)
  stored_size t o e done s r j w =
      let x = given_nodes t e s j.part j.typed w in
      let is = pushed done (StoreOf t o j.part.0) j.part.1 r j.whole in
      omega arith

  mutual
    firsts_size : (t : CType) (o : ℕ) (es : SomeExps) (done : List ADeclaration) (s : State) (r : List ADeclaration × State)
        → AreStored names signatures t o es done s r → (w : List Placed) → Done r + length w ≤ declared_size done + length (onto_first es w)
    firsts_size t o no_exps done s r j w = let is = ap Done j in omega arith
    firsts_size t o (exps e es) done s r j w =
        let x = stored_size t o e done s j.part j.typed (onto_others es w) in
        let y = others_size t (o + size_of t) es j.part.0 j.part.1 r j.whole w in
        omega arith

    others_size : (t : CType) (o : ℕ) (es : SomeExps) (done : List ADeclaration) (s : State) (r : List ADeclaration × State)
        → AreStored names signatures t o es done s r → (w : List Placed) → Done r + length w ≤ declared_size done + length (onto_others es w)
    others_size t o no_exps done s r j w = let is = ap Done j in omega arith
    others_size t o (exps e es) done s r j w =
        let x = stored_size t o e done s j.part j.typed (onto_others es w) in
        let y = others_size t (o + size_of t) es j.part.0 j.part.1 r j.whole w in
        omega arith

  memory_init_size : (t : CType) (o : ℕ) (i : AnInit) (done : List ADeclaration) (s : State) (r : List ADeclaration × State)
      → IsMemoryBegun names signatures t o (Some i) done s r → (w : List Placed) → Done r + length w ≤ declared_size done + length (onto_init i w)
  memory_init_size t o (value e) done s r j w =
      let x = stored_size t o e (done ++ StoreOf t o (Constant 0) ∷ []) s r j w in
      let first = declared_behind done (StoreOf t o (Constant 0) ∷ []) in
      omega arith
  memory_init_size t o (elements es trailing) done s r j w =
      let is = pushed done (StoreOf t o (Constant 0)) s r j in
      let x = list_size es trailing w in
      omega arith

  memory_size : (t : CType) (o : ℕ) (i : Option AnInitialised) (done : List ADeclaration) (s : State) (r : List ADeclaration × State)
      → IsMemoryBegun names signatures t o (init_in i) done s r → (w : List Placed) → Done r + length w ≤ declared_size done + length (onto_initialised i w)
  memory_size t o None done s r j w = let is = pushed done (StoreOf t o (Constant 0)) s r j in omega arith
  memory_size t o (Some i) done s r j w = let x = memory_init_size t o i.with_init done s r j w in omega arith

  array_init_size : (t : CType) (o : ℕ) (i : AnInit) (done : List ADeclaration) (s : State) (r : List ADeclaration × State)
      → IsArrayBegun names signatures t o (Some i) done s r → (w : List Placed) → Done r + length w ≤ declared_size done + length (onto_init i w)
  array_init_size t o (value e) done s r j w =
      let is = ap Done j in
      let behind = declared_behind done (text_stored t o (text_of e)) in
      let none = stored_is_none t o (text_of e) in
      omega (arith, longer_exp e w)
  array_init_size t o (elements es trailing) done s r j w =
      let v : List Placed = sign marks.CloseBrace 0 ∷ w in
      let x = firsts_size t o es done s r j (onto_trailing trailing v) in
      omega (arith, longer_trailing trailing v)

  array_size : (t : CType) (o : ℕ) (i : Option AnInitialised) (done : List ADeclaration) (s : State) (r : List ADeclaration × State)
      → IsArrayBegun names signatures t o (init_in i) done s r → (w : List Placed) → Done r + length w ≤ declared_size done + length (onto_initialised i w)
  array_size t o None done s r j w = let is = ap Done j in omega arith
  array_size t o (Some i) done s r j w = let x = array_init_size t o i.with_init done s r j w in omega arith

  variable_size : (in_memory : Bool) (t : CType) (d : ADeclarator) (done : List ADeclaration) (s : State) (r : List ADeclaration × State)
      → IsVariable names signatures in_memory t d done s r → (w : List Placed) → Done r + length w ≤ declared_size done + length (onto_initialised d.init w)
  variable_size true t d done s r j w = memory_size t (offset_in (size_of t) s.room) d.init done (memory_variable t d s) r j w
  variable_size false t d done s r j w = begun_size t (length s.locals) d.init done (with_local t d.name s) r j w

  -- the run of zeros behind an array's elements is counted with its name
  automatic_by_size : (l : Option (Option AnExp)) (is_register : Bool) (t : CType) (d : ADeclarator) (done : List ADeclaration) (s : State)
      (r : List ADeclaration × State) → IsAutomaticBy names signatures l is_register t d done s r → (w : List Placed)
      → Done r + length w ≤ declared_size done + 1 + length (onto_initialised d.init w)
  automatic_by_size None is_register t d done s r j w =
      let x = variable_size (not is_register && is_next_addressed s.room) t d done s r j w in omega arith
  automatic_by_size (Some l) is_register t d done s r j w =
      let m = j.part in
      let k = j.whole in
      let q = k.whole in
      let at = offset_in (size_of t) m.1.room in
      let rest = zeros t (at + given_count (init_in d.init) * size_of t) (k.part - given_count (init_in d.init)) in
      let x = array_size t at d.init done (memory_array t (k.part * size_of t) d m.1) q.part q.typed w in
      let is = ap Done q.whole in
      let behind = declared_behind q.part.0 rest in
      let few = zeros_few t (at + given_count (init_in d.init) * size_of t) (k.part - given_count (init_in d.init)) in
      omega arith

  automatic_size : (is_register : Bool) (spec : Spec) (d : ADeclarator) (done : List ADeclaration) (s : State) (r : List ADeclaration × State)
      → IsAutomatic names signatures is_register spec d done s r → (w : List Placed) → Done r + length w ≤ declared_size done + length (onto_declarator d w)
  automatic_size is_register spec d done s r j w =
      let v : List Placed = onto_initialised d.init w in
      let x = automatic_by_size (brackets_in d.length) is_register (written spec d.stars) d done s r j.whole w in
      omega (arith, longer_stars d.stars (onto_name d.name d.at (onto_length d.length v)), longer_length d.length v)

  local_size : (storage : Storage) (spec : Spec) (d : ADeclarator) (done : List ADeclaration) (s : State) (r : List ADeclaration × State)
      → IsLocal names signatures storage spec d done s r → (w : List Placed) → Done r + length w ≤ declared_size done + length (onto_declarator d w)
  local_size storages.Automatic spec d done s r j w = automatic_size false spec d done s r j w
  local_size (storages.Register at) spec d done s r j w = automatic_size true spec d done (with_register s) r j w
  local_size (storages.Static at) spec d done s r j w =
      let is = pushed done (KeepOf j.part.0) j.part.1 r j.whole in
      omega (arith, longer_declarator d w)

  locals_size : (storage : Storage) (spec : Spec) (ds : List ADeclarator) (done : List ADeclaration) (s : State) (r : List ADeclaration × State)
      → AreLocals names signatures storage spec ds done s r → (w : List Placed)
      → Done r + length w ≤ declared_size done + length (onto_more_declarators ds w)
  locals_size storage spec [] done s r j w = let is = ap Done j in omega arith
  locals_size storage spec (d ∷ ds) done s r j w =
      let x = local_size storage spec d done s j.part j.typed (onto_more_declarators ds w) in
      let y = locals_size storage spec ds j.part.0 j.part.1 r j.whole w in
      omega arith

  declarators_size : (storage : Storage) (spec : Spec) (ds : List ADeclarator) (s : State) (r : List ADeclaration × State)
      → AreLocals names signatures storage spec ds [] s r → (w : List Placed) → Done r + length w ≤ length (onto_declarators ds w)
  declarators_size storage spec [] s r j w = let is = ap Done j in omega arith
  declarators_size storage spec (d ∷ ds) s r j w =
      let x = local_size storage spec d [] s j.part j.typed (onto_more_declarators ds w) in
      let y = locals_size storage spec ds j.part.0 j.part.1 r j.whole w in
      omega arith

  -- ---- expressions in statements

  full_nodes : (e : AnExp) (s : State) (r : AnExpression × State) → IsFull names signatures e s r → (w : List Placed)
      → nodes r.0 + length w ≤ length (onto_exp e w)
  full_nodes e s r j w =
      let x = exp_nodes names signatures s.scope e s.area j.part j.typed w in
      let is = ap (λ (z : AnExpression × State). nodes z.0) j.whole in
      omega arith

  condition_nodes : (e : AnExp) (s : State) (r : AnExpression × State) → IsCondition names signatures e s r → (w : List Placed)
      → nodes r.0 + length w ≤ length (onto_exp e w)
  condition_nodes e s r j w =
      let k = j.whole in
      let x = full_nodes e s j.part j.typed w in
      let same = ap nodes k.typed.typed in
      let is = ap (λ (z : AnExpression × State). nodes z.0) k.whole in
      omega arith

  -- a part that may be left out
  part_nodes : (e : Option AnExp) (s : State) (r : Option AnExpression × State) → IsPart names signatures e s r → (w : List Placed)
      → maybe_nodes r.0 + length w ≤ length (onto_part e w)
  part_nodes None s r j w = let is = ap (λ (z : Option AnExpression × State). maybe_nodes z.0) j in omega arith
  part_nodes (Some e) s r j w =
      let x = full_nodes e s j.part j.typed w in
      let is = ap (λ (z : Option AnExpression × State). maybe_nodes z.0) j.whole in
      omega arith

  turn_nodes : (e : Option AnExp) (s : State) (r : Option AnExpression × State) → IsTurn names signatures e s r → (w : List Placed)
      → maybe_nodes r.0 + length w ≤ length (onto_part e w)
  turn_nodes None s r j w = let is = ap (λ (z : Option AnExpression × State). maybe_nodes z.0) j in omega arith
  turn_nodes (Some e) s r j w =
      let x = condition_nodes e s j.part j.typed w in
      let is = ap (λ (z : Option AnExpression × State). maybe_nodes z.0) j.whole in
      omega arith

  -- ---- statements

  module _ (result_type : CType) where
    return_size : (e : Option AnExp) (s : State) (r : AnAction × State) → IsReturn names signatures result_type e s r → (w : List Placed)
        → act_size r.0 + length w ≤ length (onto_part e w)
    return_size None s r j w = let is = ap (λ (z : AnAction × State). act_size z.0) j in omega arith
    return_size (Some e) s r j w =
        let k = j.whole in
        let x = full_nodes e s j.part j.typed w in
        let converted = ap nodes k.typed.typed in
        let is = ap (λ (z : AnAction × State). act_size z.0) k.whole in
        omega arith

    mutual
      pub statement_size : (looping : Bool) (a : AStatement) (s : State) (r : AnAction × State)
          → IsStatement names signatures result_type looping a s r → (w : List Placed) → act_size r.0 + length w ≤ length (onto_statement a w)
      statement_size looping (block row) s r j w =
          let x = items_size looping row (entered s) j.part j.typed (sign marks.CloseBrace 0 ∷ w) in
          let is = ap (λ (z : AnAction × State). act_size z.0) j.whole in
          omega arith
      statement_size looping empty s r j w = let is = ap (λ (z : AnAction × State). act_size z.0) j in omega arith
      statement_size looping (expression e) s r j w =
          let x = full_nodes e s j.part j.typed (sign marks.Semicolon 0 ∷ w) in
          let is = ap (λ (z : AnAction × State). act_size z.0) j.whole in
          omega arith
      statement_size looping (break_off at) s r j w = let is = ap (λ (z : AnAction × State). act_size z.0) j.typed in omega arith
      statement_size looping (continue_on at) s r j w = let is = ap (λ (z : AnAction × State). act_size z.0) j.typed in omega arith
      statement_size looping (give_back at e) s r j w = let x = return_size e s r j (sign marks.Semicolon 0 ∷ w) in omega arith
      statement_size looping (if_then at o c a) s r j w =
          let k = j.whole in
          let x = condition_nodes c s j.part j.typed (sign marks.CloseParenthesis 0 ∷ onto_statement a w) in
          let y = statement_size looping a j.part.1 k.part k.typed w in
          let is = ap (λ (z : AnAction × State). act_size z.0) k.whole in
          omega arith
      statement_size looping (if_else at o c a other b) s r j w =
          let k = j.whole in
          let m = k.whole in
          let v : List Placed = word keys.Else other ∷ onto_statement b w in
          let x = condition_nodes c s j.part j.typed (sign marks.CloseParenthesis 0 ∷ onto_statement a v) in
          let y = statement_size looping a j.part.1 k.part k.typed v in
          let u = statement_size looping b k.part.1 m.part m.typed w in
          let is = ap (λ (z : AnAction × State). act_size z.0) m.whole in
          omega arith
      statement_size looping (while_loop at o c a) s r j w =
          let k = j.whole in
          let x = condition_nodes c s j.part j.typed (sign marks.CloseParenthesis 0 ∷ onto_statement a w) in
          let y = statement_size true a j.part.1 k.part k.typed w in
          let is = ap (λ (z : AnAction × State). act_size z.0) k.whole in
          omega arith
      statement_size looping (do_loop at a again o c) s r j w =
          let k = j.whole in
          let v : List Placed = sign marks.Semicolon 0 ∷ w in
          let x = statement_size true a s j.part j.typed (word keys.While again ∷ onto_condition o c v) in
          let y = condition_nodes c j.part.1 k.part k.typed (sign marks.CloseParenthesis 0 ∷ v) in
          let is = ap (λ (z : AnAction × State). act_size z.0) k.whole in
          omega arith
      statement_size looping (for_loop at o i c e a) s r j w =
          let k = j.whole in
          let m = k.whole in
          let q = m.whole in
          let last : List Placed = sign marks.CloseParenthesis 0 ∷ onto_statement a w in
          let middle : List Placed = sign marks.Semicolon 0 ∷ onto_part e last in
          let x = part_nodes i s j.part j.typed (sign marks.Semicolon 0 ∷ onto_part c middle) in
          let y = turn_nodes c j.part.1 k.part k.typed middle in
          let u = part_nodes e k.part.1 m.part m.typed last in
          let v = statement_size true a m.part.1 q.part q.typed w in
          let is = ap (λ (z : AnAction × State). act_size z.0) q.whole in
          omega arith

      pub items_size : (looping : Bool) (row : SomeItems) (s : State) (r : SomeActions × State)
          → AreItems names signatures result_type looping row s r → (w : List Placed) → row_size r.0 + length w ≤ length (onto_items row w)
      items_size looping no_items s r j w = let is = ap (λ (z : SomeActions × State). row_size z.0) j in omega arith
      items_size looping (local_item l rest) s r j w =
          let k = j.whole in
          let behind : List Placed = sign marks.Semicolon 0 ∷ onto_items rest w in
          let x = declarators_size l.storage l.spec l.declarators s j.part j.typed behind in
          let y = items_size looping rest j.part.1 k.part k.typed w in
          let is = ap (λ (z : SomeActions × State). row_size z.0) k.whole in
          omega (
            arith,
            longer_storage l.storage (onto_spec l.spec (onto_declarators l.declarators behind)),
            longer_spec l.spec (onto_declarators l.declarators behind),
          )
      items_size looping (statement_item a rest) s r j w =
          let k = j.whole in
          let x = statement_size looping a s j.part j.typed (onto_items rest w) in
          let y = items_size looping rest j.part.1 k.part k.typed w in
          let is = ap (λ (z : SomeActions × State). row_size z.0) k.whole in
          omega arith

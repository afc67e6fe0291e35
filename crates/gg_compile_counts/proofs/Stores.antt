-- The parameters that are memory locals are stored in front of a body; typing the body leaves their stores as they are.
use Rattle.std.proofs.Common.{◌≡◌, ℕ, ◌+◌, ◌*◌, Bool, true, false, List, [], ◌∷◌, ◌++◌, length, Option, Some, None, refl, ap, ◌∙◌, arith}
use Rattle.std.specs.Prelude.{not, ◌&&◌, if◌then◌else◌}
use Rattle.c_phrases.specs.declared.operator.Spec.{Spec}
use Rattle.c_phrases.specs.declared.operator.Storage.{Storage}
use Rattle.c_phrases.specs.declared.operator.Storage.TheVariants as storages
use Rattle.c_phrases.specs.declared.tree.Named.{Named}
use Rattle.c_phrases.specs.Phrases.{AnExp, SomeExps, no_exps, exps}
use Rattle.c_phrases.specs.Units.{AnInit, value, elements, ADeclarator, AStatement, block, empty, expression, break_off}
use Rattle.c_phrases.specs.Units.{continue_on, give_back, if_then, if_else, while_loop, do_loop, for_loop}
use Rattle.c_phrases.specs.Units.{SomeItems, no_items, local_item, statement_item, AParam}
use Rattle.c_types.specs.declared.types.CType.{CType}
use Rattle.c_types.specs.declared.typed.Variable.TheVariants as variables
use Rattle.c_types.specs.Types.{size_of, pointer_to}
use Rattle.c_types.specs.Typed.{AnExpression, Constant}
use Rattle.c_program.specs.Statements.{ADeclaration, StoreOf, AnAction, SomeActions}
use Rattle.c_typed_scope.specs.declared.entry.Entry.{Entry}
use Rattle.c_typed_scope.specs.declared.entry.Entry.TheVariants as entries
use Rattle.c_typed_scope.specs.declared.entry.Signature.{Signature}
use Rattle.c_typed_expressions.specs.Phrases.{init_in, brackets_in}
use Rattle.c_typed_expressions.specs.Expressions.{written}
use Rattle.gg_compile_spelled.specs.c_typed_definition.specs.Rooms.{offset_in, is_next_addressed, is_parameter_addressed, parameter_store, with_parameter_in}
use Rattle.gg_compile_spelled.specs.c_typed_definition.specs.State.{State, with_area, with_local, with_register, with_room, named_state, variable_of, array_entry}
use Rattle.gg_compile_spelled.specs.c_typed_definition.specs.Automatics.{memory_variable, memory_array}
use Rattle.gg_compile_spelled.specs.c_typed_definition.specs.Signatures.{parameter_type}
use Rattle.gg_compile_spelled.specs.c_typed_definition.specs.Headings.{with_parameter}
use Rattle.gg_compile_spelled.specs.c_typed_definition.specs.Bodies.{with_stores}
use Rattle.gg_compile_spelled.specs.c_typed_definition.specs.Statements.{entered}
use Rattle.gg_compile_spelled.specs.c_typed_law.specs.Arrays.{IsGiven, IsStored, AreStored, IsArrayBegun, IsAutomaticLength}
use Rattle.gg_compile_spelled.specs.c_typed_law.specs.Locals.{IsBegun, IsMemoryBegun, IsVariable, IsAutomaticBy, IsLocal, AreLocals}
use Rattle.gg_compile_spelled.specs.c_typed_law.specs.Objects.{IsFilled, IsCountedArray, IsObjectBy, IsObject}
use Rattle.gg_compile_spelled.specs.c_typed_law.specs.Statements.{IsFull, IsCondition, IsPart, IsTurn, IsReturn, IsStatement, AreItems}
use Rattle.gg_compile_spelled.specs.c_typed_law.specs.Texts.{AreParameters}
use Rattle.gg_compile_counts.specs.Sizes.{declared_size, row_size}

-- the stores of parameters
abbrev Stores : State → List ADeclaration
Stores s = s.room.stores

module _ (names : List (List ℕ × Entry)) (signatures : List Signature) where
  -- ---- objects

  filled_keeps : (n size : ℕ) (t : CType) (is_array : Bool) (d : ADeclarator) (e : Entry) (s : State) (r : ℕ × State)
      → IsFilled names signatures n size t is_array d e s r → Stores r.1 ≡ Stores s
  filled_keeps n size t is_array d e s r j = ap (λ (z : ℕ × State). Stores z.1) j.whole

  counted_keeps : (is_static : Bool) (t : CType) (d : ADeclarator) (l : Option AnExp) (n : ℕ) (s : State) (r : ℕ × State)
      → IsCountedArray names signatures is_static t d l n s r → Stores r.1 ≡ Stores s
  counted_keeps is_static t d l n s r j =
      let k = j.whole in
      filled_keeps j.part.0 (n * size_of t) t true d (array_entry (pointer_to t) (variable_of is_static j.part.0) (n * size_of t))
      (with_area k.part s) r k.whole

  object_by_keeps : (is_static : Bool) (t : CType) (d : ADeclarator) (l : Option (Option AnExp)) (s : State) (r : ℕ × State)
      → IsObjectBy names signatures is_static t d l s r → Stores r.1 ≡ Stores s
  object_by_keeps is_static t d None s r j =
      filled_keeps j.part.0 (size_of t) t false d (entries.Variable t (variable_of is_static j.part.0)) (with_area j.part.1 s) r j.whole
  object_by_keeps is_static t d (Some l) s r j =
      let k = j.whole in
      counted_keeps is_static t d l k.part (with_area j.part.1 s) r k.whole

  object_keeps : (is_static : Bool) (spec : Spec) (d : ADeclarator) (s : State) (r : ℕ × State) → IsObject names signatures is_static spec d s r
      → Stores r.1 ≡ Stores s
  object_keeps is_static spec d s r j = object_by_keeps is_static (written spec d.stars) d (brackets_in d.length) s r j.whole

  -- ---- declarations

  given_keeps : (t : CType) (e : AnExp) (s : State) (x : AnExpression × State) → IsGiven names signatures t e s x → Stores x.1 ≡ Stores s
  given_keeps t e s x j = let k = j.whole in ap (λ (z : AnExpression × State). Stores z.1) k.whole

  begun_keeps : (t : CType) (n : ℕ) (i : Option AnInit) (done : List ADeclaration) (s : State) (r : List ADeclaration × State)
      → IsBegun names signatures t n i done s r → Stores r.1 ≡ Stores s
  begun_keeps t n None done s r j = ap (λ (z : List ADeclaration × State). Stores z.1) j
  begun_keeps t n (Some (elements es comma)) done s r j = ap (λ (z : List ADeclaration × State). Stores z.1) j
  begun_keeps t n (Some (value e)) done s r j =
      ap (λ (z : List ADeclaration × State). Stores z.1) j.whole ∙ given_keeps t e s j.part j.typed

  stored_keeps : (t : CType) (o : ℕ) (e : AnExp) (done : List ADeclaration) (s : State) (r : List ADeclaration × State)
      → IsStored names signatures t o e done s r → Stores r.1 ≡ Stores s
  stored_keeps t o e done s r j = ap (λ (z : List ADeclaration × State). Stores z.1) j.whole ∙ given_keeps t e s j.part j.typed

  list_keeps : (t : CType) (o : ℕ) (es : SomeExps) (done : List ADeclaration) (s : State) (r : List ADeclaration × State)
      → AreStored names signatures t o es done s r → Stores r.1 ≡ Stores s
  list_keeps t o no_exps done s r j = ap (λ (z : List ADeclaration × State). Stores z.1) j
  list_keeps t o (exps e es) done s r j =
      list_keeps t (o + size_of t) es j.part.0 j.part.1 r j.whole ∙ stored_keeps t o e done s j.part j.typed

  memory_keeps : (t : CType) (o : ℕ) (i : Option AnInit) (done : List ADeclaration) (s : State) (r : List ADeclaration × State)
      → IsMemoryBegun names signatures t o i done s r → Stores r.1 ≡ Stores s
  memory_keeps t o None done s r j = ap (λ (z : List ADeclaration × State). Stores z.1) j
  memory_keeps t o (Some (elements es comma)) done s r j = ap (λ (z : List ADeclaration × State). Stores z.1) j
  memory_keeps t o (Some (value e)) done s r j = stored_keeps t o e (done ++ StoreOf t o (Constant 0) ∷ []) s r j

  array_keeps : (t : CType) (o : ℕ) (i : Option AnInit) (done : List ADeclaration) (s : State) (r : List ADeclaration × State)
      → IsArrayBegun names signatures t o i done s r → Stores r.1 ≡ Stores s
  array_keeps t o None done s r j = ap (λ (z : List ADeclaration × State). Stores z.1) j
  array_keeps t o (Some (elements es comma)) done s r j = list_keeps t o es done s r j
  array_keeps t o (Some (value e)) done s r j = ap (λ (z : List ADeclaration × State). Stores z.1) j

  length_keeps : (l : Option AnExp) (i : Option AnInit) (s : State) (m : ℕ × State) → IsAutomaticLength names signatures l i s m → Stores m.1 ≡ Stores s
  length_keeps None i s m j = ap (λ (z : ℕ × State). Stores z.1) j
  length_keeps (Some e) i s m j = ap (λ (z : ℕ × State). Stores z.1) j.whole

  variable_keeps : (in_memory : Bool) (t : CType) (d : ADeclarator) (done : List ADeclaration) (s : State) (r : List ADeclaration × State)
      → IsVariable names signatures in_memory t d done s r → Stores r.1 ≡ Stores s
  variable_keeps true t d done s r j = memory_keeps t (offset_in (size_of t) s.room) (init_in d.init) done (memory_variable t d s) r j
  variable_keeps false t d done s r j = begun_keeps t (length s.locals) (init_in d.init) done (with_local t d.name s) r j

  automatic_keeps : (l : Option (Option AnExp)) (is_register : Bool) (t : CType) (d : ADeclarator) (done : List ADeclaration) (s : State)
      (r : List ADeclaration × State) → IsAutomaticBy names signatures l is_register t d done s r → Stores r.1 ≡ Stores s
  automatic_keeps None is_register t d done s r j = variable_keeps (not is_register && is_next_addressed s.room) t d done s r j
  automatic_keeps (Some l) is_register t d done s r j =
      let m = j.part in
      let k = j.whole in
      let q = k.whole in
      ap (λ (z : List ADeclaration × State). Stores z.1) q.whole
      ∙ (array_keeps t (offset_in (size_of t) m.1.room) (init_in d.init) done (memory_array t (k.part * size_of t) d m.1) q.part q.typed
      ∙ length_keeps l (init_in d.init) s m j.typed)

  local_keeps : (storage : Storage) (spec : Spec) (d : ADeclarator) (done : List ADeclaration) (s : State) (r : List ADeclaration × State)
      → IsLocal names signatures storage spec d done s r → Stores r.1 ≡ Stores s
  local_keeps storages.Automatic spec d done s r j = automatic_keeps (brackets_in d.length) false (written spec d.stars) d done s r j.whole
  local_keeps (storages.Register at) spec d done s r j =
      automatic_keeps (brackets_in d.length) true (written spec d.stars) d done (with_register s) r j.whole
  local_keeps (storages.Static at) spec d done s r j =
      ap (λ (z : List ADeclaration × State). Stores z.1) j.whole ∙ object_keeps true spec d s j.part j.typed

  locals_keep : (storage : Storage) (spec : Spec) (ds : List ADeclarator) (done : List ADeclaration) (s : State) (r : List ADeclaration × State)
      → AreLocals names signatures storage spec ds done s r → Stores r.1 ≡ Stores s
  locals_keep storage spec [] done s r j = ap (λ (z : List ADeclaration × State). Stores z.1) j
  locals_keep storage spec (d ∷ ds) done s r j =
      locals_keep storage spec ds j.part.0 j.part.1 r j.whole ∙ local_keeps storage spec d done s j.part j.typed

  -- ---- statements

  full_keeps : (e : AnExp) (s : State) (r : AnExpression × State) → IsFull names signatures e s r → Stores r.1 ≡ Stores s
  full_keeps e s r j = ap (λ (z : AnExpression × State). Stores z.1) j.whole

  condition_keeps : (e : AnExp) (s : State) (r : AnExpression × State) → IsCondition names signatures e s r → Stores r.1 ≡ Stores s
  condition_keeps e s r j =
      let k = j.whole in
      ap (λ (z : AnExpression × State). Stores z.1) k.whole ∙ full_keeps e s j.part j.typed

  part_keeps : (e : Option AnExp) (s : State) (r : Option AnExpression × State) → IsPart names signatures e s r → Stores r.1 ≡ Stores s
  part_keeps None s r j = ap (λ (z : Option AnExpression × State). Stores z.1) j
  part_keeps (Some e) s r j = ap (λ (z : Option AnExpression × State). Stores z.1) j.whole ∙ full_keeps e s j.part j.typed

  turn_keeps : (e : Option AnExp) (s : State) (r : Option AnExpression × State) → IsTurn names signatures e s r → Stores r.1 ≡ Stores s
  turn_keeps None s r j = ap (λ (z : Option AnExpression × State). Stores z.1) j
  turn_keeps (Some e) s r j = ap (λ (z : Option AnExpression × State). Stores z.1) j.whole ∙ condition_keeps e s j.part j.typed

  module _ (result_type : CType) where
    return_keeps : (e : Option AnExp) (s : State) (r : AnAction × State) → IsReturn names signatures result_type e s r → Stores r.1 ≡ Stores s
    return_keeps None s r j = ap (λ (z : AnAction × State). Stores z.1) j
    return_keeps (Some e) s r j = let k = j.whole in ap (λ (z : AnAction × State). Stores z.1) k.whole ∙ full_keeps e s j.part j.typed

    mutual
      statement_keeps : (looping : Bool) (a : AStatement) (s : State) (r : AnAction × State)
          → IsStatement names signatures result_type looping a s r → Stores r.1 ≡ Stores s
      statement_keeps looping (block row) s r j =
          ap (λ (z : AnAction × State). Stores z.1) j.whole ∙ items_keep looping row (entered s) j.part j.typed
      statement_keeps looping empty s r j = ap (λ (z : AnAction × State). Stores z.1) j
      statement_keeps looping (expression e) s r j = ap (λ (z : AnAction × State). Stores z.1) j.whole ∙ full_keeps e s j.part j.typed
      statement_keeps looping (break_off at) s r j = ap (λ (z : AnAction × State). Stores z.1) j.typed
      statement_keeps looping (continue_on at) s r j = ap (λ (z : AnAction × State). Stores z.1) j.typed
      statement_keeps looping (give_back at e) s r j = return_keeps e s r j
      statement_keeps looping (if_then at o c a) s r j =
          let k = j.whole in
          ap (λ (z : AnAction × State). Stores z.1) k.whole
          ∙ (statement_keeps looping a j.part.1 k.part k.typed ∙ condition_keeps c s j.part j.typed)
      statement_keeps looping (if_else at o c a other b) s r j =
          let k = j.whole in
          let m = k.whole in
          ap (λ (z : AnAction × State). Stores z.1) m.whole
          ∙ (statement_keeps looping b k.part.1 m.part m.typed
          ∙ (statement_keeps looping a j.part.1 k.part k.typed ∙ condition_keeps c s j.part j.typed))
      statement_keeps looping (while_loop at o c a) s r j =
          let k = j.whole in
          ap (λ (z : AnAction × State). Stores z.1) k.whole
          ∙ (statement_keeps true a j.part.1 k.part k.typed ∙ condition_keeps c s j.part j.typed)
      statement_keeps looping (do_loop at a again o c) s r j =
          let k = j.whole in
          ap (λ (z : AnAction × State). Stores z.1) k.whole
          ∙ (condition_keeps c j.part.1 k.part k.typed ∙ statement_keeps true a s j.part j.typed)
      statement_keeps looping (for_loop at o i c e a) s r j =
          let k = j.whole in
          let m = k.whole in
          let q = m.whole in
          ap (λ (z : AnAction × State). Stores z.1) q.whole
          ∙ (statement_keeps true a m.part.1 q.part q.typed
          ∙ (part_keeps e k.part.1 m.part m.typed ∙ (turn_keeps c j.part.1 k.part k.typed ∙ part_keeps i s j.part j.typed)))

      pub items_keep : (looping : Bool) (row : SomeItems) (s : State) (r : SomeActions × State)
          → AreItems names signatures result_type looping row s r → r.1.room.stores ≡ s.room.stores
      items_keep looping no_items s r j = ap (λ (z : SomeActions × State). Stores z.1) j
      items_keep looping (local_item l rest) s r j =
          let k = j.whole in
          ap (λ (z : SomeActions × State). Stores z.1) k.whole
          ∙ (items_keep looping rest j.part.1 k.part k.typed ∙ locals_keep l.storage l.spec l.declarators [] s j.part j.typed)
      items_keep looping (statement_item a rest) s r j =
          let k = j.whole in
          ap (λ (z : SomeActions × State). Stores z.1) k.whole
          ∙ (items_keep looping rest j.part.1 k.part k.typed ∙ statement_keeps looping a s j.part j.typed)

-- ---- what is stored: parameters

pub record IsStore (d : ADeclaration) : Type 0 where
  pub type : CType
  pub number : ℕ
  pub offset : ℕ
  pub is : d ≡ parameter_store type number offset

abbrev pub AreStores : List ADeclaration → Type 0
AreStores [] = Unit {0}
AreStores (d ∷ ds) = IsStore d × AreStores ds

stores_push : (ds : List ADeclaration) (d : ADeclaration) → AreStores ds → IsStore d → AreStores (ds ++ d ∷ [])
stores_push [] d all h = (h, tt)
stores_push (x ∷ ds) d all h = (all.0, stores_push ds d all.1 h)

parameter_by : (in_memory : Bool) (n : List ℕ) (t : CType) (k : ℕ) (s : State) → AreStores s.room.stores → AreStores (if in_memory
    then with_room (with_parameter_in t k s.room) (named_state n (entries.Variable t (variables.InBlock (offset_in (size_of t) s.room))) s)
    else named_state n (entries.Variable t (variables.Parameter k)) s).room.stores
parameter_by true n t k s h =
    stores_push s.room.stores (parameter_store t k (offset_in (size_of t) s.room)) h
    (record { type = t; number = k; offset = offset_in (size_of t) s.room; is = refl })
parameter_by false n t k s h = h

parameter_stores : (name : Option Named) (t : CType) (k : ℕ) (s : State) → AreStores s.room.stores → AreStores (with_parameter name t k s).room.stores
parameter_stores None t k s h = h
parameter_stores (Some n) t k s h = parameter_by (is_parameter_addressed k s.room) n.name t k s h

pub parameters_store : (names : List (List ℕ × Entry)) (signatures : List Signature) (defines : Bool) (ps : List AParam) (n : ℕ) (s r : State)
    → AreParameters names signatures defines ps n s r → AreStores s.room.stores → AreStores r.room.stores
parameters_store names signatures defines [] n s r j h = rw j h
parameters_store names signatures defines (p ∷ ps) n s r j h =
    let k = j.typed.whole in
    let here : AreStores j.part.room.stores = rw (k.whole) (parameter_stores p.name (parameter_type p) n (with_area k.part s) h) in
    parameters_store names signatures defines ps (n + 1) j.part r j.whole here

-- their size is none
declared_none : (ds : List ADeclaration) → AreStores ds → declared_size ds ≡ 0
declared_none [] all = refl
declared_none (d ∷ ds) all =
    let h = all.0 in
    let rest : declared_size ds ≡ 0 = declared_none ds all.1 in
    let none : 0 + declared_size ds ≡ 0 = omega arith in
    rw (h.is) none

pub stores_are_none : (ds : List ADeclaration) (body : SomeActions) → AreStores ds → row_size (with_stores ds body) ≡ row_size body
stores_are_none [] body all = refl
stores_are_none (d ∷ ds) body all = let none = declared_none (d ∷ ds) all in omega arith

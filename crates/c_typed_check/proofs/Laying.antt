-- Whatever is typed, objects are laid one behind another.
use Rattle.std.proofs.Common.{◌≡◌, ℕ, zero, suc, ◌+◌, Bool, true, false, List, [], ◌∷◌, ◌++◌, refl, sym, subst, Option, Some, None, Result, Ok, Err}
use Rattle.std.proofs.Common.{if◌then◌else◌, length, ◌*◌}
use Rattle.std.proofs.lemmas.Bool.{ltb-false}
use Rattle.std.specs.Prelude.{is_some}
use Rattle.gg_base.proofs.Facts.{ok_same}
use Rattle.tree_core.specs.declared.program.Object.{Object}
use Rattle.c_phrases.specs.declared.operator.Spec.{Spec}
use Rattle.c_phrases.specs.declared.operator.Storage.{Storage}
use Rattle.c_phrases.specs.declared.operator.Storage.TheVariants as storages
use Rattle.c_phrases.specs.Phrases.{AnExp, name, number, str, paren, call, index, step_after, step_before, prefix}
use Rattle.c_phrases.specs.Phrases.{sizeof_exp, sizeof_type, cast, binary, choice, assign, comma, SomeExps, no_exps}
use Rattle.c_phrases.specs.Phrases.{exps}
use Rattle.c_phrases.specs.Units.{AnInit, value, elements, ADeclarator, AStatement, block, empty, expression}
use Rattle.c_phrases.specs.Units.{break_off, continue_on, give_back, if_then, if_else, while_loop, do_loop, for_loop}
use Rattle.c_phrases.specs.Units.{SomeItems, no_items, local_item, statement_item, AParam, AFunction, ADeclared}
use Rattle.c_phrases.specs.Units.{function, globals, AnExternal}
use Rattle.c_types.specs.declared.types.CType.{CType}
use Rattle.c_types.specs.declared.fault.TypeKind.TheVariants.{DataFull}
use Rattle.c_types.specs.Answers.{Fault, bad, ◌>>=◌}
use Rattle.c_types.specs.Types.{size_of}
use Rattle.c_types.specs.Typed.{AnExpression, LiteralAt}
use Rattle.c_typed_scope.specs.declared.entry.Entry.{Entry}
use Rattle.c_typed_scope.specs.declared.entry.Signature.{Signature}
use Rattle.c_typed_scope.specs.Scopes.{Scope, find}
use Rattle.c_typed_scope.specs.Layout.{Area, placed, one_more_literal, literal}
use Rattle.c_typed_scope.specs.Contents.{Filled, with_contents, filled, filled_to}
use Rattle.c_typed_expressions.specs.Phrases.{init_in, brackets_in, params_in}
use Rattle.c_typed_expressions.specs.Expressions.{integer_of, beside, sizeof_unless, is_function, type_exp, type_exps}
use Rattle.c_program.specs.Statements.{ADeclaration, AnAction}
use Rattle.c_program.specs.Programs.{ARoutine, AProgram}
use Rattle.c_typed_statements.specs.c_typed_definition.specs.Initialisers.{type_length, type_element, type_elements}
use Rattle.c_typed_statements.specs.c_typed_definition.specs.State.{State, with_area, measuring, counted_static, laid, with_local, with_register}
use Rattle.c_typed_statements.specs.c_typed_definition.specs.Declarations.{length_in, literals_in, contents_of, object_with}
use Rattle.c_typed_statements.specs.c_typed_definition.specs.Declarations.{plain_object, counted_array, array_object, object_by, type_object}
use Rattle.c_typed_statements.specs.c_typed_definition.specs.Automatics.{memory_variable, memory_array, type_value, begun, type_store, memory_begun, type_stores, array_begun, filled_array, automatic_length}
use Rattle.c_typed_statements.specs.c_typed_definition.specs.Automatics.{automatic_array, automatic_variable, automatic_by, type_automatic, type_local, type_locals}
use Rattle.c_typed_statements.specs.c_typed_definition.specs.Statements.{entered, jump, type_full, type_condition, type_maybe, type_maybe_condition, type_return, type_statement, type_items}
use Rattle.c_typed_statements.specs.c_typed_definition.specs.Headings.{Text, with_declared, agrees}
use Rattle.c_typed_statements.specs.c_typed_definition.specs.Bodies.{entered_function}
use Rattle.c_typed_statements.specs.c_typed_definition.specs.Headings.{earlier_by, head_of, is_below}
use Rattle.c_typed_statements.specs.c_typed_definition.specs.Signatures.{signature_of, known}
use Rattle.c_typed_statements.specs.c_typed_definition.specs.Texts.{type_parameter, parameter_length, type_parameters, type_body}
use Rattle.c_typed_statements.specs.c_typed_definition.specs.Texts.{type_introduced, type_function, type_globals, type_declared}
use Rattle.c_typed_statements.specs.c_typed_definition.specs.Texts.{type_externals, any_block, stacked_if, whole_by, main_of, empty_text, type_text}
use Rattle.c_typed_scope.specs.Stack.{stack_size, opened, with_stack}
use Rattle.c_typed_check.specs.Laid.{LiesBehind, LieFrom, AreLaid}
use Rattle.c_typed_law.proofs.Law.{text_means}
use Rattle.c_typed_law.proofs.Declared.{declared_area, parameter_area}
use Rattle.c_typed_check.specs.Typed.{IsTypedUnit}

-- one more behind the others
lie_more : (end last : ℕ) (os : List Object) (o : Object) → LieFrom end os last → LiesBehind last o → LieFrom end (os ++ o ∷ []) (o.address + o.size)
lie_more end last [] o lie one = (subst (λ e. LiesBehind e o) lie one, refl)
lie_more end last (x ∷ os) o lie one = (lie.0, lie_more (x.address + x.size) last os o lie.1 one)

-- contents leave objects where they are
lie_held : (end last : ℕ) (n : ℕ) (f : Filled) (os : List Object) → LieFrom end os last → LieFrom end (with_contents n f os) last
lie_held end last n f [] lie = lie
lie_held end last zero f (o ∷ os) lie = (record { begins = lie.0.begins; within = lie.0.within }, lie.1)
lie_held end last (suc n) f (o ∷ os) lie = (lie.0, lie_held (o.address + o.size) last n f os lie.1)

pub record IsLaid (a : Area) : Type 0 where
  pub lie : LieFrom 65536 a.objects a.end

-- where this holds before, what is answered has that
record Leaves {R : Type 0} (P : Type 0) (Q : R → Type 0) (m : Result R Fault) : Type 0 where
  pub leaves : (r : R) → m ≡ Ok r → P → Q r

leave_ok : {R : Type 0} (P : Type 0) (Q : R → Type 0) (x : R) → (P → Q x) → Leaves P Q (Ok x)
leave_ok P Q x h = record { leaves = λ r e p. subst Q (ok_same x r e) (h p) }

leave_bad : {R : Type 0} (P : Type 0) (Q : R → Type 0) (f : Fault) → Leaves P Q (Err f)
leave_bad P Q f = record { leaves = λ r e p. absurd (cc) }

leave_any : {R : Type 0} (P : Type 0) (m : Result R Fault) → Leaves P (λ r. P) m
leave_any P m = record { leaves = λ r e p. p }

leave_then : {A B : Type 0} (P : Type 0) (Q : A → Type 0) (S : B → Type 0) (m : Result A Fault) (k : A → Result B Fault) → Leaves P Q m → ((x : A) → Leaves (Q x) S (k x)) → Leaves P S (m >>= k)
leave_then P Q S (Err f) k one rest = leave_bad P S f
leave_then P Q S (Ok x) k one rest = record { leaves = λ r e p. (rest x).leaves r e (one.leaves x refl p) }

abbrev LeavesArea : {X : Type 0} → Area → Result (X × Area) Fault → Type 0
LeavesArea {X} a m = Leaves (IsLaid a) (λ (r : X × Area). IsLaid r.1) m

beside_leaves : (a : Area) (m : Result AnExpression Fault) → LeavesArea a (beside a m)
beside_leaves a m = leave_then _ _ _ _ _ (leave_any (IsLaid a) m) (λ t. leave_ok _ _ _ (λ p. p))

placed_if : (test : Bool) (at n : ℕ) (a b : Area) → (test ≡ false → IsLaid a → IsLaid b) → LeavesArea a (if test then bad at DataFull else Ok (n, b))
placed_if true at n a b h = leave_bad _ _ _
placed_if false at n a b h = leave_ok _ _ _ (h refl)

placed_leaves : (at : ℕ) (label : List ℕ) (align size : ℕ) (bytes : List ℕ) (a : Area) → LeavesArea a (placed at label align size bytes a)
unfolding placed
placed_leaves at label align size bytes a = placed_if _ _ _ a _ (λ e l. record { lie = lie_more 65536 a.end a.objects _ l.lie (record { begins = refl; within = ltb-false 1114112 _ e }) })

literal_if : (test : Bool) (a : Area) (n : ℕ) (m : Result (ℕ × Area) Fault) → LeavesArea a m
    → LeavesArea a (if test then Ok (LiteralAt 0 n, a) else m >>= λ r. Ok (LiteralAt r.0 n, one_more_literal r.1))
literal_if true a n m h = leave_ok _ _ _ (λ p. p)
literal_if false a n m h = leave_then _ _ _ _ _ h (λ x. leave_ok _ _ _ (λ l. record { lie = l.lie }))

literal_leaves : (at : ℕ) (bytes : List ℕ) (a : Area) → LeavesArea a (literal at bytes a)
unfolding literal
literal_leaves at bytes a = literal_if a.measuring a _ _ (placed_leaves _ _ _ _ _ a)

filled_leaves : (n : ℕ) (f : Filled) (a : Area) → IsLaid a → IsLaid (filled n f a)
unfolding filled
filled_leaves n f a l = record { lie = lie_held 65536 a.end n f a.objects l.lie }

module _ (names : List (List ℕ × Entry)) (signatures : List Signature) (scope : Scope) where
  sizeof_leaves : (test : Bool) (at : ℕ) (a : Area) (m : Result (AnExpression × Area) Fault) → LeavesArea a m → LeavesArea a (sizeof_unless test at m)
  sizeof_leaves true at a m h = leave_bad _ _ _
  sizeof_leaves false at a m h = leave_then _ _ _ _ _ h (λ x. beside_leaves x.1 _)

  mutual
    exp_leaves : (e : AnExp) (a : Area) → LeavesArea a (type_exp names signatures scope e a)
    exp_leaves (name n at) a = beside_leaves a _
    exp_leaves (number v at) a = leave_ok _ _ _ (λ p. p)
    exp_leaves (str b at) a = literal_leaves at b a
    exp_leaves (paren o e) a = exp_leaves e a
    exp_leaves (call n at o es) a = leave_then _ _ _ _ _ (leave_any (IsLaid a) _) (λ f. leave_then _ _ _ _ _ (exps_leave es a) (λ xs. beside_leaves xs.1 _))
    exp_leaves (index e o i) a = leave_then _ _ _ _ _ (exp_leaves e a) (λ x. leave_then _ _ _ _ _ (exp_leaves i x.1) (λ y. beside_leaves y.1 _))
    exp_leaves (step_after e op at) a = leave_then _ _ _ _ _ (exp_leaves e a) (λ x. beside_leaves x.1 _)
    exp_leaves (step_before op at e) a = leave_then _ _ _ _ _ (exp_leaves e a) (λ x. beside_leaves x.1 _)
    exp_leaves (prefix op at e) a = leave_then _ _ _ _ _ (exp_leaves e a) (λ x. beside_leaves x.1 _)
    exp_leaves (sizeof_exp at e) a = sizeof_leaves (is_function names signatures scope e) at a _ (exp_leaves e a)
    exp_leaves (sizeof_type at o t) a = beside_leaves a _
    exp_leaves (cast o t e) a = leave_then _ _ _ _ _ (exp_leaves e a) (λ x. beside_leaves x.1 _)
    exp_leaves (binary l op at r) a = leave_then _ _ _ _ _ (exp_leaves l a) (λ x. leave_then _ _ _ _ _ (exp_leaves r x.1) (λ y. beside_leaves y.1 _))
    exp_leaves (choice c at e d) a = leave_then _ _ _ _ _ (exp_leaves c a) (λ z. leave_then _ _ _ _ _ (exp_leaves e z.1) (λ x. leave_then _ _ _ _ _ (exp_leaves d x.1) (λ y. beside_leaves y.1 _)))
    exp_leaves (assign p op at v) a = leave_then _ _ _ _ _ (exp_leaves p a) (λ x. leave_then _ _ _ _ _ (exp_leaves v x.1) (λ y. beside_leaves y.1 _))
    exp_leaves (comma l r) a = leave_then _ _ _ _ _ (exp_leaves l a) (λ x. leave_then _ _ _ _ _ (exp_leaves r x.1) (λ y. leave_ok _ _ _ (λ p. p)))

    exps_leave : (es : SomeExps) (a : Area) → LeavesArea a (type_exps names signatures scope es a)
    exps_leave no_exps a = leave_ok _ _ _ (λ p. p)
    exps_leave (exps e es) a = leave_then _ _ _ _ _ (exp_leaves e a) (λ x. leave_then _ _ _ _ _ (exps_leave es x.1) (λ xs. leave_ok _ _ _ (λ p. p)))

  length_leaves : (e : AnExp) (a : Area) → LeavesArea a (type_length names signatures scope e a)
  unfolding type_length
  length_leaves e a = leave_then _ _ _ _ _ (exp_leaves e a) (λ x. leave_then _ _ _ _ _ (leave_any (IsLaid x.1) _) (λ n. leave_ok _ _ _ (λ p. p)))

  element_leaves : (t : CType) (e : AnExp) (s : Filled × Area) → LeavesArea s.1 (type_element names signatures scope t e s)
  unfolding type_element
  element_leaves t e s = leave_then _ _ _ _ _ (exp_leaves e s.1) (λ x. leave_then _ _ _ _ _ (leave_any (IsLaid x.1) _) (λ f. leave_ok _ _ _ (λ p. p)))

  elements_leave : (t : CType) (es : SomeExps) (s : Filled × Area) → LeavesArea s.1 (type_elements names signatures scope t es s)
  elements_leave t no_exps s = leave_ok _ _ _ (λ p. p)
  elements_leave t (exps e es) s = leave_then _ _ _ _ _ (element_leaves t e s) (λ next. elements_leave t es next)

counted_leaves : (is_static : Bool) (a : Area) → IsLaid a → IsLaid (counted_static is_static a)
counted_leaves true a l = record { lie = l.lie }
counted_leaves false a l = l

laid_leaves : (is_static : Bool) (at : ℕ) (label : List ℕ) (align size : ℕ) (a : Area) → LeavesArea a (laid is_static at label align size a)
unfolding laid
laid_leaves is_static at label align size a = leave_then _ _ _ _ _ (placed_leaves at _ align size [] a) (λ r. leave_ok _ _ _ (counted_leaves is_static r.1))

abbrev LeavesState : {X : Type 0} → State → Result (X × State) Fault → Type 0
LeavesState {X} s m = Leaves (IsLaid s.area) (λ (r : X × State). IsLaid r.1.area) m

abbrev LeavesAlone : State → Result State Fault → Type 0
LeavesAlone s m = Leaves (IsLaid s.area) (λ (r : State). IsLaid r.area) m

module _ (names : List (List ℕ × Entry)) (signatures : List Signature) where
  length_in_leaves : (l : Option AnExp) (i : Option AnInit) (scope : Scope) (a : Area) → LeavesArea a (length_in names signatures l i scope a)
  length_in_leaves None i scope a = leave_ok _ _ _ (λ p. p)
  length_in_leaves (Some e) i scope a = record {
    leaves = λ r given p. (leave_then _ _ _ _ _ (length_leaves names signatures scope e (measuring true a))
        (λ x. leave_ok _ (λ (y : ℕ × Area). IsLaid y.1) _ (λ l. record { lie = l.lie }))).leaves r given (record { lie = p.lie });
  }

  literals_leave : (l : Option AnExp) (scope : Scope) (a : Area) → Leaves (IsLaid a) IsLaid (literals_in names signatures l scope a)
  literals_leave None scope a = leave_ok _ _ _ (λ p. p)
  literals_leave (Some e) scope a = leave_then _ _ _ _ _ (exp_leaves names signatures scope e a) (λ x. leave_ok _ _ _ (λ p. p))

  contents_leave : (t : CType) (is_array : Bool) (i : Option AnInit) (scope : Scope) (a : Area) → LeavesArea a (contents_of names signatures t is_array i scope a)
  contents_leave t is_array None scope a = leave_ok _ _ _ (λ p. p)
  contents_leave t is_array (Some (elements es trailing)) scope a = elements_leave names signatures scope t es (record { bytes = []; links = [] }, a)
  contents_leave t true (Some (value e)) scope a = leave_ok _ _ _ (λ p. p)
  contents_leave t false (Some (value e)) scope a = element_leaves names signatures scope t e (record { bytes = []; links = [] }, a)

  object_with_leaves : (n size : ℕ) (t : CType) (is_array : Bool) (d : ADeclarator) (e : Entry) (s : State) → LeavesState s (object_with names signatures n size t is_array d e s)
  unfolding object_with
  object_with_leaves n size t is_array d e s = leave_then _ IsLaid _ _ _
      (leave_then _ _ _ _ _ (contents_leave t is_array (init_in d.init) _ s.area) (λ r. leave_ok _ _ _ (filled_leaves n (filled_to size r.0) r.1))) (λ a. leave_ok _ _ _ (λ p. p))

  plain_leaves : (is_static : Bool) (t : CType) (d : ADeclarator) (s : State) → LeavesState s (plain_object names signatures is_static t d s)
  unfolding plain_object
  plain_leaves is_static t d s = leave_then _ _ _ _ _ (laid_leaves is_static d.at d.name (size_of t) (size_of t) s.area) (λ r. object_with_leaves r.0 (size_of t) t false d _ (with_area r.1 s))

  counted_array_leaves : (is_static : Bool) (t : CType) (d : ADeclarator) (l : Option AnExp) (n : ℕ) (s : State) → LeavesState s (counted_array names signatures is_static t d l n s)
  unfolding counted_array
  counted_array_leaves is_static t d l n s = leave_then _ _ _ _ _ (laid_leaves is_static d.at d.name (size_of t) (n * size_of t) s.area)
      (λ r. leave_then _ _ _ _ _ (literals_leave l s.scope r.1) (λ a. object_with_leaves r.0 (n * size_of t) t true d _ (with_area a s)))

  array_leaves : (is_static : Bool) (t : CType) (d : ADeclarator) (l : Option AnExp) (s : State) → LeavesState s (array_object names signatures is_static t d l s)
  unfolding array_object
  array_leaves is_static t d l s = leave_then _ _ _ _ _ (length_in_leaves l (init_in d.init) s.scope s.area)
      (λ m. leave_then _ _ _ _ _ (leave_any (IsLaid m.1) _) (λ n. counted_array_leaves is_static t d l n (with_area m.1 s)))

  object_by_leaves : (is_static : Bool) (t : CType) (d : ADeclarator) (l : Option (Option AnExp)) (s : State) → LeavesState s (object_by names signatures is_static t d l s)
  object_by_leaves is_static t d None s = plain_leaves is_static t d s
  object_by_leaves is_static t d (Some l) s = array_leaves is_static t d l s

  object_leaves : (is_static : Bool) (spec : Spec) (d : ADeclarator) (s : State) → LeavesState s (type_object names signatures is_static spec d s)
  unfolding type_object
  object_leaves is_static spec d s = leave_then _ _ _ _ _ (leave_any (IsLaid s.area) _) (λ ok. object_by_leaves is_static _ d (brackets_in d.length) s)

  value_leaves : (t : CType) (e : AnExp) (s : State) → LeavesState s (type_value names signatures t e s)
  value_leaves t e s = leave_then _ _ _ _ _ (exp_leaves names signatures s.scope e s.area) (λ x. leave_then _ _ _ _ _ (leave_any (IsLaid x.1) _) (λ y. leave_ok _ _ _ (λ p. p)))

  begun_leaves : (t : CType) (n : ℕ) (i : Option AnInit) (done : List ADeclaration) (s : State) → LeavesState s (begun names signatures t n i done s)
  begun_leaves t n None done s = leave_ok _ _ _ (λ p. p)
  begun_leaves t n (Some (elements es trailing)) done s = leave_ok _ _ _ (λ p. p)
  begun_leaves t n (Some (value e)) done s = leave_then _ _ _ _ _ (value_leaves t e s) (λ x. leave_ok _ _ _ (λ p. p))

  store_leaves : (t : CType) (o : ℕ) (e : AnExp) (done : List ADeclaration) (s : State) → LeavesState s (type_store names signatures t o e done s)
  store_leaves t o e done s = leave_then _ _ _ _ _ (value_leaves t e s) (λ x. leave_ok _ _ _ (λ p. p))

  memory_begun_leaves : (t : CType) (o : ℕ) (i : Option AnInit) (done : List ADeclaration) (s : State) → LeavesState s (memory_begun names signatures t o i done s)
  memory_begun_leaves t o None done s = leave_ok _ _ _ (λ p. p)
  memory_begun_leaves t o (Some (elements es trailing)) done s = leave_ok _ _ _ (λ p. p)
  memory_begun_leaves t o (Some (value e)) done s = store_leaves t o e _ s

  stores_leave : (t : CType) (o : ℕ) (es : SomeExps) (done : List ADeclaration) (s : State) → LeavesState s (type_stores names signatures t o es done s)
  stores_leave t o no_exps done s = leave_ok _ _ _ (λ p. p)
  stores_leave t o (exps e es) done s = leave_then _ _ _ _ _ (store_leaves t o e done s) (λ r. stores_leave t (o + size_of t) es r.0 r.1)

  array_begun_leaves : (t : CType) (o : ℕ) (i : Option AnInit) (done : List ADeclaration) (s : State) → LeavesState s (array_begun names signatures t o i done s)
  array_begun_leaves t o None done s = leave_ok _ _ _ (λ p. p)
  array_begun_leaves t o (Some (elements es trailing)) done s = stores_leave t o es done s
  array_begun_leaves t o (Some (value e)) done s = leave_ok _ _ _ (λ p. p)

  filled_array_leaves : (t : CType) (o n : ℕ) (i : Option AnInit) (done : List ADeclaration) (s : State) → LeavesState s (filled_array names signatures t o n i done s)
  filled_array_leaves t o n i done s = leave_then _ _ _ _ _ (array_begun_leaves t o i done s) (λ r. leave_ok _ _ _ (λ p. p))

  automatic_length_leaves : (l : Option AnExp) (i : Option AnInit) (s : State) → LeavesState s (automatic_length names signatures l i s)
  automatic_length_leaves None i s = leave_ok _ _ _ (λ p. p)
  automatic_length_leaves (Some e) i s = leave_then _ _ _ _ _ (length_leaves names signatures s.scope e s.area) (λ r. leave_ok _ _ _ (λ p. p))

  automatic_array_leaves : (t : CType) (d : ADeclarator) (l : Option AnExp) (done : List ADeclaration) (s : State) → LeavesState s (automatic_array names signatures t d l done s)
  unfolding automatic_array
  automatic_array_leaves t d l done s = leave_then _ _ _ _ _ (automatic_length_leaves l (init_in d.init) s)
      (λ m. leave_then _ _ _ _ _ (leave_any (IsLaid m.1.area) _) (λ n. filled_array_leaves t _ n (init_in d.init) done (memory_array t (n * size_of t) d m.1)))

  automatic_variable_leaves : (in_block : Bool) (t : CType) (d : ADeclarator) (done : List ADeclaration) (s : State)
      → LeavesState s (automatic_variable names signatures in_block t d done s)
  unfolding automatic_variable
  automatic_variable_leaves true t d done s = memory_begun_leaves t _ (init_in d.init) done (memory_variable t d s)
  automatic_variable_leaves false t d done s = begun_leaves t (length s.locals) (init_in d.init) done (with_local t d.name s)

  automatic_by_leaves : (l : Option (Option AnExp)) (is_register : Bool) (t : CType) (d : ADeclarator) (done : List ADeclaration) (s : State)
      → LeavesState s (automatic_by names signatures l is_register t d done s)
  automatic_by_leaves None is_register t d done s = automatic_variable_leaves _ t d done s
  automatic_by_leaves (Some l) is_register t d done s = automatic_array_leaves t d l done s

  automatic_leaves : (is_register : Bool) (spec : Spec) (d : ADeclarator) (done : List ADeclaration) (s : State)
      → LeavesState s (type_automatic names signatures is_register spec d done s)
  unfolding type_automatic
  automatic_leaves is_register spec d done s = leave_then _ _ _ _ _ (leave_any (IsLaid s.area) _) (λ ok. automatic_by_leaves (brackets_in d.length) is_register _ d done s)

  local_leaves : (storage : Storage) (spec : Spec) (d : ADeclarator) (done : List ADeclaration) (s : State) → LeavesState s (type_local names signatures storage spec d done s)
  local_leaves storages.Automatic spec d done s = automatic_leaves false spec d done s
  local_leaves (storages.Register at) spec d done s = automatic_leaves true spec d done (with_register s)
  local_leaves (storages.Static at) spec d done s = leave_then _ _ _ _ _ (object_leaves true spec d s) (λ r. leave_ok _ _ _ (λ p. p))

  locals_leave : (storage : Storage) (spec : Spec) (ds : List ADeclarator) (done : List ADeclaration) (s : State) → LeavesState s (type_locals names signatures storage spec ds done s)
  locals_leave storage spec [] done s = leave_ok _ _ _ (λ p. p)
  locals_leave storage spec (d ∷ ds) done s = leave_then _ _ _ _ _ (local_leaves storage spec d done s) (λ r. locals_leave storage spec ds r.0 r.1)

  full_leaves : (e : AnExp) (s : State) → LeavesState s (type_full names signatures e s)
  unfolding type_full
  full_leaves e s = leave_then _ _ _ _ _ (exp_leaves names signatures s.scope e s.area) (λ x. leave_ok _ _ _ (λ p. p))

  condition_leaves : (e : AnExp) (s : State) → LeavesState s (type_condition names signatures e s)
  unfolding type_condition
  condition_leaves e s = leave_then _ _ _ _ _ (full_leaves e s) (λ x. leave_then _ _ _ _ _ (leave_any (IsLaid x.1.area) _) (λ c. leave_ok _ _ _ (λ p. p)))

  maybe_leaves : (e : Option AnExp) (s : State) → LeavesState s (type_maybe names signatures e s)
  maybe_leaves None s = leave_ok _ _ _ (λ p. p)
  maybe_leaves (Some e) s = leave_then _ _ _ _ _ (full_leaves e s) (λ x. leave_ok _ _ _ (λ p. p))

  maybe_condition_leaves : (e : Option AnExp) (s : State) → LeavesState s (type_maybe_condition names signatures e s)
  maybe_condition_leaves None s = leave_ok _ _ _ (λ p. p)
  maybe_condition_leaves (Some e) s = leave_then _ _ _ _ _ (condition_leaves e s) (λ x. leave_ok _ _ _ (λ p. p))

jump_leaves : (looping : Bool) (at : ℕ) (a : AnAction) (s : State) → LeavesState s (jump looping at a s)
jump_leaves true at a s = leave_ok _ _ _ (λ p. p)
jump_leaves false at a s = leave_bad _ _ _

module _ (names : List (List ℕ × Entry)) (signatures : List Signature) (gives : CType) where
  return_leaves : (e : Option AnExp) (s : State) → LeavesState s (type_return names signatures gives e s)
  return_leaves None s = leave_ok _ _ _ (λ p. p)
  return_leaves (Some e) s = leave_then _ _ _ _ _ (full_leaves names signatures e s) (λ x. leave_then _ _ _ _ _ (leave_any (IsLaid x.1.area) _) (λ y. leave_ok _ _ _ (λ p. p)))

  mutual
    statement_leaves : (looping : Bool) (a : AStatement) (s : State) → LeavesState s (type_statement names signatures gives looping a s)
    statement_leaves looping (block row) s = leave_then _ _ _ _ _ (items_leave looping row (entered s)) (λ r. leave_ok _ _ _ (λ p. p))
    statement_leaves looping empty s = leave_ok _ _ _ (λ p. p)
    statement_leaves looping (expression e) s = leave_then _ _ _ _ _ (full_leaves names signatures e s) (λ x. leave_ok _ _ _ (λ p. p))
    statement_leaves looping (break_off at) s = jump_leaves looping at _ s
    statement_leaves looping (continue_on at) s = jump_leaves looping at _ s
    statement_leaves looping (give_back at e) s = return_leaves e s
    statement_leaves looping (if_then at o c a) s = leave_then _ _ _ _ _ (condition_leaves names signatures c s)
        (λ x. leave_then _ _ _ _ _ (statement_leaves looping a x.1) (λ r. leave_ok _ _ _ (λ p. p)))
    statement_leaves looping (if_else at o c a other b) s = leave_then _ _ _ _ _ (condition_leaves names signatures c s)
        (λ x. leave_then _ _ _ _ _ (statement_leaves looping a x.1) (λ r. leave_then _ _ _ _ _ (statement_leaves looping b r.1) (λ q. leave_ok _ _ _ (λ p. p))))
    statement_leaves looping (while_loop at o c a) s = leave_then _ _ _ _ _ (condition_leaves names signatures c s)
        (λ x. leave_then _ _ _ _ _ (statement_leaves true a x.1) (λ r. leave_ok _ _ _ (λ p. p)))
    statement_leaves looping (do_loop at a again o c) s = leave_then _ _ _ _ _ (statement_leaves true a s)
        (λ r. leave_then _ _ _ _ _ (condition_leaves names signatures c r.1) (λ x. leave_ok _ _ _ (λ p. p)))
    statement_leaves looping (for_loop at o i c e a) s = leave_then _ _ _ _ _ (maybe_leaves names signatures i s)
        (λ x. leave_then _ _ _ _ _ (maybe_condition_leaves names signatures c x.1)
        (λ y. leave_then _ _ _ _ _ (maybe_leaves names signatures e y.1) (λ z. leave_then _ _ _ _ _ (statement_leaves true a z.1) (λ r. leave_ok _ _ _ (λ p. p)))))

    items_leave : (looping : Bool) (row : SomeItems) (s : State) → LeavesState s (type_items names signatures gives looping row s)
    items_leave looping no_items s = leave_ok _ _ _ (λ p. p)
    items_leave looping (local_item l rest) s = leave_then _ _ _ _ _ (locals_leave names signatures l.storage l.spec l.declarators [] s)
        (λ r. leave_then _ _ _ _ _ (items_leave looping rest r.1) (λ q. leave_ok _ _ _ (λ p. p)))
    items_leave looping (statement_item a rest) s = leave_then _ _ _ _ _ (statement_leaves looping a s) (λ r. leave_then _ _ _ _ _ (items_leave looping rest r.1) (λ q. leave_ok _ _ _ (λ p. p)))

abbrev LeavesText : Text → Result Text Fault → Type 0
LeavesText t m = Leaves (IsLaid t.state.area) (λ (r : Text). IsLaid r.state.area) m

module _ (names : List (List ℕ × Entry)) (signatures : List Signature) where
  parameter_length_leaves : (l : Option (Option AnExp)) (scope : Scope) (a : Area) → Leaves (IsLaid a) IsLaid (parameter_length names signatures l scope a)
  parameter_length_leaves None scope a = leave_ok _ _ _ (λ p. p)
  parameter_length_leaves (Some None) scope a = leave_ok _ _ _ (λ p. p)
  parameter_length_leaves (Some (Some e)) scope a = leave_then _ _ _ _ _ (length_leaves names signatures scope e a) (λ r. leave_ok _ _ _ (λ p. p))

  parameter_leaves : (defines : Bool) (at : ℕ) (p : AParam) (n : ℕ) (s : State) → LeavesAlone s (type_parameter names signatures defines at p n s)
  unfolding type_parameter
  parameter_leaves defines at p n s = leave_then _ _ _ _ _ (leave_any (IsLaid s.area) _)
      (λ ok. leave_then _ _ _ _ _ (parameter_length_leaves (brackets_in p.length) s.scope s.area) (λ a. leave_ok _ _ _ (subst IsLaid (sym (parameter_area p.name _ n (with_area a s))))))

  parameters_leave : (defines : Bool) (at : ℕ) (ps : List AParam) (n : ℕ) (s : State) → LeavesAlone s (type_parameters names signatures defines at ps n s)
  parameters_leave defines at [] n s = leave_ok _ _ _ (λ p. p)
  parameters_leave defines at (p ∷ ps) n s = leave_then _ _ _ _ _ (parameter_leaves defines at p n s) (λ next. parameters_leave defines at ps (n + 1) next)

  body_leaves : (spec : Spec) (f : AFunction) (row : Option SomeItems) (s : State) (t : Text) → Leaves (IsLaid s.area) (λ (r : Text). IsLaid r.state.area) (type_body names signatures spec f row s t)
  body_leaves spec f None s t = leave_ok _ _ _ (λ p. p)
  body_leaves spec f (Some row) s t = leave_then _ _ _ _ _ (items_leave names signatures _ false row s)
      (λ r. leave_then _ _ _ _ _ (leave_any (IsLaid r.1.area) _) (λ ok. leave_ok _ _ _ (λ p. p)))

  introduced_leaves : (earlier : Option ℕ) (spec : Spec) (f : AFunction) (t : Text) → LeavesText t (type_introduced names signatures earlier spec f t)
  unfolding type_introduced
  introduced_leaves earlier spec f t = leave_then _ _ _ _ _ (parameters_leave (is_some f.body) f.at (params_in f.params) 0 (entered_function f t.state))
      (λ s. leave_then _ _ _ _ _ (leave_any (IsLaid s.area) (agrees earlier t.declared (signature_of spec f) f.at)) (λ ok. body_leaves spec f f.body s t))

  function_leaves : (spec : Spec) (f : AFunction) (t : Text) → LeavesText t (type_function names signatures spec f t)
  unfolding type_function
  function_leaves spec f t = leave_then _ _ _ _ _ (leave_any (IsLaid t.state.area) (earlier_by (find t.state.scope.here f.name) f.at))
      (λ earlier. leave_then _ _ _ _ _ (leave_any (IsLaid t.state.area) (head_of (is_some f.body) (is_below (find names f.name) (length t.bodies + 2)) (integer_of spec) f.stars f.at))
      (λ ok. subst (λ a. Leaves (IsLaid a) (λ (r : Text). IsLaid r.state.area) (type_introduced names signatures earlier spec f (with_declared earlier spec f t)))
      (declared_area earlier spec f t) (introduced_leaves earlier spec f (with_declared earlier spec f t))))

  globals_leave : (spec : Spec) (ds : List ADeclarator) (s : State) → LeavesAlone s (type_globals names signatures spec ds s)
  globals_leave spec [] s = leave_ok _ _ _ (λ p. p)
  globals_leave spec (d ∷ ds) s = leave_then _ _ _ _ _ (object_leaves names signatures false spec d s) (λ r. globals_leave spec ds r.1)

  declared_leaves : (spec : Spec) (d : ADeclared) (t : Text) → LeavesText t (type_declared names signatures spec d t)
  declared_leaves spec (function f) t = function_leaves spec f t
  declared_leaves spec (globals ds) t = leave_then _ _ _ _ _ (globals_leave spec ds t.state) (λ s. leave_ok _ _ _ (λ p. p))

  externals_leave : (es : List AnExternal) (t : Text) → LeavesText t (type_externals names signatures es t)
  externals_leave [] t = leave_ok _ _ _ (λ p. p)
  externals_leave (e ∷ es) t = leave_then _ _ _ _ _ (declared_leaves e.spec e.declared t) (λ next. externals_leave es next)

opened_leaves : (pointer stack : ℕ) (a : Area) → IsLaid a → IsLaid (opened pointer stack a)
unfolding opened
opened_leaves pointer stack a l = filled_leaves _ _ _ (filled_leaves _ _ a l)

stack_leaves : (at : ℕ) (a : Area) → Leaves (IsLaid a) IsLaid (with_stack at a)
unfolding with_stack
stack_leaves at a = leave_then _ _ _ _ _ (placed_leaves at _ 4 4 [] a)
    (λ sp. leave_then _ _ _ _ _ (placed_leaves at _ 4 stack_size [] sp.1) (λ area. leave_ok _ _ _ (opened_leaves sp.0 area.0 area.1)))

stacked_leaves : (any : Bool) (at : ℕ) (a : Area) → Leaves (IsLaid a) IsLaid (stacked_if any at a)
stacked_leaves true at a = stack_leaves at a
stacked_leaves false at a = leave_ok _ _ _ (λ p. p)

whole_leaves : (main : Option ℕ) (end : ℕ) (bodies : List ARoutine) (a : Area) → Leaves (IsLaid a) (λ (p : AProgram). AreLaid p.objects) (whole_by main end bodies a)
whole_leaves None end bodies a = leave_bad _ _ _
whole_leaves (Some n) end bodies a = leave_ok _ _ _ (λ l. record { last = a.end; lie = l.lie })

pub typed_are_laid : (p : AProgram) → IsTypedUnit p → AreLaid p.objects
unfolding type_text
typed_are_laid p given =
    (leave_then _ _ _ _ _ (externals_leave (known given.unit.externals).names (known given.unit.externals).signatures given.unit.externals (empty_text given.ends))
    (λ t. leave_then _ _ _ _ _ (stacked_leaves (any_block t.bodies) given.unit.end t.state.area) (λ a. whole_leaves (main_of t.bodies) given.unit.end t.bodies a))).leaves p
    ((text_means given.unit.externals given.ends given.unit.end).only p given.typed) (record { lie = refl })

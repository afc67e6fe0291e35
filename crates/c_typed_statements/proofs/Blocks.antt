-- The declarations and statements of a block, one after another.
use Rattle.std.proofs.Common.{◌≡◌, ℕ, ◌+◌, ◌<◌, ◌≤◌, Bool, List, [], ◌∷◌, ◌++◌, length, drop, get_or, refl, ap, sym, ◌∙◌, Result, Ok, Err}
use Rattle.std.proofs.lemmas.List.{drop_more, drop_all}
use Rattle.std.specs.Global.{Vec}
use Rattle.c_phrases.specs.declared.tree.Item.{Item}
use Rattle.c_phrases.specs.declared.tree.Item.TheVariants as item
use Rattle.c_phrases.specs.declared.tree.Statement.{Statement}
use Rattle.c_phrases.specs.declared.tree.Item.TheBlock.{hidden-the_row-Item-0, items_hidden-the_row-Item-0}
use Rattle.c_phrases.specs.declared.tree.Statement.TheVariants as statement
use Rattle.c_phrases.specs.Units.{block, no_items}
use Rattle.c_phrases.specs.UnitShapes.{statement_of, item_onto, items_of}
use Rattle.c_phrases.proofs.Rows.{items_row_is}
use Rattle.c_types.specs.declared.types.CType.{CType}
use Rattle.c_types.specs.declared.fault.TypeFault.{TypeFault}
use Rattle.c_types.specs.declared.fault.TypeFault.TheVariants.{NoMemory, At}
use Rattle.c_types.specs.declared.fault.TypeKind.{TypeKind}
use Rattle.c_types.specs.Answers.{Fault, bad, ◌>>=◌, Fails}
use Rattle.c_typed_scope.specs.declared.entry.Entry.{Entry}
use Rattle.c_typed_scope.specs.declared.entry.Signature.{Signature}
use Rattle.c_program.specs.declared.statement.Action.{Action}
use Rattle.c_program.specs.declared.statement.Action.TheVariants as actions
use Rattle.c_program.proofs.Rows.{act_block}
use Rattle.c_typed_definition.specs.State.{State}
use Rattle.c_program.specs.Statements.{AnAction, SomeActions, NoActions, MoreActions, DeclareOf, BlockOf, act, acts}
use Rattle.c_typed_statements.specs.Views.{scoped}
use Rattle.c_typed_definition.specs.Statements.{entered, left, type_item, type_items, type_statement}

pub block_is : (s : Statement) (row : Vec Item) (list : List Item) → s ≡ statement.Block row → list ≡ row.items → statement_of s ≡ block (items_of list)
block_is s row list is same = ap statement_of is ∙ ap block (items_row_is _ (hidden-the_row-Item-0 row) ∙ ap items_of (items_hidden-the_row-Item-0 row ∙ sym same))

-- what was typed, in front of what is left
abbrev pub acts_onto : List Action → SomeActions → SomeActions
acts_onto [] xs = xs
acts_onto (x ∷ done) xs = MoreActions (act x) (acts_onto done xs)

abbrev pub onto : List Action → Result (SomeActions × State) Fault → Result (SomeActions × State) Fault
onto done m = m >>= λ r. Ok (acts_onto done r.0, r.1)

onto_push : (done : List Action) (x : Action) (xs : SomeActions) → acts_onto (done ++ x ∷ []) xs ≡ acts_onto done (MoreActions (act x) xs)
onto_push [] x xs = refl
onto_push (y ∷ done) x xs = ap (MoreActions (act y)) (onto_push done x xs)

onto_more : (done : List Action) (x : Action) (m : Result (SomeActions × State) Fault) → onto (done ++ x ∷ []) m ≡ onto done (m >>= λ b. Ok (MoreActions (act x) b.0, b.1))
onto_more done x (Ok r) = ap (λ a. Ok (a, r.1)) (onto_push done x r.0)
onto_more done x (Err e) = refl

onto_end : (done : List Action) → acts_onto done NoActions ≡ acts done
onto_end [] = refl
onto_end (x ∷ done) = ap (MoreActions (act x)) (onto_end done)

abbrev joined : {B : Type 0} → (B → SomeActions → SomeActions) → B → SomeActions × State → Result (SomeActions × State) Fault
joined g b q = Ok (g b q.0, q.1)

abbrev renamed : {A B : Type 0} → (A → B) → A × State → Result (B × State) Fault
renamed f r = Ok (f r.0, r.1)

after_locals : {A B : Type 0} (m : Result (A × State) Fault) (f : A → B) (k : State → Result (SomeActions × State) Fault) (g : B → SomeActions → SomeActions)
    → (m >>= λ r. k r.1 >>= joined g (f r.0)) ≡ ((m >>= renamed f) >>= λ r. k r.1 >>= joined g r.0)
after_locals (Ok r) f k g = refl
after_locals (Err e) f k g = refl

abbrev as_block : SomeActions × State → Result (AnAction × State) Fault
as_block r = Ok (BlockOf r.0, left r.1)

abbrev block_pair : SomeActions × State → Result (AnAction × State) Fault
block_pair p = Ok (BlockOf p.0, p.1)

abbrev answered : SomeActions × State → Result (SomeActions × State) Fault
answered p = Ok p

same_pair : (x y : SomeActions × State) → answered x ≡ answered y → x ≡ y
same_pair x y h = cc

blocked : (m : Result (SomeActions × State) Fault) (xs : SomeActions) (after : State) → scoped m ≡ Ok (xs, after) → (m >>= as_block) ≡ Ok (BlockOf xs, after)
blocked (Ok r) xs after h = ap block_pair (same_pair (r.0, left r.1) (xs, after) h)
blocked (Err e) xs after h = absurd (cc)

unblocked : (m : Result (SomeActions × State) Fault) (place : ℕ) (kind : TypeKind) → scoped m ≡ bad place kind → (m >>= as_block) ≡ bad place kind
unblocked (Ok r) place kind h = absurd (cc)
unblocked (Err e) place kind h =
    let same : e ≡ record { place = place; kind = kind } = cc in
    ap Err same

module _ (names : List (List ℕ × Entry)) (signatures : List Signature) (gives : CType) (looping : Bool) where
  -- the first of a block's items, and then the others
  abbrev one : Item → State → Result (AnAction × State) Fault
  one i st = type_item names signatures gives looping (item_onto i no_items) st

  abbrev all : List Item → State → Result (SomeActions × State) Fault
  all is st = type_items names signatures gives looping (items_of is) st

  pub first_and_rest : (i : Item) (rest : List Item) (st : State) → all (i ∷ rest) st ≡ (one i st >>= λ r. all rest r.1 >>= λ q. Ok (MoreActions r.0 q.0, q.1))
  first_and_rest (item.Local l) rest st = after_locals _ DeclareOf (λ t. all rest t) MoreActions
  first_and_rest (item.Statement s) rest st = refl

  pub record SoFar (is : List Item) (old : State) (done : List Action) (left : List Item) (st : State) : Type 0 where
    pub typed : all is old ≡ onto done (all left st)

  pub steps : (is : List Item) (old : State) (done : List Action) (n : ℕ) (i d : Item) (a b : State) (x : Action) (more : List Action) → n < length is → i ≡ get_or is n d → more ≡ done
      ++ x ∷ [] → one i a ≡ Ok (act x, b) → SoFar is old done (drop n is) a → SoFar is old more (drop (n + 1) is) b
  steps is old done n i d a b x more lt at pushed typed far = record {
    typed = far.typed ∙ (rw (drop_more is n d lt, ← at, first_and_rest i (drop (n + 1) is) a, typed, pushed) (sym (onto_more done x (all (drop (n + 1) is) b))));
  }

  -- one of them has a fault
  pub fails : (is : List Item) (old : State) (done : List Action) (n : ℕ) (i d : Item) (a : State) (f : TypeFault) → n < length is → i ≡ get_or is n d → Fails f (one i a)
      → SoFar is old done (drop n is) a → Fails f (all is old)
  fails is old done n i d a NoMemory lt at failed far = tt
  fails is old done n i d a (At place kind) lt at failed far = far.typed ∙ rw (drop_more is n d lt, ← at, first_and_rest i (drop (n + 1) is) a, failed) refl

  pub ends_at : (is : List Item) (old : State) (done : List Action) (n : ℕ) (st : State) → length is ≤ n → SoFar is old done (drop n is) st → all is old ≡ Ok (acts done, st)
  ends_at is old done n st le far = far.typed ∙ rw (drop_all n is le) (ap (λ a. Ok (a, st)) (onto_end done))

  -- a block and its items as code holds them
  pub block_fails : (s : Statement) (row : Vec Item) (list : List Item) (st : State) (f : TypeFault) → s ≡ statement.Block row → list ≡ row.items → Fails f (scoped (all list (entered st)))
      → Fails f (type_statement names signatures gives looping (statement_of s) st)
  block_fails s row list st NoMemory is same failed = tt
  block_fails s row list st (At place kind) is same failed = rw (block_is s row list is same) (unblocked _ place kind failed)

  pub block_ends : (s : Statement) (row : Vec Item) (list : List Item) (st after : State) (done : Vec Action) → s ≡ statement.Block row → list ≡ row.items → scoped (all list (entered st))
      ≡ Ok (acts done.items, after) → type_statement names signatures gives looping (statement_of s) st ≡ Ok (act (actions.Block done), after)
  block_ends s row list st after done is same typed = rw (block_is s row list is same, act_block done) (blocked _ _ _ typed)

  pub empty_ends : (s : Statement) (v : Vec Action) (st : State) → s ≡ statement.Empty → v.items ≡ [] → type_statement names signatures gives looping (statement_of s) st
      ≡ Ok (act (actions.Block v), st)
  empty_ends s v st is none = rw (is, act_block v, none) refl

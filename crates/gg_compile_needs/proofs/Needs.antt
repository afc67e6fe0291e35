-- What a body needs: at most four longwords for each of its tokens, and eight for its block.
use Rattle.std.proofs.Common.{◌≡◌, ℕ, ◌+◌, ◌*◌, ◌≤◌, false, List, [], ◌∷◌, length, Option, Some, None, arith, ◌==◌, Bool, true}
use Rattle.std.specs.Prelude.{if◌then◌else◌}
use Rattle.c_tokens.specs.declared.marks.Mark.TheVariants as marks
use Rattle.c_phrases.specs.Classes.{Placed, sign}
use Rattle.c_phrases.specs.Units.{SomeItems}
use Rattle.c_phrases.specs.UnitSpelling.{onto_body}
use Rattle.c_types.specs.declared.types.CType.{CType}
use Rattle.c_types.specs.Typed.{AnExpression}
use Rattle.c_program.specs.Need.{maybe_nodes, returned_nodes, declared_nodes, largest, largest_of, need_of, block_words}
use Rattle.c_program.specs.Statements.{ADeclaration, KeepOf, ClearOf, BeginOf, AnAction, SomeActions, NoActions, MoreActions, DeclareOf, BlockOf, EvaluateOf, BreakOf, ContinueOf, ReturnOf, IfOf}
use Rattle.c_program.specs.Statements.{IfElseOf, WhileOf, DoOf, ForOf, StoreOf, ZerosOf}
use Rattle.c_typed_scope.specs.declared.entry.Entry.{Entry}
use Rattle.c_typed_scope.specs.declared.entry.Signature.{Signature}
use Rattle.c_typed_definition.specs.State.{State}
use Rattle.c_typed_definition.specs.Bodies.{with_stores}
use Rattle.c_typed_law.specs.Statements.{AreItems}
use Rattle.gg_compile_counts.specs.Sizes.{declared_size, act_size, row_size}
use Rattle.gg_compile_counts.proofs.Statements.{items_size}
use Rattle.gg_compile_counts.proofs.Stores.{AreStores}
use Rattle.gg_compile_needs.proofs.Locals.{Count, items_add}

-- ---- the largest full expression has at most one node more than all together

declared_largest : (ds : List ADeclaration) → declared_nodes ds ≤ 1 + declared_size ds
declared_largest [] = omega arith
declared_largest (KeepOf object ∷ ds) = let x = declared_largest ds in omega arith
declared_largest (ClearOf n ∷ ds) = let x = declared_largest ds in omega arith
declared_largest (BeginOf n e ∷ ds) = let x = declared_largest ds in omega arith
declared_largest (StoreOf t o e ∷ ds) = let x = declared_largest ds in omega arith
declared_largest (ZerosOf t o n ∷ ds) = let x = declared_largest ds in omega arith

returned_most : (e : Option AnExpression) → returned_nodes e ≤ 1 + maybe_nodes e
returned_most None = omega arith
returned_most (Some e) = omega arith

mutual
  largest_act : (a : AnAction) → largest a ≤ 1 + act_size a
  largest_act (DeclareOf ds) = declared_largest ds
  largest_act (BlockOf row) = largest_row row
  largest_act (EvaluateOf e) = omega arith
  largest_act BreakOf = omega arith
  largest_act ContinueOf = omega arith
  largest_act (ReturnOf e) = returned_most e
  largest_act (IfOf c a) = let x = largest_act a in omega arith
  largest_act (IfElseOf c a b) = let x = largest_act a in let y = largest_act b in omega arith
  largest_act (WhileOf c a) = let x = largest_act a in omega arith
  largest_act (DoOf a c) = let x = largest_act a in omega arith
  largest_act (ForOf i c e a) = let x = largest_act a in omega arith

  pub largest_row : (row : SomeActions) → largest_of row ≤ 1 + row_size row
  largest_row NoActions = omega arith
  largest_row (MoreActions a row) = let x = largest_act a in let y = largest_row row in omega arith

-- what a block keeps
block_most : (block : ℕ) → block_words block ≤ 8
block_most block = by (block == 0)
  where
    by : (test : Bool) → (if test then 0 else 8) ≤ 8
    by true = omega arith
    by false = omega arith

-- by so many locals, and a largest full expression within so many nodes
pub need_within : (locals : List CType) (block : ℕ) (body : SomeActions) (n : ℕ) → largest_of body ≤ 1 + n
    → need_of locals block body ≤ length locals + (8 + 3 * (1 + n))
unfolding need_of
need_within locals block body n h = let most = block_most block in omega (arith, h)

-- the stores of parameters need no more
stores_largest : (ds : List ADeclaration) → AreStores ds → declared_nodes ds ≤ 1
stores_largest [] all = omega arith
stores_largest (d ∷ ds) all =
    let h = all.0 in
    let rest = stores_largest ds all.1 in
    rw (h.is) (omega arith)

stored_largest : (ds : List ADeclaration) (body : SomeActions) (n : ℕ) → AreStores ds → largest_of body ≤ 1 + n → largest_of (with_stores ds body) ≤ 1 + n
stored_largest [] body n all h = h
stored_largest (d ∷ ds) body n all h = let one = stores_largest (d ∷ ds) all in omega arith

module _ (names : List (List ℕ × Entry)) (signatures : List Signature) (result : CType) (row : SomeItems) (s : State) (r : SomeActions × State)
    (j : AreItems names signatures result false row s r) (none : Count s ≡ 0) (block : ℕ) (w : List Placed) where
  -- a body, with two tokens more for its block
  body_within : (body : SomeActions) → largest_of body ≤ 1 + row_size r.0
      → need_of r.1.locals block body + 4 ≤ 8 + 4 * length (onto_body (Some row) w)
  body_within body h =
      let behind : List Placed = sign marks.CloseBrace 0 ∷ w in
      let x = items_size names signatures result false row s r j behind in
      let y = items_add names signatures result false row s r j behind in
      let z = need_within r.1.locals block body (row_size r.0) h in
      omega (arith, none)

  pub body_need : need_of r.1.locals block r.0 + 4 ≤ 8 + 4 * length (onto_body (Some row) w)
  body_need = body_within r.0 (largest_row r.0)

  pub stored_need : (ds : List ADeclaration) → AreStores ds
      → need_of r.1.locals block (with_stores ds r.0) + 4 ≤ 8 + 4 * length (onto_body (Some row) w)
  stored_need ds all = body_within (with_stores ds r.0) (stored_largest ds r.0 (row_size r.0) all (largest_row r.0))

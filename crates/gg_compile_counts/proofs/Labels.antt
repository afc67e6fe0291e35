-- Lowering takes at most three labels for each node, branch, loop, run of zeros and block.
use Rattle.std.proofs.Common.{ℕ, suc, ◌+◌, ◌*◌, ◌≤◌, List, [], ◌∷◌, length, arith, ◌-◌, zero}
use Rattle.std.specs.Prelude.{true, false, Option, Some, None}
use Rattle.c_types.specs.Constants.{constant_of}
use Rattle.c_types.specs.Typed.{AnExpression}
use Rattle.c_program.specs.Need.{nodes, maybe_nodes}
use Rattle.c_program.specs.Programs.{ARoutine}
use Rattle.c_program.specs.Statements.{ADeclaration, KeepOf, ClearOf, BeginOf, AnAction, SomeActions, NoActions, MoreActions, DeclareOf, BlockOf, EvaluateOf, BreakOf, ContinueOf}
use Rattle.c_program.specs.Statements.{ReturnOf, IfOf, IfElseOf, WhileOf, DoOf, ForOf, StoreOf, ZerosOf}
use Rattle.c_lower_scheme.specs.Parts.{Emitted, InLocal, Lowered, Destination, due}
use Rattle.c_lower_scheme.specs.Expressions.{way}
use Rattle.c_lower_scheme.specs.Statements.{unless, when, effect, returning, declare, while_by, for_tested, for_of, lower, lower_row, going, if_by}
use Rattle.c_lower_scheme.specs.Programs.{body_of, first_temporary, way_in, way_out}
use Rattle.c_lower_scheme.specs.Trees.{Num}
use Rattle.gg_compile_spelled.specs.Claims.{labels_behind}
use Rattle.gg_compile_counts.specs.Sizes.{declared_size, act_size, row_size, routines_size, block_size}
use Rattle.gg_compile_counts.specs.Claims.{LabelsAreFew}
use Rattle.gg_compile_counts.proofs.Expressions.{way_takes, has_nodes}
use Rattle.gg_compile_counts.proofs.Lowerings.{delivered_labels}

module _ (size count first : ℕ) (out : Destination) where
  unless_takes : (c : AnExpression) (to l : ℕ) → (unless size count first out c to l).labels ≤ l + 2 * nodes c
  unless_takes c to l = let x = (way_takes size count c).branch false to first l in omega arith

  when_takes : (c : AnExpression) (to l : ℕ) → (when size count first out c to l).labels ≤ l + 2 * nodes c
  when_takes c to l = let x = (way_takes size count c).branch true to first l in omega arith

  effect_takes : (e : Option AnExpression) (l : ℕ) → (effect size count first out e l).labels ≤ l + 2 * maybe_nodes e
  effect_takes None l = omega arith
  effect_takes (Some e) l = let x = (way_takes size count e).drop first l in omega arith

  returning_takes : (e : Option AnExpression) (l : ℕ) → (returning size count first out e l).labels ≤ l + 2 * maybe_nodes e
  returning_takes None l = let is = delivered_labels out (due (Num 0) first l) in omega arith
  returning_takes (Some e) l = let x = (way_takes size count e).deliver out first l in omega arith

  declare_takes : (ds : List ADeclaration) (rest : SomeActions) (l : ℕ) → (declare size count first out ds rest l).labels ≤ l + 3 * declared_size ds
  declare_takes [] rest l = omega arith
  declare_takes (KeepOf object ∷ ds) rest l = declare_takes ds rest l
  declare_takes (ClearOf n ∷ ds) rest l = declare_takes ds rest l
  declare_takes (BeginOf n e ∷ ds) rest l =
      let p : Emitted = (way size count e).deliver (InLocal n) first l in
      let x = (way_takes size count e).deliver (InLocal n) first l in
      let y = declare_takes ds rest p.labels in
      omega arith
  declare_takes (StoreOf t o e ∷ ds) rest l =
      let p : Lowered = (way size count e).low first l in
      let x = (way_takes size count e).low first l in
      let y = declare_takes ds rest p.labels in
      omega arith
  declare_takes (ZerosOf t o n ∷ ds) rest l = let y = declare_takes ds rest (suc l) in omega arith

  -- an `if` alone, by its statement
  if_by_takes : (o : Option ℕ) (n l : ℕ) (c : AnExpression) (f : ℕ → Emitted) → ((k : ℕ) → (f k).labels ≤ k + 3 * n) → (if_by size count first out o c f l).labels ≤ l + 3 * (1 + nodes c + n)
  if_by_takes (Some to) n l c f h = let x = when_takes c to l in omega arith
  if_by_takes None n l c f h =
      let p : Emitted = unless size count first out c l (suc l) in
      let x = unless_takes c l (suc l) in
      let y = h p.labels in
      omega arith

  -- a `while`, by its body
  while_by_takes : (o : Option ℕ) (n l : ℕ) (c : AnExpression) (f : ℕ → ℕ → ℕ → Emitted) → ((lb lc k : ℕ) → (f lb lc k).labels ≤ k + 3 * n)
      → (while_by size count first out o c f l).labels ≤ l + 3 * (1 + nodes c + n)
  while_by_takes (Some v) n l c f h =
      let p : Emitted = unless size count first out c (suc l) (suc (suc l)) in
      let x = unless_takes c (suc l) (suc (suc l)) in
      let y = h (suc l) l p.labels in
      omega arith
  while_by_takes None n l c f h =
      let q : Emitted = f (suc (suc l)) (suc l) (suc (suc (suc l))) in
      let x = h (suc (suc l)) (suc l) (suc (suc (suc l))) in
      let y = when_takes c l q.labels in
      omega arith

  -- the test, the body and the step of a `for`: where the test stands behind the step, its own label is counted with its nodes
  tested_takes : (o : Option ℕ) (n l : ℕ) (c : AnExpression) (e : Option AnExpression) (f : ℕ → Emitted) → ((k : ℕ) → (f k).labels ≤ k + 3 * n)
      → (for_tested size count first out o l c e f).labels ≤ l + 3 * (1 + nodes c + maybe_nodes e + n)
  tested_takes (Some v) n l c e f h =
      let p : Emitted = unless size count first out c (suc (suc l)) (suc (suc (suc l))) in
      let a : Emitted = f p.labels in
      let x = unless_takes c (suc (suc l)) (suc (suc (suc l))) in
      let y = h p.labels in
      let z = effect_takes e a.labels in
      omega arith
  tested_takes None n l c e f h =
      let a : Emitted = f (suc (suc (suc (suc l)))) in
      let s : Emitted = effect size count first out e a.labels in
      let x = h (suc (suc (suc (suc l)))) in
      let y = effect_takes e a.labels in
      let z = when_takes c l s.labels in
      let one = has_nodes c in
      omega arith

  turns_take : (n l : ℕ) (c e : Option AnExpression) (f : ℕ → Emitted) → ((k : ℕ) → (f k).labels ≤ k + 3 * n)
      → (for_of size count first out l c e f).labels ≤ l + 3 * (1 + maybe_nodes c + maybe_nodes e + n)
  turns_take n l None e f h =
      let a : Emitted = f (suc (suc (suc l))) in
      let x = h (suc (suc (suc l))) in
      let y = effect_takes e a.labels in
      omega arith
  turns_take n l (Some c) e f h = tested_takes (constant_of c) n l c e f h

  mutual
    act_takes : (a : AnAction) (rest : SomeActions) (lb lc l : ℕ) → (lower size count first out a rest lb lc l).labels ≤ l + 3 * act_size a
    act_takes (DeclareOf ds) rest lb lc l = declare_takes ds rest l
    act_takes (BlockOf row) rest lb lc l = row_takes row lb lc l
    act_takes (EvaluateOf e) rest lb lc l = let x = (way_takes size count e).drop first l in omega arith
    act_takes BreakOf rest lb lc l = omega arith
    act_takes ContinueOf rest lb lc l = omega arith
    act_takes (ReturnOf e) rest lb lc l = let x = returning_takes e l in omega arith
    act_takes (IfOf c a) rest lb lc l = if_by_takes (going a lb lc) (act_size a) l c (lower size count first out a NoActions lb lc) (λ k. act_takes a NoActions lb lc k)
    act_takes (IfElseOf c a b) rest lb lc l =
        let p : Emitted = unless size count first out c l (suc (suc l)) in
        let q : Emitted = lower size count first out a NoActions lb lc p.labels in
        let x = unless_takes c l (suc (suc l)) in
        let y = act_takes a NoActions lb lc p.labels in
        let z = act_takes b NoActions lb lc q.labels in
        omega arith
    act_takes (WhileOf c a) rest lb lc l = while_by_takes (constant_of c) (act_size a) l c (lower size count first out a NoActions) (λ x y k. act_takes a NoActions x y k)
    act_takes (DoOf a c) rest lb lc l =
        let q : Emitted = lower size count first out a NoActions (suc (suc l)) (suc l) (suc (suc (suc l))) in
        let x = act_takes a NoActions (suc (suc l)) (suc l) (suc (suc (suc l))) in
        let y = when_takes c l q.labels in
        omega arith
    act_takes (ForOf i c e a) rest lb lc l =
        let p : Emitted = effect size count first out i l in
        let m : ℕ = p.labels in
        let x = effect_takes i l in
        let y = turns_take (act_size a) m c e (lower size count first out a NoActions (suc (suc m)) (suc m)) (λ k. act_takes a NoActions (suc (suc m)) (suc m) k) in
        omega arith

    row_takes : (row : SomeActions) (lb lc l : ℕ) → (lower_row size count first out row lb lc l).labels ≤ l + 3 * row_size row
    row_takes NoActions lb lc l = omega arith
    row_takes (MoreActions a row) lb lc l =
        let p : Emitted = lower size count first out a row lb lc l in
        let x = act_takes a row lb lc l in
        let y = row_takes row lb lc p.labels in
        omega arith

-- the way in of a function that has a block takes a label
way_in_takes : (size first pointer block l : ℕ) → (way_in size first pointer block l).labels ≤ l + block_size block
way_in_takes size first pointer zero l = omega arith
way_in_takes size first pointer (suc block) l = omega arith

body_takes : (pointer count : ℕ) (g : ARoutine) (l : ℕ) → (body_of pointer count g l).labels ≤ l + 3 * (block_size g.block + row_size g.body)
body_takes pointer count g l =
    let size : ℕ = length g.locals in
    let first : ℕ = first_temporary size g.block in
    let out : Destination = way_out pointer size g.block in
    let a : Emitted = way_in size first pointer g.block l in
    let b : Emitted = lower_row size count first out g.body 0 0 a.labels in
    let x = way_in_takes size first pointer g.block l in
    let y = row_takes size count first out g.body 0 0 a.labels in
    let is = delivered_labels out (due (Num 0) first b.labels) in
    omega arith

routines_take : (pointer count : ℕ) (gs : List ARoutine) (l : ℕ) → labels_behind pointer count gs l ≤ l + 3 * routines_size gs
routines_take pointer count [] l = omega arith
routines_take pointer count (g ∷ gs) l =
    let p : Emitted = body_of pointer count g l in
    let x = body_takes pointer count g l in
    let y = routines_take pointer count gs p.labels in
    omega arith

pub labels_are_few : LabelsAreFew
labels_are_few p = let x = routines_take (length p.objects - 2) (length p.routines) p.routines 0 in omega arith

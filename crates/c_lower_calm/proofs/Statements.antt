-- That each statement is lowered to calm items.
use Rattle.std.proofs.Common.{ℕ, zero, suc, ◌+◌, ◌*◌, List, [], ◌∷◌, refl}
use Rattle.std.specs.Prelude.{Bool, true, false, Option, Some, None}
use Rattle.c_types.specs.Types.{size_of}
use Rattle.c_types.specs.declared.types.CType.{CType}
use Rattle.c_types.specs.Constants.{constant_of}
use Rattle.c_types.specs.Typed.{AnExpression}
use Rattle.c_program.specs.Statements.{ADeclaration, KeepOf, ClearOf, BeginOf, StoreOf, ZerosOf, AnAction, SomeActions, NoActions, MoreActions, DeclareOf, BlockOf, EvaluateOf, BreakOf, ContinueOf}
use Rattle.c_program.specs.Statements.{ReturnOf, IfOf, IfElseOf, WhileOf, DoOf, ForOf}
use Rattle.c_lower_scheme.specs.Trees.{Num, Loc}
use Rattle.c_lower_scheme.specs.Parts.{Lowered, Emitted, Destination, InLocal, due, delivered}
use Rattle.c_lower_scheme.specs.Places.{in_block}
use Rattle.c_lower_scheme.specs.Expressions.{way}
use Rattle.c_lower_scheme.specs.Mentions.{mentions}
use Rattle.c_lower_scheme.specs.Zeros.{is_zeroed}
use Rattle.c_lower_scheme.specs.Flow.{clearing, stored_in_block, zeros_in_block}
use Rattle.c_lower_scheme.specs.Statements.{unless, effect, returning, declare, while_by, for_tested, for_of, lower, lower_row, going, if_by}
use Rattle.c_lower_scheme.specs.Programs.{way_in}
use Rattle.c_lower_calm.proofs.Trees.{AreCalm, none, next, behind}
use Rattle.c_lower_calm.proofs.Parts.{CalmLow, inert_apart, due_calm, delivered_calm}
use Rattle.c_lower_calm.proofs.Places.{calm_block, block_apart}
use Rattle.c_lower_calm.proofs.Phrases.{way_calm}

calm_clearing : (b : Bool) (n : ℕ) → AreCalm (clearing b n)
calm_clearing true n = next tt none
calm_clearing false n = none

-- what is written in the block, and how it is taken
stored_calm : (size : ℕ) (t : CType) (o : ℕ) {p : Lowered} → CalmLow p → AreCalm (stored_in_block size t o p).items
stored_calm size t o {p = p} h = behind h.items (next (calm_block size o, h.tree, block_apart size o p.tree) none)

zeros_calm : (size t : ℕ) (ty : CType) (o n l : ℕ) → AreCalm (zeros_in_block size t ty o n l).items
zeros_calm size t ty o n l =
    let last = next (tt, calm_block size (o + n * size_of ty), inert_apart (Loc t) (in_block size (o + n * size_of ty)) refl) none in
    next (calm_block size o) (next tt (next (tt, tt, λ e. refl) (next (tt, tt, λ e. refl) last)))

pub way_in_calm : (size first pointer block l : ℕ) → AreCalm (way_in size first pointer block l).items
way_in_calm size first pointer zero l = none
way_in_calm size first pointer (suc block) l =
    next tt (next (((tt, tt, λ e. refl), tt, λ e. refl), tt, λ e. refl) (next (tt, tt, λ e. refl) (next tt (next (tt, (tt, tt, λ e. refl), λ e. refl) none))))

module _ (size count first : ℕ) (out : Destination) where
  effect_calm : (e : Option AnExpression) (l : ℕ) → AreCalm (effect size count first out e l).items
  effect_calm None l = none
  effect_calm (Some e) l = (way_calm size count e).drop first l

  pub zero_calm : (l : ℕ) → AreCalm (delivered out (due (Num 0) first l)).items
  zero_calm l = delivered_calm out (due_calm (Num 0) tt first l)

  returning_calm : (e : Option AnExpression) (l : ℕ) → AreCalm (returning size count first out e l).items
  returning_calm None l = zero_calm l
  returning_calm (Some e) l = (way_calm size count e).deliver out first l

  declare_calm : (ds : List ADeclaration) (rest : SomeActions) (l : ℕ) → AreCalm (declare size count first out ds rest l).items
  declare_calm [] rest l = none
  declare_calm (KeepOf object ∷ ds) rest l = declare_calm ds rest l
  declare_calm (ClearOf n ∷ ds) rest l = behind (calm_clearing (is_zeroed n ds rest) n) (declare_calm ds rest l)
  declare_calm (BeginOf n e ∷ ds) rest l =
      let p : Emitted = (way size count e).deliver (InLocal n) first l in
      behind (behind (calm_clearing (mentions n e) n) ((way_calm size count e).deliver (InLocal n) first l)) (declare_calm ds rest p.labels)
  declare_calm (StoreOf t o e ∷ ds) rest l =
      let p : Lowered = (way size count e).low first l in
      behind (stored_calm size t o ((way_calm size count e).low first l)) (declare_calm ds rest p.labels)
  declare_calm (ZerosOf t o n ∷ ds) rest l = behind (zeros_calm size first t o n l) (declare_calm ds rest (suc l))

  if_by_calm : (o : Option ℕ) (l : ℕ) (c : AnExpression) (f : ℕ → Emitted) → ((k : ℕ) → AreCalm (f k).items) → AreCalm (if_by size count first out o c f l).items
  if_by_calm (Some to) l c f h = (way_calm size count c).branch true to first l
  if_by_calm None l c f h =
      let p : Emitted = unless size count first out c l (suc l) in
      behind ((way_calm size count c).branch false l first (suc l)) (behind (h p.labels) (next tt none))

  while_by_calm : (o : Option ℕ) (l : ℕ) (c : AnExpression) (f : ℕ → ℕ → ℕ → Emitted) → ((lb lc k : ℕ) → AreCalm (f lb lc k).items)
      → AreCalm (while_by size count first out o c f l).items
  while_by_calm (Some v) l c f h =
      let p : Emitted = unless size count first out c (suc l) (suc (suc l)) in
      next tt (behind ((way_calm size count c).branch false (suc l) first (suc (suc l))) (behind (h (suc l) l p.labels) (next tt (next tt none))))
  while_by_calm None l c f h =
      let q : Emitted = f (suc (suc l)) (suc l) (suc (suc (suc l))) in
      let last = next tt (behind ((way_calm size count c).branch true l first q.labels) (next tt none)) in
      next tt (next tt (behind (h (suc (suc l)) (suc l) (suc (suc (suc l)))) last))

  tested_calm : (o : Option ℕ) (l : ℕ) (c : AnExpression) (e : Option AnExpression) (f : ℕ → Emitted) → ((k : ℕ) → AreCalm (f k).items)
      → AreCalm (for_tested size count first out o l c e f).items
  tested_calm (Some v) l c e f h =
      let p : Emitted = unless size count first out c (suc (suc l)) (suc (suc (suc l))) in
      let a : Emitted = f p.labels in
      let test = (way_calm size count c).branch false (suc (suc l)) first (suc (suc (suc l))) in
      next tt (behind test (behind (h p.labels) (next tt (behind (effect_calm e a.labels) (next tt (next tt none))))))
  tested_calm None l c e f h =
      let a : Emitted = f (suc (suc (suc (suc l)))) in
      let s : Emitted = effect size count first out e a.labels in
      let last = next tt (behind ((way_calm size count c).branch true l first s.labels) (next tt none)) in
      next tt (next tt (behind (h (suc (suc (suc (suc l))))) (next tt (behind (effect_calm e a.labels) last))))

  turns_calm : (l : ℕ) (c e : Option AnExpression) (f : ℕ → Emitted) → ((k : ℕ) → AreCalm (f k).items) → AreCalm (for_of size count first out l c e f).items
  turns_calm l None e f h =
      let a : Emitted = f (suc (suc (suc l))) in
      next tt (next tt (behind (h (suc (suc (suc l)))) (next tt (behind (effect_calm e a.labels) (next tt (next tt none))))))
  turns_calm l (Some c) e f h = tested_calm (constant_of c) l c e f h

  mutual
    lower_calm : (a : AnAction) (rest : SomeActions) (lb lc l : ℕ) → AreCalm (lower size count first out a rest lb lc l).items
    lower_calm (DeclareOf ds) rest lb lc l = declare_calm ds rest l
    lower_calm (BlockOf row) rest lb lc l = row_calm row lb lc l
    lower_calm (EvaluateOf e) rest lb lc l = (way_calm size count e).drop first l
    lower_calm BreakOf rest lb lc l = next tt none
    lower_calm ContinueOf rest lb lc l = next tt none
    lower_calm (ReturnOf e) rest lb lc l = returning_calm e l
    lower_calm (IfOf c a) rest lb lc l = if_by_calm (going a lb lc) l c (lower size count first out a NoActions lb lc) (lower_calm a NoActions lb lc)
    lower_calm (IfElseOf c a b) rest lb lc l =
        let p : Emitted = unless size count first out c l (suc (suc l)) in
        let q : Emitted = lower size count first out a NoActions lb lc p.labels in
        let last = next tt (next tt (behind (lower_calm b NoActions lb lc q.labels) (next tt none))) in
        behind ((way_calm size count c).branch false l first (suc (suc l))) (behind (lower_calm a NoActions lb lc p.labels) last)
    lower_calm (WhileOf c a) rest lb lc l = while_by_calm (constant_of c) l c (lower size count first out a NoActions) (lower_calm a NoActions)
    lower_calm (DoOf a c) rest lb lc l =
        let q : Emitted = lower size count first out a NoActions (suc (suc l)) (suc l) (suc (suc (suc l))) in
        let last = next tt (behind ((way_calm size count c).branch true l first q.labels) (next tt none)) in
        next tt (next tt (behind (lower_calm a NoActions (suc (suc l)) (suc l) (suc (suc (suc l)))) last))
    lower_calm (ForOf i c e a) rest lb lc l =
        let p : Emitted = effect size count first out i l in
        let k : ℕ = p.labels in
        behind (effect_calm i l) (turns_calm k c e (lower size count first out a NoActions (suc (suc k)) (suc k)) (lower_calm a NoActions (suc (suc k)) (suc k)))

    pub row_calm : (row : SomeActions) (lb lc l : ℕ) → AreCalm (lower_row size count first out row lb lc l).items
    row_calm NoActions lb lc l = none
    row_calm (MoreActions a row) lb lc l =
        let p : Emitted = lower size count first out a row lb lc l in
        behind (lower_calm a row lb lc l) (row_calm row lb lc p.labels)

-- That each statement of a sound program has long numbers and small labels.
use Rattle.std.proofs.Common.{◌≡◌, ℕ, suc, ◌<◌, List, [], ◌∷◌, refl, arith, ◌+◌, ◌-◌, ◌*◌, ◌≤◌}
use Rattle.std.specs.Prelude.{Bool, true, false, Option, Some, None}
use Rattle.gg_base.proofs.Words.{zero_small}
use Rattle.c_types.specs.declared.typed.Callee.{Callee}
use Rattle.c_types.specs.declared.typed.Variable.{Variable}
use Rattle.c_types.specs.Constants.{constant_of}
use Rattle.c_types.specs.Typed.{AnExpression}
use Rattle.c_types.specs.Types.{size_of}
use Rattle.c_types.proofs.Sizes.{size_small}
use Rattle.c_program.specs.Statements.{ADeclaration, KeepOf, ClearOf, BeginOf, AnAction, SomeActions, NoActions, MoreActions, DeclareOf, BlockOf, EvaluateOf, BreakOf, ContinueOf}
use Rattle.c_program.specs.Statements.{ReturnOf, IfOf, IfElseOf, WhileOf, DoOf, ForOf, StoreOf, ZerosOf}
use Rattle.c_sound.specs.Fits.{Fits, FitsMaybe, more, behind_act, FitsDeclared, FitsAct, FitsActs}
use Rattle.c_sound.specs.Stands.{Stands, StandsMaybe, StandsDeclared, StandsAct, StandsActs, IsThere}
use Rattle.c_lower_scheme.specs.Parts.{Emitted, InLocal, Lowered, Lowering, Destination, due, delivered}
use Rattle.c_lower_scheme.specs.Expressions.{way}
use Rattle.c_lower_scheme.specs.Mentions.{mentions}
use Rattle.c_lower_scheme.specs.Zeros.{is_zeroed}
use Rattle.c_lower_scheme.specs.Flow.{clearing}
use Rattle.c_lower_scheme.specs.Statements.{unless, when, effect, returning, declare, while_by, for_tested, for_of, lower, lower_row, going, going_alone, if_by}
use Rattle.c_lower_scheme.specs.Trees.{Num}
use Rattle.gg_compile_spelled.proofs.Trees.{AreLong, none, next, behind}
use Rattle.gg_compile_spelled.proofs.Parts.{LongEnds, LongTo, LongWay, due_long, delivered_long, two_long}
use Rattle.gg_compile_spelled.proofs.Phrases.{way_long}
use Rattle.gg_compile_spelled.proofs.Places.{long_block}

module _ (objects most params block size count first : ℕ) (out : Destination) (small : block ≤ 262144) (leads : LongTo objects out)
    (takes : Callee → ℕ → Type 0) where
  abbrev There : Variable → Type 0
  There v = IsThere objects params block v

  abbrev Ends : Type 0 → ℕ → Emitted → Type 0
  Ends so l p = LongEnds objects most so l p

  -- `break` and `continue` in a loop go to labels below the bound
  abbrev Loops : Bool → ℕ → ℕ → Type 0
  Loops inside lb lc = inside ≡ true → (lb < most) × (lc < most)

  clearing_long : (b : Bool) (n : ℕ) → AreLong objects most (clearing b n)
  clearing_long true n = next zero_small none
  clearing_long false n = none

  always : (so : Type 0) (l : ℕ) (p : Emitted) → Ends (Unit {0}) l p → Ends so l p
  always so l p h = record { grows = h.grows; items = λ y le. h.items tt le }

  -- a value that goes out of the function
  out_long : (l : ℕ) (p : Emitted) → Ends (LongTo objects out) l p → Ends (Unit {0}) l p
  out_long l p h = record { grows = h.grows; items = λ y le. h.items leads le }

  deliver_out : (e : Lowering) (l : ℕ) → LongWay objects most e → Ends (Unit {0}) l (e.deliver out first l)
  deliver_out e l h = out_long l (e.deliver out first l) (h.deliver out first l)

  zero_out : (l : ℕ) → Ends (Unit {0}) l (delivered out (due (Num 0) first l))
  zero_out l = out_long l (delivered out (due (Num 0) first l))
      (delivered_long objects most out l (due (Num 0) first l) (due_long objects most (Num 0) zero_small first l))

  module _ (scope : ℕ → Type 0) where
    unless_long : (c : AnExpression) (to l : ℕ) → Fits scope c → Stands There takes objects c → Ends (to < most) l (unless size count first out c to l)
    unless_long c to l f s = (way_long objects most params block size count small takes scope c f s).branch false to first l

    when_long : (c : AnExpression) (to l : ℕ) → Fits scope c → Stands There takes objects c → Ends (to < most) l (when size count first out c to l)
    when_long c to l f s = (way_long objects most params block size count small takes scope c f s).branch true to first l

    effect_long : (e : Option AnExpression) (l : ℕ) → FitsMaybe scope e → StandsMaybe There takes objects e
        → Ends (Unit {0}) l (effect size count first out e l)
    effect_long None l f s = record { grows = omega arith; items = λ y le. none }
    effect_long (Some e) l f s = (way_long objects most params block size count small takes scope e f s).drop first l

    returning_long : (e : Option AnExpression) (l : ℕ) → FitsMaybe scope e → StandsMaybe There takes objects e
        → Ends (Unit {0}) l (returning size count first out e l)
    returning_long None l f s = zero_out l
    returning_long (Some e) l f s = deliver_out (way size count e) l (way_long objects most params block size count small takes scope e f s)

    -- a `while`, by its body
    while_by_long : (o : Option ℕ) (l : ℕ) (c : AnExpression) (f : ℕ → ℕ → ℕ → Emitted) → Fits scope c → Stands There takes objects c
        → ((lb lc k : ℕ) → Ends (Loops true lb lc) k (f lb lc k)) → Ends (Unit {0}) l (while_by size count first out o c f l)
    while_by_long (Some v) l c f k s h =
        let p : Emitted = unless size count first out c (suc l) (suc (suc l)) in
        let x = unless_long c (suc l) (suc (suc l)) k s in
        let y = h (suc l) l p.labels in
        let up = x.grows in
        let up' = y.grows in
        record {
          grows = omega arith;
          items = λ t le.
              let lt : l < most = omega arith in
              let lt' : suc l < most = omega arith in
              next lt (behind (x.items lt' (omega arith)) (behind (y.items (λ i. (lt', lt)) le) (next lt (next lt' none))));
        }
    while_by_long None l c f k s h =
        let q : Emitted = f (suc (suc l)) (suc l) (suc (suc (suc l))) in
        let x = h (suc (suc l)) (suc l) (suc (suc (suc l))) in
        let y = when_long c l q.labels k s in
        let up = x.grows in
        let up' = y.grows in
        record {
          grows = omega arith;
          items = λ t le.
              let lt : l < most = omega arith in
              let lt' : suc l < most = omega arith in
              let lt'' : suc (suc l) < most = omega arith in
              let last = next lt' (behind (y.items lt le) (next lt'' none)) in
              next lt' (next lt (behind (x.items (λ i. (lt'', lt')) (omega arith)) last));
        }

    -- the test, the body and the step of a `for`
    tested_long : (o : Option ℕ) (l : ℕ) (c : AnExpression) (e : Option AnExpression) (f : ℕ → Emitted) → Fits scope c → FitsMaybe scope e
        → Stands There takes objects c → StandsMaybe There takes objects e
        → ((k : ℕ) → Ends (Loops true (suc (suc l)) (suc l)) k (f k)) → Ends (Unit {0}) l (for_tested size count first out o l c e f)
    tested_long (Some v) l c e f k k' s s' h =
        let p : Emitted = unless size count first out c (suc (suc l)) (suc (suc (suc l))) in
        let a : Emitted = f p.labels in
        let z = unless_long c (suc (suc l)) (suc (suc (suc l))) k s in
        let x = h p.labels in
        let y = effect_long e a.labels k' s' in
        let up = z.grows in
        let up' = x.grows in
        let up'' = y.grows in
        record {
          grows = omega arith;
          items = λ t le.
              let lt : l < most = omega arith in
              let lt' : suc l < most = omega arith in
              let lt'' : suc (suc l) < most = omega arith in
              let last = next lt' (behind (y.items tt le) (next lt (next lt'' none))) in
              next lt (behind (z.items lt'' (omega arith)) (behind (x.items (λ i. (lt'', lt')) (omega arith)) last));
        }
    tested_long None l c e f k k' s s' h =
        let a : Emitted = f (suc (suc (suc (suc l)))) in
        let b : Emitted = effect size count first out e a.labels in
        let x = h (suc (suc (suc (suc l)))) in
        let y = effect_long e a.labels k' s' in
        let z = when_long c l b.labels k s in
        let up = x.grows in
        let up' = y.grows in
        let up'' = z.grows in
        record {
          grows = omega arith;
          items = λ t le.
              let lt : l < most = omega arith in
              let lt' : suc l < most = omega arith in
              let lt'' : suc (suc l) < most = omega arith in
              let far : suc (suc (suc l)) < most = omega arith in
              let last = next far (behind (z.items lt le) (next lt'' none)) in
              next far (next lt (behind (x.items (λ i. (lt'', lt')) (omega arith)) (next lt' (behind (y.items tt (omega arith)) last))));
        }

    turns_long : (l : ℕ) (c e : Option AnExpression) (f : ℕ → Emitted) → FitsMaybe scope c → FitsMaybe scope e
        → StandsMaybe There takes objects c → StandsMaybe There takes objects e
        → ((k : ℕ) → Ends (Loops true (suc (suc l)) (suc l)) k (f k)) → Ends (Unit {0}) l (for_of size count first out l c e f)
    turns_long l None e f k k' s s' h =
        let a : Emitted = f (suc (suc (suc l))) in
        let x = h (suc (suc (suc l))) in
        let y = effect_long e a.labels k' s' in
        let up = x.grows in
        let up' = y.grows in
        record {
          grows = omega arith;
          items = λ t le.
              let lt : l < most = omega arith in
              let lt' : suc l < most = omega arith in
              let lt'' : suc (suc l) < most = omega arith in
              let last = next lt' (behind (y.items tt le) (next lt (next lt'' none))) in
              next lt (next lt (behind (x.items (λ i. (lt'', lt')) (omega arith)) last));
        }
    turns_long l (Some c) e f k k' s s' h = tested_long (constant_of c) l c e f k k' s s' h

  declare_long : (scope : ℕ → Type 0) (ds : List ADeclaration) (rest : SomeActions) (l : ℕ) → FitsDeclared size scope ds → StandsDeclared There takes objects ds
      → Ends (Unit {0}) l (declare size count first out ds rest l)
  declare_long scope [] rest l f s = record { grows = omega arith; items = λ y le. none }
  declare_long scope (KeepOf object ∷ ds) rest l f s = declare_long scope ds rest l f s
  declare_long scope (ClearOf n ∷ ds) rest l f s =
      let h = declare_long (more scope n) ds rest l f.1 s in
      record { grows = h.grows; items = λ y le. behind (clearing_long (is_zeroed n ds rest) n) (h.items y le) }
  declare_long scope (BeginOf n e ∷ ds) rest l f s =
      let p : Emitted = (way size count e).deliver (InLocal n) first l in
      let x = (way_long objects most params block size count small takes (more scope n) e f.1 s.0).deliver (InLocal n) first l in
      let h = declare_long (more scope n) ds rest p.labels f.2 s.1 in
      let up = x.grows in
      let up' = h.grows in
      record {
        grows = omega arith;
        items = λ y le. behind (behind (clearing_long (mentions n e) n) (x.items tt (omega arith))) (h.items y le);
      }
  declare_long scope (StoreOf t o e ∷ ds) rest l f s =
      let p : Lowered = (way size count e).low first l in
      let x = (way_long objects most params block size count small takes scope e f.1 s.1).low first l in
      let h = declare_long scope ds rest p.labels f.2 s.2 in
      let lies : o < block = s.0 in
      let place = long_block objects most size o (omega arith) in
      let up = x.grows in
      let up' = h.grows in
      record {
        grows = omega arith;
        items = λ y le. behind (behind (x.items (omega arith)) (next (place, x.tree) none)) (h.items y le);
      }
  declare_long scope (ZerosOf t o n ∷ ds) rest l f s =
      let h = declare_long scope ds rest (suc l) f.2 s.2 in
      let lies : o < block = s.0 in
      let last : o + n * size_of t - 1 < block = s.1 in
      let begin = long_block objects most size o (omega arith) in
      let end = long_block objects most size (o + n * size_of t) (omega arith) in
      let up = h.grows in
      record {
        grows = omega arith;
        items = λ y le.
            let lt : l < most = omega arith in
            behind (next begin (next lt (next (tt, zero_small) (next (tt, size_small t) (next (lt, tt, end) none))))) (h.items y le);
      }

  -- a `break` or `continue` goes to a label below the bound
  mutual
    goes_low : (scope : ℕ → Type 0) (inside : Bool) (a : AnAction) (lb lc to : ℕ) → FitsAct size scope inside a → going a lb lc ≡ Some to → Loops inside lb lc → to < most
    goes_low scope inside BreakOf lb lc to f e k = let same : lb ≡ to = cc in let lt = (k f).0 in omega (arith, same, lt)
    goes_low scope inside ContinueOf lb lc to f e k = let same : lc ≡ to = cc in let lt = (k f).1 in omega (arith, same, lt)
    goes_low scope inside (BlockOf row) lb lc to f e k = alone_low scope inside row lb lc to f e k
    goes_low scope inside _ lb lc to f e k = absurd (cc)

    alone_low : (scope : ℕ → Type 0) (inside : Bool) (row : SomeActions) (lb lc to : ℕ) → FitsActs size scope inside row → going_alone row lb lc ≡ Some to → Loops inside lb lc → to < most
    alone_low scope inside NoActions lb lc to f e k = absurd (cc)
    alone_low scope inside (MoreActions a NoActions) lb lc to f e k = goes_low scope inside a lb lc to f.0 e k
    alone_low scope inside (MoreActions a (MoreActions b row)) lb lc to f e k = absurd (cc)

  if_by_long : (scope : ℕ → Type 0) (inside : Bool) (o : Option ℕ) (c : AnExpression) (a : AnAction) (lb lc l : ℕ) → Fits scope c → FitsAct size scope inside a
      → Stands There takes objects c → going a lb lc ≡ o → ((k : ℕ) → Ends (Loops inside lb lc) k (lower size count first out a NoActions lb lc k))
      → Ends (Loops inside lb lc) l (if_by size count first out o c (lower size count first out a NoActions lb lc) l)
  if_by_long scope inside (Some to) c a lb lc l f f' s e h =
      let x = when_long scope c to l f s in
      record { grows = x.grows; items = λ k le. x.items (goes_low scope inside a lb lc to f' e k) le }
  if_by_long scope inside None c a lb lc l f f' s e h =
      let p : Emitted = unless size count first out c l (suc l) in
      let x = unless_long scope c l (suc l) f s in
      let y = h p.labels in
      let up = x.grows in
      let up' = y.grows in
      record {
        grows = omega arith;
        items = λ k le.
            let lt : l < most = omega arith in
            behind (x.items lt (omega arith)) (behind (y.items k le) (next lt none));
      }

  mutual
    lower_long : (scope : ℕ → Type 0) (inside : Bool) (a : AnAction) (rest : SomeActions) (lb lc l : ℕ) → FitsAct size scope inside a → StandsAct There takes objects a
        → Ends (Loops inside lb lc) l (lower size count first out a rest lb lc l)
    lower_long scope inside (DeclareOf ds) rest lb lc l f s = always _ l _ (declare_long scope ds rest l f s)
    lower_long scope inside (BlockOf row) rest lb lc l f s = row_long scope inside row lb lc l f s
    lower_long scope inside (EvaluateOf e) rest lb lc l f s = always _ l _ (effect_long scope (Some e) l f s)
    lower_long scope inside BreakOf rest lb lc l f s = record { grows = omega arith; items = λ k le. next (k f).0 none }
    lower_long scope inside ContinueOf rest lb lc l f s = record { grows = omega arith; items = λ k le. next (k f).1 none }
    lower_long scope inside (ReturnOf e) rest lb lc l f s = always _ l _ (returning_long scope e l f s)
    lower_long scope inside (IfOf c a) rest lb lc l f s =
        if_by_long scope inside (going a lb lc) c a lb lc l f.0 f.1 s.0 refl (λ k. lower_long scope inside a NoActions lb lc k f.1 s.1)
    lower_long scope inside (IfElseOf c a b) rest lb lc l f s =
        let p : Emitted = unless size count first out c l (suc (suc l)) in
        let q : Emitted = lower size count first out a NoActions lb lc p.labels in
        let x = unless_long scope c l (suc (suc l)) f.0 s.0 in
        let y = lower_long scope inside a NoActions lb lc p.labels f.1 s.1 in
        let z = lower_long scope inside b NoActions lb lc q.labels f.2 s.2 in
        let up = x.grows in
        let up' = y.grows in
        let up'' = z.grows in
        record {
          grows = omega arith;
          items = λ k le.
              let lt : l < most = omega arith in
              let lt' : suc l < most = omega arith in
              let last = next lt' (next lt (behind (z.items k le) (next lt' none))) in
              behind (x.items lt (omega arith)) (behind (y.items k (omega arith)) last);
        }
    lower_long scope inside (WhileOf c a) rest lb lc l f s =
        always _ l _ (while_by_long scope (constant_of c) l c (lower size count first out a NoActions) f.0 s.0 (λ x y k. lower_long scope true a NoActions x y k f.1 s.1))
    lower_long scope inside (DoOf a c) rest lb lc l f s =
        let q : Emitted = lower size count first out a NoActions (suc (suc l)) (suc l) (suc (suc (suc l))) in
        let x = lower_long scope true a NoActions (suc (suc l)) (suc l) (suc (suc (suc l))) f.0 s.0 in
        let y = when_long scope c l q.labels f.1 s.1 in
        let up = x.grows in
        let up' = y.grows in
        record {
          grows = omega arith;
          items = λ k le.
              let lt : l < most = omega arith in
              let lt' : suc l < most = omega arith in
              let lt'' : suc (suc l) < most = omega arith in
              let last = next lt' (behind (y.items lt le) (next lt'' none)) in
              next lt (next lt (behind (x.items (λ i. (lt'', lt')) (omega arith)) last));
        }
    lower_long scope inside (ForOf i c e a) rest lb lc l f s =
        let p : Emitted = effect size count first out i l in
        let m : ℕ = p.labels in
        let body : ℕ → Emitted = lower size count first out a NoActions (suc (suc m)) (suc m) in
        two_long objects most _ l p (for_of size count first out m c e body) (always _ l p (effect_long scope i l f.0 s.0))
        (always _ m _ (turns_long scope m c e body f.1 f.2 s.1 s.2 (λ k. lower_long scope true a NoActions (suc (suc m)) (suc m) k f.3 s.3)))

    pub row_long : (scope : ℕ → Type 0) (inside : Bool) (row : SomeActions) (lb lc l : ℕ) → FitsActs size scope inside row
        → StandsActs There takes objects row → LongEnds objects most (inside ≡ true → (lb < most) × (lc < most)) l (lower_row size count first out row lb lc l)
    row_long scope inside NoActions lb lc l f s = record { grows = omega arith; items = λ k le. none }
    row_long scope inside (MoreActions a row) lb lc l f s =
        let p : Emitted = lower size count first out a row lb lc l in
        two_long objects most _ l p (lower_row size count first out row lb lc p.labels) (lower_long scope inside a row lb lc l f.0 s.0)
        (row_long (behind_act scope a) inside row lb lc p.labels f.1 s.1)

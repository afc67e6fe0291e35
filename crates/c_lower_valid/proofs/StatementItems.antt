-- Each statement's items name what is there, with calls in order.
use Rattle.std.proofs.Common.{◌≡◌, ⊎_elim, ℕ, zero, suc, ◌+◌, ◌*◌, ◌≤◌, ◌<◌, List, [], ◌∷◌, ◌++◌, length, Option, Some, None, arith}
use Rattle.std.specs.Prelude.{Bool, true, false, max}
use Rattle.c_types.specs.Types.{size_of}
use Rattle.c_types.specs.declared.types.CType.{CType}
use Rattle.c_types.specs.declared.types.Integer.TheVariants as ints
use Rattle.c_types.specs.declared.typed.ArithmeticOperator.TheVariants as ariths
use Rattle.c_types.specs.declared.typed.Variable.{Variable}
use Rattle.c_types.specs.declared.typed.Callee.{Callee}
use Rattle.c_types.specs.Constants.{constant_of}
use Rattle.c_types.specs.Typed.{AnExpression}
use Rattle.c_program.specs.Statements.{ADeclaration, KeepOf, ClearOf, BeginOf, StoreOf, ZerosOf, AnAction, SomeActions, NoActions, MoreActions, DeclareOf, BlockOf, EvaluateOf, BreakOf, ContinueOf}
use Rattle.c_program.specs.Statements.{ReturnOf, IfOf, IfElseOf, WhileOf, DoOf, ForOf}
use Rattle.c_program.specs.Programs.{ARoutine}
use Rattle.c_sound.specs.Fits.{Fits, FitsMaybe, no_local, more, declaring, behind_act, FitsDeclared, FitsAct, FitsActs}
use Rattle.c_sound.specs.Stands.{IsThere, StandsMaybe, StandsDeclared, StandsAct, StandsActs}
use Rattle.c_lower_scheme.specs.Trees.{Num, Gaddr, Loc, Indir, Bin, Item, Label, AssignLoc, AssignMem, Cbr, Jump}
use Rattle.c_lower_scheme.specs.Parts.{Lowered, Emitted, Destination, InLocal, nothing, due, delivered}
use Rattle.c_lower_scheme.specs.Places.{integer_of, in_block}
use Rattle.c_lower_scheme.specs.Calls.{callee_number}
use Rattle.c_lower_scheme.specs.Expressions
use Rattle.c_lower_scheme.specs.Mentions.{mentions}
use Rattle.c_lower_scheme.specs.Zeros.{is_zeroed}
use Rattle.c_lower_scheme.specs.Flow.{two_done, clearing, begin_of, stored_in_block, zeros_in_block, if_done, if_else_done, loop_done, while_done, turns_done, for_done, ever_done}
use Rattle.c_lower_scheme.specs.Statements
use Rattle.c_lower_scheme.specs.Programs.{first_temporary, way_in, way_out, body_of}
use Rattle.c_lower_valid.proofs.Named.{Scene}
use Rattle.c_lower_valid.proofs.Fine.{Fine, fine_nil, fine_append, fine_up, fine_more, fine_one, fine_behind, fine_three, FineLow, FineDone, ok_block, Reaches, fine_delivered}
use Rattle.c_lower_valid.proofs.Phrases.{ok_there, fine_way}

-- behind declarations and statements the scope has the function's own locals alone
within_declared : (size : ℕ) (scope : ℕ → Type 0) (ds : List ADeclaration) → ((n : ℕ) → scope n → n < size) → FitsDeclared size scope ds
    → (n : ℕ) → declaring scope ds n → n < size
within_declared size scope [] within f n h = within n h
within_declared size scope (KeepOf object ∷ ds) within f n h = within_declared size scope ds within f n h
within_declared size scope (ClearOf m ∷ ds) within f n h = within_declared size (more scope m) ds
    (λ k. ⊎_elim (λ s. within k s) (λ e. let lt = f.0 in omega arith)) f.1 n h
within_declared size scope (BeginOf m e ∷ ds) within f n h = within_declared size (more scope m) ds
    (λ k. ⊎_elim (λ s. within k s) (λ e. let lt = f.0 in omega arith)) f.2 n h
within_declared size scope (StoreOf t o e ∷ ds) within f n h = within_declared size scope ds within f.2 n h
within_declared size scope (ZerosOf t o count ∷ ds) within f n h = within_declared size scope ds within f.2 n h

within_act : (size : ℕ) (scope : ℕ → Type 0) (inside : Bool) (a : AnAction) → ((n : ℕ) → scope n → n < size) → FitsAct size scope inside a
    → (n : ℕ) → behind_act scope a n → n < size
within_act size scope inside (DeclareOf ds) within f n h = within_declared size scope ds within f n h
within_act size scope inside (BlockOf row) within f n h = within n h
within_act size scope inside (EvaluateOf e) within f n h = within n h
within_act size scope inside BreakOf within f n h = within n h
within_act size scope inside ContinueOf within f n h = within n h
within_act size scope inside (ReturnOf e) within f n h = within n h
within_act size scope inside (IfOf c a) within f n h = within n h
within_act size scope inside (IfElseOf c a b) within f n h = within n h
within_act size scope inside (WhileOf c a) within f n h = within n h
within_act size scope inside (DoOf a c) within f n h = within n h
within_act size scope inside (ForOf i c e a) within f n h = within n h

module _ (scene : Scene) (size count first block : ℕ) (out : Destination) (takes : Callee → ℕ → Type 0)
    (calls : (f : Callee) (n : ℕ) → takes f n → scene.callable (callee_number count f) n) (fits : size ≤ first) (room : 1 ≤ block → size < first)
    (reaches : Reaches scene first out) where
  abbrev Dones : Emitted → Type 0
  Dones p = FineDone scene first p

  abbrev There : Variable → Type 0
  There v = IsThere scene.objects scene.params block v

  fine_two : (a b : Emitted) → Dones a → Dones b → Dones (two_done a b)
  fine_two a b h g =
      let u = max a.temps b.temps in
      let le = h.grows in
      record {
        grows = omega arith;
        items = fine_append scene u a.items b.items (fine_up scene a.temps u a.items (omega arith) h.items)
            (fine_up scene b.temps u b.items (omega arith) g.items);
      }

  fine_nothing : (l : ℕ) → Dones (nothing first l)
  fine_nothing l = record { grows = omega arith; items = fine_nil scene first }

  fine_jump : (to l : ℕ) → Dones (record { items = Jump to ∷ []; temps = first; labels = l })
  fine_jump to l = record { grows = omega arith; items = fine_one scene first (Jump to) tt tt }

  -- a zero is returned
  pub fine_zero : (l : ℕ) → Dones (delivered out (due (Num 0) first l))
  fine_zero l = fine_delivered scene out first (due (Num 0) first l) reaches (record { grows = omega arith; items = fine_nil scene first; tree = tt })

  -- what is written in the block
  fine_stored : (t : CType) (o : ℕ) (p : Lowered) → o < block → FineLow scene first p → Dones (stored_in_block size t o p)
  fine_stored t o p lt h = record {
    grows = h.grows;
    items = fine_behind scene p.temps p.items (AssignMem (integer_of t) (in_block size o) p.tree) h.items tt
        (ok_there scene size count first block takes calls fits room o p.temps h.grows lt, h.tree);
  }

  fine_zeros : (t : CType) (o n l : ℕ) → 1 ≤ block → Dones (zeros_in_block size first t o n l)
  fine_zeros t o n l some =
      let r : size < first = room some in
      let u : ℕ = suc first in
      let here : first < u = omega arith in
      let own : size < u = omega arith in
      record {
        grows = omega arith;
        items = fine_more scene u (AssignLoc first (in_block size o)) _ tt (here, ok_block scene size o u own)
            (fine_more scene u (Label l) _ tt tt
            (fine_more scene u (AssignMem (integer_of t) (Loc first) (Num 0)) _ tt (here, tt)
            (fine_more scene u (AssignLoc first (Bin ariths.Add (Loc first) (Num (size_of t)))) _ tt (here, (here, tt))
            (fine_one scene u (Cbr _ l (Loc first) (in_block size (o + n * size_of t))) tt (here, ok_block scene size (o + n * size_of t) u own)))));
      }

  fine_clearing : (b : Bool) (n u : ℕ) → n < u → Fine scene u (clearing b n)
  fine_clearing true n u lt = fine_one scene u (AssignLoc n (Num 0)) tt (lt, tt)
  fine_clearing false n u lt = fine_nil scene u

  fine_begin : (b : Bool) (n : ℕ) (p : Emitted) → n < size → Dones p → Dones (begin_of b n p)
  fine_begin b n p lt h =
      let le = h.grows in
      record { grows = le; items = fine_append scene p.temps (clearing b n) p.items (fine_clearing b n p.temps (omega arith)) h.items }

  fine_if : (l : ℕ) (p a : Emitted) → Dones p → Dones a → Dones (if_done l p a)
  fine_if l p a h g =
      let u = max p.temps a.temps in
      let le = h.grows in
      record {
        grows = omega arith;
        items = fine_three scene u p.items a.items _ (fine_up scene p.temps u p.items (omega arith) h.items)
            (fine_up scene a.temps u a.items (omega arith) g.items) (fine_one scene u (Label l) tt tt);
      }

  fine_if_else : (l : ℕ) (p a b : Emitted) → Dones p → Dones a → Dones b → Dones (if_else_done l p a b)
  fine_if_else l p a b h g f =
      let u = max p.temps (max a.temps b.temps) in
      let le = h.grows in
      record {
        grows = omega arith;
        items = fine_three scene u p.items a.items _
            (fine_up scene p.temps u p.items (omega arith) h.items)
            (fine_up scene a.temps u a.items (omega arith) g.items)
            (fine_more scene u (Jump (suc l)) _ tt tt
            (fine_more scene u (Label l) _ tt tt
            (fine_behind scene u b.items (Label (suc l)) (fine_up scene b.temps u b.items (omega arith) f.items) tt tt)));
      }

  fine_while : (l : ℕ) (p a : Emitted) → Dones p → Dones a → Dones (while_done l p a)
  fine_while l p a h g =
      let u = max p.temps a.temps in
      let le = h.grows in
      record {
        grows = omega arith;
        items = fine_more scene u (Label l) _ tt tt (fine_three scene u p.items a.items _
            (fine_up scene p.temps u p.items (omega arith) h.items)
            (fine_up scene a.temps u a.items (omega arith) g.items)
            (fine_more scene u (Jump l) _ tt tt (fine_one scene u (Label (suc l)) tt tt)));
      }

  fine_loop : (to l : ℕ) (a p : Emitted) → Dones a → Dones p → Dones (loop_done to l a p)
  fine_loop to l a p h g =
      let u = max a.temps p.temps in
      let le = h.grows in
      record {
        grows = omega arith;
        items = fine_more scene u (Jump to) _ tt tt (fine_more scene u (Label l) _ tt tt (fine_append scene u a.items _
            (fine_up scene a.temps u a.items (omega arith) h.items)
            (fine_more scene u (Label (suc l)) _ tt tt
            (fine_behind scene u p.items (Label (suc (suc l))) (fine_up scene p.temps u p.items (omega arith) g.items) tt tt))));
      }

  fine_turns : (l : ℕ) (a s p : Emitted) → Dones a → Dones s → Dones p → Dones (turns_done l a s p)
  fine_turns l a s p h g f =
      let u = max a.temps (max s.temps p.temps) in
      let le = h.grows in
      record {
        grows = omega arith;
        items = fine_more scene u (Jump (suc (suc (suc l)))) _ tt tt (fine_more scene u (Label l) _ tt tt (fine_append scene u a.items _
            (fine_up scene a.temps u a.items (omega arith) h.items)
            (fine_more scene u (Label (suc l)) _ tt tt (fine_append scene u s.items _
            (fine_up scene s.temps u s.items (omega arith) g.items)
            (fine_more scene u (Label (suc (suc (suc l)))) _ tt tt
            (fine_behind scene u p.items (Label (suc (suc l))) (fine_up scene p.temps u p.items (omega arith) f.items) tt tt))))));
      }

  -- the step of a `for`, and the jump back
  fine_again : (u l : ℕ) (s : List Item) → Fine scene u s → Fine scene u (Label (suc l) ∷ (s ++ (Jump l ∷ Label (suc (suc l)) ∷ [])))
  fine_again u l s h = fine_more scene u (Label (suc l)) _ tt tt
      (fine_append scene u s _ h (fine_more scene u (Jump l) _ tt tt (fine_one scene u (Label (suc (suc l))) tt tt)))

  fine_for : (l : ℕ) (p a s : Emitted) → Dones p → Dones a → Dones s → Dones (for_done l p a s)
  fine_for l p a s h g f =
      let u = max p.temps (max a.temps s.temps) in
      let le = h.grows in
      record {
        grows = omega arith;
        items = fine_more scene u (Label l) _ tt tt (fine_three scene u p.items a.items _
            (fine_up scene p.temps u p.items (omega arith) h.items)
            (fine_up scene a.temps u a.items (omega arith) g.items)
            (fine_again u l s.items (fine_up scene s.temps u s.items (omega arith) f.items)));
      }

  fine_ever : (l : ℕ) (a s : Emitted) → Dones a → Dones s → Dones (ever_done l a s)
  fine_ever l a s h g =
      let u = max a.temps s.temps in
      let le = h.grows in
      record {
        grows = omega arith;
        items = fine_more scene u (Jump l) _ tt tt (fine_more scene u (Label l) _ tt tt (fine_append scene u a.items _
            (fine_up scene a.temps u a.items (omega arith) h.items)
            (fine_again u l s.items (fine_up scene s.temps u s.items (omega arith) g.items))));
      }

  module _ (scope : ℕ → Type 0) (within : (n : ℕ) → scope n → n < size) where
    fine_test_of : (sense : Bool) (c : AnExpression) (to l : ℕ) → Fits scope c → StandsMaybe There takes scene.objects (Some c)
        → Dones ((Expressions.way size count c).branch sense to first l)
    fine_test_of sense c to l f s = (fine_way scene size count first block takes calls fits room scope within c f s).branch sense to first l (omega arith)

    fine_effect : (e : Option AnExpression) (l : ℕ) → FitsMaybe scope e → StandsMaybe There takes scene.objects e
        → Dones (Statements.effect size count first out e l)
    fine_effect None l f s = fine_nothing l
    fine_effect (Some e) l f s = (fine_way scene size count first block takes calls fits room scope within e f s).drop first l (omega arith)

    fine_returning : (e : Option AnExpression) (l : ℕ) → FitsMaybe scope e → StandsMaybe There takes scene.objects e
        → Dones (Statements.returning size count first out e l)
    fine_returning None l f s = fine_zero l
    fine_returning (Some e) l f s = (fine_way scene size count first block takes calls fits room scope within e f s).deliver out first l (omega arith) reaches

    fine_if_by : (o : Option ℕ) (l : ℕ) (c : AnExpression) (f : ℕ → Emitted) → Fits scope c → StandsMaybe There takes scene.objects (Some c)
        → ((m : ℕ) → Dones (f m)) → Dones (Statements.if_by size count first out o c f l)
    fine_if_by (Some to) l c f k s h = fine_test_of true c to l k s
    fine_if_by None l c f k s h =
        let p = Statements.unless size count first out c l (suc l) in
        fine_if l p (f p.labels) (fine_test_of false c l (suc l) k s) (h p.labels)

    fine_while_by : (o : Option ℕ) (l : ℕ) (c : AnExpression) (f : ℕ → ℕ → ℕ → Emitted) → Fits scope c → StandsMaybe There takes scene.objects (Some c)
        → ((lb lc m : ℕ) → Dones (f lb lc m)) → Dones (Statements.while_by size count first out o c f l)
    fine_while_by (Some v) l c f k s h =
        let p = Statements.unless size count first out c (suc l) (suc (suc l)) in
        fine_while l p (f (suc l) l p.labels) (fine_test_of false c (suc l) (suc (suc l)) k s) (h (suc l) l p.labels)
    fine_while_by None l c f k s h =
        let q = f (suc (suc l)) (suc l) (suc (suc (suc l))) in
        fine_loop (suc l) l q (Statements.when size count first out c l q.labels) (h (suc (suc l)) (suc l) (suc (suc (suc l)))) (fine_test_of true c l q.labels k s)

    fine_tested : (o : Option ℕ) (l : ℕ) (c : AnExpression) (e : Option AnExpression) (f : ℕ → Emitted) → Fits scope c → FitsMaybe scope e
        → StandsMaybe There takes scene.objects (Some c) → StandsMaybe There takes scene.objects e → ((m : ℕ) → Dones (f m))
        → Dones (Statements.for_tested size count first out o l c e f)
    fine_tested (Some v) l c e f k k' s s' h =
        let p = Statements.unless size count first out c (suc (suc l)) (suc (suc (suc l))) in
        let b = f p.labels in
        fine_for l p b (Statements.effect size count first out e b.labels) (fine_test_of false c (suc (suc l)) (suc (suc (suc l))) k s)
        (h p.labels) (fine_effect e b.labels k' s')
    fine_tested None l c e f k k' s s' h =
        let b = f (suc (suc (suc (suc l)))) in
        let t = Statements.effect size count first out e b.labels in
        fine_turns l b t (Statements.when size count first out c l t.labels) (h (suc (suc (suc (suc l))))) (fine_effect e b.labels k' s')
        (fine_test_of true c l t.labels k s)

    fine_for_of : (l : ℕ) (c e : Option AnExpression) (f : ℕ → Emitted) → FitsMaybe scope c → FitsMaybe scope e
        → StandsMaybe There takes scene.objects c → StandsMaybe There takes scene.objects e → ((m : ℕ) → Dones (f m))
        → Dones (Statements.for_of size count first out l c e f)
    fine_for_of l None e f k k' s s' h = let b = f (suc (suc (suc l))) in
        fine_ever l b (Statements.effect size count first out e b.labels) (h (suc (suc (suc l)))) (fine_effect e b.labels k' s')
    fine_for_of l (Some c) e f k k' s s' h = fine_tested (constant_of c) l c e f k k' s s' h

  fine_declare : (scope : ℕ → Type 0) (within : (n : ℕ) → scope n → n < size) (ds : List ADeclaration) (rest : SomeActions) (l : ℕ)
      → FitsDeclared size scope ds → StandsDeclared There takes scene.objects ds → Dones (Statements.declare size count first out ds rest l)
  fine_declare scope within [] rest l f s = fine_nothing l
  fine_declare scope within (KeepOf object ∷ ds) rest l f s = fine_declare scope within ds rest l f s
  fine_declare scope within (ClearOf n ∷ ds) rest l f s =
      let wider = λ (k : ℕ). ⊎_elim (λ (h : scope k). within k h) (λ (e : k ≡ n). let lt = f.0 in let r : k < size = omega arith in r) in
      let start : Emitted = record { items = clearing (is_zeroed n ds rest) n; temps = first; labels = l } in
      fine_two start (Statements.declare size count first out ds rest l) (record { grows = omega arith; items = fine_clearing (is_zeroed n ds rest) n first (let lt = f.0 in omega arith) })
      (fine_declare (more scope n) wider ds rest l f.1 s)
  fine_declare scope within (BeginOf n e ∷ ds) rest l f s =
      let wider = λ (k : ℕ). ⊎_elim (λ (h : scope k). within k h) (λ (e : k ≡ n). let lt = f.0 in let r : k < size = omega arith in r) in
      let q = (Expressions.way size count e).deliver (InLocal n) first l in
      fine_two (begin_of (mentions n e) n q) (Statements.declare size count first out ds rest q.labels)
      (fine_begin (mentions n e) n q f.0 ((fine_way scene size count first block takes calls fits room (more scope n) wider e f.1 s.0).deliver
      (InLocal n) first l (omega arith) (let lt = f.0 in omega arith)))
      (fine_declare (more scope n) wider ds rest q.labels f.2 s.1)
  fine_declare scope within (StoreOf t o e ∷ ds) rest l f s =
      let p = (Expressions.way size count e).low first l in
      let h = (fine_way scene size count first block takes calls fits room scope within e f.1 s.1).low first l (omega arith) in
      fine_two (stored_in_block size t o p) (Statements.declare size count first out ds rest p.labels) (fine_stored t o p s.0 h)
      (fine_declare scope within ds rest p.labels f.2 s.2)
  fine_declare scope within (ZerosOf t o n ∷ ds) rest l f s =
      let lt = s.0 in
      fine_two (zeros_in_block size first t o n l) (Statements.declare size count first out ds rest (suc l)) (fine_zeros t o n l (omega arith))
      (fine_declare scope within ds rest (suc l) f.2 s.2)

  mutual
    fine_act : (scope : ℕ → Type 0) (within : (n : ℕ) → scope n → n < size) (inside : Bool) (a : AnAction) (rest : SomeActions) (lb lc l : ℕ)
        → FitsAct size scope inside a → StandsAct There takes scene.objects a → Dones (Statements.lower size count first out a rest lb lc l)
    fine_act scope within inside (DeclareOf ds) rest lb lc l f s = fine_declare scope within ds rest l f s
    fine_act scope within inside (BlockOf row) rest lb lc l f s = fine_acts scope within inside row lb lc l f s
    fine_act scope within inside (EvaluateOf e) rest lb lc l f s = fine_effect scope within (Some e) l f s
    fine_act scope within inside BreakOf rest lb lc l f s = fine_jump lb l
    fine_act scope within inside ContinueOf rest lb lc l f s = fine_jump lc l
    fine_act scope within inside (ReturnOf e) rest lb lc l f s = fine_returning scope within e l f s
    fine_act scope within inside (IfOf c a) rest lb lc l f s =
        fine_if_by scope within (Statements.going a lb lc) l c (Statements.lower size count first out a NoActions lb lc) f.0 s.0 (λ m. fine_act scope within inside a NoActions lb lc m f.1 s.1)
    fine_act scope within inside (IfElseOf c a b) rest lb lc l f s =
        let p = Statements.unless size count first out c l (suc (suc l)) in
        let q = Statements.lower size count first out a NoActions lb lc p.labels in
        fine_if_else l p q (Statements.lower size count first out b NoActions lb lc q.labels) (fine_test_of scope within false c l (suc (suc l)) f.0 s.0)
        (fine_act scope within inside a NoActions lb lc p.labels f.1 s.1) (fine_act scope within inside b NoActions lb lc q.labels f.2 s.2)
    fine_act scope within inside (WhileOf c a) rest lb lc l f s =
        fine_while_by scope within (constant_of c) l c (Statements.lower size count first out a NoActions) f.0 s.0 (λ x y m. fine_act scope within true a NoActions x y m f.1 s.1)
    fine_act scope within inside (DoOf a c) rest lb lc l f s =
        let q = Statements.lower size count first out a NoActions (suc (suc l)) (suc l) (suc (suc (suc l))) in
        fine_loop l l q (Statements.when size count first out c l q.labels)
        (fine_act scope within true a NoActions (suc (suc l)) (suc l) (suc (suc (suc l))) f.0 s.0)
        (fine_test_of scope within true c l q.labels f.1 s.1)
    fine_act scope within inside (ForOf i c e a) rest lb lc l f s =
        let p = Statements.effect size count first out i l in
        let m = p.labels in
        let body = Statements.lower size count first out a NoActions (suc (suc m)) (suc m) in
        fine_two p (Statements.for_of size count first out m c e body) (fine_effect scope within i l f.0 s.0)
        (fine_for_of scope within m c e body f.1 f.2 s.1 s.2 (λ k. fine_act scope within true a NoActions (suc (suc m)) (suc m) k f.3 s.3))

    pub fine_acts : (scope : ℕ → Type 0) (within : (n : ℕ) → scope n → n < size) (inside : Bool) (row : SomeActions) (lb lc l : ℕ)
        → FitsActs size scope inside row → StandsActs There takes scene.objects row → Dones (Statements.lower_row size count first out row lb lc l)
    fine_acts scope within inside NoActions lb lc l f s = fine_nothing l
    fine_acts scope within inside (MoreActions a row) lb lc l f s =
        let p = Statements.lower size count first out a row lb lc l in
        fine_two p (Statements.lower_row size count first out row lb lc p.labels) (fine_act scope within inside a row lb lc l f.0 s.0)
        (fine_acts (behind_act scope a) (within_act size scope inside a within f.0) inside row lb lc p.labels f.1 s.1)

-- a function, with a block or not: the stack's pointer and the stack behind it are objects where it has one
fits_first : (size block : ℕ) → size ≤ first_temporary size block
fits_first size zero = omega arith
fits_first size (suc block) = omega arith

room_first : (size block : ℕ) → 1 ≤ block → size < first_temporary size block
room_first size zero le = absurd (omega arith)
room_first size (suc block) le = omega arith

module _ (scene : Scene) (size pointer : ℕ) where
  reaches_out : (block : ℕ) → (1 ≤ block → suc pointer < scene.objects) → Reaches scene (first_temporary size block) (way_out pointer size block)
  reaches_out zero stacked = tt
  reaches_out (suc block) stacked = let lt : suc pointer < scene.objects = stacked (omega arith) in (omega arith, omega arith)

  fine_way_in : (block l : ℕ) → (1 ≤ block → suc pointer < scene.objects)
      → FineDone scene (first_temporary size block) (way_in size (first_temporary size block) pointer block l)
  fine_way_in zero l stacked = record { grows = omega arith; items = fine_nil scene size }
  fine_way_in (suc block) l stacked =
      let u : ℕ = suc size in
      let lt : suc pointer < scene.objects = stacked (omega arith) in
      let own : pointer < scene.objects = omega arith in
      let here : size < u = omega arith in
      record {
        grows = omega arith;
        items = fine_more scene u (AssignLoc size (Indir ints.Int (Gaddr pointer))) _ tt (here, own)
            (fine_more scene u (Cbr _ l (Bin ariths.Subtract (Bin ariths.Add (Gaddr (suc pointer)) (Num 262144)) (Loc size)) (Num (suc block))) _ tt
            (((lt, tt), here), tt)
            (fine_more scene u (AssignLoc size (Bin ariths.Divide (Num 0) (Num 0))) _ tt (here, (tt, tt))
            (fine_more scene u (Label l) _ tt tt
            (fine_one scene u (AssignMem ints.Int (Gaddr pointer) (Bin ariths.Add (Loc size) (Num (suc block)))) tt (own, (here, tt))))));
      }

pub fine_body : (scene : Scene) (count pointer : ℕ) (takes : Callee → ℕ → Type 0) → ((f : Callee) (n : ℕ) → takes f n → scene.callable (callee_number count f) n)
    → (g : ARoutine) (l : ℕ) → (1 ≤ g.block → suc pointer < scene.objects) → FitsActs (length g.locals) no_local false g.body
    → StandsActs (IsThere scene.objects scene.params g.block) takes scene.objects g.body → FineDone scene (length g.locals) (body_of pointer count g l)
fine_body scene count pointer takes calls g l stacked f s =
    let size : ℕ = length g.locals in
    let first : ℕ = first_temporary size g.block in
    let out : Destination = way_out pointer size g.block in
    let fits : size ≤ first = fits_first size g.block in
    let room = room_first size g.block in
    let reaches = reaches_out scene size pointer g.block stacked in
    let w = way_in size first pointer g.block l in
    let p = Statements.lower_row size count first out g.body 0 0 w.labels in
    let end = delivered out (due (Num 0) first p.labels) in
    let h = fine_acts scene size count first g.block out takes calls fits room reaches no_local (λ n k. absurd k) false g.body 0 0 w.labels f s in
    let q = fine_two scene size count first g.block out takes calls fits room reaches p end h
    (fine_zero scene size count first g.block out takes calls fits room reaches p.labels) in
    let all = fine_two scene size count first g.block out takes calls fits room reaches w (two_done p end)
    (fine_way_in scene size pointer g.block l stacked) q in
    let le = all.grows in
    record { grows = omega arith; items = all.items }

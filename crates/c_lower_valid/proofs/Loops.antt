-- Labels among the items of statements: `break` and `continue` go out, unless a loop is around them.
use Rattle.std.proofs.Common.{◌≡◌, ℕ, zero, suc, ◌+◌, ◌≤◌, ◌<◌, List, [], ◌∷◌, ◌++◌, length, Option, Some, None, refl, arith}
use Rattle.std.specs.Prelude.{Bool, true, false}
use Rattle.c_types.specs.Constants.{constant_of}
use Rattle.c_types.specs.declared.types.CType.{CType}
use Rattle.c_types.specs.Typed.{AnExpression}
use Rattle.c_program.specs.Statements.{ADeclaration, KeepOf, ClearOf, BeginOf, StoreOf, ZerosOf, AnAction, SomeActions, NoActions, MoreActions, DeclareOf, BlockOf, EvaluateOf, BreakOf, ContinueOf}
use Rattle.c_program.specs.Statements.{ReturnOf, IfOf, IfElseOf, WhileOf, DoOf, ForOf}
use Rattle.c_program.specs.Programs.{ARoutine}
use Rattle.c_sound.specs.Fits.{no_local, behind_act, FitsAct, FitsActs}
use Rattle.c_lower_scheme.specs.Trees.{Num, Item, Label, Jump}
use Rattle.c_lower_scheme.specs.Parts
use Rattle.c_lower_scheme.specs.Expressions
use Rattle.c_lower_scheme.specs.Mentions
use Rattle.c_lower_scheme.specs.Zeros
use Rattle.c_lower_scheme.specs.Flow
use Rattle.c_lower_scheme.specs.Statements
use Rattle.c_lower_scheme.specs.Programs
use Rattle.c_lower_scheme.proofs.Labels.{at, stands, stands_append}
use Rattle.c_lower_valid.proofs.Marks.{aims, aims_append, nowhere, Marked, marked_nil, marked_out, marked_append, marked_same, marked_plain}
use Rattle.c_lower_valid.proofs.Marks.{marked_front, marked_count, IsMute, marked_inner, marked_fork, marked_delivered}
use Rattle.c_lower_valid.proofs.Labels.{marked_way}

-- the labels to which `break` and `continue` go, in a loop
abbrev pub leaving : Bool → ℕ → ℕ → ℕ → ℕ
leaving true lb lc m = at lb m + at lc m
leaving false lb lc m = 0

marked_while : (out : ℕ → ℕ) (l p q : ℕ) (a b : List Item) → Marked (at (suc l)) (suc (suc l)) p a
    → Marked (leaving true (suc l) l) p q b → Marked out l q (Label l ∷ (a ++ (b ++ (Jump l ∷ Label (suc l) ∷ []))))
marked_while out l p q a b h g =
    let T2 : List Item = Jump l ∷ Label (suc l) ∷ [] in
    let T1 : List Item = b ++ T2 in
    let both : ℕ → ℕ = leaving true (suc l) l in
    let top : ℕ → ℕ = at l in
    let inner : List Item = a ++ b in
    let all = marked_append both (suc (suc l)) p q a b (marked_out (at (suc l)) both (suc (suc l)) p a (λ m. omega arith) h) g in
    let one = marked_count top both (suc l) q inner (Label (suc l) ∷ inner) all (λ m. omega arith) (λ m. refl) (λ m lt. omega arith) in
    marked_count out top l q (Label (suc l) ∷ inner) (Label l ∷ (a ++ T1)) one (λ m. omega arith)
    (λ m. omega (arith, stands_append m a T1, stands_append m b T2, stands_append m a b))
    (λ m lt. omega (arith, aims_append m a T1, aims_append m b T2, aims_append m a b))

-- three labels: the top's, the one for `continue`, the end's
abbrev three : ℕ → ℕ → ℕ
three l m = at l m + (at (suc l) m + at (suc (suc l)) m)

marked_three : (out : ℕ → ℕ) (l q : ℕ) (inner js : List Item) → Marked (three l) (suc (suc (suc l))) q inner
    → ((m : ℕ) → stands m js ≡ at l m + (at (suc l) m + (at (suc (suc l)) m + stands m inner)))
    → ((m : ℕ) → 0 < aims m js → 0 < at l m + aims m inner) → Marked out l q js
marked_three out l q inner js h e k =
    let top : ℕ → ℕ = at l in
    let two : ℕ → ℕ = λ m. at l m + at (suc l) m in
    let one = marked_count two (three l) (suc (suc l)) q inner (Label (suc (suc l)) ∷ inner) h (λ m. omega arith) (λ m. refl)
    (λ m lt. omega arith) in
    let next = marked_count top two (suc l) q (Label (suc (suc l)) ∷ inner) (Label (suc l) ∷ Label (suc (suc l)) ∷ inner) one
    (λ m. omega arith) (λ m. refl) (λ m lt. omega arith) in
    marked_count out top l q (Label (suc l) ∷ Label (suc (suc l)) ∷ inner) js next (λ m. omega arith) e (λ m lt. omega (arith, k m lt))

-- a first jump goes to the top or to the test
marked_loop : (out : ℕ → ℕ) (to l p q : ℕ) (a b : List Item) → ((m : ℕ) → at to m ≤ at l m + at (suc l) m)
    → Marked (leaving true (suc (suc l)) (suc l)) (suc (suc (suc l))) p a → Marked (at l) p q b
    → Marked out l q (Jump to ∷ Label l ∷ (a ++ (Label (suc l) ∷ (b ++ (Label (suc (suc l)) ∷ [])))))
marked_loop out to l p q a b first h g =
    let T2 : List Item = Label (suc (suc l)) ∷ [] in
    let T1 : List Item = Label (suc l) ∷ (b ++ T2) in
    let inner : List Item = a ++ b in
    let all = marked_append (three l) (suc (suc (suc l))) p q a b
    (marked_out _ (three l) (suc (suc (suc l))) p a (λ m. omega arith) h) (marked_out (at l) (three l) p q b (λ m. omega arith) g) in
    let begun = marked_same (three l) (suc (suc (suc l))) q inner (Jump to ∷ inner) all (λ m. omega arith) (λ m lt. omega (arith, first m)) in
    marked_three out l q (Jump to ∷ inner) _ begun
    (λ m. omega (arith, stands_append m a T1, stands_append m b T2, stands_append m a b))
    (λ m lt. omega (arith, aims_append m a T1, aims_append m b T2, aims_append m a b))

marked_ever : (out : ℕ → ℕ) (l p q : ℕ) (a b : List Item) → Marked (leaving true (suc (suc l)) (suc l)) (suc (suc (suc l))) p a
    → Marked nowhere p q b → Marked out l q (Jump l ∷ Label l ∷ (a ++ (Label (suc l) ∷ (b ++ (Jump l ∷ Label (suc (suc l)) ∷ [])))))
marked_ever out l p q a b h g =
    let T2 : List Item = Jump l ∷ Label (suc (suc l)) ∷ [] in
    let T1 : List Item = Label (suc l) ∷ (b ++ T2) in
    marked_three out l q (a ++ b) _ (marked_append (three l) (suc (suc (suc l))) p q a b
    (marked_out _ (three l) (suc (suc (suc l))) p a (λ m. omega arith) h) (marked_out nowhere (three l) p q b (λ m. omega arith) g))
    (λ m. omega (arith, stands_append m a T1, stands_append m b T2, stands_append m a b))
    (λ m lt. omega (arith, aims_append m a T1, aims_append m b T2, aims_append m a b))

marked_for : (out : ℕ → ℕ) (l p q r : ℕ) (a b c : List Item) → Marked (at (suc (suc l))) (suc (suc (suc l))) p a
    → Marked (leaving true (suc (suc l)) (suc l)) p q b → Marked nowhere q r c
    → Marked out l r (Label l ∷ (a ++ (b ++ (Label (suc l) ∷ (c ++ (Jump l ∷ Label (suc (suc l)) ∷ []))))))
marked_for out l p q r a b c h g f =
    let T3 : List Item = Jump l ∷ Label (suc (suc l)) ∷ [] in
    let T2 : List Item = Label (suc l) ∷ (c ++ T3) in
    let T1 : List Item = b ++ T2 in
    marked_three out l r (a ++ (b ++ c)) _
    (marked_append (three l) (suc (suc (suc l))) p r a (b ++ c) (marked_out _ (three l) (suc (suc (suc l))) p a (λ m. omega arith) h)
    (marked_append (three l) p q r b c (marked_out _ (three l) p q b (λ m. omega arith) g)
    (marked_out nowhere (three l) q r c (λ m. omega arith) f)))
    (λ m. omega (arith, stands_append m a T1, stands_append m b T2, stands_append m c T3, stands_append m a (b ++ c), stands_append m b c))
    (λ m lt. omega (arith, aims_append m a T1, aims_append m b T2, aims_append m c T3, aims_append m a (b ++ c), aims_append m b c))

-- four labels: the test's behind the step too
marked_turns : (out : ℕ → ℕ) (l p q r : ℕ) (a b c : List Item) → Marked (leaving true (suc (suc l)) (suc l)) (suc (suc (suc (suc l)))) p a
    → Marked nowhere p q b → Marked (at l) q r c
    → Marked out l r (Jump (suc (suc (suc l))) ∷ Label l ∷ (a ++ (Label (suc l) ∷ (b ++ (Label (suc (suc (suc l))) ∷ (c ++ (Label (suc (suc l)) ∷ [])))))))
marked_turns out l p q r a b c h g f =
    let T3 : List Item = Label (suc (suc l)) ∷ [] in
    let T2 : List Item = Label (suc (suc (suc l))) ∷ (c ++ T3) in
    let T1 : List Item = Label (suc l) ∷ (b ++ T2) in
    let inner : List Item = a ++ (b ++ c) in
    let all = marked_append (three l) (suc (suc (suc (suc l)))) p r a (b ++ c) (marked_out _ (three l) (suc (suc (suc (suc l)))) p a (λ m. omega arith) h)
    (marked_append (three l) p q r b c (marked_out nowhere (three l) p q b (λ m. omega arith) g) (marked_out (at l) (three l) q r c (λ m. omega arith) f)) in
    let begun : List Item = Jump (suc (suc (suc l))) ∷ Label (suc (suc (suc l))) ∷ inner in
    let one = marked_count (three l) (three l) (suc (suc (suc l))) r inner begun all (λ m. omega arith) (λ m. omega arith) (λ m lt. omega arith) in
    marked_three out l r begun _ one
    (λ m. omega (arith, stands_append m a T1, stands_append m b T2, stands_append m c T3, stands_append m a (b ++ c), stands_append m b c))
    (λ m lt. omega (arith, aims_append m a T1, aims_append m b T2, aims_append m c T3, aims_append m a (b ++ c), aims_append m b c))

mute_clearing : (b : Bool) (n : ℕ) → IsMute (Flow.clearing b n)
mute_clearing true n m = refl
mute_clearing false n m = refl

-- labels at which a block is taken, and zeros are written in it
marked_claimed : (size t pointer block l : ℕ) → Marked nowhere l (suc l) (Flow.claimed size t pointer block l).items
marked_claimed size t pointer block l = marked_count nowhere nowhere l (suc l) [] _ (marked_nil nowhere (suc l)) (λ m. omega arith) (λ m. omega arith) (λ m lt. omega arith)

marked_zeros : (size t : ℕ) (ty : CType) (o n l : ℕ) → Marked nowhere l (suc l) (Flow.zeros_in_block size t ty o n l).items
marked_zeros size t ty o n l = marked_count nowhere nowhere l (suc l) [] _ (marked_nil nowhere (suc l)) (λ m. omega arith) (λ m. omega arith) (λ m lt. omega arith)

module _ (size count first : ℕ) (away : Parts.Destination) where
  marked_effect : (e : Option AnExpression) (l : ℕ) → Marked nowhere l (Statements.effect size count first away e l).labels
      (Statements.effect size count first away e l).items
  marked_effect None l = marked_nil nowhere l
  marked_effect (Some e) l = (marked_way size count e).drop first l

  marked_returning : (e : Option AnExpression) (l : ℕ) → Marked nowhere l (Statements.returning size count first away e l).labels
      (Statements.returning size count first away e l).items
  marked_returning None l = marked_delivered away (Parts.due (Num 0) first l) l (marked_nil nowhere l)
  marked_returning (Some e) l = (marked_way size count e).deliver away first l

  marked_declare : (ds : List ADeclaration) (rest : SomeActions) (l : ℕ)
      → Marked nowhere l (Statements.declare size count first away ds rest l).labels (Statements.declare size count first away ds rest l).items
  marked_declare [] rest l = marked_nil nowhere l
  marked_declare (KeepOf object ∷ ds) rest l = marked_declare ds rest l
  marked_declare (ClearOf n ∷ ds) rest l =
      marked_front nowhere l _ (Flow.clearing (Zeros.is_zeroed n ds rest) n) _ (mute_clearing (Zeros.is_zeroed n ds rest) n) (marked_declare ds rest l)
  marked_declare (BeginOf n e ∷ ds) rest l =
      let q = (Expressions.way size count e).deliver (Parts.InLocal n) first l in
      let b = Mentions.mentions n e in
      marked_append nowhere l q.labels _ _ _ (marked_front nowhere l q.labels (Flow.clearing b n) q.items (mute_clearing b n)
      ((marked_way size count e).deliver (Parts.InLocal n) first l))
      (marked_declare ds rest q.labels)
  marked_declare (StoreOf t o e ∷ ds) rest l =
      let q = Flow.stored_in_block size t o ((Expressions.way size count e).low first l) in
      marked_append nowhere l q.labels _ _ _ (marked_plain nowhere l q.labels _ _ ((marked_way size count e).low first l) (λ m. refl))
      (marked_declare ds rest q.labels)
  marked_declare (ZerosOf t o n ∷ ds) rest l =
      marked_append nowhere l (suc l) _ (Flow.zeros_in_block size first t o n l).items _ (marked_zeros size first t o n l) (marked_declare ds rest (suc l))

  -- a `break` or `continue` goes to a label around it
  mutual
    goes_out : (scope : ℕ → Type 0) (inside : Bool) (a : AnAction) (lb lc to : ℕ) → FitsAct size scope inside a → Statements.going a lb lc ≡ Some to
        → (m : ℕ) → at to m ≤ leaving inside lb lc m
    goes_out scope true BreakOf lb lc to f e m = let same : at to m ≡ at lb m = cc in omega (arith, same)
    goes_out scope false BreakOf lb lc to f e m = absurd (cc)
    goes_out scope true ContinueOf lb lc to f e m = let same : at to m ≡ at lc m = cc in omega (arith, same)
    goes_out scope false ContinueOf lb lc to f e m = absurd (cc)
    goes_out scope inside (DeclareOf ds) lb lc to f e m = absurd (cc)
    goes_out scope inside (BlockOf row) lb lc to f e m = alone_out scope inside row lb lc to f e m
    goes_out scope inside (EvaluateOf x) lb lc to f e m = absurd (cc)
    goes_out scope inside (ReturnOf x) lb lc to f e m = absurd (cc)
    goes_out scope inside (IfOf c a) lb lc to f e m = absurd (cc)
    goes_out scope inside (IfElseOf c a b) lb lc to f e m = absurd (cc)
    goes_out scope inside (WhileOf c a) lb lc to f e m = absurd (cc)
    goes_out scope inside (DoOf a c) lb lc to f e m = absurd (cc)
    goes_out scope inside (ForOf i c x a) lb lc to f e m = absurd (cc)

    alone_out : (scope : ℕ → Type 0) (inside : Bool) (row : SomeActions) (lb lc to : ℕ) → FitsActs size scope inside row → Statements.going_alone row lb lc ≡ Some to
        → (m : ℕ) → at to m ≤ leaving inside lb lc m
    alone_out scope inside NoActions lb lc to f e m = absurd (cc)
    alone_out scope inside (MoreActions a NoActions) lb lc to f e m = goes_out scope inside a lb lc to f.0 e m
    alone_out scope inside (MoreActions a (MoreActions b row)) lb lc to f e m = absurd (cc)

  marked_if_by : (scope : ℕ → Type 0) (inside : Bool) (o : Option ℕ) (c : AnExpression) (a : AnAction) (lb lc l : ℕ) → FitsAct size scope inside a
      → Statements.going a lb lc ≡ o
      → ((m : ℕ) → Marked (leaving inside lb lc) m (Statements.lower size count first away a NoActions lb lc m).labels (Statements.lower size count first away a NoActions lb lc m).items)
      → Marked (leaving inside lb lc) l (Statements.if_by size count first away o c (Statements.lower size count first away a NoActions lb lc) l).labels
      (Statements.if_by size count first away o c (Statements.lower size count first away a NoActions lb lc) l).items
  marked_if_by scope inside (Some to) c a lb lc l f e h =
      marked_out (at to) (leaving inside lb lc) l _ _ (goes_out scope inside a lb lc to f e) ((marked_way size count c).branch true to first l)
  marked_if_by scope inside None c a lb lc l f e h =
      let q = Statements.unless size count first away c l (suc l) in
      marked_inner (leaving inside lb lc) l q.labels _ q.items _ ((marked_way size count c).branch false l first (suc l)) (h q.labels)

  marked_while_by : (out : ℕ → ℕ) (o : Option ℕ) (c : AnExpression) (f : ℕ → ℕ → ℕ → Parts.Emitted) (l : ℕ)
      → ((lb lc m : ℕ) → Marked (leaving true lb lc) m (f lb lc m).labels (f lb lc m).items)
      → Marked out l (Statements.while_by size count first away o c f l).labels (Statements.while_by size count first away o c f l).items
  marked_while_by out (Some v) c f l h =
      let q = Statements.unless size count first away c (suc l) (suc (suc l)) in
      marked_while out l q.labels _ q.items _ ((marked_way size count c).branch false (suc l) first (suc (suc l))) (h (suc l) l q.labels)
  marked_while_by out None c f l h =
      let x = f (suc (suc l)) (suc l) (suc (suc (suc l))) in
      marked_loop out (suc l) l x.labels _ x.items _ (λ m. omega arith) (h (suc (suc l)) (suc l) (suc (suc (suc l)))) ((marked_way size count c).branch true l first x.labels)

  marked_tested : (out : ℕ → ℕ) (o : Option ℕ) (c : AnExpression) (e : Option AnExpression) (l : ℕ) (f : ℕ → Parts.Emitted)
      → ((m : ℕ) → Marked (leaving true (suc (suc l)) (suc l)) m (f m).labels (f m).items)
      → Marked out l (Statements.for_tested size count first away o l c e f).labels (Statements.for_tested size count first away o l c e f).items
  marked_tested out (Some v) c e l f h =
      let q = Statements.unless size count first away c (suc (suc l)) (suc (suc (suc l))) in
      let b = f q.labels in
      marked_for out l q.labels b.labels _ q.items b.items _
      ((marked_way size count c).branch false (suc (suc l)) first (suc (suc (suc l)))) (h q.labels) (marked_effect e b.labels)
  marked_tested out None c e l f h =
      let b = f (suc (suc (suc (suc l)))) in
      let s = Statements.effect size count first away e b.labels in
      marked_turns out l b.labels s.labels _ b.items s.items _ (h (suc (suc (suc (suc l))))) (marked_effect e b.labels)
      ((marked_way size count c).branch true l first s.labels)

  marked_for_of : (out : ℕ → ℕ) (c e : Option AnExpression) (l : ℕ) (f : ℕ → Parts.Emitted)
      → ((m : ℕ) → Marked (leaving true (suc (suc l)) (suc l)) m (f m).labels (f m).items)
      → Marked out l (Statements.for_of size count first away l c e f).labels (Statements.for_of size count first away l c e f).items
  marked_for_of out None e l f h = let b = f (suc (suc (suc l))) in
      marked_ever out l b.labels _ b.items _ (h (suc (suc (suc l)))) (marked_effect e b.labels)
  marked_for_of out (Some c) e l f h = marked_tested out (constant_of c) c e l f h

  mutual
    marked_act : (scope : ℕ → Type 0) (inside : Bool) (a : AnAction) (rest : SomeActions) (lb lc l : ℕ) → FitsAct size scope inside a
        → Marked (leaving inside lb lc) l (Statements.lower size count first away a rest lb lc l).labels (Statements.lower size count first away a rest lb lc l).items
    marked_act scope inside (DeclareOf ds) rest lb lc l f = marked_out nowhere (leaving inside lb lc) l _ _ (λ m. omega arith)
        (marked_declare ds rest l)
    marked_act scope inside (BlockOf row) rest lb lc l f = marked_row scope inside row lb lc l f
    marked_act scope inside (EvaluateOf e) rest lb lc l f = marked_out nowhere (leaving inside lb lc) l _ _ (λ m. omega arith)
        ((marked_way size count e).drop first l)
    marked_act scope true BreakOf rest lb lc l f = marked_same (leaving true lb lc) l l [] (Jump lb ∷ []) (marked_nil (leaving true lb lc) l)
        (λ m. refl) (λ m lt. omega arith)
    marked_act scope false BreakOf rest lb lc l f = absurd (cc)
    marked_act scope true ContinueOf rest lb lc l f = marked_same (leaving true lb lc) l l [] (Jump lc ∷ [])
        (marked_nil (leaving true lb lc) l) (λ m. refl) (λ m lt. omega arith)
    marked_act scope false ContinueOf rest lb lc l f = absurd (cc)
    marked_act scope inside (ReturnOf e) rest lb lc l f = marked_out nowhere (leaving inside lb lc) l _ _ (λ m. omega arith)
        (marked_returning e l)
    marked_act scope inside (IfOf c a) rest lb lc l f =
        marked_if_by scope inside (Statements.going a lb lc) c a lb lc l f.1 refl (λ m. marked_act scope inside a NoActions lb lc m f.1)
    marked_act scope inside (IfElseOf c a b) rest lb lc l f =
        let q = Statements.unless size count first away c l (suc (suc l)) in
        let x = Statements.lower size count first away a NoActions lb lc q.labels in
        marked_fork (leaving inside lb lc) l q.labels x.labels _ q.items x.items _ [] [] (λ m. refl) (λ m. refl)
        ((marked_way size count c).branch false l first (suc (suc l))) (marked_act scope inside a NoActions lb lc q.labels f.1)
        (marked_act scope inside b NoActions lb lc x.labels f.2)
    marked_act scope inside (WhileOf c a) rest lb lc l f =
        marked_while_by (leaving inside lb lc) (constant_of c) c (Statements.lower size count first away a NoActions) l (λ x y m. marked_act scope true a NoActions x y m f.1)
    marked_act scope inside (DoOf a c) rest lb lc l f =
        let x = Statements.lower size count first away a NoActions (suc (suc l)) (suc l) (suc (suc (suc l))) in
        marked_loop (leaving inside lb lc) l l x.labels _ x.items _ (λ m. omega arith) (marked_act scope true a NoActions (suc (suc l)) (suc l) (suc (suc (suc l))) f.0)
        ((marked_way size count c).branch true l first x.labels)
    marked_act scope inside (ForOf i c e a) rest lb lc l f =
        let x = Statements.effect size count first away i l in
        marked_append (leaving inside lb lc) l x.labels _ x.items _
        (marked_out nowhere (leaving inside lb lc) l _ _ (λ m. omega arith) (marked_effect i l))
        (marked_for_of (leaving inside lb lc) c e x.labels (Statements.lower size count first away a NoActions (suc (suc x.labels)) (suc x.labels))
        (λ m. marked_act scope true a NoActions (suc (suc x.labels)) (suc x.labels) m f.3))

    pub marked_row : (scope : ℕ → Type 0) (inside : Bool) (row : SomeActions) (lb lc l : ℕ) → FitsActs size scope inside row
        → Marked (leaving inside lb lc) l (Statements.lower_row size count first away row lb lc l).labels
        (Statements.lower_row size count first away row lb lc l).items
    marked_row scope inside NoActions lb lc l f = marked_nil (leaving inside lb lc) l
    marked_row scope inside (MoreActions a row) lb lc l f =
        let x = Statements.lower size count first away a row lb lc l in
        marked_append (leaving inside lb lc) l x.labels _ x.items _ (marked_act scope inside a row lb lc l f.0)
        (marked_row (behind_act scope a) inside row lb lc x.labels f.1)

-- a function's labels, with a block or without
marked_way_in : (size first pointer block l : ℕ)
    → Marked nowhere l (Programs.way_in size first pointer block l).labels (Programs.way_in size first pointer block l).items
marked_way_in size first pointer zero l = marked_nil nowhere l
marked_way_in size first pointer (suc block) l = marked_claimed size first pointer (suc block) l

pub marked_body : (pointer count : ℕ) (g : ARoutine) (l : ℕ) → FitsActs (length g.locals) no_local false g.body
    → Marked nowhere l (Programs.body_of pointer count g l).labels (Programs.body_of pointer count g l).items
marked_body pointer count g l f =
    let size : ℕ = length g.locals in
    let first : ℕ = Programs.first_temporary size g.block in
    let away : Parts.Destination = Programs.way_out pointer size g.block in
    let w = Programs.way_in size first pointer g.block l in
    let x = Statements.lower_row size count first away g.body 0 0 w.labels in
    let end = Parts.delivered away (Parts.due (Num 0) first x.labels) in
    marked_append nowhere l w.labels end.labels w.items _ (marked_way_in size first pointer g.block l)
    (marked_append nowhere w.labels x.labels end.labels x.items _ (marked_row size count first away no_local false g.body 0 0 w.labels f)
    (marked_delivered away (Parts.due (Num 0) first x.labels) x.labels (marked_nil nowhere x.labels)))

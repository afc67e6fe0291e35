-- Where the items of statements stand among those of their function.
use Rattle.std.proofs.Common.{◌≡◌, ℕ, zero, suc, List, [], ◌∷◌, ◌++◌, length, Option, Some, None, refl, sym, ap, subst, ◌∙◌, append_assoc, append-nil}
use Rattle.std.specs.Prelude.{◌-◌, slice_get}
use Rattle.tree_core.specs.declared.program.TreeItem.{TreeItem}
use Rattle.tree_core.specs.declared.program.TreeFn.{TreeFn}
use Rattle.c_types.specs.Constants.{constant_of}
use Rattle.c_types.specs.Typed.{AnExpression}
use Rattle.c_program.specs.Statements.{AnAction, SomeActions, NoActions, MoreActions, DeclareOf, BlockOf, EvaluateOf, BreakOf, ContinueOf, ReturnOf, IfOf, IfElseOf, WhileOf, DoOf, ForOf}
use Rattle.c_program.specs.Programs.{ARoutine}
use Rattle.c_lower_scheme.specs.Trees.{Item, Num, Label, Jump}
use Rattle.c_lower_scheme.specs.Parts.{Emitted, Destination, AsResult, due, delivered}
use Rattle.c_lower_scheme.specs.Statements.{unless, effect, while_by, for_tested, for_of, lower, lower_row, when, going, going_alone, if_by}
use Rattle.c_lower_scheme.specs.Spelling.{spelled, spelled_all}
use Rattle.c_lower_scheme.specs.Programs.{first_temporary, way_in, way_out, body_of, function_of, lower_all}
use Rattle.c_lower_calm.specs.Claim.{SpellsCalm, simple, simple_of, IsPlainOne, Returns, Stores, HaveItems, Ended, Next, PlainStatementsAreOneTree}
use Rattle.c_lower_calm.proofs.Plain.{plain_is_one_tree}

spelled_joined : (x y : List Item) (z : List TreeItem) → spelled_all (x ++ y) ++ z ≡ spelled_all x ++ (spelled_all y ++ z)
spelled_joined [] y z = refl
spelled_joined (i ∷ x) y z = ap (λ (w : List TreeItem). spelled i ∷ w) (spelled_joined x y z)

-- never one root
abbrev IsNever : AnAction → Type 0
IsNever (DeclareOf ds) = Unit {0}
IsNever (BlockOf row) = ⊥
IsNever (EvaluateOf e) = ⊥
IsNever BreakOf = Unit {0}
IsNever ContinueOf = Unit {0}
IsNever (ReturnOf e) = ⊥
IsNever (IfOf c a) = ⊥
IsNever (IfElseOf c a b) = ⊥
IsNever (WhileOf c a) = ⊥
IsNever (DoOf a c) = ⊥
IsNever (ForOf i c e a) = ⊥

-- In a function with so many automatic locals and so many bytes of memory locals, of a program with so many functions: where it has no
-- memory locals, its result goes straight to the caller.
module _ (size count start block : ℕ) (out : Destination) (leaves : block ≡ 0 → out ≡ AsResult) where
  -- other items in front
  pub in_front : (before : List TreeItem) (acts : List AnAction) (items : List TreeItem) → HaveItems size block acts items → HaveItems size block acts (before ++ items)
  in_front before _ _ (Ended items) = Ended (before ++ items)
  in_front before _ _ (Next a acts b own behind one h) =
      subst (HaveItems size block (a ∷ acts)) (append_assoc before b (own ++ behind)) (Next a acts (before ++ b) own behind one h)

  -- the items of a list in front
  abbrev Onto : List Item → List AnAction → List AnAction → Type 0
  Onto items own acts = (behind : List TreeItem) → HaveItems size block acts behind → HaveItems size block (own ++ acts) (spelled_all items ++ behind)

  -- items that are no statement's
  others : (items : List Item) (acts : List AnAction) → Onto items [] acts
  others items acts behind h = in_front (spelled_all items) acts behind h

  -- items of some statements, and then of others
  joined : (x y : List Item) (own rest acts : List AnAction) → Onto x own (rest ++ acts) → Onto y rest acts → Onto (x ++ y) (own ++ rest) acts
  joined x y own rest acts f g behind h =
      subst (λ (z : List TreeItem). HaveItems size block ((own ++ rest) ++ acts) z) (sym (spelled_joined x y behind))
      (subst (λ (z : List AnAction). HaveItems size block z (spelled_all x ++ (spelled_all y ++ behind))) (sym (append_assoc own rest acts))
      (f (spelled_all y ++ behind) (g behind h)))

  -- where only the second, or only the first, are a statement's
  second : (x y : List Item) (own acts : List AnAction) → Onto y own acts → Onto (x ++ y) own acts
  second x y own acts g = joined x y [] own acts (others x (own ++ acts)) g

  first : (x y : List Item) (own acts : List AnAction) → Onto x own acts → Onto (x ++ y) own acts
  first x y own acts f behind h =
      subst (HaveItems size block (own ++ acts)) (sym (spelled_joined x y behind)) (f (spelled_all y ++ behind) (in_front (spelled_all y) acts behind h))

  -- one statement's
  own_items : (a : AnAction) (acts : List AnAction) (items : List Item) → ((i : Item) → IsPlainOne size block a i → SpellsCalm i → spelled_all items ≡ spelled i ∷ []) →
      Onto items (a ∷ []) acts
  own_items a acts items one behind h = Next a acts [] (spelled_all items) behind one h

  -- the items of a `for` behind its first part
  abbrev for_items : Option AnExpression → Option AnExpression → AnAction → ℕ → List Item
  for_items c e a m = (for_of size count start out m c e (lower size count start out a NoActions (suc (suc m)) (suc m))).items

  return_one : (e : Option AnExpression) (rest : SomeActions) (lb lc l : ℕ) (i : Item) → IsPlainOne size block (ReturnOf e) i → SpellsCalm i →
      spelled_all (lower size count start out (ReturnOf e) rest lb lc l).items ≡ spelled i ∷ []
  return_one _ rest lb lc l _ (Returns e alone plain) calm =
      ap (λ (o : Destination). spelled_all (lower size count start o (ReturnOf (Some e)) rest lb lc l).items) (leaves alone)
      ∙ ap (λ (p : Emitted). spelled_all p.items) (plain_is_one_tree.returns size count start lb lc l rest e plain calm)

  evaluate_one : (e : AnExpression) (rest : SomeActions) (lb lc l : ℕ) (i : Item) → IsPlainOne size block (EvaluateOf e) i → SpellsCalm i →
      spelled_all (lower size count start out (EvaluateOf e) rest lb lc l).items ≡ spelled i ∷ []
  evaluate_one _ rest lb lc l _ (Stores p e place plain) calm =
      ap (λ (q : Emitted). spelled_all q.items) (plain_is_one_tree.stores size count start out lb lc l rest p e place plain calm)

  never_one : (a : AnAction) → IsNever a → (items : List Item) (i : Item) → IsPlainOne size block a i → SpellsCalm i → spelled_all items ≡ spelled i ∷ []
  never_one _ never items _ (Returns e alone plain) calm = absurd never
  never_one _ never items _ (Stores p e place plain) calm = absurd never

  -- a `break` or `continue` whose test goes there has no item of its own
  mutual
    away_stands : (a : AnAction) (lb lc to : ℕ) (items : List Item) (acts : List AnAction) → going a lb lc ≡ Some to → Onto items (simple a) acts
    away_stands BreakOf lb lc to items acts e behind h = in_front (spelled_all items) (BreakOf ∷ acts) behind (Next BreakOf acts [] [] behind (never_one BreakOf tt []) h)
    away_stands ContinueOf lb lc to items acts e behind h =
        in_front (spelled_all items) (ContinueOf ∷ acts) behind (Next ContinueOf acts [] [] behind (never_one ContinueOf tt []) h)
    away_stands (BlockOf row) lb lc to items acts e behind h = alone_away row lb lc to items acts e behind h
    away_stands _ lb lc to items acts e behind h = absurd (cc)

    alone_away : (row : SomeActions) (lb lc to : ℕ) (items : List Item) (acts : List AnAction) → going_alone row lb lc ≡ Some to → Onto items (simple_of row) acts
    alone_away NoActions lb lc to items acts e behind h = absurd (cc)
    alone_away (MoreActions a NoActions) lb lc to items acts e behind h =
        subst (λ (z : List AnAction). HaveItems size block z (spelled_all items ++ behind)) (sym (append_assoc (simple a) [] acts)) (away_stands a lb lc to items acts e behind h)
    alone_away (MoreActions a (MoreActions b row)) lb lc to items acts e behind h = absurd (cc)

  if_stands : (o : Option ℕ) (c : AnExpression) (a : AnAction) (lb lc l : ℕ) (acts : List AnAction) → going a lb lc ≡ o →
      ((k : ℕ) → Onto (lower size count start out a NoActions lb lc k).items (simple a) acts)
      → Onto (if_by size count start out o c (lower size count start out a NoActions lb lc) l).items (simple a) acts
  if_stands (Some to) c a lb lc l acts e body = away_stands a lb lc to (when size count start out c to l).items acts e
  if_stands None c a lb lc l acts e body =
      let p = unless size count start out c l (suc l) in
      second p.items _ (simple a) acts (first (lower size count start out a NoActions lb lc p.labels).items _ (simple a) acts (body p.labels))

  -- a `while` by its body's items
  while_stands : (o : Option ℕ) (c : AnExpression) (a : AnAction) (l : ℕ) (acts : List AnAction) →
      ((lb lc k : ℕ) → Onto (lower size count start out a NoActions lb lc k).items (simple a) acts)
      → Onto (while_by size count start out o c (lower size count start out a NoActions) l).items (simple a) acts
  while_stands (Some v) c a l acts body =
      let p = unless size count start out c (suc l) (suc (suc l)) in
      second (Label l ∷ []) _ (simple a) acts
      (second p.items _ (simple a) acts (first (lower size count start out a NoActions (suc l) l p.labels).items _ (simple a) acts (body (suc l) l p.labels)))
  while_stands None c a l acts body =
      second (Jump (suc l) ∷ Label l ∷ []) _ (simple a) acts
      (first (lower size count start out a NoActions (suc (suc l)) (suc l) (suc (suc (suc l)))).items _ (simple a) acts (body (suc (suc l)) (suc l) (suc (suc (suc l)))))

  -- a `for` behind its first part, by its body's items
  tested_stands : (o : Option ℕ) (c : AnExpression) (e : Option AnExpression) (a : AnAction) (m : ℕ) (acts : List AnAction) →
      ((l : ℕ) → Onto (lower size count start out a NoActions (suc (suc m)) (suc m) l).items (simple a) acts) →
      Onto (for_tested size count start out o m c e (lower size count start out a NoActions (suc (suc m)) (suc m))).items (simple a) acts
  tested_stands (Some v) c e a m acts body =
      let p = unless size count start out c (suc (suc m)) (suc (suc (suc m))) in
      second (Label m ∷ []) _ (simple a) acts
      (second p.items _ (simple a) acts (first (lower size count start out a NoActions (suc (suc m)) (suc m) p.labels).items _ (simple a) acts (body p.labels)))
  tested_stands None c e a m acts body =
      second (Jump (suc (suc (suc m))) ∷ Label m ∷ []) _ (simple a) acts
      (first (lower size count start out a NoActions (suc (suc m)) (suc m) (suc (suc (suc (suc m))))).items _ (simple a) acts (body (suc (suc (suc (suc m))))))

  for_stands : (c e : Option AnExpression) (a : AnAction) (m : ℕ) (acts : List AnAction) →
      ((l : ℕ) → Onto (lower size count start out a NoActions (suc (suc m)) (suc m) l).items (simple a) acts) → Onto (for_items c e a m) (simple a) acts
  for_stands None e a m acts body =
      second (Jump m ∷ Label m ∷ []) _ (simple a) acts
      (first (lower size count start out a NoActions (suc (suc m)) (suc m) (suc (suc (suc m)))).items _ (simple a) acts (body (suc (suc (suc m)))))
  for_stands (Some c) e a m acts body = tested_stands (constant_of c) c e a m acts body

  mutual
    act_stands : (a : AnAction) (rest : SomeActions) (lb lc l : ℕ) (acts : List AnAction) → Onto (lower size count start out a rest lb lc l).items (simple a) acts
    act_stands (DeclareOf ds) rest lb lc l acts =
        own_items (DeclareOf ds) acts (lower size count start out (DeclareOf ds) rest lb lc l).items
        (never_one (DeclareOf ds) tt (lower size count start out (DeclareOf ds) rest lb lc l).items)
    act_stands (BlockOf row) rest lb lc l acts = row_stands row lb lc l acts
    act_stands (EvaluateOf e) rest lb lc l acts = own_items (EvaluateOf e) acts (lower size count start out (EvaluateOf e) rest lb lc l).items (evaluate_one e rest lb lc l)
    act_stands BreakOf rest lb lc l acts =
        own_items BreakOf acts (lower size count start out BreakOf rest lb lc l).items (never_one BreakOf tt (lower size count start out BreakOf rest lb lc l).items)
    act_stands ContinueOf rest lb lc l acts =
        own_items ContinueOf acts (lower size count start out ContinueOf rest lb lc l).items (never_one ContinueOf tt (lower size count start out ContinueOf rest lb lc l).items)
    act_stands (ReturnOf e) rest lb lc l acts = own_items (ReturnOf e) acts (lower size count start out (ReturnOf e) rest lb lc l).items (return_one e rest lb lc l)
    act_stands (IfOf c a) rest lb lc l acts = if_stands (going a lb lc) c a lb lc l acts refl (λ k. act_stands a NoActions lb lc k acts)
    act_stands (IfElseOf c a b) rest lb lc l acts =
        let p = unless size count start out c l (suc (suc l)) in
        let x = lower size count start out a NoActions lb lc p.labels in
        let y = lower size count start out b NoActions lb lc x.labels in
        second p.items _ (simple a ++ simple b) acts
        (joined x.items _ (simple a) (simple b) acts (act_stands a NoActions lb lc p.labels (simple b ++ acts))
        (second (Jump (suc l) ∷ Label l ∷ []) _ (simple b) acts (first y.items _ (simple b) acts (act_stands b NoActions lb lc x.labels acts))))
    act_stands (WhileOf c a) rest lb lc l acts = while_stands (constant_of c) c a l acts (λ x y k. act_stands a NoActions x y k acts)
    act_stands (DoOf a c) rest lb lc l acts =
        let x = lower size count start out a NoActions (suc (suc l)) (suc l) (suc (suc (suc l))) in
        second (Jump l ∷ Label l ∷ []) _ (simple a) acts
        (first x.items _ (simple a) acts (act_stands a NoActions (suc (suc l)) (suc l) (suc (suc (suc l))) acts))
    act_stands (ForOf i c e a) rest lb lc l acts =
        let m = (effect size count start out i l).labels in
        second (effect size count start out i l).items _ (simple a) acts (for_stands c e a m acts (λ k. act_stands a NoActions (suc (suc m)) (suc m) k acts))

    row_stands : (row : SomeActions) (lb lc l : ℕ) (acts : List AnAction) → Onto (lower_row size count start out row lb lc l).items (simple_of row) acts
    row_stands NoActions lb lc l acts = others [] acts
    row_stands (MoreActions a row) lb lc l acts =
        let x = lower size count start out a row lb lc l in
        joined x.items _ (simple a) (simple_of row) acts (act_stands a row lb lc l (simple_of row ++ acts)) (row_stands row lb lc x.labels acts)

function_stands : (pointer count l : ℕ) (g : ARoutine)
    → HaveItems (length g.locals) g.block (simple_of g.body) (function_of g (body_of pointer count g l)).items
function_stands pointer count l g =
    let size : ℕ = length g.locals in
    let start : ℕ = first_temporary size g.block in
    let out : Destination = way_out pointer size g.block in
    let leaves : g.block ≡ 0 → out ≡ AsResult = λ e. ap (way_out pointer size) e in
    let w = way_in size start pointer g.block l in
    let p = lower_row size count start out g.body 0 0 w.labels in
    let end = delivered out (due (Num 0) start p.labels) in
    let is : List Item = w.items ++ (p.items ++ end.items) in
    let row = row_stands size count start g.block out leaves g.body 0 0 w.labels [] in
    let body = first size count start g.block out leaves p.items end.items (simple_of g.body) [] row in
    let all = second size count start g.block out leaves w.items (p.items ++ end.items) (simple_of g.body) [] body [] (Ended []) in
    subst (λ (z : List AnAction). HaveItems size g.block z (spelled_all is)) (append-nil (simple_of g.body))
    (subst (HaveItems size g.block (simple_of g.body ++ [])) (append-nil (spelled_all is)) all)

all_stand : (pointer count : ℕ) (gs : List ARoutine) (l n : ℕ) (g : ARoutine) (f : TreeFn)
    → slice_get gs n ≡ Some g → slice_get (lower_all pointer count gs l) n ≡ Some f → HaveItems (length g.locals) g.block (simple_of g.body) f.items
all_stand pointer count [] l n g f here there = absurd (cc)
all_stand pointer count (x ∷ gs) l zero g f here there =
    let same : x ≡ g = cc in
    let made : function_of x (body_of pointer count x l) ≡ f = cc in
    let is : function_of g (body_of pointer count g l) ≡ f = subst (λ (y : ARoutine). function_of y (body_of pointer count y l) ≡ f) same made in
    subst (λ (y : TreeFn). HaveItems (length g.locals) g.block (simple_of g.body) y.items) is (function_stands pointer count l g)
all_stand pointer count (x ∷ gs) l (suc n) g f here there = all_stand pointer count gs (body_of pointer count x l).labels n g f here there

pub plain_statements_are_one_tree : PlainStatementsAreOneTree
plain_statements_are_one_tree p n g f here there = all_stand (length p.objects - 2) (length p.routines) p.routines 0 n g f here there

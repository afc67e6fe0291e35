-- Each function is laid out by its statements.
use Rattle.std.proofs.Common.{◌≡◌, ℕ, zero, suc, List, [], ◌∷◌, length, Option, Some, None, true, false, refl, ap, subst, ◌∙◌}
use Rattle.std.specs.Prelude.{◌-◌, slice_get}
use Rattle.tree_core.specs.declared.program.TreeFn.{TreeFn}
use Rattle.c_types.specs.Constants.{constant_of}
use Rattle.c_types.specs.Typed.{AnExpression}
use Rattle.c_program.specs.Statements.{AnAction, SomeActions, NoActions, MoreActions, DeclareOf, BlockOf, EvaluateOf}
use Rattle.c_program.specs.Statements.{BreakOf, ContinueOf, ReturnOf, IfOf, IfElseOf, WhileOf, DoOf, ForOf}
use Rattle.c_program.specs.Programs.{ARoutine}
use Rattle.c_lower_scheme.specs.Trees.{Item}
use Rattle.c_lower_scheme.specs.Parts.{Emitted, Destination, AsResult}
use Rattle.c_lower_scheme.specs.Statements.{unless, when, effect, going, if_by, while_by, for_tested, for_of, lower, lower_row}
use Rattle.c_lower_scheme.specs.Programs.{way_in, way_out, body_of, function_of, lower_all}
use Rattle.c_lower_calm.specs.Claim.{SpellsCalm, IsPlainOne, Returns, Stores}
use Rattle.c_lower_calm.proofs.Plain.{plain_is_one_tree}
use Rattle.c_lower_laid.specs.Laid.{IsTest, IsEffect, Lies, single, breaks, continues, block, if_away, if_alone, if_else, while_loop, while_constant}
use Rattle.c_lower_laid.specs.Laid.{do_while, for_loop, loop, turns, constant, ever, LiesRound, LieInTurn, none, next, first_of, out_of, IsLaid, EachFunctionIsLaid}

module _ (size count first bytes : ℕ) (out : Destination) (leaves : bytes ≡ 0 → out ≡ AsResult) where
  unless_tests : (c : AnExpression) (to l : ℕ) → IsTest size count first bytes out c (unless size count first out c to l).items
  unless_tests c to l = record { sense = false; to = to; from = l; is = refl }

  when_tests : (c : AnExpression) (to l : ℕ) → IsTest size count first bytes out c (when size count first out c to l).items
  when_tests c to l = record { sense = true; to = to; from = l; is = refl }

  has_effect : (e : Option AnExpression) (l : ℕ) → IsEffect size count first bytes out e (effect size count first out e l).items
  has_effect e l = record { from = l; is = refl }

  -- a plain statement
  returned_one : (e : Option AnExpression) (rest : SomeActions) (lb lc l : ℕ) (i : Item) → IsPlainOne size bytes (ReturnOf e) i → SpellsCalm i
      → (lower size count first out (ReturnOf e) rest lb lc l).items ≡ i ∷ []
  returned_one _ rest lb lc l _ (Returns e alone plain) calm =
      ap (λ (o : Destination). (lower size count first o (ReturnOf (Some e)) rest lb lc l).items) (leaves alone)
      ∙ ap (λ (p : Emitted). p.items) (plain_is_one_tree.returns size count first lb lc l rest e plain calm)

  evaluated_one : (e : AnExpression) (rest : SomeActions) (lb lc l : ℕ) (i : Item) → IsPlainOne size bytes (EvaluateOf e) i → SpellsCalm i
      → (lower size count first out (EvaluateOf e) rest lb lc l).items ≡ i ∷ []
  evaluated_one _ rest lb lc l _ (Stores p e place plain) calm =
      ap (λ (q : Emitted). q.items) (plain_is_one_tree.stores size count first out lb lc l rest p e place plain calm)

  declared_one : (a : AnAction) (ds : _) → a ≡ DeclareOf ds → (items : List Item) (i : Item) → IsPlainOne size bytes a i → SpellsCalm i → items ≡ i ∷ []
  declared_one _ ds is items _ (Returns e alone plain) calm = absurd (cc)
  declared_one _ ds is items _ (Stores p e place plain) calm = absurd (cc)

  -- a body, wherever its `break` and `continue` go
  abbrev Body : AnAction → Type 0
  Body a = (lb lc l : ℕ) → Lies size count first bytes out a (lower size count first out a NoActions lb lc l).items

  if_lies : (o : Option ℕ) (c : AnExpression) (a : AnAction) (lb lc l : ℕ) → going a lb lc ≡ o → Body a
      → Lies size count first bytes out (IfOf c a) (if_by size count first out o c (lower size count first out a NoActions lb lc) l).items
  if_lies (Some to) c a lb lc l e body =
      if_away c a (when size count first out c to l).items (record { break_label = lb; continue_label = lc; to = to; goes = e }) (when_tests c to l)
  if_lies None c a lb lc l e body =
      let p = unless size count first out c l (suc l) in
      if_alone c a p.items (lower size count first out a NoActions lb lc p.labels).items l (unless_tests c l (suc l)) (body lb lc p.labels)

  while_lies : (o : Option ℕ) (c : AnExpression) (a : AnAction) (l : ℕ) → Body a
      → Lies size count first bytes out (WhileOf c a) (while_by size count first out o c (lower size count first out a NoActions) l).items
  while_lies (Some v) c a l body =
      let p = unless size count first out c (suc l) (suc (suc l)) in
      while_constant c a p.items (lower size count first out a NoActions (suc l) l p.labels).items l (suc l) (unless_tests c (suc l) (suc (suc l))) (body (suc l) l p.labels)
  while_lies None c a l body =
      let b = lower size count first out a NoActions (suc (suc l)) (suc l) (suc (suc (suc l))) in
      while_loop c a _
      (loop c a b.items (when size count first out c l b.labels).items (suc l) l (suc l) (suc (suc l)) (body (suc (suc l)) (suc l) (suc (suc (suc l)))) (when_tests c l b.labels))

  tested_lies : (o : Option ℕ) (m : ℕ) (c : AnExpression) (e : Option AnExpression) (a : AnAction) → Body a
      → LiesRound size count first bytes out (Some c) e a (for_tested size count first out o m c e (lower size count first out a NoActions (suc (suc m)) (suc m))).items
  tested_lies (Some v) m c e a body =
      let p = unless size count first out c (suc (suc m)) (suc (suc (suc m))) in
      let b = lower size count first out a NoActions (suc (suc m)) (suc m) p.labels in
      constant c e a p.items b.items (effect size count first out e b.labels).items m (suc m) (suc (suc m)) (unless_tests c (suc (suc m)) (suc (suc (suc m))))
      (body (suc (suc m)) (suc m) p.labels) (has_effect e b.labels)
  tested_lies None m c e a body =
      let b = lower size count first out a NoActions (suc (suc m)) (suc m) (suc (suc (suc (suc m)))) in
      let s = effect size count first out e b.labels in
      turns c e a b.items s.items (when size count first out c m s.labels).items m (suc m) (suc (suc (suc m))) (suc (suc m))
      (body (suc (suc m)) (suc m) (suc (suc (suc (suc m))))) (has_effect e b.labels) (when_tests c m s.labels)

  round_lies : (m : ℕ) (c e : Option AnExpression) (a : AnAction) → Body a
      → LiesRound size count first bytes out c e a (for_of size count first out m c e (lower size count first out a NoActions (suc (suc m)) (suc m))).items
  round_lies m None e a body =
      let b = lower size count first out a NoActions (suc (suc m)) (suc m) (suc (suc (suc m))) in
      ever e a b.items (effect size count first out e b.labels).items m (suc m) (suc (suc m)) (body (suc (suc m)) (suc m) (suc (suc (suc m)))) (has_effect e b.labels)
  round_lies m (Some c) e a body = tested_lies (constant_of c) m c e a body

  mutual
    lies : (a : AnAction) (rest : SomeActions) (lb lc l : ℕ) → Lies size count first bytes out a (lower size count first out a rest lb lc l).items
    lies (DeclareOf ds) rest lb lc l = single (DeclareOf ds) _ tt (declared_one (DeclareOf ds) ds refl _)
    lies (BlockOf row) rest lb lc l = block row _ (in_turn row lb lc l)
    lies (EvaluateOf e) rest lb lc l = single (EvaluateOf e) _ tt (evaluated_one e rest lb lc l)
    lies BreakOf rest lb lc l = breaks lb
    lies ContinueOf rest lb lc l = continues lc
    lies (ReturnOf e) rest lb lc l = single (ReturnOf e) _ tt (returned_one e rest lb lc l)
    lies (IfOf c a) rest lb lc l = if_lies (going a lb lc) c a lb lc l refl (λ x y k. lies a NoActions x y k)
    lies (IfElseOf c a b) rest lb lc l =
        let p = unless size count first out c l (suc (suc l)) in
        let q = lower size count first out a NoActions lb lc p.labels in
        if_else c a b p.items q.items (lower size count first out b NoActions lb lc q.labels).items l (suc l) (unless_tests c l (suc (suc l))) (lies a NoActions lb lc p.labels)
        (lies b NoActions lb lc q.labels)
    lies (WhileOf c a) rest lb lc l = while_lies (constant_of c) c a l (λ x y k. lies a NoActions x y k)
    lies (DoOf a c) rest lb lc l =
        let b = lower size count first out a NoActions (suc (suc l)) (suc l) (suc (suc (suc l))) in
        do_while a c _
        (loop c a b.items (when size count first out c l b.labels).items l l (suc l) (suc (suc l)) (lies a NoActions (suc (suc l)) (suc l) (suc (suc (suc l)))) (when_tests c l b.labels))
    lies (ForOf i c e a) rest lb lc l =
        let p = effect size count first out i l in
        for_loop i c e a p.items _ (has_effect i l) (round_lies p.labels c e a (λ x y k. lies a NoActions x y k))

    in_turn : (row : SomeActions) (lb lc l : ℕ) → LieInTurn size count first bytes out row (lower_row size count first out row lb lc l).items
    in_turn NoActions lb lc l = none
    in_turn (MoreActions a row) lb lc l =
        let p = lower size count first out a row lb lc l in
        next a row p.items (lower_row size count first out row lb lc p.labels).items (lies a row lb lc l) (in_turn row lb lc p.labels)

function_is_laid : (pointer count l : ℕ) (g : ARoutine) → IsLaid pointer count g (function_of g (body_of pointer count g l))
function_is_laid pointer count l g =
    let size : ℕ = length g.locals in
    let first : ℕ = first_of g in
    let out : Destination = out_of pointer g in
    let w = way_in size first pointer g.block l in
    let p = lower_row size count first out g.body 0 0 w.labels in
    record {
      begin = l;
      end = p.labels;
      body = p.items;
      lies = in_turn size count first g.block out (λ e. ap (way_out pointer size) e) g.body 0 0 w.labels;
      items = refl;
    }

all_laid : (pointer count : ℕ) (gs : List ARoutine) (l n : ℕ) (g : ARoutine) (f : TreeFn)
    → slice_get gs n ≡ Some g → slice_get (lower_all pointer count gs l) n ≡ Some f → IsLaid pointer count g f
all_laid pointer count [] l n g f e h = absurd (cc)
all_laid pointer count (k ∷ gs) l zero g f e h =
    let same : k ≡ g = cc in
    let made : function_of k (body_of pointer count k l) ≡ f = cc in
    let is : function_of g (body_of pointer count g l) ≡ f = subst (λ (x : ARoutine). function_of x (body_of pointer count x l) ≡ f) same made in
    subst (IsLaid pointer count g) is (function_is_laid pointer count l g)
all_laid pointer count (k ∷ gs) l (suc n) g f e h = all_laid pointer count gs (body_of pointer count k l).labels n g f e h

pub each_function_is_laid : EachFunctionIsLaid
each_function_is_laid p n g f e h = all_laid (length p.objects - 2) (length p.routines) p.routines 0 n g f e h

-- A fault depends on the tokens up to its own alone, and a limit only brings faults of level.
use Rattle.std.proofs.Common.{◌≡◌, ◌⊎◌, ℕ, suc, ◌+◌, ◌≤◌, List, [], ◌∷◌, ◌++◌, length, refl, sym, ap, subst, ◌∙◌, arith, inl, inr}
use Rattle.std.specs.Prelude.{Option, Some, None, Result, Ok, Err, if◌then◌else◌, Bool, true, false}
use Rattle.gg_base.proofs.Facts.{ok_same}
use Rattle.c_syntax_goals.specs.declared.fault.Fault.{Fault}
use Rattle.c_syntax_goals.specs.declared.fault.Fault.TheVariants.{NoMemory, NotHere, TooDeep}
use Rattle.c_phrases.specs.Classes.{Placed, class_of}
use Rattle.c_phrases.specs.Phrases.{AnExp, name, number, str, paren, call, index, step_after, step_before, prefix}
use Rattle.c_phrases.specs.Phrases.{sizeof_exp, sizeof_type, cast, binary, choice, assign, comma, SomeExps, no_exps}
use Rattle.c_phrases.specs.Phrases.{exps}
use Rattle.c_phrases.specs.Levels.{LowExp, LowExps, free, limit}
use Rattle.c_phrases.specs.Units.{ALength, AnInit, value, elements, AnInitialised, ADeclarator, AStatement}
use Rattle.c_phrases.specs.Units.{block, empty, expression, break_off, continue_on, give_back, if_then, if_else}
use Rattle.c_phrases.specs.Units.{while_loop, do_loop, for_loop, SomeItems, no_items, local_item, statement_item}
use Rattle.c_phrases.specs.Units.{AParam, SomeParams, no_params, void_word, params, ADeclared, function, globals}
use Rattle.c_phrases.specs.Units.{AnExternal, AUnit}
use Rattle.c_phrases.specs.UnitSpelling.{unit_tokens}
use Rattle.c_phrases.specs.Fits.{ExternalsFit}
use Rattle.c_phrases.specs.UnitLevels.{LowPart, LowLength, LowInit, LowInitialised, LowDeclarators}
use Rattle.c_phrases.specs.UnitLevels.{LowCondition, LowStatement, LowItems, LowParams, LowSomeParams, LowBody}
use Rattle.c_phrases.specs.UnitLevels.{LowDeclared, LowExternals}
use Rattle.c_syntax_goals.specs.Goals.{Stack, Done, Want, Step, Takes, Opens, Finishes, Refuses, Turn}
use Rattle.c_syntax_goals.specs.Goals.{Steps, Passes, Whole}
use Rattle.c_syntax_goals.specs.Turns.{turn}
use Rattle.c_syntax_goals.specs.Machine.{Next, Goes, Ends, Deep, Stuck, closing, on, made, pick, next, run}
use Rattle.c_syntax_goals.proofs.Stating.{law_unit}

-- the number of tokens left that an answer names
abbrev pub left_of : Result AUnit Fault → ℕ
left_of (Ok u) = 0
left_of (Err NoMemory) = 0
left_of (Err (NotHere k)) = k
left_of (Err (TooDeep k)) = k

-- the answer with another number
abbrev pub moved : Result AUnit Fault → ℕ → Result AUnit Fault
moved (Ok u) j = Ok u
moved (Err NoMemory) j = Err NoMemory
moved (Err (NotHere k)) j = Err (NotHere j)
moved (Err (TooDeep k)) j = Err (TooDeep j)

pub longer : (pre w : List Placed) → length w ≤ length (pre ++ w)
longer [] w = omega arith
longer (t ∷ pre) w = omega (arith, longer pre w)

closes_none : (s : Stack) → left_of (closing s) ≡ 0
closes_none (Done u) = refl
closes_none (Want g κ) = refl

module _ (L : ℕ → Bool) where
  at_most_on : (x : Next) (ts : List Placed) → ((s : Stack) (m : ℕ) → left_of (run L s m ts) ≤ length ts) → left_of (on x ts (λ s m. run L s m ts)) ≤ suc (length ts)
  at_most_on (Goes s m) ts ih = omega (arith, ih s m)
  at_most_on Deep ts ih = omega arith
  at_most_on Stuck ts ih = omega arith
  at_most_on (Ends s) [] ih = omega (arith, closes_none s)
  at_most_on (Ends s) (t ∷ ts) ih = omega arith

  pub at_most : (s : Stack) (n : ℕ) (ts : List Placed) → left_of (run L s n ts) ≤ length ts
  at_most s n [] = omega arith
  at_most s n (t ∷ ts) = at_most_on (next L s t n) ts (λ r m. at_most r m ts)

  prefix_on : (x : Next) (post w : List Placed) → left_of (on x post (λ s m. run L s m post)) ≡ suc (length post) → ((s : Stack) (m : ℕ) → left_of (run L s m post) ≤ length post)
      → on x w (λ s m. run L s m w) ≡ moved (on x post (λ s m. run L s m post)) (suc (length w))
  prefix_on (Goes s m) post w e h = absurd (omega (arith, e, h s m))
  prefix_on Deep post w e h = refl
  prefix_on Stuck post w e h = refl
  prefix_on (Ends s) [] w e h = absurd (omega (arith, e, closes_none s))
  prefix_on (Ends s) (t ∷ post) w e h = absurd (omega (arith, e))

  prefix_step : (x : Next) (pre : List Placed) (bad : Placed) (post w : List Placed) → left_of (on x (pre ++ bad ∷ post) (λ s m. run L s m (pre ++ bad ∷ post))) ≡ suc (length post)
      → ((s : Stack) (m : ℕ) → left_of (run L s m (pre ++ bad ∷ post)) ≡ suc (length post) → run L s m (pre ++ bad ∷ w) ≡ moved (run L s m (pre ++ bad ∷ post)) (suc (length w)))
      → on x (pre ++ bad ∷ w) (λ s m. run L s m (pre ++ bad ∷ w)) ≡ moved (on x (pre ++ bad ∷ post) (λ s m. run L s m (pre ++ bad ∷ post))) (suc (length w))
  prefix_step (Goes s m) pre bad post w e ih = ih s m e
  prefix_step Deep pre bad post w e ih = absurd (omega (arith, e, longer pre (bad ∷ post)))
  prefix_step Stuck pre bad post w e ih = absurd (omega (arith, e, longer pre (bad ∷ post)))
  prefix_step (Ends s) [] bad post w e ih = refl
  prefix_step (Ends s) (p ∷ pre) bad post w e ih = absurd (omega (arith, e, longer pre (bad ∷ post)))

  -- whatever stands behind the token of a fault, the fault is there
  pub prefix_law : (pre : List Placed) (bad : Placed) (post w : List Placed) (s : Stack) (n : ℕ) → left_of (run L s n (pre ++ bad ∷ post)) ≡ suc (length post) → run L s n (pre ++ bad ∷ w)
      ≡ moved (run L s n (pre ++ bad ∷ post)) (suc (length w))
  prefix_law [] bad post w s n e = prefix_on (next L s bad n) post w e (λ r m. at_most r m post)
  prefix_law (t ∷ pre) bad post w s n e = prefix_step (next L s t n) pre bad post w e (λ r m. prefix_law pre bad post w r m)

-- without a limit each phrase is within the levels
mutual
  low_exp : (e : AnExp) (n : ℕ) → LowExp free e n
  low_exp (name x at) n = tt
  low_exp (number v at) n = tt
  low_exp (str b at) n = tt
  low_exp (paren o e) n = (refl, low_exp e _)
  low_exp (call x at o es) n = (refl, low_exps es _)
  low_exp (index e o i) n = (low_exp e n, (refl, low_exp i _))
  low_exp (step_after e op at) n = (low_exp e n, refl)
  low_exp (step_before op at e) n = (refl, low_exp e _)
  low_exp (prefix op at e) n = (refl, low_exp e _)
  low_exp (sizeof_exp at e) n = (refl, low_exp e _)
  low_exp (sizeof_type at o t) n = (refl, refl)
  low_exp (cast o t e) n = (refl, low_exp e _)
  low_exp (binary l op at r) n = (low_exp l n, (refl, low_exp r _))
  low_exp (choice d at e f) n = (low_exp d n, (refl, (low_exp e _, low_exp f _)))
  low_exp (assign p op at v) n = (low_exp p n, (refl, low_exp v _))
  low_exp (comma l r) n = (low_exp l n, (refl, low_exp r _))

  low_exps : (es : SomeExps) (n : ℕ) → LowExps free es n
  low_exps no_exps n = tt
  low_exps (exps e es) n = (low_exp e n, low_exps es n)

low_part : (e : Option AnExp) (n : ℕ) → LowPart free e n
low_part None n = tt
low_part (Some e) n = low_exp e n

low_length : (l : Option ALength) (n : ℕ) → LowLength free l n
low_length None n = tt
low_length (Some l) n = (refl, low_part l.value _)

low_init : (i : AnInit) (n : ℕ) → LowInit free i n
low_init (value e) n = low_exp e n
low_init (elements es t) n = (refl, low_exps es _)

low_initialised : (i : Option AnInitialised) (n : ℕ) → LowInitialised free i n
low_initialised None n = tt
low_initialised (Some i) n = low_init i.with_init n

low_declarators : (ds : List ADeclarator) (n : ℕ) → LowDeclarators free ds n
low_declarators [] n = tt
low_declarators (d ∷ ds) n = ((low_length d.length n, low_initialised d.init n), low_declarators ds n)

low_condition : (e : AnExp) (n : ℕ) → LowCondition free e n
low_condition e n = (refl, low_exp e _)

mutual
  low_statement : (s : AStatement) (n : ℕ) → LowStatement free s n
  low_statement (block is) n = (refl, low_items is _)
  low_statement empty n = tt
  low_statement (expression e) n = low_exp e n
  low_statement (break_off at) n = tt
  low_statement (continue_on at) n = tt
  low_statement (give_back at e) n = low_part e n
  low_statement (if_then at o e s) n = (refl, (low_condition e _, low_statement s _))
  low_statement (if_else at o e s other t) n = (refl, (low_condition e _, (low_statement s _, low_statement t _)))
  low_statement (while_loop at o e s) n = (refl, (low_condition e _, low_statement s _))
  low_statement (do_loop at s again o e) n = (refl, (low_statement s _, low_condition e _))
  low_statement (for_loop at o a b d s) n = (refl, (refl, (low_part a _, (low_part b _, (low_part d _, low_statement s _)))))

  low_items : (is : SomeItems) (n : ℕ) → LowItems free is n
  low_items no_items n = tt
  low_items (local_item l is) n = (low_declarators l.declarators n, low_items is n)
  low_items (statement_item s is) n = (low_statement s n, low_items is n)

low_params : (ps : List AParam) (n : ℕ) → LowParams free ps n
low_params [] n = tt
low_params (p ∷ ps) n = (low_length p.length n, low_params ps n)

low_some_params : (ps : SomeParams) (n : ℕ) → LowSomeParams free ps n
low_some_params no_params n = tt
low_some_params (void_word at) n = tt
low_some_params (params ps) n = low_params ps n

low_body : (b : Option SomeItems) → LowBody free b
low_body None = tt
low_body (Some is) = (refl, low_items is 1)

low_declared : (d : ADeclared) → LowDeclared free d
low_declared (function f) = (refl, (low_some_params f.params 1, low_body f.body))
low_declared (globals ds) = low_declarators ds 0

pub low_externals : (xs : List AnExternal) → LowExternals free xs
low_externals [] = tt
low_externals (x ∷ xs) = (low_declared x.declared, low_externals xs)

-- a limit only brings faults of level
same_opened : (b : Bool) (s : Stack) (m : ℕ) → ((if b then Goes s m else Deep) ≡ Deep) ⊎ ((if b then Goes s m else Deep) ≡ Goes s m)
same_opened true s m = inr refl
same_opened false s m = inl refl

same_made : (x : Step) (n : ℕ) → (made limit x n ≡ Deep) ⊎ (made limit x n ≡ made free x n)
same_made (Takes s) n = inr refl
same_made (Opens k s) n = same_opened (limit (n + k)) s (n + k)
same_made (Finishes s) n = inr refl
same_made Refuses n = inr refl

same_pick : {V : Type 0} (x : Turn V) (n : ℕ) (f g : ℕ → V → Next) → ((m : ℕ) (v : V) → (f m v ≡ Deep) ⊎ (f m v ≡ g m v)) → (pick limit x n f ≡ Deep) ⊎ (pick limit x n f ≡ pick free x n g)
same_pick (Steps x) n f g h = same_made x n
same_pick (Passes m v) n f g h = h m v

same_next : (s : Stack) (t : Placed) (n : ℕ) → (next limit s t n ≡ Deep) ⊎ (next limit s t n ≡ next free s t n)
same_next (Done u) t n = inr refl
same_next (Want g κ) t n = same_pick (turn g (class_of t.kind) t n κ) n (λ m v. next limit (κ v) t m) (λ m v. next free (κ v) t m) (λ m v. same_next (κ v) t m)

fault_of : (f g : Fault) (x y : Result AUnit Fault) → x ≡ Err f → y ≡ Err g → x ≡ y → f ≡ g
fault_of f g x y d e h = cc

deep_not_here : (j k : ℕ) → TooDeep j ≡ NotHere k → ⊥
deep_not_here j k e = absurd (cc)

no_deep_here : (ts : List Placed) (k : ℕ) (x y : Result AUnit Fault) → x ≡ Err (TooDeep (suc (length ts))) → y ≡ Err (NotHere k) → x ≡ y → ⊥
no_deep_here ts k x y d e h = deep_not_here (suc (length ts)) k (fault_of _ _ x y d e h)

free_on : (x : Next) (ts : List Placed) (k : ℕ) → on x ts (λ s m. run limit s m ts) ≡ Err (NotHere k)
    → ((s : Stack) (m : ℕ) → run limit s m ts ≡ Err (NotHere k) → run free s m ts ≡ Err (NotHere k)) → on x ts (λ s m. run free s m ts) ≡ Err (NotHere k)
free_on (Goes s m) ts k e ih = ih s m e
free_on (Ends s) ts k e ih = e
free_on Deep ts k e ih = absurd (no_deep_here ts k _ _ refl refl e)
free_on Stuck ts k e ih = e

free_of : (x y : Next) (ts : List Placed) (k : ℕ) → (x ≡ Deep) ⊎ (x ≡ y) → on x ts (λ s m. run limit s m ts) ≡ Err (NotHere k)
    → ((s : Stack) (m : ℕ) → run limit s m ts ≡ Err (NotHere k) → run free s m ts ≡ Err (NotHere k)) → on y ts (λ s m. run free s m ts) ≡ Err (NotHere k)
free_of x y ts k (inl d) e ih = absurd (no_deep_here ts k _ _ refl refl (subst (λ (z : Next). on z ts (λ s m. run limit s m ts) ≡ Err (NotHere k)) d e))
free_of x y ts k (inr d) e ih = subst (λ (z : Next). on z ts (λ s m. run free s m ts) ≡ Err (NotHere k)) d (free_on x ts k e ih)

pub free_here : (s : Stack) (n : ℕ) (ts : List Placed) (k : ℕ) → run limit s n ts ≡ Err (NotHere k) → run free s n ts ≡ Err (NotHere k)
free_here s n [] k e = e
free_here s n (t ∷ ts) k e = free_of (next limit s t n) (next free s t n) ts k (same_next s t n) e (λ r m. free_here r m ts k)

pub no_ok : (u : AUnit) (f : Fault) → Ok u ≡ Err f → ⊥
no_ok u f e = absurd (cc)

-- no unit, of any level, begins with the tokens up to the fault's own
pub no_unit_begins : (pre : List Placed) (bad : Placed) (post : List Placed) → run limit (Want Whole Done) 0 (pre ++ bad ∷ post) ≡ Err (NotHere (suc (length post)))
    → (u : AUnit) (w : List Placed) → ExternalsFit u.externals → unit_tokens u ≡ pre ++ bad ∷ w → ⊥
no_unit_begins pre bad post e u w fits text =
    let f : run free (Want Whole Done) 0 (pre ++ bad ∷ post) ≡ Err (NotHere (suc (length post))) = free_here (Want Whole Done) 0 (pre ++ bad ∷ post) (suc (length post)) e in
    let g : run free (Want Whole Done) 0 (pre ++ bad ∷ w) ≡ moved (run free (Want Whole Done) 0 (pre ++ bad ∷ post)) (suc (length w)) =
    prefix_law free pre bad post w (Want Whole Done) 0 (ap left_of f) in
    let h : run free (Want Whole Done) 0 (unit_tokens u) ≡ Ok u = law_unit free u fits (low_externals u.externals) in
    no_ok u (NotHere (suc (length w))) (sym h ∙ ap (run free (Want Whole Done) 0) text ∙ g ∙ ap (λ (x : Result AUnit Fault). moved x (suc (length w))) f)

-- each unit that begins with the tokens up to the fault's own opens a level past the limit
pub too_deep_begins : (pre : List Placed) (bad : Placed) (post : List Placed) → run limit (Want Whole Done) 0 (pre ++ bad ∷ post) ≡ Err (TooDeep (suc (length post)))
    → (u : AUnit) (w : List Placed) → ExternalsFit u.externals → LowExternals limit u.externals → unit_tokens u ≡ pre ++ bad ∷ w → ⊥
too_deep_begins pre bad post e u w fits low text =
    let g : run limit (Want Whole Done) 0 (pre ++ bad ∷ w) ≡ moved (run limit (Want Whole Done) 0 (pre ++ bad ∷ post)) (suc (length w)) =
    prefix_law limit pre bad post w (Want Whole Done) 0 (ap left_of e) in
    let h : run limit (Want Whole Done) 0 (unit_tokens u) ≡ Ok u = law_unit limit u fits low in
    no_ok u (TooDeep (suc (length w))) (sym h ∙ ap (run limit (Want Whole Done) 0) text ∙ g ∙ ap (λ (x : Result AUnit Fault). moved x (suc (length w))) e)

pub fault_within : (ts : List Placed) (f : Fault) → run limit (Want Whole Done) 0 ts ≡ Err f → left_of (Err f) ≤ length ts
fault_within ts f e = subst (λ (x : Result AUnit Fault). left_of x ≤ length ts) e (at_most limit (Want Whole Done) 0 ts)

-- a unit's tokens are read as that unit alone
pub same_unit : (ts : List Placed) (u v : AUnit) → ExternalsFit u.externals → LowExternals limit u.externals → ts ≡ unit_tokens u → ExternalsFit v.externals
    → LowExternals limit v.externals → ts ≡ unit_tokens v → u ≡ v
same_unit ts u v fu lu eu fv lv ev = ok_same u v (sym (law_unit limit u fu lu) ∙ ap (run limit (Want Whole Done) 0) (sym eu ∙ ev) ∙ law_unit limit v fv lv)

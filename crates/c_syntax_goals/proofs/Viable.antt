-- The tokens that a run has passed begin a unit, and what levels they open.
use Rattle.std.proofs.Common.{◌≡◌, ℕ, suc, ◌+◌, List, [], ◌∷◌, ◌++◌, length, refl, sym, ap, subst, arith}
use Rattle.std.specs.Prelude.{Result, Err, if◌then◌else◌, Bool, true, false}
use Rattle.c_syntax_goals.specs.declared.fault.Fault.{Fault}
use Rattle.c_syntax_goals.specs.declared.fault.Fault.TheVariants.{NotHere, TooDeep}
use Rattle.c_phrases.specs.Classes.{Placed, class_of}
use Rattle.c_phrases.specs.Levels.{free, limit}
use Rattle.c_phrases.specs.Units.{AUnit}
use Rattle.c_syntax_goals.specs.Openings.{Opening, opens}
use Rattle.c_syntax_goals.specs.UnitOpenings.{tokens_of}
use Rattle.c_syntax_goals.specs.Goals.{Stack, Done, Want, Takes, Opens, Finishes, Refuses, Turn, Steps, Passes}
use Rattle.c_syntax_goals.specs.Turns.{turn}
use Rattle.c_syntax_goals.specs.Machine.{Next, Goes, Ends, Deep, Stuck, at_end, on, pick, next, run}
use Rattle.c_syntax_goals.proofs.Yields.{Yields}
use Rattle.c_syntax_goals.proofs.Spelled.{spelled, respelled}
use Rattle.c_syntax_goals.proofs.Turning.{opened, OfTurn, turned}
use Rattle.c_syntax_goals.proofs.Completing.{complete}
use Rattle.c_syntax_goals.proofs.Prefix.{left_of, longer, at_most}

-- the token in front of this, as phrases spell it, with the level that it opens
abbrev pub mark : Stack → Placed → ℕ → Opening
mark s t n = opens (opened s (class_of t.kind) t n) (spelled (class_of t.kind) t)

goes_stack : (s r : Stack) (n m : ℕ) → Goes s n ≡ Goes r m → s ≡ r
goes_stack s r n m e = cc

goes_level : (s r : Stack) (n m : ℕ) → Goes s n ≡ Goes r m → n ≡ m
goes_level s r n m e = cc

moved_back : (s r : Stack) (n m : ℕ) (ts : List Opening) (u : AUnit) → Goes s n ≡ Goes r m → Yields r m ts u → Yields s n ts u
moved_back s r n m ts u e y = subst (λ (x : Stack). Yields x n ts u) (sym (goes_stack s r n m e)) (subst (λ (j : ℕ). Yields r j ts u) (sym (goes_level s r n m e)) y)

opened_back : (b : Bool) (s r : Stack) (n m : ℕ) (ts : List Opening) (u : AUnit) → (if b then Goes s n else Deep) ≡ Goes r m → Yields r m ts u → Yields s n ts u
opened_back true s r n m ts u e y = moved_back s r n m ts u e y
opened_back false s r n m ts u e y = absurd (cc)

pub opened_ends : (b : Bool) (s r : Stack) (n : ℕ) → (if b then Goes s n else Deep) ≡ Ends r → ⊥
opened_ends true s r n e = absurd (cc)
opened_ends false s r n e = absurd (cc)

-- a level at which the text ends
pub record EndsAt (s : Stack) (t : Placed) (n : ℕ) (r : Stack) : Type 0 where
  pub level : ℕ
  pub back : (ts : List Opening) (u : AUnit) → Yields r level ts u → Yields s n (mark s t n ∷ ts) u

record TurnEndsAt {V : Type 0} (x : Turn V) (κ : V → Stack) (t : Placed) (n : ℕ) (r : Stack) : Type 0 where
  level : ℕ
  back : (ts : List Opening) (u : AUnit) → Yields r level ts u → OfTurn x κ (class_of t.kind) t n ts u

module _ (L : ℕ → Bool) where
  turn_back : {V : Type 0} (x : Turn V) (κ : V → Stack) (t : Placed) (n : ℕ) (r : Stack) (m : ℕ) (ts : List Opening) (u : AUnit) → pick L x n (λ i v. next L (κ v) t i) ≡ Goes r m
      → Yields r m ts u → ((v : V) (i : ℕ) → next L (κ v) t i ≡ Goes r m → Yields (κ v) i (mark (κ v) t i ∷ ts) u) → OfTurn x κ (class_of t.kind) t n ts u
  turn_back (Steps (Takes s)) κ t n r m ts u e y f = moved_back s r n m ts u e y
  turn_back (Steps (Opens k s)) κ t n r m ts u e y f = opened_back (L (n + k)) s r (n + k) m ts u e y
  turn_back (Steps (Finishes s)) κ t n r m ts u e y f = absurd (cc)
  turn_back (Steps Refuses) κ t n r m ts u e y f = absurd (cc)
  turn_back (Passes i v) κ t n r m ts u e y f = f v i e

  pub step_back : (s : Stack) (t : Placed) (n : ℕ) (r : Stack) (m : ℕ) (ts : List Opening) (u : AUnit) → next L s t n ≡ Goes r m → Yields r m ts u → Yields s n (mark s t n ∷ ts) u
  step_back (Done v) t n r m ts u e y = absurd (cc)
  step_back (Want g κ) t n r m ts u e y = turned t n ts u g (class_of t.kind) refl κ (turn_back (turn g (class_of t.kind) t n κ) κ t n r m ts u e y (λ v i q. step_back (κ v) t i r m ts u q y))

  ends_same : (s r : Stack) → Ends s ≡ Ends r → r ≡ s
  ends_same s r e = cc

  turn_ends : {V : Type 0} (x : Turn V) (κ : V → Stack) (t : Placed) (n : ℕ) (r : Stack) → pick L x n (λ i v. next L (κ v) t i) ≡ Ends r
      → ((v : V) (i : ℕ) → next L (κ v) t i ≡ Ends r → EndsAt (κ v) t i r) → TurnEndsAt x κ t n r
  turn_ends (Steps (Takes s)) κ t n r e f = absurd (cc)
  turn_ends (Steps (Opens k s)) κ t n r e f = absurd (opened_ends (L (n + k)) s r (n + k) e)
  turn_ends (Steps (Finishes s)) κ t n r e f = record { level = n; back = λ ts u y. subst (λ (x : Stack). Yields x n ts u) (ends_same s r e) y }
  turn_ends (Steps Refuses) κ t n r e f = absurd (cc)
  turn_ends (Passes i v) κ t n r e f = let a = f v i e in record { level = a.level; back = λ ts u y. a.back ts u y }

  pub ends_back : (s : Stack) (t : Placed) (n : ℕ) (r : Stack) → next L s t n ≡ Ends r → EndsAt s t n r
  ends_back (Done v) t n r e = absurd (cc)
  ends_back (Want g κ) t n r e =
      let a = turn_ends (turn g (class_of t.kind) t n κ) κ t n r e (λ v i q. ends_back (κ v) t i r q) in
      record { level = a.level; back = λ ts u y. turned t n ts u g (class_of t.kind) refl κ (a.back ts u y) }

-- a unit that begins with these tokens, of what is to be read
pub record Viable (s : Stack) (n : ℕ) (pre : List Placed) : Type 0 where
  pub marks : List Opening
  pub words : List Opening
  pub unit : AUnit
  pub tokens : tokens_of marks ≡ respelled pre
  pub is : Yields s n (marks ++ words) unit

pub none_yet : (s : Stack) (n : ℕ) → Viable s n []
none_yet s n = let r = complete s n in record { marks = []; words = r.words; unit = r.unit; tokens = refl; is = r.is }

module _ (L : ℕ → Bool) where
  pub one_more : (s : Stack) (t : Placed) (n : ℕ) (r : Stack) (m : ℕ) (pre : List Placed) → next L s t n ≡ Goes r m → Viable r m pre → Viable s n (t ∷ pre)
  one_more s t n r m pre e v = record {
    marks = mark s t n ∷ v.marks;
    words = v.words;
    unit = v.unit;
    tokens = ap (λ (x : List Placed). spelled (class_of t.kind) t ∷ x) v.tokens;
    is = step_back L s t n r m (v.marks ++ v.words) v.unit e v.is;
  }

  last_one : (s : Stack) (t : Placed) (n : ℕ) (r : Stack) → next L s t n ≡ Ends r → Viable s n (t ∷ [])
  last_one s t n r e =
      let a = ends_back L s t n r e in
      let v = complete r a.level in
      record { marks = mark s t n ∷ []; words = v.words; unit = v.unit; tokens = refl; is = a.back v.words v.unit v.is }

  viable_on : (x : Next) (s : Stack) (t : Placed) (n : ℕ) (pre post : List Placed) → next L s t n ≡ x → left_of (on x (pre ++ post) (λ r m. run L r m (pre ++ post))) ≡ length post
      → ((r : Stack) (m : ℕ) → left_of (run L r m (pre ++ post)) ≡ length post → Viable r m pre) → Viable s n (t ∷ pre)
  viable_on (Goes r m) s t n pre post d e ih = one_more s t n r m pre d (ih r m e)
  viable_on (Ends r) s t n [] post d e ih = last_one s t n r d
  viable_on (Ends r) s t n (p ∷ pre) post d e ih = absurd (omega (arith, e, longer pre post))
  viable_on Deep s t n pre post d e ih = absurd (omega (arith, e, longer pre post))
  viable_on Stuck s t n pre post d e ih = absurd (omega (arith, e, longer pre post))

  -- the tokens before a fault
  pub viable : (pre post : List Placed) (s : Stack) (n : ℕ) → left_of (run L s n (pre ++ post)) ≡ length post → Viable s n pre
  viable [] post s n e = none_yet s n
  viable (t ∷ pre) post s n e = viable_on (next L s t n) s t n pre post refl e (λ r m q. viable pre post r m q)

-- a token that opens too much may stand there but for the limit
pub record Freely (s : Stack) (t : Placed) (n : ℕ) : Type 0 where
  pub behind : Stack
  pub level : ℕ
  pub goes : next free s t n ≡ Goes behind level

record TurnFreely {V : Type 0} (x : Turn V) (n : ℕ) (f : ℕ → V → Next) : Type 0 where
  behind : Stack
  level : ℕ
  goes : pick free x n f ≡ Goes behind level

turn_deep : {V : Type 0} (x : Turn V) (κ : V → Stack) (t : Placed) (n : ℕ) → pick limit x n (λ i v. next limit (κ v) t i) ≡ Deep
    → ((v : V) (i : ℕ) → next limit (κ v) t i ≡ Deep → Freely (κ v) t i) → TurnFreely x n (λ i v. next free (κ v) t i)
turn_deep (Steps (Opens k s)) κ t n e f = record { behind = s; level = n + k; goes = refl }
turn_deep (Passes i v) κ t n e f = let a = f v i e in record { behind = a.behind; level = a.level; goes = a.goes }
turn_deep _ _ t n e f = absurd (cc)

pub deep_goes : (s : Stack) (t : Placed) (n : ℕ) → next limit s t n ≡ Deep → Freely s t n
deep_goes (Done v) t n e = absurd (cc)
deep_goes (Want g κ) t n e =
    let a = turn_deep (turn g (class_of t.kind) t n κ) κ t n e (λ v i q. deep_goes (κ v) t i q) in
    record { behind = a.behind; level = a.level; goes = a.goes }

-- what goes on within the limit goes on without it
opened_freely : (b : Bool) (s r : Stack) (n m : ℕ) → (if b then Goes s n else Deep) ≡ Goes r m → Goes s n ≡ Goes r m
opened_freely true s r n m e = e
opened_freely false s r n m e = absurd (cc)

turn_goes : {V : Type 0} (x : Turn V) (n : ℕ) (r : Stack) (m : ℕ) (f g : ℕ → V → Next) → pick limit x n f ≡ Goes r m → ((i : ℕ) (v : V) → f i v ≡ Goes r m → g i v ≡ Goes r m)
    → pick free x n g ≡ Goes r m
turn_goes (Steps (Takes s)) n r m f g e h = e
turn_goes (Steps (Opens k s)) n r m f g e h = opened_freely (limit (n + k)) s r (n + k) m e
turn_goes (Steps (Finishes s)) n r m f g e h = absurd (cc)
turn_goes (Steps Refuses) n r m f g e h = absurd (cc)
turn_goes (Passes i v) n r m f g e h = h i v e

pub goes_freely : (s : Stack) (t : Placed) (n : ℕ) (r : Stack) (m : ℕ) → next limit s t n ≡ Goes r m → next free s t n ≡ Goes r m
goes_freely (Done v) t n r m e = absurd (cc)
goes_freely (Want g κ) t n r m e = turn_goes (turn g (class_of t.kind) t n κ) n r m _ _ e (λ i v q. goes_freely (κ v) t i r m q)

pub no_deep : (s : Stack) (ts : List Placed) (k : ℕ) → at_end s ts ≡ Err (TooDeep k) → ⊥
no_deep (Done u) [] k e = absurd (cc)
no_deep (Want g κ) [] k e = absurd (cc)
no_deep s (t ∷ ts) k e = absurd (cc)

pub stuck_deep : (j k : ℕ) → ◌≡◌ {A = Result AUnit Fault} (Err (NotHere j)) (Err (TooDeep k)) → ⊥
stuck_deep j k e = absurd (cc)

pub same_deep : (j k : ℕ) → ◌≡◌ {A = Result AUnit Fault} (Err (TooDeep j)) (Err (TooDeep k)) → j ≡ k
same_deep j k e = cc

pub left_deep : (x : Result AUnit Fault) (k : ℕ) → x ≡ Err (TooDeep k) → left_of x ≡ k
left_deep x k e = ap left_of e

viable_deep_on : (x : Next) (s : Stack) (n : ℕ) (bad : Placed) (post : List Placed) → next limit s bad n ≡ x → on x post (λ r m. run limit r m post) ≡ Err (TooDeep (suc (length post)))
    → Viable s n (bad ∷ [])
viable_deep_on (Goes r m) s n bad post d e = absurd (omega (arith, left_deep (run limit r m post) (suc (length post)) e, at_most limit r m post))
viable_deep_on (Ends r) s n bad post d e = absurd (no_deep r post (suc (length post)) e)
viable_deep_on Stuck s n bad post d e = absurd (stuck_deep (suc (length post)) (suc (length post)) e)
viable_deep_on Deep s n bad post d e = let a = deep_goes s bad n d in one_more free s bad n a.behind a.level [] a.goes (none_yet a.behind a.level)

viable_deep_step : (x : Next) (s : Stack) (t : Placed) (n : ℕ) (pre : List Placed) (bad : Placed) (post : List Placed) → next limit s t n ≡ x
    → on x (pre ++ bad ∷ post) (λ r m. run limit r m (pre ++ bad ∷ post)) ≡ Err (TooDeep (suc (length post)))
    → ((r : Stack) (m : ℕ) → run limit r m (pre ++ bad ∷ post) ≡ Err (TooDeep (suc (length post))) → Viable r m (pre ++ bad ∷ [])) → Viable s n (t ∷ pre ++ bad ∷ [])
viable_deep_step (Goes r m) s t n pre bad post d e ih = one_more limit s t n r m (pre ++ bad ∷ []) d (ih r m e)
viable_deep_step (Ends r) s t n pre bad post d e ih = absurd (no_deep r (pre ++ bad ∷ post) (suc (length post)) e)
viable_deep_step Stuck s t n pre bad post d e ih = absurd (stuck_deep (suc (length (pre ++ bad ∷ post))) (suc (length post)) e)
viable_deep_step Deep s t n pre bad post d e ih = absurd (omega (arith, same_deep (suc (length (pre ++ bad ∷ post))) (suc (length post)) e, longer pre (bad ∷ post)))

-- the tokens up to one that opens too much
pub viable_deep : (pre : List Placed) (bad : Placed) (post : List Placed) (s : Stack) (n : ℕ) → run limit s n (pre ++ bad ∷ post) ≡ Err (TooDeep (suc (length post))) → Viable s n (pre ++ bad ∷ [])
viable_deep [] bad post s n e = viable_deep_on (next limit s bad n) s n bad post refl e
viable_deep (t ∷ pre) bad post s n e = viable_deep_step (next limit s t n) s t n pre bad post refl e (λ r m q. viable_deep pre bad post r m q)

-- The levels that a run has passed are those of each unit that begins so.
use Rattle.std.proofs.Common.{◌≡◌, ℕ, suc, ◌+◌, List, [], ◌∷◌, ◌++◌, length, refl, sym, ap, subst, ◌∙◌, arith}
use Rattle.std.specs.Prelude.{Ok, Err, if◌then◌else◌, Bool, true, false}
use Rattle.gg_base.proofs.Facts.{err_ok, ok_same}
use Rattle.c_syntax_goals.specs.declared.fault.Fault.TheVariants.{NotHere, TooDeep}
use Rattle.c_phrases.specs.Classes.{Placed, Class, class_of}
use Rattle.c_tokens.specs.declared.token.Token.TheVariants as token
use Rattle.c_phrases.specs.Levels.{free, limit}
use Rattle.c_phrases.specs.Units.{AUnit}
use Rattle.c_syntax_goals.specs.Openings.{Opening}
use Rattle.c_syntax_goals.specs.UnitOpenings.{levelled, levelled_externals}
use Rattle.c_syntax_goals.specs.Refusals.{FirstAreLow, FirstDeepIs}
use Rattle.c_syntax_goals.specs.Goals.{Stack, Done, Want, Takes, Opens, Finishes, Refuses, Turn, Steps, Passes, Whole}
use Rattle.c_syntax_goals.specs.Turns.{turn}
use Rattle.c_syntax_goals.specs.Machine.{Next, Goes, Ends, Deep, Stuck, closing, on, pick, next, run}
use Rattle.c_syntax_goals.proofs.Yields.{Yields}
use Rattle.c_syntax_goals.proofs.Turning.{opened_turn, opened}
use Rattle.c_syntax_goals.proofs.Prefix.{left_of, longer, at_most}
use Rattle.c_syntax_goals.proofs.Viable.{mark, opened_ends, step_back, ends_back, goes_freely, no_deep, stuck_deep, same_deep, left_deep}

-- the tokens of a run without a limit, as phrases spell them, each with the level that it opens
abbrev marks_on : Next → (Stack → ℕ → List Opening) → List Opening
marks_on (Goes r m) κ = κ r m
marks_on (Ends r) κ = []
marks_on Deep κ = []
marks_on Stuck κ = []

abbrev pub marks_of : Stack → ℕ → List Placed → List Opening
marks_of s n [] = []
marks_of s n (t ∷ ts) = mark s t n ∷ marks_on (next free s t n) (λ r m. marks_of r m ts)

-- a text that is read to its end

closed : (r : Stack) (n : ℕ) (u : AUnit) → closing r ≡ Ok u → Yields r n [] u
closed (Done v) n u e = (refl, ok_same v u e)
closed (Want g κ) n u e = absurd (err_ok (NotHere 0) u e)

accepted_on : (x : Next) (s : Stack) (t : Placed) (n : ℕ) (ts : List Placed) (u : AUnit) → next free s t n ≡ x → on x ts (λ r m. run free r m ts) ≡ Ok u
    → ((r : Stack) (m : ℕ) → run free r m ts ≡ Ok u → Yields r m (marks_of r m ts) u) → Yields s n (mark s t n ∷ marks_on x (λ r m. marks_of r m ts)) u
accepted_on (Goes r m) s t n ts u d e ih = step_back free s t n r m (marks_of r m ts) u d (ih r m e)
accepted_on (Ends r) s t n [] u d e ih = let a = ends_back free s t n r d in a.back [] u (closed r a.level u e)
accepted_on (Ends r) s t n (p ∷ ts) u d e ih = absurd (err_ok (NotHere (length (p ∷ ts))) u e)
accepted_on Deep s t n ts u d e ih = absurd (err_ok (TooDeep (suc (length ts))) u e)
accepted_on Stuck s t n ts u d e ih = absurd (err_ok (NotHere (suc (length ts))) u e)

pub accepted : (ts : List Placed) (s : Stack) (n : ℕ) (u : AUnit) → run free s n ts ≡ Ok u → Yields s n (marks_of s n ts) u
accepted [] s n u e = absurd (err_ok (NotHere 0) u e)
accepted (t ∷ ts) s n u e = accepted_on (next free s t n) s t n ts u refl e (λ r m q. accepted ts r m u q)

-- a whole text's marks are those of its unit
pub whole_levels : (ts : List Opening) (u : AUnit) → Yields (Want Whole Done) 0 ts u → ts ≡ levelled u
whole_levels ts u h = h.is.0 ∙ ap (λ (x : List Opening). levelled_externals h.item.externals 0 (record { token = record { kind = token.End; at = h.item.end }; level = 0 } ∷ x)) h.onwards.0
    ∙ ap levelled h.onwards.1

-- what a token opens within the limit, and past it
low_opened : (b : Bool) (s r : Stack) (n m : ℕ) → (if b then Goes s n else Deep) ≡ Goes r m → b ≡ true
low_opened true s r n m e = refl
low_opened false s r n m e = absurd (cc)

deep_opened : (b : Bool) (s : Stack) (n : ℕ) → (if b then Goes s n else Deep) ≡ Deep → b ≡ false
deep_opened true s n e = absurd (cc)
deep_opened false s n e = refl

turn_low : {V : Type 0} (x : Turn V) (n : ℕ) (r : Stack) (m : ℕ) (f : ℕ → V → Next) (g : ℕ → V → ℕ) → pick limit x n f ≡ Goes r m
    → ((i : ℕ) (v : V) → f i v ≡ Goes r m → limit (g i v) ≡ true) → limit (opened_turn x n g) ≡ true
turn_low (Steps (Takes s)) n r m f g e h = refl
turn_low (Steps (Opens k s)) n r m f g e h = low_opened (limit (n + k)) s r (n + k) m e
turn_low (Steps (Finishes s)) n r m f g e h = absurd (cc)
turn_low (Steps Refuses) n r m f g e h = absurd (cc)
turn_low (Passes i v) n r m f g e h = h i v e

low_goes : (s : Stack) (k : Class) (t : Placed) (n : ℕ) (r : Stack) (m : ℕ) → class_of t.kind ≡ k → next limit s t n ≡ Goes r m → limit (opened s (class_of t.kind) t n) ≡ true
low_goes (Done v) k t n r m q e = absurd (cc)
low_goes (Want g κ) k t n r m q e = turn_low (turn g (class_of t.kind) t n κ) n r m _ _ e (λ i v p. low_goes (κ v) k t i r m q p)

turn_low_end : {V : Type 0} (x : Turn V) (n : ℕ) (r : Stack) (f : ℕ → V → Next) (g : ℕ → V → ℕ) → pick limit x n f ≡ Ends r → ((i : ℕ) (v : V) → f i v ≡ Ends r → limit (g i v) ≡ true)
    → limit (opened_turn x n g) ≡ true
turn_low_end (Steps (Takes s)) n r f g e h = absurd (cc)
turn_low_end (Steps (Opens k s)) n r f g e h = absurd (opened_ends (limit (n + k)) s r (n + k) e)
turn_low_end (Steps (Finishes s)) n r f g e h = refl
turn_low_end (Steps Refuses) n r f g e h = absurd (cc)
turn_low_end (Passes i v) n r f g e h = h i v e

low_end : (s : Stack) (t : Placed) (n : ℕ) (r : Stack) → next limit s t n ≡ Ends r → limit (opened s (class_of t.kind) t n) ≡ true
low_end (Done v) t n r e = absurd (cc)
low_end (Want g κ) t n r e = turn_low_end (turn g (class_of t.kind) t n κ) n r _ _ e (λ i v p. low_end (κ v) t i r p)

turn_deep_opened : {V : Type 0} (x : Turn V) (n : ℕ) (f : ℕ → V → Next) (g : ℕ → V → ℕ) → pick limit x n f ≡ Deep → ((i : ℕ) (v : V) → f i v ≡ Deep → limit (g i v) ≡ false)
    → limit (opened_turn x n g) ≡ false
turn_deep_opened (Steps (Opens k s)) n f g e h = deep_opened (limit (n + k)) s (n + k) e
turn_deep_opened (Passes i v) n f g e h = h i v e
turn_deep_opened _ n f g e h = absurd (cc)

deep_here : (s : Stack) (t : Placed) (n : ℕ) → next limit s t n ≡ Deep → limit (opened s (class_of t.kind) t n) ≡ false
deep_here (Done v) t n e = absurd (cc)
deep_here (Want g κ) t n e = turn_deep_opened (turn g (class_of t.kind) t n κ) n _ _ e (λ i v p. deep_here (κ v) t i p)

-- the tokens before a fault open no level past the limit
low_on : (x : Next) (s : Stack) (t : Placed) (n : ℕ) (pre post w : List Placed) → next limit s t n ≡ x → left_of (on x (pre ++ post) (λ r m. run limit r m (pre ++ post))) ≡ length post
    → ((r : Stack) (m : ℕ) → left_of (run limit r m (pre ++ post)) ≡ length post → FirstAreLow (length pre) (marks_of r m (pre ++ w))) → FirstAreLow (suc (length pre)) (marks_of s n (t ∷ pre ++ w))
low_on (Goes r m) s t n pre post w d e ih = (
  low_goes s (class_of t.kind) t n r m refl d,
  subst (λ (x : Next). FirstAreLow (length pre) (marks_on x (λ r m. marks_of r m (pre ++ w)))) (sym (goes_freely s t n r m d)) (ih r m e),
)
low_on (Ends r) s t n [] post w d e ih = (low_end s t n r d, tt)
low_on (Ends r) s t n (p ∷ pre) post w d e ih = absurd (omega (arith, e, longer pre post))
low_on Deep s t n pre post w d e ih = absurd (omega (arith, e, longer pre post))
low_on Stuck s t n pre post w d e ih = absurd (omega (arith, e, longer pre post))

pub low_before : (pre post w : List Placed) (s : Stack) (n : ℕ) → left_of (run limit s n (pre ++ post)) ≡ length post → FirstAreLow (length pre) (marks_of s n (pre ++ w))
low_before [] post w s n e = tt
low_before (t ∷ pre) post w s n e = low_on (next limit s t n) s t n pre post w refl e (λ r m q. low_before pre post w r m q)

-- the token of the fault is the first that does
deep_on : (x : Next) (s : Stack) (n : ℕ) (bad : Placed) (post w : List Placed) → next limit s bad n ≡ x → on x post (λ r m. run limit r m post) ≡ Err (TooDeep (suc (length post)))
    → FirstDeepIs 0 (marks_of s n (bad ∷ w))
deep_on (Goes r m) s n bad post w d e = absurd (omega (arith, left_deep (run limit r m post) (suc (length post)) e, at_most limit r m post))
deep_on (Ends r) s n bad post w d e = absurd (no_deep r post (suc (length post)) e)
deep_on Stuck s n bad post w d e = absurd (stuck_deep (suc (length post)) (suc (length post)) e)
deep_on Deep s n bad post w d e = deep_here s bad n d

deep_step : (x : Next) (s : Stack) (t : Placed) (n : ℕ) (pre : List Placed) (bad : Placed) (post w : List Placed) → next limit s t n ≡ x
    → on x (pre ++ bad ∷ post) (λ r m. run limit r m (pre ++ bad ∷ post)) ≡ Err (TooDeep (suc (length post)))
    → ((r : Stack) (m : ℕ) → run limit r m (pre ++ bad ∷ post) ≡ Err (TooDeep (suc (length post))) → FirstDeepIs (length pre) (marks_of r m (pre ++ bad ∷ w)))
    → FirstDeepIs (suc (length pre)) (marks_of s n (t ∷ pre ++ bad ∷ w))
deep_step (Goes r m) s t n pre bad post w d e ih = (
  low_goes s (class_of t.kind) t n r m refl d,
  subst (λ (x : Next). FirstDeepIs (length pre) (marks_on x (λ r m. marks_of r m (pre ++ bad ∷ w)))) (sym (goes_freely s t n r m d)) (ih r m e),
)
deep_step (Ends r) s t n pre bad post w d e ih = absurd (no_deep r (pre ++ bad ∷ post) (suc (length post)) e)
deep_step Stuck s t n pre bad post w d e ih = absurd (stuck_deep (suc (length (pre ++ bad ∷ post))) (suc (length post)) e)
deep_step Deep s t n pre bad post w d e ih = absurd (omega (arith, same_deep (suc (length (pre ++ bad ∷ post))) (suc (length post)) e, longer pre (bad ∷ post)))

pub first_deep : (pre : List Placed) (bad : Placed) (post w : List Placed) (s : Stack) (n : ℕ) → run limit s n (pre ++ bad ∷ post) ≡ Err (TooDeep (suc (length post)))
    → FirstDeepIs (length pre) (marks_of s n (pre ++ bad ∷ w))
first_deep [] bad post w s n e = deep_on (next limit s bad n) s n bad post w refl e
first_deep (t ∷ pre) bad post w s n e = deep_step (next limit s t n) s t n pre bad post w refl e (λ r m q. first_deep pre bad post w r m q)

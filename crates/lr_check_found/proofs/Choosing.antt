-- What the free choices are, as candidates.
use Rattle.std.proofs.Common.{◌≡◌, ℕ, zero, suc, ◌+◌, ◌≤◌, ◌<◌, List, [], ◌∷◌, ◌++◌, Option, Some, None, Contains, Bool, true, false, length, get_or, take, slice_get, refl, sym}
use Rattle.std.proofs.Common.{ap, ◌∙◌, subst, inl, inr, ⊎_elim, length-take, arith, true≢false}
use Rattle.std.specs.Prelude.{nat_lt, ◌==◌, if◌then◌else◌}
use Rattle.std.proofs.lemmas.Option.{slice_get_within, get_or_from_slice_get, slice_get-get_or, same_Some, none-some}
use Rattle.std.proofs.lemmas.List.{get_or-take, length-take-le}
use Rattle.std.specs.Bool.{MatchBool}
use Rattle.std.specs.List.{AllWithin, HoldsAt}
use Rattle.std.proofs.lemmas.Bool.{lt-ltb, eqb-true}
use Rattle.std.proofs.Math.Seq.{take-length}
use Rattle.md_reader.specs.declared.types.Rule.{Rule}
use Rattle.md_reader.specs.declared.types.Restriction.{Restriction}
use Rattle.lr_tables.specs.declared.types.Choice.{Choice}
use Rattle.lr_tables.specs.declared.types.Choice.TheVariants as choice
use Rattle.lr_check_sets.specs.Automaton.{Candidate, reduce, Free, CanBlock}
use Rattle.lr_check_sets.specs.Table.{production, reduced_by, candidates_of}
use Rattle.lr_check_found.specs.Choices.{seen_rule, CandidateOf, may_pass, HasFree}

asks_passes : (xs : List Restriction) → (if length xs == 0 then false else true) ≡ true → nat_lt 0 (length xs) ≡ true
asks_passes [] e = absurd (true≢false (sym e))
asks_passes (x ∷ xs) e = lt-ltb 0 (length (x ∷ xs)) (omega arith)

-- a choice no further than the n-th is the candidate
pub record FreeAt (rules : List Rule) (cs : List Choice) (n : ℕ) (c : Candidate) : Type 0 where
  pub at : ℕ
  pub one : Choice
  pub near : at ≤ n
  pub there : slice_get cs at ≡ Some one
  pub is : CandidateOf rules one c

later : (rules : List Rule) (d : Choice) (cs : List Choice) (n : ℕ) (c : Candidate) → FreeAt rules cs n c → FreeAt rules (d ∷ cs) (suc n) c
later rules d cs n c h = record { at = suc h.at; one = h.one; near = let le = h.near in omega (arith, le); there = h.there; is = h.is }

-- those before the n-th may be answered no
abbrev pub PassBelow : List Rule → List Choice → ℕ → Type 0
PassBelow rules cs n = (k : ℕ) (d : Choice) → k < n → slice_get cs k ≡ Some d → may_pass rules d ≡ true

abbrev pub StopsAt : List Rule → List Choice → ℕ → Type 0
StopsAt rules cs n = (d : Choice) → slice_get cs n ≡ Some d → may_pass rules d ≡ false

-- behind a choice that passes
behind : (rules : List Rule) (d : Choice) (cs : List Choice) (n : ℕ) (c : Candidate) → may_pass rules d ≡ true → PassBelow rules (d ∷ cs) n → StopsAt rules (d ∷ cs) n →
    ((m : ℕ) → PassBelow rules cs m → StopsAt rules cs m → FreeAt rules cs m c) → FreeAt rules (d ∷ cs) n c
behind rules d cs zero c pass below stop ih = absurd (true≢false (sym pass ∙ stop d refl))
behind rules d cs (suc m) c pass below stop ih = later rules d cs m c (ih m (λ k x lt e. below (suc k) x (omega (arith, lt)) e) (λ x e. stop x e))

free_reduce : (rules : List Rule) (n : ℕ) (cs : List Choice) (at : ℕ) (c : Candidate) (o : Option Rule) → slice_get rules n ≡ o → PassBelow rules (choice.Reduce n ∷ cs) at →
    StopsAt rules (choice.Reduce n ∷ cs) at → ((m : ℕ) → PassBelow rules cs m → StopsAt rules cs m → Free (candidates_of rules cs) c → FreeAt rules cs m c) →
    Free (reduced_by o ++ candidates_of rules cs) c → FreeAt rules (choice.Reduce n ∷ cs) at c
free_reduce rules n cs at c None e below stop ih free =
    behind rules (choice.Reduce n) cs at c (ap (λ (o : Option Rule). (seen_rule 0 o).asks) e) below stop (λ m b s. ih m b s free)
free_reduce rules n cs at c (Some r) e below stop ih free =
    ⊎_elim
    (λ h. record { at = 0; one = choice.Reduce n; near = omega arith; there = refl; is = (r, (e, h)) })
    (λ h. behind rules (choice.Reduce n) cs at c (ap (λ (o : Option Rule). (seen_rule 0 o).asks) e ∙ asks_passes r.restrictions h.0) below stop (λ m b s. ih m b s h.1))
    free

pub free_at : (rules : List Rule) (cs : List Choice) (n : ℕ) (c : Candidate) → PassBelow rules cs n → StopsAt rules cs n → Free (candidates_of rules cs) c → FreeAt rules cs n c
free_at rules [] n c below stop free = absurd free
free_at rules (choice.Shift q ∷ cs) n c below stop free = record { at = 0; one = choice.Shift q; near = omega arith; there = refl; is = free }
free_at rules (choice.Accept ∷ cs) n c below stop free = record { at = 0; one = choice.Accept; near = omega arith; there = refl; is = free }
free_at rules (choice.Reduce m ∷ cs) n c below stop free =
    free_reduce rules m cs n c (slice_get rules m) refl below stop (λ k b s f. free_at rules cs k c b s f) free

passes_ask : (xs : List Restriction) → nat_lt 0 (length xs) ≡ true → (if length xs == 0 then false else true) ≡ true
passes_ask [] e = absurd (true≢false (sym e))
passes_ask (x ∷ xs) e = by (length (x ∷ xs) == 0) refl
  where
    by : (b : Bool) → (length (x ∷ xs) == 0) ≡ b → (if b then false else true) ≡ true
    by true f = absurd (let z = eqb-true (length (x ∷ xs)) 0 f in omega (arith, z))
    by false f = refl

-- a choice before which each may be answered no is a free one
free_of : (rules : List Rule) (cs : List Choice) (k : ℕ) (d : Choice) (c : Candidate) → slice_get cs k ≡ Some d → CandidateOf rules d c →
    ((j : ℕ) (x : Choice) → j < k → slice_get cs j ≡ Some x → may_pass rules x ≡ true) → Free (candidates_of rules cs) c
free_of rules [] k d c e is pass = absurd (none-some d e)
free_of rules (choice.Shift q ∷ cs) zero d c e is pass = subst (λ x. CandidateOf rules x c) (sym (same_Some (choice.Shift q) d e)) is
free_of rules (choice.Shift q ∷ cs) (suc k) d c e is pass = absurd (true≢false (sym (pass 0 (choice.Shift q) (omega arith) refl)))
free_of rules (choice.Accept ∷ cs) zero d c e is pass = subst (λ x. CandidateOf rules x c) (sym (same_Some choice.Accept d e)) is
free_of rules (choice.Accept ∷ cs) (suc k) d c e is pass = absurd (true≢false (sym (pass 0 choice.Accept (omega arith) refl)))
free_of rules (choice.Reduce n ∷ cs) zero d c e is pass =
    let h : (r : Rule) × ((slice_get rules n ≡ Some r) × (c ≡ reduce (production r))) = subst (λ x. CandidateOf rules x c) (sym (same_Some (choice.Reduce n) d e)) is in
    subst (λ (o : Option Rule). Free (reduced_by o ++ candidates_of rules cs) c) (sym h.1.0) (inl h.1.1)
free_of rules (choice.Reduce n ∷ cs) (suc k) d c e is pass =
    by (slice_get rules n) refl (free_of rules cs k d c e is (λ j x lt f. pass (suc j) x (omega (arith, lt)) f))
  where
    by : (o : Option Rule) → slice_get rules n ≡ o → Free (candidates_of rules cs) c → Free (candidates_of rules (choice.Reduce n ∷ cs)) c
    by None f h = subst (λ (o : Option Rule). Free (reduced_by o ++ candidates_of rules cs) c) (sym f) h
    by (Some r) f h =
        let asks : nat_lt 0 (length r.restrictions) ≡ true = sym (ap (λ (o : Option Rule). (seen_rule 0 o).asks) f) ∙ pass 0 (choice.Reduce n) (omega arith) refl in
        subst (λ (o : Option Rule). Free (reduced_by o ++ candidates_of rules cs) c) (sym f) (inr (passes_ask r.restrictions asks, h))

only_free : (rules : List Rule) (cs : List Choice) (n m : ℕ) → PassBelow rules cs n → m ≤ n + 1 → (d : Choice) (c : Candidate) → Contains (take m cs) d → CandidateOf rules d c →
    Free (candidates_of rules cs) c
only_free rules cs n m below le d c h is =
    let lt = h.1 in
    let size = length-take m cs in
    let near : h.0 < m = omega (arith, lt, size) in
    let within : h.0 < length cs = omega (arith, lt, size) in
    let there : slice_get cs h.0 ≡ Some d = slice_get-get_or cs h.0 d within ∙ ap Some (sym (get_or-take m cs h.0 d near) ∙ h.2) in
    free_of rules cs h.0 d c there is (λ j x less e. below j x (omega (arith, less, near, le)) e)

-- those up to the first that doesn't pass
pub free_up_to : (rules : List Rule) (cs : List Choice) (n : ℕ) (d : Choice) → PassBelow rules cs n → n < length cs → d ≡ get_or cs n d → may_pass rules d ≡ false →
    HasFree rules cs (take (n + 1) cs)
free_up_to rules cs n d below lt is stop = record { only = λ x c h is. only_free rules cs n (n + 1) below (omega arith) x c h is; each = λ c free. found c (free_at rules cs n c below stops free) }
  where
    stops : StopsAt rules cs n
    stops x e = subst (λ y. may_pass rules y ≡ false) (is ∙ get_or_from_slice_get cs n x d e) stop

    found : (c : Candidate) → FreeAt rules cs n c → (x : Choice) × (Contains (take (n + 1) cs) x × CandidateOf rules x c)
    found c h =
        let within : h.at < length cs = slice_get_within cs h.at h.one h.there in
        let le = h.near in
        let long : length (take (n + 1) cs) ≡ n + 1 = length-take-le (n + 1) cs (omega (arith, lt)) in
        (h.one, ((h.at, omega (arith, long, le), get_or-take (n + 1) cs h.at h.one (omega (arith, le)) ∙ get_or_from_slice_get cs h.at h.one h.one h.there), h.is))

-- or all of them
pub free_all : (rules : List Rule) (cs : List Choice) (n : ℕ) → PassBelow rules cs n → length cs ≤ n → HasFree rules cs cs
free_all rules cs n below le = record {
  only = λ x c h is. only_free rules cs n (length cs) below (omega (arith, le)) x c (subst (λ l. Contains l x) (sym (take-length cs)) h) is;
  each =
      λ c free. found c (free_at rules cs (length cs) c shorter stops free);
}
  where
    shorter : PassBelow rules cs (length cs)
    shorter k x lt e = below k x (omega (arith, lt, le)) e

    stops : StopsAt rules cs (length cs)
    stops x e = absurd (let lt = slice_get_within cs (length cs) x e in omega (arith, lt))

    found : (c : Candidate) → FreeAt rules cs (length cs) c → (x : Choice) × (Contains cs x × CandidateOf rules x c)
    found c h = (h.one, ((h.at, slice_get_within cs h.at h.one h.there, get_or_from_slice_get cs h.at h.one h.one h.there), h.is))

abbrev pub Passes : List Rule → Choice → Type 0
Passes rules d = may_pass rules d ≡ true

abbrev pub Stops : List Rule → Choice → Type 0
Stops rules d = may_pass rules d ≡ false

pass_below : (rules : List Rule) (cs : List Choice) (n : ℕ) → AllWithin (Passes rules) cs 0 n → PassBelow rules cs n
pass_below rules cs n all k d lt e = subst (Passes rules) (get_or_from_slice_get cs k d d e) (all k d (omega arith) lt)

pub free_to_first : (rules : List Rule) (cs : List Choice) (n : ℕ) → (n < length cs) × HoldsAt (Stops rules) cs n × AllWithin (Passes rules) cs 0 n → HasFree rules cs (take (n + 1) cs)
free_to_first rules cs n h =
    let d : Choice = get_or cs n choice.Accept in
    free_up_to rules cs n d (pass_below rules cs n h.2) h.0 (sym (get_or_from_slice_get cs n d d (slice_get-get_or cs n choice.Accept h.0))) (h.1 choice.Accept)

pub free_where_all_pass : (rules : List Rule) (cs : List Choice) → AllWithin (Passes rules) cs 0 (length cs) → HasFree rules cs cs
free_where_all_pass rules cs all = free_all rules cs (length cs) (pass_below rules cs (length cs) all) (omega arith)

pass_reduce : (rules : List Rule) (n : ℕ) (cs : List Choice) (k : ℕ) (d : Choice) (o : Option Rule) → slice_get rules n ≡ o → CanBlock (reduced_by o ++ candidates_of rules cs) →
    ((m : ℕ) → CanBlock (candidates_of rules cs) → slice_get cs m ≡ Some d → may_pass rules d ≡ true) → slice_get (choice.Reduce n ∷ cs) k ≡ Some d → may_pass rules d ≡ true
pass_reduce rules n cs zero d None e can ih there =
    subst (λ x. may_pass rules x ≡ true) (same_Some (choice.Reduce n) d there) (ap (λ (o : Option Rule). (seen_rule 0 o).asks) e)
pass_reduce rules n cs zero d (Some r) e can ih there =
    subst (λ x. may_pass rules x ≡ true) (same_Some (choice.Reduce n) d there) (ap (λ (o : Option Rule). (seen_rule 0 o).asks) e ∙ asks_passes r.restrictions can.0)
pass_reduce rules n cs (suc k) d None e can ih there = ih k can there
pass_reduce rules n cs (suc k) d (Some r) e can ih there = ih k can.1 there

-- where nothing need be taken each choice passes
pub passes_at : (rules : List Rule) (cs : List Choice) (k : ℕ) (d : Choice) → CanBlock (candidates_of rules cs) → slice_get cs k ≡ Some d → may_pass rules d ≡ true
passes_at rules [] k d can e = absurd (none-some d e)
passes_at rules (choice.Shift q ∷ cs) k d can e = absurd can
passes_at rules (choice.Accept ∷ cs) k d can e = absurd can
passes_at rules (choice.Reduce n ∷ cs) k d can e = pass_reduce rules n cs k d (slice_get rules n) refl can (λ m c x. passes_at rules cs m d c x) e

-- where each choice passes, nothing need be taken
all_pass : (rules : List Rule) (cs : List Choice) → ((k : ℕ) (d : Choice) → slice_get cs k ≡ Some d → may_pass rules d ≡ true) → CanBlock (candidates_of rules cs)
all_pass rules [] h = tt
all_pass rules (choice.Shift q ∷ cs) h = absurd (true≢false (sym (h 0 (choice.Shift q) refl)))
all_pass rules (choice.Accept ∷ cs) h = absurd (true≢false (sym (h 0 choice.Accept refl)))
all_pass rules (choice.Reduce n ∷ cs) h = by (slice_get rules n) refl (all_pass rules cs (λ k d e. h (suc k) d e))
  where
    by : (o : Option Rule) → slice_get rules n ≡ o → CanBlock (candidates_of rules cs) → CanBlock (candidates_of rules (choice.Reduce n ∷ cs))
    by None e rest = subst (λ (o : Option Rule). CanBlock (reduced_by o ++ candidates_of rules cs)) (sym e) rest
    by (Some r) e rest =
        let asks : nat_lt 0 (length r.restrictions) ≡ true = sym (ap (λ (o : Option Rule). (seen_rule 0 o).asks) e) ∙ h 0 (choice.Reduce n) refl in
        subst (λ (o : Option Rule). CanBlock (reduced_by o ++ candidates_of rules cs)) (sym e) (passes_ask r.restrictions asks, rest)

-- as `all` tells it
abbrev pub Told : List Rule → List Choice → Bool → Type 0
Told rules cs r = MatchBool r (AllWithin (Passes rules) cs 0 (length cs)) ((k : ℕ) × (k < length cs) × HoldsAt (Stops rules) cs k)

pub told_where_blocked : (rules : List Rule) (cs : List Choice) (r : Bool) → Told rules cs r → CanBlock (candidates_of rules cs) → r ≡ true
told_where_blocked rules cs true h can = refl
told_where_blocked rules cs false h can =
    sym (h.2 choice.Accept) ∙ passes_at rules cs h.0 (get_or cs h.0 choice.Accept) can (slice_get-get_or cs h.0 choice.Accept h.1)

pub blocked_where_told : (rules : List Rule) (cs : List Choice) (r : Bool) → Told rules cs r → r ≡ true → CanBlock (candidates_of rules cs)
blocked_where_told rules cs true h e = all_pass rules cs (λ k d there. pass_below rules cs (length cs) h k d (slice_get_within cs k d there) there)
blocked_where_told rules cs false h e = absurd (true≢false (sym e))

use Rattle.std.proofs.Common.{◌≡◌, ℕ, ◌<◌, ◌≤◌, List, Option, Some, None, Bool, true, false, subst, rules, tests, arith}
use Rattle.std.specs.Prelude.{IfSome, slice_get}
use Rattle.std.specs.Option.{MatchOption}
use Rattle.std.proofs.lemmas.Iterator.{first_from_Range, serves_from_Range}
use Rattle.sel_regs.proofs.slots.lowest.Goals as goal

-- what `find` answers
abbrev AreTaken : List Bool → ℕ → ℕ → Type 0
AreTaken taken first end = (w : ℕ) → first ≤ w → w < end → slice_get taken w ≡ Some true

abbrev IsLowest : List Bool → ℕ → ℕ → Type 0
IsLowest taken first w = (first ≤ w) × (w < 1024) × (slice_get taken w ≡ Some false) × AreTaken taken first w

abbrev Answers : List Bool → ℕ → Option ℕ → Type 0
Answers taken first o = MatchOption o (AreTaken taken first 1024) (IsLowest taken first)

none_free : (taken : List Bool) (first : ℕ) (o : Option ℕ) → Answers taken first o → o ≡ None → AreTaken taken first 1024
none_free taken first o a e = subst (Answers taken first) e a

as_found : (taken : List Bool) (first : ℕ) (P : ℕ → Type 0) (o : Option ℕ) → ((w : ℕ) → IsLowest taken first w → P w) → Answers taken first o → IfSome o P
as_found taken first P None h a = tt
as_found taken first P (Some w) h a = h w a

pub find-requires : goal.find-requires
find-requires c = record { can = tt; finite = tt; callable = serves_from_Range (λ x q k. search (rules, tests)) (λ x low high y is. omega (arith, high, is)) }

pub returns-clause-none : goal.returns-clause-none
returns-clause-none c =
    none_free c.args.taken.now c.args.first c.find.result
    (first_from_Range _ _ _ c.find.result (λ w. slice_get c.args.taken.now w ≡ Some false) (λ w. slice_get c.args.taken.now w ≡ Some true) c.find.ensures.ran
    (λ w q k. search (rules, tests)) (λ w q k. search (rules, tests)))

pub returns-clause-from : goal.returns-clause-from
returns-clause-from c =
    as_found c.args.taken.now c.args.first _ c.find.result (λ w h. (h.0, h.1))
    (first_from_Range _ _ _ c.find.result (λ w. slice_get c.args.taken.now w ≡ Some false) (λ w. slice_get c.args.taken.now w ≡ Some true) c.find.ensures.ran
    (λ w q k. search (rules, tests)) (λ w q k. search (rules, tests)))

pub returns-clause-free : goal.returns-clause-free
returns-clause-free c =
    as_found c.args.taken.now c.args.first _ c.find.result (λ w h. h.2)
    (first_from_Range _ _ _ c.find.result (λ w. slice_get c.args.taken.now w ≡ Some false) (λ w. slice_get c.args.taken.now w ≡ Some true) c.find.ensures.ran
    (λ w q k. search (rules, tests)) (λ w q k. search (rules, tests)))

pub returns-clause-lowest : goal.returns-clause-lowest
returns-clause-lowest c =
    as_found c.args.taken.now c.args.first _ c.find.result (λ w h. h.3)
    (first_from_Range _ _ _ c.find.result (λ w. slice_get c.args.taken.now w ≡ Some false) (λ w. slice_get c.args.taken.now w ≡ Some true) c.find.ensures.ran
    (λ w q k. search (rules, tests)) (λ w q k. search (rules, tests)))

-- A run that another leads to the same end, counting no more, but for the zeros that its declarations set.
use Rattle.std.proofs.Common.{◌≡◌, ℕ, zero, suc, ◌+◌, ◌*◌, ◌<◌, ◌≤◌, Bool, true, false, List, [], ◌∷◌, refl, ap, arith}
use Rattle.gg_base.specs.declared.run.End.{End}
use Rattle.gg_base.specs.declared.run.End.TheVariants.{Ended, Trapped, Wild, Deep, Spent, Broken}
use Rattle.gg_base.specs.Runs.{Runs, emit, counted, stop}
use Rattle.tree_counts.specs.Counted.{with_count}
use Rattle.c_lower_counts.specs.Claim.{Within}

-- how many turns and calls are looked at; how many zeros may be set before the next one; and how many behind each
pub record Depth : Type 0 where
  pub turns : ℕ
  pub spare : ℕ
  pub each : ℕ

-- no deeper than a level, with as many zeros behind each turn or call
abbrev pub Under : Depth → Depth → Type 0
Under k level = (k.turns ≤ level.turns) × (k.each ≡ level.each)

abbrev pub at_turns : ℕ → Depth → Depth
at_turns t k = record k { turns = t }

abbrev pub deeper : Depth → Depth
deeper k = record k { turns = suc k.turns }

abbrev pub with_spare : Depth → ℕ → Depth
with_spare k s = record k { spare = s }

-- behind a turn or call that is counted
abbrev pub fuller : Depth → Depth
fuller k = record k { spare = k.spare + k.each }

-- so many may be counted where the other run counts n
abbrev pub allowed : Depth → ℕ → ℕ
allowed k n = n + k.each * n + k.spare

-- one tree more is done first, whatever it counts
abbrev pub one_tree : Runs → Runs
one_tree r zero = record { output = []; end = Spent; number = 0 }
one_tree r (suc n) = r n

-- a jump that is counted, or not, comes before a run
abbrev pub jumped : Bool → Runs → Runs
jumped b r n = with_count b (r n)

pub record Leads (k : Depth) (a b : Runs) : Type 0 where
  pub within : (n : ℕ) → n < k.turns → Within (allowed k n) (a n).end (a n).output b

within_byte : (n b : ℕ) (e : End) (o : List ℕ) (q : Runs) → Within n e o q → Within n e (b ∷ o) (emit b q)
within_byte n b (Ended s) o q h = (h.0, ap (λ l. b ∷ l) h.1, h.2, h.3)
within_byte n b Trapped o q h = (h.0, ap (λ l. b ∷ l) h.1, h.2, h.3)
within_byte n b Spent o q h = tt
within_byte n b Wild o q h = tt
within_byte n b Deep o q h = tt
within_byte n b (Broken k) o q h = tt

within_tree : (n : ℕ) (e : End) (o : List ℕ) (q : Runs) → Within n e o q → Within n e o (one_tree q)
within_tree n (Ended s) o q h = (suc h.0, h.1, h.2, h.3)
within_tree n Trapped o q h = (suc h.0, h.1, h.2, h.3)
within_tree n Spent o q h = tt
within_tree n Wild o q h = tt
within_tree n Deep o q h = tt
within_tree n (Broken k) o q h = tt

within_more : (m n : ℕ) (e : End) (o : List ℕ) (q : Runs) → m ≤ n → Within m e o q → Within n e o q
within_more m n (Ended s) o q le h = (h.0, h.1, h.2, omega (arith, h.3))
within_more m n Trapped o q le h = (h.0, h.1, h.2, omega (arith, h.3))
within_more m n Spent o q le h = tt
within_more m n Wild o q le h = tt
within_more m n Deep o q le h = tt
within_more m n (Broken k) o q le h = tt

-- what is counted once more is within one more
within_jump : (n : ℕ) (e : End) (o : List ℕ) (b : Bool) (q : Runs) → Within n e o q → Within (suc n) e o (jumped b q)
within_jump n (Ended s) o true q h = (h.0, h.1, h.2, omega (arith, h.3))
within_jump n (Ended s) o false q h = (h.0, h.1, h.2, omega (arith, h.3))
within_jump n Trapped o true q h = (h.0, h.1, h.2, omega (arith, h.3))
within_jump n Trapped o false q h = (h.0, h.1, h.2, omega (arith, h.3))
within_jump n Spent o b q h = tt
within_jump n Wild o b q h = tt
within_jump n Deep o b q h = tt
within_jump n (Broken k) o b q h = tt

pub leads_emit : (k : Depth) (b : ℕ) (r q : Runs) → Leads k r q → Leads k (emit b r) (emit b q)
leads_emit k b r q h = record { within = λ n lt. within_byte (allowed k n) b (r n).end (r n).output q (h.within n lt) }

-- a tree that is not counted
pub leads_quiet : (k : Depth) (r q : Runs) → Leads k r q → Leads k r (one_tree q)
leads_quiet k r q h = record { within = λ n lt. within_tree (allowed k n) (r n).end (r n).output q (h.within n lt) }

pub times_suc : (e n : ℕ) → e * suc n ≡ e * n + e
times_suc e n = grind arith

-- a turn or call pays for itself, and for the zeros behind it
pays : (n e s : ℕ) → suc (n + e * n + (s + e)) ≤ suc n + e * suc n + s
pays n e s = let more : e * suc n ≡ e * n + e = times_suc e n in omega arith

-- both count a moment, or the first one alone
counted_at : (k : Depth) (r q : Runs) (b : Bool) → Leads (fuller k) r q → (n : ℕ) → n < suc k.turns → Within (allowed k n) (counted r n).end (counted r n).output (one_tree (jumped b q))
counted_at k r q b h zero lt = tt
counted_at k r q b h (suc n) lt =
    within_tree (allowed k (suc n)) (r n).end (r n).output (jumped b q) (within_more (suc (allowed (fuller k) n)) (allowed k (suc n)) (r n).end (r n).output (jumped b q) (pays n k.each k.spare)
    (within_jump (allowed (fuller k) n) (r n).end (r n).output b q (h.within n (omega arith))))

pub leads_counted : (k : Depth) (r q : Runs) (b : Bool) → Leads (fuller k) r q → Leads (deeper k) (counted r) (one_tree (jumped b q))
leads_counted k r q b h = record { within = counted_at k r q b h }

-- a jump that only the second run counts
pub leads_back : (k : Depth) (s : ℕ) (r q : Runs) (b : Bool) → suc s ≤ k.spare → Leads (with_spare k s) r q → Leads k r (one_tree (jumped b q))
leads_back k s r q b le h = record {
  within = λ n lt. within_tree (allowed k n) (r n).end (r n).output (jumped b q)
      (within_more (suc (allowed (with_spare k s) n)) (allowed k n) (r n).end (r n).output (jumped b q) (omega arith)
      (within_jump (allowed (with_spare k s) n) (r n).end (r n).output b q (h.within n lt)));
}

pub leads_more : (k : Depth) (s : ℕ) (r q : Runs) → s ≤ k.spare → Leads (with_spare k s) r q → Leads k r q
leads_more k s r q le h = record { within = λ n lt. within_more (allowed (with_spare k s) n) (allowed k n) (r n).end (r n).output q (omega arith) (h.within n lt) }

pub leads_wild : (k : Depth) (q : Runs) → Leads k (stop Wild) q
leads_wild k q = record { within = λ n lt. tt }

pub leads_deep : (k : Depth) (q : Runs) → Leads k (stop Deep) q
leads_deep k q = record { within = λ n lt. tt }

pub leads_ended : (k : Depth) (s : ℕ) → Leads k (stop (Ended s)) (stop (Ended s))
leads_ended k s = record { within = λ n lt. (0, refl, refl, omega arith) }

pub leads_trapped : (k : Depth) → Leads k (stop Trapped) (stop Trapped)
leads_trapped k = record { within = λ n lt. (0, refl, refl, omega arith) }

pub leads_none : (k : Depth) (r q : Runs) → Leads (at_turns zero k) r q
leads_none k r q = record { within = λ n lt. absurd (omega arith) }

pub leads_below : (k : Depth) (r q : Runs) → Leads (deeper k) r q → Leads k r q
leads_below k r q h = record { within = λ n lt. h.within n (omega arith) }

-- a jump that is counted only where another one is
within_less : (n : ℕ) (e : End) (o : List ℕ) (q : Runs) → Within n e o (one_tree (jumped true q)) → Within n e o (one_tree (jumped false q))
within_less n (Ended s) o q h = by h.0 h.1 h.2 h.3
  where
    by : (m : ℕ) → (one_tree (jumped true q) m).output ≡ o → (one_tree (jumped true q) m).end ≡ Ended s → (one_tree (jumped true q) m).number ≤ n → Within n (Ended s) o (one_tree (jumped false q))
    by zero x y z = (zero, x, y, z)
    by (suc m) x y z = (suc m, x, y, omega (arith, z))
within_less n Trapped o q h = by h.0 h.1 h.2 h.3
  where
    by : (m : ℕ) → (one_tree (jumped true q) m).output ≡ o → (one_tree (jumped true q) m).end ≡ Trapped → (one_tree (jumped true q) m).number ≤ n → Within n Trapped o (one_tree (jumped false q))
    by zero x y z = (zero, x, y, z)
    by (suc m) x y z = (suc m, x, y, omega (arith, z))
within_less n Spent o q h = tt
within_less n Wild o q h = tt
within_less n Deep o q h = tt
within_less n (Broken k) o q h = tt

pub leads_less : (k : Depth) (r q : Runs) (b c : Bool) → (b ≡ false → c ≡ false) → Leads k r (one_tree (jumped b q)) → Leads k r (one_tree (jumped c q))
leads_less k r q true true e h = h
leads_less k r q false false e h = h
leads_less k r q true false e h = record { within = λ n lt. within_less (allowed k n) (r n).end (r n).output q (h.within n lt) }
leads_less k r q false true e h = absurd (let same : true ≡ false = e refl in cc)

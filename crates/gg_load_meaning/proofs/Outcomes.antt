-- What a run comes to, from what its parts come to.
use Rattle.std.proofs.Common.{◌≡◌, ◌<◌, ◌≤◌, ℕ, zero, suc, ◌+◌, List, [], ◌∷◌, ◌++◌, refl, sym, ap, subst, arith}
use Rattle.gg_base.specs.declared.run.End.{End}
use Rattle.gg_base.specs.declared.run.End.TheVariants.{Spent}
use Rattle.gg_base.specs.Runs.{Outcome, Runs, byte_first, emit, one_first, counted, stop}
use Rattle.gg_load_meaning.specs.Run.{ComesTo}

pub comes_same : (r q : Runs) (o : Outcome) → r ≡ q → ComesTo q o → ComesTo r o
comes_same r q o e h = subst (λ (x : Runs). ComesTo x o) (sym e) h

pub comes_stop : (e : End) → ComesTo (stop e) (record { output = []; end = e; number = 0 })
comes_stop e = record { reaches = λ n low. refl; before = λ n low. absurd (omega arith) }

pub comes_emit : (b : ℕ) (r : Runs) (o : Outcome) → ComesTo r o → ComesTo (emit b r) (byte_first b o)
comes_emit b r o h = record { reaches = λ n low. ap (byte_first b) (h.reaches n low); before = λ n low. h.before n low }

pub comes_counted : (r : Runs) (o : Outcome) → ComesTo r o → ComesTo (counted r) (one_first o)
comes_counted r o h = record { reaches = reach; before = early }
  where
    reach : (n : ℕ) → suc o.number ≤ n → counted r n ≡ one_first o
    reach zero low = absurd (omega arith)
    reach (suc n) low = ap one_first (h.reaches n (omega arith))

    early : (n : ℕ) → n < suc o.number → (counted r n).end ≡ Spent
    early zero low = refl
    early (suc n) low = h.before n (omega arith)

-- output in front of an outcome, and so many moments more
abbrev pub in_front : List ℕ → ℕ → Outcome → Outcome
in_front bs n o = record { output = bs ++ o.output; end = o.end; number = n + o.number }

pub in_front-none : (o : Outcome) → in_front [] 0 o ≡ o
in_front-none o = ap (λ (n : ℕ). record { output = o.output; end = o.end; number = n }) (let e : 0 + o.number ≡ o.number = omega arith in e)

-- one byte, one moment in front
pub in_front-byte : (b : ℕ) (bs : List ℕ) (n : ℕ) (o : Outcome) → one_first (byte_first b (in_front bs n o)) ≡ in_front (b ∷ bs) (suc n) o
in_front-byte b bs n o =
    ap (λ (m : ℕ). record { output = b ∷ (bs ++ o.output); end = o.end; number = m }) (let e : suc (n + o.number) ≡ suc n + o.number = omega arith in e)

pub in_front-one : (n : ℕ) (o : Outcome) → in_front [] n (one_first o) ≡ in_front [] (suc n) o
in_front-one n o =
    ap (λ (m : ℕ). record { output = o.output; end = o.end; number = m }) (let e : n + suc o.number ≡ suc n + o.number = omega arith in e)

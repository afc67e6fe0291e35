-- Taking an input piece by piece.
use Rattle.std.proofs.Common.{◌≡◌, ℕ, ◌≤◌, ◌+◌, List, ◌++◌, length, Option, Some, None, sym, ap, subst, ◌∙◌, append_assoc, arith, length-append}
use Rattle.cmd_session.specs.Reading.{Loses, Moves, TakesAtMost}

-- what was taken and what is moved next were taken together
pub loses_more : (n : ℕ) (old mid new : Option (List ℕ)) (had has : List ℕ) → Loses old mid had → Moves n mid new had has → Loses old new has
loses_more n None mid new had has took moved = tt
loses_more n (Some old) mid new had has took moved =
    let m : Moves n (Some took.0) new had has = subst (λ (x : Option (List ℕ)). Moves n x new had has) took.2 moved in
    let whole : old ≡ has ++ m.2.0 =
    took.1 ∙ ap (λ (x : List ℕ). had ++ x) m.2.1 ∙ sym (append_assoc had m.0 m.2.0) ∙ ap (λ (x : List ℕ). x ++ m.2.0) (sym m.1) in
    (m.2.0, whole, m.2.2)

-- a refused piece was taken behind what was taken before
pub takes_behind : (limit most : ℕ) (old mid new : Option (List ℕ)) (before at now : ℕ) (had : List ℕ) → length had + most ≤ limit → Loses old mid had
    → TakesAtMost most (record { old = mid; new = new; before = at; now = now }) → TakesAtMost limit (record { old = old; new = new; before = before; now = now })
takes_behind limit most None mid new before at now had le took t = record { taken = had; within = omega arith; loses = tt }
takes_behind limit most (Some old) mid new before at now had le took t =
    let l : Loses (Some took.0) new t.taken = subst (λ (x : Option (List ℕ)). Loses x new t.taken) took.2 t.loses in
    record {
      taken = had ++ t.taken;
      within = omega (arith, t.within, length-append had t.taken);
      loses = (l.0, took.1 ∙ ap (λ (x : List ℕ). had ++ x) l.1 ∙ sym (append_assoc had t.taken l.0), l.2);
    }

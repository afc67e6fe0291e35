-- A run that another does forwards, and that is never broken.
use Rattle.std.proofs.Common.{◌≡◌, ℕ, zero, suc, ◌<◌, ◌≤◌, [], arith}
use Rattle.gg_base.specs.declared.run.End.TheVariants.{Ended, Trapped, Wild, Deep}
use Rattle.gg_base.specs.Runs.{Runs, emit, counted, stop, OneEnd}
use Rattle.gg_base.specs.Follows.{IsBroken, Forward, Follows}
use Rattle.gg_base.proofs.Following.{forward_emit, forward_quiet, forward_counted, forward_wild, forward_deep, forward_ended, forward_trapped, follows}

pub record Leads (k : ℕ) (a b : Runs) : Type 0 where
  pub forward : Forward k a b
  pub whole : (n : ℕ) → n < k → IsBroken (a n).end → ⊥

pub leads_emit : (k b : ℕ) (r q : Runs) → Leads k r q → Leads k (emit b r) (emit b q)
leads_emit k b r q h = record { forward = forward_emit k b r q h.forward; whole = h.whole }

pub leads_quiet : (k : ℕ) (r q : Runs) → Leads k r q → Leads k r (counted q)
leads_quiet k r q h = record { forward = forward_quiet k r q h.forward; whole = h.whole }

counted_whole : (k : ℕ) (r : Runs) → ((n : ℕ) → n < k → IsBroken (r n).end → ⊥) → (n : ℕ) → n < suc k → IsBroken (counted r n).end → ⊥
counted_whole k r h zero lt b = b
counted_whole k r h (suc n) lt b = h n (omega arith) b

pub leads_counted : (k : ℕ) (r q : Runs) → Leads k r q → Leads (suc k) (counted r) (counted q)
leads_counted k r q h = record { forward = forward_counted k r q h.forward; whole = counted_whole k r h.whole }

pub leads_wild : (k : ℕ) (q : Runs) → (q 0).output ≡ [] → Leads k (stop Wild) q
leads_wild k q none = record { forward = forward_wild k q none; whole = λ n lt b. b }

pub leads_deep : (k : ℕ) (q : Runs) → (q 0).output ≡ [] → Leads k (stop Deep) q
leads_deep k q none = record { forward = forward_deep k q none; whole = λ n lt b. b }

pub leads_ended : (k s : ℕ) → Leads k (stop (Ended s)) (stop (Ended s))
leads_ended k s = record { forward = forward_ended k s; whole = λ n lt b. b }

pub leads_trapped : (k : ℕ) → Leads k (stop Trapped) (stop Trapped)
leads_trapped k = record { forward = forward_trapped k; whole = λ n lt b. b }

pub leads_none : (r q : Runs) → Leads zero r q
leads_none r q = record { forward = record { at = λ n lt. absurd (omega arith) }; whole = λ n lt b. absurd (omega arith) }

pub leads_below : (j k : ℕ) (r q : Runs) → j ≤ k → Leads k r q → Leads j r q
leads_below j k r q le h = record { forward = record { at = λ n lt. h.forward.at n (omega arith) }; whole = λ n lt. h.whole n (omega arith) }

pub follows_led : (a b : Runs) → ((k : ℕ) → Leads k a b) → OneEnd b → Follows a b
follows_led a b h one = follows a b (λ n b'. (h (suc n)).whole n (omega arith) b') (λ k. (h k).forward) one

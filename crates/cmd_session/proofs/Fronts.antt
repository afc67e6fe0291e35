-- Writing all of some bytes, front by front.
use Rattle.std.proofs.Common.{◌≡◌, ℕ, List, ◌++◌, take, drop, Option, Some, None, Ok, sym, ap, subst, ◌∙◌, append_assoc}
use Rattle.std.proofs.lemmas.List.{take-append-drop}
use Rattle.gg_outside.specs.declared.faults.SinkFault.TheVariants as sink_faults
use Rattle.gg_outside.specs.Outside.{Takes}
use Rattle.cmd_session.specs.Writing.{Change, Adds}

-- what was written so far is the front before what is left
pub record WrittenSoFar (sink : Change) (bytes rest : List ℕ) : Type 0 where
  pub front : List ℕ
  pub split : bytes ≡ front ++ rest
  pub gains : Adds sink.old sink.new front
  pub quiet : sink.now ≡ sink.before

adds_more : (E : Type 0) (old mid new : Option (List ℕ)) (front rest : List ℕ) (n : ℕ) → Adds old mid front → Takes {E = E} mid new (Ok n) rest → Adds old new (front ++ take n rest)
adds_more E None mid new front rest n g t = tt
adds_more E (Some old) mid new front rest n g t =
    let m : new ≡ Some ((old ++ front) ++ take n rest) = subst (λ (x : Option (List ℕ)). Takes {E = E} x new (Ok n) rest) g t in
    m ∙ ap (λ (x : List ℕ). Some x) (append_assoc old front (take n rest))

-- a write took n bytes of what was left
pub goes_on : (E : Type 0) (old mid new : Option (List ℕ)) (before at now n : ℕ) (bytes rest after : List ℕ) → after ≡ drop n rest → now ≡ at → Takes {E = E} mid new (Ok n) rest
    → WrittenSoFar (record { old = old; new = mid; before = before; now = at }) bytes rest → WrittenSoFar (record { old = old; new = new; before = before; now = now }) bytes after
goes_on E old mid new before at now n bytes rest after is counts t h = record {
  front = h.front ++ take n rest;
  split = h.split ∙ ap (λ (x : List ℕ). h.front ++ x) (sym (take-append-drop n rest)) ∙ sym (append_assoc h.front (take n rest) (drop n rest))
      ∙ ap (λ (x : List ℕ). (h.front ++ take n rest) ++ x) (sym is);
  gains = adds_more E old mid new h.front rest n h.gains t;
  quiet = counts ∙ h.quiet;
}

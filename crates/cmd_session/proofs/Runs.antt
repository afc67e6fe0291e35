-- Writing what a run gives, piece by piece.
use Rattle.std.proofs.Common.{◌≡◌, ℕ, List, [], ◌∷◌, ◌++◌, Option, Some, None, sym, ap, subst, ◌∙◌, append_assoc}
use Rattle.cmd_session.specs.Writing.{Adds, GainsFront}
use Rattle.cmd_session.specs.Running.{Coming, Passes}
use Rattle.cmd_session.specs.declared.running.Moment.TheVariants.{Wrote}

-- a run that is written: some of its output is in the sink, some is kept to be written next, the rest is still to come
pub record Stands (whole : Coming) (old mid : Option (List ℕ)) (kept : List ℕ) (coming : Coming) : Type 0 where
  pub written : List ℕ
  pub gains : Adds old mid written
  pub output : whole.output ≡ written ++ (kept ++ coming.output)
  pub end : whole.end ≡ coming.end

adds_both : (old mid new : Option (List ℕ)) (a b : List ℕ) → Adds old mid a → Adds mid new b → Adds old new (a ++ b)
adds_both None mid new a b f s = tt
adds_both (Some o) mid new a b f s =
    let t : new ≡ Some ((o ++ a) ++ b) = subst (λ (x : Option (List ℕ)). Adds x new b) f s in
    t ∙ ap (λ (x : List ℕ). Some x) (append_assoc o a b)

-- the run gave a byte, which is kept
pub gave : (whole : Coming) (old mid : Option (List ℕ)) (kept : List ℕ) (b : ℕ) (c d : Coming) → Passes c (Wrote b) d → Stands whole old mid kept c → Stands whole old mid (kept ++ b ∷ []) d
gave whole old mid kept b c d p h = record {
  written = h.written;
  gains = h.gains;
  output =
      h.output ∙ ap (λ (x : Coming). h.written ++ (kept ++ x.output)) p
      ∙ ap (λ (x : List ℕ). h.written ++ x) (sym (append_assoc kept (b ∷ []) d.output));
  end = h.end ∙ ap (λ (x : Coming). x.end) p;
}

-- what was kept is written
pub wrote : (whole : Coming) (old mid new : Option (List ℕ)) (kept bytes after : List ℕ) (c : Coming) → bytes ≡ kept → after ≡ [] → Adds mid new bytes → Stands whole old mid kept c
    → Stands whole old new after c
wrote whole old mid new kept bytes after c is none a h = record {
  written = h.written ++ bytes;
  gains = adds_both old mid new h.written bytes h.gains a;
  output =
      h.output ∙ ap (λ (x : List ℕ). h.written ++ (x ++ c.output)) (sym is) ∙ sym (append_assoc h.written bytes c.output)
      ∙ ap (λ (x : List ℕ). (h.written ++ bytes) ++ (x ++ c.output)) (sym none);
  end = h.end;
}

-- the sink holds a front of the output, also where only a front of what was kept is written
pub has_more : (whole : Coming) (old mid new : Option (List ℕ)) (before at now : ℕ) (kept bytes : List ℕ) (c : Coming) → bytes ≡ kept
    → GainsFront (record { old = mid; new = new; before = at; now = now }) bytes → Stands whole old mid kept c → GainsFront (record { old = old; new = new; before = before; now = now }) whole.output
has_more whole old mid new before at now kept bytes c is f h = record {
  front = h.written ++ f.front;
  rest = f.rest ++ c.output;
  split =
      h.output ∙ ap (λ (x : List ℕ). h.written ++ (x ++ c.output)) (sym is ∙ f.split)
      ∙ ap (λ (x : List ℕ). h.written ++ x) (append_assoc f.front f.rest c.output)
      ∙ sym (append_assoc h.written f.front (f.rest ++ c.output));
  gains = adds_both old mid new h.written f.front h.gains f.gains;
}

-- What follows a follower follows.
use Rattle.std.proofs.Common.{ℕ, List, [], ◌++◌, ◌⊎◌, inl, inr, ap, sym, ◌∙◌, subst, append_assoc, ⊎_elim}
use Rattle.std.proofs.lemmas.List.{append-nil}
use Rattle.gg_base.specs.declared.run.End.{End}
use Rattle.gg_base.specs.declared.run.End.TheVariants.{Ended, Trapped, Wild, Deep, Spent, Broken}
use Rattle.gg_base.specs.Runs.{Runs}
use Rattle.gg_base.specs.Follows.{IsLost, GetsLost, Says, Shows, Reaches, Asks, Tells, IsBroken, NeverBroken, Follows}

-- an answer that is not broken asks at least for its output
shown : (e : End) (o : List ℕ) (c : Runs) → (IsBroken e → ⊥) → Asks e o c → Shows c o
shown (Ended s) o c ok h = (h.0, h.1)
shown Trapped o c ok h = (h.0, h.1)
shown Spent o c ok h = (h.0, h.1)
shown Wild o c ok h = h
shown Deep o c ok h = h
shown (Broken k) o c ok h = absurd (ok tt)

-- a lost answer tells of a lost one
lost_told : (e : End) (o : List ℕ) (a : Runs) → IsLost e → Tells e o a → GetsLost a
lost_told Wild o a l h = h
lost_told Deep o a l h = h
lost_told _ o a l h = absurd l

-- an answer tells of an output that begins with its own
reached : (e : End) (o : List ℕ) (a : Runs) → Tells e o a → Reaches a o ⊎ GetsLost a
reached (Ended s) o a h = ⊎_elim (λ x. inl (x.0, ([], x.1 ∙ sym (append-nil o)))) (λ l. inr l) h
reached Trapped o a h = ⊎_elim (λ x. inl (x.0, ([], x.1 ∙ sym (append-nil o)))) (λ l. inr l) h
reached Spent o a h = h
reached Wild o a h = inr h
reached Deep o a h = inr h
reached (Broken k) o a h = inr h

module _ (a b c : Runs) (first : Follows a b) (whole : NeverBroken b) (second : Follows b c) where
  shows_on : (o : List ℕ) → Shows b o → Shows c o
  shows_on o h =
      let g = shown (b h.0).end (b h.0).output c (whole h.0) (second.forward h.0) in
      (g.0, g.1 ∙ h.1)

  says_on : (o : List ℕ) (e : End) → ((p : List ℕ) → Asks e p c → Says c p e) → Says b o e → Says c o e
  says_on o e known h =
      let g = known (b h.0).output (subst (λ x. Asks x (b h.0).output c) h.2 (second.forward h.0)) in
      (g.0, g.1 ∙ h.1, g.2)

  asked : (e : End) (o : List ℕ) → Asks e o b → Asks e o c
  asked (Ended s) o h = says_on o (Ended s) (λ p g. g) h
  asked Trapped o h = says_on o Trapped (λ p g. g) h
  asked Spent o h = says_on o Spent (λ p g. g) h
  asked Wild o h = shows_on o h
  asked Deep o h = shows_on o h
  asked (Broken k) o h = tt

  lost_back : GetsLost b → GetsLost a
  lost_back l = lost_told (b l.0).end (b l.0).output a l.1 (first.backward l.0)

  says_back : (o : List ℕ) (e : End) → ((p : List ℕ) → Tells e p a → Says a p e ⊎ GetsLost a) → Says b o e ⊎ GetsLost b → Says a o e ⊎ GetsLost a
  says_back o e known (inl h) =
      ⊎_elim (λ g. inl (g.0, g.1 ∙ h.1, g.2)) (λ l. inr l) (known (b h.0).output (subst (λ x. Tells x (b h.0).output a) h.2 (first.backward h.0)))
  says_back o e known (inr l) = inr (lost_back l)

  reaches_back : (o : List ℕ) → Reaches b o ⊎ GetsLost b → Reaches a o ⊎ GetsLost a
  reaches_back o (inl h) =
      ⊎_elim
      (λ g. inl (g.0, (h.1.0 ++ g.1.0, g.1.1 ∙ ap (λ l. l ++ g.1.0) h.1.1 ∙ append_assoc o h.1.0 g.1.0)))
      (λ l. inr l)
      (reached (b h.0).end (b h.0).output a (first.backward h.0))
  reaches_back o (inr l) = inr (lost_back l)

  told : (e : End) (o : List ℕ) → Tells e o b → Tells e o a
  told (Ended s) o h = says_back o (Ended s) (λ p g. g) h
  told Trapped o h = says_back o Trapped (λ p g. g) h
  told Spent o h = reaches_back o h
  told Wild o h = lost_back h
  told Deep o h = lost_back h
  told (Broken k) o h = lost_back h

  pub composes : Follows a c
  composes = record {
    forward = λ n. asked (a n).end (a n).output (first.forward n);
    backward = λ m. told (c m).end (c m).output (second.backward m);
  }

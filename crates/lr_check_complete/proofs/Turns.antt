-- Looks one behind another.
use Rattle.std.proofs.Common.{◌≡◌, ℕ, ◌+◌, ◌≤◌, ◌<◌, List, [], ◌∷◌, ◌++◌, Contains, length, get_or, ap, ◌∙◌, subst, ◌⊎◌, inl, inr, ⊎_elim, arith, length-append}
use Rattle.std.proofs.lemmas.Bool.{cases_lt}
use Rattle.std.proofs.lemmas.List.{get_or_default}
use Rattle.lr_tables.proofs.Members.{In, In-cases, In-Contains, Contains-In}
use Rattle.lr_check_found.specs.declared.settlings.Item.{Item}
use Rattle.lr_check_found.specs.Items.{IsItem}
use Rattle.lr_check_found.proofs.Below.{Below, none_below, one_more, of_all}
use Rattle.lr_check_complete.specs.declared.look.Look.{Look}
use Rattle.lr_check_complete.specs.Looks.{automaton, AreItems, Looks}

module _ (look : Look) where
  -- nothing is pushed, and P is true
  pub looks_there : (xs : List Item) (P : Type 0) → P → Looks look xs xs P
  looks_there xs P h = record { sound = λ a. a; longer = omega arith; none = λ z le. h }

  -- one item is pushed
  pub looks_pushed : (xs ys : List Item) (i : Item) (P : Type 0) → IsItem (automaton look) look.found.now i → ys ≡ xs ++ i ∷ [] → Looks look xs ys P
  looks_pushed xs ys i P h e = record {
    sound = λ a. record { each = λ j c. by a j (In-cases j xs (i ∷ []) (Contains-In j (xs ++ i ∷ []) (subst (λ l. Contains l j) e c))) };
    longer = let long = ap length e ∙ length-append xs (i ∷ []) in omega (arith, long);
    none = λ z le. absurd (let long = ap length e ∙ length-append xs (i ∷ []) in omega (arith, long, le));
  }
    where
      last : (j : Item) → In j (i ∷ []) → IsItem (automaton look) look.found.now j
      last j (inl same) = subst (IsItem (automaton look) look.found.now) same h
      last j (inr n) = absurd n

      by : AreItems look xs → (j : Item) → In j xs ⊎ In j (i ∷ []) → IsItem (automaton look) look.found.now j
      by a j (inl m) = a.each j (In-Contains j xs m)
      by a j (inr m) = last j m

  pub looks_map : (xs ys : List Item) (P Q : Type 0) → (P → Q) → Looks look xs ys P → Looks look xs ys Q
  looks_map xs ys P Q g h = record { sound = h.sound; longer = h.longer; none = λ z le. g (h.none z le) }

  pub looks_both : (xs ys zs : List Item) (P Q R : Type 0) → (P → Q → R) → Looks look xs ys P → Looks look ys zs Q → Looks look xs zs R
  looks_both xs ys zs P Q R g a b = record {
    sound = λ h. b.sound (a.sound h);
    longer = let l = a.longer in let m = b.longer in omega (arith, l, m);
    none = λ z le.
        let l = a.longer in
        let m = b.longer in
        g (a.none z (omega (arith, l, m, le))) (b.none z (omega (arith, l, m, le)));
  }

  -- the turns of a loop
  pub looks_none : {X : Type 0} (items : List X) (Q : X → Type 0) (xs : List Item) → Looks look xs xs (Below items 0 Q)
  looks_none items Q xs = looks_there xs (Below items 0 Q) (none_below items Q)

  pub looks_turn : {X : Type 0} (items : List X) (n : ℕ) (Q : X → Type 0) (d : X) (xs ys zs : List Item) →
      Looks look xs ys (Below items n Q) → d ≡ get_or items n d → Looks look ys zs (Q d) → Looks look xs zs (Below items (n + 1) Q)
  looks_turn items n Q d xs ys zs a is b = looks_both xs ys zs (Below items n Q) (Q d) (Below items (n + 1) Q) (λ h k. one_more items n Q d h is k) a b

  pub looks_turn_at : {X : Type 0} (items : List X) (n : ℕ) (Q : X → Type 0) (d : X) (xs ys zs : List Item) →
      Looks look xs ys (Below items n Q) → n < length items → Looks look ys zs (Q (get_or items n d)) → Looks look xs zs (Below items (n + 1) Q)
  looks_turn_at items n Q d xs ys zs a lt b =
      looks_turn items n Q (get_or items n d) xs ys zs a (get_or_default items n d (get_or items n d) lt) b

  pub looks_all : {X : Type 0} (items : List X) (n : ℕ) (Q : X → Type 0) (xs ys : List Item) →
      Looks look xs ys (Below items n Q) → length items ≤ n → Looks look xs ys ((x : X) → Contains items x → Q x)
  looks_all {X = X} items n Q xs ys a le = looks_map xs ys (Below items n Q) ((x : X) → Contains items x → Q x) (λ h x c. of_all items n Q h le x c) a

-- what is true of each number below one more
pub up_to : (n : ℕ) (Q : ℕ → Type 0) (s : ℕ) → ((q : ℕ) → q < n → Q q) → s ≡ n → Q s → (q : ℕ) → q < n + 1 → Q q
up_to n Q s below same h q lt = ⊎_elim (λ l. below q l) (λ ge. let e : s ≡ q = omega (arith, same, lt, ge) in subst Q e h) (cases_lt q n)

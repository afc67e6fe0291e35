-- The questions that are asked before a reduction of a whole list, and that these answers take it.
use Rattle.std.proofs.Common.{◌≡◌, ℕ, suc, ◌+◌, ◌-◌, ◌≤◌, ◌<◌, List, [], ◌∷◌, ◌++◌, Some, Bool, true, false, length, take, refl, ap, sym, ◌∙◌, inl, inr}
use Rattle.std.proofs.Common.{⊎_elim, subst, arith, length-append}
use Rattle.std.specs.Prelude.{◌==◌, nat_lt, if◌then◌else◌}
use Rattle.std.proofs.lemmas.Bool.{cases_lt, eq-eqb, ne_eqb, lt-ltb, le-ltb, eqb-true, and_parts, and_from, true≢false}
use Rattle.md_reader.specs.declared.types.Sym.{Sym}
use Rattle.lr_check.specs.Parse.{Part}
use Rattle.lr_check_sets.specs.Automaton.{Automaton, Production, Candidate, shift, reduce, walk, size_of, Free}
use Rattle.lr_check_sets.specs.Answers.{pick}
use Rattle.lr_check_sets.specs.Shapes.{wanted, IsTree}
use Rattle.lr_check_sets.proofs.Asks.{pick_free, pick_yes, pick_no}
use Rattle.lr_check_sets.proofs.Shapes.{tree_some}
use Rattle.lr_check_sets.proofs.Reached.{hold, length-hold}
use Rattle.lr_check_sets.proofs.Fixed.{pushes, GoesDown, DeepIn, push-root, push-below, one_more, reaches}
use Rattle.lr_check_sets.proofs.Tables.{reduce_same, shift_reduce}
use Rattle.lr_check_samples.specs.Answering.{is_wanted, answers_to, depths_to}

-- the right side of a candidate stands on each stack of the state, and is a tree
abbrev pub StandsOn : Automaton → ℕ → List Sym → Production → Type 0
StandsOn A q s x = (a : List Sym) → walk A 0 a ≡ Some q → (top below : List Sym) × ((s ++ a ≡ top ++ below) × (length top ≡ size_of x) × IsTree top)

-- what takes a reduction of the whole list to the class
pub record Taking (A : Automaton) (q : ℕ) (s : List Sym) (cs : List Candidate) (own : List Bool) (ds : List ℕ) (c : ℕ) : Type 0 where
  pub rule : Production
  pub left : rule.left ≡ c
  pub size : size_of rule ≡ length s
  pub deep : (a : List Sym) → walk A 0 a ≡ Some q → DeepIn a ds
  pub picks : (b : List Bool) (z : List Part) → pick cs (hold s (own ++ b) ++ pushes ds z) ≡ record { taken = Some (reduce rule); stack = hold s b ++ z }

by_if : {X : Type 0} (b c : Bool) (x y : X) → b ≡ c → (if b then x else y) ≡ (if c then x else y)
by_if b c x y e = ap (λ (d : Bool). if d then x else y) e

module _ (A : Automaton) (q : ℕ) (s : List Sym) (tree : IsTree s) (c : ℕ) where
  some : 0 < length s
  some = tree_some s tree

  abbrev Takes : List Candidate → Type 0
  Takes cs = Taking A q s cs (answers_to cs (length s) c) (depths_to cs (length s) c) c

  taking_as : {cs : List Candidate} {own own' : List Bool} {ds ds' : List ℕ} → own ≡ own' → ds ≡ ds' → Taking A q s cs own ds c → Taking A q s cs own' ds' c
  taking_as {cs = cs} {own = own} {ds' = ds'} e f k = subst (λ l. Taking A q s cs l ds' c) e (subst (λ l. Taking A q s cs own l c) f k)

  -- the wanted one
  here : (x : Production) (cs : List Candidate) → x.left ≡ c → size_of x ≡ length s → (b : Bool) → x.asks ≡ b → Taking A q s (reduce x ∷ cs) (if b then true ∷ [] else []) [] c
  here x cs left size false e = record {
    rule = x;
    left = left;
    size = size;
    deep = λ a at. tt;
    picks = λ b z. pick_free x cs (hold s b ++ z) e;
  }
  here x cs left size true e = record {
    rule = x;
    left = left;
    size = size;
    deep = λ a at. tt;
    picks = λ b z.
        ap (pick (reduce x ∷ cs)) (sym (push-root x.right s true b z size some))
        ∙ pick_yes x cs (hold s b ++ z) e (omega (arith, size, some)) (omega (arith, size, length-append (hold s b) z, length-hold s b));
  }

  -- one that is asked before, of the whole list
  equal : (x : Production) (cs : List Candidate) {own : List Bool} {ds : List ℕ} → x.asks ≡ true → size_of x ≡ length s → Taking A q s cs own ds c →
      Taking A q s (reduce x ∷ cs) (false ∷ own) ds c
  equal x cs {own = own} {ds = ds} e size k = record {
    rule = k.rule;
    left = k.left;
    size = k.size;
    deep = k.deep;
    picks = λ b z.
        ap (pick (reduce x ∷ cs)) (sym (push-root x.right s false (own ++ b) (pushes ds z) size some))
        ∙ pick_no x cs (hold s (own ++ b) ++ pushes ds z) (record { taken = Some (reduce k.rule); stack = hold s b ++ z }) e (k.picks b z);
  }

  -- one that is asked before, of a longer right side
  longer : (x : Production) (cs : List Candidate) {own : List Bool} {ds : List ℕ} → x.asks ≡ true → length s < size_of x → StandsOn A q s x → Taking A q s cs own ds c →
      Taking A q s (reduce x ∷ cs) own ((size_of x - length s - 1) ∷ ds) c
  longer x cs {own = own} {ds = ds} e lt on k =
      let d : ℕ = size_of x - length s - 1 in
      let size : size_of x ≡ length s + suc d = omega (arith, lt) in
      record {
        rule = k.rule;
        left = k.left;
        size = k.size;
        deep = λ a at.
            let o : (top below : List Sym) × ((s ++ a ≡ top ++ below) × (length top ≡ size_of x) × IsTree top) = on a at in
            let g : (d < length a) × (o.0 ≡ s ++ take (d + 1) a) = reaches s a o.0 o.1 d o.2.0 (o.2.1 ∙ size) in
            ((g.0, one_more s (take (d + 1) a) tree (ap (wanted 1) (sym g.1) ∙ o.2.2)), k.deep a at);
        picks = λ b z.
            ap (pick (reduce x ∷ cs)) (sym (push-below x.right s d (own ++ b) (pushes ds z) size some))
            ∙ pick_no x cs (hold s (own ++ b) ++ pushes ds z) (record { taken = Some (reduce k.rule); stack = hold s b ++ z }) e (k.picks b z);
      }

  -- how the definitions go on at a candidate
  answers_here : (x : Production) (cs : List Candidate) → is_wanted (length s) c x ≡ true → answers_to (reduce x ∷ cs) (length s) c ≡ (if x.asks then true ∷ [] else [])
  answers_here x cs e = by_if (is_wanted (length s) c x) true (if x.asks then true ∷ [] else []) (if size_of x == length s then false ∷ answers_to cs (length s) c else answers_to cs (length s) c) e

  depths_here : (x : Production) (cs : List Candidate) → is_wanted (length s) c x ≡ true → depths_to (reduce x ∷ cs) (length s) c ≡ []
  depths_here x cs e = by_if (is_wanted (length s) c x) true []
      (if nat_lt (length s) (size_of x) then (size_of x - length s - 1) ∷ depths_to cs (length s) c else depths_to cs (length s) c) e

  answers_past : (x : Production) (cs : List Candidate) (b : Bool) → is_wanted (length s) c x ≡ false → (size_of x == length s) ≡ b →
      answers_to (reduce x ∷ cs) (length s) c ≡ (if b then false ∷ answers_to cs (length s) c else answers_to cs (length s) c)
  answers_past x cs b e f =
      by_if (is_wanted (length s) c x) false (if x.asks then true ∷ [] else []) (if size_of x == length s then false ∷ answers_to cs (length s) c else answers_to cs (length s) c) e
      ∙ by_if (size_of x == length s) b (false ∷ answers_to cs (length s) c) (answers_to cs (length s) c) f

  depths_past : (x : Production) (cs : List Candidate) (b : Bool) → is_wanted (length s) c x ≡ false → nat_lt (length s) (size_of x) ≡ b →
      depths_to (reduce x ∷ cs) (length s) c ≡ (if b then (size_of x - length s - 1) ∷ depths_to cs (length s) c else depths_to cs (length s) c)
  depths_past x cs b e f =
      by_if (is_wanted (length s) c x) false [] (if nat_lt (length s) (size_of x) then (size_of x - length s - 1) ∷ depths_to cs (length s) c else depths_to cs (length s) c) e
      ∙ by_if (nat_lt (length s) (size_of x)) b ((size_of x - length s - 1) ∷ depths_to cs (length s) c) (depths_to cs (length s) c) f

  wanted_here : (x : Production) (cs : List Candidate) → is_wanted (length s) c x ≡ true → Takes (reduce x ∷ cs)
  wanted_here x cs e =
      let parts : ((size_of x == length s) ≡ true) × ((x.left == c) ≡ true) = and_parts (size_of x == length s) (x.left == c) e in
      taking_as (sym (answers_here x cs e)) (sym (depths_here x cs e))
      (here x cs (eqb-true x.left c parts.1) (eqb-true (size_of x) (length s) parts.0) x.asks refl)

  passed : (x : Production) (cs : List Candidate) → is_wanted (length s) c x ≡ false → x.asks ≡ true → length s ≤ size_of x → StandsOn A q s x → Takes cs → Takes (reduce x ∷ cs)
  passed x cs e asks le on k = ⊎_elim
      (λ lt. taking_as (sym (answers_past x cs false e (ne_eqb (size_of x) (length s) (λ g. absurd (omega (arith, g, lt))))))
      (sym (depths_past x cs true e (lt-ltb (length s) (size_of x) lt))) (longer x cs asks lt on k))
      (λ ge. taking_as (sym (answers_past x cs true e (eq-eqb (size_of x) (length s) (omega (arith, ge, le)))))
      (sym (depths_past x cs false e (le-ltb (length s) (size_of x) ge))) (equal x cs asks (omega (arith, ge, le)) k))
      (cases_lt (length s) (size_of x))

  pub taking : (cs : List Candidate) (r : Production) → ((x : Production) → Free cs (reduce x) → StandsOn A q s x) → GoesDown cs → Free cs (reduce r) → size_of r ≡ length s → r.left ≡ c →
      Takes cs
  taking [] r on down f size left = absurd f
  taking (shift ∷ cs) r on down f size left = absurd (shift_reduce r f)
  taking (reduce x ∷ cs) r on down f size left =
      other (λ h. taking cs r (λ y g. on y (inr (h.0, g))) down.1 h.1 size left) (is_wanted (length s) c x) refl
    where
      is_it : reduce r ≡ reduce x → is_wanted (length s) c x ≡ true
      is_it e = let same : r ≡ x = reduce_same r x e in
          and_from (size_of x == length s) (x.left == c) (eq-eqb (size_of x) (length s) (ap size_of (sym same) ∙ size)) (eq-eqb x.left c (ap (λ (y : Production). y.left) (sym same) ∙ left))

      other : ((x.asks ≡ true) × Free cs (reduce r) → Takes cs) → (b : Bool) → is_wanted (length s) c x ≡ b → Takes (reduce x ∷ cs)
      other ih true u = wanted_here x cs u
      other ih false u = ⊎_elim
          (λ e. absurd (true≢false (sym (is_it e) ∙ u)))
          (λ h. passed x cs u h.0 (omega (arith, down.0 r h.1, size)) (on x (inl refl)) (ih h))
          f

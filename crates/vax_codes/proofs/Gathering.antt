-- From where branches come, gathered item by item.
use Rattle.std.proofs.Common.{◌≡◌, ◌⊎◌, inl, inr, ℕ, zero, suc, ◌+◌, ◌<◌, ◌≤◌, Bool, true, false, cond, List, [], ◌∷◌, ◌++◌, length, drop, replicate, Option, Some, None, refl, sym, ap, subst, ◌∙◌, arith}
use Rattle.std.proofs.Common.{length-set, get_or-set_same, get_or-set_other, length-drop}
use Rattle.std.proofs.lemmas.List.{length-replicate}
use Rattle.std.specs.Prelude.{◌||◌, ◌≢◌, nat_eq, slice_get, slice_set, slice_index_or, IfSome}
use Rattle.gg_base.proofs.Facts.{false_true, either_is, index_there}
use Rattle.vax_core.specs.declared.code.CodeItem.{CodeItem}
use Rattle.vax_core.specs.declared.code.CodeItem.TheVariants as item_kind
use Rattle.vax_machine.specs.declared.function.Action.{Action}
use Rattle.vax_machine.specs.declared.function.Action.TheVariants.{Branch}
use Rattle.vax_machine.specs.Functions.{action_of}
use Rattle.vax_machine.specs.Labels.{skipped, is_label, next_item, label_place}
use Rattle.vax_codes.specs.Marks.{is_in}
use Rattle.vax_codes.specs.Nexts.{place_of, goal_of}
use Rattle.vax_codes.specs.Sources.{put_source, ComeFrom}
use Rattle.vax_codes.proofs.Marking.{same_or_not, in_last, in_one, one_in, or_first, or_second}

-- ---- the next item stands among the items or behind them

skipped_within : (xs : List CodeItem) → skipped xs ≤ length xs
skipped_within [] = omega arith
skipped_within (item_kind.Label n ∷ xs) = let h = skipped_within xs in omega (arith, h)
skipped_within (item_kind.Globl n ∷ xs) = let h = skipped_within xs in omega (arith, h)
skipped_within (item_kind.Mask m ∷ xs) = omega arith
skipped_within (item_kind.Instr i ∷ xs) = omega arith

label_within : (cs : List CodeItem) (name : List ℕ) → label_place cs name ≤ length cs
label_within [] name = omega arith
label_within (item ∷ cs) name = by (is_label item name) (label_within cs name)
  where
    by : (b : Bool) → label_place cs name ≤ length cs → cond b 0 (label_place cs name + 1) ≤ length (item ∷ cs)
    by true h = omega arith
    by false h = omega (arith, h)

next_within : (cs : List CodeItem) (name : List ℕ) → next_item cs (label_place cs name) < length cs + 1
next_within cs name =
    let at = label_within cs name in
    let more = skipped_within (drop (label_place cs name) cs) in
    let long = length-drop (label_place cs name) cs in
    omega (arith, at, more, long)

place_below : (cs : List CodeItem) (a : Action) (t : Option (List ℕ)) (q : ℕ) → place_of cs a t ≡ Some q → q < length cs + 1
place_below cs (Branch t) (Some l) q e = let same : next_item cs (label_place cs l) ≡ q = cc in let lt = next_within cs l in omega (arith, same, lt)
place_below cs _ _ q e = absurd cc

pub goal_below : (cs : List CodeItem) (x : Option CodeItem) (q : ℕ) → goal_of cs x ≡ Some q → q < length cs + 1
goal_below cs (Some (item_kind.Instr i)) q e = place_below cs (action_of i.op) i.target q e
goal_below cs _ q e = absurd cc

pub goal_inside : (cs : List CodeItem) (x : Option CodeItem) (n : ℕ) (o : Option ℕ) → o ≡ goal_of cs x → n ≡ length cs + 1 → IfSome o (λ g. g < n)
goal_inside cs x n None e long = tt
goal_inside cs x n (Some g) e long = let lt = goal_below cs x g (sym e) in omega (arith, lt, long)

-- ---- none, and one item more

pub replicate_more : {A : Type 0} (n : ℕ) (x : A) → replicate (n + 1) x ≡ replicate n x ++ x ∷ []
replicate_more zero x = refl
replicate_more (suc n) x = let e : suc n + 1 ≡ suc (n + 1) = omega arith in ap (λ (k : ℕ). replicate k x) e ∙ ap (λ (xs : List _). x ∷ xs) (replicate_more n x)

abbrev no_places : List ℕ
no_places = []

none_at : (n q : ℕ) → slice_index_or (replicate n no_places) q no_places ≡ no_places
none_at zero zero = refl
none_at zero (suc q) = refl
none_at (suc n) zero = refl
none_at (suc n) (suc q) = none_at n q

pub none_come : (cs : List CodeItem) (goals : List (List ℕ)) → goals ≡ replicate (length cs + 1) [] → ComeFrom cs 0 goals
none_come cs goals e = record {
  each = ap length e ∙ length-replicate (length cs + 1) [];
  only = λ q p h. false_true (sym (ap (is_in p) (ap (λ (gs : List (List ℕ)). slice_index_or gs q []) e ∙ none_at (length cs + 1) q)) ∙ h);
  there = λ q p lt h. absurd (omega (arith, lt));
}

module _ (cs : List CodeItem) (number : ℕ) (goals : List (List ℕ)) (come : ComeFrom cs number goals) where
  more_by : (q p : ℕ) → (goal_of cs (slice_get cs p) ≡ Some q) → (p < number) → (p < number + 1) × (goal_of cs (slice_get cs p) ≡ Some q)
  more_by q p g lt = (omega (arith, lt), g)

  last_by : (p : ℕ) → p < number + 1 → (p < number) ⊎ (p ≡ number)
  last_by p lt = by (same_or_not p number)
    where
      by : (p ≡ number) ⊎ (p ≢ number) → (p < number) ⊎ (p ≡ number)
      by (inl e) = inr e
      by (inr apart) = inl (omega (arith, lt, apart))

  none_more : goal_of cs (slice_get cs number) ≡ None → ComeFrom cs (number + 1) goals
  none_more none = record {
    each = come.each;
    only = λ q p h. (let o = come.only q p h in more_by q p o.1 o.0);
    there = λ q p lt g. by q p g (last_by p lt);
  }
    where
      by : (q p : ℕ) → goal_of cs (slice_get cs p) ≡ Some q → (p < number) ⊎ (p ≡ number) → is_in p (slice_index_or goals q []) ≡ true
      by q p g (inl lt) = come.there q p lt g
      by q p g (inr e) = absurd (let f : None ≡ Some q = sym none ∙ sym (ap (λ (k : ℕ). goal_of cs (slice_get cs k)) e) ∙ g in cc)

  module _ (goal : ℕ) (is : goal_of cs (slice_get cs number) ≡ Some goal) where
    abbrev held : List ℕ
    held = slice_index_or goals goal []

    abbrev more : List (List ℕ)
    more = slice_set goals goal (held ++ number ∷ [])

    inside : goal < length goals
    inside = let lt = goal_below cs (slice_get cs number) goal is in let e = come.each in omega (arith, lt, e)

    at_goal : (p : ℕ) → is_in p (slice_index_or more goal []) ≡ (is_in p held || (nat_eq p number || false))
    at_goal p = ap (is_in p) (get_or-set_same goals goal (held ++ number ∷ []) [] inside) ∙ in_last held p number

    at_other : (q : ℕ) → q ≢ goal → slice_index_or more q [] ≡ slice_index_or goals q []
    at_other q apart = get_or-set_other goals goal q (held ++ number ∷ []) [] apart

    only_by : (q p : ℕ) → is_in p (slice_index_or more q []) ≡ true → (q ≡ goal) ⊎ (q ≢ goal) → (p < number + 1) × (goal_of cs (slice_get cs p) ≡ Some q)
    only_by q p h (inr apart) = let o = come.only q p (sym (ap (is_in p) (at_other q apart)) ∙ h) in more_by q p o.1 o.0
    only_by q p h (inl e) =
        either_is (is_in p held) (nat_eq p number || false) (sym (at_goal p) ∙ ap (λ (k : ℕ). is_in p (slice_index_or more k [])) (sym e) ∙ h)
        (λ x. (let o = come.only goal p x in more_by q p (o.1 ∙ ap (λ (k : ℕ). Some k) (sym e)) o.0))
        (λ x. (let same = in_one p number x in (omega (arith, same), ap (λ (k : ℕ). goal_of cs (slice_get cs k)) same ∙ is ∙ ap (λ (k : ℕ). Some k) (sym e))))

    there_by : (q p : ℕ) → goal_of cs (slice_get cs p) ≡ Some q → (p < number) ⊎ (p ≡ number) → (q ≡ goal) ⊎ (q ≢ goal) → is_in p (slice_index_or more q []) ≡ true
    there_by q p g (inl lt) (inr apart) = ap (is_in p) (at_other q apart) ∙ come.there q p lt g
    there_by q p g (inl lt) (inl e) =
        ap (λ (k : ℕ). is_in p (slice_index_or more k [])) e ∙ at_goal p ∙ or_first (is_in p held) _ (come.there goal p lt (g ∙ ap (λ (k : ℕ). Some k) e))
    there_by q p g (inr same) (inl e) = ap (λ (k : ℕ). is_in p (slice_index_or more k [])) e ∙ at_goal p ∙ or_second (is_in p held) _ (one_in p number same)
    there_by q p g (inr same) (inr apart) =
        absurd (apart (let f : Some q ≡ Some goal = sym g ∙ ap (λ (k : ℕ). goal_of cs (slice_get cs k)) same ∙ is in cc))

    one_more : ComeFrom cs (number + 1) more
    one_more = record {
      each = length-set goals goal (held ++ number ∷ []) ∙ come.each;
      only = λ q p h. only_by q p h (same_or_not q goal);
      there = λ q p lt g. there_by q p g (last_by p lt) (same_or_not q goal);
    }

  goal_more : (g : Option ℕ) → goal_of cs (slice_get cs number) ≡ g → ComeFrom cs (number + 1) (put_source goals g number)
  goal_more None e = none_more e
  goal_more (Some goal) e = one_more goal e

  -- the loop: one item more
  pub item_more : (x : CodeItem) (g : Option ℕ) (new : List (List ℕ)) → number < length cs → x ≡ slice_index_or cs number x
      → g ≡ goal_of cs (Some x) → new ≡ put_source goals g number → ComeFrom cs (number + 1) new
  item_more x g new lt at e is =
      subst (λ (gs : List (List ℕ)). ComeFrom cs (number + 1) gs) (sym is) (goal_more g (ap (goal_of cs) (index_there cs number x lt ∙ ap (λ (y : CodeItem). Some y) (sym at)) ∙ sym e))

-- What is kept of rows answers as the rows do.
use Rattle.std.proofs.Common.{◌≡◌, ℕ, zero, suc, ◌+◌, ◌-◌, ◌<◌, ◌≤◌, List, [], ◌∷◌, ◌++◌, Option, Some, None, Bool, true, false, cond, length, get_or, map, slice_get}
use Rattle.std.proofs.Common.{refl, sym, ap, ◌∙◌, subst, arith, length-append, eq-eqb, Decides}
use Rattle.std.specs.Prelude.{fold, unwrap_or}
use Rattle.std.specs.List.{All, position_from}
use Rattle.std.proofs.lemmas.Bool.{eqb-true, false≢true, ne_eqb}
use Rattle.std.proofs.lemmas.List.{get_or-map, get_or_past, length-map}
use Rattle.std.proofs.lemmas.Option.{slice_get-get_or, slice_get_past, same_Some, none-some}
use Rattle.std.proofs.lemmas.Slice.Eq.{slice_eq-Decides}
use Rattle.lr_tables.specs.declared.types.Choice.{Choice}
use Rattle.lr_tables.specs.declared.types.Choice.TheVariants as choice
use Rattle.lr_tables.specs.View.{RowView}
use Rattle.lr_tables.specs.Leads.{target_in, actions_in}
use Rattle.lr_tables.specs.Entries.{same_choice, same_choices, place_of, unless_placed, with_list, own_lists, action_entry, action_entries, goto_entry, target_of_entry, goto_entries, IsEven}

choice_same : (x y : Choice) → same_choice x y ≡ true → x ≡ y
choice_same (choice.Shift p) (choice.Shift q) e = ap choice.Shift (eqb-true p q e)
choice_same (choice.Reduce m) (choice.Reduce n) e = ap choice.Reduce (eqb-true m n e)
choice_same choice.Accept choice.Accept e = refl
choice_same _ _ e = absurd (false≢true e)

choice_self : (x : Choice) → same_choice x x ≡ true
choice_self (choice.Shift p) = eq-eqb p p refl
choice_self (choice.Reduce n) = eq-eqb n n refl
choice_self choice.Accept = refl

pub choice_decides : (x y : Choice) → Decides (same_choice x y) (x ≡ y)
choice_decides x y = (choice_same x y, λ e. subst (λ (z : Choice). same_choice x z ≡ true) e (choice_self x))

pub choices_decide : (xs ys : List Choice) → Decides (same_choices xs ys) (xs ≡ ys)
choices_decide xs ys = slice_eq-Decides choice_decides xs ys (same_choices xs ys) refl

-- where a place is, and that it stays
place_is : (cs : List Choice) (n : ℕ) (ls : List (List Choice)) (m : ℕ) → position_from (same_choices cs) n ls ≡ Some m → (n ≤ m) × (m < n + length ls) × (get_or ls (m - n) [] ≡ cs)
place_is cs n [] m e = absurd (none-some m e)
place_is cs n (l ∷ ls) m e = by (same_choices cs l) refl e (place_is cs (n + 1) ls m)
  where
    by : (b : Bool) → same_choices cs l ≡ b → cond b (Some n) (position_from (same_choices cs) (n + 1) ls) ≡ Some m
        → (position_from (same_choices cs) (n + 1) ls ≡ Some m → (n + 1 ≤ m) × (m < n + 1 + length ls) × (get_or ls (m - (n + 1)) [] ≡ cs))
        → (n ≤ m) × (m < n + length (l ∷ ls)) × (get_or (l ∷ ls) (m - n) [] ≡ cs)
    by true f h ih =
        let s : n ≡ m = same_Some n m h in
        let z : m - n ≡ 0 = omega (arith, s) in
        (omega (arith, s), omega (arith, s), ap (λ (k : ℕ). get_or (l ∷ ls) k []) z ∙ sym ((choices_decide cs l).0 f))
    by false f h ih =
        let r = ih h in
        let a = r.0 in
        let z : m - n ≡ suc (m - (n + 1)) = omega (arith, a) in
        (omega (arith, a), (let c = r.1 in omega (arith, c)), ap (λ (k : ℕ). get_or (l ∷ ls) k []) z ∙ r.2)

place_stays : (cs : List Choice) (n : ℕ) (ls ks : List (List Choice)) (m : ℕ) → position_from (same_choices cs) n ls ≡ Some m → position_from (same_choices cs) n (ls ++ ks) ≡ Some m
place_stays cs n [] ks m e = absurd (none-some m e)
place_stays cs n (l ∷ ls) ks m e = by (same_choices cs l) (place_stays cs (n + 1) ls ks m) e
  where
    by : (b : Bool) → (position_from (same_choices cs) (n + 1) ls ≡ Some m → position_from (same_choices cs) (n + 1) (ls ++ ks) ≡ Some m)
        → cond b (Some n) (position_from (same_choices cs) (n + 1) ls) ≡ Some m → cond b (Some n) (position_from (same_choices cs) (n + 1) (ls ++ ks)) ≡ Some m
    by true ih h = h
    by false ih h = ih h

place_last : (cs : List Choice) (n : ℕ) (ls : List (List Choice)) → position_from (same_choices cs) n ls ≡ None → position_from (same_choices cs) n (ls ++ cs ∷ []) ≡ Some (n + length ls)
place_last cs n [] e = ap (λ b. cond b (Some n) None) ((choices_decide cs cs).1 refl) ∙ ap Some (omega arith)
place_last cs n (l ∷ ls) e = by (same_choices cs l) (place_last cs (n + 1) ls) e
  where
    by : (b : Bool) → (position_from (same_choices cs) (n + 1) ls ≡ None → position_from (same_choices cs) (n + 1) (ls ++ cs ∷ []) ≡ Some (n + 1 + length ls))
        → cond b (Some n) (position_from (same_choices cs) (n + 1) ls) ≡ None
        → cond b (Some n) (position_from (same_choices cs) (n + 1) (ls ++ cs ∷ [])) ≡ Some (n + length (l ∷ ls))
    by true ih h = absurd (none-some n (sym h))
    by false ih h = ih h ∙ ap Some (omega arith)

-- the list has a place among lists
record IsPlaced (cs : List Choice) (ls : List (List Choice)) : Type 0 where
  at : ℕ
  is : place_of ls cs ≡ Some at

placed_with : (cs ds : List Choice) (ls : List (List Choice)) → IsPlaced cs ls → IsPlaced cs (with_list ls ds)
placed_with cs ds ls h = by (place_of ls ds)
  where
    by : (o : Option ℕ) → IsPlaced cs (unless_placed o ls ds)
    by (Some n) = h
    by None = record { at = h.at; is = place_stays cs 0 ls (ds ∷ []) h.at h.is }

placed_itself : (cs : List Choice) (ls : List (List Choice)) → IsPlaced cs (with_list ls cs)
placed_itself cs ls = by (place_of ls cs) refl
  where
    by : (o : Option ℕ) → place_of ls cs ≡ o → IsPlaced cs (unless_placed o ls cs)
    by (Some n) e = record { at = n; is = e }
    by None e = record { at = 0 + length ls; is = place_last cs 0 ls e }

placed_on : (cs : List Choice) (xs ls : List (List Choice)) → IsPlaced cs ls → IsPlaced cs (fold with_list ls xs)
placed_on cs [] ls h = h
placed_on cs (x ∷ xs) ls h = placed_on cs xs (with_list ls x) (placed_with cs x ls h)

placed_all : (xs ls : List (List Choice)) (i : ℕ) → i < length xs → IsPlaced (get_or xs i []) (fold with_list ls xs)
placed_all [] ls i lt = absurd (omega (arith, lt))
placed_all (x ∷ xs) ls zero lt = placed_on x xs (with_list ls x) (placed_itself x ls)
placed_all (x ∷ xs) ls (suc i) lt = placed_all xs (with_list ls x) i (omega (arith, lt))

-- each list of a row stands at its entry
pub entry_finds : (actions : List (List Choice)) (i : ℕ) → i < length actions
    → get_or (own_lists actions) (action_entry (own_lists actions) (get_or actions i [])) [] ≡ get_or actions i []
unfolding own_lists
entry_finds actions i lt =
    let h = placed_all actions [] i lt in
    let p = place_is (get_or actions i []) 0 (own_lists actions) h.at h.is in
    ap (λ (o : Option ℕ). get_or (own_lists actions) (unwrap_or o 0) []) h.is
    ∙ (ap (λ (m : ℕ). get_or (own_lists actions) m []) (let z : h.at ≡ h.at - 0 = omega arith in z) ∙ p.2)

length-with : (ls : List (List Choice)) (cs : List Choice) → length (with_list ls cs) ≤ length ls + 1
length-with ls cs = by (place_of ls cs)
  where
    by : (o : Option ℕ) → length (unless_placed o ls cs) ≤ length ls + 1
    by (Some n) = omega arith
    by None = let l = length-append ls (cs ∷ []) in omega (arith, l)

length-fold : (xs ls : List (List Choice)) → length (fold with_list ls xs) ≤ length ls + length xs
length-fold [] ls = omega arith
length-fold (x ∷ xs) ls = let a = length-fold xs (with_list ls x) in let b = length-with ls x in omega (arith, a, b)

-- no more lists than tokens
pub length-own : (actions : List (List Choice)) → length (own_lists actions) ≤ length actions
unfolding own_lists
length-own actions = let a = length-fold actions [] in omega (arith, a)

pub place_within : (cs : List Choice) (ls : List (List Choice)) (m : ℕ) → place_of ls cs ≡ Some m → m < length ls
place_within cs ls m e = let p = place_is cs 0 ls m e in let lt = p.1 in omega (arith, lt)

goto_back : (o : Option ℕ) → target_of_entry (goto_entry o) ≡ o
goto_back None = refl
goto_back (Some q) = ap (λ b. cond b None (Some (q + 1 - 1))) (ne_eqb (q + 1) 0 (λ e. omega (arith, e))) ∙ ap Some (omega arith)

-- rows of one width, and what is kept of them
module _ (rows : List RowView) (width : ℕ) (even : All (IsEven width) rows) (none : RowView) where
  pub action_columns : (q : ℕ) → q < length rows → length (get_or (map action_entries rows) q []) ≡ 40
  unfolding action_entries
  action_columns q lt =
      let r = get_or rows q none in
      ap (λ (x : List ℕ). length x) (get_or-map action_entries rows q none [] lt) ∙ (length-map r.actions (action_entry (own_lists r.actions)) ∙ (even q none lt).tokens)

  pub goto_columns : (q : ℕ) → q < length rows → length (get_or (map goto_entries rows) q []) ≡ width
  unfolding goto_entries
  goto_columns q lt =
      let r = get_or rows q none in
      ap (λ (x : List ℕ). length x) (get_or-map goto_entries rows q none [] lt) ∙ (length-map r.targets goto_entry ∙ (even q none lt).symbols)

  -- the list at an entry is the row's
  pub list_found : (q s : ℕ) → q < length rows → s < 40
      → get_or (get_or (map (λ (r : RowView). own_lists r.actions) rows) q []) (get_or (get_or (map action_entries rows) q []) s 0) [] ≡ actions_in (slice_get rows q) s
  unfolding action_entries
  list_found q s lt few =
      let r = get_or rows q none in
      let long : s < length r.actions = (let t = (even q none lt).tokens in omega (arith, t, few)) in
      let own : get_or (map (λ (x : RowView). own_lists x.actions) rows) q [] ≡ own_lists r.actions = get_or-map (λ (x : RowView). own_lists x.actions) rows q none [] lt in
      let entry : get_or (get_or (map action_entries rows) q []) s 0 ≡ action_entry (own_lists r.actions) (get_or r.actions s []) =
      ap (λ (x : List ℕ). get_or x s 0) (get_or-map action_entries rows q none [] lt) ∙ get_or-map (action_entry (own_lists r.actions)) r.actions s [] 0 long in
      ap (λ (x : List (List Choice)). get_or x (get_or (get_or (map action_entries rows) q []) s 0) []) own
      ∙ (ap (λ (n : ℕ). get_or (own_lists r.actions) n []) entry ∙ (entry_finds r.actions s long
      ∙ ap (λ (o : Option RowView). actions_in o s) (sym (slice_get-get_or rows q none lt))))

  -- where a symbol leads by its entry is where the row leads
  pub target_found : (q s : ℕ) → q < length rows → s < width → target_of_entry (get_or (get_or (map goto_entries rows) q []) s 0) ≡ target_in (slice_get rows q) s
  unfolding goto_entries
  target_found q s lt few =
      let r = get_or rows q none in
      let long : s < length r.targets = (let t = (even q none lt).symbols in omega (arith, t, few)) in
      ap (λ (x : List ℕ). target_of_entry (get_or x s 0)) (get_or-map goto_entries rows q none [] lt) ∙ (ap target_of_entry (get_or-map goto_entry r.targets s None 0 long)
      ∙ (goto_back (get_or r.targets s None) ∙ ap (λ (o : Option RowView). target_in o s) (sym (slice_get-get_or rows q none lt))))

  pub target_past_symbols : (q s : ℕ) → q < length rows → width ≤ s → target_in (slice_get rows q) s ≡ None
  target_past_symbols q s lt le =
      let r = get_or rows q none in
      ap (λ (o : Option RowView). target_in o s) (slice_get-get_or rows q none lt) ∙ get_or_past r.targets s None (let t = (even q none lt).symbols in omega (arith, t, le))

pub list_past : (rows : List RowView) (q s : ℕ) → length rows ≤ q → actions_in (slice_get rows q) s ≡ []
list_past rows q s le = ap (λ (o : Option RowView). actions_in o s) (slice_get_past rows q le)

pub target_past_rows : (rows : List RowView) (q s : ℕ) → length rows ≤ q → target_in (slice_get rows q) s ≡ None
target_past_rows rows q s le = ap (λ (o : Option RowView). target_in o s) (slice_get_past rows q le)

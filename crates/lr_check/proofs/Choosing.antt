-- The candidate that the code takes is the one that the parse takes.
use Rattle.std.proofs.Common.{◌≡◌, ℕ, ◌+◌, ◌-◌, ◌≤◌, ◌<◌, List, [], ◌∷◌, Option, Some, None, Bool, true, false, cond, Contains, length, set, map, slice_get, refl, sym, ap, ◌∙◌}
use Rattle.std.proofs.Common.{subst, arith, length-set}
use Rattle.std.specs.Prelude.{◌==◌, ◌||◌, nat_lt}
use Rattle.std.specs.Option.{option_map}
use Rattle.std.proofs.lemmas.Bool.{eqb-true, eqb-false, ne_eqb, le-ltb, or_from, cond-false}
use Rattle.std.proofs.lemmas.List.Elements.{Contains-append_right}
use Rattle.std.proofs.lemmas.Option.{same_Some, none-some}
use Rattle.md_reader.specs.declared.types.Rule.{Rule}
use Rattle.lr_tables.specs.declared.types.Choice.TheVariants as choice
use Rattle.lr_tables.specs.View.{TableView}
use Rattle.lr_check.specs.declared.stack.Entry.{Entry}
use Rattle.lr_check.specs.Tree.{Node}
use Rattle.lr_check.specs.Parse.{Part, symbols, owner_answers, answer, asked, Takes, nothing, unrestricted, answered_yes, answered_no}
use Rattle.lr_check.specs.Questions.{Taken, first_place, entry_at, answer_of, asked_of, asked_at, question, taken_or}
use Rattle.lr_check.specs.Questions.{question_at, chosen}
use Rattle.lr_check.proofs.Parts.{Stands, stands_length, stands_answers, stands_used, symbols_used, answer_left}
use Rattle.lr_check.proofs.Contained.{here}

-- the rule's right side has symbols, and no more than stand on the stack
pub record Fits (rules : List Rule) (long n : ℕ) : Type 0 where
  pub rule : Rule
  pub there : slice_get rules n ≡ Some rule
  pub some : 0 < length rule.right
  pub within : length rule.right ≤ long

-- what the code takes, and its stack behind the questions, are what the parse takes
pub record Chose (t : TableView) (nodes : List Node) (ns : List ℕ) (s : List Part) (out : Taken) : Type 0 where
  pub taken : Option ℕ
  pub is : out.choice ≡ option_map choice.Reduce taken
  pub within : (n : ℕ) → taken ≡ Some n → Contains ns n
  pub parts : List Part
  pub takes : Takes t.content.rules s ns taken parts
  pub stands : Stands t nodes out.stack parts
  pub same : symbols parts ≡ symbols s

pub place_there : (long size : ℕ) → 0 < size → size ≤ long → first_place long size ≡ Some (long - size)
place_there long size some le =
    cond-false ((size == 0) || nat_lt long size) None (Some (long - size))
    (or_from (size == 0) (nat_lt long size) (ne_eqb size 0 (λ e. omega (arith, e, some))) (le-ltb long size le))

module _ (t : TableView) (nodes : List Node) where
  take_first : (n : ℕ) (ns : List ℕ) (s parts : List Part) (l : List Entry) → Takes t.content.rules s (n ∷ ns) (Some n) parts → Stands t nodes l parts → symbols parts ≡ symbols s
      → Chose t nodes (n ∷ ns) s (record { choice = Some (choice.Reduce n); stack = l })
  take_first n ns s parts l takes h e = record {
    taken = Some n;
    is = refl;
    within = λ m f. subst (Contains (n ∷ ns)) (same_Some n m f) (here n ns);
    parts = parts;
    takes = takes;
    stands = h;
    same = e;
  }

  -- the question of a restricted rule
  restricted : (n : ℕ) (ns : List ℕ) (l : List Entry) (s : List Part) (r : Rule) (others : List Entry → Taken) → slice_get t.content.rules n ≡ Some r → 0 < length r.restrictions
      → 0 < length r.right → length r.right ≤ length l → Stands t nodes l s →
      ((k : List Entry) → Stands t nodes k (asked s r) → length k ≡ length l → Chose t nodes ns (asked s r) (others k)) →
      Chose t nodes (n ∷ ns) s (taken_or (choice.Reduce n) (asked_at nodes l (first_place (length l) (length r.right))) others)
  restricted n ns l s r others there more some within h ih = subst (λ (o : Option ℕ). Chose t nodes (n ∷ ns) s (taken_or (choice.Reduce n) (asked_at nodes l o) others))
      (sym (place_there (length l) (length r.right) some within)) (by (answer_of nodes (entry_at l i)) refl)
    where
      i : ℕ
      i = length l - length r.right

      deep : length r.right - 1 < length s
      deep = let m = stands_length t nodes h in omega (arith, m, some, within)

      place : length l - length r.right + (length r.right - 1) + 1 ≡ length l
      place = omega (arith, some, within)

      answered : answer_of nodes (entry_at l (length l - length r.right)) ≡ answer (owner_answers s r)
      answered = answer_left nodes (entry_at l i) ∙ sym (ap answer (stands_answers t nodes h (length r.right - 1) i deep place))

      behind : Stands t nodes (set l (length l - length r.right) (asked_of nodes (entry_at l (length l - length r.right)))) (asked s r)
      behind = stands_used t nodes h (length r.right - 1) i deep place

      by : (b : Bool) → answer_of nodes (entry_at l (length l - length r.right)) ≡ b →
          Chose t nodes (n ∷ ns) s (cond b (record { choice = Some (choice.Reduce n); stack = set l (length l - length r.right) (asked_of nodes (entry_at l (length l - length r.right))) })
          (others (set l (length l - length r.right) (asked_of nodes (entry_at l (length l - length r.right))))))
      by true e = take_first n ns s (asked s r) (set l i (asked_of nodes (entry_at l i))) (answered_yes r there more (sym answered ∙ e)) behind (symbols_used (length r.right - 1) s)
      by false e =
          let rest = ih (set l i (asked_of nodes (entry_at l i))) behind (length-set l i (asked_of nodes (entry_at l i))) in
          record {
            taken = rest.taken;
            is = rest.is;
            within = λ m f. Contains-append_right (n ∷ []) ns m (rest.within m f);
            parts = rest.parts;
            takes = answered_no r there more (sym answered ∙ e) rest.takes;
            stands = rest.stands;
            same = rest.same ∙ symbols_used (length r.right - 1) s;
          }

  first_rule : (n : ℕ) (ns : List ℕ) (l : List Entry) (s : List Part) (r : Rule) (others : List Entry → Taken) → slice_get t.content.rules n ≡ Some r → 0 < length r.right
      → length r.right ≤ length l → Stands t nodes l s →
      ((k : List Entry) → Stands t nodes k (asked s r) → length k ≡ length l → Chose t nodes ns (asked s r) (others k)) →
      Chose t nodes (n ∷ ns) s (taken_or (choice.Reduce n) (question nodes l r) others)
  first_rule n ns l s r others there some within h ih = by (length r.restrictions == 0) refl
    where
      by : (b : Bool) → (length r.restrictions == 0) ≡ b → Chose t nodes (n ∷ ns) s
          (taken_or (choice.Reduce n) (cond b (record { yes = true; stack = l }) (asked_at nodes l (first_place (length l) (length r.right)))) others)
      by true e = take_first n ns s s l (unrestricted r there (eqb-true (length r.restrictions) 0 e)) h refl
      by false e = restricted n ns l s r others there (let ne = eqb-false (length r.restrictions) 0 e in omega (arith, ne)) some within h ih

  pub chose : (ns : List ℕ) (l : List Entry) (s : List Part) → Stands t nodes l s → ((n : ℕ) → Contains ns n → Fits t.content.rules (length l) n)
      → Chose t nodes ns s (chosen t.content.rules nodes (map choice.Reduce ns) l)
  unfolding chosen
  chose [] l s h f = record { taken = None; is = refl; within = λ n e. absurd (none-some n e); parts = s; takes = nothing; stands = h; same = refl }
  chose (n ∷ ns) l s h f =
      by (slice_get t.content.rules n) (f n (here n ns)).there
      (λ k p g e. chose ns k p g (λ m c. subst (λ (x : ℕ). Fits t.content.rules x m) (sym e) (f m (Contains-append_right (n ∷ []) ns m c))))
    where
      by : (o : Option Rule) → o ≡ Some (f n (here n ns)).rule → ((k : List Entry) (p : List Part) → Stands t nodes k p → length k ≡ length l
          → Chose t nodes ns p (chosen t.content.rules nodes (map choice.Reduce ns) k))
          → Chose t nodes (n ∷ ns) s (taken_or (choice.Reduce n) (question_at nodes l o) (λ k. chosen t.content.rules nodes (map choice.Reduce ns) k))
      by None e ih = absurd (none-some _ e)
      by (Some r) e ih =
          let x = f n (here n ns) in
          let there : slice_get t.content.rules n ≡ Some r = x.there ∙ sym e in
          let same : r ≡ x.rule = same_Some r x.rule e in
          let size : length r.right ≡ length x.rule.right = ap (λ (q : Rule). length q.right) same in
          let some : 0 < length r.right = (let a = x.some in omega (arith, a, size)) in
          let within : length r.right ≤ length l = (let a = x.within in omega (arith, a, size)) in
          first_rule n ns l s r (λ k. chosen t.content.rules nodes (map choice.Reduce ns) k) there some within h (λ k g e. ih k (asked s r) g e)

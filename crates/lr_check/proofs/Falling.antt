-- Each step that goes on leaves less to do.
use Rattle.std.proofs.Common.{◌≡◌, ℕ, ◌+◌, ◌-◌, ◌*◌, ◌≤◌, ◌<◌, List, [], ◌∷◌, ◌++◌, Option, Some, None, Bool, true, false, cond, not, length, count_by, get_or, set, take}
use Rattle.std.proofs.Common.{replicate, slice_get, refl, sym, ap, ◌∙◌, subst, arith, length-append, length-set}
use Rattle.std.specs.Prelude.{◌==◌, ◌||◌, nat_lt}
use Rattle.std.proofs.lemmas.List.{length-replicate, length-take-le}
use Rattle.std.proofs.lemmas.List.Sums.{sum_by-set, sum_by-cons}
use Rattle.std.proofs.lemmas.Bool.{ltb-true, ltb-false, eqb-false, or_parts}
use Rattle.std.proofs.lemmas.Option.{slice_get_within, none-some}
use Rattle.gg_base.proofs.Facts.{some_none}
use Rattle.md_reader.specs.declared.types.Rule.{Rule}
use Rattle.md_reader.specs.declared.types.Sym.TheVariants as grammar_symbol
use Rattle.lr_tables.specs.declared.types.Choice.{Choice}
use Rattle.lr_tables.specs.declared.types.Choice.TheVariants as choice
use Rattle.lr_tables.specs.View.{TableView}
use Rattle.lr_tables.specs.Leads.{target_at, actions_at}
use Rattle.lr_tables.specs.Grammar.{IsGrammar}
use Rattle.lr_check.specs.declared.stack.Entry.{Entry}
use Rattle.lr_check.specs.declared.sample.Outcome.{Outcome}
use Rattle.lr_check.specs.Tree.{Node}
use Rattle.lr_check.specs.Steps.{Config, top_of, token_of, After, blocks, shifted, marked, placed, reduced_by}
use Rattle.lr_check.specs.Steps.{reduced, after_choice, step}
use Rattle.lr_check.specs.Questions.{Asked, first_place, entry_at, asked_of, asked_at, question, question_at, chosen}

-- what is left to do: the tokens to come, the stack, and the classes that were not on top
abbrev pub weight : ℕ → Config → ℕ
weight total c = (total - c.at) * (2 * (length c.seen + 1)) + (length c.stack * (length c.seen + 1) + count_by not c.seen)

-- one step leaves less, where it does not end the parse
pub record Falls (total : ℕ) (c : Config) (a : After) : Type 0 where
  pub less : a.ending ≡ None → weight total a.config < weight total c
  pub seen : a.ending ≡ None → length a.config.seen ≡ length c.seen

blocks_falls : (total : ℕ) (c : Config) (stack : List Entry) → Falls total c (blocks c stack)
blocks_falls total c stack = record { less = λ e. absurd (some_none _ e); seen = λ e. absurd (some_none _ e) }

-- counts of classes that were not on top
pub count-cons : (b : Bool) (m : List Bool) → count_by not (b ∷ m) ≡ cond (not b) 1 0 + count_by not m
count-cons b m = sum_by-cons (λ (x : Bool). cond (not x) 1 0) b m

pub count_most : (m : List Bool) → count_by not m ≤ length m
count_most [] = omega arith
count_most (true ∷ m) = let a = count_most m in let b : count_by not (true ∷ m) ≡ 0 + count_by not m = count-cons true m in omega (arith, a, b)
count_most (false ∷ m) = let a = count_most m in let b : count_by not (false ∷ m) ≡ 1 + count_by not m = count-cons false m in omega (arith, a, b)

pub mark_count : (m : List Bool) (n : ℕ) → n < length m → get_or m n false ≡ false → count_by not (set m n true) + 1 ≡ count_by not m
mark_count m n h e =
    let f : Bool → ℕ = λ x. cond (not x) 1 0 in
    let s : count_by not (set m n true) + f (get_or m n false) ≡ count_by not m + 0 = sum_by-set f m n true false h in
    let g : f (get_or m n false) ≡ 1 = ap f e in
    omega (arith, s, g)

shift_less : (d n s u v : ℕ) → v ≤ n → d * (2 * (n + 1)) + ((s + 1) * (n + 1) + v) < (d + 1) * (2 * (n + 1)) + (s * (n + 1) + u)
shift_less d n s u v h = omega (arith, h)

long_less : (w i e n u v : ℕ) → v ≤ n → w + ((i + 1) * (n + 1) + v) < w + ((i + 2 + e) * (n + 1) + u)
long_less w i e n u v h = omega (arith, h)

unit_less : (w i n u v : ℕ) → v + 1 ≡ u → w + ((i + 1) * (n + 1) + v) < w + ((i + 1) * (n + 1) + u)
unit_less w i n u v h = omega (arith, h)

-- questions leave the stack's length
length-asked : (nodes : List Node) (stack : List Entry) (o : Option ℕ) → length (asked_at nodes stack o).stack ≡ length stack
length-asked nodes stack None = refl
length-asked nodes stack (Some i) = length-set stack i (asked_of nodes (entry_at stack i))

length-question : (nodes : List Node) (stack : List Entry) (r : Rule) → length (question nodes stack r).stack ≡ length stack
length-question nodes stack r = by (length r.restrictions == 0)
  where
    by : (b : Bool) → length (cond b (record { yes = true; stack = stack }) (asked_at nodes stack (first_place (length stack) (length r.right)))).stack ≡ length stack
    by true = refl
    by false = length-asked nodes stack (first_place (length stack) (length r.right))

length-question_at : (nodes : List Node) (stack : List Entry) (o : Option Rule) → length (question_at nodes stack o).stack ≡ length stack
length-question_at nodes stack None = refl
length-question_at nodes stack (Some r) = length-question nodes stack r

pub length-chosen : (rules : List Rule) (nodes : List Node) (cs : List Choice) (stack : List Entry) → length (chosen rules nodes cs stack).stack ≡ length stack
unfolding chosen
length-chosen rules nodes [] stack = refl
length-chosen rules nodes (choice.Shift q ∷ cs) stack = refl
length-chosen rules nodes (choice.Accept ∷ cs) stack = refl
length-chosen rules nodes (choice.Reduce n ∷ cs) stack = choose (question_at nodes stack (slice_get rules n)) (length-question_at nodes stack (slice_get rules n))
    (λ s. length-chosen rules nodes cs s) (question_at nodes stack (slice_get rules n)).yes
  where
    choose : (a : Asked) → length a.stack ≡ length stack → ((s : List Entry) → length (chosen rules nodes cs s).stack ≡ length s) → (b : Bool)
        → length (cond b (record { choice = Some (choice.Reduce n); stack = a.stack }) (chosen rules nodes cs a.stack)).stack ≡ length stack
    choose a e ih true = e
    choose a e ih false = ih a.stack ∙ e

-- where the entry of a right side's first symbol stands
place_is : (long size i : ℕ) → first_place long size ≡ Some i → (i + size ≡ long) × (0 < size)
place_is long size i e = by ((size == 0) || nat_lt long size) refl e
  where
    by : (b : Bool) → ((size == 0) || nat_lt long size) ≡ b → cond b None (Some (long - size)) ≡ Some i → (i + size ≡ long) × (0 < size)
    by true f g = absurd (none-some i g)
    by false f g =
        let p = or_parts (size == 0) (nat_lt long size) f in
        let ne : size ≡ 0 → ⊥ = eqb-false size 0 p.0 in
        let le : size ≤ long = ltb-false long size p.1 in
        let s : long - size ≡ i = cc in
        (omega (arith, le, s), omega (arith, ne))

module _ (total : ℕ) (c : Config) where
  shift_falls : (stack : List Entry) (q : ℕ) (next : Option ℕ) → length stack ≡ length c.stack → ((n : ℕ) → next ≡ Some n → c.at < total) → Falls total c (shifted c stack q next)
  shift_falls stack q None l h = blocks_falls total c stack
  shift_falls stack q (Some n) l h =
      let lt = h n refl in
      let len : length (replicate (length c.seen) false) ≡ length c.seen = length-replicate (length c.seen) false in
      let most : count_by not (replicate (length c.seen) false) ≤ length (replicate (length c.seen) false) = count_most (replicate (length c.seen) false) in
      let e : Entry = record { state = q; node = n; used = 0 } in
      let long : length (stack ++ e ∷ []) ≡ length c.stack + 1 = length-append stack (e ∷ []) ∙ ap (λ x. x + 1) l in
      let left : total - c.at ≡ total - (c.at + 1) + 1 = omega (arith, lt) in
      record {
        less = λ u.
            let new : (total - (c.at + 1)) * (2 * (length (replicate (length c.seen) false) + 1))
            + (length (stack ++ e ∷ []) * (length (replicate (length c.seen) false) + 1) + count_by not (replicate (length c.seen) false))
            ≡ (total - (c.at + 1)) * (2 * (length c.seen + 1)) + ((length c.stack + 1) * (length c.seen + 1) + count_by not (replicate (length c.seen) false)) =
            λ i. (total - (c.at + 1)) * (2 * (len i + 1)) + (long i * (len i + 1) + count_by not (replicate (length c.seen) false)) in
            let old : weight total c ≡ (total - (c.at + 1) + 1) * (2 * (length c.seen + 1)) + (length c.stack * (length c.seen + 1) + count_by not c.seen) =
            ap (λ x. x * (2 * (length c.seen + 1)) + (length c.stack * (length c.seen + 1) + count_by not c.seen)) left in
            let less = shift_less (total - (c.at + 1)) (length c.seen) (length c.stack) (count_by not c.seen) (count_by not (replicate (length c.seen) false)) (omega (arith, most, len)) in
            subst (λ x. x < weight total c) (sym new) (subst (λ x. (total - (c.at + 1)) * (2 * (length c.seen + 1))
            + ((length c.stack + 1) * (length c.seen + 1) + count_by not (replicate (length c.seen) false)) < x) (sym old) less);
        seen = λ u. len;
      }

  -- a class is put on a stack of this length, where these classes were on top before
  mark_falls : (stack : List Entry) (seen : List Bool) (left i : ℕ) → length stack ≡ i + 1 → length seen ≡ length c.seen →
      ((v : ℕ) → (get_or seen left false ≡ false → v + 1 ≡ count_by not seen) → get_or seen left false ≡ false → v ≤ length c.seen → (total - c.at) * (2 * (length c.seen + 1))
      + ((i + 1) * (length c.seen + 1) + v) < weight total c) →
      left < length c.seen →
      Falls total c (marked (record { at = c.at; stack = stack; seen = seen }) left)
  mark_falls stack seen left i long len less lt = by (get_or seen left false) refl
    where
      n : ℕ
      n = length c.seen

      by : (b : Bool) → get_or seen left false ≡ b → Falls total c (cond b
          (record { ending = Some (Rattle.lr_check.specs.declared.sample.Outcome.TheVariants.Loops c.at); config = record { at = c.at; stack = stack; seen = seen } })
          (record { ending = None; config = record { at = c.at; stack = stack; seen = set seen left true } }))
      by true e = record { less = λ u. absurd (some_none _ u); seen = λ u. absurd (some_none _ u) }
      by false e =
          let v = count_by not (set seen left true) in
          let same : length (set seen left true) ≡ length c.seen = length-set seen left true ∙ len in
          let most : v ≤ length (set seen left true) = count_most (set seen left true) in
          let one : v + 1 ≡ count_by not seen = mark_count seen left (omega (arith, lt, len)) e in
          record {
            less = λ u. subst (λ x. x < weight total c) (λ j. (total - c.at) * (2 * (sym same j + 1)) + (sym long j * (sym same j + 1) + v)) (less v (λ f. one) e (omega (arith, most, same)));
            seen = λ u. same;
          }

  placed_falls : (i : ℕ) (below : List Entry) (r : Rule) (e : Entry) (o : Option ℕ) → length below ≡ i → i + length r.right ≡ length c.stack → 0 < length r.right → r.left < length c.seen
      → Falls total c (placed c below r e o)
  placed_falls i below r e None l s some lt = blocks_falls total c below
  placed_falls i below r e (Some q) l s some lt = by (nat_lt 1 (length r.right)) refl
    where
      stack : List Entry
      stack = below ++ record { state = q; node = e.node; used = e.used } ∷ []

      long : length (below ++ record { state = q; node = e.node; used = e.used } ∷ []) ≡ i + 1
      long = length-append below (record { state = q; node = e.node; used = e.used } ∷ []) ∙ ap (λ x. x + 1) l

      by : (b : Bool) → nat_lt 1 (length r.right) ≡ b → Falls total c (marked
          (record { at = c.at; stack = below ++ record { state = q; node = e.node; used = e.used } ∷ []; seen = cond b (replicate (length c.seen) false) c.seen }) r.left)
      by true f =
          let two : 1 < length r.right = ltb-true 1 (length r.right) f in
          let old : i + 2 + (length r.right - 2) ≡ length c.stack = omega (arith, two, s) in
          mark_falls (below ++ record { state = q; node = e.node; used = e.used } ∷ []) (replicate (length c.seen) false) r.left i long (length-replicate (length c.seen) false)
          (λ v one g most. subst (λ x. (total - c.at) * (2 * (length c.seen + 1)) + ((i + 1) * (length c.seen + 1) + v) < (total - c.at) * (2 * (length c.seen + 1))
          + (x * (length c.seen + 1) + count_by not c.seen)) old
          (long_less ((total - c.at) * (2 * (length c.seen + 1))) i (length r.right - 2) (length c.seen) (count_by not c.seen) v most))
          lt
      by false f =
          let le : length r.right ≤ 1 = ltb-false 1 (length r.right) f in
          let old : i + 1 ≡ length c.stack = omega (arith, le, s, some) in
          mark_falls (below ++ record { state = q; node = e.node; used = e.used } ∷ []) c.seen r.left i long refl
          (λ v one g most. subst (λ x. (total - c.at) * (2 * (length c.seen + 1)) + ((i + 1) * (length c.seen + 1) + v) < (total - c.at) * (2 * (length c.seen + 1))
          + (x * (length c.seen + 1) + count_by not c.seen)) old
          (unit_less ((total - c.at) * (2 * (length c.seen + 1))) i (length c.seen) (count_by not c.seen) v (one g)))
          lt

  reduced_falls : (t : TableView) (stmt : ℕ) (stack : List Entry) (n : ℕ) → IsGrammar t.content.rules stmt (length c.seen) → length stack ≡ length c.stack
      → Falls total c (reduced t c stack (slice_get t.content.rules n))
  reduced_falls t stmt stack n g l = by (slice_get t.content.rules n) refl
    where
      place : (r : Rule) → slice_get t.content.rules n ≡ Some r → (o : Option ℕ) → first_place (length stack) (length r.right) ≡ o → Falls total c (reduced_by t c stack r o)
      place r e None f = blocks_falls total c stack
      place r e (Some i) f =
          let p = place_is (length stack) (length r.right) i f in
          let sum = p.0 in
          let some = p.1 in
          placed_falls i (take i stack) r (entry_at stack i) (target_at t (top_of (take i stack)) (grammar_symbol.Class r.left)) (length-take-le i stack (omega (arith, sum))) (sum ∙ l)
          some (g.lefts n r e)

      by : (o : Option Rule) → slice_get t.content.rules n ≡ o → Falls total c (reduced t c stack o)
      by None e = blocks_falls total c stack
      by (Some r) e = place r e (first_place (length stack) (length r.right)) refl

  after_falls : (t : TableView) (stmt : ℕ) (next : Option ℕ) (stack : List Entry) (o : Option Choice) → IsGrammar t.content.rules stmt (length c.seen) → length stack ≡ length c.stack
      → ((n : ℕ) → next ≡ Some n → c.at < total) → Falls total c (after_choice t next c stack o)
  after_falls t stmt next stack None g l h = blocks_falls total c stack
  after_falls t stmt next stack (Some choice.Accept) g l h = record { less = λ u. absurd (some_none _ u); seen = λ u. absurd (some_none _ u) }
  after_falls t stmt next stack (Some (choice.Shift q)) g l h = shift_falls stack q next l h
  after_falls t stmt next stack (Some (choice.Reduce n)) g l h = reduced_falls t stmt stack n g l

pub step_falls : (t : TableView) (stmt : ℕ) (nodes : List Node) (order : List ℕ) (c : Config) → IsGrammar t.content.rules stmt (length c.seen) → Falls (length order) c (step t nodes order c)
unfolding step
step_falls t stmt nodes order c g =
    let taken = chosen t.content.rules nodes (actions_at t (top_of c.stack) (token_of nodes (slice_get order c.at))) c.stack in
    after_falls (length order) c t stmt (slice_get order c.at) taken.stack taken.choice g
    (length-chosen t.content.rules nodes (actions_at t (top_of c.stack) (token_of nodes (slice_get order c.at))) c.stack)
    (λ n e. slice_get_within order c.at n e)

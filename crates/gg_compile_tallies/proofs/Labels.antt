-- Labels of a function's code: where one stands ahead, and what it counts to pass one.
use Rattle.std.proofs.Common.{◌≡◌, ℕ, zero, suc, ◌+◌, ◌<◌, ◌≤◌, Bool, true, false, cond, List, [], ◌∷◌, ◌++◌, length, drop, Option, Some, None, refl, sym, ap, subst, ◌∙◌, arith}
use Rattle.std.specs.Prelude.{slice_get, nat_lt, ◌||◌, ◌==◌}
use Rattle.std.proofs.lemmas.Bool.{eqb-true, true≢false, ltb-true, ltb-false}
use Rattle.std.proofs.lemmas.Option.{same_Some, none-some}
use Rattle.vax_core.specs.declared.code.CodeItem.{CodeItem}
use Rattle.vax_core.specs.declared.code.CodeItem.TheVariants as item_kind
use Rattle.vax_machine.specs.declared.turn.Stop.{Stop}
use Rattle.vax_machine.specs.State.{State}
use Rattle.vax_machine.specs.Labels.{skipped, next_item, label_place, double_label}
use Rattle.vax_machine.specs.Step.{Next, Goes, Writes, Stops, act, at_item, next_of, next_where, step_of}
use Rattle.tree_core.specs.declared.program.TreeItem.{TreeItem}
use Rattle.tree_core.specs.declared.program.TreeFn.{TreeFn}
use Rattle.tree_core.specs.declared.program.TreeProgram.{TreeProgram}
use Rattle.tree_core.specs.Names.{label_name}
use Rattle.tree_counts.specs.Counted.{is_ahead}
use Rattle.vax_frames.specs.Frames.{code_items, end_code}
use Rattle.vax_frames_law.proofs.Labelling.{first_place}
use Rattle.vax_bound.specs.Counted.{counted_by, counted_step, counted_behind, counted_steps}
use Rattle.gg_compile_law.specs.Framing.{FrameLayout, homed_code}
use Rattle.gg_compile_law.specs.Programs.{HasItems, IsBody, nothing, label, root, StandsAt}
use Rattle.gg_compile_law.proofs.Placing.{label_skipped}
use Rattle.gg_compile_tallies.proofs.Walking.{Walks}

-- ---- where a label stands

-- an item splits a list
record Split (xs : List CodeItem) (p : ℕ) (x : CodeItem) : Type 0 where
  pre : List CodeItem
  post : List CodeItem
  is : xs ≡ pre ++ x ∷ post
  at : length pre ≡ p

split_at : (xs : List CodeItem) (p : ℕ) (x : CodeItem) → slice_get xs p ≡ Some x → Split xs p x
split_at [] p x e = absurd (none-some x e)
split_at (y ∷ xs) zero x e = record { pre = []; post = xs; is = ap (λ (z : CodeItem). z ∷ xs) (same_Some y x e); at = refl }
split_at (y ∷ xs) (suc p) x e =
    let s : Split xs p x = split_at xs p x e in
    record { pre = y ∷ s.pre; post = s.post; is = ap (λ (l : List CodeItem). y ∷ l) s.is; at = ap suc s.at }

-- a label that stands once has its place
label_is_at : (code : List CodeItem) (p : ℕ) (n : List ℕ) → double_label code ≡ None → slice_get code p ≡ Some (item_kind.Label n) → label_place code n ≡ p
label_is_at code p n once e =
    let s : Split code p (item_kind.Label n) = split_at code p (item_kind.Label n) e in
    ap (λ (l : List CodeItem). label_place l n) s.is ∙ first_place s.pre s.post n (subst (λ (l : List CodeItem). double_label l ≡ None) s.is once) ∙ s.at

-- somewhere behind a place a label stands
record Ahead (code : List CodeItem) (place l : ℕ) : Type 0 where
  at : ℕ
  further : place ≤ at
  stands : slice_get code at ≡ Some (item_kind.Label (label_name l))

nearer : (code : List CodeItem) (place more l : ℕ) → Ahead code (place + more) l → Ahead code place l
nearer code place more l h = record { at = h.at; further = omega (arith, h.further); stands = h.stands }

past : (code : List CodeItem) (place : ℕ) (xs ys : List CodeItem) → HasItems code place (xs ++ ys) → HasItems code (place + length xs) ys
past code place [] ys h = let e : place ≡ place + 0 = omega arith in subst (λ (p : ℕ). HasItems code p ys) e h
past code place (x ∷ xs) ys h = let e : place + 1 + length xs ≡ place + length (x ∷ xs) = omega arith in subst (λ (p : ℕ). HasItems code p ys) e (past code (place + 1) xs ys h.1)

module _ (program : TreeProgram) (code : List CodeItem) (g : TreeFn) (y : FrameLayout) (l : ℕ) where
  ahead_in : (is : List TreeItem) (body : List CodeItem) → IsBody program g y is body → (place : ℕ) → HasItems code place body → is_ahead is l ≡ true → Ahead code place l
  ahead_in is body nothing place there e = absurd (true≢false (sym e))
  ahead_in is body (root w is' instrs rest s h) place there e =
      nearer code place (length (code_items (homed_code y instrs))) l
      (ahead_in is' rest h (place + length (code_items (homed_code y instrs))) (past code place (code_items (homed_code y instrs)) rest there) e)
  ahead_in is body (label k is' rest h) place there e = by (k == l) refl e (λ f. ahead_in is' rest h (place + 1) there.1 f)
    where
      by : (b : Bool) → (k == l) ≡ b → (b || is_ahead is' l) ≡ true → (is_ahead is' l ≡ true → Ahead code (place + 1) l) → Ahead code place l
      by true eq f more = record {
        at = place;
        further = omega arith;
        stands = subst (λ (n : ℕ). slice_get code place ≡ Some (item_kind.Label (label_name n))) (eqb-true k l eq) there.0;
      }
      by false eq f more = nearer code place 1 l (more f)

  front : (place : ℕ) (xs ys : List CodeItem) → HasItems code place (xs ++ ys) → HasItems code place xs
  front place [] ys h = tt
  front place (x ∷ xs) ys h = (h.0, front (place + 1) xs ys h.1)

  -- a label that stands among the items to come has a place ahead
  pub ahead_place : (place : ℕ) (is : List TreeItem) → StandsAt program code g y place is → double_label code ≡ None → is_ahead is l ≡ true → place ≤ label_place code (label_name l)
  ahead_place place is s once e =
      let a : Ahead code place l = ahead_in is s.body s.is_body place (front place s.body (code_items end_code) s.there) e in
      let at : label_place code (label_name l) ≡ a.at = label_is_at code a.at (label_name l) once a.stands in
      omega (arith, at, a.further)

-- ---- a label is passed

skips_label : (code : List CodeItem) (place : ℕ) (name : List ℕ) → slice_get code place ≡ Some (item_kind.Label name) → skipped (drop place code) ≡ skipped (drop (suc place) code) + 1
skips_label [] zero name e = absurd cc
skips_label [] (suc p) name e = absurd cc
skips_label (x ∷ xs) (suc p) name e = skips_label xs p name e
skips_label (x ∷ xs) zero name e = by x e
  where
    by : (x : CodeItem) → ◌≡◌ {A = Option CodeItem} (Some x) (Some (item_kind.Label name)) → skipped (x ∷ xs) ≡ skipped xs + 1
    by (item_kind.Label n) e = refl
    by (item_kind.Globl n) e = absurd cc
    by (item_kind.Mask n) e = absurd cc
    by (item_kind.Instr i) e = absurd cc

same_next : (m : State) (name : List ℕ) → slice_get m.items m.place ≡ Some (item_kind.Label name) → next_item m.items m.place ≡ next_item m.items (m.place + 1)
same_next m name e =
    let s : m.place + 1 ≡ suc m.place = omega arith in
    let k : skipped (drop (m.place + 1) m.items) ≡ skipped (drop (suc m.place) m.items) = ap (λ (p : ℕ). skipped (drop p m.items)) s in
    omega (arith, skips_label m.items m.place name e, k)

same_at : (m : State) (p q : ℕ) (o : Option CodeItem) → at_item o p m ≡ at_item o p (record m { place = q })
same_at m p q None = refl
same_at m p q (Some (item_kind.Label n)) = refl
same_at m p q (Some (item_kind.Globl n)) = refl
same_at m p q (Some (item_kind.Mask n)) = refl
same_at m p q (Some (item_kind.Instr i)) = refl

same_act : (m : State) (name : List ℕ) → slice_get m.items m.place ≡ Some (item_kind.Label name) → act m ≡ act (record m { place = m.place + 1 })
unfolding act
same_act m name e =
    ap (λ (p : ℕ). at_item (slice_get m.items p) p m) (same_next m name e)
    ∙ same_at m (next_item m.items (m.place + 1)) (m.place + 1) (slice_get m.items (next_item m.items (m.place + 1)))

same_step : (m n : State) (o : Option Stop) → act m ≡ act n → next_where o m ≡ next_where o n
same_step m n None e = ap next_of e
same_step m n (Some x) e = refl

-- from further on no less is counted
counted_later : (k l p q r : ℕ) → p ≤ q → counted_by k l p r ≤ counted_by k l q r
counted_later k l p q r le = by (nat_lt k l) (nat_lt l k) (nat_lt p r) refl (nat_lt q r) refl
  where
    by : (a b c : Bool) → nat_lt p r ≡ c → (d : Bool) → nat_lt q r ≡ d → cond a 1 (cond b 0 (cond c 0 1)) ≤ cond a 1 (cond b 0 (cond d 0 1))
    by true b c e d f = omega arith
    by false true c e d f = omega arith
    by false false true e d f = omega arith
    by false false false e false f = omega arith
    by false false false e true f = absurd (let x : q < r = ltb-true q r f in let y : r ≤ p = ltb-false p r e in omega (arith, x, y, le))

step_later : (m : State) (q : ℕ) (x : Next) → m.place ≤ q → counted_step m x ≤ counted_step (record m { place = q }) x
step_later m q (Goes n) le = counted_later (length m.frames) (length n.frames) m.place q n.place le
step_later m q (Writes b n) le = counted_later (length m.frames) (length n.frames) m.place q n.place le
step_later m q (Stops e) le = omega arith

-- at a label no more is counted than behind it
counted_label : (m : State) (name : List ℕ) → slice_get m.items m.place ≡ Some (item_kind.Label name) → (i : ℕ) → counted_steps i m ≤ counted_steps i (record m { place = m.place + 1 })
counted_label m name e zero = omega arith
counted_label m name e (suc i) =
    let n : State = record m { place = m.place + 1 } in
    let same : step_of m ≡ step_of n = same_step m n m.over (same_act m name e) in
    let first = step_later m (m.place + 1) (step_of m) (omega arith) in
    let there = ap (λ (x : Next). counted_step n x + counted_behind x (counted_steps i)) same in
    omega (arith, first, there)

-- steps to a state at a label are steps to the state behind it
pub walk_past : (m n : State) (w : List ℕ) (count much : ℕ) (name : List ℕ) → slice_get n.items n.place ≡ Some (item_kind.Label name) → Walks m w count much n
    → Walks m w count much (record n { place = n.place + 1 })
walk_past m n w count much name e h =
    let run = label_skipped n name e in
    record {
      leads = record {
        output = λ i. h.leads.output i ∙ ap (λ r. w ++ (r i).output) run;
        end = λ i. h.leads.end i ∙ ap (λ r. (r i).end) run;
      };
      counts = λ i. let a = h.counts i in let b = counted_label n name e i in omega (arith, a, b);
    }

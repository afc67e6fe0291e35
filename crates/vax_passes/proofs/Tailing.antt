-- What is kept of a code without instructions that no run comes to.
use Rattle.std.proofs.Common.{◌≡◌, ℕ, zero, suc, ◌+◌, ◌<◌, ◌≤◌, Bool, true, false, cond, List, [], ◌∷◌, Some, refl, sym, ap, subst, ◌∙◌, arith, append-nil, reverse}
use Rattle.std.specs.Prelude.{nat_lt, slice_get}
use Rattle.std.proofs.lemmas.Bool.{lt-ltb}
use Rattle.gg_base.proofs.Facts.{false_true, some_none, true_or_false}
use Rattle.vax_core.specs.declared.code.Code.{Code}
use Rattle.vax_core.specs.declared.code.Instr.{Instr}
use Rattle.vax_core.specs.declared.code.CodeItem.{CodeItem}
use Rattle.vax_core.specs.declared.code.CodeItem.TheVariants as item_kind
use Rattle.vax_passes.specs.Jumps.{leaves, HasNoDeadTail, DropsDeadTails}
use Rattle.vax_passes.specs.Dropping.{Kept, put_first, without_tails, all_kept}
use Rattle.vax_passes.proofs.DeadTails.{Tails, none, label, globl, mask, done, left, lost, thin}

record Without (dead : Bool) (start : ℕ) (c : List CodeItem) (k : Kept) : Type 0 where
  number : ℕ
  tails : Tails dead number c k.items
  counts : k.made ≡ start + number

lost_by : (i : Instr) (start : ℕ) (c : List CodeItem) (b : Bool) (k g : Kept) → Without true start c k → Without true (start + 1) c g
    → Without true start (item_kind.Instr i ∷ c) (cond b g (put_first (item_kind.Instr i) k))
lost_by i start c false k g h f = record { number = h.number; tails = left i h.tails; counts = h.counts }
lost_by i start c true k g h f = record { number = suc f.number; tails = lost i f.tails; counts = (let e = f.counts in omega (arith, e)) }

without : (c : List CodeItem) (dead : Bool) (start : ℕ) → Without dead start c (without_tails c dead start)
without [] dead start = record { number = 0; tails = none; counts = omega arith }
without (item_kind.Label n ∷ c) dead start = let h = without c false start in record { number = h.number; tails = label n h.tails; counts = h.counts }
without (item_kind.Globl n ∷ c) dead start = let h = without c dead start in record { number = h.number; tails = globl n h.tails; counts = h.counts }
without (item_kind.Mask m ∷ c) dead start = let h = without c dead start in record { number = h.number; tails = mask m h.tails; counts = h.counts }
without (item_kind.Instr i ∷ c) false start = let h = without c (leaves i.op) start in record { number = h.number; tails = done i h.tails; counts = h.counts }
without (item_kind.Instr i ∷ c) true start = lost_by i start c (nat_lt start 18446744073709551615) (without_tails c true start) (without_tails c true (start + 1)) (without c true start)
    (without c true (start + 1))

-- ---- none is left

abbrev pub none_left : Bool → List CodeItem → Bool
none_left dead [] = true
none_left dead (item_kind.Label n ∷ rest) = none_left false rest
none_left dead (item_kind.Globl n ∷ rest) = none_left dead rest
none_left dead (item_kind.Mask m ∷ rest) = none_left dead rest
none_left true (item_kind.Instr i ∷ rest) = false
none_left false (item_kind.Instr i ∷ rest) = none_left (leaves i.op) rest

left_by : (i : Instr) (start : ℕ) (b : Bool) (k g : Kept) → nat_lt start 18446744073709551615 ≡ b → (start ≤ k.made) → (g.made < 18446744073709551615 → none_left true g.items ≡ true)
    → (cond b g (put_first (item_kind.Instr i) k)).made < 18446744073709551615 → none_left true (cond b g (put_first (item_kind.Instr i) k)).items ≡ true
left_by i start true k g e le h lt = h lt
left_by i start false k g e le h lt = absurd (true_or_false _ (lt-ltb start 18446744073709551615 (omega (arith, le, lt))) e)

left_none : (c : List CodeItem) (dead : Bool) (start : ℕ) → (without_tails c dead start).made < 18446744073709551615 → none_left dead (without_tails c dead start).items ≡ true
left_none [] dead start lt = refl
left_none (item_kind.Label n ∷ c) dead start lt = left_none c false start lt
left_none (item_kind.Globl n ∷ c) dead start lt = left_none c dead start lt
left_none (item_kind.Mask m ∷ c) dead start lt = left_none c dead start lt
left_none (item_kind.Instr i ∷ c) false start lt = left_none c (leaves i.op) start lt
left_none (item_kind.Instr i ∷ c) true start lt =
    let w = without c true start in
    let f = w.counts in
    left_by i start (nat_lt start 18446744073709551615) (without_tails c true start) (without_tails c true (start + 1)) refl (omega (arith, f)) (left_none c true (start + 1)) lt

-- ---- where no instruction is left, a label stands before the next one

LabelBefore : List CodeItem → ℕ → Type 0
LabelBefore items q = (r : ℕ) × (r < q) × ((name : List ℕ) × (slice_get items r ≡ Some (item_kind.Label name)))

before_more : (x : CodeItem) (items : List CodeItem) (q : ℕ) → LabelBefore items q → LabelBefore (x ∷ items) (suc q)
unfolding LabelBefore
before_more x items q h = (suc h.0, (let lt = h.1 in omega (arith, lt)), (h.2.0, h.2.1))

label_before : (items : List CodeItem) (q : ℕ) (j : Instr) → none_left true items ≡ true → slice_get items q ≡ Some (item_kind.Instr j) → LabelBefore items q
unfolding LabelBefore
label_before [] q j e here = absurd (some_none _ (sym here))
label_before (item_kind.Label n ∷ rest) (suc q) j e here = (zero, omega arith, (n, refl))
label_before (item_kind.Globl n ∷ rest) (suc q) j e here = before_more (item_kind.Globl n) rest q (label_before rest q j e here)
label_before (item_kind.Mask m ∷ rest) (suc q) j e here = before_more (item_kind.Mask m) rest q (label_before rest q j e here)
label_before (item_kind.Instr i ∷ rest) q j e here = false_true e
label_before _ zero j e here = absurd cc

-- behind an item
Between : List CodeItem → ℕ → ℕ → Type 0
Between items p q = (r : ℕ) × (p < r) × (r < q) × ((name : List ℕ) × (slice_get items r ≡ Some (item_kind.Label name)))

between_more : (x : CodeItem) (items : List CodeItem) (p q : ℕ) → Between items p q → Between (x ∷ items) (suc p) (suc q)
unfolding Between
between_more x items p q h = (suc h.0, (let lt = h.1 in omega (arith, lt)), (let lt = h.2 in omega (arith, lt)), (h.3.0, h.3.1))

between_first : (x : CodeItem) (items : List CodeItem) (q : ℕ) → LabelBefore items q → Between (x ∷ items) zero (suc q)
unfolding Between LabelBefore
between_first x items q h = (suc h.0, omega arith, (let lt = h.1 in omega (arith, lt)), (h.2.0, h.2.1))

between : (dead : Bool) (items : List CodeItem) (p q : ℕ) (i j : Instr) → none_left dead items ≡ true → slice_get items p ≡ Some (item_kind.Instr i) → leaves i.op ≡ true → p < q
    → slice_get items q ≡ Some (item_kind.Instr j) → Between items p q
between dead [] p q i j e here op lt there = absurd (some_none _ (sym here))
between dead (x ∷ rest) p zero i j e here op lt there = absurd (omega (arith, lt))
between dead (item_kind.Label n ∷ rest) (suc p) (suc q) i j e here op lt there = between_more (item_kind.Label n) rest p q (between false rest p q i j e here op (omega (arith, lt)) there)
between dead (item_kind.Globl n ∷ rest) (suc p) (suc q) i j e here op lt there = between_more (item_kind.Globl n) rest p q (between dead rest p q i j e here op (omega (arith, lt)) there)
between dead (item_kind.Mask m ∷ rest) (suc p) (suc q) i j e here op lt there = between_more (item_kind.Mask m) rest p q (between dead rest p q i j e here op (omega (arith, lt)) there)
between true (item_kind.Instr y ∷ rest) p (suc q) i j e here op lt there = false_true e
between false (item_kind.Instr y ∷ rest) zero (suc q) i j e here op lt there =
    let same : y ≡ i = cc in
    let dead : leaves y.op ≡ true = ap (λ (z : Instr). leaves z.op) same ∙ op in
    between_first (item_kind.Instr y) rest q (label_before rest q j (sym (ap (λ (b : Bool). none_left b rest) dead) ∙ e) there)
between false (item_kind.Instr y ∷ rest) (suc p) (suc q) i j e here op lt there = between_more (item_kind.Instr y) rest p q (between (leaves y.op) rest p q i j e here op (omega (arith, lt)) there)
between dead _ zero _ i j e here op lt there = absurd cc

pub settled : (items : List CodeItem) → none_left false items ≡ true → HasNoDeadTail items
unfolding Between
settled items e = record { each = λ p q i j here op lt there. between false items p q i j e here op lt there }

-- ---- what is written

pub drops_dead_tails : (before after : ℕ) (c d : Code) → d.area ≡ c.area → ◌≡◌ {A = Kept} (record { made = after; items = d.items }) (without_tails c.items false before)
    → DropsDeadTails before after c d
drops_dead_tails before after c d area e =
    let w = without c.items false before in
    record {
      thinned = record {
        number = w.number;
        area = area;
        items = thin (subst (λ (k : Kept). Tails false w.number c.items k.items) (sym e) w.tails);
        counts = ap (λ (k : Kept). k.made) e ∙ w.counts;
      };
      settled = λ lt. settled d.items (ap (λ (k : Kept). none_left false k.items) e ∙ left_none c.items false before (subst (λ (k : Kept). k.made < 18446744073709551615) e lt));
    }

pub tails_of : (before after : ℕ) (c d : Code) → ◌≡◌ {A = Kept} (record { made = after; items = d.items }) (without_tails c.items false before) → (n : ℕ) × Tails false n c.items d.items
tails_of before after c d e = let w = without c.items false before in (w.number, subst (λ (k : Kept). Tails false w.number c.items k.items) (sym e) w.tails)

pub at_end : (rest kept items : List CodeItem) (dead : Bool) (made : ℕ) (k : Kept) → rest ≡ [] → items ≡ kept → all_kept kept (without_tails (reverse rest) dead made) ≡ k
    → record { made = made; items = items } ≡ k
at_end rest kept items dead made k e f g =
    ap (λ (l : List CodeItem). record { made = made; items = l }) (f ∙ sym (append-nil kept)) ∙ sym (ap (λ (l : List CodeItem). all_kept kept (without_tails (reverse l) dead made)) e) ∙ g

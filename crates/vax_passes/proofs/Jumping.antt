-- What is kept of a code without its jumps to what comes next, from the end on.
use Rattle.std.proofs.Common.{◌≡◌, ℕ, zero, suc, ◌+◌, ◌<◌, Bool, true, false, cond, List, [], ◌∷◌, ◌++◌, reverse, drop, Option, Some, None, refl, sym, ap, subst, ◌∙◌, arith}
use Rattle.std.specs.Prelude.{not, ◌&&◌, nat_lt, slice_get}
use Rattle.std.proofs.lemmas.Bool.{lt-ltb}
use Rattle.gg_base.proofs.Facts.{false_true, some_none, first_true, second_true, true_or_false}
use Rattle.vax_core.specs.declared.op.Op.{Op}
use Rattle.vax_core.specs.declared.op.Op.TheVariants as ops
use Rattle.vax_core.specs.declared.code.Code.{Code}
use Rattle.vax_core.specs.declared.code.Instr.{Instr}
use Rattle.vax_core.specs.declared.code.CodeItem.{CodeItem}
use Rattle.vax_core.specs.declared.code.CodeItem.TheVariants as item_kind
use Rattle.vax_passes.specs.Jumps.{leads_to, mask_next, HasNoNextJump, DropsNextJumps}
use Rattle.vax_passes.specs.Dropping.{Kept, is_jump, leads_by, is_next_jump, drops, one_more, without_jumps}
use Rattle.vax_passes.proofs.NextJumps.{Skips, none, held, skip, thin}
use Rattle.vax_passes.proofs.Suffixes.{one_on}

pub jump_is : (op : Op) → is_jump op ≡ true → op ≡ ops.Jbr
jump_is ops.Jbr e = refl
jump_is _ e = false_true e

not_true : (b : Bool) → not b ≡ true → b ≡ false
not_true true e = sym e
not_true false e = refl

-- what a jump to what comes next is
record Jumps (x : CodeItem) (rest : List CodeItem) : Type 0 where
  instr : Instr
  label : List ℕ
  is : x ≡ item_kind.Instr instr
  op : instr.op ≡ ops.Jbr
  target : instr.target ≡ Some label
  leads : leads_to label rest ≡ true
  mask : mask_next rest ≡ false

leads_is : (t : Option (List ℕ)) (rest : List CodeItem) → leads_by t rest ≡ true → (l : List ℕ) × (t ≡ Some l) × (leads_to l rest ≡ true)
leads_is None rest e = false_true e
leads_is (Some l) rest e = (l, refl, e)

jumps : (x : CodeItem) (rest : List CodeItem) → is_next_jump x rest ≡ true → Jumps x rest
jumps (item_kind.Label n) rest e = false_true e
jumps (item_kind.Globl n) rest e = false_true e
jumps (item_kind.Mask m) rest e = false_true e
jumps (item_kind.Instr i) rest e =
    let more = second_true (is_jump i.op) _ e in
    let t = leads_is i.target rest (first_true (leads_by i.target rest) _ more) in
    record {
      instr = i;
      label = t.0;
      is = refl;
      op = jump_is i.op (first_true (is_jump i.op) _ e);
      target = t.1;
      leads = t.2;
      mask = not_true (mask_next rest) (second_true (leads_by i.target rest) _ more);
    }

-- ---- the code without them

record Without (start : ℕ) (c : List CodeItem) (k : Kept) : Type 0 where
  number : ℕ
  skips : Skips number c k.items
  counts : k.made ≡ start + number

one_without : (start : ℕ) (x : CodeItem) (c : List CodeItem) (k : Kept) → Without start c k → (b : Bool) → drops x k ≡ b
    → Without start (x ∷ c) (record { made = cond b (k.made + 1) k.made; items = cond b k.items (x ∷ k.items) })
one_without start x c k h false e = record { number = h.number; skips = held x h.skips; counts = h.counts }
one_without start x c k h true e =
    let j = jumps x k.items (second_true _ _ e) in
    record {
      number = suc h.number;
      skips = subst (λ (y : CodeItem). Skips (suc h.number) (y ∷ c) k.items) (sym j.is) (skip j.instr j.label j.op j.target j.leads j.mask h.skips);
      counts = (let f = h.counts in omega (arith, f));
    }

without : (start : ℕ) (c : List CodeItem) → Without start c (without_jumps c (record { made = start; items = [] }))
without start [] = record { number = 0; skips = none; counts = omega arith }
without start (x ∷ c) = one_without start x c (without_jumps c (record { made = start; items = [] })) (without start c) (drops x (without_jumps c (record { made = start; items = [] }))) refl

-- ---- none is left

abbrev pub none_left : List CodeItem → Bool
none_left [] = true
none_left (x ∷ rest) = not (is_next_jump x rest) && none_left rest

not_dropped : (made : ℕ) (b : Bool) → made < 18446744073709551615 → (nat_lt made 18446744073709551615 && b) ≡ false → not b ≡ true
not_dropped made true lt e = absurd (true_or_false _ (ap (λ (x : Bool). x && true) (lt-ltb made 18446744073709551615 lt)) e)
not_dropped made false lt e = refl

one_left : (x : CodeItem) (k : Kept) → (k.made < 18446744073709551615 → none_left k.items ≡ true) → (b : Bool) → drops x k ≡ b → cond b (k.made + 1) k.made < 18446744073709551615
    → none_left (cond b k.items (x ∷ k.items)) ≡ true
one_left x k h true e lt = h (omega (arith, lt))
one_left x k h false e lt = ap (λ (y : Bool). y && none_left k.items) (not_dropped k.made (is_next_jump x k.items) lt e) ∙ h lt

left_none : (start : ℕ) (c : List CodeItem) → (without_jumps c (record { made = start; items = [] })).made < 18446744073709551615
    → none_left (without_jumps c (record { made = start; items = [] })).items ≡ true
left_none start [] lt = refl
left_none start (x ∷ c) lt = one_left x (without_jumps c (record { made = start; items = [] })) (left_none start c) (drops x (without_jumps c (record { made = start; items = [] }))) refl lt

unfolding_left : (x : CodeItem) (rest : List CodeItem) → none_left (x ∷ rest) ≡ true → (is_next_jump x rest ≡ false) × (none_left rest ≡ true)
unfolding_left x rest e = (not_true _ (first_true (not (is_next_jump x rest)) _ e), second_true (not (is_next_jump x rest)) _ e)

masked : (i : Instr) (l : List ℕ) (rest : List CodeItem) → i.op ≡ ops.Jbr → i.target ≡ Some l → leads_to l rest ≡ true → is_next_jump (item_kind.Instr i) rest ≡ false → mask_next rest ≡ true
masked i l rest op target leads e = by (mask_next rest) (sym (
    ap (λ (o : Op). is_jump o && (leads_by i.target rest && not (mask_next rest))) op
    ∙ ap (λ (t : Option (List ℕ)). leads_by t rest && not (mask_next rest)) target
    ∙ ap (λ (b : Bool). b && not (mask_next rest)) leads) ∙ e)
  where
    by : (b : Bool) → not b ≡ false → b ≡ true
    by true e = refl
    by false e = sym e

settled_at : (items : List CodeItem) (p : ℕ) (i : Instr) (l : List ℕ) → none_left items ≡ true → slice_get items p ≡ Some (item_kind.Instr i) → i.op ≡ ops.Jbr → i.target ≡ Some l
    → leads_to l (drop (p + 1) items) ≡ true → mask_next (drop (p + 1) items) ≡ true
settled_at [] p i l e here op target leads = absurd (some_none _ (sym here))
settled_at (x ∷ rest) zero i l e here op target leads =
    let same : x ≡ item_kind.Instr i = cc in
    let one : drop (zero + 1) (x ∷ rest) ≡ rest = one_on x rest zero in
    ap mask_next one
    ∙ masked i l rest op target (sym (ap (leads_to l) one) ∙ leads) (sym (ap (λ (y : CodeItem). is_next_jump y rest) same) ∙ (unfolding_left x rest e).0)
settled_at (x ∷ rest) (suc p) i l e here op target leads =
    let one : drop (suc p + 1) (x ∷ rest) ≡ drop (p + 1) rest = one_on x rest (suc p) ∙ (let f : suc p ≡ p + 1 = omega arith in ap (λ (k : ℕ). drop k rest) f) in
    ap mask_next one ∙ settled_at rest p i l (unfolding_left x rest e).1 here op target (sym (ap (leads_to l) one) ∙ leads)

pub settled : (items : List CodeItem) → none_left items ≡ true → HasNoNextJump items
settled items e = record { each = λ p i l here op target leads. settled_at items p i l e here op target leads }

-- ---- what is written

pub drops_next_jumps : (before after : ℕ) (c d : Code) → d.area ≡ c.area → ◌≡◌ {A = Kept} (record { made = after; items = d.items }) (without_jumps c.items (record { made = before; items = [] }))
    → DropsNextJumps before after c d
drops_next_jumps before after c d area e =
    let w = without before c.items in
    record {
      thinned = record {
        number = w.number;
        area = area;
        items = thin (subst (λ (k : Kept). Skips w.number c.items k.items) (sym e) w.skips);
        counts = ap (λ (k : Kept). k.made) e ∙ w.counts;
      };
      settled = λ lt. settled d.items (ap (λ (k : Kept). none_left k.items) e ∙ left_none before c.items (subst (λ (k : Kept). k.made < 18446744073709551615) e lt));
    }

pub skips_of : (before after : ℕ) (c d : Code) → ◌≡◌ {A = Kept} (record { made = after; items = d.items }) (without_jumps c.items (record { made = before; items = [] }))
    → (n : ℕ) × Skips n c.items d.items
skips_of before after c d e = let w = without before c.items in (w.number, subst (λ (k : Kept). Skips w.number c.items k.items) (sym e) w.skips)

-- one item more, from the end on
pub one_taken : (xs : List CodeItem) (x : CodeItem) (k : Kept) → without_jumps (xs ++ x ∷ []) k ≡ without_jumps xs (one_more x k)
one_taken [] x k = refl
one_taken (y ∷ ys) x k = ap (one_more y) (one_taken ys x k)

-- the loop: one item more is taken off the end
pub taken_off : (left rest kept more : List CodeItem) (x : CodeItem) (made new : ℕ) (k : Kept) → left ≡ rest ++ x ∷ []
    → ◌≡◌ {A = Kept} (record { made = new; items = reverse more }) (one_more x (record { made = made; items = reverse kept }))
    → without_jumps left (record { made = made; items = reverse kept }) ≡ k → without_jumps rest (record { made = new; items = reverse more }) ≡ k
taken_off left rest kept more x made new k e f g =
    ap (without_jumps rest) f
    ∙ sym (one_taken rest x (record { made = made; items = reverse kept }))
    ∙ sym (ap (λ (l : List CodeItem). without_jumps l (record { made = made; items = reverse kept })) e)
    ∙ g

pub at_end : (left kept items : List CodeItem) (made : ℕ) (k : Kept) → left ≡ [] → items ≡ reverse kept → without_jumps left (record { made = made; items = reverse kept }) ≡ k
    → record { made = made; items = items } ≡ k
at_end left kept items made k e f g =
    ap (λ (l : List CodeItem). record { made = made; items = l }) f ∙ sym (ap (λ (l : List CodeItem). without_jumps l (record { made = made; items = reverse kept })) e) ∙ g

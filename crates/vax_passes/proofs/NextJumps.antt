-- Code without jumps to what comes next anyway behaves alike.
use Rattle.std.proofs.Common.{◌≡◌, ℕ, suc, ◌+◌, ◌-◌, ◌<◌, ◌≤◌, Bool, true, false, cond, List, [], ◌∷◌, length, drop, Option, Some, None, Ok, refl, sym, ap, subst, ◌∙◌, arith}
use Rattle.std.specs.Prelude.{◌||◌, slice_get}
use Rattle.std.specs.Str.{bytes_eq}
use Rattle.std.proofs.lemmas.List.{drop-drop}
use Rattle.std.proofs.lemmas.Slice.Eq.{bytes_eq-Decides}
use Rattle.gg_base.proofs.Facts.{false_true, none_or_some}
use Rattle.vax_core.specs.declared.op.Op.{Op}
use Rattle.vax_core.specs.declared.op.Op.TheVariants.{Jbr}
use Rattle.vax_core.specs.declared.operand.Operand.{Operand}
use Rattle.vax_core.specs.declared.code.Code.{Code}
use Rattle.vax_core.specs.declared.code.Instr.{Instr}
use Rattle.vax_core.specs.declared.code.CodeItem.{CodeItem}
use Rattle.vax_core.specs.declared.code.CodeItem.TheVariants as item_kind
use Rattle.vax_machine.specs.State.{State}
use Rattle.vax_machine.specs.Labels.{skipped, next_item, is_label, has_label, label_place}
use Rattle.vax_machine.specs.Step.{step_of, act, at_item, instruction}
use Rattle.vax_machine.specs.Calls.{entry_mask}
use Rattle.vax_machine.specs.Loading.{Loads}
use Rattle.vax_alike.specs.Alike.{Alike}
use Rattle.vax_alike.specs.Corresponding.{Standing, Somewhere, is_instr, Meets, Neither, Both, Alone, EnterAlike, Correspond}
use Rattle.vax_alike.proofs.Beginning.{corresponding_runs_are_alike}
use Rattle.vax_passes.specs.Jumps.{leads_to, mask_next}
use Rattle.vax_passes.specs.Thinned.{Thinned, nothing, kept, dropped}
use Rattle.vax_passes.proofs.Suffixes.{one_on, get_on, get_inside, get_behind, ahead, next_head, next_none, next_behind, next_same, place_of}
use Rattle.vax_passes.proofs.Thinning.{thinned_loads, has_main, labels_once, names_defined, instr_defined}
use Rattle.vax_passes.proofs.Plain.{Always, Any, any_behind, kept_same}

-- The second list is the first without so many jumps, each to a label that stands in front of what is left behind it, where no mask is next.
pub data Skips : ℕ → List CodeItem → List CodeItem → Type 0 where
  none : Skips 0 [] []
  held : {k : ℕ} {c d : List CodeItem} (x : CodeItem) → Skips k c d → Skips k (x ∷ c) (x ∷ d)
  skip : {k : ℕ} {c d : List CodeItem} (i : Instr) (l : List ℕ) → i.op ≡ Jbr → i.target ≡ Some l → leads_to l d ≡ true → mask_next d ≡ false → Skips k c d → Skips (suc k) (item_kind.Instr i ∷ c) d

pub thin : {k : ℕ} {c d : List CodeItem} → Skips k c d → Thinned k c d
thin none = nothing
thin (held x r) = kept x (thin r)
thin (skip i l op target leads mask r) = dropped i (thin r)

-- ---- what comes next

data Ahead (c d : List CodeItem) : Type 0 where
  End : ahead c ≡ [] → ahead d ≡ [] → Ahead c d
  AtMask : (m k : ℕ) (x y : List CodeItem) → ahead c ≡ item_kind.Mask m ∷ x → ahead d ≡ item_kind.Mask m ∷ y → Skips k x y → Ahead c d
  AtInstr : (i : Instr) (k : ℕ) (x y : List CodeItem) → ahead c ≡ item_kind.Instr i ∷ x → ahead d ≡ item_kind.Instr i ∷ y → Skips k x y → Ahead c d
  AtSkip : (i : Instr) (l : List ℕ) (j k : ℕ) (x : List CodeItem) → ahead c ≡ item_kind.Instr i ∷ x → i.op ≡ Jbr → i.target ≡ Some l → j ≤ skipped d → leads_to l (drop j d) ≡ true
      → mask_next (drop j d) ≡ false → Skips k x (drop j d) → Ahead c d

behind_two : (x y : CodeItem) (c d : List CodeItem) → ahead (x ∷ c) ≡ ahead c → ahead (y ∷ d) ≡ ahead d → skipped (y ∷ d) ≡ skipped d + 1 → Ahead c d → Ahead (x ∷ c) (y ∷ d)
behind_two x y c d e f g (End a b) = End (e ∙ a) (f ∙ b)
behind_two x y c d e f g (AtMask m k s t a b r) = AtMask m k s t (e ∙ a) (f ∙ b) r
behind_two x y c d e f g (AtInstr i k s t a b r) = AtInstr i k s t (e ∙ a) (f ∙ b) r
behind_two x y c d e f g (AtSkip i l j k s a op target le leads mask r) = AtSkip i l (suc j) k s (e ∙ a) op target (omega (arith, g, le)) leads mask r

ahead_of : {k : ℕ} {c d : List CodeItem} → Skips k c d → Ahead c d
ahead_of none = End refl refl
ahead_of (held {c = c} {d = d} (item_kind.Label n) r) = behind_two (item_kind.Label n) (item_kind.Label n) c d (one_on _ c (skipped c)) (one_on _ d (skipped d)) refl (ahead_of r)
ahead_of (held {c = c} {d = d} (item_kind.Globl n) r) = behind_two (item_kind.Globl n) (item_kind.Globl n) c d (one_on _ c (skipped c)) (one_on _ d (skipped d)) refl (ahead_of r)
ahead_of (held {k = k} {c = c} {d = d} (item_kind.Mask m) r) = AtMask m k c d refl refl r
ahead_of (held {k = k} {c = c} {d = d} (item_kind.Instr i) r) = AtInstr i k c d refl refl r
ahead_of (skip {k = k} {c = c} {d = d} i l op target leads mask r) = AtSkip i l 0 k c refl op target (omega arith) leads mask r

-- where no mask is next, none stands there
unmasked : (s : List CodeItem) → mask_next s ≡ false → entry_mask (slice_get s (skipped s)) ≡ None
unmasked [] e = refl
unmasked (item_kind.Label n ∷ s) e = ap entry_mask (get_on _ s (skipped s)) ∙ unmasked s e
unmasked (item_kind.Globl n ∷ s) e = ap entry_mask (get_on _ s (skipped s)) ∙ unmasked s e
unmasked (item_kind.Mask m ∷ s) e = false_true (sym e)
unmasked (item_kind.Instr i ∷ s) e = refl

-- ---- where a label stands

-- the label stands in both codes: in the second among what is in front
record Lands (l : List ℕ) (c d : List CodeItem) : Type 0 where
  place : ℕ
  other : ℕ
  number : ℕ
  rest : List CodeItem
  here : drop place c ≡ item_kind.Label l ∷ rest
  within : other ≤ skipped d
  skips : Skips number (drop place c) (drop other d)

lands_on : (l : List ℕ) (x y : CodeItem) (c d : List CodeItem) → skipped (y ∷ d) ≡ skipped d + 1 → Lands l c d → Lands l (x ∷ c) (y ∷ d)
lands_on l x y c d g h = record { place = suc h.place; other = suc h.other; number = h.number; rest = h.rest; here = h.here; within = (let w = h.within in omega (arith, g, w)); skips = h.skips }

lands_by : (l m : List ℕ) (k : ℕ) (c d : List CodeItem) → Skips k c d → (leads_to l d ≡ true → Lands l c d) → (b : Bool) → bytes_eq m l ≡ b → (b || leads_to l d) ≡ true
    → Lands l (item_kind.Label m ∷ c) (item_kind.Label m ∷ d)
lands_by l m k c d r go true is e =
    let same : m ≡ l = (bytes_eq-Decides m l).0 is in
    record { place = 0; other = 0; number = k; rest = c; here = ap (λ (n : List ℕ). item_kind.Label n ∷ c) same; within = omega arith; skips = held (item_kind.Label m) r }
lands_by l m k c d r go false is e = lands_on l (item_kind.Label m) (item_kind.Label m) c d refl (go e)

lands : {k : ℕ} {c d : List CodeItem} (l : List ℕ) → Skips k c d → leads_to l d ≡ true → Lands l c d
lands l none e = false_true e
lands l (held {k = k} {c = c} {d = d} (item_kind.Label m) r) e = lands_by l m k c d r (lands l r) (bytes_eq m l) refl e
lands l (held {c = c} {d = d} (item_kind.Globl m) r) e = lands_on l (item_kind.Globl m) (item_kind.Globl m) c d refl (lands l r e)
lands l (held (item_kind.Mask m) r) e = false_true e
lands l (held (item_kind.Instr i) r) e = false_true e
lands l (skip {c = c} {d = d} i n op target leads mask r) e =
    let h = lands l r e in
    record { place = suc h.place; other = h.other; number = h.number; rest = h.rest; here = h.here; within = h.within; skips = h.skips }

-- the labels of the whole
abbrev Found : List ℕ → List CodeItem → List CodeItem → Type 0
Found n c d = (j : ℕ) × Skips j (drop (label_place c n) c) (drop (label_place d n) d)

both_on : (n : List ℕ) (x y : CodeItem) (c d : List CodeItem) → Found n c d → (j : ℕ) × Skips j (drop (label_place c n + 1) (x ∷ c)) (drop (label_place d n + 1) (y ∷ d))
both_on n x y c d f = (
  f.0,
  subst (λ (s : List CodeItem). Skips f.0 s (drop (label_place d n + 1) (y ∷ d))) (sym (one_on x c (label_place c n)))
      (subst (λ (s : List CodeItem). Skips f.0 (drop (label_place c n) c) s) (sym (one_on y d (label_place d n))) f.1),
)

found_by : (x : CodeItem) (n : List ℕ) (k : ℕ) (c d : List CodeItem) → Skips k c d → (has_label c n ≡ true → Found n c d) → (b : Bool) → (b || has_label c n) ≡ true
    → (j : ℕ) × Skips j (drop (cond b 0 (label_place c n + 1)) (x ∷ c)) (drop (cond b 0 (label_place d n + 1)) (x ∷ d))
found_by x n k c d r go true e = (k, held x r)
found_by x n k c d r go false e = both_on n x x c d (go e)

found : {k : ℕ} {c d : List CodeItem} (n : List ℕ) → Skips k c d → has_label c n ≡ true → Found n c d
found n none e = false_true e
found n (held {k = k} {c = c} {d = d} x r) e = found_by x n k c d r (found n r) (is_label x n) e
found n (skip {c = c} {d = d} i l op target leads mask r) e =
    let f = found n r e in
    (f.0, subst (λ (s : List CodeItem). Skips f.0 s (drop (label_place d n) d)) (sym (one_on (item_kind.Instr i) c (label_place c n))) f.1)

-- ---- a jump does nothing but to go on elsewhere

jumped : (m : State) (op : Op) (os : List Operand) (target : Option (List ℕ)) (l : List ℕ) (place : ℕ) → op ≡ Jbr → target ≡ Some l
    → instruction (record m { place = place }) op os target ≡ Ok (None, record m { place = label_place m.items l })
unfolding instruction
jumped m op os target l place e f =
    ap (λ (x : Op). instruction (record m { place = place }) x os target) e ∙ ap (λ (t : Option (List ℕ)). instruction (record m { place = place }) Jbr os t) f

pub jump_acts : (m : State) (cs : List CodeItem) (p : ℕ) (i : Instr) (l : List ℕ) → m.items ≡ cs → m.place ≡ p → slice_get cs (next_item cs p) ≡ Some (item_kind.Instr i) → i.op ≡ Jbr
    → i.target ≡ Some l
    → act m ≡ Ok (None, record m { place = label_place cs l })
unfolding act
jump_acts m cs p i l items place here op target =
    ap (λ (xs : List CodeItem). at_item (slice_get xs (next_item xs m.place)) (next_item xs m.place) m) items
    ∙ ap (λ (x : ℕ). at_item (slice_get cs (next_item cs x)) (next_item cs x) m) place
    ∙ ap (λ (o : Option CodeItem). at_item o (next_item cs p) m) here
    ∙ jumped m i.op i.operands i.target l (next_item cs p + 1) op target
    ∙ ap (λ (xs : List CodeItem). Ok (None, record m { place = label_place xs l })) items

-- ---- the places of both codes

module _ (total : ℕ) (c d : Code) (area : d.area ≡ c.area) (whole : Skips total c.items d.items) where
  -- so far behind is the first code, in its items; and the second stands where the same comes next
  record Here (k p q : ℕ) : Type 0 where
    place : ℕ
    number : ℕ
    skips : Skips number (drop p c.items) (drop place d.items)
    next : next_item d.items place ≡ next_item d.items q
    left : k ≡ length c.items - p

  abbrev At : Standing
  At k p q = Here k p q

  module _ (loads : Loads c) where
    labels : (l : List ℕ) → has_label c.items l ≡ true → Somewhere At (label_place c.items l) (label_place d.items l)
    labels l e = let f = found l whole e in (length c.items - label_place c.items l, record { place = label_place d.items l; number = f.0; skips = f.1; next = refl; left = refl })

    -- where the places behind the next items are
    on : (p q n : ℕ) (x y : CodeItem) (s t : List CodeItem) → ahead (drop p c.items) ≡ x ∷ s → ahead (drop q d.items) ≡ y ∷ t → Skips n s t
        → Somewhere At (next_item c.items p + 1) (next_item d.items q + 1)
    on p q n x y s t a b r = (
      length c.items - (next_item c.items p + 1),
      record {
        place = next_item d.items q + 1;
        number = n;
        skips = subst (λ (u : List CodeItem). Skips n u (drop (next_item d.items q + 1) d.items)) (sym (next_behind c.items p x s a))
            (subst (λ (u : List CodeItem). Skips n s u) (sym (next_behind d.items q y t b)) r);
        next = refl;
        left = refl;
      },
    )

    module _ (k p q : ℕ) (h : Here k p q) where
      -- an equation at the second code's own place
      there : {A : Type 0} (f : Option CodeItem → A) (v : A) → f (slice_get d.items (next_item d.items h.place)) ≡ v → f (slice_get d.items (next_item d.items q)) ≡ v
      there f v e = sym (ap (λ (x : ℕ). f (slice_get d.items x)) h.next) ∙ e

      some_there : (y : CodeItem) → slice_get d.items (next_item d.items h.place) ≡ Some y → slice_get d.items (next_item d.items q) ≡ Some y
      some_there y e = sym (ap (λ (x : ℕ). slice_get d.items x) h.next) ∙ e

      on_there : (p' : ℕ) → Somewhere At p' (next_item d.items h.place + 1) → Somewhere At p' (next_item d.items q + 1)
      on_there p' s = subst (λ (x : ℕ). Somewhere At p' (x + 1)) h.next s

      -- the first code alone jumps to where it comes next anyway
      module _ (i : Instr) (l : List ℕ) (j n : ℕ) (x : List CodeItem) (a : ahead (drop p c.items) ≡ item_kind.Instr i ∷ x) (op : i.op ≡ Jbr) (target : i.target ≡ Some l)
          (le : j ≤ skipped (drop h.place d.items)) (leads : leads_to l (drop j (drop h.place d.items)) ≡ true) (mask : mask_next (drop j (drop h.place d.items)) ≡ false)
          (r : Skips n x (drop j (drop h.place d.items))) where
        abbrev landed : Lands l x (drop j (drop h.place d.items))
        landed = lands l r leads

        abbrev from : ℕ
        from = next_item c.items p + 1

        here : slice_get c.items (next_item c.items p) ≡ Some (item_kind.Instr i)
        here = next_head c.items p _ x a

        rest_is : drop (from + landed.place) c.items ≡ drop landed.place x
        rest_is = sym (drop-drop landed.place from c.items) ∙ ap (λ (s : List CodeItem). drop landed.place s) (next_behind c.items p _ x a)

        to_is : label_place c.items l ≡ from + landed.place
        to_is = place_of c.items (from + landed.place) l landed.rest (labels_once c loads) (rest_is ∙ landed.here)

        -- in the second code
        abbrev first : ℕ
        first = h.place + j

        first_is : drop first d.items ≡ drop j (drop h.place d.items)
        first_is = sym (drop-drop j h.place d.items)

        other_is : drop (first + landed.other) d.items ≡ drop landed.other (drop j (drop h.place d.items))
        other_is = sym (drop-drop landed.other first d.items) ∙ ap (λ (s : List CodeItem). drop landed.other s) first_is

        within : landed.other ≤ skipped (drop first d.items)
        within = subst (λ (s : List CodeItem). landed.other ≤ skipped s) (sym first_is) landed.within

        same_next : next_item d.items (first + landed.other) ≡ next_item d.items q
        same_next = next_same d.items first landed.other within ∙ next_same d.items h.place j le ∙ h.next

        lands_here : Here (length c.items - label_place c.items l) (label_place c.items l) q
        lands_here = record {
          place = first + landed.other;
          number = landed.number;
          skips = subst (λ (s : List CodeItem). Skips landed.number s (drop (first + landed.other) d.items)) (sym (ap (λ (y : ℕ). drop y c.items) to_is ∙ rest_is))
              (subst (λ (s : List CodeItem). Skips landed.number (drop landed.place x) s) (sym other_is) landed.skips);
          next = same_next;
          left = refl;
        }

        none_masked : entry_mask (slice_get d.items (next_item d.items q)) ≡ None
        none_masked =
            there entry_mask None
            (sym (ap (λ (y : ℕ). entry_mask (slice_get d.items y)) (next_same d.items h.place j le))
            ∙ sym (ap entry_mask (get_behind d.items first (skipped (drop first d.items))))
            ∙ unmasked (drop first d.items) (ap mask_next first_is ∙ mask))

        fewer : length c.items - label_place c.items l < k
        fewer = let inside = get_inside c.items (next_item c.items p) _ here in let left = h.left in let to = to_is in omega (arith, inside, left, to)

        alone : Meets c.items d.items At Always Any k p q
        alone =
            Alone (label_place c.items l) (length c.items - label_place c.items l) fewer lands_here
            (λ m items place going ready. record {
              conditions = m.conditions;
              acts = jump_acts m c.items p i l items place here op target;
              negative = refl;
              zero = refl;
              carry = λ t. (tt, refl);
            })

      meets_by : Ahead (drop p c.items) (drop h.place d.items) → Meets c.items d.items At Always Any k p q
      meets_by (End a b) =
          let x = next_none c.items p a in
          let y = next_none d.items h.place b in
          Neither (ap is_instr x) (there is_instr false (ap is_instr y))
      meets_by (AtMask m n s t a b r) =
          let x = next_head c.items p _ s a in
          let y = next_head d.items h.place _ t b in
          Neither (ap is_instr x) (there is_instr false (ap is_instr y))
      meets_by (AtInstr i n s t a b r) =
          let x = next_head c.items p _ s a in
          Both i i x (some_there _ (next_head d.items h.place _ t b))
          (kept_same c.items d.items At labels i p q (instr_defined c.items c.area c.items (next_item c.items p) i (names_defined c loads) x) (λ e. on_there _ (on p h.place n _ _ s t a b r)))
      meets_by (AtSkip i l j n x a op target le leads mask r) = alone i l j n x a op target le leads mask r

      enters_by : Ahead (drop p c.items) (drop h.place d.items) → EnterAlike c.items d.items At p q
      enters_by (End a b) =
          let x = next_none c.items p a in
          record { mask = there entry_mask _ (ap entry_mask (next_none d.items h.place b)) ∙ sym (ap entry_mask x); behind = λ m e. absurd (none_or_some _ m (ap entry_mask x) e) }
      enters_by (AtMask m n s t a b r) = record {
        mask = there entry_mask _ (ap entry_mask (next_head d.items h.place _ t b)) ∙ sym (ap entry_mask (next_head c.items p _ s a));
        behind = λ z e. on_there _ (on p h.place n _ _ s t a b r);
      }
      enters_by (AtInstr i n s t a b r) =
          let x = next_head c.items p _ s a in
          record { mask = there entry_mask _ (ap entry_mask (next_head d.items h.place _ t b)) ∙ sym (ap entry_mask x); behind = λ m e. absurd (none_or_some _ m (ap entry_mask x) e) }
      enters_by (AtSkip i l j n x a op target le leads mask r) =
          let y = next_head c.items p _ x a in
          record { mask = none_masked i l j n x a op target le leads mask r ∙ sym (ap entry_mask y); behind = λ m e. absurd (none_or_some _ m (ap entry_mask y) e) }

    stand : Correspond c d At Always Any
    stand = record {
      area = area;
      main = has_main c loads;
      enters = λ l e. (let s = labels l e in enters_by s.0 _ _ s.1 (ahead_of s.1.skips));
      meets = λ k p q at. meets_by k p q at (ahead_of at.skips);
      begins = λ input bytes e. tt;
      goes_on = λ m e g r. any_behind (step_of m);
    }

  pub skips_alike : Alike c d
  skips_alike = record {
    loads = thinned_loads total c d area (thin whole);
    runs = λ loads input bytes. corresponding_runs_are_alike At Always Any c d (stand loads) input bytes;
  }

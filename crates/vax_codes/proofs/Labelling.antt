-- A code whose branches go to the ends of their chains: how it is made from the end on, and that no chain is left in it.
use Rattle.std.proofs.Common.{◌≡◌, ℕ, zero, suc, ◌+◌, ◌<◌, Bool, true, false, cond, List, [], ◌∷◌, ◌++◌, length, reverse, Option, Some, None, refl, sym, ap, subst, ◌∙◌, arith}
use Rattle.std.specs.Prelude.{◌&&◌, nat_lt, slice_get, slice_index_or}
use Rattle.std.specs.List.{list_all}
use Rattle.std.proofs.lemmas.Bool.{lt-ltb}
use Rattle.gg_base.proofs.Facts.{some_none, true_or_false, first_true, second_true}
use Rattle.vax_core.specs.declared.op.Op.{Op}
use Rattle.vax_core.specs.declared.op.Op.TheVariants.{Jbr}
use Rattle.vax_core.specs.declared.code.AreaItem.{AreaItem}
use Rattle.vax_core.specs.declared.code.Code.{Code}
use Rattle.vax_core.specs.declared.code.Instr.{Instr}
use Rattle.vax_core.specs.declared.code.CodeItem.{CodeItem}
use Rattle.vax_core.specs.declared.code.CodeItem.TheVariants as item_kind
use Rattle.vax_core.specs.Ops.{shape}
use Rattle.vax_core.specs.Valid.{is_name, are_operands, is_target, is_instr, is_area_item, is_code_item, is_code}
use Rattle.vax_machine.specs.Labels.{next_item, label_place}
use Rattle.vax_passes.specs.Dropping.{Kept, put_first}
use Rattle.vax_codes.specs.Chains.{Leads, here, on, Ends, Turned, nothing, IsTurned, HasNoChain, TurnsChains}
use Rattle.vax_codes.specs.Chains.{kept as one_is_kept, turned as one_is_turned}
use Rattle.vax_codes.specs.Hops.{hops_of, last_of, AreLast}
use Rattle.vax_codes.specs.Turning.{relabelled, turned_in, one_turned, with_labels}
use Rattle.vax_codes.proofs.Chaining.{IsTurnedTo, IsSettled, settled_at, turned_at}
use Rattle.vax_passes.proofs.Suffixes.{get_inside}
use Rattle.vax_machine_lists.proofs.Soundness.{valid_at}
use Rattle.vax_codes.proofs.Turning.{as_it_was, turned, AreTurned, are_turned, same_next, same_place, AtOnce, at_once}

-- parts of an item that is an instruction
abbrev op_in : CodeItem → Op
op_in (item_kind.Instr i) = i.op
op_in x = Jbr

abbrev target_in : CodeItem → Option (List ℕ)
target_in (item_kind.Instr i) = i.target
target_in x = None

module _ (cs : List CodeItem) where
  -- what is known of the label to be put in place of an item's own
  abbrev pub NameOf : CodeItem → Option (List ℕ) → Type 0
  NameOf x None = IsSettled cs x
  NameOf x (Some m) = IsTurnedTo cs x m

  abbrev pub AreNames : List CodeItem → List (Option (List ℕ)) → Type 0
  AreNames [] os = Unit {0}
  AreNames (x ∷ xs) [] = ⊥
  AreNames (x ∷ xs) (o ∷ os) = NameOf x o × AreNames xs os

  names_by : (xs : List CodeItem) (os : List (Option (List ℕ))) → length os ≡ length xs
      → ((p : ℕ) (x : CodeItem) → slice_get xs p ≡ Some x → NameOf x (slice_index_or os p None)) → AreNames xs os
  names_by [] os e h = tt
  names_by (x ∷ xs) [] e h = absurd (omega (arith, e))
  names_by (x ∷ xs) (o ∷ os) e h = (h zero x refl, names_by xs os (omega (arith, e)) (λ p y k. h (suc p) y k))

  name_by : (places : List ℕ) (p : ℕ) (x : CodeItem) → ((last_of cs (hops_of cs) places p ≡ None) → IsSettled cs x) → ((m : List ℕ) → last_of cs (hops_of cs) places p ≡ Some m → IsTurnedTo cs x m)
      → (o : Option (List ℕ)) → o ≡ last_of cs (hops_of cs) places p → NameOf x o
  name_by places p x settled turns None e = settled (sym e)
  name_by places p x settled turns (Some m) e = turns m (sym e)

  pub are_names : (os : List (Option (List ℕ))) → AreLast cs os → AreNames cs os
  are_names os h =
      names_by cs os h.each (λ p x at. (
      let lt = get_inside cs p x at in
      name_by h.places p x (λ e. settled_at cs h.places h.far p lt x at e) (λ m e. turned_at cs h.places h.far p lt x m at e) (slice_index_or os p None) (h.name p lt)))

  -- ---- the code that is made

  record Makes (start : ℕ) (xs : List CodeItem) (k : Kept) : Type 0 where
    number : ℕ
    items : Turned cs number xs k.items
    counts : k.made ≡ start + number

  kept_first : (start : ℕ) (x : CodeItem) (xs : List CodeItem) (k : Kept) → Makes start xs k → Makes start (x ∷ xs) (put_first x k)
  kept_first start x xs k h = record { number = h.number; items = one_is_kept x h.items; counts = h.counts }

  turned_first : (start : ℕ) (x : CodeItem) (m : List ℕ) (xs : List CodeItem) (k : Kept) → IsTurnedTo cs x m → Makes start xs k → Makes start (x ∷ xs) (turned_in x m k)
  turned_first start x m xs k t h =
      subst (λ (y : CodeItem). Makes start (y ∷ xs) (turned_in y m k)) (sym t.is) (record {
        number = suc h.number;
        items = one_is_turned t.instr t.test t.number t.label m t.action t.target t.leads t.ends h.items;
        counts = (let e = h.counts in omega (arith, e));
      })

  name_first : (start : ℕ) (x : CodeItem) (o : Option (List ℕ)) (xs : List CodeItem) (k : Kept) → NameOf x o → Makes start xs k → Makes start (x ∷ xs) (one_turned x o k)
  name_first start x None xs k t h = kept_first start x xs k h
  name_first start x (Some m) xs k t h = by (nat_lt k.made 18446744073709551615)
    where
      by : (b : Bool) → Makes start (x ∷ xs) (cond b (turned_in x m k) (put_first x k))
      by true = turned_first start x m xs k t h
      by false = kept_first start x xs k h

  makes : (start : ℕ) (xs : List CodeItem) (os : List (Option (List ℕ))) → AreNames xs os → Makes start xs (with_labels xs os (record { made = start; items = [] }))
  makes start [] os h = record { number = 0; items = nothing; counts = omega arith }
  makes start (x ∷ xs) [] h = absurd h
  makes start (x ∷ xs) (o ∷ os) h = name_first start x o xs _ h.0 (makes start xs os h.1)

  -- ---- no chain is left

  -- by the chains of the code that was given
  AllSettled : List CodeItem → Type 0
  AllSettled ys = (p : ℕ) (y : CodeItem) → slice_get ys p ≡ Some y → IsSettled cs y

  settled_first : (x : CodeItem) (ys : List CodeItem) → IsSettled cs x → AllSettled ys → AllSettled (x ∷ ys)
  unfolding AllSettled
  settled_first x ys s h zero y at = let same : x ≡ y = let f : Some x ≡ Some y = at in cc in subst (λ (z : CodeItem). IsSettled cs z) same s
  settled_first x ys s h (suc p) y at = h p y at

  -- no chain goes on where one ends
  ends_here : (n : ℕ) (l m : List ℕ) → Ends cs l → Leads cs n l m → m ≡ l
  ends_here zero l m e here = refl
  ends_here (suc n) l m e (on {k = k} i at op target leads) = absurd (e.none i k at op target)

  label_same : (j i : Instr) (a b : List ℕ) → item_kind.Instr (record j { target = Some a }) ≡ item_kind.Instr i → i.target ≡ Some b → a ≡ b
  label_same j i a b is target = let f : Some a ≡ Some b = ap target_in is ∙ target in cc

  relabelled_settled : (x : CodeItem) (m : List ℕ) → IsTurnedTo cs x m → IsSettled cs (relabelled x m)
  relabelled_settled x m t =
      subst (λ (y : CodeItem). IsSettled cs (relabelled y m)) (sym t.is) (record {
        each = λ i s n l k is action target leads ends. (
            let same : m ≡ l = label_same t.instr i m l is target in
            ends_here n l k (subst (λ (z : List ℕ). Ends cs z) same t.ends) leads);
      })

  settle_by : (x : CodeItem) (m : List ℕ) (k : Kept) → IsTurnedTo cs x m → (k.made < 18446744073709551615 → AllSettled k.items) → (b : Bool) → nat_lt k.made 18446744073709551615 ≡ b
      → (cond b (turned_in x m k) (put_first x k)).made < 18446744073709551615 → AllSettled (cond b (turned_in x m k) (put_first x k)).items
  settle_by x m k t h true e lt = settled_first (relabelled x m) k.items (relabelled_settled x m t) (h (omega (arith, lt)))
  settle_by x m k t h false e lt = absurd (true_or_false _ (lt-ltb k.made 18446744073709551615 lt) e)

  settle_first : (x : CodeItem) (o : Option (List ℕ)) (k : Kept) → NameOf x o → (k.made < 18446744073709551615 → AllSettled k.items)
      → (one_turned x o k).made < 18446744073709551615 → AllSettled (one_turned x o k).items
  settle_first x None k t h lt = settled_first x k.items t (h lt)
  settle_first x (Some m) k t h lt = settle_by x m k t h (nat_lt k.made 18446744073709551615) refl lt

  all_settled : (start : ℕ) (xs : List CodeItem) (os : List (Option (List ℕ))) → AreNames xs os → (with_labels xs os (record { made = start; items = [] })).made < 18446744073709551615
      → AllSettled (with_labels xs os (record { made = start; items = [] })).items
  unfolding AllSettled
  all_settled start [] os h lt p y at = absurd (some_none _ (sym at))
  all_settled start (x ∷ xs) [] h lt p y at = absurd h
  all_settled start (x ∷ xs) (o ∷ os) h lt p y at = settle_first x o (with_labels xs os (record { made = start; items = [] })) h.0 (all_settled start xs os h.1) lt p y at

-- ---- chains of the code that is made

chains_on : (cs : List CodeItem) (a b : ℕ) (k l m : List ℕ) → Leads cs a k l → Leads cs b l m → (n : ℕ) × Leads cs n k m
chains_on cs zero b k l m here more = (b, more)
chains_on cs (suc a) b k l m (on {k = j} i at op target leads) more = let r = chains_on cs a b j l m leads more in (suc r.0, on i at op target r.1)

module _ (cs ds : List CodeItem) (turns : AreTurned cs cs ds) where
  same_behind : (l : List ℕ) → next_item ds (label_place ds l) ≡ next_item cs (label_place cs l)
  same_behind l = same_next cs cs ds (label_place ds l) turns ∙ ap (λ (p : ℕ). next_item cs p) (same_place cs cs ds l turns)

  -- a jump of the second code behind a label is a chain of the first
  jump_before : (l k : List ℕ) (i : Instr) (o : Option CodeItem) → slice_get cs (next_item cs (label_place cs l)) ≡ o → AtOnce cs o (Some (item_kind.Instr i)) → i.op ≡ Jbr → i.target ≡ Some k
      → (n : ℕ) × Leads cs n l k
  jump_before l k i None at h op target = absurd h
  jump_before l k i (Some x) at (as_it_was is) op target = (1, on i (at ∙ ap (λ (y : CodeItem). Some y) (sym is)) op target here)
  jump_before l k i (Some x) at (turned j r t n a b xj yr act op' os ta tb leads) op target =
      let same : i.op ≡ r.op = ap op_in yr in
      let label : b ≡ k = (let f : Some k ≡ Some b = sym target ∙ ap target_in yr ∙ tb in cc) in
      chains_on cs 1 (suc n) l a k (on j (at ∙ ap (λ (y : CodeItem). Some y) xj) (sym op' ∙ sym same ∙ op) ta here) (subst (λ (z : List ℕ). Leads cs (suc n) a z) label leads)

  chain_before : (n : ℕ) (l m : List ℕ) → Leads ds n l m → (k : ℕ) × Leads cs k l m
  chain_before zero l m here = (0, here)
  chain_before (suc n) l m (on {k = k} i at op target leads) =
      let one = jump_before l k i _ refl
      (subst (λ (o : Option CodeItem). AtOnce cs (slice_get cs (next_item cs (label_place cs l))) o) at
      (subst (λ (p : ℕ). AtOnce cs (slice_get cs (next_item cs (label_place cs l))) (slice_get ds p)) (sym (same_behind l))
      (at_once cs (next_item cs (label_place cs l)) cs ds turns))) op target in
      let rest = chain_before n k m leads in
      chains_on cs one.0 rest.0 l k m one.1 rest.1

  -- a label at which a chain of the second code ends is one at which one of the first does
  jump_after : (l k : List ℕ) (i : Instr) (o : Option CodeItem) → slice_get ds (next_item ds (label_place ds l)) ≡ o → AtOnce cs (Some (item_kind.Instr i)) o → i.op ≡ Jbr → i.target ≡ Some k
      → Ends ds l → ⊥
  jump_after l k i None at h op target ends = h
  jump_after l k i (Some y) at (as_it_was is) op target ends = ends.none i k (at ∙ ap (λ (z : CodeItem). Some z) is) op target
  jump_after l k i (Some y) at (turned j r t n a b xj yr act op' os ta tb leads) op target ends =
      ends.none r b (at ∙ ap (λ (z : CodeItem). Some z) yr) (op' ∙ sym (ap op_in xj) ∙ op) tb

  ends_before : (l : List ℕ) → Ends ds l → Ends cs l
  ends_before l ends = record {
    none = λ i k at op target. jump_after l k i _ refl
        (subst (λ (o : Option CodeItem). AtOnce cs o (slice_get ds (next_item ds (label_place ds l)))) at
        (subst (λ (p : ℕ). AtOnce cs (slice_get cs (next_item cs (label_place cs l))) (slice_get ds p)) (sym (same_behind l)) (at_once cs (next_item cs (label_place cs l)) cs ds turns)))
        op target ends;
  }

  no_chain : AllSettled cs ds → HasNoChain ds
  unfolding AllSettled
  no_chain h = record {
    each = λ p i t l m n at action target leads ends. (
        let k = chain_before n l m leads in
        (h p (item_kind.Instr i) at).each i t k.0 l m refl action target k.1 (ends_before m ends));
  }

-- ---- what is written

module _ (before after : ℕ) (c d : Code) (area : d.area ≡ c.area) (os : List (Option (List ℕ))) (last : AreLast c.items os)
    (made : ◌≡◌ {A = Kept} (record { made = after; items = d.items }) (with_labels c.items os (record { made = before; items = [] }))) where
  abbrev whole : Makes c.items before c.items (with_labels c.items os (record { made = before; items = [] }))
  whole = makes c.items before c.items os (are_names c.items os last)

  pub is_turned : IsTurned c d
  is_turned = record { area = area; number = whole.number; items = subst (λ (k : Kept). Turned c.items whole.number c.items k.items) (sym made) whole.items }

  pub turns_chains : TurnsChains before after c d
  unfolding is_turned makes
  turns_chains = record {
    turns = is_turned;
    counts = ap (λ (k : Kept). k.made) made ∙ whole.counts;
    settled = λ lt. no_chain c.items d.items (are_turned c.items is_turned.items)
        (subst (λ (k : Kept). AllSettled c.items k.items) (sym made) (all_settled c.items before c.items os (are_names c.items os last) (subst (λ (k : Kept). k.made < 18446744073709551615) made lt)));
  }

-- ---- the loop: one item more is taken off the end, with its name

one_taken : (xs : List CodeItem) (os : List (Option (List ℕ))) (x : CodeItem) (o : Option (List ℕ)) (k : Kept) → length os ≡ length xs
    → with_labels (xs ++ x ∷ []) (os ++ o ∷ []) k ≡ with_labels xs os (one_turned x o k)
one_taken [] [] x o k e = refl
one_taken [] (p ∷ os) x o k e = absurd (omega (arith, e))
one_taken (y ∷ xs) [] x o k e = absurd (omega (arith, e))
one_taken (y ∷ xs) (p ∷ os) x o k e = ap (one_turned y p) (one_taken xs os x o k (omega (arith, e)))

pub taken_off : (left rest kept more : List CodeItem) (names others : List (Option (List ℕ))) (x : CodeItem) (o : Option (List ℕ)) (made new : ℕ) (k : Kept) → left ≡ rest ++ x ∷ []
    → names ≡ others ++ o ∷ [] → length others ≡ length rest → ◌≡◌ {A = Kept} (record { made = new; items = reverse more }) (one_turned x o (record { made = made; items = reverse kept }))
    → with_labels left names (record { made = made; items = reverse kept }) ≡ k → with_labels rest others (record { made = new; items = reverse more }) ≡ k
taken_off left rest kept more names others x o made new k e n len f g =
    ap (with_labels rest others) f
    ∙ sym (one_taken rest others x o (record { made = made; items = reverse kept }) len)
    ∙ ap (λ (l : List CodeItem). with_labels l (others ++ o ∷ []) (record { made = made; items = reverse kept })) (sym e)
    ∙ ap (λ (l : List (Option (List ℕ))). with_labels left l (record { made = made; items = reverse kept })) (sym n)
    ∙ g

pub at_end : (left kept items : List CodeItem) (names : List (Option (List ℕ))) (made : ℕ) (k : Kept) → left ≡ [] → items ≡ reverse kept
    → with_labels left names (record { made = made; items = reverse kept }) ≡ k → ◌≡◌ {A = Kept} (record { made = made; items = items }) k
at_end left kept items names made k e f g =
    ap (λ (l : List CodeItem). record { made = made; items = l }) f ∙ sym (ap (λ (l : List CodeItem). with_labels l names (record { made = made; items = reverse kept })) e) ∙ g

-- ---- it can be written

module _ (cs : List CodeItem) (valid : list_all is_code_item cs ≡ true) where
  -- a jump's label is a name
  jump_name : (q : ℕ) (i : Instr) (m : List ℕ) → slice_get cs q ≡ Some (item_kind.Instr i) → i.op ≡ Jbr → i.target ≡ Some m → is_name m ≡ true
  jump_name q i m at op target =
      sym (ap (λ (o : Op). is_target (shape o).target (Some m)) op)
      ∙ sym (ap (λ (t : Option (List ℕ)). is_target (shape i.op).target t) target)
      ∙ second_true (are_operands (shape i.op).operands i.operands) _ (valid_at cs q (item_kind.Instr i) valid at)

  last_name : (n : ℕ) (l m : List ℕ) → Leads cs (suc n) l m → is_name m ≡ true
  last_name zero l m (on i at op target here) = jump_name _ i m at op target
  last_name (suc n) l m (on {k = k} i at op target leads) = last_name n k m leads

  label_valid : (b : Bool) (l m : List ℕ) → is_target b (Some l) ≡ true → is_name m ≡ true → is_target b (Some m) ≡ true
  label_valid true l m e f = f
  label_valid false l m e f = e

  relabelled_valid : (i : Instr) (l m : List ℕ) → i.target ≡ Some l → is_name m ≡ true → is_instr i ≡ true → is_instr (record i { target = Some m }) ≡ true
  relabelled_valid i l m target name e =
      let operands = first_true (are_operands (shape i.op).operands i.operands) _ e in
      let label = sym (ap (λ (t : Option (List ℕ)). is_target (shape i.op).target t) target) ∙ second_true (are_operands (shape i.op).operands i.operands) _ e in
      ap (λ (b : Bool). b && is_target (shape i.op).target (Some m)) operands ∙ label_valid (shape i.op).target l m label name

  items_valid : {k : ℕ} {xs ys : List CodeItem} → Turned cs k xs ys → list_all is_code_item xs ≡ true → list_all is_code_item ys ≡ true
  items_valid nothing e = refl
  items_valid (one_is_kept {ys = ys} x r) e =
      ap (λ (b : Bool). b && list_all is_code_item ys) (first_true (is_code_item x) _ e) ∙ items_valid r (second_true (is_code_item x) _ e)
  items_valid (one_is_turned {ys = ys} i t n l m act target leads ends r) e =
      ap (λ (b : Bool). b && list_all is_code_item ys) (relabelled_valid i l m target (last_name n l m leads) (first_true (is_instr i) _ e))
      ∙ items_valid r (second_true (is_instr i) _ e)

pub turned_valid : (c d : Code) → IsTurned c d → is_code c ≡ true → is_code d ≡ true
turned_valid c d turns e =
    let items = second_true (list_all is_area_item c.area) _ e in
    ap (λ (a : List AreaItem). list_all is_area_item a && list_all is_code_item d.items) turns.area
    ∙ ap (λ (b : Bool). b && list_all is_code_item d.items) (first_true (list_all is_area_item c.area) _ e)
    ∙ items_valid c.items items turns.items items

-- ---- no branch turned

turned_none : (cs : List CodeItem) {k : ℕ} {xs ys : List CodeItem} → Turned cs k xs ys → k ≡ 0 → ys ≡ xs
turned_none cs nothing e = refl
turned_none cs (one_is_kept x r) e = ap (λ xs. x ∷ xs) (turned_none cs r e)
turned_none cs (one_is_turned i t n l m act target leads ends r) e = absurd (omega (arith, e))

pub same_code : (before after : ℕ) (c d : Code) → TurnsChains before after c d → after ≡ before → d ≡ c
same_code before after c d h e =
    let none : h.turns.number ≡ 0 = let f = h.counts in omega (arith, f, e) in
    let items : d.items ≡ c.items = turned_none c.items h.turns.items none in
    let area = h.turns.area in
    λ t. record { area = area t; items = items t }

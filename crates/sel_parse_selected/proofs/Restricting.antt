-- What a rule's restrictions say of its symbols where it is taken, they say of the holes of its lines: a reduction changes no constant and
-- no relation of a symbol before it writes them.
use Rattle.std.proofs.Common.{◌≡◌, ℕ, zero, suc, ◌+◌, ◌-◌, ◌==◌, List, [], ◌∷◌, map, slice_get, Option, Some, None, Bool, true, false, refl, sym, ap, ◌∙◌, subst, arith}
use Rattle.std.specs.Prelude.{ℤ, int_le, slice_set, option_map, option_and_then, cond}
use Rattle.std.proofs.lemmas.Bool.{and_parts, eqb-true}
use Rattle.std.proofs.lemmas.Option.{same_Some}
use Rattle.gg_base.specs.declared.relation.Rel.{Rel}
use Rattle.tree_core.specs.declared.program.TreeProgram.{TreeProgram}
use Rattle.sel_target.specs.md_reader.specs.declared.types.Kind.{Kind}
use Rattle.sel_target.specs.md_reader.specs.declared.types.Restriction.{Restriction}
use Rattle.sel_target.specs.md_reader.specs.declared.types.Restriction.TheVariants as restriction
use Rattle.sel_target.specs.md_reader.specs.State.{Content}
use Rattle.lr_check_parse.specs.Attributes.{attribute_at, signed, in_range, is_signed, constant_at, relation_at, holds, all_hold}
use Rattle.sel_target.specs.declared.attr.Attr.{Attr}
use Rattle.sel_target.specs.declared.attr.Attr.TheVariants as attr
use Rattle.sel_target.specs.Meaning.{Meaning}
use Rattle.sel_target.specs.Instances.{hole}
use Rattle.sel_target.specs.Symbols.{constant_of, relation_of}
use Rattle.sel_target.specs.Restrictions.{IsInRange, IsSignedRelation, Restricts, AreRestricted}
use Rattle.sel_parse_selected.specs.Entries.{Entry, attrs}
use Rattle.sel_parse_selected.specs.Desk.{Desk, Outcome, Full, Stuck, Done, bind, free_register, free_slot}
use Rattle.sel_parse_selected.specs.Spills.{Where, Below, Among, entry_at, entry_in_slot, put_among, victim, saved, saved_in, spilled, with_free, due_by, due}
use Rattle.sel_parse_selected.specs.Reductions.{loaded, reloaded_by, reloaded_at, reloaded}
use Rattle.sel_parse_selected.specs.Selected.{selecting}

-- ---- lists

map_set : {X Y : Type 0} (f : X → Y) (xs : List X) (i : ℕ) (x : X) → map f (slice_set xs i x) ≡ slice_set (map f xs) i (f x)
map_set f [] i x = refl
map_set f (y ∷ ys) zero x = refl
map_set f (y ∷ ys) (suc i) x = ap (λ l. f y ∷ l) (map_set f ys i x)

map_get : {X Y : Type 0} (f : X → Y) (xs : List X) (i : ℕ) → slice_get (map f xs) i ≡ option_map f (slice_get xs i)
map_get f [] i = refl
map_get f (x ∷ xs) zero = refl
map_get f (x ∷ xs) (suc i) = map_get f xs i

-- what stands there is put there again
set_there : {X : Type 0} (xs : List X) (i : ℕ) (x : X) → slice_get xs i ≡ Some x → slice_set xs i x ≡ xs
set_there [] i x e = refl
set_there (y ∷ ys) zero x e = ap (λ z. z ∷ ys) (sym (same_Some y x e))
set_there (y ∷ ys) (suc i) x e = ap (λ l. y ∷ l) (set_there ys i x e)

pub attribute_suc : {X : Type 0} (xs : List X) (j : ℕ) → attribute_at xs (suc j) ≡ slice_get xs j
attribute_suc xs j = by (suc j == 0) refl where
  by : (b : Bool) → (suc j == 0) ≡ b → attribute_at xs (suc j) ≡ slice_get xs j
  by true e = absurd (let h = eqb-true (suc j) 0 e in omega (arith, h))
  by false e = ap (λ b. cond b None (slice_get xs (suc j - 1))) e ∙ ap (slice_get xs) (let back : suc j - 1 ≡ j = omega arith in back)

-- ---- outcomes

full_done : {X : Type 0} (x : X) → Full ≡ Done x → ⊥
full_done x e = cc

stuck_done : {X : Type 0} (x : X) → Stuck ≡ Done x → ⊥
stuck_done x e = cc

done_done : {X : Type 0} (x y : X) → Done x ≡ Done y → x ≡ y
done_done x y e = cc

bound : {X Y : Type 0} (o : Outcome X) (go : X → Outcome Y) (y : Y) → bind o go ≡ Done y → (x : X) × (o ≡ Done x) × (go x ≡ Done y)
bound Full go y e = absurd (full_done y e)
bound Stuck go y e = absurd (stuck_done y e)
bound (Done x) go y e = (x, refl, e)

-- ---- numbers and relations

range_is : (low high : ℤ) (o : Option ℕ) → in_range low high o ≡ true → IsInRange low high o
range_is low high None e = cc
range_is low high (Some n) e = and_parts (int_le low (signed n)) (int_le (signed n) high) e

signed_is : (o : Option Rel) → is_signed o ≡ true → IsSignedRelation o
signed_is None e = cc
signed_is (Some r) e = e

module _ {O I S F : Type 0} (of : Meaning O I S F) (q : TreeProgram) (d : Content) (first : ℕ) where
  abbrev pub Restricted : List Restriction → List (Entry O) → Type 0
  Restricted rs es = AreRestricted q (hole (attrs es)) rs

  -- what a restriction asks of an entry: its constant, and its relation
  abbrev pub asked : Entry O → Option ℕ × Option Rel
  asked e = (constant_of q e.attr, relation_of e.attr)

  -- ---- where a rule is taken

  constant_there : (es : List (Entry O)) (j : ℕ)
      → constant_at (selecting of q d first) (attribute_at es (suc j)) ≡ option_and_then (constant_of q) (hole (attrs es) (suc j))
  constant_there es j =
      ap (constant_at (selecting of q d first)) (attribute_suc es j) ∙ by (slice_get es j)
      ∙ ap (option_and_then (constant_of q)) (sym (map_get (λ (e : Entry O). e.attr) es j))
    where
      by : (o : Option (Entry O)) → constant_at (selecting of q d first) o ≡ option_and_then (constant_of q) (option_map (λ (e : Entry O). e.attr) o)
      by None = refl
      by (Some e) = refl

  relation_there : (es : List (Entry O)) (j : ℕ)
      → relation_at (selecting of q d first) (attribute_at es (suc j)) ≡ option_and_then relation_of (hole (attrs es) (suc j))
  relation_there es j =
      ap (relation_at (selecting of q d first)) (attribute_suc es j) ∙ by (slice_get es j)
      ∙ ap (option_and_then relation_of) (sym (map_get (λ (e : Entry O). e.attr) es j))
    where
      by : (o : Option (Entry O)) → relation_at (selecting of q d first) o ≡ option_and_then relation_of (option_map (λ (e : Entry O). e.attr) o)
      by None = refl
      by (Some e) = refl

  one_restricts : (es : List (Entry O)) (r : Restriction) → holds (selecting of q d first) es r ≡ true → Restricts q (hole (attrs es)) r
  one_restricts es (restriction.Same i j) h = tt
  one_restricts es (restriction.Range zero low high) h = cc
  one_restricts es (restriction.Range (suc j) low high) h =
      subst (IsInRange low high) (constant_there es j) (range_is low high (constant_at (selecting of q d first) (attribute_at es (suc j))) h)
  one_restricts es (restriction.Signed zero) h = cc
  one_restricts es (restriction.Signed (suc j)) h =
      subst IsSignedRelation (relation_there es j) (signed_is (relation_at (selecting of q d first) (attribute_at es (suc j))) h)

  -- the restrictions that hold of a rule's symbols
  pub restricted : (rs : List Restriction) (es : List (Entry O)) → all_hold (selecting of q d first) es rs ≡ true → Restricted rs es
  restricted [] es h = tt
  restricted (r ∷ rs) es h =
      let k = and_parts (holds (selecting of q d first) es r) (all_hold (selecting of q d first) es rs) h in
      (one_restricts es r k.0, restricted rs es k.1)

  -- ---- entries of which the same is asked

  abbrev constant_in : Option ℕ × Option Rel → Option ℕ
  constant_in p = p.0

  abbrev relation_in : Option ℕ × Option Rel → Option Rel
  relation_in p = p.1

  constant_asked : (es : List (Entry O)) (i : ℕ) → option_and_then (constant_of q) (hole (attrs es) i) ≡ option_and_then constant_in (hole (map asked es) i)
  constant_asked es zero = refl
  constant_asked [] (suc j) = refl
  constant_asked (e ∷ es) (suc zero) = refl
  constant_asked (e ∷ es) (suc (suc j)) = constant_asked es (suc j)

  relation_asked : (es : List (Entry O)) (i : ℕ) → option_and_then relation_of (hole (attrs es) i) ≡ option_and_then relation_in (hole (map asked es) i)
  relation_asked es zero = refl
  relation_asked [] (suc j) = refl
  relation_asked (e ∷ es) (suc zero) = refl
  relation_asked (e ∷ es) (suc (suc j)) = relation_asked es (suc j)

  one_still : (es es' : List (Entry O)) → map asked es' ≡ map asked es → (r : Restriction) → Restricts q (hole (attrs es)) r → Restricts q (hole (attrs es')) r
  one_still es es' e (restriction.Same i j) h = tt
  one_still es es' e (restriction.Range i low high) h =
      subst (IsInRange low high) (constant_asked es i ∙ ap (λ (l : List (Option ℕ × Option Rel)). option_and_then constant_in (hole l i)) (sym e) ∙ sym (constant_asked es' i)) h
  one_still es es' e (restriction.Signed i) h =
      subst IsSignedRelation (relation_asked es i ∙ ap (λ (l : List (Option ℕ × Option Rel)). option_and_then relation_in (hole l i)) (sym e) ∙ sym (relation_asked es' i)) h

  pub still_restricted : (rs : List Restriction) (es es' : List (Entry O)) → map asked es' ≡ map asked es → Restricted rs es → Restricted rs es'
  still_restricted [] es es' e h = tt
  still_restricted (r ∷ rs) es es' e h = (one_still es es' e r h.0, still_restricted rs es es' e h.1)

  -- ---- a reduction, up to its lines

  slot_asked : (k : Option Kind) (a : Attr O) (w : ℕ) → asked (entry_in_slot of (record { kind = k; attr = a }) w) ≡ asked (record { kind = k; attr = a })
  slot_asked k (attr.Reg r) w = refl
  slot_asked k (attr.InSlot u) w = refl
  slot_asked k (attr.Value o) w = refl
  slot_asked k (attr.Place o) w = refl
  slot_asked k (attr.Con n) w = refl
  slot_asked k (attr.Ea o) w = refl
  slot_asked k (attr.Token l) w = refl
  slot_asked k attr.Nothing w = refl

  -- an entry is put for another of which the same is asked
  set_asked : (es : List (Entry O)) (i : ℕ) (a b : Entry O) → slice_get es i ≡ Some a → asked b ≡ asked a → map asked (slice_set es i b) ≡ map asked es
  set_asked es i a b at e =
      map_set asked es i b ∙ ap (slice_set (map asked es) i) e ∙ set_there (map asked es) i (asked a) (map_get asked es i ∙ ap (option_map asked) at)

  saved_asked : (desk : Desk O I) (p : Where) (e : Entry O) (w : ℕ) → entry_at of desk p ≡ Some e
      → map asked (put_among of desk.symbols p (entry_in_slot of e w)) ≡ map asked desk.symbols
  saved_asked desk (Below i) e w at = refl
  saved_asked desk (Among i) e w at = set_asked desk.symbols i e (entry_in_slot of e w) at (slot_asked e.kind e.attr w)

  abbrev AsksAs : Desk O I → Desk O I → Type 0
  AsksAs desk y = map asked y.symbols ≡ map asked desk.symbols

  spilled_asked : (desk y : Desk O I) (o : Option Where) → spilled of q d first desk o ≡ Done y → AsksAs desk y
  spilled_asked desk y None e = absurd (stuck_done y e)
  spilled_asked desk y (Some p) e = by (entry_at of desk p) refl (free_slot of first desk) e
    where
      by : (o : Option (Entry O)) → entry_at of desk p ≡ o → (w : Option ℕ) → saved_in of q d first desk p o w ≡ Done y → AsksAs desk y
      by None at w e = absurd (stuck_done y e)
      by (Some b) at None e = absurd (full_done y e)
      by (Some b) at (Some w) e = subst (AsksAs desk) (done_done (saved of q d first desk p b w) y e) (saved_asked desk p b w at)

  pub due_asked : (given : Bool) (desk : Desk O I) (p : ℕ × Desk O I) → due of q d first given desk ≡ Done p → AsksAs desk p.1
  due_asked given desk p e = by (free_register of d given desk) e
    where
      second : (n : ℕ) (x : Desk O I) → due_by of q d first given x (Some n) ≡ Done p → x ≡ p.1
      second n x e = ap (λ (w : ℕ × Desk O I). w.1) (done_done {X = ℕ × Desk O I} (n, x) p e)

      freed : (x : Desk O I) (o : Option ℕ) → with_free of q d first x o ≡ Done p → x ≡ p.1
      freed x None e = absurd (stuck_done p e)
      freed x (Some n) e = second n x e

      by : (o : Option ℕ) → due_by of q d first given desk o ≡ Done p → AsksAs desk p.1
      by (Some n) e = ap (λ (z : Desk O I). map asked z.symbols) (sym (second n desk e))
      by None e =
          let b = bound (spilled of q d first desk (victim of given desk)) (λ x. with_free of q d first x (free_register of d given x)) p e in
          subst (AsksAs desk) (freed b.0 (free_register of d given b.0) b.2) (spilled_asked desk b.0 (victim of given desk) b.1)

  one_asked : (i : ℕ) (desk y : Desk O I) (k : Option Kind) (a : Attr O) → slice_get desk.symbols i ≡ Some (record { kind = k; attr = a })
      → reloaded_by of q d first i desk (record { kind = k; attr = a }) a ≡ Done y → AsksAs desk y
  one_asked i desk y k (attr.InSlot w) at e =
      let old : Entry O = record { kind = k; attr = attr.InSlot w } in
      let b = bound (due of q d first false desk) (loaded of q d first i old w) y e in
      let new : Entry O = record { kind = k; attr = attr.Reg b.0.0 } in
      ap (λ (z : Desk O I). map asked z.symbols) (sym (done_done _ y b.2))
      ∙ map_set asked b.0.1.symbols i new ∙ ap (λ l. slice_set l i (asked old)) (due_asked false desk b.0 b.1)
      ∙ set_there (map asked desk.symbols) i (asked old) (map_get asked desk.symbols i ∙ ap (option_map asked) at)
  one_asked i desk y k (attr.Reg r) at e = ap (λ (z : Desk O I). map asked z.symbols) (sym (done_done desk y e))
  one_asked i desk y k (attr.Value o) at e = ap (λ (z : Desk O I). map asked z.symbols) (sym (done_done desk y e))
  one_asked i desk y k (attr.Place o) at e = ap (λ (z : Desk O I). map asked z.symbols) (sym (done_done desk y e))
  one_asked i desk y k (attr.Con n) at e = ap (λ (z : Desk O I). map asked z.symbols) (sym (done_done desk y e))
  one_asked i desk y k (attr.Ea o) at e = ap (λ (z : Desk O I). map asked z.symbols) (sym (done_done desk y e))
  one_asked i desk y k (attr.Token l) at e = ap (λ (z : Desk O I). map asked z.symbols) (sym (done_done desk y e))
  one_asked i desk y k attr.Nothing at e = ap (λ (z : Desk O I). map asked z.symbols) (sym (done_done desk y e))

  pub reloaded_asked : (n i : ℕ) (desk y : Desk O I) → reloaded of q d first n i desk ≡ Done y → AsksAs desk y
  reloaded_asked zero i desk y e = ap (λ (z : Desk O I). map asked z.symbols) (sym (done_done desk y e))
  reloaded_asked (suc n) i desk y e =
      let b = bound (reloaded_at of q d first i desk (slice_get desk.symbols i)) (reloaded of q d first n (i + 1)) y e in
      reloaded_asked n (i + 1) b.0 y b.2 ∙ at b.0 (slice_get desk.symbols i) refl b.1
    where
      at : (x : Desk O I) (o : Option (Entry O)) → slice_get desk.symbols i ≡ o → reloaded_at of q d first i desk o ≡ Done x → AsksAs desk x
      at x None there e = ap (λ (z : Desk O I). map asked z.symbols) (sym (done_done desk x e))
      at x (Some b) there e = one_asked i desk x b.kind b.attr there e

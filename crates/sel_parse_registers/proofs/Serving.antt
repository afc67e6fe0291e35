-- A reduction finds its registers, and behind it each register is held by one entry at most.
use Rattle.std.proofs.Common.{◌≡◌, ℕ, zero, suc, ◌+◌, ◌<◌, ◌≤◌, ◌==◌, List, length, slice_get, Option, Some, None, Bool, true, false, refl, ap, ◌∙◌, subst, arith}
use Rattle.std.specs.Prelude.{slice_set, count_ones, Ok}
use Rattle.std.specs.List.{list_any}
use Rattle.std.proofs.lemmas.Bool.{eqb-false, eqb-true}
use Rattle.tree_core.specs.declared.program.TreeProgram.{TreeProgram}
use Rattle.md_reader_pieces.specs.declared.piece.Line.{Line}
use Rattle.md_reader.specs.declared.types.Kind.{Kind}
use Rattle.md_reader.specs.declared.types.Kind.TheVariants as kind
use Rattle.md_reader.specs.declared.types.Give.{Give}
use Rattle.md_reader.specs.declared.types.Give.TheVariants as give
use Rattle.md_reader.specs.declared.types.Rule.{Rule}
use Rattle.md_reader.specs.declared.types.Sym.{Sym}
use Rattle.md_reader.specs.Patterns.{kind_at}
use Rattle.md_reader.specs.State.{Content}
use Rattle.md_reader.specs.Valid.{IsPool, IsRule}
use Rattle.sel_regs.specs.Need.{registers_among, need_of, need}
use Rattle.sel_target.specs.sel_terms.specs.Effects.{EffectShape}
use Rattle.sel_target.specs.declared.attr.Attr.{Attr}
use Rattle.sel_target.specs.declared.attr.Attr.TheVariants as attr
use Rattle.sel_target.specs.Meaning.{Meaning, RegAt, touches}
use Rattle.sel_target.specs.Laws.{IsLawful}
use Rattle.sel_target.specs.Instances.{hole, attr_touches}
use Rattle.sel_target.specs.Symbols.{token_number, first_hole}
use Rattle.sel_parse_slots.specs.sel_parse_selected.specs.Entries.{Entry, attrs}
use Rattle.sel_parse_slots.specs.sel_parse_selected.specs.Desk.{Stack, Desk, desk_of, held}
use Rattle.sel_parse_slots.specs.sel_parse_selected.specs.Spills.{due}
use Rattle.sel_parse_slots.specs.sel_parse_selected.specs.Reductions.{own_register, own_number, shaped, finished, with_result, with_scratch, given_by, loaded, reloaded_by, reloaded_at, reloaded, reduced}
use Rattle.sel_parse_slots.specs.sel_parse_stands.proofs.Loaded.{AllLoaded, all_loaded}
use Rattle.sel_parse_slots.proofs.Counts.{tick, total_set, tick_small, tick_implied}
use Rattle.sel_parse_slots.proofs.Counting.{Counted, IsDue, due_good, one_good, fine_at, slot_kind, fine_length}
use Rattle.sel_parse_slots.proofs.Finishing.{all_fit, right_none}
use Rattle.sel_parse_registers.proofs.Pools.{none_total, map_total, map_at, free_parts}
use Rattle.sel_parse_registers.proofs.Owning.{Had, had_bind, had_both, holds, holders, in_pool, Owned, OwnedAt, register_other, slot_none}
use Rattle.sel_parse_registers.proofs.Owning.{symbols_kinds, symbols_less, room_now, room_given, IsGot, due_had}

-- a rule needs as many registers as its right side has
needed : (g : Give) (n : ℕ) → n ≤ need_of g n
needed give.Fresh n = omega arith
needed give.Reuse n = omega arith
needed give.Scratch n = omega arith
needed give.Nothing n = omega arith
needed (give.Shape l) n = omega arith

module _ {O I S F : Type 0} (of : Meaning O I S F) (law : IsLawful of) (q : TreeProgram) (can : of.can_write q) (d : Content) (valid : IsPool d.pool) (first : ℕ) where
  -- a register that is free, and another one
  module _ (v : ℕ) (lt : v < 12) where
    alone : (r : ℕ) → (b : Bool) → (r == v) ≡ b → tick (attr_touches of (attr.Reg v) (RegAt r)) ≤ tick b
    alone r true e = tick_small (attr_touches of (attr.Reg v) (RegAt r))
    alone r false e = (let a = ap tick (register_other of law q d first v r lt (λ g. apart g)) in omega (arith, a))
      where
        apart : r ≡ v → ⊥
        apart g = eqb-false r v e g

    -- with it given to one more entry each register is held by one at most
    pub one_more : (r n : ℕ) → n ≤ tick (in_pool of d r) → (r ≡ v → n ≡ 0) → in_pool of d v ≡ true → tick (attr_touches of (attr.Reg v) (RegAt r)) + n ≤ tick (in_pool of d r)
    one_more r n le none pooled = by (r == v) refl
      where
        by : (b : Bool) → (r == v) ≡ b → tick (attr_touches of (attr.Reg v) (RegAt r)) + n ≤ tick (in_pool of d r)
        by true e =
            let a = alone r true e in
            let b = none (eqb-true r v e) in
            let c = ap (λ k. tick (in_pool of d k)) (eqb-true r v e) in
            let f = ap tick pooled in
            omega (arith, a, b, c, f)
        by false e = (let a = alone r false e in omega (arith, a, le))

  none_held : (es : List (Entry O)) (r : ℕ) → held of es (RegAt r) ≡ false → holders of r es ≡ 0
  none_held es r e = none_total (λ (e : Entry O). attr_touches of e.attr (RegAt r)) es e

  module _ (right a : List Sym) (c : ℕ) (gb gs : List ℕ) (few : registers_among d.classes right ≤ count_ones d.pool) where
    abbrev In : ℕ → Desk O I → Type 0
    In i desk = Counted of law q d first right a c gb gs i desk

    -- ---- reloads

    loaded_had : (i w : ℕ) (k : Option Kind) (desk : Desk O I) (p : ℕ × Desk O I) → slice_get desk.symbols i ≡ Some (record { kind = k; attr = attr.InSlot w })
        → IsDue of law q d first right a c gb gs i desk p → IsGot of law q d first right a c gb gs false p
        → Had (OwnedAt of d) (loaded of q d first i (record { kind = k; attr = attr.InSlot w }) w p)
    loaded_had i w k desk p at h got = λ r lt. by r lt
      where
        there : slice_get p.1.symbols i ≡ Some (record { kind = k; attr = attr.InSlot w })
        there = h.after.stays i w k at

        low : w < 1024
        low =
            let s = fine_at of law q d first right p.1.symbols i (record { kind = k; attr = attr.InSlot w }) h.after.counted.symbols_fine there in
            let sk = slot_kind of law q d first right a c gb gs s.0 w (attr.InSlot w) s.2 refl in
            subst (λ x. x < 1024) sk.1 sk.2

        parts : (in_pool of d p.0 ≡ true) × (held of p.1.below (RegAt p.0) ≡ false) × (false ≡ false → held of p.1.symbols (RegAt p.0) ≡ false)
        parts = free_parts (in_pool of d p.0) (held of p.1.below (RegAt p.0)) false (held of p.1.symbols (RegAt p.0)) got.free

        by : (r : ℕ) → r < 12 → holders of r (slice_set p.1.symbols i (record { kind = k; attr = attr.Reg p.0 })) + holders of r p.1.below ≤ tick (in_pool of d r)
        by r lt =
            let set = total_set (holds of r) p.1.symbols i (record { kind = k; attr = attr.InSlot w }) (record { kind = k; attr = attr.Reg p.0 }) there in
            let old = got.owned r lt in
            let slot = ap tick (slot_none of law q d first w r low) in
            let more = one_more p.0 got.small r (holders of r p.1.symbols + holders of r p.1.below) old (λ e. none r e) parts.0 in
            omega (arith, set, slot, more)
          where
            none : (r : ℕ) → r ≡ p.0 → holders of r p.1.symbols + holders of r p.1.below ≡ 0
            none r e =
                let x = none_held p.1.below p.0 parts.1 in
                let y = none_held p.1.symbols p.0 (parts.2 refl) in
                let z = ap (λ n. holders of n p.1.symbols + holders of n p.1.below) e in
                omega (arith, x, y, z)

    one_had : (i : ℕ) (desk : Desk O I) → In i desk → OwnedAt of d desk → Had (OwnedAt of d) (reloaded_at of q d first i desk (slice_get desk.symbols i))
    one_had i desk h owned = at (slice_get desk.symbols i) refl
      where
        by : (k : Option Kind) (b : Attr O) → slice_get desk.symbols i ≡ Some (record { kind = k; attr = b })
            → Had (OwnedAt of d) (reloaded_by of q d first i desk (record { kind = k; attr = b }) b)
        by k (attr.InSlot w) e =
            let less = symbols_less of law q d first right desk.symbols i w k h.symbols_fine e in
            had_bind (λ p. IsDue of law q d first right a c gb gs i desk p × IsGot of law q d first right a c gb gs false p) (OwnedAt of d) (due of q d first false desk)
            (loaded of q d first i (record { kind = k; attr = attr.InSlot w }) w)
            (had_both (first + c) (IsDue of law q d first right a c gb gs i desk) (IsGot of law q d first right a c gb gs false) (due of q d first false desk)
            (due_good of law q d first right a c gb gs i false desk h)
            (due_had of law q d first right a c gb gs i false desk h owned (room_now of law q d first valid right desk h.symbols_fine (omega (arith, less, few)))))
            (λ p m. loaded_had i w k desk p e m.0 m.1)
        by k (attr.Reg r) e = owned
        by k (attr.Value o) e = owned
        by k (attr.Place o) e = owned
        by k (attr.Con n) e = owned
        by k (attr.Ea o) e = owned
        by k (attr.Token l) e = owned
        by k attr.Nothing e = owned

        at : (o : Option (Entry O)) → slice_get desk.symbols i ≡ o → Had (OwnedAt of d) (reloaded_at of q d first i desk o)
        at None e = owned
        at (Some b) e = by b.kind b.attr e

    abbrev Kept : ℕ → Desk O I → Type 0
    Kept i desk = In i desk × OwnedAt of d desk

    reloaded_had : (n i : ℕ) (desk : Desk O I) → In i desk → OwnedAt of d desk → Had (Kept (i + n)) (reloaded of q d first n i desk)
    reloaded_had zero i desk h owned = (let g : i ≡ i + 0 = omega arith in (subst (λ k. In k desk) g h, owned))
    reloaded_had (suc n) i desk h owned =
        let one : suc i ≡ i + 1 = omega arith in
        let all : i + 1 + n ≡ i + suc n = omega arith in
        had_bind (Kept (suc i)) (Kept (i + suc n)) (reloaded_at of q d first i desk (slice_get desk.symbols i)) (reloaded of q d first n (i + 1))
        (had_both (first + c) (In (suc i)) (OwnedAt of d) (reloaded_at of q d first i desk (slice_get desk.symbols i)) (one_good of law q d first right a c gb gs i desk h) (one_had i desk h owned))
        (λ y k. subst (λ m. Had (Kept m) (reloaded of q d first n (i + 1) y)) all (reloaded_had n (i + 1) y (subst (λ m. In m y) one k.0) k.1))

  -- ---- what a rule gives

  abbrev pub OwnedStack : Stack O I → Type 0
  OwnedStack x = Owned of d x.entries

  -- a constant's entry holds no register
  number_none : (o : Option (Attr O)) (r : ℕ) → attr_touches of (own_number of q d first o) (RegAt r) ≡ false
  number_none None r = refl
  number_none (Some (attr.Reg v)) r = refl
  number_none (Some (attr.InSlot w)) r = refl
  number_none (Some (attr.Value o)) r = refl
  number_none (Some (attr.Place o)) r = refl
  number_none (Some (attr.Con n)) r = refl
  number_none (Some (attr.Ea o)) r = refl
  number_none (Some (attr.Token l)) r = by (token_number q l.att) refl
    where
      by : (o : Option ℕ) → token_number q l.att ≡ o → attr_touches of (own_number of q d first (Some (attr.Token l))) (RegAt r) ≡ false
      by None e = rw e refl
      by (Some n) e = rw e refl
  number_none (Some attr.Nothing) r = refl

  abbrev attr_of : Entry O → Attr O
  attr_of e = e.attr

  module _ (rule : Rule) (is_rule : IsRule d.classes rule) (effect : EffectShape) (taken : of.effect d.classes rule ≡ Ok effect) (a : List Sym) (c : ℕ) (gb gs : List ℕ) where
    abbrev Now : Desk O I → Type 0
    Now y = Counted of law q d first rule.right a c gb gs (0 + length rule.right) y

    desk_loaded : (y : Desk O I) → Now y → AllLoaded y.symbols
    desk_loaded y h = (let size = fine_length of law q d first rule.right y.symbols h.symbols_fine in all_loaded y.symbols (0 + length rule.right) (omega (arith, size)) h.loaded_to)

    -- a shape holds only what its symbols hold
    shape_owned : (y : Desk O I) → Now y → (l : Line) → rule.give ≡ give.Shape l → (k : Option Kind) → kind_at d.classes rule.left ≡ k → (r : ℕ)
        → tick (attr_touches of (shaped of q d first k l (attrs y.symbols)) (RegAt r)) ≤ holders of r y.symbols
    shape_owned y h l mode k is r = by k is
      where
        operand : (k : Kind) → kind_at d.classes rule.left ≡ Some k → (k ≡ kind.Nothing → ⊥) → tick (touches of (of.operand q l (attrs y.symbols)) (RegAt r)) ≤ holders of r y.symbols
        operand k is apart =
            let fit = all_fit of law q can d first rule.right y.symbols h.symbols_fine (desk_loaded y h) (right_none d.classes rule k is_rule is apart) in
            let x =
            tick_implied (touches of (of.operand q l (attrs y.symbols)) (RegAt r)) (list_any (λ b. attr_touches of b (RegAt r)) (attrs y.symbols))
            (λ e. law.spells.shape_touches q d.classes rule effect l (attrs y.symbols) (RegAt r) taken mode fit e) in
            let z = map_total attr_of (λ b. attr_touches of b (RegAt r)) y.symbols in
            omega (arith, x, z)

        own : (i : ℕ) → tick (attr_touches of (own_register of q d first (hole (attrs y.symbols) i)) (RegAt r)) ≤ holders of r y.symbols
        own zero = omega arith
        own (suc i) = at (slice_get (attrs y.symbols) i) refl
          where
            at : (o : Option (Attr O)) → slice_get (attrs y.symbols) i ≡ o → tick (attr_touches of (own_register of q d first o) (RegAt r)) ≤ holders of r y.symbols
            at None e = omega arith
            at (Some b) e = map_at attr_of (λ b. attr_touches of b (RegAt r)) y.symbols i b e

        by : (k : Option Kind) → kind_at d.classes rule.left ≡ k → tick (attr_touches of (shaped of q d first k l (attrs y.symbols)) (RegAt r)) ≤ holders of r y.symbols
        by None is = omega arith
        by (Some kind.Reg) is = own (first_hole l.pieces)
        by (Some (kind.Value z)) is = operand (kind.Value z) is (λ e. cc)
        by (Some (kind.Place z)) is = operand (kind.Place z) is (λ e. cc)
        by (Some kind.Con) is = (let n = ap tick (number_none (hole (attrs y.symbols) (first_hole l.pieces)) r) in omega (arith, n))
        by (Some kind.Ea) is = operand kind.Ea is (λ e. cc)
        by (Some kind.Nothing) is = omega arith

    -- a register that was got stands for the symbols
    result_owned : (given : Bool) (p : ℕ × Desk O I) → IsGot of law q d first rule.right a c gb gs given p → Had OwnedStack (finished of q d first rule (attr.Reg p.0) (attr.Reg p.0) p.1)
    result_owned given p k = λ r lt. one_more p.0 k.small r (holders of r p.1.below) (less r lt) (λ e. none r e) parts.0
      where
        parts : (in_pool of d p.0 ≡ true) × (held of p.1.below (RegAt p.0) ≡ false) × (given ≡ false → held of p.1.symbols (RegAt p.0) ≡ false)
        parts = free_parts (in_pool of d p.0) (held of p.1.below (RegAt p.0)) given (held of p.1.symbols (RegAt p.0)) k.free

        less : (r : ℕ) → r < 12 → holders of r p.1.below ≤ tick (in_pool of d r)
        less r lt = (let o = k.owned r lt in omega (arith, o))

        none : (r : ℕ) → r ≡ p.0 → holders of r p.1.below ≡ 0
        none r e = ap (λ n. holders of n p.1.below) e ∙ none_held p.1.below p.0 parts.1

    -- what holds no register does
    nothing_owned : (y : Desk O I) (result : Attr O) → OwnedAt of d y → Had OwnedStack (finished of q d first rule result attr.Nothing y)
    nothing_owned y result owned = λ r lt. (let o = owned r lt in omega (arith, o))

    given_had : (gv : Give) (y : Desk O I) → Now y → OwnedAt of d y → rule.give ≡ gv → need_of gv (registers_among d.classes rule.right) ≤ count_ones d.pool
        → Had OwnedStack (given_by of q d first rule gv y)
    given_had give.Fresh y h owned mode enough =
        let n = symbols_kinds of law q d first rule.right y.symbols h.symbols_fine in
        had_bind (IsGot of law q d first rule.right a c gb gs false) OwnedStack (due of q d first false y) (with_result of q d first rule)
        (due_had of law q d first rule.right a c gb gs (0 + length rule.right) false y h owned (room_now of law q d first valid rule.right y h.symbols_fine (omega (arith, n, enough))))
        (λ p k. result_owned false p k)
    given_had give.Reuse y h owned mode enough =
        had_bind (IsGot of law q d first rule.right a c gb gs true) OwnedStack (due of q d first true y) (with_result of q d first rule)
        (due_had of law q d first rule.right a c gb gs (0 + length rule.right) true y h owned (room_given of law q d first valid y (omega (arith, enough))))
        (λ p k. result_owned true p k)
    given_had give.Scratch y h owned mode enough =
        let n = symbols_kinds of law q d first rule.right y.symbols h.symbols_fine in
        had_bind (IsGot of law q d first rule.right a c gb gs false) OwnedStack (due of q d first false y) (with_scratch of q d first rule)
        (due_had of law q d first rule.right a c gb gs (0 + length rule.right) false y h owned (room_now of law q d first valid rule.right y h.symbols_fine (omega (arith, n, enough))))
        (λ p k. nothing_owned p.1 (attr.Reg p.0) k.owned)
    given_had give.Nothing y h owned mode enough = nothing_owned y attr.Nothing owned
    given_had (give.Shape l) y h owned mode enough =
        λ r lt. (let s = shape_owned y h l mode (kind_at d.classes rule.left) refl r in let o = owned r lt in omega (arith, s, o))

    pub reduced_had : (x : Stack O I) → Counted of law q d first rule.right a c gb gs 0 (desk_of (length rule.right) x) → OwnedAt of d (desk_of (length rule.right) x)
        → need d.classes rule ≤ count_ones d.pool → Had OwnedStack (reduced of q d first rule x)
    reduced_had x h owned enough =
        let few = needed rule.give (registers_among d.classes rule.right) in
        had_bind (λ y. Now y × OwnedAt of d y) OwnedStack (reloaded of q d first (length rule.right) 0 (desk_of (length rule.right) x)) (given_by of q d first rule rule.give)
        (reloaded_had rule.right a c gb gs (omega (arith, few, enough)) (length rule.right) 0 (desk_of (length rule.right) x) h owned)
        (λ y k. given_had rule.give y k.0 k.1 refl enough)

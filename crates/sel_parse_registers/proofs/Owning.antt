-- Each register is held by one entry at most, and a register that is due can be had.
use Rattle.std.proofs.Common.{◌≡◌, ℕ, zero, suc, ◌+◌, ◌-◌, ◌<◌, ◌≤◌, ◌==◌, List, [], ◌∷◌, slice_get, Option, Some, None, Bool, true, false, refl, sym, ap, ◌∙◌, subst, arith}
use Rattle.std.specs.Prelude.{slice_set, is_some, count_ones, if◌then◌else◌}
use Rattle.std.specs.List.{AllByRecursion as All}
use Rattle.std.specs.Int.{bit_at}
use Rattle.std.proofs.lemmas.Nat.Bits.{bit_at-pow_other}
use Rattle.std.proofs.lemmas.Option.{none-some}
use Rattle.std.proofs.lemmas.Bool.{or_from}
use Rattle.gg_base.proofs.Facts.{not_some, true_or_false}
use Rattle.tree_core.specs.declared.program.TreeProgram.{TreeProgram}
use Rattle.md_reader.specs.declared.types.Kind.{Kind}
use Rattle.md_reader.specs.declared.types.Kind.TheVariants as kind
use Rattle.md_reader.specs.declared.types.Sym.{Sym}
use Rattle.md_reader.specs.Patterns.{kind_at}
use Rattle.md_reader.specs.Restrictions.{is_reg}
use Rattle.md_reader.specs.State.{Content}
use Rattle.md_reader.specs.Valid.{IsPool}
use Rattle.sel_regs.specs.Need as needs
use Rattle.sel_target.specs.declared.attr.Attr.{Attr}
use Rattle.sel_target.specs.declared.attr.Attr.TheVariants as attr
use Rattle.sel_target.specs.Meaning.{Meaning, RegAt}
use Rattle.sel_target.specs.Laws.{IsLawful}
use Rattle.sel_target.specs.Instances.{attr_touches, KindFits}
use Rattle.sel_target.specs.Symbols.{lowest, first_that, is_register}
use Rattle.sel_parse_slots.specs.sel_parse_selected.specs.Entries.{Entry}
use Rattle.sel_parse_slots.specs.sel_parse_selected.specs.Desk.{Desk, Outcome, Full, Stuck, Done, bind, held, is_free_register, free_register, is_free_word, free_slot}
use Rattle.sel_parse_slots.specs.sel_parse_selected.specs.Spills.{Where, Below, Among, last_that, holds_register, may_go, deepest, victim, in_slot, entry_in_slot, saved, saved_in, spilled}
use Rattle.sel_parse_slots.specs.sel_parse_selected.specs.Spills.{with_free, due_by, due}
use Rattle.sel_parse_slots.specs.sel_parse_stands.proofs.Desks as desks
use Rattle.sel_parse_slots.specs.sel_parse_stands.proofs.Desks.{MayMove, may_victim}
use Rattle.sel_parse_slots.specs.sel_parse_stands.proofs.Saving.{lowest_found, bits_none, token_none}
use Rattle.sel_parse_slots.proofs.Counts.{tick, count, count_any, count_none, total, total_set, tick_small}
use Rattle.sel_parse_slots.proofs.Fine as fine
use Rattle.sel_parse_slots.proofs.Fine.{registers, register_one}
use Rattle.sel_parse_slots.proofs.Counting.{Good, AllFine, Counted, fine_at}
use Rattle.sel_parse_registers.proofs.Pools.{tick_true, count_less_in, none_count, lowest_none, ones_counted, total_none, none_last}
use Rattle.sel_parse_registers.proofs.Pools.{none_first, made_free, not_free}

-- ---- what comes of a step: a register was never missing

abbrev pub Had : {X : Type 0} → (X → Type 0) → Outcome X → Type 0
Had P Full = Unit {0}
Had P Stuck = ⊥
Had P (Done x) = P x

pub had_bind : {X Y : Type 0} (P : X → Type 0) (Q : Y → Type 0) (o : Outcome X) (go : X → Outcome Y) → Had P o → ((x : X) → P x → Had Q (go x)) → Had Q (bind o go)
had_bind P Q Full go h k = tt
had_bind P Q Stuck go h k = h
had_bind P Q (Done x) go h k = k x h

-- with what is known of what is done
pub had_both : {X : Type 0} (top : ℕ) (P Q : X → Type 0) (o : Outcome X) → Good top o P → Had Q o → Had (λ x. P x × Q x) o
had_both top P Q Full g h = tt
had_both top P Q Stuck g h = h
had_both top P Q (Done x) g h = (g, h)

-- ---- who holds a register

module _ {O I S F : Type 0} (of : Meaning O I S F) where
  abbrev pub holds : ℕ → Entry O → ℕ
  holds r e = tick (attr_touches of e.attr (RegAt r))

  abbrev pub holders : ℕ → List (Entry O) → ℕ
  holders r es = total (λ (e : Entry O). tick (attr_touches of e.attr (RegAt r))) es

  abbrev pub in_pool : Content → ℕ → Bool
  in_pool d r = bit_at d.pool r == 1

  -- a register of the pool is held by one entry at most, and another by none
  abbrev pub Owned : Content → List (Entry O) → Type 0
  Owned d es = (r : ℕ) → r < 12 → holders r es ≤ tick (in_pool d r)

  abbrev pub OwnedAt : Content → Desk O I → Type 0
  OwnedAt d desk = (r : ℕ) → r < 12 → holders r desk.symbols + holders r desk.below ≤ tick (in_pool d r)

module _ {O I S F : Type 0} (of : Meaning O I S F) (law : IsLawful of) (q : TreeProgram) (d : Content) (first : ℕ) where
  -- ---- registers, slots and tokens

  pub register_other : (v r : ℕ) → v < 12 → (r ≡ v → ⊥) → attr_touches of (attr.Reg v) (RegAt r) ≡ false
  register_other v r lt apart = ap (λ k. bit_at k r == 1) (law.spells.register_bits v lt) ∙ ap (λ k. k == 1) (bit_at-pow_other v r apart)

  pub slot_none : (w r : ℕ) → w < 1024 → attr_touches of (attr.InSlot w) (RegAt r) ≡ false
  slot_none w r lt = bits_none of law (of.slot w) r (law.spells.slot_bits w lt)

  deferred_none : (w r : ℕ) → w < 1024 → attr_touches of (attr.Ea (of.slot_deferred w)) (RegAt r) ≡ false
  deferred_none w r lt = bits_none of law (of.slot_deferred w) r (law.spells.deferred_bits w lt)

  -- what went to a slot holds no register
  gone : (s : Sym) (a : Attr O) (w r : ℕ) → w < 1024 → fine.IsFine of law q d first s a → attr_touches of (in_slot of a w) (RegAt r) ≡ false
  gone s a w r lt (fine.token l fit own) = token_none of law l.tok l.att r fit own.in_frame
  gone s a w r lt (fine.class c a' h) = by (kind_at d.classes c) a h
    where
      by : (k : Option Kind) (a : Attr O) → KindFits of k a → attr_touches of (in_slot of a w) (RegAt r) ≡ false
      by (Some kind.Reg) (attr.Reg v) h = slot_none w r lt
      by (Some (kind.Value z)) (attr.Value o) h = slot_none w r lt
      by (Some (kind.Place z)) (attr.Place o) h = deferred_none w r lt
      by (Some kind.Con) (attr.Con n) h = refl
      by (Some kind.Ea) (attr.Ea o) h = deferred_none w r lt
      by k a h = absurd h
  gone s a w r lt (fine.slot c u e low) = slot_none u r low
  gone s a w r lt (fine.statement c e) = refl

  -- ---- where no entry can give a register up, one is free

  -- those of a rule's symbols that stand in registers
  abbrev pub standing : List (Entry O) → ℕ
  standing es = total (λ (e : Entry O). tick (is_register e.attr)) es

  no_victim : (given : Bool) (desk : Desk O I) → victim of given desk ≡ None
      → (last_that (holds_register of) desk.below ≡ None) × (given ≡ false → first_that (may_go of) desk.symbols ≡ None)
  no_victim given desk e =
      let r = by (last_that (holds_register of) desk.below) (if given then None else first_that (may_go of) desk.symbols) e in
      (r.0, λ f. sym (ap (λ b. if b then None else first_that (may_go of) desk.symbols) f) ∙ r.1)
    where
      by : (o o' : Option ℕ) → deepest of o o' ≡ None → (o ≡ None) × (o' ≡ None)
      by (Some i) o' e = absurd (none-some (Below i) (sym e))
      by None (Some i) e = absurd (none-some (Among i) (sym e))
      by None None e = (refl, refl)

  -- no entry of these holds the register
  none_hold : (es : List (Entry O)) (r : ℕ) → r < 12 → All (λ (e : Entry O). holds_register of e ≡ false) es → held of es (RegAt r) ≡ false
  none_hold [] r lt h = refl
  none_hold (e ∷ es) r lt h = or_from (attr_touches of e.attr (RegAt r)) (held of es (RegAt r)) one (none_hold es r lt h.1)
    where
      one : attr_touches of e.attr (RegAt r) ≡ false
      one = lowest_none (λ v. attr_touches of e.attr (RegAt v)) 0 12 r (not_some (lowest (λ v. attr_touches of e.attr (RegAt v)) 0 12) h.0) (omega arith) lt

  kind_small : (v : ℕ) (k : Option Kind) → KindFits of k (attr.Reg v) → v < 12
  kind_small v (Some kind.Reg) h = h
  kind_small v _ h = absurd h

  small : (s : Sym) (v : ℕ) (a : Attr O) → fine.IsFine of law q d first s a → a ≡ attr.Reg v → v < 12
  small s v a (fine.class c a' h) g = kind_small v (kind_at d.classes c) (subst (KindFits of (kind_at d.classes c)) g h)
  small s v a _ g = absurd (cc)

  -- a symbol that may not go holds a register only if it stands in one
  symbol_registers : (s : Sym) (e : Entry O) → fine.IsFine of law q d first s e.attr → may_go of e ≡ false → registers of law q d first e.attr ≤ tick (is_register e.attr)
  symbol_registers s e f stays = by e.attr f stays
    where
      none : (a : Attr O) → holds_register of (record { kind = e.kind; attr = a }) ≡ false → registers of law q d first a ≤ 0
      none a h =
          let n = none_count (λ v. attr_touches of a (RegAt v)) 0 12 (not_some (lowest (λ v. attr_touches of a (RegAt v)) 0 12) h) in
          omega (arith, n)

      by : (a : Attr O) → fine.IsFine of law q d first s a → may_go of (record { kind = e.kind; attr = a }) ≡ false → registers of law q d first a ≤ tick (is_register a)
      by (attr.Reg v) f g = register_one of law q d first v (small s v (attr.Reg v) f refl)
      by (attr.InSlot w) f g = none (attr.InSlot w) g
      by (attr.Value o) f g = none (attr.Value o) g
      by (attr.Place o) f g = none (attr.Place o) g
      by (attr.Con n) f g = none (attr.Con n) g
      by (attr.Ea o) f g = none (attr.Ea o) g
      by (attr.Token l) f g = none (attr.Token l) g
      by attr.Nothing f g = none attr.Nothing g

  symbols_registers : (ss : List Sym) (es : List (Entry O)) → AllFine of law q d first ss es → All (λ (e : Entry O). may_go of e ≡ false) es
      → total (λ (e : Entry O). registers of law q d first e.attr) es ≤ standing es
  symbols_registers [] [] h k = omega arith
  symbols_registers [] (e ∷ es) h k = absurd h
  symbols_registers (s ∷ ss) [] h k = absurd h
  symbols_registers (s ∷ ss) (e ∷ es) h k = (let a = symbol_registers s e h.0 k.0 in let b = symbols_registers ss es h.1 k.1 in omega (arith, a, b))

  -- no more symbols stand in registers than are registers'
  symbol_kind : (s : Sym) (a : Attr O) → fine.IsFine of law q d first s a → tick (is_register a) ≤ (if needs.is_register d.classes s then 1 else 0)
  symbol_kind s a (fine.token l fit own) = omega arith
  symbol_kind s a (fine.class c a' h) = by (kind_at d.classes c) a h
    where
      by : (k : Option Kind) (a : Attr O) → KindFits of k a → tick (is_register a) ≤ (if is_reg k then 1 else 0)
      by (Some kind.Reg) (attr.Reg v) h = omega arith
      by (Some (kind.Value z)) (attr.Value o) h = omega arith
      by (Some (kind.Place z)) (attr.Place o) h = omega arith
      by (Some kind.Con) (attr.Con n) h = omega arith
      by (Some kind.Ea) (attr.Ea o) h = omega arith
      by k a h = absurd h
  symbol_kind s a (fine.slot c w e lt) = omega arith
  symbol_kind s a (fine.statement c e) = omega arith

  pub symbols_kinds : (ss : List Sym) (es : List (Entry O)) → AllFine of law q d first ss es → standing es ≤ needs.registers_among d.classes ss
  symbols_kinds [] [] h = omega arith
  symbols_kinds [] (e ∷ es) h = absurd h
  symbols_kinds (s ∷ ss) [] h = absurd h
  symbols_kinds (s ∷ ss) (e ∷ es) h = (let a = symbol_kind s e.attr h.0 in let b = symbols_kinds ss es h.1 in omega (arith, a, b))

  -- and one less where one of these stands in a slot
  in_slot_kind : (s : Sym) (a : Attr O) (w : ℕ) → fine.IsFine of law q d first s a → a ≡ attr.InSlot w → tick (is_register a) + 1 ≤ (if needs.is_register d.classes s then 1 else 0)
  in_slot_kind s a w (fine.token l fit own) g = absurd (cc)
  in_slot_kind s a w (fine.class c a' h) g = absurd (by (kind_at d.classes c) (subst (KindFits of (kind_at d.classes c)) g h))
    where
      by : (k : Option Kind) → KindFits of k (attr.InSlot w) → ⊥
      by None h = h
      by (Some kind.Reg) h = h
      by (Some (kind.Value z)) h = h
      by (Some (kind.Place z)) h = h
      by (Some kind.Con) h = h
      by (Some kind.Ea) h = h
      by (Some kind.Nothing) h = h
  in_slot_kind s a w (fine.slot c u e lt) g = (let one = ap {B = ℕ} (λ k. if is_reg k then 1 else 0) e in omega (arith, one))
  in_slot_kind s a w (fine.statement c e) g = absurd (cc)

  pub symbols_less : (ss : List Sym) (es : List (Entry O)) (i w : ℕ) (k : Option Kind) → AllFine of law q d first ss es → slice_get es i ≡ Some (record { kind = k; attr = attr.InSlot w })
      → standing es + 1 ≤ needs.registers_among d.classes ss
  symbols_less ss [] i w k h at = absurd (none-some (record { kind = k; attr = attr.InSlot w }) at)
  symbols_less [] (e ∷ es) i w k h at = absurd h
  symbols_less (s ∷ ss) (e ∷ es) zero w k h at =
      let a = in_slot_kind s e.attr w h.0 (ap (λ (o : Option (Entry O)). attr_in o) at) in
      let b = symbols_kinds ss es h.1 in
      omega (arith, a, b)
    where
      attr_in : Option (Entry O) → Attr O
      attr_in None = attr.Nothing
      attr_in (Some e) = e.attr
  symbols_less (s ∷ ss) (e ∷ es) (suc i) w k h at = (let a = symbol_kind s e.attr h.0 in let b = symbols_less ss es i w k h.1 at in omega (arith, a, b))

  module _ (valid : IsPool d.pool) where
    pool_is : count_ones d.pool ≡ count (in_pool of d) 0 12
    pool_is = ones_counted 12 d.pool (let le = valid.within in omega (arith, le))

    none_below : (given : Bool) (desk : Desk O I) (r : ℕ) → r < 12 → victim of given desk ≡ None → held of desk.below (RegAt r) ≡ false
    none_below given desk r lt e = none_hold desk.below r lt (none_last (holds_register of) desk.below (no_victim given desk e).0)

    not_any : (given : Bool) (desk : Desk O I) (r : ℕ) → r < 12 → free_register of d given desk ≡ None → is_free_register of d given desk r ≡ false
    not_any given desk r lt e = lowest_none (is_free_register of d given desk) 0 12 r e (omega arith) lt

    -- with more registers than stand in symbols
    pub room_now : (right : List Sym) (desk : Desk O I) → AllFine of law q d first right desk.symbols → standing desk.symbols + 1 ≤ count_ones d.pool
        → victim of false desk ≡ None → free_register of d false desk ≡ None → ⊥
    room_now right desk h room v f =
        let some = count_less_in (in_pool of d) (λ r. held of desk.symbols (RegAt r)) 0 12 (λ r from below. by r (omega (arith, below))) in
        let any = count_any (λ (e : Entry O) r. attr_touches of e.attr (RegAt r)) desk.symbols 0 12 in
        let few = symbols_registers right desk.symbols h (none_first (may_go of) desk.symbols ((no_victim false desk v).1 refl)) in
        let all = pool_is in
        omega (arith, some, any, few, all, room)
      where
        by : (r : ℕ) → r < 12 → tick (in_pool of d r) ≤ tick (held of desk.symbols (RegAt r))
        by r lt = symbols (held of desk.symbols (RegAt r)) refl
          where
            symbols : (b : Bool) → held of desk.symbols (RegAt r) ≡ b → tick (in_pool of d r) ≤ tick (held of desk.symbols (RegAt r))
            symbols true e = (let a = tick_small (in_pool of d r) in let b = ap tick e in omega (arith, a, b))
            symbols false e =
                let none = not_free (in_pool of d r) (held of desk.below (RegAt r)) false (held of desk.symbols (RegAt r)) (not_any false desk r lt f) (none_below false desk r lt v) (λ g. e) in
                let a = ap tick none in
                omega (arith, a)

    -- where the symbols' registers were given back
    pub room_given : (desk : Desk O I) → 1 ≤ count_ones d.pool → victim of true desk ≡ None → free_register of d true desk ≡ None → ⊥
    room_given desk room v f =
        let none = count_less_in (in_pool of d) (λ r. false) 0 12 (λ r from below. by r (omega (arith, below))) in
        let zero = count_none (λ r. false) 0 12 (λ r le. refl) in
        let all = pool_is in
        omega (arith, none, zero, all, room)
      where
        by : (r : ℕ) → r < 12 → tick (in_pool of d r) ≤ tick false
        by r lt =
            let none = not_free (in_pool of d r) (held of desk.below (RegAt r)) true (held of desk.symbols (RegAt r)) (not_any true desk r lt f) (none_below true desk r lt v) (λ g. absurd (cc)) in
            let a = ap tick none in
            omega (arith, a)

  -- ---- a spill makes a register free

  -- who holds no more of a register
  nobody : (es : List (Entry O)) (r : ℕ) → holders of r es ≤ 0 → held of es (RegAt r) ≡ false
  nobody es r le = total_none (λ (e : Entry O). attr_touches of e.attr (RegAt r)) es le

  pub record IsFreed (given : Bool) (desk : Desk O I) : Type 0 where
    pub owned : OwnedAt of d desk
    pub register : ℕ
    pub small : register < 12
    pub free : is_free_register of d given desk register ≡ true

  -- a register that an entry holds
  held_one : (e : Entry O) → holds_register of e ≡ true → (r : ℕ) × (r < 12) × (attr_touches of e.attr (RegAt r) ≡ true)
  held_one e h = by (lowest (λ v. attr_touches of e.attr (RegAt v)) 0 12) refl h
    where
      by : (o : Option ℕ) → lowest (λ v. attr_touches of e.attr (RegAt v)) 0 12 ≡ o → is_some o ≡ true → (r : ℕ) × (r < 12) × (attr_touches of e.attr (RegAt r) ≡ true)
      by None at k = absurd (cc)
      by (Some r) at k = (let g = lowest_found (λ v. attr_touches of e.attr (RegAt v)) 0 12 r at in let b = g.below in (r, omega (arith, b), g.is))

  module _ (right a : List Sym) (c : ℕ) (gb gs : List ℕ) where
    abbrev In : ℕ → Desk O I → Type 0
    In i desk = Counted of law q d first right a c gb gs i desk

    saved_freed : (i : ℕ) (given : Bool) (desk : Desk O I) (p : Where) (e : Entry O) (w : ℕ) → In i desk → OwnedAt of d desk → MayMove of desk p e
        → free_slot of first desk ≡ Some w → IsFreed given (saved of q d first desk p e w)
    saved_freed i given desk p e w h owned (desks.below j e' at holding) free =
        let range = lowest_found (is_free_word of desk) first (1024 - first) w free in
        let r0 = range.from in
        let r1 = range.below in
        let low : w < 1024 = omega (arith, r0, r1) in
        let s = fine_at of law q d first a desk.below j e h.below_fine at in
        let one = held_one e holding in
        let none = gone s.0 e.attr w one.0 low s.2 in
        let set = total_set (holds of one.0) desk.below j e (entry_in_slot of e w) at in
        let old = owned one.0 one.1 in
        let a0 = ap tick one.2 in
        let a1 = ap tick none in
        let a2 = tick_small (in_pool of d one.0) in
        let pooled = tick_true (in_pool of d one.0) (omega (arith, set, old, a0, a1)) in
        record {
          owned = λ r lt. less r lt low s.0 s.2;
          register = one.0;
          small = one.1;
          free = made_free (in_pool of d one.0) (held of (slice_set desk.below j (entry_in_slot of e w)) (RegAt one.0)) given (held of desk.symbols (RegAt one.0)) pooled
              (nobody (slice_set desk.below j (entry_in_slot of e w)) one.0 (omega (arith, set, old, a0, a1, a2))) (λ g. nobody desk.symbols one.0 (omega (arith, set, old, a0, a1, a2)));
        }
      where
        less : (r : ℕ) → r < 12 → w < 1024 → (s : Sym) → fine.IsFine of law q d first s e.attr
            → holders of r desk.symbols + holders of r (slice_set desk.below j (entry_in_slot of e w)) ≤ tick (in_pool of d r)
        less r lt low s f =
            let none = ap tick (gone s e.attr w r low f) in
            let set = total_set (holds of r) desk.below j e (entry_in_slot of e w) at in
            let old = owned r lt in
            omega (arith, none, set, old)
    saved_freed i given desk p e w h owned (desks.among j e' at holding not_register) free =
        let range = lowest_found (is_free_word of desk) first (1024 - first) w free in
        let r0 = range.from in
        let r1 = range.below in
        let low : w < 1024 = omega (arith, r0, r1) in
        let s = fine_at of law q d first right desk.symbols j e h.symbols_fine at in
        let one = held_one e holding in
        let none = gone s.0 e.attr w one.0 low s.2 in
        let set = total_set (holds of one.0) desk.symbols j e (entry_in_slot of e w) at in
        let old = owned one.0 one.1 in
        let a0 = ap tick one.2 in
        let a1 = ap tick none in
        let a2 = tick_small (in_pool of d one.0) in
        let pooled = tick_true (in_pool of d one.0) (omega (arith, set, old, a0, a1)) in
        record {
          owned = λ r lt. less r lt low s.0 s.2;
          register = one.0;
          small = one.1;
          free = made_free (in_pool of d one.0) (held of desk.below (RegAt one.0)) given (held of (slice_set desk.symbols j (entry_in_slot of e w)) (RegAt one.0)) pooled
              (nobody desk.below one.0 (omega (arith, set, old, a0, a1, a2))) (λ g. nobody (slice_set desk.symbols j (entry_in_slot of e w)) one.0 (omega (arith, set, old, a0, a1, a2)));
        }
      where
        less : (r : ℕ) → r < 12 → w < 1024 → (s : Sym) → fine.IsFine of law q d first s e.attr
            → holders of r (slice_set desk.symbols j (entry_in_slot of e w)) + holders of r desk.below ≤ tick (in_pool of d r)
        less r lt low s f =
            let none = ap tick (gone s e.attr w r low f) in
            let set = total_set (holds of r) desk.symbols j e (entry_in_slot of e w) at in
            let old = owned r lt in
            omega (arith, none, set, old)

    -- ---- a register is due

    pub record IsGot (given : Bool) (p : ℕ × Desk O I) : Type 0 where
      pub small : p.0 < 12
      pub free : is_free_register of d given p.1 p.0 ≡ true
      pub owned : OwnedAt of d p.1

    spilled_had : (i : ℕ) (given : Bool) (desk : Desk O I) → In i desk → OwnedAt of d desk → (victim of given desk ≡ None → ⊥)
        → Had (IsFreed given) (spilled of q d first desk (victim of given desk))
    spilled_had i given desk h owned some = by (victim of given desk) refl
      where
        saved_by : (p : Where) (e : Entry O) → MayMove of desk p e → (o : Option ℕ) → free_slot of first desk ≡ o
            → Had (IsFreed given) (saved_in of q d first desk p (Some e) o)
        saved_by p e goes None at = tt
        saved_by p e goes (Some w) at = saved_freed i given desk p e w h owned goes at

        by : (o : Option Where) → victim of given desk ≡ o → Had (IsFreed given) (spilled of q d first desk o)
        by None at = some at
        by (Some p) at =
            let g = may_victim of given desk p at in
            subst (λ o. Had (IsFreed given) (saved_in of q d first desk p o (free_slot of first desk))) (sym g.1) (saved_by p g.0 g.2 (free_slot of first desk) refl)

    pub due_had : (i : ℕ) (given : Bool) (desk : Desk O I) → In i desk → OwnedAt of d desk → (victim of given desk ≡ None → free_register of d given desk ≡ None → ⊥)
        → Had (IsGot given) (due of q d first given desk)
    due_had i given desk h owned room = by (free_register of d given desk) refl
      where
        got : (y : Desk O I) → IsFreed given y → (o : Option ℕ) → free_register of d given y ≡ o → Had (IsGot given) (with_free of q d first y o)
        got y k None at =
            absurd (true_or_false (is_free_register of d given y k.register) k.free (lowest_none (is_free_register of d given y) 0 12 k.register at (omega arith)
            (let lt = k.small in omega (arith, lt))))
        got y k (Some r) at =
            let g = lowest_found (is_free_register of d given y) 0 12 r at in
            let lt = g.below in
            record { small = omega (arith, lt); free = g.is; owned = k.owned }

        by : (o : Option ℕ) → free_register of d given desk ≡ o → Had (IsGot given) (due_by of q d first given desk o)
        by (Some r) at =
            let g = lowest_found (is_free_register of d given desk) 0 12 r at in
            let lt = g.below in
            record { small = omega (arith, lt); free = g.is; owned = owned }
        by None at =
            had_bind (IsFreed given) (IsGot given) (spilled of q d first desk (victim of given desk)) (λ x. with_free of q d first x (free_register of d given x))
            (spilled_had i given desk h owned (λ v. room v at)) (λ y k. got y k (free_register of d given y) refl)

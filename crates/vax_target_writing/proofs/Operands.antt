-- An operand of a template, with its holes filled, is one that its instruction may have there.
use Rattle.std.proofs.Common.{◌≡◌, ℕ, zero, suc, ◌-◌, ◌^◌, ◌==◌, Bool, true, false, cond, not, ◌&&◌, Option, Some, None, Result, Ok, Err, List, [], ◌∷◌, map, length, refl, arith, slice_get}
use Rattle.std.specs.Prelude.{is_none, unwrap_or}
use Rattle.std.specs.List.{AllByRecursion}
use Rattle.std.proofs.lemmas.Bool.{and_from, lt-ltb}
use Rattle.gg_base.proofs.Facts.{second_true}
use Rattle.gg_base.specs.declared.size.Size.{Size}
use Rattle.gg_base.specs.Arithmetic.{neg32}
use Rattle.gg_base.proofs.Words.{neg_small}
use Rattle.tree_core.specs.declared.program.TreeProgram.{TreeProgram}
use Rattle.vax_target_meaning.specs.sel_target.specs.declared.attr.Attr.{Attr}
use Rattle.vax_target_meaning.specs.sel_target.specs.declared.fault.TemplateKind.{TemplateKind}
use Rattle.vax_target_meaning.specs.sel_target.specs.declared.fault.TemplateKind.TheVariants.{NotInstr}
use Rattle.vax_target_meaning.specs.term_core.specs.Shape.{Shape}
use Rattle.vax_core.specs.declared.operand.Addr.{Addr}
use Rattle.vax_core.specs.declared.operand.Base.{Base}
use Rattle.vax_core.specs.declared.operand.Base.TheVariants as bases
use Rattle.vax_core.specs.declared.operand.Operand.{Operand}
use Rattle.vax_core.specs.declared.register.Reg.{Reg}
use Rattle.vax_core.specs.declared.register.Reg.TheVariants.{R0}
use Rattle.vax_core.specs.declared.op.Access.{Access}
use Rattle.vax_core.specs.declared.op.Access.TheVariants as accesses
use Rattle.vax_core.specs.declared.op.OperandKind.{OperandKind}
use Rattle.vax_core.specs.Valid.{is_long, is_addr, is_base, is_place, is_memory, is_index, allows, is_operand, are_operands}
use Rattle.vax_target_meaning.specs.vax_templates.specs.declared.form.Number.{Number}
use Rattle.vax_target_meaning.specs.vax_templates.specs.declared.form.Number.TheVariants as number
use Rattle.vax_target_meaning.specs.vax_templates.specs.declared.form.Base.TheVariants as base
use Rattle.vax_target_meaning.specs.vax_templates.specs.declared.form.Base.{Base as FormBase}
use Rattle.vax_target_meaning.specs.vax_templates.specs.declared.form.Form.{Form}
use Rattle.vax_target_meaning.specs.vax_templates.specs.declared.setting.Hole.{Hole}
use Rattle.vax_target_meaning.specs.vax_templates.specs.declared.setting.Hole.TheVariants as hole_kind
use Rattle.vax_target_meaning.specs.vax_templates.specs.declared.setting.Own.{Own}
use Rattle.vax_target_meaning.specs.vax_templates.specs.declared.setting.Own.TheVariants as own
use Rattle.vax_target_meaning.specs.vax_templates.specs.declared.setting.Opening.{Opening}
use Rattle.vax_target_meaning.specs.vax_templates.specs.declared.setting.Opening.TheVariants as opening
use Rattle.vax_target_meaning.specs.vax_templates.specs.declared.setting.Setting.{Setting}
use Rattle.vax_target_meaning.specs.vax_templates.specs.Settings.{hole_or_other, hole_at}
use Rattle.vax_target_meaning.specs.vax_templates.specs.Standing.{Where, Immediate, Register, OwnRegister, RegisterZero, Value, Place, Local}
use Rattle.vax_target_meaning.specs.vax_templates.specs.Standing.{SavedPlace, Saved, At, where_own, where_hole, where_zero, where_deferred, at}
use Rattle.vax_target_meaning.specs.vax_templates.specs.Standing.{displaced, pointed, negated, itself, where_base, moved, where_indexed}
use Rattle.vax_target_meaning.specs.vax_templates.specs.Standing.{form_where, ◌>>=◌}
use Rattle.vax_target_meaning.specs.vax_templates.specs.HoleTerms.{constant_of, address_of, absolute_term, number_term, register_term}
use Rattle.vax_target_meaning.specs.vax_templates.specs.Taking.{Taken, Arguments, fetched, addressed, written, both, taken, evaluated}
use Rattle.vax_target_meaning.specs.vax_templates.specs.Taking.{all_evaluated, in_front}
use Rattle.vax_target_meaning.specs.vax_templates.specs.Targets.{Target, own_target, statement_target, memory_target, zero_target, targeted}
use Rattle.vax_target_meaning.specs.vax_templates.specs.Filled.{attr_at, register_in, addr_number, addr_in, number_addr, operand_in, deferred_in, filled_base, with_index, filled}
use Rattle.vax_target_meaning.specs.Fitting.{steps, is_steady}
use Rattle.vax_target_writing.proofs.Each.{EachOk, bind_each, always_ok, still_ok, if_ok}
use Rattle.vax_target_writing.proofs.Longs.{IsLongNumber, IsLongBase, IsLongForm}

-- ---- what operands may be

-- an operand that may be read
abbrev pub IsReadable : Operand → Type 0
IsReadable o = is_steady o ≡ true

-- memory, whose register isn't stepped
abbrev pub is_steady_memory : Base → Bool
is_steady_memory (bases.Imm a) = false
is_steady_memory (bases.Reg r) = false
is_steady_memory (bases.Def r) = true
is_steady_memory (bases.Inc r) = false
is_steady_memory (bases.IncDef r) = false
is_steady_memory (bases.Dec r) = false
is_steady_memory (bases.Disp a r) = true
is_steady_memory (bases.DispDef a r) = true
is_steady_memory (bases.Abs n) = true
is_steady_memory (bases.Rel a) = true
is_steady_memory (bases.RelDef a) = true

pub record IsMemory (o : Operand) : Type 0 where
  pub memory : is_steady_memory o.base ≡ true
  pub base : is_base o.base ≡ true

pub record IsWritable (o : Operand) : Type 0 where
  pub place : is_place o.base ≡ true
  pub readable : IsReadable o

index_stands : (b : Base) (x : Option Reg) → is_steady_memory b ≡ true → is_index b x ≡ true
index_stands b None e = refl
index_stands (bases.Def r) (Some x) e = refl
index_stands (bases.Disp a r) (Some x) e = refl
index_stands (bases.DispDef a r) (Some x) e = refl
index_stands (bases.Abs n) (Some x) e = refl
index_stands (bases.Rel a) (Some x) e = refl
index_stands (bases.RelDef a) (Some x) e = refl
index_stands _ _ e = absurd (cc)

place_of_memory : (b : Base) → is_steady_memory b ≡ true → is_place b ≡ true
place_of_memory (bases.Def r) e = refl
place_of_memory (bases.Disp a r) e = refl
place_of_memory (bases.DispDef a r) e = refl
place_of_memory (bases.Abs n) e = refl
place_of_memory (bases.Rel a) e = refl
place_of_memory (bases.RelDef a) e = refl
place_of_memory _ e = absurd (cc)

pub memory_of_steady : (b : Base) → is_steady_memory b ≡ true → is_memory b ≡ true
memory_of_steady (bases.Def r) e = refl
memory_of_steady (bases.Disp a r) e = refl
memory_of_steady (bases.DispDef a r) e = refl
memory_of_steady (bases.Abs n) e = refl
memory_of_steady (bases.Rel a) e = refl
memory_of_steady (bases.RelDef a) e = refl
memory_of_steady _ e = absurd (cc)

no_step : (b : Base) → is_steady_memory b ≡ true → not (steps b) ≡ true
no_step (bases.Def r) e = refl
no_step (bases.Disp a r) e = refl
no_step (bases.DispDef a r) e = refl
no_step (bases.Abs n) e = refl
no_step (bases.Rel a) e = refl
no_step (bases.RelDef a) e = refl
no_step _ e = absurd (cc)

pub readable_memory : (o : Operand) → IsMemory o → IsReadable o
readable_memory o h =
    and_from (not (steps o.base)) (is_base o.base && is_index o.base o.index) (no_step o.base h.memory)
    (and_from (is_base o.base) (is_index o.base o.index) h.base (index_stands o.base o.index h.memory))

pub writable_memory : (o : Operand) → IsMemory o → IsWritable o
writable_memory o h = record { place = place_of_memory o.base h.memory; readable = readable_memory o h }

-- ---- what holes stand for

-- a number that is one
pub record IsNumber (a : Addr) : Type 0 where
  pub addr : is_addr a ≡ true
  pub long : is_long a.offset ≡ true

-- memory without an index
pub record IsPlain (o : Operand) : Type 0 where
  pub memory : IsMemory o
  pub bare : is_none o.index ≡ true

-- an object: its place, the place whose address it holds, and its address
pub record IsObject (q : TreeProgram) (a : Attr Operand) : Type 0 where
  pub place : IsPlain (operand_in q a)
  pub deferred : IsPlain (deferred_in q a)
  pub addr : is_addr (addr_in q a) ≡ true

pub record IsLocal (q : TreeProgram) (a : Attr Operand) : Type 0 where
  pub place : IsMemory (operand_in q a)
  pub deferred : IsPlain (deferred_in q a)

-- what stands for a hole can be spelled there
abbrev pub Spells : TreeProgram → Hole → Attr Operand → Type 0
Spells q hole_kind.Register a = IsReadable (operand_in q a)
Spells q (hole_kind.Value z) a = IsReadable (operand_in q a)
Spells q (hole_kind.Place z) a = IsMemory (operand_in q a)
Spells q hole_kind.Local a = IsLocal q a
Spells q (hole_kind.SavedPlace z) a = IsMemory (operand_in q a)
Spells q hole_kind.Address a = IsPlain (operand_in q a)
Spells q hole_kind.Constant a = IsNumber (addr_in q a)
Spells q (hole_kind.Literal n) a = IsNumber (addr_in q a)
Spells q hole_kind.Object a = IsObject q a
Spells q hole_kind.Saved a = IsMemory (operand_in q a)
Spells q hole_kind.Relation a = Unit {0}
Spells q hole_kind.Other a = Unit {0}

abbrev pub AllSpell : TreeProgram → List Hole → List (Attr Operand) → Type 0
AllSpell q [] [] = Unit {0}
AllSpell q [] (a ∷ hs) = ⊥
AllSpell q (h ∷ holes) [] = ⊥
AllSpell q (h ∷ holes) (a ∷ hs) = Spells q h a × AllSpell q holes hs

-- what stands for `%0` can be written
abbrev pub OwnSpells : TreeProgram → Own → Attr Operand → Type 0
OwnSpells q own.Nothing a = Unit {0}
OwnSpells q own.Register a = IsWritable (operand_in q a)
OwnSpells q (own.Slot z) a = IsWritable (operand_in q a)

spells_nth : (q : TreeProgram) (holes : List Hole) (hs : List (Attr Operand)) (res : Attr Operand) (k : ℕ) → AllSpell q holes hs →
    Spells q (hole_or_other (slice_get holes k)) (unwrap_or (slice_get hs k) res)
spells_nth q [] [] res k h = tt
spells_nth q [] (a ∷ hs) res k h = absurd h
spells_nth q (x ∷ holes) [] res k h = absurd h
spells_nth q (x ∷ holes) (a ∷ hs) res zero h = h.0
spells_nth q (x ∷ holes) (a ∷ hs) res (suc k) h = spells_nth q holes hs res k h.1

-- ---- where operands stand

abbrev pub Stands : Where → Operand → Type 0
Stands (Immediate t) o = IsReadable o
Stands (Register t) o = IsReadable o
Stands OwnRegister o = IsWritable o
Stands RegisterZero o = IsWritable o
Stands (Value z i) o = IsReadable o
Stands (Place z i) o = IsMemory o
Stands (Local i) o = IsMemory o
Stands (SavedPlace z i) o = IsMemory o
Stands (Saved i) o = IsMemory o
Stands (At a p) o = IsMemory o

-- the same of a base, to which an index may be added
abbrev pub StandsBare : Where → Operand → Type 0
StandsBare (Immediate t) o = IsReadable o
StandsBare (Register t) o = IsReadable o
StandsBare OwnRegister o = IsWritable o
StandsBare RegisterZero o = IsWritable o
StandsBare (Value z i) o = IsReadable o
StandsBare (Place z i) o = IsMemory o
StandsBare (Local i) o = IsMemory o
StandsBare (SavedPlace z i) o = IsMemory o
StandsBare (Saved i) o = IsMemory o
StandsBare (At a p) o = IsPlain o

pub with_none : (w : Where) (o : Operand) → StandsBare w o → Stands w o
with_none (Immediate t) o h = h
with_none (Register t) o h = h
with_none OwnRegister o h = h
with_none RegisterZero o h = h
with_none (Value z i) o h = h
with_none (Place z i) o h = h
with_none (Local i) o h = h
with_none (SavedPlace z i) o h = h
with_none (Saved i) o h = h
with_none (At a p) o h = h.memory

pub is_readable : (w : Where) (o : Operand) → Stands w o → IsReadable o
is_readable (Immediate t) o h = h
is_readable (Register t) o h = h
is_readable OwnRegister o h = h.readable
is_readable RegisterZero o h = h.readable
is_readable (Value z i) o h = h
is_readable (Place z i) o h = readable_memory o h
is_readable (Local i) o h = readable_memory o h
is_readable (SavedPlace z i) o h = readable_memory o h
is_readable (Saved i) o h = readable_memory o h
is_readable (At a p) o h = readable_memory o h

module _ (q : TreeProgram) (s : Setting) (holes : List Hole) (zero' : Option Shape) (hs : List (Attr Operand)) (res : Attr Operand) where
  abbrev Filling : Type 0
  Filling = AllSpell q holes hs × OwnSpells q s.own res

  -- a hole alone
  own_stands : (o : Own) → OwnSpells q o res → EachOk (λ w. StandsBare w (operand_in q res)) (where_own o)
  own_stands own.Nothing h = tt
  own_stands own.Register h = h
  own_stands (own.Slot z) h = h

  symbol_stands : (h : Hole) (i : ℕ) (a : Attr Operand) → Spells q h a → EachOk (λ w. StandsBare w (operand_in q a)) (where_hole h i)
  symbol_stands hole_kind.Register i a k = k
  symbol_stands (hole_kind.Value z) i a k = k
  symbol_stands (hole_kind.Place z) i a k = k
  symbol_stands hole_kind.Local i a k = k.place
  symbol_stands (hole_kind.SavedPlace z) i a k = k
  symbol_stands hole_kind.Address i a k = k
  symbol_stands hole_kind.Constant i a k = tt
  symbol_stands (hole_kind.Literal n) i a k = tt
  symbol_stands hole_kind.Object i a k = k.place
  symbol_stands hole_kind.Saved i a k = k
  symbol_stands hole_kind.Relation i a k = tt
  symbol_stands hole_kind.Other i a k = tt

  hole_stands : (i : ℕ) → Filling → EachOk (λ w. StandsBare w (operand_in q (attr_at hs res i))) (cond (i == 0) (where_own s.own) (where_hole (hole_at holes i) i))
  hole_stands i h = by (i == 0) where
    by : (b : Bool) → EachOk (λ w. StandsBare w (operand_in q (cond b res (unwrap_or (slice_get hs (i - 1)) res))))
        (cond b (where_own s.own) (where_hole (cond b hole_kind.Other (hole_or_other (slice_get holes (i - 1)))) i))
    by true = own_stands s.own h.1
    by false = symbol_stands (hole_or_other (slice_get holes (i - 1))) i (unwrap_or (slice_get hs (i - 1)) res) (spells_nth q holes hs res (i - 1) h.0)

  -- numbers
  constant_is : (h : Hole) (i : ℕ) (a : Attr Operand) → Spells q h a → EachOk (λ (t : Shape). IsNumber (addr_in q a)) (constant_of h i)
  constant_is hole_kind.Register i a k = tt
  constant_is (hole_kind.Value z) i a k = tt
  constant_is (hole_kind.Place z) i a k = tt
  constant_is hole_kind.Local i a k = tt
  constant_is (hole_kind.SavedPlace z) i a k = tt
  constant_is hole_kind.Address i a k = tt
  constant_is hole_kind.Constant i a k = k
  constant_is (hole_kind.Literal n) i a k = k
  constant_is hole_kind.Object i a k = tt
  constant_is hole_kind.Saved i a k = tt
  constant_is hole_kind.Relation i a k = tt
  constant_is hole_kind.Other i a k = tt

  address_is : (h : Hole) (i : ℕ) (a : Attr Operand) → Spells q h a → EachOk (λ (t : Shape). is_addr (addr_in q a) ≡ true) (address_of h i)
  address_is hole_kind.Register i a k = tt
  address_is (hole_kind.Value z) i a k = tt
  address_is (hole_kind.Place z) i a k = tt
  address_is hole_kind.Local i a k = tt
  address_is (hole_kind.SavedPlace z) i a k = tt
  address_is hole_kind.Address i a k = tt
  address_is hole_kind.Constant i a k = k.addr
  address_is (hole_kind.Literal n) i a k = k.addr
  address_is hole_kind.Object i a k = k.addr
  address_is hole_kind.Saved i a k = tt
  address_is hole_kind.Relation i a k = tt
  address_is hole_kind.Other i a k = tt

  number_stands : (n : Number) → IsLongNumber n → AllSpell q holes hs → EachOk (λ (t : Shape). is_addr (number_addr q hs res n) ≡ true) (number_term holes n)
  number_stands (number.Itself n) long h = lt-ltb n (2 ^ 32) long
  number_stands (number.Symbol i) long h = by (i == 0) where
    by : (b : Bool) → EachOk (λ (t : Shape). is_addr (addr_in q (cond b res (unwrap_or (slice_get hs (i - 1)) res))) ≡ true)
        (address_of (cond b hole_kind.Other (hole_or_other (slice_get holes (i - 1)))) i)
    by true = tt
    by false = address_is (hole_or_other (slice_get holes (i - 1))) i (unwrap_or (slice_get hs (i - 1)) res) (spells_nth q holes hs res (i - 1) h)

  absolute_stands : (n : Number) → IsLongNumber n → AllSpell q holes hs →
      EachOk (λ (t : Shape). is_long (number_addr q hs res n).offset ≡ true) (absolute_term holes n)
  absolute_stands (number.Itself n) long h = lt-ltb n (2 ^ 32) long
  absolute_stands (number.Symbol i) long h = by (i == 0) where
    offset : (h : Hole) (a : Attr Operand) → Spells q h a → EachOk (λ (t : Shape). is_long (addr_in q a).offset ≡ true) (constant_of h i)
    offset h a k = longs (constant_of h i) (constant_is h i a k) where
      longs : (r : Result Shape TemplateKind) → EachOk (λ (t : Shape). IsNumber (addr_in q a)) r → EachOk (λ (t : Shape). is_long (addr_in q a).offset ≡ true) r
      longs (Ok t) n = n.long
      longs (Err e) n = tt

    by : (b : Bool) → EachOk (λ (t : Shape). is_long (addr_in q (cond b res (unwrap_or (slice_get hs (i - 1)) res))).offset ≡ true)
        (constant_of (cond b hole_kind.Other (hole_or_other (slice_get holes (i - 1)))) i)
    by true = tt
    by false = offset (hole_or_other (slice_get holes (i - 1))) (unwrap_or (slice_get hs (i - 1)) res) (spells_nth q holes hs res (i - 1) h)

  -- memory at the address that a symbol holds
  pointed_is : (h : Hole) (i : ℕ) (a : Attr Operand) → Spells q h a → EachOk (λ w. StandsBare w (deferred_in q a)) (where_deferred h i)
  pointed_is hole_kind.Register i a k = tt
  pointed_is (hole_kind.Value z) i a k = tt
  pointed_is (hole_kind.Place z) i a k = tt
  pointed_is hole_kind.Local i a k = k.deferred
  pointed_is (hole_kind.SavedPlace z) i a k = tt
  pointed_is hole_kind.Address i a k = tt
  pointed_is hole_kind.Constant i a k = tt
  pointed_is (hole_kind.Literal n) i a k = tt
  pointed_is hole_kind.Object i a k = k.deferred
  pointed_is hole_kind.Saved i a k = tt
  pointed_is hole_kind.Relation i a k = tt
  pointed_is hole_kind.Other i a k = tt

  deferred_stands : (i : ℕ) → AllSpell q holes hs → EachOk (λ w. StandsBare w (deferred_in q (attr_at hs res i))) (where_deferred (hole_at holes i) i)
  deferred_stands i h = by (i == 0) where
    by : (b : Bool) → EachOk (λ w. StandsBare w (deferred_in q (cond b res (unwrap_or (slice_get hs (i - 1)) res))))
        (where_deferred (cond b hole_kind.Other (hole_or_other (slice_get holes (i - 1)))) i)
    by true = tt
    by false = pointed_is (hole_or_other (slice_get holes (i - 1))) i (unwrap_or (slice_get hs (i - 1)) res) (spells_nth q holes hs res (i - 1) h)

  -- where an operand stands that is memory, if it stands somewhere
  in_memory : (P : Where → Type 0) (r : Result Shape TemplateKind) (f : Shape → Result Where TemplateKind) → ((t : Shape) → EachOk P (f t)) → EachOk P (r >>= f)
  in_memory P (Ok t) f h = h t
  in_memory P (Err e) f h = tt

  displaced_holds : (P : Type 0) (d r : Result Shape TemplateKind) → EachOk (λ (t : Shape). P) d → EachOk (λ (t : Shape). P) (displaced d r)
  displaced_holds P (Ok a) (Ok b) h = h
  displaced_holds P (Ok a) (Err e) h = tt
  displaced_holds P (Err e) r h = tt

  readable_number : (a : Addr) → is_addr a ≡ true → IsReadable (record { base = bases.Imm a; index = None })
  readable_number a e = and_from (is_addr a) true e refl

  pub base_stands : (b : FormBase) → IsLongBase b → Filling → EachOk (λ w. StandsBare w (filled_base q hs res b)) (where_base s holes zero' b)
  unfolding where_base filled_base
  base_stands base.RegisterZero long h = zeros s.opening where
    zeros : (o : Opening) → EachOk (λ w. StandsBare w (record { base = bases.Reg R0; index = None })) (where_zero o)
    zeros opening.Other = tt
    zeros opening.Save = record { place = refl; readable = refl }
    zeros opening.Return = record { place = refl; readable = refl }
  base_stands (base.Hole i) long h = hole_stands i h
  base_stands (base.Immediate n) long h =
      bind_each (λ (t : Shape). is_addr (number_addr q hs res n) ≡ true) (λ w. StandsBare w (record { base = bases.Imm (number_addr q hs res n); index = None }))
      (number_term holes n) itself (λ t e. readable_number (number_addr q hs res n) e) (number_stands n long h.0)
  base_stands (base.Negative i) long h =
      bind_each (λ (t : Shape). Unit {0}) (λ w. StandsBare w (record { base = bases.Imm (addr_number (neg32 (addr_in q (attr_at hs res i)).offset)); index = None }))
      (constant_of (hole_at holes i) i) negated
      (λ t u. readable_number (addr_number (neg32 (addr_in q (attr_at hs res i)).offset))
      (lt-ltb (neg32 (addr_in q (attr_at hs res i)).offset) (2 ^ 32) (neg_small (addr_in q (attr_at hs res i)).offset)))
      (always_ok (constant_of (hole_at holes i) i) tt)
  base_stands (base.RegisterDeferred i) long h =
      in_memory (λ w. StandsBare w (record { base = bases.Def (register_in (attr_at hs res i)); index = None })) (register_term s holes zero' i) at
      (λ t. record { memory = record { memory = refl; base = refl }; bare = refl })
  base_stands (base.Displacement n i) long h =
      bind_each (λ (t : Shape). is_addr (number_addr q hs res n) ≡ true)
      (λ w. StandsBare w (record { base = bases.Disp (number_addr q hs res n) (register_in (attr_at hs res i)); index = None }))
      (displaced (number_term holes n) (register_term s holes zero' i)) at (λ t e. record { memory = record { memory = refl; base = e }; bare = refl })
      (displaced_holds _ (number_term holes n) (register_term s holes zero' i) (number_stands n long h.0))
  base_stands (base.DisplacementDeferred n i) long h =
      bind_each (λ (t : Shape). is_addr (number_addr q hs res n) ≡ true)
      (λ w. StandsBare w (record { base = bases.DispDef (number_addr q hs res n) (register_in (attr_at hs res i)); index = None }))
      (displaced (number_term holes n) (register_term s holes zero' i)) pointed (λ t e. record { memory = record { memory = refl; base = e }; bare = refl })
      (displaced_holds _ (number_term holes n) (register_term s holes zero' i) (number_stands n long h.0))
  base_stands (base.Absolute n) long h =
      bind_each (λ (t : Shape). is_long (number_addr q hs res n).offset ≡ true)
      (λ w. StandsBare w (record { base = bases.Abs (number_addr q hs res n).offset; index = None }))
      (absolute_term holes n) at (λ t e. record { memory = record { memory = refl; base = e }; bare = refl }) (absolute_stands n long h.0)
  base_stands (base.Deferred i) long h = deferred_stands i h.0

  indexed_stands : (x : Option ℕ) (size : Size) (o : Operand) (w : Where) → StandsBare w o →
      EachOk (λ w. Stands w (with_index hs res x o)) (where_indexed s holes zero' x size w)
  indexed_stands None size o w h = with_none w o h
  indexed_stands (Some i) size o w h =
      in_memory (λ w. Stands w (record o { index = Some (register_in (attr_at hs res i)) })) (register_term s holes zero' i) (moved size w) (λ t. moves w t h) where
        moves : (w : Where) (t : Shape) → StandsBare w o → EachOk (λ w. Stands w (record o { index = Some (register_in (attr_at hs res i)) })) (moved size w t)
        moves (Immediate y) t h = tt
        moves (Register y) t h = tt
        moves OwnRegister t h = tt
        moves RegisterZero t h = tt
        moves (Value z j) t h = tt
        moves (Place z j) t h = tt
        moves (Local j) t h = tt
        moves (SavedPlace z j) t h = tt
        moves (Saved j) t h = tt
        moves (At a p) t h = record { memory = h.memory.memory; base = h.memory.base }

  pub form_stands : (f : Form) (size : Size) → IsLongForm f → Filling → EachOk (λ w. Stands w (filled q hs res f)) (form_where s holes zero' f size)
  unfolding form_where
  form_stands f size long h =
      bind_each (λ w. StandsBare w (filled_base q hs res f.base)) (λ w. Stands w (filled q hs res f)) (where_base s holes zero' f.base)
      (where_indexed s holes zero' f.index size) (λ w st. indexed_stands f.index size (filled_base q hs res f.base) w st) (base_stands f.base long h)

  -- ---- what is taken of an operand

  statement_place : (o : Operand) (w : Where) (size : Size) → Stands w o → EachOk (λ (x : Target × Bool). is_place o.base ≡ true) (statement_target s w size)
  statement_place o (Immediate t) size h = tt
  statement_place o (Register t) size h = tt
  statement_place o OwnRegister size h = tt
  statement_place o RegisterZero size h = always_ok (zero_target s.opening) h.place
  statement_place o (Value z i) size h = tt
  statement_place o (Place z i) size h = place_of_memory o.base h.memory
  statement_place o (Local i) size h = place_of_memory o.base h.memory
  statement_place o (SavedPlace z i) size h = tt
  statement_place o (Saved i) size h = place_of_memory o.base h.memory
  statement_place o (At a p) size h = always_ok (memory_target s.own a size) (place_of_memory o.base h.memory)

  other_place : (o : Operand) (w : Where) (size : Size) → Stands w o →
      EachOk (λ (x : Target × Bool). is_place o.base ≡ true) (cond s.is_statement (statement_target s w size) (Err NotInstr))
  other_place o w size h = if_ok (λ (x : Target × Bool). is_place o.base ≡ true) s.is_statement (statement_target s w size) (Err NotInstr) (λ e. statement_place o w size h) (λ e. tt)

  targeted_place : (o : Operand) (w : Where) (size : Size) → Stands w o → EachOk (λ (x : Target × Bool). is_place o.base ≡ true) (targeted s w size)
  unfolding targeted
  targeted_place o (Immediate t) size h = other_place o (Immediate t) size h
  targeted_place o (Register t) size h = other_place o (Register t) size h
  targeted_place o OwnRegister size h = always_ok (own_target s.own size) h.place
  targeted_place o RegisterZero size h = other_place o RegisterZero size h
  targeted_place o (Value z i) size h = other_place o (Value z i) size h
  targeted_place o (Place z i) size h = other_place o (Place z i) size h
  targeted_place o (Local i) size h = other_place o (Local i) size h
  targeted_place o (SavedPlace z i) size h = other_place o (SavedPlace z i) size h
  targeted_place o (Saved i) size h = other_place o (Saved i) size h
  targeted_place o (At a p) size h = other_place o (At a p) size h

  addressed_memory : (o : Operand) (w : Where) (size : Size) → Stands w o → EachOk (λ (t : Taken). is_memory o.base ≡ true) (addressed w size)
  addressed_memory o (Immediate t) size h = tt
  addressed_memory o (Register t) size h = tt
  addressed_memory o OwnRegister size h = tt
  addressed_memory o RegisterZero size h = tt
  addressed_memory o (Value z i) size h = tt
  addressed_memory o (Place z i) size h = tt
  addressed_memory o (Local i) size h = tt
  addressed_memory o (SavedPlace z i) size h = memory_of_steady o.base h.memory
  addressed_memory o (Saved i) size h = tt
  addressed_memory o (At a p) size h = memory_of_steady o.base h.memory

  taken_allows : (o : Operand) (a : Access) (w : Where) (size : Size) → Stands w o → EachOk (λ (t : Taken). allows a o.base ≡ true) (taken s zero' a w size)
  unfolding taken
  taken_allows o accesses.Read w size h = always_ok (fetched s zero' w size) refl
  taken_allows o accesses.Modify w size h =
      bind_each (λ (t : Taken). Unit {0}) (λ (t : Taken). is_place o.base ≡ true) (fetched s zero' w size) (λ (t : Taken). targeted s w size >>= both t)
      (λ t u. still_ok _ (targeted s w size) (both t) (targeted_place o w size h)) (always_ok (fetched s zero' w size) tt)
  taken_allows o accesses.Write w size h = still_ok _ (targeted s w size) written (targeted_place o w size h)
  taken_allows o accesses.Address w size h = addressed_memory o w size h
  taken_allows o accesses.Count w size h = tt

  evaluated_stands : (k : OperandKind) (f : Form) → IsLongForm f → Filling → EachOk (λ (t : Taken). is_operand k (filled q hs res f) ≡ true) (evaluated s holes zero' k f)
  unfolding evaluated
  evaluated_stands k f long h =
      bind_each (λ w. Stands w (filled q hs res f)) (λ (t : Taken). is_operand k (filled q hs res f) ≡ true) (form_where s holes zero' f k.size) (λ (w : Where). taken s zero' k.access w k.size)
      (λ w st. allowed (taken s zero' k.access w k.size) (is_readable w (filled q hs res f) st) (taken_allows (filled q hs res f) k.access w k.size st)) (form_stands f k.size long h) where
        allowed : (r : Result Taken TemplateKind) → IsReadable (filled q hs res f) → EachOk (λ (t : Taken). allows k.access (filled q hs res f).base ≡ true) r
            → EachOk (λ (t : Taken). is_operand k (filled q hs res f) ≡ true) r
        allowed (Ok t) e f' = and_from (allows k.access (filled q hs res f).base) (is_base (filled q hs res f).base && is_index (filled q hs res f).base (filled q hs res f).index) f'
            (second_true (not (steps (filled q hs res f).base)) (is_base (filled q hs res f).base && is_index (filled q hs res f).base (filled q hs res f).index) e)
        allowed (Err x) e f' = tt

  -- all operands are those that the instruction may have
  pub all_stand : (ks : List OperandKind) (fs : List Form) → length fs ≡ length ks → AllByRecursion IsLongForm fs → Filling →
      EachOk (λ (x : Arguments). are_operands ks (map (filled q hs res) fs) ≡ true) (all_evaluated s holes zero' ks fs)
  all_stand [] [] e long h = refl
  all_stand [] (f ∷ fs) e long h = absurd (omega (arith, e))
  all_stand (k ∷ ks) [] e long h = tt
  all_stand (k ∷ ks) (f ∷ fs) e long h =
      bind_each (λ (t : Taken). is_operand k (filled q hs res f) ≡ true) (λ (x : Arguments). are_operands (k ∷ ks) (map (filled q hs res) (f ∷ fs)) ≡ true)
      (evaluated s holes zero' k f) (λ (t : Taken). all_evaluated s holes zero' ks fs >>= in_front t)
      (λ t is. still_ok _ (all_evaluated s holes zero' ks fs) (in_front t)
      (rest (all_evaluated s holes zero' ks fs) is (all_stand ks fs (omega (arith, e)) long.1 h)))
      (evaluated_stands k f long.0 h) where
        rest : (r : Result Arguments TemplateKind) → is_operand k (filled q hs res f) ≡ true → EachOk (λ (x : Arguments). are_operands ks (map (filled q hs res) fs) ≡ true) r →
            EachOk (λ (x : Arguments). are_operands (k ∷ ks) (map (filled q hs res) (f ∷ fs)) ≡ true) r
        rest (Ok x) is a = and_from (is_operand k (filled q hs res f)) (are_operands ks (map (filled q hs res) fs)) is a
        rest (Err x) is a = tt

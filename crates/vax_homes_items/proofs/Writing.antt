-- A body with homes can be written: a register stands where a longword is read or written, and a register deferred where memory may stand.
use Rattle.std.proofs.Common.{◌≡◌, inl, inr, ℕ, Bool, true, false, cond, List, [], ◌∷◌, map, Option, Some, None, refl, sym, ap, ◌∙◌}
use Rattle.std.specs.Prelude.{is_none, ◌&&◌}
use Rattle.std.specs.List.{list_all}
use Rattle.std.proofs.lemmas.Bool.{and_parts, and_from}
use Rattle.std.proofs.lemmas.Option.{none-some}
use Rattle.vax_homes_law.specs.vax_confined.specs.vax_core.specs.declared.register.Reg.{Reg}
use Rattle.vax_homes_law.specs.vax_confined.specs.vax_core.specs.declared.operand.Addr.{Addr}
use Rattle.vax_homes_law.specs.vax_confined.specs.vax_core.specs.declared.operand.Base.{Base}
use Rattle.vax_homes_law.specs.vax_confined.specs.vax_core.specs.declared.operand.Base.TheVariants as bases
use Rattle.vax_homes_law.specs.vax_confined.specs.vax_core.specs.declared.operand.Operand.{Operand}
use Rattle.vax_homes_law.specs.vax_confined.specs.vax_core.specs.declared.op.Access.{Access}
use Rattle.vax_homes_law.specs.vax_confined.specs.vax_core.specs.declared.op.Access.TheVariants as accesses
use Rattle.vax_homes_law.specs.vax_confined.specs.vax_core.specs.declared.op.OperandKind.{OperandKind}
use Rattle.vax_homes_law.specs.vax_confined.specs.vax_core.specs.declared.code.CodeItem.{CodeItem}
use Rattle.vax_homes_law.specs.vax_confined.specs.vax_core.specs.declared.code.CodeItem.TheVariants as item_kind
use Rattle.vax_homes_law.specs.vax_confined.specs.vax_core.specs.Ops.{shape}
use Rattle.vax_homes_law.specs.vax_confined.specs.vax_core.specs.Valid.{is_base, allows, is_index, is_operand, are_operands, is_target, is_code_item}
use Rattle.vax_homes_law.specs.vax_homes.specs.declared.choose.Home.{Home}
use Rattle.vax_homes_law.specs.vax_homes.specs.Choosing.{is_home_at, is_word_at, is_long, is_value, is_fp, allows_home, spares_base, spares, all_spare, item_spares, is_homeable, homes_of}
use Rattle.vax_homes_law.specs.vax_homes.specs.Homing.{register_at, home_at, held_by, pointed_by, homed_base, homed_operand, homed_item}
use Rattle.vax_homes_law.specs.Alike.{Has}
use Rattle.vax_homes_items.specs.Items.{HomedBodiesCanBeWritten}
use Rattle.vax_homes_items.proofs.Standing.{home_is_chosen}

-- a home whose word stands there
record IsHomeAt (hs : List Home) (a : Addr) : Type 0 where
  home : Home
  has : Has hs home
  at : is_home_at home.local a ≡ true

home_found : (hs : List Home) (a : Addr) (r : Reg) → register_at hs a ≡ Some r → IsHomeAt hs a
home_found [] a r e = absurd (none-some r e)
home_found (h ∷ hs) a r e = by (is_home_at h.local a) refl e (λ f. home_found hs a r f)
  where
    by : (b : Bool) → is_home_at h.local a ≡ b → cond b (Some h.register) (register_at hs a) ≡ Some r → (register_at hs a ≡ Some r → IsHomeAt hs a) → IsHomeAt (h ∷ hs) a
    by true is f more = record { home = h; has = inl refl; at = is }
    by false is f more = let rest = more f in record { home = rest.home; has = inr rest.has; at = rest.at }

-- ---- operands

abbrev is_written : OperandKind → Base → Option Reg → Bool
is_written kind b x = allows kind.access b && (is_base b && is_index b x)

-- a register may stand where a place's value does
register_allowed : (access : Access) (a : Addr) (q r : Reg) → is_value access ≡ true → allows access (bases.Disp a q) ≡ true → allows access (bases.Reg r) ≡ true
register_allowed accesses.Read a q r v h = refl
register_allowed accesses.Modify a q r v h = refl
register_allowed accesses.Write a q r v h = refl
register_allowed accesses.Address a q r v h = absurd cc
register_allowed accesses.Count a q r v h = absurd cc

deferred_allowed : (access : Access) (a : Addr) (q r : Reg) → allows access (bases.DispDef a q) ≡ true → allows access (bases.Def r) ≡ true
deferred_allowed accesses.Read a q r h = refl
deferred_allowed accesses.Modify a q r h = refl
deferred_allowed accesses.Write a q r h = refl
deferred_allowed accesses.Address a q r h = refl
deferred_allowed accesses.Count a q r h = absurd cc

plain_index : (r : Reg) (x : Option Reg) → is_none x ≡ true → is_index (bases.Reg r) x ≡ true
plain_index r None h = refl
plain_index r (Some y) h = absurd cc

deferred_index : (r : Reg) (x : Option Reg) → is_index (bases.Def r) x ≡ true
deferred_index r None = refl
deferred_index r (Some y) = refl

module _ (hs : List Home) where
  -- what holds of each home
  abbrev Each : (ℕ → Bool) → Type 0
  Each p = (g : Home) → Has hs g → p g.local ≡ true

  -- the operand has no index, and its value is used
  spared_so : (g : Home) (kind : OperandKind) (plain : Bool) (a : Addr) (q : Reg) → is_fp q ≡ true → is_home_at g.local a ≡ true → spares_base g.local kind plain (bases.Disp a q) ≡ true
      → (plain ≡ true) × (is_value kind.access ≡ true)
  spared_so g kind plain a q fp at h =
      let s : (plain && (is_word_at a && allows_home g.local a kind)) ≡ true = sym (ap (λ (b : Bool). cond b (plain && (is_word_at a && allows_home g.local a kind)) true) fp) ∙ h in
      let p = and_parts plain (is_word_at a && allows_home g.local a kind) s in
      let v : cond (is_home_at g.local a) (is_long kind.size && is_value kind.access) true ≡ true = (and_parts (is_word_at a) (allows_home g.local a kind) p.1).1 in
      let w : (is_long kind.size && is_value kind.access) ≡ true = sym (ap (λ (b : Bool). cond b (is_long kind.size && is_value kind.access) true) at) ∙ v in
      (p.0, (and_parts (is_long kind.size) (is_value kind.access) w).1)

  held_written : (kind : OperandKind) (a : Addr) (q : Reg) (x : Option Reg) (fp : Bool) → is_fp q ≡ fp → (o : Option Reg) → cond fp (register_at hs a) None ≡ o
      → Each (λ (k : ℕ). spares_base k kind (is_none x) (bases.Disp a q)) → is_written kind (bases.Disp a q) x ≡ true → is_written kind (held_by o (bases.Disp a q)) x ≡ true
  held_written kind a q x fp is None e spared valid = valid
  held_written kind a q x false is (Some r) e spared valid = absurd (none-some r e)
  held_written kind a q x true is (Some r) e spared valid =
      let h = home_found hs a r e in
      let s = spared_so h.home kind (is_none x) a q is h.at (spared h.home h.has) in
      and_from (allows kind.access (bases.Reg r)) (is_index (bases.Reg r) x)
      (register_allowed kind.access a q r s.1 (and_parts (allows kind.access (bases.Disp a q)) (is_base (bases.Disp a q) && is_index (bases.Disp a q) x) valid).0) (plain_index r x s.0)

  pointed_written : (kind : OperandKind) (a : Addr) (q : Reg) (x : Option Reg) (o : Option Reg) → is_written kind (bases.DispDef a q) x ≡ true
      → is_written kind (pointed_by o (bases.DispDef a q)) x ≡ true
  pointed_written kind a q x None valid = valid
  pointed_written kind a q x (Some r) valid =
      and_from (allows kind.access (bases.Def r)) (is_index (bases.Def r) x)
      (deferred_allowed kind.access a q r (and_parts (allows kind.access (bases.DispDef a q)) (is_base (bases.DispDef a q) && is_index (bases.DispDef a q) x) valid).0) (deferred_index r x)

  base_written : (kind : OperandKind) (b : Base) (x : Option Reg) → Each (λ (k : ℕ). spares_base k kind (is_none x) b) → is_written kind b x ≡ true → is_written kind (homed_base hs b) x ≡ true
  base_written kind (bases.Disp a q) x spared valid = held_written kind a q x (is_fp q) refl (home_at hs q a) refl spared valid
  base_written kind (bases.DispDef a q) x spared valid = pointed_written kind a q x (home_at hs q a) valid
  base_written kind (bases.Imm a) x spared valid = valid
  base_written kind (bases.Reg r) x spared valid = valid
  base_written kind (bases.Def r) x spared valid = valid
  base_written kind (bases.Inc r) x spared valid = valid
  base_written kind (bases.IncDef r) x spared valid = valid
  base_written kind (bases.Dec r) x spared valid = valid
  base_written kind (bases.Abs n) x spared valid = valid
  base_written kind (bases.Rel a) x spared valid = valid
  base_written kind (bases.RelDef a) x spared valid = valid

  operands_written : (kinds : List OperandKind) (os : List Operand) → Each (λ (k : ℕ). all_spare k kinds os) → are_operands kinds os ≡ true → are_operands kinds (map (homed_operand hs) os) ≡ true
  operands_written [] [] spared valid = refl
  operands_written [] (o ∷ os) spared valid = absurd cc
  operands_written (k ∷ kinds) [] spared valid = absurd cc
  operands_written (k ∷ kinds) (o ∷ os) spared valid =
      let v = and_parts (is_operand k o) (are_operands kinds os) valid in
      and_from (is_operand k (homed_operand hs o)) (are_operands kinds (map (homed_operand hs) os))
      (base_written k o.base o.index (λ g has. (and_parts (spares g.local k o) (all_spare g.local kinds os) (spared g has)).0) v.0)
      (operands_written kinds os (λ g has. (and_parts (spares g.local k o) (all_spare g.local kinds os) (spared g has)).1) v.1)

  -- ---- items

  item_written : (x : CodeItem) → Each (λ (k : ℕ). item_spares k x) → is_code_item x ≡ true → is_code_item (homed_item hs x) ≡ true
  item_written (item_kind.Label n) spared valid = valid
  item_written (item_kind.Globl n) spared valid = valid
  item_written (item_kind.Mask n) spared valid = valid
  item_written (item_kind.Instr i) spared valid =
      let v = and_parts (are_operands (shape i.op).operands i.operands) (is_target (shape i.op).target i.target) valid in
      and_from (are_operands (shape i.op).operands (map (homed_operand hs) i.operands)) (is_target (shape i.op).target i.target)
      (operands_written (shape i.op).operands i.operands spared v.0) v.1

  body_written : (body : List CodeItem) → Each (λ (k : ℕ). is_homeable body k) → list_all is_code_item body ≡ true → list_all is_code_item (map (homed_item hs) body) ≡ true
  body_written [] spared valid = refl
  body_written (x ∷ body) spared valid =
      let v = and_parts (is_code_item x) (list_all is_code_item body) valid in
      and_from (is_code_item (homed_item hs x)) (list_all is_code_item (map (homed_item hs) body))
      (item_written x (λ g has. (and_parts (item_spares g.local x) (is_homeable body g.local) (spared g has)).0) v.0)
      (body_written body (λ g has. (and_parts (item_spares g.local x) (is_homeable body g.local) (spared g has)).1) v.1)

pub homed_bodies_can_be_written : HomedBodiesCanBeWritten
homed_bodies_can_be_written wanted body valid = body_written (homes_of wanted body) body (λ g has. (home_is_chosen wanted body g has).0) valid

-- Only operands change, and those that change have no name.
use Rattle.std.proofs.Common.{◌≡◌, ℕ, suc, ◌+◌, Bool, true, false, cond, List, [], ◌∷◌, ◌++◌, length, map, Option, Some, None, refl, sym, ap, ◌∙◌}
use Rattle.std.specs.Prelude.{is_none, ◌||◌}
use Rattle.std.specs.Option.{option_or}
use Rattle.std.proofs.lemmas.Bool.{and_parts}
use Rattle.std.proofs.lemmas.Option.{none-some}
use Rattle.gg_base.proofs.Facts.{none_is}
use Rattle.vax_homes_law.specs.vax_confined.specs.vax_core.specs.declared.register.Reg.{Reg}
use Rattle.vax_homes_law.specs.vax_confined.specs.vax_core.specs.declared.operand.Addr.{Addr}
use Rattle.vax_homes_law.specs.vax_confined.specs.vax_core.specs.declared.operand.Base.{Base}
use Rattle.vax_homes_law.specs.vax_confined.specs.vax_core.specs.declared.operand.Base.TheVariants as bases
use Rattle.vax_homes_law.specs.vax_confined.specs.vax_core.specs.declared.operand.Operand.{Operand}
use Rattle.vax_homes_law.specs.vax_confined.specs.vax_core.specs.declared.code.AreaItem.{AreaItem}
use Rattle.vax_homes_law.specs.vax_confined.specs.vax_core.specs.declared.code.CodeItem.{CodeItem}
use Rattle.vax_homes_law.specs.vax_confined.specs.vax_core.specs.declared.code.CodeItem.TheVariants as item_kind
use Rattle.vax_homes_law.specs.vax_confined.specs.vax_core.specs.declared.code.Instr.{Instr}
use Rattle.vax_homes_law.specs.vax_confined.specs.vax_machine.specs.Functions.{action_of}
use Rattle.vax_homes_law.specs.vax_confined.specs.vax_machine.specs.Labels.{is_label, has_label, label_place, is_call, name_in, undefined_name, undefined_operand, undefined_target, undefined_at}
use Rattle.vax_homes_law.specs.vax_homes.specs.vax_frames.specs.Frames.{code_items}
use Rattle.vax_homes_law.specs.vax_homes.specs.declared.choose.Home.{Home}
use Rattle.vax_homes_law.specs.vax_homes.specs.Choosing.{is_home_at, is_fp}
use Rattle.vax_homes_law.specs.vax_homes.specs.Homing.{register_at, home_at, held_by, pointed_by, homed_base, homed_operand, homed_instr, homed_item}
use Rattle.vax_homes_items.specs.Items.{HomedItemsAreLike, HomedBodiesAreLike}

module _ (hs : List Home) where
  -- ---- names

  unnamed : (gs : List Home) (a : Addr) (r : Reg) → register_at gs a ≡ Some r → a.name ≡ None
  unnamed [] a r e = absurd (none-some r e)
  unnamed (g ∷ gs) a r e = by (is_home_at g.local a) refl e (λ f. unnamed gs a r f)
    where
      by : (b : Bool) → is_home_at g.local a ≡ b → cond b (Some g.register) (register_at gs a) ≡ Some r → (register_at gs a ≡ Some r → a.name ≡ None) → a.name ≡ None
      by true is f more = none_is a.name (and_parts (is_none a.name) _ is).0
      by false is f more = more f

  home_unnamed : (q : Reg) (a : Addr) (r : Reg) → home_at hs q a ≡ Some r → a.name ≡ None
  home_unnamed q a r e = by (is_fp q) e
    where
      by : (b : Bool) → cond b (register_at hs a) None ≡ Some r → a.name ≡ None
      by true f = unnamed hs a r f
      by false f = absurd (none-some r f)

  held_name : (o : Option Reg) (a : Addr) (q : Reg) → ((r : Reg) → o ≡ Some r → a.name ≡ None) → name_in (held_by o (bases.Disp a q)) ≡ a.name
  held_name None a q h = refl
  held_name (Some r) a q h = sym (h r refl)

  pointed_name : (o : Option Reg) (a : Addr) (q : Reg) → ((r : Reg) → o ≡ Some r → a.name ≡ None) → name_in (pointed_by o (bases.DispDef a q)) ≡ a.name
  pointed_name None a q h = refl
  pointed_name (Some r) a q h = sym (h r refl)

  base_name : (b : Base) → name_in (homed_base hs b) ≡ name_in b
  base_name (bases.Disp a q) = held_name (home_at hs q a) a q (λ r e. home_unnamed q a r e)
  base_name (bases.DispDef a q) = pointed_name (home_at hs q a) a q (λ r e. home_unnamed q a r e)
  base_name (bases.Imm a) = refl
  base_name (bases.Reg r) = refl
  base_name (bases.Def r) = refl
  base_name (bases.Inc r) = refl
  base_name (bases.IncDef r) = refl
  base_name (bases.Dec r) = refl
  base_name (bases.Abs n) = refl
  base_name (bases.Rel a) = refl
  base_name (bases.RelDef a) = refl

  operand_names_same : (area : List AreaItem) (os : List Operand) → undefined_operand area (map (homed_operand hs) os) ≡ undefined_operand area os
  operand_names_same area [] = refl
  operand_names_same area (o ∷ os) =
      ap (λ (n : Option (List ℕ)). option_or (undefined_name area n) (undefined_operand area (map (homed_operand hs) os))) (base_name o.base)
      ∙ ap (λ (n : Option (List ℕ)). option_or (undefined_name area (name_in o.base)) n) (operand_names_same area os)

  item_names_same : (area : List AreaItem) (code : List CodeItem) (x : CodeItem) → undefined_at area code (homed_item hs x) ≡ undefined_at area code x
  item_names_same area code (item_kind.Label n) = refl
  item_names_same area code (item_kind.Globl n) = refl
  item_names_same area code (item_kind.Mask n) = refl
  item_names_same area code (item_kind.Instr i) =
      ap (λ (o : Option (List ℕ)). option_or o (undefined_target code (is_call (action_of i.op)) i.target)) (operand_names_same area i.operands)

  item_label : (x : CodeItem) (name : List ℕ) → is_label (homed_item hs x) name ≡ is_label x name
  item_label (item_kind.Label n) name = refl
  item_label (item_kind.Globl n) name = refl
  item_label (item_kind.Mask n) name = refl
  item_label (item_kind.Instr i) name = refl

  -- ---- a body

  body_size : (body : List CodeItem) → length (map (homed_item hs) body) ≡ length body
  body_size [] = refl
  body_size (x ∷ body) = ap suc (body_size body)

  body_labels : (body : List CodeItem) (name : List ℕ) → has_label (map (homed_item hs) body) name ≡ has_label body name
  body_labels [] name = refl
  body_labels (x ∷ body) name =
      ap (λ (b : Bool). b || has_label (map (homed_item hs) body) name) (item_label x name) ∙ ap (λ (b : Bool). is_label x name || b) (body_labels body name)

  body_places : (body : List CodeItem) (name : List ℕ) → label_place (map (homed_item hs) body) name ≡ label_place body name
  body_places [] name = refl
  body_places (x ∷ body) name =
      ap (λ (b : Bool). cond b 0 (label_place (map (homed_item hs) body) name + 1)) (item_label x name) ∙ ap (λ (n : ℕ). cond (is_label x name) 0 (n + 1)) (body_places body name)

  tree_behind : (is : List Instr) (body : List CodeItem) → map (homed_item hs) (code_items is ++ body) ≡ code_items (map (homed_instr hs) is) ++ map (homed_item hs) body
  tree_behind [] body = refl
  tree_behind (i ∷ is) body = ap (λ (l : List CodeItem). item_kind.Instr (homed_instr hs i) ∷ l) (tree_behind is body)

pub homed_items_are_like : HomedItemsAreLike
homed_items_are_like hs x = record { label = λ name. item_label hs x name; names = λ area code. item_names_same hs area code x }

pub homed_bodies_are_like : HomedBodiesAreLike
homed_bodies_are_like hs body = record {
  size = body_size hs body;
  labels = λ name. body_labels hs body name;
  places = λ name. body_places hs body name;
  behind = λ is. tree_behind hs is body;
}

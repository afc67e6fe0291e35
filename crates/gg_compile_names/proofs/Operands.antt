-- The names in operands of templates with their holes filled are objects' labels.
use Rattle.std.proofs.Common.{◌≡◌, ℕ, zero, suc, ◌-◌, ◌==◌, List, [], ◌∷◌, Option, Some, None, Bool, true, false, cond, refl, ap}
use Rattle.std.specs.Prelude.{nat_lt, nat_le, is_none, slice_get, unwrap_or}
use Rattle.std.specs.List.{AllByRecursion as All}
use Rattle.gg_base.proofs.Facts.{none_is as is_none_is}
use Rattle.tree_core.specs.declared.token.Tok.{Tok}
use Rattle.tree_core.specs.declared.token.Tok.TheVariants as tok
use Rattle.tree_core.specs.declared.tree.Att.{Att}
use Rattle.tree_core.specs.declared.tree.Att.TheVariants as att
use Rattle.tree_core.specs.declared.program.Object.{Object}
use Rattle.tree_core.specs.declared.program.TreeProgram.{TreeProgram}
use Rattle.tree_core.specs.Names.{label_name}
use Rattle.vax_target_meaning.specs.sel_target.specs.declared.attr.Attr.{Attr}
use Rattle.vax_target_meaning.specs.sel_target.specs.declared.attr.Attr.TheVariants as attr
use Rattle.vax_core.specs.declared.operand.Base.{Base}
use Rattle.vax_core.specs.declared.operand.Operand.{Operand}
use Rattle.vax_core.specs.declared.code.AreaItem.{AreaItem}
use Rattle.vax_core.specs.declared.code.CodeItem.{CodeItem}
use Rattle.vax_core.specs.Homes.{home, at_home, argument_home}
use Rattle.vax_machine.specs.Area.{has_area_label}
use Rattle.vax_machine.specs.Labels.{name_in, undefined_name, has_label}
use Rattle.vax_target_meaning.specs.vax_templates.specs.declared.form.Number.{Number}
use Rattle.vax_target_meaning.specs.vax_templates.specs.declared.form.Number.TheVariants as number
use Rattle.vax_target_meaning.specs.vax_templates.specs.declared.form.Base.TheVariants as base
use Rattle.vax_target_meaning.specs.vax_templates.specs.declared.form.Base.{Base as FormBase}
use Rattle.vax_target_meaning.specs.vax_templates.specs.declared.form.Form.{Form}
use Rattle.vax_target_meaning.specs.vax_templates.specs.Instructions.{shape_of_pieces}
use Rattle.vax_target_meaning.specs.vax_templates.specs.Filled.{spare, attr_at, label_of, addr_of_att, addr_in, number_addr, word_operand, slot_operand, argument_deferred, slot_deferred}
use Rattle.vax_target_meaning.specs.vax_templates.specs.Filled.{leaf_operand, operand_in, leaf_deferred, deferred_in, filled_base, with_index, filled, filled_or_spare}
use Rattle.vax_target_meaning.specs.vax_templates.specs.FilledLines.{label_of_att}
use Rattle.vax_target_meaning.specs.Vax.{vax}
use Rattle.sel_parse_lines.specs.Claims.{Lasts}

pub none_is : {X : Type 0} (o : Option X) → o ≡ None → is_none o ≡ true
none_is o e = ap is_none e

module _ (q : TreeProgram) (area : List AreaItem) (code : List CodeItem) where
  -- a base's name is a label of the data area
  abbrev pub Named : Base → Type 0
  Named b = undefined_name area (name_in b) ≡ None

  abbrev pub is_named : Operand → Bool
  is_named o = is_none (undefined_name area (name_in o.base))

  -- the label to which a leaf goes stands in the code
  abbrev pub stands : Option ℕ → Bool
  stands None = true
  stands (Some n) = has_label code (label_name n)

  -- what may stand for a symbol: its operand's name is there, and its label
  abbrev pub good : Attr Operand → Bool
  good (attr.Reg r) = true
  good (attr.InSlot w) = true
  good (attr.Value o) = is_named o
  good (attr.Place o) = is_named o
  good (attr.Con n) = true
  good (attr.Ea o) = is_named o
  good (attr.Token l) = stands (label_of_att l.att)
  good attr.Nothing = true

  abbrev pub Good : Attr Operand → Type 0
  Good a = good a ≡ true

  module _ (objects : (n : ℕ) (o : Object) → slice_get q.objects n ≡ Some o → has_area_label area o.label ≡ true) where
    object_named : (n : ℕ) (o : Option Object) → slice_get q.objects n ≡ o → undefined_name area (label_of o) ≡ None
    object_named n None e = refl
    object_named n (Some o) e = ap (λ (b : Bool). cond b None (Some o.label)) (objects n o e)

    addr_named : (a : Att) → undefined_name area (addr_of_att q a).name ≡ None
    addr_named att.Nothing = refl
    addr_named (att.Number n) = refl
    addr_named (att.Object object offset) = object_named object (slice_get q.objects object) refl
    addr_named (att.Slot k) = refl
    addr_named (att.Branch rel label) = refl
    addr_named (att.Label label) = refl
    addr_named (att.Callee function count) = refl

    hole_addr : (a : Attr Operand) → undefined_name area (addr_in q a).name ≡ None
    hole_addr (attr.Reg r) = refl
    hole_addr (attr.InSlot w) = refl
    hole_addr (attr.Value o) = refl
    hole_addr (attr.Place o) = refl
    hole_addr (attr.Con n) = refl
    hole_addr (attr.Ea o) = refl
    hole_addr (attr.Token l) = addr_named l.att
    hole_addr attr.Nothing = refl

    number_named : (holes : List (Attr Operand)) (z : Attr Operand) (n : Number) → undefined_name area (number_addr q holes z n).name ≡ None
    number_named holes z (number.Itself n) = refl
    number_named holes z (number.Symbol i) = hole_addr (attr_at holes z i)

    -- ---- words of the frame and arguments have no name

    either_named : (b : Bool) (x y : Operand) → Named x.base → Named y.base → Named (cond b x y).base
    either_named true x y h k = h
    either_named false x y h k = k

    word_named : (k : ℕ) → Named (word_operand k).base
    word_named k = either_named (nat_lt k 1024) (home k) spare refl refl

    slot_named : (t : Tok) (k : ℕ) → Named (slot_operand t k).base
    slot_named tok.Arg k = either_named (nat_le k 255) (argument_home k) spare refl refl
    slot_named t k = word_named k

    deferred_named : (t : Tok) (k : ℕ) → Named (slot_deferred t k).base
    deferred_named tok.Arg k = either_named (nat_le k 255) (argument_deferred k) spare refl refl
    deferred_named t k = either_named (nat_lt k 1024) (at_home k) spare refl refl

    leaf_named : (t : Tok) (a : Att) → Named (leaf_operand q t a).base
    leaf_named t att.Nothing = refl
    leaf_named t (att.Number n) = refl
    leaf_named t (att.Object object offset) = object_named object (slice_get q.objects object) refl
    leaf_named t (att.Slot k) = slot_named t k
    leaf_named t (att.Branch rel label) = refl
    leaf_named t (att.Label label) = refl
    leaf_named t (att.Callee function count) = refl

    far_named : (t : Tok) (a : Att) → Named (leaf_deferred q t a).base
    far_named t att.Nothing = refl
    far_named t (att.Number n) = refl
    far_named t (att.Object object offset) = object_named object (slice_get q.objects object) refl
    far_named t (att.Slot k) = deferred_named t k
    far_named t (att.Branch rel label) = refl
    far_named t (att.Label label) = refl
    far_named t (att.Callee function count) = refl

    operand_named : (a : Attr Operand) → Good a → Named (operand_in q a).base
    operand_named (attr.Reg r) h = refl
    operand_named (attr.InSlot w) h = word_named w
    operand_named (attr.Value o) h = is_none_is (undefined_name area (name_in o.base)) h
    operand_named (attr.Place o) h = is_none_is (undefined_name area (name_in o.base)) h
    operand_named (attr.Con n) h = refl
    operand_named (attr.Ea o) h = is_none_is (undefined_name area (name_in o.base)) h
    operand_named (attr.Token l) h = leaf_named l.tok l.att
    operand_named attr.Nothing h = refl

    held_named : (a : Attr Operand) → Named (deferred_in q a).base
    held_named (attr.Reg r) = refl
    held_named (attr.InSlot w) = refl
    held_named (attr.Value o) = refl
    held_named (attr.Place o) = refl
    held_named (attr.Con n) = refl
    held_named (attr.Ea o) = refl
    held_named (attr.Token l) = far_named l.tok l.att
    held_named attr.Nothing = refl

    -- ---- holes

    get_good : (holes : List (Attr Operand)) (n : ℕ) (z : Attr Operand) → All Good holes → Good z → Good (unwrap_or (slice_get holes n) z)
    get_good [] zero z h k = k
    get_good [] (suc n) z h k = k
    get_good (a ∷ holes) zero z h k = h.0
    get_good (a ∷ holes) (suc n) z h k = get_good holes n z h.1 k

    either_good : (b : Bool) (x y : Attr Operand) → Good x → Good y → Good (cond b x y)
    either_good true x y h k = h
    either_good false x y h k = k

    pub at_good : (holes : List (Attr Operand)) (z : Attr Operand) (i : ℕ) → All Good holes → Good z → Good (attr_at holes z i)
    at_good holes z i h k = either_good (i == 0) z (unwrap_or (slice_get holes (i - 1)) z) k (get_good holes (i - 1) z h k)

    base_named : (holes : List (Attr Operand)) (z : Attr Operand) (b : FormBase) → All Good holes → Good z → Named (filled_base q holes z b).base
    unfolding filled_base
    base_named holes z base.RegisterZero h k = refl
    base_named holes z (base.Hole i) h k = operand_named (attr_at holes z i) (at_good holes z i h k)
    base_named holes z (base.Immediate n) h k = number_named holes z n
    base_named holes z (base.Negative i) h k = refl
    base_named holes z (base.RegisterDeferred i) h k = refl
    base_named holes z (base.Displacement n i) h k = number_named holes z n
    base_named holes z (base.DisplacementDeferred n i) h k = number_named holes z n
    base_named holes z (base.Absolute n) h k = refl
    base_named holes z (base.Deferred i) h k = held_named (attr_at holes z i)

    index_named : (holes : List (Attr Operand)) (z : Attr Operand) (i : Option ℕ) (o : Operand) → Named o.base → Named (with_index holes z i o).base
    index_named holes z None o h = h
    index_named holes z (Some i) o h = h

    pub filled_named : (holes : List (Attr Operand)) (z : Attr Operand) (f : Form) → All Good holes → Good z → Named (filled q holes z f).base
    filled_named holes z f h k = index_named holes z f.index (filled_base q holes z f.base) (base_named holes z f.base h k)

    shape_named : (holes : List (Attr Operand)) (o : Option Form) → All Good holes → is_named (filled_or_spare q holes o) ≡ true
    shape_named holes None h = refl
    shape_named holes (Some f) h = none_is _ (filled_named holes attr.Nothing f h refl)

    pub names_last : Lasts vax q good
    names_last = record {
      register = λ r. refl;
      in_slot = λ w. refl;
      number = λ n. refl;
      nothing = refl;
      slot_value = λ w. refl;
      slot_place = λ w. refl;
      deferred_place = λ w. refl;
      deferred_address = λ w. refl;
      shape_value = λ l hs h. shape_named hs (shape_of_pieces l.pieces) h;
      shape_place = λ l hs h. shape_named hs (shape_of_pieces l.pieces) h;
      shape_address = λ l hs h. shape_named hs (shape_of_pieces l.pieces) h;
    }

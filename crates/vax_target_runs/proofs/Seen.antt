-- What holes mean is kept by what touches none of them.
use Rattle.std.proofs.Common.{◌≡◌, ℕ, ◌<◌, ◌==◌, Bool, true, false, cond, refl, ap, ◌∙◌}
use Rattle.std.specs.Prelude.{nat_lt, nat_le}
use Rattle.std.specs.Int.{bit_at}
use Rattle.gg_base.specs.declared.size.Size.TheVariants.{Long}
use Rattle.vax_target_lines.specs.tree_core.specs.declared.token.Tok.{Tok}
use Rattle.vax_target_lines.specs.tree_core.specs.declared.token.Tok.TheVariants as tok
use Rattle.vax_target_lines.specs.tree_core.specs.declared.tree.Att.{Att}
use Rattle.vax_target_lines.specs.tree_core.specs.declared.tree.Att.TheVariants as att
use Rattle.vax_target_lines.specs.tree_core.specs.declared.program.TreeProgram.{TreeProgram}
use Rattle.vax_target_lines.specs.sel_target.specs.declared.attr.Attr.{Attr}
use Rattle.vax_target_lines.specs.sel_target.specs.declared.attr.Attr.TheVariants as attr
use Rattle.vax_target_lines.specs.sel_target.specs.Meaning.{RegAt}
use Rattle.vax_target_lines.specs.sel_target.specs.Instances.{attr_touches}
use Rattle.vax_core.specs.declared.operand.Operand.{Operand}
use Rattle.vax_core.specs.Homes.{at_home}
use Rattle.vax_core.specs.Registers.{reg_number, base_register, operand_bits}
use Rattle.vax_core.proofs.RegisterLaws.{none_named}
use Rattle.vax_target_lines.specs.vax_machine.specs.State.{State}
use Rattle.vax_target_lines.specs.vax_machine.specs.Area.{resolved}
use Rattle.vax_target_lines.specs.vax_templates.specs.declared.setting.Hole.{Hole}
use Rattle.vax_target_lines.specs.vax_templates.specs.declared.setting.Hole.TheVariants as hole_kind
use Rattle.vax_target_lines.specs.vax_templates.specs.Judging.{is_operand}
use Rattle.vax_target_lines.specs.vax_templates.specs.Filled.{spare, numbered, addr_in, word_operand, slot_operand, argument_deferred}
use Rattle.vax_target_lines.specs.vax_templates.specs.Filled.{slot_deferred, leaf_operand, operand_in, leaf_deferred, deferred_in}
use Rattle.vax_target_lines.specs.vax_templates.proofs.Homes.{local_bits, argument_bits}
use Rattle.vax_target_lines.specs.vax_target_meaning.specs.Vax.{vax}
use Rattle.vax_target_lines.specs.vax_target_operands.specs.Scenes.{Scene, Means}
use Rattle.vax_target_runs.specs.Kept.{Differs}
use Rattle.vax_target_runs.proofs.Kept.{base_untouched, index_untouched, Away, reads_same, names_same, named_same, register_same}

-- ---- operands that spell no register

no_bit : (o : Operand) (x : ℕ) → operand_bits o ≡ 0 → (bit_at (operand_bits o) x == 1) ≡ false
no_bit o x e = ap (λ b. bit_at b x == 1) e ∙ ap (λ b. b == 1) (none_named x)

at_word_bits : (k : ℕ) → operand_bits (cond (nat_lt k 1024) (at_home k) spare) ≡ 0
at_word_bits k = by (nat_lt k 1024) where
  by : (b : Bool) → operand_bits (cond b (at_home k) spare) ≡ 0
  by true = refl
  by false = refl

at_argument_bits : (k : ℕ) → operand_bits (slot_deferred tok.Arg k) ≡ 0
at_argument_bits k = by (nat_le k 255) where
  by : (b : Bool) → operand_bits (cond b (argument_deferred k) spare) ≡ 0
  by true = refl
  by false = refl

-- an argument's operand, or a word's
slot_bits : (t : Tok) (k : ℕ) → operand_bits (slot_operand t k) ≡ 0
slot_bits tok.Zero k = local_bits k
slot_bits tok.One k = local_bits k
slot_bits tok.Two k = local_bits k
slot_bits tok.Four k = local_bits k
slot_bits tok.Eight k = local_bits k
slot_bits tok.Const k = local_bits k
slot_bits tok.Gaddr k = local_bits k
slot_bits tok.Loc k = local_bits k
slot_bits tok.Arg k = argument_bits k
slot_bits tok.IndirB k = local_bits k
slot_bits tok.IndirW k = local_bits k
slot_bits tok.IndirL k = local_bits k
slot_bits tok.Plus k = local_bits k
slot_bits tok.Minus k = local_bits k
slot_bits tok.Mul k = local_bits k
slot_bits tok.Div k = local_bits k
slot_bits tok.Mod k = local_bits k
slot_bits tok.And k = local_bits k
slot_bits tok.Or k = local_bits k
slot_bits tok.Xor k = local_bits k
slot_bits tok.Lsh k = local_bits k
slot_bits tok.Rsh k = local_bits k
slot_bits tok.Neg k = local_bits k
slot_bits tok.Com k = local_bits k
slot_bits tok.Sxb k = local_bits k
slot_bits tok.Zxb k = local_bits k
slot_bits tok.Sxw k = local_bits k
slot_bits tok.Zxw k = local_bits k
slot_bits tok.Ncb k = local_bits k
slot_bits tok.Ncw k = local_bits k
slot_bits tok.AssignB k = local_bits k
slot_bits tok.AssignW k = local_bits k
slot_bits tok.AssignL k = local_bits k
slot_bits tok.Cbr k = local_bits k
slot_bits tok.Push k = local_bits k
slot_bits tok.Ret k = local_bits k
slot_bits tok.Call k = local_bits k
slot_bits tok.Save k = local_bits k
slot_bits tok.Jump k = local_bits k
slot_bits tok.End k = local_bits k

at_slot_bits : (t : Tok) (k : ℕ) → operand_bits (slot_deferred t k) ≡ 0
at_slot_bits tok.Zero k = at_word_bits k
at_slot_bits tok.One k = at_word_bits k
at_slot_bits tok.Two k = at_word_bits k
at_slot_bits tok.Four k = at_word_bits k
at_slot_bits tok.Eight k = at_word_bits k
at_slot_bits tok.Const k = at_word_bits k
at_slot_bits tok.Gaddr k = at_word_bits k
at_slot_bits tok.Loc k = at_word_bits k
at_slot_bits tok.Arg k = at_argument_bits k
at_slot_bits tok.IndirB k = at_word_bits k
at_slot_bits tok.IndirW k = at_word_bits k
at_slot_bits tok.IndirL k = at_word_bits k
at_slot_bits tok.Plus k = at_word_bits k
at_slot_bits tok.Minus k = at_word_bits k
at_slot_bits tok.Mul k = at_word_bits k
at_slot_bits tok.Div k = at_word_bits k
at_slot_bits tok.Mod k = at_word_bits k
at_slot_bits tok.And k = at_word_bits k
at_slot_bits tok.Or k = at_word_bits k
at_slot_bits tok.Xor k = at_word_bits k
at_slot_bits tok.Lsh k = at_word_bits k
at_slot_bits tok.Rsh k = at_word_bits k
at_slot_bits tok.Neg k = at_word_bits k
at_slot_bits tok.Com k = at_word_bits k
at_slot_bits tok.Sxb k = at_word_bits k
at_slot_bits tok.Zxb k = at_word_bits k
at_slot_bits tok.Sxw k = at_word_bits k
at_slot_bits tok.Zxw k = at_word_bits k
at_slot_bits tok.Ncb k = at_word_bits k
at_slot_bits tok.Ncw k = at_word_bits k
at_slot_bits tok.AssignB k = at_word_bits k
at_slot_bits tok.AssignW k = at_word_bits k
at_slot_bits tok.AssignL k = at_word_bits k
at_slot_bits tok.Cbr k = at_word_bits k
at_slot_bits tok.Push k = at_word_bits k
at_slot_bits tok.Ret k = at_word_bits k
at_slot_bits tok.Call k = at_word_bits k
at_slot_bits tok.Save k = at_word_bits k
at_slot_bits tok.Jump k = at_word_bits k
at_slot_bits tok.End k = at_word_bits k

leaf_bits : (q : TreeProgram) (t : Tok) (a : Att) → operand_bits (leaf_operand q t a) ≡ 0
leaf_bits q t att.Nothing = refl
leaf_bits q t (att.Number n) = refl
leaf_bits q t (att.Object object offset) = refl
leaf_bits q t (att.Slot k) = slot_bits t k
leaf_bits q t (att.Branch rel label) = refl
leaf_bits q t (att.Label label) = refl
leaf_bits q t (att.Callee function count) = refl

deferred_leaf_bits : (q : TreeProgram) (t : Tok) (a : Att) → operand_bits (leaf_deferred q t a) ≡ 0
deferred_leaf_bits q t att.Nothing = refl
deferred_leaf_bits q t (att.Number n) = refl
deferred_leaf_bits q t (att.Object object offset) = refl
deferred_leaf_bits q t (att.Slot k) = at_slot_bits t k
deferred_leaf_bits q t (att.Branch rel label) = refl
deferred_leaf_bits q t (att.Label label) = refl
deferred_leaf_bits q t (att.Callee function count) = refl

deferred_bits : (q : TreeProgram) (h : Attr Operand) → operand_bits (deferred_in q h) ≡ 0
deferred_bits q (attr.Reg r) = refl
deferred_bits q (attr.InSlot w) = refl
deferred_bits q (attr.Value o) = refl
deferred_bits q (attr.Place o) = refl
deferred_bits q (attr.Con n) = refl
deferred_bits q (attr.Ea o) = refl
deferred_bits q (attr.Token l) = deferred_leaf_bits q l.tok l.att
deferred_bits q attr.Nothing = refl

-- what a hole's operand spells, the hole touches
hole_bit : (q : TreeProgram) (h : Attr Operand) (x : ℕ) → attr_touches vax h (RegAt x) ≡ false → (bit_at (operand_bits (operand_in q h)) x == 1) ≡ false
hole_bit q (attr.Reg r) x e = e
hole_bit q (attr.InSlot w) x e = no_bit (word_operand w) x (local_bits w)
hole_bit q (attr.Value o) x e = e
hole_bit q (attr.Place o) x e = e
hole_bit q (attr.Con n) x e = no_bit (operand_in q (attr.Con n)) x refl
hole_bit q (attr.Ea o) x e = e
hole_bit q (attr.Token l) x e = no_bit (leaf_operand q l.tok l.att) x (leaf_bits q l.tok l.att)
hole_bit q attr.Nothing x e = no_bit spare x refl

module _ (c : Scene) (changed : ℕ → Type 0) (m n : State) (d : Differs changed m n) (low : (x : ℕ) → changed x → x < 12) where
  abbrev IsOff : Attr Operand → Type 0
  IsOff h = (x : ℕ) → changed x → attr_touches vax h (RegAt x) ≡ false

  away_if : (o : Operand) → ((x : ℕ) → changed x → (bit_at (operand_bits o) x == 1) ≡ false) → Away changed m n d o
  away_if o h = record {
    base = λ r is ch. base_untouched o (reg_number r) r (low (reg_number r) ch) (h (reg_number r) ch) is refl;
    index = λ r is ch. index_untouched o (reg_number r) r (low (reg_number r) ch) (h (reg_number r) ch) is refl;
  }

  hole_away : (h : Attr Operand) → IsOff h → Away changed m n d (operand_in c.program h)
  hole_away h f = away_if (operand_in c.program h) (λ x ch. hole_bit c.program h x (f x ch))

  deferred_away : (h : Attr Operand) → Away changed m n d (deferred_in c.program h)
  deferred_away h = away_if (deferred_in c.program h) (λ x ch. no_bit (deferred_in c.program h) x (deferred_bits c.program h))

  -- what a hole means stays
  pub means_kept : (r : Hole) (i : ℕ) (h : Attr Operand) → (is_operand r ≡ true → IsOff h) → Means c m r i h → Means c n r i h
  means_kept hole_kind.Register i h f k = record {
    number = k.number;
    is = k.is;
    low = k.low;
    holds = register_same changed m n d (numbered k.number) ((hole_away h (f refl)).base (numbered k.number) (ap (λ a. base_register (operand_in c.program a).base) k.is)) ∙ k.holds;
  }
  means_kept (hole_kind.Value size) i h f k = reads_same changed m n d (operand_in c.program h) size (hole_away h (f refl)) ∙ k
  means_kept (hole_kind.Place size) i h f k = record {
    address = k.address;
    named_so = names_same changed m n d (operand_in c.program h) size (hole_away h (f refl)) ∙ k.named_so;
    holds = λ some. reads_same changed m n d (operand_in c.program h) size (hole_away h (f refl)) ∙ k.holds some;
  }
  means_kept hole_kind.Local i h f k = record {
    address = k.address;
    named_so = names_same changed m n d (operand_in c.program h) Long (hole_away h (f refl)) ∙ k.named_so;
    holds = reads_same changed m n d (operand_in c.program h) Long (hole_away h (f refl)) ∙ k.holds;
    plain = k.plain;
    deferred = named_same changed m n d (deferred_in c.program h) (deferred_away h) ∙ k.deferred;
  }
  means_kept (hole_kind.SavedPlace size) i h f k = names_same changed m n d (operand_in c.program h) size (hole_away h (f refl)) ∙ k
  means_kept hole_kind.Address i h f k = record { plain = k.plain; named_so = named_same changed m n d (operand_in c.program h) (hole_away h (f refl)) ∙ k.named_so }
  means_kept hole_kind.Constant i h f k = k
  means_kept (hole_kind.Literal y) i h f k = k
  means_kept hole_kind.Object i h f k = record {
    address = ap (λ x. resolved x.layout (addr_in c.program h)) d.is ∙ k.address;
    operand_is = k.operand_is;
    deferred_is = k.deferred_is;
  }
  means_kept hole_kind.Saved i h f k = k
  means_kept hole_kind.Relation i h f k = k
  means_kept hole_kind.Other i h f k = k

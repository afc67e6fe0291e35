-- What holes mean is kept by what touches none of them.
use Rattle.std.proofs.Common.{◌≡◌, ℕ, ◌==◌, Bool, true, false, cond, [], ◌∷◌, refl, sym, ap, ◌∙◌}
use Rattle.std.specs.Prelude.{nat_lt}
use Rattle.std.specs.Int.{bit_at}
use Rattle.std.proofs.lemmas.Option.{same_Some}
use Rattle.gg_base.specs.declared.size.Size.TheVariants.{Long}
use Rattle.l32_target_lines.specs.vax_target_meaning.specs.tree_core.specs.declared.token.Tok.{Tok}
use Rattle.l32_target_lines.specs.vax_target_meaning.specs.tree_core.specs.declared.token.Tok.TheVariants as tok
use Rattle.l32_target_lines.specs.vax_target_meaning.specs.tree_core.specs.declared.tree.Att.{Att}
use Rattle.l32_target_lines.specs.vax_target_meaning.specs.tree_core.specs.declared.tree.Att.TheVariants as att
use Rattle.l32_target_lines.specs.vax_target_meaning.specs.tree_core.specs.declared.program.TreeProgram.{TreeProgram}
use Rattle.l32_target_lines.specs.judging_laws.specs.term_core.specs.Shape.{Symbol}
use Rattle.l32_target_lines.specs.judging_laws.specs.sel_target.specs.declared.attr.Attr.{Attr}
use Rattle.l32_target_lines.specs.judging_laws.specs.sel_target.specs.declared.attr.Attr.TheVariants as attr
use Rattle.l32_target_lines.specs.judging_laws.specs.sel_target.specs.Meaning.{RegAt, touches}
use Rattle.l32_target_lines.specs.judging_laws.specs.sel_target.specs.Instances.{attr_touches}
use Rattle.l32_target_lines.specs.judging_laws.specs.sel_target.specs.Outcomes.{Keeps}
use Rattle.l32_target_lines.specs.judging_laws.specs.vax_templates.specs.declared.setting.Hole.{Hole}
use Rattle.l32_target_lines.specs.judging_laws.specs.vax_templates.specs.declared.setting.Hole.TheVariants as hole_kind
use Rattle.l32_target_lines.specs.judging_laws.specs.vax_templates.specs.Judging.{is_operand}
use Rattle.l32_target_lines.specs.l32_templates.specs.l32_core.specs.declared.operand.Operand32.{Operand32}
use Rattle.l32_target_lines.specs.l32_templates.specs.l32_core.specs.declared.operand.Operand32.TheVariants as operands
use Rattle.l32_target_lines.specs.l32_templates.specs.l32_machine.specs.State.{State, reg}
use Rattle.l32_target_lines.specs.l32_templates.specs.Homes.{at_home}
use Rattle.l32_target_lines.specs.l32_templates.specs.Spelled.{operand_bits}
use Rattle.l32_target_lines.specs.l32_templates.specs.Filled.{spare, is_argument, word_operand, argument_deferred, slot_operand, slot_deferred, leaf_operand, operand_in, leaf_deferred, deferred_in}
use Rattle.l32_target_lines.specs.l32_target_meaning.specs.L32.{l32}
use Rattle.l32_target_lines.specs.l32_target_operands.specs.Scenes.{Scene, worth, Means}
use Rattle.l32_target_spelling.proofs.Own.{none_at, local_bits, argument_bits}

-- ---- operands that spell no register

no_bit : (o : Operand32) (x : ℕ) → operand_bits o ≡ 0 → (bit_at (operand_bits o) x == 1) ≡ false
no_bit o x e = ap (λ b. bit_at b x == 1) e ∙ none_at x

slot_bits : (t : Tok) (k : ℕ) → operand_bits (slot_operand t k) ≡ 0
slot_bits tok.Arg k = argument_bits k
slot_bits _ k = local_bits k

at_word_bits : (k : ℕ) → operand_bits (cond (nat_lt k 1024) (at_home k) spare) ≡ 0
at_word_bits k = by (nat_lt k 1024) where
  by : (b : Bool) → operand_bits (cond b (at_home k) spare) ≡ 0
  by true = refl
  by false = refl

at_argument_bits : (k : ℕ) → operand_bits (cond (is_argument k) (argument_deferred k) spare) ≡ 0
at_argument_bits k = by (is_argument k) where
  by : (b : Bool) → operand_bits (cond b (argument_deferred k) spare) ≡ 0
  by true = refl
  by false = refl

at_slot_bits : (t : Tok) (k : ℕ) → operand_bits (slot_deferred t k) ≡ 0
at_slot_bits tok.Arg k = at_argument_bits k
at_slot_bits _ k = at_word_bits k

leaf_bits : (q : TreeProgram) (t : Tok) (a : Att) → operand_bits (leaf_operand q t a) ≡ 0
leaf_bits q t (att.Slot k) = slot_bits t k
leaf_bits q t _ = refl

leaf_deferred_bits : (t : Tok) (a : Att) → operand_bits (leaf_deferred t a) ≡ 0
leaf_deferred_bits t (att.Slot k) = at_slot_bits t k
leaf_deferred_bits t _ = refl

-- an operand touches no register that its attribute doesn't
pub operand_off : (q : TreeProgram) (h : Attr Operand32) (x : ℕ) → attr_touches l32 h (RegAt x) ≡ false → touches l32 (operand_in q h) (RegAt x) ≡ false
operand_off q (attr.Reg n) x off = off
operand_off q (attr.InSlot k) x off = no_bit (word_operand k) x (local_bits k)
operand_off q (attr.Value o) x off = off
operand_off q (attr.Place o) x off = off
operand_off q (attr.Con n) x off = none_at x
operand_off q (attr.Ea o) x off = off
operand_off q (attr.Token l) x off = no_bit (leaf_operand q l.tok l.att) x (leaf_bits q l.tok l.att)
operand_off q attr.Nothing x off = none_at x

deferred_off : (h : Attr Operand32) (x : ℕ) → touches l32 (deferred_in h) (RegAt x) ≡ false
deferred_off (attr.Token l) x = no_bit (leaf_deferred l.tok l.att) x (leaf_deferred_bits l.tok l.att)
deferred_off _ x = none_at x

module _ (c : Scene) (m n : State) (x : ℕ) (k : Keeps l32 (RegAt x ∷ []) m n) where
  -- what a hole means is kept where its operand doesn't touch the register
  pub means_kept : (r : Hole) (i : ℕ) (h : Attr Operand32) → (is_operand r ≡ true → attr_touches l32 h (RegAt x) ≡ false) → Means c m r i h → Means c n r i h
  means_kept hole_kind.Register i h off e =
      let un : touches l32 (operands.Reg e.number) (RegAt x) ≡ false = ap (λ a. attr_touches l32 a (RegAt x)) (sym e.is) ∙ off refl in
      record {
        number = e.number;
        is = e.is;
        low = e.low;
        holds = same_Some (reg n e.number) (reg m e.number) (k.reads (operands.Reg e.number) Long (reg m e.number) (un, tt) refl) ∙ e.holds;
      }
  means_kept (hole_kind.Value z) i h off e = k.reads (operand_in c.program h) z (worth c (Symbol i)) (operand_off c.program h x (off refl), tt) e
  means_kept (hole_kind.Place z) i h off e =
      let un = operand_off c.program h x (off refl) in
      record {
        address = e.address;
        named_so = k.names (operand_in c.program h) z e.address (un, tt) e.named_so;
        holds = λ some. k.reads (operand_in c.program h) z (worth c (Symbol i)) (un, tt) (e.holds some);
      }
  means_kept hole_kind.Local i h off e =
      let un = operand_off c.program h x (off refl) in
      record {
        address = e.address;
        named_so = k.names (operand_in c.program h) Long e.address (un, tt) e.named_so;
        holds = k.reads (operand_in c.program h) Long (worth c (Symbol i)) (un, tt) e.holds;
        deferred = k.names (deferred_in h) Long (worth c (Symbol i)) (deferred_off h x, tt) e.deferred;
      }
  means_kept (hole_kind.SavedPlace z) i h off e = k.names (operand_in c.program h) z (worth c (Symbol i)) (operand_off c.program h x (off refl), tt) e
  means_kept hole_kind.Address i h off e = k.names (operand_in c.program h) Long (worth c (Symbol i)) (operand_off c.program h x (off refl), tt) e
  means_kept hole_kind.Object i h off e =
      record { named_so = k.names (operand_in c.program h) Long (worth c (Symbol i)) (no_bit (operand_in c.program h) x e.bare, tt) e.named_so; bare = e.bare }
  means_kept hole_kind.Constant i h off e = e
  means_kept (hole_kind.Literal z) i h off e = e
  means_kept hole_kind.Saved i h off e = e
  means_kept hole_kind.Relation i h off e = tt
  means_kept hole_kind.Other i h off e = tt

-- The laws of this crate: what operands spell.
use Rattle.std.specs.Prelude.{◌≡◌, ◌↔◌, ℕ, ◌^◌, ◌<◌, List, [], ◌∷◌, Some, None, Ok, true}
use Rattle.std.specs.List.{list_any}
use Rattle.gg_base.specs.declared.limits.TheConstants.{NEED_LIMIT}
use Rattle.l32_target_meaning.specs.vax_target_meaning.specs.tree_core.specs.declared.program.TreeProgram.{TreeProgram}
use Rattle.judging_laws.specs.md_reader_pieces.specs.declared.piece.Line.{Line}
use Rattle.judging_laws.specs.md_reader_pieces.specs.declared.piece.Piece.TheVariants as piece
use Rattle.judging_laws.specs.md_reader.specs.declared.types.Class.{Class}
use Rattle.judging_laws.specs.md_reader.specs.declared.types.Give.TheVariants as give
use Rattle.judging_laws.specs.md_reader.specs.declared.types.Rule.{Rule}
use Rattle.judging_laws.specs.sel_terms.specs.Effects.{EffectShape}
use Rattle.judging_laws.specs.sel_target.specs.declared.attr.Attr.{Attr}
use Rattle.judging_laws.specs.sel_target.specs.Meaning.{Spot, touches}
use Rattle.judging_laws.specs.sel_target.specs.Values.{own_operand, IsArgument}
use Rattle.judging_laws.specs.sel_target.specs.Instances.{hole, attr_touches, Fit}
use Rattle.l32_target_meaning.specs.l32_templates.specs.l32_core.specs.declared.operand.Operand32.{Operand32}
use Rattle.l32_target_meaning.specs.L32.{l32}

-- operands that are spelled alike are equal
abbrev pub AlikeAreEqual : Type 0
AlikeAreEqual = (a b : Operand32) → (l32.same a b ≡ true) ↔ (a ≡ b)

-- a register's operand spells that register alone
pub record RegistersSpell : Type 0 where
  pub bits : (r : ℕ) → r < 12 → l32.registers (l32.register r) ≡ 2 ^ r
  pub word : (r : ℕ) → r < 12 → l32.word (l32.register r) ≡ None

-- a slot, what its address names, and a local spell their word alone, and an argument no word
pub record WordsSpell : Type 0 where
  pub slot_bits : (w : ℕ) → w < NEED_LIMIT → l32.registers (l32.slot w) ≡ 0
  pub slot_word : (w : ℕ) → w < NEED_LIMIT → l32.word (l32.slot w) ≡ Some w
  pub deferred_bits : (w : ℕ) → w < NEED_LIMIT → l32.registers (l32.slot_deferred w) ≡ 0
  pub deferred_word : (w : ℕ) → w < NEED_LIMIT → l32.word (l32.slot_deferred w) ≡ Some w
  pub local_bits : (k : ℕ) → l32.registers (l32.local k) ≡ 0
  pub local_word : (k : ℕ) → k < NEED_LIMIT → l32.word (l32.local k) ≡ Some k
  pub argument_bits : (k : ℕ) → IsArgument k → l32.registers (l32.argument k) ≡ 0
  pub argument_word : (k : ℕ) → IsArgument k → l32.word (l32.argument k) ≡ None

-- a shape touches nothing that none of its holes touches
abbrev pub ShapesTouch : Type 0
ShapesTouch =
    (q : TreeProgram) (classes : List Class) (rule : Rule) (e : EffectShape) (l : Line) (hs : List (Attr Operand32)) (s : Spot)
    → l32.effect classes rule ≡ Ok e → rule.give ≡ give.Shape l → Fit l32 classes rule.right hs → touches l32 (l32.operand q l hs) s ≡ true
    → list_any (λ h. attr_touches l32 h s) hs ≡ true

-- a hole alone, of a symbol that is a place, is that place
abbrev pub HolesAreThemselves : Type 0
HolesAreThemselves =
    (q : TreeProgram) (l : Line) (i : ℕ) (hs : List (Attr Operand32)) (h : Attr Operand32) (o : Operand32)
    → l.pieces ≡ piece.Hole i ∷ [] → hole hs i ≡ Some h → own_operand l32 h ≡ Some o → l32.operand q l hs ≡ o

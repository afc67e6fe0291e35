-- The laws of this crate: what operands spell.
use Rattle.std.specs.Prelude.{◌≡◌, ◌↔◌, ℕ, ◌^◌, ◌<◌, List, [], ◌∷◌, Some, None, Ok, true}
use Rattle.std.specs.List.{list_any}
use Rattle.gg_base.specs.declared.limits.TheConstants.{NEED_LIMIT}
use Rattle.vax_target_writing.specs.tree_core.specs.declared.program.TreeProgram.{TreeProgram}
use Rattle.vax_target_writing.specs.md_reader_pieces.specs.declared.piece.Line.{Line}
use Rattle.vax_target_writing.specs.md_reader_pieces.specs.declared.piece.Piece.TheVariants as piece
use Rattle.vax_target_writing.specs.md_reader.specs.declared.types.Class.{Class}
use Rattle.vax_target_writing.specs.md_reader.specs.declared.types.Give.TheVariants as give
use Rattle.vax_target_writing.specs.md_reader.specs.declared.types.Rule.{Rule}
use Rattle.vax_target_writing.specs.sel_terms.specs.Effects.{EffectShape}
use Rattle.vax_target_writing.specs.sel_target.specs.declared.attr.Attr.{Attr}
use Rattle.vax_target_writing.specs.sel_target.specs.Meaning.{Spot, touches}
use Rattle.vax_target_writing.specs.sel_target.specs.Values.{own_operand}
use Rattle.vax_target_writing.specs.sel_target.specs.Instances.{hole, attr_touches, Fit}
use Rattle.vax_core.specs.declared.operand.Operand.{Operand}
use Rattle.vax_target_writing.specs.vax_target_meaning.specs.Vax.{vax}

-- operands that are spelled alike are equal
abbrev pub AlikeAreEqual : Type 0
AlikeAreEqual = (a b : Operand) → (vax.same a b ≡ true) ↔ (a ≡ b)

-- a register's operand spells that register alone
pub record RegistersSpell : Type 0 where
  pub bits : (r : ℕ) → r < 12 → vax.registers (vax.register r) ≡ 2 ^ r
  pub word : (r : ℕ) → r < 12 → vax.word (vax.register r) ≡ None

-- a slot, what its address names, and a local spell their word alone, and an argument no word
pub record WordsSpell : Type 0 where
  pub slot_bits : (w : ℕ) → w < NEED_LIMIT → vax.registers (vax.slot w) ≡ 0
  pub slot_word : (w : ℕ) → w < NEED_LIMIT → vax.word (vax.slot w) ≡ Some w
  pub deferred_bits : (w : ℕ) → w < NEED_LIMIT → vax.registers (vax.slot_deferred w) ≡ 0
  pub deferred_word : (w : ℕ) → w < NEED_LIMIT → vax.word (vax.slot_deferred w) ≡ Some w
  pub local_bits : (k : ℕ) → vax.registers (vax.local k) ≡ 0
  pub local_word : (k : ℕ) → k < NEED_LIMIT → vax.word (vax.local k) ≡ Some k
  pub argument_bits : (k : ℕ) → vax.registers (vax.argument k) ≡ 0
  pub argument_word : (k : ℕ) → vax.word (vax.argument k) ≡ None

-- a shape touches nothing that none of its holes touches
abbrev pub ShapesTouch : Type 0
ShapesTouch =
    (q : TreeProgram) (classes : List Class) (rule : Rule) (e : EffectShape) (l : Line) (hs : List (Attr Operand)) (s : Spot)
    → vax.effect classes rule ≡ Ok e → rule.give ≡ give.Shape l → Fit vax classes rule.right hs → touches vax (vax.operand q l hs) s ≡ true
    → list_any (λ h. attr_touches vax h s) hs ≡ true

-- a hole alone, of a symbol that is a place, is that place
abbrev pub HolesAreThemselves : Type 0
HolesAreThemselves =
    (q : TreeProgram) (l : Line) (i : ℕ) (hs : List (Attr Operand)) (h : Attr Operand) (o : Operand)
    → l.pieces ≡ piece.Hole i ∷ [] → hole hs i ≡ Some h → own_operand vax h ≡ Some o → vax.operand q l hs ≡ o

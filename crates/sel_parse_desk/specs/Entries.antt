-- What stands beside a symbol of the parse stack, and what the restrictions of a rule ask of it.
-- This is how the code computes it; what is selected is defined in sel_parse_selected, and sel_parse_joined proves the two alike.
use Rattle.std.specs.Prelude.{ℕ, ◌==◌, ◌&&◌, List, [], ◌∷◌, map, Option, Some, None, Bool, false}
use Rattle.std.specs.Int.{bit_at}
use Rattle.tree_core.specs.declared.token.Tok.{Tok}
use Rattle.tree_core.specs.declared.token.Tok.TheVariants as tok
use Rattle.tree_core.specs.declared.tree.Leaf.{Leaf}
use Rattle.tree_core.specs.declared.program.TreeProgram.{TreeProgram}
use Rattle.sel_target.specs.md_reader_pieces.specs.declared.piece.Line.{Line}
use Rattle.sel_target.specs.md_reader_pieces.specs.declared.piece.Piece.TheVariants as piece
use Rattle.md_reader.specs.declared.types.Kind.{Kind}
use Rattle.md_reader.specs.Restrictions.{same_size}
use Rattle.sel_target.specs.declared.attr.Attr.{Attr}
use Rattle.sel_target.specs.declared.attr.Attr.TheVariants as attr
use Rattle.sel_target.specs.Meaning.{Meaning, is_word}
use Rattle.sel_target.specs.Symbols.{size_of_entry}

-- an attribute with the kind of its symbol's class, by which it is saved; a token has no class
pub record Entry (O : Type 0) : Type 0 where
  pub kind : Option Kind
  pub attr : Attr O

abbrev pub attrs : {O : Type 0} → List (Entry O) → List (Attr O)
attrs {O = O} es = map (λ (e : Entry O). e.attr) es

-- the kind of an entry, and the frame word in which a register's symbol stands
abbrev pub kind_in : {O : Type 0} → Option (Entry O) → Option Kind
kind_in None = None
kind_in (Some e) = e.kind

abbrev pub slot_of : {O : Type 0} → Attr O → Option ℕ
slot_of (attr.InSlot w) = Some w
slot_of a = None

abbrev pub slot_in : {O : Type 0} → Option (Entry O) → Option ℕ
slot_in None = None
slot_in (Some e) = slot_of e.attr

-- a shape of one hole, for the first symbol
abbrev pub alone : Line
alone = record { line = 0; pieces = piece.Hole 1 ∷ [] }

module _ {O I S F : Type 0} (of : Meaning O I S F) where
  -- the operand of a value, a place, a local or an argument
  abbrev pub spelled_leaf : TreeProgram → Leaf → Tok → Option O
  spelled_leaf q l tok.Loc = Some (of.operand q alone (attr.Token l ∷ []))
  spelled_leaf q l tok.Arg = Some (of.operand q alone (attr.Token l ∷ []))
  spelled_leaf q l t = None

  abbrev pub spelled : TreeProgram → Attr O → Option O
  spelled q (attr.Reg r) = None
  spelled q (attr.InSlot w) = None
  spelled q (attr.Value o) = Some o
  spelled q (attr.Place o) = Some o
  spelled q (attr.Con n) = None
  spelled q (attr.Ea o) = None
  spelled q (attr.Token l) = spelled_leaf q l l.tok
  spelled q attr.Nothing = None

  abbrev pub same_operands : Option O → Option O → Bool
  same_operands None o = false
  same_operands (Some o) None = false
  same_operands (Some o) (Some p) = of.same o p

  -- of one size, and spelled alike
  abbrev pub alike : TreeProgram → Entry O → Entry O → Bool
  alike q a b = same_size (size_of_entry a.kind) (size_of_entry b.kind) && same_operands (spelled q a.attr) (spelled q b.attr)

  -- an attribute holds a register: its own, or one that its operand spells
  abbrev pub in_register : ℕ → Attr O → Bool
  in_register q (attr.Reg r) = r == q
  in_register q (attr.InSlot w) = false
  in_register q (attr.Value o) = bit_at (of.registers o) q == 1
  in_register q (attr.Place o) = bit_at (of.registers o) q == 1
  in_register q (attr.Con n) = false
  in_register q (attr.Ea o) = bit_at (of.registers o) q == 1
  in_register q (attr.Token l) = false
  in_register q attr.Nothing = false

  -- the frame word that an attribute holds: its own, or the one that its operand reads
  abbrev pub word_of : Attr O → Option ℕ
  word_of (attr.Reg r) = None
  word_of (attr.InSlot w) = Some w
  word_of (attr.Value o) = of.word o
  word_of (attr.Place o) = of.word o
  word_of (attr.Con n) = None
  word_of (attr.Ea o) = of.word o
  word_of (attr.Token l) = None
  word_of attr.Nothing = None

  abbrev pub in_word : ℕ → Attr O → Bool
  in_word w a = is_word (word_of a) w

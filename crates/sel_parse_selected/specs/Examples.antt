-- Worked rows over the toy machine, with registers 0 and 1.
use Rattle.std.specs.Prelude.{ℕ, List, [], ◌∷◌, codes, Option, Some, None}
use Rattle.gg_base.specs.declared.relation.Rel.TheVariants as relations
use Rattle.gg_base.specs.declared.size.Size.TheVariants.{Byte, Long}
use Rattle.tree_core.specs.declared.token.Tok.TheVariants as tok
use Rattle.tree_core.specs.declared.tree.Att.TheVariants as att
use Rattle.tree_core.specs.declared.tree.Leaf.{Leaf}
use Rattle.sel_target.specs.md_reader_pieces.specs.declared.piece.Line.{Line}
use Rattle.sel_target.specs.md_reader_pieces.specs.declared.piece.Piece.{Piece}
use Rattle.sel_target.specs.md_reader_pieces.specs.declared.piece.Piece.TheVariants.{Bytes, Hole}
use Rattle.sel_target.specs.md_reader.specs.declared.types.Kind.{Kind}
use Rattle.sel_target.specs.md_reader.specs.declared.types.Kind.TheVariants as kind
use Rattle.sel_target.specs.md_reader.specs.declared.types.Sym.TheVariants as grammar_symbol
use Rattle.sel_target.specs.md_reader.specs.declared.types.Give.TheVariants as give
use Rattle.sel_target.specs.md_reader.specs.declared.types.Rule.{Rule}
use Rattle.sel_target.specs.md_reader.specs.State.{Content}
use Rattle.lr_check_parse.specs.Moves.{Move, Shift, Reduce}
use Rattle.sel_target.specs.declared.attr.Attr.{Attr}
use Rattle.sel_target.specs.declared.attr.Attr.TheVariants as attr
use Rattle.sel_toy_machine.specs.declared.operand.Operand.{Operand}
use Rattle.sel_toy_machine.specs.declared.operand.Operand.TheVariants as operand
use Rattle.sel_toy_machine.specs.declared.operand.Source.TheVariants.{Read}
use Rattle.sel_toy_machine.specs.declared.operand.Destination.TheVariants as destination
use Rattle.sel_toy_machine.specs.declared.operand.Instr.{Instr}
use Rattle.sel_toy_machine.specs.declared.operand.Instr.TheVariants.{Move as MoveTo, Add, Push}
use Rattle.sel_toy_machine.specs.Sample.{classes}
use Rattle.sel_parse_selected.specs.Entries.{Entry}
use Rattle.sel_parse_selected.specs.Desk.{Stack}

abbrev pub line : List Piece → Line
line ps = record { line = 1; pieces = ps }

-- `l %1,%0` and its like
abbrev pub moving : List ℕ → Line
moving name = line (Bytes name ∷ Hole 1 ∷ Bytes (codes ",") ∷ Hole 0 ∷ [])

-- rule reg : Const, do l %1,%0, give fresh
abbrev pub constant : Rule
constant = record {
  left = 0;
  right = grammar_symbol.Tok tok.Const ∷ [];
  restrictions = [];
  lines = moving (codes "l ") ∷ [];
  give = give.Fresh;
}

-- rule reg : Plus reg reg, do a %2,%3,%0, give reuse
abbrev pub sum : Rule
sum = record {
  left = 0;
  right = grammar_symbol.Tok tok.Plus ∷ grammar_symbol.Class 0 ∷ grammar_symbol.Class 0 ∷ [];
  restrictions = [];
  lines = line (Bytes (codes "a ") ∷ Hole 2 ∷ Bytes (codes ",") ∷ Hole 3 ∷ Bytes (codes ",") ∷ Hole 0 ∷ []) ∷ [];
  give = give.Reuse;
}

-- rule stmt : Push reg, do p %2, give nothing
abbrev pub pushing : Rule
pushing = record {
  left = 2;
  right = grammar_symbol.Tok tok.Push ∷ grammar_symbol.Class 0 ∷ [];
  restrictions = [];
  lines = line (Bytes (codes "p ") ∷ Hole 2 ∷ []) ∷ [];
  give = give.Nothing;
}

-- with so many registers, as bits
abbrev pub description : ℕ → Content
description pool = record {
  pool = pool;
  classes = classes;
  spills =
      moving (codes "b ") ∷ moving (codes "w ") ∷ moving (codes "l ") ∷ moving (codes "e ") ∷ moving (codes "e ") ∷ moving (codes "e ")
      ∷ moving (codes "e ") ∷ moving (codes "l ") ∷ [];
  rules = constant ∷ sum ∷ pushing ∷ [];
}

abbrev pub number : ℕ → List (Move Leaf) → List (Move Leaf)
number n log = Shift (record { tok = tok.Const; att = att.Number n }) ∷ Reduce 0 ∷ log

abbrev pub plus : List (Move Leaf) → List (Move Leaf)
plus log = Shift (record { tok = tok.Plus; att = att.Nothing }) ∷ log

-- Push Plus Plus 1 2 Plus 3 4
abbrev pub moves : List (Move Leaf)
moves =
    Shift (record { tok = tok.Push; att = att.Nothing })
    ∷ plus (plus (number 1 (number 2 (Reduce 1 ∷ plus (number 3 (number 4 (Reduce 1 ∷ Reduce 1 ∷ Reduce 2 ∷ [])))))))

abbrev pub register : ℕ → Operand
register r = operand.Register r

-- At 4 no register is free: the deepest one's value, 1 + 2, goes to the frame word 5, and comes back before the last sum.
abbrev pub code : List Instr
code =
    MoveTo Long (Read (operand.Number 1)) (destination.Register 0)
    ∷ MoveTo Long (Read (operand.Number 2)) (destination.Register 1)
    ∷ Add (Read (register 0)) (Read (register 1)) (destination.Register 0)
    ∷ MoveTo Long (Read (operand.Number 3)) (destination.Register 1)
    ∷ MoveTo Long (Read (register 0)) (destination.Word 5)
    ∷ MoveTo Long (Read (operand.Number 4)) (destination.Register 0)
    ∷ Add (Read (register 1)) (Read (register 0)) (destination.Register 0)
    ∷ MoveTo Long (Read (operand.Word 5)) (destination.Register 1)
    ∷ Add (Read (register 1)) (Read (register 0)) (destination.Register 0)
    ∷ Push (Read (register 0))
    ∷ []

abbrev pub entry : Option Kind → Attr Operand → Entry Operand
entry k a = record { kind = k; attr = a }

-- a place at register 0 below, then register 1, then the token of a constant
abbrev pub waiting : Stack Operand Instr
waiting = record {
  entries =
      entry None (attr.Token (record { tok = tok.Const; att = att.Number 7 })) ∷ entry (Some kind.Reg) (attr.Reg 1)
      ∷ entry (Some (kind.Place Byte)) (attr.Place (operand.Based 0)) ∷ [];
  code = [];
  most = 8;
}

-- an entry for each question: the same word as a value and as a place, of two sizes, -1, and a branch without signs
abbrev pub asked : List (Entry Operand)
asked =
    entry (Some (kind.Value Long)) (attr.Value (operand.Word 3)) ∷ entry (Some (kind.Place Long)) (attr.Place (operand.Word 3))
    ∷ entry (Some (kind.Place Byte)) (attr.Place (operand.Word 3)) ∷ entry (Some kind.Con) (attr.Con 4294967295)
    ∷ entry None (attr.Token (record { tok = tok.Cbr; att = att.Branch relations.Ltu 1 })) ∷ []

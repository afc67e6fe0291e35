-- One rule run once: a sum of two registers in a third.
use Rattle.std.specs.Prelude.{ℕ, zero, suc, List, [], ◌∷◌, codes, Option, Some, None}
use Rattle.gg_base.specs.declared.size.Size.TheVariants.{Long}
use Rattle.tree_core.specs.declared.token.Tok.TheVariants as tok
use Rattle.tree_core.specs.declared.tree.Att.TheVariants as att
use Rattle.tree_core.specs.declared.program.TreeItem.TheVariants as tree_item
use Rattle.tree_core.specs.declared.program.TreeFn.{TreeFn}
use Rattle.tree_core.specs.declared.program.TreeProgram.{TreeProgram}
use Rattle.tree_core.specs.Attributes.{end_leaf}
use Rattle.sel_target.specs.tree_meaning.specs.State.{begun, Extent}
use Rattle.md_reader_pieces.specs.declared.piece.Piece.TheVariants as piece
use Rattle.md_reader.specs.declared.types.Kind.TheVariants as kind
use Rattle.md_reader.specs.declared.types.Class.{Class}
use Rattle.md_reader.specs.declared.types.Sym.TheVariants as grammar_symbol
use Rattle.md_reader.specs.declared.types.Give.TheVariants as give
use Rattle.md_reader.specs.declared.types.Rule.{Rule}
use Rattle.sel_target.specs.declared.attr.Attr.{Attr}
use Rattle.sel_target.specs.declared.attr.Attr.TheVariants as attr
use Rattle.sel_target.specs.Meaning.{RegAt}
use Rattle.sel_target.specs.Values.{View}
use Rattle.sel_target.specs.Instances.{lines_of, Ready}
use Rattle.sel_target.specs.Outcomes.{Sets}
use Rattle.sel_toy_machine.specs.declared.operand.Operand.{Operand}
use Rattle.sel_toy_machine.specs.declared.operand.Operand.TheVariants.{Register}
use Rattle.sel_toy_machine.specs.Machine.{Machine}
use Rattle.sel_toy_machine.specs.Templates.{sum}
use Rattle.sel_toy_machine.specs.Toy.{toy}

-- `main` returns 0
abbrev pub main : TreeFn
main = record {
  name = codes "main";
  args = 0;
  locals = 0;
  wanted = [];
  items = tree_item.Root (record { tok = tok.Ret; att = att.Nothing } ∷
      (record { tok = tok.Zero; att = att.Number 0 } ∷ (end_leaf ∷ []))) ∷ [];
}

abbrev pub program : TreeProgram
program = record { functions = main ∷ []; objects = [] }

-- class reg Reg, class rval Value l, class stmt Nothing
abbrev pub classes : List Class
classes = record { name = codes "reg"; kind = kind.Reg } ∷ record { name = codes "rval"; kind = kind.Value Long } ∷ record
    { name = codes "stmt"; kind = kind.Nothing } ∷ []

-- rule reg : Plus rval rval, do a %2,%3,%0, give fresh
abbrev pub rule : Rule
rule = record {
  left = 0;
  right = grammar_symbol.Tok tok.Plus ∷ grammar_symbol.Class 1 ∷ grammar_symbol.Class 1 ∷ [];
  restrictions = [];
  lines = record {
    line = 1;
    pieces = piece.Bytes (codes "a ") ∷ piece.Hole 2 ∷ piece.Bytes (codes ",") ∷ piece.Hole 3 ∷
        piece.Bytes (codes ",") ∷ piece.Hole 0 ∷ [];
  } ∷ [];
  give = give.Fresh;
}

-- registers 1 and 2
abbrev pub holes : List (Attr Operand)
holes = attr.Token (record { tok = tok.Plus; att = att.Nothing }) ∷ attr.Value (Register 1) ∷ attr.Value (Register 2) ∷ []

abbrev pub numbers : ℕ → Option ℕ
numbers zero = None
numbers (suc zero) = None
numbers (suc (suc zero)) = Some 5
numbers (suc (suc (suc zero))) = Some 7
numbers (suc (suc (suc (suc i)))) = None

abbrev pub view : View
view = record { symbol = numbers; state = record { running = begun main []; callers = []; area = []; input = [] } }

-- they hold 5 and 7
abbrev pub machine : Machine
machine = record {
  registers = record { at = 1; value = 5 } ∷ record { at = 2; value = 7 } ∷ [];
  words = [];
  arguments = [];
  pushed = [];
  callers = 0;
  area = [];
  input = [];
  functions = codes "main" ∷ [];
}

abbrev pub frame : Extent
frame = record { locals = 0; words = 0 }

-- the rule is ready with its result in register 0, and leaves 12 there
abbrev pub SumIsReady : Type 0
SumIsReady = Ready toy program frame [] classes rule (sum 2 3) holes (attr.Reg 0) view machine

abbrev pub SumIsSet : Type 0
SumIsSet = Sets toy (lines_of toy program rule holes (attr.Reg 0)) (RegAt 0) program Long (attr.Reg 0) 12 machine

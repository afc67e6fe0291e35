-- What a target's machine is: one record of meanings.
use Rattle.std.specs.Prelude.{ℕ, ◌==◌, ◌≤◌, ◌<◌, List, Option, Some, None, Bool, false, Result}
use Rattle.std.specs.Int.{bit_at}
use Rattle.gg_base.specs.declared.size.Size.{Size}
use Rattle.tree_core.specs.declared.program.TreeProgram.{TreeProgram}
use Rattle.tree_meaning.specs.State.{State, Extent}
use Rattle.md_reader_pieces.specs.declared.piece.Line.{Line}
use Rattle.sel_terms_meaning.specs.md_reader.specs.declared.types.Kind.{Kind}
use Rattle.sel_terms_meaning.specs.md_reader.specs.declared.types.Class.{Class}
use Rattle.sel_terms_meaning.specs.md_reader.specs.declared.types.Rule.{Rule}
use Rattle.sel_terms_meaning.specs.sel_terms.specs.Effects.{EffectShape}
use Rattle.sel_target.specs.declared.attr.Attr.{Attr}
use Rattle.sel_target.specs.declared.fault.TemplateKind.{TemplateKind}
use Rattle.sel_target.specs.Courses.{Course}

-- what selected code writes: a register, or a word of the frame
pub data Spot : Type 0 where
  RegAt : (r : ℕ) → Spot
  WordAt : (w : ℕ) → Spot

-- a register, or a word of the frame that no local has
abbrev pub IsFree : Extent → Spot → Type 0
IsFree f (RegAt r) = Unit {0}
IsFree f (WordAt w) = (f.locals ≤ w) × (w < f.words)

-- the first fault of a template, at a line of the description
pub record Fault : Type 0 where
  pub line : ℕ
  pub kind : TemplateKind

-- operands O, instructions I, states S and live frames F
pub record Meaning (O I S F : Type 0) : Type 1 where
  -- what a list of instructions does by itself
  pub run : List I → S → Course I S
  -- The number that an operand reads at a size, and the address that it names. Neither looks at what is no tree's: an operand reads
  -- registers, the data area, and the word or argument of the innermost frame that it spells.
  pub reads : O → Size → S → Option ℕ
  pub names : O → Size → S → Option ℕ
  -- the operands of a register, of a frame word, of the place whose address a frame word holds, of a local, and of an argument, from 1
  pub register : ℕ → O
  pub slot : ℕ → O
  pub slot_deferred : ℕ → O
  pub local : ℕ → O
  pub argument : ℕ → O
  -- what an operand spells: registers, as bits, and the frame word that it reads; and whether two are spelled alike
  pub registers : O → ℕ
  pub word : O → Option ℕ
  pub same : O → O → Bool
  -- an operand may stand for what is of this kind; an instruction is valid; the names of a program can be spelled
  pub fits : Kind → O → Bool
  pub is_instr : I → Bool
  pub can_write : TreeProgram → Type 0
  -- the frames of the live calls, and the last call's result
  pub live : S → F
  pub answer : S → ℕ
  -- The machine's state stands for a state of the program's trees, all but the last call's result: the live calls'
  -- frames have these extents, the innermost first.
  pub agrees : TreeProgram → Extent → List Extent → State → S → Type 0
  -- there is room for what one tree pushes and calls
  pub has_room : S → Type 0
  -- what a rule's template does, and a line that saves or reloads
  pub effect : List Class → Rule → Result EffectShape Fault
  pub spill_effect : Kind → Line → Result EffectShape Fault
  -- a line or a shape with its holes filled
  pub instr : TreeProgram → Line → List (Attr O) → Attr O → I
  pub operand : TreeProgram → Line → List (Attr O) → O

abbrev pub is_word : Option ℕ → ℕ → Bool
is_word None w = false
is_word (Some k) w = k == w

-- what an operand reads or names may change with what stands there
abbrev pub touches : {O I S F : Type 0} → Meaning O I S F → O → Spot → Bool
touches of o (RegAt r) = bit_at (of.registers o) r == 1
touches of o (WordAt w) = is_word (of.word o) w

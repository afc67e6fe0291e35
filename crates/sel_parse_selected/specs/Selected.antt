-- The code that the parse of a tree selects, each question answered by the attributes.
use Rattle.std.specs.Prelude.{ℕ, List, [], ◌∷◌, Option, Some, None, option_and_then, slice_get}
use Rattle.tree_core.specs.declared.tree.Leaf.{Leaf}
use Rattle.tree_core.specs.declared.program.TreeProgram.{TreeProgram}
use Rattle.sel_target.specs.md_reader.specs.declared.types.Rule.{Rule}
use Rattle.sel_target.specs.md_reader.specs.State.{Content}
use Rattle.lr_check_parse.specs.lr_tables.specs.Statements.{stmt_of}
use Rattle.lr_check_parse.specs.Moves.{Move, Shift, Reduce, Ending, Accepts, Blocks, Loops, Refuses, Parses}
use Rattle.lr_check_parse.specs.Attributes.{Selecting, by_attributes}
use Rattle.sel_target.specs.declared.attr.Attr.TheVariants as attr
use Rattle.sel_target.specs.Meaning.{Meaning}
use Rattle.sel_target.specs.Symbols.{constant_of, relation_of}
use Rattle.sel_parse_selected.specs.Entries.{Entry, alike}
use Rattle.sel_parse_selected.specs.Desk.{Stack, Outcome, Full, Stuck, Done}
use Rattle.sel_parse_selected.specs.Reductions.{reduced}

-- What a parse keeps beside its symbols: the stack with its code. Nothing is kept where a register was due that no entry could give up.
abbrev pub Kept : Type 0 → Type 0 → Type 0
Kept O I = Option (Stack O I)

abbrev pub entries_of : {O I : Type 0} → Kept O I → List (Entry O)
entries_of None = []
entries_of (Some x) = x.entries

-- a token stands for itself
abbrev pub shifted : {O I : Type 0} → Leaf → Kept O I → Kept O I
shifted l None = None
shifted l (Some x) = Some (record { entries = record { kind = None; attr = attr.Token l } ∷ x.entries; code = x.code; most = x.most })

-- a reduction is refused where a spill was due and no frame word is free
abbrev pub kept_of : {O I : Type 0} → Outcome (Stack O I) → Option (Kept O I)
kept_of Full = None
kept_of Stuck = Some None
kept_of (Done x) = Some (Some x)

-- The program's names fill the lines. The slots are the frame words from the first on.
module _ {O I S F : Type 0} (of : Meaning O I S F) (q : TreeProgram) (d : Content) (first : ℕ) where
  abbrev pub reduced_by : Option Rule → Kept O I → Option (Kept O I)
  reduced_by None x = Some None
  reduced_by (Some rule) None = Some None
  reduced_by (Some rule) (Some x) = kept_of (reduced of q d first rule x)

  abbrev pub reduced_at : ℕ → Kept O I → Option (Kept O I)
  reduced_at n x = reduced_by (slice_get d.rules n) x

  abbrev pub selecting : Selecting (Kept O I) (Entry O)
  selecting = record {
    attributes = entries_of;
    alike = alike of;
    constant = λ e. constant_of q e.attr;
    relation = λ e. relation_of e.attr;
    shifted = shifted;
    reduced = reduced_at;
  }

  abbrev pub start : Kept O I
  start = Some (record { entries = []; code = []; most = first })

  -- the parse of a tree's leaves by the description's rules: its moves, and how it ends
  abbrev pub Parsed : List Leaf → List (Move Leaf) → Ending (Kept O I) → Type 0
  Parsed w log e = Parses (by_attributes selecting) d.rules (stmt_of d.classes) 0 [] w [] start log e

  -- the code of a tree, and the number of frame words used behind it
  pub record Selected (w : List Leaf) (code : List I) (most : ℕ) : Type 0 where
    pub log : List (Move Leaf)
    pub entries : List (Entry O)
    pub parsed : Parsed w log (Accepts (Some (record { entries = entries; code = code; most = most })))

  -- a spill was due, and no frame word was free
  pub record FrameFull (w : List Leaf) : Type 0 where
    pub log : List (Move Leaf)
    pub parsed : Parsed w log Refuses

  -- the parse has nowhere to go on, or turns in a circle, at an offset
  pub data Blocked (w : List Leaf) : Type 0 where
    blocks : (log : List (Move Leaf)) (at : ℕ) → Parsed w log (Blocks at) → Blocked w
    circles : (log : List (Move Leaf)) (at : ℕ) → Parsed w log (Loops at) → Blocked w

  -- moves, made one after another
  abbrev pub made : List (Move Leaf) → Kept O I → Option (Kept O I)
  made [] x = Some x
  made (Shift l ∷ log) x = made log (shifted l x)
  made (Reduce n ∷ log) x = option_and_then (made log) (reduced_at n x)

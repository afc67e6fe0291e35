-- What a selection asks of what stands beside a symbol of the parse stack, and by which line of a description it is saved.
use Rattle.std.specs.Prelude.{ℕ, zero, suc, ◌+◌, List, [], ◌∷◌, Option, Some, None, option_map, Bool, true, false, slice_get, if◌then◌else◌}
use Rattle.gg_base.specs.declared.relation.Rel.{Rel}
use Rattle.gg_base.specs.declared.size.Size.{Size}
use Rattle.gg_base.specs.declared.size.Size.TheVariants.{Byte, Word, Long}
use Rattle.tree_core.specs.declared.tree.Att.{Att}
use Rattle.tree_core.specs.declared.tree.Att.TheVariants as att
use Rattle.tree_core.specs.declared.program.TreeProgram.{TreeProgram}
use Rattle.md_reader_pieces.specs.declared.piece.Line.{Line}
use Rattle.md_reader_pieces.specs.declared.piece.Piece.{Piece}
use Rattle.md_reader_pieces.specs.declared.piece.Piece.TheVariants as piece
use Rattle.sel_terms_meaning.specs.md_reader.specs.declared.types.Kind.{Kind}
use Rattle.sel_terms_meaning.specs.md_reader.specs.declared.types.Kind.TheVariants as kind
use Rattle.sel_terms_meaning.specs.md_reader.specs.Restrictions.{size_of_kind}
use Rattle.sel_terms_meaning.specs.md_reader.specs.State.{Content}
use Rattle.sel_target.specs.declared.attr.Attr.{Attr}
use Rattle.sel_target.specs.declared.attr.Attr.TheVariants as attr
use Rattle.sel_target.specs.Values.{address_of}

-- the number of a constant: a token's, or that of a class
abbrev pub token_number : TreeProgram → Att → Option ℕ
token_number q (att.Number n) = Some n
token_number q (att.Object object offset) = address_of (slice_get q.objects object) offset
token_number q a = None

abbrev pub constant_of : {O : Type 0} → TreeProgram → Attr O → Option ℕ
constant_of q (attr.Con n) = Some n
constant_of q (attr.Token l) = token_number q l.att
constant_of q a = None

-- the relation of a branch
abbrev pub branch_relation : Att → Option Rel
branch_relation (att.Branch rel label) = Some rel
branch_relation a = None

abbrev pub relation_of : {O : Type 0} → Attr O → Option Rel
relation_of (attr.Token l) = branch_relation l.att
relation_of a = None

abbrev pub is_register : {O : Type 0} → Attr O → Bool
is_register (attr.Reg r) = true
is_register a = false

-- the size of what stands for a value or a place; a local and an argument are longwords
abbrev pub size_of_entry : Option Kind → Option Size
size_of_entry None = Some Long
size_of_entry k = size_of_kind k

-- the place in a description of the line that saves what is of a kind: values by size, places by size, addresses; a register as a longword
abbrev pub of_size : Size → ℕ
of_size Byte = 0
of_size Word = 1
of_size Long = 2

abbrev pub saving_place : Option Kind → ℕ
saving_place (Some (kind.Value size)) = of_size size
saving_place (Some (kind.Place size)) = 3 + of_size size
saving_place (Some kind.Ea) = 6
saving_place k = 2

abbrev pub line_of : Option Line → Line
line_of None = record { line = 0; pieces = [] }
line_of (Some l) = l

-- the line that saves what is of a kind
abbrev pub saving_line : Content → Option Kind → Line
saving_line d k = line_of (slice_get d.spills (saving_place k))

-- the line that brings a register's symbol back
abbrev pub reload_line : Content → Line
reload_line d = line_of (slice_get d.spills 7)

-- the symbol that a shape names first
abbrev pub first_hole : List Piece → ℕ
first_hole (piece.Hole i ∷ ps) = i
first_hole ps = 0

-- the lowest of the n numbers from k on that passes
abbrev pub lowest : (ℕ → Bool) → ℕ → ℕ → Option ℕ
lowest passes k zero = None
lowest passes k (suc n) = if passes k then Some k else lowest passes (k + 1) n

-- the place of the first element that passes
abbrev pub behind_one : Option ℕ → Option ℕ
behind_one o = option_map (λ i. i + 1) o

abbrev pub first_that : {X : Type 0} → (X → Bool) → List X → Option ℕ
first_that passes [] = None
first_that passes (x ∷ xs) = if passes x then Some 0 else behind_one (first_that passes xs)

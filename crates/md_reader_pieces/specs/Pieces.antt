-- The text of an instruction, and the pieces of a text.
use Rattle.std.specs.Prelude.{◌≡◌, ℕ, not, ◌==◌, List, [], ◌∷◌, ◌++◌, take, drop, Option, Some, None, Result, Ok, Err, if◌then◌else◌}
use Rattle.std.specs.Char.{is_ascii_digit}
use Rattle.std.specs.Option.{option_map}
use Rattle.std.specs.Global.{Vec}
use Rattle.gg_base.specs.Fronts.{run_len}
use Rattle.md_reader_text.specs.Lists.{put_front}
use Rattle.md_reader_text.specs.Numbers.{number}
use Rattle.md_reader_pieces.specs.declared.piece.Piece.{Piece}
use Rattle.md_reader_pieces.specs.declared.piece.Piece.TheVariants as piece
use Rattle.md_reader_pieces.specs.declared.piece.PieceFault.{PieceFault}
use Rattle.md_reader_pieces.specs.declared.piece.PieceFault.TheVariants as piece_fault

-- an instruction has a mnemonic, and operands behind one space or none
abbrev pub text_of : List (List ℕ) → Option (List ℕ)
text_of [] = None
text_of (m ∷ []) = Some m
text_of (m ∷ o ∷ []) = Some (m ++ 32 ∷ o)
text_of (m ∷ o ∷ w ∷ ws) = None

-- the parts that each `%` parts
abbrev pub parts : List ℕ → List (List ℕ)
parts [] = [] ∷ []
parts (b ∷ bs) = if b == 37 then [] ∷ parts bs else put_front b (parts bs)

-- bytes are one piece, if there are any
abbrev pub plain : List ℕ → List Piece
plain [] = []
plain (b ∷ bs) = piece.Bytes (b ∷ bs) ∷ []

-- a hole that names a symbol by its decimal number, of so many digits
abbrev pub symbol_hole : ℕ → List ℕ → Option (Piece × ℕ)
symbol_hole len part = option_map (λ (i : ℕ). (piece.Hole i, len)) (number 255 (take len part))

-- the hole whose name begins a part, and how long the name is
abbrev pub hole_at : List ℕ → Option (Piece × ℕ)
hole_at [] = None
hole_at (b ∷ bs) =
    if b == 76 then Some (piece.Label, 1)
    else if b == 70 then Some (piece.Callee, 1)
    else if b == 78 then Some (piece.Count, 1)
    else symbol_hole (run_len is_ascii_digit (b ∷ bs)) (b ∷ bs)

abbrev pub hole_with : List ℕ → Option (Piece × ℕ) → Option (List Piece)
hole_with part None = None
hole_with part (Some x) = Some (x.0 ∷ plain (drop x.1 part))

-- a part behind a `%`: a hole, and then bytes
abbrev pub hole_pieces : List ℕ → Option (List Piece)
hole_pieces part = hole_with part (hole_at part)

abbrev pub together : Option (List Piece) → Option (List Piece) → Option (List Piece)
together None qs = None
together (Some ps) None = None
together (Some ps) (Some qs) = Some (ps ++ qs)

-- the parts behind a `%` each
abbrev pub holes : List (List ℕ) → Option (List Piece)
holes [] = Some []
holes (w ∷ ws) = together (hole_pieces w) (holes ws)

abbrev pub pieces_of : List (List ℕ) → Option (List Piece)
pieces_of [] = Some []
pieces_of (w ∷ ws) = together (Some (plain w)) (holes ws)

-- the pieces of a text, if each `%` begins a hole
abbrev pub pieces : List ℕ → Option (List Piece)
pieces text = pieces_of (parts text)

-- how a part is cut off
abbrev pub part_len : List ℕ → ℕ
part_len text = run_len (λ b. not (b == 37)) text

-- the parts of what is left, which begins with a `%` if it is not empty
abbrev pub parts_behind : List ℕ → List (List ℕ)
parts_behind [] = []
parts_behind (b ∷ bs) = parts bs

-- these pieces were put behind those that were there, or there are none
abbrev pub Lacks : PieceFault → Option (List Piece) → Type 0
Lacks piece_fault.NoMemory found = Unit {0}
Lacks piece_fault.BadHole found = found ≡ None

abbrev pub Adds : Result Unit PieceFault → List Piece → List Piece → Option (List Piece) → Type 0
Adds (Ok u) old new found = together (Some old) found ≡ Some new
Adds (Err e) old new found = Lacks e found

abbrev pub ArePieces : Result (Vec Piece) PieceFault → Option (List Piece) → Type 0
ArePieces (Ok v) found = found ≡ Some v.items
ArePieces (Err e) found = Lacks e found

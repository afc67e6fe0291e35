-- What the lines and shapes of a template spell.
use Rattle.std.specs.Prelude.{ℕ, zero, suc, ◌==◌, ◌&&◌, Bool, false, List, [], ◌∷◌, Option, Some, None, is_some}
use Rattle.std.specs.Prelude.{if◌then◌else◌, slice_get, slice_index_or}
use Rattle.gg_base.specs.declared.size.Size.{Size}
use Rattle.gg_base.specs.declared.size.Size.TheVariants.{Byte, Word, Long}
use Rattle.gg_base.specs.Sizes.{bytes_of}
use Rattle.md_reader_pieces.specs.declared.piece.Piece.{Piece}
use Rattle.md_reader_pieces.specs.declared.piece.Piece.TheVariants as piece
use Rattle.md_reader.specs.declared.types.Class.{Class}
use Rattle.md_reader.specs.declared.types.Sym.{Sym}
use Rattle.sel_target.specs.sel_terms.specs.RuleFacts.{size_at}
use Rattle.sel_toy_machine.specs.declared.form.Form.{Form}
use Rattle.sel_toy_machine.specs.declared.form.Form.TheVariants as form
use Rattle.sel_toy_machine.specs.declared.form.ShapeForm.{ShapeForm}
use Rattle.sel_toy_machine.specs.declared.form.ShapeForm.TheVariants as shape_form

-- the letter that a line begins with
abbrev pub letter : List Piece → ℕ
letter (piece.Bytes w ∷ ps) = slice_index_or w 0 0
letter ps = 0

-- the number of a list's first hole, of the second, and so on; 255 where there is none
abbrev pub nth_hole : List Piece → ℕ → ℕ
nth_hole [] n = 255
nth_hole (piece.Hole i ∷ ps) zero = i
nth_hole (piece.Hole i ∷ ps) (suc n) = nth_hole ps n
nth_hole (p ∷ ps) n = nth_hole ps n

abbrev pub statement_by : ℕ → ℕ → ℕ → ℕ → Option Form
statement_by c i j k =
    if c == 112 then Some (form.Push i)
    else if c == 116 then Some (form.Branch i j k)
    else if c == 106 then Some (form.Jump i)
    else if c == 99 then Some (form.Call i)
    else if c == 114 then Some (form.Return i)
    else if c == 118 then Some (form.Save i) else None

abbrev pub store_by : ℕ → ℕ → ℕ → ℕ → Option Form
store_by c i j k =
    if c == 120 then Some (form.Store Byte i j)
    else if c == 121 then Some (form.Store Word i j)
    else if c == 115 then Some (form.Store Long i j)
    else if c == 88 then Some (form.StoreAt Byte i j)
    else if c == 89 then Some (form.StoreAt Word i j)
    else if c == 83 then Some (form.StoreAt Long i j) else statement_by c i j k

abbrev pub form_by : ℕ → ℕ → ℕ → ℕ → Option Form
form_by c i j k =
    if c == 98 then Some (form.Move Byte i)
    else if c == 119 then Some (form.Move Word i)
    else if c == 108 then Some (form.Move Long i)
    else if c == 101 then Some (form.Address i)
    else if c == 97 then Some (form.Add i j)
    else if c == 100 then Some (form.Divide i j) else store_by c i j k

abbrev pub form_of : List Piece → Option Form
form_of ps = form_by (letter ps) (nth_hole ps 0) (nth_hole ps 1) (nth_hole ps 2)

-- one hole, perhaps between other pieces
abbrev pub shape_of : List Piece → ShapeForm
shape_of (piece.Hole i ∷ ps) = shape_form.Alone i
shape_of ps = shape_form.Based (nth_hole ps 0)

-- a symbol of a right side, from 1
abbrev pub is_symbol : List Sym → ℕ → Bool
is_symbol right zero = false
is_symbol right (suc i) = is_some (slice_get right i)

-- a symbol with a number of the size
abbrev pub is_sized : List Class → List Sym → Size → ℕ → Bool
is_sized classes right size i = is_symbol right i && (bytes_of (size_at classes right i) == bytes_of size)

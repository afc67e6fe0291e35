-- A template's holes, one after the other.
use Rattle.std.proofs.Common.{◌≡◌, List, [], ◌∷◌, Bool, refl, ap}
use Rattle.std.specs.Prelude.{◌&&◌}
use Rattle.std.specs.List.{list_all}
use Rattle.md_reader_pieces.specs.declared.piece.Piece.{Piece}
use Rattle.md_reader.specs.declared.types.Sym.{Sym}
use Rattle.md_reader.specs.Rows.{piece_fits, pieces_fit}

pub each_piece : (register : Bool) (right : List Sym) (ps : List Piece) → list_all (piece_fits register right) ps ≡ pieces_fit register right ps
each_piece register right [] = refl
each_piece register right (p ∷ ps) = ap (λ b. piece_fits register right p && b) (each_piece register right ps)

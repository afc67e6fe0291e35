-- A text is cut into its parts from left to right.
use Rattle.std.proofs.Common.{◌≡◌, ℕ, zero, suc, ◌+◌, ◌<◌, length, Bool, true, false, eqb, List, [], ◌∷◌, ◌++◌, append_assoc, take, drop, Option, Some, None, refl, sym, ap, ◌∙◌, arith}
use Rattle.std.proofs.lemmas.List.{drop-drop}
use Rattle.md_reader_text.specs.Lists.{put_front}
use Rattle.md_reader_pieces.specs.declared.piece.Piece.{Piece}
use Rattle.md_reader_pieces.specs.declared.piece.PieceFault.{PieceFault}
use Rattle.md_reader_pieces.specs.declared.piece.PieceFault.TheVariants as piece_fault
use Rattle.md_reader_pieces.specs.Pieces.{Lacks, part_len, parts, parts_behind, plain, hole_pieces, together, holes, pieces_of, pieces}

parts_front : (text : List ℕ) → parts text ≡ take (part_len text) text ∷ parts_behind (drop (part_len text) text)
parts_front [] = refl
parts_front (b ∷ bs) = at (eqb b 37) refl (parts_front bs)
  where
    at : (t : Bool) → eqb b 37 ≡ t → parts bs ≡ take (part_len bs) bs ∷ parts_behind (drop (part_len bs) bs) → parts (b ∷ bs)
        ≡ take (part_len (b ∷ bs)) (b ∷ bs) ∷ parts_behind (drop (part_len (b ∷ bs)) (b ∷ bs))
    at true e h = rw e refl
    at false e h = rw e (ap (put_front b) h)

regrouped : (o p q : Option (List Piece)) → together o (together p q) ≡ together (together o p) q
regrouped None p q = refl
regrouped (Some ps) None q = refl
regrouped (Some ps) (Some qs) None = refl
regrouped (Some ps) (Some qs) (Some rs) = ap (λ (x : List Piece). Some x) (sym (append_assoc ps qs rs))

-- the bytes in front of the first hole were read
pub begun : (text : List ℕ) (old items : List Piece) (at : ℕ) → at ≡ part_len text → old ≡ [] → Some (old ++ plain (take at text)) ≡ Some items
    → together (Some items) (holes (parts_behind (drop at text))) ≡ pieces text
begun text old items at e g f = rw (← f, g, e) (sym (ap pieces_of (parts_front text)))

-- behind a place that a `%` has stand its parts
behind : (at : ℕ) (text : List ℕ) → at < length text → parts_behind (drop at text) ≡ parts (drop (at + 1) text)
behind at [] lt = absurd (omega arith)
behind zero (b ∷ bs) lt = refl
behind (suc at) (b ∷ bs) lt = let one : suc at + 1 ≡ suc (at + 1) = omega arith in rw one (behind at bs (omega arith))

-- the part behind a `%` is cut off
part_at : (text after : List ℕ) (at len : ℕ) → at < length text → after ≡ drop (at + 1) text → len ≡ part_len after → holes (parts_behind (drop at text))
    ≡ together (hole_pieces (take len after)) (holes (parts_behind (drop (at + (1 + len)) text)))
part_at text after at len lt a e =
    let far : drop len (drop (at + 1) text) ≡ drop (at + (1 + len)) text = drop-drop len (at + 1) text ∙ ap (λ (n : ℕ). drop n text) (omega arith) in
    let cut : drop (part_len after) after ≡ drop (at + (1 + len)) text = ap (λ (n : ℕ). drop n after) (sym e) ∙ ap (drop len) a ∙ far in
    ap holes (behind at text lt ∙ ap parts (sym a) ∙ parts_front after)
    ∙ ap (λ (w : List ℕ). together (hole_pieces (take (part_len after) after)) (holes (parts_behind w))) cut
    ∙ ap (λ (n : ℕ). together (hole_pieces (take n after)) (holes (parts_behind (drop (at + (1 + len)) text)))) (sym e)

-- a hole and the bytes behind it were read
pub goes_on : (text after : List ℕ) (at len : ℕ) (items new : List Piece) (all : Option (List Piece)) → at < length text → after ≡ drop (at + 1) text → len ≡ part_len after
    → together (Some items) (hole_pieces (take len after)) ≡ Some new → together (Some items) (holes (parts_behind (drop at text))) ≡ all
    → together (Some new) (holes (parts_behind (drop (at + (1 + len)) text))) ≡ all
goes_on text after at len items new all lt a e f h =
    let rest = holes (parts_behind (drop (at + (1 + len)) text)) in
    ap (λ (o : Option (List Piece)). together o rest) (sym f) ∙ sym (regrouped (Some items) (hole_pieces (take len after)) rest)
    ∙ ap (together (Some items)) (sym (part_at text after at len lt a e)) ∙ h

-- a `%` begins no hole
pub no_hole : (text after : List ℕ) (at len : ℕ) (items : List Piece) (all : Option (List Piece)) → at < length text → after ≡ drop (at + 1) text → len ≡ part_len after
    → hole_pieces (take len after) ≡ None → together (Some items) (holes (parts_behind (drop at text))) ≡ all → all ≡ None
no_hole text after at len items all lt a e f h =
    let rest = holes (parts_behind (drop (at + (1 + len)) text)) in
    sym h ∙ ap (together (Some items)) (part_at text after at len lt a e ∙ ap (λ (o : Option (List Piece)). together o rest) f)

pub lacks : (text after : List ℕ) (at len : ℕ) (items : List Piece) (all : Option (List Piece)) (fault : PieceFault) → at < length text → after ≡ drop (at + 1) text → len ≡ part_len after
    → Lacks fault (hole_pieces (take len after)) → together (Some items) (holes (parts_behind (drop at text))) ≡ all → Lacks fault all
lacks text after at len items all piece_fault.NoMemory lt a e f h = tt
lacks text after at len items all piece_fault.BadHole lt a e f h = no_hole text after at len items all lt a e f h

-- What stores leave of a piece.
use Rattle.std.specs.Prelude.{ℕ, ◌+◌, ◌-◌, ◌*◌, ◌^◌, ◌<◌, ◌≤◌, List, ◌∷◌, length, drop, slice_set}
use Rattle.gg_base.specs.declared.limits.TheConstants.{STACK_START}
use Rattle.gg_base.specs.declared.size.Size.TheVariants.{Long}
use Rattle.gg_base.specs.LittleEndian.{with_number}
use Rattle.tree_meaning.specs.State.{Activation, Extent, with_local}
use Rattle.call_pieces.specs.Piece.{Piece, SameFrom, word_of}

-- the stack with a longword at an address
abbrev pub with_long : List ℕ → ℕ → ℕ → List ℕ
with_long stack address v = with_number Long stack (address - STACK_START) v

-- of each piece that lies in the stack
abbrev pub OfEach : ((stack : List ℕ) (fp first : ℕ) (e : Extent) (a : Activation) (low high : ℕ) → Type 0) → Type 0
OfEach P =
    (stack : List ℕ) (fp first : ℕ) (e : Extent) (a : Activation) (low high : ℕ) → Piece stack fp first e a low high → STACK_START ≤ low
    → high ≤ STACK_START + length stack → P stack fp first e a low high

pub record PiecesAreKept : Type 0 where
  -- nothing in it changes
  pub same : OfEach (λ stack fp first e a low high. (new : List ℕ) → SameFrom low stack new → Piece new fp first e a low high)
  -- a word that may be used freely is set
  pub word : OfEach (λ stack fp first e a low high. (k v : ℕ) → e.locals ≤ k → k < e.words
      → Piece (with_long stack (word_of fp k) v) fp first e a low high)
  -- a local is set
  pub local : OfEach (λ stack fp first e a low high. (k v : ℕ) → k < e.locals → v < 2 ^ 32
      → Piece (with_long stack (word_of fp k) v) fp first e (record a { locals = with_local a.locals k v }) low high)
  -- an argument is set
  pub argument : OfEach (λ stack fp first e a low high. (k v : ℕ) → k < length a.arguments → v < 2 ^ 32
      → Piece (with_long stack (first + 4 * k) v) fp first e (record a { arguments = slice_set a.arguments k v }) low high)
  -- one more longword is pushed
  pub push : OfEach (λ stack fp first e a low high. (v : ℕ) → STACK_START + 4 ≤ low → v < 2 ^ 32
      → Piece (with_long stack (low - 4) v) fp first e (record a { pushed = v ∷ a.pushed }) (low - 4) high)
  -- pushed longwords are taken off
  pub pop : OfEach (λ stack fp first e a low high. (count : ℕ) → count ≤ length a.pushed
      → Piece stack fp first e (record a { pushed = drop count a.pushed }) (low + 4 * count) high)

-- Where the homes of the innermost call lie, and that what its instructions may touch lies apart from them.
use Rattle.std.specs.Prelude.{◌≡◌, ℕ, ◌+◌, ◌*◌, ◌≤◌, ◌<◌, ◌||◌, ◌&&◌, nat_le, nat_lt, Bool, true, false, List, [], ◌∷◌}
use Rattle.gg_base.specs.declared.limits.TheConstants.{STACK_START, STACK_TOP}
use Rattle.vax_homes.specs.declared.choose.Home.{Home}
use Rattle.vax_homes_law.specs.Alike.{Has, IsPaired, word_place, AreLaid}

-- a byte of the stack is one of a home's word
abbrev pub is_home_byte : List Home → ℕ → ℕ → Bool
is_home_byte [] fp i = false
is_home_byte (h ∷ hs) fp i = (nat_le (word_place fp h.local) i && nat_lt i (word_place fp h.local + 4)) || is_home_byte hs fp i

-- A call's piece of the stack: its words from `low` up to `fp`, its arguments behind `ap`, up to `high`; the stack has room below it.
pub record IsPiece (hs : List Home) (fp ap args words low high : ℕ) : Type 0 where
  pub room : STACK_START + 128 ≤ low
  pub words_are : low + 4 * words ≡ fp
  pub control : fp ≤ ap
  pub arguments : ap + 4 * (args + 1) ≤ high
  pub top : high ≤ STACK_TOP
  pub homes : (h : Home) → Has hs h → h.local < words

-- Where only bytes of the call's own homes and some from `high` on are hidden, all lies as it should.
abbrev pub PiecesAreLaid : Type 0
PiecesAreLaid = (hs : List Home) (outer : ℕ → Bool) (fp ap args words low high : ℕ) → IsPaired hs → IsPiece hs fp ap args words low high
    → ((i : ℕ) → outer i ≡ true → high ≤ STACK_START + i)
    → AreLaid hs (λ i. (is_home_byte hs fp i || outer i) ≡ true) fp ap args low

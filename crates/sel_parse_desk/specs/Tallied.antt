-- Counts of the entries that hold a register or a frame word.
use Rattle.std.specs.Prelude.{◌≡◌, ℕ, ◌+◌, ◌^◌, ◌<◌, ◌≤◌, List, length, Bool, false, take, count_by, slice_index, if◌then◌else◌}
use Rattle.std.specs.List.{list_any}
use Rattle.gg_base.specs.declared.limits.TheConstants.{NEED_LIMIT}
use Rattle.sel_target.specs.declared.attr.Attr.{Attr}
use Rattle.sel_target.specs.Meaning.{Meaning}
use Rattle.sel_parse_desk.specs.Entries.{attrs, in_register, in_word}
use Rattle.sel_parse_desk.specs.Spills.{holds_some}
use Rattle.sel_parse_desk.specs.declared.stack.Stack.{Stack}

abbrev pub one : Bool → ℕ
one b = if b then 1 else 0

-- Each of the first n counts can rise by so much, has risen by it, is that much at least, and has fallen by it.
abbrev pub HaveRoom : ℕ → List ℕ → (ℕ → ℕ) → Type 0
HaveRoom n counts by = (i : ℕ) → i < n → slice_index counts i + by i < 2 ^ 64

abbrev pub HaveRisen : ℕ → List ℕ → List ℕ → (ℕ → ℕ) → Type 0
HaveRisen n old new by = (i : ℕ) → i < n → slice_index new i ≡ slice_index old i + by i

abbrev pub AreAtLeast : ℕ → List ℕ → (ℕ → ℕ) → Type 0
AreAtLeast n counts by = (i : ℕ) → i < n → by i ≤ slice_index counts i

abbrev pub HaveFallen : ℕ → List ℕ → List ℕ → (ℕ → ℕ) → Type 0
HaveFallen n old new by = (i : ℕ) → i < n → slice_index new i + by i ≡ slice_index old i

module _ {O I S F : Type 0} (of : Meaning O I S F) where
  -- how often an attribute holds a register, or a frame word
  abbrev pub registers_of : Attr O → ℕ → ℕ
  registers_of a r = one (in_register of r a)

  abbrev pub words_of : Attr O → ℕ → ℕ
  words_of a w = one (in_word of w a)

  -- how many attributes hold it
  abbrev pub registers_among : List (Attr O) → ℕ → ℕ
  registers_among hs r = count_by (in_register of r) hs

  abbrev pub words_among : List (Attr O) → ℕ → ℕ
  words_among hs w = count_by (in_word of w) hs

-- so many of the attributes hold each register, and each frame word; before a place none holds a register
pub record AreTallied {O I S F : Type 0} (of : Meaning O I S F) (hs : List (Attr O)) (registers words : List ℕ) (settled : ℕ) : Type 0 where
  pub each_register : (r : ℕ) → r < 12 → slice_index registers r ≡ count_by (in_register of r) hs
  pub each_word : (w : ℕ) → w < NEED_LIMIT → slice_index words w ≡ count_by (in_word of w) hs
  pub within : settled ≤ length hs
  pub no_register : list_any (holds_some of) (take settled hs) ≡ false

abbrev pub IsTallied : {O I S F : Type 0} → Meaning O I S F → Stack O → Type 0
IsTallied of s = AreTallied of (attrs s.entries) s.tally.registers.items s.tally.words.items s.settled

-- The words of the commands.
use Rattle.std.specs.Prelude.{◌≡◌, ◌<◌, ◌≤◌, ℕ, List, [], ◌∷◌, length, map, codes}
use Rattle.std.specs.Fmt.{decimal}
use Rattle.std.specs.declared.string.String.{String}
use Rattle.std.specs.declared.alloc.Global.{Global}
use Rattle.std.specs.String.{string_bytes}
use Rattle.cmd_session.specs.declared.words.Command.{Command}
use Rattle.cmd_session.specs.declared.words.Command.TheVariants.{Check, Compile, Run, Meaning, Load, Image, Text, Check32, Run32}

-- the bytes of each word
abbrev pub spelled : List (String Global) → List (List ℕ)
spelled words = map string_bytes words

-- the greatest number of steps that a command may ask for
abbrev pub greatest_count : ℕ
greatest_count = 1000000000

-- the greatest number of functions that a command may ask for
abbrev pub greatest_size : ℕ
greatest_size = 1000

-- a number from 1 to the greatest
abbrev pub IsCount : ℕ → ℕ → Type 0
IsCount greatest n = (0 < n) × (n ≤ greatest)

-- a word and a name
pub record SaysNamed (word : List ℕ) (words : List (List ℕ)) (name : List ℕ) : Type 0 where
  pub words_are : words ≡ word ∷ (name ∷ [])
  pub named : 0 < length name

-- a word and two names
pub record SaysPaired (word : List ℕ) (words : List (List ℕ)) (first second : List ℕ) : Type 0 where
  pub words_are : words ≡ word ∷ (first ∷ (second ∷ []))
  pub first_named : 0 < length first
  pub second_named : 0 < length second

-- a word, a name, and a number from 1 to the greatest in decimal without a leading zero
pub record SaysCounted (word : List ℕ) (greatest : ℕ) (words : List (List ℕ)) (name : List ℕ) (count : ℕ) : Type 0 where
  pub words_are : words ≡ word ∷ (name ∷ (decimal count ∷ []))
  pub named : 0 < length name
  pub counts : IsCount greatest count

-- `check D`
abbrev pub SaysCheck : List (List ℕ) → List ℕ → Type 0
SaysCheck words description = SaysNamed (codes "check") words description

-- `compile D S`
abbrev pub SaysCompile : List (List ℕ) → List ℕ → List ℕ → Type 0
SaysCompile words description source = SaysPaired (codes "compile") words description source

-- `run A N`
abbrev pub SaysRun : List (List ℕ) → List ℕ → ℕ → Type 0
SaysRun words text count = SaysCounted (codes "run") greatest_count words text count

-- `meaning S N`
abbrev pub SaysMeaning : List (List ℕ) → List ℕ → ℕ → Type 0
SaysMeaning words source count = SaysCounted (codes "meaning") greatest_count words source count

-- `load D K`
abbrev pub SaysLoad : List (List ℕ) → List ℕ → ℕ → Type 0
SaysLoad words description size = SaysCounted (codes "load") greatest_size words description size

-- `image A`
abbrev pub SaysImage : List (List ℕ) → List ℕ → Type 0
SaysImage words text = SaysNamed (codes "image") words text

-- `text I`
abbrev pub SaysText : List (List ℕ) → List ℕ → Type 0
SaysText words image = SaysNamed (codes "text") words image

-- `check32 D`
abbrev pub SaysCheck32 : List (List ℕ) → List ℕ → Type 0
SaysCheck32 words description = SaysNamed (codes "check32") words description

-- `run32 A N`
abbrev pub SaysRun32 : List (List ℕ) → List ℕ → ℕ → Type 0
SaysRun32 words text count = SaysCounted (codes "run32") greatest_count words text count

-- the words say this command
abbrev pub Says : List (List ℕ) → Command → Type 0
Says words (Check description) = SaysCheck words description.now
Says words (Compile description source) = SaysCompile words description.now source.now
Says words (Run text count) = SaysRun words text.now count
Says words (Meaning source count) = SaysMeaning words source.now count
Says words (Load description size) = SaysLoad words description.now size
Says words (Image text) = SaysImage words text.now
Says words (Text image) = SaysText words image.now
Says words (Check32 description) = SaysCheck32 words description.now
Says words (Run32 text count) = SaysRun32 words text.now count

-- That words say one command and no other, or none.
use Rattle.std.specs.Prelude.{◌≡◌, ℕ, List, codes}
use Rattle.cmd_session.specs.declared.words.Command.{Command}
use Rattle.cmd_session.specs.declared.words.Command.TheVariants.{Check, Compile, Run, Meaning, Load, Image, Text, Check32, Run32}
use Rattle.cmd_session.specs.Words.{greatest_count, greatest_size, SaysNamed, SaysPaired, SaysCounted}

-- the words say none of one kind of command, or no other one of it than this
abbrev pub NoNamed : List ℕ → List (List ℕ) → Type 0
NoNamed word words = (name : List ℕ) → SaysNamed word words name → ⊥

abbrev pub OnlyNamed : List ℕ → List (List ℕ) → List ℕ → Type 0
OnlyNamed word words name = (other : List ℕ) → SaysNamed word words other → other ≡ name

abbrev pub NoPaired : List ℕ → List (List ℕ) → Type 0
NoPaired word words = (first second : List ℕ) → SaysPaired word words first second → ⊥

abbrev pub OnlyPaired : List ℕ → List (List ℕ) → List ℕ → List ℕ → Type 0
OnlyPaired word words first second = (one other : List ℕ) → SaysPaired word words one other → (one ≡ first) × (other ≡ second)

abbrev pub NoCounted : List ℕ → ℕ → List (List ℕ) → Type 0
NoCounted word greatest words = (name : List ℕ) (count : ℕ) → SaysCounted word greatest words name count → ⊥

abbrev pub OnlyCounted : List ℕ → ℕ → List (List ℕ) → List ℕ → ℕ → Type 0
OnlyCounted word greatest words name count =
    (other : List ℕ) (n : ℕ) → SaysCounted word greatest words other n → (other ≡ name) × (n ≡ count)

abbrev pub NoCheck : List (List ℕ) → Type 0
NoCheck = NoNamed (codes "check")

abbrev pub NoCompile : List (List ℕ) → Type 0
NoCompile = NoPaired (codes "compile")

abbrev pub NoRun : List (List ℕ) → Type 0
NoRun = NoCounted (codes "run") greatest_count

abbrev pub NoMeaning : List (List ℕ) → Type 0
NoMeaning = NoCounted (codes "meaning") greatest_count

abbrev pub NoLoad : List (List ℕ) → Type 0
NoLoad = NoCounted (codes "load") greatest_size

abbrev pub NoImage : List (List ℕ) → Type 0
NoImage = NoNamed (codes "image")

abbrev pub NoText : List (List ℕ) → Type 0
NoText = NoNamed (codes "text")

abbrev pub NoCheck32 : List (List ℕ) → Type 0
NoCheck32 = NoNamed (codes "check32")

abbrev pub NoRun32 : List (List ℕ) → Type 0
NoRun32 = NoCounted (codes "run32") greatest_count

-- the words say no other command than this
abbrev pub SaysOnly : List (List ℕ) → Command → Type 0
SaysOnly w (Check description) =
    OnlyNamed (codes "check") w description.now × NoCompile w × NoRun w × NoMeaning w × NoLoad w × NoImage w × NoText w × NoCheck32 w
    × NoRun32 w
SaysOnly w (Compile description source) =
    NoCheck w × OnlyPaired (codes "compile") w description.now source.now × NoRun w × NoMeaning w × NoLoad w × NoImage w × NoText w
    × NoCheck32 w × NoRun32 w
SaysOnly w (Run text count) =
    NoCheck w × NoCompile w × OnlyCounted (codes "run") greatest_count w text.now count × NoMeaning w × NoLoad w × NoImage w × NoText w
    × NoCheck32 w × NoRun32 w
SaysOnly w (Meaning source count) =
    NoCheck w × NoCompile w × NoRun w × OnlyCounted (codes "meaning") greatest_count w source.now count × NoLoad w × NoImage w
    × NoText w × NoCheck32 w × NoRun32 w
SaysOnly w (Load description size) =
    NoCheck w × NoCompile w × NoRun w × NoMeaning w × OnlyCounted (codes "load") greatest_size w description.now size × NoImage w
    × NoText w × NoCheck32 w × NoRun32 w
SaysOnly w (Image text) =
    NoCheck w × NoCompile w × NoRun w × NoMeaning w × NoLoad w × OnlyNamed (codes "image") w text.now × NoText w × NoCheck32 w × NoRun32 w
SaysOnly w (Text image) =
    NoCheck w × NoCompile w × NoRun w × NoMeaning w × NoLoad w × NoImage w × OnlyNamed (codes "text") w image.now × NoCheck32 w
    × NoRun32 w
SaysOnly w (Check32 description) =
    NoCheck w × NoCompile w × NoRun w × NoMeaning w × NoLoad w × NoImage w × NoText w × OnlyNamed (codes "check32") w description.now
    × NoRun32 w
SaysOnly w (Run32 text count) =
    NoCheck w × NoCompile w × NoRun w × NoMeaning w × NoLoad w × NoImage w × NoText w × NoCheck32 w
    × OnlyCounted (codes "run32") greatest_count w text.now count

-- the words say no command
pub record SaysNone (words : List (List ℕ)) : Type 0 where
  pub no_check : NoCheck words
  pub no_compile : NoCompile words
  pub no_run : NoRun words
  pub no_meaning : NoMeaning words
  pub no_load : NoLoad words
  pub no_image : NoImage words
  pub no_text : NoText words
  pub no_check32 : NoCheck32 words
  pub no_run32 : NoRun32 words

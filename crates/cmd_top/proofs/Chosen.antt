-- What holds of the command that was chosen holds of the one that the words say.
use Rattle.std.proofs.Common.{◌≡◌, ◌<◌, ℕ, List, length, codes, Bor, sym, subst}
use Rattle.cmd_session.specs.declared.words.Command.{Command}
use Rattle.cmd_session.specs.declared.words.Command.TheVariants.{Check, Compile, Run, Meaning, Load, Image, Text, Check32, Run32}
use Rattle.cmd_session.specs.declared.status.Status.{Status}
use Rattle.cmd_session.specs.Words.{IsCount, greatest_count, greatest_size, Says}
use Rattle.cmd_session.specs.Choice.{OnlyNamed, OnlyPaired, OnlyCounted, SaysOnly}
use Rattle.cmd_files.specs.Outsides.{Outside}
use Rattle.cmd_load.specs.cmd_compile.specs.Passing.{Passing}
use Rattle.cmd_load.specs.cmd_compile.specs.Outcome.{files, Leaves as CompileLeaves}
use Rattle.cmd_load.specs.Outcome.{Leaves as LoadLeaves}

pub only_check : (words : List (List ℕ)) (command : Command) (d : Bor (List ℕ)) → SaysOnly words command → command ≡ Check d → OnlyNamed (codes "check") words d.now
only_check words command d only is = (subst (SaysOnly words) is only).0

pub only_compile : (words : List (List ℕ)) (command : Command) (d source : Bor (List ℕ)) → SaysOnly words command → command ≡ Compile d source → OnlyPaired (codes "compile") words d.now source.now
only_compile words command d source only is = (subst (SaysOnly words) is only).1

pub only_run : (words : List (List ℕ)) (command : Command) (text : Bor (List ℕ)) (count : ℕ) → SaysOnly words command → command ≡ Run text count
    → OnlyCounted (codes "run") greatest_count words text.now count
only_run words command text count only is = (subst (SaysOnly words) is only).2

pub only_meaning : (words : List (List ℕ)) (command : Command) (source : Bor (List ℕ)) (count : ℕ) → SaysOnly words command → command ≡ Meaning source count
    → OnlyCounted (codes "meaning") greatest_count words source.now count
only_meaning words command source count only is = (subst (SaysOnly words) is only).3

pub only_load : (words : List (List ℕ)) (command : Command) (d : Bor (List ℕ)) (size : ℕ) → SaysOnly words command → command ≡ Load d size →
    OnlyCounted (codes "load") greatest_size words d.now size
only_load words command d size only is = (subst (SaysOnly words) is only).4

pub only_image : (words : List (List ℕ)) (command : Command) (text : Bor (List ℕ)) → SaysOnly words command → command ≡ Image text → OnlyNamed (codes "image") words text.now
only_image words command text only is = (subst (SaysOnly words) is only).5

pub only_text : (words : List (List ℕ)) (command : Command) (image : Bor (List ℕ)) → SaysOnly words command → command ≡ Text image → OnlyNamed (codes "text") words image.now
only_text words command image only is = (subst (SaysOnly words) is only).6

pub only_check32 : (words : List (List ℕ)) (command : Command) (d : Bor (List ℕ)) → SaysOnly words command → command ≡ Check32 d
    → OnlyNamed (codes "check32") words d.now
only_check32 words command d only is = (subst (SaysOnly words) is only).7

pub only_run32 : (words : List (List ℕ)) (command : Command) (text : Bor (List ℕ)) (count : ℕ) → SaysOnly words command → command ≡ Run32 text count
    → OnlyCounted (codes "run32") greatest_count words text.now count
only_run32 words command text count only is = (subst (SaysOnly words) is only).8

-- the two names are not empty
pub named_pair : (words : List (List ℕ)) (command : Command) (d source : Bor (List ℕ)) → Says words command → command ≡ Compile d source
    → (0 < length d.now) × (0 < length source.now)
named_pair words command d source says is = let said = subst (Says words) is says in (said.first_named, said.second_named)

-- the number of functions is one
pub counts : (words : List (List ℕ)) (command : Command) (d : Bor (List ℕ)) (size : ℕ) → Says words command → command ≡ Load d size → IsCount greatest_size size
counts words command d size said is = (subst (Says words) is said).counts

-- the name and the number are the only ones
pub carried : (P : List ℕ → ℕ → Type 0) (name other : List ℕ) (count n : ℕ) → (other ≡ name) × (n ≡ count) → P name count → P other n
carried P name other count n same h = subst (λ (s : List ℕ). P s n) (sym same.0) (subst (P name) (sym same.1) h)

pub named : (P : List ℕ → Type 0) (name other : List ℕ) → other ≡ name → P name → P other
named P name other same h = subst P (sym same) h

pub paired : (P : List ℕ → List ℕ → Type 0) (one other first second : List ℕ) → (first ≡ one) × (second ≡ other) → P one other → P first second
paired P one other first second same h = subst (λ (s : List ℕ). P s second) (sym same.0) (subst (P one) (sym same.1) h)

-- so it is with what `compile` and `load` come to by some passes
pub compiled : (by : Passing) (result : Status) (at : Outside) (one other first second : List ℕ) → (first ≡ one) × (second ≡ other)
    → CompileLeaves by result (files one other) at → CompileLeaves by result (files first second) at
compiled by result at = paired (λ (x y : List ℕ). CompileLeaves by result (files x y) at)

pub loaded : (by : Passing) (result : Status) (at : Outside) (name other : List ℕ) (count n : ℕ) → (other ≡ name) × (n ≡ count)
    → LoadLeaves by result name count at → LoadLeaves by result other n at
loaded by result at = carried (λ (s : List ℕ) (n : ℕ). LoadLeaves by result s n at)

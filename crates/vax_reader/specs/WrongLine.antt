-- What is wrong with a line that may not stand where it stands, and what that is called.
use Rattle.std.specs.Prelude.{◌≡◌, ◌⊎◌, ℕ, true, List, [], ◌∷◌, ◌++◌, codes}
use Rattle.std.specs.List.{Contains}
use Rattle.vax_core.specs.declared.op.Op.{Op}
use Rattle.vax_core.specs.Ops.{shape}
use Rattle.vax_core.specs.Valid.{is_name}
use Rattle.vax_reader.specs.declared.fault.AsmKind.{AsmKind}
use Rattle.vax_reader.specs.declared.fault.AsmKind.TheVariants as kinds
use Rattle.vax_reader.specs.declared.kind.Stage.{Stage}
use Rattle.vax_reader.specs.declared.kind.Stage.TheVariants as stages

-- a label line stands at the front
pub record BeginsLabel (rest : List ℕ) : Type 0 where
  pub name : List ℕ
  pub more : List ℕ
  pub valid : is_name name ≡ true
  pub text : rest ≡ name ++ (codes ":\n" ++ more)

-- the directives of the data area, and the end of the area
abbrev pub IsAreaWord : List ℕ → Type 0
IsAreaWord word =
    (word ≡ codes ".byte")
    ⊎ ((word ≡ codes ".long")
    ⊎ ((word ≡ codes ".space")
    ⊎ ((word ≡ codes ".align")
    ⊎ ((word ≡ codes ".word")
    ⊎ ((word ≡ codes ".globl")
    ⊎ (word ≡ codes ".text"))))))

-- the directives of the code, and the mnemonics
abbrev pub IsCodeWord : List ℕ → Type 0
IsCodeWord word = (word ≡ codes ".globl") ⊎ ((word ≡ codes ".word") ⊎ ((op : Op) × (word ≡ (shape op).mnemonic)))

-- the words that may stand at a stage of a text
abbrev pub IsAllowed : Stage → List ℕ → Type 0
IsAllowed stages.Start word = word ≡ codes ".data"
IsAllowed stages.Area word = IsAreaWord word
IsAllowed stages.Code word = IsCodeWord word

-- a word ends before a TAB, before a line feed or with the text
abbrev pub EndsWord : List ℕ → Type 0
EndsWord [] = Unit {0}
EndsWord (c ∷ cs) = (c ≡ 9) ⊎ (c ≡ 10)

-- a TAB and a word that may stand there are at the front
pub record BeginsAllowed (stage : Stage) (rest : List ℕ) : Type 0 where
  pub word : List ℕ
  pub more : List ℕ
  pub allowed : IsAllowed stage word
  pub ends : EndsWord more
  pub text : rest ≡ codes "\t" ++ (word ++ more)

-- the kind of the line at the front, where it is none that may stand there: a line without line feed is cut, whatever
-- else is wrong with it
abbrev pub IsKind : Stage → List ℕ → AsmKind → Type 0
IsKind stage rest kinds.Cut = ¬ Contains rest 10
IsKind stage rest kinds.Operands = Contains rest 10 × (BeginsLabel rest ⊎ BeginsAllowed stage rest)
IsKind stage rest kinds.Word = Contains rest 10 × ¬ BeginsLabel rest × ¬ BeginsAllowed stage rest

-- the kind's name
abbrev pub kind_name : AsmKind → List ℕ
kind_name kinds.Word = codes "Word"
kind_name kinds.Operands = codes "Operands"
kind_name kinds.Cut = codes "Cut"

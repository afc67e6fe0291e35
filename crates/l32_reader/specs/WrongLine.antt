-- What is wrong with a line that may not stand where it stands, and what that is called. Up to the code, that is as in a
-- VAX text.
use Rattle.std.specs.Prelude.{◌≡◌, ◌⊎◌, ℕ, List, ◌++◌, codes}
use Rattle.std.specs.List.{Contains}
use Rattle.vax_reader.specs.declared.fault.AsmKind.{AsmKind}
use Rattle.vax_reader.specs.declared.fault.AsmKind.TheVariants as kinds
use Rattle.vax_reader.specs.declared.kind.Stage.{Stage}
use Rattle.vax_reader.specs.declared.kind.Stage.TheVariants as stages
use Rattle.vax_reader.specs.WrongLine.{BeginsLabel, EndsWord}
use Rattle.vax_reader.specs.WrongLine.{IsKind as IsVaxKind}
use Rattle.l32_core.specs.declared.op.Op32.{Op32}
use Rattle.l32_core.specs.Ops.{shape}

-- a TAB and a mnemonic are at the front
pub record BeginsMnemonic (rest : List ℕ) : Type 0 where
  pub op : Op32
  pub more : List ℕ
  pub ends : EndsWord more
  pub text : rest ≡ codes "\t" ++ ((shape op).mnemonic ++ more)

-- the kind of the line of the code at the front, where it is none that may stand there: a line without line feed is cut,
-- whatever else is wrong with it
abbrev pub IsCodeKind : List ℕ → AsmKind → Type 0
IsCodeKind rest kinds.Cut = ¬ Contains rest 10
IsCodeKind rest kinds.Operands = Contains rest 10 × (BeginsLabel rest ⊎ BeginsMnemonic rest)
IsCodeKind rest kinds.Word = Contains rest 10 × ¬ BeginsLabel rest × ¬ BeginsMnemonic rest

abbrev pub IsKind : Stage → List ℕ → AsmKind → Type 0
IsKind stages.Start rest kind = IsVaxKind stages.Start rest kind
IsKind stages.Area rest kind = IsVaxKind stages.Area rest kind
IsKind stages.Code rest kind = IsCodeKind rest kind

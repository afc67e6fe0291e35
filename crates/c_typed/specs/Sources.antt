-- Which bytes are the source of which program, and why bytes are none.
use Rattle.std.specs.Prelude.{◌≡◌, ◌⊎◌, ℕ, List, take, codes, Result, Ok, Err}
use Rattle.gg_base.specs.declared.place.Place.{Place}
use Rattle.c_tokens.specs.declared.token.Spanned.{Spanned}
use Rattle.c_tokens.specs.declared.token.TokenKind.{TokenKind}
use Rattle.c_tokens.specs.declared.token.TokenKind.TheVariants as tokens
use Rattle.c_tokens.specs.Grammar.{Tokens}
use Rattle.c_tokens.specs.Wrong.{FirstFault}
use Rattle.c_tokens.specs.Places.{line_of, column_of}
use Rattle.c_phrases.specs.Classes.{seen}
use Rattle.c_phrases.specs.Units.{AUnit}
use Rattle.c_phrases.specs.Grammar.{IsUnit}
use Rattle.c_syntax.specs.Ends.{body_ends}
use Rattle.c_syntax_goals.specs.Refusals.{NotHereAt, TooDeepAt}
use Rattle.c_types.specs.declared.fault.TypeKind.{TypeKind}
use Rattle.c_types.specs.declared.fault.TypeKind.TheVariants as types
use Rattle.c_typed_check.specs.c_program.specs.Programs.{AProgram}
use Rattle.c_typed_check.specs.c_typed_law.specs.Texts.{IsText, TextFault}
use Rattle.c_typed.specs.declared.source.SourceKind.{SourceKind}
use Rattle.c_typed.specs.declared.source.SourceKind.TheVariants as kinds
use Rattle.c_typed.specs.declared.source.SourceFault.{SourceFault}
use Rattle.c_typed.specs.declared.source.SourceFault.TheVariants as faults
use Rattle.c_typed_check.specs.declared.program.Program.{Program}
use Rattle.c_typed_check.specs.Views.{typed}

-- the bytes are the tokens of this unit, and the bodies of its functions end there
pub record Spells (bytes : List ℕ) (unit : AUnit) (ends : List ℕ) : Type 0 where
  pub list : List Spanned
  pub tokens : Tokens 0 bytes list
  pub phrases : IsUnit (seen list) unit
  pub bodies : ends ≡ body_ends list

-- the bytes are the source of this program: the tokens of a unit that is well typed, as this program
pub record Reads (bytes : List ℕ) (program : AProgram) : Type 0 where
  pub unit : AUnit
  pub ends : List ℕ
  pub spells : Spells bytes unit ends
  pub typed : IsText unit.externals ends unit.end program

-- the line and the column of an offset
abbrev pub place_at : List ℕ → ℕ → Place
place_at bytes offset = record { line = line_of (take offset bytes); column = column_of (take offset bytes) }

-- the first fault of the tokens stands there
pub record HasTokenFault (bytes : List ℕ) (place : Place) (kind : SourceKind) : Type 0 where
  pub offset : ℕ
  pub fault : TokenKind
  pub first : FirstFault 0 bytes offset fault
  pub kind_is : kind ≡ kinds.Tokens fault
  pub place_is : place ≡ place_at bytes offset

-- the bytes have tokens, and the first fault of their phrases stands there
pub record HasPhraseFault (bytes : List ℕ) (place : Place) (kind : SourceKind) : Type 0 where
  pub list : List Spanned
  pub tokens : Tokens 0 bytes list
  pub offset : ℕ
  pub first : ((kind ≡ kinds.NotHere) × NotHereAt list offset) ⊎ ((kind ≡ kinds.TooDeep) × TooDeepAt list offset)
  pub place_is : place ≡ place_at bytes offset

-- the bytes are the tokens of a unit whose first fault of types stands there
pub record HasTypeFault (bytes : List ℕ) (place : Place) (kind : SourceKind) : Type 0 where
  pub unit : AUnit
  pub ends : List ℕ
  pub spells : Spells bytes unit ends
  pub offset : ℕ
  pub fault : TypeKind
  pub first : TextFault unit.externals ends unit.end (record { place = offset; kind = fault })
  pub kind_is : kind ≡ kinds.Types fault
  pub place_is : place ≡ place_at bytes offset

-- the first fault of the bytes stands there: of their tokens, else of their phrases, else of their types
abbrev pub IsFaultAt : List ℕ → Place → SourceKind → Type 0
IsFaultAt bytes place kind = HasTokenFault bytes place kind ⊎ (HasPhraseFault bytes place kind ⊎ HasTypeFault bytes place kind)

-- the answer says why the bytes are no source, or memory ran out
abbrev pub IsRefused : List ℕ → SourceFault → Type 0
IsRefused bytes faults.NoMemory = Unit {0}
IsRefused bytes (faults.At place kind) = IsFaultAt bytes place kind

-- the answer for the source of a program: this program, or memory ran out
abbrev pub IsOnly : Result Program SourceFault → AProgram → Type 0
IsOnly (Ok p) program = typed p ≡ program
IsOnly (Err faults.NoMemory) program = Unit {0}
IsOnly (Err (faults.At place kind)) program = ⊥

-- the answer where this fault stands: this fault, or memory ran out
abbrev pub IsOnlyFault : Result Program SourceFault → Place → SourceKind → Type 0
IsOnlyFault (Ok p) place kind = ⊥
IsOnlyFault (Err faults.NoMemory) place kind = Unit {0}
IsOnlyFault (Err (faults.At p k)) place kind = (p ≡ place) × (k ≡ kind)

-- the kind's name
abbrev pub kind_name : SourceKind → List ℕ
kind_name (kinds.Tokens tokens.BadByte) = codes "BadByte"
kind_name (kinds.Tokens tokens.BadNumber) = codes "BadNumber"
kind_name (kinds.Tokens tokens.LongName) = codes "LongName"
kind_name (kinds.Tokens tokens.BadEscape) = codes "BadEscape"
kind_name (kinds.Tokens tokens.BadChar) = codes "BadChar"
kind_name (kinds.Tokens tokens.Unclosed) = codes "Unclosed"
kind_name kinds.NotHere = codes "NotHere"
kind_name kinds.TooDeep = codes "TooDeep"
kind_name (kinds.Types types.UnknownName) = codes "UnknownName"
kind_name (kinds.Types types.Twice) = codes "Twice"
kind_name (kinds.Types types.BadCall) = codes "BadCall"
kind_name (kinds.Types types.BadJump) = codes "BadJump"
kind_name (kinds.Types types.BadConst) = codes "BadConst"
kind_name (kinds.Types types.BadInit) = codes "BadInit"
kind_name (kinds.Types types.BadType) = codes "BadType"
kind_name (kinds.Types types.DataFull) = codes "DataFull"
kind_name (kinds.Types types.NoMain) = codes "NoMain"

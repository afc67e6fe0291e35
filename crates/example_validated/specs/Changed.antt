-- What is made of a text.
use Rattle.std.specs.Prelude.{ℕ, List}
use Rattle.vax_core.specs.declared.code.Code.{Code}
use Rattle.vax_alike.specs.Alike.{Alike}
use Rattle.vax_reader.specs.Grammar.{Reads}

-- One text is that of a code, and the other that of a code which behaves as it does.
pub record IsChanged (given made : List ℕ) : Type 0 where
  pub first : Code
  pub last : Code
  pub reads : Reads given first
  pub alike : Alike first last
  pub writes : Reads made last

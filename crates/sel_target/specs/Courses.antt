-- What a list of instructions does by itself, wherever it stands in a code.
use Rattle.std.specs.Prelude.{ℕ, List, [], ◌++◌}

-- How instructions end: the run comes behind the last one; it goes to a label, or calls a function with so many arguments, the instructions
-- behind the call being left to do, or returns, each in the state before that is done; it traps, or it breaks.
pub data Ending (I S : Type 0) : Type 0 where
  Comes : (m : S) → Ending I S
  Goes : (label : List ℕ) (m : S) → Ending I S
  Calls : (name : List ℕ) (count : ℕ) (m : S) (rest : List I) → Ending I S
  Returns : (m : S) → Ending I S
  Traps : Ending I S
  Breaks : Ending I S

-- the bytes that instructions write, and how they end
pub record Course (I S : Type 0) : Type 0 where
  pub written : List ℕ
  pub ending : Ending I S

abbrev pub ends : {I S : Type 0} → Ending I S → Course I S
ends e = record { written = []; ending = e }

-- the run comes behind the last instruction, with nothing written
abbrev pub comes : {I S : Type 0} → S → Course I S
comes m = ends (Comes m)

abbrev pub traps : {I S : Type 0} → Course I S
traps = ends Traps

-- bytes are written first
abbrev pub bytes_first : {I S : Type 0} → List ℕ → Course I S → Course I S
bytes_first bytes c = record { written = bytes ++ c.written; ending = c.ending }

-- the course of further instructions, where the run comes to them
abbrev pub behind : {I S : Type 0} → Ending I S → List I → (S → Course I S) → Course I S
behind (Comes m) is go = go m
behind (Goes label m) is go = ends (Goes label m)
behind (Calls name count m rest) is go = ends (Calls name count m (rest ++ is))
behind (Returns m) is go = ends (Returns m)
behind Traps is go = ends Traps
behind Breaks is go = ends Breaks

abbrev pub followed : {I S : Type 0} → Course I S → List I → (S → Course I S) → Course I S
followed c is go = bytes_first c.written (behind c.ending is go)

-- What is written of the code that passes made.
use Rattle.std.proofs.Common.{◌≡◌, ℕ, true, List}
use Rattle.vax_core.specs.declared.code.Code.{Code}
use Rattle.vax_core.specs.Text.{asm_text}
use Rattle.vax_core.specs.Valid.{is_code}
use Rattle.vax_alike.specs.Alike.{Alike}
use Rattle.vax_reader.specs.Grammar.{Reads}
use Rattle.example_validated.specs.Changed.{IsChanged}

pub changed : (given made : List ℕ) (c d : Code) → Reads given c → is_code d ≡ true → Alike c d → made ≡ asm_text d → IsChanged given made
changed given made c d reads valid alike text = record {
  first = c;
  last = d;
  reads = reads;
  alike = alike;
  writes = record { valid = valid; text = text };
}

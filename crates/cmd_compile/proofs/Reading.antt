-- The text of a code to which passes lead from one that keeps its program.
use Rattle.std.proofs.Common.{◌≡◌, ◌<◌, ℕ, List, [], ◌∷◌, true, subst}
use Rattle.std.specs.List.{AllByRecursion}
use Rattle.std.proofs.Math.Logic.{∥∥₁_map}
use Rattle.tree_core.specs.declared.program.TreeProgram.{TreeProgram}
use Rattle.md_reader.specs.State.{Content}
use Rattle.c_program.specs.Programs.{AProgram}
use Rattle.c_lower_scheme.specs.Programs.{lowered}
use Rattle.vax_core.specs.declared.code.Code.{Code}
use Rattle.vax_core.specs.Text.{asm_text}
use Rattle.vax_core.specs.Valid.{is_code}
use Rattle.vax_reader.specs.Grammar.{Reads}
use Rattle.vax_reader.proofs.TextLaws.{unique}
use Rattle.cmd_check.specs.vax_target_meaning.specs.Vax.{vax}
use Rattle.vax_machine_lists.specs.Sound.{AllBelow}
use Rattle.vax_alike.specs.Alike.{Alike}
use Rattle.vax_alike.specs.Laws.{AlikeRunsFollow}
use Rattle.cmd_files.specs.Forms.{IsReadAs}
use Rattle.cmd_run.specs.Texts.{text_form}
use Rattle.gg_compile.specs.Needs.{AllFit}
use Rattle.gg_compile.specs.Selecting.{SelectedAll}
use Rattle.gg_compile.specs.Keeping.{Keeps}
use Rattle.cmd_compile.specs.Passing.{Passing}
use Rattle.cmd_compile.specs.Texts.{IsCodeOf, IsPassedText, IsTextBy}

-- a valid code's text is read as that code alone
read_as : (bytes : List ℕ) (c : Code) → Reads bytes c → IsReadAs text_form bytes c
read_as bytes c r = record { reads = r; only = λ d s. unique bytes c d r s }

-- bytes are below 256
below : (bytes : List ℕ) → AllByRecursion (λ (b : ℕ). b < 256) bytes → AllBelow 256 bytes
below [] all = tt
below (b ∷ bytes) all = (all.0, below bytes all.1)

-- what behaves like a code that keeps a program keeps it
alike_codes_keep : AlikeRunsFollow → (p : AProgram) (c d : Code) → Alike c d → Keeps p c → Keeps p d
alike_codes_keep law p c d alike k = record {
  loads = alike.loads k.loads;
  follows = λ input bytes.
      law _ c d input (alike.runs k.loads input (below input bytes)) (k.follows input bytes);
}

pub is_code_of : (d : Content) (p : AProgram) (q : TreeProgram) (c : Code) → q ≡ lowered p → SelectedAll vax d q c → is_code c ≡ true
    → ∥ Keeps p c ∥₁ → AllFit p → IsCodeOf d p c
is_code_of d p q c is selected valid keeps fit = record {
  fit = fit;
  selected = subst (λ (x : TreeProgram). SelectedAll vax d x c) is selected;
  valid = valid;
  keeps = keeps;
}

pub is_passed_text : (by : Passing) (c d : Code) (bytes : List ℕ) → by.leads c d → is_code d ≡ true → Alike c d → bytes ≡ asm_text d
    → IsPassedText by c bytes
is_passed_text by c d bytes led valid alike text = record { code = d; led = led; valid = valid; alike = alike; text = text }

pub is_text_by : AlikeRunsFollow → (by : Passing) (d : Content) (p : AProgram) (c : Code) (bytes : List ℕ) → IsCodeOf d p c → IsPassedText by c bytes
    → IsTextBy by d p bytes
is_text_by law by d p c bytes of t = record {
  is_text = record {
    fit = of.fit;
    first = c;
    selected = of.selected;
    code = t.code;
    alike = t.alike;
    read = read_as bytes t.code (record { valid = t.valid; text = t.text });
    keeps = ∥∥₁_map of.keeps (alike_codes_keep law p c t.code t.alike);
  };
  led = t.led;
}

-- What is read of a text whose code can be run, and why another one is refused.
use Rattle.std.proofs.Common.{◌≡◌, ◌≤◌, ℕ, List, length, Option, Some, None, sym, ap, subst, ◌∙◌, arith}
use Rattle.std.proofs.lemmas.Option.{none-some}
use Rattle.cmd_files.specs.Forms.{IsReadAs, IsRefusedBy}
use Rattle.vax_core.specs.declared.code.Code.{Code}
use Rattle.vax_core.specs.Text.{asm_text}
use Rattle.vax_reader.specs.declared.fault.AsmKind.{AsmKind}
use Rattle.vax_reader.specs.Grammar.{Reads, IsOnly, IsFirstWrong}
use Rattle.vax_machine.specs.declared.loading.LoadFault.{LoadFault}
use Rattle.vax_machine.specs.Loading.{Loads, load_fault}
use Rattle.cmd_run.specs.Lines.{wrong_line, load_line}
use Rattle.cmd_run.specs.Texts.{text_limit}
use Rattle.cmd_image.specs.Texts.{loaded_form, ReadsLoaded, IsNoText, IsNotRun}

pub read_as : (bytes : List ℕ) (code : Code) → Reads bytes code → IsOnly bytes code → Loads code → IsReadAs loaded_form bytes code
read_as bytes code reads only loads = record { reads = record { reads = reads; loads = loads }; only = λ other r. only other r.reads }

pub short_text : (bytes : List ℕ) (code : Code) → Reads bytes code → length bytes ≤ text_limit → length (asm_text code) ≤ text_limit
short_text bytes code reads within = subst (λ (b : List ℕ). length b ≤ text_limit) reads.text within

pub no_text : (bytes line : List ℕ) (number : ℕ) (kind : AsmKind) → IsFirstWrong bytes number kind → ((c : Code) → Reads bytes c → ⊥) → line ≡ wrong_line number kind
    → IsRefusedBy loaded_form bytes line
no_text bytes line number kind first unread told = record {
  refuses = IsNoText (record { number = number; kind = kind; first = first; named = told });
  unread = λ code r. unread code r.reads;
}

-- the one code of a text can't be run
pub not_run : (bytes line : List ℕ) (code : Code) (fault : LoadFault) → Reads bytes code → IsOnly bytes code → load_fault code ≡ Some fault → line ≡ load_line fault
    → IsRefusedBy loaded_form bytes line
not_run bytes line code fault reads only first told = record {
  refuses = IsNotRun code reads fault first told;
  unread = λ other r. none-some fault (sym r.loads ∙ ap load_fault (sym (only other r.reads)) ∙ first);
}

pub ruleset reading_facts = (read_as, short_text, no_text)

-- The code of a generated source that is spent is long, where it is the selected one.
use Rattle.std.proofs.Common.{◌≡◌, ◌⊎◌, inl, inr, ℕ, ◌<◌, ◌≤◌, true, List, [], Option, sym, ap, subst, ◌∙◌, arith}
use Rattle.std.specs.Prelude.{is_none}
use Rattle.std.proofs.lemmas.Bool.{cases_lt}
use Rattle.gg_base.specs.declared.run.End.TheVariants.{Ended, Spent}
use Rattle.gg_base.specs.Runs.{Outcome, OneEnd}
use Rattle.cmd_files.specs.Outsides.{Outside}
use Rattle.md_reader.specs.State.{Content}
use Rattle.c_program.specs.Programs.{AProgram}
use Rattle.c_typed.specs.Sources.{Reads}
use Rattle.c_typed_one.specs.Claims.{SourcesHaveOneProgram}
use Rattle.c_lower_scheme.specs.Programs.{lowered}
use Rattle.vax_core.specs.declared.code.Code.{Code}
use Rattle.vax_machine.specs.Running.{run}
use Rattle.vax_machine.proofs.Law.{run_has_one_end}
use Rattle.gg_compile_codes.specs.sel_parse.specs.Shown.{Refusal, is_shown}
use Rattle.gg_compile_codes.specs.sel_parse.proofs.EachShown.{rules_shown, lines_shown}
use Rattle.gg_compile_codes.specs.sel_parse_effect.specs.Claims.{IsFit}
use Rattle.gg_compile_codes.specs.Bounded.{EndsIn}
use Rattle.gg_load.specs.Source.{source_text}
use Rattle.gg_load_program.specs.Program.{source_program}
use Rattle.gg_load_meaning.specs.Run.{source_outcome}
use Rattle.gg_load_bound.specs.Claims.{enough, GeneratedCodesAreBounded}
use Rattle.gg_headline.specs.Bounded.{ChangeNothing}
use Rattle.cmd_load.specs.cmd_check.specs.vax_target_meaning.specs.Vax.{vax}
use Rattle.cmd_load.specs.cmd_check.specs.vax_target_meaning.specs.vax_templates.specs.Found.{found, saved_found}
use Rattle.cmd_load.specs.cmd_compile.specs.gg_compile.specs.Selecting.{SelectedAll}
use Rattle.cmd_load.specs.cmd_compile.specs.Passing.{Passing}
use Rattle.cmd_load.specs.Telling.{greatest_number}
use Rattle.cmd_load.specs.Outcome.{Made, Finds}

ended_spent : Ended 0 ≡ Spent → ⊥
ended_spent e = cc

-- an accepted description is one whose rules are shown
pub is_fit : (name : List ℕ) (at : Outside) (d : Content) → Finds name at d → IsFit vax d
is_fit name at d finds =
    let shown : is_shown found saved_found d ≡ true = ap (λ (o : Option Refusal). is_none o) finds.accepted.shown in
    record { valid = finds.holds.read.reads.valid; rules = rules_shown found saved_found d shown; lines = lines_shown found saved_found d shown }

module _ (reads : (k : ℕ) → k ≤ 1000 → Reads (source_text k) (source_program k)) (one_program : SourcesHaveOneProgram) (bounded : GeneratedCodesAreBounded) where
  module _ (by : Passing) (unchanged : ChangeNothing by) (d : Content) (k : ℕ) (low : k ≤ 1000) (fit : IsFit vax d) (made : Made by d k) where
    abbrev code : Code
    code = made.is_text.is_text.code

    program_is : made.program ≡ source_program k
    program_is = one_program (source_text k) made.program (source_program k) made.reads (reads k low)

    selected : SelectedAll vax d (lowered (source_program k)) code
    selected =
        subst (λ (c : Code). SelectedAll vax d (lowered (source_program k)) c) (sym (unchanged made.is_text.is_text.first code made.is_text.led))
        (subst (λ (p : AProgram). SelectedAll vax d (lowered p) made.is_text.is_text.first) program_is made.is_text.is_text.selected)

    ends : EndsIn (enough code k) (Ended 0) (source_outcome k).output (run code [])
    ends = bounded k d code [] low fit selected tt

    -- with as many instructions as are enough it isn't spent
    not_spent : (m : ℕ) → enough code k ≤ m → (run code [] m).end ≡ Spent → ⊥
    not_spent m le spent =
        let one : OneEnd (run code []) = run_has_one_end code [] in
        let count = one.within (enough code k) in
        let same : run code [] m ≡ run code [] (enough code k) = one.stays m (enough code k) (λ s. ended_spent (sym ends.1 ∙ s)) (omega (arith, count, le)) in
        ended_spent (sym ends.1 ∙ (ap (λ (o : Outcome). o.end) (sym same) ∙ spent))

    pub is_long : (run code [] greatest_number).end ≡ Spent → greatest_number < enough code k
    is_long spent = long_by (cases_lt greatest_number (enough code k))
      where
        long_by : (greatest_number < enough code k) ⊎ (enough code k ≤ greatest_number) → greatest_number < enough code k
        long_by (inl lt) = lt
        long_by (inr le) = absurd (not_spent greatest_number le spent)

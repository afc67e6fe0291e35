-- The code of a text that `compile` wrote is the one that `run` finds in it.
use Rattle.std.proofs.Common.{◌≡◌, ◌⊎◌, ℕ, List, inl, inr, sym, ap, ◌∙◌, subst}
use Rattle.std.proofs.Math.Logic.{∥∥₁_map, ∥∥₁_elim}
use Rattle.gg_base.specs.declared.run.End.{End}
use Rattle.gg_base.specs.declared.run.End.TheVariants as ends
use Rattle.gg_base.specs.Follows.{Says, Asks, Tells, Follows}
use Rattle.gg_base.proofs.Facts.{no_prop, none_or_some}
use Rattle.gg_outside.specs.Outside.{Content as File, Stored, IsThat}
use Rattle.md_reader.specs.State.{Content}
use Rattle.c_program.specs.Programs.{AProgram}
use Rattle.c_sound.specs.Fits.{AreBytes}
use Rattle.c_meaning.specs.Programs.{source}
use Rattle.vax_core.specs.declared.code.Code.{Code}
use Rattle.vax_reader.specs.Grammar.{Reads}
use Rattle.vax_machine.specs.Loading.{load_fault, Loads}
use Rattle.vax_machine.specs.Running.{run}
use Rattle.cmd_session.specs.Reading.{IsUntaken}
use Rattle.cmd_session.specs.declared.status.Status.TheVariants as statuses
use Rattle.cmd_session.specs.Lines.{end_status}
use Rattle.cmd_files.specs.Forms.{Holds, HoldsNone}
use Rattle.cmd_files.specs.Outsides.{FileIsWrong}
use Rattle.cmd_files.specs.Calls.{Call}
use Rattle.cmd_files.specs.Outcome.{RanTo, IsRefusedAs, IsUnable}
use Rattle.cmd_files.specs.Exact.{IsAnswer}
use Rattle.cmd_run.specs.Texts.{text_form, code_runner, fault_line}
use Rattle.cmd_compile.specs.Keeping.{Keeps}
use Rattle.cmd_compile.specs.Texts.{IsTextOf}
use Rattle.gg_headline.specs.Claims.{HoldsText, TextsAreTaken, RunsTell, EndsAt, RunsEnd}

module _ (d : Content) (p : AProgram) (text : List ℕ) (is : IsTextOf d p text) where
  -- what a file of the text is found to hold is its code
  found : (file : File) (c : Code) → file ≡ Stored text → Holds text_form file c → is.code ≡ c
  found file c stored h =
      let same : h.bytes ≡ text = subst (λ (f : File). IsThat f h.bytes) stored h.stored in
      is.read.only c (subst (λ (b : List ℕ). Reads b c) same h.read.reads)

  -- no bytes that are refused
  not_wrong : (file : File) (line : List ℕ) → file ≡ Stored text → HoldsNone text_form file line → ⊥
  not_wrong file line stored h =
      let same : h.bytes ≡ text = subst (λ (f : File). IsThat f h.bytes) stored h.stored in
      h.refused.unread is.code (subst (λ (b : List ℕ). Reads b is.code) (sym same) is.read.reads)

  -- and its code can be run
  not_unable : (call : Call) → HoldsText text call → IsUnable text_form code_runner call → Keeps p is.code → ⊥
  not_unable call stored u k =
      let same : is.code ≡ u.item = found _ u.item stored u.finds.holds in
      none_or_some (fault_line (load_fault u.item)) u.line (ap fault_line (subst Loads same k.loads)) u.fault

  taken : (call : Call) → HoldsText text call → IsRefusedAs text_form code_runner statuses.AsmRefused call → ⊥
  taken call stored r = by r.why
    where
      by : (IsUntaken call.input × FileIsWrong text_form call.at call.name) ⊎ IsUnable text_form code_runner call → ⊥
      by (inl w) = not_wrong _ w.1.line stored w.1.wrong
      by (inr u) = ∥∥₁_elim is.keeps no_prop (not_unable call stored u)

  tells : (call : Call) (end : End) → HoldsText text call → (ran : RanTo text_form code_runner call end) → AreBytes ran.bytes → Keeps p is.code
      → Tells end (code_runner.run ran.item ran.bytes call.count).output (source p ran.bytes)
  tells call end stored ran bytes k =
      let same : is.code ≡ ran.item = found _ ran.item stored ran.starts.finds.holds in
      let follows : Follows (source p ran.bytes) (run ran.item ran.bytes) =
      subst (λ (c : Code). Follows (source p ran.bytes) (run c ran.bytes)) same (k.follows ran.bytes bytes) in
      subst (λ (e : End). Tells e (run ran.item ran.bytes call.count).output (source p ran.bytes)) ran.ends (follows.backward call.count)

  ends_at : (bytes : List ℕ) (n value : ℕ) → AreBytes bytes → (source p bytes n).end ≡ ends.Ended value → Keeps p is.code
      → (count : ℕ) × EndsAt text bytes count
  ends_at bytes n value ok e k =
      let says : Says (run is.code bytes) (source p bytes n).output (ends.Ended value) =
      subst (λ (x : End). Asks x (source p bytes n).output (run is.code bytes)) e ((k.follows bytes ok).forward n) in (
        says.0,
        λ result call count stored within left answers.
            subst (λ (x : End). IsAnswer (end_status x) result) (ap (λ (m : ℕ). (run is.code bytes m).end) count ∙ says.2)
            (answers.ends is.code bytes (record { bytes = text; stored = stored; within = within; reads = is.read.reads }) left (ap fault_line k.loads)),
      )

pub texts_are_taken : TextsAreTaken
texts_are_taken d p text call is stored r = taken d p text is call stored r

pub runs_tell : RunsTell
runs_tell d p text call end is stored ran bytes = ∥∥₁_map is.keeps (tells d p text is call end stored ran bytes)

pub runs_end : RunsEnd
runs_end d p text bytes n value is ok e = ∥∥₁_map is.keeps (ends_at d p text is bytes n value ok e)

-- The code of a text that no pass changed ends within its bound, and so does `run` of the text.
use Rattle.std.proofs.Common.{◌≡◌, ◌⊎◌, ℕ, ◌<◌, ◌≤◌, true, List, [], ◌∷◌, Option, Some, inl, inr, sym, ap, ◌∙◌, subst, arith}
use Rattle.std.specs.Prelude.{is_none}
use Rattle.std.proofs.Math.Logic.{∥∥₁_prop, ∥∥₁_map, ∥∥₁_elim}
use Rattle.std.proofs.lemmas.Bool.{cases_lt}
use Rattle.gg_base.specs.declared.run.End.{End}
use Rattle.gg_base.specs.declared.run.End.TheVariants as ends
use Rattle.gg_base.specs.Runs.{Outcome, OneEnd}
use Rattle.c_program.specs.Programs.{AProgram}
use Rattle.c_typed_words.proofs.Tokens.{unit_has_tokens}
use Rattle.gg_compile_codes.specs.c_typed_check.specs.Typed.{IsTypedUnit}
use Rattle.c_meaning.specs.Programs.{source}
use Rattle.c_lower_counts.specs.Zeros.{with_zeros}
use Rattle.md_reader.specs.State.{Content}
use Rattle.gg_compile_codes.specs.sel_parse.specs.Shown.{Refusal, is_shown}
use Rattle.gg_compile_codes.specs.sel_parse.proofs.EachShown.{rules_shown, lines_shown}
use Rattle.gg_compile_codes.specs.sel_parse_effect.specs.Claims.{IsFit}
use Rattle.vax_core.specs.declared.code.Code.{Code}
use Rattle.vax_templates.specs.Found.{found, saved_found}
use Rattle.vax_target_meaning.specs.Vax.{vax}
use Rattle.vax_machine.specs.Running.{run}
use Rattle.vax_machine.proofs.Law.{run_has_one_end}
use Rattle.vax_bound.specs.Bound.{bound}
use Rattle.gg_compile_codes.specs.Bounded.{EndsIn}
use Rattle.gg_compile_codes.proofs.Bounded.{typed_codes_are_bounded}
use Rattle.cmd_session.specs.declared.status.Status.{Status}
use Rattle.cmd_session.specs.declared.status.Status.TheVariants as statuses
use Rattle.cmd_session.specs.Lines.{end_status}
use Rattle.cmd_session.specs.Reading.{LosesAll}
use Rattle.cmd_files.specs.Outsides.{Outside}
use Rattle.cmd_files.specs.Calls.{Call, AreBytes}
use Rattle.cmd_files.specs.Outcome.{Halted}
use Rattle.cmd_files.specs.Exact.{IsItem, IsAnswer}
use Rattle.cmd_run.specs.Texts.{text_form, code_runner, fault_line}
use Rattle.cmd_compile.specs.Keeping.{Keeps}
use Rattle.cmd_compile.specs.Texts.{IsTextOf}
use Rattle.cmd_compile.specs.Passing.{Passing}
use Rattle.cmd_compile.specs.Outcome.{Files, IsCompiled}
use Rattle.gg_headline.specs.Running.{IsRunOf, Comes, IsSpentBefore, EndsFrom}
use Rattle.gg_headline.proofs.Running.{ended_texts_end, trapping_texts_trap}
use Rattle.gg_headline.specs.Bounded.{EndsWithin, IsPlain, EndedTextsEndWithin, TrappingTextsTrapWithin, NoPassesChangeNothing}

spent_done : statuses.Spent ≡ statuses.Done → ⊥
spent_done e = absurd (cc)

spent_trapped : statuses.Spent ≡ statuses.Trapped → ⊥
spent_trapped e = absurd (cc)

all_is : (old new : Option (List ℕ)) (bytes given : List ℕ) → old ≡ Some bytes → LosesAll old new given → given ≡ bytes
all_is old new bytes given e h = (let t : LosesAll (Some bytes) new given = subst (λ (x : Option (List ℕ)). LosesAll x new given) e h in t.0)

-- ---- a run of a text, where its code ends within some number of steps

module _ (d : Content) (p : AProgram) (text : List ℕ) (is : IsTextOf d p text) (bytes : List ℕ) (k : Keeps p is.code) where
  -- a call that was spent took its input, which is of bytes
  took_bytes : (call : Call) → IsRunOf text bytes statuses.Spent call → AreBytes bytes
  took_bytes call of =
      let h : Halted text_form code_runner call ends.Spent = of.leaves in
      let input = h.ran.starts.input in
      subst AreBytes (all_is call.input.old call.input.new bytes h.ran.bytes of.left.left input.all) input.are_bytes

  item : (call : Call) → IsRunOf text bytes statuses.Spent call → IsItem text_form (call.at.folder.holds call.name) is.code
  item call of = record { bytes = text; stored = of.stored; within = of.within; reads = is.read.reads }

  module _ (end : End) (other : statuses.Spent ≡ end_status end → ⊥) where
    -- and the code's run has not come to another end then
    still_runs : (call : Call) → IsRunOf text bytes statuses.Spent call → (run is.code bytes call.count).end ≡ end → ⊥
    still_runs call of e =
        by (subst (λ (x : End). IsAnswer (end_status x) statuses.Spent) e
        ((of.exact of.no_fault of.unbroken).ends is.code bytes (item call of) of.left (ap fault_line k.loads)))
      where
        by : IsAnswer (end_status end) statuses.Spent → ⊥
        by (inl is_status) = other is_status
        by (inr no_memory) = absurd (cc)

    module _ (output : List ℕ) (most : ℕ) (ended : AreBytes bytes → (m : ℕ) → most ≤ m → (run is.code bytes m).end ≡ end) where
      -- so a call with as many steps wasn't spent
      never_spent : (front : List ℕ) (result : Status) (call : Call) → IsRunOf text bytes result call → most ≤ call.count
          → Comes front ends.Spent result call → Comes output end result call
      never_spent front result call of enough (inr no_memory) = inr no_memory
      never_spent front result call of enough (inl c) =
          let spent : IsRunOf text bytes statuses.Spent call = subst (λ (s : Status). IsRunOf text bytes s call) c.status of in
          absurd (still_runs call spent (ended (took_bytes call spent) call.count enough))

      within : (least : ℕ) → EndsFrom text bytes output end least → EndsWithin text bytes output end most
      within least h = by (cases_lt most least)
        where
          enough : (result : Status) (call : Call) → IsRunOf text bytes result call → most ≤ call.count
              → (call.count < least) ⊎ (least ≤ call.count) → Comes output end result call
          enough result call of le (inr more) = h.enough result call of more
          enough result call of le (inl fewer) =
              let spent : IsSpentBefore output result call = h.few result call of fewer in
              never_spent spent.front result call of le spent.comes

          by : (most < least) ⊎ (least ≤ most) → EndsWithin text bytes output end most
          by (inr le) = record { least = least; within = le; from = h }
          by (inl lt) = record {
            least = most;
            within = omega arith;
            from = record {
              enough = λ result call of le. enough result call of le (cases_lt call.count least);
              few = λ result call of fewer. h.few result call of (omega arith);
            };
          }

-- ---- a text that `compile` wrote, whose code no pass changed

module _ (by : Passing) (names : Files) (at : Outside) (compiled : IsCompiled by names at) (plain : IsPlain by names at compiled) where
  abbrev of_description : Content
  of_description = compiled.description

  abbrev of_program : AProgram
  of_program = compiled.program

  abbrev text_is : IsTextOf compiled.description compiled.program compiled.text
  text_is = compiled.is_text.is_text

  typed : IsTypedUnit of_program
  typed =
      let h = compiled.finds.holds in
      let reads = h.read.reads in
      record {
        unit = reads.unit;
        ends = reads.ends;
        tokens = unit_has_tokens h.bytes reads.spells.list reads.unit plain.are_bytes h.within reads.spells.tokens reads.spells.phrases;
        typed = reads.typed;
      }

  fit : IsFit vax of_description
  fit =
      let finds = compiled.finds.description in
      let shown : is_shown found saved_found of_description ≡ true = ap (λ (o : Option Refusal). is_none o) finds.accepted.shown in
      record {
        valid = finds.holds.read.reads.valid;
        rules = rules_shown found saved_found of_description shown;
        lines = lines_shown found saved_found of_description shown;
      }

  -- the code is the selected one
  bounded : (bytes : List ℕ) → AreBytes bytes → (n : ℕ)
      → EndsIn (bound text_is.code (with_zeros of_program n)) (source of_program bytes n).end (source of_program bytes n).output (run text_is.code bytes)
  bounded bytes are n =
      let same : text_is.code ≡ text_is.first = plain.unchanged text_is.first text_is.code compiled.is_text.led in
      subst (λ (c : Code). EndsIn (bound c (with_zeros of_program n)) (source of_program bytes n).end (source of_program bytes n).output (run c bytes)) (sym same)
      (typed_codes_are_bounded of_program of_description text_is.first typed text_is.fit fit text_is.selected bytes are n)

  -- an end within the bound stays
  stays : (bytes : List ℕ) (end : End) (n m : ℕ) → (end ≡ ends.Spent → ⊥) → (run text_is.code bytes (bound text_is.code n)).end ≡ end
      → bound text_is.code n ≤ m → (run text_is.code bytes m).end ≡ end
  stays bytes end n m over e le =
      let one : OneEnd (run text_is.code bytes) = run_has_one_end text_is.code bytes in
      let within = one.within (bound text_is.code n) in
      ap (λ (o : Outcome). o.end) (one.stays m (bound text_is.code n) (λ s. over (sym e ∙ s)) (omega (arith, within, le))) ∙ e

  ended : (bytes : List ℕ) (n value : ℕ) → (source of_program bytes n).end ≡ ends.Ended value → AreBytes bytes → (m : ℕ) → bound text_is.code (with_zeros of_program n) ≤ m
      → (run text_is.code bytes m).end ≡ ends.Ended value
  ended bytes n value e are m le =
      let says : EndsIn (bound text_is.code (with_zeros of_program n)) (ends.Ended value) (source of_program bytes n).output (run text_is.code bytes) =
      subst (λ (x : End). EndsIn (bound text_is.code (with_zeros of_program n)) x (source of_program bytes n).output (run text_is.code bytes)) e (bounded bytes are n) in
      stays bytes (ends.Ended value) (with_zeros of_program n) m (λ s. absurd (cc)) says.1 le

  trapped : (bytes : List ℕ) (n : ℕ) → (source of_program bytes n).end ≡ ends.Trapped → AreBytes bytes → (m : ℕ) → bound text_is.code (with_zeros of_program n) ≤ m
      → (run text_is.code bytes m).end ≡ ends.Trapped
  trapped bytes n e are m le =
      let says : EndsIn (bound text_is.code (with_zeros of_program n)) ends.Trapped (source of_program bytes n).output (run text_is.code bytes) =
      subst (λ (x : End). EndsIn (bound text_is.code (with_zeros of_program n)) x (source of_program bytes n).output (run text_is.code bytes)) e (bounded bytes are n) in
      stays bytes ends.Trapped (with_zeros of_program n) m (λ s. absurd (cc)) says.1 le

pub ended_texts_end_within : (by : Passing) → EndedTextsEndWithin by
ended_texts_end_within by names at compiled plain bytes n value e =
    let is = compiled.is_text.is_text in
    ∥∥₁_elim is.keeps ∥∥₁_prop (λ k.
    ∥∥₁_map (ended_texts_end compiled.description compiled.program compiled.text bytes n value is e) (λ h.
    within compiled.description compiled.program compiled.text is bytes k (ends.Ended value) spent_done
    (source compiled.program bytes n).output (bound is.code (with_zeros compiled.program n)) (ended by names at compiled plain bytes n value e) h.0 h.1))

pub trapping_texts_trap_within : (by : Passing) → TrappingTextsTrapWithin by
trapping_texts_trap_within by names at compiled plain bytes n e =
    let is = compiled.is_text.is_text in
    ∥∥₁_elim is.keeps ∥∥₁_prop (λ k.
    ∥∥₁_map (trapping_texts_trap compiled.description compiled.program compiled.text bytes n is e) (λ h.
    within compiled.description compiled.program compiled.text is bytes k ends.Trapped spent_trapped
    (source compiled.program bytes n).output (bound is.code (with_zeros compiled.program n)) (trapped by names at compiled plain bytes n e) h.0 h.1))

module _ {P : Type 0} (wrote : P → ℕ → Code → Code → Type 0) (made : P → ℕ) where
  pub no_passes_change_nothing : (before behind : List P) → NoPassesChangeNothing wrote made before behind
  no_passes_change_nothing [] [] e c d h = h
  no_passes_change_nothing [] (q ∷ qs) e c d h = absurd h
  no_passes_change_nothing (p ∷ ps) behind e c d h = absurd (cc)

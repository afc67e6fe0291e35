-- What was told of both sides is what they do.
use Rattle.std.proofs.Common.{◌≡◌, ◌≤◌, ◌+◌, ℕ, List, [], length, Option, Some, None, refl, sym, ap, subst, ◌∙◌, arith}
use Rattle.std.proofs.Math.Logic.{∥∥₁_map, ∥∥₁_elim}
use Rattle.gg_base.specs.declared.run.End.{End}
use Rattle.gg_base.specs.declared.run.End.TheVariants.{Ended, Trapped, Wild, Deep, Spent, Broken}
use Rattle.gg_base.specs.Runs.{Outcome, OneEnd}
use Rattle.gg_base.proofs.Facts.{no_prop}
use Rattle.cmd_session.specs.declared.status.Status.{Status}
use Rattle.cmd_session.specs.Writing.{Change, TakesAll}
use Rattle.cmd_files.specs.Stages.{OutputRefused}
use Rattle.md_reader.specs.State.{Content}
use Rattle.c_program.specs.Programs.{AProgram}
use Rattle.c_typed.specs.Sources.{Reads}
use Rattle.c_meaning.specs.Programs.{source}
use Rattle.vax_machine.specs.declared.loading.LoadFault.{LoadFault}
use Rattle.vax_machine.specs.Loading.{load_fault}
use Rattle.vax_machine.specs.Running.{run}
use Rattle.gg_load.specs.Source.{source_text}
use Rattle.gg_load_meaning.specs.Run.{ComesTo, source_outcome}
use Rattle.cmd_compile.specs.Passing.{Passing}
use Rattle.cmd_compile.specs.Texts.{IsTextOf, IsTextBy}
use Rattle.cmd_load_runs.specs.Tallies.{IsRunnable}
use Rattle.cmd_load_runs.specs.Sides.{EndsAt, HasEndedLike, EndsLike}
use Rattle.cmd_load.specs.declared.sides.Sizes.{Sizes}
use Rattle.cmd_load.specs.Telling.{greatest_number, summary_of, SidesTold, Unwritten, Written, OneSpent, BothValues}
use Rattle.cmd_load.specs.Outcome.{Made, Loads as Outcomes, NotWritten, IsSpent, BothEnded}

no_fault : (fault : Option LoadFault) → ∥ fault ≡ None ∥₁ → fault ≡ None
no_fault None h = refl
no_fault (Some f) h = absurd (∥∥₁_elim h no_prop (λ e. let none : Some f ≡ None = e in cc))

-- the text of a code that keeps a program can be run
pub runnable : (d : Content) (p : AProgram) (text : List ℕ) → IsTextOf d p text → IsRunnable text
runnable d p text h = record { code = h.code; reads = h.read.reads; loads = no_fault (load_fault h.code) (∥∥₁_map h.keeps (λ k. k.loads)) }

-- the source's run counts fewer
pub few_enough : (number k : ℕ) → number ≤ k + 8 → k ≤ 1000 → number ≤ greatest_number
unfolding greatest_number
few_enough number k few low = omega (arith, few, low)

only_spent : (e : End) (v : ℕ) → ((e ≡ Spent → ⊥) → e ≡ Ended v) → ((w : ℕ) → e ≡ Ended w → ⊥) → e ≡ Spent
only_spent (Ended s) v ends never = absurd (never s refl)
only_spent Spent v ends never = refl
only_spent _ v ends never = absurd (never v (ends (λ e. cc)))

module _ (by : Passing) (d : Content) (k : ℕ) (p : AProgram) (text : List ℕ) (reads : Reads (source_text k) p) (is_text : IsTextBy by d p text)
    (comes : ComesTo (source p []) (source_outcome k)) (few : (source_outcome k).number ≤ greatest_number)
    (one : OneEnd (run is_text.is_text.code [])) (like : EndsLike (run is_text.is_text.code []) (source_outcome k) 0) where
  abbrev o : Outcome
  o = source_outcome k

  abbrev whole : Outcome
  whole = run is_text.is_text.code [] greatest_number

  abbrev sizes : Sizes
  sizes = record { functions = k; source = length (source_text k); text = length text }

  abbrev made : Made by d k
  made = record { program = p; reads = reads; text = text; is_text = is_text }

  source_ends : EndsAt (source p []) o.number o.output 0
  source_ends = record { ends = comes.reaches o.number (omega arith); least = comes.before }

  module _ (turns steps : Outcome) (turns_are : turns ≡ source p [] greatest_number) (steps_are : steps ≡ whole) where
    turns_is : turns ≡ o
    turns_is = turns_are ∙ comes.reaches greatest_number few

    spent : ((v w : ℕ) → turns.end ≡ Ended v → steps.end ≡ Ended w → ⊥) → whole.end ≡ Spent
    spent unended =
        only_spent whole.end 0 (λ u. ap (λ (x : Outcome). x.end) (like greatest_number u).is)
        (λ w e. unended 0 w (ap (λ (x : Outcome). x.end) turns_is) (ap (λ (x : Outcome). x.end) steps_are ∙ e))

    pub told_so : (result : Status) (out report : Change) → SidesTold sizes turns steps result out report → Outcomes by d k result out report
    told_so result out report (Unwritten refused) = NotWritten made (subst (λ (x : Outcome). OutputRefused x.output result out report) steps_are refused)
    told_so result out report (Written written (OneSpent unended told)) =
        IsSpent made (spent unended) (subst (λ (x : Outcome). TakesAll out x.output) steps_are written) told
    told_so result out report (Written written (BothValues other value turns_end steps_end told)) =
        let end_is : whole.end ≡ Ended value = sym (ap (λ (x : Outcome). x.end) steps_are) ∙ steps_end in
        let unspent : whole.end ≡ Spent → ⊥ = λ e. let f : Ended value ≡ Spent = sym end_is ∙ e in cc in
        let h : HasEndedLike (run is_text.is_text.code []) o 0 greatest_number = like greatest_number unspent in
        let zero_is : Ended 0 ≡ Ended value = sym (ap (λ (x : Outcome). x.end) h.is) ∙ end_is in
        let value_is : 0 ≡ value = cc in
        let output_is : steps.output ≡ o.output = ap (λ (x : Outcome). x.output) steps_are ∙ ap (λ (x : Outcome). x.output) h.is in
        let turns_number : turns.number ≡ o.number = ap (λ (x : Outcome). x.number) turns_is in
        let steps_number : steps.number ≡ whole.number = ap (λ (x : Outcome). x.number) steps_are in
        let within : whole.number ≤ greatest_number = one.within greatest_number in
        BothEnded made o.output (summary_of sizes turns steps value)
        (record {
          turns =
              subst (λ (v : ℕ). EndsAt (source p []) turns.number o.output v) value_is
              (subst (λ (n : ℕ). EndsAt (source p []) n o.output 0) (sym turns_number) source_ends);
          instructions =
              subst (λ (v : ℕ). EndsAt (run is_text.is_text.code []) steps.number o.output v) value_is
              (subst (λ (n : ℕ). EndsAt (run is_text.is_text.code []) n o.output 0) (sym steps_number) h.at);
          turns_within = omega (arith, turns_number, few);
          instructions_within = omega (arith, steps_number, within);
          functions_are = refl;
          source_is = refl;
          text_is = refl;
          output_is = ap length output_is;
        })
        (subst (λ (x : List ℕ). TakesAll out x) output_is written)
        told

-- What a check of a description must answer, where the folder tells what it holds and no fault is counted.
use Rattle.std.specs.Prelude.{◌≡◌, ◌⊎◌, ℕ, List, Some}
use Rattle.gg_outside.specs.Outside.{Content as File}
use Rattle.cmd_session.specs.declared.status.Status.{Status}
use Rattle.cmd_session.specs.declared.status.Status.TheVariants as statuses
use Rattle.cmd_files.specs.Outsides.{Outside, HasNoFault}
use Rattle.cmd_files.specs.Exact.{IsLongFile, IsNoItem, IsItem, IsAnswer}
use Rattle.md_reader.specs.State.{Content}
use Rattle.lr_tables.specs.Promises.{HasTooManySets}
use Rattle.lr_checked.specs.Accepted.{NeverStops}
use Rattle.lr_checked.specs.Counted.{HasTooManySums}
use Rattle.sel_parse.specs.Shown.{Refusal}
use Rattle.cmd_descriptions.specs.Machines.{Machine}
use Rattle.cmd_descriptions.specs.Descriptions.{description_limit, description_form_for, IsAcceptedFor}
use Rattle.cmd_descriptions.specs.Rules.{refusal_on, refusal_status}

-- some typed statement blocks, or one loops
abbrev pub IsStop : Status → Type 0
IsStop result = IsAnswer statuses.Blocks result ⊎ (result ≡ statuses.Loops)

module _ (m : Machine) where
  -- each status that refuses a description, where its cause is there
  pub record RefusesFor (result : Status) (file : File) : Type 0 where
    pub long : IsLongFile description_limit file → IsAnswer statuses.TooLong result
    pub wrong : IsNoItem (description_form_for m.word) file → IsAnswer statuses.DescRefused result
    pub full : (d : Content) → IsItem (description_form_for m.word) file d → HasTooManySets d → IsAnswer statuses.Full result
    pub many_sums : (d : Content) → IsItem (description_form_for m.word) file d → ¬ HasTooManySets d → HasTooManySums d
        → IsAnswer statuses.Full result
    pub stops : (d : Content) → IsItem (description_form_for m.word) file d → ¬ HasTooManySets d → ¬ HasTooManySums d → ¬ NeverStops d
        → IsStop result
    pub unshown : (d : Content) (r : Refusal) → IsItem (description_form_for m.word) file d → ¬ HasTooManySets d → ¬ HasTooManySums d
        → NeverStops d → refusal_on m d ≡ Some r → IsAnswer (refusal_status r) result

  -- each status where its cause is there
  pub record AnswersFor (result : Status) (name : List ℕ) (at : Outside) : Type 0 where
    pub refuses : RefusesFor result (at.folder.holds name)
    pub done : (d : Content) → IsItem (description_form_for m.word) (at.folder.holds name) d → IsAcceptedFor m d
        → IsAnswer statuses.Done result

  abbrev pub IsExactFor : Status → List ℕ → Outside → Type 0
  IsExactFor result name at = HasNoFault name at → AnswersFor result name at

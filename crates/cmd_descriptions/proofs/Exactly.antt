-- Each status comes where its cause is there.
use Rattle.std.proofs.Common.{◌≡◌, ◌∙◌, ◌⊎◌, ℕ, List, Option, Some, None, inl, inr, refl, sym, ap, subst}
use Rattle.gg_base.proofs.Facts.{none_or_some}
use Rattle.gg_outside.specs.Outside.{Content as File, IsLonger}
use Rattle.cmd_session.specs.declared.status.Status.{Status}
use Rattle.cmd_session.specs.declared.status.Status.TheVariants as statuses
use Rattle.cmd_session.specs.Writing.{Change}
use Rattle.cmd_session.specs.Telling.{IsRefused}
use Rattle.cmd_files.specs.Forms.{Holds, HoldsNone}
use Rattle.cmd_files.specs.Outsides.{Lookup, Outside, Fails, HasNoFault}
use Rattle.cmd_files.specs.Stages.{FileRefused, Unread, LongFile, WrongFile, StarvedFile}
use Rattle.cmd_files.specs.Exact.{IsLongFile, IsNoItem, IsItem, IsAnswer}
use Rattle.cmd_files.proofs.Exactly.{long_no_item, long_not_wrong, item_not_long, none_not_long, none_no_item, item_not_wrong, same_item}
use Rattle.md_reader.specs.State.{Content}
use Rattle.lr_tables.specs.View.{TableView}
use Rattle.lr_tables.specs.Promises.{HasTooManySets}
use Rattle.lr_checked.specs.declared.checking.CheckFault.{CheckFault}
use Rattle.lr_checked.specs.declared.checking.CheckFault.TheVariants as check_fault
use Rattle.lr_checked.specs.Accepted.{NeverStops}
use Rattle.lr_checked.specs.Counted.{HasTooManySums}
use Rattle.lr_checked.specs.Refusals.{FaultIsReal, SumsAreFirst}
use Rattle.lr_checked.proofs.Refusing.{is_stopped, none_stops}
use Rattle.sel_parse.specs.Shown.{Refusal}
use Rattle.cmd_descriptions.specs.Machines.{Machine}
use Rattle.cmd_descriptions.specs.Descriptions.{description_limit, description_form_for, IsAcceptedFor, BuildRefused, TooMany, StarvedBuild, NotRead, NotBuilt, NotAcceptedFor}
use Rattle.cmd_descriptions.specs.Descriptions.{NoTables, Stopped, NoRules}
use Rattle.cmd_descriptions.specs.Rules.{refusal_on, refusal_status, RulesRefusedBy, NotShown, StarvedShow}
use Rattle.cmd_descriptions.specs.Stops.{stop_status, TellsStop}
use Rattle.cmd_descriptions.specs.Outcome.{Builds, LeavesFor}
use Rattle.cmd_descriptions.specs.Exact.{IsStop, RefusesFor, AnswersFor}

-- how a description can be refused without a counted fault
pub data OfDescriptionFor (m : Machine) (result : Status) (file : File) : Type 0 where
  Long : (is : result ≡ statuses.TooLong) (longer : IsLonger file description_limit) → OfDescriptionFor m result file
  Wrong : (is : result ≡ statuses.DescRefused) (line : List ℕ) (wrong : HoldsNone (description_form_for m.word) file line) → OfDescriptionFor m result file
  Full : (is : result ≡ statuses.Full) (d : Content) (holds : Holds (description_form_for m.word) file d) (many : HasTooManySets d) → OfDescriptionFor m result file
  Stops : (d : Content) (fault : CheckFault) (is : result ≡ stop_status fault) (holds : Holds (description_form_for m.word) file d) (few : ¬ HasTooManySets d)
      (real : FaultIsReal d fault) (sums : SumsAreFirst d fault) → OfDescriptionFor m result file
  Unshown : (d : Content) (r : Refusal) (is : result ≡ refusal_status r) (holds : Holds (description_form_for m.word) file d) (few : ¬ HasTooManySets d)
      (sums : ¬ HasTooManySums d) (never : NeverStops d) (first : refusal_on m d ≡ Some r) → OfDescriptionFor m result file

-- what reading a description may come to without a counted fault
pub data ComesFor (m : Machine) (result : Status) (file : File) : Type 0 where
  Memory : (is : result ≡ statuses.NoMemory) → ComesFor m result file
  Refused : (of : OfDescriptionFor m result file) → ComesFor m result file
  Accepted : (d : Content) (holds : Holds (description_form_for m.word) file d) (accepted : IsAcceptedFor m d) → ComesFor m result file

-- memory ran out, or the description was refused
abbrev pub IsNotFor : Machine → Status → File → Type 0
IsNotFor m result file = (result ≡ statuses.NoMemory) ⊎ OfDescriptionFor m result file

-- ---- from what was told

module _ (m : Machine) (result : Status) (name : List ℕ) (folder : Lookup) (report : Change) where
  told : (status : Status) (line : List ℕ) → IsRefused status line result report → (result ≡ status → OfDescriptionFor m result (folder.holds name))
      → IsNotFor m result (folder.holds name)
  told status line (inl is) go = inr (go is.0)
  told status line (inr starved) go = inl starved.0

  of_file : (Fails name folder → ⊥) → FileRefused (description_form_for m.word) name folder result report → IsNotFor m result (folder.holds name)
  of_file unfailed (Unread is noted line) = absurd (unfailed noted)
  of_file unfailed (LongFile is longer kept line) = inr (Long is longer)
  of_file unfailed (WrongFile is line wrong kept said) = inr (Wrong is line wrong)
  of_file unfailed (StarvedFile starved once) = inl starved.0

  of_tables : (d : Content) → Holds (description_form_for m.word) (folder.holds name) d → BuildRefused d result report → IsNotFor m result (folder.holds name)
  of_tables d holds (TooMany is many line) = inr (Full is d holds many)
  of_tables d holds (StarvedBuild starved) = inl starved.0

  of_fault : (d : Content) → Holds (description_form_for m.word) (folder.holds name) d → ¬ HasTooManySets d → (fault : CheckFault) → FaultIsReal d fault
      → SumsAreFirst d fault → TellsStop fault result report → IsNotFor m result (folder.holds name)
  of_fault d holds few check_fault.NoMemory real sums starved = inl starved.0
  of_fault d holds few (check_fault.Blocks nodes) real sums said = told _ _ said (λ is. Stops d (check_fault.Blocks nodes) is holds few real sums)
  of_fault d holds few (check_fault.Loops nodes) real sums said = told _ _ said (λ is. Stops d (check_fault.Loops nodes) is holds few real sums)
  of_fault d holds few check_fault.CheckFull real sums said = told _ _ said (λ is. Stops d check_fault.CheckFull is holds few real sums)

  of_rules : (d : Content) → Holds (description_form_for m.word) (folder.holds name) d → ¬ HasTooManySets d → ¬ HasTooManySums d → NeverStops d → RulesRefusedBy (refusal_on m d) result report
      → IsNotFor m result (folder.holds name)
  of_rules d holds few sums never (NotShown r first said) = told _ _ said (λ is. Unshown d r is holds few sums never first)
  of_rules d holds few sums never (StarvedShow starved) = inl starved.0

  pub of_description : (Fails name folder → ⊥) → NotAcceptedFor m name folder result report → IsNotFor m result (folder.holds name)
  of_description unfailed (NoTables (NotRead r)) = of_file unfailed r
  of_description unfailed (NoTables (NotBuilt d holds kept r)) = of_tables d holds r
  of_description unfailed (Stopped d holds kept few r) = of_fault d holds few r.fault r.real r.sums r.told
  of_description unfailed (NoRules d holds kept few sums never r) = of_rules d holds few sums never r

-- ---- each refusal

module _ (m : Machine) (result : Status) (file : File) where
  -- what holds of the description that is told holds of the one that was read
  read : (P : Content → Type 0) (d e : Content) → IsItem (description_form_for m.word) file d → Holds (description_form_for m.word) file e → P d → P e
  read P d e h holds x = subst P (sym (same_item (description_form_for m.word) file d e h holds)) x

  other : {A : Type 0} (o : Option A) (a b : A) → o ≡ Some a → o ≡ Some b → a ≡ b
  other o a b e f = cc

  long : IsLongFile description_limit file → ComesFor m result file → IsAnswer statuses.TooLong result
  long h (Memory is) = inr is
  long h (Refused (Long is longer)) = inl is
  long h (Refused (Wrong is line wrong)) = absurd (long_not_wrong (description_form_for m.word) file line h wrong)
  long h (Refused (Full is d holds many)) = absurd (long_no_item (description_form_for m.word) file d h holds)
  long h (Refused (Stops d fault is holds few real sums)) = absurd (long_no_item (description_form_for m.word) file d h holds)
  long h (Refused (Unshown d r is holds few sums never first)) = absurd (long_no_item (description_form_for m.word) file d h holds)
  long h (Accepted d holds accepted) = absurd (long_no_item (description_form_for m.word) file d h holds)

  wrong_file : IsNoItem (description_form_for m.word) file → ComesFor m result file → IsAnswer statuses.DescRefused result
  wrong_file h (Memory is) = inr is
  wrong_file h (Refused (Long is longer)) = absurd (none_not_long (description_form_for m.word) file h longer)
  wrong_file h (Refused (Wrong is line wrong)) = inl is
  wrong_file h (Refused (Full is d holds many)) = absurd (none_no_item (description_form_for m.word) file d h holds)
  wrong_file h (Refused (Stops d fault is holds few real sums)) = absurd (none_no_item (description_form_for m.word) file d h holds)
  wrong_file h (Refused (Unshown d r is holds few sums never first)) = absurd (none_no_item (description_form_for m.word) file d h holds)
  wrong_file h (Accepted d holds accepted) = absurd (none_no_item (description_form_for m.word) file d h holds)

  full : (d : Content) → IsItem (description_form_for m.word) file d → HasTooManySets d → ComesFor m result file → IsAnswer statuses.Full result
  full d h many (Memory is) = inr is
  full d h many (Refused (Long is longer)) = absurd (item_not_long (description_form_for m.word) file d h longer)
  full d h many (Refused (Wrong is line wrong)) = absurd (item_not_wrong (description_form_for m.word) file d line h wrong)
  full d h many (Refused (Full is e holds more)) = inl is
  full d h many (Refused (Stops e fault is holds few real sums)) = absurd (few (read HasTooManySets d e h holds many))
  full d h many (Refused (Unshown e r is holds few sums never first)) = absurd (few (read HasTooManySets d e h holds many))
  full d h many (Accepted e holds accepted) = absurd (accepted.few (read HasTooManySets d e h holds many))

  full_of : (d : Content) (fault : CheckFault) → HasTooManySums d → SumsAreFirst d fault → result ≡ stop_status fault → IsAnswer statuses.Full result
  full_of d check_fault.NoMemory many sums is = inr is
  full_of d (check_fault.Blocks nodes) many sums is = absurd (sums many)
  full_of d (check_fault.Loops nodes) many sums is = absurd (sums many)
  full_of d check_fault.CheckFull many sums is = inl is

  many_sums : (d : Content) → IsItem (description_form_for m.word) file d → HasTooManySums d → ComesFor m result file → IsAnswer statuses.Full result
  many_sums d h many (Memory is) = inr is
  many_sums d h many (Refused (Long is longer)) = absurd (item_not_long (description_form_for m.word) file d h longer)
  many_sums d h many (Refused (Wrong is line wrong)) = absurd (item_not_wrong (description_form_for m.word) file d line h wrong)
  many_sums d h many (Refused (Full is e holds more)) = inl is
  many_sums d h many (Refused (Stops e fault is holds few real sums)) = full_of e fault (read HasTooManySums d e h holds many) sums is
  many_sums d h many (Refused (Unshown e r is holds few sums never first)) = absurd (sums (read HasTooManySums d e h holds many))
  many_sums d h many (Accepted e holds accepted) = absurd (accepted.sums (read HasTooManySums d e h holds many))

  stop_of : (d : Content) (fault : CheckFault) → ¬ HasTooManySums d → SumsAreFirst d fault → result ≡ stop_status fault → IsStop result
  stop_of d check_fault.NoMemory few sums is = inl (inr is)
  stop_of d (check_fault.Blocks nodes) few sums is = inl (inl is)
  stop_of d (check_fault.Loops nodes) few sums is = inr is
  stop_of d check_fault.CheckFull few sums is = absurd (few sums)

  stops : (d : Content) → IsItem (description_form_for m.word) file d → ¬ HasTooManySets d → ¬ HasTooManySums d → ¬ NeverStops d → ComesFor m result file → IsStop result
  stops d h few no_more not (Memory is) = inl (inr is)
  stops d h few no_more not (Refused (Long is longer)) = absurd (item_not_long (description_form_for m.word) file d h longer)
  stops d h few no_more not (Refused (Wrong is line wrong)) = absurd (item_not_wrong (description_form_for m.word) file d line h wrong)
  stops d h few no_more not (Refused (Full is e holds many)) = absurd (read (λ (x : Content). ¬ HasTooManySets x) d e h holds few many)
  stops d h few no_more not (Refused (Stops e fault is holds less real sums)) =
      stop_of e fault (read (λ (x : Content). ¬ HasTooManySums x) d e h holds no_more) sums is
  stops d h few no_more not (Refused (Unshown e r is holds less sums never first)) = absurd (read (λ (x : Content). ¬ NeverStops x) d e h holds not never)
  stops d h few no_more not (Accepted e holds accepted) = absurd (read (λ (x : Content). ¬ NeverStops x) d e h holds not accepted.never)

  -- tables by which no typed statement stops the parse, and whose summaries are few, are refused for want of memory alone
  starved : (d : Content) (fault : CheckFault) (status : Status) → ¬ HasTooManySums d → NeverStops d → FaultIsReal d fault → SumsAreFirst d fault
      → result ≡ stop_status fault → IsAnswer status result
  starved d check_fault.NoMemory status few never real sums is = inr is
  starved d (check_fault.Blocks nodes) status few never real sums is = absurd (none_stops d never (is_stopped d (check_fault.Blocks nodes) real))
  starved d (check_fault.Loops nodes) status few never real sums is = absurd (none_stops d never (is_stopped d (check_fault.Loops nodes) real))
  starved d check_fault.CheckFull status few never real sums is = absurd (few sums)

  unshown : (d : Content) (r : Refusal) → IsItem (description_form_for m.word) file d → ¬ HasTooManySets d → ¬ HasTooManySums d → NeverStops d → refusal_on m d ≡ Some r
      → ComesFor m result file → IsAnswer (refusal_status r) result
  unshown d r h few no_more never first (Memory is) = inr is
  unshown d r h few no_more never first (Refused (Long is longer)) = absurd (item_not_long (description_form_for m.word) file d h longer)
  unshown d r h few no_more never first (Refused (Wrong is line wrong)) = absurd (item_not_wrong (description_form_for m.word) file d line h wrong)
  unshown d r h few no_more never first (Refused (Full is e holds many)) = absurd (read (λ (x : Content). ¬ HasTooManySets x) d e h holds few many)
  unshown d r h few no_more never first (Refused (Stops e fault is holds less real sums)) =
      starved e fault (refusal_status r) (read (λ (x : Content). ¬ HasTooManySums x) d e h holds no_more) (read NeverStops d e h holds never) real sums is
  unshown d r h few no_more never first (Refused (Unshown e q is holds less sums same one)) =
      inl (is ∙ ap refusal_status (other (refusal_on m e) q r one (read (λ (x : Content). refusal_on m x ≡ Some r) d e h holds first)))
  unshown d r h few no_more never first (Accepted e holds accepted) =
      absurd (none_or_some (refusal_on m e) r accepted.shown (read (λ (x : Content). refusal_on m x ≡ Some r) d e h holds first))

  pub refuses : ComesFor m result file → RefusesFor m result file
  refuses c = record {
    long = λ h. long h c;
    wrong = λ h. wrong_file h c;
    full = λ d h many. full d h many c;
    many_sums = λ d h few many. many_sums d h many c;
    stops = λ d h few no_more not. stops d h few no_more not c;
    unshown = λ d r h few no_more never first. unshown d r h few no_more never first c;
  }

  -- an accepted description is refused for want of memory alone
  pub not_refused : (d : Content) (status : Status) → IsItem (description_form_for m.word) file d → IsAcceptedFor m d → OfDescriptionFor m result file → IsAnswer status result
  not_refused d status h a (Long is longer) = absurd (item_not_long (description_form_for m.word) file d h longer)
  not_refused d status h a (Wrong is line wrong) = absurd (item_not_wrong (description_form_for m.word) file d line h wrong)
  not_refused d status h a (Full is e holds many) = absurd (read (λ (x : Content). ¬ HasTooManySets x) d e h holds a.few many)
  not_refused d status h a (Stops e fault is holds few real sums) =
      starved e fault status (read (λ (x : Content). ¬ HasTooManySums x) d e h holds a.sums) (read NeverStops d e h holds a.never) real sums is
  not_refused d status h a (Unshown e r is holds few sums never first) =
      absurd (none_or_some (refusal_on m e) r (read (λ (x : Content). refusal_on m x ≡ None) d e h holds a.shown) first)

-- ---- the command

-- what a call may come to without a counted fault
data Kind (m : Machine) (result : Status) (name : List ℕ) (at : Outside) : Type 0 where
  Starved : (is : result ≡ statuses.NoMemory) → Kind m result name at
  Before : (of : OfDescriptionFor m result (at.folder.holds name)) → Kind m result name at
  Built : (is : result ≡ statuses.Done) (t : TableView) (builds : Builds m name at t) → Kind m result name at

module _ (m : Machine) where
  kinds : (result : Status) (name : List ℕ) (at : Outside) → LeavesFor m result name at → HasNoFault name at → Kind m result name at
  kinds statuses.Done name at l n = Built refl l.tables l.builds
  kinds statuses.NoMemory name at l n = Starved refl
  kinds statuses.FileFault name at l n = absurd (n.of_folder l.noted)
  kinds statuses.WriteFault name at l n = absurd (n.of_out l.cut.rises)
  kinds statuses.TooLong name at l n = Before (Long refl l.longer)
  kinds statuses.DescRefused name at l n = Before (Wrong refl l.line l.wrong)
  kinds statuses.Full name at (inl l) n = Before (Full refl l.description l.finds.holds l.many)
  kinds statuses.Full name at (inr l) n = Before (Stops l.description check_fault.CheckFull refl l.finds.holds l.few l.real l.sums)
  kinds statuses.Blocks name at l n =
      Before (Stops l.stops.description (check_fault.Blocks l.sample) refl l.stops.finds.holds l.stops.few l.stops.real l.stops.sums)
  kinds statuses.Loops name at l n =
      Before (Stops l.stops.description (check_fault.Loops l.sample) refl l.stops.finds.holds l.stops.few l.stops.real l.stops.sums)
  kinds statuses.PoolSmall name at l n = Before (Unshown l.description l.refusal (sym l.status_is) l.finds.holds l.few l.sums l.never l.first)
  kinds statuses.Unshown name at l n = Before (Unshown l.description l.refusal (sym l.status_is) l.finds.holds l.few l.sums l.never l.first)
  kinds _ name at l n = absurd l

  comes : (result : Status) (name : List ℕ) (at : Outside) → Kind m result name at → ComesFor m result (at.folder.holds name)
  comes result name at (Starved is) = Memory is
  comes result name at (Before of) = Refused of
  comes result name at (Built is t builds) = Accepted t.content builds.finds.holds builds.accepted

  done : (result : Status) (name : List ℕ) (at : Outside) (d : Content) → IsItem (description_form_for m.word) (at.folder.holds name) d → IsAcceptedFor m d
      → Kind m result name at → IsAnswer statuses.Done result
  done result name at d h a (Starved is) = inr is
  done result name at d h a (Before of) = not_refused m result (at.folder.holds name) d statuses.Done h a of
  done result name at d h a (Built is t builds) = inl is

pub exactly : (m : Machine) (result : Status) (name : List ℕ) (at : Outside) → LeavesFor m result name at → HasNoFault name at → AnswersFor m result name at
exactly m result name at leaves none =
    let kind = kinds m result name at leaves none in
    record {
      refuses = refuses m result (at.folder.holds name) (comes m result name at kind);
      done = λ d h a. done m result name at d h a kind;
    }

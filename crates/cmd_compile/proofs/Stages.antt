-- What was said of the second file, once the first was read.
use Rattle.std.proofs.Common.{◌≡◌, ℕ, List, [], ◌∷◌, ◌++◌, refl, sym, ap, ◌∙◌, subst}
use Rattle.gg_outside.specs.declared.traits.Sink.{Ghosts as Sink}
use Rattle.gg_outside.specs.Outside.{Content, OnlyName, IsLonger}
use Rattle.cmd_session.specs.declared.status.Status.{Status}
use Rattle.cmd_session.specs.Writing.{Change, change, IsUntouched}
use Rattle.cmd_files.specs.Forms.{Form, Holds, HoldsNone}
use Rattle.cmd_files.specs.Outsides.{Lookup}
use Rattle.cmd_files.specs.Stages.{FileRefused, Unread, LongFile, WrongFile, StarvedFile}

abbrev at : (List ℕ → Content) → List (List ℕ) → List (List ℕ) → Lookup
at holds before now = record { holds = holds; before = before; now = now }

-- The folder holds what it held, and no name was noted before.
module _ {A : Type 0} (form : Form A) (name : List ℕ) (holds mid : List ℕ → Content) (before noted now : List (List ℕ)) (same : mid name ≡ holds name)
    (kept : noted ≡ before) where
  pub file_refused : (status : Status) (report : Change) → FileRefused form name (at mid noted now) status report
      → FileRefused form name (at holds before now) status report
  file_refused status report (Unread is gains told) = Unread is (gains ∙ ap (λ (l : List (List ℕ)). l ++ (name ∷ [])) kept) told
  file_refused status report (LongFile is longer unfailed told) =
      LongFile is (subst (λ (c : Content). IsLonger c form.limit) same longer) (unfailed ∙ kept) told
  file_refused status report (WrongFile is line wrong unfailed told) =
      WrongFile is line (subst (λ (c : Content). HoldsNone form c line) same wrong) (unfailed ∙ kept) told
  file_refused status report (StarvedFile starved once) = StarvedFile starved (subst (λ (b : List (List ℕ)). OnlyName name b now) kept once)

pub file_held : {A : Type 0} (form : Form A) (mid old : Content) (item : A) → mid ≡ old → Holds form mid item → Holds form old item
file_held form mid old item same h = subst (λ (c : Content). Holds form c item) same h

-- a sink that nothing was written to
pub untouched : {S : Type 0} (sink : Sink S) (old new : S) → new ≡ old → IsUntouched (change sink old new)
untouched {S = S} sink old new e =
    subst (λ (x : S). IsUntouched (change sink old x)) (sym e) (record { held = refl; quiet = refl })

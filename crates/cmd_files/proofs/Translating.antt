-- Of a command that writes the item of a file in another form, each status comes where its cause is there.
use Rattle.std.proofs.Common.{◌≡◌, ℕ, List, inl, inr, refl, sym, subst}
use Rattle.gg_outside.specs.declared.traits.Sink.{Ghosts as Sink}
use Rattle.gg_outside.specs.Outside.{Content, IsLonger}
use Rattle.cmd_session.specs.declared.status.Status.{Status}
use Rattle.cmd_session.specs.declared.status.Status.TheVariants as statuses
use Rattle.cmd_session.specs.Writing.{change, IsUntouched}
use Rattle.cmd_files.specs.Forms.{Holds, HoldsNone}
use Rattle.cmd_files.specs.Outsides.{Outside, FailsAtMost, HasNoFault}
use Rattle.cmd_files.specs.Stages.{FileRefused, Unread, LongFile, WrongFile, StarvedFile, OutputRefused, CutOutput, StarvedOutput}
use Rattle.cmd_files.specs.Exact.{IsLongFile, IsNoItem, IsItem, IsAnswer}
use Rattle.cmd_files.specs.Translations.{Translation, Leaves, NoItem, NoBytes, NotWritten, Written, Answers, IsTranslated}
use Rattle.cmd_files.proofs.Exactly.{long_no_item, long_not_wrong, item_not_long, none_not_long, none_no_item, item_not_wrong}

-- what a call may come to without a counted fault
data Kind {A : Type 0} (t : Translation A) (result : Status) (file : Content) : Type 0 where
  Memory : (is : result ≡ statuses.NoMemory) → Kind t result file
  Long : (is : result ≡ statuses.TooLong) (longer : IsLonger file t.form.limit) → Kind t result file
  Wrong : (is : result ≡ t.form.status) (line : List ℕ) (wrong : HoldsNone t.form file line) → Kind t result file
  Done : (is : result ≡ statuses.Done) (item : A) (holds : Holds t.form file item) → Kind t result file

module _ {A : Type 0} (t : Translation A) (result : Status) (name : List ℕ) (at : Outside) where
  of_file : HasNoFault name at → FileRefused t.form name at.folder result at.report → Kind t result (at.folder.holds name)
  of_file n (Unread is noted told) = absurd (n.of_folder noted)
  of_file n (LongFile is longer unfailed told) = Long is longer
  of_file n (WrongFile is line wrong unfailed told) = Wrong is line wrong
  of_file n (StarvedFile starved names) = Memory starved.0

  of_output : HasNoFault name at → (bytes : List ℕ) → OutputRefused bytes result at.out at.report → Kind t result (at.folder.holds name)
  of_output n bytes (CutOutput is cut told) = absurd (n.of_out cut.rises)
  of_output n bytes (StarvedOutput starved front once) = Memory starved.0

  kind_of : HasNoFault name at → Leaves t result name at → Kind t result (at.folder.holds name)
  kind_of n (NoItem untouched refused) = of_file n refused
  kind_of n (NoBytes item holds unfailed untouched starved) = Memory starved.0
  kind_of n (NotWritten item bytes gives refused) = of_output n bytes refused
  kind_of n (Written is item bytes gives takes untold) = Done is item gives.holds

  long : (file : Content) → IsLongFile t.form.limit file → Kind t result file → IsAnswer statuses.TooLong result
  long file h (Memory is) = inr is
  long file h (Long is longer) = inl is
  long file h (Wrong is line wrong) = absurd (long_not_wrong t.form file line h wrong)
  long file h (Done is item holds) = absurd (long_no_item t.form file item h holds)

  none : (file : Content) → IsNoItem t.form file → Kind t result file → IsAnswer t.form.status result
  none file h (Memory is) = inr is
  none file h (Long is longer) = absurd (none_not_long t.form file h longer)
  none file h (Wrong is line wrong) = inl is
  none file h (Done is item holds) = absurd (none_no_item t.form file item h holds)

  done : (file : Content) (item : A) → IsItem t.form file item → Kind t result file → IsAnswer statuses.Done result
  done file item h (Memory is) = inr is
  done file item h (Long is longer) = absurd (item_not_long t.form file item h longer)
  done file item h (Wrong is line wrong) = absurd (item_not_wrong t.form file item line h wrong)
  done file item h (Done is other holds) = inl is

  exactly : Leaves t result name at → HasNoFault name at → Answers t result (at.folder.holds name)
  exactly leaves n =
      let kind = kind_of n leaves in
      record {
        long = λ h. long (at.folder.holds name) h kind;
        none = λ h. none (at.folder.holds name) h kind;
        item = λ item h. done (at.folder.holds name) item h kind;
      }

  -- such a call is that of such a command: that each status comes follows from what each says
  pub translated : Leaves t result name at → FailsAtMost name at.folder → IsTranslated t result name at
  translated leaves names = record { leaves = leaves; exact = exactly leaves; names = names }

-- a sink that nothing was written to
pub untouched : {S : Type 0} (sink : Sink S) (old new : S) → new ≡ old → IsUntouched (change sink old new)
untouched {S = S} sink old new e = subst (λ (x : S). IsUntouched (change sink old x)) (sym e) (record { held = refl; quiet = refl })

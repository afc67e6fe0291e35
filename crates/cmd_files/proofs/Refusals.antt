-- How a part of a command refused.
use Rattle.std.proofs.Common.{◌≡◌, ◌≤◌, ℕ, List, length, inl, inr, subst, ◌∙◌}
use Rattle.gg_outside.specs.Outside.{IsThat}
use Rattle.cmd_session.specs.declared.status.Status.{Status}
use Rattle.cmd_session.specs.declared.status.Status.TheVariants as statuses
use Rattle.cmd_session.specs.Lines.{input_too_long_line}
use Rattle.cmd_session.specs.Reading.{Intake, HasOver, IsUnbroken}
use Rattle.cmd_session.specs.Writing.{Change, Reports}
use Rattle.cmd_session.specs.Telling.{IsRefused}
use Rattle.cmd_files.specs.Forms.{Form, IsRefusedBy}
use Rattle.cmd_files.specs.Outsides.{Lookup, IsUnfailed}
use Rattle.cmd_files.specs.Stages.{input_limit, FileRefused, WrongFile, StarvedFile, InputRefused, LongInput, StarvedInput}

-- a file that is none of its form was told
pub file_wrong : {A : Type 0} (form : Form A) (name : List ℕ) (folder : Lookup) (status result : Status) (report : Change) (bytes slice line text : List ℕ) → status ≡ form.status →
    IsThat (folder.holds name) bytes → length bytes ≤ form.limit → slice ≡ bytes → IsRefusedBy form slice line → text ≡ line → IsUnfailed folder → IsRefused status text result report →
    FileRefused form name folder result report
file_wrong form name folder status result report bytes slice line text of_form stored within is wrong told_is unfailed (inl told) =
    WrongFile (told.0 ∙ of_form) line
    (record { bytes = bytes; stored = stored; within = within; refused = subst (λ (b : List ℕ). IsRefusedBy form b line) is wrong })
    unfailed (subst (Reports report) told_is told.1)
file_wrong form name folder status result report bytes slice line text of_form stored within is wrong told_is unfailed (inr starved) =
    StarvedFile starved (inl unfailed)

-- an input over its limit was told
pub input_long : (input : Intake) (result : Status) (report : Change) → HasOver input_limit input.old → IsUnbroken input → IsRefused statuses.TooLong input_too_long_line result report →
    InputRefused input result report
input_long input result report over unbroken (inl told) = LongInput told.0 over unbroken told.1
input_long input result report over unbroken (inr starved) = StarvedInput starved (inl unbroken)

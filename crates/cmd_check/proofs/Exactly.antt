-- How a description of the VAX is refused, and what reading one may come to: what is said of any machine, at the VAX.
use Rattle.std.proofs.Common.{ℕ, List}
use Rattle.gg_outside.specs.Outside.{Content as File}
use Rattle.cmd_session.specs.declared.status.Status.{Status}
use Rattle.cmd_session.specs.Writing.{Change}
use Rattle.cmd_files.specs.Outsides.{Lookup, Fails}
use Rattle.cmd_files.specs.Exact.{IsItem, IsAnswer}
use Rattle.md_reader.specs.State.{Content}
use Rattle.cmd_descriptions.proofs.Exactly as any
use Rattle.cmd_descriptions.proofs.Exactly.{OfDescriptionFor, ComesFor, IsNotFor}
use Rattle.cmd_check.specs.Machine.{the_vax}
use Rattle.cmd_check.specs.Descriptions.{description_form, IsAccepted, NotAccepted}
use Rattle.cmd_check.specs.Exact.{Refuses}

abbrev pub OfDescription : Status → File → Type 0
OfDescription result file = OfDescriptionFor the_vax result file

abbrev pub Comes : Status → File → Type 0
Comes result file = ComesFor the_vax result file

abbrev pub IsNot : Status → File → Type 0
IsNot result file = IsNotFor the_vax result file

pub of_description : (result : Status) (name : List ℕ) (folder : Lookup) (report : Change) → (Fails name folder → ⊥) → NotAccepted name folder result report
    → IsNot result (folder.holds name)
of_description result name folder report unfailed refused = any.of_description the_vax result name folder report unfailed refused

pub refuses : (result : Status) (file : File) → Comes result file → Refuses result file
refuses result file comes = any.refuses the_vax result file comes

-- an accepted description is refused for want of memory alone
pub not_refused : (result : Status) (file : File) (d : Content) (status : Status) → IsItem description_form file d → IsAccepted d → OfDescription result file
    → IsAnswer status result
not_refused result file d status item accepted of = any.not_refused the_vax result file d status item accepted of

-- Instructions are done one after another.
use Rattle.std.proofs.Common.{◌≡◌, ℕ, List, refl, ap, ◌∙◌}
use Rattle.vax_core.specs.declared.code.Instr.{Instr}
use Rattle.vax_target_writing.specs.vax_machine.specs.declared.turn.Stop.{Stop}
use Rattle.vax_target_writing.specs.vax_machine.specs.declared.turn.Stop.TheVariants as stops
use Rattle.vax_target_writing.specs.vax_machine.specs.State.{State}
use Rattle.vax_target_writing.specs.vax_confined.specs.Confined.{exec}
use Rattle.vax_target_writing.specs.vax_machine_lists.specs.Instructions as lists
use Rattle.vax_target_writing.specs.vax_confined.proofs.Joining.{one_after_another}
use Rattle.vax_target_writing.specs.sel_target.specs.Courses as courses
use Rattle.vax_target_writing.specs.vax_target_meaning.specs.Running.{course_of}
use Rattle.vax_target_order.specs.Laws.{InstructionsRun}

stopped : (written : List ℕ) (e : Stop) (is : List Instr) (go : State → lists.Course) →
    course_of (lists.followed (record { written = written; ending = lists.Stops e }) is go)
    ≡ courses.followed (course_of (record { written = written; ending = lists.Stops e })) is (λ m. course_of (go m))
stopped written (stops.Ended value) is go = refl
stopped written stops.Trapped is go = refl
stopped written (stops.Broken kind) is go = refl

followed_by : (written : List ℕ) (e : lists.Ending) (is : List Instr) (go : State → lists.Course) →
    course_of (lists.followed (record { written = written; ending = e }) is go)
    ≡ courses.followed (course_of (record { written = written; ending = e })) is (λ m. course_of (go m))
followed_by written (lists.Comes m) is go = refl
followed_by written (lists.Goes label m) is go = refl
followed_by written (lists.Calls name count m rest) is go = refl
followed_by written (lists.Returns m) is go = refl
followed_by written (lists.Stops e) is go = stopped written e is go

pub instructions_run : InstructionsRun
instructions_run = record {
  run_none = λ m. refl;
  run_on = λ p r m. ap course_of (one_after_another p r m) ∙ followed_by (exec p m).written (exec p m).ending r (exec r);
}

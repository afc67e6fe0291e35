use Rattle.std.proofs.Common.{arith, refl, ◌≡◌, []}
use Rattle.std.proofs.lemmas.Result.{IfOk-weaker}
use Rattle.c_meaning.proofs.Steps.{over}
use Rattle.std.proofs.lemmas.List.{nil_from_length}
use Rattle.c_types.specs.Typed.{expressions_of}
use Rattle.c_meaning.proofs.Steps.{passes}
use Rattle.c_meaning.proofs.machine.Machine.pass.Goals as goal

pub returns-in-None : goal.returns-in-None
returns-in-None c = let none : c.args.to.now ≡ [] = nil_from_length _ c.in-None.ensures.cases in over c.stop.ensures (rw (none) refl) (omega arith)

pub returns-in_ok-push-in-Some : goal.returns-in_ok-push-in-Some
returns-in_ok-push-in-Some c = let more = c.in-Some.ensures.cases.0 in
    IfOk-weaker c.argue.result _ _ (λ event w. passes c.args.self.now c.args.callee c.args.done.items _ c.convert.result c.args.value c.in-Some.first.now c.in-Some.to.now c.args.to.now
    (expressions_of c.args.rest.now) more c.convert.ensures c.in_ok-push-in-Some.ensures.items w) c.argue.ensures

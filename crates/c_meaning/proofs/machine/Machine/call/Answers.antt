use Rattle.std.proofs.Common.{arith, refl}
use Rattle.std.proofs.lemmas.Result.{IfOk-weaker}
use Rattle.c_meaning.proofs.Steps.{over}
use Rattle.c_meaning.proofs.Steps.{found, missing}
use Rattle.c_meaning.proofs.machine.Machine.call.Goals as goal

pub returns-in-None : goal.returns-in-None
returns-in-None c = let none = missing c.args.self.now.program.now.routines.items c.deref.result.now c.in-Defined.number c.deref.ensures.value c.in-None.ensures.lookup.0 in
    over c.stop.ensures (rw (c.in-Defined.is, none) refl) (omega arith)

pub returns-in-Some : goal.returns-in-Some
returns-in-Some c = let lookup = c.in-Some.ensures.lookup in
    let there = found c.args.self.now.program.now.routines.items c.deref.result.now c.in-Defined.number c.in-Some.function.now c.deref.ensures.value lookup.3.0 lookup.1 in
    IfOk-weaker _ _ _ (λ event w. over w (rw (c.in-Defined.is, there) refl) (omega arith)) c.enter.ensures

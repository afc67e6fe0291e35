use Rattle.std.proofs.Common.{arith, refl}
use Rattle.std.proofs.lemmas.Result.{IfOk-weaker}
use Rattle.c_meaning.proofs.Steps.{over}
use Rattle.c_meaning.proofs.machine.Machine.find.Goals as goal

pub returns-in-Some : goal.returns-in-Some
returns-in-Some c = let there = rw c.as_slice.ensures at c.in-Some.ensures in
    IfOk-weaker _ _ _ (λ event w. over w (rw (c.in-Variable.is, ← there) refl) (rw (c.in-Variable.is) (omega arith))) c.at.ensures

pub returns-in-Indirection : goal.returns-in-Indirection
returns-in-Indirection c = IfOk-weaker _ _ _ (λ event w. over w (rw (c.in-Indirection.is, c.deref.ensures) refl) (rw (c.in-Indirection.is, c.deref.ensures) (omega arith))) c.wait.ensures

pub returns-in-Index : goal.returns-in-Index
returns-in-Index c = IfOk-weaker _ _ _ (λ event w. over w (rw (c.in-Index.is, c.deref-in-Index.ensures) refl) (rw (c.in-Index.is, c.deref-in-Index.ensures) (omega arith))) c.wait-in-Index.ensures

use Rattle.std.proofs.Common.{◌≡◌, List, [], ◌∷◌, ◌++◌, refl, ap, ◌∙◌, subst}
use Rattle.gg_base.specs.Runs.{Runs, stop}
use Rattle.gg_base.specs.Turns.{end_of}
use Rattle.tree_core.specs.declared.program.Object.{Object}
use Rattle.c_meaning.specs.declared.frame.Frame.{Frame}
use Rattle.c_meaning.specs.declared.frame.Frame.TheVariants.{ForCall}
use Rattle.c_meaning.specs.State.{State}
use Rattle.c_meaning.specs.Blocks.{claimed}
use Rattle.c_meaning.specs.Parts.{state}
use Rattle.c_meaning.proofs.Begin.{begins, refused}
use Rattle.c_meaning.proofs.Steps.{found}
use Rattle.c_meaning.proofs.machine.Machine.new.Goals as goal

pub returns-in-Ok : goal.returns-in-Ok
returns-in-Ok c =
    let main = c.in-Some.main.now in
    let lookup = c.in-Some.ensures.lookup in
    let there = found c.args.program.now.routines.items c.deref.result.now c.args.program.now.main main c.deref.ensures.value lookup.3.0 lookup.1 in
    let zeros = rw c.as_slice-in-Some.ensures at c.in_ok-locals-in-Some.ensures in
    let area = rw c.as_slice.ensures at c.in_ok-area.ensures in
    let frame = c.in_ok-push-in-Some.ensures.items ∙ ap (λ (l : List Frame). l ++ (ForCall c.empty.result 0 main.block ∷ [])) c.new-frames.ensures.items in
    let claims = subst (λ (os : List Object). (κ : State → Runs) → claimed os main.block κ (state c.begin-store.result) ≡ κ (state c.claim.new.self)) c.as_slice-in-Some-2.ensures c.in-Ok.ensures in
    rw c.of-in-Ok.ensures (begins c.args.program c.args.input main c.begin-store.result c.in_ok-locals-in-Some.locals.items c.in_ok-area.area.items main.body c.push.new.self c.claim.new.self
    c.empty.result 0 (there, c.begin-store.ensures, zeros, area) refl frame claims)

pub returns-in-Err : goal.returns-in-Err
returns-in-Err c =
    let main = c.in-Some.main.now in
    let lookup = c.in-Some.ensures.lookup in
    let there = found c.args.program.now.routines.items c.deref.result.now c.args.program.now.main main c.deref.ensures.value lookup.3.0 lookup.1 in
    let zeros = rw c.as_slice-in-Some.ensures at c.in_ok-locals-in-Some.ensures in
    let area = rw c.as_slice.ensures at c.in_ok-area.ensures in
    let claims = subst (λ (os : List Object). (κ : State → Runs) → claimed os main.block κ (state c.begin-store.result) ≡ stop (end_of c.in-Err.finish))
    c.as_slice-in-Some-2.ensures c.in-Err.ensures in
    rw c.of-in-Err.ensures (refused c.args.program c.args.input main c.begin-store.result c.in_ok-locals-in-Some.locals.items c.in_ok-area.area.items c.in-Err.finish
    (there, c.begin-store.ensures, zeros, area) claims)

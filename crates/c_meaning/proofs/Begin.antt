-- A machine at the begin of a program.
use Rattle.std.proofs.Common.{◌≡◌, ℕ, List, [], ◌∷◌, replicate, length, Some, None, sym, ap, ◌∙◌}
use Rattle.std.specs.Prelude.{slice_get}
use Rattle.std.specs.Global.{Vec}
use Rattle.std.specs.Borrow.{Bor}
use Rattle.gg_base.specs.Runs.{Runs, stop}
use Rattle.gg_base.specs.Turns.{end_of}
use Rattle.gg_base.specs.declared.run.Finish.{Finish}
use Rattle.tree_core.specs.Area.{opening}
use Rattle.c_program.specs.declared.statement.Action.{Action}
use Rattle.c_program.specs.declared.program.Routine.{Routine}
use Rattle.c_program.specs.declared.program.Program.{Program}
use Rattle.c_program.specs.Statements.{acts}
use Rattle.c_program.specs.Programs.{program, routine}
use Rattle.c_meaning.specs.declared.frame.Frame.{Frame}
use Rattle.c_meaning.specs.declared.frame.Frame.TheVariants.{ForCall}
use Rattle.c_meaning.specs.declared.store.Activation.{Activation}
use Rattle.c_meaning.specs.declared.store.Store.{Store}
use Rattle.c_meaning.specs.State.{State}
use Rattle.c_meaning.specs.Values.{Behind, Body}
use Rattle.c_meaning.specs.Blocks.{claimed, released}
use Rattle.c_meaning.specs.Meaning.{stmts}
use Rattle.c_meaning.specs.Programs.{means, at_first, finished, main_of, source}
use Rattle.c_meaning.specs.Calls.{begun}
use Rattle.c_meaning.specs.Pending.{with_flow, stack, bottom}
use Rattle.c_meaning.specs.Parts.{state}
use Rattle.c_meaning.proofs.Law.{means_is}

-- `main` is entered: its block is taken, or it has none
module _ (typed : Bor Program) (input : Bor (List ℕ)) (g : Routine) (store : Store) (locals area : List ℕ) where
  -- what stands before it
  abbrev Stands : Type 0
  Stands = (slice_get (program typed.now).routines typed.now.main ≡ Some (routine g))
      × (state store ≡ record { call = record { locals = locals; parameters = []; block = None }; area = area; input = input.now; active = 1 })
      × (locals ≡ replicate (length g.locals) 0) × (area ≡ opening typed.now.objects)

  -- what follows the block
  abbrev behind : Behind
  behind = released typed.now.objects g.block finished

  runs : Stands → claimed typed.now.objects g.block (means (program typed.now) (Body (routine g).body) behind) (state store) ≡ source (program typed.now) input.now
  runs h =
      let p = program typed.now in
      let first : state store ≡ begun (routine g) [] (at_first p input.now) = h.1
      ∙ (λ i. record { call = record { locals = h.2 i; parameters = []; block = None }; area = h.3 i; input = input.now; active = 1 }) in
      ap (λ st. claimed typed.now.objects g.block (means p (Body (routine g).body) behind) st) first ∙ sym (ap (λ o. main_of o p input.now) h.0)

  pub begins : (body : Vec Action) (frames : Vec Frame) (taken : Store) (caller : Activation) (active : ℕ) → Stands → body ≡ g.body → frames.items ≡ ForCall caller active g.block ∷ []
      → ((κ : State → Runs) → claimed typed.now.objects g.block κ (state store) ≡ κ (state taken))
      → stmts (program typed.now) (means (program typed.now)) (acts body.items) (with_flow (stack (program typed.now) (bottom (program typed.now)) frames.items)) (state taken)
      ≡ source (program typed.now) input.now
  begins body frames taken caller active h same frame claims =
      let p = program typed.now in
      ap (λ (v : Vec Action). stmts p (means p) (acts v.items) (with_flow (stack p (bottom p) frames.items)) (state taken)) same
      ∙ ap (λ fs. stmts p (means p) (routine g).body (with_flow (stack p (bottom p) fs)) (state taken)) frame
      ∙ sym (means_is p (Body (routine g).body) behind (state taken))
      ∙ sym (claims (means p (Body (routine g).body) behind))
      ∙ runs h

  -- or there is no room for its block
  pub refused : (e : Finish) → Stands → ((κ : State → Runs) → claimed typed.now.objects g.block κ (state store) ≡ stop (end_of e)) → stop (end_of e) ≡ source (program typed.now) input.now
  refused e h claims = sym (claims (means (program typed.now) (Body (routine g).body) behind)) ∙ runs h

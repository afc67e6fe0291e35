-- A call of a function whose code stands in the code: the frame's instructions count nothing.
use Rattle.std.proofs.Common.{ℕ, ◌+◌, List, [], length, Option, sym, ap, subst, ◌∙◌}
use Rattle.vax_core.specs.declared.code.CodeItem.{CodeItem}
use Rattle.vax_machine.specs.State.{State}
use Rattle.tree_core.specs.declared.program.Object.{Object}
use Rattle.tree_core.specs.declared.program.TreeFn.{TreeFn}
use Rattle.tree_core.specs.Names.{function_label}
use Rattle.tree_meaning.specs.State.{Extent}
use Rattle.tree_meaning.specs.State.{State as Trees}
use Rattle.vax_machine_lists.specs.Instructions.{Course}
use Rattle.vax_machine_lists.specs.Runs.{HasInstrs, at_of}
use Rattle.vax_frames_law.specs.Calling.{HasFrame}
use Rattle.vax_frames.specs.Frames.{room_code}
use Rattle.gg_compile_law.specs.vax_homes_items.specs.vax_homes_law.specs.vax_homes.specs.declared.choose.Home.{Home}
use Rattle.gg_compile_law.specs.vax_homes_items.specs.vax_homes_law.specs.Calling.{with_stack}
use Rattle.gg_compile_law.specs.vax_homes_frames.specs.Live.{HomedCall}
use Rattle.gg_compile_law.specs.vax_homes_frames.specs.Passing.{BeginsAtHome}
use Rattle.gg_compile_tallies.proofs.Walking.{Walks}
use Rattle.gg_compile_tallies.proofs.Carrying.{Carries, carries}

module _ (objects : List Object) (code : List CodeItem) (g : TreeFn) (em : HasFrame code (function_label g.name) g.locals) (es : List Extent) (hs : List Home) (cs : List HomedCall) (t : Trees)
    (m : State) (st : List ℕ) (count : ℕ) (back : Option ℕ) (b : BeginsAtHome objects code g em es hs cs t m st count back) where
  abbrev size : ℕ
  size = length (room_code em.words)

  -- the instructions that make room stand where the call goes, and they lead on
  pub room_walks : Walks b.called_state [] size 0 (with_stack b.state b.stack)
  room_walks =
      let r = b.room in
      let there : HasInstrs b.called_state.items b.called_state.place (room_code em.words) =
      subst (λ (x : List CodeItem). HasInstrs x b.called_state.place (room_code em.words)) (sym r.items) (subst (λ (p : ℕ). HasInstrs code p (room_code em.words)) (sym r.place_is) em.room) in
      let carried = carries (room_code em.words) b.called_state there r.going in
      let walk : Walks b.called_state [] size 0 (at_of b.called_state r.made (b.called_state.place + size)) =
      subst (λ (c : Course). Carries b.called_state size c) r.does carried in
      subst (λ (n : State). Walks b.called_state [] size 0 n) (ap (λ (p : ℕ). at_of b.called_state r.made (p + size)) r.place_is ∙ sym r.behind_is) walk

-- The stack's room.
use Rattle.std.specs.Prelude.{◌<◌, ◌≤◌, List, [], ◌∷◌, length}
use Rattle.gg_base.specs.declared.limits.TheConstants.{ACTIVE_CALL_LIMIT, NEED_LIMIT}
use Rattle.tree_core.specs.declared.program.Object.{Object}
use Rattle.l32_states.specs.tree_meaning.specs.State.{State as Trees, Activation, Extent}
use Rattle.l32_machine.specs.State.{State}
use Rattle.l32_states.specs.l32_target_meaning.specs.Agreeing.{Agrees}
use Rattle.l32_frames_law.specs.Calling.{IsRoomy}

-- each call's frame has few words, and it has pushed few arguments
abbrev pub AreSmall : List Extent → List Activation → Type 0
AreSmall [] xs = Unit {0}
AreSmall (e ∷ es) [] = Unit {0}
AreSmall (e ∷ es) (a ∷ xs) = (e.words ≤ NEED_LIMIT) × (length a.pushed ≤ 255) × AreSmall es xs

-- The stack has room for a whole call, as long as at most `ACTIVE_CALL_LIMIT` calls are active.
abbrev pub StackHasRoom : Type 0
StackHasRoom =
    (objects : List Object) (e : Extent) (es : List Extent) (t : Trees) (m : State) → Agrees objects e es t m
    → AreSmall (e ∷ es) (t.running ∷ t.callers) → length t.callers < ACTIVE_CALL_LIMIT → IsRoomy m

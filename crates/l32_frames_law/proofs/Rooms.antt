-- As long as at most 1,024 calls are active, the stack has room.
use Rattle.std.proofs.Common.{◌≡◌, ℕ, ◌+◌, ◌*◌, ◌≤◌, List, [], ◌∷◌, length, refl, ap, arith, length-append}
use Rattle.l32_states.specs.tree_meaning.specs.State.{Activation, Extent}
use Rattle.l32_machine.specs.declared.frame.Frame32.{Frame32}
use Rattle.l32_states.specs.l32_target_meaning.specs.Stack.{Holds, Hold, nobody, caller}
use Rattle.l32_frames_law.specs.Rooms.{AreSmall, StackHasRoom}
use Rattle.l32_frames_law.proofs.Chain.{all_hold}

one_piece : (stack : List ℕ) (fp : ℕ) (f : Frame32) (e : Extent) (a : Activation) (low high : ℕ) → Holds stack fp f e a low high → e.words ≤ 1024 → length a.pushed ≤ 255 → high ≤ low + 6136
one_piece stack fp f e a low high h words pushed = omega (arith, h.words, h.end, h.few, words, pushed)

space : (stack : List ℕ) (fp : ℕ) (frames : List Frame32) (es : List Extent) (xs : List Activation) (low : ℕ) → Hold stack fp frames es xs low → AreSmall es xs
    → 2147483648 ≤ low + 6136 * length xs
space stack fp frames es xs low (nobody fp') small = omega arith
space stack fp frames es xs low (caller fp' outer all f e rest_e a rest low' high eq here others) small =
    let more = space stack f.fp outer rest_e rest high others small.2 in
    let this = one_piece stack fp f e a low high here small.0 small.1 in
    omega (arith, more, this)

as_many : (stack : List ℕ) (fp : ℕ) (frames : List Frame32) (es : List Extent) (xs : List Activation) (low : ℕ) → Hold stack fp frames es xs low → length frames ≡ length xs
as_many stack fp frames es xs low (nobody fp') = refl
as_many stack fp frames es xs low (caller fp' outer all f e rest_e a rest low' high eq here others) =
    omega (arith, ap length eq, length-append outer (f ∷ []), as_many stack f.fp outer rest_e rest high others)

pub stack_has_room : StackHasRoom
stack_has_room objects e es t m h small shallow =
    let all = all_hold objects e es t m h in
    let wide = space m.stack m.fp m.frames (e ∷ es) (t.running ∷ t.callers) m.sp all small in
    let many = as_many m.stack m.fp m.frames (e ∷ es) (t.running ∷ t.callers) m.sp all in
    record { room = record { space = omega (arith, wide, shallow); frame = omega (arith, many, shallow) }; wide = omega (arith, wide, shallow) }

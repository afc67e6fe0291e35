-- As long as at most 1,024 calls are active, the stack has room.
use Rattle.std.proofs.Common.{◌≡◌, ℕ, ◌+◌, ◌*◌, ◌≤◌, List, [], ◌∷◌, length, Bool, true, false, refl, ap, arith, length-append}
use Rattle.vax_machine_live.specs.declared.frame.Frame.{Frame}
use Rattle.vax_core.specs.declared.code.CodeItem.{CodeItem}
use Rattle.tree_core.specs.declared.program.TreeItem.{TreeItem}
use Rattle.tree_core.specs.declared.program.TreeItem.TheVariants as tree_item
use Rattle.tree_core.specs.declared.program.TreeFn.{TreeFn}
use Rattle.tree_core.specs.declared.program.TreeProgram.{TreeProgram}
use Rattle.tree_meaning.specs.State.{Activation, Extent}
use Rattle.vax_frames_law.specs.vax_states.specs.Stack.{Holds, Hold, nobody, caller}
use Rattle.gg_compile_law.specs.Roles.{Role, Pushes, Calls, Saves, Plain, role_of}
use Rattle.vax_homes_frames.specs.Live.{HomedCall}
use Rattle.gg_compile_law.specs.Framing.{FrameLayout}
use Rattle.gg_compile_law.specs.Programs.{InOrderBy, InOrder, IsActive, Waits, ends_run, goes_on}

-- no call has more than 1,024 words, nor pushes more than 255 arguments
abbrev pub AreSmall : List Extent → List Activation → Type 0
AreSmall [] xs = Unit {0}
AreSmall (e ∷ es) [] = Unit {0}
AreSmall (e ∷ es) (a ∷ xs) = (e.words ≤ 1024) × (length a.pushed ≤ 255) × AreSmall es xs

one_piece : (stack : List ℕ) (f : Frame) (e : Extent) (a : Activation) (low high : ℕ) → Holds stack f e a low high → e.words ≤ 1024 → length a.pushed ≤ 255 → high ≤ low + 6200
one_piece stack f e a low high h words pushed = omega (arith, h.words, h.saved, h.top, h.end, h.few)

pub space : (stack : List ℕ) (frames : List Frame) (es : List Extent) (xs : List Activation) (low : ℕ) → Hold stack frames es xs low → AreSmall es xs → 2147483648 ≤ low + 6200 * length xs
space stack frames es xs low nobody small = omega arith
space stack frames es xs low (caller outer all f e rest_e a rest low' high eq here others) small =
    let more = space stack outer rest_e rest high others small.2 in
    let this = one_piece stack f e a low high here small.0 small.1 in
    omega (arith, more, this)

pub as_many : (stack : List ℕ) (frames : List Frame) (es : List Extent) (xs : List Activation) (low : ℕ) → Hold stack frames es xs low → length frames ≡ length xs
as_many stack frames es xs low nobody = refl
as_many stack frames es xs low (caller outer all f e rest_e a rest low' high eq here others) =
    omega (arith, ap length eq, length-append outer (f ∷ []), as_many stack outer rest_e rest high others)

-- pushed arguments are at most 255
few_by : (r : Role) (pushed : ℕ) (b : Bool) (rest : ℕ → Bool → Type 0) → InOrderBy r pushed b rest → ((p : ℕ) (c : Bool) → rest p c → p ≤ 255) → pushed ≤ 255
few_by Pushes pushed b rest h go = omega (arith, go (pushed + 1) false h)
few_by (Calls function count) pushed b rest h go = omega (arith, h.0, h.1)
few_by Saves pushed b rest h go = go pushed false h.1
few_by Plain pushed b rest h go = omega (arith, h.0)

pub few_pushed : (is : List TreeItem) (pushed : ℕ) (b : Bool) → InOrder pushed b is → pushed ≤ 255
few_pushed [] pushed b h = omega (arith, h)
few_pushed (tree_item.Label l ∷ is) pushed b h = omega (arith, h.0)
few_pushed (tree_item.Root w ∷ is) pushed b h = few_by (role_of w) pushed b _ h (λ p c g. few_pushed is p c g)

-- a call's frame has few words
pub few_words : (program : TreeProgram) (code : List CodeItem) (g : TreeFn) (e : Extent) (c : HomedCall) (a : Activation) (place : ℕ) (b : Bool) → IsActive program code g e c a place b
    → e.words ≤ 1024
few_words program code g e c a place b h = let words = ap (λ (y : FrameLayout). y.words) h.layout in omega (arith, words, h.emitted.frame.few)

pub waits_small : (program : TreeProgram) (code : List CodeItem) (c : HomedCall) (cs : List HomedCall) (es : List Extent) (xs : List Activation) → Waits program code c cs es xs → AreSmall es xs
waits_small program code c cs es xs (ends_run c' none) = tt
waits_small program code c cs es xs (goes_on c' d ds g e rest_e a rest place back saved fp ap_is active more) =
    (few_words program code g e d a place true active, few_pushed a.items (length a.pushed) _ active.order, waits_small program code d ds rest_e rest more)

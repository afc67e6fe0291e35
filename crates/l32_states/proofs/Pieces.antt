-- The pieces of the stack that L32's live calls hold.
use Rattle.std.proofs.Common.{◌≡◌, ℕ, ◌+◌, ◌*◌, ◌≤◌, List, length, refl, ap, ◌∙◌, arith}
use Rattle.call_pieces.specs.tree_meaning.specs.State.{Activation, Extent}
use Rattle.call_pieces.specs.Piece.{long_at, Piece, SameFrom}
use Rattle.call_pieces.proofs.Stores.{piece_kept}
use Rattle.l32_machine.specs.declared.frame.Frame32.{Frame32}
use Rattle.l32_target_meaning.specs.Stack.{argument_of, Holds, Hold, nobody, caller}

-- argument i is counted from 1 where it is spelled
pub argument_at : (fp i : ℕ) → argument_of fp (i + 1) ≡ fp + 4 * i
argument_at fp i = omega arith

pub piece_of : (stack : List ℕ) (fp : ℕ) (f : Frame32) (e : Extent) (a : Activation) (low high : ℕ) → Holds stack fp f e a low high → Piece stack fp fp e a low high
piece_of stack fp f e a low high h = record {
  words = h.words;
  above = omega arith;
  end = h.end;
  locals = h.locals;
  argument = λ i v is. ap (long_at stack) (argument_at' i) ∙ h.argument i v is;
  is_local = h.is_local;
  local = h.local;
  pushed = h.pushed;
}
  where
    argument_at' : (i : ℕ) → fp + 4 * i ≡ argument_of fp (i + 1)
    argument_at' i = omega arith

-- a piece of the same call, with other contents
pub holds_of : (stack : List ℕ) (fp : ℕ) (f : Frame32) (e : Extent) (a : Activation) (low high : ℕ) → Holds stack fp f e a low high
    → (new : List ℕ) (b : Activation) (down : ℕ) → length b.arguments ≡ length a.arguments → Piece new fp fp e b down high → Holds new fp f e b down high
holds_of stack fp f e a low high h new b down size p = record {
  words = p.words;
  end = p.end;
  aligned = h.aligned;
  locals = p.locals;
  pops = h.pops;
  few = omega (arith, h.few, size);
  registers = h.registers;
  longwords = h.longwords;
  argument = λ i v is. ap (long_at new) (argument_at fp i) ∙ p.argument i v is;
  is_local = p.is_local;
  local = p.local;
  pushed = p.pushed;
}

pub holds_kept : (stack : List ℕ) (fp : ℕ) (f : Frame32) (e : Extent) (a : Activation) (low high : ℕ) → Holds stack fp f e a low high
    → (new : List ℕ) → SameFrom low stack new → Holds new fp f e a low high
holds_kept stack fp f e a low high h new same =
    holds_of stack fp f e a low high h new a low refl (piece_kept stack fp fp e a low high (piece_of stack fp f e a low high h) new same)

pub low_high : (stack : List ℕ) (fp : ℕ) (f : Frame32) (e : Extent) (a : Activation) (low high : ℕ) → Holds stack fp f e a low high → low ≤ high
low_high stack fp f e a low high h = omega (arith, h.words, h.end)

-- ---- all pieces

pub hold_kept : (stack new : List ℕ) (fp : ℕ) (frames : List Frame32) (es : List Extent) (xs : List Activation) (low : ℕ) → Hold stack fp frames es xs low
    → SameFrom low stack new → Hold new fp frames es xs low
hold_kept stack new fp frames es xs low (nobody fp') same = nobody fp
hold_kept stack new fp frames es xs low (caller fp' outer all f e rest_e a rest low' high eq here outside) same =
    let up = low_high stack fp f e a low high here in
    caller fp outer all f e rest_e a rest low high eq (holds_kept stack fp f e a low high here new same)
    (hold_kept stack new f.fp outer rest_e rest high outside (λ x from. same x (omega (arith, up, from))))

pub hold_end : (stack : List ℕ) (fp : ℕ) (frames : List Frame32) (es : List Extent) (xs : List Activation) (low : ℕ) → Hold stack fp frames es xs low → low ≤ 2147483648
hold_end stack fp frames es xs low (nobody fp') = omega arith
hold_end stack fp frames es xs low (caller fp' outer all f e rest_e a rest low' high eq here outside) =
    let up = low_high stack fp f e a low high here in
    let end = hold_end stack f.fp outer rest_e rest high outside in
    omega (arith, up, end)

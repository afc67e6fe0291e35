-- The block of memory locals: what is taken lies behind what was taken before.
use Rattle.std.proofs.Common.{◌≡◌, ℕ, ◌+◌, ◌≤◌, true, List, length, refl, arith}
use Rattle.std.specs.Prelude.{min}
use Rattle.c_types.specs.declared.types.CType.{CType}
use Rattle.c_types.specs.declared.types.CType.TheVariants as types
use Rattle.c_types.specs.declared.types.Integer.TheVariants as ints
use Rattle.c_types.specs.Types.{integer_size, size_of, is_scalar}
use Rattle.c_typed_scope.specs.declared.entry.Entry.{Entry}
use Rattle.c_typed_scope.specs.Layout.{aligned}
use Rattle.c_typed_law.specs.c_typed_definition.specs.Rooms.{Room, offset_in, taking}
use Rattle.c_typed_law.specs.c_typed_definition.specs.State.{State, with_memory}
use Rattle.c_sound_bodies.specs.States.{IsKnown, OfVariable, InOrder, Grows}
use Rattle.c_sound_bodies.proofs.Names.{scope_more, scope_named, known_more, named_outer}
use Rattle.c_sound_bodies.proofs.Growth.{extends_same}

-- a value has bytes
pub some_bytes : (t : CType) → is_scalar t ≡ true → 1 ≤ size_of t
unfolding size_of integer_size is_scalar
some_bytes types.Void h = absurd (cc)
some_bytes (types.Integer ints.Char) h = omega arith
some_bytes (types.Integer ints.UnsignedChar) h = omega arith
some_bytes (types.Integer ints.Short) h = omega arith
some_bytes (types.Integer ints.UnsignedShort) h = omega arith
some_bytes (types.Integer ints.Int) h = omega arith
some_bytes (types.Pointer b n) h = omega arith

aligned_above : (x : ℕ) (t : CType) → is_scalar t ≡ true → x ≤ aligned x (size_of t)
unfolding aligned size_of integer_size is_scalar
aligned_above x types.Void h = absurd (cc)
aligned_above x (types.Integer ints.Char) h = omega arith
aligned_above x (types.Integer ints.UnsignedChar) h = omega arith
aligned_above x (types.Integer ints.Short) h = omega arith
aligned_above x (types.Integer ints.UnsignedShort) h = omega arith
aligned_above x (types.Integer ints.Int) h = omega arith
aligned_above x (types.Pointer b n) h = omega arith

-- what is taken lies in the block, behind what was there
pub record Taken (t : CType) (size : ℕ) (r : Room) : Type 0 where
  pub behind : r.length ≤ offset_in (size_of t) r
  pub end : offset_in (size_of t) r + size ≤ (taking (size_of t) size r).length

taken_by : (length offset size end : ℕ) → min length 262145 ≤ offset → end ≡ min (offset + size) 262145 → end ≤ 262144 →
    (length ≤ offset) × (offset + size ≤ end)
taken_by length offset size end above is small = (omega arith, omega arith)

pub taken : (t : CType) (size : ℕ) (r : Room) → is_scalar t ≡ true → (taking (size_of t) size r).length ≤ 262144 → Taken t size r
taken t size r scalar small =
    let h = taken_by r.length (offset_in (size_of t) r) size (taking (size_of t) size r).length (aligned_above (min r.length 262145) t scalar) refl small in
    record { behind = h.0; end = h.1 }

-- so many bytes from an offset on lie in the block
abbrev pub Lies : State → ℕ → ℕ → Type 0
Lies s o n = s.room.length ≤ 262144 → o + n ≤ s.room.length

pub lies_further : (s r : State) (o n : ℕ) → Grows s r → Lies s o n → Lies r o n
lies_further s r o n h lies small =
    let before : s.room.length ≤ r.room.length = h.room small in
    let inside : o + n ≤ s.room.length = lies (omega arith) in
    omega arith

module _ (t : CType) (size : ℕ) (n : List ℕ) (e : Entry) (s : State) (scalar : is_scalar t ≡ true) where
  -- a memory local's bytes
  pub memory_lies : Lies (with_memory (size_of t) size n e s) (offset_in (size_of t) s.room) size
  memory_lies small = (taken t size s.room scalar small).end

  memory_before : (taking (size_of t) size s.room).length ≤ 262144 → s.room.length ≤ (taking (size_of t) size s.room).length
  memory_before small =
      let h = taken t size s.room scalar small in
      let behind : s.room.length ≤ offset_in (size_of t) s.room = h.behind in
      let end : offset_in (size_of t) s.room + size ≤ (taking (size_of t) size s.room).length = h.end in
      omega arith

  pub memory_grows : Grows s (with_memory (size_of t) size n e s)
  memory_grows = record {
    locals = omega arith;
    registers = λ x. x;
    room = memory_before;
    stores = refl;
    area = extends_same s.area;
    outer = named_outer n e s.scope;
  }

  -- its name is in scope
  pub memory_order : (scope : ℕ → Type 0) (parameters : ℕ) → InOrder scope parameters s →
      ((taking (size_of t) size s.room).length ≤ 262144 →
      OfVariable (IsKnown scope (length s.locals) parameters (length s.area.objects) (taking (size_of t) size s.room).length) e) →
      InOrder scope parameters (with_memory (size_of t) size n e s)
  memory_order scope parameters o of =
      let end = (taking (size_of t) size s.room).length in
      let old = IsKnown scope (length s.locals) parameters (length s.area.objects) s.room.length in
      let new = IsKnown scope (length s.locals) parameters (length s.area.objects) end in
      record {
        names = λ small. let before : s.room.length ≤ end = memory_before small in
            scope_named new s.scope n e
            (scope_more old new s.scope (known_more scope scope (length s.locals) parameters (length s.area.objects) s.room.length
            (length s.locals) (length s.area.objects) end (λ m k. k) (omega arith) (omega arith) before) (o.names (omega arith)))
            (of small);
        laying = o.laying;
      }

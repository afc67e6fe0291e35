-- What leaves a state standing for a state of a tree program, and what is read in such a state.
use Rattle.std.proofs.Common.{◌≡◌, ℕ, ◌+◌, ◌-◌, ◌*◌, ◌^◌, ◌<◌, ◌≤◌, Bool, true, false, cond, List, length, Some, None, Ok, Err, refl, sym, ap, subst, ◌∙◌, arith}
use Rattle.std.proofs.Common.{length-set}
use Rattle.std.specs.Prelude.{slice_get, nat_lt, nat_le, ◌&&◌}
use Rattle.std.proofs.lemmas.Bool.{le-ltb, leb-true}
use Rattle.std.proofs.lemmas.Option.{slice_get_within, same_Some}
use Rattle.gg_base.specs.declared.size.Size.{Size}
use Rattle.gg_base.specs.declared.size.Size.TheVariants.{Long}
use Rattle.gg_base.specs.Arithmetic.{sub32}
use Rattle.gg_base.specs.Sizes.{bytes_of}
use Rattle.gg_base.specs.LittleEndian.{number_in, with_number}
use Rattle.tree_core.specs.declared.program.Object.{Object}
use Rattle.tree_core.specs.Area as trees
use Rattle.call_pieces.specs.tree_meaning.specs.State.{State as Trees, Activation, Extent}
use Rattle.call_pieces.specs.tree_meaning.specs.Steps.{with_local_set, with_pushed, without_pushed, with_result}
use Rattle.call_pieces.specs.Piece.{long_at, word_of, Piece, SameFrom}
use Rattle.call_pieces.specs.Laws.{with_long}
use Rattle.call_pieces.proofs.Longs.{stored_below}
use Rattle.call_pieces.proofs.Stores.{low_fp, fp_high, word_low, word_high, local_word, argument_high, word_stored, local_stored, argument_stored, push_stored, piece_popped}
use Rattle.l32_machine.specs.State.{State, with_reg, stack_full, ◌>>=◌}
use Rattle.l32_machine.specs.Memory.{read, written, sp_set}
use Rattle.l32_machine.specs.Calls.{pushed}
use Rattle.l32_target_meaning.specs.vax_target_meaning.specs.vax_machine.specs.Area.{label_address}
use Rattle.l32_target_meaning.specs.Stack.{argument_of, Holds, Hold}
use Rattle.l32_target_meaning.specs.Agreeing.{IsSound, Agrees, HasRoom}
use Rattle.l32_states.specs.Sentences.{with_argument}
use Rattle.l32_states.proofs.Touching.{stack_read, stack_written, area_read, area_written}
use Rattle.l32_states.proofs.Sound.{sound_register, sound_sp, sound_stack, sound_area}
use Rattle.l32_states.proofs.Pieces.{argument_at, piece_of, holds_of, hold_kept, hold_end}

module _ (objects : List Object) (e : Extent) (es : List Extent) (t : Trees) (m : State) (h : Agrees objects e es t m) where
  -- ---- where things are

  pub the_piece : Piece m.stack m.fp m.fp e t.running m.sp h.high
  the_piece = piece_of m.stack m.fp h.innermost e t.running m.sp h.high h.running

  pub high_top : h.high ≤ 2147483648
  high_top = hold_end m.stack h.innermost.fp h.outer es t.callers h.high h.callers

  high_stack : h.high ≤ 2139095040 + length m.stack
  high_stack = omega (arith, high_top, h.sound.stack)

  pub sp_fp : m.sp ≤ m.fp
  sp_fp = low_fp m.stack m.fp m.fp e t.running m.sp h.high the_piece

  pub fp_high_is : m.fp ≤ h.high
  fp_high_is = fp_high m.stack m.fp m.fp e t.running m.sp h.high the_piece

  pub word_from : (k : ℕ) → k < e.words → 2139095040 ≤ word_of m.fp k
  word_from k lt = let over = word_low m.stack m.fp m.fp e t.running m.sp h.high the_piece k lt in omega (arith, over, h.bottom)

  pub word_to : (k : ℕ) → k < e.words → word_of m.fp k + 4 ≤ m.fp
  word_to k lt = word_high m.stack m.fp m.fp e t.running m.sp h.high the_piece k lt

  pub argument_to : (k : ℕ) → k < length t.running.arguments → m.fp + 4 * k + 4 ≤ h.high
  argument_to k lt = argument_high m.stack m.fp m.fp e t.running m.sp h.high the_piece k lt

  -- ---- what is read

  pub word_read : (k : ℕ) → k < e.words → read m (word_of m.fp k) Long ≡ Ok (long_at m.stack (word_of m.fp k))
  word_read k lt =
      let to = word_to k lt in
      stack_read m (word_of m.fp k) Long h.sound.area (word_from k lt) (omega (arith, to, fp_high_is, high_top))

  pub local_read : (k v : ℕ) → t.running.locals k ≡ Some v → read m (word_of m.fp k) Long ≡ Ok v
  local_read k v is =
      word_read k (local_word m.stack m.fp m.fp e t.running m.sp h.high the_piece k v is) ∙ ap (λ (w : ℕ). Ok w) (h.running.local k v is)

  pub argument_read : (i v : ℕ) → slice_get t.running.arguments i ≡ Some v → read m (argument_of m.fp (i + 1)) Long ≡ Ok v
  argument_read i v is =
      let there = slice_get_within t.running.arguments i v is in
      let under = argument_to i there in
      let down = sp_fp in
      stack_read m (argument_of m.fp (i + 1)) Long h.sound.area (omega (arith, down, h.bottom)) (omega (arith, under, high_top))
      ∙ ap (λ (w : ℕ). Ok w) (h.running.argument i v is)

  pub pushed_read : (v : ℕ) → slice_get t.running.pushed 0 ≡ Some v → read m m.sp Long ≡ Ok v
  pushed_read v is =
      let some = slice_get_within t.running.pushed 0 v is in
      let z : m.sp + 4 * 0 ≡ m.sp = omega arith in
      let top : m.sp + 4 ≤ 2147483648 = omega (arith, h.running.words, some, fp_high_is, high_top) in
      stack_read m m.sp Long h.sound.area h.bottom top ∙ ap (λ (x : ℕ). Ok x) (sym (ap (λ (a : ℕ). long_at m.stack a) z) ∙ h.running.pushed 0 v is)

  -- a number in the data area
  area_read_by : (size : Size) (a v : ℕ) (b c : Bool) → nat_le 65536 a ≡ b → nat_le (a + bytes_of size) (65536 + length t.area) ≡ c
      → cond (b && c) (Some (number_in size t.area (a - 65536))) None ≡ Some v → read m a size ≡ Ok v
  area_read_by size a v false c p q is = absurd cc
  area_read_by size a v true false p q is = absurd cc
  area_read_by size a v true true p q is =
      let low = leb-true 65536 a p in
      let up : a + bytes_of size ≤ 65536 + length m.area = omega (arith, leb-true (a + bytes_of size) (65536 + length t.area) q, ap length h.area) in
      area_read m a size low up ∙ ap (λ (x : ℕ). Ok x) (ap (λ (l : List ℕ). number_in size l (a - 65536)) h.area ∙ same_Some (number_in size t.area (a - 65536)) v is)

  pub area_read_so : (size : Size) (a v : ℕ) → trees.fetched size t.area a ≡ Some v → read m a size ≡ Ok v
  area_read_so size a v is = area_read_by size a v (nat_le 65536 a) (nat_le (a + bytes_of size) (65536 + length t.area)) refl refl is

  -- ---- what stays

  -- the trees' state may have another innermost call, as long as the outer calls hold the same
  pub rebuilt : (n : State) (s : Trees) → IsSound n → n.layout ≡ m.layout → n.area ≡ s.area → n.input ≡ s.input → n.frames ≡ m.frames
      → Holds n.stack n.fp h.innermost e s.running n.sp h.high → s.callers ≡ t.callers → SameFrom h.high m.stack n.stack → 2139095040 ≤ n.sp → Agrees objects e es s n
  rebuilt n s sound layout area input frames holds callers same low = record {
    sound = sound;
    labelled = λ i o is. ap (λ l. label_address l o.label) layout ∙ h.labelled i o is;
    area = area;
    input = input;
    innermost = h.innermost;
    outer = h.outer;
    high = h.high;
    frames = frames ∙ h.frames;
    running = holds;
    callers =
        subst (λ (x : List Activation). Hold n.stack h.innermost.fp h.outer es x h.high) (sym callers)
        (hold_kept m.stack n.stack h.innermost.fp h.outer es t.callers h.high h.callers same);
    bottom = low;
  }

  pub register_kept : (r v : ℕ) → v < 2 ^ 32 → Agrees objects e es t (with_reg m r v)
  register_kept r v fits =
      rebuilt (with_reg m r v) t (sound_register m r v h.sound fits) refl h.area h.input refl h.running refl (λ a from. refl) h.bottom

  pub result_kept : (v : ℕ) → Agrees objects e es (with_result t v) m
  result_kept v =
      let p = the_piece in
      rebuilt m (with_result t v) h.sound refl h.area h.input refl
      (holds_of m.stack m.fp h.innermost e t.running m.sp h.high h.running m.stack (with_result t v).running m.sp refl
      (record { words = p.words; above = p.above; end = p.end; locals = p.locals; argument = p.argument; is_local = p.is_local; local = p.local; pushed = p.pushed }))
      refl (λ a from. refl) h.bottom

  pub popped_kept : (count : ℕ) → count ≤ length t.running.pushed → Agrees objects e es (without_pushed t count) (record m { sp = m.sp + 4 * count })
  popped_kept count le =
      rebuilt (record m { sp = m.sp + 4 * count }) (without_pushed t count) (sound_sp m (m.sp + 4 * count) h.sound) refl h.area h.input refl
      (holds_of m.stack m.fp h.innermost e t.running m.sp h.high h.running m.stack (without_pushed t count).running (m.sp + 4 * count) refl
      (piece_popped m.stack m.fp m.fp e t.running m.sp h.high the_piece count le))
      refl (λ a from. refl) (omega (arith, h.bottom))

  -- ---- what is written

  abbrev with_stack : ℕ → ℕ → State
  with_stack a v = record m { stack = with_long m.stack a v }

  in_stack : (a v : ℕ) → 2139095040 ≤ a → a + 4 ≤ h.high → written m a Long v ≡ Ok (with_stack a v)
  in_stack a v low up = stack_written m a Long v h.sound.area low (omega (arith, up, high_top))

  -- a longword of the innermost call's own piece
  stored_own : (a v : ℕ) (s : Trees) → 2139095040 ≤ a → a + 4 ≤ h.high → t.area ≡ s.area → t.input ≡ s.input → s.callers ≡ t.callers
      → length s.running.arguments ≡ length t.running.arguments → Piece (with_long m.stack a v) m.fp m.fp e s.running m.sp h.high → Agrees objects e es s (with_stack a v)
  stored_own a v s low up area input callers size piece =
      rebuilt (with_stack a v) s (sound_stack m (a - 2139095040) v h.sound (omega (arith, up, high_top, low))) refl (h.area ∙ area) (h.input ∙ input) refl
      (holds_of m.stack m.fp h.innermost e t.running m.sp h.high h.running (with_long m.stack a v) s.running m.sp size piece)
      callers
      (stored_below m.stack a v h.high low (omega (arith, up, high_stack)) up) h.bottom

  -- a word that may be used freely
  pub word_written : (k v : ℕ) → e.locals ≤ k → k < e.words
      → (written m (word_of m.fp k) Long v ≡ Ok (with_stack (word_of m.fp k) v)) × Agrees objects e es t (with_stack (word_of m.fp k) v)
  word_written k v free lt =
      let low = word_from k lt in
      let to = word_to k lt in
      let up : word_of m.fp k + 4 ≤ h.high = omega (arith, to, fp_high_is) in (
        in_stack (word_of m.fp k) v low up,
        stored_own (word_of m.fp k) v t low up refl refl refl refl (word_stored m.stack m.fp m.fp e t.running m.sp h.high the_piece h.bottom high_stack k v free lt),
      )

  -- a local
  pub local_written : (k v : ℕ) → k < e.locals → v < 2 ^ 32
      → (written m (word_of m.fp k) Long v ≡ Ok (with_stack (word_of m.fp k) v)) × Agrees objects e es (with_local_set t k v) (with_stack (word_of m.fp k) v)
  local_written k v is fits =
      let lt : k < e.words = omega (arith, is, h.running.locals) in
      let low = word_from k lt in
      let to = word_to k lt in
      let up : word_of m.fp k + 4 ≤ h.high = omega (arith, to, fp_high_is) in (
        in_stack (word_of m.fp k) v low up,
        stored_own (word_of m.fp k) v (with_local_set t k v) low up refl refl refl refl
            (local_stored m.stack m.fp m.fp e t.running m.sp h.high the_piece h.bottom high_stack k v is fits),
      )

  -- an argument
  pub argument_written : (k v : ℕ) → k < length t.running.arguments → v < 2 ^ 32
      → (written m (argument_of m.fp (k + 1)) Long v ≡ Ok (with_stack (m.fp + 4 * k) v)) × Agrees objects e es (with_argument t k v) (with_stack (m.fp + 4 * k) v)
  argument_written k v is fits =
      let under = argument_to k is in
      let down = sp_fp in
      let low : 2139095040 ≤ m.fp + 4 * k = omega (arith, down, h.bottom) in (
        ap (λ (a : ℕ). written m a Long v) (argument_at m.fp k) ∙ in_stack (m.fp + 4 * k) v low under,
        stored_own (m.fp + 4 * k) v (with_argument t k v) low under refl refl refl (length-set t.running.arguments k v)
            (argument_stored m.stack m.fp m.fp e t.running m.sp h.high the_piece h.bottom high_stack k v is fits),
      )

  -- a number in the data area
  area_by : (size : Size) (a v : ℕ) (area : List ℕ) (b c : Bool) → nat_le 65536 a ≡ b → nat_le (a + bytes_of size) (65536 + length t.area) ≡ c
      → cond (b && c) (Some (with_number size t.area (a - 65536) v)) None ≡ Some area
      → (written m a size v ≡ Ok (record m { area = area })) × Agrees objects e es (record t { area = area }) (record m { area = area })
  area_by size a v area false c p q is = absurd cc
  area_by size a v area true false p q is = absurd cc
  area_by size a v area true true p q is =
      let low = leb-true 65536 a p in
      let up : a + bytes_of size ≤ 65536 + length m.area = omega (arith, leb-true (a + bytes_of size) (65536 + length t.area) q, ap length h.area) in
      let made : with_number size m.area (a - 65536) v ≡ area =
      ap (λ (l : List ℕ). with_number size l (a - 65536) v) h.area ∙ same_Some (with_number size t.area (a - 65536) v) area is in
      let sound = sound_area m size (a - 65536) v h.sound (omega (arith, low, up)) in (
        area_written m a size v low up ∙ ap (λ (l : List ℕ). Ok (record m { area = l })) made,
        rebuilt (record m { area = area }) (record t { area = area }) (subst (λ (l : List ℕ). IsSound (record m { area = l })) made sound) refl refl h.input refl h.running refl
            (λ x from. refl) h.bottom,
      )

  pub area_written_so : (size : Size) (a v : ℕ) (area : List ℕ) → trees.stored size t.area a v ≡ Some area
      → (written m a size v ≡ Ok (record m { area = area })) × Agrees objects e es (record t { area = area }) (record m { area = area })
  area_written_so size a v area is = area_by size a v area (nat_le 65536 a) (nat_le (a + bytes_of size) (65536 + length t.area)) refl refl is

  -- one more argument is pushed
  abbrev lowered : ℕ → State
  lowered v = record m { sp = m.sp - 4; stack = with_long m.stack (m.sp - 4) v }

  pub push_written : (v : ℕ) → HasRoom m → v < 2 ^ 32 → (pushed m v ≡ Ok (lowered v)) × Agrees objects e es (with_pushed t v) (lowered v)
  unfolding pushed sp_set
  push_written v room fits =
      let space = room.space in
      let top = high_top in
      let up = fp_high_is in
      let down = sp_fp in
      let small : m.sp < 2 ^ 32 = omega (arith, top, up, down) in
      let x : sub32 m.sp 4 ≡ m.sp - 4 = omega (arith, small, space) in
      let set : nat_lt (m.sp - 4) 2139095040 ≡ false = le-ltb (m.sp - 4) 2139095040 (omega (arith, space)) in
      let n = record m { sp = m.sp - 4 } in
      let low : 2139095040 ≤ m.sp - 4 = omega (arith, space) in (
        ap (λ (sp : ℕ). cond (nat_lt sp 2139095040) (Err stack_full) (Ok (record m { sp = sp })) >>= λ (k : State). written k sp Long v) x
            ∙ ap (λ (b : Bool). cond b (Err stack_full) (Ok n) >>= λ (k : State). written k (m.sp - 4) Long v) set
            ∙ stack_written n (m.sp - 4) Long v h.sound.area low (omega (arith, top, up, down)),
        rebuilt (lowered v) (with_pushed t v)
            (sound_stack n (m.sp - 4 - 2139095040) v (sound_sp m (m.sp - 4) h.sound) (omega (arith, top, up, down, space))) refl h.area h.input refl
            (holds_of m.stack m.fp h.innermost e t.running m.sp h.high h.running (with_long m.stack (m.sp - 4) v) (with_pushed t v).running (m.sp - 4) refl
            (push_stored m.stack m.fp m.fp e t.running m.sp h.high the_piece h.bottom high_stack v (omega (arith, space)) fits))
            refl
            (stored_below m.stack (m.sp - 4) v h.high low (omega (arith, top, up, down, space, h.sound.stack)) (omega (arith, up, down, space)))
            low,
      )

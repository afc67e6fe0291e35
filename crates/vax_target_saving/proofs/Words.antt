-- A number stored in a free word of the frame: it is there, and all that doesn't spell the word is kept.
use Rattle.std.proofs.Common.{◌≡◌, ◌⊎◌, inl, inr, ⊎_elim, ℕ, ◌+◌, ◌-◌, ◌*◌, ◌/◌, ◌%◌, ◌^◌, ◌<◌, ◌≤◌, ◌==◌, ◌&&◌, Bool, true, false, cond, Option, Some, None, Result, Ok, Err, List}
use Rattle.std.proofs.Common.{length, refl, sym, ap, subst, ◌∙◌, arith, option_map}
use Rattle.std.specs.Prelude.{nat_le, is_some}
use Rattle.std.specs.Option.{option_and_then}
use Rattle.std.proofs.lemmas.Bool.{le-leb, lt-leb, cases_lt, false≢true, eqb-false, eqb-true, and_from, leb-true}
use Rattle.std.proofs.lemmas.Bool.Decides.{nat_tests}
use Rattle.gg_base.specs.declared.size.Size.{Size}
use Rattle.gg_base.specs.declared.size.Size.TheVariants.{Byte, Word, Long}
use Rattle.gg_base.specs.Arithmetic.{add32, neg32}
use Rattle.gg_base.specs.Sizes.{bytes_of, low}
use Rattle.gg_base.specs.LittleEndian.{with_number}
use Rattle.tree_core.specs.declared.program.Object.{Object}
use Rattle.tree_core.specs.Area.{fetched}
use Rattle.vax_target_spelling.specs.tree_meaning.specs.State.{State as Trees, Extent}
use Rattle.vax_target_spelling.specs.sel_target.specs.Meaning.{is_word}
use Rattle.vax_core.specs.declared.register.Reg.{Reg}
use Rattle.vax_core.specs.declared.register.Reg.TheVariants.{Ap, Fp, Sp}
use Rattle.vax_core.specs.declared.operand.Addr.{Addr}
use Rattle.vax_core.specs.declared.operand.Base.{Base}
use Rattle.vax_core.specs.declared.operand.Base.TheVariants as bases
use Rattle.vax_core.specs.declared.operand.Operand.{Operand}
use Rattle.vax_machine_live.specs.declared.frame.Frame.{Frame}
use Rattle.vax_machine_live.specs.Control.{in_control}
use Rattle.vax_machine.specs.declared.turn.Stop.{Stop}
use Rattle.vax_machine.specs.declared.function.Conditions.{Conditions}
use Rattle.vax_machine.specs.declared.memory.Region.{Region}
use Rattle.vax_machine.specs.declared.memory.Region.TheVariants as regions
use Rattle.vax_machine.specs.State.{State, reg, with_conditions, access, frame, ◌>>=◌}
use Rattle.vax_machine.specs.Area.{resolved_of}
use Rattle.vax_machine.specs.Memory.{touched, number_at, with_number_at, read, written}
use Rattle.vax_target_spelling.specs.vax_machine_lists.specs.Sound.{AllBelow}
use Rattle.vax_target_spelling.specs.vax_machine_lists.proofs.Soundness.{conditions_sound}
use Rattle.vax_target_spelling.specs.vax_states.specs.Stack.{word_of}
use Rattle.vax_target_spelling.specs.vax_states.specs.Agreeing.{Agrees, HasRoom}
use Rattle.vax_target_spelling.specs.vax_states.proofs.Pieces.{word_low, word_high, words_free}
use Rattle.vax_target_spelling.specs.vax_states.proofs.Standing.{high_top, fp_high_is, word_written}
use Rattle.vax_target_spelling.specs.vax_templates.specs.FrameWords.{word_below, word_with_name, word_behind}
use Rattle.vax_target_spelling.specs.vax_templates.specs.FrameWords as words
use Rattle.vax_target_spelling.specs.vax_target_meaning.specs.Reading as reading
use Rattle.vax_target_spelling.specs.vax_target_meaning.specs.Reading.{is_argument, is_own, is_own_base, is_own_place, number_of, displaced, named, moved, names, in_memory, reads}
use Rattle.vax_target_saving.proofs.Bytes.{number_outside, number_there, merged_long, as_long}

-- where word w of the innermost frame lies
abbrev pub place_of : State → ℕ → ℕ
place_of m w = word_of (reg m Fp) w

-- a number stored there
abbrev pub stored_in : State → ℕ → Size → ℕ → State
stored_in m w size x = record m { stack = with_number size m.stack (place_of m w - 2139095040) x }

-- word w of the innermost frame lies in the stack, below the arguments, where no control words are
pub record IsFrameWord (m : State) (w : ℕ) : Type 0 where
  pub low : 2139095040 ≤ place_of m w
  pub far : 4 * (w + 1) ≤ reg m Fp
  pub high : reg m Fp ≤ reg m Ap
  pub top : reg m Ap + 1024 < 2 ^ 32
  pub end : reg m Fp ≤ 2147483648
  pub area : length m.area ≤ 1048576
  pub stack : length m.stack ≡ 8388608
  pub bytes : AllBelow 256 m.stack
  pub free : (k : ℕ) → k ≤ 4 → in_control m.frames (place_of m w) k ≡ false

pub frame_word : (objects : List Object) (e : Extent) (es : List Extent) (t : Trees) (m : State) (h : Agrees objects e es t m) (w : ℕ) → w < e.words → IsFrameWord m w
frame_word objects e es t m h w lt =
    let over = word_low m.stack h.innermost e t.running (reg m Sp) h.high h.running w lt in
    let under = word_high m.stack h.innermost e t.running (reg m Sp) h.high h.running w lt in
    let up = fp_high_is objects e es t m h in
    let end = high_top objects e es t m h in
    let control = h.running.control in
    let top = h.running.top in
    let last = h.running.end in
    record {
      low = subst (λ a. 2139095040 ≤ word_of a w) (sym h.fp) (omega (arith, over, h.bottom));
      far = omega (arith, h.fp, over, under, h.bottom);
      high = omega (arith, h.fp, h.ap, control, top);
      top = omega (arith, h.ap, last, end);
      end = omega (arith, h.fp, up, end);
      area = h.sound.area;
      stack = h.sound.stack;
      bytes = h.sound.stack_bytes;
      free = λ k le. ap (λ (a : ℕ). in_control m.frames (word_of a w) k) h.fp ∙ (ap (λ (fs : List Frame). in_control fs (word_of h.innermost.fp w) k) h.frames
          ∙ words_free m.stack h.outer h.innermost e es t.running t.callers (reg m Sp) h.high h.running h.callers (word_of h.innermost.fp w) k (omega (arith, under, le)));
    }

few_bytes : (size : Size) → bytes_of size ≤ 4
few_bytes Byte = omega arith
few_bytes Word = omega arith
few_bytes Long = omega arith

module _ (m : State) (w : ℕ) (f : IsFrameWord m w) where
  is_touched : (size : Size) → touched m (place_of m w) size ≡ Ok (regions.Stack (place_of m w - 2139095040))
  unfolding touched
  is_touched size =
      let a = place_of m w in
      let few = few_bytes size in
      let p : nat_le 65536 a ≡ true = le-leb 65536 a (omega (arith, f.low)) in
      let q : nat_le (a + bytes_of size) (65536 + length m.area) ≡ false = lt-leb (a + bytes_of size) (65536 + length m.area) (omega (arith, f.low, f.area)) in
      let r : nat_le 2139095040 a ≡ true = le-leb 2139095040 a f.low in
      let s : nat_le (a + bytes_of size) 2147483648 ≡ true = le-leb (a + bytes_of size) 2147483648 (omega (arith, f.end, f.far, few)) in
      let free : in_control m.frames a (bytes_of size) ≡ false = f.free (bytes_of size) few in
      rw (p, q, r, s, free) refl

  pub is_written : (size : Size) (x : ℕ) → written m (place_of m w) size x ≡ Ok (stored_in m w size x)
  unfolding written
  is_written size x = ap (λ (y : Result Region Stop). y >>= λ (r : Region). Ok (with_number_at m size x r)) (is_touched size)

  fits : place_of m w - 2139095040 + 4 ≤ length m.stack
  fits = omega (arith, f.low, f.stack, f.end, f.far)

  module _ (size : Size) (x : ℕ) (k : Conditions) where
    abbrev after : State
    after = with_conditions (stored_in m w size x) k

    -- ---- what is read

    abbrev Apart : ℕ → Size → Type 0
    Apart a y = (a + bytes_of y ≤ place_of m w) ⊎ (place_of m w + 4 ≤ a)

    in_bytes : (a : ℕ) (y : Size) → 2139095040 ≤ a → Apart a y →
        (a - 2139095040 + bytes_of y ≤ place_of m w - 2139095040) ⊎ (place_of m w - 2139095040 + bytes_of size ≤ a - 2139095040)
    in_bytes a y from (inl h) = inl (omega (arith, from, h, f.low))
    in_bytes a y from (inr h) = inr (omega (arith, from, h, f.low, few_bytes size))

    read_apart : (a : ℕ) (y : Size) → Apart a y → read after a y ≡ read m a y
    unfolding read touched
    read_apart a y apart =
        by (nat_le 65536 a && nat_le (a + bytes_of y) (65536 + length m.area)) (nat_le 2139095040 a) (nat_le (a + bytes_of y) 2147483648) (in_control m.frames a (bytes_of y)) refl where
          by : (b c d e : Bool) → nat_le 2139095040 a ≡ c →
              (cond b (Ok (regions.Area (a - 65536))) (cond (c && d) (cond e (Err frame) (Ok (regions.Stack (a - 2139095040)))) (Err access)) >>= λ (r : Region). Ok (number_at after y r))
              ≡ (cond b (Ok (regions.Area (a - 65536))) (cond (c && d) (cond e (Err frame) (Ok (regions.Stack (a - 2139095040)))) (Err access)) >>= λ (r : Region). Ok (number_at m y r))
          by true c d e is = refl
          by false false d e is = refl
          by false true false e is = refl
          by false true true true is = refl
          by false true true false is =
              let from : 2139095040 ≤ a = grind (arith, nat_tests) in
              ap (λ (n : ℕ). Ok n) (number_outside size y m.stack (place_of m w - 2139095040) (a - 2139095040) x fits (in_bytes a y from apart))

    pub read_there : x < 2 ^ 32 → read after (place_of m w) size ≡ Ok (low size x)
    unfolding read touched
    read_there lt =
        ap (λ (y : Result Region Stop). y >>= λ (r : Region). Ok (number_at after size r)) (is_touched size)
        ∙ ap (λ (n : ℕ). Ok n) (number_there size m.stack (place_of m w - 2139095040) x fits lt)

    -- ---- operands

    -- another word of the frame lies apart, and so do the arguments
    other_word : (n y : ℕ) → 4 ≤ n → n ≤ 4096 → n % 4 ≡ 0 → (n / 4 - 1 ≡ w → ⊥) → y ≤ 4 → n ≤ reg m Fp → (reg m Fp - n + y ≤ place_of m w) ⊎ (place_of m w + 4 ≤ reg m Fp - n)
    other_word n y low high even ne le far =
        ⊎_elim (λ lt. inr (let q : n / 4 - 1 < w = lt in omega (arith, q, low, even, far, f.far)))
        (λ le'. inl (omega (arith, le', ne, low, even, far, f.far, le))) (cases_lt (n / 4 - 1) w)

    all_three : (a b c : Bool) (o : ℕ) → is_some (cond (a && (b && c)) (Some o) None) ≡ true → (a ≡ true) × (b ≡ true) × (c ≡ true)
    all_three true true true o e = (refl, refl, refl)
    all_three true true false o e = absurd (false≢true e)
    all_three true false c o e = absurd (false≢true e)
    all_three false b c o e = absurd (false≢true e)

    two_more : (a b c : Bool) → (a && (b && c)) ≡ true → (a ≡ true) × (b ≡ true) × (c ≡ true)
    two_more true true true e = (refl, refl, refl)
    two_more true true false e = absurd (false≢true e)
    two_more true false c e = absurd (false≢true e)
    two_more false b c e = absurd (false≢true e)

    by_word : (n : ℕ) → is_some (word_below n) ≡ true → is_word (word_below n) w ≡ false → (4 ≤ n) × (n ≤ 4096) × (n % 4 ≡ 0) × (n / 4 - 1 ≡ w → ⊥)
    by_word n some other =
        let t = all_three (nat_le 4 n) (nat_le n 4096) (n % 4 == 0) (n / 4 - 1) some in (
          leb-true 4 n t.0,
          leb-true n 4096 t.1,
          eqb-true (n % 4) 0 t.2,
          eqb-false (n / 4 - 1) w (ap (λ b. is_word (cond b (Some (n / 4 - 1)) None) w) (sym (and_from (nat_le 4 n) (nat_le n 4096 && (n % 4 == 0)) t.0
              (and_from (nat_le n 4096) (n % 4 == 0) t.1 t.2))) ∙ other),
        )

    behind_fp : (offset n : ℕ) → n ≡ neg32 offset → 4 ≤ n → n ≤ 4096 → 2139095040 ≤ reg m Fp → reg m Fp < 2 ^ 32 → add32 offset (reg m Fp) ≡ reg m Fp - n
    behind_fp offset n is low high from to = omega (arith, is, low, high, from, to)

    word_apart : (name : Option (List ℕ)) (offset : ℕ) (y : Size) → is_some (word_with_name name offset) ≡ true → is_word (word_with_name name offset) w ≡ false →
        Apart (add32 (resolved_of m.layout name offset) (reg m Fp)) y
    word_apart None offset y some other =
        let b = by_word (neg32 offset) some other in
        let from : 2139095040 ≤ reg m Fp = omega (arith, f.low, f.far) in
        let e = behind_fp offset (neg32 offset) refl b.0 b.1 from (omega (arith, f.end)) in
        subst (λ a. Apart a y) (sym e) (other_word (neg32 offset) (bytes_of y) b.0 b.1 b.2 b.3 (few_bytes y) (omega (arith, b.1, from)))
    word_apart (Some name) offset y some other = absurd (false≢true some)

    argument_apart : (name : Option (List ℕ)) (offset : ℕ) (y : Size) → is_argument name offset ≡ true → Apart (add32 (resolved_of m.layout name offset) (reg m Ap)) y
    argument_apart None offset y e =
        let t = two_more (nat_le 4 offset) (nat_le offset 1020) (offset % 4 == 0) e in
        let least = leb-true 4 offset t.0 in
        let most = leb-true offset 1020 t.1 in
        let sum : add32 offset (reg m Ap) ≡ reg m Ap + offset = omega (arith, most, f.top) in
        inr (omega (arith, sum, least, f.high, f.far))
    argument_apart (Some name) offset y e = absurd (false≢true e)

    own_apart : (r : Reg) (a : Addr) (y : Size) → is_own r a ≡ true → is_word (word_behind r a) w ≡ false → Apart (displaced m r a) y
    own_apart Fp a y own other = word_apart a.name a.offset y own other
    own_apart Ap a y own other = argument_apart a.name a.offset y own
    own_apart r a y own other = absurd (false≢true own)

    at_own : (own : Bool) (r : Reg) (a : Addr) (y : Size) → is_own r a ≡ own → is_word (word_behind r a) w ≡ false →
        reading.number_at own after (displaced m r a) y ≡ reading.number_at own m (displaced m r a) y
    at_own true r a y is other = ap number_of (read_apart (displaced m r a) y (own_apart r a y is other))
    at_own false r a y is other = refl

    named_kept : (b : Base) → is_word (words.word_of b) w ≡ false → named after b ≡ named m b
    named_kept (bases.Imm a) other = refl
    named_kept (bases.Reg r) other = refl
    named_kept (bases.Def r) other = refl
    named_kept (bases.Inc r) other = refl
    named_kept (bases.IncDef r) other = refl
    named_kept (bases.Dec r) other = refl
    named_kept (bases.Disp a r) other = refl
    named_kept (bases.DispDef a r) other = at_own (is_own r a) r a Long refl other
    named_kept (bases.Abs n) other = refl
    named_kept (bases.Rel a) other = refl
    named_kept (bases.RelDef a) other = refl

    pub names_kept : (o : Operand) (y : Size) → is_word (words.word_of o.base) w ≡ false → names o y after ≡ names o y m
    names_kept o y other = ap (option_map (moved m o.index y)) (named_kept o.base other)

    in_area : (o : Operand) (y : Size) → is_own_place o ≡ false → is_word (words.word_of o.base) w ≡ false → in_memory o y after ≡ in_memory o y m
    in_area o y own other =
        ap (λ b. option_and_then (λ a. reading.number_at b after a y) (names o y after)) own
        ∙ ap (option_and_then (λ a. fetched y m.area a)) (names_kept o y other)
        ∙ ap (λ b. option_and_then (λ a. reading.number_at b m a y) (names o y m)) (sym own)

    disp_kept : (a : Addr) (r : Reg) (i : Option Reg) (y : Size) → is_word (word_behind r a) w ≡ false →
        in_memory (record { base = bases.Disp a r; index = i }) y after ≡ in_memory (record { base = bases.Disp a r; index = i }) y m
    disp_kept a r None y other = at_own (is_own r a) r a y refl other
    disp_kept a r (Some i) y other = refl

    no_own : (b : Base) (i : Option Reg) → is_own_base b ≡ false → is_own_place (record { base = b; index = i }) ≡ false
    no_own b None e = e
    no_own b (Some i) e = refl

    by_base : (b : Base) (i : Option Reg) (y : Size) → is_word (words.word_of b) w ≡ false → reads (record { base = b; index = i }) y after ≡ reads (record { base = b; index = i }) y m
    by_base (bases.Imm a) i y other = refl
    by_base (bases.Reg r) i y other = refl
    by_base (bases.Def r) i y other = in_area (record { base = bases.Def r; index = i }) y (no_own (bases.Def r) i refl) other
    by_base (bases.Inc r) i y other = refl
    by_base (bases.IncDef r) i y other = refl
    by_base (bases.Dec r) i y other = refl
    by_base (bases.Disp a r) i y other = disp_kept a r i y other
    by_base (bases.DispDef a r) i y other = in_area (record { base = bases.DispDef a r; index = i }) y (no_own (bases.DispDef a r) i refl) other
    by_base (bases.Abs n) i y other = in_area (record { base = bases.Abs n; index = i }) y (no_own (bases.Abs n) i refl) other
    by_base (bases.Rel a) i y other = in_area (record { base = bases.Rel a; index = i }) y (no_own (bases.Rel a) i refl) other
    by_base (bases.RelDef a) i y other = in_area (record { base = bases.RelDef a; index = i }) y (no_own (bases.RelDef a) i refl) other

    pub reads_kept : (o : Operand) (y : Size) → is_word (words.word_of o.base) w ≡ false → reads o y after ≡ reads o y m
    reads_kept o y other = by_base o.base o.index y other

-- ---- the state still stands for the trees' one

agrees_codes : (objects : List Object) (e : Extent) (es : List Extent) (t : Trees) (n : State) (k : Conditions) → Agrees objects e es t n → Agrees objects e es t (with_conditions n k)
agrees_codes objects e es t n k h = record {
  sound = conditions_sound n k h.sound;
  labelled = h.labelled;
  area = h.area;
  input = h.input;
  innermost = h.innermost;
  outer = h.outer;
  high = h.high;
  frames = h.frames;
  fp = h.fp;
  ap = h.ap;
  running = h.running;
  callers = h.callers;
  bottom = h.bottom;
}

pub agrees_kept : (objects : List Object) (e : Extent) (es : List Extent) (t : Trees) (m : State) (h : Agrees objects e es t m) (w : ℕ) (size : Size) (x : ℕ) (k : Conditions) →
    e.locals ≤ w → w < e.words → Agrees objects e es t (with_conditions (stored_in m w size x) k)
agrees_kept objects e es t m h w size x k free lt =
    let g = frame_word objects e es t m h w lt in
    let y = merged_long size m.stack (place_of m w - 2139095040) x in
    let long = (word_written objects e es t m h w y free lt).1 in
    let there = subst (λ (a : ℕ). Agrees objects e es t (record m { stack = with_number Long m.stack (word_of a w - 2139095040) y })) (sym h.fp) long in
    agrees_codes objects e es t (stored_in m w size x) k
    (subst (λ (l : List ℕ). Agrees objects e es t (record m { stack = l }))
    (sym (as_long size m.stack (place_of m w - 2139095040) x g.bytes (omega (arith, g.low, g.stack, g.end, g.far)))) there)

pub room_kept : (m : State) (w : ℕ) (size : Size) (x : ℕ) (k : Conditions) → HasRoom m → HasRoom (with_conditions (stored_in m w size x) k)
room_kept m w size x k h = record { space = h.space; frame = h.frame }

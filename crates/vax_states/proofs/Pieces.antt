-- The pieces of the stack that live calls hold.
use Rattle.std.proofs.Common.{◌≡◌, ◌⊎◌, inl, inr, ℕ, ◌+◌, ◌-◌, ◌*◌, ◌^◌, ◌<◌, ◌≤◌, Bool, false, List, [], ◌∷◌, ◌++◌, length, Some, refl, ap, subst, ◌∙◌, arith}
use Rattle.std.specs.Prelude.{nat_lt, ◌||◌}
use Rattle.std.proofs.lemmas.List.Folds.{list_any-append}
use Rattle.std.proofs.lemmas.Bool.{le-ltb, or_from, and_left, and_right}
use Rattle.gg_base.specs.declared.size.Size.TheVariants.{Long}
use Rattle.gg_base.specs.LittleEndian.{with_number}
use Rattle.gg_base.proofs.Facts.{nil_cons, head_same, tail_same}
use Rattle.vax_machine_lists.specs.vax_machine_live.specs.declared.frame.Frame.{Frame}
use Rattle.vax_machine_lists.specs.vax_machine_live.specs.Control.{overlaps, in_control}
use Rattle.tree_meaning.specs.State.{Activation, Extent}
use Rattle.vax_states.specs.Stack.{long_at, word_of, argument_of, Holds, Hold, nobody, caller, SameFrom}
use Rattle.vax_machine_lists.proofs.Longwords.{number-with, number-above, number-below}
use mathlib.Core.Bool.{or-false}

-- ---- one store

pub stored_other : (stack : List ℕ) (x a v : ℕ) → 2139095040 ≤ x → x + 4 ≤ 2139095040 + length stack → 2139095040 ≤ a → (x + 4 ≤ a) ⊎ (a + 4 ≤ x)
    → long_at (with_number Long stack (x - 2139095040) v) a ≡ long_at stack a
stored_other stack x a v low high over (inl above) = number-above stack (x - 2139095040) (a - 2139095040) v (omega arith) (omega arith)
stored_other stack x a v low high over (inr below) = number-below stack (x - 2139095040) (a - 2139095040) v (omega arith) (omega arith)

pub stored_there : (stack : List ℕ) (x v : ℕ) → 2139095040 ≤ x → x + 4 ≤ 2139095040 + length stack → v < 2 ^ 32 → long_at (with_number Long stack (x - 2139095040) v) x ≡ v
stored_there stack x v low high fits = number-with stack (x - 2139095040) v (omega arith) fits

pub stored_below : (stack : List ℕ) (x v low : ℕ) → 2139095040 ≤ x → x + 4 ≤ 2139095040 + length stack → x + 4 ≤ low → SameFrom low stack (with_number Long stack (x - 2139095040) v)
stored_below stack x v low bottom high le = λ a from. stored_other stack x a v bottom high (omega (arith, from)) (inl (omega (arith, from)))

-- ---- one piece

module _ (stack : List ℕ) (f : Frame) (e : Extent) (a : Activation) (low high : ℕ) (h : Holds stack f e a low high) where
  pub low_fp : low ≤ f.fp
  low_fp = omega (arith, h.words)

  pub fp_high : f.fp + 24 ≤ high
  fp_high = omega (arith, h.control, h.top, h.end)

  -- a word of the frame lies below fp and above the arguments that are pushed
  pub word_low : (k : ℕ) → k < e.words → low + 4 * length a.pushed ≤ word_of f.fp k
  word_low k lt = omega (arith, h.words)

  pub word_high : (k : ℕ) → k < e.words → word_of f.fp k + 4 ≤ f.fp
  word_high k lt = omega (arith, h.words)

  -- two words are apart
  pub words_apart : (j k : ℕ) → j < e.words → k < e.words → j < k → word_of f.fp k + 4 ≤ word_of f.fp j
  words_apart j k lj lk lt = omega (arith, h.words)

  pub local_word : (k v : ℕ) → a.locals k ≡ Some v → k < e.words
  local_word k v is = omega (arith, h.is_local k v is, h.locals)

  pub argument_high : (i : ℕ) → i < length a.arguments → argument_of f.ap (i + 1) + 4 ≤ high
  argument_high i lt = omega (arith, h.end)

  -- what holds of a piece holds as long as nothing in it changes
  pub holds_kept : (new : List ℕ) → SameFrom low stack new → Holds new f e a low high
  holds_kept new same =
      let below = low_fp in
      record {
        words = h.words;
        control = h.control;
        saved = h.saved;
        top = h.top;
        end = h.end;
        aligned = h.aligned;
        locals = h.locals;
        few = h.few;
        mask = h.mask;
        count = same f.ap (omega (arith, below, h.control, h.top)) ∙ h.count;
        argument = λ i v is. same (argument_of f.ap (i + 1)) (omega (arith, below, h.control, h.top)) ∙ h.argument i v is;
        is_local = h.is_local;
        local = λ k v is. same (word_of f.fp k) (omega (arith, word_low k (local_word k v is))) ∙ h.local k v is;
        pushed = λ i v is. same (low + 4 * i) (omega arith) ∙ h.pushed i v is;
      }

-- ---- all pieces

pub hold_kept : (stack new : List ℕ) (frames : List Frame) (es : List Extent) (xs : List Activation) (low : ℕ) → Hold stack frames es xs low → SameFrom low stack new → Hold new frames es xs low
hold_kept stack new frames es xs low nobody same = nobody
hold_kept stack new frames es xs low (caller outer all f e rest_e a rest low' high eq here outside) same =
    let up = fp_high stack f e a low high here in
    let down = low_fp stack f e a low high here in
    caller outer all f e rest_e a rest low high eq (holds_kept stack f e a low high here new same)
    (hold_kept stack new outer rest_e rest high outside (λ x from. same x (omega (arith, up, down, from))))

pub hold_end : (stack : List ℕ) (frames : List Frame) (es : List Extent) (xs : List Activation) (low : ℕ) → Hold stack frames es xs low → low ≤ 2147483648
hold_end stack frames es xs low nobody = omega arith
hold_end stack frames es xs low (caller outer all f e rest_e a rest low' high eq here outside) =
    let up = fp_high stack f e a low high here in
    let down = low_fp stack f e a low high here in
    let end = hold_end stack outer rest_e rest high outside in
    omega (arith, up, down, end)

pub control_last : (outer : List Frame) (f : Frame) (a k : ℕ) → in_control (outer ++ f ∷ []) a k ≡ (in_control outer a k || overlaps f a k)
control_last outer f a k =
    list_any-append (λ (g : Frame). overlaps g a k) outer (f ∷ []) ∙ ap (λ (b : Bool). in_control outer a k || b) (or-false (overlaps f a k))

pub last_free : (outer all : List Frame) (f : Frame) (a k : ℕ) → all ≡ outer ++ f ∷ [] → in_control outer a k ≡ false → overlaps f a k ≡ false → in_control all a k ≡ false
last_free outer all f a k eq h g = ap (λ (fs : List Frame). in_control fs a k) eq ∙ control_last outer f a k ∙ or_from (in_control outer a k) (overlaps f a k) h g

-- no control words lie below what the calls hold
pub below_control : (stack : List ℕ) (frames : List Frame) (es : List Extent) (xs : List Activation) (low : ℕ) → Hold stack frames es xs low → (a k : ℕ) → a + k ≤ low → in_control frames a k ≡ false
below_control stack frames es xs low nobody a k le = refl
below_control stack frames es xs low (caller outer all f e rest_e x rest low' high eq here outside) a k le =
    let up = fp_high stack f e x low high here in
    let down = low_fp stack f e x low high here in
    last_free outer frames f a k eq
    (below_control stack outer rest_e rest high outside a k (omega (arith, up, down)))
    (and_left (nat_lt f.fp (a + k)) (nat_lt a f.top) (le-ltb f.fp (a + k) (omega (arith, down))))

module _ (stack : List ℕ) (outer : List Frame) (f : Frame) (e : Extent) (es : List Extent) (x : Activation) (rest : List Activation) (low high : ℕ) (here : Holds stack f e x low high)
    (outside : Hold stack outer es rest high) where
  -- nor from the innermost frame's words down
  pub words_free : (a k : ℕ) → a + k ≤ f.fp → in_control (outer ++ f ∷ []) a k ≡ false
  words_free a k le =
      let up = fp_high stack f e x low high here in
      last_free outer (outer ++ f ∷ []) f a k refl
      (below_control stack outer es rest high outside a k (omega (arith, up)))
      (and_left (nat_lt f.fp (a + k)) (nat_lt a f.top) (le-ltb f.fp (a + k) le))

  -- nor where its arguments stand
  pub arguments_free : (a k : ℕ) → f.ap ≤ a → a + k ≤ high → in_control (outer ++ f ∷ []) a k ≡ false
  arguments_free a k from to =
      last_free outer (outer ++ f ∷ []) f a k refl
      (below_control stack outer es rest high outside a k to)
      (and_right (nat_lt f.fp (a + k)) (nat_lt a f.top) (le-ltb a f.top (omega (arith, here.top, from))))

-- ---- the innermost of several pieces

pub record Innermost (stack : List ℕ) (frames : List Frame) (own : Extent) (rest : List Extent) (c : Activation) (cs : List Activation) (low : ℕ) : Type 0 where
  pub outer : List Frame
  pub f : Frame
  pub high : ℕ
  pub frames_are : frames ≡ outer ++ f ∷ []
  pub here : Holds stack f own c low high
  pub others : Hold stack outer rest cs high

pub innermost_is : (stack : List ℕ) (frames : List Frame) (es : List Extent) (xs : List Activation) (low : ℕ) → Hold stack frames es xs low
    → (own : Extent) (rest : List Extent) (c : Activation) (cs : List Activation) → es ≡ own ∷ rest → xs ≡ c ∷ cs → Innermost stack frames own rest c cs low
innermost_is stack frames es xs low nobody own rest c cs p q = absurd (nil_cons own rest p)
innermost_is stack frames es xs low (caller outer all f e rest_e a rest_a low' high eq here others) own rest c cs p q = record {
  outer = outer;
  f = f;
  high = high;
  frames_are = eq;
  here = subst (λ (x : Extent). Holds stack f x c low high) (head_same e own rest_e rest p) (subst (λ (x : Activation). Holds stack f e x low high) (head_same a c rest_a cs q) here);
  others = subst (λ (x : List Extent). Hold stack outer x cs high) (tail_same e own rest_e rest p) (subst (λ (x : List Activation). Hold stack outer rest_e x high) (tail_same a c rest_a cs q) others);
}

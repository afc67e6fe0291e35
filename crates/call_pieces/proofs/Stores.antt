-- What stores leave of a piece.
use Rattle.std.proofs.Common.{◌≡◌, ◌⊎◌, inl, inr, ℕ, zero, suc, ◌+◌, ◌-◌, ◌*◌, ◌^◌, ◌<◌, ◌≤◌, Bool, true, false, cond, List, ◌∷◌, length, Some, refl, ap, ◌∙◌, arith}
use Rattle.std.proofs.Common.{length-set, drop}
use Rattle.std.specs.Prelude.{slice_get, slice_set, ◌==◌}
use Rattle.std.proofs.lemmas.Bool.{eqb-true, eqb-false}
use Rattle.std.proofs.lemmas.List.{length-drop}
use Rattle.std.proofs.lemmas.Option.{slice_get_within, same_Some}
use Rattle.tree_meaning.specs.State.{Activation, with_local, Extent}
use Rattle.call_pieces.specs.Piece.{long_at, word_of, Piece, SameFrom}
use Rattle.call_pieces.specs.Laws.{with_long, PiecesAreKept}
use Rattle.call_pieces.proofs.Longs.{stored_other, stored_there, stored_below, set_get, differ, get_drop}

module _ (stack : List ℕ) (fp first : ℕ) (e : Extent) (a : Activation) (low high : ℕ) (h : Piece stack fp first e a low high) where
  pub low_fp : low ≤ fp
  low_fp = omega (arith, h.words)

  pub fp_high : fp ≤ high
  fp_high = omega (arith, h.above, h.end)

  -- a word of the frame lies below fp and above the arguments that are pushed
  pub word_low : (k : ℕ) → k < e.words → low + 4 * length a.pushed ≤ word_of fp k
  word_low k lt = omega (arith, h.words)

  pub word_high : (k : ℕ) → k < e.words → word_of fp k + 4 ≤ fp
  word_high k lt = omega (arith, h.words)

  -- two words are apart
  pub words_apart : (j k : ℕ) → j < e.words → k < e.words → j < k → word_of fp k + 4 ≤ word_of fp j
  words_apart j k lj lk lt = omega (arith, h.words)

  pub local_word : (k v : ℕ) → a.locals k ≡ Some v → k < e.words
  local_word k v is = omega (arith, h.is_local k v is, h.locals)

  pub argument_high : (i : ℕ) → i < length a.arguments → first + 4 * i + 4 ≤ high
  argument_high i lt = omega (arith, h.end)

  pub piece_kept : (new : List ℕ) → SameFrom low stack new → Piece new fp first e a low high
  piece_kept new same =
      let below = low_fp in
      record {
        words = h.words;
        above = h.above;
        end = h.end;
        locals = h.locals;
        argument = λ i v is. same (first + 4 * i) (omega (arith, below, h.above)) ∙ h.argument i v is;
        is_local = h.is_local;
        local = λ k v is. same (word_of fp k) (omega (arith, word_low k (local_word k v is))) ∙ h.local k v is;
        pushed = λ i v is. same (low + 4 * i) (omega arith) ∙ h.pushed i v is;
      }

  -- pushed longwords are taken off
  pub piece_popped : (count : ℕ) → count ≤ length a.pushed → Piece stack fp first e (record a { pushed = drop count a.pushed }) (low + 4 * count) high
  piece_popped count le =
      let size = length-drop count a.pushed in
      record {
        words = omega (arith, h.words, size, le);
        above = h.above;
        end = h.end;
        locals = h.locals;
        argument = h.argument;
        is_local = h.is_local;
        local = h.local;
        pushed = λ i v is. let z : low + 4 * count + 4 * i ≡ low + 4 * (count + i) = omega arith in ap (λ (x : ℕ). long_at stack x) z ∙ h.pushed (count + i) v (get_drop a.pushed count i v is);
      }

-- ---- one longword is stored

module _ (stack : List ℕ) (fp first : ℕ) (e : Extent) (a : Activation) (low high : ℕ) (h : Piece stack fp first e a low high) (bottom : 2139095040 ≤ low) (top : high ≤ 2139095040 + length stack) where
  -- in a word that may be used freely
  pub word_stored : (k v : ℕ) → e.locals ≤ k → k < e.words → Piece (with_long stack (word_of fp k) v) fp first e a low high
  word_stored k v free lt =
      let x = word_of fp k in
      let over = word_low stack fp first e a low high h k lt in
      let under = word_high stack fp first e a low high h k lt in
      let end = fp_high stack fp first e a low high h in
      let other : (b : ℕ) → 2139095040 ≤ b → (x + 4 ≤ b) ⊎ (b + 4 ≤ x) → long_at (with_long stack x v) b ≡ long_at stack b =
      λ b from apart. stored_other stack x b v (omega (arith, over, bottom)) (omega (arith, under, end, top)) from apart in
      record {
        words = h.words;
        above = h.above;
        end = h.end;
        locals = h.locals;
        argument = λ i w is. other (first + 4 * i) (omega (arith, h.above, bottom, under, over)) (inl (omega (arith, under, h.above))) ∙ h.argument i w is;
        is_local = h.is_local;
        local =
            λ j w is. let below =
            h.is_local j w is in
            other (word_of fp j) (omega (arith, bottom, word_low stack fp first e a low high h j (omega (arith, below, free, lt))))
            (inl (words_apart stack fp first e a low high h j k (omega (arith, below, free, lt)) lt (omega (arith, below, free)))) ∙ h.local j w is;
        pushed = λ i w is. let there = slice_get_within a.pushed i w is in other (low + 4 * i) (omega (arith, bottom)) (inr (omega (arith, there, over))) ∙ h.pushed i w is;
      }

  -- in a local
  pub local_stored : (k v : ℕ) → k < e.locals → v < 2 ^ 32 → Piece (with_long stack (word_of fp k) v) fp first e (record a { locals = with_local a.locals k v }) low high
  local_stored k v is fits =
      let x = word_of fp k in
      let lt : k < e.words = omega (arith, is, h.locals) in
      let over = word_low stack fp first e a low high h k lt in
      let under = word_high stack fp first e a low high h k lt in
      let end = fp_high stack fp first e a low high h in
      let other : (b : ℕ) → 2139095040 ≤ b → (x + 4 ≤ b) ⊎ (b + 4 ≤ x) → long_at (with_long stack x v) b ≡ long_at stack b =
      λ b from apart. stored_other stack x b v (omega (arith, over, bottom)) (omega (arith, under, end, top)) from apart in
      let there : long_at (with_long stack x v) x ≡ v = stored_there stack x v (omega (arith, over, bottom)) (omega (arith, under, end, top)) fits in
      record {
        words = h.words;
        above = h.above;
        end = h.end;
        locals = h.locals;
        argument = λ i w g. other (first + 4 * i) (omega (arith, h.above, bottom, under, over)) (inl (omega (arith, under, h.above))) ∙ h.argument i w g;
        is_local = λ j w g. known j w (j == k) refl g;
        local = λ j w g. value j w other there (j == k) refl g;
        pushed = λ i w g. let at = slice_get_within a.pushed i w g in other (low + 4 * i) (omega (arith, bottom)) (inr (omega (arith, at, over))) ∙ h.pushed i w g;
      }
    where
      known : (j w : ℕ) (b : Bool) → (j == k) ≡ b → cond b (Some v) (a.locals j) ≡ Some w → j < e.locals
      known j w true eq g = let s : j ≡ k = eqb-true j k eq in omega (arith, s, is)
      known j w false eq g = h.is_local j w g

      apart : (j : ℕ) → j < e.words → k < e.words → (j < k) ⊎ (k < j) → (word_of fp k + 4 ≤ word_of fp j) ⊎ (word_of fp j + 4 ≤ word_of fp k)
      apart j lj lk (inl lt) = inl (words_apart stack fp first e a low high h j k lj lk lt)
      apart j lj lk (inr gt) = inr (words_apart stack fp first e a low high h k j lk lj gt)

      value : (j w : ℕ) → ((b : ℕ) → 2139095040 ≤ b → (word_of fp k + 4 ≤ b) ⊎ (b + 4 ≤ word_of fp k) → long_at (with_long stack (word_of fp k) v) b ≡ long_at stack b)
          → long_at (with_long stack (word_of fp k) v) (word_of fp k) ≡ v
          → (b : Bool) → (j == k) ≡ b → cond b (Some v) (a.locals j) ≡ Some w → long_at (with_long stack (word_of fp k) v) (word_of fp j) ≡ w
      value j w other there true eq g = ap (λ (i : ℕ). long_at (with_long stack (word_of fp k) v) (word_of fp i)) (eqb-true j k eq) ∙ there ∙ same_Some v w g
      value j w other there false eq g =
          let lj = local_word stack fp first e a low high h j w g in
          let lk : k < e.words = omega (arith, is, h.locals) in
          other (word_of fp j) (omega (arith, bottom, word_low stack fp first e a low high h j lj)) (apart j lj lk (differ j k (eqb-false j k eq))) ∙ h.local j w g

  -- in an argument
  pub argument_stored : (k v : ℕ) → k < length a.arguments → v < 2 ^ 32
      → Piece (with_long stack (first + 4 * k) v) fp first e (record a { arguments = slice_set a.arguments k v }) low high
  argument_stored k v is fits =
      let x = first + 4 * k in
      let down = low_fp stack fp first e a low high h in
      let under = argument_high stack fp first e a low high h k is in
      let other : (b : ℕ) → 2139095040 ≤ b → (x + 4 ≤ b) ⊎ (b + 4 ≤ x) → long_at (with_long stack x v) b ≡ long_at stack b =
      λ b from apart. stored_other stack x b v (omega (arith, down, h.above, bottom)) (omega (arith, under, top)) from apart in
      let there : long_at (with_long stack x v) x ≡ v = stored_there stack x v (omega (arith, down, h.above, bottom)) (omega (arith, under, top)) fits in
      let size : length (slice_set a.arguments k v) ≡ length a.arguments = length-set a.arguments k v in
      record {
        words = h.words;
        above = h.above;
        end = omega (arith, h.end, size);
        locals = h.locals;
        argument = λ i w g. value i w other there (set_get a.arguments k i v w g);
        is_local = h.is_local;
        local =
            λ j w g. let lj =
            local_word stack fp first e a low high h j w g in
            other (word_of fp j) (omega (arith, bottom, word_low stack fp first e a low high h j lj)) (inr (omega (arith, word_high stack fp first e a low high h j lj, h.above))) ∙ h.local j w g;
        pushed = λ i w g. let at = slice_get_within a.pushed i w g in other (low + 4 * i) (omega (arith, bottom)) (inr (omega (arith, at, h.words, h.above))) ∙ h.pushed i w g;
      }
    where
      apart : (i : ℕ) → (i < k) ⊎ (k < i) → (first + 4 * k + 4 ≤ first + 4 * i) ⊎ (first + 4 * i + 4 ≤ first + 4 * k)
      apart i (inl lt) = inr (omega arith)
      apart i (inr gt) = inl (omega arith)

      value : (i w : ℕ)
          → ((b : ℕ) → 2139095040 ≤ b → (first + 4 * k + 4 ≤ b) ⊎ (b + 4 ≤ first + 4 * k) → long_at (with_long stack (first + 4 * k) v) b ≡ long_at stack b)
          → long_at (with_long stack (first + 4 * k) v) (first + 4 * k) ≡ v
          → ((i ≡ k) × (v ≡ w)) ⊎ ((i ≡ k → ⊥) × (slice_get a.arguments i ≡ Some w)) → long_at (with_long stack (first + 4 * k) v) (first + 4 * i) ≡ w
      value i w other there (inl s) = ap (λ (j : ℕ). long_at (with_long stack (first + 4 * k) v) (first + 4 * j)) s.0 ∙ there ∙ s.1
      value i w other there (inr g) = other (first + 4 * i) (omega (arith, bottom, low_fp stack fp first e a low high h, h.above)) (apart i (differ i k g.0)) ∙ h.argument i w g.1

  -- one more longword is pushed
  pub push_stored : (v : ℕ) → 2139095044 ≤ low → v < 2 ^ 32 → Piece (with_long stack (low - 4) v) fp first e (record a { pushed = v ∷ a.pushed }) (low - 4) high
  push_stored v room fits =
      let x = low - 4 in
      let down = low_fp stack fp first e a low high h in
      let end = fp_high stack fp first e a low high h in
      let same : SameFrom low stack (with_long stack x v) = stored_below stack x v low (omega arith) (omega (arith, down, end, top)) (omega arith) in
      let there : long_at (with_long stack x v) x ≡ v = stored_there stack x v (omega arith) (omega (arith, down, end, top)) fits in
      let kept = piece_kept stack fp first e a low high h (with_long stack x v) same in
      record {
        words = omega (arith, h.words);
        above = h.above;
        end = h.end;
        locals = h.locals;
        argument = kept.argument;
        is_local = h.is_local;
        local = kept.local;
        pushed = λ i w g. value i w there kept g;
      }
    where
      value : (i w : ℕ) → long_at (with_long stack (low - 4) v) (low - 4) ≡ v → Piece (with_long stack (low - 4) v) fp first e a low high
          → slice_get (v ∷ a.pushed) i ≡ Some w
          → long_at (with_long stack (low - 4) v) (low - 4 + 4 * i) ≡ w
      value zero w there kept g = let z : low - 4 + 4 * 0 ≡ low - 4 = omega arith in ap (λ (b : ℕ). long_at (with_long stack (low - 4) v) b) z ∙ there ∙ same_Some v w g
      value (suc i) w there kept g =
          let z : low - 4 + 4 * suc i ≡ low + 4 * i = omega (arith, room) in ap (λ (b : ℕ). long_at (with_long stack (low - 4) v) b) z ∙ kept.pushed i w g

pub pieces_are_kept : PiecesAreKept
pieces_are_kept = record {
  same = λ stack fp first e a low high h bottom top. piece_kept stack fp first e a low high h;
  word = word_stored;
  local = local_stored;
  argument = argument_stored;
  push = push_stored;
  pop = λ stack fp first e a low high h bottom top. piece_popped stack fp first e a low high h;
}

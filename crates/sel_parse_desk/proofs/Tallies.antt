-- Counts of the entries below a rule's symbols.
use Rattle.std.proofs.Common.{◌≡◌, ℕ, zero, suc, ◌+◌, ◌<◌, ◌≤◌, ◌^◌, List, [], ◌∷◌, ◌++◌, length, take, drop, set, get_or, Option, Some, None, Bool, true, false, refl, ap, sym}
use Rattle.std.proofs.Common.{◌∙◌, arith, length-append, length-take, length-set}
use Rattle.std.specs.Prelude.{◌==◌, not, count_by, replicate, slice_index, unwrap_or, IfSome}
use Rattle.std.specs.List.{list_any}
use Rattle.std.proofs.lemmas.List.{get_or-replicate}
use Rattle.std.proofs.lemmas.List.Sums.{count_by-le-length}
use Rattle.gg_base.proofs.Facts.{take_within}
use Rattle.md_reader.specs.declared.types.Kind.{Kind}
use Rattle.sel_target.specs.declared.attr.Attr.{Attr}
use Rattle.sel_target.specs.Meaning.{Meaning}
use Rattle.sel_target.specs.Symbols.{first_that}
use Rattle.sel_parse_desk.specs.Entries.{Entry, attrs, in_register, in_word}
use Rattle.sel_parse_desk.specs.Desk.{register_held, word_held}
use Rattle.sel_parse_desk.specs.Spills.{holds_some}
use Rattle.sel_parse_desk.specs.Tallied.{one, HaveRisen, HaveFallen, registers_of, words_of, registers_among, words_among, AreTallied, IsTallied}
use Rattle.sel_parse_desk.specs.declared.stack.Stack.{Stack}
use Rattle.sel_parse_desk.proofs.JoinedLemmas.{length-attrs, attrs-snoc, attrs-set, attrs-take, attrs-drop}
use Rattle.sel_parse_desk.proofs.Counting.{count-snoc, count-set, count-parts, count-some, count-one}
use Rattle.sel_parse_desk.proofs.Searching.{first_before, first_none}

take_short : {X : Type 0} (p : X → Bool) (xs : List X) (i n : ℕ) (x : X) → i ≤ n → list_any p (take i (set xs n x)) ≡ list_any p (take i xs)
take_short p [] i n x le = refl
take_short p (y ∷ xs) zero n x le = refl
take_short p (y ∷ xs) (suc i) zero x le = absurd (omega (arith, le))
take_short p (y ∷ xs) (suc i) (suc n) x le = ap (λ (b : Bool). Rattle.std.specs.Prelude.◌||◌ (p y) b) (take_short p xs i n x (omega (arith, le)))

any_less : {X : Type 0} (p : X → Bool) (xs : List X) (i n : ℕ) → i ≤ n → list_any p (take n xs) ≡ false → list_any p (take i xs) ≡ false
any_less p xs zero n le e = refl
any_less p [] (suc i) n le e = refl
any_less p (x ∷ xs) (suc i) zero le e = absurd (omega (arith, le))
any_less p (x ∷ xs) (suc i) (suc n) le e = by (p x) e (λ f. any_less p xs i n (omega (arith, le)) f)
  where
    by : (b : Bool) → Rattle.std.specs.Prelude.◌||◌ b (list_any p (take n xs)) ≡ false → (list_any p (take n xs) ≡ false → list_any p (take i xs) ≡ false)
        → Rattle.std.specs.Prelude.◌||◌ b (list_any p (take i xs)) ≡ false
    by true f go = absurd (cc)
    by false f go = go f

take_twice : {X : Type 0} (xs : List X) (i n : ℕ) → i ≤ n → take i (take n xs) ≡ take i xs
take_twice xs zero n le = refl
take_twice xs (suc i) zero le = absurd (omega (arith, le))
take_twice [] (suc i) (suc n) le = refl
take_twice (x ∷ xs) (suc i) (suc n) le = ap (λ (zs : List _). x ∷ zs) (take_twice xs i n (omega (arith, le)))

module _ {O I S F : Type 0} (of : Meaning O I S F) where
  pub none_tallied : (es : List (Entry O)) (registers words : List ℕ) → es ≡ [] → registers ≡ replicate 12 0 → words ≡ replicate 1024 0
      → AreTallied of (attrs es) registers words 0
  none_tallied es registers words none rs ws = let z : ℕ = 0 in record {
    each_register = λ r lt. ap (λ (xs : List ℕ). slice_index xs r) rs ∙ (get_or-replicate 12 r z z lt ∙ sym (ap (λ (xs : List (Entry O)). count_by (in_register of r) (attrs xs)) none));
    each_word = λ w lt. ap (λ (xs : List ℕ). slice_index xs w) ws ∙ (get_or-replicate 1024 w z z lt ∙ sym (ap (λ (xs : List (Entry O)). count_by (in_word of w) (attrs xs)) none));
    within = omega arith;
    no_register = refl;
  }

  -- a count tells whether an entry holds the register, or the frame word
  pub register_tells : (s : Stack O) (r : ℕ) → IsTallied of s → r < 12 → not (slice_index s.tally.registers.items r == 0) ≡ register_held of (attrs s.entries) r
  register_tells s r t lt = ap (λ (k : ℕ). not (k == 0)) (t.each_register r lt) ∙ count-some (in_register of r) (attrs s.entries)

  pub word_tells : (s : Stack O) (w : ℕ) → IsTallied of s → w < 1024 → not (slice_index s.tally.words.items w == 0) ≡ word_held of (attrs s.entries) w
  word_tells s w t lt = ap (λ (k : ℕ). not (k == 0)) (t.each_word w lt) ∙ count-some (in_word of w) (attrs s.entries)

  -- one more entry
  pub pushed_tallied : (es fs : List (Entry O)) (e : Entry O) (rs ws rs' ws' : List ℕ) (n : ℕ) → fs ≡ es ++ e ∷ [] → AreTallied of (attrs es) rs ws n
      → HaveRisen 12 rs rs' (registers_of of e.attr)
      → HaveRisen 1024 ws ws' (words_of of e.attr)
      → AreTallied of (attrs fs) rs' ws' n
  pushed_tallied es fs e rs ws rs' ws' n is t ups upw =
      let all : attrs fs ≡ attrs es ++ e.attr ∷ [] = ap (λ (xs : List (Entry O)). attrs xs) is ∙ attrs-snoc es e in
      let long = length-append (attrs es) (e.attr ∷ []) in
      let more : length (attrs fs) ≡ length (attrs es ++ e.attr ∷ []) = ap (λ (hs : List (Attr O)). length hs) all in
      record {
        each_register = λ r lt. ups r lt
            ∙ (ap (λ (k : ℕ). k + one (in_register of r e.attr)) (t.each_register r lt)
            ∙ (sym (count-snoc (in_register of r) (attrs es) e.attr) ∙ sym (ap (λ (hs : List (Attr O)). count_by (in_register of r) hs) all)));
        each_word = λ w lt. upw w lt
            ∙ (ap (λ (k : ℕ). k + one (in_word of w e.attr)) (t.each_word w lt)
            ∙ (sym (count-snoc (in_word of w) (attrs es) e.attr) ∙ sym (ap (λ (hs : List (Attr O)). count_by (in_word of w) hs) all)));
        within = (let v = t.within in omega (arith, v, more, long));
        no_register = ap (λ (hs : List (Attr O)). list_any (holds_some of) (take n hs)) all
            ∙ (ap (λ (hs : List (Attr O)). list_any (holds_some of) hs) (take_within (attrs es) (e.attr ∷ []) n t.within) ∙ t.no_register);
      }

  -- another attribute at a place
  pub put_tallied : (es fs : List (Entry O)) (i : ℕ) (k : Option Kind) (h g : Attr O) (rs ws ra wa rb wb : List ℕ) (n : ℕ)
      → fs ≡ set es i (record { kind = k; attr = h }) → i < length es → n ≤ i → g ≡ get_or (attrs es) i g
      → AreTallied of (attrs es) rs ws n
      → HaveFallen 12 rs ra (registers_of of g)
      → HaveFallen 1024 ws wa (words_of of g)
      → HaveRisen 12 ra rb (registers_of of h)
      → HaveRisen 1024 wa wb (words_of of h)
      → AreTallied of (attrs fs) rb wb n
  put_tallied es fs i k h g rs ws ra wa rb wb n is lt le at t da dw ua uw =
      let all : attrs fs ≡ set (attrs es) i h = ap (λ (xs : List (Entry O)). attrs xs) is ∙ attrs-set es i (record { kind = k; attr = h }) in
      let l = length-attrs es in
      let in_list : i < length (attrs es) = omega (arith, l, lt) in
      let long = length-set (attrs es) i h in
      let more : length (attrs fs) ≡ length (set (attrs es) i h) = ap (λ (hs : List (Attr O)). length hs) all in
      record {
        each_register = λ r small.
            (let c = count-set (in_register of r) (attrs es) i h g in_list at in
            let a = da r small in
            let b = ua r small in
            let d = t.each_register r small in
            let s : count_by (in_register of r) (attrs fs) ≡ count_by (in_register of r) (set (attrs es) i h) = ap (λ (hs : List (Attr O)). count_by (in_register of r) hs) all in
            omega (arith, c, a, b, d, s));
        each_word = λ w small.
            (let c = count-set (in_word of w) (attrs es) i h g in_list at in
            let a = dw w small in
            let b = uw w small in
            let d = t.each_word w small in
            let s : count_by (in_word of w) (attrs fs) ≡ count_by (in_word of w) (set (attrs es) i h) = ap (λ (hs : List (Attr O)). count_by (in_word of w) hs) all in
            omega (arith, c, a, b, d, s));
        within = (let v = t.within in omega (arith, v, more, long));
        no_register = ap (λ (hs : List (Attr O)). list_any (holds_some of) (take n hs)) all ∙ (take_short (holds_some of) (attrs es) n i h le ∙ t.no_register);
      }

  -- the room for it
  pub put_room : (p : Attr O → Bool) (es : List (Entry O)) (i : ℕ) (h g : Attr O) (ka kb : ℕ) → i < length es → g ≡ get_or (attrs es) i g → length es < 2 ^ 64
      → kb ≡ count_by p (attrs es) → ka + one (p g) ≡ kb → ka + one (p h) < 2 ^ 64
  put_room p es i h g ka kb lt at small c d =
      let l = length-attrs es in
      let in_list : i < length (attrs es) = omega (arith, l, lt) in
      let s = count-set p (attrs es) i h g in_list at in
      let m = count_by-le-length p (set (attrs es) i h) in
      let long = length-set (attrs es) i h in
      omega (arith, l, s, m, long, c, d, small)

  pub put_some : (p : Attr O → Bool) (es : List (Entry O)) (i : ℕ) (g : Attr O) (k : ℕ) → i < length es → g ≡ get_or (attrs es) i g → k ≡ count_by p (attrs es) → one (p g) ≤ k
  put_some p es i g k lt at c =
      let l = length-attrs es in
      let m = count-one p (attrs es) i g (omega (arith, l, lt)) at in
      omega (arith, m, c)

  -- the top is taken off
  pub part_tallied : (es fs gs : List (Entry O)) (b : ℕ) (rs ws rs' ws' : List ℕ) (n m : ℕ) → fs ≡ take b es → gs ≡ drop b es → m ≤ b → m ≤ n → b ≤ length es
      → AreTallied of (attrs es) rs ws n
      → HaveFallen 12 rs rs' (registers_among of (attrs gs))
      → HaveFallen 1024 ws ws' (words_among of (attrs gs))
      → AreTallied of (attrs fs) rs' ws' m
  part_tallied es fs gs b rs ws rs' ws' n m low high mb mn bl t dr dw =
      let all : attrs fs ≡ take b (attrs es) = ap (λ (xs : List (Entry O)). attrs xs) low ∙ attrs-take b es in
      let rest : attrs gs ≡ drop b (attrs es) = ap (λ (xs : List (Entry O)). attrs xs) high ∙ attrs-drop b es in
      let l = length-attrs es in
      let long = length-take b (attrs es) in
      let more : length (attrs fs) ≡ length (take b (attrs es)) = ap (λ (hs : List (Attr O)). length hs) all in
      record {
        each_register = λ r small. less (in_register of r) all rest (dr r small) (t.each_register r small);
        each_word = λ w small. less (in_word of w) all rest (dw w small) (t.each_word w small);
        within = omega (arith, l, long, more, mb, bl);
        no_register = ap (λ (hs : List (Attr O)). list_any (holds_some of) (take m hs)) all
            ∙ (ap (λ (hs : List (Attr O)). list_any (holds_some of) hs) (take_twice (attrs es) m b mb) ∙ any_less (holds_some of) (attrs es) m n mn t.no_register);
      }
    where
      less : (p : Attr O → Bool) {k j : ℕ} → attrs fs ≡ take b (attrs es) → attrs gs ≡ drop b (attrs es) → k + count_by p (attrs gs) ≡ j → j ≡ count_by p (attrs es)
          → k ≡ count_by p (attrs fs)
      less p f g d e =
          let s = count-parts p b (attrs es) in
          let x : count_by p (attrs fs) ≡ count_by p (take b (attrs es)) = ap (λ (hs : List (Attr O)). count_by p hs) f in
          let y : count_by p (attrs gs) ≡ count_by p (drop b (attrs es)) = ap (λ (hs : List (Attr O)). count_by p hs) g in
          omega (arith, s, x, y, d, e)

  pub part_some : (p : Attr O → Bool) (es gs : List (Entry O)) (b k : ℕ) → gs ≡ drop b es → k ≡ count_by p (attrs es) → count_by p (attrs gs) ≤ k
  part_some p es gs b k high c =
      let s = count-parts p b (attrs es) in
      let y : count_by p (attrs gs) ≡ count_by p (drop b (attrs es)) = ap (λ (xs : List (Entry O)). count_by p (attrs xs)) high ∙ ap (λ (hs : List (Attr O)). count_by p hs) (attrs-drop b es) in
      omega (arith, s, y, c)

  pub found_unsettled : (es : List (Entry O)) (o : Option ℕ) (n m : ℕ) → o ≡ first_that (holds_some of) (attrs es) → m ≡ unwrap_or o n
      → IfSome o (λ i. (i < length es) × (m ≤ i))
  found_unsettled es None n m e f = tt
  found_unsettled es (Some i) n m e f =
      let h = first_before (holds_some of) (attrs es) i (sym e) in
      let l = length-attrs es in
      (let lt = h.0 in omega (arith, lt, l), omega (arith, f))

  pub settled_tallied : (es : List (Entry O)) (rs ws : List ℕ) (o : Option ℕ) (n k m : ℕ) → AreTallied of (attrs es) rs ws k
      → o ≡ first_that (holds_some of) (attrs es) → n ≡ length es → m ≡ unwrap_or o n → AreTallied of (attrs es) rs ws m
  settled_tallied es rs ws None n k m t e l f = record {
    each_register = t.each_register;
    each_word = t.each_word;
    within = (let a = length-attrs es in omega (arith, a, l, f));
    no_register = first_none (holds_some of) (attrs es) m (sym e);
  }
  settled_tallied es rs ws (Some i) n k m t e l f =
      let h = first_before (holds_some of) (attrs es) i (sym e) in
      record {
        each_register = t.each_register;
        each_word = t.each_word;
        within = (let lt = h.0 in omega (arith, lt, f));
        no_register = ap (λ (j : ℕ). list_any (holds_some of) (take j (attrs es))) f ∙ h.1;
      }

  -- the entry that was pushed stands at the end
  pub pushed_there : (es fs : List (Entry O)) (e : Entry O) (i : ℕ) (h : Attr O) → fs ≡ es ++ e ∷ [] → i ≡ length es → h ≡ get_or (attrs fs) i h → h ≡ e.attr
  pushed_there es fs e i h is at there =
      there ∙ (ap (λ (hs : List (Attr O)). get_or hs i h) (ap (λ (xs : List (Entry O)). attrs xs) is ∙ attrs-snoc es e) ∙ last (attrs es) i (at ∙ sym (length-attrs es)))
    where
      last : (hs : List (Attr O)) (j : ℕ) → j ≡ length hs → get_or (hs ++ e.attr ∷ []) j h ≡ e.attr
      last [] zero f = refl
      last [] (suc j) f = absurd (omega (arith, f))
      last (g ∷ hs) zero f = absurd (omega (arith, f))
      last (g ∷ hs) (suc j) f = last hs j (omega (arith, f))

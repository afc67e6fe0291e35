-- Each word of the tables is found by its spelling, and the longest mark is found first.
use Rattle.std.proofs.Common.{◌≡◌, ◌≢◌, ◌≤◌, ℕ, Bool, true, false, cond, eqb, List, [], ◌∷◌, ◌++◌, length, take, drop, Option, Some, None, refl, sym, ◌∙◌, ap, arith, subst, nat_eq}
use Rattle.std.specs.Prelude.{nat_le, ◌&&◌}
use Rattle.std.specs.List.{starts_with}
use Rattle.std.specs.Cmp.Lexicographic.{pointwise, same_text}
use Rattle.std.proofs.lemmas.Bool.{leb-true, and_parts}
use Rattle.std.proofs.lemmas.Bool.Decides.{Decides-eqb}
use Rattle.std.proofs.lemmas.Option.{none-some, same_Some}
use Rattle.std.proofs.lemmas.Slice.Eq.{starts_is}
use Rattle.std.proofs.Math.Seq.{take-append_seam}
use Rattle.c_tokens.specs.declared.words.TheConstants.{KEYS}
use Rattle.c_tokens.specs.declared.words.Key.{Key}
use Rattle.c_tokens.specs.declared.words.Key.TheVariants as keys
use Rattle.c_tokens.specs.declared.marks.TheConstants.{MARKS}
use Rattle.c_tokens.specs.declared.marks.Mark.{Mark}
use Rattle.c_tokens.specs.declared.marks.Mark.TheVariants as marks
use Rattle.c_tokens.specs.Letters.{is_blank, is_letter, is_digit}
use Rattle.c_tokens.specs.Words.{key_text, key_among, key_of}
use Rattle.c_tokens.specs.Marks.{mark_text, mark_among, mark_of}

key_among_is : (ks : List Key) (word : List ℕ) (k : Key) → key_among ks word ≡ Some k → word ≡ key_text k
key_among_is [] word k e = absurd (none-some k e)
key_among_is (c ∷ cs) word k e = step (pointwise nat_eq word (key_text c)) refl (key_among_is cs word k) e
  where
    step : (t : Bool) → pointwise nat_eq word (key_text c) ≡ t → (key_among cs word ≡ Some k → word ≡ key_text k) → cond t (Some c) (key_among cs word) ≡ Some k → word ≡ key_text k
    step true f more h = same_text word (key_text c) (sym f) ∙ ap key_text (same_Some c k h)
    step false f more h = more h

pub key_is : (word : List ℕ) (k : Key) → key_of word ≡ Some k → word ≡ key_text k
unfolding key_of
key_is word k e = key_among_is KEYS word k e

key_found : (k : Key) → key_of (key_text k) ≡ Some k
unfolding key_of
key_found keys.Int = refl
key_found keys.Char = refl
key_found keys.Short = refl
key_found keys.Unsigned = refl
key_found keys.Void = refl
key_found keys.Static = refl
key_found keys.Register = refl
key_found keys.If = refl
key_found keys.Else = refl
key_found keys.While = refl
key_found keys.Do = refl
key_found keys.For = refl
key_found keys.Break = refl
key_found keys.Continue = refl
key_found keys.Return = refl
key_found keys.Sizeof = refl
key_found keys.Auto = refl
key_found keys.Case = refl
key_found keys.Const = refl
key_found keys.Default = refl
key_found keys.Double = refl
key_found keys.Enum = refl
key_found keys.Extern = refl
key_found keys.Float = refl
key_found keys.Goto = refl
key_found keys.Long = refl
key_found keys.Signed = refl
key_found keys.Struct = refl
key_found keys.Switch = refl
key_found keys.Typedef = refl
key_found keys.Union = refl
key_found keys.Volatile = refl

pub key_reads : (word : List ℕ) (k : Key) → word ≡ key_text k → key_of word ≡ Some k
key_reads word k e = ap key_of e ∙ key_found k

pub no_key : (word : List ℕ) → key_of word ≡ None → (k : Key) → word ≢ key_text k
no_key word e k f = none-some k (sym e ∙ key_reads word k f)

pub key_none : (word : List ℕ) → ((k : Key) → word ≢ key_text k) → key_of word ≡ None
key_none word h = step (key_of word) refl
  where
    step : (o : Option Key) → key_of word ≡ o → key_of word ≡ None
    step None e = e
    step (Some k) e = absurd (h k (key_is word k e))

-- marks
begins : (m : Mark) (text : List ℕ) → starts_with nat_eq text (mark_text m) ≡ true → text ≡ mark_text m ++ drop (length (mark_text m)) text
begins m text e = (starts_is Decides-eqb text (mark_text m) (starts_with nat_eq text (mark_text m)) refl).0 e

begins_with : (m : Mark) (text rest : List ℕ) → text ≡ mark_text m ++ rest → starts_with nat_eq text (mark_text m) ≡ true
begins_with m text rest e = (starts_is Decides-eqb text (mark_text m) (starts_with nat_eq text (mark_text m)) refl).1 rest e

data Among (m : Mark) : List Mark → Type 0 where
  first : (ms : List Mark) → Among m (m ∷ ms)
  later : (n : Mark) (ms : List Mark) → Among m ms → Among m (n ∷ ms)

shorter : ℕ → List Mark → Bool
shorter n [] = true
shorter n (m ∷ ms) = nat_le (length (mark_text m)) n && shorter n ms

falling : List Mark → Bool
falling [] = true
falling (m ∷ ms) = shorter (length (mark_text m)) ms && falling ms

among_shorter : (n : ℕ) (m : Mark) (ms : List Mark) → shorter n ms ≡ true → Among m ms → length (mark_text m) ≤ n
unfolding shorter
among_shorter n m _ e (first ms) = leb-true (length (mark_text m)) n (and_parts _ _ e).0
among_shorter n m _ e (later c ms a) = among_shorter n m ms (and_parts (nat_le (length (mark_text c)) n) (shorter n ms) e).1 a

mark_among_is : (ms : List Mark) (text : List ℕ) (m : Mark) → mark_among ms text ≡ Some m → Among m ms × (text ≡ mark_text m ++ drop (length (mark_text m)) text)
mark_among_is [] text m e = absurd (none-some m e)
mark_among_is (c ∷ cs) text m e = step (starts_with nat_eq text (mark_text c)) refl (mark_among_is cs text m) e
  where
    step : (t : Bool) → starts_with nat_eq text (mark_text c) ≡ t → (mark_among cs text ≡ Some m → Among m cs × (text ≡ mark_text m ++ drop (length (mark_text m)) text))
        → cond t (Some c) (mark_among cs text) ≡ Some m → Among m (c ∷ cs) × (text ≡ mark_text m ++ drop (length (mark_text m)) text)
    step true f more h = let same = same_Some c m h in (
      subst (λ (x : Mark). Among x (c ∷ cs)) same (first cs),
      subst (λ (x : Mark). text ≡ mark_text x ++ drop (length (mark_text x)) text) same (begins c text f),
    )
    step false f more h = let r = more h in (later c cs r.0, r.1)

-- no mark that begins the text is longer than the one that is found, and one is found
longest_among : (text : List ℕ) (n : Mark) (ms : List Mark) → falling ms ≡ true → Among n ms → starts_with nat_eq text (mark_text n) ≡ true → (m : Mark)
    × ((mark_among ms text ≡ Some m) × (length (mark_text n) ≤ length (mark_text m)))
unfolding falling
longest_among text n _ e (first ms) f = (n, (rw f refl, omega arith))
longest_among text n _ e (later c cs a) f = step (starts_with nat_eq text (mark_text c)) refl (longest_among text n cs (and_parts (shorter (length (mark_text c)) cs) (falling cs) e).1 a f)
  where
    step : (t : Bool) → starts_with nat_eq text (mark_text c) ≡ t → (m : Mark) × ((mark_among cs text ≡ Some m) × (length (mark_text n) ≤ length (mark_text m))) → (m : Mark)
        × ((cond t (Some c) (mark_among cs text) ≡ Some m) × (length (mark_text n) ≤ length (mark_text m)))
    step true g more = (c, (refl, among_shorter (length (mark_text c)) n cs (and_parts (shorter (length (mark_text c)) cs) (falling cs) e).0 a))
    step false g more = more

mark_found : (m : Mark) → mark_among MARKS (mark_text m) ≡ Some m
mark_found marks.ShiftLeftAssign = refl
mark_found marks.ShiftRightAssign = refl
mark_found marks.AddAssign = refl
mark_found marks.SubtractAssign = refl
mark_found marks.MultiplyAssign = refl
mark_found marks.DivideAssign = refl
mark_found marks.RemainderAssign = refl
mark_found marks.AndAssign = refl
mark_found marks.XorAssign = refl
mark_found marks.OrAssign = refl
mark_found marks.OrOr = refl
mark_found marks.AndAnd = refl
mark_found marks.Equal = refl
mark_found marks.NotEqual = refl
mark_found marks.LessEqual = refl
mark_found marks.GreaterEqual = refl
mark_found marks.ShiftLeft = refl
mark_found marks.ShiftRight = refl
mark_found marks.Increment = refl
mark_found marks.Decrement = refl
mark_found marks.OpenBrace = refl
mark_found marks.CloseBrace = refl
mark_found marks.OpenParenthesis = refl
mark_found marks.CloseParenthesis = refl
mark_found marks.OpenBracket = refl
mark_found marks.CloseBracket = refl
mark_found marks.Semicolon = refl
mark_found marks.Comma = refl
mark_found marks.Question = refl
mark_found marks.Colon = refl
mark_found marks.Assign = refl
mark_found marks.Or = refl
mark_found marks.Xor = refl
mark_found marks.And = refl
mark_found marks.Less = refl
mark_found marks.Greater = refl
mark_found marks.Plus = refl
mark_found marks.Minus = refl
mark_found marks.Star = refl
mark_found marks.Slash = refl
mark_found marks.Percent = refl
mark_found marks.Tilde = refl
mark_found marks.Exclamation = refl

falls : falling MARKS ≡ true
unfolding falling shorter
falls = refl

pub mark_is : (text : List ℕ) (m : Mark) → mark_of text ≡ Some m → text ≡ mark_text m ++ drop (length (mark_text m)) text
unfolding mark_of
mark_is text m e = (mark_among_is MARKS text m e).1

longest : (text : List ℕ) (n : Mark) (others : List ℕ) → text ≡ mark_text n ++ others → (m : Mark) × ((mark_of text ≡ Some m) × (length (mark_text n) ≤ length (mark_text m)))
unfolding mark_of
longest text n others e = longest_among text n MARKS falls (mark_among_is MARKS (mark_text n) n (mark_found n)).0 (begins_with n text others e)

pub mark_longest : (text : List ℕ) (m : Mark) → mark_of text ≡ Some m → (n : Mark) (others : List ℕ) → text ≡ mark_text n ++ others → length (mark_text n) ≤ length (mark_text m)
mark_longest text m e n others f = let l = longest text n others f in let same = same_Some l.0 m (sym l.1.0 ∙ e) in subst (λ (x : Mark). length (mark_text n) ≤ length (mark_text x)) same l.1.1

same_mark : (m n : Mark) → mark_text m ≡ mark_text n → m ≡ n
same_mark m n e = same_Some m n (sym (mark_found m) ∙ (ap (λ (t : List ℕ). mark_among MARKS t) e ∙ mark_found n))

front_same : (text a b x y : List ℕ) → text ≡ a ++ x → text ≡ b ++ y → length a ≡ length b → a ≡ b
front_same text a b x y e f g = sym (take-append_seam a x) ∙ (ap (take (length a)) (sym e ∙ f) ∙ (ap (λ (n : ℕ). take n (b ++ y)) g ∙ take-append_seam b y))

pub mark_reads : (text : List ℕ) (m : Mark) (rest : List ℕ) → text ≡ mark_text m ++ rest
    → ((n : Mark) (others : List ℕ) → text ≡ mark_text n ++ others → length (mark_text n) ≤ length (mark_text m)) → mark_of text ≡ Some m
mark_reads text m rest e most =
    let l = longest text m rest e in
    let is = mark_is text l.0 l.1.0 in
    let up : length (mark_text m) ≤ length (mark_text l.0) = l.1.1 in
    let down : length (mark_text l.0) ≤ length (mark_text m) = most l.0 (drop (length (mark_text l.0)) text) is in
    l.1.0 ∙ ap Some (same_mark l.0 m (front_same text (mark_text l.0) (mark_text m) (drop (length (mark_text l.0)) text) rest is e (omega arith)))

-- the mark that the first byte of a mark is
single : (m : Mark) → (n : Mark) × (mark_text n ≡ take 1 (mark_text m))
single marks.ShiftLeftAssign = (marks.Less, refl)
single marks.ShiftRightAssign = (marks.Greater, refl)
single marks.AddAssign = (marks.Plus, refl)
single marks.SubtractAssign = (marks.Minus, refl)
single marks.MultiplyAssign = (marks.Star, refl)
single marks.DivideAssign = (marks.Slash, refl)
single marks.RemainderAssign = (marks.Percent, refl)
single marks.AndAssign = (marks.And, refl)
single marks.XorAssign = (marks.Xor, refl)
single marks.OrAssign = (marks.Or, refl)
single marks.OrOr = (marks.Or, refl)
single marks.AndAnd = (marks.And, refl)
single marks.Equal = (marks.Assign, refl)
single marks.NotEqual = (marks.Exclamation, refl)
single marks.LessEqual = (marks.Less, refl)
single marks.GreaterEqual = (marks.Greater, refl)
single marks.ShiftLeft = (marks.Less, refl)
single marks.ShiftRight = (marks.Greater, refl)
single marks.Increment = (marks.Plus, refl)
single marks.Decrement = (marks.Minus, refl)
single marks.OpenBrace = (marks.OpenBrace, refl)
single marks.CloseBrace = (marks.CloseBrace, refl)
single marks.OpenParenthesis = (marks.OpenParenthesis, refl)
single marks.CloseParenthesis = (marks.CloseParenthesis, refl)
single marks.OpenBracket = (marks.OpenBracket, refl)
single marks.CloseBracket = (marks.CloseBracket, refl)
single marks.Semicolon = (marks.Semicolon, refl)
single marks.Comma = (marks.Comma, refl)
single marks.Question = (marks.Question, refl)
single marks.Colon = (marks.Colon, refl)
single marks.Assign = (marks.Assign, refl)
single marks.Or = (marks.Or, refl)
single marks.Xor = (marks.Xor, refl)
single marks.And = (marks.And, refl)
single marks.Less = (marks.Less, refl)
single marks.Greater = (marks.Greater, refl)
single marks.Plus = (marks.Plus, refl)
single marks.Minus = (marks.Minus, refl)
single marks.Star = (marks.Star, refl)
single marks.Slash = (marks.Slash, refl)
single marks.Percent = (marks.Percent, refl)
single marks.Tilde = (marks.Tilde, refl)
single marks.Exclamation = (marks.Exclamation, refl)

pub no_mark : (b : ℕ) (bs : List ℕ) → mark_of (b ∷ bs) ≡ None → (m : Mark) (others : List ℕ) → mark_text m ≢ b ∷ others
no_mark b bs e m others f =
    let s = single m in
    let front : mark_text s.0 ≡ b ∷ [] = s.1 ∙ ap (take 1) f in
    let l = longest (b ∷ bs) s.0 bs (ap (λ (t : List ℕ). t ++ bs) (sym front)) in
    none-some l.0 (sym e ∙ l.1.0)

-- a mark begins with no byte of another piece
abbrev pub Front : List ℕ → Type 0
Front [] = ⊥
Front (b ∷ bs) = (is_blank b ≡ false) × (is_letter b ≡ false) × (is_digit b ≡ false) × (eqb b 39 ≡ false) × (eqb b 34 ≡ false)

pub mark_front : (m : Mark) → Front (mark_text m)
mark_front marks.ShiftLeftAssign = (refl, refl, refl, refl, refl)
mark_front marks.ShiftRightAssign = (refl, refl, refl, refl, refl)
mark_front marks.AddAssign = (refl, refl, refl, refl, refl)
mark_front marks.SubtractAssign = (refl, refl, refl, refl, refl)
mark_front marks.MultiplyAssign = (refl, refl, refl, refl, refl)
mark_front marks.DivideAssign = (refl, refl, refl, refl, refl)
mark_front marks.RemainderAssign = (refl, refl, refl, refl, refl)
mark_front marks.AndAssign = (refl, refl, refl, refl, refl)
mark_front marks.XorAssign = (refl, refl, refl, refl, refl)
mark_front marks.OrAssign = (refl, refl, refl, refl, refl)
mark_front marks.OrOr = (refl, refl, refl, refl, refl)
mark_front marks.AndAnd = (refl, refl, refl, refl, refl)
mark_front marks.Equal = (refl, refl, refl, refl, refl)
mark_front marks.NotEqual = (refl, refl, refl, refl, refl)
mark_front marks.LessEqual = (refl, refl, refl, refl, refl)
mark_front marks.GreaterEqual = (refl, refl, refl, refl, refl)
mark_front marks.ShiftLeft = (refl, refl, refl, refl, refl)
mark_front marks.ShiftRight = (refl, refl, refl, refl, refl)
mark_front marks.Increment = (refl, refl, refl, refl, refl)
mark_front marks.Decrement = (refl, refl, refl, refl, refl)
mark_front marks.OpenBrace = (refl, refl, refl, refl, refl)
mark_front marks.CloseBrace = (refl, refl, refl, refl, refl)
mark_front marks.OpenParenthesis = (refl, refl, refl, refl, refl)
mark_front marks.CloseParenthesis = (refl, refl, refl, refl, refl)
mark_front marks.OpenBracket = (refl, refl, refl, refl, refl)
mark_front marks.CloseBracket = (refl, refl, refl, refl, refl)
mark_front marks.Semicolon = (refl, refl, refl, refl, refl)
mark_front marks.Comma = (refl, refl, refl, refl, refl)
mark_front marks.Question = (refl, refl, refl, refl, refl)
mark_front marks.Colon = (refl, refl, refl, refl, refl)
mark_front marks.Assign = (refl, refl, refl, refl, refl)
mark_front marks.Or = (refl, refl, refl, refl, refl)
mark_front marks.Xor = (refl, refl, refl, refl, refl)
mark_front marks.And = (refl, refl, refl, refl, refl)
mark_front marks.Less = (refl, refl, refl, refl, refl)
mark_front marks.Greater = (refl, refl, refl, refl, refl)
mark_front marks.Plus = (refl, refl, refl, refl, refl)
mark_front marks.Minus = (refl, refl, refl, refl, refl)
mark_front marks.Star = (refl, refl, refl, refl, refl)
mark_front marks.Slash = (refl, refl, refl, refl, refl)
mark_front marks.Percent = (refl, refl, refl, refl, refl)
mark_front marks.Tilde = (refl, refl, refl, refl, refl)
mark_front marks.Exclamation = (refl, refl, refl, refl, refl)

pub front_of : (m : Mark) (b : ℕ) (bs rest : List ℕ) → b ∷ bs ≡ mark_text m ++ rest → Front (b ∷ bs)
front_of m b bs rest e = step (mark_text m) e (mark_front m)
  where
    step : (t : List ℕ) → b ∷ bs ≡ t ++ rest → Front t → Front (b ∷ bs)
    step [] f h = absurd h
    step (c ∷ cs) f h = let same : b ≡ c = cc in rw same h

pub mark_none : (b : ℕ) (bs : List ℕ) → ((m : Mark) (others : List ℕ) → mark_text m ≢ b ∷ others) → mark_of (b ∷ bs) ≡ None
mark_none b bs h = step (mark_of (b ∷ bs)) refl
  where
    split : (m : Mark) (t rest : List ℕ) → mark_text m ≡ t → b ∷ bs ≡ t ++ rest → Front t → ⊥
    split m [] rest e f g = g
    split m (c ∷ cs) rest e f g = let same : b ≡ c = cc in h m cs (e ∙ ap (λ (x : ℕ). x ∷ cs) (sym same))

    step : (o : Option Mark) → mark_of (b ∷ bs) ≡ o → mark_of (b ∷ bs) ≡ None
    step None e = e
    step (Some m) e = absurd (split m (mark_text m) (drop (length (mark_text m)) (b ∷ bs)) refl (mark_is (b ∷ bs) m e) (mark_front m))

pub mark_some : (m : Mark) → 1 ≤ length (mark_text m)
mark_some m = step (mark_text m) (mark_front m)
  where
    step : (t : List ℕ) → Front t → 1 ≤ length t
    step [] h = absurd h
    step (b ∷ bs) h = omega arith

-- What a fault of the run says of the text.
use Rattle.std.proofs.Common.{◌≡◌, ◌<◌, ◌≤◌, ◌⊎◌, zero, ℕ, suc, ◌+◌, List, [], ◌∷◌, ◌++◌, length, refl, sym, ap, subst, ◌∙◌, arith, inl, inr}
use Rattle.std.specs.Prelude.{Bool, true, false, nat_lt, Result, Ok, Err, Bool}
use Rattle.std.proofs.lemmas.Bool.Decides.{nat_tests}
use Rattle.std.proofs.lemmas.List.{append-nil}
use Rattle.c_tokens.specs.declared.token.Spanned.{Spanned}
use Rattle.c_tokens.specs.declared.token.Token.TheVariants.{End}
use Rattle.c_syntax_goals.specs.declared.fault.Fault.{Fault}
use Rattle.c_syntax_goals.specs.declared.fault.Fault.TheVariants.{NotHere, TooDeep}
use Rattle.c_phrases.specs.Classes.{Placed, Class, class_of, placed, seen}
use Rattle.c_phrases.specs.Classes as c
use Rattle.c_phrases.specs.Levels.{free, limit}
use Rattle.c_phrases.specs.Units.{AUnit}
use Rattle.c_phrases.specs.UnitSpelling.{unit_tokens}
use Rattle.c_phrases.specs.Fits.{ExternalsFit}
use Rattle.c_syntax_goals.specs.Openings.{Opening}
use Rattle.c_syntax_goals.specs.UnitOpenings.{tokens_of, levelled}
use Rattle.c_tokens.specs.Grammar.{IsEnded}
use Rattle.c_syntax_goals.specs.Refusals.{IsPlace, FirstAreLow, FirstDeepIs, Begins, BeginsUnit, NotHereAt, Stops, TooDeepAt}
use Rattle.c_syntax_goals.specs.Goals.{Goal, Val, Stack, Done, Want, Takes, Opens, Finishes, Refuses, Turn, Steps}
use Rattle.c_syntax_goals.specs.Goals.{Passes, Whole, Expr}
use Rattle.c_syntax_goals.specs.Turns.{turn}
use Rattle.c_syntax_goals.specs.Machine.{Next, Goes, Ends, Deep, Stuck, closing, at_end, on, pick, next, run}
use Rattle.c_syntax_goals.proofs.Stating.{law_unit}
use Rattle.c_syntax_goals.proofs.Prefix.{left_of, low_externals, no_unit_begins, fault_within}
use Rattle.c_syntax_goals.proofs.Spelled.{respelled, seen_respelled}
use Rattle.c_syntax_goals.proofs.Forgetting.{forget}
use Rattle.c_syntax_goals.proofs.Viable.{Viable, opened_ends, viable, viable_deep, goes_freely, no_deep, same_deep}
use Rattle.c_syntax_goals.proofs.Levelling.{marks_of, accepted, whole_levels, low_before, first_deep}

-- lists
tokens_append : (v w : List Opening) → tokens_of (v ++ w) ≡ tokens_of v ++ tokens_of w
tokens_append [] w = refl
tokens_append (o ∷ v) w = ap (λ (x : List Placed). o.token ∷ x) (tokens_append v w)

pub seen_append : (v w : List Spanned) → seen (v ++ w) ≡ seen v ++ seen w
seen_append [] w = refl
seen_append (t ∷ v) w = ap (λ (x : List Placed). placed t ∷ x) (seen_append v w)

pub length_seen : (ts : List Spanned) → length (seen ts) ≡ length ts
length_seen [] = refl
length_seen (t ∷ ts) = ap suc (length_seen ts)

append_one : (v : List Placed) (t : Placed) (w : List Placed) → (v ++ t ∷ []) ++ w ≡ v ++ t ∷ w
append_one [] t w = refl
append_one (s ∷ v) t w = ap (λ (x : List Placed). s ∷ x) (append_one v t w)

-- what can be read begins a unit
pub begins_unit : (pre : List Placed) → respelled pre ≡ pre → Viable (Want Whole Done) 0 pre → BeginsUnit pre
begins_unit pre e v = record {
  unit = v.unit;
  begins = record {
    fits = subst (λ (u : AUnit). ExternalsFit u.externals) v.is.onwards.1 v.is.is.1;
    word = tokens_of v.words;
    text = sym (forget v.unit) ∙ sym (ap tokens_of (whole_levels (v.marks ++ v.words) v.unit v.is)) ∙ tokens_append v.marks v.words ∙ ap (λ (x : List Placed). x ++ tokens_of v.words) (v.tokens ∙ e);
  };
}

-- a unit's levels are those of the run over its tokens
pub unit_levels : (u : AUnit) → ExternalsFit u.externals → marks_of (Want Whole Done) 0 (unit_tokens u) ≡ levelled u
unit_levels u fits = whole_levels _ u (accepted (unit_tokens u) (Want Whole Done) 0 u (law_unit free u fits (low_externals u.externals)))

pub low_in_unit : (pre post : List Placed) → left_of (run limit (Want Whole Done) 0 (pre ++ post)) ≡ length post → (u : AUnit) → Begins pre u → FirstAreLow (length pre) (levelled u)
low_in_unit pre post e u b = subst (FirstAreLow (length pre)) (ap (marks_of (Want Whole Done) 0) (sym b.text) ∙ unit_levels u b.fits) (low_before pre post b.word (Want Whole Done) 0 e)

pub deep_in_unit : (pre : List Placed) (bad : Placed) (post : List Placed) → run limit (Want Whole Done) 0 (pre ++ bad ∷ post) ≡ Err (TooDeep (suc (length post))) → (u : AUnit)
    → Begins (pre ++ bad ∷ []) u → FirstDeepIs (length pre) (levelled u)
deep_in_unit pre bad post e u b = subst (FirstDeepIs (length pre)) (ap (marks_of (Want Whole Done) 0) (sym (b.text ∙ append_one pre bad b.word)) ∙ unit_levels u b.fits)
    (first_deep pre bad post b.word (Want Whole Done) 0 e)

-- the run over the tokens as phrases see them
split_run : (before : List Spanned) (t : Spanned) (behind : List Spanned) (F : ℕ → Fault) → Stops (before ++ t ∷ behind) (F (suc (length behind)))
    → run limit (Want Whole Done) 0 (seen before ++ placed t ∷ seen behind) ≡ Err (F (suc (length (seen behind))))
split_run before t behind F e = ap (run limit (Want Whole Done) 0) (sym (seen_append before (t ∷ behind))) ∙ e ∙ ap (λ (k : ℕ). Err (F (suc k))) (sym (length_seen behind))

pub not_here_at : (before : List Spanned) (t : Spanned) (behind : List Spanned) → Stops (before ++ t ∷ behind) (NotHere (suc (length behind))) → NotHereAt (before ++ t ∷ behind) t.start
not_here_at before t behind e =
    let f : run limit (Want Whole Done) 0 (seen before ++ placed t ∷ seen behind) ≡ Err (NotHere (suc (length (seen behind)))) = split_run before t behind NotHere e in
    record {
      before = before;
      token = t;
      behind = behind;
      text = refl;
      stands = refl;
      none = λ u b. no_unit_begins (seen before) (placed t) (seen behind) f u b.word b.fits (b.text ∙ append_one (seen before) (placed t) b.word);
      some = begins_unit (seen before) (seen_respelled before) (viable limit (seen before) (placed t ∷ seen behind) (Want Whole Done) 0 (ap left_of f));
      low = λ u b. subst (λ (k : ℕ). FirstAreLow k (levelled u)) (length_seen before) (low_in_unit (seen before) (placed t ∷ seen behind) (ap left_of f) u b);
    }

pub too_deep_at : (before : List Spanned) (t : Spanned) (behind : List Spanned) → Stops (before ++ t ∷ behind) (TooDeep (suc (length behind))) → TooDeepAt (before ++ t ∷ behind) t.start
too_deep_at before t behind e =
    let f : run limit (Want Whole Done) 0 (seen before ++ placed t ∷ seen behind) ≡ Err (TooDeep (suc (length (seen behind)))) = split_run before t behind TooDeep e in
    record {
      before = before;
      token = t;
      behind = behind;
      text = refl;
      stands = refl;
      some = begins_unit (seen before ++ placed t ∷ []) (subst (λ (x : List Placed). respelled x ≡ x) (seen_append before (t ∷ [])) (seen_respelled (before ++ t ∷ [])))
          (viable_deep (seen before) (placed t) (seen behind) (Want Whole Done) 0 f);
      deep = λ u b. subst (λ (k : ℕ). FirstDeepIs k (levelled u)) (length_seen before) (deep_in_unit (seen before) (placed t) (seen behind) f u b);
    }

-- the last token, End, is never read over
abbrev NoTake : {V : Type 0} → Turn V → Type 0
NoTake (Steps (Takes s)) = ⊥
NoTake (Steps (Opens k s)) = ⊥
NoTake x = Unit {0}

end_turn : (g : Goal) (t : Placed) (n : ℕ) (κ : Val g → Stack) → NoTake (turn g c.End t n κ)
end_turn Expr t n κ = tt
end_turn g t n κ = tt

module _ (L : ℕ → Bool) where
  no_take : {V : Type 0} (x : Turn V) (n : ℕ) (r : Stack) (m : ℕ) (f : ℕ → V → Next) → NoTake x → pick L x n f ≡ Goes r m → ((i : ℕ) (v : V) → f i v ≡ Goes r m → ⊥) → ⊥
  no_take (Steps (Takes s)) n r m f h e g = h
  no_take (Steps (Opens k s)) n r m f h e g = h
  no_take (Steps (Finishes s)) n r m f h e g = absurd (cc)
  no_take (Steps Refuses) n r m f h e g = absurd (cc)
  no_take (Passes i v) n r m f h e g = g i v e

  end_goes : (s : Stack) (t : Placed) (n : ℕ) (r : Stack) (m : ℕ) → class_of t.kind ≡ c.End → next L s t n ≡ Goes r m → ⊥
  end_goes (Done v) t n r m h e = absurd (cc)
  end_goes (Want g κ) t n r m h e = no_take (turn g (class_of t.kind) t n κ) n r m _ (subst (λ (k : Class). NoTake (turn g k t n κ)) (sym h) (end_turn g t n κ)) e (λ i v q. end_goes (κ v) t i r m h q)

-- where the text ends within the limit, it ends without it
turn_ends_freely : {V : Type 0} (x : Turn V) (n : ℕ) (r : Stack) (f g : ℕ → V → Next) → pick limit x n f ≡ Ends r → ((i : ℕ) (v : V) → f i v ≡ Ends r → g i v ≡ Ends r) → pick free x n g ≡ Ends r
turn_ends_freely (Steps (Takes s)) n r f g e h = absurd (cc)
turn_ends_freely (Steps (Opens k s)) n r f g e h = absurd (opened_ends (limit (n + k)) s r (n + k) e)
turn_ends_freely (Steps (Finishes s)) n r f g e h = e
turn_ends_freely (Steps Refuses) n r f g e h = absurd (cc)
turn_ends_freely (Passes i v) n r f g e h = h i v e

ends_freely : (s : Stack) (t : Placed) (n : ℕ) (r : Stack) → next limit s t n ≡ Ends r → next free s t n ≡ Ends r
ends_freely (Done v) t n r e = absurd (cc)
ends_freely (Want g κ) t n r e = turn_ends_freely (turn g (class_of t.kind) t n κ) n r _ _ e (λ i v q. ends_freely (κ v) t i r q)

ok_fault : (x : Result AUnit Fault) (u : AUnit) (f : Fault) → x ≡ Err f → x ≡ Ok u → ⊥
ok_fault x u f e h = absurd (cc)

some_of : (j : ℕ) → ◌≡◌ {A = Result AUnit Fault} (Err (NotHere (suc j))) (Err (NotHere 0)) → ⊥
some_of j e = absurd (omega (arith, ap left_of e))

deep_not : (j : ℕ) → ◌≡◌ {A = Result AUnit Fault} (Err (TooDeep j)) (Err (NotHere 0)) → ⊥
deep_not j e = absurd (cc)

at_end_both : (r : Stack) (w : List Placed) (u : AUnit) → closing r ≡ Err (NotHere 0) → at_end r w ≡ Ok u → ⊥
at_end_both r [] u e h = ok_fault (closing r) u (NotHere 0) e h
at_end_both r (t ∷ w) u e h = ok_fault (at_end r (t ∷ w)) u (NotHere (length (t ∷ w))) refl h

end_on : (x : Next) (s : Stack) (t : Placed) (n : ℕ) (w : List Placed) (u : AUnit) → class_of t.kind ≡ c.End → next limit s t n ≡ x → on x [] (λ r m. run limit r m []) ≡ Err (NotHere 0)
    → run free s n (t ∷ w) ≡ Ok u → ⊥
end_on (Goes r m) s t n w u h d e k = end_goes limit s t n r m h d
end_on (Ends r) s t n w u h d e k = at_end_both r w u e (subst (λ (x : Next). on x w (λ r m. run free r m w) ≡ Ok u) (ends_freely s t n r d) k)
end_on Deep s t n w u h d e k = deep_not 1 e
end_on Stuck s t n w u h d e k = some_of 0 e

end_step : (x : Next) (s : Stack) (p : Placed) (n : ℕ) (pre : List Placed) (t : Placed) (w : List Placed) (u : AUnit) → next limit s p n ≡ x
    → on x (pre ++ t ∷ []) (λ r m. run limit r m (pre ++ t ∷ [])) ≡ Err (NotHere 0) → run free s n (p ∷ pre ++ t ∷ w) ≡ Ok u
    → ((r : Stack) (m : ℕ) → run limit r m (pre ++ t ∷ []) ≡ Err (NotHere 0) → run free r m (pre ++ t ∷ w) ≡ Ok u → ⊥) → ⊥
end_step (Goes r m) s p n pre t w u d e k ih = ih r m e (subst (λ (x : Next). on x (pre ++ t ∷ w) (λ r m. run free r m (pre ++ t ∷ w)) ≡ Ok u) (goes_freely s p n r m d) k)
end_step (Ends r) s p n [] t w u d e k ih = some_of 0 e
end_step (Ends r) s p n (q ∷ pre) t w u d e k ih = some_of (length (pre ++ t ∷ [])) e
end_step Deep s p n pre t w u d e k ih = deep_not (suc (length (pre ++ t ∷ []))) e
end_step Stuck s p n pre t w u d e k ih = some_of (length (pre ++ t ∷ [])) e

end_read : (pre : List Placed) (t : Placed) (w : List Placed) (s : Stack) (n : ℕ) (u : AUnit) → class_of t.kind ≡ c.End → run limit s n (pre ++ t ∷ []) ≡ Err (NotHere 0)
    → run free s n (pre ++ t ∷ w) ≡ Ok u → ⊥
end_read [] t w s n u h e k = end_on (next limit s t n) s t n w u h refl e k
end_read (p ∷ pre) t w s n u h e k = end_step (next limit s p n) s p n pre t w u refl e k (λ r m x y. end_read pre t w r m u h x y)

-- a text that has End as its last token does not end too early
pub some_left : (before : List Spanned) (t : Spanned) → t.kind ≡ End → Stops (before ++ t ∷ []) (NotHere 0) → ⊥
some_left before t h e =
    let ts : List Placed = seen before ++ placed t ∷ [] in
    let f : run limit (Want Whole Done) 0 ts ≡ Err (NotHere 0) = ap (run limit (Want Whole Done) 0) (sym (seen_append before (t ∷ []))) ∙ e in
    let b : BeginsUnit ts = begins_unit ts (subst (λ (x : List Placed). respelled x ≡ x) (seen_append before (t ∷ [])) (seen_respelled (before ++ t ∷ [])))
    (viable limit ts [] (Want Whole Done) 0 (ap (λ (x : List Placed). left_of (run limit (Want Whole Done) 0 x)) (append-nil ts) ∙ ap left_of f)) in
    let text : unit_tokens b.unit ≡ seen before ++ placed t ∷ b.begins.word = b.begins.text ∙ append_one (seen before) (placed t) b.begins.word in
    end_read (seen before) (placed t) b.begins.word (Want Whole Done) 0 b.unit (ap class_of h) f
    (ap (run free (Want Whole Done) 0) (sym text) ∙ law_unit free b.unit b.begins.fits (low_externals b.unit.externals))

-- a text parted at the token with which so many are left
record Parted (ts : List Spanned) (k : ℕ) : Type 0 where
  before : List Spanned
  token : Spanned
  behind : List Spanned
  text : ts ≡ before ++ token ∷ behind
  left : k ≡ suc (length behind)

first_or_later : (k n : ℕ) → k ≤ suc n → (k ≡ suc n) ⊎ (k ≤ n)
first_or_later k n le = by (nat_lt n k) refl
  where
    by : (b : Bool) → nat_lt n k ≡ b → (k ≡ suc n) ⊎ (k ≤ n)
    by true e = inl (grind (arith, nat_tests))
    by false e = inr (grind (arith, nat_tests))

parted_by : (t : Spanned) (ts : List Spanned) (k : ℕ) → (k ≡ suc (length ts)) ⊎ (k ≤ length ts) → (k ≤ length ts → Parted ts k) → Parted (t ∷ ts) k
parted_by t ts k (inl e) f = record { before = []; token = t; behind = ts; text = refl; left = e }
parted_by t ts k (inr le) f = let p = f le in record { before = t ∷ p.before; token = p.token; behind = p.behind; text = ap (λ (x : List Spanned). t ∷ x) p.text; left = p.left }

parted : (ts : List Spanned) (k : ℕ) → 0 < k → k ≤ length ts → Parted ts k
parted [] k some within = absurd (omega (arith, some, within))
parted (t ∷ ts) k some within = parted_by t ts k (first_or_later k (length ts) within) (λ le. parted ts k some le)

record LastIs (ts : List Spanned) : Type 0 where
  before : List Spanned
  token : Spanned
  text : ts ≡ before ++ token ∷ []
  is_end : token.kind ≡ End

last_is : (ts : List Spanned) → IsEnded ts → LastIs ts
last_is [] h = absurd h
last_is (t ∷ []) h = record { before = []; token = t; text = refl; is_end = h }
last_is (t ∷ u ∷ ts) h = let l = last_is (u ∷ ts) h in record { before = t ∷ l.before; token = l.token; text = ap (λ (x : List Spanned). t ∷ x) l.text; is_end = l.is_end }

pub within_seen : (ts : List Spanned) (f : Fault) → Stops ts f → left_of (Err f) ≤ length ts
within_seen ts f e = subst (λ (n : ℕ). left_of (Err f) ≤ n) (length_seen ts) (fault_within (seen ts) f e)

pub here_some : (ts : List Spanned) (k : ℕ) → IsEnded ts → Stops ts (NotHere k) → 0 < k
here_some ts zero h e = let l = last_is ts h in absurd (some_left l.before l.token l.is_end (ap (λ (x : List Spanned). run limit (Want Whole Done) 0 (seen x)) (sym l.text) ∙ e))
here_some ts (suc k) h e = omega arith

deep_some_on : (x : Next) (ts : List Placed) → on x ts (λ r m. run limit r m ts) ≡ Err (TooDeep 0) → ((r : Stack) (m : ℕ) → run limit r m ts ≡ Err (TooDeep 0) → ⊥) → ⊥
deep_some_on (Goes r m) ts e ih = ih r m e
deep_some_on (Ends r) ts e ih = no_deep r ts 0 e
deep_some_on Deep ts e ih = absurd (omega (arith, same_deep (suc (length ts)) 0 e))
deep_some_on Stuck ts e ih = absurd (cc)

deep_some : (ts : List Placed) (s : Stack) (n : ℕ) → run limit s n ts ≡ Err (TooDeep 0) → ⊥
deep_some [] s n e = absurd (cc)
deep_some (t ∷ ts) s n e = deep_some_on (next limit s t n) ts e (λ r m q. deep_some ts r m q)

pub too_deep_some : (ts : List Spanned) (k : ℕ) → Stops ts (TooDeep k) → 0 < k
too_deep_some ts zero e = absurd (deep_some (seen ts) (Want Whole Done) 0 e)
too_deep_some ts (suc k) e = omega arith

pub refused_here : (ts : List Spanned) (k place : ℕ) → IsEnded ts → Stops ts (NotHere k) → IsPlace ts k place → NotHereAt ts place
refused_here ts k place h e p =
    let a : Parted ts k = parted ts k (here_some ts k h e) (within_seen ts (NotHere k) e) in
    let f : Stops (a.before ++ a.token ∷ a.behind) (NotHere (suc (length a.behind))) = ap (λ (x : List Spanned). run limit (Want Whole Done) 0 (seen x)) (sym a.text) ∙ e
    ∙ ap (λ (j : ℕ). Err (NotHere j)) a.left in
    let r : NotHereAt (a.before ++ a.token ∷ a.behind) a.token.start = not_here_at a.before a.token a.behind f in
    subst (λ (x : List Spanned). NotHereAt x place) (sym a.text) (subst (λ (q : ℕ). NotHereAt (a.before ++ a.token ∷ a.behind) q) (sym (p a.before a.token a.behind a.text a.left)) r)

pub too_deep_there : (ts : List Spanned) (k place : ℕ) → Stops ts (TooDeep k) → IsPlace ts k place → TooDeepAt ts place
too_deep_there ts k place e p =
    let a : Parted ts k = parted ts k (too_deep_some ts k e) (within_seen ts (TooDeep k) e) in
    let f : Stops (a.before ++ a.token ∷ a.behind) (TooDeep (suc (length a.behind))) = ap (λ (x : List Spanned). run limit (Want Whole Done) 0 (seen x)) (sym a.text) ∙ e
    ∙ ap (λ (j : ℕ). Err (TooDeep j)) a.left in
    let r : TooDeepAt (a.before ++ a.token ∷ a.behind) a.token.start = too_deep_at a.before a.token a.behind f in
    subst (λ (x : List Spanned). TooDeepAt x place) (sym a.text) (subst (λ (q : ℕ). TooDeepAt (a.before ++ a.token ∷ a.behind) q) (sym (p a.before a.token a.behind a.text a.left)) r)

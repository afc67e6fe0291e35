-- A text has one fault of its phrases at most, and none where it is a unit.
use Rattle.std.proofs.Common.{◌≡◌, ℕ, zero, suc, ◌<◌, ◌+◌, true, List, [], ◌∷◌, ◌++◌, length, refl, sym, ap, subst, ◌∙◌, append_assoc, length-append, arith}
use Rattle.std.specs.Prelude.{Ok, Err}
use Rattle.std.proofs.lemmas.List.{append-nil}
use Rattle.c_tokens.specs.declared.token.Spanned.{Spanned}
use Rattle.c_phrases.specs.declared.tree.Ast.{Ast}
use Rattle.c_phrases.specs.UnitShapes.{unit_of}
use Rattle.c_phrases.specs.Classes.{Placed, placed, seen}
use Rattle.c_phrases.specs.Levels.{limit}
use Rattle.c_phrases.specs.Units.{AUnit}
use Rattle.c_phrases.specs.Grammar.{IsUnit}
use Rattle.c_syntax_goals.specs.Openings.{Opening}
use Rattle.c_syntax_goals.specs.UnitOpenings.{levelled}
use Rattle.c_syntax_goals.specs.Refusals.{NoneDeep, FirstAreLow, FirstDeepIs, Begins, NotHereAt, TooDeepAt}
use Rattle.c_syntax_goals.proofs.Lowness.{low_both}
use Rattle.c_syntax_goals.proofs.Faults.{seen_append}
use Rattle.c_syntax.specs.declared.fault.SyntaxFault.{SyntaxFault}
use Rattle.c_syntax.specs.declared.fault.SyntaxFault.TheVariants.{NoMemory, NotHere, TooDeep}
use Rattle.c_syntax.specs.Answers.{HasFault, IsOnlyFault}

-- of two places in a text, both are one, or one stands before the other
data Places (a : List Spanned) (t : Spanned) (b : List Spanned) (u : Spanned) : Type 0 where
  One : (before : a ≡ b) (token : t ≡ u) → Places a t b u
  Earlier : (more : List Spanned) (is : b ≡ a ++ t ∷ more) → Places a t b u
  Later : (more : List Spanned) (is : a ≡ b ++ u ∷ more) → Places a t b u

further : (x y : Spanned) (a : List Spanned) (t : Spanned) (b : List Spanned) (u : Spanned) → x ≡ y → Places a t b u → Places (x ∷ a) t (y ∷ b) u
further x y a t b u same (One before token) = One (ap (λ (z : Spanned). z ∷ a) same ∙ ap (λ (z : List Spanned). y ∷ z) before) token
further x y a t b u same (Earlier more is) = Earlier more (ap (λ (z : Spanned). z ∷ b) (sym same) ∙ ap (λ (z : List Spanned). x ∷ z) is)
further x y a t b u same (Later more is) = Later more (ap (λ (z : Spanned). z ∷ a) same ∙ ap (λ (z : List Spanned). y ∷ z) is)

two_places : (a : List Spanned) (t : Spanned) (r : List Spanned) (b : List Spanned) (u : Spanned) (s : List Spanned) → a ++ t ∷ r ≡ b ++ u ∷ s → Places a t b u
two_places [] t r [] u s e = One refl (cc)
two_places [] t r (y ∷ b) u s e = Earlier b (let same : t ≡ y = cc in ap (λ (z : Spanned). z ∷ b) (sym same))
two_places (x ∷ a) t r [] u s e = Later a (let same : x ≡ u = cc in ap (λ (z : Spanned). z ∷ a) same)
two_places (x ∷ a) t r (y ∷ b) u s e = further x y a t b u (cc) (two_places a t r b u s (cc))

-- a unit that begins with tokens begins with fewer of them
begins_fewer : (ts more : List Placed) (u : AUnit) → Begins (ts ++ more) u → Begins ts u
begins_fewer ts more u b = record { fits = b.fits; word = more ++ b.word; text = b.text ∙ append_assoc ts more b.word }

up_to : (a : List Spanned) (t : Spanned) (more : List Spanned) (rest : List Placed) → seen (a ++ t ∷ more) ++ rest ≡ (seen a ++ placed t ∷ []) ++ (seen more ++ rest)
up_to a t more rest =
    ap (λ (z : List Placed). z ++ rest) (seen_append a (t ∷ more))
    ∙ (append_assoc (seen a) (placed t ∷ seen more) rest ∙ sym (append_assoc (seen a) (placed t ∷ []) (seen more ++ rest)))

-- of a unit that begins with more tokens than those up to a place
begins_at : (a : List Spanned) (t : Spanned) (more : List Spanned) (rest : List Placed) (u : AUnit) → Begins (seen (a ++ t ∷ more) ++ rest) u →
    Begins (seen a ++ placed t ∷ []) u
begins_at a t more rest u b = begins_fewer (seen a ++ placed t ∷ []) (seen more ++ rest) u (subst (λ (z : List Placed). Begins z u) (up_to a t more rest) b)

no_more : (ts : List Placed) (u : AUnit) → Begins ts u → Begins (ts ++ []) u
no_more ts u b = record { fits = b.fits; word = b.word; text = b.text ∙ ap (λ (z : List Placed). z ++ b.word) (sym (append-nil ts)) }

-- the first that is too deep is one
low_and_deep : (n m : ℕ) (w : List Opening) → n < m → FirstDeepIs n w → FirstAreLow m w → ⊥
low_and_deep n zero w le d l = absurd (omega arith)
low_and_deep n (suc m) [] le d l = d
low_and_deep zero (suc m) (o ∷ w) le d l = absurd (let low : limit o.level ≡ true = l.0 in cc)
low_and_deep (suc n) (suc m) (o ∷ w) le d l = low_and_deep n m w (omega arith) d.1 l.1

first_deep : (n m : ℕ) (w : List Opening) → n < m → FirstDeepIs n w → FirstDeepIs m w → ⊥
first_deep n m [] le d e = d
first_deep n zero (o ∷ w) le d e = absurd (omega arith)
first_deep zero (suc m) (o ∷ w) le d e = absurd (let low : limit o.level ≡ true = e.0 in cc)
first_deep (suc n) (suc m) (o ∷ w) le d e = first_deep n m w (omega arith) d.1 e.1

none_deep : (n : ℕ) (w : List Opening) → FirstDeepIs n w → NoneDeep w → ⊥
none_deep n [] d l = d
none_deep zero (o ∷ w) d l = absurd (let low : limit o.level ≡ true = l.0 in cc)
none_deep (suc n) (o ∷ w) d l = none_deep n w d.1 l.1

shorter : (a b : List Spanned) (t : Spanned) (more : List Spanned) → b ≡ a ++ t ∷ more → length a < length b
shorter a b t more is = let sum : length b ≡ length a + length (t ∷ more) = ap length is ∙ length-append a (t ∷ more) in omega arith

module _ (ts : List Spanned) where
  -- a place that may not be stands before no token of a unit's beginning
  before_unit : (p : ℕ) (h : NotHereAt ts p) (b more : List Spanned) (rest : List Placed) (u : AUnit) → b ≡ h.before ++ h.token ∷ more →
      Begins (seen b ++ rest) u → ⊥
  before_unit p h b more rest u is begins =
      h.none u (begins_at h.before h.token more rest u (subst (λ (z : List Spanned). Begins (seen z ++ rest) u) is begins))

  pub here_once : (p q : ℕ) → NotHereAt ts p → NotHereAt ts q → p ≡ q
  here_once p q h k = by (two_places h.before h.token h.behind k.before k.token k.behind (sym h.text ∙ k.text))
    where
      by : Places h.before h.token k.before k.token → p ≡ q
      by (One before token) = h.stands ∙ (ap (λ (z : Spanned). z.start) token ∙ sym k.stands)
      by (Earlier more is) = absurd (before_unit p h k.before more [] k.some.unit is (no_more (seen k.before) k.some.unit k.some.begins))
      by (Later more is) = absurd (before_unit q k h.before more [] h.some.unit is (no_more (seen h.before) h.some.unit h.some.begins))

  deep_before : (p q : ℕ) (h : TooDeepAt ts p) (k : TooDeepAt ts q) (more : List Spanned) → k.before ≡ h.before ++ h.token ∷ more → ⊥
  deep_before p q h k more is =
      let u = k.some.unit in
      let begins = begins_at h.before h.token more (placed k.token ∷ []) u
      (subst (λ (z : List Spanned). Begins (seen z ++ placed k.token ∷ []) u) is k.some.begins) in
      first_deep (length h.before) (length k.before) (levelled u) (shorter h.before k.before h.token more is) (h.deep u begins) (k.deep u k.some.begins)

  pub deep_once : (p q : ℕ) → TooDeepAt ts p → TooDeepAt ts q → p ≡ q
  deep_once p q h k = by (two_places h.before h.token h.behind k.before k.token k.behind (sym h.text ∙ k.text))
    where
      by : Places h.before h.token k.before k.token → p ≡ q
      by (One before token) = h.stands ∙ (ap (λ (z : Spanned). z.start) token ∙ sym k.stands)
      by (Earlier more is) = absurd (deep_before p q h k more is)
      by (Later more is) = absurd (deep_before q p k h more is)

  pub one_of_two : (p q : ℕ) → NotHereAt ts p → TooDeepAt ts q → ⊥
  one_of_two p q h k = by (two_places h.before h.token h.behind k.before k.token k.behind (sym h.text ∙ k.text))
    where
      u : AUnit
      u = k.some.unit

      by : Places h.before h.token k.before k.token → ⊥
      by (One before token) =
          h.none u (subst (λ (z : Spanned). Begins (seen h.before ++ placed z ∷ []) u) (sym token)
          (subst (λ (z : List Spanned). Begins (seen z ++ placed k.token ∷ []) u) (sym before) k.some.begins))
      by (Earlier more is) = before_unit p h k.before more (placed k.token ∷ []) u is k.some.begins
      by (Later more is) =
          let v = h.some.unit in
          let begins = begins_at k.before k.token more [] v
          (subst (λ (z : List Spanned). Begins (seen z ++ []) v) is (no_more (seen h.before) v h.some.begins)) in
          low_and_deep (length k.before) (length h.before) (levelled v) (shorter k.before h.before k.token more is) (k.deep v begins) (h.low v h.some.begins)

  -- a unit begins with its tokens up to any
  unit_begins : (u : AUnit) → IsUnit (seen ts) u → (a : List Spanned) (t : Spanned) (r : List Spanned) → ts ≡ a ++ t ∷ r → Begins (seen a ++ placed t ∷ []) u
  unit_begins u is a t r text =
      begins_at a t r [] u (no_more (seen (a ++ t ∷ r)) u (record {
        fits = is.fits;
        word = [];
        text = sym is.text ∙ (ap seen text ∙ sym (append-nil (seen (a ++ t ∷ r))));
      }))

  pub unit_is_here : (u : AUnit) (p : ℕ) → IsUnit (seen ts) u → NotHereAt ts p → ⊥
  unit_is_here u p is h = h.none u (unit_begins u is h.before h.token h.behind h.text)

  pub unit_is_low : (u : AUnit) (p : ℕ) → IsUnit (seen ts) u → TooDeepAt ts p → ⊥
  unit_is_low u p is h =
      none_deep (length h.before) (levelled u) (h.deep u (unit_begins u is h.before h.token h.behind h.text)) ((low_both u).0 is.low)

  -- what is answered where a fault stands
  pub first_in_unit : (x : Ast) (f : SyntaxFault) → IsUnit (seen ts) (unit_of x) → HasFault ts f → IsOnlyFault (Ok x) f
  first_in_unit x NoMemory is h = h
  first_in_unit x (NotHere place) is h = unit_is_here (unit_of x) place is h
  first_in_unit x (TooDeep place) is h = unit_is_low (unit_of x) place is h

  pub first_not_here : (p : ℕ) (f : SyntaxFault) → NotHereAt ts p → HasFault ts f → IsOnlyFault (Err (NotHere p)) f
  first_not_here p NoMemory is h = absurd h
  first_not_here p (NotHere place) is h = ap (λ (q : ℕ). NotHere q) (here_once p place is h)
  first_not_here p (TooDeep place) is h = absurd (one_of_two p place is h)

  pub first_too_deep : (p : ℕ) (f : SyntaxFault) → TooDeepAt ts p → HasFault ts f → IsOnlyFault (Err (TooDeep p)) f
  first_too_deep p NoMemory is h = absurd h
  first_too_deep p (NotHere place) is h = absurd (one_of_two place p h is)
  first_too_deep p (TooDeep place) is h = ap (λ (q : ℕ). TooDeep q) (deep_once p place is h)

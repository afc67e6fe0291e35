-- The exits of the functions that read types.
use Rattle.std.proofs.Common.{◌≡◌, ℕ, List, [], ◌∷◌, ◌++◌, None, refl, ◌∙◌, ap, append_assoc}
use Rattle.std.specs.Prelude.{Option}
use Rattle.std.proofs.lemmas.List.{append-nil}
use Rattle.c_tokens.specs.declared.token.Token.TheVariants as token
use Rattle.c_tokens.specs.declared.words.Key.TheVariants as keys
use Rattle.c_tokens.specs.declared.marks.Mark.TheVariants as marks
use Rattle.c_phrases.specs.Classes.{Placed, class_of, sign}
use Rattle.c_phrases.specs.Classes as c
use Rattle.c_syntax_goals.proofs.Tokens.{not_class}
use Rattle.c_syntax_goals.specs.Goals.{Stack, Want, AfterShort, Stars}
use Rattle.c_syntax_goals.specs.Machine.{run}
use Rattle.c_syntax_goals.proofs.Steps.{stars_by, short_by}
use Rattle.c_phrases.specs.Levels.{limit}
use Rattle.c_phrases.specs.Spelling.{onto_stars}
use Rattle.c_phrases.specs.Fronts.{IsNot}
use Rattle.c_syntax.specs.Reads.{ReadsInt, ReadsStars, StarsSoFar}

pub int_none : (ts : List Placed) → IsNot (token.Key keys.Int) ts → ReadsInt ts None ts
int_none ts h = record { text = refl; leads = λ n κ. passes ts h κ n }
  where
    passes : (ts : List Placed) → IsNot (token.Key keys.Int) ts → (κ : Option ℕ → Stack) (n : ℕ) → run limit (Want AfterShort κ) n ts ≡ run limit (κ None) n ts
    passes [] h κ n = refl
    passes (t ∷ ts) h κ n = rw (short_by (class_of t.kind) (not_class t.kind (token.Key keys.Int) refl h) t n κ) refl

-- stars
pub stars_begin : (ts : List Placed) → StarsSoFar ts [] ts
stars_begin ts = record { text = λ w v e. e }

pub stars_more : (ts rest after : List Placed) (ats bts : List ℕ) (at : ℕ) → StarsSoFar ts ats rest → rest ≡ sign marks.Star at ∷ after → bts ≡ ats ++ at ∷ [] → StarsSoFar ts bts after
stars_more ts rest after ats bts at s e f = record {
  text = λ w v g. rw (f, append_assoc ats (at ∷ []) v) (s.text w (at ∷ v) (e ∙ ap (λ (l : List Placed). sign marks.Star at ∷ l) g));
}

stars_pass : (ts : List Placed) → IsNot (token.Mark marks.Star) ts → (κ : List ℕ → Stack) (n : ℕ) → run limit (Want Stars κ) n ts ≡ run limit (κ []) n ts
stars_pass [] h κ n = refl
stars_pass (t ∷ ts) h κ n = rw (stars_by (class_of t.kind) (not_class t.kind (token.Mark marks.Star) refl h) t n κ) refl

law_stars : (ats : List ℕ) (w : List Placed) → IsNot (token.Mark marks.Star) w → (κ : List ℕ → Stack) (n : ℕ) → run limit (Want Stars κ) n (onto_stars ats w) ≡ run limit (κ ats) n w
law_stars [] w h κ n = stars_pass w h κ n
law_stars (at ∷ ats) w h κ n = law_stars ats w h (λ v. κ (at ∷ v)) n

pub stars_end : (ts rest : List Placed) (ats : List ℕ) → StarsSoFar ts ats rest → IsNot (token.Mark marks.Star) rest → ReadsStars ts ats rest
stars_end ts rest ats s h =
    let e : ts ≡ onto_stars ats rest = s.text rest [] refl ∙ rw (append-nil ats) refl in
    record { text = e; leads = λ n κ. rw e (law_stars ats rest h κ n) }

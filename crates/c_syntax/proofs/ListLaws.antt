-- Lists of declarators, parameters, items and externals, one more at the end.
use Rattle.std.proofs.Common.{◌≡◌, ◌<◌, ◌≤◌, ℕ, List, [], ◌∷◌, ◌++◌, length, refl, sym, ◌∙◌, ap, arith}
use Rattle.std.specs.Prelude.{Option, Some, None, Bool, true, false}
use Rattle.c_tokens.specs.declared.marks.Mark.TheVariants as marks
use Rattle.c_phrases.specs.declared.tree.Declarator.{Declarator}
use Rattle.c_phrases.specs.Classes.{Placed, sign}
use Rattle.c_phrases.specs.Phrases.{AnExp}
use Rattle.c_phrases.specs.Spelling.{onto_name}
use Rattle.c_phrases.specs.Levels.{limit}
use Rattle.c_phrases.specs.Units.{ALength, AnInit, value, elements, AnInitialised, ADeclarator}
use Rattle.c_phrases.specs.UnitSpelling.{onto_part, onto_length, onto_trailing, onto_init, onto_initialised}
use Rattle.c_phrases.specs.UnitSpelling.{onto_declarator, onto_more_declarators, onto_declarators}
use Rattle.c_phrases.specs.Fits.{DeclaratorFits, DeclaratorsFit, HasDeclarator}
use Rattle.c_phrases.specs.UnitLevels.{LowDeclarator, LowDeclarators}
use Rattle.c_phrases.specs.UnitShapes.{declarator_of, declarators_of}
use Rattle.c_syntax.specs.Stands.{ReadsDeclarator, DeclaratorsSoFar}
use Rattle.c_syntax.proofs.ExpressionLaws.{longer_exp, longer_first, longer_stars}

-- declarators
pub declarators_push : (ds : List Declarator) (d : Declarator) → declarators_of (ds ++ d ∷ []) ≡ declarators_of ds ++ declarator_of d ∷ []
declarators_push [] d = refl
declarators_push (x ∷ xs) d = ap (λ (l : List ADeclarator). declarator_of x ∷ l) (declarators_push xs d)

more_declarators_end : (ds : List ADeclarator) (d : ADeclarator) (w : List Placed) → onto_more_declarators (ds ++ d ∷ []) w ≡ onto_more_declarators ds (sign marks.Comma 0 ∷ onto_declarator d w)
more_declarators_end [] d w = refl
more_declarators_end (x ∷ xs) d w = ap (λ (l : List Placed). sign marks.Comma 0 ∷ onto_declarator x l) (more_declarators_end xs d w)

declarators_end : (ds : List ADeclarator) (d : ADeclarator) (w : List Placed) → HasDeclarator ds → onto_declarators (ds ++ d ∷ []) w ≡ onto_declarators ds (sign marks.Comma 0 ∷ onto_declarator d w)
declarators_end [] d w h = absurd h
declarators_end (x ∷ xs) d w h = ap (onto_declarator x) (more_declarators_end xs d w)

fits_end : (ds : List ADeclarator) (d : ADeclarator) → DeclaratorsFit ds → DeclaratorFits d → DeclaratorsFit (ds ++ d ∷ [])
fits_end [] d h i = (i, tt)
fits_end (x ∷ xs) d h i = (h.0, fits_end xs d h.1 i)

low_declarators_end : (ds : List ADeclarator) (d : ADeclarator) (n : ℕ) → LowDeclarators limit ds n → LowDeclarator limit d n → LowDeclarators limit (ds ++ d ∷ []) n
low_declarators_end [] d n h i = (i, tt)
low_declarators_end (x ∷ xs) d n h i = (h.0, low_declarators_end xs d n h.1 i)

has_end : (ds : List ADeclarator) (d : ADeclarator) → HasDeclarator (ds ++ d ∷ [])
has_end [] d = tt
has_end (x ∷ xs) d = tt

pub declarators_begin : (n : ℕ) (d : ADeclarator) (ts : List Placed) → DeclaratorFits d × LowDeclarator limit d n → DeclaratorsSoFar n (onto_declarator d ts) (d ∷ []) ts
declarators_begin n d ts h = record { text = refl; some = tt; fits = (h.0, tt); low = (h.1, tt) }

pub declarators_more : (n : ℕ) (ts rest after behind : List Placed) (ds : List ADeclarator) (d : ADeclarator) → DeclaratorsSoFar n ts ds rest → rest ≡ sign marks.Comma 0 ∷ after
    → ReadsDeclarator n after d behind → DeclaratorsSoFar n ts (ds ++ d ∷ []) behind
declarators_more n ts rest after behind ds d s e r = record {
  text = s.text ∙ (ap (onto_declarators ds) (e ∙ ap (λ (l : List Placed). sign marks.Comma 0 ∷ l) r.text) ∙ sym (declarators_end ds d behind s.some));
  some = has_end ds d;
  fits = fits_end ds d s.fits r.fits;
  low = low_declarators_end ds d n s.low r.low;
}

pub longer_part : (e : Option AnExp) (w : List Placed) → length w ≤ length (onto_part e w)
longer_part None w = omega arith
longer_part (Some e) w = omega (arith, longer_exp e w)

pub longer_length : (l : Option ALength) (w : List Placed) → length w ≤ length (onto_length l w)
longer_length None w = omega arith
longer_length (Some l) w = omega (arith, longer_part l.value (sign marks.CloseBracket 0 ∷ w))

pub longer_trailing : (t : Bool) (w : List Placed) → length w ≤ length (onto_trailing t w)
longer_trailing true w = omega arith
longer_trailing false w = omega arith

pub longer_init : (i : AnInit) (w : List Placed) → length w ≤ length (onto_init i w)
longer_init (value e) w = omega (arith, longer_exp e w)
longer_init (elements es t) w = omega (arith, longer_first es (onto_trailing t (sign marks.CloseBrace 0 ∷ w)), longer_trailing t (sign marks.CloseBrace 0 ∷ w))

pub longer_initialised : (i : Option AnInitialised) (w : List Placed) → length w ≤ length (onto_initialised i w)
longer_initialised None w = omega arith
longer_initialised (Some i) w = omega (arith, longer_init i.with_init w)

pub longer_declarator : (d : ADeclarator) (w : List Placed) → length w < length (onto_declarator d w)
longer_declarator d w = omega (
  arith,
  longer_stars d.stars (onto_name d.name d.at (onto_length d.length (onto_initialised d.init w))),
  longer_length d.length (onto_initialised d.init w),
  longer_initialised d.init w,
)

pub declarators_shorter : (n : ℕ) (rest after behind : List Placed) (d : ADeclarator) → rest ≡ sign marks.Comma 0 ∷ after → ReadsDeclarator n after d behind → length behind < length rest
declarators_shorter n rest after behind d e r = omega (arith, ap length e, ap length r.text, longer_declarator d behind)

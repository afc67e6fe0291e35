-- Parameters and what stands at file level, one more at the end.
use Rattle.std.proofs.Common.{◌≡◌, ◌<◌, ◌≤◌, ℕ, List, [], ◌∷◌, ◌++◌, length, refl, sym, ◌∙◌, ap, arith}
use Rattle.std.specs.Prelude.{Option, Some, None}
use Rattle.c_tokens.specs.declared.token.Token.TheVariants as token
use Rattle.c_tokens.specs.declared.marks.Mark.TheVariants as marks
use Rattle.c_phrases.specs.declared.operator.Spec.TheVariants as specs
use Rattle.c_phrases.specs.declared.tree.Param.{Param}
use Rattle.c_phrases.specs.declared.tree.Named.{Named}
use Rattle.c_phrases.specs.declared.tree.External.{External}
use Rattle.c_phrases.specs.Classes.{Placed, sign}
use Rattle.c_phrases.specs.Spelling.{onto_spec, onto_stars, onto_name}
use Rattle.c_phrases.specs.Levels.{limit}
use Rattle.c_phrases.specs.Units.{AParam, SomeParams, no_params, void_word, params, SomeItems, AnExternal}
use Rattle.c_phrases.specs.Units.{ADeclared, function, globals}
use Rattle.c_phrases.specs.UnitSpelling.{onto_params, onto_body, onto_length, onto_named, onto_param}
use Rattle.c_phrases.specs.UnitSpelling.{onto_more_params, onto_param_list, onto_external, onto_externals}
use Rattle.c_phrases.specs.UnitSpelling.{onto_static, onto_declared}
use Rattle.c_phrases.specs.Fits.{ParamFits, ParamsFit, ExternalsFit}
use Rattle.c_phrases.specs.UnitLevels.{LowLength, LowParams, LowExternals}
use Rattle.c_phrases.specs.UnitShapes.{param_of, param_list, external_of, externals_of}
use Rattle.c_phrases.specs.Grammar.{IsUnit}
use Rattle.c_syntax.specs.Stands.{ReadsParam, HasParam, ParamsSoFar, ReadsExternal, ReadsExternals}
use Rattle.c_syntax.proofs.ListLaws.{longer_length}
use Rattle.c_syntax.proofs.ItemLaws.{longer_spec, longer_declarators, longer_items}
use Rattle.c_syntax.proofs.ExpressionLaws.{longer_stars}

pub params_push : (ps : List Param) (p : Param) → param_list (ps ++ p ∷ []) ≡ param_list ps ++ param_of p ∷ []
params_push [] p = refl
params_push (x ∷ xs) p = ap (λ (l : List AParam). param_of x ∷ l) (params_push xs p)

more_params_end : (ps : List AParam) (p : AParam) (w : List Placed) → onto_more_params (ps ++ p ∷ []) w ≡ onto_more_params ps (sign marks.Comma 0 ∷ onto_param p w)
more_params_end [] p w = refl
more_params_end (x ∷ xs) p w = ap (λ (l : List Placed). sign marks.Comma 0 ∷ onto_param x l) (more_params_end xs p w)

param_list_end : (ps : List AParam) (p : AParam) (w : List Placed) → HasParam ps → onto_param_list (ps ++ p ∷ []) w ≡ onto_param_list ps (sign marks.Comma 0 ∷ onto_param p w)
param_list_end [] p w h = absurd h
param_list_end (x ∷ xs) p w h = ap (onto_param x) (more_params_end xs p w)

params_fit_end : (ps : List AParam) (p : AParam) → ParamsFit ps → ParamFits p → ParamsFit (ps ++ p ∷ [])
params_fit_end [] p h i = (i, tt)
params_fit_end (x ∷ xs) p h i = (h.0, params_fit_end xs p h.1 i)

low_params_end : (ps : List AParam) (p : AParam) (n : ℕ) → LowParams limit ps n → LowLength limit p.length n → LowParams limit (ps ++ p ∷ []) n
low_params_end [] p n h i = (i, tt)
low_params_end (x ∷ xs) p n h i = (h.0, low_params_end xs p n h.1 i)

has_param_end : (ps : List AParam) (p : AParam) → HasParam (ps ++ p ∷ [])
has_param_end [] p = tt
has_param_end (x ∷ xs) p = tt

pub params_begin : (n : ℕ) (ts : List Placed) (p : AParam) (rest : List Placed) → ReadsParam n ts p rest → ParamsSoFar n ts (p ∷ []) rest
params_begin n ts p rest r = record { text = r.text; some = tt; fits = (r.fits, tt); low = (r.low, tt) }

pub params_more : (n : ℕ) (ts rest after behind : List Placed) (ps : List AParam) (p : AParam) → ParamsSoFar n ts ps rest → rest ≡ sign marks.Comma 0 ∷ after → ReadsParam n after p behind
    → ParamsSoFar n ts (ps ++ p ∷ []) behind
params_more n ts rest after behind ps p s e r = record {
  text = s.text ∙ (ap (onto_param_list ps) (e ∙ ap (λ (l : List Placed). sign marks.Comma 0 ∷ l) r.text) ∙ sym (param_list_end ps p behind s.some));
  some = has_param_end ps p;
  fits = params_fit_end ps p s.fits r.fits;
  low = low_params_end ps p n s.low r.low;
}

pub longer_named : (n : Option Named) (w : List Placed) → length w ≤ length (onto_named n w)
longer_named None w = omega arith
longer_named (Some n) w = omega arith

longer_param : (p : AParam) (w : List Placed) → length w < length (onto_param p w)
longer_param p w = omega (
  arith,
  longer_spec p.spec (onto_stars p.stars (onto_named p.name (onto_length p.length w))),
  longer_stars p.stars (onto_named p.name (onto_length p.length w)),
  longer_named p.name (onto_length p.length w),
  longer_length p.length w,
)

pub params_shorter : (n : ℕ) (rest after behind : List Placed) (p : AParam) → rest ≡ sign marks.Comma 0 ∷ after → ReadsParam n after p behind → length behind < length rest
params_shorter n rest after behind p e r = omega (arith, ap length e, ap length r.text, longer_param p behind)

-- externals
pub externals_push : (xs : List External) (x : External) → externals_of (xs ++ x ∷ []) ≡ externals_of xs ++ external_of x ∷ []
externals_push [] x = refl
externals_push (y ∷ ys) x = ap (λ (l : List AnExternal). external_of y ∷ l) (externals_push ys x)

externals_end : (xs : List AnExternal) (x : AnExternal) (w : List Placed) → onto_externals (xs ++ x ∷ []) w ≡ onto_externals xs (onto_external x w)
externals_end [] x w = refl
externals_end (y ∷ ys) x w = ap (onto_external y) (externals_end ys x w)

externals_fit_end : (xs : List AnExternal) (x : AnExternal) → ExternalsFit xs → ExternalsFit (x ∷ []) → ExternalsFit (xs ++ x ∷ [])
externals_fit_end [] x h i = i
externals_fit_end (y ∷ ys) x h i = (h.0, externals_fit_end ys x h.1 i)

low_externals_end : (xs : List AnExternal) (x : AnExternal) → LowExternals limit xs → LowExternals limit (x ∷ []) → LowExternals limit (xs ++ x ∷ [])
low_externals_end [] x h i = i
low_externals_end (y ∷ ys) x h i = (h.0, low_externals_end ys x h.1 i)

pub externals_more : (ts rest behind : List Placed) (xs : List AnExternal) (x : AnExternal) → ReadsExternals ts xs rest → ReadsExternal rest x behind → ReadsExternals ts (xs ++ x ∷ []) behind
externals_more ts rest behind xs x s r = record {
  text = s.text ∙ (ap (onto_externals xs) r.text ∙ sym (externals_end xs x behind));
  fits = externals_fit_end xs x s.fits (r.fits, tt);
  low = low_externals_end xs x s.low (r.low, tt);
}

pub unit_ends : (ts rest behind : List Placed) (xs : List AnExternal) (at : ℕ) → ReadsExternals ts xs rest → rest ≡ record { kind = token.End; at = at } ∷ behind → behind ≡ []
    → IsUnit ts (record { externals = xs; end = at })
unit_ends ts rest behind xs at s e n = record { text = s.text ∙ ap (onto_externals xs) (e ∙ ap (λ (l : List Placed). record { kind = token.End; at = at } ∷ l) n); fits = s.fits; low = s.low }

-- an external has a token
pub longer_params : (ps : List AParam) (w : List Placed) → length w ≤ length (onto_more_params ps w)
longer_params [] w = omega arith
longer_params (p ∷ ps) w = omega (arith, longer_param p (onto_more_params ps w), longer_params ps w)

pub longer_some_params : (ps : SomeParams) (w : List Placed) → length w ≤ length (onto_params ps w)
longer_some_params no_params w = omega arith
longer_some_params (void_word at) w = omega arith
longer_some_params (params []) w = omega arith
longer_some_params (params (p ∷ ps)) w = omega (arith, longer_param p (onto_more_params ps w), longer_params ps w)

pub longer_body : (b : Option SomeItems) (w : List Placed) → length w ≤ length (onto_body b w)
longer_body None w = omega arith
longer_body (Some is) w = omega (arith, longer_items is (sign marks.CloseBrace 0 ∷ w))

pub longer_declared : (d : ADeclared) (w : List Placed) → length w ≤ length (onto_declared d w)
longer_declared (function f) w = omega (
  arith,
  longer_stars f.stars (onto_name f.name f.at
      (sign marks.OpenParenthesis f.opened ∷ onto_params f.params (sign marks.CloseParenthesis 0 ∷ onto_body f.body w))),
  longer_some_params f.params (sign marks.CloseParenthesis 0 ∷ onto_body f.body w),
  longer_body f.body w,
)
longer_declared (globals ds) w = omega (arith, longer_declarators ds (sign marks.Semicolon 0 ∷ w))

pub longer_static : (s : Option ℕ) (w : List Placed) → length w ≤ length (onto_static s w)
longer_static None w = omega arith
longer_static (Some at) w = omega arith

pub external_shorter : (rest : List Placed) (x : AnExternal) (behind : List Placed) → ReadsExternal rest x behind → length behind < length rest
external_shorter rest x behind r = omega (
  arith,
  ap length r.text,
  longer_static x.static_at (onto_spec x.spec (onto_declared x.declared behind)),
  longer_spec x.spec (onto_declared x.declared behind),
  longer_declared x.declared behind,
)

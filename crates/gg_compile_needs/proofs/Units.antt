-- What a unit declares stands within its tokens.
use Rattle.std.proofs.Common.{◌≡◌, ℕ, zero, suc, ◌+◌, ◌≤◌, Bool, true, false, List, [], ◌∷◌, ◌++◌, length, Option, Some, ap, arith}
use Rattle.std.specs.Prelude.{slice_get, is_some, if◌then◌else◌}
use Rattle.std.proofs.lemmas.List.{length-append}
use Rattle.c_tokens.specs.declared.token.Token.TheVariants as token
use Rattle.c_tokens.specs.declared.marks.Mark.TheVariants as marks
use Rattle.c_phrases.specs.declared.operator.Spec.{Spec}
use Rattle.c_phrases.specs.Classes.{Placed, sign}
use Rattle.c_phrases.specs.Spelling.{onto_spec, onto_stars, onto_name}
use Rattle.c_phrases.specs.Units.{SomeItems, AParam, SomeParams, no_params, void_word, params, AFunction, ADeclared, function, globals, AnExternal, AUnit}
use Rattle.c_phrases.specs.UnitSpelling.{onto_length, onto_named, onto_param, onto_more_params, onto_params, onto_body, onto_declared, onto_external, onto_externals, unit_tokens}
use Rattle.c_types.specs.declared.types.CType.{CType}
use Rattle.c_syntax.proofs.ListLaws.{longer_length}
use Rattle.c_syntax.proofs.ItemLaws.{longer_spec}
use Rattle.c_syntax.proofs.UnitLaws.{longer_named, longer_static, longer_declared}
use Rattle.c_syntax.proofs.ExpressionLaws.{longer_stars}
use Rattle.c_typed_scope.specs.declared.entry.Entry.TheVariants as entries
use Rattle.c_typed_scope.specs.Scopes.{find}
use Rattle.c_typed_expressions.specs.Phrases.{params_in}
use Rattle.c_typed_definition.specs.Signatures.{Known, with_function, known_by, known_with, known_from, services, service_names, signature_of}
use Rattle.gg_compile_needs.specs.Claims.{Declares, BodiesNeedLittle, HeadingsAreShort, FunctionsAreFew}
use Rattle.gg_compile_needs.proofs.Needs.{body_need}

-- ---- what stands in front

-- a parameter has a token at least
param_takes : (p : AParam) (w : List Placed) → 1 + length w ≤ length (onto_param p w)
param_takes p w = omega (
  arith,
  longer_spec p.spec (onto_stars p.stars (onto_named p.name (onto_length p.length w))),
  longer_stars p.stars (onto_named p.name (onto_length p.length w)),
  longer_named p.name (onto_length p.length w),
  longer_length p.length w,
)

more_params_take : (ps : List AParam) (w : List Placed) → length ps + length w ≤ length (onto_more_params ps w)
more_params_take [] w = omega arith
more_params_take (p ∷ ps) w = omega (arith, param_takes p (onto_more_params ps w), more_params_take ps w)

params_take : (ps : SomeParams) (w : List Placed) → length (params_in ps) + length w ≤ length (onto_params ps w)
params_take no_params w = omega arith
params_take (void_word at) w = omega arith
params_take (params []) w = omega arith
params_take (params (p ∷ ps)) w = omega (arith, param_takes p (onto_more_params ps w), more_params_take ps w)

-- a function's tokens: its name and parentheses, its parameters, and its body
pub function_takes : (f : AFunction) (w : List Placed)
    → 3 + (length (params_in f.params) + length (onto_body f.body w)) ≤ length (onto_declared (function f) w)
function_takes f w =
    let behind : List Placed = sign marks.CloseParenthesis 0 ∷ onto_body f.body w in
    omega (
      arith,
      longer_stars f.stars (onto_name f.name f.at (sign marks.OpenParenthesis f.opened ∷ onto_params f.params behind)),
      params_take f.params behind,
    )

-- an external has a token before what it declares
pub external_takes : (e : AnExternal) (w : List Placed) → 1 + length (onto_declared e.declared w) ≤ length (onto_external e w)
external_takes e w = omega (
  arith,
  longer_static e.static_at (onto_spec e.spec (onto_declared e.declared w)),
  longer_spec e.spec (onto_declared e.declared w),
)

-- ---- what a unit declares

external_within : (es : List AnExternal) (n : ℕ) (e : AnExternal) → slice_get es n ≡ Some e → (w : List Placed)
    → (v : List Placed) × (length (onto_declared e.declared v) ≤ length (onto_externals es w))
external_within [] n e there w = absurd (cc)
external_within (x ∷ es) zero e there w =
    let v : List Placed = onto_externals es w in
    let same : x ≡ e = cc in
    let is = ap (λ (y : AnExternal). length (onto_declared y.declared v)) same in
    let first = external_takes x v in
    (v, omega arith)
external_within (x ∷ es) (suc n) e there w =
    let r = external_within es n e there w in
    let v : List Placed = onto_externals es w in
    let within = r.1 in
    let first = external_takes x v in
    let longer = longer_declared x.declared v in
    (r.0, omega arith)

function_within : (unit : AUnit) (f : AFunction) → Declares unit f
    → (v : List Placed) × (length (onto_declared (function f) v) ≤ length (unit_tokens unit))
function_within unit f d =
    let r = external_within unit.externals d.number d.external d.there (record { kind = token.End; at = unit.end } ∷ []) in
    let v : List Placed = r.0 in
    let is = ap (λ (x : ADeclared). length (onto_declared x v)) d.is in
    let within = r.1 in
    (v, omega arith)

pub headings_are_short : HeadingsAreShort
headings_are_short unit tokens f d =
    let r = function_within unit f d in
    let within = r.1 in
    let takes = function_takes f r.0 in
    let few = tokens.few in
    omega arith

pub bodies_need_little : BodiesNeedLittle
bodies_need_little unit tokens f row d body names signatures result s r none j block =
    let q = function_within unit f d in
    let v : List Placed = q.0 in
    let within = q.1 in
    let takes = function_takes f v in
    let is = ap (λ (o : Option SomeItems). length (onto_body o v)) body in
    let x = body_need names signatures result row s r j (ap (λ (l : List CType). length l) none) block v in
    let few = tokens.few in
    omega arith

-- ---- the functions that are known

functions_by : (test : Bool) (spec : Spec) (f : AFunction) (k : Known)
    → length (if test then k else record
    { names = k.names ++ (f.name, entries.Function (length k.signatures)) ∷ []; signatures = k.signatures ++ signature_of spec f ∷ [] }).signatures
    ≤ 1 + length k.signatures
functions_by true spec f k = omega arith
functions_by false spec f k = let one = length-append k.signatures (signature_of spec f ∷ []) in omega arith

declared_by : (test : Bool) (spec : Spec) (f : AFunction) (k : Known)
    → length (if test then with_function spec f k else k).signatures ≤ 1 + length k.signatures
declared_by true spec f k = functions_by (is_some (find k.names f.name)) spec f k
declared_by false spec f k = omega arith

one_more : (e : AnExternal) (d : ADeclared) (k : Known) → length (known_by e.spec d k).signatures ≤ 1 + length k.signatures
one_more e (function f) k = declared_by (is_some f.body) e.spec f k
one_more e (globals ds) k = omega arith

known_few : (es : List AnExternal) (k : Known) (w : List Placed)
    → length (known_from es k).signatures + length w ≤ length k.signatures + length (onto_externals es w)
known_few [] k w = omega arith
known_few (e ∷ es) k w =
    let v : List Placed = onto_externals es w in
    let x = known_few es (known_with e k) w in
    let one = one_more e e.declared k in
    let first = external_takes e v in
    let longer = longer_declared e.declared v in
    omega arith

pub functions_are_few : FunctionsAreFew
functions_are_few unit tokens =
    let x = known_few unit.externals (record { names = service_names; signatures = services }) (record { kind = token.End; at = unit.end } ∷ []) in
    let few = tokens.few in
    omega arith

-- A phrase that is typed adds at most two objects for each of its tokens, literals and static locals among them.
use Rattle.std.proofs.Common.{◌≡◌, ℕ, ◌+◌, ◌*◌, ◌≤◌, Bool, true, false, List, [], ◌∷◌, ◌++◌, length, Result, Ok, Err, refl, ap, arith}
use Rattle.std.specs.Prelude.{nat_lt, if◌then◌else◌}
use Rattle.std.specs.Fmt.{decimal}
use Rattle.std.proofs.lemmas.List.{length-append}
use Rattle.tree_core.specs.declared.program.Object.{Object}
use Rattle.c_tokens.specs.declared.marks.Mark.TheVariants as marks
use Rattle.c_phrases.specs.Classes.{Placed, sign}
use Rattle.c_phrases.specs.Phrases.{AnExp, name, number, str, paren, call, index, step_after, step_before, prefix, sizeof_exp, sizeof_type, cast, binary, choice, assign, comma}
use Rattle.c_phrases.specs.Phrases.{SomeExps, no_exps, exps}
use Rattle.c_phrases.specs.Operators.{binary_mark, step_mark, assign_mark}
use Rattle.c_phrases.specs.Spelling.{onto_exp, onto_first, onto_others}
use Rattle.c_types.specs.declared.fault.TypeKind.TheVariants.{DataFull}
use Rattle.c_types.specs.Answers.{Fault, bad, ◌>>=◌}
use Rattle.c_types.specs.Typed.{AnExpression, LiteralAt, SomeExpressions}
use Rattle.c_syntax.proofs.ExpressionLaws.{longer_type}
use Rattle.c_typed_scope.specs.declared.entry.Entry.{Entry}
use Rattle.c_typed_scope.specs.declared.entry.Signature.{Signature}
use Rattle.c_typed_scope.specs.Scopes.{Scope}
use Rattle.c_typed_scope.specs.Layout.{Area, aligned, placed, with_object, one_more_literal, literal}
use Rattle.c_typed_scope.specs.Contents.{Filled, filled}
use Rattle.c_typed_scope.proofs.Written.{held_length}
use Rattle.c_typed_expressions.specs.Relations.{IsTyped, AreTyped}
use Rattle.c_typed_definition.specs.State.{label_of, counted_static, laid}
use Rattle.gg_compile_needs.specs.Claims.{Weight}

-- ---- one object more

placed_by : (full : Bool) (at : ℕ) (o : Object) (end : ℕ) (a b : Area) (r : ℕ × Area) → b.objects ≡ a.objects ++ o ∷ [] → b.literals ≡ a.literals
    → b.statics ≡ a.statics → (if full then bad at DataFull else Ok (length a.objects, b)) ≡ Ok r → Weight r.1 ≡ 1 + Weight a
placed_by true at o end a b r objects literals statics e = absurd (cc)
placed_by false at o end a b r objects literals statics e =
    let is : (length a.objects, b) ≡ r = cc in
    let weight = ap (λ (z : ℕ × Area). Weight z.1) is in
    let more = ap (λ (os : List Object). length os) objects in
    let one = length-append a.objects (o ∷ []) in
    omega arith

placed_adds : (at : ℕ) (label : List ℕ) (align size : ℕ) (bytes : List ℕ) (a : Area) (r : ℕ × Area) → placed at label align size bytes a ≡ Ok r
    → Weight r.1 ≡ 1 + Weight a
unfolding placed
placed_adds at label align size bytes a r e =
    let o : Object = record { label = label; address = aligned a.end align; size = size; align = align; bytes = bytes; links = [] } in
    placed_by (nat_lt 1114112 (aligned a.end align + size)) at o 0 a (with_object label align size bytes a) r refl refl refl e

literal_by : (measuring : Bool) (m : Result (ℕ × Area) Fault) (size : ℕ) (a : Area) (t : AnExpression × Area) → ((q : ℕ × Area) → m ≡ Ok q → Weight q.1 ≡ 1 + Weight a)
    → (if measuring then Ok (LiteralAt 0 size, a) else (m >>= λ r. Ok (LiteralAt r.0 size, one_more_literal r.1))) ≡ Ok t → Weight t.1 ≤ 2 + Weight a
literal_by true m size a t h e =
    let is : (LiteralAt 0 size, a) ≡ t = cc in
    let weight = ap (λ (z : AnExpression × Area). Weight z.1) is in
    omega arith
literal_by false (Ok q) size a t h e =
    let is : (LiteralAt q.0 size, one_more_literal q.1) ≡ t = cc in
    let weight = ap (λ (z : AnExpression × Area). Weight z.1) is in
    let one = h q refl in
    omega arith
literal_by false (Err f) size a t h e = absurd (cc)

literal_adds : (at : ℕ) (bytes : List ℕ) (a : Area) (t : AnExpression × Area) → literal at bytes a ≡ Ok t → Weight t.1 ≤ 2 + Weight a
unfolding literal
literal_adds at bytes a t e = literal_by a.measuring _ (length bytes + 1) a t
    (λ q h. placed_adds at (83 ∷ decimal a.literals) 1 (length bytes + 1) (bytes ++ 0 ∷ []) a q h) e

static_adds : (is_static : Bool) (a : Area) → Weight (counted_static is_static a) ≤ 1 + Weight a
static_adds true a = omega arith
static_adds false a = omega arith

laid_by : (is_static : Bool) (m : Result (ℕ × Area) Fault) (a : Area) (r : ℕ × Area) → ((q : ℕ × Area) → m ≡ Ok q → Weight q.1 ≡ 1 + Weight a)
    → (m >>= λ q. Ok (q.0, counted_static is_static q.1)) ≡ Ok r → Weight r.1 ≤ 2 + Weight a
laid_by is_static (Ok q) a r h e =
    let is : (q.0, counted_static is_static q.1) ≡ r = cc in
    let weight = ap (λ (z : ℕ × Area). Weight z.1) is in
    let one = h q refl in
    let more = static_adds is_static q.1 in
    omega arith
laid_by is_static (Err f) a r h e = absurd (cc)

-- the object of a variable, and a static local
pub laid_adds : (is_static : Bool) (at : ℕ) (label : List ℕ) (align size : ℕ) (a : Area) (r : ℕ × Area) → laid is_static at label align size a ≡ Ok r
    → Weight r.1 ≤ 2 + Weight a
unfolding laid
laid_adds is_static at label align size a r e =
    laid_by is_static _ a r (λ q h. placed_adds at (label_of is_static label a) align size [] a q h) e

pub filled_keeps : (n : ℕ) (f : Filled) (a : Area) → Weight (filled n f a) ≡ Weight a
unfolding filled
filled_keeps n f a = let same = held_length n f a.objects in omega arith

-- ---- expressions: two for each token

module _ (names : List (List ℕ × Entry)) (signatures : List Signature) (scope : Scope) where
  mutual
    pub exp_adds : (e : AnExp) (a : Area) (t : AnExpression × Area) → IsTyped names signatures scope e a t → (w : List Placed)
        → Weight t.1 + 2 * length w ≤ Weight a + 2 * length (onto_exp e w)
    exp_adds (name n at) a t j w = let is = ap Weight j.left in omega arith
    exp_adds (number v at) a t j w = let is = ap (λ (z : AnExpression × Area). Weight z.1) j in omega arith
    exp_adds (str b at) a t j w = let x = literal_adds at b a t j in omega arith
    exp_adds (paren o e) a t j w = let x = exp_adds e a t j (sign marks.CloseParenthesis 0 ∷ w) in omega arith
    exp_adds (call n at o es) a t j w =
        let k = j.whole in
        let x = firsts_add es a k.part k.typed (sign marks.CloseParenthesis 0 ∷ w) in
        let is = ap Weight k.whole.left in
        omega arith
    exp_adds (index e o i) a t j w =
        let k = j.whole in
        let v : List Placed = sign marks.CloseBracket 0 ∷ w in
        let x = exp_adds e a j.part j.typed (sign marks.OpenBracket o ∷ onto_exp i v) in
        let y = exp_adds i j.part.1 k.part k.typed v in
        let is = ap Weight k.whole.left in
        omega arith
    exp_adds (step_after e op at) a t j w =
        let x = exp_adds e a j.part j.typed (sign (step_mark op) at ∷ w) in
        let is = ap Weight j.whole.left in
        omega arith
    exp_adds (step_before op at e) a t j w =
        let x = exp_adds e a j.part j.typed w in
        let is = ap Weight j.whole.left in
        omega arith
    exp_adds (prefix op at e) a t j w =
        let x = exp_adds e a j.part j.typed w in
        let is = ap Weight j.whole.left in
        omega arith
    exp_adds (sizeof_exp at e) a t p w =
        let j = p.1 in
        let x = exp_adds e a j.part j.typed w in
        let is = ap Weight j.whole.left in
        omega arith
    exp_adds (sizeof_type at o of) a t j w =
        let x = longer_type of (sign marks.CloseParenthesis 0 ∷ w) in
        let is = ap Weight j.left in
        omega arith
    exp_adds (cast o to e) a t j w =
        let x = exp_adds e a j.part j.typed w in
        let y = longer_type to (sign marks.CloseParenthesis 0 ∷ onto_exp e w) in
        let is = ap Weight j.whole.left in
        omega arith
    exp_adds (binary l op at r) a t j w =
        let k = j.whole in
        let x = exp_adds l a j.part j.typed (sign (binary_mark op) at ∷ onto_exp r w) in
        let y = exp_adds r j.part.1 k.part k.typed w in
        let is = ap Weight k.whole.left in
        omega arith
    exp_adds (choice c at e d) a t j w =
        let k = j.whole in
        let m = k.whole in
        let v : List Placed = sign marks.Colon 0 ∷ onto_exp d w in
        let x = exp_adds c a j.part j.typed (sign marks.Question at ∷ onto_exp e v) in
        let y = exp_adds e j.part.1 k.part k.typed v in
        let z = exp_adds d k.part.1 m.part m.typed w in
        let is = ap Weight m.whole.left in
        omega arith
    exp_adds (assign p op at v) a t j w =
        let k = j.whole in
        let x = exp_adds p a j.part j.typed (sign (assign_mark op) at ∷ onto_exp v w) in
        let y = exp_adds v j.part.1 k.part k.typed w in
        let is = ap Weight k.whole.left in
        omega arith
    exp_adds (comma l r) a t j w =
        let k = j.whole in
        let x = exp_adds l a j.part j.typed (sign marks.Comma 0 ∷ onto_exp r w) in
        let y = exp_adds r j.part.1 k.part k.typed w in
        let is = ap (λ (z : AnExpression × Area). Weight z.1) k.whole in
        omega arith

    pub firsts_add : (es : SomeExps) (a : Area) (t : SomeExpressions × Area) → AreTyped names signatures scope es a t → (w : List Placed)
        → Weight t.1 + 2 * length w ≤ Weight a + 2 * length (onto_first es w)
    firsts_add no_exps a t j w = let is = ap (λ (z : SomeExpressions × Area). Weight z.1) j in omega arith
    firsts_add (exps e es) a t j w =
        let k = j.whole in
        let x = exp_adds e a j.part j.typed (onto_others es w) in
        let y = others_add es j.part.1 k.part k.typed w in
        let is = ap (λ (z : SomeExpressions × Area). Weight z.1) k.whole in
        omega arith

    others_add : (es : SomeExps) (a : Area) (t : SomeExpressions × Area) → AreTyped names signatures scope es a t → (w : List Placed)
        → Weight t.1 + 2 * length w ≤ Weight a + 2 * length (onto_others es w)
    others_add no_exps a t j w = let is = ap (λ (z : SomeExpressions × Area). Weight z.1) j in omega arith
    others_add (exps e es) a t j w =
        let k = j.whole in
        let x = exp_adds e a j.part j.typed (onto_others es w) in
        let y = others_add es j.part.1 k.part k.typed w in
        let is = ap (λ (z : SomeExpressions × Area). Weight z.1) k.whole in
        omega arith

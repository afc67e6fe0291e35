-- A typed expression has at most as many nodes as its phrase has tokens.
use Rattle.std.proofs.Common.{◌≡◌, ℕ, ◌+◌, ◌≤◌, Bool, true, false, List, ◌∷◌, length, Result, Ok, Err, ap, arith}
use Rattle.std.specs.Prelude.{if◌then◌else◌}
use Rattle.c_tokens.specs.declared.marks.Mark.TheVariants as marks
use Rattle.c_phrases.specs.Classes.{Placed, sign}
use Rattle.c_phrases.specs.Phrases.{AnExp, name, number, str, paren, call, index, step_after, step_before, prefix}
use Rattle.c_phrases.specs.Phrases.{sizeof_exp, sizeof_type, cast, binary, choice, assign, comma, SomeExps, no_exps}
use Rattle.c_phrases.specs.Phrases.{exps}
use Rattle.c_phrases.specs.Operators.{binary_mark, step_mark, assign_mark}
use Rattle.c_phrases.specs.Spelling.{onto_exp, onto_first, onto_others}
use Rattle.c_types.specs.declared.typed.Moment.TheVariants as moments
use Rattle.c_types.specs.Answers.{Fault, ◌>>=◌}
use Rattle.c_types.specs.Typed.{AnExpression, LiteralAt, SomeExpressions}
use Rattle.c_program.specs.Need.{nodes, all_nodes}
use Rattle.c_syntax.proofs.ExpressionLaws.{longer_type}
use Rattle.c_typed_scope.specs.declared.entry.Entry.{Entry}
use Rattle.c_typed_scope.specs.declared.entry.Signature.{Signature}
use Rattle.c_typed_scope.specs.Scopes.{Scope}
use Rattle.c_typed_scope.specs.Layout.{Area, one_more_literal, literal}
use Rattle.c_typed_expressions.specs.Expressions.{written}
use Rattle.c_typed_expressions.specs.Relations.{IsNamed, NamesVariable, NamesArray, IsTyped, AreTyped}
use Rattle.gg_compile_counts.proofs.Operators.{answered, binary_nodes, index_nodes, prefix_nodes, step_nodes, cast_nodes, sizeof_nodes, sizeof_type_nodes, choice_nodes, assign_nodes}
use Rattle.gg_compile_counts.proofs.Operators.{comma_nodes, called_nodes}

-- a literal is one node
literal_by : (measures : Bool) (m : Result (ℕ × Area) Fault) (size : ℕ) (a : Area) (t : AnExpression × Area)
    → (if measures then Ok (LiteralAt 0 size, a) else (m >>= λ r. Ok (LiteralAt r.0 size, one_more_literal r.1))) ≡ Ok t → nodes t.0 ≡ 1
literal_by true m size a t e = let is : t ≡ (LiteralAt 0 size, a) = cc in ap (λ (z : AnExpression × Area). nodes z.0) is
literal_by false (Ok r) size a t e =
    let is : t ≡ (LiteralAt r.0 size, one_more_literal r.1) = cc in
    ap (λ (z : AnExpression × Area). nodes z.0) is
literal_by false (Err f) size a t e = absurd (cc)

literal_nodes : (at : ℕ) (bytes : List ℕ) (a : Area) (t : AnExpression × Area) → literal at bytes a ≡ Ok t → nodes t.0 ≡ 1
unfolding literal
literal_nodes at bytes a t e = literal_by a.measuring _ (length bytes + 1) a t e

module _ (names : List (List ℕ × Entry)) (signatures : List Signature) (scope : Scope) where
  named_nodes : (n : List ℕ) (t : AnExpression) → IsNamed names signatures scope n t → nodes t ≡ 1
  named_nodes n t (NamesVariable of v found is) = ap nodes is
  named_nodes n t (NamesArray of v size found is) = ap nodes is

  mutual
    pub exp_nodes : (e : AnExp) (a : Area) (t : AnExpression × Area) → IsTyped names signatures scope e a t → (w : List Placed)
        → nodes t.0 + length w ≤ length (onto_exp e w)
    exp_nodes (name n at) a t j w = let is = named_nodes n t.0 j.typed in omega arith
    exp_nodes (number v at) a t j w = let is = ap (λ (z : AnExpression × Area). nodes z.0) j in omega arith
    exp_nodes (str b at) a t j w = let is = literal_nodes at b a t j in omega arith
    exp_nodes (paren o e) a t j w = let x = exp_nodes e a t j (sign marks.CloseParenthesis 0 ∷ w) in omega arith
    exp_nodes (call n at o es) a t j w =
        let k = j.whole in
        let x = firsts_nodes es a k.part k.typed (sign marks.CloseParenthesis 0 ∷ w) in
        let u = answered _ _ t.0 (called_nodes signatures j.part o es k.part.0) k.whole.typed in
        omega arith
    exp_nodes (index e o i) a t j w =
        let k = j.whole in
        let v : List Placed = sign marks.CloseBracket 0 ∷ w in
        let x = exp_nodes e a j.part j.typed (sign marks.OpenBracket o ∷ onto_exp i v) in
        let y = exp_nodes i j.part.1 k.part k.typed v in
        let u = answered _ _ t.0 (index_nodes o j.part.0 k.part.0) k.whole.typed in
        omega arith
    exp_nodes (step_after e op at) a t j w =
        let x = exp_nodes e a j.part j.typed (sign (step_mark op) at ∷ w) in
        let u = answered _ _ t.0 (step_nodes moments.Before op at j.part.0) j.whole.typed in
        omega arith
    exp_nodes (step_before op at e) a t j w =
        let x = exp_nodes e a j.part j.typed w in
        let u = answered _ _ t.0 (step_nodes moments.After op at j.part.0) j.whole.typed in
        omega arith
    exp_nodes (prefix op at e) a t j w =
        let x = exp_nodes e a j.part j.typed w in
        let u = answered _ _ t.0 (prefix_nodes op at j.part.0) j.whole.typed in
        omega arith
    exp_nodes (sizeof_exp at e) a t p w =
        let j = p.1 in
        let x = exp_nodes e a j.part j.typed w in
        let u = answered _ _ t.0 (sizeof_nodes at j.part.0) j.whole.typed in
        omega arith
    exp_nodes (sizeof_type at o of) a t j w =
        let x = longer_type of (sign marks.CloseParenthesis 0 ∷ w) in
        let u = answered _ _ t.0 (sizeof_type_nodes at (written of.spec of.stars)) j.typed in
        omega arith
    exp_nodes (cast o to e) a t j w =
        let x = exp_nodes e a j.part j.typed w in
        let y = longer_type to (sign marks.CloseParenthesis 0 ∷ onto_exp e w) in
        let u = answered _ _ t.0 (cast_nodes o (written to.spec to.stars) j.part.0) j.whole.typed in
        omega arith
    exp_nodes (binary l op at r) a t j w =
        let k = j.whole in
        let x = exp_nodes l a j.part j.typed (sign (binary_mark op) at ∷ onto_exp r w) in
        let y = exp_nodes r j.part.1 k.part k.typed w in
        let u = binary_nodes op j.part.0 k.part.0 t.0 k.whole.typed in
        omega arith
    exp_nodes (choice c at e d) a t j w =
        let k = j.whole in
        let m = k.whole in
        let v : List Placed = sign marks.Colon 0 ∷ onto_exp d w in
        let x = exp_nodes c a j.part j.typed (sign marks.Question at ∷ onto_exp e v) in
        let y = exp_nodes e j.part.1 k.part k.typed v in
        let z = exp_nodes d k.part.1 m.part m.typed w in
        let u = answered _ _ t.0 (choice_nodes at j.part.0 k.part.0 m.part.0) m.whole.typed in
        omega arith
    exp_nodes (assign p op at v) a t j w =
        let k = j.whole in
        let x = exp_nodes p a j.part j.typed (sign (assign_mark op) at ∷ onto_exp v w) in
        let y = exp_nodes v j.part.1 k.part k.typed w in
        let u = answered _ _ t.0 (assign_nodes op at j.part.0 k.part.0) k.whole.typed in
        omega arith
    exp_nodes (comma l r) a t j w =
        let k = j.whole in
        let x = exp_nodes l a j.part j.typed (sign marks.Comma 0 ∷ onto_exp r w) in
        let y = exp_nodes r j.part.1 k.part k.typed w in
        let u = comma_nodes j.part.0 k.part.0 in
        let is = ap (λ (z : AnExpression × Area). nodes z.0) k.whole in
        omega arith

    firsts_nodes : (es : SomeExps) (a : Area) (t : SomeExpressions × Area) → AreTyped names signatures scope es a t → (w : List Placed)
        → all_nodes t.0 + length w ≤ length (onto_first es w)
    firsts_nodes no_exps a t j w = let is = ap (λ (z : SomeExpressions × Area). all_nodes z.0) j in omega arith
    firsts_nodes (exps e es) a t j w =
        let k = j.whole in
        let x = exp_nodes e a j.part j.typed (onto_others es w) in
        let y = others_nodes es j.part.1 k.part k.typed w in
        let is = ap (λ (z : SomeExpressions × Area). all_nodes z.0) k.whole in
        omega arith

    others_nodes : (es : SomeExps) (a : Area) (t : SomeExpressions × Area) → AreTyped names signatures scope es a t → (w : List Placed)
        → all_nodes t.0 + length w ≤ length (onto_others es w)
    others_nodes no_exps a t j w = let is = ap (λ (z : SomeExpressions × Area). all_nodes z.0) j in omega arith
    others_nodes (exps e es) a t j w =
        let k = j.whole in
        let x = exp_nodes e a j.part j.typed (onto_others es w) in
        let y = others_nodes es j.part.1 k.part k.typed w in
        let is = ap (λ (z : SomeExpressions × Area). all_nodes z.0) k.whole in
        omega arith

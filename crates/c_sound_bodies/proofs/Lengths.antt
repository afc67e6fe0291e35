-- A length is measured without room for its literals, and leaves the data area as it was.
use Rattle.std.proofs.Common.{◌≡◌, ℕ, Bool, true, false, List, Option, Some, None, Result, Ok, refl, sym, ap, ◌∙◌}
use Rattle.std.specs.Prelude.{if◌then◌else◌}
use Rattle.c_tokens.specs.declared.token.Token.TheVariants as token
use Rattle.c_types.specs.Answers.{Fault}
use Rattle.c_types.specs.Typed.{AnExpression}
use Rattle.c_typed_scope.specs.declared.entry.Entry.{Entry}
use Rattle.c_typed_scope.specs.declared.entry.Signature.{Signature}
use Rattle.c_typed_scope.specs.Scopes.{Scope}
use Rattle.c_typed_scope.specs.Layout.{Area, literal}
use Rattle.c_phrases.specs.Phrases.{AnExp}
use Rattle.c_phrases.specs.Units.{AnInit}
use Rattle.c_typed_expressions.specs.Relations.{IsTyped}
use Rattle.c_typed_law.specs.c_typed_definition.specs.State.{measuring}
use Rattle.c_typed_law.specs.Objects.{IsCount}
use Rattle.c_typed_words.proofs.Any.{AnyToken, any_exp}
use Rattle.c_sound_bodies.proofs.Growth.{Laying, exp_lays}

-- while a length is measured nothing is added
abbrev pub Stays : Area → Area → Type 0
Stays a b = a.measuring ≡ true → b ≡ a

stays_further : (a b c : Area) → Stays a b → Stays b c → Stays a c
stays_further a b c h k measures = let same = h measures in k (ap (λ (z : Area). z.measuring) same ∙ measures) ∙ same

second : (x : AnExpression) (a : Area) (t : AnExpression × Area) → t ≡ (x, a) → t.1 ≡ a
second x a t is = ap (λ (z : AnExpression × Area). z.1) is

literal_by : (measures : Bool) (m : Result (AnExpression × Area) Fault) (x : AnExpression) (a : Area) (t : AnExpression × Area) →
    (if measures then Ok (x, a) else m) ≡ Ok t → measures ≡ true → t.1 ≡ a
literal_by true m x a t e h = second x a t (cc)
literal_by false m x a t e h = absurd (cc)

literal_stays : (at : ℕ) (bytes : List ℕ) (a : Area) (t : AnExpression × Area) → AnyToken (token.Str bytes) → literal at bytes a ≡ Ok t → Stays a t.1
unfolding literal
literal_stays at bytes a t w e measures = literal_by a.measuring _ _ a t e measures

staying : Laying AnyToken Stays
staying = record { same = λ a h. refl; further = stays_further; literal = literal_stays }

pub exp_stays : (names : List (List ℕ × Entry)) (signatures : List Signature) (scope : Scope) (e : AnExp) (a : Area) (t : AnExpression × Area) →
    a.measuring ≡ true → IsTyped names signatures scope e a t → t.1 ≡ a
exp_stays names signatures scope e a t measures j = exp_lays AnyToken Stays staying names signatures scope e (any_exp e) a t j measures

unmeasured : (a b : Area) → a.measuring ≡ false → b ≡ measuring true a → measuring false b ≡ a
unmeasured a b free is = rw is (ap (λ (m : Bool). measuring m a) (sym free))

-- the number of an array's elements
pub count_stays : (names : List (List ℕ × Entry)) (signatures : List Signature) (l : Option AnExp) (i : Option AnInit) (scope : Scope)
    (a : Area) (r : ℕ × Area) → a.measuring ≡ false → IsCount names signatures l i scope a r → r.1 ≡ a
count_stays names signatures None i scope a r free j = ap (λ (z : ℕ × Area). z.1) j
count_stays names signatures (Some e) i scope a r free j =
    let k = j.typed in
    let same : j.part.1 ≡ k.part.1 = ap (λ (z : ℕ × Area). z.1) (k.whole.whole) in
    ap (λ (z : ℕ × Area). z.1) j.whole ∙
    unmeasured a j.part.1 free (same ∙ exp_stays names signatures scope e (measuring true a) k.part refl k.typed)

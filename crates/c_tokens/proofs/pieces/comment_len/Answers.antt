use Rattle.std.proofs.Common.{rules, ◌≡◌, ◌≤◌, ◌<◌, ◌+◌, ◌∙◌, ◌&&◌, ◌∷◌, ◌==◌, arith}
use Rattle.std.proofs.Common.{ℕ, suc, Bool, true, false, List, [], length, take, drop, Option, Some, None, cond, refl, sym, ap, subst, ltb, not}
use Rattle.std.specs.Slice.Iter.{windows_rest, windows_size, windows_steps}
use Rattle.std.specs.List.{position, position_or_len}
use Rattle.std.specs.Option.{option_map}
use Rattle.std.specs.Str.{bytes_eq}
use Rattle.std.proofs.lemmas.Iterator.{YieldsList}
use Rattle.std.proofs.lemmas.Iterator.Search.{position_from_yields_List}
use Rattle.std.proofs.lemmas.Iterator.Splits.{YieldsList-from_shown_while}
use borrow.Author.Tests.{tests}
use Rattle.c_tokens.specs.Pieces.{comment_len}
use Rattle.c_tokens.proofs.pieces.comment_len.Goals as goal

-- the bytes that stand side by side
abbrev pairs : List ℕ → List (List ℕ)
pairs [] = []
pairs (a ∷ []) = []
pairs (a ∷ b ∷ bs) = (a ∷ b ∷ []) ∷ pairs (b ∷ bs)

no_pair : (text : List ℕ) → length text < 2 → length (pairs text) ≡ 0
no_pair [] h = refl
no_pair (a ∷ []) h = refl
no_pair (a ∷ b ∷ bs) h = absurd (omega arith)

next_pair : (text : List ℕ) → 2 ≤ length text → pairs text ≡ take 2 text ∷ pairs (drop 1 text)
next_pair [] h = absurd (omega arith)
next_pair (a ∷ []) h = absurd (omega arith)
next_pair (a ∷ b ∷ bs) h = refl

yields_pairs : {s : _} (text : List ℕ) → windows_rest s ≡ text → windows_size s ≡ 2 → YieldsList (windows_steps {A = ℕ}) (λ y. y.now) s (pairs text)
yields_pairs {s} text e two = subst (λ l. YieldsList (windows_steps {A = ℕ}) (λ y. y.now) s (pairs l)) e
    (YieldsList-from_shown_while (windows_steps {A = ℕ}) (λ y. y.now) (λ u. pairs (windows_rest u)) (λ u. windows_size u ≡ 2)
    (λ u t size p. no_pair (windows_rest u) (omega (arith, size, p.1.0)))
    (λ u x t size p. (p.0 ∙ size, next_pair (windows_rest u) (omega (arith, size, p.1.0)) ∙ grind (arith, size, p))) s two)

-- where the first mark stands, as `position` tells it
abbrev ends : List ℕ → Bool
ends pair = bytes_eq pair (42 ∷ 47 ∷ [])

abbrev behind : Option ℕ → Option ℕ
behind o = option_map (λ n. n + 2) o

later : (k n : ℕ) → option_map suc (behind (cond (ltb k n) (Some k) None)) ≡ behind (cond (ltb (1 + k) (suc n)) (Some (1 + k)) None)
later k n = grind arith

comment_found : (text : List ℕ) → comment_len text ≡ behind (position ends (pairs text))
comment_found [] = refl
comment_found (a ∷ []) = refl
comment_found (a ∷ b ∷ bs) = step (a == 42) (b == 47) (comment_found (b ∷ bs))
  where
    step : (t u : Bool) → comment_len (b ∷ bs) ≡ behind (position ends (pairs (b ∷ bs)))
        → cond (t && u) (Some 2) (option_map suc (comment_len (b ∷ bs)))
        ≡ behind (cond (ltb (cond (not (t && (u && true))) (1 + position_or_len ends (pairs (b ∷ bs))) 0) (suc (length (pairs (b ∷ bs)))))
        (Some (cond (not (t && (u && true))) (1 + position_or_len ends (pairs (b ∷ bs))) 0)) None)
    step true true h = grind arith
    step true false h = ap (option_map suc) h ∙ later (position_or_len ends (pairs (b ∷ bs))) (length (pairs (b ∷ bs)))
    step false u h = ap (option_map suc) h ∙ later (position_or_len ends (pairs (b ∷ bs))) (length (pairs (b ∷ bs)))

pub returns-in_err-start-clause-is : goal.returns-in_err-start-clause-is
returns-in_err-start-clause-is c =
    let text = c.args.text.now in
    let found = position_from_yields_List ends _ _ _ c.position.ensures.ran (yields_pairs text (cc) (cc)) (λ x b q k. search (rules, tests)) in
    c.from_residual.ensures ∙ sym (comment_found text ∙ ap behind (sym found ∙ c.in_err-start.was))

pub returns-clause-is : goal.returns-clause-is
returns-clause-is c =
    let text = c.args.text.now in
    let found = position_from_yields_List ends _ _ _ c.position.ensures.ran (yields_pairs text (cc) (cc)) (λ x b q k. search (rules, tests)) in
    sym (comment_found text ∙ ap behind (sym found ∙ c.in_ok-start.was))

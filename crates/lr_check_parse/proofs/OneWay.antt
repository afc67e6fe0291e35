-- A parse ends in one way.
use Rattle.std.proofs.Common.{◌≡◌, ℕ, List, [], ◌∷◌, Option, Some, None, length, drop, slice_get, refl, sym, ap, ◌∙◌, subst}
use Rattle.std.proofs.lemmas.Option.{same_Some}
use Rattle.lr_check.proofs.Only.{reductions_same, statement_ends}
use Rattle.gg_base.proofs.Facts.{some_none}
use Rattle.tree_core.specs.declared.token.Tok.TheVariants as tok
use Rattle.md_reader.specs.declared.types.Rule.{Rule}
use Rattle.md_reader.specs.declared.types.Sym.{Sym}
use Rattle.md_reader.specs.declared.types.Sym.TheVariants as grammar_symbol
use Rattle.lr_check_parse.specs.Moves.{Answering, Move, Shift, Reduce, Ending, Taken, taken, coming, Choice, Parses, loops, accepts, shifts, reduces, refuses, blocks}
use Rattle.lr_check_parse.specs.Claims.{IsOneWay}

module _ {L X : Type 0} (of : Answering L X) (rules : List Rule) (stmt : ℕ) where
  taken_same : (ws : List L) (a : List Sym) (x : X) (o p : Option ℕ) (y z : X) → Choice of rules stmt ws a x o y → Choice of rules stmt ws a x p z
      → (let r : Taken X = record { rule = o; kept = y } in r) ≡ (let q : Taken X = record { rule = p; kept = z } in q)
  taken_same ws a x o p y z c d =
      sym c.takes ∙ ap (λ (ns : List ℕ). taken of rules ns x) (reductions_same rules stmt a (coming of ws) c.candidates d.candidates c.in_order d.in_order) ∙ d.takes

  choice_same : (ws : List L) (a : List Sym) (x : X) (o p : Option ℕ) (y z : X) → Choice of rules stmt ws a x o y → Choice of rules stmt ws a x p z → o ≡ p
  choice_same ws a x o p y z c d = ap (λ (t : Taken X). t.rule) (taken_same ws a x o p y z c d)

  kept_same : (ws : List L) (a : List Sym) (x : X) (o p : Option ℕ) (y z : X) → Choice of rules stmt ws a x o y → Choice of rules stmt ws a x p z → y ≡ z
  kept_same ws a x o p y z c d = ap (λ (t : Taken X). t.kept) (taken_same ws a x o p y z c d)

  not_shifted : {ws : List L} {a : List Sym} {x y : X} {o : Option ℕ} → Choice of rules stmt ws a x o y → a ≡ grammar_symbol.Class stmt ∷ [] → coming of ws ≡ tok.End → ⊥
  not_shifted {ws = ws} {a = a} c e f = c.no_shift (statement_ends rules stmt a (coming of ws) e f)

  abbrev Same : List (Move L) → Ending X → List (Move L) → Ending X → Type 0
  Same log e log' e' = (log ≡ log') × (e ≡ e')

  abbrev G : ℕ → List (List Sym) → List L → List Sym → X → List (Move L) → Ending X → Type 0
  G at before ws a x log e = Parses of rules stmt at before ws a x log e

  more_same : (m : Move L) (log log' : List (Move L)) (e e' : Ending X) → Same log e log' e' → Same (m ∷ log) e (m ∷ log') e'
  more_same m log log' e e' s = (ap (λ (t : List (Move L)). m ∷ t) s.0, s.1)

  -- one rule is taken, and its reduction leaves one thing
  both_reduced : (ws : List L) (a : List Sym) (x : X) (i j : ℕ) (y y' : X) (r q : Rule) (o p : Option X)
      → Choice of rules stmt ws a x (Some i) y → Choice of rules stmt ws a x (Some j) y' → slice_get rules i ≡ Some r → slice_get rules j ≡ Some q → of.reduced i r y ≡ o → of.reduced j q y' ≡ p
      → (i ≡ j) × (q ≡ r) × (o ≡ p)
  both_reduced ws a x i j y y' r q o p c d t u red blue =
      let number : i ≡ j = same_Some i j (choice_same ws a x (Some i) (Some j) y y' c d) in
      let kept : y ≡ y' = kept_same ws a x (Some i) (Some j) y y' c d in
      let rule : q ≡ r = same_Some q r (sym u ∙ (ap (slice_get rules) (sym number) ∙ t)) in (
        number,
        rule,
        sym red ∙ (λ k. of.reduced (number k) (sym rule k) (kept k)) ∙ blue,
      )

  pub one_way : {at : ℕ} {before : List (List Sym)} {ws : List L} {a : List Sym} {x : X} {log log' : List (Move L)} {e e' : Ending X} → G at before ws a x log e
      → G at before ws a x log' e' → Same log e log' e'
  one_way (loops h) (loops k) = (refl, refl)
  one_way (loops h) (accepts n s f) = absurd (n h)
  one_way (loops h) (shifts n q b g) = absurd (n h)
  one_way (loops h) (reduces r n c t red g) = absurd (n h)
  one_way (loops h) (refuses r n c t f) = absurd (n h)
  one_way (loops h) (blocks n c) = absurd (n h)
  one_way (accepts n s f) (loops k) = absurd (n k)
  one_way (accepts n s f) (accepts m u g) = (refl, refl)
  one_way (accepts n s f) (shifts m q b g) = absurd (q f)
  one_way (accepts n s f) (reduces r m c t red g) = absurd (not_shifted c s f)
  one_way (accepts n s f) (refuses r m c t g) = absurd (not_shifted c s f)
  one_way (accepts n s f) (blocks m c) = absurd (not_shifted c s f)
  one_way (shifts n q b g) (loops k) = absurd (n k)
  one_way (shifts n q b g) (accepts m s f) = absurd (q f)
  one_way (shifts {l = l} {log = log} {e = e} n q b g) (shifts {log = log'} {e = e'} m p c h) = more_same (Shift l) log log' e e' (one_way g h)
  one_way (shifts n q b g) (reduces r m c t red h) = absurd (c.no_shift b)
  one_way (shifts n q b g) (refuses r m c t f) = absurd (c.no_shift b)
  one_way (shifts n q b g) (blocks m c) = absurd (c.no_shift b)
  one_way (reduces r n c t red g) (loops k) = absurd (n k)
  one_way (reduces r n c t red g) (accepts m s f) = absurd (not_shifted c s f)
  one_way (reduces r n c t red g) (shifts m q b h) = absurd (c.no_shift b)
  one_way (reduces {at = at} {n = i} {before = before} {ws = ws} {a = a} {x = x} {y = y} {z = z} {log = log} {e = e} r n c t red g)
      (reduces {n = j} {y = y'} {z = z'} {log = log'} {e = e'} q m d u blue h) =
      let b = both_reduced ws a x i j y y' r q (Some z) (Some z') c d t u red blue in
      let there : G at (a ∷ before) ws (grammar_symbol.Class r.left ∷ drop (length r.right) a) z log' e' =
      subst (λ (k : X). G at (a ∷ before) ws (grammar_symbol.Class r.left ∷ drop (length r.right) a) k log' e') (same_Some z' z (sym b.2))
      (subst (λ (k : Rule). G at (a ∷ before) ws (grammar_symbol.Class k.left ∷ drop (length k.right) a) z' log' e') b.1 h) in
      let s = one_way g there in
      (ap (λ (k : ℕ). Reduce k ∷ log) b.0 ∙ ap (λ (k : List (Move L)). Reduce j ∷ k) s.0, s.1)
  one_way (reduces {n = i} {ws = ws} {a = a} {x = x} {y = y} {z = z} r n c t red g) (refuses {n = j} {y = y'} q m d u f) =
      absurd (some_none z (both_reduced ws a x i j y y' r q (Some z) None c d t u red f).2)
  one_way (reduces {n = i} {ws = ws} {a = a} {x = x} {y = y} r n c t red g) (blocks {y = y'} m d) = absurd (some_none i (choice_same ws a x (Some i) None y y' c d))
  one_way (refuses r n c t f) (loops k) = absurd (n k)
  one_way (refuses r n c t f) (accepts m s g) = absurd (not_shifted c s g)
  one_way (refuses r n c t f) (shifts m q b h) = absurd (c.no_shift b)
  one_way (refuses {n = i} {ws = ws} {a = a} {x = x} {y = y} r n c t f) (reduces {n = j} {y = y'} {z = z} q m d u red h) =
      absurd (some_none z (sym (both_reduced ws a x i j y y' r q None (Some z) c d t u f red).2))
  one_way (refuses r n c t f) (refuses q m d u g) = (refl, refl)
  one_way (refuses {n = i} {ws = ws} {a = a} {x = x} {y = y} r n c t f) (blocks {y = y'} m d) = absurd (some_none i (choice_same ws a x (Some i) None y y' c d))
  one_way (blocks n c) (loops k) = absurd (n k)
  one_way (blocks n c) (accepts m s f) = absurd (not_shifted c s f)
  one_way (blocks n c) (shifts m q b h) = absurd (c.no_shift b)
  one_way (blocks {ws = ws} {a = a} {x = x} {y = y} n c) (reduces {n = i} {y = y'} r m d t red h) = absurd (some_none i (choice_same ws a x (Some i) None y' y d c))
  one_way (blocks {ws = ws} {a = a} {x = x} {y = y} n c) (refuses {n = i} {y = y'} r m d t f) = absurd (some_none i (choice_same ws a x (Some i) None y' y d c))
  one_way (blocks n c) (blocks m d) = (refl, refl)

pub parse_one_way : {L X : Type 0} (of : Answering L X) → IsOneWay of
parse_one_way of rules stmt at before w a x log log' e e' g h = one_way of rules stmt g h

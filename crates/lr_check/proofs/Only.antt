-- A parse ends in one way.
use Rattle.std.proofs.Common.{◌≡◌, ◌⊎◌, ℕ, zero, suc, ◌+◌, ◌-◌, ◌<◌, List, [], ◌∷◌, ◌++◌, Option, Some, None, true, false, Contains, length, slice_get}
use Rattle.std.proofs.Common.{refl, sym, ap, ◌∙◌, subst, ⊎_elim, arith}
use Rattle.std.specs.Prelude.{AllPairs}
use Rattle.std.proofs.lemmas.Bool.{both_ways}
use Rattle.std.proofs.lemmas.List.Elements.{Contains-append_right}
use Rattle.std.proofs.lemmas.Option.{same_Some}
use Rattle.gg_base.proofs.Facts.{some_none}
use Rattle.tree_core.specs.declared.token.Tok.{Tok}
use Rattle.tree_core.specs.declared.token.Tok.TheVariants as tok
use Rattle.md_reader.specs.declared.types.Rule.{Rule}
use Rattle.md_reader.specs.declared.types.Sym.{Sym}
use Rattle.md_reader.specs.declared.types.Sym.TheVariants as grammar_symbol
use Rattle.md_reader.specs.State.{Content}
use Rattle.lr_tables.specs.Items.{starts, moves}
use Rattle.lr_tables.specs.Statements.{stmt_of}
use Rattle.lr_tables.specs.Candidates.{StandsBefore, GoesFirst, AreReductions}
use Rattle.lr_check.specs.declared.sample.Outcome.{Outcome}
use Rattle.lr_check.specs.declared.sample.Outcome.TheVariants as outcome
use Rattle.lr_check.specs.Tree.{Node, Token, Unfolds, ends, goes_on}
use Rattle.lr_check.specs.Parse.{Part, symbols, coming, owner_answers, answer, asked, reduced, Takes, nothing, unrestricted, answered_yes, answered_no, Reduction, Ends, loops}
use Rattle.lr_check.specs.Parse.{accepts, shifts, reduces, blocks, Replays, is_long, is_parsed}
use Rattle.lr_check.proofs.Contained.{here, cons_cases, nowhere_in}

-- two lists in one strict order that have the same elements are the same
module _ (R : ℕ → ℕ → Type 0) (apart : (m n : ℕ) → R m n → R n m → ⊥) where
  pairs_tail : (x : ℕ) (xs : List ℕ) → AllPairs R (x ∷ xs) → AllPairs R xs
  pairs_tail x xs h = λ i j d lt le. h (suc i) (suc j) d (omega (arith, lt)) (omega (arith, le))

  pairs_head : (x : ℕ) (xs : List ℕ) (y : ℕ) → AllPairs R (x ∷ xs) → Contains xs y → R x y
  pairs_head x xs y h c = let lt = c.1 in subst (R x) c.2 (h zero (suc c.0) y (omega arith) (omega (arith, lt)))

  same_lists : (ns ms : List ℕ) → AllPairs R ns → AllPairs R ms → ((n : ℕ) → Contains ns n → Contains ms n) → ((n : ℕ) → Contains ms n → Contains ns n) → ns ≡ ms
  same_lists [] [] p q f g = refl
  same_lists [] (m ∷ ms) p q f g = absurd (nowhere_in m (g m (here m ms)))
  same_lists (n ∷ ns) [] p q f g = absurd (nowhere_in n (f n (here n ns)))
  same_lists (n ∷ ns) (m ∷ ms) p q f g =
      let same : m ≡ n =
      ⊎_elim
      (λ e. e)
      (λ c. ⊎_elim (λ e. sym e) (λ d. absurd (apart n m (pairs_head n ns m p d) (pairs_head m ms n q c))) (cons_cases n ns m (g m (here m ms))))
      (cons_cases m ms n (f n (here n ns))) in
      (λ i. sym same i ∷ same_lists ns ms (pairs_tail n ns p) (pairs_tail m ms q)
      (λ x c. ⊎_elim (λ e. absurd (let r : R n n = subst (R n) (sym e ∙ same) (pairs_head n ns x p c) in apart n n r r)) (λ d. d) (cons_cases m ms x (f x (Contains-append_right (n ∷ []) ns x c))))
      (λ x c. ⊎_elim (λ e. absurd (let r : R m m = subst (R m) (sym e ∙ sym same) (pairs_head m ms x q c) in apart m m r r)) (λ d. d)
      (cons_cases n ns x (g x (Contains-append_right (m ∷ []) ms x c)))) i)

module _ (rules : List Rule) (stmt : ℕ) where
  goes_first_apart : (m n : ℕ) → GoesFirst rules stmt m n → GoesFirst rules stmt n m → ⊥
  goes_first_apart m n a b =
      ⊎_elim
      (λ lt. ⊎_elim (λ gt. omega (arith, lt, gt)) (λ y. let e = y.0 in omega (arith, lt, e)) b)
      (λ x. let e = x.0 in let l = x.1 in ⊎_elim (λ gt. omega (arith, e, gt)) (λ y. let k = y.1 in omega (arith, l, k)) b)
      a

  pub reductions_same : (a : List Sym) (t : Tok) (ns ms : List ℕ) → AreReductions rules stmt a t ns → AreReductions rules stmt a t ms → ns ≡ ms
  reductions_same a t ns ms p q = same_lists (GoesFirst rules stmt) goes_first_apart ns ms p.ordered q.ordered (λ n c. (q.exactly n).1 ((p.exactly n).0 c)) (λ n c. (p.exactly n).1 ((q.exactly n).0 c))

  rule_same : (n : ℕ) (r q : Rule) → slice_get rules n ≡ Some r → slice_get rules n ≡ Some q → r ≡ q
  rule_same n r q e f = same_Some r q (sym e ∙ f)

  none_more : (n : ℕ) (r q : Rule) → slice_get rules n ≡ Some r → slice_get rules n ≡ Some q → length r.restrictions ≡ 0 → 0 < length q.restrictions → ⊥
  none_more n r q e f z m = let l : length r.restrictions ≡ length q.restrictions = ap (λ (x : Rule). length x.restrictions) (rule_same n r q e f) in omega (arith, l, z, m)

  two_answers : (s : List Part) (n : ℕ) (r q : Rule) → slice_get rules n ≡ Some r → slice_get rules n ≡ Some q → answer (owner_answers s r) ≡ true → answer (owner_answers s q) ≡ false → ⊥
  two_answers s n r q e f g h = both_ways (answer (owner_answers s q)) h (sym (ap (λ (x : Rule). answer (owner_answers s x)) (rule_same n r q e f)) ∙ g)

  takes_same : {s u v : List Part} {ns : List ℕ} {o p : Option ℕ} → Takes rules s ns o u → Takes rules s ns p v → (o ≡ p) × (u ≡ v)
  takes_same nothing nothing = (refl, refl)
  takes_same (unrestricted r e z) (unrestricted q f y) = (refl, refl)
  takes_same (unrestricted {n = n} r e z) (answered_yes q f m g) = absurd (none_more n r q e f z m)
  takes_same (unrestricted {n = n} r e z) (answered_no q f m g h) = absurd (none_more n r q e f z m)
  takes_same (answered_yes {n = n} r e m g) (unrestricted q f z) = absurd (none_more n q r f e z m)
  takes_same (answered_yes {s = s} {n = n} r e m g) (answered_yes q f k h) = (refl, ap (asked s) (rule_same n r q e f))
  takes_same (answered_yes {s = s} {n = n} r e m g) (answered_no q f k h t) = absurd (two_answers s n r q e f g h)
  takes_same (answered_no {n = n} r e m g t) (unrestricted q f z) = absurd (none_more n q r f e z m)
  takes_same (answered_no {s = s} {n = n} r e m g t) (answered_yes q f k h) = absurd (two_answers s n q r f e h g)
  takes_same (answered_no {s = s} {s' = s'} {n = n} {ns = ns} {taken = o} r e m g t) (answered_no {s' = u} {taken = p} q f k h w) =
      takes_same t (subst (λ (x : Rule). Takes rules (asked s x) ns p u) (rule_same n q r f e) w)

  pub reduction_same : (ws : List Token) (s u v : List Part) (o p : Option ℕ) → Reduction rules stmt ws s o u → Reduction rules stmt ws s p v → (o ≡ p) × (u ≡ v)
  reduction_same ws s u v o p a b =
      takes_same a.takes (subst (λ (x : List ℕ). Takes rules s x p v) (reductions_same (symbols s) (coming ws) b.candidates a.candidates b.in_order a.in_order) b.takes)

  -- before the end an item stands on a statement
  pub statement_ends : (a : List Sym) (k : Tok) → a ≡ grammar_symbol.Class stmt ∷ [] → k ≡ tok.End → StandsBefore rules stmt a (grammar_symbol.Tok k)
  statement_ends a k e f =
      let stands : StandsBefore rules stmt (grammar_symbol.Class stmt ∷ []) (grammar_symbol.Tok tok.End) =
      record { item = record { rule = None; dot = 1 }; valid = moves starts refl refl; before = refl } in
      subst (λ (b : List Sym). StandsBefore rules stmt b (grammar_symbol.Tok k)) (sym e)
      (subst (λ (t : Tok). StandsBefore rules stmt (grammar_symbol.Class stmt ∷ []) (grammar_symbol.Tok t)) (sym f) stands)

  pub not_shifted : {ws : List Token} {s u : List Part} {o : Option ℕ} → Reduction rules stmt ws s o u → symbols s ≡ grammar_symbol.Class stmt ∷ [] → coming ws ≡ tok.End → ⊥
  not_shifted {ws = ws} {s = s} r e f = r.no_shift (statement_ends (symbols s) (coming ws) e f)

  pub ends_same : {at : ℕ} {before : List (List Sym)} {ws : List Token} {s : List Part} {o p : Outcome} → Ends rules stmt at before ws s o → Ends rules stmt at before ws s p → p ≡ o
  ends_same (loops h) (loops k) = refl
  ends_same (loops h) (accepts n e f) = absurd (n h)
  ends_same (loops h) (shifts n e b x) = absurd (n h)
  ends_same (loops h) (reduces r n d e x) = absurd (n h)
  ends_same (loops h) (blocks n d) = absurd (n h)
  ends_same (accepts n e f) (loops k) = absurd (n k)
  ends_same (accepts n e f) (accepts m g h) = refl
  ends_same (accepts n e f) (shifts m g b x) = absurd (g f)
  ends_same (accepts n e f) (reduces r m d g x) = absurd (not_shifted d e f)
  ends_same (accepts n e f) (blocks m d) = absurd (not_shifted d e f)
  ends_same (shifts n e b x) (loops k) = absurd (n k)
  ends_same (shifts n e b x) (accepts m g h) = absurd (e h)
  ends_same (shifts n e b x) (shifts m g c y) = ends_same x y
  ends_same (shifts n e b x) (reduces r m d g y) = absurd (d.no_shift b)
  ends_same (shifts n e b x) (blocks m d) = absurd (d.no_shift b)
  ends_same (reduces r n d e x) (loops k) = absurd (n k)
  ends_same (reduces r n d e x) (accepts m g h) = absurd (not_shifted d g h)
  ends_same (reduces r n d e x) (shifts m g b y) = absurd (d.no_shift b)
  ends_same (reduces {at = at} {n = i} {before = before} {ws = ws} {s = s} {s' = u} r n d e x) (reduces {n = j} {s' = v} {o = p} q m c f y) =
      let same : (Some i ≡ Some j) × (u ≡ v) = reduction_same ws s u v (Some i) (Some j) d c in
      let number : i ≡ j = same_Some i j same.0 in
      let rule : q ≡ r = same_Some q r (sym f ∙ (ap (slice_get rules) (sym number) ∙ e)) in
      let stack : reduced v q ≡ reduced u r = (λ k. reduced (sym same.1 k) (rule k)) in
      ends_same x (subst (λ (z : List Part). Ends rules stmt at (symbols s ∷ before) ws z p) stack y)
  ends_same (reduces {n = i} {ws = ws} {s = s} {s' = u} r n d e x) (blocks {s' = v} m c) = absurd (some_none i (reduction_same ws s u v (Some i) None d c).0)
  ends_same (blocks n d) (loops k) = absurd (n k)
  ends_same (blocks n d) (accepts m g h) = absurd (not_shifted d g h)
  ends_same (blocks n d) (shifts m g b y) = absurd (d.no_shift b)
  ends_same (blocks {ws = ws} {s = s} {s' = u} n d) (reduces {n = i} {s' = v} r m c e y) = absurd (some_none i (sym (reduction_same ws s u v None (Some i) d c).0))
  ends_same (blocks n d) (blocks m c) = refl

unfolds_same : (nodes : List Node) {l : List ℕ} {w u : List Token} → Unfolds nodes l w → Unfolds nodes l u → w ≡ u
unfolds_same nodes ends ends = refl
unfolds_same nodes (goes_on {n = n} {rest = rest} {w = w} v e x) (goes_on {w = u} q f y) =
    let same : q ≡ v = same_Some q v (sym f ∙ e) in
    let tail : w ≡ u = unfolds_same nodes x (subst (λ (z : Node). Unfolds nodes (z.kids ++ rest) u) same y) in
    let head : ◌≡◌ {A = Token} (record { tok = v.tok; answers = v.answers }) (record { tok = q.tok; answers = q.answers }) =
    ap {B = Token} (λ (z : Node). record { tok = z.tok; answers = z.answers }) (sym same) in
    (λ i. head i ∷ tail i)

pub replays_same : (d : Content) (nodes : List Node) (o p : Outcome) → Replays d nodes o → Replays d nodes p → p ≡ o
replays_same d nodes o p (is_long w x lt) (is_long u y le) = refl
replays_same d nodes o p (is_long w x lt) (is_parsed u y le e) = absurd (let l : length w ≡ length u = ap (λ (z : List Token). length z) (unfolds_same nodes x y) in omega (arith, l, lt, le))
replays_same d nodes o p (is_parsed u y le e) (is_long w x lt) = absurd (let l : length w ≡ length u = ap (λ (z : List Token). length z) (unfolds_same nodes x y) in omega (arith, l, lt, le))
replays_same d nodes o p (is_parsed w x lt e) (is_parsed u y le f) = ends_same d.rules (stmt_of d.classes) e
    (subst (λ (z : List Token). Ends d.rules (stmt_of d.classes) 0 [] z [] p) (sym (unfolds_same nodes x y)) f)

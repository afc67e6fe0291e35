-- The automaton of a grammar's items is a table.
use Rattle.std.proofs.Common.{◌≡◌, ◌⊎◌, ℕ, ◌≤◌, List, [], ◌∷◌, ◌++◌, Option, Some, None, length, drop, reverse, map, refl, ap, sym, ◌∙◌, inl, inr, ⊎_elim, subst, arith}
use Rattle.std.proofs.Common.{append_assoc, Contains, length-append, drop_at, ap₂}
use Rattle.std.proofs.lemmas.List.{reverse-append, reverse-reverse, length-reverse}
use Rattle.std.proofs.lemmas.List.Elements.{Contains-append_right}
use Rattle.tree_core.specs.declared.token.Tok.{Tok}
use Rattle.tree_core.specs.declared.token.Tok.TheVariants as tok
use Rattle.md_reader.specs.declared.types.Sym.{Sym}
use Rattle.md_reader.specs.declared.types.Sym.TheVariants as grammar_symbol
use Rattle.lr_check_sets.specs.Automaton.{Automaton, Production, Candidate, shift, reduce, walk, go_from, size_of, Free, reduced, IsTable}
use Rattle.lr_check_sets.specs.Items.{start_of, Item, starts, opens, moves, AreCandidates, the_shift, the_reductions, IsAutomatonOf, HasNoEnd, HasNoEmpty}

-- a reduction is of one rule, and no shift
pub reduce_same : (r s : Production) → reduce r ≡ reduce s → r ≡ s
reduce_same r s e = cc

pub shift_reduce : (r : Production) → reduce r ≡ shift → ⊥
shift_reduce r e = cc

pub reverse-cons : {X : Type 0} (x : X) (b c : List X) → reverse (x ∷ b) ++ c ≡ reverse b ++ (x ∷ c)
reverse-cons x b c = ap (λ l. l ++ c) (reverse-append (x ∷ []) b) ∙ append_assoc (reverse b) (x ∷ []) c

-- an item stands on the part of its right side before the dot
pub data Stands (G : List Production) (stmt : ℕ) (a : List Sym) (r : Production) (rest : List Sym) : Type 0 where
  stands : (b below : List Sym) → a ≡ b ++ below → r.right ≡ reverse b ++ rest → Item G stmt below r r.right → Stands G stmt a r rest

stands_more : {G : List Production} {stmt : ℕ} {a : List Sym} {r : Production} {X : Sym} {rest : List Sym} → Stands G stmt a r (X ∷ rest) → Stands G stmt (X ∷ a) r rest
stands_more {X = X} {rest = rest} (stands b below e f i) = stands (X ∷ b) below (ap (λ l. X ∷ l) e) (f ∙ sym (reverse-cons X b rest)) i

pub item_stands : {G : List Production} {stmt : ℕ} {a : List Sym} {r : Production} {rest : List Sym} → Item G stmt a r rest → Stands G stmt a r rest
item_stands {a = a} (starts e f) = stands [] [] refl f (starts e refl)
item_stands {a = a} (opens i m l e) = stands [] a refl e (opens i m l refl)
item_stands (moves i) = stands_more (item_stands i)

item_rule : {G : List Production} {stmt : ℕ} {a : List Sym} {r : Production} {rest : List Sym} → Item G stmt a r rest → (r ≡ start_of stmt) ⊎ Contains G r
item_rule (starts e f) = inl e
item_rule (opens i m l e) = inr m
item_rule (moves i) = item_rule i

too_short : {G : List Production} {stmt : ℕ} {a : List Sym} (r : Production) (X : Sym) (rest : List Sym) → r.right ≡ rest → Stands G stmt a r (X ∷ rest) → ⊥
too_short r X rest h (stands b below e f j) = omega (arith, ap length h, ap length f, length-append (reverse b) (X ∷ rest))

module _ (G : List Production) (stmt : ℕ) (no_end : HasNoEnd G) where
  -- a rule with the end in it is no rule of the grammar
  not_rule : (r : Production) (b after : List Sym) → Contains G r → r.right ≡ b ++ (grammar_symbol.Tok tok.End ∷ after) → ⊥
  not_rule r b after m e =
      no_end r m (subst (λ l. Contains l (grammar_symbol.Tok tok.End)) (sym e) (Contains-append_right b (grammar_symbol.Tok tok.End ∷ after) (grammar_symbol.Tok tok.End) (0, omega arith, refl)))

  not_start : (r : Production) → Contains G r → r ≡ start_of stmt → ⊥
  not_start r m e = not_rule r (grammar_symbol.Class stmt ∷ []) [] m (ap (λ x. x.right) e)

  -- what opened the rule
  opened_from : {a : List Sym} {r : Production} {rest : List Sym} → Item G stmt a r rest → r.right ≡ rest → Contains G r →
      (s : Production) × ((after : List Sym) × Item G stmt a s (grammar_symbol.Class r.left ∷ after))
  opened_from {r = r} (starts e f) h m = absurd (not_start r m e)
  opened_from (opens {a = a} {s = s} {after = after} i m' l e) h m = (s, (after, subst (λ c. Item G stmt a s (grammar_symbol.Class c ∷ after)) (sym l) i))
  opened_from (moves {a = a} {r = r} {X = X} {rest = rest} i) h m = absurd (too_short r X rest h (item_stands i))

  -- the start is valid at the empty stack alone
  start_below : {a : List Sym} {r : Production} {rest : List Sym} → Item G stmt a r rest → r.right ≡ rest → r ≡ start_of stmt → a ≡ []
  start_below (starts e f) h s = refl
  start_below {r = r} (opens i m l e) h s = absurd (not_start r m s)
  start_below (moves {a = a} {r = r} {X = X} {rest = rest} i) h s = absurd (too_short r X rest h (item_stands i))

  one_before : (b after : List Sym) → grammar_symbol.Class stmt ∷ grammar_symbol.Tok tok.End ∷ [] ≡ b ++ (grammar_symbol.Tok tok.End ∷ after) → b ≡ grammar_symbol.Class stmt ∷ []
  one_before [] after e = cc
  one_before (Y ∷ []) after e = cc
  one_before (Y ∷ Z ∷ b) after e = absurd (omega (arith, ap length e, length-append b (grammar_symbol.Tok tok.End ∷ after)))

  -- the end is shifted behind `stmt` alone
  at_end_alone : {a : List Sym} {r : Production} {after : List Sym} → Item G stmt a r (grammar_symbol.Tok tok.End ∷ after) → a ≡ grammar_symbol.Class stmt ∷ []
  at_end_alone {a = a} {r = r} {after = after} i = at_end_stands (item_rule i) (item_stands i)
    where
      at_end_stands : (r ≡ start_of stmt) ⊎ Contains G r → Stands G stmt a r (grammar_symbol.Tok tok.End ∷ after) → a ≡ grammar_symbol.Class stmt ∷ []
      at_end_stands (inr m) (stands b below e f j) = absurd (not_rule r (reverse b) after m f)
      at_end_stands (inl s) (stands b below e f j) =
          let before : reverse b ≡ grammar_symbol.Class stmt ∷ [] = one_before (reverse b) after (sym (ap (λ x. x.right) s) ∙ f) in
          let top : b ≡ grammar_symbol.Class stmt ∷ [] = sym (reverse-reverse b) ∙ ap reverse before in
          e ∙ ap₂ (λ x y. x ++ y) top (start_below j refl s)

pub free-reductions : (rs : List Production) (c : Candidate) → Free (map reduce rs) c → (r : Production) × ((c ≡ reduce r) × Contains rs r)
free-reductions [] c f = absurd f
free-reductions (x ∷ rs) c f =
    ⊎_elim
    (λ h. (x, (h, (0, omega arith, refl))))
    (λ h. let tail : (r : Production) × ((c ≡ reduce r) × Contains rs r) = free-reductions rs c h.1 in (tail.0, (tail.1.0, Contains-append_right (x ∷ []) rs tail.0 tail.1.1)))
    f

-- the shift stands alone
alone : {G : List Production} {stmt : ℕ} {a : List Sym} {t : Tok} {cs : List Candidate} {r : Production} {after : List Sym} → AreCandidates G stmt a t cs →
    Item G stmt a r (grammar_symbol.Tok t ∷ after) → cs ≡ shift ∷ []
alone (the_shift s j) i = refl
alone {r = r} {after = after} (the_reductions rs none are e) i = absurd (none r after i)

-- a shift comes of an item
pub shift_item : {G : List Production} {stmt : ℕ} {a : List Sym} {t : Tok} {cs : List Candidate} → AreCandidates G stmt a t cs → Free cs shift →
    (r : Production) × ((after : List Sym) × Item G stmt a r (grammar_symbol.Tok t ∷ after))
shift_item (the_shift {after = after} r i) f = (r, (after, i))
shift_item (the_reductions rs none are e) f =
    let found : (r : Production) × ((shift ≡ reduce r) × Contains rs r) = free-reductions rs shift (subst (λ cs. Free cs shift) e f) in absurd (shift_reduce found.0 (sym found.1.0))

-- a reduction comes of a complete item
pub reduce_item : {G : List Production} {stmt : ℕ} {a : List Sym} {t : Tok} {cs : List Candidate} (r : Production) → AreCandidates G stmt a t cs → Free cs (reduce r) →
    Item G stmt a r [] × Contains G r
reduce_item r (the_shift s i) f = absurd (shift_reduce r f)
reduce_item {G = G} {stmt = stmt} {a = a} {t = t} r (the_reductions rs none are e) f =
    let found : (s : Production) × ((reduce r ≡ reduce s) × Contains rs s) = free-reductions rs (reduce r) (subst (λ cs. Free cs (reduce r)) e f) in
    let same : reduce r ≡ reduce found.0 = found.1.0 in
    let it : r ≡ found.0 = cc in
    let each : Item G stmt a r [] × Contains G r = are.each r (subst (λ s. Contains rs s) (sym it) found.1.1) in
    (each.0, each.1)

-- the state of a lower part
walk_below : (A : Automaton) (q p : ℕ) (s a : List Sym) → walk A q (s ++ a) ≡ Some p → (p' : ℕ) × (walk A q a ≡ Some p')
walk_below A q p [] a h = (p, h)
walk_below A q p (X ∷ s) a h = came_from (λ m e. walk_below A q m s a e) (walk A q (s ++ a)) refl h
  where
    came_from : ((m : ℕ) → walk A q (s ++ a) ≡ Some m → (p' : ℕ) × (walk A q a ≡ Some p')) → (o : Option ℕ) → walk A q (s ++ a) ≡ o → go_from A o X ≡ Some p → (p' : ℕ) × (walk A q a ≡ Some p')
    came_from below None e g = cc
    came_from below (Some m) e g = below m e

module _ (G : List Production) (A : Automaton) (no_end : HasNoEnd G) (no_empty : HasNoEmpty G) (exact : IsAutomatonOf G A) where
  reduces_law : (a : List Sym) (p : ℕ) (t : Tok) (r : Production) → walk A 0 a ≡ Some p → Item G A.stmt a r [] → Contains G r →
      (size_of r ≤ length a) × ((p' : ℕ) × (walk A 0 (reduced r a) ≡ Some p'))
  reduces_law a p t r at i m = go (item_stands i)
    where
      go : Stands G A.stmt a r [] → (size_of r ≤ length a) × ((p' : ℕ) × (walk A 0 (reduced r a) ≡ Some p'))
      go (stands b below e f j) =
          let long : size_of r ≡ length b = ap length f ∙ (length-append (reverse b) [] ∙ omega (arith, length-reverse b)) in
          let low : (p' : ℕ) × (walk A 0 below ≡ Some p') = walk_below A 0 p b below (subst (λ l. walk A 0 l ≡ Some p) e at) in
          let opener : (s : Production) × ((after : List Sym) × Item G A.stmt below s (grammar_symbol.Class r.left ∷ after)) = opened_from G A.stmt no_end j refl m in
          let next : (p' : ℕ) × (A.go low.0 (grammar_symbol.Class r.left) ≡ Some p') = exact.goes_where below low.0 (grammar_symbol.Class r.left) opener.0 opener.1.0 low.1 opener.1.1 in
          let rest : drop (size_of r) a ≡ below = ap (drop (size_of r)) e ∙ drop_at b below (size_of r) (sym long) in (
            omega (arith, ap length e, length-append b below),
            (
              next.0,
              ap (λ l. walk A 0 (grammar_symbol.Class r.left ∷ l)) rest
                  ∙ (ap (λ o. go_from A o (grammar_symbol.Class r.left)) low.1 ∙ next.1),
            ),
          )

  pub table_of_items : IsTable A
  table_of_items = record {
    shift_alone = λ a p t p' at g. let found : (r : Production) × ((after : List Sym) × Item G A.stmt a r (grammar_symbol.Tok t ∷ after)) = exact.goes_only a p (grammar_symbol.Tok t) p' at g in alone
        (exact.candidates a p t at) found.1.1;
    accept = λ a p at f. let found : (r : Production) × ((after : List Sym) × Item G A.stmt a r (grammar_symbol.Tok tok.End ∷ after)) = shift_item
        (exact.candidates a p tok.End at) f in at_end_alone G A.stmt no_end found.1.1;
    reduces = λ a p t r at f. let item : Item G A.stmt a r [] × Contains G r = reduce_item r (exact.candidates a p t at) f in reduces_law a p t r at item.0 item.1;
    nonempty = λ a p t r at f. let item : Item G A.stmt a r [] × Contains G r = reduce_item r (exact.candidates a p t at) f in no_empty r item.1;
  }

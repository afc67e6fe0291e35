-- Reductions inside the last kid are the kid's own, so the whole list's alone give the same sets.
use Rattle.std.proofs.Common.{◌≡◌, ◌⊎◌, ℕ, ◌≤◌, ◌<◌, List, [], ◌∷◌, ◌++◌, Some, length, refl, sym, ◌∙◌, inl, inr, ⊎_elim, subst, arith, length-append, length-drop}
use Rattle.std.proofs.lemmas.Bool.{cases_lt}
use Rattle.tree_core.specs.declared.token.Tok.{Tok}
use Rattle.tree_core.specs.declared.token.Sort.{Sort}
use Rattle.md_reader.specs.declared.types.Sym.{Sym}
use Rattle.md_reader.specs.declared.types.Sym.TheVariants as grammar_symbol
use Rattle.lr_check_sets.specs.Automaton.{Automaton, Production, Candidate, shift, reduce, walk, size_of, Free, reduced, Outside, IsTable}
use Rattle.lr_check_sets.specs.Items.{IsAutomatonOf, HasNoEnd, HasNoEmpty}
use Rattle.lr_check_sets.specs.Loose.{LoosePlace, LoosePartly, LooseSettling, LooseSum, loose_start, loose_kid, loose_opened, loose_with_kid, loose_whole, loose_settled, loose_sum, WholeIsEnough}
use Rattle.lr_check_sets.specs.Shapes.{IsTree, HasTrees}
use Rattle.lr_check_sets.specs.Sums.{Place, Partly, Settling, Sum, at_start, at_kid, opened, with_kid, whole, settled, sum}
use Rattle.lr_check_sets.proofs.Walks.{walk-append, reduced-append}
use Rattle.lr_check_sets.proofs.Tables.{table_of_items}
use Rattle.lr_check_sets.proofs.Reached.{MetPlace, met_part}
use Rattle.lr_check_sets.proofs.Shapes.{OnTop, part_shape, settling_tree, sum_tree, kid_shape, top_of_free, last_top}

mutual
  pub place_back : {A : Automaton} {q : ℕ} {k t : Tok} → Place A q k t → LoosePlace A q k t
  place_back (at_start may) = loose_start may
  place_back (at_kid part ws bg) = loose_kid (part_back part) ws bg

  pub part_back : {A : Automaton} {q : ℕ} {k t : Tok} {s : List Sym} {xs : List Sort} {n : Tok} → Partly A q k t s xs n → LoosePartly A q k t s xs n
  part_back (opened place go bg) = loose_opened (place_back place) go bg
  part_back (with_kid part ws bg kid) = loose_with_kid (part_back part) ws bg (sum_back kid)

  pub settling_back : {A : Automaton} {q : ℕ} {k t : Tok} {s : List Sym} → Settling A q k t s → LooseSettling A q k t s
  settling_back (whole part) = loose_whole (part_back part)
  settling_back (settled r set ws f e) = loose_settled r (settling_back set) ws f (omega arith)

  pub sum_back : {A : Automaton} {q : ℕ} {k t : Tok} {s : List Sym} → Sum A q k t s → LooseSum A q k t s
  sum_back (sum c set ws f o) = loose_sum c (settling_back set) ws f o

-- the list settles itself, or its last kid still does
data Covered (A : Automaton) : ℕ → Tok → Tok → List Sym → Type 0 where
  itself : {q : ℕ} {k t : Tok} {s : List Sym} → Settling A q k t s → Covered A q k t s
  last : {q : ℕ} {k t : Tok} {s : List Sym} {x : Sort} {n : Tok} {p : ℕ} {s' : List Sym} → Partly A q k t s (x ∷ []) n → walk A q s ≡ Some p → Covered A p n t s' → Covered A q k t (s' ++ s)

outside_kid : (c : Candidate) (s' s : List Sym) → Outside c (s' ++ s) → Outside c s'
outside_kid shift s' s o = tt
outside_kid (reduce r) s' s o = omega (arith, length-append s' s)

covered_sum : {A : Automaton} {q : ℕ} {k t : Tok} {s : List Sym} → Covered A q k t s → (p : ℕ) (c : Candidate) → walk A q s ≡ Some p → Free (A.candidates p t) c → Outside c s → Sum A q k t s
covered_sum (itself set) p c ws f o = sum c set ws f o
covered_sum {A = A} {t = t} (last {q = q} {s = s} {p = p0} {s' = s'} part ws0 cov) p c ws f o =
    let kid_walk : walk A p0 s' ≡ Some p = sym (walk-append A q p0 s' s ws0) ∙ ws in
    sum c (whole (with_kid part ws0 refl (covered_sum cov p c kid_walk f (outside_kid c s' s o)))) ws f o

module _ (G : List Production) (A : Automaton) (no_end : HasNoEnd G) (no_empty : HasNoEmpty G) (trees : HasTrees G) (exact : IsAutomatonOf G A) where
  table : IsTable A
  table = table_of_items G A no_end no_empty exact

  -- the state behind the whole stack, for the shapes
  on_top_here : {q : ℕ} {k t : Tok} {s : List Sym} {xs : List Sort} {n : Tok} → LoosePartly A q k t s xs n → (l : List Sym) (p : ℕ) (r : Production) (t' : Tok) → walk A q l ≡ Some p →
      Free (A.candidates p t') (reduce r) → (a : List Sym) × (OnTop G A no_end no_empty trees exact r (l ++ a) × (0 < size_of r))
  on_top_here {q = q} {k = k} {t = t} part l p r t' ws f =
      let place : MetPlace A q k t = (met_part A table part).0 in
      let at : walk A 0 (l ++ place.below) ≡ Some p = walk-append A 0 q l place.below place.at ∙ ws in
      (place.below, (top_of_free G A no_end no_empty trees exact (l ++ place.below) p t' r at f, table.nonempty (l ++ place.below) p t' r at f))

  -- a reduction behind the last kid is inside the kid or the whole
  pub inside_or_whole : {q : ℕ} {k t : Tok} {s : List Sym} {x : Sort} {n : Tok} → Partly A q k t s (x ∷ []) n → (s' : List Sym) → IsTree s' → (p : ℕ) (r : Production) →
      walk A q (s' ++ s) ≡ Some p → Free (A.candidates p t) (reduce r) → size_of r ≤ length (s' ++ s) → (size_of r ≤ length s') ⊎ (size_of r ≡ length (s' ++ s))
  inside_or_whole {t = t} {s = s} part s' tree p r ws f le =
      ⊎_elim
      (λ lt. let here : (a : List Sym) × (OnTop G A no_end no_empty trees exact r ((s' ++ s) ++ a) × (0 < size_of r)) = on_top_here (part_back part) (s' ++ s) p r t ws f in
      ⊎_elim
      (λ below. absurd (last_top G A no_end no_empty trees exact s' s here.0 r tree (part_shape G A no_end no_empty trees exact (part_back part)) here.1.0 lt below))
      (λ ge. inr (omega arith))
      (cases_lt (size_of r) (length (s' ++ s))))
      (λ le. inl le)
      (cases_lt (length s') (size_of r))

  pub settling_part : {q : ℕ} {k t : Tok} {s : List Sym} → Settling A q k t s → (s0 : List Sym) × Partly A q k t s0 [] t
  settling_part (whole {s = s} part) = (s, part)
  settling_part (settled r set ws f e) = settling_part set

  pub some_size : {q : ℕ} {k t : Tok} {s0 : List Sym} → Partly A q k t s0 [] t → (l : List Sym) (p : ℕ) (r : Production) → walk A q l ≡ Some p → Free (A.candidates p t) (reduce r) → 0 < size_of r
  some_size {t = t} part l p r ws f = (on_top_here (part_back part) l p r t ws f).1.1

  mutual
    settle_step : {q : ℕ} {k t : Tok} {s : List Sym} → Settling A q k t s → (p : ℕ) (r : Production) → walk A q s ≡ Some p → Free (A.candidates p t) (reduce r) → size_of r ≤ length s →
        Covered A q k t (reduced r s)
    settle_step (whole part) p r ws f le = part_step part part refl refl p r ws f le
    settle_step (settled {s = s} r0 set ws0 f0 e0) p r ws f le =
        let some : 0 < size_of r = some_size (settling_part set).1 (reduced r0 s) p r ws f in
        itself (settled r (settled r0 set ws0 f0 e0) ws f (omega (arith, length-drop (size_of r0) s)))

    part_step : {q : ℕ} {k t : Tok} {s : List Sym} {ys : List Sort} {n : Tok} → Partly A q k t s ys n → Partly A q k t s [] t → ys ≡ [] → n ≡ t → (p : ℕ) (r : Production) →
        walk A q s ≡ Some p → Free (A.candidates p t) (reduce r) → size_of r ≤ length s → Covered A q k t (reduced r s)
    part_step (opened {k = k} place go bg) all e same p r ws f le =
        let some : 0 < size_of r = some_size all (grammar_symbol.Tok k ∷ []) p r ws f in
        itself (settled r (whole all) ws f (omega arith))
    part_step {k = k} {t = t} (with_kid {q = q} {s = s} {x = x} {n = n} {p = p0} {m = m} {s' = s'} part ws0 bg kid) all e same p r ws f le =
        let part' : Partly A q k t s (x ∷ []) n = subst (λ z. Partly A q k t s (x ∷ z) n) e part in
        let kid_walk : walk A p0 s' ≡ Some p = sym (walk-append A q p0 s' s ws0) ∙ ws in
        let f' : Free (A.candidates p m) (reduce r) = subst (λ z. Free (A.candidates p z) (reduce r)) (sym same) f in
        ⊎_elim
        (λ inside. subst (Covered A q k t) (sym (reduced-append r s' s inside)) (last part' ws0 (subst (λ z. Covered A p0 n z (reduced r s')) same (sum_step kid p r kid_walk f' inside))))
        (λ all_of. itself (settled r (whole all) ws f all_of))
        (inside_or_whole part' s' (sum_tree G A no_end no_empty trees exact (sum_back kid)) p r ws f le)

    sum_step : {q : ℕ} {k t : Tok} {s : List Sym} → Sum A q k t s → (p : ℕ) (r : Production) → walk A q s ≡ Some p → Free (A.candidates p t) (reduce r) → size_of r ≤ length s →
        Covered A q k t (reduced r s)
    sum_step (sum c set ws0 f0 o) p r ws f le = settle_step set p r ws f le

  covered_tree : {q : ℕ} {k t : Tok} {s : List Sym} → Covered A q k t s → IsTree s
  covered_tree (itself set) = settling_tree G A no_end no_empty trees exact (settling_back set)
  covered_tree (last {s = s} {s' = s'} part ws cov) = (kid_shape s' s 0 (covered_tree cov) (part_shape G A no_end no_empty trees exact (part_back part))).still

  covered_step : {q : ℕ} {k t : Tok} {s : List Sym} → Covered A q k t s → (p : ℕ) (r : Production) → walk A q s ≡ Some p → Free (A.candidates p t) (reduce r) → size_of r ≤ length s →
      Covered A q k t (reduced r s)
  covered_step (itself set) p r ws f le = settle_step set p r ws f le
  covered_step (last {q = q} {k = k} {t = t} {s = s} {p = p0} {s' = s'} part ws0 cov) p r ws f le =
      let kid_walk : walk A p0 s' ≡ Some p = sym (walk-append A q p0 s' s ws0) ∙ ws in
      ⊎_elim
      (λ beyond. ⊎_elim
      (λ inside. absurd (omega arith))
      (λ all_of. itself (settled r (whole (with_kid part ws0 refl (covered_sum cov p (reduce r) kid_walk f beyond))) ws f all_of))
      (inside_or_whole part s' (covered_tree cov) p r ws f le))
      (λ inside. subst (Covered A q k t) (sym (reduced-append r s' s inside)) (last part ws0 (covered_step cov p r kid_walk f inside)))
      (cases_lt (length s') (size_of r))

  mutual
    place_there : {q : ℕ} {k t : Tok} → LoosePlace A q k t → Place A q k t
    place_there (loose_start may) = at_start may
    place_there (loose_kid part ws bg) = at_kid (part_there part) ws bg

    part_there : {q : ℕ} {k t : Tok} {s : List Sym} {xs : List Sort} {n : Tok} → LoosePartly A q k t s xs n → Partly A q k t s xs n
    part_there (loose_opened place go bg) = opened (place_there place) go bg
    part_there (loose_with_kid part ws bg kid) = with_kid (part_there part) ws bg (sum_there kid)

    settling_there : {q : ℕ} {k t : Tok} {s : List Sym} → LooseSettling A q k t s → Covered A q k t s
    settling_there (loose_whole part) = itself (whole (part_there part))
    settling_there (loose_settled {p = p} r set ws f le) = covered_step (settling_there set) p r ws f le

    sum_there : {q : ℕ} {k t : Tok} {s : List Sym} → LooseSum A q k t s → Sum A q k t s
    sum_there (loose_sum {p = p} c set ws f o) = covered_sum (settling_there set) p c ws f o

pub whole_is_enough : WholeIsEnough
whole_is_enough G A no_end no_empty trees exact = record {
  places = λ q k t h. place_there G A no_end no_empty trees exact h;
  places_back = λ q k t h. place_back h;
  sums = λ q k t s h. sum_there G A no_end no_empty trees exact h;
  sums_back = λ q k t s h. sum_back h;
}

-- The main direction again: a kid's continuation is also told that the reductions inside its list end.
use Rattle.std.proofs.Common.{◌≡◌, ℕ, ◌≤◌, ◌<◌, List, [], ◌∷◌, ◌++◌, Some, length, refl, ap, sym, ◌∙◌, ⊎_elim, subst, arith, append_assoc, length-drop}
use Rattle.std.proofs.lemmas.Bool.{cases_lt}
use Rattle.gg_base.proofs.Facts.{cons_nil}
use Rattle.tree_core.specs.declared.token.Tok.{Tok}
use Rattle.tree_core.specs.declared.token.Tok.TheVariants as tok
use Rattle.tree_core.specs.declared.token.Sort.{Sort}
use Rattle.tree_core.specs.declared.token.Sort.TheVariants as sort
use Rattle.md_reader.specs.declared.types.Sym.{Sym}
use Rattle.md_reader.specs.declared.types.Sym.TheVariants as grammar_symbol
use Rattle.tree_core.specs.Grammar.{kids}
use Rattle.lr_check_sets.specs.Trees.{Tree, Trees, node, no_trees, more_trees, onto, onto_all, root, first}
use Rattle.lr_check_sets.specs.Automaton.{Automaton, Production, shift, reduce, walk, size_of, Free, CanBlock, reduced, Ends, accepts, goes, IsTable}
use Rattle.lr_check_sets.specs.Items.{IsAutomatonOf, HasNoEnd, HasNoEmpty}
use Rattle.lr_check_sets.specs.Shapes.{HasTrees}
use Rattle.lr_check_sets.specs.Sums.{Place, Partly, Settling, Sum, at_start, at_kid, opened, with_kid, whole, settled, sum}
use Rattle.lr_check_sets.specs.Faults.{Calms, calms, NoFault}
use Rattle.lr_check_sets.specs.Claims.{WholeTreesEnd}
use Rattle.lr_check_sets.proofs.Walks.{walk-append, reduced-append, Split, out, all_in, split}
use Rattle.lr_check_sets.proofs.Tables.{table_of_items}
use Rattle.lr_check_sets.proofs.Beginnings.{begins_first, behind, onto-first, shifted, step_in}
use Rattle.lr_check_sets.proofs.Shapes.{sum_tree}
use Rattle.lr_check_sets.proofs.Whole_sets.{sum_back, inside_or_whole, some_size, settling_part}

-- a sum leads to a state
pub sum_walk : {A : Automaton} {q : ℕ} {k t : Tok} {s : List Sym} → Sum A q k t s → (p : ℕ) × (walk A q s ≡ Some p)
sum_walk (sum {p = p} c h e f o) = (p, e)

-- without trees to come the next token is the one behind
no_more : {xs : List Sort} (vs : Trees xs) → xs ≡ [] → (t : Tok) (w : List Tok) → (first vs t ≡ t) × (onto_all vs w ≡ w)
no_more no_trees e t w = (refl, refl)
no_more (more_trees {x = x} {xs = xs} v vs) e t w = absurd (cons_nil x xs e)

module _ (G : List Production) (A : Automaton) (no_end : HasNoEnd G) (no_empty : HasNoEmpty G) (trees : HasTrees G) (exact : IsAutomatonOf G A) (fine : NoFault A) where
  table : IsTable A
  table = table_of_items G A no_end no_empty exact

  -- the parse ends behind each reduction inside the list
  abbrev Within : ℕ → Tok → List Sym → List Sym → List Tok → Type 0
  Within q t s a w = (r : Production) (p : ℕ) → walk A q s ≡ Some p → Free (A.candidates p t) (reduce r) → size_of r ≤ length s → Ends A (reduced r s ++ a) w

  -- and behind each that is not the whole of it
  abbrev Strictly : ℕ → Tok → List Sym → List Sym → List Tok → Type 0
  Strictly q t s a w = (r : Production) (p : ℕ) → walk A q s ≡ Some p → Free (A.candidates p t) (reduce r) → size_of r < length s → Ends A (reduced r s ++ a) w

  state_reduced : (q : ℕ) (t : Tok) (s a : List Sym) (p : ℕ) (r : Production) → walk A 0 a ≡ Some q → walk A q s ≡ Some p → Free (A.candidates p t) (reduce r) → size_of r ≤ length s →
      (p' : ℕ) × (walk A q (reduced r s) ≡ Some p')
  state_reduced q t s a p r at ws f le =
      let got : (p' : ℕ) × (walk A 0 (reduced r (s ++ a)) ≡ Some p') = (table.reduces (s ++ a) p t r (walk-append A 0 q s a at ∙ ws) f).1 in
      (got.0, sym (walk-append A 0 q (reduced r s) a at) ∙ (ap (walk A 0) (sym (reduced-append r s a le)) ∙ got.1))

  settle_step : (q : ℕ) (k t : Tok) (s a : List Sym) (u : List Tok) (p : ℕ) → Settling A q k t s → walk A 0 a ≡ Some q → walk A q s ≡ Some p →
      ((s' : List Sym) → Sum A q k t s' → Within q t s' a (t ∷ u) → Ends A (s' ++ a) (t ∷ u)) → Within q t s a (t ∷ u) → Split (A.candidates p t) s → Ends A (s ++ a) (t ∷ u)
  settle_step q k t s a u p set at ws cont ih (out c f o) = cont s (sum c set ws f o) ih
  settle_step q k t s a u p set at ws cont ih (all_in g) = goes (walk-append A 0 q s a at ∙ ws) (fine.takes q k t s p set ws) (step_in q t s a u p (λ r f le. ih r p ws f le) g)

  settle_ends : (q : ℕ) (k t : Tok) (s a : List Sym) (u : List Tok) (p : ℕ) → Calms A q t s → Settling A q k t s → walk A 0 a ≡ Some q → walk A q s ≡ Some p → Strictly q t s a (t ∷ u) →
      ((s' : List Sym) → Sum A q k t s' → Within q t s' a (t ∷ u) → Ends A (s' ++ a) (t ∷ u)) → Ends A (s ++ a) (t ∷ u)
  settle_ends q k t s a u p (calms h) set at ws inner cont =
      settle_step q k t s a u p set at ws cont
      (λ r p' ws' f le. ⊎_elim
      (λ lt. inner r p' ws' f lt)
      (λ ge. let size : size_of r ≡ length s = omega arith in
      let set' : Settling A q k t (reduced r s) = settled r set ws' f size in
      let next : (m : ℕ) × (walk A q (reduced r s) ≡ Some m) = state_reduced q t s a p' r at ws' f le in
      settle_ends q k t (reduced r s) a u next.0 (h r p' ws' f size) set' at next.1
      (λ r' m wm g lt. let some : 0 < size_of r' = some_size G A no_end no_empty trees exact (settling_part G A no_end no_empty trees exact set').1 (reduced r s) m r' wm g in absurd
      (omega (arith, length-drop (size_of r) s)))
      cont)
      (cases_lt (size_of r) (length s)))
      (split (A.candidates p t) s)

  mutual
    tree_ends : {x : Sort} (v : Tree x) (q : ℕ) (a : List Sym) (t : Tok) (u w : List Tok) → w ≡ t ∷ u → walk A 0 a ≡ Some q → Place A q (root v) t →
        ((s : List Sym) → Sum A q (root v) t s → Within q t s a w → Ends A (s ++ a) w) → Ends A a (onto v w)
    tree_ends (node k may b vs) q a t u w e at place cont =
        let found : (p : ℕ) × (A.go q (grammar_symbol.Tok k) ≡ Some p) = fine.shifts q k t place in
        let alone : A.candidates q k ≡ shift ∷ [] = table.shift_alone a q k found.0 at found.1 in
        let part : Partly A q k t (grammar_symbol.Tok k ∷ []) (kids k) (first vs t) = opened place found.1 (begins_first vs t) in
        let sub : Ends A ((grammar_symbol.Tok k ∷ []) ++ a) (onto_all vs w) = trees_end vs q k t (grammar_symbol.Tok k ∷ []) a u w found.0 e at found.1 part
        (λ none r p ws f lt. let all : Partly A q k t (grammar_symbol.Tok k ∷ []) [] t = subst (λ z. Partly A q k t (grammar_symbol.Tok k ∷ []) [] z) (no_more vs none t w).0
        (subst (λ z. Partly A q k t (grammar_symbol.Tok k ∷ []) z (first vs t)) none part) in
        let some : 0 < size_of r = some_size G A no_end no_empty trees exact all (grammar_symbol.Tok k ∷ []) p r ws f in absurd (omega arith)) cont in
        goes at (subst (λ cs. CanBlock cs → ⊥) (sym alone) (λ h. h)) (λ c f. shifted A k c a (onto_all vs w) (subst (λ cs. Free cs c) alone f) sub)

    trees_end : {xs : List Sort} (vs : Trees xs) (q : ℕ) (k t : Tok) (s a : List Sym) (u w : List Tok) (p : ℕ) → w ≡ t ∷ u → walk A 0 a ≡ Some q → walk A q s ≡ Some p →
        Partly A q k t s xs (first vs t) → (xs ≡ [] → Strictly q t s a w) → ((s' : List Sym) → Sum A q k t s' → Within q t s' a w → Ends A (s' ++ a) w) → Ends A (s ++ a) (onto_all vs w)
    trees_end no_trees q k t s a u w p e at ws part inner cont =
        rw e (settle_ends q k t s a u p (fine.ends q k t s part) (whole part) at ws
        (λ r m wm f lt. subst (λ y. Ends A (reduced r s ++ a) y) e (inner refl r m wm f lt))
        (λ s' h i. subst (λ y. Ends A (s' ++ a) y) e (cont s' h (λ r m wm f le. subst (λ y. Ends A (reduced r s' ++ a) y) (sym e) (i r m wm f le)))))
    trees_end (more_trees {x = x} {xs = xs} v vs) q k t s a u w p e at ws part inner cont =
        tree_ends v p (s ++ a) (first vs t) (behind vs u w) (onto_all vs w) (onto-first vs t u w e) (walk-append A 0 q s a at ∙ ws) (at_kid part ws (begins_first vs t))
        (λ s' h i. let there : (p' : ℕ) × (walk A p s' ≡ Some p') = sum_walk h in
        subst (λ y. Ends A y (onto_all vs w)) (append_assoc s' s a)
        (trees_end vs q k t (s' ++ s) a u w there.0 e at (walk-append A q p s' s ws ∙ there.1) (with_kid part ws (begins_first vs t) h)
        (λ none r m wm f lt.
        let part' : Partly A q k t s (x ∷ []) (root v) = subst (λ z. Partly A q k t s (x ∷ z) (root v)) none part in
        let nm : (first vs t ≡ t) × (onto_all vs w ≡ w) = no_more vs none t w in
        let kid_walk : walk A p s' ≡ Some m = sym (walk-append A q p s' s ws) ∙ wm in
        ⊎_elim
        (λ inside.
        let got : Ends A (reduced r s' ++ (s ++ a)) (onto_all vs w) = i r m kid_walk (subst (λ z. Free (A.candidates m z) (reduce r)) (sym nm.0) f) inside in
        let same : reduced r s' ++ (s ++ a) ≡ reduced r (s' ++ s) ++ a = sym (append_assoc (reduced r s') s a) ∙ ap (λ l. l ++ a) (sym (reduced-append r s' s inside)) in
        subst (λ y. Ends A y w) same (subst (λ y. Ends A (reduced r s' ++ (s ++ a)) y) nm.1 got))
        (λ all_of. absurd (omega arith))
        (inside_or_whole G A no_end no_empty trees exact part' s' (sum_tree G A no_end no_empty trees exact (sum_back h)) m r wm f (omega arith)))
        cont))

  accepted : (k : Tok) (s : List Sym) → Sum A 0 k tok.End s → Ends A (s ++ []) (tok.End ∷ [])
  accepted k s (sum {p = p} shift set ws f o) = subst (λ y. Ends A (y ++ []) (tok.End ∷ [])) (sym (table.accept s p ws f)) accepts
  accepted k s (sum {p = p} (reduce r) set ws f o) =
      let le : size_of r ≤ length s = (table.reduces s p tok.End r ws f).0 in
      absurd (omega arith)

  start_place : (v : Tree sort.Stmt) → Place A 0 (root v) tok.End
  start_place (node k may b vs) = at_start may

pub whole_trees_end : WholeTreesEnd
whole_trees_end G A no_end no_empty trees exact fine v =
    tree_ends G A no_end no_empty trees exact fine v 0 [] tok.End [] (tok.End ∷ []) refl refl (start_place G A no_end no_empty trees exact fine v)
    (λ s h i. accepted G A no_end no_empty trees exact fine (root v) s h)

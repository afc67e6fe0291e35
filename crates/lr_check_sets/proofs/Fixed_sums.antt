-- Each sum's own tree, by the sets with reductions of whole lists alone.
use Rattle.std.proofs.Common.{◌≡◌, ◌⊎◌, ℕ, suc, ◌+◌, ◌-◌, ◌≤◌, ◌<◌, List, [], ◌∷◌, ◌++◌, Some, Bool, false, Contains, length, map, take, drop, refl, ap, ap₂, sym, ◌∙◌, inl}
use Rattle.std.proofs.Common.{inr, ⊎_elim, subst, arith, append_assoc, length-append, drop_at, length-drop, length-take, take-append-drop, suc-add, zero-add}
use Rattle.std.proofs.lemmas.Bool.{cases_lt, cases_eq}
use Rattle.std.proofs.lemmas.List.{take-append-le, nil_from_length}
use Rattle.std.proofs.lemmas.Option.{slice_get-get_or, none-some}
use Rattle.tree_core.specs.declared.token.Tok.{Tok}
use Rattle.tree_core.specs.declared.token.Sort.{Sort}
use Rattle.md_reader.specs.declared.types.Sym.{Sym}
use Rattle.md_reader.specs.declared.types.Sym.TheVariants as grammar_symbol
use Rattle.tree_core.specs.Grammar.{kids}
use Rattle.lr_check.specs.Tree.{Token}
use Rattle.lr_check.specs.Parse.{Part, symbols}
use Rattle.lr_check_sets.specs.Trees.{May, Begins, Tree, Trees, node, no_trees, more_trees, first}
use Rattle.lr_check_sets.specs.Automaton.{Automaton, Production, Candidate, reduce, walk, size_of, Free, reduced, IsTable}
use Rattle.lr_check_sets.specs.Items.{AreCandidates, the_shift, the_reductions, IsLongestFirst, IsAutomatonOf, HasNoEnd, HasNoEmpty}
use Rattle.lr_check_sets.specs.Answers.{next_token, leaves_all, pick, held_reduced, Step, reduces, Runs, then_step}
use Rattle.lr_check_sets.specs.Shapes.{wanted, IsTree, HasTrees}
use Rattle.lr_check_sets.specs.Sums.{Partly, Settling, Sum, opened, with_kid, whole, settled, sum}
use Rattle.lr_check_sets.proofs.Walks.{walk-append}
use Rattle.lr_check_sets.proofs.Tables.{table_of_items, free-reductions, reduce_same}
use Rattle.lr_check_sets.proofs.Reached.{MetPlace, met_part, hold, symbols-hold, length-hold, owner-hold, symbols-append, next-leaves, shift_runs, runs-append}
use Rattle.lr_check_sets.proofs.Shapes.{PartShape, OnTop, part_shape, settling_tree, top_of_free, tree_some}
use Rattle.lr_check_sets.proofs.Whole_sets.{part_back, settling_back}
use Rattle.lr_check_sets.proofs.Fixed.{push_at, pushes, symbols-pushes, pushes-append, push_at-root, push_at-below, hold-append, GoesDown, DeepIn, deep-append, one_still, Asked, asked_of}

pub take_past : (s a : List Sym) (n : ℕ) → take (length s + n) (s ++ a) ≡ s ++ take n a
take_past [] a n = ap (λ m. take m a) (zero-add n)
take_past (X ∷ s) a n = ap (λ m. take m (X ∷ (s ++ a))) (suc-add (length s) n) ∙ ap (λ l. X ∷ l) (take_past s a n)

-- which of a kid's questions its parent's root answers, and which go further down
record Splits (A : Automaton) (q : ℕ) (s : List Sym) (ds : List ℕ) : Type 0 where
  root : List Bool
  depths : List ℕ
  deep : (a : List Sym) → walk A 0 a ≡ Some q → DeepIn a depths
  is : (b : List Bool) (z : List Part) → pushes ds (hold s b ++ z) ≡ hold s (root ++ b) ++ pushes depths z

module _ (A : Automaton) (q : ℕ) (s : List Sym) (l : ℕ) (shape : PartShape s (suc l)) (some : 0 < length s) (a0 : List Sym) (at0 : walk A 0 a0 ≡ Some q) where
  split_depths : (ds : List ℕ) → ((a : List Sym) → walk A 0 a ≡ Some q → DeepIn (s ++ a) ds) → Splits A q s ds
  split_depths [] on = record { root = []; depths = []; deep = λ a at. tt; is = λ b z. refl }
  split_depths (d ∷ ds) on = by (split_depths ds (λ a at. (on a at).1)) (cases_lt (d + 1) (length s))
    where
      top : take (d + 1) s ++ drop (d + 1) s ≡ s
      top = take-append-drop (d + 1) s

      by : Splits A q s ds → ((d + 1) < length s) ⊎ (length s ≤ d + 1) → Splits A q s (d ∷ ds)
      by k (inl lt) =
          let h : wanted 1 (take (d + 1) s) ≡ Some 1 = ap (wanted 1) (sym (take-append-le (d + 1) s a0 (omega arith))) ∙ (on a0 at0).0.1 in
          absurd (shape.tops (take (d + 1) s) (drop (d + 1) s) 0 (sym top) (omega (arith, length-take (d + 1) s)) (omega (arith, length-drop (d + 1) s)) h)
      by k (inr ge) = ⊎_elim at_root lower (cases_eq (length s) (suc d))
        where
          at_root : length s ≡ suc d → Splits A q s (d ∷ ds)
          at_root e = record {
            root = false ∷ k.root;
            depths = k.depths;
            deep = k.deep;
            is = λ b z. ap (push_at d) (k.is b z) ∙ push_at-root s d (k.root ++ b) (pushes k.depths z) e;
          }

          lower : (length s ≡ suc d → ⊥) → Splits A q s (d ∷ ds)
          lower u =
              let e : ℕ = d - length s in
              let size : d ≡ length s + e = omega (arith, u) in
              record {
                root = k.root;
                depths = e ∷ k.depths;
                deep = λ a at.
                    let g : (d < length (s ++ a)) × (wanted 1 (take (d + 1) (s ++ a)) ≡ Some 1) = (on a at).0 in
                    let same : d + 1 ≡ length s + (e + 1) = omega arith in
                    let cut_there : take (d + 1) (s ++ a) ≡ s ++ take (e + 1) a = ap (λ n. take n (s ++ a)) same ∙ take_past s a (e + 1) in
                    ((omega (arith, length-append s a), one_still s (take (e + 1) a) l shape.still some (ap (wanted 1) (sym cut_there) ∙ g.1)), k.deep a at);
                is = λ b z. ap (push_at d) (k.is b z) ∙ push_at-below s d e (k.root ++ b) (pushes k.depths z) size;
              }

-- a subtree with kids to come, with fixed answers but those that are asked later
record FixedPart (A : Automaton) (q : ℕ) (k t : Tok) (s : List Sym) (xs : List Sort) (n : Tok) : Type 0 where
  all_kids : Trees xs → Trees (kids k)
  answers : List Bool
  depths : List ℕ
  deep : (a : List Sym) → walk A 0 a ≡ Some q → DeepIn a depths
  runs : (b : List Bool) (a : List Sym) (z : List Part) (vs : Trees xs) (w : List Token) → walk A 0 a ≡ Some q → symbols z ≡ a → first vs t ≡ n → next_token w ≡ Some t →
      Runs A (pushes depths z) (record { tok = k; answers = answers ++ b } ∷ leaves_all (all_kids vs) w) (hold s b ++ z) (leaves_all vs w)

pub record FixedTree (A : Automaton) (q : ℕ) (k t : Tok) (s : List Sym) : Type 0 where
  pub its_kids : Trees (kids k)
  pub answers : List Bool
  pub depths : List ℕ
  pub deep : (a : List Sym) → walk A 0 a ≡ Some q → DeepIn a depths
  pub runs : (b : List Bool) (a : List Sym) (z : List Part) (w : List Token) → walk A 0 a ≡ Some q → symbols z ≡ a → next_token w ≡ Some t →
      Runs A (pushes depths z) (record { tok = k; answers = answers ++ b } ∷ leaves_all its_kids w) (hold s b ++ z) w

-- the candidates of a table go down
pub down : (rs : List Production) → IsLongestFirst rs → GoesDown (map reduce rs)
down [] h = tt
down (x ∷ rs) h = (shorter, down rs (λ i j r s lt e f. h (suc i) (suc j) r s (omega arith) e f))
  where
    shorter : (y : Production) → Free (map reduce rs) (reduce y) → size_of y ≤ size_of x
    shorter y f =
        let g : (r : Production) × ((reduce y ≡ reduce r) × Contains rs r) = free-reductions rs (reduce y) f in
        at g.0 (reduce_same y g.0 g.1.0) g.1.1
      where
        at : (r : Production) → y ≡ r → Contains rs r → size_of y ≤ size_of x
        at r e c =
            let u : size_of x < size_of r → ⊥ = h 0 (suc c.0) x r (omega arith) refl (slice_get-get_or rs c.0 r c.1 ∙ ap Some c.2) in
            ⊎_elim (λ lt. absurd (u lt)) (λ le. omega (arith, ap size_of e)) (cases_lt (size_of x) (size_of r))

pub goes_down : {G : List Production} {stmt : ℕ} {a : List Sym} {t : Tok} {cs : List Candidate} → AreCandidates G stmt a t cs → GoesDown cs
goes_down (the_shift r i) = tt
goes_down (the_reductions rs none are e) = subst GoesDown (sym e) (down rs are.ordered)

module _ (G : List Production) (A : Automaton) (no_end : HasNoEnd G) (no_empty : HasNoEmpty G) (trees : HasTrees G) (exact : IsAutomatonOf G A) where
  table : IsTable A
  table = table_of_items G A no_end no_empty exact

  fixed_opened : (q : ℕ) (k t : Tok) (p : ℕ) (n : Tok) → A.go q (grammar_symbol.Tok k) ≡ Some p → FixedPart A q k t (grammar_symbol.Tok k ∷ []) (kids k) n
  fixed_opened q k t p n go = record {
    all_kids = λ vs. vs;
    answers = [];
    depths = [];
    deep = λ a at. tt;
    runs = λ b a z vs w at e f g. shift_runs (record { symbol = grammar_symbol.Tok k; answers = b }) z (leaves_all vs w) at (table.shift_alone a q k p at go) refl e;
  }

  fixed_kid : (q : ℕ) (k t : Tok) (s : List Sym) (x : Sort) (xs : List Sort) (n : Tok) (p : ℕ) (m : Tok) (s' : List Sym) → May n x → walk A q s ≡ Some p → PartShape s (suc (length xs)) →
      0 < length s → (a0 : List Sym) → walk A 0 a0 ≡ Some q → FixedPart A q k t s (x ∷ xs) n → FixedTree A p n m s' → FixedPart A q k t (s' ++ s) xs m
  fixed_kid q k t s x xs n p m s' may ws shape some a0 at0 part kid =
      let sp : Splits A q s kid.depths = split_depths A q s (length xs) shape some a0 at0 kid.depths (λ a at. kid.deep (s ++ a) (walk-append A 0 q s a at ∙ ws)) in
      record {
        all_kids = λ vs. part.all_kids (more_trees (node n may (kid.answers ++ []) kid.its_kids) vs);
        answers = part.answers ++ sp.root;
        depths = part.depths ++ sp.depths;
        deep = λ a at. deep-append a part.depths sp.depths (part.deep a at) (sp.deep a at);
        runs = λ b a z vs w at e f g.
            let kid_tree : Tree x = node n may (kid.answers ++ []) kid.its_kids in
            let first_runs : Runs A (pushes part.depths (pushes sp.depths z))
            (record { tok = k; answers = part.answers ++ (sp.root ++ b) } ∷ leaves_all (part.all_kids (more_trees kid_tree vs)) w) (hold s (sp.root ++ b) ++ pushes sp.depths z)
            (leaves_all (more_trees kid_tree vs) w) =
            part.runs (sp.root ++ b) a (pushes sp.depths z) (more_trees kid_tree vs) w at (symbols-pushes sp.depths z ∙ e) refl g in
            let then_runs : Runs A (pushes kid.depths (hold s b ++ z)) (leaves_all (more_trees kid_tree vs) w) (hold s' [] ++ (hold s b ++ z)) (leaves_all vs w) =
            kid.runs [] (s ++ a) (hold s b ++ z) (leaves_all vs w) (walk-append A 0 q s a at ∙ ws) (symbols-append (hold s b) z ∙ ap₂ (λ u v. u ++ v) (symbols-hold s b) e)
            (next-leaves vs w t g ∙ ap Some f) in
            let all : Runs A (pushes part.depths (pushes sp.depths z)) (record { tok = k; answers = part.answers ++ (sp.root ++ b) } ∷ leaves_all (part.all_kids (more_trees kid_tree vs)) w)
            (hold s' [] ++ (hold s b ++ z)) (leaves_all vs w) =
            runs-append first_runs (subst (λ y. Runs A y (leaves_all (more_trees kid_tree vs) w) (hold s' [] ++ (hold s b ++ z)) (leaves_all vs w)) (sp.is b z) then_runs) in
            glue k (part.all_kids (more_trees kid_tree vs)) w (leaves_all vs w) (sym (pushes-append part.depths sp.depths z)) (sym (append_assoc part.answers sp.root b))
            (sym (append_assoc (hold s' []) (hold s b) z) ∙ ap (λ l. l ++ z) (sym (hold-append s' s b some))) all;
      }
    where
      glue : (k : Tok) (vs : Trees (kids k)) (w v : List Token) {x x' : List Part} {c c' : List Bool} {y y' : List Part} → x ≡ x' → c ≡ c' → y ≡ y' →
          Runs A x (record { tok = k; answers = c } ∷ leaves_all vs w) y v → Runs A x' (record { tok = k; answers = c' } ∷ leaves_all vs w) y' v
      glue k vs w v {x = x} {x' = x'} {c = c} {c' = c'} {y = y} {y' = y'} e f g r =
          subst (λ u. Runs A u (record { tok = k; answers = c' } ∷ leaves_all vs w) y' v) e
          (subst (λ u. Runs A x (record { tok = k; answers = u } ∷ leaves_all vs w) y' v) f
          (subst (λ u. Runs A x (record { tok = k; answers = c } ∷ leaves_all vs w) u v) g r))

  fixed_settled : (q : ℕ) (k t : Tok) (s : List Sym) (p : ℕ) (r : Production) → IsTree s → walk A q s ≡ Some p → size_of r ≡ length s → Asked A q s (A.candidates p t) r → FixedTree A q k t s →
      FixedTree A q k t (reduced r s)
  fixed_settled q k t s p r tree ws size asked set = record {
    its_kids = set.its_kids;
    answers = set.answers ++ asked.root;
    depths = set.depths ++ asked.depths;
    deep = λ a at. deep-append a set.depths asked.depths (set.deep a at) (asked.deep a at);
    runs = λ b a z w at e g.
        let before : Runs A (pushes set.depths (pushes asked.depths z)) (record { tok = k; answers = set.answers ++ (asked.root ++ b) } ∷ leaves_all set.its_kids w)
        (hold s (asked.root ++ b) ++ pushes asked.depths z) w =
        set.runs (asked.root ++ b) a (pushes asked.depths z) w at (symbols-pushes asked.depths z ∙ e) g in
        let there : walk A 0 (symbols (hold s (asked.root ++ b) ++ pushes asked.depths z)) ≡ Some p =
        ap (walk A 0) (symbols-append (hold s (asked.root ++ b)) (pushes asked.depths z) ∙ ap₂ (λ u v. u ++ v) (symbols-hold s (asked.root ++ b)) (symbols-pushes asked.depths z ∙ e)) ∙
        (walk-append A 0 q s a at ∙ ws) in
        let last : Step A (hold s (asked.root ++ b) ++ pushes asked.depths z) w (hold (reduced r s) b ++ z) w =
        subst (λ y. Step A (hold s (asked.root ++ b) ++ pushes asked.depths z) w y w) (result b z)
        (one_step (hold s (asked.root ++ b) ++ pushes asked.depths z) (hold s b ++ z) w g there (asked.picks b z)) in
        subst (λ x. Runs A x (record { tok = k; answers = (set.answers ++ asked.root) ++ b } ∷ leaves_all set.its_kids w) (hold (reduced r s) b ++ z) w)
        (sym (pushes-append set.depths asked.depths z))
        (subst (λ c. Runs A (pushes set.depths (pushes asked.depths z)) (record { tok = k; answers = c } ∷ leaves_all set.its_kids w) (hold (reduced r s) b ++ z) w)
        (sym (append_assoc set.answers asked.root b)) (then_step before last));
  }
    where
      one_step : (u y : List Part) (w : List Token) → next_token w ≡ Some t → walk A 0 (symbols u) ≡ Some p → pick (A.candidates p t) u ≡ record { taken = Some (reduce r); stack = y } →
          Step A u w (held_reduced r y) w
      one_step u y [] g at pk = absurd (none-some t g)
      one_step u y (d ∷ w) g at pk =
          let same : d.tok ≡ t = cc in
          reduces at (subst (λ m. pick (A.candidates p m) u ≡ record { taken = Some (reduce r); stack = y }) (sym same) pk)

      result : (b : List Bool) (z : List Part) → held_reduced r (hold s b ++ z) ≡ hold (reduced r s) b ++ z
      result b z =
          let none : drop (size_of r) s ≡ [] = nil_from_length (drop (size_of r) s) (omega (arith, length-drop (size_of r) s)) in
          ap₂ (λ u v. record { symbol = grammar_symbol.Class r.left; answers = u } ∷ v) (owner-hold r.right s b z size (omega (arith, tree_some s tree)))
          (drop_at (hold s b) z (size_of r) (length-hold s b ∙ sym size))
          ∙ sym (ap (λ l. hold (grammar_symbol.Class r.left ∷ l) b ++ z) none)

  asks_here : (q : ℕ) (t : Tok) (s a0 : List Sym) (p : ℕ) (r : Production) → walk A 0 a0 ≡ Some q → IsTree s → walk A q s ≡ Some p → size_of r ≡ length s → Free (A.candidates p t) (reduce r) →
      Asked A q s (A.candidates p t) r
  asks_here q t s a0 p r at0 tree ws size f =
      asked_of A q s tree r size (A.candidates p t)
      (λ x g a at. let o : OnTop G A no_end no_empty trees exact x (s ++ a) = top_of_free G A no_end no_empty trees exact (s ++ a) p t x (walk-append A 0 q s a at ∙ ws) g in
      (o.top, o.below, (o.there, o.size, o.tree)))
      (goes_down (exact.candidates (s ++ a0) p t (walk-append A 0 q s a0 at0 ∙ ws))) f

  part_some : {q : ℕ} {k t : Tok} {s : List Sym} {xs : List Sort} {n : Tok} → Partly A q k t s xs n → 0 < length s
  part_some (opened place go bg) = omega arith
  part_some (with_kid {s = s} {s' = s'} part ws bg kid) = omega (arith, length-append s' s, part_some part)

  w_begins : {q : ℕ} {k t : Tok} {s : List Sym} {xs : List Sort} {n : Tok} → Partly A q k t s xs n → Begins xs t n
  w_begins (opened place go bg) = bg
  w_begins (with_kid part ws bg kid) = bg

  part_place : {q : ℕ} {k t : Tok} {s : List Sym} {xs : List Sort} {n : Tok} → Partly A q k t s xs n → MetPlace A q k t
  part_place part = (met_part A table (part_back part)).0

  settling_place : {q : ℕ} {k t : Tok} {s : List Sym} → Settling A q k t s → MetPlace A q k t
  settling_place (whole part) = part_place part
  settling_place (settled r set ws f e) = settling_place set

  mutual
    fixed_part : {q : ℕ} {k t : Tok} {s : List Sym} {xs : List Sort} {n : Tok} → Partly A q k t s xs n → FixedPart A q k t s xs n
    fixed_part (opened {q = q} {k = k} {t = t} {p = p} {n = n} place go bg) = fixed_opened q k t p n go
    fixed_part (with_kid {q = q} {k = k} {t = t} {s = s} {x = x} {xs = xs} {n = n} {p = p} {m = m} {s' = s'} part ws bg kid) =
        let place : MetPlace A q k t = part_place part in
        fixed_kid q k t s x xs n p m s' (w_begins part) ws (part_shape G A no_end no_empty trees exact (part_back part)) (part_some part) place.below place.at (fixed_part part) (fixed_sum kid)

    fixed_settling : {q : ℕ} {k t : Tok} {s : List Sym} → Settling A q k t s → FixedTree A q k t s
    fixed_settling (whole {q = q} {k = k} {t = t} {s = s} part) = all_in q k t s (fixed_part part)
      where
        all_in : (q : ℕ) (k t : Tok) (s : List Sym) → FixedPart A q k t s [] t → FixedTree A q k t s
        all_in q k t s f = record {
          its_kids = f.all_kids no_trees;
          answers = f.answers;
          depths = f.depths;
          deep = f.deep;
          runs = λ b a z w at e g. f.runs b a z no_trees w at e refl g;
        }
    fixed_settling (settled {q = q} {k = k} {t = t} {s = s} {p = p} r set ws f e) =
        let place : MetPlace A q k t = settling_place set in
        let tree : IsTree s = settling_tree G A no_end no_empty trees exact (settling_back set) in
        fixed_settled q k t s p r tree ws e (asks_here q t s place.below p r place.at tree ws e f) (fixed_settling set)

    pub fixed_sum : {q : ℕ} {k t : Tok} {s : List Sym} → Sum A q k t s → FixedTree A q k t s
    fixed_sum (sum c set ws f o) = fixed_settling set

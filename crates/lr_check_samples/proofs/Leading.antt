-- A tree with fixed answers that leads from each stack to a list on top of it, and how such trees are made.
use Rattle.std.proofs.Common.{◌≡◌, ℕ, suc, ◌<◌, List, [], ◌∷◌, ◌++◌, Some, Bool, length, refl, ap, ap₂, sym, ◌∙◌, subst, arith, append_assoc, append-nil, drop_at}
use Rattle.std.proofs.lemmas.Option.{none-some}
use Rattle.tree_core.specs.declared.token.Tok.{Tok}
use Rattle.md_reader.specs.declared.types.Sym.{Sym}
use Rattle.md_reader.specs.declared.types.Sym.TheVariants as grammar_symbol
use Rattle.lr_check.specs.Tree.{Token}
use Rattle.lr_check.specs.Parse.{Part, symbols}
use Rattle.lr_check_sets.specs.Automaton.{Automaton, Production, reduce, walk, size_of, IsTable}
use Rattle.lr_check_sets.specs.Answers.{next_token, pick, held_reduced, Step, reduces, Runs, then_step}
use Rattle.lr_check_sets.specs.Shapes.{IsTree}
use Rattle.lr_check_sets.proofs.Walks.{walk-append}
use Rattle.lr_check_sets.proofs.Reached.{hold, symbols-hold, length-hold, owner-hold, symbols-append, shift_runs, runs-append}
use Rattle.lr_check_sets.proofs.Shapes.{PartShape, tree_some}
use Rattle.lr_check_sets.proofs.Fixed.{pushes, symbols-pushes, pushes-append, hold-append, DeepIn, deep-append}
use Rattle.lr_check_samples.specs.Answering.{root_no, further}
use Rattle.lr_check_samples.proofs.Splitting.{AreFar, are_far, split_is, split_deep}
use Rattle.lr_check_samples.proofs.Asking.{Taking}

-- A node k with its own answers, and the leaves of kids' trees: from each stack of the state q that has a no at each of the depths, before the token n,
-- their parse leads to the list s, with what is left of the answers.
pub record Leads (A : Automaton) (q : ℕ) (k n : Tok) (s : List Sym) (ws : List Token) (own : List Bool) (ds : List ℕ) : Type 0 where
  pub deep : (a : List Sym) → walk A 0 a ≡ Some q → DeepIn a ds
  pub runs : (b : List Bool) (a : List Sym) (z : List Part) (w : List Token) → walk A 0 a ≡ Some q → symbols z ≡ a → next_token w ≡ Some n →
      Runs A (pushes ds z) (record { tok = k; answers = own ++ b } ∷ (ws ++ w)) (hold s b ++ z) w

-- a leaf with its answers
abbrev pub leaf_with : Tok → List Bool → Token
leaf_with k own = record { tok = k; answers = own }

one_step : (A : Automaton) (p : ℕ) (t : Tok) (r : Production) (u y : List Part) (w : List Token) → next_token w ≡ Some t → walk A 0 (symbols u) ≡ Some p →
    pick (A.candidates p t) u ≡ record { taken = Some (reduce r); stack = y } → Step A u w (held_reduced r y) w
one_step A p t r u y [] g at pk = absurd (none-some t g)
one_step A p t r u y (d ∷ w) g at pk =
    let same : d.tok ≡ t = cc in
    reduces at (subst (λ m. pick (A.candidates p m) u ≡ record { taken = Some (reduce r); stack = y }) (sym same) pk)

runs_as : {A : Automaton} {x x' y y' : List Part} {w w' v : List Token} → x ≡ x' → w ≡ w' → y ≡ y' → Runs A x w y v → Runs A x' w' y' v
runs_as {A = A} {x = x} {x' = x'} {y = y} {y' = y'} {w = w} {w' = w'} {v = v} e f g r =
    subst (λ u. Runs A u w' y' v) e (subst (λ u. Runs A x u y' v) f (subst (λ u. Runs A x w u v) g r))

module _ (A : Automaton) where
  -- the token alone
  pub opened : (table : IsTable A) (q p : ℕ) (k n : Tok) → A.go q (grammar_symbol.Tok k) ≡ Some p → Leads A q k n (grammar_symbol.Tok k ∷ []) [] [] []
  opened table q p k n go = record {
    deep = λ a at. tt;
    runs = λ b a z w at e g. shift_runs (record { symbol = grammar_symbol.Tok k; answers = b }) z w at (table.shift_alone a q k p at go) refl e;
  }

  -- a kid more
  pub with_kid : (q p : ℕ) (k m t : Tok) (s s' : List Sym) (ws ws' : List Token) (own own' : List Bool) (ds ds' : List ℕ) (l : ℕ) (a0 : List Sym) → walk A 0 a0 ≡ Some q →
      walk A q s ≡ Some p → PartShape s (suc l) → 0 < length s → Leads A q k m s ws own ds → Leads A p m t s' ws' own' ds' →
      Leads A q k t (s' ++ s) (ws ++ leaf_with m own' ∷ ws') (own ++ root_no (length s) ds') (ds ++ further (length s) ds')
  with_kid q p k m t s s' ws ws' own own' ds ds' l a0 at0 walks shape some part kid = record {
    deep = λ a at. deep-append a ds (further (length s) ds') (part.deep a at) (split_deep s a l shape some ds' far (kid.deep (s ++ a) (there a at)));
    runs = λ b a z w at e g.
        let no : List Bool = root_no (length s) ds' in
        let fs : List ℕ = further (length s) ds' in
        let first : Runs A (pushes ds (pushes fs z)) (leaf_with k (own ++ (no ++ b)) ∷ (ws ++ (leaf_with m own' ∷ (ws' ++ w)))) (hold s (no ++ b) ++ pushes fs z) (leaf_with m own' ∷ (ws' ++ w)) =
        part.runs (no ++ b) a (pushes fs z) (leaf_with m own' ∷ (ws' ++ w)) at (symbols-pushes fs z ∙ e) refl in
        let second : Runs A (pushes ds' (hold s b ++ z)) (leaf_with m (own' ++ []) ∷ (ws' ++ w)) (hold s' [] ++ (hold s b ++ z)) w =
        kid.runs [] (s ++ a) (hold s b ++ z) w (there a at) (symbols-append (hold s b) z ∙ ap₂ (λ u v. u ++ v) (symbols-hold s b) e) g in
        let all : Runs A (pushes ds (pushes fs z)) (leaf_with k (own ++ (no ++ b)) ∷ (ws ++ (leaf_with m own' ∷ (ws' ++ w)))) (hold s' [] ++ (hold s b ++ z)) w =
        runs-append first (runs_as (split_is s ds' b z far) (ap (λ l. leaf_with m l ∷ (ws' ++ w)) (append-nil own')) refl second) in
        runs_as (sym (pushes-append ds fs z))
        (ap₂ (λ c u. leaf_with k c ∷ u) (sym (append_assoc own no b)) (sym (append_assoc ws (leaf_with m own' ∷ ws') w)))
        (sym (append_assoc (hold s' []) (hold s b) z) ∙ ap (λ l. l ++ z) (sym (hold-append s' s b some))) all;
  }
    where
      there : (a : List Sym) → walk A 0 a ≡ Some q → walk A 0 (s ++ a) ≡ Some p
      there a at = walk-append A 0 q s a at ∙ walks

      far : AreFar (length s) ds'
      far = are_far s a0 l shape ds' (kid.deep (s ++ a0) (there a0 at0))

  result : (s : List Sym) (r : Production) (b : List Bool) (z : List Part) → IsTree s → size_of r ≡ length s → held_reduced r (hold s b ++ z) ≡ hold (grammar_symbol.Class r.left ∷ []) b ++ z
  result s r b z tree size =
      ap₂ (λ u v. record { symbol = grammar_symbol.Class r.left; answers = u } ∷ v) (owner-hold r.right s b z size (omega (arith, size, tree_some s tree)))
      (drop_at (hold s b) z (size_of r) (length-hold s b ∙ sym size))

  -- one reduction of the whole list
  pub reduced_step : (q p : ℕ) (t : Tok) (s : List Sym) (c : ℕ) (own : List Bool) (ds : List ℕ) → IsTree s → walk A q s ≡ Some p → Taking A q s (A.candidates p t) own ds c →
      (b : List Bool) (a : List Sym) (z : List Part) (w : List Token) → walk A 0 a ≡ Some q → symbols z ≡ a → next_token w ≡ Some t →
      Step A (hold s (own ++ b) ++ pushes ds z) w (hold (grammar_symbol.Class c ∷ []) b ++ z) w
  reduced_step q p t s c own ds tree walks k b a z w at e g =
      let there : walk A 0 (symbols (hold s (own ++ b) ++ pushes ds z)) ≡ Some p =
      ap (walk A 0) (symbols-append (hold s (own ++ b)) (pushes ds z) ∙ ap₂ (λ u v. u ++ v) (symbols-hold s (own ++ b)) (symbols-pushes ds z ∙ e)) ∙
      (walk-append A 0 q s a at ∙ walks) in
      subst (λ y. Step A (hold s (own ++ b) ++ pushes ds z) w y w)
      (result s k.rule b z tree k.size ∙ ap (λ x. hold (grammar_symbol.Class x ∷ []) b ++ z) k.left)
      (one_step A p t k.rule (hold s (own ++ b) ++ pushes ds z) (hold s b ++ z) w g there (k.picks b z))

  pub reduced_whole : (q p : ℕ) (k t : Tok) (s : List Sym) (c : ℕ) (ws : List Token) (own own' : List Bool) (ds ds' : List ℕ) → IsTree s → walk A q s ≡ Some p →
      Taking A q s (A.candidates p t) own' ds' c → Leads A q k t s ws own ds → Leads A q k t (grammar_symbol.Class c ∷ []) ws (own ++ own') (ds ++ ds')
  reduced_whole q p k t s c ws own own' ds ds' tree walks take set = record {
    deep = λ a at. deep-append a ds ds' (set.deep a at) (take.deep a at);
    runs = λ b a z w at e g.
        let before : Runs A (pushes ds (pushes ds' z)) (leaf_with k (own ++ (own' ++ b)) ∷ (ws ++ w)) (hold s (own' ++ b) ++ pushes ds' z) w =
        set.runs (own' ++ b) a (pushes ds' z) w at (symbols-pushes ds' z ∙ e) g in
        runs_as (sym (pushes-append ds ds' z)) (ap (λ c. leaf_with k c ∷ (ws ++ w)) (sym (append_assoc own own' b))) refl
        (then_step before (reduced_step q p t s c own' ds' tree walks take b a z w at e g));
  }

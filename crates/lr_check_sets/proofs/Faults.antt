-- Each fault of the sets gives a tree whose parse blocks or loops.
use Rattle.std.proofs.Common.{◌≡◌, ℕ, ◌≤◌, List, [], ◌∷◌, ◌++◌, Some, None, refl, ap, sym, ◌∙◌, subst, arith, length}
use Rattle.std.proofs.lemmas.Option.{none-some}
use Rattle.tree_core.specs.declared.token.Tok.{Tok}
use Rattle.tree_core.specs.declared.token.Sort.TheVariants as sort
use Rattle.md_reader.specs.declared.types.Sym.{Sym}
use Rattle.tree_core.specs.Grammar.{kids}
use Rattle.lr_check.specs.Tree.{Token}
use Rattle.lr_check.specs.Parse.{Part, symbols}
use Rattle.lr_check_sets.specs.Trees.{Tree}
use Rattle.lr_check_sets.specs.Automaton.{Automaton, walk, CanBlock, IsTable, size_of}
use Rattle.lr_check_sets.specs.Loose.{LoosePlace, LooseSettling}
use Rattle.lr_check_sets.specs.Answers.{next_token, leaves_all, pick, IsBlocked, blocked, Blocks, Reductions, one_reduction, more_reductions, Loops}
use Rattle.lr_check_sets.specs.Faults.{Circles, one, more}
use Rattle.lr_check_sets.proofs.Walks.{walk-append}
use Rattle.lr_check_sets.proofs.Asks.{Source, block_source}
use Rattle.lr_check_sets.proofs.Reached.{MetPlace, MetTree, TreeRuns, PlaceRuns, Back, met_place, met_settling, reduce_back, runs-append, some_trees}

-- symbols without answers
bare : List Sym → List Part
bare [] = []
bare (X ∷ s) = record { symbol = X; answers = [] } ∷ bare s

symbols-bare : (s : List Sym) → symbols (bare s) ≡ s
unfolding bare
symbols-bare [] = refl
symbols-bare (X ∷ s) = ap (λ l. X ∷ l) (symbols-bare s)

pub is_blocked : (A : Automaton) (p : ℕ) (t : Tok) (a b : List Part) (w : List Token) → next_token w ≡ Some t → walk A 0 (symbols a) ≡ Some p →
    pick (A.candidates p t) a ≡ record { taken = None; stack = b } → IsBlocked A a w
is_blocked A p t a b [] g at pk = absurd (none-some t g)
is_blocked A p t a b (d ∷ w) g at pk =
    let same : d.tok ≡ t = cc in
    blocked at (subst (λ m. pick (A.candidates p m) a ≡ record { taken = None; stack = b }) (sym same) pk)

module _ (A : Automaton) (table : IsTable A) where
  pub place_blocks : (q : ℕ) (k t : Tok) → LoosePlace A q k t → CanBlock (A.candidates q k) → (v : Tree sort.Stmt) × Blocks A v
  place_blocks q k t place can =
      let met : MetPlace A q k t = met_place A table place in
      let src : Source (A.candidates q k) None (bare met.below) = block_source (A.candidates q k) (bare met.below) can in
      let same : symbols src.stack ≡ met.below = src.same ∙ symbols-bare met.below in
      let pr : PlaceRuns A k t src.stack = met.reached src.stack same in (
        pr.round [] (some_trees (kids k)),
        (src.stack, (record { tok = k; answers = [] } ∷ leaves_all (some_trees (kids k)) pr.rest, (pr.runs [] (some_trees (kids k)), blocked (ap (walk A 0) same ∙ met.at) src.picks))),
      )

  pub list_blocks : (q : ℕ) (k t : Tok) (s : List Sym) (p : ℕ) → LooseSettling A q k t s → walk A q s ≡ Some p → CanBlock (A.candidates p t) → (v : Tree sort.Stmt) × Blocks A v
  list_blocks q k t s p set ws can =
      let both : MetPlace A q k t × MetTree A q k t s = met_settling A table set in
      let a : List Sym = both.0.below in
      let src : Source (A.candidates p t) None (bare (s ++ a)) = block_source (A.candidates p t) (bare (s ++ a)) can in
      let same : symbols src.stack ≡ s ++ a = src.same ∙ symbols-bare (s ++ a) in
      let tr : TreeRuns A k t src.stack a = both.1 a src.stack both.0.at same in
      let pr : PlaceRuns A k t tr.source = both.0.reached tr.source tr.same in (
        pr.round tr.answers tr.its_kids,
        (
          src.stack,
          (
            pr.rest,
            (
              runs-append (pr.runs tr.answers tr.its_kids) (tr.runs pr.rest pr.next),
              is_blocked A p t src.stack (bare (s ++ a)) pr.rest pr.next (ap (walk A 0) same ∙ (walk-append A 0 q s a both.0.at ∙ ws)) src.picks,
            ),
          ),
        ),
      )

  -- a circle from the stack behind it to the stack before it
  pub record Round (t : Tok) (y : List Part) (a : List Sym) : Type 0 where
    pub source : List Part
    pub same : symbols source ≡ a
    pub goes : (w : List Token) → next_token w ≡ Some t → Reductions A w source y

  circle_back : {q : ℕ} {t : Tok} {s s' : List Sym} (a : List Sym) (y : List Part) → walk A 0 a ≡ Some q → Circles A q t s s' → symbols y ≡ s' ++ a → Round t y (s ++ a)
  circle_back {q = q} {t = t} a y at (one {s = s} {p = p} r ws f size) e =
      let le : size_of r ≤ length s = omega arith in
      let back : Back A table t y (s ++ a) = reduce_back A table t s a p r y (walk-append A 0 q s a at ∙ ws) f le e in
      record { source = back.source; same = back.same; goes = λ w g. one_reduction (back.step w g) }
  circle_back {q = q} {t = t} a y at (more {s = s} {s' = s'} {p = p} r c ws f size) e =
      let le : size_of r ≤ length s' = omega arith in
      let back : Back A table t y (s' ++ a) = reduce_back A table t s' a p r y (walk-append A 0 q s' a at ∙ ws) f le e in
      let round : Round t back.source (s ++ a) = circle_back a back.source at c back.same in
      record { source = round.source; same = round.same; goes = λ w g. more_reductions (round.goes w g) (back.step w g) }

  pub circle_loops : (q : ℕ) (k t : Tok) (s : List Sym) → LooseSettling A q k t s → Circles A q t s s → (v : Tree sort.Stmt) × Loops A v
  circle_loops q k t s set c =
      let both : MetPlace A q k t × MetTree A q k t s = met_settling A table set in
      let a : List Sym = both.0.below in
      let y : List Part = bare (s ++ a) in
      let round : Round t y (s ++ a) = circle_back a y both.0.at c (symbols-bare (s ++ a)) in
      let tr : TreeRuns A k t round.source a = both.1 a round.source both.0.at round.same in
      let pr : PlaceRuns A k t tr.source = both.0.reached tr.source tr.same in (
        pr.round tr.answers tr.its_kids,
        (round.source, y, (pr.rest, (runs-append (pr.runs tr.answers tr.its_kids) (tr.runs pr.rest pr.next), round.goes pr.rest pr.next, round.same ∙ sym (symbols-bare (s ++ a))))),
      )

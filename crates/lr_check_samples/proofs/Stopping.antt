-- The parse of each sample by the automaton stops: it blocks, or turns.
use Rattle.std.proofs.Common.{◌≡◌, ℕ, List, [], ◌∷◌, ◌++◌, Some, None, Bool, length, refl, ap, ap₂, sym, ◌∙◌, subst, append_assoc, append-nil}
use Rattle.tree_core.specs.declared.token.Tok.{Tok}
use Rattle.md_reader.specs.declared.types.Sym.{Sym}
use Rattle.lr_tables.specs.View.{TableView}
use Rattle.lr_check.specs.Tree.{Token}
use Rattle.lr_check.specs.Parse.{Part, symbols}
use Rattle.lr_check_sets.specs.Automaton.{Automaton, walk, CanBlock}
use Rattle.lr_check_sets.specs.Exact.{MeetsLaws}
use Rattle.lr_check_sets.specs.Shapes.{IsTree}
use Rattle.lr_check_sets.specs.Table.{automaton_of, productions}
use Rattle.lr_check_sets.specs.Sums as sets
use Rattle.lr_check_sets.specs.Answers.{next_token, the_end, Runs, IsBlocked, Reductions, one_reduction, more_reductions}
use Rattle.lr_check_sets.proofs.Walks.{walk-append}
use Rattle.lr_check_sets.proofs.Reached.{hold, symbols-hold, symbols-append, runs-append}
use Rattle.lr_check_sets.proofs.Shapes as gaps
use Rattle.lr_check_sets.proofs.Whole_sets.{place_back}
use Rattle.lr_check_sets.proofs.Fixed.{pushes, symbols-pushes, pushes-append}
use Rattle.lr_check_sets.proofs.Faults.{is_blocked}
use Rattle.lr_check_found.specs.Found.{FoundView}
use Rattle.lr_check_found.specs.Sound.{IsFound}
use Rattle.lr_check_samples.specs.Answering.{answers_to, depths_to}
use Rattle.lr_check_samples.specs.Quiet.{AreAlike, bare, IsQuiet}
use Rattle.lr_check_samples.specs.Fixed.{leaf}
use Rattle.lr_check_samples.specs.Samples.{BlockingSample, of_gap, of_dead, Turning, turn, turn_on, LoopingSample, of_circle}
use Rattle.lr_check_samples.proofs.Alike.{PicksSo, quiet_takes_nothing, symbols-quiet, symbols-alike, symbols-bare, RunsSo, TurnsSo, turns_so, runs_so, alike-trans}
use Rattle.lr_check_samples.proofs.Asking.{Taking}
use Rattle.lr_check_samples.proofs.Leading.{Leads, reduced_step}
use Rattle.lr_check_samples.proofs.Making.{IsSettledAt, settled_at}
use Rattle.lr_check_samples.proofs.Found_trees.{leads, is_tree, takes}
use Rattle.lr_check_samples.proofs.Round.{Reaches, reaches, Comes, comes_to_quiet, pushes-quiet}

pub record BlocksBy (A : Automaton) (w : List Token) : Type 0 where
  pub stack : List Part
  pub rest : List Token
  pub runs : Runs A [] (w ++ the_end) stack rest
  pub blocks : IsBlocked A stack rest

pub record LoopsBy (A : Automaton) (w : List Token) : Type 0 where
  pub first : List Part
  pub second : List Part
  pub rest : List Token
  pub runs : Runs A [] (w ++ the_end) first rest
  pub turns : Reductions A rest first second
  pub same : symbols first ≡ symbols second

-- a stack that answers no to all
quiet_blocks : (A : Automaton) (p : ℕ) (t : Tok) (a : List Sym) (z : List Part) (w : List Token) → IsQuiet a z → walk A 0 a ≡ Some p → next_token w ≡ Some t → CanBlock (A.candidates p t) →
    IsBlocked A z w
quiet_blocks A p t a z w quiet at next can =
    let k : PicksSo (A.candidates p t) None (bare a) z = quiet_takes_nothing (A.candidates p t) a z can quiet in
    is_blocked A p t z k.stack w next (ap (walk A 0) (symbols-quiet a z quiet) ∙ at) k.picks

whole : (before ws behind : List Token) (l : Token) → (before ++ (l ∷ (ws ++ behind))) ++ the_end ≡ before ++ (l ∷ (ws ++ (behind ++ the_end)))
whole before ws behind l = append_assoc before (l ∷ (ws ++ behind)) the_end ∙ ap (λ u. before ++ (l ∷ u)) (append_assoc ws behind the_end)

-- reductions of whole lists, one after another, by the answers to them
record Turns (A : Automaton) (q : ℕ) (t : Tok) (s s' : List Sym) (own : List Bool) (ds : List ℕ) : Type 0 where
  tree : IsTree s'
  goes : (b : List Bool) (a : List Sym) (z : List Part) (w : List Token) → walk A 0 a ≡ Some q → symbols z ≡ a → next_token w ≡ Some t →
      Reductions A w (hold s (own ++ b) ++ pushes ds z) (hold s' b ++ z)

module _ (t : TableView) (m : MeetsLaws t) where
  turns : {q : ℕ} {k b : Tok} {s s' : List Sym} {own : List Bool} {ds : List ℕ} → sets.Place (automaton_of t) q k b → IsTree s → Turning (automaton_of t) q b s s' own ds →
      Turns (automaton_of t) q b s s' own ds
  turns {q = q} {k = k} {b = b} {s = s} place tree (turn {p = p} r walks free size) =
      let own : List Bool = answers_to ((automaton_of t).candidates p b) (length s) r.left in
      let ds : List ℕ = depths_to ((automaton_of t).candidates p b) (length s) r.left in
      let take : Taking (automaton_of t) q s ((automaton_of t).candidates p b) own ds r.left = takes t m q k b s p r r.left place tree walks free size refl in
      record { tree = refl; goes = λ c a z w at e g. one_reduction (reduced_step (automaton_of t) q p b s r.left own ds tree walks take c a z w at e g) }
  turns {q = q} {k = k} {b = b} {s = s} place tree (turn_on {s' = s'} {p = p} {own = own} {ds = ds} r round walks free size) =
      let k' : Turns (automaton_of t) q b s s' own ds = turns place tree round in
      let own' : List Bool = answers_to ((automaton_of t).candidates p b) (length s') r.left in
      let ds' : List ℕ = depths_to ((automaton_of t).candidates p b) (length s') r.left in
      let take : Taking (automaton_of t) q s' ((automaton_of t).candidates p b) own' ds' r.left = takes t m q k b s' p r r.left place k'.tree walks free size refl in
      record {
        tree = refl;
        goes = λ c a z w at e g.
            let before : Reductions (automaton_of t) w (hold s (own ++ (own' ++ c)) ++ pushes ds (pushes ds' z)) (hold s' (own' ++ c) ++ pushes ds' z) =
            k'.goes (own' ++ c) a (pushes ds' z) w at (symbols-pushes ds' z ∙ e) g in
            more_reductions
            (subst (λ u. Reductions (automaton_of t) w u (hold s' (own' ++ c) ++ pushes ds' z))
            (ap₂ (λ u v. hold s u ++ v) (sym (append_assoc own own' c)) (sym (pushes-append ds ds' z))) before)
            (reduced_step (automaton_of t) q p b s' r.left own' ds' k'.tree walks take c a z w at e g);
      }

  module _ (f : FoundView) (found : IsFound (automaton_of t) f) where
    pub blocking_blocks : {w : List Token} → BlockingSample (automaton_of t) f w → BlocksBy (automaton_of t) w
    blocking_blocks (of_gap {n = n} {x = x} {before = before} {behind = behind} vs at none c typed) =
        let r : Reaches (automaton_of t) x before behind = reaches t m f found c x at in
        let w : List Token = leaf x.token [] ∷ (vs ++ (behind ++ the_end)) in
        let k : Comes (automaton_of t) [] (before ++ w) r.below w = r.comes w refl in
        let can : CanBlock ((automaton_of t).candidates x.state x.token) =
        gaps.place_blocks (productions t.content.rules) (automaton_of t) m.no_end m.no_empty m.trees m.exact (place_back (found.places n x at).is_place) none in
        record {
          stack = k.stack;
          rest = w;
          runs = subst (λ u. Runs (automaton_of t) [] u k.stack w) (sym (whole before vs behind (leaf x.token []))) k.runs;
          blocks = quiet_blocks (automaton_of t) x.state x.token r.below k.stack w k.quiet r.at refl can;
        }
    blocking_blocks (of_dead {p = p} {x = x} {s = s} {before = before} {behind = behind} {ws = ws} {own = own} {ds = ds} at can c fixed) =
        let r : Reaches (automaton_of t) x before behind = reaches t m f found c x at.place in
        let l : Leads (automaton_of t) x.state x.token x.behind s ws own ds = leads t m f found fixed x s p at in
        let h : IsSettledAt (automaton_of t) x s p = settled_at (automaton_of t) f found at in
        let u : List Token = behind ++ the_end in
        let w : List Token = leaf x.token own ∷ (ws ++ u) in
        let k : Comes (automaton_of t) [] (before ++ w) r.below w = r.comes w refl in
        let k' : Comes (automaton_of t) k.stack w (s ++ r.below) u = comes_to_quiet l r.below k.stack u k.quiet r.at r.next in
        record {
          stack = k'.stack;
          rest = u;
          runs = subst (λ v. Runs (automaton_of t) [] v k'.stack u) (sym (whole before ws behind (leaf x.token own))) (runs-append k.runs k'.runs);
          blocks = quiet_blocks (automaton_of t) p x.behind (s ++ r.below) k'.stack u k'.quiet (walk-append (automaton_of t) 0 x.state s r.below r.at ∙ h.walks) r.next can;
        }

    pub looping_loops : {w : List Token} → LoopingSample (automaton_of t) f w → LoopsBy (automaton_of t) w
    looping_loops (of_circle {p = p} {x = x} {s = s} {before = before} {behind = behind} {ws = ws} {own = own} {own' = own'} {ds = ds} {ds' = ds'} at c fixed round) =
        let r : Reaches (automaton_of t) x before behind = reaches t m f found c x at.place in
        let l : Leads (automaton_of t) x.state x.token x.behind s ws own ds = leads t m f found fixed x s p at in
        let h : IsSettledAt (automaton_of t) x s p = settled_at (automaton_of t) f found at in
        let g : Turns (automaton_of t) x.state x.behind s s own' ds' = turns h.is_place (is_tree t m h.settles) round in
        let u : List Token = behind ++ the_end in
        let w : List Token = leaf x.token (own ++ own') ∷ (ws ++ u) in
        let k : Comes (automaton_of t) [] (before ++ w) r.below w = r.comes w refl in
        let z : List Part = pushes ds' (bare r.below) in
        let z_is : symbols z ≡ r.below = symbols-pushes ds' (bare r.below) ∙ symbols-bare r.below in
        let low : AreAlike (pushes ds z) k.stack =
        alike-trans (pushes ds z) (bare r.below) k.stack (subst (λ v. AreAlike v (bare r.below)) (pushes-append ds ds' (bare r.below)) (pushes-quiet (ds ++ ds') r.below)) k.quiet in
        let k' : RunsSo (automaton_of t) k.stack w (hold s own' ++ z) u = runs_so k.stack (l.runs own' r.below z u r.at z_is r.next) low in
        let turned : Reductions (automaton_of t) u (hold s (own' ++ []) ++ z) (hold s [] ++ bare r.below) = g.goes [] r.below (bare r.below) u r.at (symbols-bare r.below) r.next in
        let k'' : TurnsSo (automaton_of t) u k'.stack (hold s [] ++ bare r.below) =
        turns_so k'.stack turned (subst (λ v. AreAlike (hold s v ++ z) k'.stack) (sym (append-nil own')) k'.alike) in
        record {
          first = k'.stack;
          second = k''.stack;
          rest = u;
          runs = subst (λ v. Runs (automaton_of t) [] v k'.stack u) (sym (whole before ws behind (leaf x.token (own ++ own')))) (runs-append k.runs k'.runs);
          turns = k''.turns;
          same = sym (symbols-alike (hold s own' ++ z) k'.stack k'.alike)
              ∙ (symbols-append (hold s own') z ∙ (ap₂ (λ a b. a ++ b) (symbols-hold s own') z_is
              ∙ (sym (ap₂ (λ a b. a ++ b) (symbols-hold s []) (symbols-bare r.below)) ∙ (sym (symbols-append (hold s []) (bare r.below))
              ∙ symbols-alike (hold s [] ++ bare r.below) k''.stack k''.alike))));
        }

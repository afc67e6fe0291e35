-- The moves of an attributed parse do what the tree does.
use Rattle.std.proofs.Common.{◌≡◌, ◌⊎◌, inl, inr, ℕ, List, [], ◌∷◌, ◌++◌, refl, sym, ap, ◌∙◌, subst, slice_get}
use Rattle.std.specs.List.{AllByRecursion}
use Rattle.tree_core.specs.declared.token.Sort.TheVariants as sort
use Rattle.tree_core.specs.declared.tree.Leaf.{Leaf}
use Rattle.tree_core.specs.declared.program.Object.{Object}
use Rattle.tree_core.specs.Grammar.{kids}
use Rattle.tree_core.specs.Attributes.{end_leaf}
use Rattle.tree_core.specs.Trees.{Forest, none, tree, leaves_onto, Typed, IsTyped, grown}
use Rattle.tree_core.specs.Calm.{CalmBefore}
use Rattle.tree_core.proofs.Law.{grows_back}
use Rattle.sel_terms_trees.specs.tree_meaning.specs.Values.{Sight, meanings}
use Rattle.md_reader.specs.State.{Content}
use Rattle.md_reader.specs.Valid.{IsValid}
use Rattle.lr_check_parse.specs.lr_tables.specs.Statements.{stmt_of}
use Rattle.lr_check_parse.specs.lr_tables.proofs.Validity.{rule_at}
use Rattle.lr_check_parse.specs.lr_check.specs.declared.sample.Outcome.{Outcome}
use Rattle.lr_check_parse.specs.lr_check.specs.declared.sample.Outcome.TheVariants as outcome
use Rattle.lr_check_parse.specs.Moves.{Move, Ending, Accepts, Blocks, Loops, Refuses}
use Rattle.lr_check_parse.specs.Attributes.{Selecting, by_attributes}
use Rattle.sel_parse_moves.specs.Made.{Made}
use Rattle.sel_parse_moves.specs.Covers.{Covers}
use Rattle.sel_parse_moves.specs.Covers as cover
use Rattle.sel_terms_trees.specs.tree_meaning.specs.Deeds.{Deed, Puts, Branches, Pushes, Returns, Calls, Saves, Jumps, Traps, Strays, deed_of, tree_deed}
use Rattle.sel_parse_moves.specs.Possible.{IsPossible}
use Rattle.sel_terms_trees.specs.tree_meaning_tame.specs.Tame.{Tame, Undivided, AllThere}
use Rattle.sel_terms_trees.specs.tree_meaning_tame.specs.Sights.{Completes}
use Rattle.sel_parse_moves.specs.Interprets.{Interprets, Ran}
use Rattle.lr_check_parse.specs.Lists.{EndsSo}
use Rattle.sel_parse_moves.specs.Claims.{root, IsParsed, IsFair, MovesMeanTree, AlwaysAccepts}
use Rattle.lr_check_parse.proofs.Sources.{parse_answered}
use Rattle.lr_check_parse.proofs.Typing.{snoc_same}
use Rattle.sel_parse_moves.proofs.Covering.{AreLeaves, covers_whole}
use Rattle.sel_parse_moves.proofs.Piles.{leaves_before}
use Rattle.sel_parse_moves.proofs.Performs.{named, statement}
use Rattle.sel_terms_trees.specs.tree_meaning_tame.specs.Claims.{IsDeed}
use Rattle.sel_terms_trees.specs.tree_meaning_tame.proofs.Strict.{deed_settled}
use Rattle.sel_terms_trees.specs.tree_meaning_tame.proofs.Calm.{trap_tame}
use Rattle.sel_terms_trees.specs.tree_meaning_tame.proofs.Sights.{tree_deed_grows}
use Rattle.sel_parse_moves.proofs.Typing.{covers_typed, typed_leaves, stmt_kind}

-- the leaves of a typed tree
pub leaves_of : (w : List Leaf) → IsTyped (root w) sort.Stmt → AreLeaves w
leaves_of w h = subst AreLeaves (snoc_same (leaves_onto h.trees []) w end_leaf (leaves_before h.trees [] (end_leaf ∷ []) ∙ h.spelled)) (typed_leaves (sort.Stmt ∷ []) h.trees [] h.typed tt)

-- the parse covers the whole tree
pub record Covered (d : Content) {X A : Type 0} (of : Selecting X A) (w : List Leaf) (x y : X) : Type 0 where
  pub leaf : Leaf
  pub below : Forest
  pub moves : List (Move Leaf)
  pub covers : Covers d.classes d.rules (stmt_of d.classes) leaf below moves
  pub made : Made of d.rules x moves y
  pub grows : grown (root w) ≡ tree leaf below (grown (end_leaf ∷ []))
  pub typed : Typed (kids leaf.tok) below
  pub spelled : leaf ∷ leaves_onto below [] ≡ w

pub covered : (d : Content) {X A : Type 0} (of : Selecting X A) (w : List Leaf) (x y : X) → IsParsed of d w x y → Covered d of w x y
covered d of w x y p =
    let h = covers_whole of d.classes d.rules (stmt_of d.classes) (λ n r e. rule_at d.classes d.rules n r p.valid.rules e) p.parse y [] [] refl (leaves_of w p.typed) cover.empty in
    let t = covers_typed d.classes d.rules h.covers.covers in
    let spelled : leaves_onto (tree h.covers.leaf h.covers.below none) (end_leaf ∷ []) ≡ root w =
    sym (leaves_before (tree h.covers.leaf h.covers.below none) [] (end_leaf ∷ [])) ∙ ap (λ (v : List Leaf). v ++ end_leaf ∷ []) h.covers.spelled in
    record {
      leaf = h.covers.leaf;
      below = h.covers.below;
      moves = p.log;
      covers = h.covers.covers;
      made = h.made;
      grows = ap grown (sym spelled) ∙ grows_back (t.sort ∷ []) (tree h.covers.leaf h.covers.below none) (end_leaf ∷ []) (t.stands, t.below, tt);
      typed = t.below;
      spelled = h.covers.spelled;
    }

traps_or : (d : Deed) → (d ≡ Traps) ⊎ ((d ≡ Strays) ⊎ IsDeed d)
traps_or (Puts g k) = inr (inr tt)
traps_or (Branches rel label v w) = inr (inr tt)
traps_or (Pushes k) = inr (inr tt)
traps_or (Returns k) = inr (inr tt)
traps_or (Calls g k) = inr (inr tt)
traps_or (Saves k) = inr (inr tt)
traps_or (Jumps k) = inr (inr tt)
traps_or Traps = inl refl
traps_or Strays = inr (inl refl)

impossible : (area : List ℕ) (d : Deed) → d ≡ Strays → IsPossible area d → ⊥
impossible area d e p = subst (IsPossible area) e p

module _ (d : Content) (objects : List Object) {X A : Type 0} (of : Selecting X A) (s t : Sight) (c : Completes s t) (I : Interprets of d.classes d.rules objects t) where
  done : (w : List Leaf) (x y : X) → IsValid d → Covered d of w x y → AllByRecursion I.Names w → I.Stands x [] [] →
      IsPossible t.area (tree_deed objects t (grown (root w))) → (tree_deed objects t (grown (root w)) ≡ Traps → IsFair objects t w) → Ran I y (tree_deed objects t (grown (root w)))
  done w x y valid h names stands possible fair =
      subst (λ (e : Deed). Ran I y e) (sym same) (by (traps_or (deed_of t h.leaf.tok h.leaf.att (slice_get (meanings objects t h.below) 0) (slice_get (meanings objects t h.below) 1))))
    where
      same : tree_deed objects t (grown (root w)) ≡ deed_of t h.leaf.tok h.leaf.att (slice_get (meanings objects t h.below) 0) (slice_get (meanings objects t h.below) 1)
      same = ap (tree_deed objects t) h.grows

      possible_here : IsPossible t.area (deed_of t h.leaf.tok h.leaf.att (slice_get (meanings objects t h.below) 0) (slice_get (meanings objects t h.below) 1))
      possible_here = subst (IsPossible t.area) same possible

      runs : Tame objects t (kids h.leaf.tok) h.below
          → ((deed_of t h.leaf.tok h.leaf.att (slice_get (meanings objects t h.below) 0) (slice_get (meanings objects t h.below) 1) ≡ Traps → ⊥) → Undivided objects t (kids h.leaf.tok) h.below) →
          Ran I y (deed_of t h.leaf.tok h.leaf.att (slice_get (meanings objects t h.below) 0) (slice_get (meanings objects t h.below) 1))
      runs tame undivided =
          statement of d.classes d.rules objects t I (λ n r e. rule_at d.classes d.rules n r valid.rules e) h.covers (stmt_kind d.classes valid.classes.apart valid.stmt) tame
          (named of d.classes d.rules objects t I (tree h.leaf h.below none) [] (subst (AllByRecursion I.Names) (sym h.spelled) names)).0 x y h.made stands possible_here undivided

      calm : (f : Forest) → grown (root w) ≡ f → CalmBefore (grown (root w)) [] → CalmBefore f []
      calm f e k = subst (λ (g : Forest). CalmBefore g []) e k

      by : (deed_of t h.leaf.tok h.leaf.att (slice_get (meanings objects t h.below) 0) (slice_get (meanings objects t h.below) 1) ≡ Traps)
          ⊎ ((deed_of t h.leaf.tok h.leaf.att (slice_get (meanings objects t h.below) 0) (slice_get (meanings objects t h.below) 1) ≡ Strays)
          ⊎ IsDeed (deed_of t h.leaf.tok h.leaf.att (slice_get (meanings objects t h.below) 0) (slice_get (meanings objects t h.below) 1))) →
          Ran I y (deed_of t h.leaf.tok h.leaf.att (slice_get (meanings objects t h.below) 0) (slice_get (meanings objects t h.below) 1))
      by (inl e) =
          let f = fair (same ∙ e) in
          let k = calm (tree h.leaf h.below (grown (end_leaf ∷ []))) h.grows f.0 in
          let there = subst (AllThere objects t) h.grows f.1 in
          runs (trap_tame objects t h.leaf h.below (leaves_onto (grown (end_leaf ∷ [])) []) h.typed there.1 k.1 e) (λ q. absurd (q e))
      by (inr (inl e)) = absurd (impossible t.area (deed_of t h.leaf.tok h.leaf.att (slice_get (meanings objects t h.below) 0) (slice_get (meanings objects t h.below) 1)) e possible_here)
      by (inr (inr e)) = (let k = deed_settled objects t h.leaf h.below e in runs k.0 (λ q. k.1))

  grown_deed : (a b : Deed) → (a ≡ Strays) ⊎ (a ≡ b) → IsPossible s.area a → a ≡ b
  grown_deed a b (inl e) p = absurd (impossible s.area a e p)
  grown_deed a b (inr e) p = e

  moves_do : (w : List Leaf) (x y : X) → IsParsed of d w x y → AllByRecursion I.Names w → I.Stands x [] [] →
      IsPossible s.area (tree_deed objects s (grown (root w))) → (tree_deed objects s (grown (root w)) ≡ Traps → IsFair objects t w) → Ran I y (tree_deed objects s (grown (root w)))
  moves_do w x y p names stands possible fair =
      let same = grown_deed (tree_deed objects s (grown (root w))) (tree_deed objects t (grown (root w))) (tree_deed_grows objects s t c (grown (root w))) possible in
      subst (λ (e : Deed). Ran I y e) (sym same)
      (done w x y p.valid (covered d of w x y p) names stands
      (subst (λ (area : List ℕ). IsPossible area (tree_deed objects t (grown (root w)))) (sym c.area) (subst (IsPossible s.area) same possible))
      (λ e. fair (same ∙ e)))

pub moves_mean_tree : (d : Content) (objects : List Object) {X A : Type 0} (of : Selecting X A) → MovesMeanTree d objects of
moves_mean_tree d objects of s t c I w x y p names stands possible fair = moves_do d objects of s t c I w x y p names stands possible fair

-- a checked description's parse accepts, or is refused: it neither blocks nor loops
pub parse_accepts : {X A : Type 0} (of : Selecting X A) (d : Content) → AlwaysAccepts of d
parse_accepts of d valid checked w typed x log e g = by e refl
  where
    ends : (o : Outcome) → EndsSo e o → o ≡ outcome.Done
    ends o h = (let a = parse_answered (by_attributes of) d valid 0 [] w [] x log e o g h in checked w a.to_come o typed a.ends)

    no_block : (at : ℕ) → e ≡ Blocks at → ⊥
    no_block at f = (let h = ends (outcome.Blocks at) (subst (λ (q : Ending _). EndsSo q (outcome.Blocks at)) (sym f) refl) in cc)

    no_loop : (at : ℕ) → e ≡ Loops at → ⊥
    no_loop at f = (let h = ends (outcome.Loops at) (subst (λ (q : Ending _). EndsSo q (outcome.Loops at)) (sym f) refl) in cc)

    by : (q : Ending _) → e ≡ q → ((y : _) × (e ≡ Accepts y)) ⊎ (e ≡ Refuses)
    by (Accepts y) f = inl (y, f)
    by (Blocks at) f = absurd (no_block at f)
    by (Loops at) f = absurd (no_loop at f)
    by Refuses f = inr f

-- Nodes of a sample that stand for the trees of what was found. A settling's kids have their nodes once, whoever uses them.
use Rattle.std.specs.Prelude.{◌≡◌, ℕ, ◌+◌, List, [], ◌∷◌, ◌++◌, Some, Bool, length, slice_get}
use Rattle.tree_core.specs.declared.token.Tok.{Tok}
use Rattle.tree_core.specs.declared.token.Sort.{Sort}
use Rattle.tree_core.specs.Grammar.{kids}
use Rattle.md_reader.specs.declared.types.Sym.{Sym}
use Rattle.lr_check_sets.specs.Automaton.{Automaton}
use Rattle.lr_check.specs.Tree.{Node, Token, Unfolds}
use Rattle.lr_check_found.specs.declared.places.Place.{Place}
use Rattle.lr_check_found.specs.declared.places.Origin.TheVariants as origin
use Rattle.lr_check_found.specs.declared.settlings.How.TheVariants as how
use Rattle.lr_check_found.specs.Found.{FoundView, IsPlaceAt, SettlesAt}
use Rattle.lr_check_samples.specs.Answering.{root_no, further, answers_to, depths_to}
use Rattle.lr_check_samples.specs.Fixed.{IsMadeBy, IsOrigin, BeginsWith}

-- the nodes with these numbers unfold to these leaves
pub record Stands (nodes : List Node) (ks : List ℕ) (ws : List Token) : Type 0 where
  pub unfolds : (rest : List ℕ) (u : List Token) → Unfolds nodes rest u → Unfolds nodes (ks ++ rest) (ws ++ u)

abbrev pub IsNode : List Node → ℕ → Tok → List ℕ → List Bool → Type 0
IsNode nodes n k ks answers = slice_get nodes n ≡ Some (record { tok = k; kids = ks; answers = answers })

-- the nodes of a settling's kids, what its own node is answered, and the depths at which it asks below its list
pub data DrawnKids (A : Automaton) (f : FoundView) (nodes : List Node) : ℕ → List ℕ → List Bool → List ℕ → Type 0 where
  kids_leaf : {i : ℕ} → IsMadeBy f i how.Leaf → DrawnKids A f nodes i [] [] []
  kids_one : {i j p n : ℕ} {y : Place} {s : List Sym} {ks : List ℕ} {own : List Bool} {ds : List ℕ} →
      IsMadeBy f i (how.One j) → SettlesAt f j y s p → IsNode nodes n y.token ks own → DrawnKids A f nodes j ks own ds →
      DrawnKids A f nodes i (n ∷ []) (root_no 1 ds) (further 1 ds)
  kids_two : {i j k p h n m : ℕ} {y z : Place} {s u : List Sym} {ks ks' : List ℕ} {own own' : List Bool} {ds ds' : List ℕ} →
      IsMadeBy f i (how.Two j k) → SettlesAt f j y s p → IsNode nodes n y.token ks own → DrawnKids A f nodes j ks own ds →
      SettlesAt f k z u h → IsNode nodes m z.token ks' own' → DrawnKids A f nodes k ks' own' ds' →
      DrawnKids A f nodes i (n ∷ m ∷ []) (root_no 1 ds ++ root_no (length s + 1) ds') (further 1 ds ++ further (length s + 1) ds')
  kids_reduced : {i j c p : ℕ} {x : Place} {s : List Sym} {ks : List ℕ} {own : List Bool} {ds : List ℕ} →
      IsMadeBy f i (how.Reduced j c) → SettlesAt f j x s p → DrawnKids A f nodes j ks own ds →
      DrawnKids A f nodes i ks (own ++ answers_to (A.candidates p x.behind) (length s) c)
      (ds ++ depths_to (A.candidates p x.behind) (length s) c)

-- From the node of the place with the number up to the root, each ancestor has a node without answers.
pub data DrawnRound (A : Automaton) (f : FoundView) (nodes : List Node) : ℕ → ℕ → ℕ → Type 0 where
  round_root : {n top : ℕ} → IsOrigin f n origin.Root → DrawnRound A f nodes n top top
  round_only : {n i m top root : ℕ} {y : Place} {x : Sort} →
      IsOrigin f n (origin.First i) → IsPlaceAt f i y → kids y.token ≡ x ∷ [] → IsNode nodes m y.token (top ∷ []) [] →
      DrawnRound A f nodes i m root → DrawnRound A f nodes n top root
  round_first : {n i m o top root : ℕ} {y z : Place} {x v : Sort} {us : List Token} →
      IsOrigin f n (origin.First i) → IsPlaceAt f i y → kids y.token ≡ x ∷ v ∷ [] → IsPlaceAt f n z → BeginsWith v z.behind us →
      Stands nodes (o ∷ []) us → IsNode nodes m y.token (top ∷ o ∷ []) [] → DrawnRound A f nodes i m root → DrawnRound A f nodes n top root
  round_second : {n i j p m o top root : ℕ} {y z : Place} {s : List Sym} {ks : List ℕ} {own : List Bool} {ds : List ℕ} →
      IsOrigin f n (origin.Second i j) → IsPlaceAt f i y → SettlesAt f j z s p → IsNode nodes o z.token ks own →
      DrawnKids A f nodes j ks own ds →
      IsNode nodes m y.token (o ∷ top ∷ []) [] → DrawnRound A f nodes i m root → DrawnRound A f nodes n top root

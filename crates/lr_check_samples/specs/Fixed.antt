-- The trees of what was found, by the leaves of their tokens with the answers of their nodes: a settling's, whatever stands round it,
-- and the tree round a place, in which only subtrees that are read before the place have answers.
use Rattle.std.specs.Prelude.{◌≡◌, ℕ, ◌+◌, List, [], ◌∷◌, ◌++◌, Some, Bool, length, slice_get}
use Rattle.tree_core.specs.declared.token.Tok.{Tok}
use Rattle.tree_core.specs.declared.token.Sort.{Sort}
use Rattle.tree_core.specs.Grammar.{kids}
use Rattle.md_reader.specs.declared.types.Sym.{Sym}
use Rattle.lr_check_sets.specs.Automaton.{Automaton}
use Rattle.lr_check.specs.Tree.{Token}
use Rattle.lr_check_parse.specs.Typed.{AreTyped}
use Rattle.lr_check_found.specs.declared.places.Place.{Place}
use Rattle.lr_check_found.specs.declared.places.Origin.{Origin}
use Rattle.lr_check_found.specs.declared.places.Origin.TheVariants as origin
use Rattle.lr_check_found.specs.declared.settlings.How.{How}
use Rattle.lr_check_found.specs.declared.settlings.How.TheVariants as how
use Rattle.lr_check_found.specs.declared.settlings.Settling.{Settling}
use Rattle.lr_check_found.specs.Found.{FoundView, IsPlaceAt, IsSettlingAt, SettlesAt}
use Rattle.lr_check_samples.specs.Answering.{root_no, further, answers_to, depths_to}
use Rattle.lr_check_samples.specs.Stops.{tokens}

abbrev pub leaf : Tok → List Bool → Token
leaf k answers = record { tok = k; answers = answers }

-- the settling with the number was found so
pub record IsMadeBy (f : FoundView) (i : ℕ) (h : How) : Type 0 where
  pub entry : Settling
  pub there : IsSettlingAt f i entry
  pub how : entry.how ≡ h

-- A settling's tree: the leaves of its kids' trees, what its own node is answered, and the depths at which it asks below its list,
-- each time answered no.
pub data Fixed (A : Automaton) (f : FoundView) : ℕ → List Token → List Bool → List ℕ → Type 0 where
  fixed_leaf : {i : ℕ} → IsMadeBy f i how.Leaf → Fixed A f i [] [] []
  fixed_one : {i j p : ℕ} {y : Place} {s : List Sym} {ws : List Token} {own : List Bool} {ds : List ℕ} →
      IsMadeBy f i (how.One j) → SettlesAt f j y s p → Fixed A f j ws own ds →
      Fixed A f i (leaf y.token own ∷ ws) (root_no 1 ds) (further 1 ds)
  fixed_two : {i j k p h : ℕ} {y z : Place} {s u : List Sym} {ws ws' : List Token} {own own' : List Bool} {ds ds' : List ℕ} →
      IsMadeBy f i (how.Two j k) → SettlesAt f j y s p → Fixed A f j ws own ds → SettlesAt f k z u h → Fixed A f k ws' own' ds' →
      Fixed A f i (leaf y.token own ∷ ws ++ leaf z.token own' ∷ ws') (root_no 1 ds ++ root_no (length s + 1) ds')
      (further 1 ds ++ further (length s + 1) ds')
  fixed_reduced : {i j c p : ℕ} {x : Place} {s : List Sym} {ws : List Token} {own : List Bool} {ds : List ℕ} →
      IsMadeBy f i (how.Reduced j c) → SettlesAt f j x s p → Fixed A f j ws own ds →
      Fixed A f i ws (own ++ answers_to (A.candidates p x.behind) (length s) c) (ds ++ depths_to (A.candidates p x.behind) (length s) c)

abbrev pub IsOrigin : FoundView → ℕ → Origin → Type 0
IsOrigin f n o = slice_get f.origins n ≡ Some o

-- the leaves of a typed tree that begins with the token
pub record BeginsWith (x : Sort) (k : Tok) (ws : List Token) : Type 0 where
  pub answers : List Bool
  pub others : List Token
  pub first : ws ≡ leaf k answers ∷ others
  pub typed : AreTyped (x ∷ []) (tokens ws)

-- The tree round a place: the leaves before it and those behind it. Its ancestors have no answers.
pub data Context (A : Automaton) (f : FoundView) : ℕ → List Token → List Token → Type 0 where
  at_root : {n : ℕ} → IsOrigin f n origin.Root → Context A f n [] []
  at_only : {n i : ℕ} {y : Place} {x : Sort} {before behind : List Token} →
      IsOrigin f n (origin.First i) → IsPlaceAt f i y → kids y.token ≡ x ∷ [] → Context A f i before behind →
      Context A f n (before ++ leaf y.token [] ∷ []) behind
  -- the second kid is any tree that begins with the token behind
  at_first : {n i : ℕ} {y z : Place} {x v : Sort} {before behind us : List Token} →
      IsOrigin f n (origin.First i) → IsPlaceAt f i y → kids y.token ≡ x ∷ v ∷ [] → IsPlaceAt f n z → BeginsWith v z.behind us →
      Context A f i before behind →
      Context A f n (before ++ leaf y.token [] ∷ []) (us ++ behind)
  at_second : {n i j p : ℕ} {y z : Place} {s : List Sym} {before behind ws : List Token} {own : List Bool} {ds : List ℕ} →
      IsOrigin f n (origin.Second i j) → IsPlaceAt f i y → SettlesAt f j z s p → Fixed A f j ws own ds → Context A f i before behind →
      Context A f n (before ++ leaf y.token [] ∷ leaf z.token own ∷ ws) behind

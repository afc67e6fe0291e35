-- Nodes above a place's node, up to the root.
use Rattle.std.specs.Prelude.{◌≡◌, ℕ, ◌+◌, ◌<◌, List, [], ◌∷◌, Option, Some, None, Bool, true, length, slice_get}
use Rattle.tree_core.specs.declared.token.Sort.{Sort}
use Rattle.tree_core.specs.declared.token.Sort.TheVariants as sort
use Rattle.tree_core.specs.declared.token.Tok.{Tok}
use Rattle.tree_core.specs.Grammar.{kids}
use Rattle.md_reader.specs.declared.types.Sym.{Sym}
use Rattle.lr_check_found.specs.lr_check_sets.specs.Trees.{May}
use Rattle.lr_check.specs.Tree.{Node}
use Rattle.lr_check.specs.Statement.{fits_at}
use Rattle.lr_check_found.specs.declared.places.Place.{Place}
use Rattle.lr_check_found.specs.declared.places.Origin.{Origin}
use Rattle.lr_check_found.specs.declared.places.Origin.TheVariants as origin
use Rattle.lr_check_found.specs.Found.{FoundView, IsPlaceAt, SettlesAt}
use Rattle.lr_check_samples.specs.Fixed.{IsOrigin}
use Rattle.lr_check_samples.specs.Nodes.{IsNode}
use Rattle.lr_check_nodes.specs.Growing.{AreWhole, Grows, HasLast}
use Rattle.lr_check_drawn.specs.declared.rising.Standing.{Standing}

-- a place for a first kid: its parent's place was found before it, and it is the only kid, or the second may begin with the token behind
pub data BegunFirst (f : FoundView) (n : ℕ) (x : Place) (i : ℕ) : Type 0 where
  begun_only : {y : Place} {w : Sort} → i < n → IsPlaceAt f i y → kids y.token ≡ w ∷ [] → May x.token w → BegunFirst f n x i
  begun_both : {y : Place} {w v : Sort} → i < n → IsPlaceAt f i y → kids y.token ≡ w ∷ v ∷ [] → May x.token w → May x.behind v →
      BegunFirst f n x i

-- and one for a second kid, behind a first one that settled
pub record BegunSecond (f : FoundView) (n : ℕ) (x : Place) (i k : ℕ) : Type 0 where
  pub earlier : i < n
  pub parent : Place
  pub at : IsPlaceAt f i parent
  pub first_sort : Sort
  pub second_sort : Sort
  pub two : kids parent.token ≡ first_sort ∷ second_sort ∷ []
  pub first : Place
  pub list : List Sym
  pub behind : ℕ
  pub settles : SettlesAt f k first list behind
  pub first_may : May first.token first_sort
  pub second_may : May x.token second_sort

abbrev pub IsBegun : FoundView → ℕ → Place → Origin → Type 0
IsBegun f n x origin.Root = May x.token sort.Stmt
IsBegun f n x (origin.First i) = BegunFirst f n x i
IsBegun f n x (origin.Second i k) = BegunSecond f n x i k

pub record HasBegun (f : FoundView) (n : ℕ) (x : Place) : Type 0 where
  pub origin : Origin
  pub there : IsOrigin f n origin
  pub begun : IsBegun f n x origin

pub record AreBegun (f : FoundView) : Type 0 where
  pub each : (n : ℕ) (x : Place) → IsPlaceAt f n x → HasBegun f n x

-- a node of the token
pub record HasToken (nodes : List Node) (n : ℕ) (k : Tok) : Type 0 where
  pub kids : List ℕ
  pub answers : List Bool
  pub node : IsNode nodes n k kids answers

-- the node with a settling's number has the token of the settling's place
pub record HaveNodes (f : FoundView) (nodes : List Node) : Type 0 where
  pub each : (i p : ℕ) (x : Place) (s : List Sym) → SettlesAt f i x s p → HasToken nodes i x.token

-- the node at the place with the number
pub record StandsAt (f : FoundView) (nodes : List Node) (n node : ℕ) : Type 0 where
  pub place : Place
  pub there : IsPlaceAt f n place
  pub token : HasToken nodes node place.token
  pub last : node + 1 ≡ length nodes

-- a kid that may stand first: it is the only one, or the second is to begin with the token behind it
pub data FitsFirst (nodes : List Node) (token behind : Tok) (kid : ℕ) : Type 0 where
  fits_only : {w : Sort} → kids token ≡ w ∷ [] → fits_at (slice_get nodes kid) w ≡ true → FitsFirst nodes token behind kid
  fits_first : {w v : Sort} → kids token ≡ w ∷ v ∷ [] → fits_at (slice_get nodes kid) w ≡ true → May behind v →
      FitsFirst nodes token behind kid

-- its parent
pub data HasFirst (old new : List Node) (token behind : Tok) (kid n : ℕ) : Type 0 where
  has_only : {w : Sort} → kids token ≡ w ∷ [] → HasLast old new token (kid ∷ []) [] n → HasFirst old new token behind kid n
  has_first : {w v : Sort} {o : ℕ} {ks : List ℕ} → kids token ≡ w ∷ v ∷ [] → May behind v → IsNode new o behind ks [] →
      HasLast old new token (kid ∷ o ∷ []) [] n → HasFirst old new token behind kid n

-- the node m of the place i is the parent of the node of the place n
pub data Over (f : FoundView) (nodes : List Node) (n node i m : ℕ) : Type 0 where
  over_only : {y : Place} {w : Sort} → IsOrigin f n (origin.First i) → IsPlaceAt f i y → kids y.token ≡ w ∷ [] →
      IsNode nodes m y.token (node ∷ []) [] → Over f nodes n node i m
  over_first : {y z : Place} {w v : Sort} {o : ℕ} {ks : List ℕ} → IsOrigin f n (origin.First i) → IsPlaceAt f i y →
      kids y.token ≡ w ∷ v ∷ [] → IsPlaceAt f n z → May z.behind v → IsNode nodes o z.behind ks [] →
      IsNode nodes m y.token (node ∷ o ∷ []) [] → Over f nodes n node i m
  over_second : {k p : ℕ} {y z : Place} {s : List Sym} → IsOrigin f n (origin.Second i k) → IsPlaceAt f i y → SettlesAt f k z s p →
      IsNode nodes m y.token (k ∷ node ∷ []) [] → Over f nodes n node i m

-- from a place's node up to that of an ancestor
pub data Up (f : FoundView) (nodes : List Node) (n top : ℕ) : ℕ → ℕ → Type 0 where
  up_here : Up f nodes n top n top
  up_more : {m node i o : ℕ} → Up f nodes n top m node → Over f nodes m node i o → Up f nodes n top i o

-- with the parent of the node of a place
pub record HasParent (f : FoundView) (old new : List Node) (n node i m : ℕ) : Type 0 where
  pub grows : Grows old new
  pub whole : AreWhole new
  pub over : Over f new n node i m
  pub stands : StandsAt f new i m
  pub earlier : i < n

-- with the parent of a place's node, if it isn't the root
abbrev pub AfterParent : FoundView → List Node → List Node → ℕ → ℕ → Option Standing → Type 0
AfterParent f old new n node None = IsOrigin f n origin.Root × (new ≡ old)
AfterParent f old new n node (Some s) = HasParent f old new n node s.place s.node

-- with what stands above a place's node, up to the node of an ancestor
pub record Rising (f : FoundView) (old new : List Node) (n top m node : ℕ) : Type 0 where
  pub grows : Grows old new
  pub whole : AreWhole new
  pub stands : StandsAt f new m node
  pub up : Up f new n top m node

-- with all that stands above the node of a place: the last node is the root
pub record HasRisen (f : FoundView) (old new : List Node) (n top : ℕ) : Type 0 where
  pub grows : Grows old new
  pub whole : AreWhole new
  pub place : ℕ
  pub root : ℕ
  pub up : Up f new n top place root
  pub is_root : IsOrigin f place origin.Root
  pub last : root + 1 ≡ length new
  pub statement : fits_at (slice_get new root) sort.Stmt ≡ true

-- What has been found is in the sets, once.
use Rattle.std.specs.Prelude.{◌≡◌, ℕ, List, [], Some, None, Contains, true, length, slice_get, slice_index_or, count_by}
use Rattle.md_reader.specs.declared.types.Sym.{Sym}
use Rattle.lr_check_sets.specs.Automaton.{Automaton, Candidate, walk, Free, Outside}
use Rattle.lr_check_sets.specs.Sums as sets
use Rattle.lr_check_found.specs.declared.places.Place.{Place}
use Rattle.lr_check_found.specs.declared.places.Origin.{Origin}
use Rattle.lr_check_found.specs.declared.settlings.Settling.{Settling}
use Rattle.lr_check_found.specs.Lists.{IsList, AreLists}
use Rattle.lr_check_found.specs.Found.{FoundView, slot, IsPlaceAt, IsSettlingAt}
use Rattle.lr_check_found.specs.Items.{Begun, Made, IsEarlier, IsLater}

-- the place with its origin
pub record IsSoundPlace (A : Automaton) (f : FoundView) (n : ℕ) (x : Place) : Type 0 where
  pub is_place : sets.Place A x.state x.token x.behind
  pub origin : Origin
  pub there : slice_get f.origins n ≡ Some origin
  pub begun : Begun A f x origin
  pub earlier : IsEarlier n origin

-- the settling with its place and list
pub record IsSoundSettling (A : Automaton) (f : FoundView) (i : ℕ) (e : Settling) : Type 0 where
  pub place : Place
  pub list : List Sym
  pub there : IsPlaceAt f e.place place
  pub symbols : IsList f.lists e.list list
  pub behind : e.behind ≡ walk A place.state list
  pub settles : sets.Settling A place.state place.token place.behind list
  pub made : Made A f e.place place e.how list
  pub later : IsLater i e.how
  -- it is marked as a sum exactly where some choice leads out of it
  pub sum : e.is_sum ≡ true → sets.Sum A place.state place.token place.behind list
  pub sums : (p : ℕ) (c : Candidate) → walk A place.state list ≡ Some p → Free (A.candidates p place.behind) c → Outside c list
      → e.is_sum ≡ true

-- the sum with this number is held at its place
pub record IsHeldSum (f : FoundView) (n i : ℕ) : Type 0 where
  pub entry : Settling
  pub there : IsSettlingAt f i entry
  pub place : entry.place ≡ n
  pub is_sum : entry.is_sum ≡ true

-- the list with the number settles at the place
pub record IsListed (f : FoundView) (n l : ℕ) : Type 0 where
  pub number : ℕ
  pub entry : Settling
  pub there : IsSettlingAt f number entry
  pub place : entry.place ≡ n
  pub list : entry.list ≡ l

pub record IsFound (A : Automaton) (f : FoundView) : Type 0 where
  pub lists : AreLists f.lists
  pub numbered : (n : ℕ) (x : Place) → IsPlaceAt f n x → slice_index_or f.numbers (slot x) None ≡ Some n
  pub places : (n : ℕ) (x : Place) → IsPlaceAt f n x → IsSoundPlace A f n x
  pub origins : length f.origins ≡ length f.places
  -- no list settles twice at a place
  pub apart : (i j : ℕ) (e d : Settling) → IsSettlingAt f i e → IsSettlingAt f j d → e.place ≡ d.place → e.list ≡ d.list → i ≡ j
  pub settlings : (i : ℕ) (e : Settling) → IsSettlingAt f i e → IsSoundSettling A f i e
  -- the sums at each place are those of its settlings that are sums
  pub many : length f.sums ≡ length f.places
  pub sums : (n i : ℕ) → Contains (slice_index_or f.sums n []) i → IsHeldSum f n i
  pub all_sums : (i : ℕ) (e : Settling) → IsSettlingAt f i e → e.is_sum ≡ true → Contains (slice_index_or f.sums e.place []) i
  -- the lists at each place are those of its settlings
  pub many_listed : length f.listed ≡ length f.places
  pub listed : (n l : ℕ) → Contains (slice_index_or f.listed n []) l → IsListed f n l
  pub all_listed : (i : ℕ) (e : Settling) → IsSettlingAt f i e → Contains (slice_index_or f.listed e.place []) e.list
  pub tuples : f.tuples ≡ count_by (λ (e : Settling). e.is_sum) f.settlings

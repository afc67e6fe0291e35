-- A settling that follows is added.
use Rattle.std.proofs.Common.{◌≡◌, ℕ, ◌≤◌, ◌<◌, List, [], Option, Some, Contains, true, length, slice_get, refl, sym, ap, ◌∙◌, subst, arith}
use Rattle.std.specs.Prelude.{Result, Ok, Err, OnOk, slice_index_or}
use Rattle.std.proofs.lemmas.Option.{slice_get_within, same_Some}
use Rattle.md_reader.specs.declared.types.Sym.{Sym}
use Rattle.lr_check_sets.specs.Automaton.{Automaton, Candidate, walk, Free}
use Rattle.lr_check_found.specs.declared.places.Place.{Place}
use Rattle.lr_check_found.specs.declared.places.Origin.{Origin}
use Rattle.lr_check_found.specs.declared.settlings.How.{How}
use Rattle.lr_check_found.specs.declared.settlings.Settling.{Settling}
use Rattle.lr_check_found.specs.Lists.{IsList}
use Rattle.lr_check_found.specs.Found.{FoundView, IsPlaceAt, IsSettlingAt, SumAt, Settles, Grows}
use Rattle.lr_check_found.specs.Items.{Begun, Made, leaf, one, two, made_by_reduction, IsBehind, HasMade}
use Rattle.lr_check_found.specs.Sound.{IsFound}
use Rattle.lr_check_found.specs.Adding.{IsAdded, IsRelisted, settled, list_of, list_number, number_in, upper_of, lower_of, IsWider, HasWayOut}
use Rattle.lr_check_found.proofs.Growing.{grows_same, grows_both, made_grows}
use Rattle.lr_check_found.proofs.Deriving.{walks_of_made}
use Rattle.lr_check_found.proofs.Placing.{placed_found, placed_grows}
use Rattle.lr_check_found.proofs.Settled.{IsMore, more_settled, more_found, more_grows, relisted_found, relisted_more}

-- the lists of the kids, and the list that they make
pub record Parts (f : FoundView) (x : Place) (h : How) (s : List Sym) : Type 0 where
  pub upper : List Sym
  pub lower : List Sym
  pub at_upper : IsList f.lists (upper_of f h) upper
  pub at_lower : IsList f.lists (lower_of f h) lower
  pub whole : list_of x.token h upper lower ≡ s

-- the list of a sum
pub list_is : (f : FoundView) (i : ℕ) (y : Place) (s : List Sym) (p : ℕ) → SumAt f i y s p → IsList f.lists (list_number f i) s
list_is f i y s p h = ap (λ (o : Option Settling). slice_get f.lists.all (number_in o)) h.there ∙ h.list

pub parts_of : (A : Automaton) (f : FoundView) (n : ℕ) (x : Place) (h : How) (s : List Sym) → IsFound A f → Made A f n x h s → Parts f x h s
parts_of A f n x _ _ found (leaf go kid) = record { upper = []; lower = []; at_upper = found.lists.first; at_lower = found.lists.first; whole = refl }
parts_of A f n x _ _ found (one {i = i} {j = j} {y = y} {s = s} h sum k) =
    record { upper = s; lower = []; at_upper = list_is f i y s j sum; at_lower = found.lists.first; whole = refl }
parts_of A f n x _ _ found (two {i = i} {k = k} {j = j} {h = c} {y = y} {z = z} {s = s} {u = u} h sum g sum' g') =
    record { upper = u; lower = s; at_upper = list_is f k z u c sum'; at_lower = list_is f i y s j sum; whole = refl }
parts_of A f n x _ _ found (made_by_reduction e r there same list behind free size) =
    record { upper = []; lower = []; at_upper = found.lists.first; at_lower = found.lists.first; whole = refl }

pub record IsAddedTo (A : Automaton) (f g : FoundView) : Type 0 where
  pub found : IsFound A g
  pub grows : Grows f g

pub added : (A : Automaton) (f f1 g : FoundView) (e : Settling) (x : Place) (s : List Sym) → IsFound A f → IsRelisted f f1 → IsPlaceAt f e.place x → Made A f e.place x e.how s →
    IsList f1.lists e.list s → IsBehind A f1 x e.how e.behind → (e.is_sum ≡ true → HasWayOut A e.behind x.behind (length s)) →
    ((p : ℕ) (c : Candidate) → e.behind ≡ Some p → Free (A.candidates p x.behind) c → IsWider c (length s) → e.is_sum ≡ true) →
    ((i : ℕ) (d : Settling) → IsSettlingAt f1 i d → d.place ≡ e.place → d.list ≡ e.list → ⊥) → g ≡ settled f1 e → IsAddedTo A f g
added A f f1 g e x s found relisted place made list behind way ways absent is =
    let found1 : IsFound A f1 = relisted_found A f f1 found relisted in
    let more1 : Grows f f1 = relisted_more f f1 relisted in
    let place1 : IsPlaceAt f1 e.place x = more1.places e.place x place in
    let made1 : Made A f1 e.place x e.how s = made_grows A f f1 more1 e.place x e.how s made in
    let walks : e.behind ≡ walk A x.state s = walks_of_made A f1 e.place x e.how s e.behind found1 place1 made1 behind in
    let many = found1.many in
    let within : e.place < length f1.sums = let lt = slice_get_within f1.places e.place x place1 in omega (arith, lt, many) in
    let many' = found1.many_listed in
    let within' : e.place < length f1.listed = let lt = slice_get_within f1.places e.place x place1 in omega (arith, lt, many') in
    let more : IsMore f1 (settled f1 e) e = more_settled f1 e within within' in
    record {
      found = subst (IsFound A) (sym is) (more_found A f1 (settled f1 e) e x s found1 more place1 list made1 walks way ways absent);
      grows = grows_both f f1 g more1 (subst (Grows f1) (sym is) (more_grows A f1 (settled f1 e) e x s found1 more place1 list made1 walks way ways absent));
    }

-- ---- the lists of a place

pub settles_there : (A : Automaton) (f : FoundView) (n l : ℕ) → IsFound A f → Contains (slice_index_or f.listed n []) l → (s : List Sym) → IsList f.lists l s → Settles f n s
settles_there A f n l found c s at =
    let h = found.listed n l c in
    record { number = h.number; entry = h.entry; there = h.there; place = h.place; list = subst (λ k. IsList f.lists k s) (sym h.list) at }

pub held_at : (A : Automaton) (f : FoundView) (n l i : ℕ) (e : Settling) → IsFound A f → IsSettlingAt f i e → e.place ≡ n → e.list ≡ l → Contains (slice_index_or f.listed n []) l
held_at A f n l i e found at p q =
    subst (λ k. Contains (slice_index_or f.listed n []) k) q (subst (λ k. Contains (slice_index_or f.listed k []) e.list) p (found.all_listed i e at))

-- ---- the list that is added

-- how it is made at the place, and that the number is its list's
pub record Listed (A : Automaton) (f f1 : FoundView) (n l : ℕ) (x : Place) (h : How) : Type 0 where
  pub list : List Sym
  pub made : Made A f n x h list
  pub at : IsList f1.lists l list

pub listed : (A : Automaton) (f f1 : FoundView) (n l : ℕ) (x : Place) (h : How) → IsFound A f → HasMade A f n h → IsPlaceAt f n x →
    ((u w : List Sym) → IsList f.lists (upper_of f h) u → IsList f.lists (lower_of f h) w → IsList f1.lists l (list_of x.token h u w)) → Listed A f f1 n l x h
listed A f f1 n l x h found m there number =
    let made : Made A f n x h m.list = subst (λ (y : Place). Made A f n y h m.list) (same_Some m.place x (sym m.there ∙ there)) m.made in
    let p : Parts f x h m.list = parts_of A f n x h m.list found made in
    record { list = m.list; made = made; at = subst (IsList f1.lists l) p.whole (number p.upper p.lower p.at_upper p.at_lower) }

-- its kids' lists are there
pub record HasKids (f : FoundView) (h : How) : Type 0 where
  pub upper : (s : List Sym) × IsList f.lists (upper_of f h) s
  pub lower : (s : List Sym) × IsList f.lists (lower_of f h) s

pub has_kids : (A : Automaton) (f : FoundView) (n : ℕ) (h : How) → IsFound A f → HasMade A f n h → HasKids f h
has_kids A f n h found m =
    let p : Parts f m.place h m.list = parts_of A f n m.place h m.list found m.made in
    record { upper = (p.upper, p.at_upper); lower = (p.lower, p.at_lower) }

-- ---- a place that follows

pub place_added : (A : Automaton) (f g : FoundView) (x : Place) (o : Origin) → IsFound A f → Begun A f x o → IsAdded f g x o → IsAddedTo A f g
place_added A f g x o found begun (IsAdded.there e) = record { found = subst (IsFound A) (sym e) found; grows = subst (Grows f) (sym e) (grows_same f) }
place_added A f g x o found begun (IsAdded.placed absent p) = record {
  found = placed_found A f g x o found p begun (λ n at. absent A n found at);
  grows = placed_grows A f g x o found p begun (λ n at. absent A n found at);
}

pub on_ok : {X E : Type 0} (r : Result X E) (P Q : Type 0) → (P → Q) → OnOk r P → OnOk r Q
on_ok (Ok u) P Q f h = f h
on_ok (Err e) P Q f h = tt

-- ---- all that follows

pub record AddsAll (A : Automaton) (f g : FoundView) : Type 0 where
  pub found : IsFound A g
  pub grows : Grows f g
  pub room : g.tuples ≤ 4000000

-- Kids that were found, as items.
use Rattle.std.proofs.Common.{◌≡◌, ℕ, List, [], ◌∷◌, ◌++◌, Contains, refl, sym, ◌∙◌, subst}
use Rattle.std.specs.Prelude.{slice_index_or}
use Rattle.std.proofs.lemmas.Option.{same_Some}
use Rattle.tree_core.specs.declared.token.Tok.{Tok}
use Rattle.tree_core.specs.declared.token.Sort.{Sort}
use Rattle.md_reader.specs.declared.types.Sym.{Sym}
use Rattle.md_reader.specs.declared.types.Sym.TheVariants as grammar_symbol
use Rattle.lr_check_found.specs.lr_check_sets.specs.Trees.{May}
use Rattle.lr_check_found.specs.lr_check_sets.specs.Automaton.{Automaton}
use Rattle.lr_check_found.specs.lr_check_sets.proofs.Whole_ends.{sum_walk}
use Rattle.lr_check_found.specs.declared.places.Place.{Place}
use Rattle.lr_check_found.specs.declared.places.Origin.TheVariants as origin
use Rattle.lr_check_found.specs.declared.settlings.How.TheVariants as how
use Rattle.lr_check_found.specs.Lists.{IsList}
use Rattle.lr_check_found.specs.Found.{FoundView, place_of, IsPlaceAt, SumAt, Settles}
use Rattle.lr_check_found.specs.Items.{HasOne, Begun, Made, HasMade}
use Rattle.lr_check_found.specs.Sound.{IsSoundSettling, IsFound}
use Rattle.lr_check_found.specs.Adding.{list_number}
use Rattle.lr_check_found.proofs.Added.{list_is}
use Rattle.lr_check_complete.specs.Kids.{OneKid, OneIn, OnlyAt}

-- a place has one number
pub one_place : (A : Automaton) (f : FoundView) (n m : ℕ) (x : Place) → IsFound A f → IsPlaceAt f n x → IsPlaceAt f m x → n ≡ m
one_place A f n m x found a b = same_Some n m (sym (found.numbered n x a) ∙ found.numbered m x b)

-- a sum that is held at a place
pub record HeldSum (f : FoundView) (i : ℕ) (y : Place) : Type 0 where
  pub list : List Sym
  pub behind : ℕ
  pub sum : SumAt f i y list behind

pub held_sum : (A : Automaton) (f : FoundView) (n i : ℕ) (y : Place) → IsFound A f → IsPlaceAt f n y → Contains (slice_index_or f.sums n []) i → HeldSum f i y
held_sum A f n i y found at c =
    let h = found.sums n i c in
    let e : IsSoundSettling A f i h.entry = found.settlings i h.entry h.there in
    let place : IsPlaceAt f h.entry.place y = subst (λ k. IsPlaceAt f k y) (sym h.place) at in
    let l = sum_walk (e.sum h.is_sum) in
    record {
      list = e.list;
      behind = l.0;
      sum = record { entry = h.entry; there = h.there; place = place; list = e.symbols; behind = e.behind ∙ l.1; is_sum = h.is_sum };
    }

-- a sum of a place is held there
pub sum_held : (A : Automaton) (f : FoundView) (n i j : ℕ) (y : Place) (s : List Sym) → IsFound A f → IsPlaceAt f n y → SumAt f i y s j → Contains (slice_index_or f.sums n []) i
sum_held A f n i j y s found at h =
    subst (λ k. Contains (slice_index_or f.sums k []) i) (one_place A f h.entry.place n y found h.place at) (found.all_sums i h.entry h.there h.is_sum)

-- ---- one kid

pub one_made : (A : Automaton) (f : FoundView) (n i : ℕ) (x y : Place) → OneKid A f n x y → HeldSum f i y → HasMade A f n (how.One i)
one_made A f n i x y kid h = record { place = x; list = h.list ++ (grammar_symbol.Tok x.token ∷ []); there = kid.there; made = Made.one kid.one h.sum kid.fits }

pub only_begun : (A : Automaton) (f : FoundView) (n : ℕ) (x y : Place) → OneKid A f n x y → Begun A f y (origin.First n)
only_begun A f n x y kid = Begun.only kid.there kid.one kid.fits

pub one_in : (A : Automaton) (f : FoundView) (n i : ℕ) (k : Tok) → IsFound A f →
    ((u l : List Sym) → IsList f.lists (list_number f i) u → IsList f.lists 0 l → Settles f n (u ++ (l ++ (grammar_symbol.Tok k ∷ [])))) → OneIn f n k i
one_in A f n i k found h = record { settles = λ y s j sum. h s [] (list_is f i y s j sum) found.lists.first }

pub only_at : (A : Automaton) (f : FoundView) (n m : ℕ) (k : Tok) (y : Place) → IsFound A f → IsPlaceAt f m y → ((i : ℕ) → Contains (slice_index_or f.sums m []) i → OneIn f n k i) → OnlyAt f n k y
only_at A f n m k y found at each = record {
  place = record { number = m; at = at };
  sums = λ s h. (each h.number (sum_held A f m h.number h.behind y s found at h.sum)).settles y s h.behind h.sum;
}

pub one_kid : (A : Automaton) (f : FoundView) (n p : ℕ) (x : Place) (t : Tok) (w : Sort) → IsPlaceAt f n x → HasOne A x w p → May t w → OneKid A f n x (place_of p t x.behind)
one_kid A f n p x t w there one may = record { there = there; sort = w; behind = p; one = one; fits = record { state = refl; may = may; behind = refl } }

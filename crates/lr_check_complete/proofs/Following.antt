-- Items that follow from what was found.
use Rattle.std.proofs.Common.{◌≡◌, ℕ, List, [], ◌∷◌, ◌++◌, Some, true}
use Rattle.tree_core.specs.declared.token.Sort.{Sort}
use Rattle.tree_core.specs.Grammar.{kids}
use Rattle.md_reader.specs.declared.types.Sym.{Sym}
use Rattle.md_reader.specs.declared.types.Sym.TheVariants as grammar_symbol
use Rattle.lr_check_found.specs.lr_check_sets.specs.Trees.{May}
use Rattle.lr_check_found.specs.lr_check_sets.specs.Automaton.{Automaton}
use Rattle.lr_check_found.specs.declared.places.Place.{Place}
use Rattle.lr_check_found.specs.declared.places.Origin.TheVariants as origin
use Rattle.lr_check_found.specs.declared.settlings.How.TheVariants as how
use Rattle.lr_check_found.specs.declared.settlings.Settling.{Settling}
use Rattle.lr_check_found.specs.Found.{FoundView, IsPlaceAt, IsSettlingAt, SumAt}
use Rattle.lr_check_found.specs.Items.{Fits, Begun, Made, HasMade}
use Rattle.lr_check_found.specs.Sound.{IsFound}

pub sum_found : (A : Automaton) (f : FoundView) (i p : ℕ) (e : Settling) (x : Place) → IsFound A f → IsSettlingAt f i e → IsPlaceAt f e.place x → e.behind ≡ Some p → e.is_sum ≡ true
    → (s : List Sym) × SumAt f i x s p
sum_found A f i p e x found at place behind is_sum =
    let h = found.settlings i e at in
    (h.list, record { entry = e; there = at; place = place; list = h.symbols; behind = behind; is_sum = is_sum })

module _ (A : Automaton) (f : FoundView) (n p : ℕ) (y : Place) (there : IsPlaceAt f n y) (go : A.go y.state (grammar_symbol.Tok y.token) ≡ Some p) where
  pub begins_only : (x : Place) (w : Sort) → kids y.token ≡ w ∷ [] → Fits x w p y.behind → Begun A f x (origin.First n)
  begins_only x w kid fits = Begun.only there (record { go = go; kid = kid }) fits

  pub begins_first : (x : Place) (w v : Sort) → kids y.token ≡ w ∷ v ∷ [] → Fits x w p x.behind → May x.behind v → Begun A f x (origin.First n)
  begins_first x w v kid fits may = Begun.first x.behind there (record { go = go; kid = kid }) fits may

  pub begins_second : (x z : Place) (w v : Sort) (k j : ℕ) → kids y.token ≡ w ∷ v ∷ [] → (s : List Sym) × SumAt f k z s j → Fits z w p x.token → Fits x v j y.behind → Begun A f x (origin.Second n k)
  begins_second x z w v k j kid sum first second = Begun.second there (record { go = go; kid = kid }) sum.1 first second

  pub made_leaf : kids y.token ≡ [] → HasMade A f n how.Leaf
  made_leaf none = record { place = y; list = grammar_symbol.Tok y.token ∷ []; there = there; made = Made.leaf go none }

  pub made_one : (z : Place) (w : Sort) (i j : ℕ) → kids y.token ≡ w ∷ [] → (s : List Sym) × SumAt f i z s j → Fits z w p y.behind → HasMade A f n (how.One i)
  made_one z w i j kid sum fits = record {
    place = y;
    list = sum.0 ++ (grammar_symbol.Tok y.token ∷ []);
    there = there;
    made = Made.one (record { go = go; kid = kid }) sum.1 fits;
  }

  pub made_two : (z u : Place) (w v : Sort) (i k j h : ℕ) → kids y.token ≡ w ∷ v ∷ [] → (s : List Sym) × SumAt f i z s j → (s : List Sym) × SumAt f k u s h →
      Fits z w p u.token → Fits u v j y.behind → HasMade A f n (how.Two i k)
  made_two z u w v i k j h kid first second fits fits' = record {
    place = y;
    list = second.0 ++ (first.0 ++ (grammar_symbol.Tok y.token ∷ []));
    there = there;
    made = Made.two (record { go = go; kid = kid }) first.1 fits second.1 fits';
  }

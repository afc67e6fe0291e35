-- Where all of the sets is found and no fault shows, there is none.
use Rattle.std.proofs.Common.{◌≡◌, ℕ, List, Some, sym, ap, ◌∙◌}
use Rattle.std.proofs.lemmas.Option.{same_Some}
use Rattle.tree_core.specs.declared.token.Tok.{Tok}
use Rattle.md_reader.specs.declared.types.Sym.{Sym}
use Rattle.md_reader.specs.declared.types.Sym.TheVariants as grammar_symbol
use Rattle.lr_check_sets.specs.Automaton.{Automaton, walk, CanBlock}
use Rattle.lr_check_sets.specs.Faults.{Calms, NoFault}
use Rattle.lr_check_sets.proofs.Closing.{no_fault}
use Rattle.lr_check_found.specs.declared.places.Place.{Place}
use Rattle.lr_check_found.specs.declared.settlings.Settling.{Settling}
use Rattle.lr_check_found.specs.Lists.{IsList}
use Rattle.lr_check_found.specs.Found.{FoundView, place_of, IsPlaceAt, IsSettlingAt}
use Rattle.lr_check_found.specs.Sound.{IsSoundSettling}
use Rattle.lr_check_complete.specs.Sets.{HasPlace, HasSettling, HasSum, IsComplete}
use Rattle.lr_check_complete.proofs.Complete_sets.{place_is}

module _ (A : Automaton) (f : FoundView) (c : IsComplete A f) where
  pub behind_is : (q p : ℕ) (k b : Tok) (s : List Sym) (h : HasSettling f q k b s) → walk A q s ≡ Some p → h.settles.entry.behind ≡ Some p
  behind_is q p k b s h ws =
      let e : IsSoundSettling A f h.settles.number h.settles.entry = c.found.settlings h.settles.number h.settles.entry h.settles.there in
      let place : e.place ≡ place_of q k b = same_Some e.place (place_of q k b) (sym e.there ∙ place_is f q k b s h) in
      let list : e.list ≡ s = same_Some e.list s (sym e.symbols ∙ h.settles.list) in
      e.behind ∙ (ap (λ (x : Place). walk A x.state e.list) place ∙ (ap (walk A q) list ∙ ws))

  pub fine : ((n : ℕ) (x : Place) → IsPlaceAt f n x → (p : ℕ) × (A.go x.state (grammar_symbol.Tok x.token) ≡ Some p)) →
      ((i : ℕ) (e : Settling) (x : Place) (p : ℕ) → IsSettlingAt f i e → IsPlaceAt f e.place x → e.behind ≡ Some p → CanBlock (A.candidates p x.behind) → ⊥) →
      ((i : ℕ) (e : Settling) (x : Place) (s : List Sym) → IsSettlingAt f i e → IsPlaceAt f e.place x → IsList f.lists e.list s → Calms A x.state x.behind s) → NoFault A
  fine shifts takes ends = no_fault A (HasPlace f) (HasSettling f) (HasSum f) c.closed (record {
    shifts = λ q k b place. shifts place.number (place_of q k b) place.at;
    takes = λ q p k b s h ws can. takes h.settles.number h.settles.entry (place_of q k b) p h.settles.there (place_is f q k b s h) (behind_is q p k b s h ws) can;
    ends = λ q k b s h. ends h.settles.number h.settles.entry (place_of q k b) s h.settles.there (place_is f q k b s h) h.settles.list;
  })

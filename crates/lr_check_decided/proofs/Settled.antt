-- Classes alone that settle where all of the sets is found.
use Rattle.std.proofs.Common.{◌≡◌, ℕ, zero, suc, List, [], ◌∷◌, Some, length, slice_get, sym, ap, ◌∙◌, subst}
use Rattle.std.specs.Prelude.{slice_index_or}
use Rattle.std.proofs.lemmas.Option.{same_Some}
use Rattle.tree_core.specs.declared.token.Tok.{Tok}
use Rattle.md_reader.specs.declared.types.Sym.{Sym}
use Rattle.md_reader.specs.declared.types.Sym.TheVariants as grammar_symbol
use Rattle.lr_check_sets.specs.Automaton.{Automaton, Production, reduce, walk, size_of, Free, reduced}
use Rattle.lr_check_found.specs.declared.places.Place.{Place}
use Rattle.lr_check_found.specs.Found.{FoundView, IsPlaceAt, IsSettlingAt, Settles}
use Rattle.lr_check_found.proofs.Deriving.{whole_left}
use Rattle.lr_check_flaws.specs.Flaws.{Along, along_one, along_on, IsCircleAt}
use Rattle.lr_check_complete.specs.Sets.{HasSettling, IsComplete}
use Rattle.lr_check_decided.specs.Turn.{Led, led_here, led_on}
use Rattle.lr_check_decided.proofs.Fine.{behind_is}

-- a list that isn't empty is held
pub list_at : (xs : List (List Sym)) (n : ℕ) (X : Sym) (s : List Sym) → slice_index_or xs n [] ≡ X ∷ s → slice_get xs n ≡ Some (X ∷ s)
list_at [] n X s e = cc
list_at (x ∷ xs) zero X s e = ap Some e
list_at (x ∷ xs) (suc n) X s e = list_at xs n X s e

-- the class with which a way begins leads somewhere
pub first_step : (A : Automaton) (q : ℕ) (b : Tok) (c d : ℕ) (ds : List ℕ) → Along A q b c ds d → (p : ℕ) × (A.go q (grammar_symbol.Class c) ≡ Some p)
first_step A q b c d _ (along_one s) = (s.at, s.go)
first_step A q b c e _ (along_on {d = d} {ds = ds} h s) = first_step A q b c d ds h

module _ (A : Automaton) (f : FoundView) (n : ℕ) (x : Place) (complete : IsComplete A f) (at : IsPlaceAt f n x) where
  abbrev has : (s : List Sym) → Settles f n s → HasSettling f x.state x.token x.behind s
  has s h = record { number = n; at = at; settles = h }

  -- a place has one number
  back : (s : List Sym) → HasSettling f x.state x.token x.behind s → Settles f n s
  back s h = subst (λ m. Settles f m s) (same_Some h.number n (sym (complete.found.numbered h.number x h.at) ∙ complete.found.numbered n x at)) h.settles

  pub made : (s : List Sym) (p : ℕ) (r : Production) → Settles f n s → walk A x.state s ≡ Some p → Free (A.candidates p x.behind) (reduce r) → size_of r ≡ length s →
      Settles f n (grammar_symbol.Class r.left ∷ [])
  made s p r h ws fr size =
      subst (Settles f n) (whole_left r s size) (back (reduced r s) (complete.closed.settles x.state p x.token x.behind s r (has s h) ws fr size))

  -- what reductions lead to settles
  pub settles_led : (c d : ℕ) → Led A x.state x.behind c d → Settles f n (grammar_symbol.Class c ∷ []) → Settles f n (grammar_symbol.Class d ∷ [])
  settles_led c _ led_here h = h
  settles_led c _ (led_on {d = d} {e = e} l s) h =
      subst (λ k. Settles f n (grammar_symbol.Class k ∷ [])) s.left (made (grammar_symbol.Class d ∷ []) s.at s.rule (settles_led c d l h) s.go s.free s.one)

  pub circle_at : (c i : ℕ) (cs : List ℕ) (h : Settles f n (grammar_symbol.Class c ∷ [])) → h.number ≡ i → Along A x.state x.behind c cs c → IsCircleAt A f i cs
  circle_at c i cs h same along =
      let step : (p : ℕ) × (A.go x.state (grammar_symbol.Class c) ≡ Some p) = first_step A x.state x.behind c c cs along in
      record {
        place = x;
        class = c;
        behind = step.0;
        settles = record {
          entry = h.entry;
          there = subst (λ j. IsSettlingAt f j h.entry) same h.there;
          place = subst (λ j. IsPlaceAt f j x) (sym h.place) at;
          list = h.list;
          behind = behind_is A f complete x.state step.0 x.token x.behind (grammar_symbol.Class c ∷ []) (has (grammar_symbol.Class c ∷ []) h) step.1;
        };
        along = along;
      }

-- Flaws of what was found are faults of the sets.
use Rattle.std.proofs.Common.{◌≡◌, ℕ, List, [], ◌∷◌, Some, drop, sym, ap, ◌∙◌, subst}
use Rattle.std.proofs.lemmas.Option.{same_Some}
use Rattle.lr_check_found.specs.tree_core.specs.declared.token.Tok.{Tok}
use Rattle.lr_check_found.specs.md_reader.specs.declared.types.Sym.{Sym}
use Rattle.lr_check_found.specs.md_reader.specs.declared.types.Sym.TheVariants as grammar_symbol
use Rattle.lr_check_found.specs.lr_check_sets.specs.Automaton.{Automaton, walk, reduced}
use Rattle.lr_check_found.specs.lr_check_sets.specs.Sums as sets
use Rattle.lr_check_found.specs.lr_check_sets.specs.Faults.{Fault, gap, dead, circle, Circles}
use Rattle.lr_check_found.specs.declared.places.Place.{Place}
use Rattle.lr_check_found.specs.Found.{FoundView, SettlesAt}
use Rattle.lr_check_found.specs.Sound.{IsSoundSettling, IsFound}
use Rattle.lr_check_flaws.specs.declared.flaws.Flaw.{Flaw}
use Rattle.lr_check_flaws.specs.declared.flaws.Flaw.TheVariants.{Gap, Dead, Circle}
use Rattle.lr_check_flaws.specs.Flaws.{StepsTo, Along, along_one, along_on, IsFlaw}

module _ (A : Automaton) (f : FoundView) (i p : ℕ) (x : Place) (s : List Sym) (found : IsFound A f) (at : SettlesAt f i x s p) where
  sound : IsSoundSettling A f i at.entry
  sound = found.settlings i at.entry at.there

  same_place : sound.place ≡ x
  same_place = same_Some sound.place x (sym sound.there ∙ at.place)

  same_list : sound.list ≡ s
  same_list = same_Some sound.list s (sym sound.symbols ∙ at.list)

  -- the settling is one of the sets
  pub settles : sets.Settling A x.state x.token x.behind s
  settles = subst (sets.Settling A x.state x.token x.behind) same_list
      (subst (λ (y : Place). sets.Settling A y.state y.token y.behind sound.list) same_place sound.settles)

  -- and leads to its state
  pub leads : walk A x.state s ≡ Some p
  leads = ap (walk A x.state) (sym same_list) ∙ (ap (λ (y : Place). walk A y.state sound.list) (sym same_place) ∙ (sym sound.behind ∙ at.behind))

module _ (A : Automaton) (q : ℕ) (t : Tok) where
  abbrev class : ℕ → List Sym
  class c = grammar_symbol.Class c ∷ []

  -- what a step makes of a class alone
  comes : (c d : ℕ) (s : StepsTo A q t c d) → reduced s.rule (class c) ≡ class d
  comes c d s = ap (λ n. grammar_symbol.Class s.rule.left ∷ drop n (class c)) s.one ∙ ap class s.left

  pub circles : (c d : ℕ) (ds : List ℕ) → Along A q t c ds d → Circles A q t (class c) (class d)
  circles c d _ (along_one s) = subst (Circles A q t (class c)) (comes c d s) (Circles.one s.rule s.go s.free s.one)
  circles c e _ (along_on {d = d} {ds = ds} h s) =
      subst (Circles A q t (class c)) (comes d e s) (Circles.more s.rule (circles c d ds h) s.go s.free s.one)

pub faulty : (A : Automaton) (f : FoundView) (w : Flaw) → IsFound A f → IsFlaw A f w → Fault A
faulty A f (Gap n) found h = gap (found.places n h.place h.there).is_place h.unshifted
faulty A f (Dead i) found h = dead (settles A f i h.behind h.place h.list found h.settles) (leads A f i h.behind h.place h.list found h.settles) h.nothing
faulty A f (Circle i classes) found h = circle
    (settles A f i h.behind h.place (grammar_symbol.Class h.class ∷ []) found h.settles)
    (circles A h.place.state h.place.behind h.class h.class classes.items h.along)

-- Functions that want other locals, one by one.
use Rattle.std.proofs.Common.{◌≡◌, ℕ, zero, suc, List, [], ◌∷◌, ◌++◌, length, Option, Some, None, refl, sym, ap, subst}
use Rattle.std.specs.Prelude.{slice_get}
use Rattle.std.specs.List.{All, AllByRecursion}
use Rattle.std.proofs.lemmas.List.Elements.{All-from_recursion, recursion_from_All}
use Rattle.tree_core.specs.declared.program.TreeFn.{TreeFn}
use Rattle.tree_core.specs.declared.program.TreeProgram.{TreeProgram}
use Rattle.tree_homes.specs.Rehoming.{Choosing, IsRehomedFunction, AreRehomed, IsRehomed, anything}

module _ (chooses : Choosing) where
  -- what is true of a function and the same one that wants any other locals
  pub over : (P : TreeFn → TreeFn → Type 0) → ((f : TreeFn) (w : List ℕ) → P f (record f { wanted = w })) → (f g : TreeFn) → IsRehomedFunction chooses f g → P f g
  over P base f g h = subst (λ (x : TreeFn). P f x) (sym h.is) (base f _)

  -- ---- the two lists

  pub lengths_same : (fs gs : List TreeFn) → AreRehomed chooses fs gs → length gs ≡ length fs
  lengths_same [] [] h = refl
  lengths_same [] (g ∷ gs) h = absurd h
  lengths_same (f ∷ fs) [] h = absurd h
  lengths_same (f ∷ fs) (g ∷ gs) h = ap suc (lengths_same fs gs h.1)

  pub one_more : (fs gs : List TreeFn) (f g : TreeFn) → AreRehomed chooses fs gs → IsRehomedFunction chooses f g → AreRehomed chooses (fs ++ f ∷ []) (gs ++ g ∷ [])
  one_more [] [] f g h r = (r, tt)
  one_more [] (k ∷ gs) f g h r = absurd h
  one_more (e ∷ fs) [] f g h r = absurd h
  one_more (e ∷ fs) (k ∷ gs) f g h r = (h.0, one_more fs gs f g h.1 r)

  moved : (P Q : TreeFn → Type 0) → ((f g : TreeFn) → IsRehomedFunction chooses f g → P f → Q g) → (fs gs : List TreeFn) → AreRehomed chooses fs gs
      → AllByRecursion P fs → AllByRecursion Q gs
  moved P Q each [] [] h k = tt
  moved P Q each [] (g ∷ gs) h k = absurd h
  moved P Q each (f ∷ fs) [] h k = absurd h
  moved P Q each (f ∷ fs) (g ∷ gs) h k = (each f g h.0 k.0, moved P Q each fs gs h.1 k.1)

  -- what is true of each function, of each pair of places
  pub all_moved : (P Q : TreeFn → Type 0) → ((f g : TreeFn) → IsRehomedFunction chooses f g → P f → Q g) → (fs gs : List TreeFn) → AreRehomed chooses fs gs
      → All P fs → All Q gs
  all_moved P Q each fs gs h k = All-from_recursion Q gs (moved P Q each fs gs h (recursion_from_All P fs k))

  pub each_moved : (P Q : TreeFn → Type 0) → ((f g : TreeFn) → IsRehomedFunction chooses f g → P f → Q g) → (fs gs : List TreeFn) → AreRehomed chooses fs gs
      → AllByRecursion P fs → AllByRecursion Q gs
  each_moved = moved

  -- ---- what stands at a place

  -- two functions or none
  abbrev pub AreBoth : Option TreeFn → Option TreeFn → Type 0
  AreBoth None None = Unit {0}
  AreBoth None (Some g) = ⊥
  AreBoth (Some f) None = ⊥
  AreBoth (Some f) (Some g) = IsRehomedFunction chooses f g

  pub both_at : (fs gs : List TreeFn) → AreRehomed chooses fs gs → (n : ℕ) → AreBoth (slice_get fs n) (slice_get gs n)
  both_at [] [] h n = tt
  both_at [] (g ∷ gs) h n = absurd h
  both_at (f ∷ fs) [] h n = absurd h
  both_at (f ∷ fs) (g ∷ gs) h zero = h.0
  both_at (f ∷ fs) (g ∷ gs) h (suc n) = both_at fs gs h.1 n

  -- a function that is rehomed to another one
  pub record IsOf (f : Option TreeFn) (g : TreeFn) : Type 0 where
    pub first : TreeFn
    pub is : f ≡ Some first
    pub rehomed : IsRehomedFunction chooses first g

  pub record IsTo (f : TreeFn) (g : Option TreeFn) : Type 0 where
    pub second : TreeFn
    pub is : g ≡ Some second
    pub rehomed : IsRehomedFunction chooses f second

  first_of_both : (o : Option TreeFn) (g : TreeFn) → AreBoth o (Some g) → IsOf o g
  first_of_both None g h = absurd h
  first_of_both (Some f) g h = record { first = f; is = refl; rehomed = h }

  second_of_both : (f : TreeFn) (o : Option TreeFn) → AreBoth (Some f) o → IsTo f o
  second_of_both f None h = absurd h
  second_of_both f (Some g) h = record { second = g; is = refl; rehomed = h }

  pub first_at : (fs gs : List TreeFn) → AreRehomed chooses fs gs → (n : ℕ) (g : TreeFn) → slice_get gs n ≡ Some g → IsOf (slice_get fs n) g
  first_at fs gs h n g e = first_of_both (slice_get fs n) g (subst (λ (o : Option TreeFn). AreBoth (slice_get fs n) o) e (both_at fs gs h n))

  pub second_at : (fs gs : List TreeFn) → AreRehomed chooses fs gs → (n : ℕ) (f : TreeFn) → slice_get fs n ≡ Some f → IsTo f (slice_get gs n)
  second_at fs gs h n f e = second_of_both f (slice_get gs n) (subst (λ (o : Option TreeFn). AreBoth o (slice_get gs n)) e (both_at fs gs h n))

  -- ---- by the choice that lets every list through

  any_functions : (fs gs : List TreeFn) → AreRehomed chooses fs gs → AreRehomed anything fs gs
  any_functions [] [] h = tt
  any_functions [] (g ∷ gs) h = absurd h
  any_functions (f ∷ fs) [] h = absurd h
  any_functions (f ∷ fs) (g ∷ gs) h = (record { chosen = h.0.chosen; is_chosen = tt; is = h.0.is }, any_functions fs gs h.1)

  pub weaken : (p q : TreeProgram) → IsRehomed chooses p q → IsRehomed anything p q
  weaken p q h = record { functions = any_functions p.functions q.functions h.functions; objects = h.objects }

-- What a choice decides: one program where it picks one list of each function, and the program itself where that is the declared one.
use Rattle.std.proofs.Common.{◌≡◌, ℕ, List, [], ◌∷◌, refl, sym, ap, ◌∙◌}
use Rattle.std.specs.List.{AllByRecursion}
use Rattle.std.proofs.lemmas.List.Elements.{recursion_from_All}
use Rattle.tree_core.specs.declared.program.TreeFn.{TreeFn}
use Rattle.tree_core.specs.declared.program.TreeProgram.{TreeProgram}
use Rattle.tree_core.specs.Valid.{WantedStand}
use Rattle.tree_homes.specs.Rehoming.{Choosing, standing, IsRehomedFunction, AreRehomed, IsRehomed, ChoosesOne, picking, declared}
use Rattle.tree_homes.specs.Claims.{RehomedIsOne, DeclaredIsSame}
use Rattle.tree_homes.proofs.Standing.{standing_stays}

-- programs of the same functions and objects
same_program : (p q : TreeProgram) → q.functions ≡ p.functions → q.objects ≡ p.objects → q ≡ p
same_program p q e o = λ i. record { functions = e i; objects = o i }

module _ (chooses : Choosing) (one : ChoosesOne chooses) where
  one_function : (f g k : TreeFn) → IsRehomedFunction chooses f g → IsRehomedFunction chooses f k → g ≡ k
  one_function f g k a b =
      a.is ∙ ap (λ (l : List ℕ). record f { wanted = standing f.locals [] l }) (one f a.chosen b.chosen a.is_chosen b.is_chosen) ∙ sym b.is

  one_list : (fs gs ks : List TreeFn) → AreRehomed chooses fs gs → AreRehomed chooses fs ks → gs ≡ ks
  one_list [] [] [] a b = refl
  one_list [] [] (k ∷ ks) a b = absurd b
  one_list [] (g ∷ gs) ks a b = absurd a
  one_list (f ∷ fs) [] ks a b = absurd a
  one_list (f ∷ fs) (g ∷ gs) [] a b = absurd b
  one_list (f ∷ fs) (g ∷ gs) (k ∷ ks) a b =
      let here = one_function f g k a.0 b.0 in
      let rest = one_list fs gs ks a.1 b.1 in
      λ i. here i ∷ rest i

  -- two programs of one by such a choice
  pub programs_are_one : (p q r : TreeProgram) → IsRehomed chooses p q → IsRehomed chooses p r → q ≡ r
  programs_are_one p q r a b = same_program r q (one_list p.functions q.functions r.functions a.functions b.functions) (a.objects ∙ sym b.objects)

pub rehomed_is_one : RehomedIsOne
rehomed_is_one pick = programs_are_one (picking pick) (λ f l m a b. a ∙ sym b)

same_function : (f g : TreeFn) → WantedStand f → IsRehomedFunction declared f g → g ≡ f
same_function f g stands h =
    h.is ∙ ap (λ (l : List ℕ). record f { wanted = l }) (ap (standing f.locals []) h.is_chosen ∙ standing_stays f.locals f.wanted stands)

same_list : (fs gs : List TreeFn) → AllByRecursion WantedStand fs → AreRehomed declared fs gs → gs ≡ fs
same_list [] [] stand h = refl
same_list [] (g ∷ gs) stand h = absurd h
same_list (f ∷ fs) [] stand h = absurd h
same_list (f ∷ fs) (g ∷ gs) stand h =
    let here = same_function f g stand.0 h.0 in
    let rest = same_list fs gs stand.1 h.1 in
    λ i. here i ∷ rest i

pub declared_is_same : DeclaredIsSame
declared_is_same p q valid h = same_program p q (same_list p.functions q.functions (recursion_from_All WantedStand p.functions valid.wanted) h.functions) h.objects

-- Programs whose functions want other locals run alike: a step looks at the functions' items, names and numbers of arguments alone.
use Rattle.std.proofs.Common.{◌≡◌, ℕ, zero, suc, ◌+◌, Bool, true, false, cond, List, [], ◌∷◌, length, Option, Some, None, refl, sym, ap, subst, ◌∙◌}
use Rattle.std.specs.Prelude.{◌-◌, nat_lt, codes, slice_get, take}
use Rattle.std.specs.Str.{bytes_eq}
use Rattle.gg_base.specs.declared.limits.TheConstants.{ACTIVE_CALL_LIMIT}
use Rattle.gg_base.specs.declared.run.Finish.TheVariants as finish
use Rattle.gg_base.specs.Runs.{Outcome, Runs, one_first}
use Rattle.gg_base.specs.Follows.{Follows}
use Rattle.tree_core.specs.declared.program.Object.{Object}
use Rattle.tree_core.specs.declared.program.TreeFn.{TreeFn}
use Rattle.tree_core.specs.declared.program.TreeProgram.{TreeProgram}
use Rattle.tree_core.specs.Trees.{Forest, grown}
use Rattle.tree_meaning.specs.Deeds.{Deed, Calls, tree_deed}
use Rattle.tree_meaning.specs.State.{State, Next, over, tree_at, sight}
use Rattle.tree_meaning.specs.Steps.{Step, Enters, Ends, without_pushed, entered, served, called_as, deed_step, tree_step, next, written}
use Rattle.tree_meaning.specs.Meaning.{first_written, carried, run, main_at, main_of, first_at, tree_run}
use Rattle.tree_homes.specs.Rehoming.{Choosing, IsRehomedFunction, AreRehomed, IsRehomed, anything}
use Rattle.tree_homes.specs.Claims.{RehomedRunsAlike, RehomedFollows}
use Rattle.tree_homes.proofs.Pairs as pairs

module _ (chooses : Choosing) (p q : TreeProgram) (h : IsRehomed chooses p q) where
  -- ---- one step, as anything sees it that looks at no function's wanted locals

  module _ {X : Type 0} (see : Step → X) (blind : (f : TreeFn) (w args : List ℕ) (s : State) → see (Enters (record f { wanted = w }) args s) ≡ see (Enters f args s)) where
    entered_or_deep : (b : Bool) (f : TreeFn) (w args : List ℕ) (s : State)
        → see (cond b (Enters (record f { wanted = w }) args s) (Ends finish.Deep)) ≡ see (cond b (Enters f args s) (Ends finish.Deep))
    entered_or_deep true f w args s = blind f w args s
    entered_or_deep false f w args s = refl

    entered_same : (f g : TreeFn) → IsRehomedFunction chooses f g → (args : List ℕ) (s : State) → see (entered s g args) ≡ see (entered s f args)
    entered_same f g r args s =
        pairs.over chooses (λ (x y : TreeFn). see (entered s y args) ≡ see (entered s x args))
        (λ x w. entered_or_deep (nat_lt (1 + length s.callers) ACTIVE_CALL_LIMIT) x w args s) f g r

    called_same : (s : State) (o r : Option TreeFn) (m n : ℕ) (args : List ℕ) → pairs.AreBoth chooses o r → n ≡ m → see (called_as s r n args) ≡ see (called_as s o m args)
    called_same s None None m n args b e = ap (λ (k : ℕ). see (served s k args)) e
    called_same s None (Some g) m n args b e = absurd b
    called_same s (Some f) None m n args b e = absurd b
    called_same s (Some f) (Some g) m n args b e = entered_same f g b args s

    deed_same : (s : State) (d : Deed) → see (deed_step q s d) ≡ see (deed_step p s d)
    deed_same s (Calls function count) =
        called_same (without_pushed s count) (slice_get p.functions function) (slice_get q.functions function) (function - length p.functions) (function - length q.functions)
        (take count s.running.pushed) (pairs.both_at chooses p.functions q.functions h.functions function)
        (ap (λ (n : ℕ). function - n) (pairs.lengths_same chooses p.functions q.functions h.functions))
    deed_same s d = refl

    pub step_same : (s : State) (f : Forest) → see (tree_step q s f) ≡ see (tree_step p s f)
    step_same s f = ap (λ (os : List Object). see (deed_step q s (tree_deed os (sight s) f))) h.objects ∙ deed_same s (tree_deed p.objects (sight s) f)

  -- ---- all steps

  run_same : (n : ℕ) (x : Next) → run q n x ≡ run p n x
  run_same n (over e) = refl
  run_same zero (tree_at w s) = refl
  run_same (suc n) (tree_at w s) =
      ap (λ (o : Outcome). one_first (first_written (written (tree_step q s (grown w))) o)) (run_same n (next (tree_step q s (grown w))))
      ∙ ap one_first (step_same (carried (run p n)) (λ f v args t. refl) s (grown w))

  -- ---- where they begin

  main_or_rest : (input : List ℕ) (rest other : Option TreeFn) → main_at p other input ≡ main_at p rest input → (b : Bool) (f : TreeFn) (w : List ℕ)
      → main_at p (cond b (Some (record f { wanted = w })) other) input ≡ main_at p (cond b (Some f) rest) input
  main_or_rest input rest other e true f w = refl
  main_or_rest input rest other e false f w = e

  main_same : (input : List ℕ) (fs gs : List TreeFn) → AreRehomed chooses fs gs → main_at p (main_of gs) input ≡ main_at p (main_of fs) input
  main_same input [] [] k = refl
  main_same input [] (g ∷ gs) k = absurd k
  main_same input (f ∷ fs) [] k = absurd k
  main_same input (f ∷ fs) (g ∷ gs) k =
      let rest = main_same input fs gs k.1 in
      pairs.over chooses
      (λ (x y : TreeFn). main_at p (cond (bytes_eq y.name (codes "main")) (Some y) (main_of gs)) input ≡ main_at p (cond (bytes_eq x.name (codes "main")) (Some x) (main_of fs)) input)
      (λ x w. main_or_rest input (main_of fs) (main_of gs) rest (bytes_eq x.name (codes "main")) x w) f g k.0

  begins_same : (o : Option TreeFn) (input : List ℕ) → main_at q o input ≡ main_at p o input
  begins_same None input = refl
  begins_same (Some g) input = ap (λ (os : List Object). main_at (record p { objects = os }) (Some g) input) h.objects

  pub first_same : (input : List ℕ) → first_at q input ≡ first_at p input
  first_same input = begins_same (main_of q.functions) input ∙ main_same input p.functions q.functions h.functions

  pub runs_same : (input : List ℕ) (n : ℕ) → tree_run q input n ≡ tree_run p input n
  runs_same input n = run_same n (first_at q input) ∙ ap (run p n) (first_same input)

  pub follow_same : (source : Runs) (input : List ℕ) → Follows source (tree_run p input) → Follows source (tree_run q input)
  follow_same source input k = let same : tree_run q input ≡ tree_run p input = λ i n. runs_same input n i in subst (Follows source) (sym same) k

pub rehomed_runs_alike : RehomedRunsAlike
rehomed_runs_alike = runs_same anything

pub rehomed_follows : RehomedFollows
rehomed_follows = follow_same anything

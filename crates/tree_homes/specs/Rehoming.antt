-- Programs whose functions want other locals in registers, by a choice.
use Rattle.std.specs.Prelude.{◌≡◌, ℕ, ◌==◌, ◌&&◌, nat_lt, not, cond, List, [], ◌∷◌, ◌++◌}
use Rattle.std.specs.List.{list_any}
use Rattle.tree_core.specs.declared.program.TreeFn.{TreeFn}
use Rattle.tree_core.specs.declared.program.TreeProgram.{TreeProgram}

-- which lists of numbers may be chosen of a function
abbrev pub Choosing : Type 1
Choosing = TreeFn → List ℕ → Type 0

-- one number more stands behind others, if it is a local's and none of them
abbrev pub with_local : ℕ → List ℕ → ℕ → List ℕ
with_local locals kept n = cond (nat_lt n locals && not (list_any (λ k. k == n) kept)) (kept ++ n ∷ []) kept

-- so does each of a list: of so many locals, each stands where it is listed first
abbrev pub standing : ℕ → List ℕ → List ℕ → List ℕ
standing locals kept [] = kept
standing locals kept (n ∷ ns) = standing locals (with_local locals kept n) ns

-- The function wants those locals that are chosen of it, and is else the same.
pub record IsRehomedFunction (chooses : Choosing) (f g : TreeFn) : Type 0 where
  pub chosen : List ℕ
  pub is_chosen : chooses f chosen
  pub is : g ≡ record f { wanted = standing f.locals [] chosen }

-- functions one by one
abbrev pub AreRehomed : Choosing → List TreeFn → List TreeFn → Type 0
AreRehomed chooses [] [] = Unit {0}
AreRehomed chooses (f ∷ fs) (g ∷ gs) = IsRehomedFunction chooses f g × AreRehomed chooses fs gs
AreRehomed chooses _ _ = ⊥

-- a program whose functions want what is chosen of them
pub record IsRehomed (chooses : Choosing) (p q : TreeProgram) : Type 0 where
  pub functions : AreRehomed chooses p.functions q.functions
  pub objects : q.objects ≡ p.objects

-- the choice that lets every list through
abbrev pub anything : Choosing
anything f chosen = Unit {0}

-- of each function one list alone may be chosen
abbrev pub ChoosesOne : Choosing → Type 0
ChoosesOne chooses = (f : TreeFn) (l m : List ℕ) → chooses f l → chooses f m → l ≡ m

-- a choice that picks one list of each function
abbrev pub picking : (TreeFn → List ℕ) → Choosing
picking pick f chosen = chosen ≡ pick f

-- the choice of the locals that the source declares `register`
abbrev pub declared : Choosing
declared f chosen = chosen ≡ f.wanted

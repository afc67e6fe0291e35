-- What runs the moves of a parse.
use Rattle.std.specs.Prelude.{◌≡◌, ℕ, List, [], ◌∷◌, Option, Some, true, length, slice_get}
use Rattle.tree_core.specs.declared.tree.Leaf.{Leaf}
use Rattle.tree_core.specs.declared.program.Object.{Object}
use Rattle.tree_core.specs.Attributes.{leaf_fits}
use Rattle.sel_terms_trees.specs.tree_meaning.specs.Values.{Sight}
use Rattle.sel_terms_trees.specs.tree_meaning.specs.Deeds.{Deed, Traps}
use Rattle.md_reader.specs.declared.types.Kind.{Kind}
use Rattle.md_reader.specs.declared.types.Kind.TheVariants as kind
use Rattle.md_reader.specs.declared.types.Class.{Class}
use Rattle.md_reader.specs.declared.types.Rule.{Rule}
use Rattle.md_reader.specs.declared.types.Sym.{Sym}
use Rattle.md_reader.specs.declared.types.Sym.TheVariants as grammar_symbol
use Rattle.md_reader.specs.Patterns.{kind_at}
use Rattle.term_core.specs.Value.{State}
use Rattle.sel_terms_trees.specs.sel_terms.specs.Reading.{effect_read}
use Rattle.lr_check_parse.specs.Attributes.{Selecting, answered}
use Rattle.sel_terms_trees.specs.Senses.{Sense, OfLeaf, OfNumber, OfPlace, IsPlace, piled, StandsFor}
use Rattle.sel_terms_trees.specs.Effects.{GivesBy, DoesBy, TrapsBy}
use Rattle.sel_parse_moves.specs.Possible.{IsPossible}

-- a class of this kind can stand for it: one of places for a place of its size, one of a statement for nothing, any other for a number
abbrev pub SenseFits : Option Kind → Sense → Type 0
SenseFits (Some (kind.Place z)) (OfPlace g) = IsPlace z g
SenseFits (Some (kind.Place z)) v = ⊥
SenseFits (Some kind.Nothing) v = ⊥
SenseFits (Some k) (OfNumber n) = Unit {0}
SenseFits k v = ⊥

-- A selection with a meaning. `Stands` is what it keeps of the stack: what the symbols stand for, the top first. Each
-- reduction makes of a rule's symbols what the wanted effect of the rule's pattern makes of them, whatever numbers the
-- symbols have that stand for these senses. Of the restrictions it is told that they held.
pub record Interprets {X A : Type 0} (of : Selecting X A) (classes : List Class) (rules : List Rule) (objects : List Object)
    (s : Sight) : Type 1 where
  -- the leaves that it takes: those that name what is in the program, say
  pub Names : Leaf → Type 0
  pub Stands : X → List Sym → List Sense → Type 0
  pub Trapped : X → Type 0
  pub Did : X → Deed → Type 0
  pub shifts : (x : X) (l : Leaf) (a : List Sym) (us : List Sense) →
      leaf_fits l ≡ true → Names l → Stands x a us → Stands (of.shifted l x) (grammar_symbol.Tok l.tok ∷ a) (OfLeaf l ∷ us)
  pub gives : (x x' : X) (n : ℕ) (r : Rule) (a : List Sym) (us vs : List Sense) (v : Sense) →
      slice_get rules n ≡ Some r → length vs ≡ length r.right → answered of r x ≡ true → Stands x (piled r.right a) (piled vs us) →
      SenseFits (kind_at classes r.left) v →
      ((m : State) → StandsFor objects s vs m → GivesBy objects s vs (effect_read classes r) v m) →
      of.reduced n x ≡ Some x' → Stands x' (grammar_symbol.Class r.left ∷ a) (v ∷ us)
  pub does : (x x' : X) (n : ℕ) (r : Rule) (vs : List Sense) (d : Deed) →
      slice_get rules n ≡ Some r → length vs ≡ length r.right → answered of r x ≡ true → Stands x (piled r.right []) (piled vs []) →
      kind_at classes r.left ≡ Some kind.Nothing →
      ((m : State) → StandsFor objects s vs m → DoesBy objects s vs (effect_read classes r) d m) → IsPossible s.area d →
      of.reduced n x ≡ Some x' → Did x' d
  pub traps : (x x' : X) (n : ℕ) (r : Rule) (a : List Sym) (us vs : List Sense) →
      slice_get rules n ≡ Some r → length vs ≡ length r.right → answered of r x ≡ true → Stands x (piled r.right a) (piled vs us) →
      ((m : State) → StandsFor objects s vs m → TrapsBy objects s vs (effect_read classes r) m) →
      of.reduced n x ≡ Some x' → Trapped x'
  -- a trapped selection stays trapped
  pub shifts_trapped : (x : X) (l : Leaf) → Trapped x → Trapped (of.shifted l x)
  pub reduces_trapped : (x x' : X) (n : ℕ) → Trapped x → of.reduced n x ≡ Some x' → Trapped x'

-- the deed was done: a zero divisor traps
abbrev pub Ran : {X A : Type 0} {of : Selecting X A} {classes : List Class} {rules : List Rule} {objects : List Object} {s : Sight}
    → Interprets of classes rules objects s → X → Deed → Type 0
Ran I x Traps = I.Trapped x
Ran I x d = I.Did x d

-- one for any classes and rules, any objects, and whatever is seen
abbrev pub Interpreting : {X A : Type 0} → Selecting X A → Type 1
Interpreting of = (classes : List Class) (rules : List Rule) (objects : List Object) (s : Sight) → Interprets of classes rules objects s

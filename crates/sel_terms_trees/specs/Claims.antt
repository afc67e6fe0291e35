-- What the wanted effect of a rule makes of its symbols is what the tree that its pattern covers means.
use Rattle.std.specs.Prelude.{◌≡◌, ◌⊎◌, List, [], ◌∷◌, Some}
use Rattle.tree_core.specs.declared.token.Sort.TheVariants as sort
use Rattle.tree_core.specs.declared.tree.Leaf.{Leaf}
use Rattle.tree_core.specs.declared.program.Object.{Object}
use Rattle.tree_core.specs.Grammar.{kids}
use Rattle.tree_core.specs.Trees.{Forest, none, tree}
use Rattle.tree_meaning.specs.Values.{Sight}
use Rattle.tree_meaning.specs.Deeds.{Deed, Traps, Strays}
use Rattle.tree_meaning_tame.specs.Tame.{Tame, tree_means}
use Rattle.tree_meaning_tame.specs.Claims.{statement_deed}
use Rattle.sel_terms_meaning.specs.md_reader.specs.declared.types.Kind.{Kind}
use Rattle.sel_terms_meaning.specs.md_reader.specs.declared.types.Kind.TheVariants as kind
use Rattle.sel_terms_meaning.specs.md_reader.specs.declared.types.Class.{Class}
use Rattle.sel_terms_meaning.specs.md_reader.specs.declared.types.Rule.{Rule}
use Rattle.sel_terms_meaning.specs.md_reader.specs.Patterns.{sort_of_kind, kind_at, Trees, onto, sorted_test}
use Rattle.term_core.specs.Value.{State}
use Rattle.sel_terms_meaning.specs.sel_terms.specs.Effects.{EffectShape}
use Rattle.sel_terms_meaning.specs.sel_terms.specs.Reading.{effect_read}
use Rattle.sel_terms_trees.specs.Senses.{Sense, IsSense, Sensed, StandsFor}
use Rattle.sel_terms_trees.specs.Effects.{GivesBy, DoesBy, TrapsBy}

-- ---- a rule whose class stands for a value or a place

-- The effect gives what the tree stands for.
pub record GivesTree (classes : List Class) (r : Rule) (objects : List Object) (s : Sight) (us : List Sense) (l : Leaf)
    (f : Forest) : Type 0 where
  pub sense : Sense
  pub is : IsSense objects s (kind_at classes r.left) (tree_means objects s l f) sense
  pub gives : (m : State) → StandsFor objects s us m → GivesBy objects s us (effect_read classes r) sense m

-- It divides by zero.
abbrev pub TrapsTree : List Class → Rule → List Object → Sight → List Sense → Type 0
TrapsTree classes r objects s us = (m : State) → StandsFor objects s us m → TrapsBy objects s us (effect_read classes r) m

-- Whatever the rule's symbols stand for, so long as that is what the trees in their places mean, and no part of the covered tree is wild.
abbrev pub RulesMeanTrees : Type 0
RulesMeanTrees =
    (classes : List Class) (r : Rule) (k : Kind) (objects : List Object) (s : Sight)
    (pattern : Trees (sorted_test classes) (sort_of_kind k ∷ [])) (l : Leaf) (f : Forest) (us : List Sense)
    → kind_at classes r.left ≡ Some k → (k ≡ kind.Nothing → ⊥) → onto pattern [] ≡ r.right
    → Sensed objects s classes (sort_of_kind k ∷ []) pattern (tree l f none) us
    → Tame objects s (sort_of_kind k ∷ []) (tree l f none)
    → GivesTree classes r objects s us l f ⊎ TrapsTree classes r objects s us

-- ---- a rule for a statement

-- the effect is the deed; of a deed that strays nothing is said
abbrev pub ActsBy : List Object → Sight → List Sense → EffectShape → Deed → State → Type 0
ActsBy objects s us e Traps m = TrapsBy objects s us e m
ActsBy objects s us e Strays m = Unit {0}
ActsBy objects s us e d m = DoesBy objects s us e d m

abbrev pub StatementsMeanTrees : Type 0
StatementsMeanTrees =
    (classes : List Class) (r : Rule) (objects : List Object) (s : Sight)
    (pattern : Trees (sorted_test classes) (sort.Stmt ∷ [])) (l : Leaf) (f : Forest) (us : List Sense)
    → kind_at classes r.left ≡ Some kind.Nothing → onto pattern [] ≡ r.right
    → Sensed objects s classes (sort.Stmt ∷ []) pattern (tree l f none) us → Tame objects s (kids l.tok) f
    → (m : State) → StandsFor objects s us m → ActsBy objects s us (effect_read classes r) (statement_deed objects s l f) m

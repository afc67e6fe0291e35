-- The laws, in the words of the claims.
use Rattle.std.proofs.Common.{◌≡◌, ◌⊎◌, inl, inr, ◌+◌, List, [], ◌∷◌, ◌++◌, length, Option, Some, None, true, refl, sym, ap, subst}
use mathlib.Core.List.{append-nil}
use Rattle.std.specs.Option.{option_map}
use Rattle.gg_base.specs.declared.size.Size.TheVariants as sizes
use Rattle.tree_core.specs.declared.token.Sort.TheVariants as sort
use Rattle.tree_core.specs.declared.tree.Leaf.{Leaf}
use Rattle.tree_core.specs.declared.program.Object.{Object}
use Rattle.tree_core.specs.Grammar.{kids}
use Rattle.tree_core.specs.Trees.{Forest, none, tree, sort_fits}
use Rattle.tree_meaning.specs.Values.{Sight, meanings}
use Rattle.tree_meaning.specs.Deeds.{Deed, Puts, Branches, Pushes, Returns, Calls, Saves, Jumps, Traps, Strays}
use Rattle.tree_meaning_tame.specs.Tame.{Tame, tree_means}
use Rattle.tree_meaning_tame.specs.Claims.{statement_deed}
use Rattle.sel_terms_meaning.specs.md_reader.specs.declared.types.Kind.{Kind}
use Rattle.sel_terms_meaning.specs.md_reader.specs.declared.types.Kind.TheVariants as kind
use Rattle.sel_terms_meaning.specs.md_reader.specs.declared.types.Class.{Class}
use Rattle.sel_terms_meaning.specs.md_reader.specs.declared.types.Rule.{Rule}
use Rattle.sel_terms_meaning.specs.md_reader.specs.declared.types.Sym.{Sym}
use Rattle.sel_terms_meaning.specs.md_reader.specs.declared.types.Sym.TheVariants as grammar_symbol
use Rattle.sel_terms_meaning.specs.md_reader.specs.Patterns.{sort_of_kind, kind_at, Trees, no_tree, onto, sorted_test}
use Rattle.term_core.specs.Value.{State}
use Rattle.sel_terms_meaning.specs.sel_terms.specs.Effects.{EffectShape}
use Rattle.sel_terms_meaning.specs.sel_terms.specs.Parts.{SubtreeShape}
use Rattle.sel_terms_meaning.specs.sel_terms.specs.Wanted.{first_part}
use Rattle.sel_terms_meaning.specs.sel_terms.specs.Reading.{stack_from, effect_read}
use Rattle.sel_terms_trees.specs.Senses.{Sense, OfLeaf, IsSense, Sensed, StandsFor}
use Rattle.sel_terms_trees.specs.Senses as sense
use Rattle.sel_terms_trees.specs.Effects.{GivesBy, TrapsBy}
use Rattle.sel_terms_trees.specs.Claims.{GivesTree, TrapsTree, RulesMeanTrees, ActsBy, StatementsMeanTrees}
use Rattle.sel_terms_trees.proofs.Patterns.{Numbered, numbered, pattern_law}
use Rattle.sel_terms_trees.proofs.Rules.{effect_by, Comes, Fails, decided}
use Rattle.sel_terms_trees.proofs.Statements.{ActIs, act_law}

pub effect_is : (classes : List Class) (r : Rule) (k : Kind) → kind_at classes r.left ≡ Some k
    → effect_read classes r ≡ effect_by (Some k) (first_part (stack_from classes 1 r.right))
effect_is classes r k e = ap (λ (o : Option Kind). effect_by o (first_part (stack_from classes 1 r.right))) e

pub rules_mean_trees : RulesMeanTrees
rules_mean_trees classes r k objects s pattern l f us is some spelled sensed tame =
    by (decided objects s classes k r.right refl sensed spelled tame some)
  where
    part : SubtreeShape
    part = first_part (stack_from classes 1 r.right)

    by : Comes objects s us k (first_part (stack_from classes 1 r.right)) (tree_means objects s l f)
        ⊎ Fails objects s us k (first_part (stack_from classes 1 r.right)) (tree_means objects s l f)
        → GivesTree classes r objects s us l f ⊎ TrapsTree classes r objects s us
    by (inl c) = inl (record {
      sense = c.sense;
      is = subst (λ (o : Option Kind). IsSense objects s o (tree_means objects s l f) c.sense) (sym is) c.is;
      gives = λ m st. subst (λ (e : EffectShape). GivesBy objects s us e c.sense m) (sym (effect_is classes r k is)) (c.gives m st);
    })
    by (inr c) = inr (λ m st. subst (λ (e : EffectShape). TrapsBy objects s us e m) (sym (effect_is classes r k is)) (c.traps m st))

no_statement : (objects : List Object) (s : Sight) (o : Option Kind) (l : Leaf) (f : Forest) (v : Sense)
    → sort_fits (option_map sort_of_kind o) sort.Stmt ≡ true → IsSense objects s o (tree_means objects s l f) v → ⊥
no_statement objects s None l f v e h = h
no_statement objects s (Some kind.Reg) l f v e h = cc
no_statement objects s (Some kind.Con) l f v e h = cc
no_statement objects s (Some kind.Ea) l f v e h = cc
no_statement objects s (Some kind.Nothing) l f v e h = h
no_statement objects s (Some (kind.Value sizes.Byte)) l f v e h = cc
no_statement objects s (Some (kind.Value sizes.Word)) l f v e h = cc
no_statement objects s (Some (kind.Value sizes.Long)) l f v e h = cc
no_statement objects s (Some (kind.Place sizes.Byte)) l f v e h = cc
no_statement objects s (Some (kind.Place sizes.Word)) l f v e h = cc
no_statement objects s (Some (kind.Place sizes.Long)) l f v e h = cc

acts_by : (objects : List Object) (s : Sight) (us : List Sense) (m : State) (p : SubtreeShape) (d : Deed)
    → ActIs objects s us m p d → ActsBy objects s us (effect_by (Some kind.Nothing) p) d m
acts_by objects s us m p (Puts g n) h = h
acts_by objects s us m p (Branches rel label x y) h = h
acts_by objects s us m p (Pushes n) h = h
acts_by objects s us m p (Returns n) h = h
acts_by objects s us m p (Calls g n) h = h
acts_by objects s us m p (Saves k) h = h
acts_by objects s us m p (Jumps k) h = h
acts_by objects s us m p Traps h = h
acts_by objects s us m p Strays h = tt

module _ (classes : List Class) (r : Rule) (objects : List Object) (s : Sight) (is : kind_at classes r.left ≡ Some kind.Nothing) (m : State) where
  statement_means : {pattern : Trees (sorted_test classes) (sort.Stmt ∷ [])} {l : Leaf} {f : Forest} {us : List Sense} → onto pattern [] ≡ r.right
      → Sensed objects s classes (sort.Stmt ∷ []) pattern (tree l f none) us → Tame objects s (kids l.tok) f
      → StandsFor objects s us m → ActsBy objects s us (effect_read classes r) (statement_deed objects s l f) m
  statement_means spelled (sense.token {f = f} {us = vs} l passes below no_tree fits p sense.nothing) tame st =
      subst (λ (e : EffectShape). ActsBy objects s (OfLeaf l ∷ (vs ++ [])) e (statement_deed objects s l f) m) (sym (effect_is classes r kind.Nothing is))
      (acts_by objects s (OfLeaf l ∷ (vs ++ [])) m (first_part (stack_from classes 1 r.right)) (statement_deed objects s l f)
      (subst (λ (t : List Sym). ActIs objects s (OfLeaf l ∷ (vs ++ [])) m (first_part (stack_from classes 1 t)) (statement_deed objects s l f)) spelled acts))
    where
      all : List Sense
      all = OfLeaf l ∷ (vs ++ [])

      counted : (us : List Sense) → us ≡ vs → Numbered (OfLeaf l ∷ us) 2 us → Numbered (OfLeaf l ∷ us) 2 vs
      counted us e n = subst (Numbered (OfLeaf l ∷ us) 2) e n

      acts : ActIs objects s (OfLeaf l ∷ (vs ++ [])) m (first_part (stack_from classes 1 (grammar_symbol.Tok l.tok ∷ onto below []))) (statement_deed objects s l f)
      acts =
          let n = numbered (OfLeaf l ∷ (vs ++ [])) in
          let e = pattern_law objects s (OfLeaf l ∷ (vs ++ [])) m st classes p 2 [] (counted (vs ++ []) (append-nil vs) n.1) tame in
          act_law objects s (OfLeaf l ∷ (vs ++ [])) m l.tok l.att (stack_from classes 2 (onto below [])) (stack_from classes (2 + length vs) [])
          (meanings objects s f) passes fits n.0 e
  statement_means spelled (sense.class {f = f} {l = l} c v passes no_tree no_tree h sense.nothing) tame st =
      absurd (no_statement objects s (kind_at classes c) l f v passes h)

pub statements_mean_trees : StatementsMeanTrees
statements_mean_trees classes r objects s pattern l f us is spelled sensed tame m st = statement_means classes r objects s is m spelled sensed tame st

-- What the code so far has come to, between two reductions.
use Rattle.std.specs.Prelude.{◌≡◌, ℕ, ◌≤◌, List, [], ◌∷◌, Some, None}
use Rattle.tree_core.specs.declared.program.TreeProgram.{TreeProgram}
use Rattle.tree_meaning.specs.Deeds.{Deed}
use Rattle.tree_meaning.specs.State.{State, Extent}
use Rattle.tree_meaning.specs.Steps.{deed_step}
use Rattle.tree_meaning.specs.Values.{Sight}
use Rattle.md_reader.specs.declared.types.Sym.{Sym}
use Rattle.md_reader.specs.declared.types.Sym.TheVariants as grammar_symbol
use Rattle.md_reader.specs.State.{Content}
use Rattle.sel_parse_moves.specs.sel_terms_trees.specs.Senses.{Sense}
use Rattle.sel_target.specs.Courses.{comes, traps}
use Rattle.sel_target.specs.Meaning.{Meaning}
use Rattle.sel_target.specs.StatementLaws.{IsStep}
use Rattle.sel_parse_stands.specs.sel_parse_selected.specs.Desk.{Stack}
use Rattle.sel_parse_stands.specs.sel_parse_selected.specs.Selected.{Kept}
use Rattle.sel_parse_stands.specs.Stands.{Sees, Holds}

-- no class is among the symbols: nothing has been reduced
abbrev pub OnlyTokens : List Sym → Type 0
OnlyTokens [] = Unit {0}
OnlyTokens (grammar_symbol.Tok t ∷ xs) = OnlyTokens xs
OnlyTokens (grammar_symbol.Class c ∷ xs) = ⊥

module _ {O I S F : Type 0} (of : Meaning O I S F) (q : TreeProgram) (d : Content) (first : ℕ) (f : Extent) (fs : List Extent)
    (t : State) (s : Sight) (m0 : S) where
  -- The code comes to a state in which the entries stand for what the symbols stand for; before the first reduction it is the first state.
  pub record Standing (x : Stack O I) (a : List Sym) (us : List Sense) : Type 0 where
    pub state : S
    pub ran : of.run x.code m0 ≡ comes state
    pub sees : Sees of q d first f fs t s m0 state
    pub live : of.live state ≡ of.live m0
    pub holds : Holds of q d first f fs t s m0 state x.entries a us
    pub first_run : OnlyTokens a → state ≡ m0

  -- Each of these holds if the frame has the words that the code uses, which are known at the end only, and none fewer are used later.
  -- Where nothing is kept, nothing is said.
  abbrev pub Stands : Kept O I → List Sym → List Sense → Type 0
  Stands None a us = Unit {0}
  Stands (Some x) a us = x.most ≤ f.words → Standing x a us

  -- the code traps
  abbrev pub Trapped : Kept O I → Type 0
  Trapped None = Unit {0}
  Trapped (Some x) = x.most ≤ f.words → of.run x.code m0 ≡ traps

  -- the code is the step of a deed
  abbrev pub Did : Kept O I → Deed → Type 0
  Did None deed = Unit {0}
  Did (Some x) deed = x.most ≤ f.words → IsStep of q f fs t m0 (of.run x.code m0) (deed_step q t deed)

-- What is true of an entry that goes to a slot, and of one that comes back.
use Rattle.std.specs.Prelude.{◌≡◌, ℕ, ◌≤◌, ◌<◌, List, [], ◌∷◌, Option, Some, true}
use Rattle.tree_core.specs.declared.program.TreeProgram.{TreeProgram}
use Rattle.tree_meaning.specs.State.{State, Extent}
use Rattle.tree_meaning.specs.Values.{Sight}
use Rattle.md_reader.specs.declared.types.Kind.{Kind}
use Rattle.md_reader.specs.declared.types.Kind.TheVariants as kind
use Rattle.md_reader.specs.declared.types.Sym.{Sym}
use Rattle.md_reader.specs.State.{Content}
use Rattle.sel_terms_trees.specs.Senses.{Sense, OfNumber}
use Rattle.sel_target.specs.declared.attr.Attr.{Attr}
use Rattle.sel_target.specs.declared.attr.Attr.TheVariants as attr
use Rattle.sel_target.specs.Courses.{comes}
use Rattle.sel_target.specs.Meaning.{Meaning, Spot, RegAt, WordAt}
use Rattle.sel_target.specs.Outcomes.{Keeps}
use Rattle.sel_target.specs.SavingLaws.{saving, reloading}
use Rattle.sel_target.specs.Symbols.{saving_line, reload_line}
use Rattle.sel_parse_selected.specs.Spills.{holds_register, in_slot}
use Rattle.sel_parse_stands.specs.Stands.{ClassIs, SymbolIs, Sees, IsFrame}
use Rattle.sel_parse_stands.specs.Lines.{LinesSave}

module _ {O I S F : Type 0} (of : Meaning O I S F) where
  -- the code comes to a state where this holds, and only the spot has changed
  pub record Comes (code : List I) (spot : Spot) (m : S) (holds : S → Type 0) : Type 0 where
    pub state : S
    pub ran : of.run code m ≡ comes state
    pub keeps : Keeps of (spot ∷ []) m state
    pub is : holds state

  -- an entry that holds a register stands in its slot for what it stood for
  abbrev pub EntriesAreSaved : Type 0
  EntriesAreSaved =
      (q : TreeProgram) (d : Content) (first : ℕ) (f : Extent) (fs : List Extent) (t : State) (s : Sight) (m0 m : S)
      → IsFrame of q d first f fs t s m0 → LinesSave of d → Sees of q d first f fs t s m0 m
      → (x : Sym) (k : Option Kind) (a : Attr O) (v : Sense) (w : ℕ) → first ≤ w → w < f.words
      → SymbolIs of q d first f fs t s m0 m x k a v → holds_register of (record { kind = k; attr = a }) ≡ true
      → Comes (saving of q (saving_line d k) a w) (WordAt w) m (λ n. SymbolIs of q d first f fs t s m0 n x k (in_slot of a w) v)

  -- and so does a register's that is reloaded
  abbrev pub RegistersAreReloaded : Type 0
  RegistersAreReloaded =
      (q : TreeProgram) (d : Content) (first : ℕ) (f : Extent) (fs : List Extent) (t : State) (s : Sight) (m0 m : S)
      → IsFrame of q d first f fs t s m0 → LinesSave of d → Sees of q d first f fs t s m0 m
      → (w r n : ℕ) → r < 12 → ClassIs of q d first f fs t s m0 m (Some kind.Reg) (attr.InSlot w) (OfNumber n)
      → Comes (reloading of q (reload_line d) w r) (RegAt r) m
      (λ k. ClassIs of q d first f fs t s m0 k (Some kind.Reg) (attr.Reg r) (OfNumber n))

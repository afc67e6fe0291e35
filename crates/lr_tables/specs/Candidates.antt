-- What may be done at a stack and a next token: the shift alone, or the reductions in order.
use Rattle.std.specs.Prelude.{◌≡◌, ◌⊎◌, ◌↔◌, ℕ, ◌<◌, List, [], ◌∷◌, Option, Some, None, Contains, AllPairs, length, map, slice_get}
use Rattle.tree_core.specs.declared.token.Tok.{Tok}
use Rattle.tree_core.specs.declared.token.Tok.TheVariants as tok
use Rattle.md_reader.specs.declared.types.Rule.{Rule}
use Rattle.md_reader.specs.declared.types.Sym.{Sym}
use Rattle.md_reader.specs.declared.types.Sym.TheVariants as grammar_symbol
use Rattle.lr_tables.specs.declared.item.Item.{Item}
use Rattle.lr_tables.specs.declared.types.Choice.{Choice}
use Rattle.lr_tables.specs.declared.types.Choice.TheVariants as choice
use Rattle.lr_tables.specs.Items.{right_of, next, Items}
use Rattle.lr_tables.specs.Follow.{Follow}
use Rattle.lr_tables.specs.View.{TableView}
use Rattle.lr_tables.specs.Leads.{Leads}

-- an item that is valid for the stack stands before the symbol
pub record StandsBefore (rules : List Rule) (stmt : ℕ) (a : List Sym) (X : Sym) : Type 0 where
  pub item : Item
  pub valid : Items rules stmt a item
  pub before : next rules stmt item ≡ Some X

-- the rule with this number is complete at the stack, and the token may come behind its class
pub record MayReduce (rules : List Rule) (stmt : ℕ) (a : List Sym) (t : Tok) (n : ℕ) : Type 0 where
  pub rule : Rule
  pub there : slice_get rules n ≡ Some rule
  pub complete : Items rules stmt a (record { rule = Some n; dot = length rule.right })
  pub behind : Follow rules stmt rule.left t

-- the longer rule goes first, then the one of the lower place
abbrev pub GoesFirst : List Rule → ℕ → ℕ → ℕ → Type 0
GoesFirst rules stmt m n =
    let long = length (right_of rules stmt (Some m)) in
    let other = length (right_of rules stmt (Some n)) in
    (other < long) ⊎ ((long ≡ other) × (m < n))

-- the rules by which may be reduced, in order
pub record AreReductions (rules : List Rule) (stmt : ℕ) (a : List Sym) (t : Tok) (ns : List ℕ) : Type 0 where
  pub ordered : AllPairs (GoesFirst rules stmt) ns
  pub exactly : (n : ℕ) → Contains ns n ↔ MayReduce rules stmt a t n

-- the shift alone if there is one, which accepts at `End`; else the reductions
pub data Candidates (rules : List Rule) (stmt : ℕ) (table : TableView) (a : List Sym) (t : Tok) : List Choice → Type 0 where
  accepts : StandsBefore rules stmt a (grammar_symbol.Tok t) → t ≡ tok.End → Candidates rules stmt table a t (choice.Accept ∷ [])
  shifts : {q : ℕ} →
      StandsBefore rules stmt a (grammar_symbol.Tok t) → (t ≡ tok.End → ⊥) → Leads table (grammar_symbol.Tok t ∷ a) q →
      Candidates rules stmt table a t (choice.Shift q ∷ [])
  reduces : {cs : List Choice} (ns : List ℕ) →
      (StandsBefore rules stmt a (grammar_symbol.Tok t) → ⊥) → AreReductions rules stmt a t ns → cs ≡ map choice.Reduce ns →
      Candidates rules stmt table a t cs

-- to where a class leads from the stack: nowhere exactly where no item stands before it
abbrev pub Goes : List Rule → ℕ → TableView → List Sym → ℕ → Option ℕ → Type 0
Goes rules stmt table a c None = StandsBefore rules stmt a (grammar_symbol.Class c) → ⊥
Goes rules stmt table a c (Some p) = StandsBefore rules stmt a (grammar_symbol.Class c) × Leads table (grammar_symbol.Class c ∷ a) p

-- The automaton of a description's tables.
use Rattle.std.specs.Prelude.{ℕ, List, [], ◌∷◌, ◌++◌, Option, Some, None, Bool, true, false, ◌==◌, length, map, slice_get, if◌then◌else◌}
use Rattle.tree_core.specs.declared.token.Tok.{Tok}
use Rattle.md_reader.specs.declared.types.Rule.{Rule}
use Rattle.md_reader.specs.declared.types.Sym.{Sym}
use Rattle.lr_tables.specs.declared.types.Choice.{Choice}
use Rattle.lr_tables.specs.declared.types.Choice.TheVariants as choice
use Rattle.lr_tables.specs.View.{TableView}
use Rattle.lr_tables.specs.Leads.{target_at, actions_at}
use Rattle.lr_tables.specs.Statements.{stmt_of}
use Rattle.lr_check_sets.specs.Automaton.{Production, Candidate, shift, reduce, Automaton}

-- a rule that is restricted asks
abbrev pub production : Rule → Production
production r = record { left = r.left; right = r.right; asks = if length r.restrictions == 0 then false else true }

abbrev pub productions : List Rule → List Production
productions rules = map production rules

-- the rule with this number; a number without a rule is no candidate
abbrev pub reduced_by : Option Rule → List Candidate
reduced_by None = []
reduced_by (Some r) = reduce (production r) ∷ []

-- accepting is a shift of the end
abbrev pub candidates_of : List Rule → List Choice → List Candidate
candidates_of rules [] = []
candidates_of rules (choice.Shift q ∷ cs) = shift ∷ candidates_of rules cs
candidates_of rules (choice.Accept ∷ cs) = shift ∷ candidates_of rules cs
candidates_of rules (choice.Reduce n ∷ cs) = reduced_by (slice_get rules n) ++ candidates_of rules cs

unfoldable pub candidates_at : TableView → ℕ → Tok → List Candidate
candidates_at t q k = candidates_of t.content.rules (actions_at t q k)

abbrev pub automaton_of : TableView → Automaton
automaton_of t = record {
  stmt = stmt_of t.content.classes;
  go = λ (q : ℕ) (X : Sym). target_at t q X;
  candidates =
      λ (q : ℕ) (k : Tok). candidates_at t q k;
}

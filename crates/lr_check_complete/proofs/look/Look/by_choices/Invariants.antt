use Rattle.std.proofs.Common.{◌≡◌, ℕ, Contains}
use Rattle.lr_tables.specs.declared.types.Choice.{Choice}
use Rattle.lr_check_found.specs.declared.choices.Leads.TheVariants.{Whole}
use Rattle.lr_check_found.specs.declared.settlings.How.TheVariants as how
use Rattle.lr_check_found.specs.Choices.{seen}
use Rattle.lr_check_found.specs.Items.{HasMade}
use Rattle.lr_check_found.proofs.Below.{Below}
use Rattle.lr_check_complete.specs.Looks.{automaton, Looks}
use Rattle.lr_check_complete.specs.Kids.{LeadsIn}
use Rattle.lr_check_complete.proofs.look.Look.by_choices.Given as goal

abbrev pub invariant-loop-choice : goal.invariant-loop-choice
invariant-loop-choice l =
    ((d : Choice) → Contains l.choices d → (k : ℕ) → (seen l.rules l.size d).leads ≡ Whole k → HasMade (automaton l.self) l.self.found.now l.number (how.Reduced l.settling k)) →
    Looks l.self l.fn.into.items l.into.items (Below l.choices l.choice-index (λ d. LeadsIn l.self.found.now l.number (seen l.rules l.size d).leads))

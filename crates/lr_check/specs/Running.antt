-- How the code's steps over a sample's tokens end.
use Rattle.std.specs.Prelude.{◌≡◌, ℕ, List, Some, None, length}
use Rattle.lr_tables.specs.View.{TableView}
use Rattle.lr_check.specs.declared.sample.Outcome.{Outcome}
use Rattle.lr_check.specs.declared.sample.Outcome.TheVariants as outcome
use Rattle.lr_check.specs.Tree.{Node}
use Rattle.lr_check.specs.Order.{IsOrder, IsLongOrder}
use Rattle.lr_check.specs.Steps.{Config, first_config, step}

-- the steps from here end so
pub data Halts (t : TableView) (nodes : List Node) (order : List ℕ) : Config → Outcome → Type 0 where
  over : {c : Config} {o : Outcome} →
      (step t nodes order c).ending ≡ Some o →
      Halts t nodes order c o
  onward : {c : Config} {o : Outcome} →
      (step t nodes order c).ending ≡ None → Halts t nodes order (step t nodes order c).config o →
      Halts t nodes order c o

-- the tree is too long, or the steps over its tokens from the empty stack end so
pub data Computes (t : TableView) (nodes : List Node) : Outcome → Type 0 where
  too_long : IsLongOrder nodes → Computes t nodes outcome.Long
  by_steps : {o : Outcome} (order : List ℕ) →
      IsOrder nodes order → Halts t nodes order (first_config (length t.content.classes)) o →
      Computes t nodes o

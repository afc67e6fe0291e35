-- Where labels stand.
use Rattle.std.specs.Prelude.{ℕ, ◌<◌, ◌≤◌, List}
use Rattle.tree_core.specs.declared.program.TreeItem.{TreeItem}
use Rattle.tree_core.specs.declared.program.TreeFn.{TreeFn}
use Rattle.tree_core.specs.declared.items.Mention.TheVariants as mention
use Rattle.tree_core.specs.Items.{labels, all_labels, times}

-- each label stands once in the whole program
abbrev pub LabelsOnce : List TreeFn → Type 0
LabelsOnce functions = (n : ℕ) → times n (all_labels functions) ≤ 1

-- the label to which a branch or jump goes stands among the same items
abbrev pub TargetsStandIn : List TreeItem → Type 0
TargetsStandIn items = (n : ℕ) → 0 < times n (labels mention.Target items) → 0 < times n (labels mention.Stands items)

abbrev pub TargetsStand : TreeFn → Type 0
TargetsStand f = TargetsStandIn f.items

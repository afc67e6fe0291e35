use Rattle.std.proofs.Common.{ℕ, List, sym, subst}
use Rattle.tree_core.specs.Grammar.{kids}
use Rattle.lr_check.specs.Statement.{KidsFit}
use Rattle.lr_check_nodes.proofs.Wholes.{from_if}
use Rattle.lr_check_nodes.proofs.growing.Growing.add_from.Goals as goal

pub add-requires : goal.add-requires
add-requires c = subst (λ (l : List ℕ). KidsFit c.add_kids.new.self l (kids c.args.token)) (sym c.deref.ensures.value) c.in_ok-numbers.ensures.fit

pub returns : goal.returns
returns c = from_if c.add.result c.args.self.now c.add_kids.new.self c.add.new.self c.args.token c.deref.result.now c.in_ok-numbers.ensures.grows c.add.ensures

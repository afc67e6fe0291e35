use Rattle.std.proofs.Common.{sym, arith}
use Rattle.lr_check_sets.specs.Table.{automaton_of}
use Rattle.lr_check_found.proofs.Growing.{item_grows}
use Rattle.lr_check_found.proofs.Counting.{has_more}
use Rattle.lr_check_found.proofs.found.Found.add_all.Goals as goal

pub add-requires-clause-item : goal.add-requires-clause-item
add-requires-clause-item c = item_grows (automaton_of c.args.tables.now) c.args.self.now c.loop-item.self c.loop-item.invariant.grows c.item-item.result
    (c.requires.items c.item-item.result (c.loop-item.item-index, c.loop-item-test.true, sym c.item-item.is))

pub returns-then-tuples-clause-full : goal.returns-then-tuples-clause-full
returns-then-tuples-clause-full c = λ e. has_more (automaton_of c.args.tables.now) c.add.new.self c.in_ok-add.ensures.found 4000000 (omega arith)

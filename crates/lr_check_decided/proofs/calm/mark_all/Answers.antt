use Rattle.std.proofs.Common.{ℕ, sym, subst, arith}
use Rattle.lr_check_sets.specs.Bound.{HasClasses}
use Rattle.lr_check_sets.specs.Table.{productions, automaton_of}
use Rattle.lr_check_decided.proofs.Calming.{marking_none, marking_turn, all_stuck}
use Rattle.lr_check_decided.proofs.calm.mark_all.Goals as goal

pub loop-class-init : goal.loop-class-init
loop-class-init c = marking_none (automaton_of c.args.tables.now) c.args.state c.args.behind c.args.marks.now

pub loop-class-preserved : goal.loop-class-preserved
loop-class-preserved c = marking_turn (automaton_of c.args.tables.now) c.args.state c.args.behind c.args.marks.now c.loop-class.marks c.mark_at.new.marks c.loop-class.class c.loop-class.changed
    c.mark_at.result c.either-changed.result c.loop-class.invariant (omega arith) c.mark_at.ensures.calm c.mark_at.ensures.stuck c.mark_at.ensures.same c.mark_at.ensures.more c.either-changed.ensures

pub mark_at-requires-clause-classes : goal.mark_at-requires-clause-classes
mark_at-requires-clause-classes c = subst (λ (n : ℕ). HasClasses (productions c.args.tables.now.content.rules) n) (sym c.loop-class.invariant.long) c.requires.classes

pub returns : goal.returns
returns c = record {
  calm = c.loop-class.invariant.calm;
  stuck = λ e. all_stuck (automaton_of c.args.tables.now) c.args.state c.args.behind c.args.marks.now c.loop-class.marks c.loop-class.class c.loop-class.changed c.loop-class.invariant (omega arith) e;
  long = c.loop-class.invariant.long;
  more = c.loop-class.invariant.more;
}

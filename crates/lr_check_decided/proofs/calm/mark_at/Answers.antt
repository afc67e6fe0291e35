use Rattle.std.proofs.Common.{ℕ, sym}
use Rattle.lr_check_sets.specs.Table.{automaton_of}
use Rattle.lr_check_decided.specs.Calm.{IsNext, LeadsToMarked}
use Rattle.lr_check_decided.proofs.Calming.{if_some, if_not_some, calm_class, marked_calm, more_marked}
use Rattle.lr_check_decided.proofs.calm.mark_at.Goals as goal

pub returns-clause-calm : goal.returns-clause-calm
returns-clause-calm c = λ are. marked_calm (automaton_of c.args.tables.now) c.args.state c.args.behind c.args.marks.now c.args.class c.requires.low are
    (calm_class (automaton_of c.args.tables.now) c.args.state c.args.class c.args.behind c.args.marks.now are
    (if_not_some c.next_unmarked.result (LeadsToMarked (automaton_of c.args.tables.now) c.args.state c.args.behind c.args.marks.now c.args.class) c.next_unmarked.ensures.none
    (sym c.if-is_some.ensures)))

pub returns-clause-more : goal.returns-clause-more
returns-clause-more c = λ u. more_marked c.args.marks.now c.args.class c.requires.low c.if-marks-class.false

pub returns-then-is_some-clause-stuck : goal.returns-then-is_some-clause-stuck
returns-then-is_some-clause-stuck c = λ e un. if_some c.next_unmarked.result
    (λ (d : ℕ). IsNext (automaton_of c.args.tables.now) c.args.state c.args.behind c.args.marks.now c.args.class d) c.next_unmarked.ensures.some (sym c.if-is_some.ensures)

use Rattle.std.proofs.Common.{sym, ◌∙◌}
use Rattle.lr_check_sets.specs.Table.{automaton_of}
use Rattle.lr_check_decided.proofs.Calming.{marked_nowhere, next_if, marked_if}
use Rattle.lr_check_decided.proofs.calm.next_unmarked.Goals as goal

pub returns-in-None-clause-none : goal.returns-in-None-clause-none
returns-in-None-clause-none c = marked_nowhere (automaton_of c.args.tables.now) c.args.state c.args.class c.args.behind c.args.marks.now (sym c.over.ensures ∙ c.in-None.is)

pub returns : goal.returns
returns c = record {
  some = next_if c.args.tables.now c.args.state c.in-Some.at c.args.class c.args.behind _ _ _ c.free_choices-free.result.now c.description.ensures c.rules-rules.ensures
      c.action.ensures.value c.free_choices-free.ensures (sym c.over.ensures ∙ c.in-Some.is) c.args.marks.now c.requires c.first_unmarked.result c.first_unmarked.ensures.some;
  none = marked_if c.args.tables.now c.args.state c.in-Some.at c.args.class c.args.behind _ _ _ c.free_choices-free.result.now c.description.ensures c.rules-rules.ensures
      c.action.ensures.value c.free_choices-free.ensures (sym c.over.ensures ∙ c.in-Some.is) c.args.marks.now c.first_unmarked.result c.first_unmarked.ensures.none;
}

use Rattle.std.proofs.Common.{◌++◌, List, Bool, sym, subst, ap₂, ◌∙◌}
use Rattle.gg_base.proofs.Facts.{if_ok}
use Rattle.md_reader.specs.Valid.{IsValid}
use Rattle.lr_check_found.specs.lr_check_sets.specs.Table.{automaton_of}
use Rattle.lr_check.specs.Statement.{IsStatement}
use Rattle.lr_check_drawn.proofs.Begun.{are_begun}
use Rattle.lr_check_drawn.proofs.Drawings.{settled_nodes}
use Rattle.lr_check_drawn.proofs.Samples.{circle_statement, circle_sample}
use Rattle.lr_check_drawn.proofs.sampling.draw_circle.Goals as goal

pub add_above-requires-clause-begun : goal.add_above-requires-clause-begun
add_above-requires-clause-begun c = are_begun (automaton_of c.args.tables.now) c.args.found.now c.requires.found

pub add_above-requires-clause-settled : goal.add_above-requires-clause-settled
add_above-requires-clause-settled c = settled_nodes c.in_ok-growing.ensures

pub prune-requires : goal.prune-requires
prune-requires c = subst IsStatement (sym c.nodes.ensures) (circle_statement (automaton_of c.args.tables.now) c.args.found.now c.in_ok-growing.growing c.add_above.new.growing c.args.settling
    c.args.classes.now c.deref-3.result.now c.in_ok-growing.ensures c.requires.circle c.in_ok-add_above.ensures)

pub returns : goal.returns
returns c = if_ok c.prune.result _ _
    (λ v p. circle_sample c.args.tables.now (subst IsValid c.description.ensures c.is_valid.ensures) c.is_numbered.ensures c.args.found.now c.requires.found
    c.in_ok-growing.growing c.add_above.new.growing _ c.args.settling c.args.classes.now c.in_ok-own.own.items c.in_ok-more.more.items c.deref-3.result.now
    c.in_ok-growing.ensures c.requires.circle c.in_ok-own.ensures c.in_ok-more.ensures
    (c.deref-3.ensures.value ∙ (c.in_ok-answers.ensures ∙ ap₂ (λ (a b : List Bool). a ++ b) c.deref.ensures.value c.deref-2.ensures.value))
    c.in_ok-add_above.ensures c.nodes.result.now c.nodes.ensures p)
    c.prune.ensures

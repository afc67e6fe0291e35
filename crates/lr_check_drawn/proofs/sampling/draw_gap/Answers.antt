use Rattle.std.proofs.Common.{sym, subst}
use Rattle.gg_base.proofs.Facts.{if_ok}
use Rattle.md_reader.specs.Valid.{IsValid}
use Rattle.lr_check_found.specs.lr_check_sets.specs.Table.{automaton_of}
use Rattle.lr_check.specs.Statement.{IsStatement}
use Rattle.lr_check_drawn.proofs.Begun.{are_begun, have_nodes_grow}
use Rattle.lr_check_drawn.proofs.Drawings.{settled_nodes}
use Rattle.lr_check_drawn.proofs.Samples.{statement_of, gap_sample}
use Rattle.lr_check_drawn.proofs.sampling.draw_gap.Goals as goal

pub rise-requires-clause-begun : goal.rise-requires-clause-begun
rise-requires-clause-begun c = are_begun (automaton_of c.args.tables.now) c.args.found.now c.requires.found

pub rise-requires-clause-settled : goal.rise-requires-clause-settled
rise-requires-clause-settled c = have_nodes_grow c.in_ok-top.ensures.has.grows (settled_nodes c.in_ok-growing.ensures)

pub prune-requires : goal.prune-requires
prune-requires c = subst IsStatement (sym c.nodes.ensures) (statement_of c.in_ok-rise.ensures)

pub returns : goal.returns
returns c = if_ok c.prune.result _ _
    (λ v p. gap_sample c.args.tables.now (subst IsValid c.description.ensures c.is_valid.ensures) c.is_numbered.ensures c.args.found.now c.requires.found
    c.in_ok-growing.growing c.add_from.new.self c.rise.new.growing _ c.args.place c.in_ok-top.top c.token_of.result c.in_ok-growing.ensures c.requires.gap c.token_of.ensures
    c.in_ok-top.ensures c.in_ok-rise.ensures c.nodes.result.now c.nodes.ensures p)
    c.prune.ensures

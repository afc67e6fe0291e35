use Rattle.std.proofs.Common.{length, ap, ◌∙◌, arith}
use Rattle.md_reader.specs.State.{Content}
use Rattle.lr_check_sets.specs.Table.{automaton_of}
use Rattle.lr_check_decided.proofs.Calming.{none_calm, length_replicate}
use Rattle.lr_check_decided.proofs.calm.calm_classes.Goals as goal

pub loop-round-init : goal.loop-round-init
loop-round-init c = record {
  calm = none_calm (automaton_of c.args.tables.now) c.args.state _ c.args.behind c.in_ok-marks.marks.items (c.in_ok-marks.ensures.items_if_clones_equal (λ y e. e));
  long = ap length (c.in_ok-marks.ensures.items_if_clones_equal (λ y e. e)) ∙ (length_replicate _ ∙ ap length (c.classes-count.ensures ∙ ap (λ (d : Content). d.classes) c.description.ensures));
  many = omega arith;
}

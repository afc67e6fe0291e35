use Rattle.std.proofs.Common.{sym, ◌∙◌}
use Rattle.sel_parse_desk.proofs.Reversing.{below_top, top_apart}
use Rattle.sel_parse_desk.proofs.reductions.set_apart.Goals as goal

pub returns-clause-apart : goal.returns-clause-apart
returns-clause-apart g c = λ i. record {
  below = (c.in_ok-desk.ensures.below ∙ sym (below_top c.args.desk.now.stack.entries c.args.size)) i;
  symbols = (c.in_ok-desk.ensures.taken ∙ sym (top_apart c.args.desk.now.stack.entries c.args.size)) i;
  late = c.clear.ensures.items i;
  code = c.args.desk.now.code.items;
  most = c.args.desk.now.most;
}

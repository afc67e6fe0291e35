use Rattle.lr_check_found.proofs.Leading.{way_out, ways_out}
use Rattle.std.proofs.Common.{sym, ◌∙◌}
use Rattle.std.proofs.lemmas.Option.{same_Some}
use Rattle.lr_check_found.proofs.adding.leads_out.Goals as goal

pub returns-in-Some : goal.returns-in-Some
returns-in-Some c = record {
  some = λ u. way_out c.args.tables.now c.in-Some.state c.args.size c.args.token _ _ _ c.free_choices.result.now c.description.ensures c.rules-rules.ensures c.action.ensures.value
      c.free_choices.ensures
      c.args.behind.now c.in-Some.is (c.one_leads_out.ensures.some u);
  each = λ p d at free wide. ways_out c.args.tables.now c.in-Some.state c.args.size c.args.token _ _ _ c.free_choices.result.now c.description.ensures c.rules-rules.ensures c.action.ensures.value
      c.free_choices.ensures c.one_leads_out.result c.one_leads_out.ensures.each p d (same_Some _ _ (sym at ∙ c.in-Some.is)) free wide;
}

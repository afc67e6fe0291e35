use Rattle.std.proofs.Common.{rules, refl, ◌∙◌}
use Rattle.vax_alike.proofs.Sharing.{alike_is_same, alike_goes_on}
use Rattle.vax_passes.proofs.Turns.{map_set_same, rise_same, rise_set, turn}
use Rattle.vax_passes.proofs.pass.in_turn.Goals as goal

pub loop-pass-init : goal.loop-pass-init
loop-pass-init g c = record {
  valid = c.requires;
  alike = alike_is_same c.args.code;
  leads = refl;
  rises = rise_same (λ b. (goal.Pass-dyn g (b.vtable, b.value)).made b.value) _;
  same = refl;
  rest = refl;
}

pub loop-pass-preserved : goal.loop-pass-preserved
loop-pass-preserved g c =
    let was = c.loop-pass.invariant in
    let now = c.in_ok-code.ensures in
    let t = turn (λ b n c d. (goal.Pass-dyn g (b.vtable, b.value)).wrote b.value n c d)
    (λ b. (goal.Pass-dyn g (b.vtable, b.value)).made b.value) _ _ c.loop-pass.pass-index c.run_one.new.pass c.pass-item.result _ _
    c.in_ok-code.code (search rules) was.rest was.leads
    (record { says = now.wrote; valid = now.valid; alike = now.alike; unchanged = now.same; rises = c.run_one.ensures.rises }) in
    record {
      valid = now.valid;
      alike = alike_goes_on _ _ _ was.alike now.alike;
      leads = t.leads;
      rises = rise_set (λ b. (goal.Pass-dyn g (b.vtable, b.value)).made b.value) _ _ c.loop-pass.pass-index c.run_one.new.pass c.pass-item.result (search rules) was.rises c.run_one.ensures.rises;
      same = map_set_same (λ b. b.vtable) _ c.loop-pass.pass-index c.run_one.new.pass c.pass-item.result (search rules) c.run_one.ensures.vtable ∙ was.same;
      rest = t.rest;
    }

pub returns-in_err-code-clause-passes : goal.returns-in_err-code-clause-passes
returns-in_err-code-clause-passes g c =
    map_set_same (λ b. b.vtable) _ c.loop-pass.pass-index c.run_one.new.pass c.pass-item.result (search rules) c.run_one.ensures.vtable ∙ c.loop-pass.invariant.same

pub returns-in_err-code-clause-rises : goal.returns-in_err-code-clause-rises
returns-in_err-code-clause-rises g c =
    rise_set (λ b. (goal.Pass-dyn g (b.vtable, b.value)).made b.value) _ _ c.loop-pass.pass-index c.run_one.new.pass c.pass-item.result
    (search rules) c.loop-pass.invariant.rises c.run_one.ensures.rises

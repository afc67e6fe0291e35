use Rattle.std.proofs.Common.{◌≡◌, take, drop, map, true}
use Rattle.vax_core.specs.Valid.{is_code}
use Rattle.vax_alike.specs.Alike.{Alike}
use Rattle.vax_passes.specs.Leads.{Leads, Rise}
use Rattle.vax_passes.proofs.pass.in_turn.Given as goal

abbrev pub invariant-loop-pass : goal.invariant-loop-pass
invariant-loop-pass g l = record {
  valid : is_code l.code ≡ true;
  alike : Alike l.fn.code l.code;
  leads : Leads (λ b n c d. (goal.Pass-dyn g (b.vtable, b.value)).wrote b.value n c d) (λ b. (goal.Pass-dyn g (b.vtable, b.value)).made b.value) (take l.pass-index l.fn.passes)
      (take l.pass-index l.passes) l.fn.code l.code;
  rises : Rise (λ b. (goal.Pass-dyn g (b.vtable, b.value)).made b.value) l.fn.passes l.passes;
  same : map (λ b. b.vtable) l.passes ≡ map (λ b. b.vtable) l.fn.passes;
  rest : drop l.pass-index l.passes ≡ drop l.pass-index l.fn.passes;
}

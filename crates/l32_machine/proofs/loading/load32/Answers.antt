use Rattle.std.proofs.Common.{◌≡◌, subst}
use Rattle.l32_core.specs.declared.code.Code32.{Code32}
use Rattle.l32_machine.specs.Loading.{Loaded, code_of}
use Rattle.l32_machine.proofs.loading.load32.Goals as goal

pub returns : goal.returns
returns c =
    let known = c.in_ok-names.ensures.loads in
    let same : code_of c.in_ok-names.names ≡ c.args.code.now = λ i. record { area = known.0 i; items = known.1 i } in
    subst (λ (x : Code32). Loaded x c.args.input.now c.load.result) same c.load.ensures

use Rattle.std.proofs.Common.{◌≡◌, subst}
use Rattle.vax_core.specs.declared.code.Code.{Code}
use Rattle.vax_machine.specs.Loading.{Loaded, code_of}
use Rattle.vax_machine.proofs.loading.load.Goals as goal

pub returns : goal.returns
returns c =
    let known = c.in_ok-names.ensures.loads in
    let same : code_of c.in_ok-names.names ≡ c.args.code.now = λ i. record { area = known.0 i; items = known.1 i } in
    subst (λ (x : Code). Loaded x c.args.input.now c.load.result) same c.load.ensures

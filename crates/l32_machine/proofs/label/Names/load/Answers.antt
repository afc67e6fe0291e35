use Rattle.std.proofs.Common.{◌≡◌, ℕ, true, List, Option, None, IfSome, refl, subst}
use Rattle.vax_core.specs.First.{main_name}
use Rattle.vax_machine.specs.declared.area.Layout.{Layout}
use Rattle.vax_machine.specs.LaidOut.{IsLaidOut}
use Rattle.vax_machine.specs.Labels.{undefined_area_label}
use Rattle.l32_machine.specs.Labels.{has_label, undefined_label}
use Rattle.l32_machine.specs.Loading.{code_of}
use Rattle.l32_machine.proofs.Starting.{loads_by}
use Rattle.l32_machine.proofs.label.Names.load.Goals as goal

pub returns : goal.returns
returns c =
    let n = c.args.self.now in
    let layout = c.in-Some-2.layout in
    let area : ◌≡◌ {A = Option (List ℕ)} None (undefined_area_label n.layout.now n.layout.now) = c.in_default.ensures in
    let items : ◌≡◌ {A = Option (List ℕ)} None (undefined_label n.items.now n.layout.now n.items.now) = c.in_default-undefined_label.ensures in
    let main : true ≡ has_label n.items.now main_name = c.if-not-has_main.ensures in
    let laid : IsLaidOut n.layout.now layout = subst (λ (o : Option Layout). IfSome o (IsLaidOut n.layout.now)) c.in-Some-2.is c.in_ok-layout.ensures.laid in (
      loads_by (code_of n) n.layout.now n.items.now layout refl refl c.requires.single area items main laid,
      c.in_ok-begin.ensures,
    )

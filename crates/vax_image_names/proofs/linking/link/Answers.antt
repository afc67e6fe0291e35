use Rattle.std.proofs.Common.{◌≡◌, true, Some, subst}
use Rattle.vax_image_names.specs.Links.{IsNamed}
use Rattle.vax_image_names.specs.Stands.{may_run}
use Rattle.vax_image_names.proofs.Standing.{linked_some}
use Rattle.vax_image_names.proofs.linking.link.Goals as goal

pub returns : goal.returns
returns c =
    let n = c.in-Some.names in
    let h : IsNamed c.args.code.now (Some n) = subst (IsNamed c.args.code.now) c.in-Some.is c.in_ok-names.ensures in
    let test : may_run n.layout.now n.items.now ≡ true = cc in
    (linked_some c.args.code.now n.layout.now n.items.now h.0 h.1 h.2 test, h.1)

use Rattle.std.proofs.Common.{rules, ◌≡◌, ◌<◌, ℕ, length, List, Some, None, sym, ap, ◌∙◌}
use Rattle.l32_machine.specs.Found.{found}
use Rattle.vax_machine.proofs.Addresses.{place_lies, get_or-default, address_is, end_is}
use Rattle.l32_machine.proofs.area.Laid.label_address.Goals as goal

pub index-requires : goal.index-requires
index-requires c =
    let n = c.args.self.now.names.now in
    let l = c.args.self.now.layout.now in
    let laid = c.args.self.now.laid in
    let at : found n.area c.args.name.now ≡ Some c.in-Some.place = ap (λ (x : List ℕ). found n.area x) (sym c.as_slice.ensures) ∙ sym c.get.ensures ∙ c.in-Some.is in
    let lies : c.in-Some.place < length l.addresses.items = place_lies (found n.area) n.layout.now l c.in-Some.place c.args.name.now n.area_places laid at in
    search rules

pub returns-in-Some : goal.returns-in-Some
returns-in-Some c =
    let n = c.args.self.now.names.now in
    let l = c.args.self.now.layout.now in
    let laid = c.args.self.now.laid in
    let at : found n.area c.args.name.now ≡ Some c.in-Some.place = ap (λ (x : List ℕ). found n.area x) (sym c.as_slice.ensures) ∙ sym c.get.ensures ∙ c.in-Some.is in
    let lies : c.in-Some.place < length l.addresses.items = place_lies (found n.area) n.layout.now l c.in-Some.place c.args.name.now n.area_places laid at in
    c.index.ensures ∙ get_or-default l.addresses.items c.in-Some.place c.index.result.now lies
    ∙ address_is (found n.area) n.layout.now l c.in-Some.place c.args.name.now n.area_places laid at

pub returns-in-None : goal.returns-in-None
returns-in-None c =
    let n = c.args.self.now.names.now in
    let l = c.args.self.now.layout.now in
    let laid = c.args.self.now.laid in
    let at : found n.area c.args.name.now ≡ None = ap (λ (x : List ℕ). found n.area x) (sym c.as_slice.ensures) ∙ sym c.get.ensures ∙ c.in-None.is in
    end_is (found n.area) n.layout.now l c.args.name.now n.area_places laid at

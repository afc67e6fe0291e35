use Rattle.vax_machine.specs.Loading.{code_of}
use Rattle.vax_machine.proofs.Starting.{blank_is}
use Rattle.vax_machine.proofs.label.Names.blank.Goals as goal

pub returns : goal.returns
returns c =
    let program = c.in_ok-link.field-0 in
    blank_is (code_of c.args.self.now) c.args.input.now program.layout.now program.items.now c.in_ok-area_bytes.field-0.items c.in_ok-zeros.field-0.items c.in_ok-new.field-0
    c.in_ok-link.ensures.layout c.in_ok-link.ensures.items c.in_ok-area_bytes.ensures.bytes c.in_ok-zeros.ensures.items c.in_ok-new.ensures

use Rattle.l32_machine.specs.Loading.{code_of}
use Rattle.l32_machine.proofs.Starting.{started}
use Rattle.l32_machine.proofs.label.Names.begin.Goals as goal

pub returns : goal.returns
returns c =
    let program = c.in_ok-link.field-0 in
    started (code_of c.args.self.now) c.args.input.now program.layout.now program.items.now c.main_place.result c.in_ok-area_bytes.field-0.items c.in_ok-zeros.field-0.items
    c.in_ok-first_frames.field-0.items c.in_ok-link.ensures.layout c.in_ok-link.ensures.items c.main_place.ensures c.in_ok-area_bytes.ensures.bytes c.in_ok-zeros.ensures.items
    c.in_ok-first_frames.ensures.frames

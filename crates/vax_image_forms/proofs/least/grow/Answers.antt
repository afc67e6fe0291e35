use Rattle.vax_image_forms.proofs.Settling.{whole_fits}
use Rattle.vax_image_forms.proofs.least.grow.Goals as goal

pub returns : goal.returns
returns c = whole_fits c.args.pieces.now c.sweep-2.new.forms c.settle.new.forms c.in_ok-settle.field-0 c.requires.pieces c.in_ok-settle.ensures

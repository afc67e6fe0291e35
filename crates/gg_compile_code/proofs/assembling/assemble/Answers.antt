use Rattle.std.proofs.Common.{refl}
use Rattle.vax_target.specs.vax_target_meaning.specs.Vax.{vax}
use Rattle.gg_compile_code.proofs.Putting.{all_selected}
use Rattle.gg_compile_code.proofs.assembling.assemble.Goals as goal

pub area_items-requires : goal.area_items-requires
area_items-requires c = rw c.as_slice.ensures c.requires.objects

pub returns : goal.returns
returns c =
    all_selected vax _ c.args.program.now c.args.program.now _ _ _ refl c.in_ok-items.ensures c.from_vec.ensures
    (rw c.as_slice.ensures at c.in_ok-area.ensures)

-- The toy machine keeps all laws of a target.
use Rattle.std.proofs.Common.{refl}
use Rattle.sel_target.specs.OperandLaws.{SpellsItself}
use Rattle.sel_target.specs.Laws.{IsLawful}
use Rattle.sel_toy_machine.proofs.Spelled.{same_is, own_bit, shape_touches, alone}
use Rattle.sel_toy_machine.proofs.Readings.{toy_reads}
use Rattle.sel_toy_machine.proofs.InOrder.{toy_runs}
use Rattle.sel_toy_machine.proofs.Results.{toy_templates}
use Rattle.sel_toy_machine.proofs.Shaped.{shape_fits, toy_shapes}
use Rattle.sel_toy_machine.proofs.Saved.{toy_saves}
use Rattle.sel_toy_machine.proofs.Stated.{toy_does}
use Rattle.sel_toy_machine.specs.Toy.{toy}

toy_spells : SpellsItself toy
toy_spells = record {
  same_is = same_is;
  register_bits = own_bit;
  register_word = λ r lt. refl;
  slot_bits = λ w lt. refl;
  slot_word = λ w lt. refl;
  deferred_bits = λ w lt. refl;
  deferred_word = λ w lt. refl;
  local_bits = λ k lt. refl;
  local_word = λ k lt. refl;
  argument_bits = λ k is. refl;
  argument_word = λ k is. refl;
  shape_touches = λ q classes rule e l hs s taken gives fit touched. shape_touches q l hs s touched;
  alone = alone;
  slot_fits = λ size w lt. refl;
  deferred_fits = λ size w lt. refl;
  deferred_fits_address = λ w lt. refl;
  shape_fits = λ q classes rule e k l hs can fits taken gives is fit restricted spelled. shape_fits q classes rule e k l hs taken gives is fit;
}

pub toy_is_lawful : IsLawful toy
toy_is_lawful = record { runs = toy_runs; spells = toy_spells; reads = toy_reads; templates = toy_templates; shapes = toy_shapes; saves = toy_saves; statements = toy_does }

-- The laws of a target on what is saved and reloaded, as one record.
use Rattle.std.proofs.Common.{◌≡◌, Bool, true, false, [], ◌∷◌, refl}
use Rattle.std.specs.Prelude.{◌&&◌, ◌||◌}
use Rattle.vax_target_spelling.specs.sel_target.specs.declared.attr.Attr.TheVariants as attr
use Rattle.vax_target_spelling.specs.sel_target.specs.SavingLaws.{SavesAndReloads}
use Rattle.vax_core.specs.declared.code.Instr.{Instr}
use Rattle.vax_core.specs.Ops.{shape}
use Rattle.vax_core.specs.Valid.{are_operands, is_target}
use Rattle.vax_core.specs.Valid as core
use Rattle.vax_target_spelling.specs.vax_target_meaning.specs.Fitting.{is_instr, goes_to_label}
use Rattle.vax_target_spelling.specs.vax_target_meaning.specs.Vax.{vax}
use Rattle.vax_target_spelling.specs.vax_target_writing.proofs.Spilling.{spills_are_written}
use Rattle.vax_target_narrow.proofs.Law.{effects_are_narrow}
use Rattle.vax_target_saving.proofs.Saving.{lines_save}
use Rattle.vax_target_saving.proofs.Reloading.{lines_reload}

or_more : (a b c : Bool) → (a && b) ≡ true → (a && (b || c)) ≡ true
or_more true true c e = refl
or_more true false c e = cc
or_more false b c e = cc

-- an instruction of the machine is one to whatever label it goes
pub written : (i : Instr) → core.is_instr i ≡ true → is_instr i ≡ true
written i e = or_more (are_operands (shape i.op).operands i.operands) (is_target (shape i.op).target i.target) ((shape i.op).target && goes_to_label i.target) e

pub target_saves : SavesAndReloads vax
target_saves = record {
  value_spilled = lines_save.values;
  place_spilled = lines_save.places;
  address_spilled = lines_save.addresses;
  reloaded = lines_reload;
  saved_narrow = effects_are_narrow.spills;
  value_written = λ q size l a w can saves is low. written (vax.instr q l (a ∷ []) (attr.Place (vax.slot w))) (spills_are_written.value q size l a w can saves is low);
  place_written = λ q size l o w can saves fits low. written (vax.instr q l (attr.Place o ∷ []) (attr.Place (vax.slot w))) (spills_are_written.place q size l o w can saves fits low);
  address_written = λ q l o w can saves fits low. written (vax.instr q l (attr.Ea o ∷ []) (attr.Place (vax.slot w))) (spills_are_written.address q l o w can saves fits low);
  reload_written = λ q l w r can reloads few low. written (vax.instr q l (attr.Value (vax.slot w) ∷ []) (attr.Reg r)) (spills_are_written.reload q l w r can reloads few low);
}

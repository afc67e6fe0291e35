-- The laws of a target, from the laws of the crates below, as one record.
use Rattle.l32_target_traps.specs.l32_target_rules.specs.judging_laws.specs.sel_target.specs.Laws.{IsLawful}
use Rattle.l32_target_traps.specs.l32_target_rules.specs.judging_laws.specs.sel_target.specs.OperandLaws.{SpellsItself}
use Rattle.l32_target_traps.specs.l32_target_rules.specs.judging_laws.specs.sel_target.specs.TemplateLaws.{DoesTemplates}
use Rattle.l32_target_traps.specs.l32_target_rules.specs.judging_laws.specs.sel_target.specs.SavingLaws.{SavesAndReloads}
use Rattle.l32_target_traps.specs.l32_target_meaning.specs.L32.{l32}
use Rattle.l32_target_traps.specs.l32_target_order.proofs.Running.{instructions_run}
use Rattle.l32_target_traps.specs.l32_target_order.proofs.Dividing.{rules_divide_once, statements_have_lines}
use Rattle.l32_target_traps.specs.l32_target_rules.specs.l32_target_spelling.proofs.Law.{alike_are_equal, registers_spell, words_spell, shapes_touch, holes_are_themselves}
use Rattle.l32_target_writing.specs.l32_target_fits.proofs.Law.{slots_fit, shapes_fit}
use Rattle.l32_target_writing.proofs.Law.{lines_are_written}
use Rattle.l32_target_shapes.specs.l32_target_reading.proofs.Law.{operands_read}
use Rattle.l32_target_shapes.proofs.Law.{shapes_stand}
use Rattle.l32_target_narrow.proofs.Law.{effects_are_narrow}
use Rattle.l32_target_traps.specs.l32_target_rules.proofs.Results.{results_are_left}
use Rattle.l32_target_traps.proofs.Law.{divisions_trap}
use Rattle.l32_target_saving.proofs.Law.{lines_save}
use Rattle.l32_target_laws.proofs.Statements.{statements_do}

spells : SpellsItself l32
spells = record {
  same_is = alike_are_equal;
  register_bits = registers_spell.bits;
  register_word = registers_spell.word;
  slot_bits = words_spell.slot_bits;
  slot_word = words_spell.slot_word;
  deferred_bits = words_spell.deferred_bits;
  deferred_word = words_spell.deferred_word;
  local_bits = λ k lt. words_spell.local_bits k;
  local_word = words_spell.local_word;
  argument_bits = words_spell.argument_bits;
  argument_word = words_spell.argument_word;
  shape_touches = shapes_touch;
  alone = holes_are_themselves;
  slot_fits = slots_fit.value;
  deferred_fits = slots_fit.place;
  deferred_fits_address = slots_fit.address;
  shape_fits = shapes_fit;
}

templates : DoesTemplates l32
templates = record {
  result = results_are_left;
  trap = divisions_trap;
  narrow = effects_are_narrow.rules;
  one_divisor = rules_divide_once;
  some_line = statements_have_lines;
  lines_written = lines_are_written.rules;
}

saves : SavesAndReloads l32
saves = record {
  value_spilled = lines_save.values;
  place_spilled = lines_save.places;
  address_spilled = lines_save.addresses;
  reloaded = lines_save.reloads;
  saved_narrow = effects_are_narrow.spills;
  value_written = lines_are_written.value;
  place_written = lines_are_written.place;
  address_written = lines_are_written.address;
  reload_written = lines_are_written.reload;
}

pub l32_is_lawful : IsLawful l32
l32_is_lawful = record {
  runs = instructions_run;
  spells = spells;
  reads = operands_read;
  templates = templates;
  shapes = shapes_stand;
  saves = saves;
  statements = statements_do;
}

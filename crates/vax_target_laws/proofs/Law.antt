-- The laws of a target, from the laws of the crates below, as one record.
use Rattle.std.proofs.Common.{◌≡◌, true, List, [], ◌∷◌}
use Rattle.std.specs.List.{AllByRecursion}
use Rattle.vax_target_traps.specs.sel_target.specs.Laws.{IsLawful}
use Rattle.vax_target_traps.specs.sel_target.specs.OperandLaws.{SpellsItself}
use Rattle.vax_target_traps.specs.sel_target.specs.TemplateLaws.{DoesTemplates}
use Rattle.vax_target_traps.specs.sel_target.specs.Instances.{lines_of}
use Rattle.vax_core.specs.declared.code.Instr.{Instr}
use Rattle.vax_core.specs.Valid.{is_instr}
use Rattle.vax_target_order.specs.vax_target_meaning.specs.Vax.{vax}
use Rattle.vax_target_order.proofs.Running.{instructions_run}
use Rattle.vax_target_order.proofs.Dividing.{rules_divide_once, statements_have_lines}
use Rattle.vax_target_saving.specs.vax_target_spelling.proofs.Law.{alike_are_equal, registers_spell, words_spell, shapes_touch, holes_are_themselves}
use Rattle.vax_target_order.specs.vax_target_writing.proofs.Given.{shapes_fit}
use Rattle.vax_target_order.specs.vax_target_writing.proofs.Spilling.{lines_are_written, slots_fit}
use Rattle.vax_target_given.specs.vax_target_reading.proofs.Law.{operands_read}
use Rattle.vax_target_saving.specs.vax_target_narrow.proofs.Law.{effects_are_narrow}
use Rattle.vax_target_traps.specs.vax_target_rules.proofs.Law.{results_are_left}
use Rattle.vax_target_traps.proofs.Law.{zero_divisors_trap}
use Rattle.vax_target_given.proofs.Law.{shapes_are_given}
use Rattle.vax_target_saving.proofs.Law.{written, target_saves}
use Rattle.vax_target_calls.proofs.Law.{target_does}

spells : SpellsItself vax
spells = record {
  same_is = alike_are_equal;
  register_bits = registers_spell.bits;
  register_word = registers_spell.word;
  slot_bits = words_spell.slot_bits;
  slot_word = words_spell.slot_word;
  deferred_bits = words_spell.deferred_bits;
  deferred_word = words_spell.deferred_word;
  local_bits = λ k lt. words_spell.local_bits k;
  local_word = words_spell.local_word;
  argument_bits = λ k is. words_spell.argument_bits k;
  argument_word = λ k is. words_spell.argument_word k;
  shape_touches = shapes_touch;
  alone = holes_are_themselves;
  slot_fits = slots_fit.value;
  deferred_fits = slots_fit.place;
  deferred_fits_address = slots_fit.address;
  shape_fits = λ q classes rule e k l hs can is_rule taken gives is fit restricted spelled. shapes_fit q classes rule e k l hs can is_rule taken gives is fit spelled;
}

-- instructions of the machine are ones to whatever label they go
all_written : (is : List Instr) → AllByRecursion (λ i. is_instr i ≡ true) is → AllByRecursion (λ i. vax.is_instr i ≡ true) is
all_written [] h = tt
all_written (i ∷ is) h = (written i h.0, all_written is h.1)

templates : DoesTemplates vax
templates = record {
  result = results_are_left;
  trap = zero_divisors_trap;
  narrow = effects_are_narrow.rules;
  one_divisor = rules_divide_once;
  some_line = statements_have_lines;
  lines_written = λ q classes rule e hs res can is_rule taken fit restricted spelled result.
      all_written (lines_of vax q rule hs res) (lines_are_written q classes rule e hs res can is_rule taken fit spelled result);
}

pub vax_is_lawful : IsLawful vax
vax_is_lawful = record {
  runs = instructions_run;
  spells = spells;
  reads = operands_read;
  templates = templates;
  shapes = shapes_are_given;
  saves = target_saves;
  statements = target_does;
}

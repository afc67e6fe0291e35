-- The laws, of operands and of shapes.
use Rattle.std.proofs.Common.{refl}
use Rattle.l32_target_spelling.specs.Laws.{AlikeAreEqual, RegistersSpell, WordsSpell, ShapesTouch, HolesAreThemselves}
use Rattle.l32_target_spelling.proofs.Own.{same_is, register_bits, home_word, local_bits, local_word, argument_bits, argument_word}
use Rattle.l32_target_spelling.proofs.Shapes.{shape_touches, alone_is}

pub alike_are_equal : AlikeAreEqual
alike_are_equal = same_is

pub registers_spell : RegistersSpell
registers_spell = record { bits = register_bits; word = λ r lt. refl }

pub words_spell : WordsSpell
words_spell = record {
  slot_bits = λ w lt. refl;
  slot_word = home_word;
  deferred_bits = λ w lt. refl;
  deferred_word = home_word;
  local_bits = local_bits;
  local_word = local_word;
  argument_bits = λ k is. argument_bits k;
  argument_word = argument_word;
}

pub shapes_touch : ShapesTouch
shapes_touch = shape_touches

pub holes_are_themselves : HolesAreThemselves
holes_are_themselves = alone_is

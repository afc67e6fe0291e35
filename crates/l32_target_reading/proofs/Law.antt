-- The law, field by field.
use Rattle.std.proofs.Common.{◌≡◌, ℕ, ◌^◌, ◌*◌, ◌<◌, Option, Some, refl, sym, subst}
use Rattle.std.specs.Prelude.{IsSome}
use Rattle.std.specs.List.{AllByRecursion}
use Rattle.std.proofs.lemmas.Bool.{false_from_ne_true}
use Rattle.std.proofs.lemmas.Option.{slice_get_within}
use Rattle.gg_base.specs.Sizes.{bytes_of}
use Rattle.gg_base.proofs.Facts.{slice_some}
use Rattle.l32_states.specs.vax_machine_lists.proofs.Longwords.{all_bytes}
use Rattle.l32_target_meaning.specs.Reading.{is_own_place, names, reads}
use Rattle.l32_target_reading.specs.Laws.{OperandsRead}
use Rattle.l32_target_reading.proofs.Small.{below, names_below, reads_below}
use Rattle.l32_target_reading.proofs.Places.{by_names, of_names, own_spells_none, word_is_read, local_is_read, argument_is_read, argument_is_named, word_is_named}
use Rattle.l32_target_reading.proofs.Places.{area_is_read, area_is_read_back}

some : (o : Option ℕ) (x : ℕ) → o ≡ Some x → IsSome o
some o x e = subst IsSome (sym e) refl

pub operands_read : OperandsRead
operands_read = record {
  reads_small = λ q f fs t o size x m h e. below (2 ^ (8 * bytes_of size)) (reads o size m) x (reads_below m h.sound o size) e;
  names_small = λ q f fs t o size x m h e. below (2 ^ 32) (names o size m) x (names_below m h.sound o size) e;
  area_bytes = λ q f fs t m h. subst (λ bytes. AllByRecursion (λ b. b < 256) bytes) h.area (all_bytes m.area h.sound.area_bytes);
  memory_read = λ q f fs t o size a x m h fit named is.
      by_names o size a x m named (area_is_read q.objects f fs t m h (is_own_place o) a x size is);
  place_read = λ q f fs t o size a x m h fit spelled named is.
      area_is_read_back q.objects f fs t m h (is_own_place o) a x size
      (false_from_ne_true (is_own_place o) (λ own. spelled (own_spells_none o own))) (of_names o size a x m named is);
  local_read = λ q f fs t k x m h low is. local_is_read q.objects f fs t m h k x low is;
  local_there = λ q f fs t k m h lt low. some _ _ (word_is_read q.objects f fs t m h k low lt);
  local_named = λ q f fs t k m h lt low. word_is_named q.objects f fs t m h k low;
  argument_read = λ q f fs t k x m h is. argument_is_read q.objects f fs t m h k x (slice_get_within t.running.arguments k x is) is;
  argument_there = λ q f fs t k m h lt.
      let n = slice_some t.running.arguments k lt in some _ n.0 (argument_is_read q.objects f fs t m h k n.0 lt n.1);
  argument_named = λ q f fs t k m h lt. argument_is_named q.objects f fs t m h k lt;
}

-- The laws, sentence by sentence.
use Rattle.l32_states.specs.Sentences.{PlacesAreRead, PlacesAreWritten, MachinesAreKept}
use Rattle.l32_states.proofs.Standing.{word_read, local_read, argument_read, pushed_read, area_read_so, word_written, local_written, argument_written, area_written_so}
use Rattle.l32_states.proofs.Standing.{push_written, register_kept, result_kept, popped_kept}

pub places_are_read : PlacesAreRead
places_are_read = record {
  word = word_read;
  local = local_read;
  argument = argument_read;
  pushed = pushed_read;
  area = area_read_so;
}

pub places_are_written : PlacesAreWritten
places_are_written = record {
  word = λ objects e es t m h k v free lt. let w = word_written objects e es t m h k v free lt in record { state = _; does = w.0; agrees = w.1 };
  local = λ objects e es t m h k v lt fits. let w = local_written objects e es t m h k v lt fits in record { state = _; does = w.0; agrees = w.1 };
  argument = λ objects e es t m h k v lt fits. let w = argument_written objects e es t m h k v lt fits in record { state = _; does = w.0; agrees = w.1 };
  area = λ objects e es t m h size a v area is. let w = area_written_so objects e es t m h size a v area is in record { state = _; does = w.0; agrees = w.1 };
  push = λ objects e es t m h v room fits. let w = push_written objects e es t m h v room fits in record { state = _; does = w.0; agrees = w.1 };
}

pub machines_are_kept : MachinesAreKept
machines_are_kept = record { register = register_kept; result = result_kept; pop = popped_kept }

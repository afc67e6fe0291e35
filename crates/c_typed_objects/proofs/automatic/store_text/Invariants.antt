use Rattle.std.proofs.Common.{◌≡◌, ◌+◌, ◌<◌, ◌++◌, drop, length, map}
use Rattle.c_program.specs.Statements.{declaration}
use Rattle.c_typed_definition.specs.Automatics.{text_stores}
use Rattle.c_typed_objects.proofs.automatic.store_text.Given as goal

abbrev pub invariant-loop-byte : goal.invariant-loop-byte
invariant-loop-byte l =
    (map declaration l.done.items ++ text_stores l.of l.next (drop l.byte-index l.text)
    ≡ map declaration l.fn.done.items ++ text_stores l.of l.offset l.text)
    × (l.next + length (drop l.byte-index l.text) < 4294967296)

-- What the code holds while it reads a function, as plain data.
use Rattle.std.specs.Prelude.{ℕ, List, map, Option, Some, None, Result, Ok}
use Rattle.std.specs.Borrow.{Bor}
use Rattle.c_program.specs.Statements.{declaration}
use Rattle.c_types.specs.Answers.{Fault, ◌>>=◌}
use Rattle.c_typed_scope.specs.Layout.{aligned}
use Rattle.c_typed_scope.specs.Views.{scope, area}
use Rattle.c_typed_addressed.specs.Views.{marks}
use Rattle.c_typed_objects.specs.declared.environment.Environment.{Environment}
use Rattle.c_typed_objects.specs.declared.room.Room.{Room as Held}
use Rattle.c_typed_definition.specs.Rooms.{Room}
use Rattle.c_typed_definition.specs.Bodies.{fits_stack}
use Rattle.c_typed_definition.specs.State.{State}

abbrev pub room : Held → Room
room r = record { marks = marks r.addressed; declared = r.declared; length = r.length; stores = map declaration r.stores.items }

abbrev pub state : Environment → State
state d = record {
  scope = scope d.blocks;
  locals = d.locals.items;
  registers = d.registers.items;
  room = room d.room;
  area = area d.layout;
}

-- the bytes of a function's block, where they are few enough
abbrev pub block_in : ℕ → Room → Result ℕ Fault
block_in at r = fits_stack at r >>= λ ok. Ok (aligned r.length 4)

-- what a borrowed list has, if there is one
abbrev pub option_now : Option (Bor (List ℕ)) → Option (List ℕ)
option_now None = None
option_now (Some l) = Some l.now

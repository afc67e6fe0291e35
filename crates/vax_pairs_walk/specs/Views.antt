-- What the code holds as the plain data of which the definitions speak.
use Rattle.std.specs.Prelude.{map, Option, Some, None}
use Rattle.std.specs.Global.{Box}
use Rattle.term_core.specs.declared.term.Term.{Term}
use Rattle.term_core.specs.Shape.{Shape, shape_of}
use Rattle.vax_pairs.specs.Events as events
use Rattle.vax_pairs.specs.TermStates as terms
use Rattle.vax_pairs.specs.TermOperands as spots
use Rattle.vax_pairs_walk.specs.Taking as taking
use Rattle.vax_pairs_walk.specs.declared.state.Signs.{Signs}
use Rattle.vax_pairs_walk.specs.declared.state.Signs.TheVariants as signs
use Rattle.vax_pairs_walk.specs.declared.state.Carry.{Carry}
use Rattle.vax_pairs_walk.specs.declared.state.Carry.TheVariants as carries
use Rattle.vax_pairs_walk.specs.declared.state.State.{State}
use Rattle.vax_pairs_walk.specs.declared.operands.Event.{Event}
use Rattle.vax_pairs_walk.specs.declared.operands.Event.TheVariants as event
use Rattle.vax_pairs_walk.specs.declared.front.Front.{Front}
use Rattle.vax_pairs_walk.specs.declared.operands.Spot.{Spot}
use Rattle.vax_pairs_walk.specs.declared.operands.Spot.TheVariants as spot
use Rattle.vax_pairs_walk.specs.declared.operands.Goal.{Goal}
use Rattle.vax_pairs_walk.specs.declared.operands.Taken.{Taken}
use Rattle.vax_pairs_walk.specs.declared.operands.Arguments.{Arguments}

abbrev pub held : Box Term → Shape
held t = shape_of t.value

abbrev pub signs_of : Signs → terms.Signs
signs_of signs.Before = terms.SignsBefore
signs_of (signs.Tests size t) = terms.Tests size (held t)
signs_of (signs.Compares size a b) = terms.Compares size (held a) (held b)

abbrev pub carry_of : Carry → terms.Carry
carry_of carries.Before = terms.CarryBefore
carry_of (carries.Made f a b) = terms.Made f (held a) (held b)

abbrev pub state_of : State → terms.TermState
state_of s = record { registers = map shape_of s.registers.items; signs = signs_of s.signs; carry = carry_of s.carry }

abbrev pub event_of : Event → events.Event
event_of (event.Reads size a) = events.Reads size (held a)
event_of (event.Stores size a t) = events.Stores size (held a) (held t)
event_of (event.Lowers t) = events.Lowers (held t)
event_of (event.Divides t) = events.Divides (held t)
event_of event.Gets = events.Gets
event_of (event.Puts t) = events.Puts (held t)

abbrev pub front_of : Front → taking.Front
front_of x = record { events = map event_of x.events.items; known = x.known; state = state_of x.state }

abbrev pub spot_of : Spot → spots.Spot
spot_of (spot.Number t) = spots.Number (held t)
spot_of (spot.Register r) = spots.Register r
spot_of (spot.Place a) = spots.Place (held a)

abbrev pub goal_of : Option Goal → spots.Goal
goal_of None = None
goal_of (Some g) = Some (spot_of g.spot, g.size)

abbrev pub taken_of : Taken → taking.Taken
taken_of x = record { number = held x.number; goal = goal_of x.goal }

abbrev pub arguments_of : Arguments → taking.Arguments
arguments_of x = record { first = held x.first; second = held x.second; goal = goal_of x.goal }

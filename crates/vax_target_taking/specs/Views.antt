-- What the code takes of operands as the plain data of which the definitions speak.
use Rattle.std.specs.Prelude.{Bool, map, Option}
use Rattle.std.specs.Option.{option_map}
use Rattle.std.specs.Global.{Box}
use Rattle.term_core.specs.declared.term.Term.{Term}
use Rattle.term_core.specs.Shape.{Shape, Symbol, shape_of}
use Rattle.vax_templates.specs.Standing.{Where}
use Rattle.vax_templates.specs.Standing as where_
use Rattle.vax_templates.specs.Targets.{Target}
use Rattle.vax_templates.specs.Targets as target
use Rattle.vax_templates.specs.Taking.{Taken, Arguments}
use Rattle.vax_target_taking.specs.declared.standing.Location.{Location}
use Rattle.vax_target_taking.specs.declared.standing.Location.TheVariants as locations
use Rattle.vax_target_taking.specs.declared.taking.Destination.{Destination}
use Rattle.vax_target_taking.specs.declared.taking.Destination.TheVariants as destinations
use Rattle.vax_target_taking.specs.declared.taking.Operand.{Operand}
use Rattle.vax_target_taking.specs.declared.taking.Operands.{Operands}

abbrev pub held : Box Term → Shape
held t = shape_of t.value

abbrev pub term_of : Option (Box Term) → Option Shape
term_of t = option_map held t

abbrev pub where_of : Location → Where
where_of (locations.Number t) = where_.Immediate (held t)
where_of (locations.Register i) = where_.Register (Symbol i)
where_of locations.Own = where_.OwnRegister
where_of locations.RegisterZero = where_.RegisterZero
where_of (locations.Value z i) = where_.Value z i
where_of (locations.Place z i) = where_.Place z i
where_of (locations.Local i) = where_.Local i
where_of (locations.SavedPlace z i) = where_.SavedPlace z i
where_of (locations.Saved i) = where_.Saved i
where_of (locations.At a p) = where_.At (held a) (term_of p)

abbrev pub target_of : Destination → Target
target_of destinations.Own = target.ToOwn
target_of (destinations.Slot z) = target.ToSlot z
target_of (destinations.Home z i) = target.ToHome z i
target_of (destinations.Memory z a) = target.ToMemory z (held a)
target_of destinations.RegisterZero = target.ToZero
target_of (destinations.Saved i) = target.ToSaved i

abbrev pub aimed : Destination × Bool → Target × Bool
aimed x = (target_of x.0, x.1)

abbrev pub taken_of : Operand → Taken
taken_of t = record {
  term = held t.term;
  reads = map shape_of t.reads.items;
  target = option_map target_of t.destination;
  missized = t.is_missized;
}

abbrev pub arguments_of : Operands → Arguments
arguments_of x = record {
  first = held x.first;
  second = held x.second;
  reads = map shape_of x.reads.items;
  target = option_map target_of x.destination;
  missized = x.is_missized;
}

-- What happens at a reduction, in order.
-- This is how the code computes it; what is selected is defined in sel_parse_selected, and sel_parse_joined proves the two alike.
use Rattle.std.specs.Prelude.{ℕ, zero, suc, ◌+◌, List, [], ◌∷◌, ◌++◌, length, reverse, Option, Some, None, true, false}
use Rattle.std.specs.Prelude.{slice_get, slice_set}
use Rattle.tree_core.specs.declared.program.TreeProgram.{TreeProgram}
use Rattle.sel_target.specs.md_reader_pieces.specs.declared.piece.Line.{Line}
use Rattle.md_reader.specs.declared.types.Kind.{Kind}
use Rattle.md_reader.specs.declared.types.Kind.TheVariants as kind
use Rattle.md_reader.specs.declared.types.Rule.{Rule}
use Rattle.md_reader.specs.declared.types.Give.{Give}
use Rattle.md_reader.specs.declared.types.Give.TheVariants as give
use Rattle.md_reader.specs.Patterns.{kind_at}
use Rattle.md_reader.specs.State.{Content}
use Rattle.sel_target.specs.declared.attr.Attr.{Attr}
use Rattle.sel_target.specs.declared.attr.Attr.TheVariants as attr
use Rattle.sel_target.specs.Meaning.{Meaning}
use Rattle.sel_target.specs.Instances.{lines_of, hole}
use Rattle.sel_target.specs.SavingLaws.{reloading}
use Rattle.sel_target.specs.Symbols.{constant_of, first_hole, reload_line}
use Rattle.sel_parse_desk.specs.Entries.{attrs, kind_in, slot_in}
use Rattle.sel_parse_desk.specs.Desk.{Stack, Desk, set_apart, Outcome, Done, bind}
use Rattle.sel_parse_desk.specs.Spills.{due}

-- a symbol's own register, or its own number
abbrev pub register_alone : {O : Type 0} → Attr O → Attr O
register_alone (attr.Reg r) = attr.Reg r
register_alone a = attr.Nothing

abbrev pub own_register : {O : Type 0} → Option (Attr O) → Attr O
own_register None = attr.Nothing
own_register (Some a) = register_alone a

abbrev pub number_in : {O : Type 0} → Option ℕ → Attr O
number_in None = attr.Nothing
number_in (Some n) = attr.Con n

abbrev pub own_number : {O : Type 0} → TreeProgram → Option (Attr O) → Attr O
own_number q None = attr.Nothing
own_number q (Some a) = number_in (constant_of q a)

module _ {O I S F : Type 0} (of : Meaning O I S F) (q : TreeProgram) (d : Content) (first : ℕ) where
  -- the symbol with this number, from 0, is brought back from its slot
  abbrev pub loaded : ℕ → ℕ → ℕ × Desk O I → Outcome (Desk O I)
  loaded i w p = Done (record {
    below = p.1.below;
    symbols = slice_set p.1.symbols i (record { kind = kind_in (slice_get p.1.symbols i); attr = attr.Reg p.0 });
    late = p.1.late ++ w ∷ [];
    code = p.1.code ++ reloading of q (reload_line d) w p.0;
    most = p.1.most;
  })

  abbrev pub reloaded_at : ℕ → Desk O I → Option ℕ → Outcome (Desk O I)
  reloaded_at i desk None = Done desk
  reloaded_at i desk (Some w) = bind (due of q d first false desk) (loaded i w)

  -- the n symbols from number i on, from left to right: each register's symbol that stands in a slot is reloaded
  abbrev pub reloaded : ℕ → ℕ → Desk O I → Outcome (Desk O I)
  reloaded zero i desk = Done desk
  reloaded (suc n) i desk = bind (reloaded_at i desk (slot_in (slice_get desk.symbols i))) (reloaded n (i + 1))

  -- the rule's lines follow with their holes filled, and what it gives stands for its symbols
  abbrev pub finished : Rule → Attr O → Attr O → Desk O I → Outcome (Stack O I)
  finished rule result given desk = Done (record {
    entries = record { kind = kind_at d.classes rule.left; attr = given } ∷ reverse desk.below;
    code = desk.code ++ lines_of of q rule (attrs desk.symbols) result;
    most = desk.most;
  })

  -- what a shape gives, by the kind of the rule's class: an operand, or a symbol's own register or number
  abbrev pub shaped : Option Kind → Line → List (Attr O) → Attr O
  shaped (Some kind.Reg) l hs = own_register (hole hs (first_hole l.pieces))
  shaped (Some (kind.Value size)) l hs = attr.Value (of.operand q l hs)
  shaped (Some (kind.Place size)) l hs = attr.Place (of.operand q l hs)
  shaped (Some kind.Con) l hs = own_number q (hole hs (first_hole l.pieces))
  shaped (Some kind.Ea) l hs = attr.Ea (of.operand q l hs)
  shaped k l hs = attr.Nothing

  abbrev pub with_result : Rule → ℕ × Desk O I → Outcome (Stack O I)
  with_result rule p = finished rule (attr.Reg p.0) (attr.Reg p.0) p.1

  abbrev pub with_scratch : Rule → ℕ × Desk O I → Outcome (Stack O I)
  with_scratch rule p = finished rule (attr.Reg p.0) attr.Nothing p.1

  -- under `reuse` the symbols' registers are given back before the result is taken
  abbrev pub given_by : Rule → Give → Desk O I → Outcome (Stack O I)
  given_by rule give.Fresh desk = bind (due of q d first false desk) (with_result rule)
  given_by rule give.Reuse desk = bind (due of q d first true desk) (with_result rule)
  given_by rule give.Scratch desk = bind (due of q d first false desk) (with_scratch rule)
  given_by rule give.Nothing desk = finished rule attr.Nothing attr.Nothing desk
  given_by rule (give.Shape l) desk = finished rule attr.Nothing (shaped (kind_at d.classes rule.left) l (attrs desk.symbols)) desk

  -- A reduction by a rule. What neither the result nor an entry below holds is free behind it.
  abbrev pub reduced : Rule → Stack O I → Outcome (Stack O I)
  reduced rule x = bind (reloaded (length rule.right) 0 (set_apart (length rule.right) x)) (given_by rule rule.give)

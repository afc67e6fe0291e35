-- What the toy machine's lines do that save and reload.
use Rattle.std.specs.Prelude.{◌==◌, ◌&&◌, Option, Some, None, Result}
use Rattle.gg_base.specs.declared.size.Size.TheVariants.{Long}
use Rattle.gg_base.specs.Sizes.{bytes_of}
use Rattle.md_reader_pieces.specs.declared.piece.Line.{Line}
use Rattle.md_reader.specs.declared.types.Kind.{Kind}
use Rattle.md_reader.specs.declared.types.Kind.TheVariants as kind
use Rattle.term_core.specs.Shape.{Symbol}
use Rattle.sel_target.specs.sel_terms.specs.Effects.{EffectShape, Value, StoreHome}
use Rattle.sel_target.specs.Meaning.{Fault}
use Rattle.sel_toy_machine.specs.declared.form.Form.{Form}
use Rattle.sel_toy_machine.specs.declared.form.Form.TheVariants as form
use Rattle.sel_toy_machine.specs.Forms.{form_of}
use Rattle.sel_toy_machine.specs.Templates.{undivided, where_true, or_fault}

-- a line that saves a value of its size, or an address, or that reloads
abbrev pub found_spill : Kind → Option Form → Option EffectShape
found_spill (kind.Value size) (Some (form.Move z i)) = where_true ((bytes_of z == bytes_of size) && (i == 1))
    (undivided (StoreHome size 0 (Symbol 1)))
found_spill (kind.Place size) (Some (form.Address i)) = where_true (i == 1) (undivided (StoreHome Long 0 (Symbol 1)))
found_spill kind.Ea (Some (form.Address i)) = where_true (i == 1) (undivided (StoreHome Long 0 (Symbol 1)))
found_spill kind.Reg (Some (form.Move Long i)) = where_true (i == 1) (undivided (Value (Symbol 1)))
found_spill k f = None

abbrev pub spill_effect : Kind → Line → Result EffectShape Fault
spill_effect k l = or_fault l.line (found_spill k (form_of l.pieces))

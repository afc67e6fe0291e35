-- The laws of this crate: the operand that a template gives stands for what the template is judged to give.
use Rattle.std.specs.Prelude.{◌≡◌, ℕ, List, [], ◌∷◌, Some, None, Ok}
use Rattle.gg_base.specs.declared.size.Size.{Size}
use Rattle.tree_core.specs.declared.program.TreeProgram.{TreeProgram}
use Rattle.md_reader_pieces.specs.declared.piece.Line.{Line}
use Rattle.md_reader_pieces.specs.declared.piece.Piece.TheVariants as piece
use Rattle.vax_templates.specs.md_reader.specs.declared.types.Kind.TheVariants as kind
use Rattle.vax_templates.specs.md_reader.specs.declared.types.Class.{Class}
use Rattle.vax_templates.specs.md_reader.specs.declared.types.Give.TheVariants as give
use Rattle.vax_templates.specs.md_reader.specs.declared.types.Rule.{Rule}
use Rattle.vax_templates.specs.md_reader.specs.Patterns.{kind_at}
use Rattle.term_core.specs.Shape.{Shape, Symbol}
use Rattle.vax_templates.specs.sel_terms.specs.Effects.{EffectShape, Value, Address, PlaceHome, PlaceAt}
use Rattle.vax_templates.specs.sel_target.specs.declared.attr.Attr.{Attr}
use Rattle.vax_templates.specs.sel_target.specs.Instances.{hole, Fit}
use Rattle.vax_templates.specs.sel_target.specs.Values.{IsRead, own_operand}
use Rattle.vax_core.specs.declared.operand.Operand.{Operand}
use Rattle.vax_target_reading.specs.vax_machine.specs.State.{State}
use Rattle.vax_templates.specs.declared.form.Form.{Form}
use Rattle.vax_templates.specs.Filled.{filled}
use Rattle.vax_templates.specs.GiveLines.{shape_given}
use Rattle.vax_target_operands.specs.vax_target_meaning.specs.Vax.{vax}
use Rattle.vax_target_operands.specs.Scenes.{Scene, worth, Sees}
use Rattle.vax_target_operands.specs.Places.{BaseIsShort}

-- In a scene that is seen, where what it reads can be read: a value is read there, and a place in memory and an address are named.
pub record ShapesStand : Type 0 where
  pub values : (c : Scene) (m : State) (f : Form) (size : Size) (t : Shape)
      → Sees c None m → BaseIsShort f.base → shape_given c.setting c.roles (Some (kind.Value size)) f ≡ Ok (Value t) → IsRead c.view t
      → vax.reads (filled c.program c.holes c.own f) size m ≡ Some (worth c t)
  pub places : (c : Scene) (m : State) (f : Form) (size : Size) (a : Shape)
      → Sees c None m → BaseIsShort f.base → shape_given c.setting c.roles (Some (kind.Place size)) f ≡ Ok (PlaceAt size a)
      → IsRead c.view a
      → vax.names (filled c.program c.holes c.own f) size m ≡ Some (worth c a)
  pub addresses : (c : Scene) (m : State) (f : Form) (size : Size) (t : Shape)
      → Sees c None m → BaseIsShort f.base → shape_given c.setting c.roles (Some kind.Ea) f ≡ Ok (Address t) → IsRead c.view t
      → vax.names (filled c.program c.holes c.own f) size m ≡ Some (worth c t)

-- a symbol's own place keeps its operand
abbrev pub HomesStay : Type 0
HomesStay =
    (q : TreeProgram) (classes : List Class) (rule : Rule) (e : EffectShape) (size : Size) (i : ℕ) (l : Line)
    (hs : List (Attr Operand)) (h : Attr Operand)
    → vax.effect classes rule ≡ Ok e → rule.give ≡ give.Shape l → e.act ≡ PlaceHome size i → Fit vax classes rule.right hs
    → hole hs i ≡ Some h
    → own_operand vax h ≡ Some (vax.operand q l hs)

-- a register that is given is a symbol's own
abbrev pub RegistersStay : Type 0
RegistersStay =
    (classes : List Class) (rule : Rule) (e : EffectShape) (i : ℕ) (l : Line)
    → vax.effect classes rule ≡ Ok e → rule.give ≡ give.Shape l → kind_at classes rule.left ≡ Some kind.Reg → l.pieces ≡ piece.Hole i ∷ []
    → e.act ≡ Value (Symbol i)

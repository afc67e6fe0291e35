-- What the holes of a template stand for, and what its lines may do.
use Rattle.std.specs.Prelude.{ℕ, ◌-◌, ◌==◌, ◌||◌, Bool, true, false, not, List, [], ◌∷◌, map, Option, Some, None, slice_get, if◌then◌else◌}
use Rattle.gg_base.specs.declared.size.Size.TheVariants.{Long}
use Rattle.sel_target.specs.tree_core.specs.declared.token.Tok.{Tok}
use Rattle.sel_target.specs.tree_core.specs.declared.token.Tok.TheVariants as tok
use Rattle.sel_target.specs.md_reader.specs.declared.types.Kind.{Kind}
use Rattle.sel_target.specs.md_reader.specs.declared.types.Kind.TheVariants as kind
use Rattle.sel_target.specs.md_reader.specs.declared.types.Class.{Class}
use Rattle.sel_target.specs.md_reader.specs.declared.types.Sym.{Sym}
use Rattle.sel_target.specs.md_reader.specs.declared.types.Sym.TheVariants as grammar_symbol
use Rattle.sel_target.specs.md_reader.specs.declared.types.Restriction.{Restriction}
use Rattle.sel_target.specs.md_reader.specs.declared.types.Restriction.TheVariants as restriction
use Rattle.sel_target.specs.md_reader.specs.declared.types.Give.{Give}
use Rattle.sel_target.specs.md_reader.specs.declared.types.Give.TheVariants as give
use Rattle.sel_target.specs.md_reader.specs.declared.types.Rule.{Rule}
use Rattle.sel_target.specs.md_reader.specs.Patterns.{kind_at}
use Rattle.sel_target.specs.md_reader.specs.Restrictions.{is_nothing}
use Rattle.vax_templates.specs.declared.setting.Hole.{Hole}
use Rattle.vax_templates.specs.declared.setting.Hole.TheVariants as hole_kind
use Rattle.vax_templates.specs.declared.setting.Own.{Own}
use Rattle.vax_templates.specs.declared.setting.Own.TheVariants as own
use Rattle.vax_templates.specs.declared.setting.Opening.{Opening}
use Rattle.vax_templates.specs.declared.setting.Opening.TheVariants as opening
use Rattle.vax_templates.specs.declared.setting.Setting.{Setting}

abbrev pub hole_of_token : Tok → Hole
hole_of_token tok.Zero = hole_kind.Literal 0
hole_of_token tok.One = hole_kind.Literal 1
hole_of_token tok.Two = hole_kind.Literal 2
hole_of_token tok.Four = hole_kind.Literal 4
hole_of_token tok.Eight = hole_kind.Literal 8
hole_of_token tok.Const = hole_kind.Constant
hole_of_token tok.Gaddr = hole_kind.Object
hole_of_token tok.Loc = hole_kind.Local
hole_of_token tok.Arg = hole_kind.Local
hole_of_token tok.Save = hole_kind.Saved
hole_of_token tok.Cbr = hole_kind.Relation
hole_of_token t = hole_kind.Other

abbrev pub hole_of_kind : Option Kind → Hole
hole_of_kind None = hole_kind.Other
hole_of_kind (Some kind.Reg) = hole_kind.Register
hole_of_kind (Some (kind.Value z)) = hole_kind.Value z
hole_of_kind (Some (kind.Place z)) = hole_kind.Place z
hole_of_kind (Some kind.Con) = hole_kind.Constant
hole_of_kind (Some kind.Ea) = hole_kind.Address
hole_of_kind (Some kind.Nothing) = hole_kind.Other

abbrev pub hole_of : List Class → Sym → Hole
hole_of classes (grammar_symbol.Tok t) = hole_of_token t
hole_of classes (grammar_symbol.Class c) = hole_of_kind (kind_at classes c)

abbrev pub holes_of : List Class → List Sym → List Hole
holes_of classes right = map (hole_of classes) right

-- in a line that saves, `%1` is what is saved; in a reload line it is the slot, a longword
abbrev pub saved_hole : Kind → Hole
saved_hole kind.Reg = hole_kind.Value Long
saved_hole (kind.Value z) = hole_kind.Value z
saved_hole (kind.Place z) = hole_kind.SavedPlace z
saved_hole kind.Ea = hole_kind.Address
saved_hole kind.Con = hole_kind.Other
saved_hole kind.Nothing = hole_kind.Other

abbrev pub hole_or_other : Option Hole → Hole
hole_or_other None = hole_kind.Other
hole_or_other (Some h) = h

-- symbols are numbered from 1
abbrev pub hole_at : List Hole → ℕ → Hole
hole_at holes i = if i == 0 then hole_kind.Other else hole_or_other (slice_get holes (i - 1))

abbrev pub own_of : Give → Own
own_of give.Fresh = own.Register
own_of give.Reuse = own.Register
own_of give.Scratch = own.Register
own_of give.Nothing = own.Nothing
own_of (give.Shape l) = own.Nothing

abbrev pub is_reuse : Give → Bool
is_reuse give.Reuse = true
is_reuse g = false

abbrev pub opening_of : List Sym → Opening
opening_of (grammar_symbol.Tok tok.Ret ∷ right) = opening.Return
opening_of (grammar_symbol.Tok tok.Save ∷ right) = opening.Save
opening_of right = opening.Other

-- a rule that gives an operand neither returns nor saves
abbrev pub opening_by : Give → List Sym → Opening
opening_by (give.Shape l) right = opening.Other
opening_by g right = opening_of right

abbrev pub is_signed : List Restriction → Bool
is_signed [] = false
is_signed (restriction.Signed i ∷ rs) = true
is_signed (r ∷ rs) = is_signed rs

abbrev pub setting_of : List Class → Rule → Setting
setting_of classes rule = record {
  own = own_of rule.give;
  is_reused = is_reuse rule.give;
  is_signed = is_signed rule.restrictions;
  opening = opening_by rule.give rule.right;
  is_statement = is_nothing (kind_at classes rule.left);
}

-- a value is saved at its size, a place or an address as a longword; a reload line gives a register
abbrev pub saved_own : Kind → Own
saved_own kind.Reg = own.Register
saved_own (kind.Value z) = own.Slot z
saved_own k = own.Slot Long

abbrev pub is_reload : Kind → Bool
is_reload kind.Reg = true
is_reload k = false

abbrev pub saved_setting : Kind → Setting
saved_setting k = record {
  own = saved_own k;
  is_reused = false;
  is_signed = false;
  opening = opening.Other;
  is_statement = not (is_reload k);
}

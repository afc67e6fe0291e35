-- What the toy machine's templates do, and the instructions that they become.
use Rattle.std.specs.Prelude.{ℕ, ◌==◌, ◌&&◌, Bool, true, false, List, [], ◌∷◌, Option, Some, None, Result}
use Rattle.std.specs.Prelude.{Ok, Err, if◌then◌else◌}
use Rattle.gg_base.specs.declared.size.Size.{Size}
use Rattle.gg_base.specs.declared.size.Size.TheVariants.{Long}
use Rattle.gg_base.specs.Sizes.{bytes_of}
use Rattle.tree_core.specs.declared.token.Tok.{Tok}
use Rattle.tree_core.specs.declared.token.Tok.TheVariants as tok
use Rattle.md_reader_pieces.specs.declared.piece.Line.{Line}
use Rattle.md_reader.specs.declared.types.Kind.{Kind}
use Rattle.md_reader.specs.declared.types.Kind.TheVariants as kind
use Rattle.md_reader.specs.declared.types.Class.{Class}
use Rattle.md_reader.specs.declared.types.Sym.{Sym}
use Rattle.md_reader.specs.declared.types.Sym.TheVariants as grammar_symbol
use Rattle.md_reader.specs.declared.types.Give.{Give}
use Rattle.md_reader.specs.declared.types.Give.TheVariants as give
use Rattle.md_reader.specs.declared.types.Rule.{Rule}
use Rattle.md_reader.specs.Patterns.{kind_at}
use Rattle.md_reader.specs.Restrictions.{is_reg}
use Rattle.term_core.specs.declared.operator.BinaryOp.TheVariants as binary_op
use Rattle.term_core.specs.Shape.{Symbol, Memory, Binary}
use Rattle.sel_target.specs.sel_terms.specs.Effects.{ActShape, EffectShape, Value, Number, Address, PlaceHome, PlaceAt, StoreHome}
use Rattle.sel_target.specs.sel_terms.specs.Effects.{StoreAt, Branch, Push, Call, Save, Return, Jump}
use Rattle.sel_target.specs.declared.fault.TemplateKind.TheVariants as template_kind
use Rattle.sel_target.specs.Meaning.{Fault}
use Rattle.sel_target.specs.EffectTerms.{begins_with_save}
use Rattle.sel_target.specs.Instances.{hole}
use Rattle.sel_toy_machine.specs.declared.form.Form.{Form}
use Rattle.sel_toy_machine.specs.declared.form.Form.TheVariants as form
use Rattle.sel_toy_machine.specs.declared.form.ShapeForm.{ShapeForm}
use Rattle.sel_toy_machine.specs.declared.form.ShapeForm.TheVariants as shape_form
use Rattle.sel_toy_machine.specs.Forms.{form_of, shape_of, is_sized}

abbrev pub fault_at : ℕ → Fault
fault_at line = record { line = line; kind = template_kind.NotInstr }

abbrev pub or_fault : ℕ → Option EffectShape → Result EffectShape Fault
or_fault line None = Err (fault_at line)
or_fault line (Some e) = Ok e

abbrev pub undivided : ActShape → EffectShape
undivided a = record { act = a; divisors = [] }

abbrev pub where_true : Bool → EffectShape → Option EffectShape
where_true b e = if b then Some e else None

abbrev pub gives_register : Give → Bool
gives_register give.Fresh = true
gives_register give.Reuse = true
gives_register g = false

abbrev pub sum : ℕ → ℕ → EffectShape
sum i j = undivided (Value (Binary binary_op.Add (Symbol i) (Symbol j)))

abbrev pub quotient : ℕ → ℕ → EffectShape
quotient i j = record { act = Value (Binary binary_op.Div (Symbol i) (Symbol j)); divisors = Symbol j ∷ [] }

abbrev pub gives_nothing : Give → Bool
gives_nothing give.Nothing = true
gives_nothing give.Scratch = true
gives_nothing g = false

abbrev pub is_place_of : Size → Option Kind → Bool
is_place_of size (Some (kind.Place z)) = bytes_of z == bytes_of size
is_place_of size k = false

abbrev pub is_slot : Tok → Bool
is_slot tok.Loc = true
is_slot tok.Arg = true
is_slot x = false

-- the symbol is a register's, or a place of the size
abbrev pub holds_register : List Class → Option Sym → Bool
holds_register classes None = false
holds_register classes (Some (grammar_symbol.Tok x)) = false
holds_register classes (Some (grammar_symbol.Class c)) = is_reg (kind_at classes c)

abbrev pub is_home : List Class → Size → Option Sym → Bool
is_home classes size None = false
is_home classes size (Some (grammar_symbol.Tok x)) = is_slot x && (bytes_of size == bytes_of Long)
is_home classes size (Some (grammar_symbol.Class c)) = is_place_of size (kind_at classes c)

-- what a line does, where its symbols are of the sizes
abbrev pub found_form : List Class → Rule → Form → Option EffectShape
found_form classes rule (form.Move size i) = where_true (gives_register rule.give && is_sized classes rule.right size i)
    (undivided (Value (Symbol i)))
found_form classes rule (form.Address i) = None
found_form classes rule (form.Add i j) =
    where_true (gives_register rule.give && (is_sized classes rule.right Long i && is_sized classes rule.right Long j))
    (sum i j)
found_form classes rule (form.Divide i j) =
    where_true (gives_register rule.give && (is_sized classes rule.right Long i && is_sized classes rule.right Long j))
    (quotient i j)
found_form classes rule (form.Store size i j) =
    where_true (gives_nothing rule.give && (is_home classes size (hole rule.right i) && is_sized classes rule.right Long j))
    (undivided (StoreHome size i (Symbol j)))
found_form classes rule (form.StoreAt size i j) =
    where_true (gives_nothing rule.give && (holds_register classes (hole rule.right i) && is_sized classes rule.right Long j))
    (undivided (StoreAt size (Symbol i) (Symbol j)))
found_form classes rule (form.Push i) = where_true (gives_nothing rule.give && is_sized classes rule.right Long i)
    (undivided (Push (Symbol i)))
found_form classes rule (form.Branch i j k) =
    where_true (gives_nothing rule.give && (is_sized classes rule.right Long j && is_sized classes rule.right Long k))
    (undivided (Branch i (Symbol j) (Symbol k)))
found_form classes rule (form.Jump i) = where_true (gives_nothing rule.give && (i == 1)) (undivided Jump)
found_form classes rule (form.Call i) = where_true (gives_nothing rule.give && (i == 1)) (undivided Call)
found_form classes rule (form.Return i) = where_true (gives_nothing rule.give && is_sized classes rule.right Long i)
    (undivided (Return (Symbol i)))
found_form classes rule (form.Save i) = where_true (gives_nothing rule.give && begins_with_save rule.right) (undivided (Save i))

abbrev pub found_line : List Class → Rule → Option Form → Option EffectShape
found_line classes rule None = None
found_line classes rule (Some f) = found_form classes rule f

-- what a shape gives, by the kind of its class
abbrev pub found_shape : List Class → List Sym → Option Kind → ShapeForm → Option EffectShape
found_shape classes right (Some kind.Reg) (shape_form.Alone i) = where_true (holds_register classes (hole right i))
    (undivided (Value (Symbol i)))
found_shape classes right (Some kind.Con) (shape_form.Alone i) = where_true (is_sized classes right Long i) (undivided (Number (Symbol i)))
found_shape classes right (Some (kind.Place size)) (shape_form.Alone i) = where_true (is_home classes size (hole right i))
    (undivided (PlaceHome size i))
found_shape classes right (Some (kind.Value size)) (shape_form.Based i) = where_true (holds_register classes (hole right i))
    (undivided (Value (Memory size (Symbol i))))
found_shape classes right (Some (kind.Place size)) (shape_form.Based i) = where_true (holds_register classes (hole right i))
    (undivided (PlaceAt size (Symbol i)))
found_shape classes right (Some kind.Ea) (shape_form.Based i) = where_true (holds_register classes (hole right i))
    (undivided (Address (Symbol i)))
found_shape classes right k f = None

-- a rule has one line, or a shape alone
abbrev pub found_rule : List Class → Rule → List Line → Give → Result EffectShape Fault
found_rule classes rule [] (give.Shape l) = or_fault l.line (found_shape classes rule.right (kind_at classes rule.left) (shape_of l.pieces))
found_rule classes rule [] g = Err (fault_at 0)
found_rule classes rule (l ∷ []) g = or_fault l.line (found_line classes rule (form_of l.pieces))
found_rule classes rule (l ∷ k ∷ ls) g = Err (fault_at k.line)

abbrev pub effect : List Class → Rule → Result EffectShape Fault
effect classes rule = found_rule classes rule rule.lines rule.give

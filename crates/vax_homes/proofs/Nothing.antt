-- Where nothing is wanted the body stays as it is.
use Rattle.std.proofs.Common.{◌≡◌, Bool, true, false, cond, List, [], ◌∷◌, map, Option, None, refl, ap, ◌∙◌}
use Rattle.vax_core.specs.declared.register.Reg.{Reg}
use Rattle.vax_core.specs.declared.operand.Base.{Base}
use Rattle.vax_core.specs.declared.operand.Base.TheVariants as bases
use Rattle.vax_core.specs.declared.operand.Operand.{Operand}
use Rattle.vax_core.specs.declared.code.CodeItem.{CodeItem}
use Rattle.vax_core.specs.declared.code.CodeItem.TheVariants as item_kind
use Rattle.vax_homes.specs.declared.choose.Home.{Home}
use Rattle.vax_homes.specs.Choosing.{is_fp}
use Rattle.vax_homes.specs.Homing.{held_by, pointed_by, homed_base, homed_operand, homed_item}
use Rattle.vax_homes.specs.Rows.{NothingWanted}

abbrev no_register : Option Reg
no_register = None

none_by : (b : Bool) → cond b no_register None ≡ None
none_by true = refl
none_by false = refl

base_stays : (b : Base) → homed_base [] b ≡ b
base_stays (bases.Disp a r) = ap (λ (q : Option Reg). held_by q (bases.Disp a r)) (none_by (is_fp r))
base_stays (bases.DispDef a r) = ap (λ (q : Option Reg). pointed_by q (bases.DispDef a r)) (none_by (is_fp r))
base_stays (bases.Imm a) = refl
base_stays (bases.Reg r) = refl
base_stays (bases.Def r) = refl
base_stays (bases.Inc r) = refl
base_stays (bases.IncDef r) = refl
base_stays (bases.Dec r) = refl
base_stays (bases.Abs n) = refl
base_stays (bases.Rel a) = refl
base_stays (bases.RelDef a) = refl

operands_stay : (os : List Operand) → map (homed_operand []) os ≡ os
operands_stay [] = refl
operands_stay (o ∷ os) = ap (λ (b : Base). record { base = b; index = o.index } ∷ map (homed_operand []) os) (base_stays o.base) ∙ ap (λ (xs : List Operand). o ∷ xs) (operands_stay os)

item_stays : (x : CodeItem) → homed_item [] x ≡ x
item_stays (item_kind.Label name) = refl
item_stays (item_kind.Globl name) = refl
item_stays (item_kind.Mask mask) = refl
item_stays (item_kind.Instr i) = ap (λ (os : List Operand). item_kind.Instr (record { op = i.op; operands = os; target = i.target })) (operands_stay i.operands)

items_stay : (body : List CodeItem) → map (homed_item []) body ≡ body
items_stay [] = refl
items_stay (x ∷ xs) = ap (λ (y : CodeItem). y ∷ map (homed_item []) xs) (item_stays x) ∙ ap (λ (ys : List CodeItem). x ∷ ys) (items_stay xs)

pub nothing_wanted : NothingWanted
nothing_wanted body = items_stay body

-- where no local gets a register, too
pub no_homes : (hs : List Home) (body : List CodeItem) → hs ≡ [] → map (homed_item hs) body ≡ body
no_homes hs body e = ap (λ (gs : List Home). map (homed_item gs) body) e ∙ items_stay body

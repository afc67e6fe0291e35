-- What some bodies become.
use Rattle.std.specs.Prelude.{◌≡◌, ℕ, List, [], ◌∷◌, map, Some, None}
use Rattle.vax_core.specs.declared.register.Reg.{Reg}
use Rattle.vax_core.specs.declared.register.Reg.TheVariants.{R0, R1, R6, R7, R8, R9, R10, R11}
use Rattle.vax_core.specs.declared.operand.Base.TheVariants as bases
use Rattle.vax_core.specs.declared.operand.Operand.{Operand}
use Rattle.vax_core.specs.declared.op.Op.{Op}
use Rattle.vax_core.specs.declared.op.Op.TheVariants.{Clrl, Movl, Movab, Movb, Addl2}
use Rattle.vax_core.specs.declared.code.CodeItem.{CodeItem}
use Rattle.vax_core.specs.declared.code.CodeItem.TheVariants as item_kind
use Rattle.vax_core.specs.First.{in_reg}
use Rattle.vax_core.specs.Homes.{home, at_home}
use Rattle.vax_frames.specs.Frames.{instr}
use Rattle.vax_homes.specs.Homing.{homed}

abbrev one : Op → Operand → CodeItem
one op o = item_kind.Instr (instr op (o ∷ []))

abbrev two : Op → Operand → Operand → CodeItem
two op o p = item_kind.Instr (instr op (o ∷ (p ∷ [])))

-- `(r)`
abbrev deferred : Reg → Operand
deferred r = record { base = bases.Def r; index = None }

abbrev indexed : Operand → Reg → Operand
indexed o x = record { base = o.base; index = Some x }

-- `clrl -4(fp)`, `movl *-4(fp),r0`
abbrev pub pointer_body : List CodeItem
pointer_body = one Clrl (home 0) ∷ (two Movl (at_home 0) (in_reg R0) ∷ [])

-- `movab -4(fp),r0` behind them
abbrev pub aimed_body : List CodeItem
aimed_body = one Clrl (home 0) ∷ (two Movl (at_home 0) (in_reg R0) ∷ (two Movab (home 0) (in_reg R0) ∷ []))

-- seven locals that are cleared
abbrev pub seven : List ℕ
seven = 0 ∷ (1 ∷ (2 ∷ (3 ∷ (4 ∷ (5 ∷ (6 ∷ []))))))

abbrev pub clearing_body : List CodeItem
clearing_body = map (λ (k : ℕ). one Clrl (home k)) seven

-- a register of r6 to r11 that the body names is passed over
abbrev pub busy_body : List CodeItem
busy_body = two Movl (home 0) (in_reg R6) ∷ []

-- a byte of a local's word is written
abbrev pub byte_body : List CodeItem
byte_body = two Movb (in_reg R0) (home 0) ∷ (two Addl2 (home 1) (home 1) ∷ [])

-- a local that is pointed with keeps its index
abbrev pub indexed_body : List CodeItem
indexed_body = one Clrl (indexed (at_home 0) R1) ∷ []

pub record Rows : Type 0 where
  -- `clrl r6`, `movl (r6),r0`
  pub deferred_row : homed (0 ∷ []) pointer_body ≡ one Clrl (in_reg R6) ∷ (two Movl (deferred R6) (in_reg R0) ∷ [])
  pub address_row : homed (0 ∷ []) aimed_body ≡ aimed_body
  pub nobody_row : homed [] pointer_body ≡ pointer_body
  -- r6 to r11 are taken by the first six, and the seventh stays where it was
  pub seven_row : homed seven clearing_body
      ≡ one Clrl (in_reg R6) ∷ (one Clrl (in_reg R7) ∷ (one Clrl (in_reg R8) ∷ (one Clrl (in_reg R9) ∷ (one Clrl (in_reg R10) ∷
      (one Clrl (in_reg R11) ∷ (one Clrl (home 6) ∷ []))))))
  pub busy_row : homed (0 ∷ []) busy_body ≡ two Movl (in_reg R7) (in_reg R6) ∷ []
  pub byte_row : homed (0 ∷ (1 ∷ [])) byte_body ≡ two Movb (in_reg R0) (home 0) ∷ (two Addl2 (in_reg R6) (in_reg R6) ∷ [])
  pub indexed_row : homed (0 ∷ []) indexed_body ≡ one Clrl (indexed (deferred R6) R1) ∷ []

-- Where nothing is wanted the body stays as it is.
abbrev pub NothingWanted : Type 0
NothingWanted = (body : List CodeItem) → homed [] body ≡ body

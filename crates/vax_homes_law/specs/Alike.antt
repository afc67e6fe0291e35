-- Two states of the machine: one has its locals in its frame's words, the other has some of them in registers.
use Rattle.std.specs.Prelude.{◌≡◌, ◌⊎◌, ℕ, ◌+◌, ◌-◌, ◌*◌, ◌<◌, ◌≤◌, ◌%◌, ◌&&◌, nat_le, ◌==◌, Bool, true, false, is_none, List, [], ◌∷◌}
use Rattle.std.specs.Prelude.{length, slice_index, None}
use Rattle.gg_base.specs.declared.limits.TheConstants.{STACK_SIZE, STACK_START, STACK_TOP}
use Rattle.gg_base.specs.declared.size.Size.TheVariants.{Long}
use Rattle.gg_base.specs.Arithmetic.{add32}
use Rattle.gg_base.specs.LittleEndian.{number_in}
use Rattle.vax_confined.specs.vax_core.specs.declared.register.Reg.TheVariants.{Fp}
use Rattle.vax_confined.specs.vax_core.specs.declared.operand.Addr.{Addr}
use Rattle.vax_confined.specs.vax_core.specs.declared.operand.Base.{Base}
use Rattle.vax_confined.specs.vax_core.specs.declared.operand.Base.TheVariants as bases
use Rattle.vax_confined.specs.vax_core.specs.declared.operand.Operand.{Operand}
use Rattle.vax_confined.specs.vax_core.specs.declared.op.OperandKind.{OperandKind}
use Rattle.vax_confined.specs.vax_core.specs.declared.code.Instr.{Instr}
use Rattle.vax_confined.specs.vax_core.specs.Ops.{shape}
use Rattle.vax_confined.specs.vax_core.specs.Registers.{reg_number, operand_names}
use Rattle.vax_confined.specs.vax_core.specs.Valid.{is_base}
use Rattle.vax_homes.specs.declared.choose.Home.{Home}
use Rattle.vax_homes.specs.Choosing.{spares}
use Rattle.vax_homes.specs.Homing.{register_at}
use Rattle.vax_confined.specs.vax_machine.specs.State.{State, reg}
use Rattle.vax_confined.specs.vax_machine_lists.specs.Sound.{IsSound}
use Rattle.vax_confined.specs.Confined.{is_word, is_argument}

-- it is one of the homes
abbrev pub Has : List Home → Home → Type 0
Has [] h = ⊥
Has (g ∷ hs) h = (g ≡ h) ⊎ Has hs h

-- Locals and registers are paired one to one, and the registers are some of r6 to r11.
pub record IsPaired (hs : List Home) : Type 0 where
  pub low : (h : Home) → Has hs h → 6 ≤ reg_number h.register
  pub high : (h : Home) → Has hs h → reg_number h.register < 12
  pub registers : (g h : Home) → Has hs g → Has hs h → reg_number g.register ≡ reg_number h.register → g ≡ h
  pub locals : (g h : Home) → Has hs g → Has hs h → g.local ≡ h.local → g ≡ h

-- where local k's word lies in the stack's bytes
abbrev pub word_place : ℕ → ℕ → ℕ
word_place fp k = fp - 4 * (k + 1) - STACK_START

-- the other state
abbrev pub beside : State → List ℕ → List ℕ → State
beside m rs st = record m { registers = rs; stack = st }

abbrev pub is_argument_of : ℕ → Addr → Bool
is_argument_of args a = is_none a.name && (nat_le 4 a.offset && (nat_le a.offset (4 * args) && (a.offset % 4 == 0)))

-- an argument's place is one of the call's arguments
abbrev pub FitsArguments : ℕ → Base → Type 0
FitsArguments args (bases.Disp a r) = (reg_number r ≡ 12) → is_argument a ≡ true → is_argument_of args a ≡ true
FitsArguments args (bases.DispDef a r) = (reg_number r ≡ 12) → is_argument a ≡ true → is_argument_of args a ≡ true
FitsArguments args b = Unit {0}

-- an operand that is ready for homes: valid, it names no home's register, uses each home as a home may be used, and its argument is one
pub record MayHome (hs : List Home) (args : ℕ) (k : OperandKind) (o : Operand) : Type 0 where
  pub valid : is_base o.base ≡ true
  pub unnamed : (g : Home) → Has hs g → operand_names o (reg_number g.register) ≡ false
  pub spared : (g : Home) → Has hs g → spares g.local k o ≡ true
  pub fits : FitsArguments args o.base

abbrev pub AllMayHome : List Home → ℕ → List OperandKind → List Operand → Type 0
AllMayHome hs args [] os = Unit {0}
AllMayHome hs args (k ∷ ks) [] = Unit {0}
AllMayHome hs args (k ∷ ks) (o ∷ os) = MayHome hs args k o × AllMayHome hs args ks os

-- instructions that are ready for homes
abbrev pub AreReady : List Home → ℕ → List Instr → Type 0
AreReady hs args [] = Unit {0}
AreReady hs args (i ∷ is) = AllMayHome hs args (shape i.op).operands i.operands × AreReady hs args is

module _ (hs : List Home) (hidden : ℕ → Type 0) where
  -- none of the bytes of a longword at an address is hidden
  abbrev pub IsFree : ℕ → Type 0
  IsFree a = (j : ℕ) → j < 4 → hidden (a - STACK_START + j) → ⊥

  -- Where things lie: the bytes of the homes are hidden, and the other words of the frame, the arguments, and what lies below an address
  -- are not.
  pub record AreLaid (fp ap args low : ℕ) : Type 0 where
    pub bottom : (h : Home) → Has hs h → STACK_START + 4 * (h.local + 1) ≤ fp
    pub top : fp ≤ STACK_TOP
    pub homes : (h : Home) (j : ℕ) → Has hs h → j < 4 → hidden (word_place fp h.local + j)
    pub words : (a : Addr) → is_word a ≡ true → register_at hs a ≡ None → IsFree (add32 a.offset fp)
    pub arguments : (a : Addr) → is_argument_of args a ≡ true → IsFree (add32 a.offset ap)
    pub below : (a : ℕ) → a + 4 ≤ low → IsFree a

  -- Registers and stack of the other state: each home's register holds what its word holds in the first, and but for these registers and
  -- the hidden bytes the two are the same.
  pub record Alike (m : State) (rs st : List ℕ) : Type 0 where
    pub sound : IsSound m
    pub size : length rs ≡ 15
    pub others : (r : ℕ) → ((h : Home) → Has hs h → reg_number h.register ≡ r → ⊥) → slice_index rs r ≡ slice_index m.registers r
    pub homes : (h : Home) → Has hs h → number_in Long m.stack (word_place (reg m Fp) h.local) ≡ slice_index rs (reg_number h.register)
    pub whole : length st ≡ STACK_SIZE
    pub same : (i : ℕ) → (hidden i → ⊥) → slice_index st i ≡ slice_index m.stack i

-- What a line of a template does on the machine, by what it is judged to do.
use Rattle.std.specs.Prelude.{◌≡◌, ◌⊎◌, ℕ, Bool, true, false, List, [], ◌∷◌, Option, Some, None, Ok}
use Rattle.std.specs.List.{AllByRecursion}
use Rattle.gg_base.specs.declared.size.Size.{Size}
use Rattle.gg_base.specs.declared.size.Size.TheVariants.{Long}
use Rattle.vax_target_operands.specs.md_reader_pieces.specs.declared.piece.Piece.{Piece}
use Rattle.vax_target_operands.specs.term_core.specs.Shape.{Shape, Constant, LastResult}
use Rattle.vax_target_operands.specs.sel_terms.specs.Effects.{ActShape, Value, Number, Address, PlaceHome, PlaceAt, StoreHome, StoreAt}
use Rattle.vax_target_operands.specs.sel_terms.specs.Effects.{Branch, Push, Call, Save, Return, Jump}
use Rattle.vax_target_operands.specs.sel_terms_meaning.specs.Meaning.{terms_of_act}
use Rattle.vax_core.specs.declared.register.Reg.TheVariants.{R0}
use Rattle.vax_core.specs.declared.op.Op.TheVariants as ops
use Rattle.vax_machine.specs.declared.turn.Stop.TheVariants.{Trapped}
use Rattle.vax_machine.specs.declared.function.Conditions.{Conditions}
use Rattle.vax_machine.specs.declared.operands.Location.{Location}
use Rattle.vax_machine.specs.declared.operands.Location.TheVariants as locations
use Rattle.vax_machine.specs.State.{State, reg, with_reg, with_conditions, ◌>>=◌}
use Rattle.vax_machine.specs.Operands.{put}
use Rattle.vax_machine.specs.Step.{pushing}
use Rattle.vax_target_operands.specs.vax_machine_lists.specs.Instructions.{Course, Returns, Stops, ends, comes, course_of}
use Rattle.vax_target_operands.specs.vax_confined.specs.Confined.{may_touch, performed}
use Rattle.vax_target_operands.specs.vax_target_confined.specs.Claims.{StandsAt}
use Rattle.vax_target_operands.specs.vax_templates.specs.declared.setting.Own.TheVariants as own
use Rattle.vax_target_operands.specs.vax_templates.specs.Deeds.{Last, Plain, Compared, Tested, Returning, Ended, Deed}
use Rattle.vax_target_operands.specs.vax_templates.specs.Judging.{line_did}
use Rattle.vax_target_operands.specs.vax_templates.specs.Filled.{register_in, operand_in}
use Rattle.vax_target_operands.specs.vax_templates.specs.FilledLines.{op_in, branch_to, call_of, callee_among, filled_line}
use Rattle.vax_target_operands.specs.Scenes.{Scene, worth, filling_at, IsSavedLocal, Sees}
use Rattle.vax_target_operands.specs.Places.{own_at, IsHome}
use Rattle.vax_target_operands.specs.Conditions as codes
use Rattle.vax_target_lines.specs.Takings.{AreRead}

-- the codes are what the line before left
abbrev pub CodesMean : Scene → Conditions → Last → Type 0
CodesMean c k Plain = Unit {0}
CodesMean c k (Compared a b) = codes.Compared k (worth c a) (worth c b)
CodesMean c k (Tested t) = codes.Tested k (worth c t)
CodesMean c k (Returning t) = Unit {0}
CodesMean c k (Ended deed) = Unit {0}

-- a value that is to be returned is in register 0
abbrev pub ZeroHolds : Scene → State → Last → Type 0
ZeroHolds c m (Returning t) = (reg m R0 ≡ worth c t) × (c.setting.is_statement ≡ true)
ZeroHolds c m l = Unit {0}

-- the place that a line saves in, or a symbol's own
abbrev pub IsStored : Scene → State → Size → ℕ → Location → Type 0
IsStored c m size i l = (((y : Size) × (c.setting.own ≡ own.Slot y)) × StandsAt m (operand_in c.program c.own) size l) ⊎ IsHome c m i size l

-- a number is put somewhere, and the codes are set
abbrev pub putting : State → Location → Size → ℕ → Conditions → Course
putting m l size v k = course_of (put m l size v >>= λ (n : State). Ok (None, with_conditions n k))

-- that is done where the place may be touched, as one of the innermost call's own or as another
pub record Puts (c : Scene) (m : State) (is_own : Bool) (size : Size) (v : ℕ) (IsThere : Location → Type 0) (did : Course) : Type 0 where
  pub place : Location
  pub conditions : Conditions
  pub there : IsThere place
  pub is : may_touch m is_own place size ≡ true → did ≡ putting m place size v conditions

-- the codes with which a branch is met: those of its two numbers, or of a test of bits where the relation compares with signs
abbrev pub IsMet : Scene → Conditions → Shape → Shape → Type 0
IsMet c k a b = codes.Compared k (worth c a) (worth c b) ⊎ ((c.setting.is_signed ≡ true) × (b ≡ Constant 0) × codes.Tested k (worth c a))

-- what the deed of a last line does; a value, a number, an address or a place is none
abbrev pub DoesDeed : Scene → State → ActShape → Course → Type 0
DoesDeed c m (Value t) did = ⊥
DoesDeed c m (Number t) did = ⊥
DoesDeed c m (Address t) did = ⊥
DoesDeed c m (PlaceHome z i) did = ⊥
DoesDeed c m (PlaceAt z a) did = ⊥
DoesDeed c m (StoreHome z i t) did = Puts c m (own_at c i) z (worth c t) (IsStored c m z i) did
DoesDeed c m (StoreAt z a t) did = Puts c m false z (worth c t) (λ l. l ≡ locations.Memory (worth c a)) did
DoesDeed c m (Branch i a b) did = IsMet c m.conditions a b × (did ≡ performed (branch_to (op_in (filling_at c i)) c.holes) m)
DoesDeed c m (Push t) did = did ≡ course_of (pushing m (worth c t))
DoesDeed c m Call did = did ≡ performed (call_of c.program (callee_among c.holes)) m
DoesDeed c m (Save i) did =
    Puts c m (own_at c i) Long (worth c LastResult) (λ l. StandsAt m (operand_in c.program (filling_at c i)) Long l
    × IsSavedLocal c (filling_at c i)) did
DoesDeed c m (Return t) did = (did ≡ ends (Returns m)) × (reg m R0 ≡ worth c t)
DoesDeed c m Jump did = did ≡ performed (branch_to ops.Jbr c.holes) m

-- `%0` with what the line puts there
abbrev pub with_own : Scene → State → Option Shape → State
with_own c m None = m
with_own c m (Some t) = with_reg m (register_in c.own) (worth c t)

abbrev pub with_last : Scene → State → Last → State
with_last c m (Returning t) = with_reg m R0 (worth c t)
with_last c m l = m

-- only a statement returns, and only a statement or a line that saves does a deed
abbrev pub MayReturn : Scene → Last → Type 0
MayReturn c (Returning t) = c.setting.is_statement ≡ true
MayReturn c l = Unit {0}

abbrev pub MayEnd : Scene → Type 0
MayEnd c = (c.setting.is_statement ≡ true) ⊎ ((y : Size) × (c.setting.own ≡ own.Slot y))

-- `%0` is a register, if it has a value
abbrev pub MayHold : Scene → Option Shape → Type 0
MayHold c None = Unit {0}
MayHold c (Some t) = c.setting.own ≡ own.Register

-- the run comes behind a line that puts this into `%0` and leaves that
pub record GoesOn (c : Scene) (m : State) (own_is : Option Shape) (last : Last) (did : Course) : Type 0 where
  pub conditions : Conditions
  pub is : did ≡ comes (with_conditions (with_last c (with_own c m own_is) last) conditions)
  pub codes_mean : CodesMean c conditions last
  pub may : MayHold c own_is
  pub last_may : MayReturn c last

abbrev pub DoesLine : Scene → State → Option Shape → Course → Last → Type 0
DoesLine c m o did (Ended deed) = MayEnd c × DoesDeed c m deed did
DoesLine c m o did l = GoesOn c m o l did

-- the terms of a last line's deed
abbrev pub terms_of_last : Last → List Shape
terms_of_last (Ended deed) = terms_of_act deed
terms_of_last l = []

-- they can be read
abbrev pub EndIsRead : Scene → Last → Type 0
EndIsRead c l = c.setting.is_statement ≡ true → AreRead c (terms_of_last l)

abbrev pub NoneIsZero : Scene → List Shape → Type 0
NoneIsZero c ds = AllByRecursion (λ (d : Shape). worth c d ≡ 0 → ⊥) ds

-- A line does what it is judged to do, where what it reads can be read and no divisor is 0.
abbrev pub LinesDo : Type 0
LinesDo = (c : Scene) (held : Option Shape) (m : State) (is_first : Bool) (before : Last) (ps : List Piece) (d : Deed) →
    Sees c held m → CodesMean c m.conditions before → ZeroHolds c m before →
    line_did c.setting c.roles is_first held before ps ≡ Ok d → AreRead c d.reads → EndIsRead c d.last → NoneIsZero c d.divisors →
    DoesLine c m d.own (performed (filled_line c.program ps c.holes c.own) m) d.last

-- It traps where its divisor is 0.
abbrev pub LinesTrap : Type 0
LinesTrap = (c : Scene) (held : Option Shape) (m : State) (is_first : Bool) (before : Last) (ps : List Piece) (d : Deed) (divisor : Shape) →
    Sees c held m → line_did c.setting c.roles is_first held before ps ≡ Ok d → AreRead c d.reads → EndIsRead c d.last →
    d.divisors ≡ divisor ∷ [] → worth c divisor ≡ 0 → performed (filled_line c.program ps c.holes c.own) m ≡ ends (Stops Trapped)

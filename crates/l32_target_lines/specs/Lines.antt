-- What a line of a template does on the machine, by what it is judged to do.
use Rattle.std.specs.Prelude.{◌≡◌, ◌⊎◌, ℕ, true, false, Bool, List, [], Option, Some, None, option_map, Ok}
use Rattle.std.specs.List.{AllByRecursion}
use Rattle.gg_base.specs.declared.relation.Rel.{Rel}
use Rattle.gg_base.specs.declared.size.Size.{Size}
use Rattle.gg_base.specs.declared.size.Size.TheVariants.{Long}
use Rattle.gg_base.specs.Relations.{holds}
use Rattle.l32_target_operands.specs.vax_target_meaning.specs.tree_core.specs.declared.tree.Att.TheVariants as att
use Rattle.l32_target_operands.specs.vax_target_meaning.specs.tree_core.specs.Names.{label_name}
use Rattle.l32_target_operands.specs.judging_laws.specs.md_reader_pieces.specs.declared.piece.Piece.{Piece}
use Rattle.l32_target_operands.specs.judging_laws.specs.term_core.specs.Shape.{Shape, LastResult}
use Rattle.l32_target_operands.specs.judging_laws.specs.sel_terms.specs.Effects.{ActShape, StoreHome, StoreAt, Branch, Push, Call, Save, Return, Jump}
use Rattle.l32_target_operands.specs.judging_laws.specs.sel_target.specs.sel_terms_meaning.specs.Meaning.{terms_of_act}
use Rattle.l32_target_operands.specs.judging_laws.specs.sel_target.specs.Courses.{Course, Returns, ends, comes}
use Rattle.l32_target_operands.specs.judging_laws.specs.sel_target.specs.StatementLaws.{att_of}
use Rattle.l32_target_operands.specs.judging_laws.specs.vax_templates.specs.declared.setting.Hole.TheVariants as hole_kind
use Rattle.l32_target_operands.specs.judging_laws.specs.vax_templates.specs.declared.setting.Own.TheVariants as own
use Rattle.l32_target_operands.specs.judging_laws.specs.vax_templates.specs.Deeds.{Last, Returning, Ended, Deed}
use Rattle.l32_target_operands.specs.l32_templates.specs.l32_core.specs.declared.code.Instr32.{Instr32}
use Rattle.l32_target_operands.specs.l32_templates.specs.l32_machine.specs.State.{State, reg, with_reg}
use Rattle.l32_target_operands.specs.l32_templates.specs.l32_machine.specs.Memory.{written}
use Rattle.l32_target_operands.specs.l32_templates.specs.l32_machine.specs.Calls.{silent, pushed}
use Rattle.l32_target_operands.specs.l32_templates.specs.Judging.{line_did}
use Rattle.l32_target_operands.specs.l32_templates.specs.Filled.{register_in, operand_in}
use Rattle.l32_target_operands.specs.l32_templates.specs.FilledLines.{label_among, callee_among, call_of, filled_line}
use Rattle.l32_target_operands.specs.l32_target_meaning.specs.Reading.{named}
use Rattle.l32_target_operands.specs.l32_target_meaning.specs.Running.{course_of, branching, performed}
use Rattle.l32_target_operands.specs.Scenes.{Scene, worth, role_at, filling_at, Sees}
use Rattle.l32_target_lines.specs.Takings.{AreRead}

-- a value that is to be returned is in a0
abbrev pub ZeroHolds : Scene → State → Last → Type 0
ZeroHolds c m (Returning t) = (reg m 0 ≡ worth c t) × (c.setting.is_statement ≡ true)
ZeroHolds c m l = Unit {0}

-- the address of the place that a line saves in, or of a symbol's own
abbrev pub IsStored : Scene → State → ℕ → ℕ → Type 0
IsStored c m i a =
    (((y : Size) × (c.setting.own ≡ own.Slot y)) × (named m (operand_in c.program c.own) ≡ Some a))
    ⊎ (named m (operand_in c.program (filling_at c i)) ≡ Some a)

-- a number is put somewhere
pub record Puts (m : State) (size : Size) (v : ℕ) (IsThere : ℕ → Type 0) (did : Course Instr32 State) : Type 0 where
  pub address : ℕ
  pub there : IsThere address
  pub is : did ≡ course_of (silent (written m address size v))

-- what the deed of a last line does; a value, a number, an address or a place is none
abbrev pub DoesDeed : Scene → State → ActShape → Course Instr32 State → Type 0
DoesDeed c m (StoreHome z i t) did = Puts m z (worth c t) (IsStored c m i) did
DoesDeed c m (StoreAt z a t) did = Puts m z (worth c t) (λ x. x ≡ worth c a) did
DoesDeed c m (Branch i a b) did =
    (r : Rel) (label : ℕ) → att_of (Some (filling_at c i)) ≡ Some (att.Branch r label)
    → did ≡ branching (holds r (worth c a) (worth c b)) (option_map label_name (label_among c.holes)) m
DoesDeed c m (Push t) did = did ≡ course_of (silent (pushed m (worth c t)))
DoesDeed c m Call did = did ≡ performed (call_of c.program (callee_among c.holes)) m
DoesDeed c m (Save i) did =
    Puts m Long (worth c LastResult) (λ x. named m (operand_in c.program (filling_at c i)) ≡ Some x) did × (role_at c i ≡ hole_kind.Saved)
DoesDeed c m (Return t) did = (did ≡ ends (Returns m)) × (reg m 0 ≡ worth c t)
DoesDeed c m Jump did = did ≡ branching true (option_map label_name (label_among c.holes)) m
DoesDeed c m a did = ⊥

-- `%0` with what the line puts there
abbrev pub with_own : Scene → State → Option Shape → State
with_own c m None = m
with_own c m (Some t) = with_reg m (register_in c.own) (worth c t)

abbrev pub with_last : Scene → State → Last → State
with_last c m (Returning t) = with_reg m 0 (worth c t)
with_last c m l = m

-- only a statement returns, and only a statement or a line that saves does a deed
abbrev pub MayReturn : Scene → Last → Type 0
MayReturn c (Returning t) = c.setting.is_statement ≡ true
MayReturn c l = Unit {0}

abbrev pub MayEnd : Scene → Type 0
MayEnd c = (c.setting.is_statement ≡ true) ⊎ ((y : Size) × (c.setting.own ≡ own.Slot y))

-- `%0` is a register, if it has a value
abbrev pub MayHold : Scene → Option Shape → Type 0
MayHold c None = Unit {0}
MayHold c (Some t) = c.setting.own ≡ own.Register

-- the run comes behind a line that puts this into `%0` and leaves that
pub record GoesOn (c : Scene) (m : State) (own_is : Option Shape) (last : Last) (did : Course Instr32 State) : Type 0 where
  pub is : did ≡ comes (with_last c (with_own c m own_is) last)
  pub may : MayHold c own_is
  pub last_may : MayReturn c last

abbrev pub DoesLine : Scene → State → Option Shape → Course Instr32 State → Last → Type 0
DoesLine c m o did (Ended deed) = MayEnd c × DoesDeed c m deed did
DoesLine c m o did l = GoesOn c m o l did

-- the terms of a last line's deed
abbrev pub terms_of_last : Last → List Shape
terms_of_last (Ended deed) = terms_of_act deed
terms_of_last l = []

-- they can be read
abbrev pub EndIsRead : Scene → Last → Type 0
EndIsRead c l = c.setting.is_statement ≡ true → AreRead c (terms_of_last l)

abbrev pub NoneIsZero : Scene → List Shape → Type 0
NoneIsZero c ds = AllByRecursion (λ (d : Shape). worth c d ≡ 0 → ⊥) ds

-- no statement puts its value into an operand's register
abbrev pub IsSettled : Scene → Type 0
IsSettled c = c.setting.is_statement ≡ true → c.setting.is_reused ≡ false

-- A line does what it is judged to do, where what it reads can be read and no divisor is 0.
abbrev pub LinesDo : Type 0
LinesDo = (c : Scene) (held : Option Shape) (m : State) (is_first : Bool) (before : Last) (ps : List Piece) (d : Deed) →
    Sees c held m → IsSettled c → ZeroHolds c m before → line_did c.setting c.roles is_first held before ps ≡ Ok d → AreRead c d.reads
    → EndIsRead c d.last → NoneIsZero c d.divisors → DoesLine c m d.own (performed (filled_line c.program ps c.holes c.own) m) d.last

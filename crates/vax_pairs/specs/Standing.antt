-- When two machines stand to each other: what they have the same at places that stand to each other, and the relation of their registers.
use Rattle.std.specs.Prelude.{◌≡◌, ℕ, ◌-◌, ◌<◌, ◌≤◌, List, [], ◌∷◌, length, Option, Some, None, slice_index, slice_get}
use Rattle.vax_machine_lists.specs.vax_core.specs.declared.register.Reg.TheVariants.{R0, Ap, Fp, Sp}
use Rattle.vax_machine_lists.specs.vax_core.specs.declared.code.AreaItem.{AreaItem}
use Rattle.vax_machine_lists.specs.vax_machine_live.specs.declared.frame.Frame.{Frame}
use Rattle.vax_machine_lists.specs.vax_machine.specs.declared.function.Conditions.{Conditions}
use Rattle.vax_machine_lists.specs.vax_machine.specs.State.{State, reg, cleared}
use Rattle.vax_machine_lists.specs.vax_machine.specs.Calls.{restored}

-- what a relation of two machines may speak of: their registers r0 to r11, and N, Z and C
pub record Seen : Type 0 where
  pub registers : List ℕ
  pub conditions : Conditions

abbrev pub seen : State → Seen
seen m = record { registers = m.registers; conditions = m.conditions }

-- what two machines have the same at all places that stand to each other
pub record Bare : Type 0 where
  pub layout : List AreaItem
  pub area : List ℕ
  pub stack : List ℕ
  pub input : List ℕ
  pub ap : ℕ
  pub fp : ℕ
  pub sp : ℕ

abbrev pub bare : State → Bare
bare m = record { layout = m.layout; area = m.area; stack = m.stack; input = m.input; ap = reg m Ap; fp = reg m Fp; sp = reg m Sp }

-- r0 to r11 are so, and the condition codes are clear
pub record Begun (registers : List ℕ) (s : Seen) : Type 0 where
  pub same : (r : ℕ) → r < 12 → slice_index s.registers r ≡ slice_index registers r
  pub clear : s.conditions ≡ cleared

-- r2 to r11 are so, and the condition codes are clear
pub record Resumed (registers : List ℕ) (s : Seen) : Type 0 where
  pub same : (r : ℕ) → 2 ≤ r → r < 12 → slice_index s.registers r ≡ slice_index registers r
  pub clear : s.conditions ≡ cleared

-- A `ret` leaves r0 as it is and restores r2 to r11, whatever the mask has of them.
pub record Restores (m : State) (f : Frame) : Type 0 where
  pub result : restored m f 0 ≡ reg m R0
  pub others : (r : ℕ) → 2 ≤ r → r < 12 → restored m f r ≡ slice_index f.saved r

abbrev pub IsSteady : State → Type 0
IsSteady m = (f : Frame) → slice_get m.frames (length m.frames - 1) ≡ Some f → Restores m f

-- Rel: names of relations; Holds: what each says; At: a place of the first code stands to one of the second, with a relation, and
-- a number that falls where only one of the two goes on
module _ (Rel : Type 0) (Holds : Rel → Seen → Seen → Type 0) (At : ℕ → ℕ → ℕ → Rel → Type 0) where
  -- the relation holds behind a call in which these registers were saved
  abbrev pub Later : Rel → List ℕ → List ℕ → Type 0
  Later r us vs = (s t : Seen) → Resumed us s → Resumed vs t → slice_index t.registers 0 ≡ slice_index s.registers 0 → Holds r s t

  -- the relation holds behind the mask of a function that is called with these registers
  abbrev pub Entering : Rel → List ℕ → List ℕ → Type 0
  Entering r us vs = (s t : Seen) → Begun us s → Begun vs t → Holds r s t

  -- ---- frames

  abbrev pub IsBackAlike : Option ℕ → Option ℕ → List ℕ → List ℕ → Type 0
  IsBackAlike None None us vs = Unit {0}
  IsBackAlike None (Some q) us vs = ⊥
  IsBackAlike (Some p) None us vs = ⊥
  IsBackAlike (Some p) (Some q) us vs = (k : ℕ) × ((r : Rel) × (At k p q r × Later r us vs))

  pub record IsFrameAlike (f g : Frame) : Type 0 where
    pub same : g ≡ record f { back = g.back; saved = g.saved }
    pub saved_ap : slice_index g.saved 12 ≡ slice_index f.saved 12
    pub saved_fp : slice_index g.saved 13 ≡ slice_index f.saved 13
    pub back : IsBackAlike f.back g.back f.saved g.saved

  abbrev pub AreFramesAlike : List Frame → List Frame → Type 0
  AreFramesAlike [] [] = Unit {0}
  AreFramesAlike [] (g ∷ gs) = ⊥
  AreFramesAlike (f ∷ fs) [] = ⊥
  AreFramesAlike (f ∷ fs) (g ∷ gs) = IsFrameAlike f g × AreFramesAlike fs gs

  -- ---- states

  pub record Even (m n : State) : Type 0 where
    pub going : m.over ≡ None
    pub others_going : n.over ≡ None
    pub long : length m.registers ≡ 15
    pub others_long : length n.registers ≡ 15
    pub bare : bare n ≡ bare m
    pub frames : AreFramesAlike m.frames n.frames

  pub record Stands (k : ℕ) (r : Rel) (m n : State) : Type 0 where
    pub at : At k m.place n.place r
    pub even : Even m n
    pub holds : Holds r (seen m) (seen n)

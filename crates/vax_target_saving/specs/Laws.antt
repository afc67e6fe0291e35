-- The laws of this crate: what is stored in a free word of the frame, the lines that save there, and those that reload.
use Rattle.std.specs.Prelude.{◌≡◌, ℕ, ◌-◌, ◌*◌, ◌^◌, ◌<◌, List, [], ◌∷◌, Some, Ok, true}
use Rattle.gg_base.specs.declared.limits.TheConstants.{NEED_LIMIT, STACK_START}
use Rattle.gg_base.specs.declared.size.Size.{Size}
use Rattle.gg_base.specs.declared.size.Size.TheVariants.{Long}
use Rattle.gg_base.specs.Sizes.{bytes_of, low}
use Rattle.gg_base.specs.LittleEndian.{with_number}
use Rattle.tree_core.specs.declared.program.TreeProgram.{TreeProgram}
use Rattle.vax_target_spelling.specs.tree_meaning.specs.State.{State as Trees, Extent}
use Rattle.md_reader_pieces.specs.declared.piece.Line.{Line}
use Rattle.vax_target_spelling.specs.md_reader.specs.declared.types.Kind.TheVariants as kind
use Rattle.vax_target_spelling.specs.sel_target.specs.declared.attr.Attr.{Attr}
use Rattle.vax_target_spelling.specs.sel_target.specs.declared.attr.Attr.TheVariants as attr
use Rattle.vax_target_spelling.specs.sel_target.specs.Meaning.{RegAt, WordAt, IsFree}
use Rattle.vax_target_spelling.specs.sel_target.specs.Values.{View, value, worth}
use Rattle.vax_target_spelling.specs.sel_target.specs.Outcomes.{Keeps, Sets, SetsName}
use Rattle.vax_target_spelling.specs.sel_target.specs.SavingLaws.{Saves, Reloads, IsValue, IsSet, IsSlot, saving, reloading, SavesAndReloads}
use Rattle.vax_core.specs.declared.operand.Operand.{Operand}
use Rattle.vax_core.specs.declared.register.Reg.TheVariants.{Fp}
use Rattle.vax_machine.specs.declared.function.Conditions.{Conditions}
use Rattle.vax_machine.specs.State.{State, reg, with_conditions}
use Rattle.vax_machine.specs.Memory.{written}
use Rattle.vax_target_spelling.specs.vax_states.specs.Stack.{word_of}
use Rattle.vax_target_spelling.specs.vax_target_meaning.specs.Vax.{vax}

-- a number of a size stored in word w of the innermost frame, with new condition codes
abbrev pub with_word : State → ℕ → Size → ℕ → Conditions → State
with_word m w size x k = with_conditions (record m { stack = with_number size m.stack (word_of (reg m Fp) w - STACK_START) x }) k

-- it can be stored, it is read there, and all else is kept
pub record IsStored (m : State) (w : ℕ) (size : Size) (x : ℕ) (k : Conditions) : Type 0 where
  pub stores : written m (word_of (reg m Fp) w) size x ≡ Ok (record m {
    stack =
        with_number size m.stack (word_of (reg m Fp) w - STACK_START) x;
  })
  pub reads : w < NEED_LIMIT → vax.reads (vax.slot w) size (with_word m w size x k) ≡ Some (low size x)
  pub keeps : Keeps vax (WordAt w ∷ []) m (with_word m w size x k)

-- A longword or a part of it goes into a free word of the frame.
abbrev pub FreeWordsStore : Type 0
FreeWordsStore =
    (q : TreeProgram) (f : Extent) (fs : List Extent) (t : Trees) (m : State) (w : ℕ) (size : Size) (x : ℕ) (k : Conditions)
    → vax.agrees q f fs t m → IsFree f (WordAt w) → x < 2 ^ 32 → IsStored m w size x k

-- A value, a place or an address is saved in a slot; all else is kept.
pub record LinesSave : Type 0 where
  pub values : (q : TreeProgram) (f : Extent) (fs : List Extent) (size : Size) (l : Line) (s : Saves vax (kind.Value size) l)
      (a : Attr Operand) (w n : ℕ)
      (v : View) (m : State)
      → IsValue vax size a → IsSet vax q f fs v n s.term m → IsSlot vax f w → worth vax q size a m ≡ Some n → n < 2 ^ (8 * bytes_of size)
      → Sets vax (saving vax q l a w) (WordAt w) q size (attr.Value (vax.slot w)) (low size (value v s.term)) m
  pub places : (q : TreeProgram) (f : Extent) (fs : List Extent) (size : Size) (l : Line) (s : Saves vax (kind.Place size) l)
      (o : Operand) (w n : ℕ)
      (v : View) (m : State)
      → vax.fits (kind.Place size) o ≡ true → IsSet vax q f fs v n s.term m → IsSlot vax f w → vax.names o size m ≡ Some n → n < 2 ^ 32
      → SetsName vax (saving vax q l (attr.Place o) w) (WordAt w) (vax.slot_deferred w) (value v s.term) m
  pub addresses : (q : TreeProgram) (f : Extent) (fs : List Extent) (l : Line) (s : Saves vax kind.Ea l) (o : Operand) (w n : ℕ)
      (v : View) (m : State)
      → vax.fits kind.Ea o ≡ true → IsSet vax q f fs v n s.term m → IsSlot vax f w → vax.names o Long m ≡ Some n → n < 2 ^ 32
      → SetsName vax (saving vax q l (attr.Ea o) w) (WordAt w) (vax.slot_deferred w) (value v s.term) m

-- A slot's longword is brought back to a register; all else is kept.
abbrev pub LinesReload : Type 0
LinesReload =
    (q : TreeProgram) (f : Extent) (fs : List Extent) (l : Line) (s : Reloads vax l) (w r n : ℕ) (v : View) (m : State)
    → r < 12 → w < NEED_LIMIT → IsSet vax q f fs v n s.term m → vax.reads (vax.slot w) Long m ≡ Some n → n < 2 ^ 32
    → Sets vax (reloading vax q l w r) (RegAt r) q Long (attr.Reg r) (value v s.term) m

-- the laws of a target on what is saved and reloaded
abbrev pub TargetSaves : Type 0
TargetSaves = SavesAndReloads vax

-- The law of this crate: what the lines do that save and reload.
use Rattle.std.specs.Prelude.{◌≡◌, ℕ, ◌*◌, ◌^◌, ◌<◌, List, Some, true}
use Rattle.gg_base.specs.declared.limits.TheConstants.{NEED_LIMIT}
use Rattle.gg_base.specs.declared.size.Size.{Size}
use Rattle.gg_base.specs.declared.size.Size.TheVariants.{Long}
use Rattle.gg_base.specs.Sizes.{bytes_of, low}
use Rattle.l32_target_rules.specs.vax_target_meaning.specs.tree_core.specs.declared.program.TreeProgram.{TreeProgram}
use Rattle.l32_target_rules.specs.vax_target_meaning.specs.tree_meaning.specs.State.{Extent}
use Rattle.l32_target_rules.specs.judging_laws.specs.md_reader_pieces.specs.declared.piece.Line.{Line}
use Rattle.l32_target_rules.specs.judging_laws.specs.md_reader.specs.declared.types.Kind.TheVariants as kind
use Rattle.l32_target_rules.specs.judging_laws.specs.sel_target.specs.declared.attr.Attr.{Attr}
use Rattle.l32_target_rules.specs.judging_laws.specs.sel_target.specs.declared.attr.Attr.TheVariants as attr
use Rattle.l32_target_rules.specs.judging_laws.specs.sel_target.specs.Meaning.{RegAt, WordAt}
use Rattle.l32_target_rules.specs.judging_laws.specs.sel_target.specs.Values.{View, value, worth}
use Rattle.l32_target_rules.specs.judging_laws.specs.sel_target.specs.Outcomes.{Sets, SetsName}
use Rattle.l32_target_rules.specs.judging_laws.specs.sel_target.specs.SavingLaws.{Saves, Reloads, IsValue, IsSet, IsSlot, saving, reloading}
use Rattle.l32_target_rules.specs.l32_templates.specs.l32_core.specs.declared.operand.Operand32.{Operand32}
use Rattle.l32_target_rules.specs.l32_templates.specs.l32_machine.specs.State.{State}
use Rattle.l32_target_rules.specs.l32_target_meaning.specs.L32.{l32}

pub record LinesSave : Type 0 where
  pub values : (q : TreeProgram) (f : Extent) (fs : List Extent) (size : Size) (l : Line) (s : Saves l32 (kind.Value size) l)
      (a : Attr Operand32) (w n : ℕ) (v : View) (m : State)
      → IsValue l32 size a → IsSet l32 q f fs v n s.term m → IsSlot l32 f w → worth l32 q size a m ≡ Some n → n < 2 ^ (8 * bytes_of size)
      → Sets l32 (saving l32 q l a w) (WordAt w) q size (attr.Value (l32.slot w)) (low size (value v s.term)) m
  pub places : (q : TreeProgram) (f : Extent) (fs : List Extent) (size : Size) (l : Line) (s : Saves l32 (kind.Place size) l) (o : Operand32)
      (w n : ℕ) (v : View) (m : State)
      → l32.fits (kind.Place size) o ≡ true → IsSet l32 q f fs v n s.term m → IsSlot l32 f w → l32.names o size m ≡ Some n → n < 2 ^ 32
      → SetsName l32 (saving l32 q l (attr.Place o) w) (WordAt w) (l32.slot_deferred w) (value v s.term) m
  pub addresses : (q : TreeProgram) (f : Extent) (fs : List Extent) (l : Line) (s : Saves l32 kind.Ea l) (o : Operand32) (w n : ℕ) (v : View)
      (m : State)
      → l32.fits kind.Ea o ≡ true → IsSet l32 q f fs v n s.term m → IsSlot l32 f w → l32.names o Long m ≡ Some n → n < 2 ^ 32
      → SetsName l32 (saving l32 q l (attr.Ea o) w) (WordAt w) (l32.slot_deferred w) (value v s.term) m
  pub reloads : (q : TreeProgram) (f : Extent) (fs : List Extent) (l : Line) (s : Reloads l32 l) (w r n : ℕ) (v : View) (m : State)
      → r < 12 → w < NEED_LIMIT → IsSet l32 q f fs v n s.term m → l32.reads (l32.slot w) Long m ≡ Some n → n < 2 ^ 32
      → Sets l32 (reloading l32 q l w r) (RegAt r) q Long (attr.Reg r) (value v s.term) m

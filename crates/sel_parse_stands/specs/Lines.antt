-- The lines of a description that save and reload.
use Rattle.std.specs.Prelude.{Some}
use Rattle.gg_base.specs.declared.size.Size.{Size}
use Rattle.md_reader.specs.declared.types.Kind.TheVariants as kind
use Rattle.md_reader.specs.State.{Content}
use Rattle.sel_target.specs.Meaning.{Meaning}
use Rattle.sel_target.specs.SavingLaws.{Saves, Reloads}
use Rattle.sel_target.specs.Symbols.{saving_line, reload_line}

-- each was checked to save, or to reload, what it is for
pub record LinesSave {O I S F : Type 0} (of : Meaning O I S F) (d : Content) : Type 0 where
  pub values : (z : Size) → Saves of (kind.Value z) (saving_line d (Some (kind.Value z)))
  pub places : (z : Size) → Saves of (kind.Place z) (saving_line d (Some (kind.Place z)))
  pub addresses : Saves of kind.Ea (saving_line d (Some kind.Ea))
  pub reloads : Reloads of (reload_line d)

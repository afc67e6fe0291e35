-- The laws that a target keeps: one record, by subject.
use Rattle.sel_target.specs.Meaning.{Meaning}
use Rattle.sel_target.specs.OperandLaws.{SpellsItself, ReadsWhatIsThere}
use Rattle.sel_target.specs.TemplateLaws.{RunsInOrder, DoesTemplates, GivesShapes}
use Rattle.sel_target.specs.SavingLaws.{SavesAndReloads}
use Rattle.sel_target.specs.StatementLaws.{DoesStatements}

pub record IsLawful {O I S F : Type 0} (of : Meaning O I S F) : Type 0 where
  pub runs : RunsInOrder of
  pub spells : SpellsItself of
  pub reads : ReadsWhatIsThere of
  pub templates : DoesTemplates of
  pub shapes : GivesShapes of
  pub saves : SavesAndReloads of
  pub statements : DoesStatements of

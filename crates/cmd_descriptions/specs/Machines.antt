-- For which machine a description is checked.
use Rattle.std.specs.Prelude.{ℕ, List, Result}
use Rattle.md_reader.specs.declared.types.Kind.{Kind}
use Rattle.md_reader.specs.declared.types.Class.{Class}
use Rattle.md_reader.specs.declared.types.Rule.{Rule}
use Rattle.sel_terms.specs.Effects.{EffectShape}
use Rattle.sel_target.specs.md_reader_pieces.specs.declared.piece.Line.{Line}
use Rattle.sel_target.specs.Meaning.{Meaning, Fault}

-- the word of its target line, and what it finds of a rule, and of a line that saves or reloads
pub record Machine : Type 0 where
  pub word : List ℕ
  pub effect : List Class → Rule → Result EffectShape Fault
  pub spill_effect : Kind → Line → Result EffectShape Fault

-- a target with that word
abbrev pub machine_of : {O I S F : Type 0} → List ℕ → Meaning O I S F → Machine
machine_of word of = record { word = word; effect = of.effect; spill_effect = of.spill_effect }

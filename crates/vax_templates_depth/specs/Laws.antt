-- The laws of this crate: how deep the terms nest of what templates do, and their normal forms.
use Rattle.std.specs.Prelude.{ℕ, ◌+◌, ◌*◌, max, List, length, Result, Ok, Err}
use Rattle.std.specs.List.{AllByRecursion}
use Rattle.md_reader_pieces.specs.declared.piece.Line.{Line}
use Rattle.md_reader.specs.declared.types.Kind.{Kind}
use Rattle.md_reader.specs.declared.types.Class.{Class}
use Rattle.md_reader.specs.declared.types.Rule.{Rule}
use Rattle.md_reader.specs.State.{Content}
use Rattle.md_reader.specs.Valid.{IsValid}
use Rattle.term_core.specs.declared.facts.Fact.{Fact}
use Rattle.sel_terms.specs.Effects.{EffectShape, norm_effect}
use Rattle.sel_terms.specs.Reading.{effect_read}
use Rattle.sel_terms_depth.specs.Depth.{IsWithin}
use Rattle.sel_target.specs.Meaning.{Fault}
use Rattle.vax_templates.specs.Found.{found, saved_found}

-- where an effect is found, no term of it nests deeper than n
abbrev pub FoundWithin : ℕ → Result EffectShape Fault → Type 0
FoundWithin n (Ok e) = IsWithin n e
FoundWithin n (Err f) = Unit {0}

-- A line of a template adds at most six to the depth, as `bicl2 *4(%0)[%0],%0` does. An operand that is given nests at most five deep.
abbrev pub TemplatesAreShallow : Type 0
TemplatesAreShallow = (classes : List Class) (rule : Rule) → FoundWithin (max 5 (6 * length rule.lines + 1)) (found classes rule)

-- a line that saves or reloads
abbrev pub SavedLinesAreShallow : Type 0
SavedLinesAreShallow = (k : Kind) (l : Line) → FoundWithin 7 (saved_found k l)

-- an effect in normal form nests at most twice as deep
abbrev pub NormalEffectsAreShallow : Type 0
NormalEffectsAreShallow = (facts : List Fact) (n : ℕ) (e : EffectShape) → IsWithin n e → IsWithin (2 * n) (norm_effect facts e)

-- what the pattern of a rule wants, and what its template does
pub record IsShallow (classes : List Class) (rule : Rule) : Type 0 where
  pub wanted : IsWithin 49 (effect_read classes rule)
  pub found : FoundWithin 49 (found classes rule)

-- the rules of a valid description
abbrev pub DescriptionsAreShallow : Type 0
DescriptionsAreShallow = (d : Content) → IsValid d → AllByRecursion (IsShallow d.classes) d.rules

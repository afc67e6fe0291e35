-- Which rules are shown, and the first refusal where one isn't.
use Rattle.std.specs.Prelude.{◌≡◌, ℕ, ◌+◌, ◌≤◌, nat_lt, count_ones, Bool, List, [], ◌∷◌, Option, Some, None, is_none}
use Rattle.std.specs.Prelude.{Result, Ok, Err, if◌then◌else◌}
use Rattle.std.specs.List.{AllByRecursion}
use Rattle.std.specs.Option.{option_or}
use Rattle.gg_base.specs.declared.size.Size.TheVariants.{Byte, Word, Long}
use Rattle.sel_target.specs.md_reader_pieces.specs.declared.piece.Line.{Line}
use Rattle.md_reader.specs.declared.types.Kind.{Kind}
use Rattle.md_reader.specs.declared.types.Kind.TheVariants as kind
use Rattle.md_reader.specs.declared.types.Class.{Class}
use Rattle.md_reader.specs.declared.types.Rule.{Rule}
use Rattle.md_reader.specs.State.{Content}
use Rattle.sel_terms.specs.term_core.specs.declared.facts.Fact.{Fact}
use Rattle.sel_terms.specs.term_core.specs.Shape.{Symbol}
use Rattle.sel_terms.specs.Effects.{EffectShape, Value, StoreHome, norm_effect}
use Rattle.sel_terms.specs.Same.{same_effect}
use Rattle.sel_terms.specs.RuleFacts.{facts_of, saved_facts}
use Rattle.sel_terms.specs.Reading.{effect_read}
use Rattle.sel_target.specs.declared.fault.TemplateKind.{TemplateKind}
use Rattle.sel_target.specs.Meaning.{Fault}
use Rattle.sel_regs.specs.Need.{need}

-- the pool is too small, a template has a fault, or the two normal effects differ
pub data Refusal : Type 0 where
  PoolSmall : (rule need : ℕ) → Refusal
  Template : (rule line : ℕ) (kind : TemplateKind) → Refusal
  Unshown : (rule : ℕ) (wanted found : EffectShape) → Refusal

abbrev pub unlike : ℕ → EffectShape → EffectShape → Option Refusal
unlike n wanted found = if same_effect wanted found then None else Some (Unshown n wanted found)

-- the template's fault, or two effects that differ in normal form
abbrev pub compared : ℕ → List Fact → EffectShape → Result EffectShape Fault → Option Refusal
compared n facts wanted (Ok found) = unlike n (norm_effect facts wanted) (norm_effect facts found)
compared n facts wanted (Err f) = Some (Template n f.line f.kind)

-- what stands against the rule with this number
abbrev pub rule_refused : (List Class → Rule → Result EffectShape Fault) → List Class → ℕ → Rule → Option Refusal
rule_refused effect classes n r = compared n (facts_of classes r) (effect_read classes r) (effect classes r)

-- a register is given its value back; a value is saved at its size, and of a place or an address the address
abbrev pub saved_wanted : Kind → EffectShape
saved_wanted kind.Reg = record { act = Value (Symbol 1); divisors = [] }
saved_wanted (kind.Value size) = record { act = StoreHome size 0 (Symbol 1); divisors = [] }
saved_wanted k = record { act = StoreHome Long 0 (Symbol 1); divisors = [] }

-- what the lines that save and reload are for, in their order
abbrev pub saved_kinds : List Kind
saved_kinds =
    kind.Value Byte ∷ kind.Value Word ∷ kind.Value Long ∷ kind.Place Byte ∷ kind.Place Word ∷ kind.Place Long ∷ kind.Ea ∷ kind.Reg ∷ []

abbrev pub small : ℕ → ℕ → ℕ → Option Refusal
small registers n wanted = if nat_lt registers wanted then Some (PoolSmall n wanted) else None

-- the first rule, from one with this number on, that needs more registers than there are
abbrev pub pools_refused : ℕ → List Class → ℕ → List Rule → Option Refusal
pools_refused registers classes n [] = None
pools_refused registers classes n (r ∷ rs) = option_or (small registers n (need classes r)) (pools_refused registers classes (n + 1) rs)

-- the lines that save and reload are rule 0
abbrev pub lines_refused : (Kind → Line → Result EffectShape Fault) → List Kind → List Line → Option Refusal
lines_refused saved [] ls = None
lines_refused saved (k ∷ ks) [] = None
lines_refused saved (k ∷ ks) (l ∷ ls) = option_or (compared 0 (saved_facts k) (saved_wanted k) (saved k l)) (lines_refused saved ks ls)

abbrev pub rules_refused : (List Class → Rule → Result EffectShape Fault) → List Class → ℕ → List Rule → Option Refusal
rules_refused effect classes n [] = None
rules_refused effect classes n (r ∷ rs) =
    option_or (rule_refused effect classes n r) (rules_refused effect classes (n + 1) rs)

abbrev pub first_refusal : (List Class → Rule → Result EffectShape Fault) → (Kind → Line → Result EffectShape Fault) → Content
    → Option Refusal
first_refusal effect saved d =
    option_or (pools_refused (count_ones d.pool) d.classes 1 d.rules)
    (option_or (lines_refused saved saved_kinds d.spills) (rules_refused effect d.classes 1 d.rules))

-- A rule is shown where it needs no more registers than there are, its template has no fault, and the template's effect is the pattern's in
-- normal form.
pub record IsShown (effect : List Class → Rule → Result EffectShape Fault) (registers : ℕ) (classes : List Class) (r : Rule) : Type 0 where
  pub fits : need classes r ≤ registers
  pub found : EffectShape
  pub found_is : effect classes r ≡ Ok found
  pub alike : norm_effect (facts_of classes r) (effect_read classes r) ≡ norm_effect (facts_of classes r) found

-- all rules of a description
abbrev pub AreShown : (List Class → Rule → Result EffectShape Fault) → Content → Type 0
AreShown effect d = AllByRecursion (IsShown effect (count_ones d.pool) d.classes) d.rules

-- A line that saves what is of a kind, or that reloads, is shown likewise.
pub record IsLineShown (saved : Kind → Line → Result EffectShape Fault) (k : Kind) (l : Line) : Type 0 where
  pub found : EffectShape
  pub found_is : saved k l ≡ Ok found
  pub alike : norm_effect (saved_facts k) (saved_wanted k) ≡ norm_effect (saved_facts k) found

-- each line, for the kind of its place
abbrev pub AreLinesShown : (Kind → Line → Result EffectShape Fault) → List Kind → List Line → Type 0
AreLinesShown saved [] ls = Unit {0}
AreLinesShown saved (k ∷ ks) [] = Unit {0}
AreLinesShown saved (k ∷ ks) (l ∷ ls) = IsLineShown saved k l × AreLinesShown saved ks ls

-- nothing stands against the rules and the lines of a description
abbrev pub is_shown : (List Class → Rule → Result EffectShape Fault) → (Kind → Line → Result EffectShape Fault) → Content → Bool
is_shown effect saved d = is_none (first_refusal effect saved d)

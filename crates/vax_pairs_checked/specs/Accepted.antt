-- The certificate of two codes as plain data: a list of cuts, at which facts about the registers of both machines are known.
use Rattle.std.specs.Prelude.{◌≡◌, ℕ, ◌<◌, ◌^◌, ◌==◌, Bool, false, List, [], ◌∷◌, Some, slice_get}
use Rattle.std.specs.List.{list_any}
use Rattle.vax_pairs.specs.vax_core.specs.declared.code.Code.{Code}
use Rattle.vax_pairs.specs.vax_core.specs.First.{main_name}
use Rattle.vax_pairs.specs.vax_machine.specs.Labels.{label_place}
use Rattle.vax_pairs.specs.vax_machine.specs.Loading.{blank}
use Rattle.vax_pairs.specs.Piecewise.{Enters}
use Rattle.vax_pairs.specs.Trees.{Tree}
use Rattle.vax_pairs.specs.SameTrees.{SameTree}
use Rattle.vax_pairs.specs.TermRuns.{run_tree}
use Rattle.vax_pairs.specs.Facts.{Fact, Equal, First, Second, AreSo, first_begins, second_begins}
use Rattle.vax_pairs_checked.specs.Masks.{KeepsMasks}

-- a place of the first code that stands to a place of the second, with what is known there, and a number that falls where only one of
-- the two goes on
pub record Cut : Type 0 where
  pub rank : ℕ
  pub first : ℕ
  pub second : ℕ
  pub facts : List Fact

-- a fact speaks of r0 to r11 and of longwords
abbrev pub IsNamed : Fact → Type 0
IsNamed (Equal q r) = (q < 12) × (r < 12)
IsNamed (First r v) = (r < 12) × (v < 2 ^ 32)
IsNamed (Second r v) = (r < 12) × (v < 2 ^ 32)

abbrev pub AreNamed : List Fact → Type 0
AreNamed [] = Unit {0}
AreNamed (f ∷ fs) = IsNamed f × AreNamed fs

-- such a cut is among them
abbrev pub IsCut : List Cut → ℕ → ℕ → ℕ → List Fact → Type 0
IsCut cuts k p q fs = (i : ℕ) × (slice_get cuts i ≡ Some (record { rank = k; first = p; second = q; facts = fs }))

-- whether a place of the first code, or of the second, is one of a cut
abbrev pub is_first : List Cut → ℕ → Bool
is_first cuts place = list_any (λ (c : Cut). c.first == place) cuts

abbrev pub is_second : List Cut → ℕ → Bool
is_second cuts place = list_any (λ (c : Cut). c.second == place) cuts

-- Shown of one cut: from there both codes have trees that say the same, up to the next cuts, calls and returns.
pub record IsShown (cuts : List Cut) (c d : Code) (cut : Cut) : Type 0 where
  pub named : AreNamed cut.facts
  pub fuel : ℕ
  pub tree : Tree
  pub others_tree : Tree
  pub runs : run_tree c.items c.area (is_first cuts) fuel false cut.first 30 (first_begins cut.facts) ≡ Some tree
  pub others_run : run_tree d.items d.area (is_second cuts) fuel false cut.second 30 (second_begins cut.facts) ≡ Some others_tree
  pub same : SameTree (List Fact) AreSo (IsCut cuts) c.items d.items cut.rank tree others_tree

-- Shown of two codes with these cuts: one data area, registers under masks in both, the functions `_main` begin alike, and each cut.
pub record AreAccepted (cuts : List Cut) (c d : Code) : Type 0 where
  pub area : d.area ≡ c.area
  pub masks : KeepsMasks c.items
  pub others_masks : KeepsMasks d.items
  pub main : (input : List ℕ) → Enters (List Fact) AreSo (IsCut cuts) c.items d.items
      (label_place c.items main_name) (label_place d.items main_name) (blank c input).registers (blank d input).registers
  pub shown : (i : ℕ) (cut : Cut) → slice_get cuts i ≡ Some cut → IsShown cuts c d cut

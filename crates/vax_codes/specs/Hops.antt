-- From a branch to the jump behind its label, and on from jump to jump.
use Rattle.std.specs.Prelude.{◌≡◌, ◌<◌, ℕ, zero, suc, Bool, false, ◌&&◌, List, length, Option, Some, None, is_some, slice_get}
use Rattle.std.specs.Prelude.{◌≤◌, slice_index_or, map, is_none, if◌then◌else◌}
use Rattle.std.specs.Option.{unwrap_or}
use Rattle.vax_core.specs.declared.code.CodeItem.{CodeItem}
use Rattle.vax_core.specs.declared.code.CodeItem.TheVariants as item_kind
use Rattle.vax_passes.specs.Dropping.{is_jump}
use Rattle.vax_codes.specs.Nexts.{goal_of}

-- a jump with a label
abbrev pub is_jump_at : Option CodeItem → Bool
is_jump_at (Some (item_kind.Instr i)) = is_jump i.op && is_some i.target
is_jump_at x = false

-- the place, if a jump stands there
abbrev pub hop_from : List CodeItem → Option ℕ → Option ℕ
hop_from cs None = None
hop_from cs (Some q) = if is_jump_at (slice_get cs q) then Some q else None

-- the place of the jump behind the label of an item, if that is a branch
abbrev pub hop_of : List CodeItem → Option CodeItem → Option ℕ
hop_of cs x = hop_from cs (goal_of cs x)

-- one hop, or none where there is none to make
abbrev pub step : List (Option ℕ) → ℕ → ℕ
step hops p = unwrap_or (slice_index_or hops p None) p

abbrev pub times : ℕ → (ℕ → ℕ) → ℕ → ℕ
times zero f p = p
times (suc n) f p = times n f (f p)

-- each hop stays in the list
pub record AreInside (hops : List (Option ℕ)) : Type 0 where
  pub inside : (p q : ℕ) → slice_index_or hops p None ≡ Some q → q < length hops

-- the hop from each item of a code
abbrev pub hops_of : List CodeItem → List (Option ℕ)
hops_of cs = map (λ (x : CodeItem). hop_of cs (Some x)) cs

-- from each place the place so many steps on
pub record AreStepsOn (hops : List (Option ℕ)) (n : ℕ) (places : List ℕ) : Type 0 where
  pub each : length places ≡ length hops
  pub place : (p : ℕ) → p < length hops → slice_index_or places p 0 ≡ times n (step hops) p

-- as many steps on as there are places, or more
pub record AreFar (hops : List (Option ℕ)) (places : List ℕ) : Type 0 where
  pub number : ℕ
  pub many : length hops ≤ number
  pub steps : AreStepsOn hops number places

abbrev pub target_of : Option CodeItem → Option (List ℕ)
target_of (Some (item_kind.Instr i)) = i.target
target_of x = None

-- the label of the last jump on the way from a place, if that is not the place itself and there is one
abbrev pub last_of : List CodeItem → List (Option ℕ) → List ℕ → ℕ → Option (List ℕ)
last_of cs hops places p =
    if is_some (slice_index_or hops p None) && is_none (slice_index_or hops (slice_index_or places p 0) None)
    then target_of (slice_get cs (slice_index_or places p 0)) else None

-- for each item the last label of the chain from its label, if that has an end and at least one jump
pub record AreLast (cs : List CodeItem) (names : List (Option (List ℕ))) : Type 0 where
  pub places : List ℕ
  pub far : AreFar (hops_of cs) places
  pub each : length names ≡ length cs
  pub name : (p : ℕ) → p < length cs → slice_index_or names p None ≡ last_of cs (hops_of cs) places p

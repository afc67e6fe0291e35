-- The stack with its code, a reduction at work on it, and which registers and frame words are free.
use Rattle.std.specs.Prelude.{ℕ, ◌-◌, ◌==◌, ◌&&◌, ◌||◌, List, [], ◌++◌, take, drop, reverse, Option}
use Rattle.std.specs.Prelude.{Bool, not}
use Rattle.std.specs.List.{list_any}
use Rattle.std.specs.Int.{bit_at}
use Rattle.gg_base.specs.declared.limits.TheConstants.{NEED_LIMIT}
use Rattle.sel_target.specs.md_reader.specs.State.{Content}
use Rattle.sel_target.specs.Meaning.{Meaning, Spot, RegAt, WordAt}
use Rattle.sel_target.specs.Instances.{attr_touches}
use Rattle.sel_target.specs.Symbols.{lowest}
use Rattle.sel_parse_selected.specs.Entries.{Entry}

-- between two reductions: the entries, the top first, the code so far, and the number of frame words used so far
pub record Stack (O I : Type 0) : Type 0 where
  pub entries : List (Entry O)
  pub code : List I
  pub most : ℕ

-- A reduction at work: the entries below the rule's symbols, the top first; those of the symbols, the first symbol's first; and the entries
-- that were saved or reloaded since it began, as they were. Their frame words are given back behind it.
pub record Desk (O I : Type 0) : Type 0 where
  pub below : List (Entry O)
  pub symbols : List (Entry O)
  pub former : List (Entry O)
  pub code : List I
  pub most : ℕ

abbrev pub desk_of : {O I : Type 0} → ℕ → Stack O I → Desk O I
desk_of size x = record { below = drop size x.entries; symbols = reverse (take size x.entries); former = []; code = x.code; most = x.most }

-- What comes of a step: a spill was due and no frame word is free; a register was due that no entry can give up; or it is done.
pub data Outcome (X : Type 0) : Type 0 where
  Full : Outcome X
  Stuck : Outcome X
  Done : (value : X) → Outcome X

abbrev pub bind : {X Y : Type 0} → Outcome X → (X → Outcome Y) → Outcome Y
bind Full go = Full
bind Stuck go = Stuck
bind (Done x) go = go x

module _ {O I S F : Type 0} (of : Meaning O I S F) where
  -- some entry holds it: what the entry stands for may change with what stands there
  abbrev pub held : List (Entry O) → Spot → Bool
  held es s = list_any (λ (e : Entry O). attr_touches of e.attr s) es

  -- A register of the pool that no entry holds. The symbols' may have been given back before.
  abbrev pub is_free_register : Content → Bool → Desk O I → ℕ → Bool
  is_free_register d given desk r =
      (bit_at d.pool r == 1) && (not (held desk.below (RegAt r)) && (given || not (held desk.symbols (RegAt r))))

  abbrev pub free_register : Content → Bool → Desk O I → Option ℕ
  free_register d given desk = lowest (is_free_register d given desk) 0 12

  -- a frame word that no entry holds or has held in this reduction
  abbrev pub is_free_word : Desk O I → ℕ → Bool
  is_free_word desk w = not (held (desk.former ++ (desk.symbols ++ desk.below)) (WordAt w))

  -- slots are the frame words from the first to 1,023
  abbrev pub free_slot : ℕ → Desk O I → Option ℕ
  free_slot first desk = lowest (is_free_word desk) first (NEED_LIMIT - first)

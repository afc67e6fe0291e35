-- The stack with its code, a reduction at work on it, and which registers and frame words are free.
-- This is how the code computes it; what is selected is defined in sel_parse_selected, and sel_parse_joined proves the two alike.
use Rattle.std.specs.Prelude.{ℕ, ◌-◌, ◌==◌, ◌&&◌, ◌||◌, List, [], take, drop, reverse, Option}
use Rattle.std.specs.Prelude.{Bool, not}
use Rattle.std.specs.List.{list_any}
use Rattle.std.specs.Int.{bit_at}
use Rattle.gg_base.specs.declared.limits.TheConstants.{NEED_LIMIT}
use Rattle.md_reader.specs.State.{Content}
use Rattle.sel_target.specs.Meaning.{Meaning}
use Rattle.sel_target.specs.declared.attr.Attr.{Attr}
use Rattle.sel_target.specs.Symbols.{lowest}
use Rattle.sel_parse_desk.specs.Entries.{Entry, attrs, in_register, in_word}

-- between two reductions: the entries, the top first, the code so far, and the number of frame words used so far
pub record Stack (O I : Type 0) : Type 0 where
  pub entries : List (Entry O)
  pub code : List I
  pub most : ℕ

-- A reduction at work: the entries below the rule's symbols, the deepest first; those of the symbols, the first
-- symbol's first; and the frame words that were let go since it began, which are given back behind it.
pub record Desk (O I : Type 0) : Type 0 where
  pub below : List (Entry O)
  pub symbols : List (Entry O)
  pub late : List ℕ
  pub code : List I
  pub most : ℕ

-- the top entries, so many of them, are those of the rule's symbols
abbrev pub set_apart : {O I : Type 0} → ℕ → Stack O I → Desk O I
set_apart size x = record {
  below = reverse (drop size x.entries);
  symbols = reverse (take size x.entries);
  late = [];
  code =
      x.code;
  most = x.most;
}

-- What comes of a step: a spill was due and no frame word is free; a register was due that no entry can give up; or it is done.
pub data Outcome (X : Type 0) : Type 0 where
  Full : Outcome X
  Stuck : Outcome X
  Done : (value : X) → Outcome X

abbrev pub bind : {X Y : Type 0} → Outcome X → (X → Outcome Y) → Outcome Y
bind Full go = Full
bind Stuck go = Stuck
bind (Done x) go = go x

module _ {O I S F : Type 0} (of : Meaning O I S F) where
  -- some attribute holds the register, or the frame word
  abbrev pub register_held : List (Attr O) → ℕ → Bool
  register_held hs r = list_any (in_register of r) hs

  abbrev pub word_held : List (Attr O) → ℕ → Bool
  word_held hs w = list_any (in_word of w) hs

  -- A register of the pool that no entry holds. The symbols' may have been given back before.
  abbrev pub is_free_register : Content → Bool → Desk O I → ℕ → Bool
  is_free_register d given desk r =
      (bit_at d.pool r == 1) && (not (register_held (attrs desk.below) r) && (given || not (register_held (attrs desk.symbols) r)))

  abbrev pub free_register : Content → Bool → Desk O I → Option ℕ
  free_register d given desk = lowest (is_free_register d given desk) 0 12

  -- a frame word that no entry holds or has held in this reduction
  abbrev pub is_free_word : Desk O I → ℕ → Bool
  is_free_word desk w =
      not (list_any (λ v. v == w) desk.late) && (not (word_held (attrs desk.below) w) && not (word_held (attrs desk.symbols) w))

  -- slots are the frame words from the first to 1,023
  abbrev pub free_slot : ℕ → Desk O I → Option ℕ
  free_slot first desk = lowest (is_free_word desk) first (NEED_LIMIT - first)

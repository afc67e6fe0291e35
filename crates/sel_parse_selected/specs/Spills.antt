-- A register that is due: the lowest free one, or one that an entry gives up.
use Rattle.std.specs.Prelude.{ℕ, ◌+◌, max, ◌&&◌, List, [], ◌∷◌, ◌++◌, Option, Some, None, is_some, slice_get, slice_set}
use Rattle.std.specs.Prelude.{Bool, not, if◌then◌else◌}
use Rattle.tree_core.specs.declared.program.TreeProgram.{TreeProgram}
use Rattle.sel_target.specs.md_reader.specs.State.{Content}
use Rattle.sel_target.specs.declared.attr.Attr.{Attr}
use Rattle.sel_target.specs.declared.attr.Attr.TheVariants as attr
use Rattle.sel_target.specs.Meaning.{Meaning, RegAt}
use Rattle.sel_target.specs.Instances.{attr_touches}
use Rattle.sel_target.specs.SavingLaws.{saving}
use Rattle.sel_target.specs.Symbols.{lowest, first_that, saving_line, is_register}
use Rattle.sel_parse_selected.specs.Entries.{Entry}
use Rattle.sel_parse_selected.specs.Desk.{Desk, Outcome, Full, Stuck, Done, bind, free_register, free_slot}

-- where an entry stands: below the rule's symbols, from the top, or among them, from the first
pub data Where : Type 0 where
  Below : (i : ℕ) → Where
  Among : (i : ℕ) → Where

-- the place of the last element that passes
abbrev pub later_of : Option ℕ → Option ℕ → Option ℕ
later_of None o = o
later_of (Some i) o = Some (i + 1)

abbrev pub last_that : {X : Type 0} → (X → Bool) → List X → Option ℕ
last_that passes [] = None
last_that passes (x ∷ xs) = later_of (last_that passes xs) (if passes x then Some 0 else None)

module _ {O I S F : Type 0} (of : Meaning O I S F) where
  abbrev pub holds_register : Entry O → Bool
  holds_register e = is_some (lowest (λ r. attr_touches of e.attr (RegAt r)) 0 12)

  -- of a rule's own symbols, those that are registers stay
  abbrev pub may_go : Entry O → Bool
  may_go e = not (is_register e.attr) && holds_register e

  -- The deepest entry that holds a register: the last one below, or else the first of the symbols that may go. Symbols
  -- whose registers were given back hold none.
  abbrev pub deepest : Option ℕ → Option ℕ → Option Where
  deepest (Some i) o = Some (Below i)
  deepest None (Some i) = Some (Among i)
  deepest None None = None

  abbrev pub victim : Bool → Desk O I → Option Where
  victim given desk = deepest (last_that holds_register desk.below) (if given then None else first_that may_go desk.symbols)

  abbrev pub entry_at : Desk O I → Where → Option (Entry O)
  entry_at desk (Below i) = slice_get desk.below i
  entry_at desk (Among i) = slice_get desk.symbols i

  -- what an attribute becomes in a slot: a value stands there; of a place and of an address the address
  abbrev pub in_slot : Attr O → ℕ → Attr O
  in_slot (attr.Reg r) w = attr.InSlot w
  in_slot (attr.Value o) w = attr.Value (of.slot w)
  in_slot (attr.Place o) w = attr.Place (of.slot_deferred w)
  in_slot (attr.Ea o) w = attr.Ea (of.slot_deferred w)
  in_slot a w = a

  abbrev pub entry_in_slot : Entry O → ℕ → Entry O
  entry_in_slot e w = record { kind = e.kind; attr = in_slot e.attr w }

  abbrev pub put_below : List (Entry O) → Where → Entry O → List (Entry O)
  put_below es (Below i) e = slice_set es i e
  put_below es (Among i) e = es

  abbrev pub put_among : List (Entry O) → Where → Entry O → List (Entry O)
  put_among es (Below i) e = es
  put_among es (Among i) e = slice_set es i e

  module _ (q : TreeProgram) (d : Content) (first : ℕ) where
    -- the entry there goes to a slot by the line for its kind
    abbrev pub saved : Desk O I → Where → Entry O → ℕ → Desk O I
    saved desk p e w = record {
      below = put_below desk.below p (entry_in_slot e w);
      symbols = put_among desk.symbols p (entry_in_slot e w);
      former = desk.former ++ e ∷ [];
      code = desk.code ++ saving of q (saving_line d e.kind) e.attr w;
      most = max desk.most (w + 1);
    }

    abbrev pub saved_in : Desk O I → Where → Option (Entry O) → Option ℕ → Outcome (Desk O I)
    saved_in desk p None o = Stuck
    saved_in desk p (Some e) None = Full
    saved_in desk p (Some e) (Some w) = Done (saved desk p e w)

    abbrev pub spilled : Desk O I → Option Where → Outcome (Desk O I)
    spilled desk None = Stuck
    spilled desk (Some p) = saved_in desk p (entry_at desk p) (free_slot of first desk)

    -- a register that is free now
    abbrev pub with_free : Desk O I → Option ℕ → Outcome (ℕ × Desk O I)
    with_free desk None = Stuck
    with_free desk (Some r) = Done (r, desk)

    abbrev pub due_by : Bool → Desk O I → Option ℕ → Outcome (ℕ × Desk O I)
    due_by given desk None = bind (spilled desk (victim given desk)) (λ x. with_free x (free_register of d given x))
    due_by given desk (Some r) = Done (r, desk)

    -- a register is due; those of the symbols may have been given back before
    abbrev pub due : Bool → Desk O I → Outcome (ℕ × Desk O I)
    due given desk = due_by given desk (free_register of d given desk)

-- What the code works on, as the definition of a selection sees it.
use Rattle.std.specs.Prelude.{◌≡◌, ℕ, ◌≤◌, List, map, reverse, Result, MatchResult}
use Rattle.gg_base.specs.declared.limits.TheConstants.{NEED_LIMIT}
use Rattle.tree_core.specs.declared.program.TreeProgram.{TreeProgram}
use Rattle.sel_target.specs.md_reader_pieces.specs.declared.piece.Line.{Line}
use Rattle.md_reader.specs.State.{Content}
use Rattle.sel_target.specs.declared.attr.Attr.{Attr}
use Rattle.sel_target.specs.declared.attr.Attr.TheVariants as attr
use Rattle.sel_target.specs.Meaning.{Meaning}
use Rattle.lr_check_parse.specs.Attributes.{Selecting}
use Rattle.sel_parse_desk.specs.Entries.{Entry}
use Rattle.sel_parse_desk.specs.Desk.{Desk, Stack, Outcome, Full, Stuck, Done}
use Rattle.sel_parse_desk.specs.Selected.{Kept, selecting}
use Rattle.sel_parse_desk.specs.declared.desk.Desk.{Desk as Held}
use Rattle.sel_parse_desk.specs.declared.desk.Setting.{Setting}
use Rattle.sel_parse_desk.specs.declared.desk.DeskFault.{DeskFault}
use Rattle.sel_parse_desk.specs.declared.desk.DeskFault.TheVariants as desk_fault
use Rattle.sel_parse_desk.specs.Tallied.{IsTallied}

abbrev pub desk_of : {O I : Type 0} → Held O I → Desk O I
desk_of k = record { below = k.stack.entries; symbols = k.symbols; late = k.late.items; code = k.code.items; most = k.most }

-- what a definition of a selection says in a setting
abbrev pub in_setting : {O I S F T X : Type 0} → Meaning O I S F → Setting T → (Meaning O I S F → TreeProgram → Content → ℕ → X) → X
in_setting of setting definition = definition of setting.program.now setting.description.now setting.first

-- how the questions of a parse are answered in a setting
abbrev pub selecting_in : {O I S F T : Type 0} → Meaning O I S F → Setting T → Selecting (Kept O I) (Entry O)
selecting_in of setting = in_setting of setting selecting

-- between two reductions
abbrev pub stack_of : {O I : Type 0} → Held O I → Stack O I
stack_of k = record { entries = reverse k.stack.entries; code = k.code.items; most = k.most }

-- the counts are right, and the words that were used are those of a frame
abbrev pub IsReady : {O I S F : Type 0} → Meaning O I S F → Held O I → Type 0
IsReady of k = IsTallied of k.stack × (k.most ≤ NEED_LIMIT)

-- the refusal is the definition's
abbrev pub Fails : {X : Type 0} → DeskFault → Outcome X → Type 0
Fails desk_fault.NoMemory o = Unit {0}
Fails desk_fault.FrameFull o = o ≡ Full
Fails desk_fault.NoRegister o = o ≡ Stuck

-- A step does what a definition says: where it is Ok the outcome is done, with what it gives or leaves; a refusal is the definition's.
abbrev pub Gives : {X Y : Type 0} → Result X DeskFault → Outcome Y → (X → Y) → Type 0
Gives r o given = MatchResult r (λ x. o ≡ Done (given x)) (λ e. Fails e o)

abbrev pub Does : {X Y : Type 0} → Result X DeskFault → Outcome Y → Y → Type 0
Does r o left = Gives r o (λ _. left)

module _ {O I S F : Type 0} (of : Meaning O I S F) where
  -- the instruction that saves an attribute alone in a word
  abbrev pub saved_line : TreeProgram → Line → List (Attr O) → ℕ → I
  saved_line q l alone w = of.instr q l alone (attr.Place (of.slot w))

  -- lines with their holes filled
  abbrev pub filled_lines : TreeProgram → List Line → List (Attr O) → Attr O → List I
  filled_lines q ls hs zero = map (λ (l : Line). of.instr q l hs zero) ls

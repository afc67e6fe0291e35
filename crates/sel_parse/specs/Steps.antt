-- The parse as the code computes it by the tables, step by step.
use Rattle.std.specs.Prelude.{◌≡◌, ◌⊎◌, ℕ, ◌+◌, ◌-◌, ◌==◌, nat_lt, List, [], ◌∷◌, ◌++◌, Option, Some, None, Bool, true}
use Rattle.std.specs.Prelude.{false, length, take, replicate, slice_get, slice_index_or, slice_set, ◌||◌, if◌then◌else◌}
use Rattle.std.specs.Option.{unwrap_or}
use Rattle.tree_core.specs.declared.token.Tok.{Tok}
use Rattle.tree_core.specs.declared.token.Tok.TheVariants as tok
use Rattle.tree_core.specs.declared.tree.Leaf.{Leaf}
use Rattle.tree_core.specs.declared.program.TreeProgram.{TreeProgram}
use Rattle.md_reader.specs.declared.types.Rule.{Rule}
use Rattle.md_reader.specs.declared.types.Sym.TheVariants as grammar_symbol
use Rattle.md_reader.specs.State.{Content}
use Rattle.lr_tables.specs.declared.types.Choice.{Choice}
use Rattle.lr_tables.specs.declared.types.Choice.TheVariants as choice
use Rattle.lr_tables.specs.View.{TableView}
use Rattle.lr_tables.specs.Leads.{target_at, actions_at}
use Rattle.sel_parse_desk.specs.lr_check_parse.specs.Moves.{Move, Accepts}
use Rattle.sel_parse_desk.specs.lr_check_parse.specs.Attributes.{answered}
use Rattle.sel_target.specs.declared.attr.Attr.TheVariants as attr
use Rattle.sel_target.specs.Meaning.{Meaning}
use Rattle.sel_parse_desk.specs.Desk.{Stack, Outcome, Full, Stuck, Done}
use Rattle.sel_parse_desk.specs.Reductions.{reduced}
use Rattle.sel_parse_desk.specs.Selected.{selecting, Parsed}
use Rattle.sel_parse_desk.specs.Mirror.{stack_of}
use Rattle.sel_parse_desk.specs.declared.desk.Setting.{Setting}
use Rattle.sel_parse.specs.declared.selection.Parse.{Parse}
use Rattle.sel_parse.specs.declared.selection.ParseFault.{ParseFault}
use Rattle.sel_parse.specs.declared.selection.ParseFault.TheVariants as parse_fault

-- the offset of the next leaf, the states of the stack, whose top stands last, the classes that were on top since a leaf was shifted or
-- the stack became shorter, and the stack with its code
pub record Config (O I : Type 0) : Type 0 where
  pub at : ℕ
  pub states : List ℕ
  pub seen : List Bool
  pub stack : Stack O I

abbrev pub config_of : {O I : Type 0} → Parse O I → Config O I
config_of p = record { at = p.at; states = p.states.items; seen = p.seen.items; stack = stack_of p.desk }

-- What comes of a step: the parse goes on, is accepted, found no free frame word, no register that is due, no way on,
-- or the same stack again.
pub data Turn (O I : Type 0) : Type 0 where
  Onward : (c : Config O I) → Turn O I
  Accepted : Turn O I
  NoWord : Turn O I
  NoRegister : Turn O I
  NoWay : Turn O I
  Circle : Turn O I

-- the state of a stack, whose top stands last
abbrev pub top_of : List ℕ → ℕ
top_of states = unwrap_or (slice_get states (length states - 1)) 0

-- the next token, which is `End` behind the last leaf
abbrev pub coming : Option Leaf → Tok
coming None = tok.End
coming (Some l) = l.tok

-- the first choice that is taken
abbrev pub or_later : Bool → ℕ → Option Choice → Option Choice
or_later b n later = if b then Some (choice.Reduce n) else later

abbrev pub chosen : (ℕ → Bool) → List Choice → Option Choice
chosen takes [] = None
chosen takes (choice.Shift q ∷ cs) = Some (choice.Shift q)
chosen takes (choice.Accept ∷ cs) = Some choice.Accept
chosen takes (choice.Reduce n ∷ cs) = or_later (takes n) n (chosen takes cs)

-- a leaf comes on the stack with its state
abbrev pub shifted_turn : {O I : Type 0} → Config O I → ℕ → Option Leaf → Turn O I
shifted_turn c q None = NoWay
shifted_turn c q (Some l) = Onward (record {
  at = c.at + 1;
  states = c.states ++ q ∷ [];
  seen = replicate (length c.seen) false;
  stack = record { entries = record { kind = None; attr = attr.Token l } ∷ c.stack.entries; code = c.stack.code; most = c.stack.most };
})

-- the classes that were on top before a reduction that leaves the stack's length, or makes it shorter
abbrev pub seen_before : List Bool → ℕ → List Bool
seen_before seen size = if nat_lt 1 size then replicate (length seen) false else seen

-- the class comes on top of the states, and the same stack comes again where it was on top already
abbrev pub marked : {O I : Type 0} → Config O I → ℕ → Turn O I
marked c class =
    if slice_index_or c.seen class false then Circle
    else Onward (record { at = c.at; states = c.states; seen = slice_set c.seen class true; stack = c.stack })

abbrev pub placed : {O I : Type 0} → Config O I → List ℕ → Rule → Stack O I → Option ℕ → Turn O I
placed c below r x None = NoWay
placed c below r x (Some q) = marked (record {
  at = c.at;
  states = below
      ++ q ∷ [];
  seen = seen_before c.seen (length r.right);
  stack = x;
}) r.left

abbrev pub reduced_turn : {O I : Type 0} → TableView → Config O I → Rule → Outcome (Stack O I) → Turn O I
reduced_turn t c r Full = NoWord
reduced_turn t c r Stuck = NoRegister
reduced_turn t c r (Done x) =
    let below = take (length c.states - length r.right) c.states in
    placed c below r x (target_at t (top_of below) (grammar_symbol.Class r.left))

module _ {O I S F : Type 0} (of : Meaning O I S F) (q : TreeProgram) (d : Content) (first : ℕ) where
  -- a rule is taken that isn't restricted, or whose restrictions hold
  abbrev pub takes_rule : Stack O I → Option Rule → Bool
  takes_rule x None = false
  takes_rule x (Some r) = (length r.restrictions == 0) || answered (selecting of q d first) r (Some x)

  abbrev pub takes : Stack O I → ℕ → Bool
  takes x n = takes_rule x (slice_get d.rules n)

module _ {O I S F : Type 0} (of : Meaning O I S F) (q : TreeProgram) (t : TableView) (first : ℕ) where
  abbrev pub turn_by : Config O I → Option Rule → Turn O I
  turn_by c None = NoWay
  turn_by c (Some r) = reduced_turn t c r (reduced of q t.content first r c.stack)

  abbrev pub made_turn : Config O I → Option Leaf → Option Choice → Turn O I
  made_turn c l None = NoWay
  made_turn c l (Some choice.Accept) = Accepted
  made_turn c l (Some (choice.Shift p)) = shifted_turn c p l
  made_turn c l (Some (choice.Reduce n)) = turn_by c (slice_get t.content.rules n)

  abbrev pub step : List Leaf → Config O I → Turn O I
  step w c = made_turn c (slice_get w c.at) (chosen (takes of q t.content first c.stack)
      (actions_at t (top_of c.states) (coming (slice_get w c.at))))

-- what a definition over the tables says in a setting
abbrev pub by_tables : {O I S F T X : Type 0} → Meaning O I S F → Setting T → TableView
    → (Meaning O I S F → TreeProgram → TableView → ℕ → X) → X
by_tables of setting t definition = definition of setting.program.now t setting.first

-- a step is made: it accepts, or goes on
abbrev pub Turns : {O I : Type 0} → Bool → Config O I → Config O I → Turn O I → Type 0
Turns true old new turn = (turn ≡ Accepted) × (new ≡ old)
Turns false old new turn = turn ≡ Onward new

-- the refusal is that of the step
abbrev pub Falls : {O I : Type 0} → ParseFault → Turn O I → Type 0
Falls parse_fault.NoMemory turn = Unit {0}
Falls parse_fault.FrameFull turn = turn ≡ NoWord
Falls parse_fault.Blocked turn = (turn ≡ NoRegister) ⊎ ((turn ≡ NoWay) ⊎ (turn ≡ Circle))

-- the whole parse of a tree is accepted with this kept
abbrev pub Ends : {O I S F : Type 0} → Meaning O I S F → TreeProgram → Content → ℕ → List Leaf → Stack O I → Type 0
Ends of q d first w x = (log : List (Move Leaf)) × Parsed of q d first w log (Accepts (Some x))

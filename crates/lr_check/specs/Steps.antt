-- The parse as the code computes it by the tables, step by step.
use Rattle.std.specs.Prelude.{ℕ, ◌+◌, ◌-◌, List, [], ◌∷◌, ◌++◌, Option, Some, None, Bool, true, false, nat_lt, length}
use Rattle.std.specs.Prelude.{take, replicate, slice_get, slice_index_or, slice_set, if◌then◌else◌}
use Rattle.tree_core.specs.declared.token.Tok.{Tok}
use Rattle.tree_core.specs.declared.token.Tok.TheVariants as tok
use Rattle.md_reader.specs.declared.types.Rule.{Rule}
use Rattle.md_reader.specs.declared.types.Sym.TheVariants as grammar_symbol
use Rattle.lr_tables.specs.declared.types.Choice.{Choice}
use Rattle.lr_tables.specs.declared.types.Choice.TheVariants as choice
use Rattle.lr_tables.specs.View.{TableView}
use Rattle.lr_tables.specs.Leads.{target_at, actions_at}
use Rattle.lr_check.specs.declared.stack.Entry.{Entry}
use Rattle.lr_check.specs.declared.sample.Outcome.{Outcome}
use Rattle.lr_check.specs.declared.sample.Outcome.TheVariants as outcome
use Rattle.lr_check.specs.Tree.{Node}
use Rattle.lr_check.specs.Questions.{first_place, entry_at, chosen}

-- the offset of the next token, the stack, whose top stands last, and the classes that were on top since
-- a token was shifted or the stack became shorter
pub record Config : Type 0 where
  pub at : ℕ
  pub stack : List Entry
  pub seen : List Bool

-- before the first token
abbrev pub first_config : ℕ → Config
first_config classes = record { at = 0; stack = []; seen = replicate classes false }

abbrev pub state_of : Option Entry → ℕ
state_of None = 0
state_of (Some e) = e.state

-- the state of a stack, whose top stands last
abbrev pub top_of : List Entry → ℕ
top_of stack = state_of (slice_get stack (length stack - 1))

abbrev pub tok_of : Option Node → Tok
tok_of None = tok.End
tok_of (Some v) = v.tok

-- the next token, which is `End` behind the last
abbrev pub token_of : List Node → Option ℕ → Tok
token_of nodes None = tok.End
token_of nodes (Some n) = tok_of (slice_get nodes n)

-- how the parse ends, if it does, and where it stands
pub record After : Type 0 where
  pub ending : Option Outcome
  pub config : Config

abbrev pub blocks : Config → List Entry → After
blocks c stack = record { ending = Some (outcome.Blocks c.at); config = record { at = c.at; stack = stack; seen = c.seen } }

-- a token comes on the stack with its node, and no class was on top since
abbrev pub shifted : Config → List Entry → ℕ → Option ℕ → After
shifted c stack q None = blocks c stack
shifted c stack q (Some n) = record {
  ending = None;
  config = record { at = c.at + 1; stack = stack ++ record { state = q; node = n; used = 0 } ∷ []; seen = replicate (length c.seen) false };
}

-- the classes that were on top before a reduction that leaves the stack's length, or makes it shorter
abbrev pub seen_before : Config → ℕ → List Bool
seen_before c size = if nat_lt 1 size then replicate (length c.seen) false else c.seen

-- a class is on top: the same stack comes again where it was there already
abbrev pub marked : Config → ℕ → After
marked c class =
    if slice_index_or c.seen class false
    then record { ending = Some (outcome.Loops c.at); config = c }
    else record { ending = None; config = record { at = c.at; stack = c.stack; seen = slice_set c.seen class true } }

-- the class comes in the place of the right side, with the node of its first symbol
abbrev pub placed : Config → List Entry → Rule → Entry → Option ℕ → After
placed c below r e None = blocks c below
placed c below r e (Some q) =
    marked (record {
      at = c.at;
      stack = below ++ record { state = q; node = e.node; used = e.used } ∷ [];
      seen =
          seen_before c (length r.right);
    }) r.left

abbrev pub reduced_by : TableView → Config → List Entry → Rule → Option ℕ → After
reduced_by t c stack r None = blocks c stack
reduced_by t c stack r (Some i) =
    placed c (take i stack) r (entry_at stack i) (target_at t (top_of (take i stack)) (grammar_symbol.Class r.left))

abbrev pub reduced : TableView → Config → List Entry → Option Rule → After
reduced t c stack None = blocks c stack
reduced t c stack (Some r) = reduced_by t c stack r (first_place (length stack) (length r.right))

abbrev pub after_choice : TableView → Option ℕ → Config → List Entry → Option Choice → After
after_choice t next c stack None = blocks c stack
after_choice t next c stack (Some choice.Accept) = record {
  ending = Some outcome.Done;
  config =
      record { at = c.at; stack = stack; seen = c.seen };
}
after_choice t next c stack (Some (choice.Shift q)) = shifted c stack q next
after_choice t next c stack (Some (choice.Reduce n)) = reduced t c stack (slice_get t.content.rules n)

-- one step of the parse
unfoldable pub step : TableView → List Node → List ℕ → Config → After
step t nodes order c =
    let next = slice_get order c.at in
    let taken = chosen t.content.rules nodes (actions_at t (top_of c.stack) (token_of nodes next)) c.stack in
    after_choice t next c taken.stack taken.choice

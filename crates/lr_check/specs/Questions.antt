-- What the node of a stack's entry answers, and the candidate that is taken by it.
use Rattle.std.specs.Prelude.{ℕ, ◌+◌, ◌-◌, List, [], ◌∷◌, Option, Some, None, Bool, true, false, ◌==◌, ◌||◌, nat_lt}
use Rattle.std.specs.Prelude.{length, slice_get, slice_index_or, slice_set, if◌then◌else◌}
use Rattle.md_reader.specs.declared.types.Rule.{Rule}
use Rattle.lr_tables.specs.declared.types.Choice.{Choice}
use Rattle.lr_tables.specs.declared.types.Choice.TheVariants as choice
use Rattle.lr_check.specs.declared.stack.Entry.{Entry}
use Rattle.lr_check.specs.Tree.{Node}

abbrev pub answers_of : Option Node → List Bool
answers_of None = []
answers_of (Some v) = v.answers

-- the answer to the next question of the entry's node: a missing one is no
abbrev pub answer_of : List Node → Entry → Bool
answer_of nodes e = slice_index_or (answers_of (slice_get nodes e.node)) e.used false

-- the entry behind its question: the answer is used, if there was one
abbrev pub asked_of : List Node → Entry → Entry
asked_of nodes e = if nat_lt e.used (length (answers_of (slice_get nodes e.node))) then record
    { state = e.state; node = e.node; used = e.used + 1 } else e

-- what a question is answered, and the stack behind it
pub record Asked : Type 0 where
  pub yes : Bool
  pub stack : List Entry

-- where the entry of a right side's first symbol stands, if so many symbols are there
abbrev pub first_place : ℕ → ℕ → Option ℕ
first_place long size = if (size == 0) || nat_lt long size then None else Some (long - size)

abbrev pub entry_at : List Entry → ℕ → Entry
entry_at stack i = slice_index_or stack i (record { state = 0; node = 0; used = 0 })

abbrev pub asked_at : List Node → List Entry → Option ℕ → Asked
asked_at nodes stack None = record { yes = false; stack = stack }
asked_at nodes stack (Some i) = record {
  yes = answer_of nodes (entry_at stack i);
  stack =
      slice_set stack i (asked_of nodes (entry_at stack i));
}

-- a rule that is not restricted is taken; else the entry of the right side's first symbol is asked
abbrev pub question : List Node → List Entry → Rule → Asked
question nodes stack r =
    if length r.restrictions == 0 then record { yes = true; stack = stack }
    else asked_at nodes stack (first_place (length stack) (length r.right))

-- no rule is not taken
abbrev pub question_at : List Node → List Entry → Option Rule → Asked
question_at nodes stack None = record { yes = false; stack = stack }
question_at nodes stack (Some r) = question nodes stack r

-- what is taken, and the stack behind the questions
pub record Taken : Type 0 where
  pub choice : Option Choice
  pub stack : List Entry

abbrev pub taken_or : Choice → Asked → (List Entry → Taken) → Taken
taken_or c a others = if a.yes then record { choice = Some c; stack = a.stack } else others a.stack

-- the first candidate that is not restricted, or is answered yes
unfoldable pub chosen : List Rule → List Node → List Choice → List Entry → Taken
chosen rules nodes [] stack = record { choice = None; stack = stack }
chosen rules nodes (choice.Shift q ∷ cs) stack = record { choice = Some (choice.Shift q); stack = stack }
chosen rules nodes (choice.Accept ∷ cs) stack = record { choice = Some choice.Accept; stack = stack }
chosen rules nodes (choice.Reduce n ∷ cs) stack = taken_or (choice.Reduce n) (question_at nodes stack (slice_get rules n))
    (λ s. chosen rules nodes cs s)

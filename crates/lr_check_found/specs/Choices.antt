-- What may be done at a state and a next token, seen from a list on top of the stack: the code's shape.
use Rattle.std.specs.Prelude.{◌≡◌, ℕ, ◌-◌, ◌==◌, nat_lt, List, Option, Some, None, Contains, Bool, true, false, length}
use Rattle.std.specs.Prelude.{slice_get, if◌then◌else◌}
use Rattle.md_reader.specs.declared.types.Rule.{Rule}
use Rattle.lr_tables.specs.declared.types.Choice.{Choice}
use Rattle.lr_tables.specs.declared.types.Choice.TheVariants as choice
use Rattle.lr_check_sets.specs.Automaton.{Candidate, shift, reduce, Free}
use Rattle.lr_check_sets.specs.Table.{production, candidates_of}
use Rattle.lr_check_found.specs.declared.choices.Seen.{Seen}
use Rattle.lr_check_found.specs.declared.choices.Leads.{Leads}
use Rattle.lr_check_found.specs.declared.choices.Leads.TheVariants.{Out, Whole, Inside}

-- where a reduction by a right side of this length leads
abbrev pub leads_by : ℕ → ℕ → ℕ → Leads
leads_by long left size =
    if nat_lt size long then Out (long - size)
    else if long == size then Whole left
    else Inside

-- a number without a rule is no candidate, as if it were answered no
abbrev pub seen_rule : ℕ → Option Rule → Seen
seen_rule size None = record { asks = true; leads = Inside }
seen_rule size (Some r) =
    record { asks = nat_lt 0 (length r.restrictions); leads = leads_by (length r.right) r.left size }

abbrev pub seen : List Rule → ℕ → Choice → Seen
seen rules size (choice.Shift q) = record { asks = false; leads = Out 0 }
seen rules size choice.Accept = record { asks = false; leads = Out 0 }
seen rules size (choice.Reduce n) = seen_rule size (slice_get rules n)

-- it leads out of a list
abbrev pub is_out : Leads → Bool
is_out (Out n) = true
is_out (Whole c) = false
is_out Inside = false

-- the choice leads out of a list of so many symbols
abbrev pub LeadsOut : List Rule → ℕ → Choice → Type 0
LeadsOut rules size c = is_out (seen rules size c).leads ≡ true

-- the choice may be answered no
abbrev pub may_pass : List Rule → Choice → Bool
may_pass rules c = (seen rules 0 c).asks

-- the choice is this candidate: a number without a rule is none
abbrev pub CandidateOf : List Rule → Choice → Candidate → Type 0
CandidateOf rules (choice.Shift q) c = c ≡ shift
CandidateOf rules choice.Accept c = c ≡ shift
CandidateOf rules (choice.Reduce n) c = (r : Rule) × ((slice_get rules n ≡ Some r) × (c ≡ reduce (production r)))

-- the choices have all candidates that some answers take
pub record HasFree (rules : List Rule) (cs free : List Choice) : Type 0 where
  pub only : (d : Choice) (c : Candidate) → Contains free d → CandidateOf rules d c → Free (candidates_of rules cs) c
  pub each : (c : Candidate) → Free (candidates_of rules cs) c → (d : Choice) × (Contains free d × CandidateOf rules d c)

-- What a node is asked, question by question, as the code finds it.
use Rattle.std.specs.Prelude.{ℕ, ◌-◌, ◌==◌, List, [], ◌∷◌, ◌++◌, Bool, true, false, if◌then◌else◌}
use Rattle.md_reader.specs.declared.types.Rule.{Rule}
use Rattle.lr_tables.specs.declared.types.Choice.{Choice}
use Rattle.lr_check_found.specs.lr_check_sets.specs.Table.{candidates_of}
use Rattle.lr_check_found.specs.declared.choices.Seen.{Seen}
use Rattle.lr_check_found.specs.declared.choices.Leads.{Leads}
use Rattle.lr_check_found.specs.declared.choices.Leads.TheVariants.{Out, Whole, Inside}
use Rattle.lr_check_samples.specs.Answering.{root_no, further, answers_to, depths_to}

-- what a node is answered, and the depths at which its tree asks below its list
pub record AskedView : Type 0 where
  pub own : List Bool
  pub depths : List ℕ

-- with what a kid's tree asks below its list
abbrev pub with_kid : AskedView → ℕ → List ℕ → AskedView
with_kid a size ds = record { own = a.own ++ root_no size ds; depths = a.depths ++ further size ds }

-- with what is asked until the whole list is reduced to the class
abbrev pub with_taken : AskedView → List Rule → List Choice → ℕ → ℕ → AskedView
with_taken a rules cs size c = record {
  own = a.own ++ answers_to (candidates_of rules cs) size c;
  depths = a.depths ++ depths_to (candidates_of rules cs) size c;
}

abbrev pub answered : AskedView → Bool → AskedView
answered a b = record { own = a.own ++ b ∷ []; depths = a.depths }

abbrev pub asked_deep : AskedView → ℕ → AskedView
asked_deep a d = record { own = a.own; depths = a.depths ++ d ∷ [] }

abbrev pub asked_leads : AskedView → Bool → Leads → ℕ → AskedView
asked_leads a asks (Whole left) c = if left == c then (if asks then answered a true else a) else answered a false
asked_leads a asks (Out n) c = if n == 0 then a else asked_deep a (n - 1)
asked_leads a asks Inside c = a

-- one question
abbrev pub asked_by : AskedView → Seen → ℕ → AskedView
asked_by a s c = asked_leads a s.asks s.leads c

abbrev pub ends_leads : Leads → ℕ → Bool
ends_leads (Whole left) c = left == c
ends_leads (Out n) c = n == 0
ends_leads Inside c = false

-- it is the last
abbrev pub ends_by : Seen → ℕ → Bool
ends_by s c = ends_leads s.leads c

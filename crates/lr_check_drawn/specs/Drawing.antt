-- Nodes for the settlings that were found, each with the number of its settling.
use Rattle.std.specs.Prelude.{◌≡◌, ℕ, ◌<◌, List, [], ◌∷◌, ◌++◌, Option, Some, None, Bool, Contains, length, slice_get, slice_index_or}
use Rattle.tree_core.specs.declared.token.Tok.{Tok}
use Rattle.lr_tables.specs.declared.types.Choice.{Choice}
use Rattle.lr_tables.specs.View.{TableView}
use Rattle.lr_tables.specs.Leads.{actions_at}
use Rattle.lr_check_found.specs.lr_check_sets.specs.Automaton.{Automaton}
use Rattle.lr_check.specs.Tree.{Node}
use Rattle.lr_check.specs.Questions.{answers_of}
use Rattle.lr_check_found.specs.declared.places.Place.{Place}
use Rattle.lr_check_found.specs.declared.settlings.How.{How}
use Rattle.lr_check_found.specs.declared.settlings.Settling.{Settling}
use Rattle.lr_check_found.specs.Adding.{list_number}
use Rattle.lr_check_found.specs.Found.{FoundView, IsPlaceAt, IsSettlingAt}
use Rattle.lr_check_samples.specs.Nodes.{IsNode, DrawnKids}
use Rattle.lr_check_drawn.specs.Asked.{AskedView, with_kid, with_taken}

pub record DrawingView : Type 0 where
  pub nodes : List Node
  pub depths : List (List ℕ)

-- the numbers of a settling's kids' nodes, and what its own node is asked
pub record KidsView : Type 0 where
  pub numbers : List ℕ
  pub asked : AskedView

abbrev pub none_asked : AskedView
none_asked = record { own = []; depths = [] }

abbrev pub kids_in : Option Node → List ℕ
kids_in None = []
kids_in (Some v) = v.kids

abbrev pub choices_at : TableView → Option ℕ → Option Place → List Choice
choices_at t None x = []
choices_at t (Some p) None = []
choices_at t (Some p) (Some x) = actions_at t p x.behind

-- the choices behind a settling's list
abbrev pub choices_behind : TableView → FoundView → Option Settling → List Choice
choices_behind t f None = []
choices_behind t f (Some e) = choices_at t e.behind (slice_get f.places e.place)

-- the only kid, or both: the second stands behind so many symbols
abbrev pub one_kid : DrawingView → ℕ → KidsView
one_kid d first = record { numbers = first ∷ []; asked = with_kid none_asked 1 (slice_index_or d.depths first []) }

abbrev pub two_kids : DrawingView → ℕ → ℕ → ℕ → KidsView
two_kids d first second size = record {
  numbers = first ∷ second ∷ [];
  asked = with_kid (with_kid none_asked 1 (slice_index_or d.depths first [])) size (slice_index_or d.depths second []);
}

-- the same kids, and what is asked until the settling's list is reduced to the class
abbrev pub kids_again : TableView → FoundView → DrawingView → ℕ → ℕ → KidsView
kids_again t f d settling class = record {
  numbers = kids_in (slice_get d.nodes settling);
  asked = with_taken (record { own = answers_of (slice_get d.nodes settling); depths = slice_index_or d.depths settling [] })
      t.content.rules (choices_behind t f (slice_get f.settlings settling))
      (length (slice_index_or f.lists.all (list_number f settling) [])) class;
}

-- each number is lower
pub record AreBelow (i : ℕ) (numbers : List ℕ) : Type 0 where
  pub each : (k : ℕ) → Contains numbers k → k < i

-- the settling's node, with the token of its place
pub record IsDrawnAt (A : Automaton) (f : FoundView) (d : DrawingView) (i : ℕ) (ds : List ℕ) : Type 0 where
  pub entry : Settling
  pub place : Place
  pub numbers : List ℕ
  pub answers : List Bool
  pub there : IsSettlingAt f i entry
  pub at : IsPlaceAt f entry.place place
  pub node : IsNode d.nodes i place.token numbers answers
  pub drawn : DrawnKids A f d.nodes i numbers answers ds
  pub lower : AreBelow i numbers

pub record AreDrawn (A : Automaton) (f : FoundView) (d : DrawingView) : Type 0 where
  pub many : length d.nodes ≡ length d.depths
  pub each : (i : ℕ) (ds : List ℕ) → slice_get d.depths i ≡ Some ds → IsDrawnAt A f d i ds

-- so much is known of the next settling's node
pub record IsAsked (A : Automaton) (f : FoundView) (d : DrawingView) (i : ℕ) (k : KidsView) : Type 0 where
  pub drawn : DrawnKids A f d.nodes i k.numbers k.asked.own k.asked.depths
  pub lower : AreBelow i k.numbers

-- one node more
abbrev pub held : DrawingView → Tok → KidsView → DrawingView
held d token k = record {
  nodes = d.nodes ++ record { tok = token; kids = k.numbers; answers = k.asked.own } ∷ [];
  depths = d.depths ++ k.asked.depths ∷ [];
}

-- the settling with the number was found so, at a place with the token
pub record IsNext (f : FoundView) (i : ℕ) (h : How) (token : Tok) : Type 0 where
  pub entry : Settling
  pub there : IsSettlingAt f i entry
  pub how : entry.how ≡ h
  pub has_token : (x : Place) → IsPlaceAt f entry.place x → token ≡ x.token

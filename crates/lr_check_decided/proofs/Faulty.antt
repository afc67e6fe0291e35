-- Faults of what was found.
use Rattle.std.proofs.Common.{◌≡◌, ℕ, List, Some, None, sym, ap, ◌∙◌, subst}
use Rattle.std.proofs.lemmas.Option.{same_Some, none-some}
use Rattle.tree_core.specs.declared.token.Tok.{Tok}
use Rattle.md_reader.specs.State.{Content}
use Rattle.md_reader.specs.declared.types.Rule.{Rule}
use Rattle.md_reader.specs.declared.types.Sym.TheVariants as grammar_symbol
use Rattle.lr_tables.specs.declared.types.Choice.{Choice}
use Rattle.lr_tables.specs.View.{TableView}
use Rattle.lr_tables.specs.Leads.{actions_at}
use Rattle.lr_check_sets.specs.Automaton.{Automaton, CanBlock}
use Rattle.lr_check_sets.specs.Table.{candidates_of, candidates_at, automaton_of}
use Rattle.lr_check_found.specs.declared.places.Place.{Place}
use Rattle.lr_check_found.specs.declared.settlings.Settling.{Settling}
use Rattle.lr_check_found.specs.Found.{FoundView, IsPlaceAt, IsSettlingAt}
use Rattle.lr_check_found.specs.Sound.{IsSoundSettling, IsFound}
use Rattle.lr_check_flaws.specs.Flaws.{IsGapAt, IsDeadAt}

pub is_gap_at : (A : Automaton) (f : FoundView) (n : ℕ) (x : Place) → IsPlaceAt f n x → A.go x.state (grammar_symbol.Tok x.token) ≡ None → IsGapAt A f n
is_gap_at A f n x at none = record { place = x; there = at; unshifted = λ p e. none-some p (sym none ∙ e) }

pub shifted : (A : Automaton) (f : FoundView) (n p : ℕ) (x y : Place) → IsPlaceAt f n x → A.go x.state (grammar_symbol.Tok x.token) ≡ Some p → IsPlaceAt f n y →
    (j : ℕ) × (A.go y.state (grammar_symbol.Tok y.token) ≡ Some j)
shifted A f n p x y at go other = (p, subst (λ (z : Place). A.go z.state (grammar_symbol.Tok z.token) ≡ Some p) (same_Some x y (sym at ∙ other)) go)

pub is_dead_at : (A : Automaton) (f : FoundView) (i p : ℕ) (e : Settling) (x : Place) → IsFound A f → IsSettlingAt f i e → IsPlaceAt f e.place x → e.behind ≡ Some p →
    CanBlock (A.candidates p x.behind) → IsDeadAt A f i
is_dead_at A f i p e x found at place behind can =
    let s : IsSoundSettling A f i e = found.settlings i e at in
    record {
      place = x;
      list = s.list;
      behind = p;
      settles = record { entry = e; there = at; place = place; list = s.symbols; behind = behind };
      nothing = can;
    }

module _ (t : TableView) (p : ℕ) (k : Tok) (d : Content) (rules : List Rule) (choices : List Choice) (content : d ≡ t.content) (are : rules ≡ d.rules) (actions : choices ≡ actions_at t p k) where
  here : candidates_of rules choices ≡ candidates_of t.content.rules (actions_at t p k)
  here = ap (λ (rs : List Rule). candidates_of rs choices) (are ∙ ap (λ (c : Content). c.rules) content) ∙ ap (candidates_of t.content.rules) actions

  pub block_there : CanBlock (candidates_of rules choices) → CanBlock ((automaton_of t).candidates p k)
  unfolding candidates_at
  block_there can = subst CanBlock here can

  pub block_here : CanBlock ((automaton_of t).candidates p k) → CanBlock (candidates_of rules choices)
  unfolding candidates_at
  block_here can = subst CanBlock (sym here) can

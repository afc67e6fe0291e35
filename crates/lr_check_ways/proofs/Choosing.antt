-- Free choices and candidates.
use Rattle.std.proofs.Common.{◌≡◌, ℕ, List, Contains, sym, ap, ◌∙◌, subst}
use Rattle.tree_core.specs.declared.token.Tok.{Tok}
use Rattle.md_reader.specs.State.{Content}
use Rattle.md_reader.specs.declared.types.Rule.{Rule}
use Rattle.lr_tables.specs.declared.types.Choice.{Choice}
use Rattle.lr_tables.specs.View.{TableView}
use Rattle.lr_tables.specs.Leads.{actions_at}
use Rattle.lr_check_found.specs.lr_check_sets.specs.Automaton.{Candidate, shift, Free, CanBlock}
use Rattle.lr_check_found.specs.lr_check_sets.specs.Table.{candidates_of, candidates_at, automaton_of}
use Rattle.lr_check_found.specs.Choices.{CandidateOf, HasFree}
use Rattle.lr_check_found.proofs.Leading.{candidates_here, candidates_there}
use Rattle.lr_check_ways.specs.declared.ways.Reduction.{Reduction}
use Rattle.lr_check_ways.specs.Ways.{MakesOne, IsAmong, IsTaken}

block_of : (t : TableView) (q : ℕ) (b : Tok) → CanBlock ((automaton_of t).candidates q b) → CanBlock (candidates_of t.content.rules (actions_at t q b))
unfolding candidates_at
block_of t q b can = can

module _ (t : TableView) (q : ℕ) (b : Tok) (d : Content) (rules : List Rule) (choices : List Choice) (content : d ≡ t.content) (are : rules ≡ d.rules) (actions : choices ≡ actions_at t q b) where
  here : candidates_of rules choices ≡ candidates_of t.content.rules (actions_at t q b)
  here = ap (λ (rs : List Rule). candidates_of rs choices) (are ∙ ap (λ (c : Content). c.rules) content) ∙ ap (candidates_of t.content.rules) actions

  pub block_here : CanBlock ((automaton_of t).candidates q b) → CanBlock (candidates_of rules choices)
  block_here can = subst CanBlock (sym here) (block_of t q b can)

  module _ (free : List Choice) (has : HasFree rules choices free) where
    pub free_there : (c : Candidate) (e : Choice) → Contains free e → CandidateOf rules e c → Free ((automaton_of t).candidates q b) c
    free_there c e m is = candidates_there t q b c (subst (λ (cs : List Candidate). Free cs c) here (has.only e c m is))

    pub free_here : (c : Candidate) → Free ((automaton_of t).candidates q b) c → (e : Choice) × (Contains free e × CandidateOf rules e c)
    free_here c fr = has.each c (subst (λ (cs : List Candidate). Free cs c) (sym here) (candidates_here t q b c fr))

    pub taken_there : (x : Reduction) → (e : Choice) × (Contains free e × MakesOne rules x e) → IsTaken (automaton_of t) q b x
    taken_there x h = record { rule = h.1.1.rule; free = free_there _ h.0 h.1.0 h.1.1.is; by = h.1.1.by }

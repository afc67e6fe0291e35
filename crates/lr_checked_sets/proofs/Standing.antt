-- The states of tables, and what may be done there, are those of the stacks that lead to them.
use Rattle.std.proofs.Common.{◌≡◌, ℕ, List, ◌++◌, Some, length, map, refl, sym, ap, ◌∙◌, subst}
use Rattle.lr_check_found.specs.tree_core.specs.declared.token.Tok.{Tok}
use Rattle.lr_check_found.specs.md_reader.specs.declared.types.Sym.{Sym}
use Rattle.lr_check_found.specs.md_reader.specs.Valid.{IsValid}
use Rattle.lr_checked.specs.lr_tables.specs.declared.types.Choice.{Choice}
use Rattle.lr_checked.specs.lr_tables.specs.declared.types.Choice.TheVariants as choice
use Rattle.lr_checked.specs.lr_tables.specs.Statements.{stmt_of}
use Rattle.lr_checked.specs.lr_tables.specs.View.{TableView}
use Rattle.lr_checked.specs.lr_tables.specs.Promises.{IsNumbered}
use Rattle.lr_checked.specs.lr_tables.specs.Leads.{Leads, nowhere, further, actions_at}
use Rattle.lr_checked.specs.lr_tables.specs.Over.{SameItems}
use Rattle.lr_checked.specs.lr_tables.specs.Candidates.{StandsBefore, Candidates, accepts, shifts, reduces}
use Rattle.lr_checked.specs.lr_tables.proofs.Law.{candidates, leads_on, stands_from}
use Rattle.lr_checked.specs.lr_tables.proofs.Validity.{is_grammar}
use Rattle.lr_checked.specs.lr_check.proofs.Only.{reductions_same}
use Rattle.lr_check_found.specs.lr_check_sets.specs.Automaton.{Candidate, walk, go_from, Free}
use Rattle.lr_check_found.specs.lr_check_sets.specs.Table.{candidates_of, candidates_at, automaton_of}
use Rattle.lr_check_found.specs.lr_check_sets.proofs.Rows.{leads}
use Rattle.lr_check_found.specs.lr_check_sets.proofs.Walks.{walk-append}
use Rattle.lr_tables_states.specs.States.{HasStack, AreItemSets}
use Rattle.lr_tables_states.proofs.Law.{states_are_item_sets}
use Rattle.lr_checked_sets.specs.Summaries.{IsLive, Choices, the_shift, the_reductions, IsFree}

module _ (t : TableView) (v : IsValid t.content) (b : IsNumbered t) where
  abbrev pub stmt : ℕ
  stmt = stmt_of t.content.classes

  -- the state behind a stack
  abbrev pub At : List Sym → ℕ → Type 0
  At a q = walk (automaton_of t) 0 a ≡ Some q

  pub sets : AreItemSets t
  sets = states_are_item_sets t v b

  pub at_leads : (a : List Sym) (q : ℕ) → Leads t a q → At a q
  at_leads a q nowhere = refl
  at_leads a q (further {a = c} {q = p} {p = r} {X = X} l e) = ap (λ o. go_from (automaton_of t) o X) (at_leads c p l) ∙ e

  -- a stack that leads to a state has an item, and the other way round
  pub live : (a : List Sym) (q : ℕ) → At a q → IsLive t.content.rules stmt a
  live a q at =
      let l : Leads t a q = leads t a q at in
      let h : HasStack t q = sets.stacks q (sets.rows a q l) in
      (h.item, (((sets.same h.stack a q q h.leads l).0 refl) h.item).0 h.valid)

  pub state_of : (a : List Sym) → IsLive t.content.rules stmt a → (q : ℕ) × At a q
  state_of a h = let s = sets.states a h.0 h.1 in (s.0, at_leads a s.0 s.1)

  -- two stacks lead to one state exactly where they have the same items
  pub same_items : (a c : List Sym) (q p : ℕ) → At a q → At c p → q ≡ p → SameItems t.content.rules stmt a c
  same_items a c q p l m e = (sets.same a c q p (leads t a q l) (leads t c p m)).0 e

  pub same_state : (a c : List Sym) (q p : ℕ) → At a q → At c p → SameItems t.content.rules stmt a c → q ≡ p
  same_state a c q p l m e = (sets.same a c q p (leads t a q l) (leads t c p m)).1 e

  -- a list over a stack
  pub at_over : (a s : List Sym) (q p : ℕ) → At a q → At (s ++ a) p → walk (automaton_of t) q s ≡ Some p
  at_over a s q p below whole = sym (walk-append (automaton_of t) 0 q s a below) ∙ whole

  pub over_at : (a s : List Sym) (q p : ℕ) → At a q → walk (automaton_of t) q s ≡ Some p → At (s ++ a) p
  over_at a s q p below whole = walk-append (automaton_of t) 0 q s a below ∙ whole

  -- where an item stands before a symbol, the state leads on, and nowhere else
  pub goes_on : (a : List Sym) (q : ℕ) (X : Sym) → At a q → StandsBefore t.content.rules stmt a X → (p : ℕ) × ((automaton_of t).go q X ≡ Some p)
  goes_on a q X at h = leads_on t.content.rules stmt (length t.content.classes) (is_grammar t.content v) t.content t.rows b a q X (leads t a q at) h

  pub stands : (a : List Sym) (q p : ℕ) (X : Sym) → At a q → (automaton_of t).go q X ≡ Some p → StandsBefore t.content.rules stmt a X
  stands a q p X at e = stands_from t.content.rules stmt (length t.content.classes) (is_grammar t.content v) t.content t.rows b a q p X (leads t a q at) e

  -- what may be done at a state is what may be done at its stacks
  tables_choose : (a : List Sym) (q : ℕ) (k : Tok) → At a q → Candidates t.content.rules stmt t a k (actions_at t q k)
  tables_choose a q k at = candidates t.content.rules stmt (length t.content.classes) (is_grammar t.content v) t.content t.rows b a q k (leads t a q at)

  chosen_by : (a : List Sym) (k : Tok) (cs : List Choice) → Candidates t.content.rules stmt t a k cs → Choices t.content.rules stmt a k (candidates_of t.content.rules cs)
  chosen_by a k cs (accepts before end) = the_shift before
  chosen_by a k cs (shifts before end l) = the_shift before
  chosen_by a k cs (reduces ns none are e) =
      subst (λ (l : List Choice). Choices t.content.rules stmt a k (candidates_of t.content.rules l)) (sym e) (the_reductions ns none are)

  pub choices : (a : List Sym) (q : ℕ) (k : Tok) → At a q → Choices t.content.rules stmt a k ((automaton_of t).candidates q k)
  unfolding candidates_at
  choices a q k at = chosen_by a k (actions_at t q k) (tables_choose a q k at)

  -- they are these alone
  one_choice : (a : List Sym) (k : Tok) (cs ds : List Candidate) → Choices t.content.rules stmt a k cs → Choices t.content.rules stmt a k ds → cs ≡ ds
  one_choice a k cs ds (the_shift h) (the_shift g) = refl
  one_choice a k cs ds (the_shift h) (the_reductions ns none are) = absurd (none h)
  one_choice a k cs ds (the_reductions ns none are) (the_shift h) = absurd (none h)
  one_choice a k cs ds (the_reductions ns none are) (the_reductions ms unshifted others) =
      ap (λ (l : List ℕ). candidates_of t.content.rules (map choice.Reduce l)) (reductions_same t.content.rules stmt a k ns ms are others)

  pub free_at : (a : List Sym) (q : ℕ) (k : Tok) (c : Candidate) → At a q → IsFree t.content.rules stmt a k c → Free ((automaton_of t).candidates q k) c
  free_at a q k c at h =
      subst (λ (cs : List Candidate). Free cs c) (one_choice a k h.candidates ((automaton_of t).candidates q k) h.are (choices a q k at)) h.free

  pub free_from : (a : List Sym) (q : ℕ) (k : Tok) (c : Candidate) → At a q → Free ((automaton_of t).candidates q k) c → IsFree t.content.rules stmt a k c
  free_from a q k c at h = record { candidates = (automaton_of t).candidates q k; are = choices a q k at; free = h }

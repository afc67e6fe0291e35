-- Settlings whose reductions come to an end, or turn.
use Rattle.std.proofs.Common.{◌≡◌, ℕ, ◌<◌, List, [], ◌∷◌, Some, None, Contains, Bool, true, false, length, refl, sym, ap, ◌∙◌, subst}
use Rattle.std.specs.Prelude.{slice_index_or}
use Rattle.std.proofs.lemmas.Option.{get_or_from_slice_get, same_Some, none-some}
use Rattle.md_reader.specs.State.{Content}
use Rattle.md_reader.specs.declared.types.Rule.{Rule}
use Rattle.md_reader.specs.declared.types.Sym.{Sym}
use Rattle.md_reader.specs.declared.types.Sym.TheVariants as grammar_symbol
use Rattle.lr_tables.specs.declared.types.Choice.{Choice}
use Rattle.lr_tables.specs.View.{TableView}
use Rattle.lr_tables.specs.Leads.{actions_at}
use Rattle.lr_check_sets.specs.Automaton.{Automaton, Production, Candidate, reduce, walk, size_of, Free, reduced}
use Rattle.lr_check_sets.specs.Bound.{HasClasses}
use Rattle.lr_check_sets.specs.Faults.{Calms, calms}
use Rattle.lr_check_sets.specs.Table.{productions, candidates_of, automaton_of}
use Rattle.lr_check_found.specs.declared.places.Place.{Place}
use Rattle.lr_check_found.specs.declared.settlings.Settling.{Settling}
use Rattle.lr_check_found.specs.Choices.{HasFree}
use Rattle.lr_check_found.specs.Lists.{IsList}
use Rattle.lr_check_found.specs.Found.{FoundView, IsPlaceAt, IsSettlingAt, Settles}
use Rattle.lr_check_found.specs.Sound.{IsSoundSettling, IsFound}
use Rattle.lr_check_found.proofs.Leading.{candidates_here, candidates_there}
use Rattle.lr_check_found.proofs.Deriving.{whole_left}
use Rattle.lr_check_complete.proofs.Reducing.{whole_choice, WholeChoice, choice_whole}
use Rattle.lr_check_complete.specs.Sets.{IsComplete}
use Rattle.lr_check_decided.specs.declared.circles.Restless.{Restless}
use Rattle.lr_check_decided.specs.Calm.{AreCalm, AreStuck, OneUnmarked, AllMarked}
use Rattle.lr_check_decided.specs.Turn.{IsRestless}
use Rattle.lr_check_decided.proofs.Settled.{made}
use Rattle.lr_check_decided.proofs.Calming.{rule_listed}

-- nothing settles on from a list that leads nowhere
pub calm_end : (A : Automaton) (f : FoundView) (i : ℕ) (e : Settling) (x : Place) (s : List Sym) → IsFound A f → IsSettlingAt f i e → IsPlaceAt f e.place x → IsList f.lists e.list s
    → e.behind ≡ None →
    Calms A x.state x.behind s
calm_end A f i e x s found at place list none =
    let h : IsSoundSettling A f i e = found.settlings i e at in
    let same : h.place ≡ x = same_Some h.place x (sym h.there ∙ place) in
    let list' : h.list ≡ s = same_Some h.list s (sym h.symbols ∙ list) in
    let nowhere : walk A x.state s ≡ None = ap (walk A x.state) (sym list') ∙ (ap (λ (z : Place). walk A z.state h.list) (sym same) ∙ (sym h.behind ∙ none)) in
    calms (λ r p ws fr size. absurd (none-some p (sym nowhere ∙ ws)))

module _ (t : TableView) (f : FoundView) (i : ℕ) (e : Settling) (x : Place) (p : ℕ) (found : IsFound (automaton_of t) f) (at : IsSettlingAt f i e) (behind : e.behind ≡ Some p)
    (place : IsPlaceAt f e.place x)
    (d : Content) (rules : List Rule) (choices free : List Choice) (content : d ≡ t.content) (are : rules ≡ d.rules) (actions : choices ≡ actions_at t p x.behind) (has : HasFree rules choices free)
    (list : List Sym) (size : ℕ) (lists : list ≡ slice_index_or f.lists.all e.list []) (long : size ≡ length list) (marks : List Bool) where
  here : candidates_of rules choices ≡ candidates_of t.content.rules (actions_at t p x.behind)
  here = ap (λ (rs : List Rule). candidates_of rs choices) (are ∙ ap (λ (c : Content). c.rules) content) ∙ ap (candidates_of t.content.rules) actions

  sound : IsSoundSettling (automaton_of t) f i e
  sound = found.settlings i e at

  same_place : sound.place ≡ x
  same_place = same_Some sound.place x (sym sound.there ∙ place)

  same_size : (s : List Sym) → IsList f.lists e.list s → length s ≡ size
  same_size s is = ap length (sym (get_or_from_slice_get f.lists.all e.list s [] is)) ∙ sym (long ∙ ap length lists)

  walks : (s : List Sym) → IsList f.lists e.list s → walk (automaton_of t) x.state s ≡ Some p
  walks s is = ap (walk (automaton_of t) x.state) (same_Some s sound.list (sym is ∙ sound.symbols))
      ∙ (ap (λ (z : Place). walk (automaton_of t) z.state sound.list) (sym same_place) ∙ (sym sound.behind ∙ behind))

  pub calm_list : AreCalm (automaton_of t) x.state x.behind marks → AllMarked rules size marks free → (s : List Sym) → IsList f.lists e.list s
      → Calms (automaton_of t) x.state x.behind s
  calm_list calm all s is = calms (λ r j ws fr many. next r j ws fr many)
    where
      next : (r : Production) (j : ℕ) → walk (automaton_of t) x.state s ≡ Some j → Free ((automaton_of t).candidates j x.behind) (reduce r) → size_of r ≡ length s →
          Calms (automaton_of t) x.state x.behind (reduced r s)
      next r j ws fr many =
          let same : j ≡ p = same_Some j p (sym ws ∙ walks s is) in
          let fr' : Free (candidates_of rules choices) (reduce r) = subst (λ (cs : List Candidate). Free cs (reduce r)) (sym here)
          (candidates_here t p x.behind (reduce r) (subst (λ (n : ℕ). Free ((automaton_of t).candidates n x.behind) (reduce r)) same fr)) in
          let c = has.each (reduce r) fr' in
          let marked : slice_index_or marks r.left false ≡ true = (all.each c.0 c.1.0).each r.left (whole_choice rules c.0 r size c.1.1 (many ∙ same_size s is)) in
          subst (Calms (automaton_of t) x.state x.behind) (sym (whole_left r s many)) (calm.each r.left marked)

  pub restless_list : IsComplete (automaton_of t) f → AreStuck (automaton_of t) x.state x.behind marks → HasClasses (productions t.content.rules) (length marks) →
      (r : Restless) → r.marks.items ≡ marks → OneUnmarked rules size marks free r.class → IsRestless (automaton_of t) f e.place x r
  restless_list complete stuck classes r same h =
      let w : WholeChoice rules size h.choice r.class = choice_whole rules size h.choice r.class h.makes.leads in
      let listed : Contains (productions t.content.rules) w.rule = subst (λ (rs : List Rule). Contains (productions rs) w.rule) (are ∙ ap (λ (c : Content). c.rules) content)
      (rule_listed rules h.choice w.rule w.is) in
      let fr : Free ((automaton_of t).candidates p x.behind) (reduce w.rule) =
      candidates_there t p x.behind (reduce w.rule) (subst (λ (cs : List Candidate). Free cs (reduce w.rule)) here (has.only h.choice (reduce w.rule) h.there w.is)) in
      let many : size_of w.rule ≡ length sound.list = w.long ∙ sym (same_size sound.list sound.symbols) in
      let settles : Settles f e.place sound.list = record { number = i; entry = e; there = at; place = refl; list = sound.symbols } in
      record {
        settles = subst (λ k. Settles f e.place (grammar_symbol.Class k ∷ [])) w.left
            (made (automaton_of t) f e.place x complete place sound.list p w.rule settles (walks sound.list sound.symbols) fr many);
        stuck = subst (AreStuck (automaton_of t) x.state x.behind) (sym same) stuck;
        low = subst (λ (l : List Bool). r.class < length l) (sym same) (subst (λ k. k < length marks) w.left (classes w.rule listed));
        unmarked = ap (λ (l : List Bool). slice_index_or l r.class false) same ∙ h.makes.unmarked;
      }

-- Which choices lead out of a list.
use Rattle.std.proofs.Common.{◌≡◌, ℕ, ◌-◌, ◌≤◌, ◌<◌, List, Option, Some, None, Contains, Bool, true, false, length, slice_get, refl, sym, ap, ◌∙◌, subst, ⊎_elim, arith, true≢false}
use Rattle.std.specs.Prelude.{nat_lt, ◌==◌}
use Rattle.std.proofs.lemmas.Bool.{cases_lt, ltb-true}
use Rattle.tree_core.specs.declared.token.Tok.{Tok}
use Rattle.md_reader.specs.State.{Content}
use Rattle.md_reader.specs.declared.types.Rule.{Rule}
use Rattle.lr_tables.specs.declared.types.Choice.{Choice}
use Rattle.lr_tables.specs.declared.types.Choice.TheVariants as choice
use Rattle.lr_tables.specs.View.{TableView}
use Rattle.lr_tables.specs.Leads.{actions_at}
use Rattle.lr_check_sets.specs.Automaton.{Candidate, shift, reduce, Free}
use Rattle.lr_check_sets.specs.Table.{production, candidates_of, candidates_at, automaton_of}
use Rattle.lr_check_found.specs.declared.choices.Leads.TheVariants.{Out}
use Rattle.lr_check_found.specs.Choices.{leads_by, seen_rule, is_out, LeadsOut, CandidateOf, HasFree}
use Rattle.lr_check_found.specs.Adding.{IsWider, HasWayOut}

pub candidates_here : (t : TableView) (p : ℕ) (b : Tok) (c : Candidate) → Free ((automaton_of t).candidates p b) c → Free (candidates_of t.content.rules (actions_at t p b)) c
unfolding candidates_at
candidates_here t p b c free = free

pub candidates_there : (t : TableView) (p : ℕ) (b : Tok) (c : Candidate) → Free (candidates_of t.content.rules (actions_at t p b)) c → Free ((automaton_of t).candidates p b) c
unfolding candidates_at
candidates_there t p b c free = free

pub out_leads : (long left size : ℕ) → size < long → leads_by long left size ≡ Out (long - size)
out_leads long left size lt = grind (arith, lt)

out_of : (long left size : ℕ) → size < long → is_out (leads_by long left size) ≡ true
out_of long left size lt = ap is_out (out_leads long left size lt)

not_out : (long left size : ℕ) → long ≤ size → is_out (leads_by long left size) ≡ false
not_out long left size le = by (nat_lt size long) refl
  where
    inner : (b : Bool) → (long == size) ≡ b → nat_lt size long ≡ false → is_out (leads_by long left size) ≡ false
    inner true e f = grind (arith, e, f)
    inner false e f = grind (arith, e, f)

    by : (b : Bool) → nat_lt size long ≡ b → is_out (leads_by long left size) ≡ false
    by true e = absurd (let lt = ltb-true size long e in omega (arith, lt, le))
    by false e = inner (long == size) refl e

wide_of : (long left size : ℕ) → is_out (leads_by long left size) ≡ true → size < long
wide_of long left size h = ⊎_elim (λ lt. lt) (λ le. absurd (true≢false (sym h ∙ not_out long left size le))) (cases_lt size long)

-- a choice that leads out is a candidate that does
record Leading (rules : List Rule) (size : ℕ) (d : Choice) : Type 0 where
  candidate : Candidate
  is : CandidateOf rules d candidate
  wide : IsWider candidate size

leading : (rules : List Rule) (size : ℕ) (d : Choice) → LeadsOut rules size d → Leading rules size d
leading rules size (choice.Shift q) h = record { candidate = shift; is = refl; wide = tt }
leading rules size choice.Accept h = record { candidate = shift; is = refl; wide = tt }
leading rules size (choice.Reduce n) h = by (slice_get rules n) refl
  where
    by : (o : Option Rule) → slice_get rules n ≡ o → Leading rules size (choice.Reduce n)
    by None e = absurd (true≢false (sym (sym (ap (λ (o : Option Rule). is_out (seen_rule size o).leads) e) ∙ h)))
    by (Some r) e = record {
      candidate = reduce (production r);
      is = (r, (e, refl));
      wide = wide_of (length r.right) r.left size (sym (ap (λ (o : Option Rule). is_out (seen_rule size o).leads) e) ∙ h);
    }

leads_of : (rules : List Rule) (size : ℕ) (d : Choice) (c : Candidate) → CandidateOf rules d c → IsWider c size → LeadsOut rules size d
leads_of rules size (choice.Shift q) c is wide = refl
leads_of rules size choice.Accept c is wide = refl
leads_of rules size (choice.Reduce n) c (r, (there, is)) wide =
    ap (λ (o : Option Rule). is_out (seen_rule size o).leads) there ∙ out_of (length r.right) r.left size (subst (λ x. IsWider x size) is wide)

module _ (t : TableView) (p size : ℕ) (k : Tok) (d : Content) (rules : List Rule) (choices free : List Choice) (content : d ≡ t.content) (are : rules ≡ d.rules) (actions : choices ≡ actions_at t p k)
    (has : HasFree rules choices free) where
  here : candidates_of rules choices ≡ candidates_of t.content.rules (actions_at t p k)
  here = ap (λ (rs : List Rule). candidates_of rs choices) (are ∙ ap (λ (c : Content). c.rules) content) ∙ ap (candidates_of t.content.rules) actions

  pub way_out : (behind : Option ℕ) → behind ≡ Some p → (e : Choice) × (Contains free e × LeadsOut rules size e) → HasWayOut (automaton_of t) behind k size
  way_out behind at h =
      let l : Leading rules size h.0 = leading rules size h.0 h.1.1 in
      record {
        state = p;
        candidate = l.candidate;
        at = at;
        free = candidates_there t p k l.candidate (subst (λ (cs : List Candidate). Free cs l.candidate) here (has.only h.0 l.candidate h.1.0 l.is));
        out = l.wide;
      }

  pub ways_out : (b : Bool) → ((e : Choice) → Contains free e → LeadsOut rules size e → b ≡ true) → (q : ℕ) (c : Candidate) → q ≡ p → Free ((automaton_of t).candidates q k) c
      → IsWider c size → b ≡ true
  ways_out b each q c same f wide =
      let f' : Free (candidates_of rules choices) c = subst (λ (cs : List Candidate). Free cs c) (sym here)
      (candidates_here t p k c (subst (λ (i : ℕ). Free ((automaton_of t).candidates i k) c) same f)) in
      let e = has.each c f' in
      each e.0 e.1.0 (leads_of rules size e.0 c e.1.1 wide)

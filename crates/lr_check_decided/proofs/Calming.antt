-- Classes whose reductions come to an end.
use Rattle.std.proofs.Common.{◌≡◌, ◌⊎◌, ℕ, ◌+◌, ◌≤◌, ◌<◌, zero, suc, replicate, set, inl, inr, ⊎_elim, arith, List}
use Rattle.std.proofs.Common.{[], ◌∷◌, Option, Some, None, Contains, Bool, true, false, length, refl, sym, ap, ◌∙◌, subst}
use Rattle.std.specs.Prelude.{slice_index_or, cond, is_some, IfSome, IfNone, Result, Ok, Err, IfOk, ◌||◌}
use Rattle.std.proofs.lemmas.Bool.{cases_lt, cases_eq}
use Rattle.std.proofs.lemmas.List.{get_or-set_other}
use Rattle.std.proofs.lemmas.List.Sums.{sum_by-set}
use Rattle.std.specs.Option.{option_map}
use Rattle.std.proofs.lemmas.Option.{slice_get-map, same_Some, none-some}
use Rattle.gg_base.proofs.Facts.{false_true}
use Rattle.tree_core.specs.declared.token.Tok.{Tok}
use Rattle.md_reader.specs.State.{Content}
use Rattle.md_reader.specs.declared.types.Rule.{Rule}
use Rattle.md_reader.specs.declared.types.Sym.TheVariants as grammar_symbol
use Rattle.lr_tables.specs.declared.types.Choice.{Choice}
use Rattle.lr_tables.specs.declared.types.Choice.TheVariants as choice
use Rattle.lr_tables.specs.View.{TableView}
use Rattle.lr_tables.specs.Leads.{actions_at}
use Rattle.lr_check_sets.specs.Automaton.{Automaton, Production, Candidate, reduce, Free}
use Rattle.lr_check_sets.specs.Bound.{HasClasses}
use Rattle.lr_check_sets.specs.Faults.{Calms, calms}
use Rattle.lr_check_sets.specs.Table.{production, productions, candidates_of, automaton_of}
use Rattle.lr_check_sets.proofs.Rows.{at_contains}
use Rattle.lr_check_sets.proofs.Tables.{reduce_same, shift_reduce}
use Rattle.lr_check_found.specs.declared.choices.Leads.TheVariants.{Out, Whole, Inside}
use Rattle.lr_check_found.specs.Choices.{seen, CandidateOf, HasFree}
use Rattle.lr_check_found.proofs.Leading.{candidates_here, candidates_there}
use Rattle.lr_check_found.proofs.Deriving.{whole_left}
use Rattle.lr_check_flaws.specs.Flaws.{StepsTo}
use Rattle.lr_check_complete.proofs.Reducing.{whole_choice, WholeChoice, choice_whole, whole_same}
use Rattle.lr_check_decided.specs.Calm.{marked, AreCalm, IsNext, Stuck, LeadsToMarked, AreStuck, MakesUnmarked, MakesMarked, OneUnmarked, AllMarked}

-- what a test of an option says
pub if_some : {X : Type 0} (o : Option X) (P : X → Type 0) → IfSome o P → is_some o ≡ true → (x : X) × P x
if_some None P h e = cc
if_some (Some x) P h e = (x, h)

pub if_not_some : {X : Type 0} (o : Option X) (P : Type 0) → IfNone o P → is_some o ≡ false → P
if_not_some None P h e = h
if_not_some (Some x) P h e = cc

pub some_at : {X : Type 0} (o : Option X) (x : X) (P : X → Type 0) → o ≡ Some x → IfSome o P → P x
some_at None x P e h = absurd (none-some x e)
some_at (Some y) x P e h = subst P (same_Some y x e) h

pub none_at : {X : Type 0} (o : Option X) (P : Type 0) → o ≡ None → IfNone o P → P
none_at None P e h = h
none_at (Some x) P e h = absurd (none-some x (sym e))

pub if_ok_both : {X E : Type 0} (r : Result X E) (P Q R : X → Type 0) → ((x : X) → P x → Q x → R x) → IfOk r P → IfOk r Q → IfOk r R
if_ok_both (Ok x) P Q R g h k = g x h k
if_ok_both (Err e) P Q R g h k = tt

pub out_not : (n k : ℕ) → Out n ≡ Whole k → ⊥
out_not n k e = cc

pub inside_not : (k : ℕ) → Inside ≡ Whole k → ⊥
inside_not k e = cc

-- what a class that isn't marked, or is, says of the choice that makes it
module _ (rules : List Rule) (size : ℕ) (marks : List Bool) (d : Choice) (class : ℕ) (leads : (seen rules size d).leads ≡ Whole class) where
  pub unmarked_made : (o : Option ℕ) → IfSome o (λ k. (k ≡ class) × (slice_index_or marks class false ≡ false)) → IfSome o (λ k. MakesUnmarked rules size marks k d)
  unmarked_made None h = tt
  unmarked_made (Some k) h = record { leads = leads ∙ ap Whole (sym h.0); unmarked = ap (λ j. slice_index_or marks j false) h.0 ∙ h.1 }

  pub marked_made : (o : Option ℕ) → IfNone o (slice_index_or marks class false ≡ true) → IfNone o (MakesMarked rules size marks d)
  marked_made None h = record { each = λ k e. subst (λ j. slice_index_or marks j false ≡ true) (whole_same class k (sym leads ∙ e)) h }
  marked_made (Some k) h = tt

-- the rule of a choice is a rule of the description
pub rule_listed : (rules : List Rule) (d : Choice) (r : Production) → CandidateOf rules d (reduce r) → Contains (productions rules) r
rule_listed rules (choice.Shift q) r is = absurd (shift_reduce r is)
rule_listed rules choice.Accept r is = absurd (shift_reduce r is)
rule_listed rules (choice.Reduce n) r (q, (there, is)) =
    at_contains (productions rules) n r (slice_get-map production rules n ∙ (ap (option_map production) there ∙ ap Some (sym (reduce_same r (production q) is))))

module _ (t : TableView) (q at c : ℕ) (b : Tok) (d : Content) (rules : List Rule) (choices free : List Choice) (content : d ≡ t.content) (are : rules ≡ d.rules) (actions : choices ≡ actions_at t at b)
    (has : HasFree rules choices free) (go : (automaton_of t).go q (grammar_symbol.Class c) ≡ Some at) (marks : List Bool) where
  here : candidates_of rules choices ≡ candidates_of t.content.rules (actions_at t at b)
  here = ap (λ (rs : List Rule). candidates_of rs choices) (are ∙ ap (λ (c : Content). c.rules) content) ∙ ap (candidates_of t.content.rules) actions

  pub next_class : HasClasses (productions t.content.rules) (length marks) → (k : ℕ) → OneUnmarked rules 1 marks free k → IsNext (automaton_of t) q b marks c k
  next_class classes k h =
      let w : WholeChoice rules 1 h.choice k = choice_whole rules 1 h.choice k h.makes.leads in
      let listed : Contains (productions t.content.rules) w.rule = subst (λ (rs : List Rule). Contains (productions rs) w.rule) (are ∙ ap (λ (c : Content). c.rules) content)
      (rule_listed rules h.choice w.rule w.is) in
      record {
        steps = record {
          at = at;
          rule = w.rule;
          go = go;
          free = candidates_there t at b (reduce w.rule) (subst (λ (cs : List Candidate). Free cs (reduce w.rule)) here (has.only h.choice (reduce w.rule) h.there w.is));
          one = w.long;
          left = w.left;
        };
        low = subst (λ n. n < length marks) w.left (classes w.rule listed);
        unmarked = h.makes.unmarked;
      }

  pub marked_class : AllMarked rules 1 marks free → LeadsToMarked (automaton_of t) q b marks c
  marked_class h = record { each = λ d s. next d s }
    where
      next : (d : ℕ) → StepsTo (automaton_of t) q b c d → slice_index_or marks d false ≡ true
      next d s =
          let same : s.at ≡ at = same_Some s.at at (sym s.go ∙ go) in
          let fr : Free (candidates_of rules choices) (reduce s.rule) = subst (λ (cs : List Candidate). Free cs (reduce s.rule)) (sym here)
          (candidates_here t at b (reduce s.rule) (subst (λ (j : ℕ). Free ((automaton_of t).candidates j b) (reduce s.rule)) same s.free)) in
          let x = has.each (reduce s.rule) fr in
          subst (λ n. slice_index_or marks n false ≡ true) s.left
          ((h.each x.0 x.1.0).each s.rule.left (whole_choice rules x.0 s.rule 1 x.1.1 s.one))

  pub next_if : HasClasses (productions t.content.rules) (length marks) → (o : Option ℕ) → IfSome o (λ k. OneUnmarked rules 1 marks free k)
      → IfSome o (λ k. IsNext (automaton_of t) q b marks c k)
  next_if classes None h = tt
  next_if classes (Some k) h = next_class classes k h

  pub marked_if : (o : Option ℕ) → IfNone o (AllMarked rules 1 marks free) → IfNone o (LeadsToMarked (automaton_of t) q b marks c)
  marked_if None h = marked_class h
  marked_if (Some k) h = tt

-- a class that leads nowhere
pub marked_nowhere : (A : Automaton) (q c : ℕ) (b : Tok) (marks : List Bool) → A.go q (grammar_symbol.Class c) ≡ None → LeadsToMarked A q b marks c
marked_nowhere A q c b marks none = record { each = λ d s. absurd (none-some s.at (sym none ∙ s.go)) }

-- a class that leads to calm ones is calm
pub calm_class : (A : Automaton) (q c : ℕ) (b : Tok) (marks : List Bool) → AreCalm A q b marks → LeadsToMarked A q b marks c → Calms A q b (grammar_symbol.Class c ∷ [])
calm_class A q c b marks are leads = calms (λ r p ws fr size. subst (Calms A q b) (sym (whole_left r (grammar_symbol.Class c ∷ []) size))
    (are.each r.left (leads.each r.left (record { at = p; rule = r; go = ws; free = fr; one = size; left = refl }))))

-- one mark more
pub marked_calm : (A : Automaton) (q : ℕ) (b : Tok) (marks : List Bool) (c : ℕ) → c < length marks → AreCalm A q b marks → Calms A q b (grammar_symbol.Class c ∷ []) → AreCalm A q b (set marks c true)
marked_calm A q b marks c lt are calm = record {
  each = λ k m. ⊎_elim
      (λ same. subst (λ j. Calms A q b (grammar_symbol.Class j ∷ [])) (sym same) calm)
      (λ other. are.each k (sym (get_or-set_other marks c k true false other) ∙ m))
      (cases_eq k c);
}

pub more_marked : (marks : List Bool) (c : ℕ) → c < length marks → slice_index_or marks c false ≡ false → marked (set marks c true) ≡ marked marks + 1
more_marked marks c lt un =
    let one = sum_by-set (λ (b : Bool). cond b 1 0) marks c true false lt in
    let none : cond (slice_index_or marks c false) 1 0 ≡ cond false 1 0 = ap {B = ℕ} (λ (b : Bool). cond b 1 0) un in
    omega (arith, one, none)

or_none : (a b c : Bool) → c ≡ (a || b) → c ≡ false → (a ≡ false) × (b ≡ false)
or_none true b c e f = cc
or_none false true c e f = cc
or_none false false c e f = (refl, refl)

or_some : (a b c : Bool) → c ≡ (a || b) → c ≡ true → (a ≡ true) ⊎ (b ≡ true)
or_some true b c e f = inl refl
or_some false true c e f = inr refl
or_some false false c e f = cc

grown : (x : Bool) (m n : ℕ) → (x ≡ true → n ≡ m + 1) → (x ≡ false → n ≡ m) → m ≤ n
grown true m n t f = let e = t refl in omega (arith, e)
grown false m n t f = let e = f refl in omega (arith, e)

-- the turns of the loop
pub record Marking (A : Automaton) (q : ℕ) (b : Tok) (before after : List Bool) (n : ℕ) (changed : Bool) : Type 0 where
  pub calm : AreCalm A q b before → AreCalm A q b after
  pub long : length after ≡ length before
  pub same : changed ≡ false → after ≡ before
  pub stuck : changed ≡ false → (k : ℕ) → k < n → slice_index_or before k false ≡ false → Stuck A q b before k
  pub most : marked before ≤ marked after
  pub more : changed ≡ true → marked before < marked after

pub marking_none : (A : Automaton) (q : ℕ) (b : Tok) (marks : List Bool) → Marking A q b marks marks 0 false
marking_none A q b marks = record {
  calm = λ a. a;
  long = refl;
  same = λ e. refl;
  stuck = λ e k lt un. absurd (omega (arith, lt));
  most = omega arith;
  more = λ e. false_true e;
}

pub marking_turn : (A : Automaton) (q : ℕ) (b : Tok) (before after more : List Bool) (n : ℕ) (changed one now : Bool) → Marking A q b before after n changed → length more ≡ length after →
    (AreCalm A q b after → AreCalm A q b more) → (one ≡ false → slice_index_or after n false ≡ false → Stuck A q b after n) → (one ≡ false → more ≡ after) →
    (one ≡ true → marked more ≡ marked after + 1) → now ≡ (one || changed) → Marking A q b before more (n + 1) now
marking_turn A q b before after more n changed one now m long calm stuck same grows is = record {
  calm = λ a. calm (m.calm a);
  long = long ∙ m.long;
  same = λ e. same (or_none one changed now is e).0 ∙ m.same (or_none one changed now is e).1;
  stuck = λ e k lt un. ⊎_elim
      (λ less. m.stuck (or_none one changed now is e).1 k less un)
      (λ ge.
      let here : n ≡ k = omega (arith, lt, ge) in
      let old : after ≡ before = m.same (or_none one changed now is e).1 in
      subst (λ j. Stuck A q b before j) here
      (subst (λ l. Stuck A q b l n) old (stuck (or_none one changed now is e).0 (ap (λ l. slice_index_or l n false) old ∙ (ap (λ j. slice_index_or before j false) here ∙ un)))))
      (cases_lt k n);
  most = let le = m.most in omega (arith, le, now_more);
  more = λ e. ⊎_elim
      (λ f. let g = grows f in let le = m.most in omega (arith, g, le))
      (λ f. let lt = m.more f in omega (arith, lt, now_more))
      (or_some one changed now is e);
}
  where
    now_more : marked after ≤ marked more
    now_more = grown one (marked after) (marked more) grows (λ e. ap marked (same e))

pub all_stuck : (A : Automaton) (q : ℕ) (b : Tok) (before after : List Bool) (n : ℕ) (changed : Bool) → Marking A q b before after n changed → length before ≤ n → changed ≡ false
    → AreStuck A q b after
all_stuck A q b before after n changed m le e = subst (AreStuck A q b) (sym (m.same e)) (record { each = λ k lt un. m.stuck e k (omega (arith, lt, le)) un })

unmarked_at : (n k : ℕ) → slice_index_or (replicate n false) k false ≡ true → ⊥
unmarked_at zero k m = false_true m
unmarked_at (suc n) zero m = false_true m
unmarked_at (suc n) (suc k) m = unmarked_at n k m

pub none_calm : (A : Automaton) (q n : ℕ) (b : Tok) (marks : List Bool) → marks ≡ replicate n false → AreCalm A q b marks
none_calm A q n b marks e = record { each = λ k m. absurd (unmarked_at n k (subst (λ l. slice_index_or l k false ≡ true) e m)) }

pub length_replicate : (n : ℕ) → length (replicate n false) ≡ n
length_replicate zero = refl
length_replicate (suc n) = ap suc (length_replicate n)

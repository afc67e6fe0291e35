-- The automaton of tables is that of the description's rules.
use Rattle.std.proofs.Common.{◌≡◌, ◌⊎◌, ℕ, zero, suc, ◌+◌, List, [], ◌∷◌, ◌++◌, Option, Some, None, Contains, length, get_or, map, drop, slice_get, refl, sym, ap, ◌∙◌}
use Rattle.std.proofs.Common.{Bool, true, false, subst, inl, inr, ⊎_elim, arith}
use Rattle.std.specs.Prelude.{AllPairs, ◌==◌, if◌then◌else◌}
use Rattle.std.proofs.lemmas.Option.{slice_get_within, slice_get-get_or, get_or_from_slice_get, same_Some, none-some}
use Rattle.std.proofs.lemmas.Bool.{eqb-true}
use Rattle.tree_core.specs.declared.token.Tok.{Tok}
use Rattle.tree_core.specs.declared.token.Tok.TheVariants as tok
use Rattle.md_reader.specs.declared.types.Rule.{Rule}
use Rattle.md_reader.specs.declared.types.Sym.{Sym}
use Rattle.md_reader.specs.declared.types.Sym.TheVariants as grammar_symbol
use Rattle.md_reader.specs.State.{Content}
use Rattle.lr_tables.specs.declared.item.Item.{Item}
use Rattle.lr_tables.specs.declared.types.Choice.{Choice}
use Rattle.lr_tables.specs.declared.types.Choice.TheVariants as choice
use Rattle.lr_tables.specs.Items.{right_at, right_of}
use Rattle.lr_tables.specs.Grammar.{IsGrammar}
use Rattle.lr_tables.specs.View.{RowView, TableView}
use Rattle.lr_tables.specs.Built.{IsRows}
use Rattle.lr_tables.specs.Leads.{Leads, nowhere, further}
use Rattle.lr_tables.specs.Candidates.{StandsBefore, MayReduce, GoesFirst, Candidates, accepts, shifts, reduces}
use Rattle.lr_tables.specs.Candidates as tables
use Rattle.lr_tables.proofs.Members.{In, In-Contains}
use Rattle.lr_check_sets.specs.Automaton.{Production, Candidate, reduce, walk, go_from, size_of}
use Rattle.lr_check_sets.specs.Items as model
use Rattle.lr_check_sets.specs.Items.{AreCandidates, the_shift, the_reductions, AreReductions, IsLongestFirst}
use Rattle.lr_check_sets.specs.Table.{production, productions, reduced_by, candidates_of, automaton_of}
use Rattle.lr_check_sets.proofs.Links.{drop_whole, is_next, is_rest, is_of, in_productions, to, from}

-- the productions of rules by number
abbrev pub rule_of : Option Rule → List Production
rule_of None = []
rule_of (Some r) = production r ∷ []

abbrev pub rules_of : List Rule → List ℕ → List Production
rules_of rules [] = []
rules_of rules (n ∷ ns) = rule_of (slice_get rules n) ++ rules_of rules ns

pub candidates_are : (rules : List Rule) (ns : List ℕ) → candidates_of rules (map choice.Reduce ns) ≡ map reduce (rules_of rules ns)
candidates_are rules [] = refl
candidates_are rules (n ∷ ns) = by (slice_get rules n) (candidates_are rules ns)
  where
    by : (o : Option Rule) → candidates_of rules (map choice.Reduce ns) ≡ map reduce (rules_of rules ns) →
        reduced_by o ++ candidates_of rules (map choice.Reduce ns) ≡ map reduce (rule_of o ++ rules_of rules ns)
    by None e = e
    by (Some r) e = ap (λ (l : List Candidate). reduce (production r) ∷ l) e

pub is_first : (rules : List Rule) (n : ℕ) (r : Rule) → slice_get rules n ≡ Some r → (ns : List ℕ) → rules_of rules (n ∷ ns) ≡ production r ∷ rules_of rules ns
is_first rules n r e ns = ap (λ (o : Option Rule). rule_of o ++ rules_of rules ns) e

pub asks_more : (r : Rule) (j : ℕ) → length r.restrictions ≡ suc j → (production r).asks ≡ true
asks_more r j f = by (length r.restrictions == 0) refl
  where
    by : (b : Bool) → (length r.restrictions == 0) ≡ b → (if b then false else true) ≡ true
    by true e = absurd (let z = eqb-true (length r.restrictions) 0 e in omega (arith, z, f))
    by false e = refl

-- a production of the list, with its rule's number at the same place
record At (rules : List Rule) (ns : List ℕ) (i : ℕ) (r : Production) : Type 0 where
  number : ℕ
  rule : Rule
  at : slice_get ns i ≡ Some number
  there : slice_get rules number ≡ Some rule
  is : r ≡ production rule

at_place : (rules : List Rule) (ns : List ℕ) → ((n : ℕ) → In n ns → (r : Rule) × (slice_get rules n ≡ Some r)) → (i : ℕ) (r : Production) →
    slice_get (rules_of rules ns) i ≡ Some r → At rules ns i r
at_place rules [] all zero r e = absurd (none-some r e)
at_place rules [] all (suc i) r e = absurd (none-some r e)
at_place rules (n ∷ ns) all i r e = by i (all n (inl refl)) (λ j h. at_place rules ns (λ m k. all m (inr k)) j r h) e
  where
    by : (i : ℕ) → (q : Rule) × (slice_get rules n ≡ Some q) → ((j : ℕ) → slice_get (rules_of rules ns) j ≡ Some r → At rules ns j r) →
        slice_get (rule_of (slice_get rules n) ++ rules_of rules ns) i ≡ Some r → At rules (n ∷ ns) i r
    by zero q ih h =
        let here : slice_get (rule_of (Some q.0) ++ rules_of rules ns) 0 ≡ Some r = sym (ap (λ (o : Option Rule). slice_get (rule_of o ++ rules_of rules ns) 0) q.1) ∙ h in
        record { number = n; rule = q.0; at = refl; there = q.1; is = sym (same_Some (production q.0) r here) }
    by (suc j) q ih h =
        let here : slice_get (rule_of (Some q.0) ++ rules_of rules ns) (suc j) ≡ Some r = sym (ap (λ (o : Option Rule). slice_get (rule_of o ++ rules_of rules ns) (suc j)) q.1) ∙ h in
        let a = ih j here in
        record { number = a.number; rule = a.rule; at = a.at; there = a.there; is = a.is }

longest_first : (rules : List Rule) (stmt : ℕ) (ns : List ℕ) → ((n : ℕ) → In n ns → (r : Rule) × (slice_get rules n ≡ Some r)) → AllPairs (GoesFirst rules stmt) ns →
    IsLongestFirst (rules_of rules ns)
longest_first rules stmt ns all pairs i j r s lt er es less =
    let p = at_place rules ns all i r er in
    let q = at_place rules ns all j s es in
    let first = subst (λ (n : ℕ). GoesFirst rules stmt n q.number) (get_or_from_slice_get ns i p.number p.number p.at)
    (subst (λ (n : ℕ). GoesFirst rules stmt (get_or ns i p.number) n) (get_or_from_slice_get ns j q.number p.number q.at) (pairs i j p.number lt (slice_get_within ns j q.number q.at))) in
    let sp : size_of r ≡ length p.rule.right = ap size_of p.is in
    let sq : size_of s ≡ length q.rule.right = ap size_of q.is in
    let rp : length (right_of rules stmt (Some p.number)) ≡ length p.rule.right = ap (λ (o : Option Rule). length (right_at o)) p.there in
    let rq : length (right_of rules stmt (Some q.number)) ≡ length q.rule.right = ap (λ (o : Option Rule). length (right_at o)) q.there in
    ⊎_elim (λ more. omega (arith, more, sp, sq, rp, rq, less)) (λ x. let same = x.0 in omega (arith, same, sp, sq, rp, rq, less)) first

pub slice_at : {X : Type 0} (xs : List X) (x : X) (m : Contains xs x) → slice_get xs m.0 ≡ Some x
slice_at xs x m = slice_get-get_or xs m.0 x m.1 ∙ ap Some m.2

pub at_contains : {X : Type 0} (xs : List X) (k : ℕ) (x : X) → slice_get xs k ≡ Some x → Contains xs x
at_contains xs k x e = (k, slice_get_within xs k x e, get_or_from_slice_get xs k x x e)

module _ (rules : List Rule) (stmt classes : ℕ) (g : IsGrammar rules stmt classes) (content : Content) (rows : List RowView) (b : IsRows rules stmt classes rows) where
  -- an item before a symbol, over productions
  pub item_before : {a : List Sym} {X : Sym} → StandsBefore rules stmt a X → (r : Production) × ((after : List Sym) × model.Item (productions rules) stmt a r (X ∷ after))
  item_before {a = a} {X = X} s =
      let f = from rules stmt s.valid in
      let w : (after : List Sym) × (f.rest ≡ X ∷ after) = is_rest rules stmt X f.is s.before in
      (f.rule, (w.0, subst (model.Item (productions rules) stmt a f.rule) w.1 f.item))

  pub stands : {a : List Sym} {X : Sym} {r : Production} {after : List Sym} → model.Item (productions rules) stmt a r (X ∷ after) → StandsBefore rules stmt a X
  stands i = let j = to rules stmt i in record { item = j.item; valid = j.there; before = is_next rules stmt j.is }

  complete_item : {a : List Sym} {t : Tok} (n : ℕ) (r : Rule) → MayReduce rules stmt a t n → slice_get rules n ≡ Some r →
      model.Item (productions rules) stmt a (production r) [] × Contains (productions rules) (production r)
  complete_item {a = a} n r m e =
      let f = from rules stmt m.complete in
      let o : (f.rule ≡ production m.rule) × (f.rest ≡ drop (length m.rule.right) m.rule.right) = is_of rules stmt n m.rule f.is refl m.there in
      let same : m.rule ≡ r = same_Some m.rule r (sym m.there ∙ e) in
      let here : model.Item (productions rules) stmt a (production m.rule) [] =
      subst (model.Item (productions rules) stmt a (production m.rule)) (o.1 ∙ drop_whole m.rule.right) (subst (λ (p : Production). model.Item (productions rules) stmt a p f.rest) o.0 f.item) in
      (subst (λ (q : Rule). model.Item (productions rules) stmt a (production q) []) same here, in_productions rules stmt n r e)

  are_reductions : (a : List Sym) (t : Tok) (ns : List ℕ) → tables.AreReductions rules stmt a t ns → AreReductions (productions rules) stmt a (rules_of rules ns)
  are_reductions a t ns ar = record {
    ordered = longest_first rules stmt ns all ar.ordered;
    each = λ r m. each r m;
  }
    where
      all : (n : ℕ) → In n ns → (r : Rule) × (slice_get rules n ≡ Some r)
      all n k = let m : MayReduce rules stmt a t n = (ar.exactly n).0 (In-Contains n ns k) in (m.rule, m.there)

      each : (r : Production) → Contains (rules_of rules ns) r → model.Item (productions rules) stmt a r [] × Contains (productions rules) r
      each r m =
          let p = at_place rules ns all m.0 r (slice_at (rules_of rules ns) r m) in
          let may : MayReduce rules stmt a t p.number = (ar.exactly p.number).0 (at_contains ns m.0 p.number p.at) in
          subst (λ (x : Production). model.Item (productions rules) stmt a x [] × Contains (productions rules) x) (sym p.is) (complete_item p.number p.rule may p.there)

  pub are_candidates : (a : List Sym) (q : ℕ) (t : Tok) (cs : List Choice) → Candidates rules stmt (record { content = content; rows = rows }) a t cs →
      AreCandidates (productions rules) stmt a t (candidates_of rules cs)
  are_candidates a q t cs (accepts s e) = let i = item_before s in the_shift i.0 i.1.1
  are_candidates a q t cs (shifts s ne l) = let i = item_before s in the_shift i.0 i.1.1
  are_candidates a q t cs (reduces ns none ar e) =
      subst (λ (l : List Choice). AreCandidates (productions rules) stmt a t (candidates_of rules l)) (sym e)
      (the_reductions (rules_of rules ns) (λ r after i. none (stands i)) (are_reductions a t ns ar) (candidates_are rules ns))

-- a walk from the start is a stack that leads to the state
module _ (t : TableView) where
  pub leads : (a : List Sym) (p : ℕ) → walk (automaton_of t) 0 a ≡ Some p → Leads t a p
  leads [] p e = subst (Leads t []) (same_Some 0 p e) nowhere
  leads (X ∷ a) p e = by (λ q f. leads a q f) (walk (automaton_of t) 0 a) refl e
    where
      by : ((q : ℕ) → walk (automaton_of t) 0 a ≡ Some q → Leads t a q) → (o : Option ℕ) → walk (automaton_of t) 0 a ≡ o → go_from (automaton_of t) o X ≡ Some p → Leads t (X ∷ a) p
      by ih None f h = absurd (none-some p h)
      by ih (Some q) f h = further (ih q f) h

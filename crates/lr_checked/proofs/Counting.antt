-- The parse of a typed statement makes no more moves than its tokens times the classes and two.
use Rattle.std.proofs.Common.{◌≡◌, ℕ, suc, ◌-◌, ◌≤◌, List, [], ◌∷◌, Option, Some, length, map, drop, slice_get, refl, sym, ap, ◌∙◌, subst, inl, inr, arith}
use Rattle.std.proofs.lemmas.List.{drop-map}
use Rattle.std.proofs.lemmas.Option.{same_Some, none-some}
use Rattle.gg_base.proofs.Facts.{head_same, tail_same}
use Rattle.tree_core.specs.declared.token.Tok.{Tok}
use Rattle.tree_core.specs.declared.token.Tok.TheVariants as tok
use Rattle.md_reader.specs.declared.types.Rule.{Rule}
use Rattle.md_reader.specs.declared.types.Sym.{Sym}
use Rattle.md_reader.specs.declared.types.Sym.TheVariants as grammar_symbol
use Rattle.md_reader.specs.Valid.{IsValid}
use Rattle.lr_tables.specs.declared.types.Choice.{Choice}
use Rattle.lr_tables.specs.Statements.{stmt_of}
use Rattle.lr_tables.specs.View.{TableView}
use Rattle.lr_tables.specs.Promises.{IsNumbered}
use Rattle.lr_tables.specs.Leads.{actions_at}
use Rattle.lr_tables.specs.Candidates.{StandsBefore, AreReductions, Candidates, accepts, shifts, reduces}
use Rattle.lr_tables.proofs.Law.{candidates, leads_on}
use Rattle.lr_tables.proofs.Validity.{is_grammar}
use Rattle.lr_check_found.specs.lr_check_sets.specs.Automaton as model
use Rattle.lr_check_found.specs.lr_check_sets.specs.Automaton.{shift, reduce, walk, Free, IsTable}
use Rattle.lr_check_found.specs.lr_check_sets.specs.Bound.{Within, accepted, steps}
use Rattle.lr_check_found.specs.lr_check_sets.specs.Table.{production, productions, candidates_of, candidates_at, automaton_of}
use Rattle.lr_check_found.specs.lr_check_sets.specs.Exact.{MeetsLaws}
use Rattle.lr_check_found.specs.lr_check_sets.proofs.Rows.{rules_of, candidates_are, leads, is_first, asks_more}
use Rattle.lr_check_found.specs.lr_check_sets.proofs.Tables.{table_of_items}
use Rattle.lr_check_found.specs.lr_check_sets.proofs.Meeting.{tables_meet_laws}
use Rattle.lr_check.specs.declared.sample.Outcome.{Outcome}
use Rattle.lr_check.specs.Tree.{Token}
use Rattle.lr_check.specs.Parse as parse
use Rattle.lr_check.specs.Parse.{Part, symbols, coming, Takes, nothing, unrestricted, answered_yes, answered_no, Reduction, Ends}
use Rattle.lr_check.proofs.Only.{reductions_same, not_shifted}
use Rattle.lr_check.proofs.Parts.{symbols_used}
use Rattle.lr_check_law.proofs.Law.{toks, coming-is}
use Rattle.lr_checked.specs.Accepted.{moves}

module _ (rules : List Rule) where
  same_rule : (m n : ℕ) (q r : Rule) → slice_get rules m ≡ Some q → Some m ≡ Some n → slice_get rules n ≡ Some r → r ≡ q
  same_rule m n q r at e there = same_Some r q (sym there ∙ (ap (slice_get rules) (sym (same_Some m n e)) ∙ at))

  free_first : (m n : ℕ) (ns : List ℕ) (q r : Rule) → slice_get rules m ≡ Some q → Some m ≡ Some n → slice_get rules n ≡ Some r →
      Free (map reduce (rules_of rules (m ∷ ns))) (reduce (production r))
  free_first m n ns q r at e there =
      subst (λ l. Free (map reduce l) (reduce (production r))) (sym (is_first rules m q at ns))
      (inl (ap (λ (x : Rule). reduce (production x)) (same_rule m n q r at e there)))

  -- the rule that is taken is a free candidate
  takes_free : {s u : List Part} {ns : List ℕ} {o : Option ℕ} → Takes rules s ns o u → (n : ℕ) (r : Rule) → o ≡ Some n → slice_get rules n ≡ Some r →
      Free (map reduce (rules_of rules ns)) (reduce (production r))
  takes_free nothing n r e there = absurd (none-some n e)
  takes_free (unrestricted {n = m} {ns = ns} q at z) n r e there = free_first m n ns q r at e there
  takes_free (answered_yes {n = m} {ns = ns} q at lt said) n r e there = free_first m n ns q r at e there
  takes_free (answered_no {n = m} {ns = ns} q at lt said more) n r e there =
      subst (λ l. Free (map reduce l) (reduce (production r))) (sym (is_first rules m q at ns))
      (inr (asks_more q (length q.restrictions - 1) (omega (arith, lt)), takes_free more n r e there))

  -- questions leave the symbols
  takes_symbols : {s u : List Part} {ns : List ℕ} {o : Option ℕ} → Takes rules s ns o u → symbols u ≡ symbols s
  takes_symbols nothing = refl
  takes_symbols (unrestricted q at z) = refl
  takes_symbols (answered_yes {s = s} q at lt said) = symbols_used (length q.right - 1) s
  takes_symbols (answered_no {s = s} q at lt said more) = takes_symbols more ∙ symbols_used (length q.right - 1) s

module _ (t : TableView) (v : IsValid t.content) (b : IsNumbered t) where
  laws : MeetsLaws t
  laws = tables_meet_laws t v b

  table : IsTable (automaton_of t)
  table = table_of_items (productions t.content.rules) (automaton_of t) laws.no_end laws.no_empty laws.exact

  shift_candidates : (a : List Sym) (p : ℕ) (k : Tok) → walk (automaton_of t) 0 a ≡ Some p → StandsBefore t.content.rules (stmt_of t.content.classes) a (grammar_symbol.Tok k) →
      (automaton_of t).candidates p k ≡ shift ∷ []
  shift_candidates a p k here sb =
      let on = leads_on t.content.rules (stmt_of t.content.classes) (length t.content.classes) (is_grammar t.content v) t.content t.rows b a p (grammar_symbol.Tok k) (leads t a p here) sb in
      table.shift_alone a p k on.0 here on.1

  reduce_candidates : (a : List Sym) (p : ℕ) (k : Tok) (ns : List ℕ) → walk (automaton_of t) 0 a ≡ Some p → (StandsBefore t.content.rules (stmt_of t.content.classes) a (grammar_symbol.Tok k) → ⊥) →
      AreReductions t.content.rules (stmt_of t.content.classes) a k ns → (automaton_of t).candidates p k ≡ map reduce (rules_of t.content.rules ns)
  unfolding candidates_at
  reduce_candidates a p k ns here refused ar =
      by (actions_at t p k)
      (candidates t.content.rules (stmt_of t.content.classes) (length t.content.classes) (is_grammar t.content v) t.content t.rows b a p k (leads t a p here))
    where
      by : (cs : List Choice) → Candidates t.content.rules (stmt_of t.content.classes) t a k cs → candidates_of t.content.rules cs ≡ map reduce (rules_of t.content.rules ns)
      by cs (accepts sb ee) = absurd (refused sb)
      by cs (shifts sb no_end l) = absurd (refused sb)
      by cs (reduces ms none is ee) =
          let same : ms ≡ ns = reductions_same t.content.rules (stmt_of t.content.classes) a k ms ns is ar in
          ap (candidates_of t.content.rules) ee ∙ (candidates_are t.content.rules ms ∙ ap (λ (l : List ℕ). map reduce (rules_of t.content.rules l)) same)

  shift_counted : {n : ℕ} {a : List Sym} {u : List Tok} → Within (automaton_of t) n a u → (f : Token) (ws : List Token) (s : List Part) → toks (f ∷ ws) ≡ u → symbols s ≡ a →
      (f.tok ≡ tok.End → ⊥) → StandsBefore t.content.rules (stmt_of t.content.classes) (symbols s) (grammar_symbol.Tok f.tok) → (d : ℕ) →
      ((m : ℕ) (c : List Sym) (z : List Tok) → Within (automaton_of t) m c z → toks ws ≡ z → grammar_symbol.Tok f.tok ∷ symbols s ≡ c → d ≤ m) → suc d ≤ n
  shift_counted accepted f ws s g q ne sb d ih = absurd (ne (head_same f.tok tok.End (toks ws) [] g))
  shift_counted (steps {n = m} {a = a} {t = k} {w = z} {p = p} here nb h) f ws s g q ne sb d ih =
      let first : f.tok ≡ k = head_same f.tok k (toks ws) z g in
      let stands : StandsBefore t.content.rules (stmt_of t.content.classes) a (grammar_symbol.Tok k) =
      subst (λ y. StandsBefore t.content.rules (stmt_of t.content.classes) y (grammar_symbol.Tok k)) q
      (subst (λ y. StandsBefore t.content.rules (stmt_of t.content.classes) (symbols s) (grammar_symbol.Tok y)) first sb) in
      let free : Free ((automaton_of t).candidates p k) shift = subst (λ l. Free l shift) (sym (shift_candidates a p k here stands)) refl in
      let top : grammar_symbol.Tok f.tok ∷ symbols s ≡ grammar_symbol.Tok k ∷ a = ap (λ y. grammar_symbol.Tok y ∷ symbols s) first ∙ ap (λ y. grammar_symbol.Tok k ∷ y) q in
      let le : d ≤ m = ih m (grammar_symbol.Tok k ∷ a) z (h shift free) (tail_same f.tok k (toks ws) z g) top in
      omega (arith, le)

  reduce_counted : {n : ℕ} {a : List Sym} {u : List Tok} → Within (automaton_of t) n a u → (ws : List Token) (s s' : List Part) (i : ℕ) (r : Rule) → toks ws ≡ u → symbols s ≡ a →
      Reduction t.content.rules (stmt_of t.content.classes) ws s (Some i) s' → slice_get t.content.rules i ≡ Some r → (d : ℕ) →
      ((m : ℕ) (c : List Sym) (z : List Tok) → Within (automaton_of t) m c z → toks ws ≡ z → symbols (parse.reduced s' r) ≡ c → d ≤ m) → suc d ≤ n
  reduce_counted accepted ws s s' i r g q red there d ih = absurd (not_shifted t.content.rules (stmt_of t.content.classes) red q (coming-is ws tok.End [] g))
  reduce_counted (steps {n = m} {a = a} {t = k} {w = z} {p = p} here nb h) ws s s' i r g q red there d ih =
      let next : coming ws ≡ k = coming-is ws k z g in
      let refused : StandsBefore t.content.rules (stmt_of t.content.classes) a (grammar_symbol.Tok k) → ⊥ =
      λ sb. red.no_shift (subst (λ y. StandsBefore t.content.rules (stmt_of t.content.classes) y (grammar_symbol.Tok (coming ws))) (sym q)
      (subst (λ y. StandsBefore t.content.rules (stmt_of t.content.classes) a (grammar_symbol.Tok y)) (sym next) sb)) in
      let order : AreReductions t.content.rules (stmt_of t.content.classes) a k red.candidates =
      subst (λ y. AreReductions t.content.rules (stmt_of t.content.classes) a y red.candidates) next
      (subst (λ y. AreReductions t.content.rules (stmt_of t.content.classes) y (coming ws) red.candidates) q red.in_order) in
      let free : Free ((automaton_of t).candidates p k) (reduce (production r)) =
      subst (λ l. Free l (reduce (production r))) (sym (reduce_candidates a p k red.candidates here refused order)) (takes_free t.content.rules red.takes i r refl there) in
      let stack : symbols (parse.reduced s' r) ≡ model.reduced (production r) a =
      ap (λ l. grammar_symbol.Class r.left ∷ l) (sym (drop-map (λ (x : Part). x.symbol) (length r.right) s') ∙ ap (drop (length r.right)) (takes_symbols t.content.rules red.takes ∙ q)) in
      let le : d ≤ m = ih m (model.reduced (production r) a) (k ∷ z) (h (reduce (production r)) free) g stack in
      omega (arith, le)

  -- whatever the end
  pub counted : {at : ℕ} {before : List (List Sym)} {ws : List Token} {s : List Part} {o : Outcome} (e : Ends t.content.rules (stmt_of t.content.classes) at before ws s o) →
      (n : ℕ) (a : List Sym) (u : List Tok) → Within (automaton_of t) n a u → toks ws ≡ u → symbols s ≡ a → moves e ≤ n
  counted (parse.loops h) n a u w g q = omega arith
  counted (parse.accepts new e f) n a u w g q = omega arith
  counted (parse.blocks new red) n a u w g q = omega arith
  counted (parse.shifts {w = f} {ws = ws} {s = s} new ne sb x) n a u w g q = shift_counted w f ws s g q ne sb (moves x) (λ m c z i h j. counted x m c z i h j)
  counted (parse.reduces {n = i} {ws = ws} {s = s} {s' = s'} r new red there x) n a u w g q =
      reduce_counted w ws s s' i r g q red there (moves x) (λ m c z i h j. counted x m c z i h j)

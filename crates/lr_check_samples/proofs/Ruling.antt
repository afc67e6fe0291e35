-- The automaton's steps are the moves over the rules.
use Rattle.std.proofs.Common.{◌≡◌, ℕ, zero, suc, ◌-◌, ◌<◌, List, [], ◌∷◌, Option, Some, None, Bool, true, false, length, map, drop, slice_get, refl, sym, ap, ap₂, ◌∙◌, subst, inl, inr, arith}
use Rattle.std.specs.Prelude.{◌==◌, if◌then◌else◌}
use Rattle.std.proofs.lemmas.Bool.{true≢false}
use Rattle.std.proofs.lemmas.Option.{same_Some, none-some}
use Rattle.gg_base.proofs.Facts.{some_none}
use Rattle.tree_core.specs.declared.token.Tok.{Tok}
use Rattle.tree_core.specs.declared.token.Tok.TheVariants as tok
use Rattle.md_reader.specs.declared.types.Rule.{Rule}
use Rattle.md_reader.specs.declared.types.Sym.{Sym}
use Rattle.md_reader.specs.declared.types.Sym.TheVariants as grammar_symbol
use Rattle.md_reader.specs.Valid.{IsValid}
use Rattle.lr_tables.specs.declared.types.Choice.{Choice}
use Rattle.lr_tables.specs.View.{TableView}
use Rattle.lr_tables.specs.Statements.{stmt_of}
use Rattle.lr_tables.specs.Promises.{IsNumbered}
use Rattle.lr_tables.specs.Leads.{actions_at}
use Rattle.lr_tables.specs.Candidates.{StandsBefore, AreReductions, Candidates, accepts, shifts, reduces}
use Rattle.lr_tables.proofs.Members.{In, In-Contains}
use Rattle.lr_tables.proofs.Law.{candidates}
use Rattle.lr_tables.proofs.Validity.{is_grammar}
use Rattle.lr_check_sets.specs.Automaton.{Production, Candidate, shift, reduce, walk}
use Rattle.lr_check_sets.specs.Table.{production, candidates_of, candidates_at, automaton_of}
use Rattle.lr_check_sets.specs.Exact.{MeetsLaws}
use Rattle.lr_check_sets.specs.Answers as auto
use Rattle.lr_check_sets.specs.Answers.{Picked, owner, pick_by, pick, held_reduced}
use Rattle.lr_check_sets.proofs.Links.{in_productions}
use Rattle.lr_check_sets.proofs.Rows.{rules_of, candidates_are, leads, is_first, asks_more}
use Rattle.lr_check_sets.proofs.Asks.{by_no, by_none}
use Rattle.lr_check.specs.Tree.{Token}
use Rattle.lr_check.specs.Parse as parse
use Rattle.lr_check.specs.Parse.{Part, symbols, coming, answer, answers_at, owner_answers, used_at, asked, Takes, reduced, Reduction}
use Rattle.lr_check_samples.specs.Stops.{Moves, by_shift, by_rule}

owner-at : (X : Sym) (right : List Sym) (a : List Part) → answers_at a (length right) ≡ owner (X ∷ right) a
owner-at X right [] = refl
owner-at X [] (h ∷ a) = refl
owner-at X (Y ∷ right) (h ∷ a) = owner-at Y right a

asked-at : (X : Sym) (right : List Sym) (a : List Part) → used_at (length right) a ≡ auto.asked (X ∷ right) a
asked-at X right [] = refl
asked-at X [] (h ∷ a) = refl
asked-at X (Y ∷ right) (h ∷ a) = ap (λ l. h ∷ l) (asked-at Y right a)

owner-rule : (r : Rule) (a : List Part) → 0 < length r.right → owner_answers a r ≡ owner r.right a
owner-rule r a some = by r.right refl some
  where
    by : (right : List Sym) → r.right ≡ right → 0 < length right → answers_at a (length r.right - 1) ≡ owner r.right a
    by [] e lt = absurd (omega (arith, lt))
    by (X ∷ right) e lt = ap (λ l. answers_at a (length l - 1)) e ∙ (ap (answers_at a) (omega arith) ∙ (owner-at X right a ∙ ap (λ l. owner l a) (sym e)))

asked-rule : (r : Rule) (a : List Part) → 0 < length r.right → asked a r ≡ auto.asked r.right a
asked-rule r a some = by r.right refl some
  where
    by : (right : List Sym) → r.right ≡ right → 0 < length right → used_at (length r.right - 1) a ≡ auto.asked r.right a
    by [] e lt = absurd (omega (arith, lt))
    by (X ∷ right) e lt = ap (λ l. used_at (length l - 1) a) e ∙ (ap (λ n. used_at n a) (omega arith) ∙ (asked-at X right a ∙ ap (λ l. auto.asked l a) (sym e)))

reduced-rule : (r : Rule) (a : List Part) → 0 < length r.right → reduced a r ≡ held_reduced (production r) a
reduced-rule r a some = ap (λ (bs : List Bool). record { symbol = grammar_symbol.Class r.left; answers = bs } ∷ drop (length r.right) a) (owner-rule r a some)

-- what is by_none of the reductions is what is taken of the rules
record Picks (rules : List Rule) (ns : List ℕ) (a : List Part) : Type 0 where
  taken : Option ℕ
  after : List Part
  takes : Takes rules a ns taken after
  nothing : taken ≡ None → pick (map reduce (rules_of rules ns)) a ≡ record { taken = None; stack = after }
  rule : (n : ℕ) → taken ≡ Some n → (r : Rule) × ((slice_get rules n ≡ Some r) × (pick (map reduce (rules_of rules ns)) a ≡ record { taken = Some (reduce (production r)); stack = after }))

picked_yes : (asks said : Bool) (r : Production) (a b : List Part) (rest : Picked) → asks ≡ true → said ≡ true → pick_by asks said r a b rest ≡ record { taken = Some (reduce r); stack = b }
picked_yes false said r a b rest e f = absurd (true≢false (sym e))
picked_yes true false r a b rest e f = absurd (true≢false (sym f))
picked_yes true true r a b rest e f = refl

module _ (rules : List Rule) where
  asks_none : (r : Rule) → length r.restrictions ≡ 0 → (production r).asks ≡ false
  asks_none r e = ap (λ n. if n == 0 then false else true) e

  picks_as : (n : ℕ) (ns : List ℕ) (r : Rule) (a : List Part) (p : Picked) → slice_get rules n ≡ Some r → pick (reduce (production r) ∷ map reduce (rules_of rules ns)) a ≡ p →
      pick (map reduce (rules_of rules (n ∷ ns))) a ≡ p
  picks_as n ns r a p e h = ap (λ l. pick (map reduce l) a) (is_first rules n r e ns) ∙ h

  taken_first : (n : ℕ) (ns : List ℕ) (r : Rule) (a b : List Part) → slice_get rules n ≡ Some r → Takes rules a (n ∷ ns) (Some n) b →
      pick (reduce (production r) ∷ map reduce (rules_of rules ns)) a ≡ record { taken = Some (reduce (production r)); stack = b } → Picks rules (n ∷ ns) a
  taken_first n ns r a b e t h = record {
    taken = Some n;
    after = b;
    takes = t;
    nothing = λ u. absurd (some_none n u);
    rule = λ m u. (r, (subst (λ x. slice_get rules x ≡ Some r) (same_Some n m u) e, picks_as n ns r a (record { taken = Some (reduce (production r)); stack = b }) e h));
  }

  taken_later : (n : ℕ) (ns : List ℕ) (r : Rule) (a : List Part) → slice_get rules n ≡ Some r → 0 < length r.right → 0 < length r.restrictions → (production r).asks ≡ true →
      answer (owner_answers a r) ≡ false → Picks rules ns (auto.asked r.right a) → Picks rules (n ∷ ns) a
  taken_later n ns r a e some lt asks said p =
      let on : pick (reduce (production r) ∷ map reduce (rules_of rules ns)) a ≡ pick (map reduce (rules_of rules ns)) (auto.asked r.right a) =
      by_no (production r).asks (answer (owner r.right a)) (production r) a (auto.asked r.right a) (pick (map reduce (rules_of rules ns)) (auto.asked r.right a)) asks
      (ap answer (sym (owner-rule r a some)) ∙ said) in
      record {
        taken = p.taken;
        after = p.after;
        takes = parse.answered_no r e lt said (subst (λ l. Takes rules l ns p.taken p.after) (sym (asked-rule r a some)) p.takes);
        nothing = λ u. picks_as n ns r a (record { taken = None; stack = p.after }) e (on ∙ p.nothing u);
        rule = λ m u. let k = p.rule m u in (k.0, (k.1.0, picks_as n ns r a (record { taken = Some (reduce (production k.0)); stack = p.after }) e (on ∙ k.1.1)));
      }

  picks : (ns : List ℕ) → ((n : ℕ) → In n ns → (r : Rule) × ((slice_get rules n ≡ Some r) × (0 < length r.right))) → (a : List Part) → Picks rules ns a
  picks [] all a = record { taken = None; after = a; takes = parse.nothing; nothing = λ u. refl; rule = λ n u. absurd (some_none n (sym u)) }
  picks (n ∷ ns) all a = by (all n (inl refl)) (λ z. picks ns (λ m k. all m (inr k)) z)
    where
      by_answer : (r : Rule) → slice_get rules n ≡ Some r → 0 < length r.right → 0 < length r.restrictions → (production r).asks ≡ true → (b : Bool) → answer (owner_answers a r) ≡ b →
          ((z : List Part) → Picks rules ns z) → Picks rules (n ∷ ns) a
      by_answer r e some lt asks true said ih =
          taken_first n ns r a (auto.asked r.right a) e
          (subst (λ l. Takes rules a (n ∷ ns) (Some n) l) (asked-rule r a some) (parse.answered_yes r e lt said))
          (picked_yes (production r).asks (answer (owner r.right a)) (production r) a (auto.asked r.right a) (pick (map reduce (rules_of rules ns)) (auto.asked r.right a)) asks
          (ap answer (sym (owner-rule r a some)) ∙ said))
      by_answer r e some lt asks false said ih = taken_later n ns r a e some lt asks said (ih (auto.asked r.right a))

      by_restrictions : (r : Rule) → slice_get rules n ≡ Some r → 0 < length r.right → (j : ℕ) → length r.restrictions ≡ j → ((z : List Part) → Picks rules ns z) → Picks rules (n ∷ ns) a
      by_restrictions r e some zero f ih =
          taken_first n ns r a a e (parse.unrestricted r e f)
          (by_none (production r).asks (answer (owner r.right a)) (production r) a (auto.asked r.right a) (pick (map reduce (rules_of rules ns)) (auto.asked r.right a)) (asks_none r f))
      by_restrictions r e some (suc j) f ih = by_answer r e some (omega (arith, f)) (asks_more r j f) (answer (owner_answers a r)) refl ih

      by : (r : Rule) × ((slice_get rules n ≡ Some r) × (0 < length r.right)) → ((z : List Part) → Picks rules ns z) → Picks rules (n ∷ ns) a
      by r ih = by_restrictions r.0 r.1.0 r.1.1 (length r.0.restrictions) refl ih

taken_same : (o : Option Candidate) (p : Picked) (b : List Part) → p ≡ record { taken = o; stack = b } → p.taken ≡ o
taken_same o p b e = ap (λ (q : Picked). q.taken) e

stack_same : (o : Option Candidate) (p : Picked) (b : List Part) → p ≡ record { taken = o; stack = b } → p.stack ≡ b
stack_same o p b e = ap (λ (q : Picked). q.stack) e

module _ (t : TableView) (v : IsValid t.content) (b : IsNumbered t) (m : MeetsLaws t) where
  -- what may be done at a stack
  data Here (a : List Part) (k : Tok) (p : ℕ) : Type 0 where
    shift_here : StandsBefore t.content.rules (stmt_of t.content.classes) (symbols a) (grammar_symbol.Tok k) → candidates_at t p k ≡ shift ∷ [] → Here a k p
    reduce_here : (ns : List ℕ) → (StandsBefore t.content.rules (stmt_of t.content.classes) (symbols a) (grammar_symbol.Tok k) → ⊥) →
        AreReductions t.content.rules (stmt_of t.content.classes) (symbols a) k ns → candidates_at t p k ≡ map reduce (rules_of t.content.rules ns) → Here a k p

  here_so : (a : List Part) (k : Tok) (p : ℕ) → walk (automaton_of t) 0 (symbols a) ≡ Some p → Here a k p
  unfolding candidates_at
  here_so a k p at =
      by (actions_at t p k)
      (candidates t.content.rules (stmt_of t.content.classes) (length t.content.classes) (is_grammar t.content v) t.content t.rows b (symbols a) p k (leads t (symbols a) p at)) refl
    where
      by : (cs : List Choice) → Candidates t.content.rules (stmt_of t.content.classes) t (symbols a) k cs → candidates_at t p k ≡ candidates_of t.content.rules cs → Here a k p
      by cs (accepts sb ee) f = shift_here sb f
      by cs (shifts sb refused l) f = shift_here sb f
      by cs (reduces ns refused ar ee) f = reduce_here ns refused ar (f ∙ (ap (candidates_of t.content.rules) ee ∙ candidates_are t.content.rules ns))

  reductions_at : (a : List Part) (k : Tok) (ns : List ℕ) → AreReductions t.content.rules (stmt_of t.content.classes) (symbols a) k ns → Picks t.content.rules ns a
  reductions_at a k ns ar = picks t.content.rules ns (λ n c. let may = (ar.exactly n).0 (In-Contains n ns c) in
      (may.rule, (may.there, m.no_empty (production may.rule) (in_productions t.content.rules (stmt_of t.content.classes) n may.rule may.there)))) a

  reduction_of : (a : List Part) (ws : List Token) (ns : List ℕ) (o : Option ℕ) (c : List Part) →
      (StandsBefore t.content.rules (stmt_of t.content.classes) (symbols a) (grammar_symbol.Tok (coming ws)) → ⊥) →
      AreReductions t.content.rules (stmt_of t.content.classes) (symbols a) (coming ws) ns → Takes t.content.rules a ns o c →
      Reduction t.content.rules (stmt_of t.content.classes) ws a o c
  reduction_of a ws ns o c refused ar takes = record {
    no_shift = refused;
    candidates = ns;
    in_order = ar;
    takes = takes;
  }

  shift_only : (a c : List Part) (o : Option Candidate) → pick (shift ∷ []) a ≡ record { taken = o; stack = c } → (o ≡ Some shift) × (c ≡ a)
  shift_only a c o e = (sym (taken_same o (pick (shift ∷ []) a) c e), sym (stack_same o (pick (shift ∷ []) a) c e))

  -- a shift of another token than the end
  pub shift_moves : (a c : List Part) (p : ℕ) (l : Token) (ws : List Token) → (l.tok ≡ tok.End → ⊥) → walk (automaton_of t) 0 (symbols a) ≡ Some p →
      pick (candidates_at t p l.tok) a ≡ record { taken = Some shift; stack = c } →
      Moves t.content.rules (stmt_of t.content.classes) (l ∷ ws) a ws (record { symbol = grammar_symbol.Tok l.tok; answers = l.answers } ∷ c)
  shift_moves a c p l ws not_end at pk = by (here_so a l.tok p at)
    where
      by : Here a l.tok p → Moves t.content.rules (stmt_of t.content.classes) (l ∷ ws) a ws (record { symbol = grammar_symbol.Tok l.tok; answers = l.answers } ∷ c)
      by (shift_here sb e) =
          let only = shift_only a c (Some shift) (ap (λ cs. pick cs a) (sym e) ∙ pk) in
          subst (λ z. Moves t.content.rules (stmt_of t.content.classes) (l ∷ ws) a ws (record { symbol = grammar_symbol.Tok l.tok; answers = l.answers } ∷ z)) (sym only.1)
          (by_shift not_end sb)
      by (reduce_here ns refused ar e) = absurd (none (reductions_at a l.tok ns ar))
        where
          unlike : (r : Production) → Some (reduce r) ≡ Some shift → ⊥
          unlike r h = cc

          taken : pick (map reduce (rules_of t.content.rules ns)) a ≡ record { taken = Some shift; stack = c }
          taken = ap (λ cs. pick cs a) (sym e) ∙ pk

          none : Picks t.content.rules ns a → ⊥
          none k = by_taken k.taken refl
            where
              by_taken : (o : Option ℕ) → k.taken ≡ o → ⊥
              by_taken None u = none-some shift (ap (λ (q : Picked). q.taken) (sym (k.nothing u) ∙ taken))
              by_taken (Some n) u = let g = k.rule n u in unlike (production g.0) (ap (λ (q : Picked). q.taken) (sym g.1.1 ∙ taken))

  -- a reduction
  pub reduce_moves : (a c : List Part) (p : ℕ) (k : Tok) (ws : List Token) (r : Production) → coming ws ≡ k → walk (automaton_of t) 0 (symbols a) ≡ Some p →
      pick (candidates_at t p k) a ≡ record { taken = Some (reduce r); stack = c } → Moves t.content.rules (stmt_of t.content.classes) ws a ws (held_reduced r c)
  reduce_moves a c p k ws r next at pk = by (here_so a k p at)
    where
      unlike : Some (reduce r) ≡ Some shift → ⊥
      unlike h = cc

      same_rule : (q : Production) → Some (reduce q) ≡ Some (reduce r) → q ≡ r
      same_rule q h = cc

      by : Here a k p → Moves t.content.rules (stmt_of t.content.classes) ws a ws (held_reduced r c)
      by (shift_here sb e) = absurd (unlike (shift_only a c (Some (reduce r)) (ap (λ cs. pick cs a) (sym e) ∙ pk)).0)
      by (reduce_here ns refused ar e) = with_picks (reductions_at a k ns ar)
        where
          taken : pick (map reduce (rules_of t.content.rules ns)) a ≡ record { taken = Some (reduce r); stack = c }
          taken = ap (λ cs. pick cs a) (sym e) ∙ pk

          with_picks : Picks t.content.rules ns a → Moves t.content.rules (stmt_of t.content.classes) ws a ws (held_reduced r c)
          with_picks g = by_taken g.taken refl
            where
              by_taken : (o : Option ℕ) → g.taken ≡ o → Moves t.content.rules (stmt_of t.content.classes) ws a ws (held_reduced r c)
              by_taken None u = absurd (none-some (reduce r) (ap (λ (q : Picked). q.taken) (sym (g.nothing u) ∙ taken)))
              by_taken (Some n) u =
                  let h = g.rule n u in
                  let rule : production h.0 ≡ r = same_rule (production h.0) (ap (λ (q : Picked). q.taken) (sym h.1.1 ∙ taken)) in
                  let stack : g.after ≡ c = ap (λ (q : Picked). q.stack) (sym h.1.1 ∙ taken) in
                  let some : 0 < length h.0.right = m.no_empty (production h.0) (in_productions t.content.rules (stmt_of t.content.classes) n h.0 h.1.0) in
                  let red : Reduction t.content.rules (stmt_of t.content.classes) ws a (Some n) g.after =
                  reduction_of a ws ns (Some n) g.after (subst (λ z. StandsBefore t.content.rules (stmt_of t.content.classes) (symbols a) (grammar_symbol.Tok z) → ⊥) (sym next) refused)
                  (subst (λ z. AreReductions t.content.rules (stmt_of t.content.classes) (symbols a) z ns) (sym next) ar)
                  (subst (λ o. Takes t.content.rules a ns o g.after) u g.takes) in
                  subst (λ z. Moves t.content.rules (stmt_of t.content.classes) ws a ws z)
                  (reduced-rule h.0 g.after some ∙ ap₂ (λ (x : Production) (y : List Part). held_reduced x y) rule stack) (by_rule h.0 red h.1.0)

  -- nothing is taken
  pub blocks_so : (a c : List Part) (p : ℕ) (k : Tok) (ws : List Token) → coming ws ≡ k → walk (automaton_of t) 0 (symbols a) ≡ Some p →
      pick (candidates_at t p k) a ≡ record { taken = None; stack = c } → Reduction t.content.rules (stmt_of t.content.classes) ws a None c
  blocks_so a c p k ws next at pk = by (here_so a k p at)
    where
      by : Here a k p → Reduction t.content.rules (stmt_of t.content.classes) ws a None c
      by (shift_here sb e) = absurd (none-some shift (shift_only a c None (ap (λ cs. pick cs a) (sym e) ∙ pk)).0)
      by (reduce_here ns refused ar e) = with_picks (reductions_at a k ns ar)
        where
          taken : pick (map reduce (rules_of t.content.rules ns)) a ≡ record { taken = None; stack = c }
          taken = ap (λ cs. pick cs a) (sym e) ∙ pk

          with_picks : Picks t.content.rules ns a → Reduction t.content.rules (stmt_of t.content.classes) ws a None c
          with_picks g = by_taken g.taken refl
            where
              by_taken : (o : Option ℕ) → g.taken ≡ o → Reduction t.content.rules (stmt_of t.content.classes) ws a None c
              by_taken None u =
                  let stack : g.after ≡ c = ap (λ (q : Picked). q.stack) (sym (g.nothing u) ∙ taken) in
                  subst (λ z. Reduction t.content.rules (stmt_of t.content.classes) ws a None z) stack
                  (reduction_of a ws ns None g.after (subst (λ z. StandsBefore t.content.rules (stmt_of t.content.classes) (symbols a) (grammar_symbol.Tok z) → ⊥) (sym next) refused)
                  (subst (λ z. AreReductions t.content.rules (stmt_of t.content.classes) (symbols a) z ns) (sym next) ar)
                  (subst (λ o. Takes t.content.rules a ns o g.after) u g.takes))
              by_taken (Some n) u = let h = g.rule n u in absurd (some_none (reduce (production h.0)) (ap (λ (q : Picked). q.taken) (sym h.1.1 ∙ taken)))

-- Where the parse ends for all answers, the parse with answers accepts, and no stack comes twice without a shift between.
use Rattle.std.proofs.Common.{◌≡◌, ℕ, zero, suc, ◌+◌, ◌-◌, ◌<◌, List, [], ◌∷◌, Option, Some, None, Bool, true, false, Contains, length, map, drop, slice_get, refl}
use Rattle.std.proofs.Common.{sym, ap, ◌∙◌, subst, inl, inr, arith}
use Rattle.std.proofs.lemmas.List.{drop-map}
use Rattle.std.proofs.lemmas.Option.{same_Some}
use Rattle.gg_base.proofs.Facts.{some_none, head_same, tail_same}
use Rattle.tree_core.specs.declared.token.Tok.{Tok}
use Rattle.tree_core.specs.declared.token.Tok.TheVariants as tok
use Rattle.lr_check_sets.specs.md_reader.specs.declared.types.Rule.{Rule}
use Rattle.lr_check_sets.specs.md_reader.specs.declared.types.Sym.{Sym}
use Rattle.lr_check_sets.specs.md_reader.specs.declared.types.Sym.TheVariants as grammar_symbol
use Rattle.lr_check_sets.specs.md_reader.specs.Valid.{IsValid}
use Rattle.lr_check_sets.specs.lr_tables.specs.declared.types.Choice.{Choice}
use Rattle.lr_check_sets.specs.lr_tables.specs.View.{TableView}
use Rattle.lr_check_sets.specs.lr_tables.specs.Statements.{stmt_of}
use Rattle.lr_check_sets.specs.lr_tables.specs.Promises.{IsNumbered}
use Rattle.lr_check_sets.specs.lr_tables.specs.Leads.{actions_at}
use Rattle.lr_check_sets.specs.lr_tables.specs.Candidates.{StandsBefore, AreReductions, Candidates, accepts, shifts, reduces}
use Rattle.lr_check_sets.specs.lr_tables.proofs.Members.{In, In-Contains, Contains-In}
use Rattle.lr_check_sets.specs.lr_tables.proofs.Law.{candidates}
use Rattle.lr_check_sets.specs.lr_tables.proofs.Validity.{is_grammar}
use Rattle.lr_check_sets.specs.Automaton as model
use Rattle.lr_check_sets.specs.Automaton.{Production, Candidate, shift, reduce, walk, Free, CanBlock, IsTable}
use Rattle.lr_check_sets.specs.Table.{production, candidates_of, candidates_at, automaton_of, productions}
use Rattle.lr_check_sets.proofs.Rows.{rules_of, candidates_are, leads, is_first, asks_more}
use Rattle.lr_check_sets.proofs.Tables.{table_of_items}
use Rattle.lr_check_sets.proofs.Bound.{Path, done, next, circle, no_circle}
use Rattle.lr_check_sets.proofs.Ends_within.{final, tops}
use Rattle.lr_check_sets.proofs.Whole_ends.{whole_trees_end}
use Rattle.lr_check_sets.proofs.Meeting.{tables_meet_laws}
use Rattle.lr_check_sets.proofs.Endless.{NoEnds, not_end}
use Rattle.lr_check_sets.specs.Exact.{MeetsLaws}
use Rattle.lr_check_sets.specs.Trees.{Tree, Trees, node, no_trees, more_trees, may, onto, onto_all}
use Rattle.lr_check_sets.specs.Answers.{leaves, leaves_all}
use Rattle.tree_core.specs.declared.token.Sort.{Sort}
use Rattle.lr_check_law.specs.Accepting.{EveryTreeIsAccepted}
use Rattle.lr_check_sets.specs.lr_check.specs.declared.sample.Outcome.TheVariants as outcome
use Rattle.lr_check_sets.specs.lr_check.specs.Tree.{Token}
use Rattle.lr_check_sets.specs.lr_check.specs.Parse as parse
use Rattle.lr_check_sets.specs.lr_check.specs.Parse.{Part, symbols, coming, answer, owner_answers, asked, Takes, reduced, Reduction, Ends}
use Rattle.lr_check_sets.specs.lr_check.proofs.Parts.{symbols_used}
use Rattle.lr_check_sets.specs.lr_check.proofs.Contained.{nowhere_in}

-- the tokens to come, the end included
abbrev pub toks : List Token → List Tok
toks [] = tok.End ∷ []
toks (w ∷ ws) = w.tok ∷ toks ws

pub coming-is : (ws : List Token) (k : Tok) (u : List Tok) → toks ws ≡ k ∷ u → coming ws ≡ k
coming-is [] k u e = head_same tok.End k [] u e
coming-is (w ∷ ws) k u e = head_same w.tok k (toks ws) u e

-- what is taken of reductions, with the answers of the stack
record Picks (rules : List Rule) (ns : List ℕ) (s : List Part) : Type 0 where
  taken : Option ℕ
  after : List Part
  takes : Takes rules s ns taken after
  same : symbols after ≡ symbols s
  none : taken ≡ None → CanBlock (map reduce (rules_of rules ns))
  free : (n : ℕ) → taken ≡ Some n → (r : Rule) × ((slice_get rules n ≡ Some r) × Free (map reduce (rules_of rules ns)) (reduce (production r)))

module _ (rules : List Rule) where
  picks_first : (n : ℕ) (ns : List ℕ) (s after : List Part) (r : Rule) → slice_get rules n ≡ Some r → Takes rules s (n ∷ ns) (Some n) after → symbols after ≡ symbols s → Picks rules (n ∷ ns) s
  picks_first n ns s after r e t g = record {
    taken = Some n;
    after = after;
    takes = t;
    same = g;
    none = λ h. absurd (some_none n h);
    free = λ m h. (
      r,
      (
        subst (λ (x : ℕ). slice_get rules x ≡ Some r) (same_Some n m h) e,
        subst (λ (l : List Production). Free (map reduce l) (reduce (production r))) (sym (is_first rules n r e ns))
            (inl refl),
      ),
    );
  }

  picks_later : (n : ℕ) (ns : List ℕ) (s : List Part) (r : Rule) → slice_get rules n ≡ Some r → 0 < length r.restrictions → (production r).asks ≡ true → answer (owner_answers s r) ≡ false →
      Picks rules ns (asked s r) → Picks rules (n ∷ ns) s
  picks_later n ns s r e lt asks refused p = record {
    taken = p.taken;
    after = p.after;
    takes = parse.answered_no r e lt refused p.takes;
    same = p.same ∙ symbols_used (length r.right - 1) s;
    none = λ h. subst (λ (l : List Production). CanBlock (map reduce l)) (sym (is_first rules n r e ns)) (asks, p.none h);
    free = λ m h. let f = p.free m h in (f.0, (f.1.0, subst (λ (l : List Production). Free (map reduce l) (reduce (production f.0))) (sym (is_first rules n r e ns)) (inr (asks, f.1.1))));
  }

  picks : (ns : List ℕ) → ((n : ℕ) → In n ns → (r : Rule) × (slice_get rules n ≡ Some r)) → (s : List Part) → Picks rules ns s
  picks [] all s = record { taken = None; after = s; takes = parse.nothing; same = refl; none = λ h. tt; free = λ n h. absurd (some_none n (sym h)) }
  picks (n ∷ ns) all s = by (all n (inl refl)) (λ z. picks ns (λ m k. all m (inr k)) z)
    where
      by_answer : (r : Rule) → slice_get rules n ≡ Some r → 0 < length r.restrictions → (production r).asks ≡ true → (b : Bool) → answer (owner_answers s r) ≡ b →
          ((z : List Part) → Picks rules ns z) → Picks rules (n ∷ ns) s
      by_answer r e lt asks true said ih = picks_first n ns s (asked s r) r e (parse.answered_yes r e lt said) (symbols_used (length r.right - 1) s)
      by_answer r e lt asks false refused ih = picks_later n ns s r e lt asks refused (ih (asked s r))

      by_restrictions : (r : Rule) → slice_get rules n ≡ Some r → (j : ℕ) → length r.restrictions ≡ j → ((z : List Part) → Picks rules ns z) → Picks rules (n ∷ ns) s
      by_restrictions r e zero f ih = picks_first n ns s s r e (parse.unrestricted r e f) refl
      by_restrictions r e (suc j) f ih = by_answer r e (omega (arith, f)) (asks_more r j f) (answer (owner_answers s r)) refl ih

      by : (r : Rule) × (slice_get rules n ≡ Some r) → ((z : List Part) → Picks rules ns z) → Picks rules (n ∷ ns) s
      by r ih = by_restrictions r.0 r.1 (length r.0.restrictions) refl ih

pub toks-some : (ws : List Token) → (u : List Tok) × (toks ws ≡ coming ws ∷ u)
toks-some [] = ([], refl)
toks-some (w ∷ ws) = (toks ws, refl)

module _ (t : TableView) (v : IsValid t.content) (b : IsNumbered t) where
  laws : MeetsLaws t
  laws = tables_meet_laws t v b

  table : IsTable (automaton_of t)
  table = table_of_items (productions t.content.rules) (automaton_of t) laws.no_end laws.no_empty laws.exact

  -- reductions, at least one, lead from a stack to a stack
  record Reaches (k : Tok) (x a : List Sym) : Type 0 where
    behind : List Sym
    state : ℕ
    rule : Production
    at : walk (automaton_of t) 0 x ≡ Some state
    free : Free ((automaton_of t).candidates state k) (reduce rule)
    is : behind ≡ model.reduced rule x
    path : Path (automaton_of t) k behind a

  path_more : {k : Tok} {x a : List Sym} {p : ℕ} (r : Production) → walk (automaton_of t) 0 a ≡ Some p → Free ((automaton_of t).candidates p k) (reduce r) → Path (automaton_of t) k x a →
      Path (automaton_of t) k x (model.reduced r a)
  path_more r at f done = next r at f done
  path_more r at f (next s at' f' h) = next s at' f' (path_more r at f h)

  reach_one : {k : Tok} {a : List Sym} {p : ℕ} (r : Production) → walk (automaton_of t) 0 a ≡ Some p → Free ((automaton_of t).candidates p k) (reduce r) → Reaches k a (model.reduced r a)
  reach_one {a = a} {p = p} r at f = record { behind = model.reduced r a; state = p; rule = r; at = at; free = f; is = refl; path = done }

  reach_more : {k : Tok} {x a : List Sym} {p : ℕ} (r : Production) → walk (automaton_of t) 0 a ≡ Some p → Free ((automaton_of t).candidates p k) (reduce r) → Reaches k x a →
      Reaches k x (model.reduced r a)
  reach_more r at f h = record { behind = h.behind; state = h.state; rule = h.rule; at = h.at; free = h.free; is = h.is; path = path_more r at f h.path }

  -- all stacks since the last shift lead here
  abbrev Since : List (List Sym) → Tok → List Sym → Type 0
  Since before k a = (x : List Sym) → Contains before x → Reaches k x a

  fresh : {a : List Sym} {u : List Tok} → model.Ends (automaton_of t) a u → (before : List (List Sym)) (ws : List Token) (s : List Part) → toks ws ≡ u → symbols s ≡ a →
      Since before (coming ws) a → Contains before (symbols s) → ⊥
  fresh {a = a} ends before ws s g e reach c =
      let r = reach a (subst (Contains before) e c) in
      let some = toks-some ws in
      no_circle (automaton_of t) (length t.content.classes)
      (final (productions t.content.rules) (automaton_of t) (length t.content.classes) laws.no_end laws.no_empty laws.trees laws.classes laws.exact)
      (tops (productions t.content.rules) (automaton_of t) (length t.content.classes) laws.no_end laws.no_empty laws.trees laws.classes laws.exact)
      ends (coming ws) some.0 (sym g ∙ some.1) (circle r.behind r.state r.rule r.at r.free r.is r.path)

  since_more : (before : List (List Sym)) (s : List Part) (a : List Sym) (k : Tok) (p : ℕ) (r : Production) → symbols s ≡ a → walk (automaton_of t) 0 a ≡ Some p →
      Free ((automaton_of t).candidates p k) (reduce r) → Since before k a → Since (symbols s ∷ before) k (model.reduced r a)
  since_more before s a k p r e at f h x c = by (Contains-In x (symbols s ∷ before) c)
    where
      by : In x (symbols s ∷ before) → Reaches k x (model.reduced r a)
      by (inl same) = subst (λ z. Reaches k z (model.reduced r a)) (sym e ∙ same) (reach_one r at f)
      by (inr m) = reach_more r at f (h x (In-Contains x before m))

  abbrev Goes : List Sym → List Tok → Type 0
  Goes a u = (at : ℕ) (before : List (List Sym)) (ws : List Token) (s : List Part) → toks ws ≡ u → NoEnds ws → symbols s ≡ a → Since before (coming ws) a →
      Ends t.content.rules (stmt_of t.content.classes) at before ws s outcome.Done

  module _ (a : List Sym) (k : Tok) (u : List Tok) (p : ℕ) (here : walk (automaton_of t) 0 a ≡ Some p) (nb : CanBlock (candidates_at t p k) → ⊥)
      (ih : (c : Candidate) → Free (candidates_at t p k) c → Goes (model.stack_after c k a) (model.rest_after c k u))
      (at : ℕ) (before : List (List Sym)) (ws : List Token) (s : List Part) (g : toks ws ≡ k ∷ u) (ne : NoEnds ws) (e : symbols s ≡ a) (since : Since before (coming ws) a)
      (new : Contains before (symbols s) → ⊥) where
    next_is : coming ws ≡ k
    next_is = coming-is ws k u g

    accepting : k ≡ tok.End → candidates_at t p k ≡ shift ∷ [] → Ends t.content.rules (stmt_of t.content.classes) at before ws s outcome.Done
    accepting ee f =
        let free : Free (candidates_at t p k) shift = subst (λ l. Free l shift) (sym f) refl in
        let whole : a ≡ grammar_symbol.Class (stmt_of t.content.classes) ∷ [] = table.accept a p here (subst (λ z. Free (candidates_at t p z) shift) ee free) in
        parse.accepts new (e ∙ whole) (next_is ∙ ee)

    shifting : (vs : List Token) → ws ≡ vs → StandsBefore t.content.rules (stmt_of t.content.classes) a (grammar_symbol.Tok k) → (k ≡ tok.End → ⊥) → candidates_at t p k ≡ shift ∷ [] →
        Ends t.content.rules (stmt_of t.content.classes) at before ws s outcome.Done
    shifting [] same sb refused f = absurd (refused (sym next_is ∙ ap coming same))
    shifting (w ∷ vs) same sb refused f =
        let free : Free (candidates_at t p k) shift = subst (λ l. Free l shift) (sym f) refl in
        let g' : toks (w ∷ vs) ≡ k ∷ u = subst (λ l. toks l ≡ k ∷ u) same g in
        let first : w.tok ≡ k = head_same w.tok k (toks vs) u g' in
        let ne' : NoEnds (w ∷ vs) = subst NoEnds same ne in
        let sb' : StandsBefore t.content.rules (stmt_of t.content.classes) (symbols s) (grammar_symbol.Tok w.tok) =
        subst (λ z. StandsBefore t.content.rules (stmt_of t.content.classes) (symbols s) (grammar_symbol.Tok z)) (sym first)
        (subst (λ z. StandsBefore t.content.rules (stmt_of t.content.classes) z (grammar_symbol.Tok k)) (sym e) sb) in
        let top : grammar_symbol.Tok w.tok ∷ symbols s ≡ grammar_symbol.Tok k ∷ a = ap (λ z. grammar_symbol.Tok z ∷ symbols s) first ∙ ap (λ z. grammar_symbol.Tok k ∷ z) e in
        subst (λ l. Ends t.content.rules (stmt_of t.content.classes) at before l s outcome.Done) (sym same)
        (parse.shifts new ne'.0 sb' (ih shift free (at + 1) [] vs (record { symbol = grammar_symbol.Tok w.tok; answers = w.answers } ∷ s) (tail_same w.tok k (toks vs) u g') ne'.1 top
        (λ x c. absurd (nowhere_in x c))))

    reducing : (ns : List ℕ) → (StandsBefore t.content.rules (stmt_of t.content.classes) a (grammar_symbol.Tok k) → ⊥) → AreReductions t.content.rules (stmt_of t.content.classes) a k ns →
        candidates_at t p k ≡ map reduce (rules_of t.content.rules ns) → Ends t.content.rules (stmt_of t.content.classes) at before ws s outcome.Done
    reducing ns refused ar f = by pk.taken refl
      where
        pk : Picks t.content.rules ns s
        pk = picks t.content.rules ns (λ n m. let may = (ar.exactly n).0 (In-Contains n ns m) in (may.rule, may.there)) s

        by : (o : Option ℕ) → pk.taken ≡ o → Ends t.content.rules (stmt_of t.content.classes) at before ws s outcome.Done
        by None q = absurd (nb (subst CanBlock (sym f) (pk.none q)))
        by (Some n) q =
            let fr = pk.free n q in
            let r : Rule = fr.0 in
            let free : Free (candidates_at t p k) (reduce (production r)) = subst (λ l. Free l (reduce (production r))) (sym f) fr.1.1 in
            let free' : Free (candidates_at t p (coming ws)) (reduce (production r)) = subst (λ z. Free (candidates_at t p z) (reduce (production r))) (sym next_is) free in
            let red : Reduction t.content.rules (stmt_of t.content.classes) ws s (Some n) pk.after = record {
              no_shift = λ sb. refused (subst (λ z. StandsBefore t.content.rules (stmt_of t.content.classes) a (grammar_symbol.Tok z)) next_is
                  (subst (λ z. StandsBefore t.content.rules (stmt_of t.content.classes) z (grammar_symbol.Tok (coming ws))) e sb));
              candidates = ns;
              in_order = subst (λ z. AreReductions t.content.rules (stmt_of t.content.classes) (symbols s) z ns) (sym next_is)
                  (subst (λ z. AreReductions t.content.rules (stmt_of t.content.classes) z k ns) (sym e) ar);
              takes = subst (λ o. Takes t.content.rules s ns o pk.after) q pk.takes;
            } in
            let stack : symbols (reduced pk.after r) ≡ model.reduced (production r) a =
            ap (λ l. grammar_symbol.Class r.left ∷ l) (sym (drop-map (λ (x : Part). x.symbol) (length r.right) pk.after) ∙ ap (drop (length r.right)) (pk.same ∙ e)) in
            parse.reduces r new red fr.1.0 (ih (reduce (production r)) free at (symbols s ∷ before) ws (reduced pk.after r) g ne stack
            (since_more before s a (coming ws) p (production r) e here free' since))

    step : (cs : List Choice) → Candidates t.content.rules (stmt_of t.content.classes) t a k cs → candidates_at t p k ≡ candidates_of t.content.rules cs →
        Ends t.content.rules (stmt_of t.content.classes) at before ws s outcome.Done
    step cs (accepts sb ee) f = accepting ee f
    step cs (shifts sb refused l) f = shifting ws refl sb refused f
    step cs (reduces ns refused ar ee) f = reducing ns refused ar (f ∙ (ap (candidates_of t.content.rules) ee ∙ candidates_are t.content.rules ns))

  ending : {a : List Sym} {u : List Tok} → model.Ends (automaton_of t) a u → Goes a u
  unfolding candidates_at
  ending model.accepts at before ws s g ne e since = parse.accepts (fresh model.accepts before ws s g e since) e (coming-is ws tok.End [] g)
  ending (model.goes {a = a} {t = k} {w = u} {p = p} here nb h) at before ws s g ne e since =
      step a k u p here nb (λ c f. ending (h c f)) at before ws s g ne e since (fresh (model.goes here nb h) before ws s g e since) (actions_at t p k)
      (candidates t.content.rules (stmt_of t.content.classes) (length t.content.classes) (is_grammar t.content v) t.content t.rows b a p k (leads t a p here)) refl

mutual
  pub toks-tree : {x : Sort} (v : Tree x) (w : List Token) → toks (leaves v w) ≡ onto v (toks w)
  toks-tree (node k m c vs) w = ap (λ l. k ∷ l) (toks-trees vs w)

  toks-trees : {xs : List Sort} (vs : Trees xs) (w : List Token) → toks (leaves_all vs w) ≡ onto_all vs (toks w)
  toks-trees no_trees w = refl
  toks-trees (more_trees v vs) w = toks-tree v (leaves_all vs w) ∙ ap (onto v) (toks-trees vs w)

mutual
  no-ends : {x : Sort} (v : Tree x) (w : List Token) → NoEnds w → NoEnds (leaves v w)
  no-ends (node {x = x} k m c vs) w h = (not_end k x m, no-ends-all vs w h)

  no-ends-all : {xs : List Sort} (vs : Trees xs) (w : List Token) → NoEnds w → NoEnds (leaves_all vs w)
  no-ends-all no_trees w h = h
  no-ends-all (more_trees v vs) w h = no-ends v (leaves_all vs w) (no-ends-all vs w h)

pub every_tree_is_accepted : EveryTreeIsAccepted
every_tree_is_accepted t v b fine tree =
    let m : MeetsLaws t = tables_meet_laws t v b in
    ending t v b (whole_trees_end (productions t.content.rules) (automaton_of t) m.no_end m.no_empty m.trees m.exact fine tree) 0 [] (leaves tree []) [] (toks-tree tree [])
    (no-ends tree [] tt) refl (λ x c. absurd (nowhere_in x c))

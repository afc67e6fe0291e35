-- The steps of the code over the tables end as the parse over the rules does.
use Rattle.std.proofs.Common.{◌≡◌, ℕ, ◌-◌, ◌≤◌, ◌<◌, List, [], ◌∷◌, ◌++◌, Option, Some, None, false, Contains, length, take, drop, map, slice_get, refl, sym, ap, ◌∙◌, subst, arith}
use Rattle.std.specs.Option.{option_map}
use Rattle.std.proofs.lemmas.List.{length-map, length-replicate, drop-map}
use Rattle.std.proofs.lemmas.Option.{same_Some, none-some}
use Rattle.gg_base.proofs.Facts.{some_none}
use Rattle.tree_core.specs.declared.token.Tok.{Tok}
use Rattle.md_reader.specs.declared.types.Rule.{Rule}
use Rattle.md_reader.specs.declared.types.Sym.{Sym}
use Rattle.md_reader.specs.declared.types.Sym.TheVariants as grammar_symbol
use Rattle.md_reader.specs.Valid.{IsValid}
use Rattle.lr_tables.specs.declared.types.Choice.{Choice}
use Rattle.lr_tables.specs.declared.types.Choice.TheVariants as choice
use Rattle.lr_tables.specs.Statements.{stmt_of}
use Rattle.lr_tables.specs.View.{TableView}
use Rattle.lr_tables.specs.Leads.{target_at, actions_at, Leads}
use Rattle.lr_tables.specs.Candidates.{StandsBefore, MayReduce, AreReductions, Candidates, accepts, shifts, reduces, Goes}
use Rattle.lr_tables.specs.Promises.{IsNumbered}
use Rattle.lr_tables.proofs.Law.{candidates, goes}
use Rattle.lr_tables.proofs.Validity.{is_grammar}
use Rattle.lr_check.specs.declared.stack.Entry.{Entry}
use Rattle.lr_check.specs.declared.sample.Outcome.{Outcome}
use Rattle.lr_check.specs.Tree.{Node, Token, Unfolds}
use Rattle.lr_check.specs.Tree as tree
use Rattle.lr_check.specs.Order.{Orders, ends, goes_on}
use Rattle.lr_check.specs.Parse as parse
use Rattle.lr_check.specs.Parse.{Part, symbols, coming, Ends, Reduction, Replays}
use Rattle.lr_check.specs.Steps.{Config, first_config, tok_of, token_of, top_of, After, placed, reduced_by, reduced}
use Rattle.lr_check.specs.Steps.{after_choice, step}
use Rattle.lr_check.specs.Questions.{Taken, answers_of, entry_at, chosen}
use Rattle.lr_check.specs.Running.{Halts, over, onward, Computes, too_long, by_steps}
use Rattle.lr_check.proofs.Covered.{covers, opened, statement_alone}
use Rattle.lr_check.proofs.Parts.{Stands, bottom, above, stands_length, stands_leads, stands_below, stands_answers}
use Rattle.lr_check.proofs.Choosing.{Fits, Chose, chose, place_there}
use Rattle.lr_check.proofs.Seen.{seen_start}
use Rattle.lr_check.proofs.Meaning.{token_at, coming_is, Agrees, Meant, ended, went, length_symbols, goes_some, shift_meant, class_meant}
use Rattle.lr_check.proofs.Contained.{nowhere_in}

module _ (t : TableView) (nodes : List Node) (order : List ℕ) (valid : IsValid t.content) (numbered : IsNumbered t) where
  candidates_at : (a : List Sym) (q : ℕ) (k : Tok) → Leads t a q → Candidates t.content.rules (stmt_of t.content.classes) t a k (actions_at t q k)
  candidates_at a q k l = candidates t.content.rules (stmt_of t.content.classes) (length t.content.classes) (is_grammar t.content valid) t.content t.rows numbered a q k l

  goes_at : (a : List Sym) (q n : ℕ) → Leads t a q → Goes t.content.rules (stmt_of t.content.classes) t a n (target_at t q (grammar_symbol.Class n))
  goes_at a q n l = goes t.content.rules (stmt_of t.content.classes) (length t.content.classes) (is_grammar t.content valid) t.content t.rows numbered a q n l

  module _ (c : Config) (before : List (List Sym)) (ws : List Token) (s : List Part) (a : Agrees t nodes order before ws s c) where
    -- the class of a complete item comes on top
    placed_meant : (stack : List Entry) (s' : List Part) (n : ℕ) → Stands t nodes stack s' → symbols s' ≡ symbols s → Reduction t.content.rules (stmt_of t.content.classes) ws s (Some n) s'
        → MayReduce t.content.rules (stmt_of t.content.classes) (symbols s) (coming ws) n →
        Meant t nodes order c.at before ws s (reduced t c stack (slice_get t.content.rules n))
    placed_meant stack s' n h same red m =
        let r = m.rule in
        let covered = covers t.content.rules (stmt_of t.content.classes) m.complete in
        let within : length r.right ≤ length (symbols s) = covered.within in
        let some : 0 < length r.right = (is_grammar t.content valid).some n r m.there in
        let size_s' : length stack ≡ length s' = stands_length t nodes h in
        let size_s : length (symbols s') ≡ length s' = length_symbols s' in
        let size_same : length (symbols s') ≡ length (symbols s) = ap (λ (x : List Sym). length x) same in
        let fits : length r.right ≤ length stack = omega (arith, within, size_s', size_s, size_same) in
        let place = length stack - length r.right in
        let below : Stands t nodes (take place stack) (drop (length r.right) s') = stands_below t nodes h (length r.right) (omega (arith, fits, size_s')) in
        let under : symbols (drop (length r.right) s') ≡ drop (length r.right) (symbols s) = sym (drop-map (λ (p : Part). p.symbol) (length r.right) s') ∙ ap (drop (length r.right)) same in
        let stands_before : StandsBefore t.content.rules (stmt_of t.content.classes) (symbols (drop (length r.right) s')) (grammar_symbol.Class r.left) =
        subst (λ (x : List Sym). StandsBefore t.content.rules (stmt_of t.content.classes) x (grammar_symbol.Class r.left)) (sym under)
        (opened t.content.rules (stmt_of t.content.classes) covered.below n r refl m.there) in
        let to : (q : ℕ) × (target_at t (top_of (take place stack)) (grammar_symbol.Class r.left) ≡ Some q) × Leads t (grammar_symbol.Class r.left ∷ symbols (drop (length r.right) s')) q =
        goes_some t.content.rules (stmt_of t.content.classes) t (symbols (drop (length r.right) s')) r.left (target_at t (top_of (take place stack)) (grammar_symbol.Class r.left))
        (goes_at (symbols (drop (length r.right) s')) (top_of (take place stack)) r.left (stands_leads t nodes below)) stands_before in
        let answers = stands_answers t nodes h (length r.right - 1) place (omega (arith, some, fits, size_s')) (omega (arith, some, fits)) in
        let e = entry_at stack place in
        let entries = take place stack ++ record { state = to.0; node = e.node; used = e.used } ∷ [] in
        let stands : Stands t nodes entries (parse.reduced s' r) = above (record { state = to.0; node = e.node; used = e.used }) below to.2 answers refl in
        let lt : r.left < length c.seen = (let g = (is_grammar t.content valid).lefts n r m.there in let l = a.classes in omega (arith, g, l)) in
        subst (λ (x : Option Rule). Meant t nodes order c.at before ws s (reduced t c stack x)) (sym m.there)
        (subst (λ (x : Option ℕ). Meant t nodes order c.at before ws s (reduced_by t c stack r x)) (sym (place_there (length stack) (length r.right) some fits))
        (subst (λ (x : Option ℕ). Meant t nodes order c.at before ws s (placed c (take place stack) r e x)) (sym to.1)
        (class_meant t nodes order c before ws s a entries (parse.reduced s' r) (length r.right) r.left (λ o x. parse.reduces r a.fresh red m.there x) stands
        (ap (λ (x : List Sym). grammar_symbol.Class r.left ∷ x) under) some within lt)))

    -- nothing is shifted
    reduce_meant : (ns : List ℕ) → (StandsBefore t.content.rules (stmt_of t.content.classes) (symbols s) (grammar_symbol.Tok (coming ws)) → ⊥)
        → AreReductions t.content.rules (stmt_of t.content.classes) (symbols s) (coming ws) ns →
        (out : Taken) → Chose t nodes ns s out → Meant t nodes order c.at before ws s (after_choice t (slice_get order c.at) c out.stack out.choice)
    reduce_meant ns none are out x = subst (λ (o : Option Choice). Meant t nodes order c.at before ws s (after_choice t (slice_get order c.at) c out.stack o)) (sym x.is) (by x.taken refl)
      where
        reduction : (o : Option ℕ) → x.taken ≡ o → Reduction t.content.rules (stmt_of t.content.classes) ws s o x.parts
        reduction o e = subst (λ (y : Option ℕ). Reduction t.content.rules (stmt_of t.content.classes) ws s y x.parts) e (record { no_shift = none; candidates = ns; in_order = are; takes = x.takes })

        by : (o : Option ℕ) → x.taken ≡ o → Meant t nodes order c.at before ws s (after_choice t (slice_get order c.at) c out.stack (option_map choice.Reduce o))
        by None e = ended (parse.blocks a.fresh (reduction None e))
        by (Some n) e = placed_meant out.stack x.parts n x.stands x.same (reduction (Some n) e) ((are.exactly n).0 (x.within n e))

    fits : (ns : List ℕ) → AreReductions t.content.rules (stmt_of t.content.classes) (symbols s) (coming ws) ns → (n : ℕ) → Contains ns n → Fits t.content.rules (length c.stack) n
    fits ns are n h =
        let m : MayReduce t.content.rules (stmt_of t.content.classes) (symbols s) (coming ws) n = (are.exactly n).0 h in
        let within = (covers t.content.rules (stmt_of t.content.classes) m.complete).within in
        let l = stands_length t nodes a.stands in
        let k = length_symbols s in
        record { rule = m.rule; there = m.there; some = (is_grammar t.content valid).some n m.rule m.there; within = omega (arith, within, l, k) }

    token_same : coming ws ≡ token_of nodes (slice_get order c.at)
    token_same = ap coming a.to_come ∙ coming_is nodes order c.at

    choice_meant : (cs : List Choice) → Candidates t.content.rules (stmt_of t.content.classes) t (symbols s) (token_of nodes (slice_get order c.at)) cs →
        Meant t nodes order c.at before ws s (after_choice t (slice_get order c.at) c (chosen t.content.rules nodes cs c.stack).stack (chosen t.content.rules nodes cs c.stack).choice)
    unfolding chosen
    choice_meant cs (accepts b e) = ended (parse.accepts a.fresh (statement_alone t.content.rules (stmt_of t.content.classes) (length t.content.classes) (is_grammar t.content valid)
        (symbols s) (subst (λ (k : Tok). StandsBefore t.content.rules (stmt_of t.content.classes) (symbols s) (grammar_symbol.Tok k)) e b)) (token_same ∙ e))
    choice_meant cs (shifts {q = q} b ne l) = shift_meant t nodes order c before ws s a q (slice_get order c.at) refl b ne l
    choice_meant cs (reduces {cs = ds} ns none are e) =
        let token = token_same in
        let no_shift : StandsBefore t.content.rules (stmt_of t.content.classes) (symbols s) (grammar_symbol.Tok (coming ws))
        → ⊥ = subst (λ (k : Tok). StandsBefore t.content.rules (stmt_of t.content.classes) (symbols s) (grammar_symbol.Tok k) → ⊥) (sym token) none in
        let there : AreReductions t.content.rules (stmt_of t.content.classes) (symbols s) (coming ws) ns =
        subst (λ (k : Tok). AreReductions t.content.rules (stmt_of t.content.classes) (symbols s) k ns) (sym token) are in
        reduce_meant ns no_shift there (chosen t.content.rules nodes ds c.stack)
        (subst (λ (x : List Choice). Chose t nodes ns s (chosen t.content.rules nodes x c.stack)) (sym e) (chose t nodes ns c.stack s a.stands (fits ns there)))

    pub step_meant : Meant t nodes order c.at before ws s (step t nodes order c)
    unfolding step
    step_meant = choice_meant (actions_at t (top_of c.stack) (token_of nodes (slice_get order c.at)))
        (candidates_at (symbols s) (top_of c.stack) (token_of nodes (slice_get order c.at)) (stands_leads t nodes a.stands))

  record Onward (at : ℕ) (before : List (List Sym)) (ws : List Token) (s : List Part) (c : Config) : Type 0 where
    before' : List (List Sym)
    ws' : List Token
    s' : List Part
    agrees : Agrees t nodes order before' ws' s' c
    rest : (o : Outcome) → Ends t.content.rules (stmt_of t.content.classes) c.at before' ws' s' o → Ends t.content.rules (stmt_of t.content.classes) at before ws s o

  ends_there : {at : ℕ} {before : List (List Sym)} {ws : List Token} {s : List Part} {x : After} → Meant t nodes order at before ws s x → (o : Outcome) → x.ending ≡ Some o
      → Ends t.content.rules (stmt_of t.content.classes) at before ws s o
  ends_there {at = at} {before = before} {ws = ws} {s = s} (ended {o = p} h) o e = subst (Ends t.content.rules (stmt_of t.content.classes) at before ws s) (same_Some p o e) h
  ends_there (went b w p g rest) o e = absurd (none-some o e)

  goes_onward : {at : ℕ} {before : List (List Sym)} {ws : List Token} {s : List Part} {x : After} → Meant t nodes order at before ws s x → x.ending ≡ None → Onward at before ws s x.config
  goes_onward (ended {o = p} h) e = absurd (some_none p e)
  goes_onward (went b w p g rest) e = record { before' = b; ws' = w; s' = p; agrees = g; rest = rest }

  halts_ends : {c : Config} {o : Outcome} → Halts t nodes order c o → (before : List (List Sym)) (ws : List Token) (s : List Part) → Agrees t nodes order before ws s c
      → Ends t.content.rules (stmt_of t.content.classes) c.at before ws s o
  halts_ends (over {c = c} {o = o} e) before ws s a = ends_there (step_meant c before ws s a) o e
  halts_ends (onward {c = c} {o = o} e h) before ws s a =
      let g = goes_onward (step_meant c before ws s a) e in
      g.rest o (halts_ends h g.before' g.ws' g.s' g.agrees)

  pub parsed : (o : Outcome) → Halts t nodes order (first_config (length t.content.classes)) o → Ends t.content.rules (stmt_of t.content.classes) 0 [] (map (token_at nodes) order) [] o
  parsed o h = halts_ends h [] (map (token_at nodes) order) [] (record {
    stands = bottom;
    to_come = refl;
    seen = seen_start (length t.content.classes);
    fresh = λ x. nowhere_in [] x;
    classes = length-replicate (length t.content.classes) false;
  })

-- the order of a tree's nodes gives its tokens
unfolds : (nodes : List Node) {l w : List ℕ} → Orders nodes l w → Unfolds nodes l (map (token_at nodes) w)
unfolds nodes ends = tree.ends
unfolds nodes (goes_on {n = n} {rest = rest} {w = w} v there o) =
    let same : token_at nodes n ≡ record { tok = v.tok; answers = v.answers } = ap (λ (x : Option Node). record { tok = tok_of x; answers = answers_of x }) there in
    subst (λ (x : Token). Unfolds nodes (n ∷ rest) (x ∷ map (token_at nodes) w)) (sym same) (tree.goes_on v there (unfolds nodes o))

pub replays : (t : TableView) (nodes : List Node) (o : Outcome) → IsValid t.content → IsNumbered t → Computes t nodes o → Replays t.content nodes o
replays t nodes o valid numbered (too_long l) =
    let n : length (map (token_at nodes) l.order) ≡ length l.order = length-map l.order (token_at nodes) in
    let more = l.long in
    parse.is_long (map (token_at nodes) l.order) (unfolds nodes l.orders) (omega (arith, n, more))
replays t nodes o valid numbered (by_steps order is h) =
    let n : length (map (token_at nodes) order) ≡ length order = length-map order (token_at nodes) in
    let few = is.short in
    parse.is_parsed (map (token_at nodes) order) (unfolds nodes is.orders) (omega (arith, n, few)) (parsed t nodes order valid numbered o h)

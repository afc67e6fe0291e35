-- By the tables each list of leaves has a parse.
use Rattle.std.proofs.Common.{◌≡◌, ◌⊎◌, inl, inr, ℕ, zero, suc, ◌+◌, ◌-◌, ◌*◌, ◌≤◌, ◌<◌, List, [], ◌∷◌, Option, Some, None, Bool, true, false, not, Contains, length, count_by}
use Rattle.std.proofs.Common.{get_or, set, drop, replicate, slice_get, refl, sym, ap, ◌∙◌, subst, arith, length-set}
use Rattle.std.proofs.lemmas.List.{length-replicate}
use Rattle.std.proofs.lemmas.Option.{same_Some}
use Rattle.tree_core.specs.declared.token.Tok.{Tok}
use Rattle.tree_core.specs.declared.token.Tok.TheVariants as tok
use Rattle.md_reader.specs.declared.types.Rule.{Rule}
use Rattle.md_reader.specs.declared.types.Sym.{Sym}
use Rattle.md_reader.specs.declared.types.Sym.TheVariants as grammar_symbol
use Rattle.lr_tables.specs.Grammar.{IsGrammar}
use Rattle.lr_tables.specs.Items.{fresh}
use Rattle.lr_tables.specs.Statements.{stmt_of}
use Rattle.lr_tables.specs.View.{TableView}
use Rattle.lr_tables.specs.Leads.{target_at, actions_at, Leads, nowhere, further}
use Rattle.lr_tables.specs.Candidates.{StandsBefore, MayReduce, AreReductions, Candidates, Goes}
use Rattle.lr_tables.specs.Candidates as candidate
use Rattle.lr_tables.proofs.Law.{candidates, goes}
use Rattle.lr_tables.proofs.Validity.{is_grammar}
use Rattle.lr_check.proofs.Covered.{covers, opened, statement_alone}
use Rattle.lr_check.proofs.Seen.{seen_start, seen_shift, seen_unit, seen_long}
use Rattle.lr_check.proofs.Falling.{count_most, mark_count}
use Rattle.lr_check.proofs.Contained.{nowhere_in}
use Rattle.lr_check_parse.specs.Moves.{Answering, Move, Shift, Reduce, Ending, Accepts, Blocks, Loops, Refuses, taken, coming, Choice, Parses}
use Rattle.lr_check_parse.specs.Moves as parse
use Rattle.lr_check_parse.specs.Claims.{HasEnd}
use Rattle.lr_check_parse.proofs.Choosing.{taken_among}
use Rattle.lr_check_parse.proofs.Bounds.{left, shift_less, long_less, unit_less, length-drop, one_or_more, Marks}

-- what is left falls
new_size : (w i : ℕ) (seen new : List Bool) → length new ≡ length seen → left w i new ≡ (2 * w + i) * (length seen + 1) + count_by not new
new_size w i seen new e = ap (λ (n : ℕ). (2 * w + i) * (n + 1) + count_by not new) e

pub shift_falls : (w i : ℕ) (seen new : List Bool) → length new ≡ length seen → left w (i + 1) new + 1 ≤ left (w + 1) i seen
shift_falls w i seen new e =
    let s = new_size w (i + 1) seen new e in
    let most = count_most new in
    shift_less w i (length seen) (left w (i + 1) new) (count_by not seen) (count_by not new) (omega (arith, s)) (omega (arith, most, e))

pub unit_falls : (w i : ℕ) (seen new : List Bool) → length new ≡ length seen → count_by not new + 1 ≡ count_by not seen → left w (i + 1) new + 1 ≤ left w (i + 1) seen
unit_falls w i seen new e c =
    let s = new_size w (i + 1) seen new e in
    unit_less w i (length seen) (left w (i + 1) new) (count_by not seen) (count_by not new) (omega (arith, s)) c

pub long_falls : (w i d : ℕ) (seen new : List Bool) → length new ≡ length seen → left w (i + 1) new + 1 ≤ left w (i + 2 + d) seen
long_falls w i d seen new e =
    let s = new_size w (i + 1) seen new e in
    let most = count_most new in
    long_less w i d (length seen) (left w (i + 1) new) (count_by not seen) (count_by not new) (omega (arith, s)) (omega (arith, most, e))

module _ {L X : Type 0} (of : Answering L X) (rules : List Rule) (stmt classes : ℕ) (g : IsGrammar rules stmt classes) (t : TableView)
    (choices : (a : List Sym) (q : ℕ) (k : Tok) → Leads t a q → Candidates rules stmt t a k (actions_at t q k))
    (leads_on : (a : List Sym) (q c : ℕ) → Leads t a q → Goes rules stmt t a c (target_at t q (grammar_symbol.Class c))) where
  abbrev End : ℕ → List (List Sym) → List L → List Sym → X → Type 0
  End at before ws a x = (log : List (Move L)) × (e : Ending X) × Parses of rules stmt at before ws a x log e

  abbrev Mark : List (List Sym) → List Sym → List Bool → Type 0
  Mark before a seen = Marks of rules stmt classes g before a seen

  leads_below : (k : ℕ) (a : List Sym) (q : ℕ) → Leads t a q → (p : ℕ) × Leads t (drop k a) p
  leads_below zero a q h = (q, h)
  leads_below (suc k) [] q h = (q, h)
  leads_below (suc k) (Y ∷ a) q h = by h (λ p l. leads_below k a p l)
    where
      by : {a : List Sym} {q : ℕ} {Y : Sym} → Leads t (Y ∷ a) q → ((p : ℕ) → Leads t a p → (r : ℕ) × Leads t (drop k a) r) → (r : ℕ) × Leads t (drop k a) r
      by (further {q = p} l e) go = go p l

  reaches : (a : List Sym) (c : ℕ) (o : Option ℕ) → Goes rules stmt t a c o → StandsBefore rules stmt a (grammar_symbol.Class c) → (p : ℕ) × Leads t (grammar_symbol.Class c ∷ a) p
  reaches a c None h s = absurd (h s)
  reaches a c (Some p) h s = (p, h.1)

  -- the state behind a reduction
  behind : (a : List Sym) (q n : ℕ) (r : Rule) (k : Tok) → Leads t a q → slice_get rules n ≡ Some r → MayReduce rules stmt a k n
      → (p : ℕ) × Leads t (grammar_symbol.Class r.left ∷ drop (length r.right) a) p
  behind a q n r k lead there m =
      let same : m.rule ≡ r = same_Some m.rule r (sym m.there ∙ there) in
      let below = subst (λ (y : Rule). Rattle.lr_tables.specs.Items.Items rules stmt (drop (length y.right) a) (fresh n)) same (covers rules stmt m.complete).below in
      let before = opened rules stmt below n r refl there in
      let low = leads_below (length r.right) a q lead in
      reaches (drop (length r.right) a) r.left (target_at t low.0 (grammar_symbol.Class r.left)) (leads_on (drop (length r.right) a) low.0 r.left low.1) before

  -- with fuel
  abbrev Go : ℕ → Type 0
  Go n =
      (at : ℕ) (before : List (List Sym)) (ws : List L) (a : List Sym) (x : X) (seen : List Bool) (q : ℕ)
      → left (length ws) (length a) seen < n → Mark before a seen → (Contains before a → ⊥) → Leads t a q → End at before ws a x

  shifted : (n at : ℕ) (before : List (List Sym)) (ws : List L) (a : List Sym) (x : X) (seen : List Bool) (q : ℕ) → left (length ws) (length a) seen < suc n → Mark before a seen
      → (Contains before a → ⊥) →
      StandsBefore rules stmt a (grammar_symbol.Tok (coming of ws)) → (coming of ws ≡ tok.End → ⊥) → Leads t (grammar_symbol.Tok (coming of ws) ∷ a) q → Go n → End at before ws a x
  shifted n at before [] a x seen q lt marks new stands some lead go = absurd (some refl)
  shifted n at before (l ∷ ws) a x seen q lt marks new stands some lead go =
      let next = replicate classes false in
      let size : length next ≡ length seen = length-replicate classes false ∙ sym marks.size in
      let f = shift_falls (length ws) (length a) seen next size in
      let one : length (l ∷ ws) ≡ length ws + 1 = omega arith in
      let two : length (grammar_symbol.Tok (of.token l) ∷ a) ≡ length a + 1 = omega arith in
      let f1 : left (length ws) (length (grammar_symbol.Tok (of.token l) ∷ a)) next + 1 ≤ left (length (l ∷ ws)) (length a) seen =
      subst (λ i. left (length ws) i next + 1 ≤ left (length (l ∷ ws)) (length a) seen) (sym two) (subst (λ w. left (length ws) (length a + 1) next + 1 ≤ left w (length a) seen) (sym one) f) in
      let e = go (at + 1) [] ws (grammar_symbol.Tok (of.token l) ∷ a) (of.shifted l x) next q (omega (arith, f1, lt))
      (record { seen_is = seen_shift classes (of.token l) a; size = length-replicate classes false }) (nowhere_in (grammar_symbol.Tok (of.token l) ∷ a)) lead in
      (Shift l ∷ e.0, e.1, parse.shifts new some stands e.2)

  reduced : (n at i : ℕ) (before : List (List Sym)) (ws : List L) (a : List Sym) (x y x' : X) (r : Rule) (seen : List Bool) (p : ℕ) → left (length ws) (length a) seen < suc n
      → Mark before a seen → (Contains before a → ⊥) →
      Choice of rules stmt ws a x (Some i) y → slice_get rules i ≡ Some r → of.reduced i r y ≡ Some x'
      → 0 < length r.right → length r.right ≤ length a → Leads t (grammar_symbol.Class r.left ∷ drop (length r.right) a) p → Go n → End at before ws a x
  reduced n at i before ws a x y x' r seen p lt marks new c there red some le lead go = by (one_or_more (length r.right) some)
    where
      within : r.left < length seen
      within = (let s = marks.size in let l = g.lefts i r there in omega (arith, s, l))

      back : End at (a ∷ before) ws (grammar_symbol.Class r.left ∷ drop (length r.right) a) x' → End at before ws a x
      back e = (Reduce i ∷ e.0, e.1, parse.reduces r new c there red e.2)

      unit : length r.right ≡ 1 → (b : Bool) → get_or seen r.left false ≡ b → End at before ws a x
      unit e true f = back ([], Loops at, parse.loops (subst (λ k. Contains (a ∷ before) (grammar_symbol.Class r.left ∷ drop k a)) (sym e) (marks.seen_is.there r.left f)))
      unit e false f =
          let next = set seen r.left true in
          let size : length next ≡ length seen = length-set seen r.left true in
          let d = length-drop 1 a (omega (arith, some, le)) in
          let fall = unit_falls (length ws) (length (drop 1 a)) seen next size (mark_count seen r.left within f) in
          let fall1 : left (length ws) (length (grammar_symbol.Class r.left ∷ drop 1 a)) next + 1 ≤ left (length ws) (length a) seen =
          subst (λ j. left (length ws) j next + 1 ≤ left (length ws) (length a) seen) (let q : length (drop 1 a) + 1 ≡ length (grammar_symbol.Class r.left ∷ drop 1 a) = omega arith in q)
          (subst (λ j. left (length ws) (length (drop 1 a) + 1) next + 1 ≤ left (length ws) j seen) d fall) in
          let none : get_or seen r.left false ≡ true → ⊥ = λ h. (let k = sym f ∙ h in cc) in
          back (subst (λ k. End at (a ∷ before) ws (grammar_symbol.Class r.left ∷ drop k a) x') (sym e)
          (go at (a ∷ before) ws (grammar_symbol.Class r.left ∷ drop 1 a) x' next p (omega (arith, fall1, lt))
          (record { seen_is = seen_unit seen a (a ∷ before) r.left marks.seen_is (omega (arith, some, le)) within; size = size ∙ marks.size })
          (λ h. none (marks.seen_is.back r.left h)) (subst (λ k. Leads t (grammar_symbol.Class r.left ∷ drop k a) p) e lead)))

      long : 2 ≤ length r.right → End at before ws a x
      long two =
          let k = length r.right in
          let d = length-drop (length r.right) a le in
          let next = set (replicate classes false) r.left true in
          let size : length next ≡ classes = length-set (replicate classes false) r.left true ∙ length-replicate classes false in
          let shorter : length (drop (length r.right) a) + 1 < length a = omega (arith, d, two) in
          let fall = long_falls (length ws) (length (drop (length r.right) a)) (length r.right - 2) seen next (size ∙ sym marks.size) in
          let whole : length (drop (length r.right) a) + 2 + (length r.right - 2) ≡ length a = omega (arith, d, two) in
          let fall1 : left (length ws) (length (grammar_symbol.Class r.left ∷ drop (length r.right) a)) next + 1 ≤ left (length ws) (length a) seen =
          subst (λ j. left (length ws) j next + 1 ≤ left (length ws) (length a) seen)
          (let q : length (drop (length r.right) a) + 1 ≡ length (grammar_symbol.Class r.left ∷ drop (length r.right) a) = omega arith in q)
          (subst (λ j. left (length ws) (length (drop (length r.right) a) + 1) next + 1 ≤ left (length ws) j seen) whole fall) in
          back (go at (a ∷ before) ws (grammar_symbol.Class r.left ∷ drop (length r.right) a) x' next p (omega (arith, fall1, lt))
          (record { seen_is = seen_long seen a (drop (length r.right) a) (a ∷ before) r.left classes marks.seen_is shorter (g.lefts i r there); size = size })
          (λ h. (let low = marks.seen_is.lower (grammar_symbol.Class r.left ∷ drop (length r.right) a) h in omega (arith, low, shorter))) lead)

      by : (length r.right ≡ 1) ⊎ (2 ≤ length r.right) → End at before ws a x
      by (inl e) = unit e (get_or seen r.left false) refl
      by (inr two) = long two

  decided : (n at : ℕ) (before : List (List Sym)) (ws : List L) (a : List Sym) (x : X) (seen : List Bool) (q : ℕ) (ns : List ℕ) → left (length ws) (length a) seen < suc n
      → Mark before a seen → (Contains before a → ⊥) → Leads t a q →
      (StandsBefore rules stmt a (grammar_symbol.Tok (coming of ws)) → ⊥) → AreReductions rules stmt a (coming of ws) ns → Go n → End at before ws a x
  decided n at before ws a x seen q ns lt marks new lead off are go = by (taken of rules ns x).rule (taken of rules ns x).kept refl
    where
      choice_of : (o : Option ℕ) (y : X) → taken of rules ns x ≡ record { rule = o; kept = y } → Choice of rules stmt ws a x o y
      choice_of o y e = record { no_shift = off; candidates = ns; in_order = are; takes = e }

      state : (i : ℕ) (y : X) → taken of rules ns x ≡ record { rule = Some i; kept = y } → (m : MayReduce rules stmt a (coming of ws) i) → (o : Option X)
          → of.reduced i m.rule y ≡ o → End at before ws a x
      state i y e m None f = ([], Refuses, parse.refuses m.rule new (choice_of (Some i) y e) m.there f)
      state i y e m (Some x') f =
          let b = behind a q i m.rule (coming of ws) lead m.there m in
          reduced n at i before ws a x y x' m.rule seen b.0 lt marks new (choice_of (Some i) y e) m.there f (g.some i m.rule m.there) (covers rules stmt m.complete).within b.1 go

      by : (o : Option ℕ) (y : X) → taken of rules ns x ≡ record { rule = o; kept = y } → End at before ws a x
      by None y e = ([], Blocks at, parse.blocks new (choice_of None y e))
      by (Some i) y e = (let m = (are.exactly i).0 (taken_among of rules ns x i y e) in state i y e m (of.reduced i m.rule y) refl)

  step : (n at : ℕ) (before : List (List Sym)) (ws : List L) (a : List Sym) (x : X) (seen : List Bool) (q : ℕ) (cs : List _) → left (length ws) (length a) seen < suc n
      → Mark before a seen → (Contains before a → ⊥) → Leads t a q →
      Candidates rules stmt t a (coming of ws) cs → Go n → End at before ws a x
  step n at before ws a x seen q cs lt marks new lead (candidate.accepts stands e) go =
      ([], Accepts x, parse.accepts new (statement_alone rules stmt classes g a (subst (λ (k : Tok). StandsBefore rules stmt a (grammar_symbol.Tok k)) e stands)) e)
  step n at before ws a x seen q cs lt marks new lead (candidate.shifts {q = p} stands some on) go = shifted n at before ws a x seen p lt marks new stands some on go
  step n at before ws a x seen q cs lt marks new lead (candidate.reduces ns off are e) go = decided n at before ws a x seen q ns lt marks new lead off are go

  ends : (n : ℕ) → Go n
  ends zero at before ws a x seen q lt marks new lead = absurd (omega (arith, lt))
  ends (suc n) at before ws a x seen q lt marks new lead = step n at before ws a x seen q (actions_at t q (coming of ws)) lt marks new lead (choices a q (coming of ws) lead) (ends n)

  -- also from a stack that leads to a state, with the classes that were on top as marks
  pub from_here : (at : ℕ) (before : List (List Sym)) (ws : List L) (a : List Sym) (x : X) (seen : List Bool) (q : ℕ)
      → Marks of rules stmt classes g before a seen → (Contains before a → ⊥) → Leads t a q
      → (log : List (Move L)) × (e : Ending X) × Parses of rules stmt at before ws a x log e
  from_here at before ws a x seen q marks new lead = ends (suc (left (length ws) (length a) seen)) at before ws a x seen q (omega arith) marks new lead

  pub from_start : (w : List L) (x : X) → End 0 [] w [] x
  from_start w x =
      let next = replicate classes false in
      ends (suc (left (length w) 0 next)) 0 [] w [] x next 0 (omega arith) (record { seen_is = seen_start classes; size = length-replicate classes false }) (nowhere_in []) nowhere

pub parse_has_end : {L X : Type 0} (of : Answering L X) → HasEnd of
parse_has_end of t valid numbered w x =
    let g = is_grammar t.content valid in
    from_start of t.content.rules (stmt_of t.content.classes) (length t.content.classes) g t
    (λ a q k l. candidates t.content.rules (stmt_of t.content.classes) (length t.content.classes) g t.content t.rows numbered a q k l)
    (λ a q c l. goes t.content.rules (stmt_of t.content.classes) (length t.content.classes) g t.content t.rows numbered a q c l)
    w x

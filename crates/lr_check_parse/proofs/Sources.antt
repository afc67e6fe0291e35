-- Each parse is the parse by the answers that it gave.
use Rattle.std.proofs.Common.{◌≡◌, ℕ, zero, suc, ◌+◌, ◌-◌, ◌<◌, ◌≤◌, ◌==◌, List, [], ◌∷◌, Option, Some, None, Bool, true, false, Contains, length, drop, slice_get, refl, sym, ap, ◌∙◌, subst, arith}
use Rattle.std.specs.Prelude.{if◌then◌else◌}
use Rattle.std.proofs.lemmas.List.Elements.{Contains-append_right}
use Rattle.std.proofs.lemmas.Option.{same_Some}
use Rattle.gg_base.proofs.Facts.{some_none}
use Rattle.tree_core.specs.declared.token.Tok.{Tok}
use Rattle.tree_core.specs.declared.token.Tok.TheVariants as tok
use Rattle.md_reader.specs.declared.types.Rule.{Rule}
use Rattle.md_reader.specs.declared.types.Sym.{Sym}
use Rattle.md_reader.specs.declared.types.Sym.TheVariants as grammar_symbol
use Rattle.lr_tables.specs.Grammar.{IsGrammar}
use Rattle.lr_tables.specs.Statements.{stmt_of}
use Rattle.lr_tables.proofs.Validity.{is_grammar}
use Rattle.lr_tables.specs.Candidates.{StandsBefore, AreReductions}
use Rattle.lr_check.specs.declared.sample.Outcome.{Outcome}
use Rattle.lr_check.specs.declared.sample.Outcome.TheVariants as outcome
use Rattle.lr_check.specs.Parse.{Part, symbols, reduced, Takes, nothing, unrestricted, answered_yes, answered_no, Reduction, Ends, loops, accepts, shifts, reduces, blocks}
use Rattle.lr_check.specs.Parse as replay
use Rattle.lr_check.proofs.Contained.{here}
use Rattle.lr_check_parse.specs.Moves.{Answering, Move, Ending, Taken, coming, decided_at, taken, Choice, Parses}
use Rattle.lr_check_parse.specs.Moves as parse
use Rattle.lr_check_parse.specs.Lists.{EndsSo}
use Rattle.lr_check_parse.specs.Claims.{labelled, questioned, HasAnswers, IsAnswered}
use Rattle.lr_check_parse.proofs.Choosing.{no_more, some_more, Fits, fits, taken_fits}
use Rattle.lr_check_parse.proofs.Labels.{answered_by, symbols_labelled, used_labelled, answer_labelled, above, answers_above, drop_above}

module _ {L X : Type 0} (of : Answering L X) (rules : List Rule) (stmt : ℕ) where
  -- the answers before the questions of some candidates, from those behind them
  pub record Source (a : List Sym) (ns : List ℕ) (o : Option ℕ) (behind : ℕ → List Bool) : Type 0 where
    pub left : ℕ → List Bool
    pub takes : Takes rules (labelled a left) ns o (labelled a behind)

  pub source : (a : List Sym) (x : X) (ns : List ℕ) (behind : ℕ → List Bool) → ((n : ℕ) → Contains ns n → Fits rules a n) → Source a ns (taken of rules ns x).rule behind
  source a x [] behind f = record { left = behind; takes = nothing }
  source a x (n ∷ ns) behind f =
      by_rule (slice_get rules n) refl (f n (here n ns)) (λ z. source a z ns behind (λ m c. f m (Contains-append_right (n ∷ []) ns m c)))
    where
      yes : (r : Rule) → slice_get rules n ≡ Some r → 0 < length r.restrictions → length r.right - 1 < length a → Source a (n ∷ ns) (Some n) behind
      yes r there more lt = record {
        left = answered_by (length r.right - 1) true behind;
        takes = subst (λ (s : List Part). Takes rules (labelled a (answered_by (length r.right - 1) true behind)) (n ∷ ns) (Some n) s)
            (used_labelled (length r.right - 1) true a behind)
            (answered_yes r there more (answer_labelled (length r.right - 1) true a behind lt));
      }

      no : (r : Rule) → slice_get rules n ≡ Some r → 0 < length r.restrictions → length r.right - 1 < length a → (t : Option ℕ) → Source a ns t behind → Source a (n ∷ ns) t behind
      no r there more lt t s = record {
        left = answered_by (length r.right - 1) false s.left;
        takes = answered_no r there more (answer_labelled (length r.right - 1) false a s.left lt)
            (subst (λ (q : List Part). Takes rules q ns t (labelled a behind)) (sym (used_labelled (length r.right - 1) false a s.left)) s.takes);
      }

      others : X → Taken X
      others z = taken of rules ns z

      tests : (r : Rule) → slice_get rules n ≡ Some r → length r.right - 1 < length a → (b c : Bool) → (length r.restrictions == 0) ≡ b → ((z : X) → Source a ns (others z).rule behind)
          → Source a (n ∷ ns) (if b then record { rule = Some n; kept = x } else if c then record { rule = Some n; kept = of.asked r x } else others (of.asked r x)).rule behind
      tests r there lt true c e s = record { left = behind; takes = unrestricted r there (no_more (length r.restrictions) e) }
      tests r there lt false true e s = yes r there (some_more (length r.restrictions) e) lt
      tests r there lt false false e s = no r there (some_more (length r.restrictions) e) lt (others (of.asked r x)).rule (s (of.asked r x))

      by_rule : (o : Option Rule) → slice_get rules n ≡ o → Fits rules a n → ((z : X) → Source a ns (others z).rule behind) → Source a (n ∷ ns) (decided_at of n o x others).rule behind
      by_rule None e g s = absurd (some_none g.rule (sym g.there ∙ e))
      by_rule (Some r) e g s =
          let same : g.rule ≡ r = same_Some g.rule r (sym g.there ∙ e) in
          let size : length g.rule.right ≡ length r.right = ap (λ (q : Rule). length q.right) same in
          let lt : length r.right - 1 < length a = (let p = g.some in let q = g.within in omega (arith, p, q, size)) in
          tests r e lt (length r.restrictions == 0) (of.says r x) refl s

  coming_questioned : (ws : List L) (f : ℕ → List Bool) → replay.coming (questioned of ws f) ≡ coming of ws
  coming_questioned [] f = refl
  coming_questioned (l ∷ ws) f = refl

  -- a choice is one by some answers
  pub choice_answered : (classes : ℕ) → IsGrammar rules stmt classes
      → (ws : List L) (to_come : ℕ → List Bool) (a : List Sym) (x : X) (o : Option ℕ) (y : X) (behind : ℕ → List Bool) → Choice of rules stmt ws a x o y →
      (left : ℕ → List Bool) × Reduction rules stmt (questioned of ws to_come) (labelled a left) o (labelled a behind)
  choice_answered classes g ws to_come a x o y behind c =
      let s = source a x c.candidates behind (λ n h. fits rules stmt classes g a (coming of ws) n ((c.in_order.exactly n).0 h)) in
      let e = sym (symbols_labelled a s.left) in
      let f = sym (coming_questioned ws to_come) in
      let rule : (taken of rules c.candidates x).rule ≡ o = ap (λ (t : Taken X). t.rule) c.takes in (
        s.left,
        record {
          no_shift = subst (λ (b : List Sym). StandsBefore rules stmt b (grammar_symbol.Tok (replay.coming (questioned of ws to_come))) → ⊥) e
              (subst (λ (t : Tok). StandsBefore rules stmt a (grammar_symbol.Tok t) → ⊥) f c.no_shift);
          candidates = c.candidates;
          in_order = subst (λ (b : List Sym). AreReductions rules stmt b (replay.coming (questioned of ws to_come)) c.candidates) e
              (subst (λ (t : Tok). AreReductions rules stmt a t c.candidates) f c.in_order);
          takes = subst (λ (p : Option ℕ). Takes rules (labelled a s.left) c.candidates p (labelled a behind)) rule s.takes;
        },
      )

  -- no stack has come twice, whatever the answers
  fresh : (before : List (List Sym)) (a : List Sym) (f : ℕ → List Bool) → (Contains before a → ⊥) → Contains before (symbols (labelled a f)) → ⊥
  fresh before a f h = subst (λ (b : List Sym). Contains before b → ⊥) (sym (symbols_labelled a f)) h

  -- the parse ends so for some answers
  abbrev Answers : ℕ → List (List Sym) → List L → List Sym → Outcome → Type 0
  Answers at before ws a o = HasAnswers of rules stmt at before ws a o

  no_answers : ℕ → List Bool
  no_answers i = []

  loops_so : (at : ℕ) (before : List (List Sym)) (ws : List L) (a : List Sym) → Contains before a → Answers at before ws a (outcome.Loops at)
  loops_so at before ws a h = record {
    left = no_answers;
    to_come = no_answers;
    ends = loops (subst (Contains before) (sym (symbols_labelled a no_answers)) h);
  }

  accepts_so : (at : ℕ) (before : List (List Sym)) (ws : List L) (a : List Sym) → (Contains before a → ⊥) → a ≡ grammar_symbol.Class stmt ∷ [] → coming of ws ≡ tok.End
      → Answers at before ws a outcome.Done
  accepts_so at before ws a h e f = record {
    left = no_answers;
    to_come = no_answers;
    ends = accepts (fresh before a no_answers h) (symbols_labelled a no_answers ∙ e) (coming_questioned ws no_answers ∙ f);
  }

  abbrev cons_answers : List Bool → (ℕ → List Bool) → ℕ → List Bool
  cons_answers b f zero = b
  cons_answers b f (suc i) = f i

  shifts_so : (at : ℕ) (before : List (List Sym)) (l : L) (ws : List L) (a : List Sym) (o : Outcome) → (Contains before a → ⊥) → ((of.token l) ≡ tok.End → ⊥)
      → StandsBefore rules stmt a (grammar_symbol.Tok (of.token l)) → Answers (at + 1) [] ws (grammar_symbol.Tok (of.token l) ∷ a) o → Answers at before (l ∷ ws) a o
  shifts_so at before l ws a o h n s ih = record {
    left = λ i. ih.left (suc i);
    to_come = cons_answers (ih.left 0) ih.to_come;
    ends = shifts (fresh before a (λ i. ih.left (suc i)) h) n (subst (λ (b : List Sym). StandsBefore rules stmt b (grammar_symbol.Tok (of.token l)))
        (sym (symbols_labelled a (λ i. ih.left (suc i)))) s) ih.ends;
  }

  blocks_so : (classes : ℕ) → IsGrammar rules stmt classes → (at : ℕ) (before : List (List Sym)) (ws : List L) (a : List Sym) (x y : X) → (Contains before a → ⊥)
      → Choice of rules stmt ws a x None y → Answers at before ws a (outcome.Blocks at)
  blocks_so classes g at before ws a x y h c =
      let q = choice_answered classes g ws no_answers a x None y no_answers c in
      record { left = q.0; to_come = no_answers; ends = blocks (fresh before a q.0 h) q.1 }

  reduced_labelled : (r : Rule) (a : List Sym) (f : ℕ → List Bool) → 0 < length r.right → length r.right ≤ length a
      → reduced (labelled a (above (length r.right - 1) f)) r ≡ labelled (grammar_symbol.Class r.left ∷ drop (length r.right) a) f
  reduced_labelled r a f some within =
      let d : ℕ = length r.right - 1 in
      let lt : length r.right - 1 < length a = omega (arith, some, within) in
      let size : suc (length r.right - 1) ≡ length r.right = omega (arith, some) in
      let low : drop (length r.right) (labelled a (above (length r.right - 1) f)) ≡ labelled (drop (length r.right) a) (λ i. f (suc i)) =
      subst (λ (k : ℕ). drop k (labelled a (above (length r.right - 1) f)) ≡ labelled (drop k a) (λ i. f (suc i))) size (drop_above (length r.right - 1) a f lt) in
      ap (λ (b : List Bool). record { symbol = grammar_symbol.Class r.left; answers = b } ∷ drop (length r.right) (labelled a (above (length r.right - 1) f)))
      (answers_above (length r.right - 1) a f lt)
      ∙ ap (λ (t : List Part). record { symbol = grammar_symbol.Class r.left; answers = f 0 } ∷ t) low

  reduces_so : (classes : ℕ) → IsGrammar rules stmt classes → (at n : ℕ) (before : List (List Sym)) (ws : List L) (a : List Sym) (x y : X) (r : Rule) (o : Outcome)
      → (Contains before a → ⊥) → Choice of rules stmt ws a x (Some n) y → slice_get rules n ≡ Some r
      → Answers at (a ∷ before) ws (grammar_symbol.Class r.left ∷ drop (length r.right) a) o → Answers at before ws a o
  reduces_so classes g at n before ws a x y r o h c there ih =
      let t = taken_fits of rules stmt classes g ws a x n y c in
      let same : t.rule ≡ r = same_Some t.rule r (sym t.there ∙ there) in
      let size : length t.rule.right ≡ length r.right = ap (λ (q : Rule). length q.right) same in
      let some : 0 < length r.right = (let p = t.some in omega (arith, p, size)) in
      let within : length r.right ≤ length a = (let p = t.within in omega (arith, p, size)) in
      let q = choice_answered classes g ws ih.to_come a x (Some n) y (above (length r.right - 1) ih.left) c in
      record {
        left = q.0;
        to_come = ih.to_come;
        ends = reduces r (fresh before a q.0 h) q.1 there
            (subst (λ (b : List Sym). Ends rules stmt at (b ∷ before) (questioned of ws ih.to_come) (reduced (labelled a (above (length r.right - 1) ih.left)) r) o) (sym (symbols_labelled a q.0))
            (subst (λ (s : List Part). Ends rules stmt at (a ∷ before) (questioned of ws ih.to_come) s o) (sym (reduced_labelled r a ih.left some within)) ih.ends));
      }

  -- where a parse isn't refused, some answers lead to the same end
  pub answers_there : (classes : ℕ) → IsGrammar rules stmt classes → {at : ℕ} {before : List (List Sym)} {ws : List L} {a : List Sym} {x : X} {log : List (Move L)} {e : Ending X}
      → Parses of rules stmt at before ws a x log e → (o : Outcome) → EndsSo e o → HasAnswers of rules stmt at before ws a o
  answers_there classes g (parse.loops {at = at} {before = before} {ws = ws} {a = a} h) o e = subst (Answers at before ws a) (sym e) (loops_so at before ws a h)
  answers_there classes g (parse.accepts {at = at} {before = before} {ws = ws} {a = a} h s f) o e = subst (Answers at before ws a) (sym e) (accepts_so at before ws a h s f)
  answers_there classes g (parse.shifts {at = at} {before = before} {l = l} {ws = ws} {a = a} h n s more) o e = shifts_so at before l ws a o h n s (answers_there classes g more o e)
  answers_there classes g (parse.reduces {at = at} {n = n} {before = before} {ws = ws} {a = a} {x = x} {y = y} r h c there red more) o e =
      reduces_so classes g at n before ws a x y r o h c there (answers_there classes g more o e)
  answers_there classes g (parse.refuses r h c t f) o e = absurd e
  answers_there classes g (parse.blocks {at = at} {before = before} {ws = ws} {a = a} {x = x} {y = y} h c) o e = subst (Answers at before ws a) (sym e) (blocks_so classes g at before ws a x y h c)

pub parse_answered : {L X : Type 0} (of : Answering L X) → IsAnswered of
parse_answered of d valid at before w a x log e o g same =
    answers_there of d.rules (stmt_of d.classes) (length d.classes) (is_grammar d valid) g o same

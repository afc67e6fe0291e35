-- The parse by lists is the parse whose symbols carry them.
use Rattle.std.proofs.Common.{◌≡◌, ℕ, zero, suc, ◌<◌, ◌==◌, List, [], ◌∷◌, Option, Some, None, Bool, true, false, Contains, length, drop, slice_get, refl, sym, ap, ◌∙◌, subst}
use Rattle.std.specs.Prelude.{if◌then◌else◌}
use Rattle.std.proofs.lemmas.List.Elements.{Contains-append_right}
use Rattle.std.proofs.lemmas.Option.{same_Some}
use Rattle.gg_base.proofs.Facts.{is_zero}
use Rattle.tree_core.specs.declared.token.Tok.{Tok}
use Rattle.md_reader.specs.declared.types.Rule.{Rule}
use Rattle.md_reader.specs.declared.types.Sym.{Sym}
use Rattle.md_reader.specs.declared.types.Sym.TheVariants as grammar_symbol
use Rattle.lr_tables.specs.Candidates.{StandsBefore, AreReductions}
use Rattle.lr_check.specs.declared.sample.Outcome.{Outcome}
use Rattle.lr_check.specs.Tree.{Token}
use Rattle.lr_check.specs.Parse.{Part, symbols, answer, answers_at, owner_answers, used_at, asked, reduced, Takes, nothing, unrestricted, answered_yes, answered_no, Reduction}
use Rattle.lr_check.specs.Parse.{Ends, loops, accepts, shifts, reduces, blocks}
use Rattle.lr_check.specs.Parse as replay
use Rattle.lr_check.proofs.Parts.{symbols_used}
use Rattle.lr_check.proofs.Contained.{here}
use Rattle.lr_check_parse.specs.Moves.{Move, Shift, Reduce, Ending, Accepts, Blocks, Loops, Taken, coming, decided_at, taken, Choice, Parses}
use Rattle.lr_check_parse.specs.Moves as parse
use Rattle.lr_check_parse.specs.Lists.{Lists, list_at, used, first_of, by_lists, answers_of, EndsSo}
use Rattle.lr_check_parse.specs.Claims.{HasMoves, IsByLists}
use Rattle.lr_check_parse.proofs.Choosing.{no_more, some_more, is_some}

-- ---- what stands beside the symbols

listed : (d : ℕ) (s : List Part) → list_at d (answers_of s) ≡ answers_at s d
listed zero [] = refl
listed (suc d) [] = refl
listed zero (p ∷ s) = refl
listed (suc d) (p ∷ s) = listed d s

used_listed : (d : ℕ) (s : List Part) → answers_of (used_at d s) ≡ used d (answers_of s)
used_listed zero [] = refl
used_listed (suc d) [] = refl
used_listed zero (p ∷ s) = refl
used_listed (suc d) (p ∷ s) = ap (λ (x : Lists). p.answers ∷ x) (used_listed d s)

dropped_listed : (k : ℕ) (s : List Part) → answers_of (drop k s) ≡ drop k (answers_of s)
dropped_listed zero s = refl
dropped_listed (suc k) [] = refl
dropped_listed (suc k) (p ∷ s) = dropped_listed k s

dropped_symbols : (k : ℕ) (s : List Part) → symbols (drop k s) ≡ drop k (symbols s)
dropped_symbols zero s = refl
dropped_symbols (suc k) [] = refl
dropped_symbols (suc k) (p ∷ s) = dropped_symbols k s

reduced_listed : (r : Rule) (s : List Part) → answers_of (reduced s r) ≡ list_at (first_of r) (answers_of s) ∷ drop (length r.right) (answers_of s)
reduced_listed r s =
    ap (λ (l : List Bool). l ∷ answers_of (drop (length r.right) s)) (sym (listed (first_of r) s))
    ∙ ap (λ (x : Lists). list_at (first_of r) (answers_of s) ∷ x) (dropped_listed (length r.right) s)

reduced_symbols : (r : Rule) (s : List Part) → symbols (reduced s r) ≡ grammar_symbol.Class r.left ∷ drop (length r.right) (symbols s)
reduced_symbols r s = ap (λ (a : List Sym). grammar_symbol.Class r.left ∷ a) (dropped_symbols (length r.right) s)

coming_is : (ws : List Token) → replay.coming ws ≡ coming by_lists ws
coming_is [] = refl
coming_is (w ∷ ws) = refl

module _ (rules : List Rule) where
  abbrev Result : Option ℕ → Lists → Taken Lists
  Result o x = record { rule = o; kept = x }

  abbrev others : List ℕ → Lists → Taken Lists
  others ns z = taken by_lists rules ns z

  abbrev tested : ℕ → Rule → List ℕ → Lists → Bool → Bool → Taken Lists
  tested n r ns x b c = if b then Result (Some n) x else if c then Result (Some n) (used (first_of r) x) else others ns (used (first_of r) x)

  -- how the first candidate is decided
  decided_is : (n : ℕ) (ns : List ℕ) (r : Rule) (x : Lists) (b c : Bool) → slice_get rules n ≡ Some r → (length r.restrictions == 0) ≡ b → answer (list_at (first_of r) x) ≡ c
      → taken by_lists rules (n ∷ ns) x ≡ tested n r ns x b c
  decided_is n ns r x b c there e f =
      ap (λ (o : Option Rule). decided_at by_lists n o x (others ns)) there
      ∙ ap (λ (q : Bool). tested n r ns x q (answer (list_at (first_of r) x))) e
      ∙ ap (λ (q : Bool). tested n r ns x b q) f

  says_is : (r : Rule) (s : List Part) (c : Bool) → answer (owner_answers s r) ≡ c → answer (list_at (first_of r) (answers_of s)) ≡ c
  says_is r s c e = ap answer (listed (first_of r) s) ∙ e

  -- ---- a choice with parts is one by lists

  taken_listed : {s s' : List Part} {ns : List ℕ} {o : Option ℕ} → Takes rules s ns o s' → (taken by_lists rules ns (answers_of s) ≡ Result o (answers_of s')) × (symbols s' ≡ symbols s)
  taken_listed nothing = (refl, refl)
  taken_listed (unrestricted {s = s} {n = n} {ns = ns} r there e) =
      (decided_is n ns r (answers_of s) true (answer (list_at (first_of r) (answers_of s))) there (is_zero (length r.restrictions) e) refl, refl)
  taken_listed (answered_yes {s = s} {n = n} {ns = ns} r there more said) = (
    decided_is n ns r (answers_of s) false true there (is_some (length r.restrictions) more) (says_is r s true said) ∙ ap (Result (Some n)) (sym (used_listed (first_of r) s)),
    symbols_used (first_of r) s,
  )
  taken_listed (answered_no {s = s} {n = n} {ns = ns} r there more said rest) =
      let ih = taken_listed rest in (
        decided_is n ns r (answers_of s) false false there (is_some (length r.restrictions) more) (says_is r s false said) ∙ ap (others ns) (sym (used_listed (first_of r) s)) ∙ ih.0,
        ih.1 ∙ symbols_used (first_of r) s,
      )

  -- ---- and a choice by lists is one with parts

  pub record TakesSo (s : List Part) (ns : List ℕ) (o : Option ℕ) (x : Lists) : Type 0 where
    pub stack : List Part
    pub takes : Takes rules s ns o stack
    pub answers : answers_of stack ≡ x
    pub same : symbols stack ≡ symbols s

  abbrev AreThere : List ℕ → Type 0
  AreThere ns = (n : ℕ) → Contains ns n → (r : Rule) × (slice_get rules n ≡ Some r)

  result_rule : (o p : Option ℕ) (x y : Lists) → Result o x ≡ Result p y → o ≡ p
  result_rule o p x y e = ap (λ (t : Taken Lists). t.rule) e

  result_kept : (o p : Option ℕ) (x y : Lists) → Result o x ≡ Result p y → x ≡ y
  result_kept o p x y e = ap (λ (t : Taken Lists). t.kept) e

  listed_taken : (ns : List ℕ) (s : List Part) (o : Option ℕ) (x : Lists) → AreThere ns → taken by_lists rules ns (answers_of s) ≡ Result o x → TakesSo s ns o x
  listed_taken [] s o x are e = record {
    stack = s;
    takes = subst (λ (p : Option ℕ). Takes rules s [] p s) (result_rule None o (answers_of s) x e) nothing;
    answers = result_kept None o (answers_of s) x e;
    same = refl;
  }
  listed_taken (n ∷ ns) s o x are e =
      let r = (are n (here n ns)).0 in
      let there = (are n (here n ns)).1 in
      by r there (length r.restrictions == 0) (answer (owner_answers s r)) refl refl
      (sym (decided_is n ns r (answers_of s) (length r.restrictions == 0) (answer (owner_answers s r)) there refl (says_is r s (answer (owner_answers s r)) refl)) ∙ e)
      (λ t f. listed_taken ns t o x (λ m c. are m (Contains-append_right (n ∷ []) ns m c)) f)
    where
      denied : (r : Rule) → slice_get rules n ≡ Some r → 0 < length r.restrictions → answer (owner_answers s r) ≡ false → TakesSo (asked s r) ns o x → TakesSo s (n ∷ ns) o x
      denied r there more f t = record { stack = t.stack; takes = answered_no r there more f t.takes; answers = t.answers; same = t.same ∙ symbols_used (first_of r) s }

      by : (r : Rule) → slice_get rules n ≡ Some r → (b c : Bool) → (length r.restrictions == 0) ≡ b → answer (owner_answers s r) ≡ c → tested n r ns (answers_of s) b c ≡ Result o x
          → ((t : List Part) → taken by_lists rules ns (answers_of t) ≡ Result o x → TakesSo t ns o x) → TakesSo s (n ∷ ns) o x
      by r there true c f g h go = record {
        stack = s;
        takes = subst (λ (p : Option ℕ). Takes rules s (n ∷ ns) p s) (result_rule (Some n) o (answers_of s) x h) (unrestricted r there (no_more (length r.restrictions) f));
        answers = result_kept (Some n) o (answers_of s) x h;
        same = refl;
      }
      by r there false true f g h go = record {
        stack = asked s r;
        takes = subst (λ (p : Option ℕ). Takes rules s (n ∷ ns) p (asked s r)) (result_rule (Some n) o (used (first_of r) (answers_of s)) x h)
            (answered_yes r there (some_more (length r.restrictions) f) g);
        answers = used_listed (first_of r) s ∙ result_kept (Some n) o (used (first_of r) (answers_of s)) x h;
        same = symbols_used (first_of r) s;
      }
      by r there false false f g h go = denied r there (some_more (length r.restrictions) f) g (go (asked s r) (ap (others ns) (used_listed (first_of r) s) ∙ h))

  module _ (stmt : ℕ) where
    choice_listed : (ws : List Token) (s s' : List Part) (o : Option ℕ) → Reduction rules stmt ws s o s' → Choice by_lists rules stmt ws (symbols s) (answers_of s) o (answers_of s')
    choice_listed ws s s' o c = record {
      no_shift = subst (λ (t : Tok). StandsBefore rules stmt (symbols s) (grammar_symbol.Tok t) → ⊥) (coming_is ws) c.no_shift;
      candidates = c.candidates;
      in_order = subst (λ (t : Tok). AreReductions rules stmt (symbols s) t c.candidates) (coming_is ws) c.in_order;
      takes = (taken_listed c.takes).0;
    }

    choice_back : (ws : List Token) (s : List Part) (o : Option ℕ) (x : Lists) → (c : Choice by_lists rules stmt ws (symbols s) (answers_of s) o x)
        → (t : TakesSo s c.candidates o x) × Reduction rules stmt ws s o t.stack
    choice_back ws s o x c =
        let t = listed_taken c.candidates s o x (λ n h. let m = (c.in_order.exactly n).0 h in (m.rule, m.there)) c.takes in (
          t,
          record {
            no_shift = subst (λ (k : Tok). StandsBefore rules stmt (symbols s) (grammar_symbol.Tok k) → ⊥) (sym (coming_is ws)) c.no_shift;
            candidates = c.candidates;
            in_order = subst (λ (k : Tok). AreReductions rules stmt (symbols s) k c.candidates) (sym (coming_is ws)) c.in_order;
            takes = t.takes;
          },
        )

    -- ---- the parses

    abbrev Moves : ℕ → List (List Sym) → List Token → List Part → Outcome → Type 0
    Moves at before ws s o = HasMoves rules stmt at before ws s o

    abbrev P : ℕ → List (List Sym) → List Token → List Sym → Lists → List (Move Token) → Ending Lists → Type 0
    P at before ws a x log e = Parses by_lists rules stmt at before ws a x log e

    reduces_moves : (at n : ℕ) (before : List (List Sym)) (ws : List Token) (s s' : List Part) (r : Rule) (o : Outcome) → (Contains before (symbols s) → ⊥)
        → Reduction rules stmt ws s (Some n) s' → slice_get rules n ≡ Some r
        → Moves at (symbols s ∷ before) ws (reduced s' r) o → Moves at before ws s o
    reduces_moves at n before ws s s' r o h c there ih =
        let same : symbols s' ≡ symbols s = (taken_listed c.takes).1 in
        let a : symbols (reduced s' r) ≡ grammar_symbol.Class r.left ∷ drop (length r.right) (symbols s) = reduced_symbols r s'
        ∙ ap (λ (b : List Sym). grammar_symbol.Class r.left ∷ drop (length r.right) b) same in
        record {
          log = Reduce n ∷ ih.log;
          end = ih.end;
          same = ih.same;
          parses = parse.reduces r h (choice_listed ws s s' (Some n) c) there refl
              (subst (λ (x : Lists). P at (symbols s ∷ before) ws (grammar_symbol.Class r.left ∷ drop (length r.right) (symbols s)) x ih.log ih.end) (reduced_listed r s')
              (subst (λ (b : List Sym). P at (symbols s ∷ before) ws b (answers_of (reduced s' r)) ih.log ih.end) a ih.parses));
        }

    moves_there : {at : ℕ} {before : List (List Sym)} {ws : List Token} {s : List Part} {o : Outcome} → Ends rules stmt at before ws s o → Moves at before ws s o
    moves_there (loops {at = at} h) = record { log = []; end = Loops at; same = refl; parses = parse.loops h }
    moves_there (accepts {ws = ws} {s = s} h e f) = record { log = []; end = Accepts (answers_of s); same = refl; parses = parse.accepts h e (sym (coming_is ws) ∙ f) }
    moves_there (shifts {w = w} h n b more) = (let ih = moves_there more in record { log = Shift w ∷ ih.log; end = ih.end; same = ih.same; parses = parse.shifts h n b ih.parses })
    moves_there (reduces {at = at} {n = n} {before = before} {ws = ws} {s = s} {s' = s'} {o = o} r h c there more) = reduces_moves at n before ws s s' r o h c there (moves_there more)
    moves_there (blocks {at = at} {ws = ws} {s = s} {s' = s'} h c) = record { log = []; end = Blocks at; same = refl; parses = parse.blocks h (choice_listed ws s s' None c) }

    reduces_back : (at n : ℕ) (before : List (List Sym)) (ws : List Token) (s : List Part) (y : Lists) (r : Rule) (o : Outcome) → (Contains before (symbols s) → ⊥)
        → Choice by_lists rules stmt ws (symbols s) (answers_of s) (Some n) y → slice_get rules n ≡ Some r
        → ((t : List Part) → symbols t ≡ grammar_symbol.Class r.left ∷ drop (length r.right) (symbols s) → answers_of t ≡ list_at (first_of r) y ∷ drop (length r.right) y
        → Ends rules stmt at (symbols s ∷ before) ws t o)
        → Ends rules stmt at before ws s o
    reduces_back at n before ws s y r o h c there go =
        let q = choice_back ws s (Some n) y c in
        let t = q.0.stack in
        reduces r h q.1 there
        (go (reduced t r) (reduced_symbols r t ∙ ap (λ (b : List Sym). grammar_symbol.Class r.left ∷ drop (length r.right) b) q.0.same)
        (reduced_listed r t ∙ ap (λ (x : Lists). list_at (first_of r) x ∷ drop (length r.right) x) q.0.answers))

    ends_there : {at : ℕ} {before : List (List Sym)} {ws : List Token} {a : List Sym} {x : Lists} {log : List (Move Token)} {e : Ending Lists} → P at before ws a x log e
        → (s : List Part) → symbols s ≡ a → answers_of s ≡ x → (o : Outcome) → EndsSo e o → Ends rules stmt at before ws s o
    ends_there (parse.loops {at = at} {before = before} {ws = ws} h) s f g o e =
        subst (Ends rules stmt at before ws s) (sym e) (loops (subst (Contains before) (sym f) h))
    ends_there (parse.accepts {at = at} {before = before} {ws = ws} h k l) s f g o e =
        subst (Ends rules stmt at before ws s) (sym e) (accepts (subst (λ (b : List Sym). Contains before b → ⊥) (sym f) h) (f ∙ k) (coming_is ws ∙ l))
    ends_there (parse.shifts {before = before} {l = w} h n b more) s f g o e =
        shifts (subst (λ (b : List Sym). Contains before b → ⊥) (sym f) h) n (subst (λ (b : List Sym). StandsBefore rules stmt b (grammar_symbol.Tok w.tok)) (sym f) b)
        (ends_there more (record { symbol = grammar_symbol.Tok w.tok; answers = w.answers } ∷ s) (ap (λ (b : List Sym). grammar_symbol.Tok w.tok ∷ b) f) (ap (λ (y : Lists). w.answers ∷ y) g) o e)
    ends_there (parse.reduces {at = at} {n = n} {before = before} {ws = ws} {a = a} {x = x} {y = y} {z = z} r h c there red more) s f g o e =
        let left : z ≡ list_at (first_of r) y ∷ drop (length r.right) y = sym (same_Some _ z red) in
        reduces_back at n before ws s y r o (subst (λ (b : List Sym). Contains before b → ⊥) (sym f) h)
        (subst (λ (b : List Sym). Choice by_lists rules stmt ws b (answers_of s) (Some n) y) (sym f) (subst (λ (v : Lists). Choice by_lists rules stmt ws a v (Some n) y) (sym g) c)) there
        (λ t k l. subst (λ (b : List Sym). Ends rules stmt at (b ∷ before) ws t o) (sym f)
        (ends_there more t (k ∙ ap (λ (b : List Sym). grammar_symbol.Class r.left ∷ drop (length r.right) b) f) (l ∙ sym left) o e))
    ends_there (parse.refuses r h c t f) s k g o e = absurd e
    ends_there (parse.blocks {at = at} {before = before} {ws = ws} {a = a} {x = x} {y = y} h c) s f g o e =
        subst (Ends rules stmt at before ws s) (sym e)
        (blocks (subst (λ (b : List Sym). Contains before b → ⊥) (sym f) h)
        (choice_back ws s None y (subst (λ (b : List Sym). Choice by_lists rules stmt ws b (answers_of s) None y) (sym f)
        (subst (λ (v : Lists). Choice by_lists rules stmt ws a v None y) (sym g) c))).1)

pub is_by_lists : IsByLists
is_by_lists rules stmt at before ws s o = (moves_there rules stmt, λ m. ends_there rules stmt m.parses s refl refl o m.same)

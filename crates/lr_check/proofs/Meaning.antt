-- Each step of the code is one of the parse.
use Rattle.std.proofs.Common.{◌≡◌, ℕ, zero, suc, ◌+◌, ◌≤◌, ◌<◌, List, [], ◌∷◌, Option, Some, None, Bool, true, false, cond, Contains, length, get_or, set, drop, map, replicate}
use Rattle.std.proofs.Common.{slice_get, refl, sym, ap, ◌∙◌, subst, arith, length-set}
use Rattle.std.specs.Prelude.{nat_lt}
use Rattle.std.proofs.lemmas.List.{length-map, length-drop, length-replicate}
use Rattle.std.proofs.lemmas.Bool.{ltb-true, ltb-false, both_ways}
use Rattle.std.proofs.lemmas.Option.{same_Some, none-some}
use Rattle.tree_core.specs.declared.token.Tok.TheVariants as tok
use Rattle.md_reader.specs.declared.types.Rule.{Rule}
use Rattle.md_reader.specs.declared.types.Sym.{Sym}
use Rattle.md_reader.specs.declared.types.Sym.TheVariants as grammar_symbol
use Rattle.lr_tables.specs.Statements.{stmt_of}
use Rattle.lr_tables.specs.View.{TableView}
use Rattle.lr_tables.specs.Leads.{Leads}
use Rattle.lr_tables.specs.Candidates.{StandsBefore, Goes}
use Rattle.lr_check.specs.declared.stack.Entry.{Entry}
use Rattle.lr_check.specs.declared.sample.Outcome.{Outcome}
use Rattle.lr_check.specs.declared.sample.Outcome.TheVariants as outcome
use Rattle.lr_check.specs.Tree.{Node, Token}
use Rattle.lr_check.specs.Parse as parse
use Rattle.lr_check.specs.Parse.{Part, symbols, coming, Ends}
use Rattle.lr_check.specs.Steps.{Config, tok_of, token_of, After, shifted, seen_before, marked}
use Rattle.lr_check.specs.Questions.{answers_of}
use Rattle.lr_check.proofs.Parts.{Stands, above}
use Rattle.lr_check.proofs.Seen.{Seen, none_marked, seen_shift, seen_unit, seen_long}
use Rattle.lr_check.proofs.Contained.{nowhere_in}

-- a node's token
abbrev pub token_at : List Node → ℕ → Token
token_at nodes n = record { tok = tok_of (slice_get nodes n); answers = answers_of (slice_get nodes n) }

abbrev pub tokens_from : List Node → ℕ → List ℕ → List Token
tokens_from nodes at order = map (token_at nodes) (drop at order)

pub coming_is : (nodes : List Node) (order : List ℕ) (at : ℕ) → coming (tokens_from nodes at order) ≡ token_of nodes (slice_get order at)
coming_is nodes [] zero = refl
coming_is nodes [] (suc at) = refl
coming_is nodes (n ∷ order) zero = refl
coming_is nodes (n ∷ order) (suc at) = coming_is nodes order at

next_is : (nodes : List Node) (order : List ℕ) (at n : ℕ) → slice_get order at ≡ Some n → tokens_from nodes at order ≡ token_at nodes n ∷ tokens_from nodes (at + 1) order
next_is nodes [] at n e = absurd (none-some n e)
next_is nodes (m ∷ order) zero n e = ap (λ (x : ℕ). token_at nodes x ∷ map (token_at nodes) order) (same_Some m n e)
next_is nodes (m ∷ order) (suc at) n e =
    let more : suc at + 1 ≡ suc (at + 1) = omega arith in
    next_is nodes order at n e ∙ ap (λ (x : ℕ). token_at nodes n ∷ tokens_from nodes x (m ∷ order)) (sym more)

-- the code's stack, marks and place are those of the parse
pub record Agrees (t : TableView) (nodes : List Node) (order : List ℕ) (before : List (List Sym)) (ws : List Token) (s : List Part) (c : Config) : Type 0 where
  pub stands : Stands t nodes c.stack s
  pub to_come : ws ≡ tokens_from nodes c.at order
  pub seen : Seen c.seen (symbols s) (symbols s ∷ before)
  pub fresh : Contains before (symbols s) → ⊥
  pub classes : length c.seen ≡ length t.content.classes

-- what a step of the code means: the parse ends so, or it goes on
pub data Meant (t : TableView) (nodes : List Node) (order : List ℕ) (at : ℕ) (before : List (List Sym)) (ws : List Token) (s : List Part) : After → Type 0 where
  ended : {o : Outcome} {c : Config} →
      Ends t.content.rules (stmt_of t.content.classes) at before ws s o →
      Meant t nodes order at before ws s (record { ending = Some o; config = c })
  went : {c : Config} (before' : List (List Sym)) (ws' : List Token) (s' : List Part) →
      Agrees t nodes order before' ws' s' c →
      ((o : Outcome) → Ends t.content.rules (stmt_of t.content.classes) c.at before' ws' s' o → Ends t.content.rules (stmt_of t.content.classes) at before ws s o) →
      Meant t nodes order at before ws s (record { ending = None; config = c })

pub length_symbols : (s : List Part) → length (symbols s) ≡ length s
length_symbols s = length-map s (λ (p : Part). p.symbol)

pub goes_some : (rules : List Rule) (stmt : ℕ) (t : TableView) (a : List Sym) (c : ℕ) (o : Option ℕ) → Goes rules stmt t a c o → StandsBefore rules stmt a (grammar_symbol.Class c) → (q : ℕ)
    × (o ≡ Some q) × Leads t (grammar_symbol.Class c ∷ a) q
goes_some rules stmt t a c None g s = absurd (g s)
goes_some rules stmt t a c (Some q) g s = (q, refl, g.1)

module _ (t : TableView) (nodes : List Node) (order : List ℕ) (c : Config) (before : List (List Sym)) (ws : List Token) (s : List Part) (a : Agrees t nodes order before ws s c) where
  -- a token is shifted
  pub shift_meant : (q : ℕ) (next : Option ℕ) → slice_get order c.at ≡ next → StandsBefore t.content.rules (stmt_of t.content.classes) (symbols s) (grammar_symbol.Tok (token_of nodes next))
      → (token_of nodes next ≡ tok.End → ⊥) → Leads t (grammar_symbol.Tok (token_of nodes next) ∷ symbols s) q →
      Meant t nodes order c.at before ws s (shifted c c.stack q next)
  shift_meant q None e b ne leads = absurd (ne refl)
  shift_meant q (Some n) e b ne leads =
      let here : ws ≡ token_at nodes n ∷ tokens_from nodes (c.at + 1) order = a.to_come ∙ next_is nodes order c.at n e in
      went [] (tokens_from nodes (c.at + 1) order) (record { symbol = grammar_symbol.Tok (tok_of (slice_get nodes n)); answers = answers_of (slice_get nodes n) } ∷ s)
      (record {
        stands = above (record { state = q; node = n; used = 0 }) a.stands leads refl refl;
        to_come = refl;
        seen = seen_shift (length c.seen) (tok_of (slice_get nodes n)) (symbols s);
        fresh = λ h. nowhere_in (grammar_symbol.Tok (tok_of (slice_get nodes n)) ∷ symbols s) h;
        classes = length-replicate (length c.seen) false ∙ a.classes;
      })
      (λ o h. subst (λ (x : List Token). Ends t.content.rules (stmt_of t.content.classes) c.at before x s o) (sym here) (parse.shifts {w = token_at nodes n} a.fresh ne b h))

  -- a class comes on top, in the place of so many symbols
  module _ (stack : List Entry) (s' : List Part) (size class : ℕ)
      (onward : (o : Outcome) → Ends t.content.rules (stmt_of t.content.classes) c.at (symbols s ∷ before) ws s' o → Ends t.content.rules (stmt_of t.content.classes) c.at before ws s o)
      (stands : Stands t nodes stack s') (top : symbols s' ≡ grammar_symbol.Class class ∷ drop size (symbols s)) (some : 0 < size) (within : size ≤ length (symbols s)) (lt : class < length c.seen)
    where
      went_on : (seen : List Bool) → Seen seen (grammar_symbol.Class class ∷ drop size (symbols s)) ((grammar_symbol.Class class ∷ drop size (symbols s)) ∷ symbols s ∷ before)
          → (Contains (symbols s ∷ before) (grammar_symbol.Class class ∷ drop size (symbols s)) → ⊥) → length seen ≡ length c.seen →
          Meant t nodes order c.at before ws s (record { ending = None; config = record { at = c.at; stack = stack; seen = seen } })
      went_on seen marks fresh l = went (symbols s ∷ before) ws s'
          (record {
            stands = stands;
            to_come = a.to_come;
            seen = subst (λ (x : List Sym). Seen seen x (x ∷ symbols s ∷ before)) (sym top) marks;
            fresh = λ h. fresh (subst (Contains (symbols s ∷ before)) top h);
            classes = l ∙ a.classes;
          })
          onward

      long_meant : 1 < size → Meant t nodes order c.at before ws s (marked (record { at = c.at; stack = stack; seen = replicate (length c.seen) false }) class)
      long_meant two = by (get_or (replicate (length c.seen) false) class false) refl
        where
          less : length (drop size (symbols s)) + 1 < length (symbols s)
          less = let l = length-drop size (symbols s) in omega (arith, l, two, within)

          by : (b : Bool) → get_or (replicate (length c.seen) false) class false ≡ b →
              Meant t nodes order c.at before ws s (cond b (record {
                ending = Some (outcome.Loops c.at);
                config =
                    record { at = c.at; stack = stack; seen = replicate (length c.seen) false };
              })
              (record { ending = None; config = record { at = c.at; stack = stack; seen = set (replicate (length c.seen) false) class true } }))
          by true e = absurd (none_marked (length c.seen) class e)
          by false e =
              went_on (set (replicate (length c.seen) false) class true)
              (seen_long c.seen (symbols s) (drop size (symbols s)) (symbols s ∷ before) class (length c.seen) a.seen less lt)
              (λ h. let l = a.seen.lower (grammar_symbol.Class class ∷ drop size (symbols s)) h in omega (arith, l, less))
              (length-set (replicate (length c.seen) false) class true ∙ length-replicate (length c.seen) false)

      unit_meant : size ≡ 1 → Meant t nodes order c.at before ws s (marked (record { at = c.at; stack = stack; seen = c.seen }) class)
      unit_meant one = by (get_or c.seen class false) refl
        where
          same : grammar_symbol.Class class ∷ drop 1 (symbols s) ≡ grammar_symbol.Class class ∷ drop size (symbols s)
          same = ap (λ (n : ℕ). grammar_symbol.Class class ∷ drop n (symbols s)) (sym one)

          by : (b : Bool) → get_or c.seen class false ≡ b →
              Meant t nodes order c.at before ws s (cond b (record { ending = Some (outcome.Loops c.at); config = record { at = c.at; stack = stack; seen = c.seen } })
              (record { ending = None; config = record { at = c.at; stack = stack; seen = set c.seen class true } }))
          by true e = ended (onward (outcome.Loops c.at) (parse.loops (subst (Contains (symbols s ∷ before)) (same ∙ sym top) (a.seen.there class e))))
          by false e =
              went_on (set c.seen class true)
              (subst (λ (x : List Sym). Seen (set c.seen class true) x (x ∷ symbols s ∷ before)) same (seen_unit c.seen (symbols s) (symbols s ∷ before) class a.seen (omega (arith, some, within)) lt))
              (λ h. both_ways (get_or c.seen class false) e (a.seen.back class (subst (Contains (symbols s ∷ before)) (sym same) h)))
              (length-set c.seen class true)

      pub class_meant : Meant t nodes order c.at before ws s (marked (record { at = c.at; stack = stack; seen = seen_before c size }) class)
      class_meant = by (nat_lt 1 size) refl
        where
          by : (b : Bool) → nat_lt 1 size ≡ b → Meant t nodes order c.at before ws s (marked (record { at = c.at; stack = stack; seen = cond b (replicate (length c.seen) false) c.seen }) class)
          by true e = long_meant (ltb-true 1 size e)
          by false e = unit_meant (let le = ltb-false 1 size e in omega (arith, le, some))

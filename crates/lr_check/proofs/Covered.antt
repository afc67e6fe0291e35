-- What a complete item says of the stack that it is valid for.
use Rattle.std.proofs.Common.{◌≡◌, ℕ, zero, suc, ◌+◌, ◌≤◌, List, [], ◌∷◌, Option, Some, None, length, drop, slice_get, refl, sym, ap, ◌∙◌, subst, arith, add-one}
use Rattle.std.specs.Option.{option_map}
use Rattle.std.proofs.lemmas.Option.{same_Some, none-some}
use Rattle.tree_core.specs.declared.token.Tok.TheVariants as tok
use Rattle.md_reader.specs.declared.types.Rule.{Rule}
use Rattle.md_reader.specs.declared.types.Sym.{Sym}
use Rattle.md_reader.specs.declared.types.Sym.TheVariants as grammar_symbol
use Rattle.lr_tables.specs.declared.item.Item.{Item}
use Rattle.lr_tables.specs.Items.{right_at, right_of, left_of, next, start, fresh, advanced, Items, starts, opens, moves}
use Rattle.lr_tables.specs.Grammar.{IsGrammar}
use Rattle.lr_tables.specs.Candidates.{StandsBefore}

module _ (rules : List Rule) (stmt : ℕ) where
  -- an item's symbols before the dot are on the stack, and below them it has the dot first
  pub record Covers (a : List Sym) (i : Item) : Type 0 where
    pub within : i.dot ≤ length a
    pub below : Items rules stmt (drop i.dot a) (record { rule = i.rule; dot = 0 })

  dot_more : (d : ℕ) (X : Sym) (a : List Sym) → drop (d + 1) (X ∷ a) ≡ drop d a
  dot_more d X a = ap (λ (n : ℕ). drop n (X ∷ a)) (add-one d)

  covers_more : (a : List Sym) (X : Sym) (i : Item) → Covers a i → Covers (X ∷ a) (advanced i)
  covers_more a X i c = record {
    within = (let w = c.within in omega (arith, w));
    below = subst (λ (b : List Sym). Items rules stmt b (record { rule = i.rule; dot = 0 })) (sym (dot_more i.dot X a)) c.below;
  }

  pub covers : {a : List Sym} {i : Item} → Items rules stmt a i → Covers a i
  covers starts = record { within = omega arith; below = starts }
  covers (opens {a = a} {n = n} h before left) = record { within = omega arith; below = opens h before left }
  covers (moves {a = a} {i = i} {X = X} h before e) = subst (Covers (X ∷ a)) (sym e) (covers_more a X i (covers h))

  unlike_dots : (i : Item) → i.dot + 1 ≡ 0 → ⊥
  unlike_dots i e = omega (arith, e)

  -- a rule with the dot first is opened by an item before its class
  pub opened : {a : List Sym} {i : Item} → Items rules stmt a i → (n : ℕ) (r : Rule) → i ≡ fresh n → slice_get rules n ≡ Some r → StandsBefore rules stmt a (grammar_symbol.Class r.left)
  opened starts n r e there = absurd (none-some n (ap (λ (x : Item). x.rule) e))
  opened (opens {a = a} {i = i} {c = c} {n = m} h before left) n r e there =
      let same : m ≡ n = same_Some m n (ap (λ (x : Item). x.rule) e) in
      let is : left_of rules m ≡ Some r.left = ap (λ (x : ℕ). left_of rules x) same ∙ ap (option_map (λ (q : Rule). q.left)) there in
      let class : c ≡ r.left = same_Some c r.left (sym left ∙ is) in
      record { item = i; valid = h; before = before ∙ ap (λ (x : ℕ). Some (grammar_symbol.Class x)) class }
  opened (moves {i = i} {j = j} h before f) n r e there = absurd (unlike_dots i (ap (λ (x : Item). x.dot) (sym f ∙ e)))

  -- the start with the dot first is valid for the empty stack alone
  start_alone : {a : List Sym} {i : Item} → Items rules stmt a i → i ≡ start → a ≡ []
  start_alone starts e = refl
  start_alone (opens {n = n} h before left) e = absurd (none-some n (ap (λ (x : Item). x.rule) (sym e)))
  start_alone (moves {i = i} h before f) e = absurd (unlike_dots i (ap (λ (x : Item). x.dot) (sym f ∙ e)))

  class_same : (X : Sym) → Some (grammar_symbol.Class stmt) ≡ Some X → X ≡ grammar_symbol.Class stmt
  class_same X e = sym (same_Some (grammar_symbol.Class stmt) X e)

  -- behind its class the start is valid for a statement alone
  statement_moved : {a : List Sym} {j : Item} → Items rules stmt a j → j.rule ≡ None → j.dot ≡ 1 → a ≡ grammar_symbol.Class stmt ∷ []
  statement_moved starts e f = absurd (omega (arith, f))
  statement_moved (opens {n = n} h before left) e f = absurd (none-some n (sym e))
  statement_moved (moves {a = a} {i = i} {j = j} {X = X} h before g) e f =
      let first : i.dot ≡ 0 = (let d = ap (λ (x : Item). x.dot) g in omega (arith, d, f)) in
      let rule : i.rule ≡ None = sym (ap (λ (x : Item). x.rule) g) ∙ e in
      let same : i ≡ start = λ k. record { rule = rule k; dot = first k } in
      let top : X ≡ grammar_symbol.Class stmt = class_same X (sym (ap (next rules stmt) same) ∙ before) in
      ap (λ (b : List Sym). X ∷ b) (start_alone h same) ∙ ap (λ (x : Sym). x ∷ []) top

  class_no_token : (c : ℕ) → Some (grammar_symbol.Class c) ≡ Some (grammar_symbol.Tok tok.End) → ⊥
  class_no_token c e = cc

  start_dot : (d : ℕ) → slice_get (right_of rules stmt None) d ≡ Some (grammar_symbol.Tok tok.End) → d ≡ 1
  start_dot zero e = absurd (class_no_token stmt e)
  start_dot (suc zero) e = refl
  start_dot (suc (suc d)) e = absurd (none-some (grammar_symbol.Tok tok.End) e)

  -- where an item stands before the end, the stack is a statement
  pub statement_alone : (classes : ℕ) → IsGrammar rules stmt classes → (a : List Sym) → StandsBefore rules stmt a (grammar_symbol.Tok tok.End) → a ≡ grammar_symbol.Class stmt ∷ []
  statement_alone classes g a s = by s.item.rule refl
    where
      in_rule : (n : ℕ) → (o : Option Rule) → slice_get rules n ≡ o → slice_get (right_at o) s.item.dot ≡ Some (grammar_symbol.Tok tok.End) → ⊥
      in_rule n None e f = none-some (grammar_symbol.Tok tok.End) f
      in_rule n (Some r) e f = g.no_end n s.item.dot r e f

      by : (o : Option ℕ) → s.item.rule ≡ o → a ≡ grammar_symbol.Class stmt ∷ []
      by None e = statement_moved s.valid e (start_dot s.item.dot (sym (ap (λ (x : Option ℕ). slice_get (right_of rules stmt x) s.item.dot) e) ∙ s.before))
      by (Some n) e = absurd (in_rule n (slice_get rules n) refl (sym (ap (λ (x : Option ℕ). slice_get (right_of rules stmt x) s.item.dot) e) ∙ s.before))

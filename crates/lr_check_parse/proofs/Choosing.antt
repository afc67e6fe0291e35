-- Which rule is taken, whoever answers.
use Rattle.std.proofs.Common.{◌≡◌, ℕ, zero, suc, ◌<◌, ◌≤◌, ◌==◌, List, [], ◌∷◌, Option, Some, None, Bool, true, false, Contains, length, slice_get, refl, sym, ap, ◌∙◌, subst, arith}
use Rattle.std.specs.Prelude.{if◌then◌else◌}
use Rattle.std.proofs.lemmas.Bool.{ne_eqb, false≢true}
use Rattle.std.proofs.lemmas.List.Elements.{Contains-append_right}
use Rattle.std.proofs.lemmas.Option.{same_Some}
use Rattle.gg_base.proofs.Facts.{some_none}
use Rattle.tree_core.specs.declared.token.Tok.{Tok}
use Rattle.md_reader.specs.declared.types.Rule.{Rule}
use Rattle.md_reader.specs.declared.types.Sym.{Sym}
use Rattle.lr_tables.specs.Grammar.{IsGrammar}
use Rattle.lr_tables.specs.Candidates.{MayReduce}
use Rattle.lr_check.proofs.Covered.{covers}
use Rattle.lr_check.proofs.Contained.{here}
use Rattle.lr_check_parse.specs.Moves.{Answering, Taken, coming, decided_at, taken, Choice}

-- how many restrictions there are
pub no_more : (n : ℕ) → (n == 0) ≡ true → n ≡ 0
no_more zero e = refl
no_more (suc n) e = absurd (false≢true (sym (ne_eqb (suc n) 0 (λ q. omega (arith, q))) ∙ e))

pub some_more : (n : ℕ) → (n == 0) ≡ false → 0 < n
some_more zero e = absurd (false≢true (sym e))
some_more (suc n) e = omega arith

pub is_some : (n : ℕ) → 0 < n → (n == 0) ≡ false
is_some n lt = ne_eqb n 0 (λ q. omega (arith, q, lt))

-- a rule's right side has symbols, and no more than stand on the stack
pub record Fits (rules : List Rule) (a : List Sym) (n : ℕ) : Type 0 where
  pub rule : Rule
  pub there : slice_get rules n ≡ Some rule
  pub some : 0 < length rule.right
  pub within : length rule.right ≤ length a

pub fits : (rules : List Rule) (stmt classes : ℕ) → IsGrammar rules stmt classes → (a : List Sym) (t : Tok) (n : ℕ) → MayReduce rules stmt a t n → Fits rules a n
fits rules stmt classes g a t n m =
    let c = covers rules stmt m.complete in
    record { rule = m.rule; there = m.there; some = g.some n m.rule m.there; within = c.within }

module _ {L X : Type 0} (of : Answering L X) (rules : List Rule) where
  abbrev Result : Option ℕ → X → Taken X
  Result o y = record { rule = o; kept = y }

  -- a rule that is taken is a candidate
  pub taken_among : (ns : List ℕ) (x : X) (n : ℕ) (y : X) → taken of rules ns x ≡ Result (Some n) y → Contains ns n
  taken_among [] x n y e = absurd (some_none n (sym (ap (λ (t : Taken X). t.rule) e)))
  taken_among (m ∷ ns) x n y e = by (slice_get rules m) e (λ z f. taken_among ns z n y f)
    where
      first : (z : X) → Result (Some m) z ≡ Result (Some n) y → Contains (m ∷ ns) n
      first z f = subst (Contains (m ∷ ns)) (same_Some m n (ap (λ (t : Taken X). t.rule) f)) (here m ns)

      tests : (r : Rule) (b c : Bool) → (if b then Result (Some m) x else if c then Result (Some m) (of.asked r x) else taken of rules ns (of.asked r x)) ≡ Result (Some n) y
          → ((z : X) → taken of rules ns z ≡ Result (Some n) y → Contains ns n) → Contains (m ∷ ns) n
      tests r true c f go = first x f
      tests r false true f go = first (of.asked r x) f
      tests r false false f go = Contains-append_right (m ∷ []) ns n (go (of.asked r x) f)

      by : (o : Option Rule) → decided_at of m o x (λ z. taken of rules ns z) ≡ Result (Some n) y → ((z : X) → taken of rules ns z ≡ Result (Some n) y → Contains ns n) → Contains (m ∷ ns) n
      by None f go = Contains-append_right (m ∷ []) ns n (go x f)
      by (Some r) f go = tests r (length r.restrictions == 0) (of.says r x) f go

  pub taken_fits : (stmt classes : ℕ) → IsGrammar rules stmt classes → (ws : List L) (a : List Sym) (x : X) (n : ℕ) (y : X) → Choice of rules stmt ws a x (Some n) y → Fits rules a n
  taken_fits stmt classes g ws a x n y c = fits rules stmt classes g a (coming of ws) n ((c.in_order.exactly n).0 (taken_among c.candidates x n y c.takes))

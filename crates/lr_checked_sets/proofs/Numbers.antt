-- A summary of a stack is a sum of the state to which the stack leads.
use Rattle.std.proofs.Common.{ℕ, List, ◌++◌, subst}
use Rattle.std.proofs.lemmas.Option.{same_Some}
use Rattle.lr_check_found.specs.tree_core.specs.declared.token.Tok.{Tok}
use Rattle.lr_check_found.specs.tree_core.specs.declared.token.Tok.TheVariants as tok
use Rattle.lr_check_found.specs.tree_core.specs.declared.token.Sort.{Sort}
use Rattle.lr_check_found.specs.md_reader.specs.declared.types.Sym.{Sym}
use Rattle.lr_check_found.specs.md_reader.specs.declared.types.Sym.TheVariants as grammar_symbol
use Rattle.lr_check_found.specs.md_reader.specs.Valid.{IsValid}
use Rattle.lr_checked.specs.lr_tables.specs.Items.{start, starts}
use Rattle.lr_checked.specs.lr_tables.specs.View.{TableView}
use Rattle.lr_checked.specs.lr_tables.specs.Promises.{IsNumbered}
use Rattle.lr_check_found.specs.lr_check_sets.specs.Automaton.{reduce}
use Rattle.lr_check_found.specs.lr_check_sets.specs.Sums as numbered
use Rattle.lr_check_found.specs.lr_check_sets.specs.Table.{automaton_of}
use Rattle.lr_checked_sets.specs.Summaries.{IsLive, Place, at_start, at_kid, Partly, opened, with_kid, Settling, whole, settled, Summary, summary}
use Rattle.lr_checked_sets.proofs.Standing.{stmt, At, state_of, at_over, goes_on, free_at}

module _ (t : TableView) (v : IsValid t.content) (b : IsNumbered t) where
  -- a stack at which a subtree may begin has an item
  pub live_of : {a : List Sym} {k n : Tok} → Place t.content.rules (stmt t v b) a k n → IsLive t.content.rules (stmt t v b) a
  live_of (at_start may) = (start, starts)
  live_of (at_kid part live begins) = live

  pub place_of : {a : List Sym} {k n m : Tok} {s : List Sym} {xs : List Sort} → Partly t.content.rules (stmt t v b) a k n s xs m → Place t.content.rules (stmt t v b) a k n
  place_of (opened place before begins) = place
  place_of (with_kid part live begins sum) = place_of part

  pub settling_place : {a : List Sym} {k n : Tok} {s : List Sym} → Settling t.content.rules (stmt t v b) a k n s → Place t.content.rules (stmt t v b) a k n
  settling_place (whole part) = place_of part
  settling_place (settled r before live free size) = settling_place before

  pub summary_live : {a : List Sym} {k n : Tok} {s : List Sym} → Summary t.content.rules (stmt t v b) a k n s → IsLive t.content.rules (stmt t v b) a
  summary_live (summary c before live free out) = live_of (settling_place before)

  mutual
    place_at : {a : List Sym} {k n : Tok} → Place t.content.rules (stmt t v b) a k n → (q : ℕ) → At t v b a q → numbered.Place (automaton_of t) q k n
    place_at (at_start {k = k} may) q at = subst (λ (p : ℕ). numbered.Place (automaton_of t) p k tok.End) (same_Some 0 q at) (numbered.at_start may)
    place_at (at_kid {a = a} {s = s} part live begins) q at =
        let p = state_of t v b a (live_of (place_of part)) in
        numbered.at_kid (part_at part p.0 p.1) (at_over t v b a s p.0 q p.1 at) begins

    part_at : {a : List Sym} {k n m : Tok} {s : List Sym} {xs : List Sort} → Partly t.content.rules (stmt t v b) a k n s xs m → (q : ℕ) → At t v b a q
        → numbered.Partly (automaton_of t) q k n s xs m
    part_at (opened {a = a} {k = k} place before begins) q at =
        let p = goes_on t v b a q (grammar_symbol.Tok k) at before in
        numbered.opened (place_at place q at) p.1 begins
    part_at (with_kid {a = a} {s = s} part live begins sum) q at =
        let p = state_of t v b (s ++ a) live in
        numbered.with_kid (part_at part q at) (at_over t v b a s q p.0 at p.1) begins (sum_at sum p.0 p.1)

    settling_at : {a : List Sym} {k n : Tok} {s : List Sym} → Settling t.content.rules (stmt t v b) a k n s → (q : ℕ) → At t v b a q → numbered.Settling (automaton_of t) q k n s
    settling_at (whole part) q at = numbered.whole (part_at part q at)
    settling_at (settled {a = a} {t = n} {s = s} r before live free size) q at =
        let p = state_of t v b (s ++ a) live in
        numbered.settled r (settling_at before q at) (at_over t v b a s q p.0 at p.1) (free_at t v b (s ++ a) p.0 n (reduce r) p.1 free) size

    pub sum_at : {a : List Sym} {k n : Tok} {s : List Sym} → Summary t.content.rules (stmt t v b) a k n s → (q : ℕ) → At t v b a q → numbered.Sum (automaton_of t) q k n s
    sum_at (summary {a = a} {t = n} {s = s} c before live free out) q at =
        let p = state_of t v b (s ++ a) live in
        numbered.sum c (settling_at before q at) (at_over t v b a s q p.0 at p.1) (free_at t v b (s ++ a) p.0 n c p.1 free) out

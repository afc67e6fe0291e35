-- A sum of a state is a summary of some stack that leads to it.
use Rattle.std.proofs.Common.{ℕ, List, [], ◌++◌, refl}
use Rattle.lr_check_found.specs.tree_core.specs.declared.token.Tok.{Tok}
use Rattle.lr_check_found.specs.tree_core.specs.declared.token.Sort.{Sort}
use Rattle.lr_check_found.specs.md_reader.specs.declared.types.Sym.{Sym}
use Rattle.lr_check_found.specs.md_reader.specs.declared.types.Sym.TheVariants as grammar_symbol
use Rattle.lr_check_found.specs.md_reader.specs.Valid.{IsValid}
use Rattle.lr_checked.specs.lr_tables.specs.View.{TableView}
use Rattle.lr_checked.specs.lr_tables.specs.Promises.{IsNumbered}
use Rattle.lr_check_found.specs.lr_check_sets.specs.Automaton.{reduce}
use Rattle.lr_check_found.specs.lr_check_sets.specs.Sums.{Place, at_start, at_kid, Partly, opened, with_kid, Settling, whole, settled, Sum, sum}
use Rattle.lr_check_found.specs.lr_check_sets.specs.Table.{automaton_of}
use Rattle.lr_checked_sets.specs.Summaries as stacks
use Rattle.lr_checked_sets.proofs.Standing.{stmt, At, live, over_at, stands, free_from}

module _ (t : TableView) (v : IsValid t.content) (b : IsNumbered t) where
  -- at each stack where the subtree may begin
  mutual
    part_from : {q : ℕ} {k n m : Tok} {s : List Sym} {xs : List Sort} → Partly (automaton_of t) q k n s xs m → (a : List Sym) → At t v b a q
        → stacks.Place t.content.rules (stmt t v b) a k n → stacks.Partly t.content.rules (stmt t v b) a k n s xs m
    part_from (opened {q = q} {k = k} {p = p} place go begins) a at here = stacks.opened here (stands t v b a q p (grammar_symbol.Tok k) at go) begins
    part_from (with_kid {q = q} {s = s} {p = p} part over begins sums) a at here =
        let before = part_from part a at here in
        let whole_at = over_at t v b a s q p at over in
        let is_live = live t v b (s ++ a) p whole_at in
        stacks.with_kid before is_live begins (sum_from sums (s ++ a) whole_at (stacks.at_kid before is_live begins))

    settling_from : {q : ℕ} {k n : Tok} {s : List Sym} → Settling (automaton_of t) q k n s → (a : List Sym) → At t v b a q
        → stacks.Place t.content.rules (stmt t v b) a k n → stacks.Settling t.content.rules (stmt t v b) a k n s
    settling_from (whole part) a at here = stacks.whole (part_from part a at here)
    settling_from (settled {q = q} {t = n} {s = s} {p = p} r before over free size) a at here =
        let whole_at = over_at t v b a s q p at over in
        stacks.settled r (settling_from before a at here) (live t v b (s ++ a) p whole_at) (free_from t v b (s ++ a) p n (reduce r) whole_at free) size

    pub sum_from : {q : ℕ} {k n : Tok} {s : List Sym} → Sum (automaton_of t) q k n s → (a : List Sym) → At t v b a q
        → stacks.Place t.content.rules (stmt t v b) a k n → stacks.Summary t.content.rules (stmt t v b) a k n s
    sum_from (sum {q = q} {t = n} {s = s} {p = p} c before over free out) a at here =
        let whole_at = over_at t v b a s q p at over in
        stacks.summary c (settling_from before a at here) (live t v b (s ++ a) p whole_at) (free_from t v b (s ++ a) p n c whole_at free) out

  -- a stack that leads to the state, at which the subtree may begin
  pub record Stands (q : ℕ) (k n : Tok) : Type 0 where
    pub stack : List Sym
    pub at : At t v b stack q
    pub place : stacks.Place t.content.rules (stmt t v b) stack k n

  mutual
    place_from : {q : ℕ} {k n : Tok} → Place (automaton_of t) q k n → Stands q k n
    place_from (at_start may) = record { stack = []; at = refl; place = stacks.at_start may }
    place_from (at_kid {q = q} {s = s} {p = p} part over begins) =
        let below = part_place part in
        let whole_at = over_at t v b below.stack s q p below.at over in
        record {
          stack = s ++ below.stack;
          at = whole_at;
          place = stacks.at_kid (part_from part below.stack below.at below.place) (live t v b (s ++ below.stack) p whole_at) begins;
        }

    part_place : {q : ℕ} {k n m : Tok} {s : List Sym} {xs : List Sort} → Partly (automaton_of t) q k n s xs m → Stands q k n
    part_place (opened place go begins) = place_from place
    part_place (with_kid part over begins sums) = part_place part

  settling_place : {q : ℕ} {k n : Tok} {s : List Sym} → Settling (automaton_of t) q k n s → Stands q k n
  settling_place (whole part) = part_place part
  settling_place (settled r before over free size) = settling_place before

  pub sum_place : {q : ℕ} {k n : Tok} {s : List Sym} → Sum (automaton_of t) q k n s → Stands q k n
  sum_place (sum c before over free out) = settling_place before

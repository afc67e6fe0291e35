-- A description has one table, so the number of its sums is that of any.
use Rattle.std.proofs.Common.{◌≡◌, ℕ, zero, suc, ◌≤◌, List, Option, None, length, map, slice_get, refl, sym, ap, ap₂, ◌∙◌, subst, ⊎_elim, arith}
use Rattle.std.proofs.lemmas.Bool.{cases_lt}
use Rattle.std.proofs.lemmas.Option.{slice_get_past}
use Rattle.md_reader.specs.declared.types.Rule.{Rule}
use Rattle.md_reader.specs.State.{Content}
use Rattle.lr_tables.specs.declared.item.Item.{Item}
use Rattle.lr_tables.specs.View.{RowView, TableView}
use Rattle.lr_tables.specs.Numbering.{followed, found}
use Rattle.lr_tables.specs.Rows.{row_of}
use Rattle.lr_tables.specs.Built.{IsRows}
use Rattle.lr_tables.specs.Statements.{stmt_of}
use Rattle.lr_tables.specs.Promises.{IsNumbered}
use Rattle.lr_check_found.specs.lr_check_sets.specs.Table.{automaton_of}
use Rattle.lr_check_found.specs.Count.{HasMore}
use Rattle.lr_checked.specs.declared.checking.CheckFault.{CheckFault}
use Rattle.lr_checked.specs.declared.checking.CheckFault.TheVariants as check_fault
use Rattle.lr_checked.specs.Counted.{HasTooManySums}
use Rattle.lr_checked.specs.Refusals.{FullIsFirst, SumsAreFirst}

module _ (rules : List Rule) (stmt classes : ℕ) where
  -- where all item sets have been followed, no more are found
  one_more : (n m : ℕ) → length (found rules stmt classes n) ≡ n → n ≤ m → found rules stmt classes m ≡ found rules stmt classes n →
      found rules stmt classes (suc m) ≡ found rules stmt classes n
  unfolding found
  one_more n m full le same =
      let past : slice_get (found rules stmt classes n) m ≡ None = slice_get_past (found rules stmt classes n) m (omega (arith, full, le)) in
      ap₂ (λ (l : List (List Item)) (o : Option (List Item)). followed rules stmt classes l o) same
      (ap (λ (l : List (List Item)). slice_get l m) same ∙ past)

  stays : (n m : ℕ) → length (found rules stmt classes n) ≡ n → n ≤ m → found rules stmt classes m ≡ found rules stmt classes n
  stays n zero full le = let none : zero ≡ n = omega (arith, le) in ap (found rules stmt classes) none
  stays n (suc m) full le =
      ⊎_elim
      (λ lt. let below : n ≤ m = omega (arith, lt) in one_more n m full below (stays n m full below))
      (λ ge. let last : suc m ≡ n = omega (arith, le, ge) in ap (found rules stmt classes) last)
      (cases_lt n (suc m))

  not_longer : (t u : List RowView) → IsRows rules stmt classes t → IsRows rules stmt classes u → length t ≤ length u → length u ≡ length t
  not_longer t u a b le =
      sym b.many ∙ (ap (λ (l : List (List Item)). length l) (stays (length t) (length u) a.many le) ∙ a.many)

  long_alike : (t u : List RowView) → IsRows rules stmt classes t → IsRows rules stmt classes u → length t ≡ length u
  long_alike t u a b =
      ⊎_elim
      (λ lt. let le : length t ≤ length u = omega (arith, lt) in sym (not_longer t u a b le))
      (λ ge. not_longer u t b a ge)
      (cases_lt (length t) (length u))

  -- the rows of so many item sets
  abbrev rows_of : ℕ → List RowView
  rows_of n = map (row_of rules stmt classes (found rules stmt classes n)) (found rules stmt classes n)

  rows_same : (t u : List RowView) → IsRows rules stmt classes t → IsRows rules stmt classes u → t ≡ u
  rows_same t u a b = a.each ∙ (ap rows_of (long_alike t u a b) ∙ sym b.each)

pub tables_same : (t u : TableView) → t.content ≡ u.content → IsNumbered t → IsNumbered u → t ≡ u
tables_same t u e a b =
    let rows : IsRows t.content.rules (stmt_of t.content.classes) (length t.content.classes) u.rows =
    subst (λ (d : Content). IsRows d.rules (stmt_of d.classes) (length d.classes) u.rows) (sym e) b in
    ap₂ {C = TableView} (λ (d : Content) (r : List RowView). record { content = d; rows = r }) e
    (rows_same t.content.rules (stmt_of t.content.classes) (length t.content.classes) t.rows u.rows a rows)

many_sums : (t : TableView) → IsNumbered t → HasMore (automaton_of t) 4000000 → HasTooManySums t.content
many_sums t b many = record { tables = t; of = refl; numbered = b; many = many }

pub few_sums : (t : TableView) → IsNumbered t → (HasMore (automaton_of t) 4000000 → ⊥) → HasTooManySums t.content → ⊥
few_sums t b few h =
    few (subst (λ (u : TableView). HasMore (automaton_of u) 4000000) (tables_same h.tables t h.of h.numbered b) h.many)

pub sums_are_first : (t : TableView) → IsNumbered t → (fault : CheckFault) → FullIsFirst (automaton_of t) fault → SumsAreFirst t.content fault
sums_are_first t b check_fault.NoMemory h = tt
sums_are_first t b check_fault.CheckFull h = many_sums t b h
sums_are_first t b (check_fault.Blocks nodes) h = few_sums t b h
sums_are_first t b (check_fault.Loops nodes) h = few_sums t b h

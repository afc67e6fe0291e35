-- How many sums a store holds.
use Rattle.std.specs.Prelude.{◌≡◌, ℕ, ◌==◌, Bool, List, Contains, AllPairs, length, count_by, sum_by}
use Rattle.std.specs.Int.{bit_at}
use Rattle.tree_core.specs.declared.token.Tok.{Tok}
use Rattle.md_reader.specs.declared.types.Sym.{Sym}
use Rattle.lr_tables.specs.Symbols.{number}
use Rattle.lr_check_found.specs.Found.{place_of}
use Rattle.lr_check_found.specs.Count.{Tuple}
use Rattle.lr_check_rows.specs.declared.rows.Line.{Line}
use Rattle.lr_check_rows.specs.declared.rows.Row.{Row}
use Rattle.lr_check_store.specs.Store.{StoreView, IsSumIn}

-- whether the token is in the set
abbrev pub is_in : ℕ → Tok → Bool
is_in set k = bit_at set (number k) == 1

-- how many of the tokens are in the set, in the lines' sums, in the rows' sums
abbrev pub size_of : List Tok → ℕ → ℕ
size_of ks set = count_by (is_in set) ks

abbrev pub size_of_line : List Tok → Line → ℕ
size_of_line ks l = size_of ks l.sums

abbrev pub size_of_row : List Tok → Row → ℕ
size_of_row ks r = sum_by (size_of_line ks) r.lines.items

abbrev pub tuple_of : ℕ → Tok → Tok → List Sym → Tuple
tuple_of q k b xs = record { place = place_of q k b; list = xs }

-- so many tuples, no two of them the same, are the sums that are held
pub record IsCounted (s : StoreView) (n : ℕ) : Type 0 where
  pub tuples : List Tuple
  pub many : length tuples ≡ n
  pub apart : AllPairs (λ (x y : Tuple). x ≡ y → ⊥) tuples
  pub each : (x : Tuple) → Contains tuples x → IsSumIn s x.place.state x.place.token x.place.behind x.list
  pub all : (q : ℕ) (k b : Tok) (xs : List Sym) → IsSumIn s q k b xs → Contains tuples (tuple_of q k b xs)

-- A store that is closed under the rules of the sets holds all of them.
use Rattle.std.proofs.Common.{◌≡◌, ℕ, ◌+◌, ◌*◌, ◌≤◌, List, Some, Contains, slice_get, sym, subst}
use Rattle.gg_base.specs.declared.limits.TheConstants.{SUMMARY_LIMIT}
use Rattle.tree_core.specs.declared.token.Tok.{Tok}
use Rattle.md_reader.specs.declared.types.Sym.{Sym}
use Rattle.lr_tables.specs.Symbols.{number}
use Rattle.lr_check_found.specs.lr_check_sets.specs.Automaton.{Automaton}
use Rattle.lr_check_found.specs.lr_check_sets.proofs.Closing.{sum_in, no_fault}
use Rattle.lr_check_found.specs.lr_check_sets.proofs.Rows.{at_contains}
use Rattle.lr_check_found.specs.Lists.{ListsView, AreLists}
use Rattle.lr_check_ways.specs.declared.ways.Ways.{Ways}
use Rattle.lr_check_rows.specs.declared.rows.Row.{Row}
use Rattle.lr_check_rows.specs.Rows.{IsRow}
use Rattle.lr_check_closed.specs.declared.look.Look.{Look}
use Rattle.lr_check_closed.specs.Looks.{automaton}
use Rattle.lr_check_closed.specs.Looks as looks
use Rattle.lr_check_closed.specs.Sets.{HasPlace, HasSettling, HasSum}
use Rattle.lr_check_closed.specs.Shown.{AreClosed, AreFine, IsShown}
use Rattle.lr_check_closed.proofs.Placed.{state_is, token_is}
use Rattle.lr_check_store.specs.Store.{StoreView, IsSound, IsSumIn}
use Rattle.lr_check_store.specs.Counted.{IsCounted}
use Rattle.lr_check_store.proofs.Counting as counting
use Rattle.lr_check_masks.specs.Flawless.{IsFlawless}

-- a look at what a store holds
pub look_sound : (l : Look) (s : StoreView) → IsSound (automaton l) s → l.lists.now ≡ s.lists → l.rows.now ≡ s.rows → l.ways.now ≡ s.ways → looks.IsSound l
look_sound l s sound lists rows ways = record {
  lists = subst AreLists (sym lists) sound.lists;
  rows = λ r there. subst (λ (v : ListsView). IsRow (automaton l) v r) (sym lists) (sound.rows r (subst (λ (rs : List Row). Contains rs r) rows there));
  ways = λ q w at. sound.ways q w (subst (λ (ws : List Ways). slice_get ws q ≡ Some w) ways at);
}

pub shown_by : (A : Automaton) (v v' : ListsView) (rows rows' : List Row) → v ≡ v' → rows ≡ rows' → AreClosed A v rows → AreFine A v rows → IsShown A v' rows'
shown_by A v v' rows rows' lists same closed fine =
    subst (λ (z : ListsView). IsShown A z rows') lists (subst (IsShown A v) same (record { closed = closed; fine = fine }))

module _ (A : Automaton) (s : StoreView) (sound : IsSound A s) where
  -- a sum in a row that stands in its place
  held : (q : ℕ) (k b : Tok) (xs : List Sym) → HasSum s.lists s.rows q k b xs → IsSumIn s q k b xs
  held q k b xs h =
      let placed = sound.placed (q * 40 + number k) h.row h.at in
      record {
        row = h.row;
        at = record {
          there = at_contains s.rows (q * 40 + number k) h.row h.at;
          state = sym (state_is q k h.row placed);
          token = sym (token_is q k h.row placed);
        };
        line = h.line;
        of = record { there = h.there; list = h.list };
        has = h.sum;
      }

  pub flawless : (n : ℕ) → IsShown A s.lists s.rows → IsCounted s n → n ≤ SUMMARY_LIMIT → IsFlawless A n
  flawless n shown counted within = record {
    no_fault = no_fault A (HasPlace s.rows) (HasSettling s.lists s.rows) (HasSum s.lists s.rows) shown.closed shown.fine;
    few = counting.few A s n counted (λ q k b xs sum. held q k b xs (sum_in A (HasPlace s.rows) (HasSettling s.lists s.rows) (HasSum s.lists s.rows) shown.closed sum));
    many = λ m lt. counting.many A s n m sound counted lt;
    within = within;
  }

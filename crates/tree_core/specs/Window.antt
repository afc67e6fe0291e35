-- Numbers that were met, window by window.
use Rattle.std.specs.Prelude.{◌≡◌, ℕ, ◌+◌, ◌-◌, ◌==◌, ◌&&◌, ◌||◌, nat_lt, nat_le, min, not, List, [], ◌∷◌, Option, Some}
use Rattle.std.specs.Prelude.{None, Bool, true, false, cond, slice_index_or}
use Rattle.tree_core.specs.declared.window.Window.{Window}

-- the number is one of the window that begins there
abbrev pub covers : ℕ → ℕ → Bool
covers base n = nat_le base n && nat_lt n (base + 4096)

-- the number is one of the window, and was met
abbrev pub has : Window → ℕ → Bool
has w n = covers w.base n && slice_index_or w.met (n - w.base) false

-- one more number is met
abbrev pub added : ℕ → (ℕ → Bool) → ℕ → ℕ → Bool
added base h n m = h m || (covers base n && (m == n))

-- all numbers of a list are met
abbrev pub added_all : ℕ → (ℕ → Bool) → List ℕ → ℕ → Bool
added_all base h [] = h
added_all base h (n ∷ ns) = added_all base (added base h n) ns

-- the same, as long as none was met before
abbrev pub met_once : ℕ → (ℕ → Bool) → List ℕ → Option (ℕ → Bool)
met_once base h [] = Some h
met_once base h (n ∷ ns) = cond (h n) None (met_once base (added base h n) ns)

-- the numbers of the window are among those that were met
abbrev pub all_met : ℕ → (ℕ → Bool) → List ℕ → Bool
all_met base h [] = true
all_met base h (n ∷ ns) = (not (covers base n) || h n) && all_met base h ns

-- the least number from one on
abbrev pub lesser : Option ℕ → ℕ → Option ℕ
lesser None n = Some n
lesser (Some m) n = Some (min m n)

abbrev pub better : ℕ → Option ℕ → ℕ → Option ℕ
better from best n = cond (nat_le from n) (lesser best n) best

abbrev pub least : ℕ → Option ℕ → List ℕ → Option ℕ
least from best [] = best
least from best (n ∷ ns) = least from (better from best n) ns

-- what it says that all were met, or not
abbrev pub MetOnce : Bool → (ℕ → Bool) → Option (ℕ → Bool) → Type 0
MetOnce true h o = o ≡ Some h
MetOnce false h o = o ≡ None

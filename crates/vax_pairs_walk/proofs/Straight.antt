-- One instruction of a piece, by the run on terms.
use Rattle.std.proofs.Common.{◌≡◌, ℕ, suc, ◌-◌, ◌<◌, Bool, true, false, cond, List, map, Option, Some, ap, ◌∙◌, arith}
use Rattle.std.specs.Prelude.{slice_get, ◌&&◌}
use Rattle.vax_core.specs.declared.code.AreaItem.{AreaItem}
use Rattle.vax_core.specs.declared.code.CodeItem.{CodeItem}
use Rattle.vax_machine.specs.Labels.{next_item}
use Rattle.vax_machine.specs.declared.function.Test.{Test}
use Rattle.vax_pairs.specs.Events.{Event}
use Rattle.vax_pairs.specs.TermStates.{TermState}
use Rattle.vax_pairs.specs.Trees.{Tree, Asks, Arrives}
use Rattle.vax_pairs.specs.TermRuns.{asked, item_tree, run_tree}
use Rattle.vax_pairs_walk.specs.declared.tree.Stop as held_stop
use Rattle.vax_pairs_walk.specs.declared.tree.Straight as held_straight
use Rattle.vax_pairs_walk.specs.Taking.{Front}
use Rattle.vax_pairs_walk.specs.Stepping.{Step, stepped_from}
use Rattle.vax_pairs_walk.specs.Views.{state_of, event_of}
use Rattle.vax_pairs_walk.specs.Pieces.{emits, emitted, stop_of, stopped, after, goes_on}
use Rattle.vax_pairs_walk.proofs.Continuing.{emitted_some, item_is}

module _ (items : List CodeItem) (layout : List AreaItem) (is_cut : ℕ → Bool) where
  abbrev Run : ℕ → Bool → ℕ → ℕ → TermState → Option Tree
  Run fuel moved place n s = run_tree items layout is_cut fuel moved place n s

  one_less : (fuel left : ℕ) → 0 < fuel → left ≡ fuel - 1 → fuel ≡ suc left
  one_less fuel left lt e = omega (arith, lt, e)

  abbrev Either : Bool → ℕ → Bool → ℕ → ℕ → TermState → Option Tree
  Either b left moved place n s =
      cond b (Some (Arrives moved place s)) (item_tree items layout is_cut (slice_get items (next_item items place)) (next_item items place) n s
      (λ p k t. run_tree items layout is_cut left true p k t))

  run_by : (fuel left : ℕ) (moved : Bool) (place n : ℕ) (s : TermState) (b : Bool) → 0 < fuel → left ≡ fuel - 1 → (moved && is_cut place) ≡ b
      → Run fuel moved place n s ≡ Either b left moved place n s
  run_by fuel left moved place n s b lt e c =
      ap (λ (k : ℕ). Run k moved place n s) (one_less fuel left lt e) ∙ ap (λ (x : Bool). Either x left moved place n s) c

  module _ (whole : Option Tree) (fuel left : ℕ) (moved : Bool) (place : ℕ) (x : Front) (front : whole ≡ emitted x.events (Run fuel moved place x.known x.state))
      (some : 0 < fuel) (less : left ≡ fuel - 1) where
    -- at a cut
    pub front_cut : (moved && is_cut place) ≡ true → whole ≡ emitted x.events (Some (Arrives moved place x.state))
    front_cut c = front ∙ ap (emitted x.events) (run_by fuel left moved place x.known x.state true some less c)

    -- past an instruction
    pub front_after : (moved && is_cut place) ≡ false → (y : Step × Front) → stepped_from items layout place x ≡ Some y → whole ≡ after items layout is_cut left (Some y)
    front_after c y is =
        front ∙ ap (emitted x.events) (run_by fuel left moved place x.known x.state false some less c)
        ∙ item_is items layout is_cut left (slice_get items (next_item items place)) (next_item items place) x
        ∙ ap (after items layout is_cut left) is

-- where a piece stops
pub stops_so : (items : List CodeItem) (layout : List AreaItem) (is_cut : ℕ → Bool) (whole : Option Tree) (r : held_straight.Straight) (stop : held_stop.Stop)
    → whole ≡ goes_on items layout is_cut r → r.stop ≡ stop
    → whole ≡ emitted (map event_of r.front.events.items) (stopped items layout is_cut r.left (stop_of stop) r.front.known (state_of r.front.state))
stops_so items layout is_cut whole r stop front e =
    front ∙ ap (λ (x : held_stop.Stop). emitted (map event_of r.front.events.items) (stopped items layout is_cut r.left (stop_of x) r.front.known (state_of r.front.state))) e

-- a question whose both ways have a tree
pub asked_by : (whole : Option Tree) (es : List Event) (t : Test) (s : TermState) (a b : Option Tree) (x y : Tree) → whole ≡ emitted es (asked t s a b)
    → a ≡ Some x → b ≡ Some y → whole ≡ Some (emits es (Asks t s x y))
asked_by whole es t s a b x y front e f =
    front ∙ ap (λ (z : Option Tree). emitted es (asked t s z b)) e ∙ ap (λ (z : Option Tree). emitted es (asked t s (Some x) z)) f ∙ emitted_some es (Asks t s x y)

-- where a piece ends
pub ended_by : (whole : Option Tree) (es : List Event) (x : Tree) → whole ≡ emitted es (Some x) → whole ≡ Some (emits es x)
ended_by whole es x front = front ∙ emitted_some es x

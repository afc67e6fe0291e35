-- Where a statement lands: what follows it, and how many zeros are spare there.
use Rattle.std.proofs.Common.{◌≡◌, ℕ, ◌+◌, ◌≤◌, List, ◌++◌, length, ap, arith, append_assoc}
use Rattle.std.specs.Prelude.{Bool, true}
use Rattle.gg_base.specs.Runs.{Runs}
use Rattle.tree_core.specs.declared.program.TreeItem.{TreeItem}
use Rattle.tree_core.specs.declared.program.TreeProgram.{TreeProgram}
use Rattle.tree_meaning.specs.State.{Activation, behind}
use Rattle.c_meaning.specs.declared.flow.Flow.TheVariants.{Onward, Broke, Continued, Returned}
use Rattle.c_meaning.specs.State.{State}
use Rattle.c_meaning.specs.Values.{Behind, Rest}
use Rattle.c_sound.specs.Fits.{no_local}
use Rattle.c_lower_scheme.specs.Trees.{Item}
use Rattle.c_lower_scheme.specs.Spelling.{spelled_all}
use Rattle.c_lower_scheme.specs.Parts.{Emitted, Destination, InLocal, AsResult, Releasing}
use Rattle.c_lower_counts.proofs.Leads.{Leads, one_tree, jumped, leads_below, Depth, Under, deeper, with_spare, leads_more}
use Rattle.c_lower_follows.proofs.Steps.{Desk, Resolves}
use Rattle.c_lower_counts.proofs.Steps.{at, at_items, moves, to_label}
use Rattle.c_lower_follows.proofs.Agreeing.{Agree, extent_of}
use Rattle.c_lower_counts.proofs.Doing.{Arrives}

module _ (program : TreeProgram) (code : List TreeItem) (callers : List Activation) (size count first : ℕ) (level : Depth) (out : Destination) (own : size ≤ first) where
  abbrev fair : (ℕ → Type 0) → State → Desk → Type 0
  fair scope st d = Agree (extent_of program) size first scope (length callers) st d

  abbrev from : List Item → Desk → Runs
  from is d = at program code callers is d

  -- a jump to a label from before some items
  abbrev jump : ℕ → List Item → Desk → Runs
  jump l is d = to_label program code callers l is d

  -- what is followed behind a jump to a label, whether it is counted or not
  abbrev pub Turned : (l : ℕ) (k : Depth) (scope : ℕ → Type 0) (r : State → Runs) → Type 0
  Turned l k scope r = (back : Bool) (st : State) (d : Desk) → fair scope st d → Leads k (r st) (one_tree (jumped back (at_items program code callers (behind code l) d)))

  -- where a function's result goes: to the caller, or the block is still to be given back before that
  abbrev pub Leaves : Destination → Depth → Rest → Type 0
  Leaves (InLocal n) k κ = ⊥
  Leaves AsResult k κ = (t u : ℕ) (is : List Item) (d : Desk) → Arrives program code callers size count first no_local level AsResult k t u is d κ
  Leaves (Releasing pointer n) k κ = (t u : ℕ) (is : List Item) (d : Desk) → Arrives program code callers size count first no_local level (Releasing pointer n) k t u is d κ

  pub arrive : (to : Destination) (scope : ℕ → Type 0) (k : Depth) (t u : ℕ) (is : List Item) (d : Desk) (κ : Rest) → Leaves to k κ
      → Arrives program code callers size count first scope level to k t u is d κ
  arrive (InLocal n) scope k t u is d κ h = absurd h
  arrive AsResult scope k t u is d κ h = h t u is d
  arrive (Releasing pointer n) scope k t u is d κ h = h t u is d

  -- what leads at one depth does so at another
  abbrev Lifts : Depth → Depth → Type 0
  Lifts j k = (r q : Runs) → Leads j r q → Leads k r q

  leaves_lifted : (to : Destination) (j k : Depth) (κ : Rest) → Lifts j k → Leaves to j κ → Leaves to k κ
  leaves_lifted (InLocal n) j k κ lift h = h
  leaves_lifted AsResult j k κ lift h = λ t u is d v st lt a i. lift _ _ (h t u is d v st lt a i)
  leaves_lifted (Releasing pointer n) j k κ lift h = λ t u is d.
      let q = h t u is d in (q.0, λ v w js st' d' lt small worth ag. lift _ _ (q.1 v w js st' d' lt small worth ag))

  -- what follows a statement is followed: behind its items, by jumps to its loop's labels, and in the caller
  pub record Lands (k : Depth) (lb lc : ℕ) (inside : Bool) (outer scope : ℕ → Type 0) (is : List Item) (κ : Behind) : Type 0 where
    pub onward : (st : State) (d : Desk) → fair scope st d → Leads k (κ Onward st) (from is d)
    pub broke : inside ≡ true → (st : State) (d : Desk) → fair outer st d → Leads k (κ Broke st) (one_tree (jump lb is d))
    pub continued : inside ≡ true → (st : State) (d : Desk) → fair outer st d → Leads k (κ Continued st) (one_tree (jump lc is d))
    pub left : Leaves out k (λ v. κ (Returned v))

  -- A statement that sets at most z zeros before the next turn or call, where s are spare for what is behind it.
  abbrev pub DoesStmt : (z : ℕ) (q : Emitted) (lb lc : ℕ) (inside : Bool) (outer scope after : ℕ → Type 0) (m : Behind → State → Runs) → Type 0
  DoesStmt z q lb lc inside outer scope after m = (k : Depth) (s : ℕ) → s + z ≤ k.spare → Under k level → (is : List Item) (κ : Behind) → Resolves code (q.items ++ is)
      → Lands (with_spare k s) lb lc inside outer after is κ → (st : State) (d : Desk) → fair scope st d → Leads k (m κ st) (from (q.items ++ is) d)

  pub joined_at : (k : Depth) (a b is : List Item) (d : Desk) (r : Runs) → Leads k r (from (a ++ (b ++ is)) d) → Leads k r (from ((a ++ b) ++ is) d)
  joined_at k a b is d r h = moves program code callers k (spelled_all ((a ++ b) ++ is)) (spelled_all (a ++ (b ++ is))) d r (ap spelled_all (append_assoc a b is)) h

  lands_lifted : (j k : Depth) (lb lc : ℕ) (inside : Bool) (outer scope : ℕ → Type 0) (is : List Item) (κ : Behind) → Lifts j k → Lands j lb lc inside outer scope is κ
      → Lands k lb lc inside outer scope is κ
  lands_lifted j k lb lc inside outer scope is κ lift h = record {
    onward = λ st d ag. lift _ _ (h.onward st d ag);
    broke = λ e st d ag. lift _ _ (h.broke e st d ag);
    continued = λ e st d ag. lift _ _ (h.continued e st d ag);
    left = leaves_lifted out j k (λ v. κ (Returned v)) lift h.left;
  }

  pub lands_below : (k : Depth) (lb lc : ℕ) (inside : Bool) (outer scope : ℕ → Type 0) (is : List Item) (κ : Behind) → Lands (deeper k) lb lc inside outer scope is κ
      → Lands k lb lc inside outer scope is κ
  lands_below k lb lc inside outer scope is κ h = lands_lifted (deeper k) k lb lc inside outer scope is κ (λ r q. leads_below k r q) h

  pub lands_more : (k : Depth) (s z : ℕ) → s + z ≤ k.spare → (lb lc : ℕ) (inside : Bool) (outer scope : ℕ → Type 0) (is : List Item) (κ : Behind)
      → Lands (with_spare k s) lb lc inside outer scope is κ → Lands k lb lc inside outer scope is κ
  lands_more k s z room lb lc inside outer scope is κ h = lands_lifted (with_spare k s) k lb lc inside outer scope is κ (λ r q. leads_more k s r q (omega (arith, room))) h

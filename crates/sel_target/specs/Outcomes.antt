-- What code leaves that sets one spot: a value there, and all else kept.
use Rattle.std.specs.Prelude.{◌≡◌, ℕ, List, [], ◌∷◌, Some, false}
use Rattle.std.specs.List.{AllByRecursion}
use Rattle.gg_base.specs.declared.size.Size.{Size}
use Rattle.tree_core.specs.declared.program.TreeProgram.{TreeProgram}
use Rattle.tree_meaning.specs.State.{State, Extent}
use Rattle.sel_target.specs.declared.attr.Attr.{Attr}
use Rattle.sel_target.specs.Courses.{comes}
use Rattle.sel_target.specs.Meaning.{Meaning, Spot, IsFree, touches}
use Rattle.sel_target.specs.Values.{worth}

module _ {O I S F : Type 0} (of : Meaning O I S F) where
  -- the operand touches none of the spots
  abbrev pub Untouched : List Spot → O → Type 0
  Untouched spots o = AllByRecursion (λ (s : Spot). touches of o s ≡ false) spots

  -- Nothing has changed but what stands in these spots: every other operand reads and names what it did, the state stands for the same tree
  -- states, but for the last call's result, there is still room, and the same frames are live.
  pub record Keeps (spots : List Spot) (m m' : S) : Type 0 where
    pub reads : (o : O) (size : Size) (x : ℕ) → Untouched spots o → of.reads o size m ≡ Some x → of.reads o size m' ≡ Some x
    pub names : (o : O) (size : Size) (x : ℕ) → Untouched spots o → of.names o size m ≡ Some x → of.names o size m' ≡ Some x
    pub agrees : (q : TreeProgram) (f : Extent) (fs : List Extent) (t : State) → AllByRecursion (IsFree f) spots
        → of.agrees q f fs t m → of.agrees q f fs t m'
    pub room : of.has_room m → of.has_room m'
    pub live : of.live m' ≡ of.live m

  -- the code comes to a state where the attribute stands for x, and only the spot has changed
  pub record Sets (code : List I) (spot : Spot) (q : TreeProgram) (size : Size) (a : Attr O) (x : ℕ) (m : S) : Type 0 where
    pub state : S
    pub ran : of.run code m ≡ comes state
    pub gets : worth of q size a state ≡ Some x
    pub keeps : Keeps (spot ∷ []) m state

  -- the same of an operand that names the address x, at every size
  pub record SetsName (code : List I) (spot : Spot) (o : O) (x : ℕ) (m : S) : Type 0 where
    pub state : S
    pub ran : of.run code m ≡ comes state
    pub gets : (size : Size) → of.names o size state ≡ Some x
    pub keeps : Keeps (spot ∷ []) m state

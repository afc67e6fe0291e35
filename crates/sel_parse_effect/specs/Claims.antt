-- Selected code has the tree's effect.
use Rattle.std.specs.Prelude.{◌≡◌, ℕ, ◌≤◌, ◌<◌, nat_lt, List, Some, None, if◌then◌else◌}
use Rattle.std.specs.List.{AllByRecursion}
use Rattle.gg_base.specs.declared.limits.TheConstants.{NEED_LIMIT}
use Rattle.gg_base.specs.declared.size.Size.TheVariants.{Long}
use Rattle.tree_core.specs.declared.token.Sort.TheVariants as sort
use Rattle.tree_core.specs.declared.tree.Leaf.{Leaf}
use Rattle.tree_core.specs.declared.program.TreeProgram.{TreeProgram}
use Rattle.tree_core.specs.Trees.{IsTyped}
use Rattle.tree_core.specs.Calm.{Calm}
use Rattle.tree_core.specs.Valid as trees
use Rattle.tree_meaning.specs.State.{State, sight, Extent}
use Rattle.tree_meaning.specs.Deeds.{Deed, Traps}
use Rattle.tree_meaning.specs.Steps.{deed_step}
use Rattle.tree_meaning.specs.Values.{Sight}
use Rattle.md_reader.specs.State.{Content}
use Rattle.md_reader.specs.Valid as descriptions
use Rattle.sel_target.specs.Courses.{Course, traps}
use Rattle.sel_target.specs.Meaning.{Meaning}
use Rattle.sel_target.specs.StatementLaws.{IsStep}
use Rattle.sel_parse.specs.Shown.{AreShown, AreLinesShown, saved_kinds}
use Rattle.sel_parse_moves.specs.Claims.{root, deed}
use Rattle.sel_parse_moves.specs.Possible.{IsPossible}
use Rattle.sel_parse_stands.specs.sel_parse_selected.specs.Selected.{Selected}
use Rattle.sel_parse_stands.specs.Stands.{Names}
use Rattle.sel_parse_effect.specs.Places.{StoresToPlaces}

module _ {O I S F : Type 0} (of : Meaning O I S F) where
  -- what a call's frame shows in a state: every local has some value, written or not
  abbrev pub frame_sight : Extent → State → S → Sight
  frame_sight f t m = record {
    locals = λ k. if nat_lt k f.locals then of.reads (of.local k) Long m else None;
    arguments = t.running.arguments;
    area = t.area;
  }

  -- a description whose rules and lines were shown for the target
  pub record IsFit (d : Content) : Type 0 where
    pub valid : descriptions.IsValid d
    pub rules : AreShown of.effect d
    pub lines : AreLinesShown of.spill_effect saved_kinds d.spills

  -- A state in which a tree's code may begin: it stands for the state t of a valid program's run, there is room, and the frame's slots lie
  -- behind the locals.
  pub record Begins (q : TreeProgram) (first : ℕ) (f : Extent) (fs : List Extent) (t : State) (m : S) : Type 0 where
    pub program : trees.IsValid q
    pub spelled : of.can_write q
    pub few : f.words ≤ NEED_LIMIT
    pub own : f.locals ≤ first
    pub within : f.locals ≤ f.words
    pub written : (k n : ℕ) → t.running.locals k ≡ Some n → k < f.locals
    pub agrees : of.agrees q f fs t m
    pub room : of.has_room m

  -- The course is the step of a deed: it comes behind the last instruction with the byte written that the tree writes, or ends before a
  -- branch taken, a call or a return; and it traps where the deed does.
  abbrev pub HasEffect : TreeProgram → Extent → List Extent → State → S → Course I S → Deed → Type 0
  HasEffect q f fs t m c Traps = c ≡ traps
  HasEffect q f fs t m c e = IsStep of q f fs t m c (deed_step q t e)

  -- The code of a typed statement tree does what the tree does. A tree with a wild access, or a write outside the data area, isn't spoken
  -- of, and a zero divisor traps in a calm tree.
  abbrev pub SelectedHasEffect : Type 0
  SelectedHasEffect =
      (q : TreeProgram) (d : Content) (first : ℕ) (f : Extent) (fs : List Extent) (t : State) (m : S) (w : List Leaf) (code : List I)
      (most : ℕ)
      → StoresToPlaces of → IsFit d → Begins q first f fs t m
      → Selected of q d first w code most → most ≤ f.words → IsTyped (root w) sort.Stmt
      → AllByRecursion (Names of q d first f fs t (frame_sight f t m) m) w
      → IsPossible t.area (deed q.objects (sight t) w) → (deed q.objects (sight t) w ≡ Traps → Calm (root w))
      → HasEffect q f fs t m (of.run code m) (deed q.objects (sight t) w)

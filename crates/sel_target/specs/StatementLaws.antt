-- What the lines of a statement do: a law of a target.
use Rattle.std.specs.Prelude.{◌≡◌, ℕ, ◌<◌, List, [], length, Option, Some, None, option_to_list, true}
use Rattle.std.specs.List.{AllByRecursion}
use Rattle.gg_base.specs.declared.size.Size.{Size}
use Rattle.tree_core.specs.declared.tree.Att.{Att}
use Rattle.tree_core.specs.declared.tree.Att.TheVariants as att
use Rattle.tree_core.specs.declared.program.TreeProgram.{TreeProgram}
use Rattle.tree_core.specs.Valid.{args_of, takes}
use Rattle.tree_core.specs.Names.{label_name, function_label}
use Rattle.tree_meaning.specs.State.{State, Extent}
use Rattle.tree_meaning.specs.declared.value.Meaning.{Meaning as Place}
use Rattle.tree_meaning.specs.declared.value.Meaning.TheVariants as meaning
use Rattle.tree_meaning.specs.Deeds.{Deed, Puts, Branches, Pushes, Returns as Leaves, Calls as Enters, Saves, Jumps}
use Rattle.tree_meaning.specs.Steps as steps
use Rattle.tree_meaning.specs.Steps.{Step, deed_step}
use Rattle.sel_terms_meaning.specs.md_reader.specs.declared.types.Class.{Class}
use Rattle.sel_terms_meaning.specs.md_reader.specs.declared.types.Rule.{Rule}
use Rattle.sel_terms_meaning.specs.md_reader.specs.declared.types.Restriction.{Restriction}
use Rattle.sel_terms_meaning.specs.sel_terms.specs.Effects.{ActShape, EffectShape, StoreHome, StoreAt, Branch, Push, Call, Save, Return, Jump}
use Rattle.sel_target.specs.declared.attr.Attr.{Attr}
use Rattle.sel_target.specs.declared.attr.Attr.TheVariants as attr
use Rattle.sel_target.specs.Courses.{Course, Comes, Goes, Calls, Returns, ends, comes}
use Rattle.sel_target.specs.Meaning.{Meaning}
use Rattle.sel_target.specs.Values.{View, value, own_operand, PlaceIs}
use Rattle.sel_target.specs.EffectTerms.{IsSignedBy}
use Rattle.sel_target.specs.Instances.{hole, lines_of, Ready}

-- the attribute of a symbol that is a token
abbrev pub att_of : {O : Type 0} → Option (Attr O) → Option Att
att_of (Some (attr.Token l)) = Some l.att
att_of h = None

module _ {O I S F : Type 0} (of : Meaning O I S F) where
  -- the state stands for t, and the same calls are live
  pub record Stays (q : TreeProgram) (f : Extent) (fs : List Extent) (t : State) (m n : S) : Type 0 where
    pub agrees : of.agrees q f fs t n
    pub live : of.live n ≡ of.live m

  -- A course from m, which stands for t, is this step of the tree program. A branch taken, a call and a return end the
  -- course in the state before they are done: that state stands for the state before the step, and before a call or a
  -- return there is room.
  abbrev pub IsStep : TreeProgram → Extent → List Extent → State → S → Course I S → Step → Type 0
  IsStep q f fs t m c (steps.Goes s) = (n : S) × (c ≡ comes n) × Stays q f fs s m n
  IsStep q f fs t m c (steps.Serves b s) = (n : S) × (c ≡ record { written = option_to_list b; ending = Comes n })
      × Stays q f fs s m n × (of.answer n ≡ s.running.result)
  IsStep q f fs t m c (steps.GoesTo label s) = (n : S) × (c ≡ ends (Goes (label_name label) n)) × Stays q f fs s m n
  IsStep q f fs t m c (steps.Enters g arguments s) =
      (n : S) × (c ≡ ends (Calls (function_label g.name) (length arguments) n [])) × Stays q f fs t m n × of.has_room n
  IsStep q f fs t m c (steps.GoesBack x s) = (n : S) × (c ≡ ends (Returns n)) × Stays q f fs t m n × (of.answer n ≡ x) × of.has_room n
  IsStep q f fs t m c (steps.Ends e) = Unit {0}

  -- symbol i is this place of the size
  pub record HomeIs (f : Extent) (t : State) (m : S) (hs : List (Attr O)) (i : ℕ) (size : Size) (g : Place) : Type 0 where
    pub attribute : Attr O
    pub operand_is : O
    pub at : hole hs i ≡ Some attribute
    pub own : own_operand of attribute ≡ Some operand_is
    pub place : PlaceIs of f t m size operand_is g

  -- The deed of an act, with these holes and numbers. A branch's relation compares as the rule's restrictions say; a
  -- call names a function with its number of arguments, which are what is pushed.
  abbrev pub DoesAct : TreeProgram → Extent → List Restriction → List (Attr O) → View → S → ActShape → Deed → Type 0
  DoesAct q f rs hs v m (StoreHome size i t) (Puts g n) = HomeIs f v.state m hs i size g × (value v t ≡ n)
  DoesAct q f rs hs v m (StoreAt size a t) (Puts g n) = (g ≡ meaning.Memory size (value v a)) × (value v t ≡ n)
  DoesAct q f rs hs v m (Branch i a b) (Branches rel label x y) =
      (att_of (hole hs i) ≡ Some (att.Branch rel label)) × AllByRecursion (IsSignedBy i rel) rs × (value v a ≡ x) × (value v b ≡ y)
  DoesAct q f rs hs v m (Push t) (Pushes n) = value v t ≡ n
  DoesAct q f rs hs v m Call (Enters function count) =
      (att_of (hole hs 1) ≡ Some (att.Callee function count)) × (takes (args_of q.functions function) count ≡ true)
      × (length v.state.running.pushed ≡ count)
  DoesAct q f rs hs v m (Save i) (Saves k) = (att_of (hole hs i) ≡ Some (att.Slot k)) × (k < f.locals)
  DoesAct q f rs hs v m (Return t) (Leaves n) = value v t ≡ n
  DoesAct q f rs hs v m Jump (Jumps label) = att_of (hole hs 1) ≡ Some (att.Label label)
  DoesAct q f rs hs v m a d = ⊥

  -- The lines of a statement do its deed.
  pub record DoesStatements : Type 0 where
    pub does : (q : TreeProgram) (f : Extent) (fs : List Extent) (classes : List Class) (rule : Rule) (e : EffectShape) (d : Deed)
        (hs : List (Attr O)) (res : Attr O) (v : View) (m : S) →
        Ready of q f fs classes rule e hs res v m → DoesAct q f rule.restrictions hs v m e.act d →
        IsStep q f fs v.state m (of.run (lines_of of q rule hs res) m) (deed_step q v.state d)

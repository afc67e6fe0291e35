-- How the parts of statements are put together.
use Rattle.std.specs.Prelude.{ℕ, suc, ◌+◌, ◌*◌, List, [], ◌∷◌, ◌++◌, Bool, true, false, max}
use Rattle.gg_base.specs.declared.relation.Rel.TheVariants as relations
use Rattle.c_types.specs.declared.types.CType.{CType}
use Rattle.c_types.specs.declared.types.Integer.TheVariants as ints
use Rattle.c_types.specs.declared.typed.ArithmeticOperator.TheVariants as ariths
use Rattle.c_types.specs.Types.{size_of}
use Rattle.c_lower_scheme.specs.Trees.{Num, Gaddr, Loc, Indir, Bin, Item, Label, AssignLoc, AssignMem, Cbr, Jump}
use Rattle.c_lower_scheme.specs.Parts.{Lowered, Emitted}
use Rattle.c_lower_scheme.specs.Places.{integer_of, in_block}

-- One statement behind another: the temporaries are those of the one with more of them.
abbrev pub two_done : Emitted → Emitted → Emitted
two_done a b = record { items = a.items ++ b.items; temps = max a.temps b.temps; labels = b.labels }

abbrev pub done_by : Emitted → (ℕ → Emitted) → Emitted
done_by a f = two_done a (f a.labels)

-- the local is 0 before its initialiser where that reads it
abbrev pub clearing : Bool → ℕ → List Item
clearing true n = AssignLoc n (Num 0) ∷ []
clearing false n = []

abbrev pub begin_of : Bool → ℕ → Emitted → Emitted
begin_of b n p = record { items = clearing b n ++ p.items; temps = p.temps; labels = p.labels }

-- a value is stored at an offset of the block
abbrev pub stored_in_block : ℕ → CType → ℕ → Lowered → Emitted
stored_in_block size t o p = record {
  items = p.items ++ (AssignMem (integer_of t) (in_block size o) p.tree ∷ []);
  temps = p.temps;
  labels = p.labels;
}

-- zeros in so many elements of the block, from an offset on: a loop at the label l, over their addresses in the first temporary
abbrev pub zeros_in_block : ℕ → ℕ → CType → ℕ → ℕ → ℕ → Emitted
zeros_in_block size t ty o count l = record {
  items = AssignLoc t (in_block size o) ∷ Label l ∷ AssignMem (integer_of ty) (Loc t) (Num 0) ∷
      AssignLoc t (Bin ariths.Add (Loc t) (Num (size_of ty))) ∷
      Cbr relations.Ne l (Loc t) (in_block size (o + count * size_of ty)) ∷ [];
  temps = suc t;
  labels = suc l;
}

-- A block of so many bytes is taken, whose address a local keeps: it is what the stack's pointer holds, which then moves behind it. Where the
-- stack, the object behind its pointer, has no such room, a division by zero traps.
abbrev pub claimed : ℕ → ℕ → ℕ → ℕ → ℕ → Emitted
claimed size t pointer block l = record {
  items = AssignLoc size (Indir ints.Int (Gaddr pointer)) ∷
      Cbr relations.Geu l (Bin ariths.Subtract (Bin ariths.Add (Gaddr (suc pointer)) (Num 262144)) (Loc size)) (Num block) ∷
      AssignLoc size (Bin ariths.Divide (Num 0) (Num 0)) ∷ Label l ∷
      AssignMem ints.Int (Gaddr pointer) (Bin ariths.Add (Loc size) (Num block)) ∷ [];
  temps = t;
  labels = suc l;
}

abbrev pub if_done : ℕ → Emitted → Emitted → Emitted
if_done l p a = record { items = p.items ++ (a.items ++ (Label l ∷ [])); temps = max p.temps a.temps; labels = a.labels }

abbrev pub if_of : ℕ → Emitted → (ℕ → Emitted) → Emitted
if_of l p f = if_done l p (f p.labels)

abbrev pub if_else_done : ℕ → Emitted → Emitted → Emitted → Emitted
if_else_done l p a b = record {
  items = p.items ++ (a.items ++ (Jump (suc l) ∷ Label l ∷ (b.items ++ (Label (suc l) ∷ []))));
  temps = max p.temps (max a.temps b.temps);
  labels = b.labels;
}

abbrev pub if_else_by : ℕ → Emitted → Emitted → (ℕ → Emitted) → Emitted
if_else_by l p a g = if_else_done l p a (g a.labels)

abbrev pub if_else_of : ℕ → Emitted → (ℕ → Emitted) → (ℕ → Emitted) → Emitted
if_else_of l p f g = if_else_by l p (f p.labels) g

-- A loop whose test stands behind its body, from a first jump on: to the label l of the top, or to suc l, where the
-- test stands and `continue` goes. The end is suc (suc l).
abbrev pub loop_done : ℕ → ℕ → Emitted → Emitted → Emitted
loop_done to l a p = record {
  items = Jump to ∷ Label l ∷ (a.items ++ (Label (suc l) ∷
      (p.items ++ (Label (suc (suc l)) ∷ []))));
  temps = max a.temps p.temps;
  labels = p.labels;
}

abbrev pub loop_of : ℕ → ℕ → Emitted → (ℕ → Emitted) → Emitted
loop_of to l a f = loop_done to l a (f a.labels)

-- `while` with a constant test: it stands in front, at the label l, and the end is suc l
abbrev pub while_done : ℕ → Emitted → Emitted → Emitted
while_done l p a = record {
  items = Label l ∷ (p.items ++ (a.items ++ (Jump l ∷ Label (suc l) ∷ [])));
  temps =
      max p.temps a.temps;
  labels = a.labels;
}

abbrev pub while_of : ℕ → Emitted → (ℕ → Emitted) → Emitted
while_of l p f = while_done l p (f p.labels)

-- `for`: its test stands behind the step, at suc (suc (suc l)), where the first jump goes. The top is l, `continue`
-- goes to suc l, and the end is suc (suc l).
abbrev pub turns_done : ℕ → Emitted → Emitted → Emitted → Emitted
turns_done l a s p = record {
  items = Jump (suc (suc (suc l))) ∷ Label l ∷ (a.items ++ (Label (suc l) ∷
      (s.items ++ (Label (suc (suc (suc l))) ∷ (p.items ++ (Label (suc (suc l)) ∷ []))))));
  temps = max a.temps (max s.temps p.temps);
  labels = p.labels;
}

abbrev pub turns_of : ℕ → Emitted → Emitted → (ℕ → Emitted) → Emitted
turns_of l a s f = turns_done l a s (f s.labels)

abbrev pub turns_by : ℕ → Emitted → (ℕ → Emitted) → (ℕ → Emitted) → Emitted
turns_by l a g f = turns_of l a (g a.labels) f

-- `for` with a constant test in front, and without one, where a jump counts each turn
abbrev pub for_done : ℕ → Emitted → Emitted → Emitted → Emitted
for_done l p a s = record {
  items = Label l ∷ (p.items ++ (a.items ++ (Label (suc l) ∷ (s.items ++ (Jump l ∷ Label (suc (suc l)) ∷ [])))));
  temps = max p.temps (max a.temps s.temps);
  labels = s.labels;
}

abbrev pub ever_done : ℕ → Emitted → Emitted → Emitted
ever_done l a s = record {
  items = Jump l ∷ Label l ∷ (a.items ++ (Label (suc l) ∷
      (s.items ++ (Jump l ∷ Label (suc (suc l)) ∷ []))));
  temps = max a.temps s.temps;
  labels = s.labels;
}

abbrev pub for_by : ℕ → Emitted → Emitted → (ℕ → Emitted) → Emitted
for_by l p a g = for_done l p a (g a.labels)

abbrev pub ever_by : ℕ → Emitted → (ℕ → Emitted) → Emitted
ever_by l a g = ever_done l a (g a.labels)

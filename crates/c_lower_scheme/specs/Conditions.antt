-- Conditions, and what is made of them: a branch for a value, a value for a branch, a choice.
use Rattle.std.specs.Prelude.{ℕ, suc, [], ◌∷◌, ◌++◌, Bool, true, false, not}
use Rattle.gg_base.specs.declared.relation.Rel.{Rel}
use Rattle.gg_base.specs.declared.relation.Rel.TheVariants as relations
use Rattle.c_types.specs.declared.types.Integer.{Integer}
use Rattle.c_types.specs.declared.types.Integer.TheVariants as ints
use Rattle.c_types.specs.declared.types.CType.{CType}
use Rattle.c_lower_scheme.specs.Trees.{Tree, Num, Loc, Label, AssignLoc, Cbr, Jump, breaks, sensed}
use Rattle.c_lower_scheme.specs.Parts.{Lowered, Pair, Emitted, Lowering, behind_low, behind_done, over, with_done}
use Rattle.c_lower_scheme.specs.Parts.{then_done, Destination, InLocal, AsResult, Releasing, delivered}
use Rattle.c_lower_scheme.specs.Saving.{saving, next_if}
use Rattle.c_lower_scheme.specs.Places.{integer_of, conv, fitted}

-- the value of a condition is made in the temporary t
abbrev pub truth_of : ℕ → ℕ → Emitted → Lowered
truth_of t l p = record {
  items = AssignLoc t (Num 0) ∷ (p.items ++ (AssignLoc t (Num 1) ∷ Label l ∷ []));
  tree = Loc t;
  temps = p.temps;
  labels = p.labels;
}

-- a value as a condition
abbrev pub test : Bool → ℕ → Lowered → Emitted
test sense to p = record { items = p.items ++ (Cbr (sensed sense relations.Ne) to p.tree (Num 0) ∷ []); temps = p.temps; labels = p.labels }

-- two values as a condition
abbrev pub compare : Rel → ℕ → Pair → Emitted
compare r to p = record { items = p.items ++ (Cbr r to p.first p.second ∷ []); temps = p.temps; labels = p.labels }

-- a value that is dropped is evaluated if that may break
abbrev pub dropped : Lowered → Emitted
dropped p = record { items = p.items ++ saving (breaks p.tree) p.temps p.tree; temps = next_if (breaks p.tree) p.temps; labels = p.labels }

-- an expression that has a value, one that is a condition, and one that has an effect
abbrev pub valued : (ℕ → ℕ → Lowered) → Lowering
valued f = record {
  low = f;
  branch = λ sense to t l. test sense to (f t l);
  drop = λ t l. dropped (f t l);
  deliver = λ to t l. delivered to (f t l);
}

abbrev pub conditional : (Bool → ℕ → ℕ → ℕ → Emitted) → (ℕ → ℕ → Emitted) → Lowering
conditional f d = record {
  low = λ t l. truth_of t l (f false l (suc t) (suc l));
  branch = f;
  drop = d;
  deliver = λ to t l. delivered to (truth_of t l (f false l (suc t) (suc l)));
}

abbrev pub effective : (ℕ → ℕ → Lowered) → (ℕ → ℕ → Emitted) → Lowering
effective f d = record {
  low = f;
  branch = λ sense to t l. test sense to (f t l);
  drop = d;
  deliver = λ to t l. delivered to (f t l);
}

-- a pure operator over an expression, which is dropped with its operand
abbrev pub mapped : (Tree → Tree) → Lowering → Lowering
mapped f e = effective (λ t l. over f (e.low t l)) e.drop

-- a conversion, which a type as wide as a longword leaves out
abbrev pub deliver_as : Integer → Lowering → Destination → ℕ → ℕ → Emitted
deliver_as ints.Char e to t l = delivered to (over (conv ints.Char) (e.low t l))
deliver_as ints.UnsignedChar e to t l = delivered to (over (conv ints.UnsignedChar) (e.low t l))
deliver_as ints.Short e to t l = delivered to (over (conv ints.Short) (e.low t l))
deliver_as ints.UnsignedShort e to t l = delivered to (over (conv ints.UnsignedShort) (e.low t l))
deliver_as ints.Int e to t l = e.deliver to t l

abbrev pub converting : CType → Lowering → Lowering
converting ty e = record (mapped (fitted ty) e) { deliver = deliver_as (integer_of ty) e }

abbrev pub same : Bool → Bool → Bool
same true b = b
same false b = not b

abbrev pub goal : Bool → ℕ → ℕ → ℕ
goal true to l = to
goal false to l = l

-- both sides of `&&`, where stop is false, or `||`, where it is true: the left side alone decides where its truth is stop
abbrev pub chained : Bool → ℕ → Emitted → (ℕ → ℕ → Emitted) → Emitted
chained true l p f = then_done p (behind_done p f)
chained false l p f = record {
  items = p.items ++ ((behind_done p f).items ++ (Label l ∷ []));
  temps = (behind_done p f).temps;
  labels = (behind_done p f).labels;
}

abbrev pub chain : Bool → Lowering → Lowering → Bool → ℕ → ℕ → ℕ → Emitted
chain stop a b sense to t l = chained (same stop sense) l (a.branch stop (goal (same stop sense) to l) t (suc l)) (b.branch sense to)

abbrev pub chain_drop : Lowering → Bool → Lowering → ℕ → ℕ → Emitted
chain_drop a stop b t l = chained false l (a.branch stop l t (suc l)) b.drop

abbrev pub drop_two : Lowering → Lowering → ℕ → ℕ → Emitted
drop_two a b t l = then_done (a.drop t l) (behind_done (a.drop t l) b.drop)

-- `c ? a : b`, whose value is in the temporary t
abbrev pub choose_low : ℕ → ℕ → Emitted → Lowered → Lowered → Lowered
choose_low t l p q r = record {
  items = p.items ++ (q.items ++ (AssignLoc t q.tree ∷ Jump (suc l) ∷ Label l ∷ (r.items ++ (AssignLoc t r.tree ∷ Label (suc l) ∷ []))));
  tree = Loc t;
  temps = r.temps;
  labels = r.labels;
}

abbrev pub choose_drop : ℕ → Emitted → Emitted → Emitted → Emitted
choose_drop l p q r = record {
  items = p.items ++ (q.items ++ (Jump (suc l) ∷ Label l ∷ (r.items ++ (Label (suc l) ∷ []))));
  temps = r.temps;
  labels = r.labels;
}

-- no jump stands behind a value that left the function
abbrev pub choose_leave : ℕ → Emitted → Emitted → Emitted → Emitted
choose_leave l p q r = record { items = p.items ++ (q.items ++ (Label l ∷ r.items)); temps = r.temps; labels = r.labels }

abbrev pub choose_deliver : Destination → ℕ → Emitted → Emitted → Emitted → Emitted
choose_deliver (InLocal n) l p q r = choose_drop l p q r
choose_deliver AsResult l p q r = choose_leave l p q r
choose_deliver (Releasing pointer n) l p q r = choose_leave l p q r

abbrev pub choose_low_by : ℕ → ℕ → Emitted → (ℕ → ℕ → Lowered) → (ℕ → ℕ → Lowered) → Lowered
choose_low_by t l p f g = choose_low t l p (behind_done p f) (behind_low (behind_done p f) g)

abbrev pub choose_drop_by : ℕ → Emitted → (ℕ → ℕ → Emitted) → (ℕ → ℕ → Emitted) → Emitted
choose_drop_by l p f g = choose_drop l p (behind_done p f) (behind_done (behind_done p f) g)

abbrev pub choose_deliver_by : Destination → ℕ → Emitted → (ℕ → ℕ → Emitted) → (ℕ → ℕ → Emitted) → Emitted
choose_deliver_by to l p f g = choose_deliver to l p (behind_done p f) (behind_done (behind_done p f) g)

abbrev pub choose : Lowering → Lowering → Lowering → Lowering
choose c a b = record {
  low = λ t l. choose_low_by t l (c.branch false l (suc t) (suc (suc l))) a.low b.low;
  branch = λ sense to t l. test sense to (choose_low_by t l (c.branch false l (suc t) (suc (suc l))) a.low b.low);
  drop = λ t l. choose_drop_by l (c.branch false l t (suc (suc l))) a.drop b.drop;
  deliver = λ to t l. choose_deliver_by to l (c.branch false l t (suc (suc l))) (a.deliver to) (b.deliver to);
}

abbrev pub comma : Lowering → Lowering → Lowering
comma a b = record {
  low = λ t l. with_done (a.drop t l) (behind_done (a.drop t l) b.low);
  branch = λ sense to t l. then_done (a.drop t l) (behind_done (a.drop t l) (b.branch sense to));
  drop = drop_two a b;
  deliver = λ to t l. then_done (a.drop t l) (behind_done (a.drop t l) (b.deliver to));
}

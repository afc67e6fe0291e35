-- A plain expression is due as its own tree, without items.
use Rattle.std.proofs.Common.{◌≡◌, ℕ, [], refl, ap, sym, ◌∙◌}
use Rattle.std.specs.Prelude.{Bool, true, false, ◌&&◌, ◌||◌, ◌==◌, if◌then◌else◌, Option, Some, None}
use Rattle.c_types.specs.declared.types.Integer.{Integer}
use Rattle.c_types.specs.declared.types.Integer.TheVariants as ints
use Rattle.c_types.specs.declared.types.CType.{CType}
use Rattle.c_types.specs.declared.typed.UnaryOperator.{UnaryOperator}
use Rattle.c_types.specs.declared.typed.UnaryOperator.TheVariants as unaries
use Rattle.c_types.specs.declared.typed.ArithmeticOperator.TheVariants as ariths
use Rattle.c_types.specs.Constants.{scale}
use Rattle.c_types.specs.Typed.{APlace, VariableAt, PointedBy, ElementBy, AnExpression, Constant, LiteralAt, ArrayAt, ReadOf, SizeOfExpression, SizeOf}
use Rattle.c_types.specs.Typed.{UnaryOf, CastTo, ConvertTo, ArithmeticOf, AdvanceOf, AdvanceByOf, RetreatOf, DistanceOf}
use Rattle.c_types.specs.Typed.{place_type}
use Rattle.tree_core.specs.declared.program.TreeItem.{TreeItem}
use Rattle.tree_core.specs.declared.program.TreeItem.TheVariants as tree_item
use Rattle.c_lower_scheme.specs.Trees.{Tree, Num, Neg, Com, Bin, Item, divides, reads, breaks, AssignLoc}
use Rattle.c_lower_scheme.specs.Parts.{Lowered, Lowering, Where, InLoc, InArg, InMem, Located, due, over, over_two, Emitted, Destination, InLocal, AsResult, delivered}
use Rattle.c_lower_scheme.specs.Places.{integer_of, conv, fitted, read_from, assign_to, address_tree, pointed, read_low, local_in}
use Rattle.c_lower_scheme.specs.Values.{scaled_by, shared_by, advance, advance_by, retreat, apart, join, join_so, joined}
use Rattle.c_lower_scheme.specs.Assignments.{ready_so, store_drop, assign_ready, fill_drop, assign_drop, local_of}
use Rattle.c_lower_scheme.specs.Expressions.{unary, seek, way}
use Rattle.c_lower_scheme.specs.Conditions.{deliver_as}
use Rattle.c_lower_scheme.specs.Spelling.{spelled}
use Rattle.c_lower_scheme.proofs.Places.{local_is}
use Rattle.c_lower_calm.specs.Plain.{PlainPlace, Plain, PlainUnary, unary_tree, place_at, plain_tree}
use Rattle.c_lower_calm.specs.Claim.{SpellsCalm, only, returned, stored, PlainIsOneTree}
use Rattle.c_lower_calm.proofs.Trees.{Apart, IsCalm, IsCalmItem, RootIsCalm}
use Rattle.c_lower_calm.proofs.Backs.{item_back}

-- a place that is due as it stands
abbrev found_at : CType → Where → ℕ → ℕ → Located
found_at ty s t l = record { items = []; type = ty; place = s; temps = t; labels = l }

and_false : (a b : Bool) → (a ≡ true → b ≡ false) → a && b ≡ false
and_false true b h = h refl
and_false false b h = refl

conv_calm : (i : Integer) (w : Tree) → IsCalm (conv i w) → IsCalm w
conv_calm ints.Char w h = h
conv_calm ints.UnsignedChar w h = h
conv_calm ints.Short w h = h
conv_calm ints.UnsignedShort w h = h
conv_calm ints.Int w h = h

fitted_calm : (t : CType) (w : Tree) → IsCalm (fitted t w) → IsCalm w
fitted_calm t w h = conv_calm (integer_of t) w h

unary_calm : (op : UnaryOperator) (w : Tree) → PlainUnary op → IsCalm (unary_tree op w) → IsCalm w
unary_calm unaries.Plus w p h = h
unary_calm unaries.Minus w p h = h
unary_calm unaries.Complement w p h = h
unary_calm unaries.Not w p h = absurd p

read_calm : (ty : CType) (s : Where) → IsCalm (read_from ty s) → IsCalm (address_tree s)
read_calm ty (InLoc n) h = tt
read_calm ty (InArg n) h = tt
read_calm ty (InMem a) h = h

-- what the calm tree of an operator tells of its parts
abbrev Parts : Tree → Tree → Type 0
Parts a b = IsCalm a × IsCalm b × Apart a b

scaled_part : (s : ℕ) (a b : Tree) → Parts a (scaled_by s b) → Parts a b
scaled_part s a b = by (s == 1)
  where
    by : (c : Bool) → Parts a (if c then b else Bin ariths.Multiply (Num s) b) → Parts a b
    by true h = h
    by false h = (h.0, h.1.1, h.2)

scaled_first : (s : ℕ) (a b : Tree) → Parts (scaled_by s a) b → Parts a b
scaled_first s a b = by (s == 1)
  where
    by : (c : Bool) → Parts (if c then a else Bin ariths.Multiply (Num s) a) b → Parts a b
    by true h = h
    by false h = (h.0.1, h.1, h.2)

shared_parts : (s : ℕ) (a b : Tree) → IsCalm (shared_by s (Bin ariths.Subtract a b)) → Parts a b
shared_parts s a b = by (s == 1)
  where
    by : (c : Bool) → IsCalm (if c then Bin ariths.Subtract a b else Bin ariths.Divide (Bin ariths.Subtract a b) (Num s)) → Parts a b
    by true h = h
    by false h = h.0

module _ (size count : ℕ) where
  -- the way of an expression whose value is due as this tree
  abbrev IsDue : Lowering → Tree → Type 0
  IsDue e w = (t l : ℕ) → e.low t l ≡ due w t l

  over_due : (f : Tree → Tree) (e : Lowering) (w : Tree) → IsDue e w → (t l : ℕ) → over f (e.low t l) ≡ due (f w) t l
  over_due f e w h t l = ap (over f) (h t l)

  -- two trees, the first of which needs not be saved
  joined_due : (f : Tree → Tree → Tree) (a b : Lowering) (v w : Tree) → IsDue a v → IsDue b w → Apart v w
      → (t l : ℕ) → over_two f (joined size count a b t l) ≡ due (f v w) t l
  joined_due f a b v w h g calm t l =
      ap (λ (p : Lowered). over_two f (join size count p (b.low p.temps p.labels))) (h t l)
      ∙ ap (λ (q : Lowered). over_two f (join size count (due v t l) q)) (g t l)
      ∙ ap (λ c. over_two f (join_so size count c (due v t l) (due w t l))) (and_false (divides v) (reads w) calm)

  unary_due : (op : UnaryOperator) (e : Lowering) (w : Tree) → PlainUnary op → IsDue e w → IsDue (unary size count op e) (unary_tree op w)
  unary_due unaries.Plus e w p h t l = over_due (λ v. v) e w h t l
  unary_due unaries.Minus e w p h t l = ap (over Neg) (h t l)
  unary_due unaries.Complement e w p h t l = ap (over Com) (h t l)
  unary_due unaries.Not e w p h t l = absurd p

  mutual
    unfolding place_type

    place_due : (p : APlace) → PlainPlace p → IsCalm (address_tree (place_at size p)) → (t l : ℕ) → seek size count p t l ≡ found_at (place_type p) (place_at size p) t l
    place_due (VariableAt ty v) p h t l = refl
    place_due (PointedBy ty e) p h t l = ap (pointed ty) (plain_due e p h t l)
    place_due (ElementBy ty e) p h t l = ap (pointed ty) (plain_due e p h t l)

    plain_due : (e : AnExpression) → Plain e → IsCalm (plain_tree size e) → IsDue (way size count e) (plain_tree size e)
    plain_due (Constant n) p h t l = refl
    plain_due (LiteralAt n bytes) p h t l = refl
    plain_due (ArrayAt ty v bytes) p h t l = refl
    plain_due (ReadOf x) p h t l = ap read_low (place_due x p (read_calm (place_type x) (place_at size x) h) t l)
    plain_due (SizeOfExpression n e) p h t l = refl
    plain_due (SizeOf n) p h t l = refl
    plain_due (UnaryOf op e) p h t l = unary_due op (way size count e) (plain_tree size e) p.0 (plain_due e p.1 (unary_calm op (plain_tree size e) p.0 h)) t l
    plain_due (CastTo ty e) p h t l = ap (over (fitted ty)) (plain_due e p (fitted_calm ty (plain_tree size e) h) t l)
    plain_due (ConvertTo ty e) p h t l = ap (over (fitted ty)) (plain_due e p (fitted_calm ty (plain_tree size e) h) t l)
    plain_due (ArithmeticOf op a b) p h t l = joined_due (Bin op) (way size count a) (way size count b) (plain_tree size a) (plain_tree size b) (plain_due a p.0 h.0) (plain_due b p.1 h.1) h.2 t l
    plain_due (AdvanceOf ty a b) p h t l =
        let c = scaled_part (scale ty) (plain_tree size a) (plain_tree size b) h in
        joined_due (advance ty) (way size count a) (way size count b) (plain_tree size a) (plain_tree size b) (plain_due a p.0 c.0) (plain_due b p.1 c.1) c.2 t l
    plain_due (AdvanceByOf ty a b) p h t l =
        let c = scaled_first (scale ty) (plain_tree size a) (plain_tree size b) h in
        joined_due (advance_by ty) (way size count a) (way size count b) (plain_tree size a) (plain_tree size b) (plain_due a p.0 c.0) (plain_due b p.1 c.1) c.2 t l
    plain_due (RetreatOf ty a b) p h t l =
        let c = scaled_part (scale ty) (plain_tree size a) (plain_tree size b) h in
        joined_due (retreat ty) (way size count a) (way size count b) (plain_tree size a) (plain_tree size b) (plain_due a p.0 c.0) (plain_due b p.1 c.1) c.2 t l
    plain_due (DistanceOf ty a b) p h t l =
        let c = shared_parts (scale ty) (plain_tree size a) (plain_tree size b) h in
        joined_due (apart ty) (way size count a) (way size count b) (plain_tree size a) (plain_tree size b) (plain_due a p.0 c.0) (plain_due b p.1 c.1) c.2 t l
    plain_due _ p h t l = absurd p

  -- and so it is at a destination
  as_deliver : (i : Integer) (e : Lowering) (w : Tree) → IsDue e w → ((to : Destination) (t l : ℕ) → e.deliver to t l ≡ delivered to (due w t l))
      → (to : Destination) (t l : ℕ) → deliver_as i e to t l ≡ delivered to (due (conv i w) t l)
  as_deliver ints.Char e w h g to t l = ap (λ (q : Lowered). delivered to (over (conv ints.Char) q)) (h t l)
  as_deliver ints.UnsignedChar e w h g to t l = ap (λ (q : Lowered). delivered to (over (conv ints.UnsignedChar) q)) (h t l)
  as_deliver ints.Short e w h g to t l = ap (λ (q : Lowered). delivered to (over (conv ints.Short) q)) (h t l)
  as_deliver ints.UnsignedShort e w h g to t l = ap (λ (q : Lowered). delivered to (over (conv ints.UnsignedShort) q)) (h t l)
  as_deliver ints.Int e w h g to t l = g to t l

  unary_deliver : (op : UnaryOperator) (e : Lowering) (w : Tree) → PlainUnary op → IsDue e w → (to : Destination) (t l : ℕ)
      → (unary size count op e).deliver to t l ≡ delivered to (due (unary_tree op w) t l)
  unary_deliver unaries.Plus e w p h to t l = ap (delivered to) (unary_due unaries.Plus e w p h t l)
  unary_deliver unaries.Minus e w p h to t l = ap (delivered to) (unary_due unaries.Minus e w p h t l)
  unary_deliver unaries.Complement e w p h to t l = ap (delivered to) (unary_due unaries.Complement e w p h t l)
  unary_deliver unaries.Not e w p h to t l = absurd p

  plain_deliver : (e : AnExpression) → Plain e → IsCalm (plain_tree size e) → (to : Destination) (t l : ℕ) → (way size count e).deliver to t l ≡ delivered to (due (plain_tree size e) t l)
  plain_deliver (Constant n) p h to t l = refl
  plain_deliver (LiteralAt n bytes) p h to t l = refl
  plain_deliver (ArrayAt ty v bytes) p h to t l = refl
  plain_deliver (ReadOf x) p h to t l = ap (delivered to) (plain_due (ReadOf x) p h t l)
  plain_deliver (SizeOfExpression n e) p h to t l = refl
  plain_deliver (SizeOf n) p h to t l = refl
  plain_deliver (UnaryOf op e) p h to t l = unary_deliver op (way size count e) (plain_tree size e) p.0 (plain_due e p.1 (unary_calm op (plain_tree size e) p.0 h)) to t l
  plain_deliver (CastTo ty e) p h to t l =
      let c = fitted_calm ty (plain_tree size e) h in
      as_deliver (integer_of ty) (way size count e) (plain_tree size e) (plain_due e p c) (plain_deliver e p c) to t l
  plain_deliver (ConvertTo ty e) p h to t l =
      let c = fitted_calm ty (plain_tree size e) h in
      as_deliver (integer_of ty) (way size count e) (plain_tree size e) (plain_due e p c) (plain_deliver e p c) to t l
  plain_deliver (ArithmeticOf op a b) p h to t l = ap (delivered to) (plain_due (ArithmeticOf op a b) p h t l)
  plain_deliver (AdvanceOf ty a b) p h to t l = ap (delivered to) (plain_due (AdvanceOf ty a b) p h t l)
  plain_deliver (AdvanceByOf ty a b) p h to t l = ap (delivered to) (plain_due (AdvanceByOf ty a b) p h t l)
  plain_deliver (RetreatOf ty a b) p h to t l = ap (delivered to) (plain_due (RetreatOf ty a b) p h t l)
  plain_deliver (DistanceOf ty a b) p h to t l = ap (delivered to) (plain_due (DistanceOf ty a b) p h t l)
  plain_deliver _ p h to t l = absurd p

  -- the assignment's parts, from its item
  parts_of : (ty : CType) (s : Where) (w : Tree) → IsCalmItem (assign_to ty s w) → Parts (address_tree s) w
  parts_of ty (InLoc n) w h = (tt, fitted_calm ty w h, λ e. absurd (cc))
  parts_of ty (InArg n) w h = (tt, fitted_calm ty w h, λ e. absurd (cc))
  parts_of ty (InMem a) w h = h

  -- a place and a value that are due are one root
  stored_due : (ty : CType) (s : Where) (w : Tree) → Apart (address_tree s) w → (t l : ℕ)
      → store_drop (assign_ready size count false (found_at ty s t l) (due w t l)) ≡ only (assign_to ty s w) t l
  stored_due ty (InLoc n) w h t l = refl
  stored_due ty (InArg n) w h t l = refl
  stored_due ty (InMem a) w h t l =
      ap (λ c. store_drop (ready_so (c || (false && breaks a)) (found_at ty (InMem a) t l) (due w t l))) (and_false (divides a) (reads w) h)

  -- a local takes what is delivered as it is
  filled : (ty : CType) (s : Where) (n : ℕ) (w : Tree) → s ≡ InLoc n → integer_of ty ≡ ints.Int → assign_to ty s w ≡ AssignLoc n w
  filled ty s n w at whole = ap (λ x. assign_to ty x w) at ∙ ap (λ i. AssignLoc n (conv i w)) whole

  assigned_due : (o : Option ℕ) (ty : CType) (s : Where) (e : AnExpression) → local_in (integer_of ty) s ≡ o → Plain e → IsCalm (plain_tree size e) → Apart (address_tree s) (plain_tree size e)
      → (t l : ℕ) → assign_drop size count o (found_at ty s t l) (way size count e) ≡ only (assign_to ty s (plain_tree size e)) t l
  assigned_due None ty s e same p h apart t l =
      ap (λ (q : Lowered). store_drop (assign_ready size count false (found_at ty s t l) q)) (plain_due e p h t l) ∙ stored_due ty s (plain_tree size e) apart t l
  assigned_due (Some n) ty s e same p h apart t l =
      let is = local_is (integer_of ty) s n same in
      ap (λ (q : Emitted). fill_drop (found_at ty s t l) q) (plain_deliver e p h (InLocal n) t l)
      ∙ ap (λ (i : Item). only i t l) (sym (filled ty s n (plain_tree size e) is.0 is.1))

-- an item is calm as its leaves are
calm_item : (i : Item) → SpellsCalm i → IsCalmItem i
calm_item i h = item_back i (by (spelled i) refl)
  where
    by : (x : TreeItem) → spelled i ≡ x → RootIsCalm x
    by (tree_item.Label l) e = tt
    by (tree_item.Root w) e = h w e

pub plain_is_one_tree : PlainIsOneTree
plain_is_one_tree = record {
  returns = λ size count first lb lc l rest e p h. plain_deliver size count e p (calm_item (returned size e) h) AsResult first l;
  stores = λ size count first out lb lc l rest p e pp pe h.
      let c = parts_of size count (place_type p) (place_at size p) (plain_tree size e) (calm_item (stored size p e) h) in
      ap (λ (x : Located). assign_drop size count (local_of size count x) x (way size count e)) (place_due size count p pp c.0 first l)
      ∙ assigned_due size count (local_in (integer_of (place_type p)) (place_at size p)) (place_type p) (place_at size p) e refl pe c.1 c.2 first l;
}

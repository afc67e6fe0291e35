-- That each expression of a sound program has long numbers and small labels.
use Rattle.std.proofs.Common.{ℕ, List, [], ◌∷◌, arith, ◌≤◌}
use Rattle.std.specs.Prelude.{Bool, true, false, Option, Some, None}
use Rattle.c_types.specs.declared.types.CType.{CType}
use Rattle.c_types.specs.declared.typed.Callee.{Callee}
use Rattle.c_types.specs.declared.typed.Variable.{Variable}
use Rattle.c_types.specs.declared.typed.UnaryOperator.{UnaryOperator}
use Rattle.c_types.specs.declared.typed.UnaryOperator.TheVariants as unaries
use Rattle.c_types.specs.Typed.{APlace, VariableAt, PointedBy, ElementBy, AnExpression, Constant, LiteralAt, ArrayAt, ReadOf, SizeOfExpression, SizeOf, AddressOf, CallOf, StepOf}
use Rattle.c_types.specs.Typed.{UnaryOf, CastTo, ConvertTo, ArithmeticOf, CompareOf, BothOf, EitherOf, AdvanceOf, AdvanceByOf, RetreatOf, DistanceOf, ChoiceOf, AssignTo}
use Rattle.c_types.specs.Typed.{ArithmeticAssignTo, AdvanceAssignTo, RetreatAssignTo, CommaOf, SomeExpressions, NoExpressions, MoreExpressions}
use Rattle.c_sound.specs.Fits.{Fits, FitsAt, FitsAll}
use Rattle.c_sound.specs.Stands.{Stands, StandsAt, StandAll, IsThere}
use Rattle.c_lower_scheme.specs.Trees.{Tree, Num, Gaddr, Neg, Com, Bin}
use Rattle.c_lower_scheme.specs.Parts.{Lowered, Lowering, Located, Passing, InLocal, over}
use Rattle.c_lower_scheme.specs.Places.{where_of, address_tree}
use Rattle.c_lower_scheme.specs.Values.{advance, advance_by, retreat, apart}
use Rattle.c_lower_scheme.specs.Calls.{callee_number, called_low, passed_as, must_pass}
use Rattle.c_lower_scheme.specs.Assignments.{assigned, assign_low, assign_drop, local_of, updated, update_by, step_ready}
use Rattle.c_lower_scheme.specs.Expressions.{unary, seek, way, pass}
use Rattle.gg_compile_spelled.proofs.Trees.{IsLong, none, behind}
use Rattle.gg_compile_spelled.proofs.Parts.{LongWay, due_long, valued_long, effective_long, mapped_long, not_long, chain_long, choose_long, comma_long, binary_long}
use Rattle.gg_compile_spelled.proofs.Parts.{relation_long, converting_long, test_long, LongLow, LongEnds}
use Rattle.gg_compile_spelled.proofs.Places.{LongFound, LongReady, LongPassing, no_trees, long_where, found_long, pointed_long, read_long, address_long, store_drop_long, store_low_long}
use Rattle.gg_compile_spelled.proofs.Places.{ready_long, update_long, step_ready_long, step_low_long, advance_long, advance_by_long, retreat_long, apart_long, pass_long, passed_long}
use Rattle.gg_compile_spelled.proofs.Places.{called_low_long, called_drop_long, called_deliver_long}

module _ (objects most params block size count : ℕ) (small : block ≤ 262144) (takes : Callee → ℕ → Type 0) where
  abbrev There : Variable → Type 0
  There v = IsThere objects params block v

  abbrev Way : Lowering → Type 0
  Way e = LongWay objects most e

  -- what is made of two trees
  abbrev Keeps : (CType → Tree → Tree → Tree) → Type 0
  Keeps f = (ty : CType) (v w : Tree) → IsLong objects v → IsLong objects w → IsLong objects (f ty v w)

  stored_long : (between : Bool) (l : ℕ) (p : Located) (e : Lowering) → LongFound objects most l p → Way e
      → LongReady objects most l (assigned size count between p e.low)
  stored_long between l p e h g = ready_long objects most _ l p (e.low p.temps p.labels) h (g.low p.temps p.labels)

  -- an assignment, also to a local that the value is delivered to
  assign_low_long : (o : Option ℕ) (l : ℕ) (p : Located) (e : Lowering) → LongFound objects most l p → Way e → LongLow objects most l (assign_low size count o p e)
  assign_low_long None l p e h g = store_low_long objects most l (assigned size count true p e.low) (stored_long true l p e h g)
  assign_low_long (Some n) l p e h g =
      let x = g.deliver (InLocal n) p.temps p.labels in
      let up = h.grows in
      let up' = x.grows in
      record { grows = omega arith; tree = tt; items = λ le. behind (h.items (omega arith)) (x.items tt le) }

  assign_drop_long : (o : Option ℕ) (l : ℕ) (p : Located) (e : Lowering) → LongFound objects most l p → Way e → LongEnds objects most (Unit {0}) l (assign_drop size count o p e)
  assign_drop_long None l p e h g = store_drop_long objects most l (assigned size count false p e.low) (stored_long false l p e h g)
  assign_drop_long (Some n) l p e h g =
      let x = g.deliver (InLocal n) p.temps p.labels in
      let up = h.grows in
      let up' = x.grows in
      record { grows = omega arith; items = λ y le. behind (h.items (omega arith)) (x.items tt le) }

  updated_long : (f : CType → Tree → Tree → Tree) → Keeps f → (l : ℕ) (p : Located) (e : Lowering) → LongFound objects most l p → Way e
      → LongReady objects most l (updated size count f p e.low)
  updated_long f keeps l p e h g = update_long objects most _ _ (f p.type) (keeps p.type) l p (e.low p.temps p.labels) h (g.low p.temps p.labels)

  update_by_long : (f : CType → Tree → Tree → Tree) → Keeps f → (p : ℕ → ℕ → Located) (e : Lowering)
      → ((t l : ℕ) → LongFound objects most l (p t l)) → Way e → Way (update_by size count f p e)
  update_by_long f keeps p e h g = effective_long objects most _ _
      (λ t l. store_low_long objects most l (updated size count f (p t l) e.low) (updated_long f keeps l (p t l) e (h t l) g))
      (λ t l. store_drop_long objects most l (updated size count f (p t l) e.low) (updated_long f keeps l (p t l) e (h t l) g))

  unary_long : (op : UnaryOperator) (e : Lowering) → Way e → Way (unary size count op e)
  unary_long unaries.Plus e h = mapped_long objects most (λ w. w) (λ w c. c) e h
  unary_long unaries.Minus e h = mapped_long objects most Neg (λ w c. c) e h
  unary_long unaries.Complement e h = mapped_long objects most Com (λ w c. c) e h
  unary_long unaries.Not e h = not_long objects most e h

  mutual
    place_long : (scope : ℕ → Type 0) (p : APlace) → FitsAt scope p → StandsAt There takes objects p → (t l : ℕ)
        → LongFound objects most l (seek size count p t l)
    place_long scope (VariableAt ty v) f s t l = found_long objects most size params block small ty v s t l
    place_long scope (PointedBy ty e) f s t l = pointed_long objects most ty l _ ((way_long scope e f s).low t l)
    place_long scope (ElementBy ty e) f s t l = pointed_long objects most ty l _ ((way_long scope e f s.1).low t l)

    pub way_long : (scope : ℕ → Type 0) (e : AnExpression) → Fits scope e → Stands There takes objects e → LongWay objects most (way size count e)
    way_long scope (Constant n) f s = valued_long objects most _ (due_long objects most (Num n) f)
    way_long scope (LiteralAt n bytes) f s = valued_long objects most _ (due_long objects most (Gaddr n) s)
    way_long scope (ArrayAt ty v bytes) f s = valued_long objects most _
        (due_long objects most (address_tree (where_of size v)) (long_where objects most size params block small v s))
    way_long scope (ReadOf p) f s = valued_long objects most _ (λ t l. read_long objects most l _ (place_long scope p f s t l))
    way_long scope (SizeOfExpression n e) f s = valued_long objects most _ (due_long objects most (Num n) f)
    way_long scope (SizeOf n) f s = valued_long objects most _ (due_long objects most (Num n) f)
    way_long scope (AddressOf ty p) f s = valued_long objects most _ (λ t l. address_long objects most l _ (place_long scope p f s t l))
    way_long scope (CallOf ty g to es) f s =
        let n : ℕ = callee_number count g in
        record {
          low = λ t l. called_low_long objects most n l _ (passing_long scope es to f s.1 t l);
          branch = λ sense at t l. test_long objects most sense at l (called_low n (pass size count es to t l))
              (called_low_long objects most n l _ (passing_long scope es to f s.1 t l));
          drop = λ t l. called_drop_long objects most n l _ (passing_long scope es to f s.1 t l);
          deliver = λ at t l. called_deliver_long objects most at n l _ (passing_long scope es to f s.1 t l);
        }
    way_long scope (StepOf m by p) f s = effective_long objects most _ _
        (λ t l. step_low_long objects most size count m by l _ (place_long scope p f s t l))
        (λ t l. store_drop_long objects most l (step_ready size count by (seek size count p t l))
        (step_ready_long objects most size count by l _ (place_long scope p f s t l)))
    way_long scope (UnaryOf op e) f s = unary_long op _ (way_long scope e f s)
    way_long scope (CastTo ty e) f s = converting_long objects most ty _ (way_long scope e f s)
    way_long scope (ConvertTo ty e) f s = converting_long objects most ty _ (way_long scope e f s)
    way_long scope (ArithmeticOf op a b) f s = binary_long objects most size count (Bin op) (λ v w h g. (h, g)) _ _
        (way_long scope a f.0 s.0) (way_long scope b f.1 s.1)
    way_long scope (CompareOf r a b) f s = relation_long objects most size count r _ _ (way_long scope a f.0 s.0) (way_long scope b f.1 s.1)
    way_long scope (BothOf a b) f s = chain_long objects most false _ _ (way_long scope a f.0 s.0) (way_long scope b f.1 s.1)
    way_long scope (EitherOf a b) f s = chain_long objects most true _ _ (way_long scope a f.0 s.0) (way_long scope b f.1 s.1)
    way_long scope (AdvanceOf ty a b) f s = binary_long objects most size count (advance ty) (advance_long objects most ty) _ _
        (way_long scope a f.0 s.0) (way_long scope b f.1 s.1)
    way_long scope (AdvanceByOf ty a b) f s = binary_long objects most size count (advance_by ty) (advance_by_long objects most ty) _ _
        (way_long scope a f.0 s.0) (way_long scope b f.1 s.1)
    way_long scope (RetreatOf ty a b) f s = binary_long objects most size count (retreat ty) (retreat_long objects most ty) _ _
        (way_long scope a f.0 s.0) (way_long scope b f.1 s.1)
    way_long scope (DistanceOf ty a b) f s = binary_long objects most size count (apart ty) (apart_long objects most ty) _ _
        (way_long scope a f.0 s.0) (way_long scope b f.1 s.1)
    way_long scope (ChoiceOf ty c a b) f s = choose_long objects most _ _ _ (way_long scope c f.0 s.0) (way_long scope a f.1 s.1)
        (way_long scope b f.2 s.2)
    way_long scope (AssignTo p e) f s = effective_long objects most _ _
        (λ t l. let q : Located = seek size count p t l in
        assign_low_long (local_of size count q) l q (way size count e) (place_long scope p f.0 s.0 t l) (way_long scope e f.1 s.1))
        (λ t l. let q : Located = seek size count p t l in
        assign_drop_long (local_of size count q) l q (way size count e) (place_long scope p f.0 s.0 t l) (way_long scope e f.1 s.1))
    way_long scope (ArithmeticAssignTo op p e) f s = update_by_long (λ ty. Bin op) (λ ty v w h g. (h, g)) (seek size count p) _
        (place_long scope p f.0 s.0) (way_long scope e f.1 s.1)
    way_long scope (AdvanceAssignTo p e) f s = update_by_long advance (advance_long objects most) (seek size count p) _
        (place_long scope p f.0 s.0) (way_long scope e f.1 s.1)
    way_long scope (RetreatAssignTo p e) f s = update_by_long retreat (retreat_long objects most) (seek size count p) _
        (place_long scope p f.0 s.0) (way_long scope e f.1 s.1)
    way_long scope (CommaOf ty a b) f s = comma_long objects most _ _ (way_long scope a f.0 s.0) (way_long scope b f.1 s.1)

    passing_long : (scope : ℕ → Type 0) (es : SomeExpressions) (to : List CType) → FitsAll scope es to → StandAll There takes objects es
        → (t l : ℕ) → LongPassing objects most l (pass size count es to t l)
    passing_long scope NoExpressions to f s t l = record { grows = omega arith; trees = no_trees; items = λ le. none }
    passing_long scope (MoreExpressions e es) [] f s t l = absurd f
    passing_long scope (MoreExpressions e es) (ty ∷ to) f s t l =
        let p : Lowered = over (passed_as (ty ∷ to)) ((way size count e).low t l) in
        let q : Passing = pass size count es to p.temps p.labels in
        pass_long objects most (must_pass size count p.tree q) l p q
        (passed_long objects most (ty ∷ to) l _ ((way_long scope e f.0 s.0).low t l)) (passing_long scope es to f.1 s.1 p.temps p.labels)

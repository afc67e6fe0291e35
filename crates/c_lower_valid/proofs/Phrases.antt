-- Each expression's items name what is there, with calls in order.
use Rattle.std.proofs.Common.{◌≡◌, ℕ, ◌≤◌, ◌<◌, List, [], ◌∷◌, length, refl, arith, sym, subst}
use Rattle.std.specs.Prelude.{true, false}
use Rattle.c_types.specs.declared.types.CType.{CType}
use Rattle.c_types.specs.declared.typed.Variable.{Variable}
use Rattle.c_types.specs.declared.typed.Variable.TheVariants as variables
use Rattle.c_types.specs.declared.typed.Callee.{Callee}
use Rattle.c_types.specs.Typed.{APlace, VariableAt, PointedBy, ElementBy, AnExpression, Constant, LiteralAt, ArrayAt, ReadOf, SizeOfExpression, SizeOf, AddressOf, CallOf, StepOf}
use Rattle.c_types.specs.Typed.{UnaryOf, CastTo, ConvertTo, ArithmeticOf, CompareOf, BothOf, EitherOf, AdvanceOf, AdvanceByOf, RetreatOf, DistanceOf, ChoiceOf, AssignTo}
use Rattle.c_types.specs.Typed.{ArithmeticAssignTo, AdvanceAssignTo, RetreatAssignTo, CommaOf, SomeExpressions, NoExpressions, MoreExpressions}
use Rattle.c_sound.specs.Fits.{StandsIn, Fits, FitsAt, FitsAll}
use Rattle.c_sound.specs.Stands.{Stands, StandsAt, StandAll, arguments, IsThere}
use Rattle.c_lower_scheme.specs.Trees.{Num, Gaddr, Bin}
use Rattle.c_lower_scheme.specs.Places.{where_of, in_block, address_tree, fitted}
use Rattle.c_lower_scheme.specs.Values.{advance, advance_by, retreat, apart}
use Rattle.c_lower_scheme.specs.Calls.{callee_number, others, called_low}
use Rattle.c_lower_scheme.specs.Assignments
use Rattle.c_lower_scheme.specs.Expressions
use Rattle.c_lower_valid.proofs.Named.{Scene}
use Rattle.c_lower_valid.proofs.Fine.{Ok, ok_block, fine_nil, OkWhere, FineFound, FinePassing, ok_advance, ok_advance_by, ok_retreat, ok_apart, fine_over, fine_read, fine_address}
use Rattle.c_lower_valid.proofs.Fine.{fine_store_drop, fine_pass, fine_called_drop, fine_called_low, fine_called_deliver, fine_test, ok_fitted}
use Rattle.c_lower_valid.proofs.Lowerings.{FineWay, fine_due, fine_valued, fine_effective, fine_conditional, fine_converting, fine_binary, fine_relation, fine_chain, fine_chain_drop}
use Rattle.c_lower_valid.proofs.Lowerings.{fine_choose, fine_comma, fine_unary, fine_update_by, fine_step_ready, fine_step, fine_assign_low, fine_assign_drop}

passes_all : (size count : ℕ) (es : SomeExpressions) (to : List CType) (t l : ℕ)
    → length (Expressions.pass size count es to t l).trees ≡ arguments es
passes_all size count NoExpressions to t l = refl
passes_all size count (MoreExpressions e es) to t l =
    let p = (Expressions.way size count e).low t l in
    let h = passes_all size count es (others to) p.temps p.labels in
    omega (arith, h)

-- In a function with so many bytes in its block, and its first temporary: behind its own locals, and behind the block's address if it has one.
module _ (scene : Scene) (size count first block : ℕ) (takes : Callee → ℕ → Type 0)
    (calls : (f : Callee) (n : ℕ) → takes f n → scene.callable (callee_number count f) n) (fits : size ≤ first) (room : 1 ≤ block → size < first) where
  pub ok_there : (o u : ℕ) → first ≤ u → o < block → Ok scene u (in_block size o)
  ok_there o u le lt = let r : size < first = room (omega arith) in ok_block scene size o u (omega arith)

  ok_array : (v : Variable) (u : ℕ) → first ≤ u → IsThere scene.objects scene.params block v → Ok scene u (address_tree (where_of size v))
  ok_array (variables.Automatic n) u le h = tt
  ok_array (variables.Parameter n) u le h = tt
  ok_array (variables.Global n) u le h = h
  ok_array (variables.Static n) u le h = h
  ok_array (variables.InBlock o) u le h = ok_there o u le h

  ok_variable : (scope : ℕ → Type 0) → ((n : ℕ) → scope n → n < size) → (v : Variable) (u : ℕ) → first ≤ u → StandsIn scope v
      → IsThere scene.objects scene.params block v → OkWhere scene u (where_of size v)
  ok_variable scope within (variables.Automatic n) u le k h = let lt = within n k in omega arith
  ok_variable scope within (variables.Parameter n) u le k h = h
  ok_variable scope within (variables.Global n) u le k h = h
  ok_variable scope within (variables.Static n) u le k h = h
  ok_variable scope within (variables.InBlock o) u le k h = ok_there o u le h

  callable_so : (f : Callee) (es : SomeExpressions) (to : List CType) (t l : ℕ) → takes f (arguments es)
      → scene.callable (callee_number count f) (length (Expressions.pass size count es to t l).trees)
  callable_so f es to t l h = subst (λ n. scene.callable (callee_number count f) n) (sym (passes_all size count es to t l))
      (calls f (arguments es) h)

  abbrev Lowering : AnExpression → Type 0
  Lowering e = FineWay scene size count first (Expressions.way size count e)

  abbrev There : Variable → Type 0
  There v = IsThere scene.objects scene.params block v

  mutual
    pub fine_seek : (scope : ℕ → Type 0) (within : (n : ℕ) → scope n → n < size) (a : APlace) → FitsAt scope a
        → StandsAt There takes scene.objects a → (t l : ℕ) → first ≤ t → FineFound scene t (Expressions.seek size count a t l)
    fine_seek scope within (VariableAt ty v) f s t l le = record
        { grows = omega arith; items = fine_nil scene t; place = ok_variable scope within v t le f s }
    fine_seek scope within (PointedBy ty e) f s t l le = let h = (fine_way scope within e f s).low t l le in
        record { grows = h.grows; items = h.items; place = h.tree }
    fine_seek scope within (ElementBy ty e) f s t l le = let h = (fine_way scope within e f s.1).low t l le in
        record { grows = h.grows; items = h.items; place = h.tree }

    pub fine_way : (scope : ℕ → Type 0) (within : (n : ℕ) → scope n → n < size) (e : AnExpression) → Fits scope e
        → Stands There takes scene.objects e → Lowering e
    fine_way scope within (Constant n) f s = fine_valued scene size count first _ (λ t l le. fine_due scene size count first (Num n) t l tt)
    fine_way scope within (LiteralAt n bytes) f s = fine_valued scene size count first _ (λ t l le. fine_due scene size count first (Gaddr n) t l s)
    fine_way scope within (ArrayAt ty v bytes) f s = fine_valued scene size count first _
        (λ t l le. fine_due scene size count first (address_tree (where_of size v)) t l (ok_array v t le s))
    fine_way scope within (ReadOf a) f s = fine_valued scene size count first _
        (λ t l le. fine_read scene t (Expressions.seek size count a t l) (fine_seek scope within a f s t l le))
    fine_way scope within (SizeOfExpression n e) f s = fine_valued scene size count first _ (λ t l le. fine_due scene size count first (Num n) t l tt)
    fine_way scope within (SizeOf n) f s = fine_valued scene size count first _ (λ t l le. fine_due scene size count first (Num n) t l tt)
    fine_way scope within (AddressOf ty a) f s = fine_valued scene size count first _
        (λ t l le. fine_address scene t (Expressions.seek size count a t l) (fine_seek scope within a f s t l le))
    fine_way scope within (CallOf ty g to es) f s = record {
      low = λ t l le. fine_called_low scene (callee_number count g) t (Expressions.pass size count es to t l) (callable_so g es to t l s.0)
          (fine_passing scope within es to f s.1 t l le);
      branch = λ sense at t l le. fine_test scene sense at t (called_low (callee_number count g) (Expressions.pass size count es to t l))
          (fine_called_low scene (callee_number count g) t (Expressions.pass size count es to t l) (callable_so g es to t l s.0)
          (fine_passing scope within es to f s.1 t l le));
      drop = λ t l le. fine_called_drop scene (callee_number count g) t (Expressions.pass size count es to t l)
          (callable_so g es to t l s.0) (fine_passing scope within es to f s.1 t l le);
      deliver = λ at t l le r. fine_called_deliver scene at (callee_number count g) t (Expressions.pass size count es to t l) r
          (callable_so g es to t l s.0) (fine_passing scope within es to f s.1 t l le);
    }
    fine_way scope within (StepOf m by a) f s = fine_effective scene size count first _ _
        (λ t l le. fine_step scene size count first m by t (Expressions.seek size count a t l) (fine_seek scope within a f s t l le))
        (λ t l le. fine_store_drop scene t (Assignments.step_ready size count by (Expressions.seek size count a t l))
        (fine_step_ready scene size count first by t (Expressions.seek size count a t l) (fine_seek scope within a f s t l le)))
    fine_way scope within (UnaryOf op e) f s = fine_unary scene size count first op (Expressions.way size count e) (fine_way scope within e f s)
    fine_way scope within (CastTo ty e) f s = fine_converting scene size count first ty (Expressions.way size count e) (fine_way scope within e f s)
    fine_way scope within (ConvertTo ty e) f s = fine_converting scene size count first ty (Expressions.way size count e) (fine_way scope within e f s)
    fine_way scope within (ArithmeticOf op a b) f s = fine_binary scene size count first (Bin op) (λ u x y h g. (h, g))
        (Expressions.way size count a) (Expressions.way size count b) (fine_way scope within a f.0 s.0) (fine_way scope within b f.1 s.1)
    fine_way scope within (CompareOf r a b) f s = fine_relation scene size count first r (Expressions.way size count a)
        (Expressions.way size count b) (fine_way scope within a f.0 s.0) (fine_way scope within b f.1 s.1)
    fine_way scope within (BothOf a b) f s =
        let x = fine_way scope within a f.0 s.0 in
        let y = fine_way scope within b f.1 s.1 in
        fine_conditional scene size count first _ _ (fine_chain scene size count first false (Expressions.way size count a)
        (Expressions.way size count b) x y) (fine_chain_drop scene size count first false (Expressions.way size count a)
        (Expressions.way size count b) x y)
    fine_way scope within (EitherOf a b) f s =
        let x = fine_way scope within a f.0 s.0 in
        let y = fine_way scope within b f.1 s.1 in
        fine_conditional scene size count first _ _ (fine_chain scene size count first true (Expressions.way size count a)
        (Expressions.way size count b) x y) (fine_chain_drop scene size count first true (Expressions.way size count a)
        (Expressions.way size count b) x y)
    fine_way scope within (AdvanceOf ty a b) f s = fine_binary scene size count first (advance ty)
        (λ u x y h g. ok_advance scene ty u x y h g) (Expressions.way size count a) (Expressions.way size count b)
        (fine_way scope within a f.0 s.0) (fine_way scope within b f.1 s.1)
    fine_way scope within (AdvanceByOf ty a b) f s = fine_binary scene size count first (advance_by ty)
        (λ u x y h g. ok_advance_by scene ty u x y h g) (Expressions.way size count a) (Expressions.way size count b)
        (fine_way scope within a f.0 s.0) (fine_way scope within b f.1 s.1)
    fine_way scope within (RetreatOf ty a b) f s = fine_binary scene size count first (retreat ty)
        (λ u x y h g. ok_retreat scene ty u x y h g) (Expressions.way size count a) (Expressions.way size count b)
        (fine_way scope within a f.0 s.0) (fine_way scope within b f.1 s.1)
    fine_way scope within (DistanceOf ty a b) f s = fine_binary scene size count first (apart ty) (λ u x y h g. ok_apart scene ty u x y h g)
        (Expressions.way size count a) (Expressions.way size count b) (fine_way scope within a f.0 s.0) (fine_way scope within b f.1 s.1)
    fine_way scope within (ChoiceOf ty c a b) f s = fine_choose scene size count first (Expressions.way size count c)
        (Expressions.way size count a) (Expressions.way size count b) (fine_way scope within c f.0 s.0)
        (fine_way scope within a f.1 s.1) (fine_way scope within b f.2 s.2)
    fine_way scope within (AssignTo a e) f s = fine_effective scene size count first _ _
        (λ t l le. let p = Expressions.seek size count a t l in
        fine_assign_low scene size count first (Assignments.local_of size count p) t p (Expressions.way size count e) refl le
        (fine_seek scope within a f.0 s.0 t l le) (fine_way scope within e f.1 s.1))
        (λ t l le. let p = Expressions.seek size count a t l in
        fine_assign_drop scene size count first (Assignments.local_of size count p) t p (Expressions.way size count e) refl le
        (fine_seek scope within a f.0 s.0 t l le) (fine_way scope within e f.1 s.1))
    fine_way scope within (ArithmeticAssignTo op a e) f s = fine_update_by scene size count first (λ ty. Bin op) (λ ty u x y h g. (h, g))
        (Expressions.seek size count a) (Expressions.way size count e) (fine_seek scope within a f.0 s.0) (fine_way scope within e f.1 s.1)
    fine_way scope within (AdvanceAssignTo a e) f s = fine_update_by scene size count first advance (ok_advance scene)
        (Expressions.seek size count a) (Expressions.way size count e) (fine_seek scope within a f.0 s.0) (fine_way scope within e f.1 s.1)
    fine_way scope within (RetreatAssignTo a e) f s = fine_update_by scene size count first retreat (ok_retreat scene)
        (Expressions.seek size count a) (Expressions.way size count e) (fine_seek scope within a f.0 s.0) (fine_way scope within e f.1 s.1)
    fine_way scope within (CommaOf ty a b) f s = fine_comma scene size count first (Expressions.way size count a)
        (Expressions.way size count b) (fine_way scope within a f.0 s.0) (fine_way scope within b f.1 s.1)

    fine_passing : (scope : ℕ → Type 0) (within : (n : ℕ) → scope n → n < size) (es : SomeExpressions) (to : List CType) → FitsAll scope es to
        → StandAll There takes scene.objects es → (t l : ℕ) → first ≤ t → FinePassing scene t (Expressions.pass size count es to t l)
    fine_passing scope within NoExpressions to f s t l le = record { grows = omega arith; items = fine_nil scene t; trees = tt }
    fine_passing scope within (MoreExpressions e es) [] f s t l le = absurd f
    fine_passing scope within (MoreExpressions e es) (ty ∷ to) f s t l le =
        let p = (Expressions.way size count e).low t l in
        let h = (fine_way scope within e f.0 s.0).low t l le in
        let lx = h.grows in
        fine_pass scene _ t _ (Expressions.pass size count es to p.temps p.labels)
        (fine_over scene (fitted ty) (λ u w k. ok_fitted scene ty u w k) t p h)
        (fine_passing scope within es to f.1 s.1 p.temps p.labels (omega arith))

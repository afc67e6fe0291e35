-- A call and its arguments as code holds them.
use Rattle.std.proofs.Common.{◌≡◌, ℕ, List, ap, sym, ◌∙◌}
use Rattle.std.specs.Global.{Vec}
use Rattle.c_types.specs.declared.types.CType.{CType}
use Rattle.c_types.specs.declared.typed.Callee.{Callee}
use Rattle.c_types.specs.declared.typed.Moment.{Moment}
use Rattle.c_types.specs.declared.typed.Direction.{Direction}
use Rattle.c_types.specs.declared.typed.Place.{Place}
use Rattle.c_types.specs.declared.typed.Expression.{Expression}
use Rattle.c_types.specs.declared.typed.Expression.TheVariants as expression
use Rattle.c_types.specs.Typed.{expression_of, expressions_of, place_of}
use Rattle.c_types.proofs.Rows.{call_is}
use Rattle.c_lower_scheme.specs.Parts.{Lowered, Passing, Located, Emitted, Destination}
use Rattle.c_lower_scheme.specs.Calls.{called_low, called_drop, called_deliver, callee_number}
use Rattle.c_lower_scheme.specs.Assignments.{step_ready, store_drop}
use Rattle.c_lower_scheme.specs.Expressions.{way, pass, seek}

pub call_value : (locals count : ℕ) (e : Expression) (t : CType) (f : Callee) (to : List CType) (xs : Vec Expression) (list : List Expression) (tos : List CType) (u l n : ℕ) (p : Passing)
    (r : Lowered) → e ≡ expression.Call t f to xs → list ≡ xs.items → tos ≡ to → n ≡ callee_number count f → p ≡ pass locals count (expressions_of list) tos u l → r ≡ called_low n p → r
    ≡ (way locals count (expression_of e)).low u l
call_value locals count e t f to xs list tos u l n p r is same at number args made =
    let one : (way locals count (expression_of e)).low u l ≡ called_low (callee_number count f) (pass locals count (expressions_of list) to u l) =
    ap (λ x. (way locals count x).low u l) (call_is e t f to xs list is same) in
    cc

pub call_effect : (locals count : ℕ) (e : Expression) (t : CType) (f : Callee) (to : List CType) (xs : Vec Expression) (list : List Expression) (tos : List CType) (u l n : ℕ) (p : Passing)
    (r : Emitted) → e ≡ expression.Call t f to xs → list ≡ xs.items → tos ≡ to → n ≡ callee_number count f → p ≡ pass locals count (expressions_of list) tos u l → r ≡ called_drop n p → r
    ≡ (way locals count (expression_of e)).drop u l
call_effect locals count e t f to xs list tos u l n p r is same at number args made =
    let one : (way locals count (expression_of e)).drop u l ≡ called_drop (callee_number count f) (pass locals count (expressions_of list) to u l) =
    ap (λ x. (way locals count x).drop u l) (call_is e t f to xs list is same) in
    cc

pub call_deliver : (locals count : ℕ) (e : Expression) (t : CType) (f : Callee) (to : List CType) (xs : Vec Expression) (list : List Expression) (tos : List CType) (u l n : ℕ) (at : Destination)
    (p : Passing) (r : Emitted) → e ≡ expression.Call t f to xs → list ≡ xs.items → tos ≡ to → n ≡ callee_number count f
    → p ≡ pass locals count (expressions_of list) tos u l → r ≡ called_deliver at n p → r
    ≡ (way locals count (expression_of e)).deliver at u l
call_deliver locals count e t f to xs list tos u l n at p r is same types number args made =
    let one : (way locals count (expression_of e)).deliver at u l ≡ called_deliver at (callee_number count f) (pass locals count (expressions_of list) to u l) =
    ap (λ x. (way locals count x).deliver at u l) (call_is e t f to xs list is same) in
    cc

pub step_effect : (locals count : ℕ) (e : Expression) (m : Moment) (by : Direction) (p : Place) (t l : ℕ) (q : Located) (r : Emitted) → e ≡ expression.Step m by p → q
    ≡ seek locals count (place_of p) t l → r ≡ store_drop (step_ready locals count by q) → r ≡ (way locals count (expression_of e)).drop t l
step_effect locals count e m by p t l q r is at made =
    made ∙ ap (λ x. store_drop (step_ready locals count by x)) at ∙ sym (ap (λ x. (way locals count (expression_of x)).drop t l) is)

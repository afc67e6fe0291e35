-- What a test answers, and the types that it asks of an operand.
use Rattle.std.proofs.Common.{◌≡◌, ℕ, Bool, true, false, cond, Some, None, Ok, Err, refl}
use Rattle.c_types.specs.declared.types.CType.{CType}
use Rattle.c_types.specs.declared.types.CType.TheVariants.{Void, Integer, Pointer}
use Rattle.c_types.specs.declared.fault.TypeKind.{TypeKind}
use Rattle.c_types.specs.Answers.{Fault, bad}
use Rattle.c_types.specs.Types.{is_integer}
use Rattle.c_types.specs.Typed.{AnExpression, type_of}
use Rattle.c_typed_operators.specs.Table.{IsInteger}

pub by_test : {A : Type 0} (b : Bool) (x t : A) (place : ℕ) (kind : TypeKind) → cond b (Ok x) (bad place kind) ≡ Ok t → (b ≡ true) × (t ≡ x)
by_test true x t place kind e = (refl, cc)
by_test false x t place kind e = absurd (cc)

pub by_test_one : {A : Type 0} (b : Bool) (x : A) (f : Fault) (place : ℕ) (kind : TypeKind) → cond b (Ok x) (bad place kind) ≡ Err f
    → f ≡ record { place = place; kind = kind }
by_test_one true x f place kind e = absurd (cc)
by_test_one false x f place kind e = cc

pub some_by : {A : Type 0} (b : Bool) (x t : A) → cond b (Some x) None ≡ Some t → (b ≡ true) × (t ≡ x)
some_by true x t e = (refl, cc)
some_by false x t e = absurd (cc)

pub integer_type : (x : AnExpression) (s : CType) → type_of x ≡ s → is_integer s ≡ true → IsInteger x
unfolding is_integer
integer_type x Void p e = absurd (cc)
integer_type x (Integer b) p e = record { of = b; is = p }
integer_type x (Pointer b n) p e = absurd (cc)

pub integer_test : (x : AnExpression) → IsInteger x → is_integer (type_of x) ≡ true
unfolding is_integer
integer_test x i = rw (i.is) refl

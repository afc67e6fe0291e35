-- The rows of string literals.
use Rattle.std.specs.Prelude.{◌≡◌, ℕ, ◌+◌, ◌<◌, ◌≤◌, true, false, List, [], ◌∷◌, ◌++◌, length}
use Rattle.std.specs.Fmt.{decimal}
use Rattle.c_types.specs.declared.fault.TypeKind.TheVariants.{DataFull}
use Rattle.c_types.specs.Answers.{Fault}
use Rattle.c_types.specs.Typed.{AnExpression, LiteralAt}
use Rattle.c_typed_scope.specs.Layout.{Area, aligned, with_object, one_more_literal}

-- the end of an object of so many bytes behind the others
abbrev pub end_with : ℕ → Area → ℕ
end_with size a = aligned a.end 1 + size

-- A literal is an object of its bytes and a closing zero behind the others, whose label is S and its number; while a length is measured it
-- is none.
pub data IsLiteral (bytes : List ℕ) (a : Area) (t : AnExpression × Area) : Type 0 where
  Measured : (measuring : a.measuring ≡ true) (is : t ≡ (LiteralAt 0 (length bytes + 1), a)) → IsLiteral bytes a t
  Laid : (lying : a.measuring ≡ false) (room : end_with (length bytes + 1) a ≤ 1114112)
      (is : t ≡ (
        LiteralAt (length a.objects) (length bytes + 1),
        one_more_literal (with_object (83 ∷ decimal a.literals) 1 (length bytes + 1) (bytes ++ 0 ∷ []) a),
      )) → IsLiteral bytes a t

-- its end lies more than `AREA_LIMIT` bytes past address `AREA_START`
pub record LiteralFault (at : ℕ) (bytes : List ℕ) (a : Area) (f : Fault) : Type 0 where
  pub lying : a.measuring ≡ false
  pub over : 1114112 < end_with (length bytes + 1) a
  pub is : f ≡ record { place = at; kind = DataFull }

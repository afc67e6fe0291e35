-- String literals.
use Rattle.std.proofs.Common.{◌≡◌, ℕ, ◌+◌, ◌<◌, ◌≤◌, Bool, true, false, cond, List, [], ◌∷◌, ◌++◌, length, Result, Ok, Err, refl, sym, ap, ◌∙◌}
use Rattle.std.specs.Prelude.{nat_lt}
use Rattle.std.specs.Fmt.{decimal}
use Rattle.std.proofs.lemmas.Bool.{ltb-true, ltb-false, lt-ltb, le-ltb}
use Rattle.c_types.specs.declared.fault.TypeKind.TheVariants.{DataFull}
use Rattle.c_types.specs.Answers.{Fault, bad, ◌>>=◌}
use Rattle.c_types.specs.Typed.{AnExpression, LiteralAt}
use Rattle.c_typed_operators.specs.Table.{Means}
use Rattle.c_typed_scope.specs.Layout.{Area, aligned, with_object, one_more_literal, placed, literal}
use Rattle.c_typed_table.specs.Strings.{end_with, IsLiteral, Measured, Laid, LiteralFault}

module _ (at : ℕ) (bytes : List ℕ) (a : Area) where
  abbrev laid : AnExpression × Area
  laid = (
    LiteralAt (length a.objects) (length bytes + 1),
    one_more_literal (with_object (83 ∷ decimal a.literals) 1 (length bytes + 1) (bytes ++ 0 ∷ []) a),
  )

  abbrev kept : AnExpression × Area
  kept = (LiteralAt 0 (length bytes + 1), a)

  -- what is answered, by both tests
  abbrev answer : Bool → Bool → Result (AnExpression × Area) Fault
  answer measuring over = cond measuring (Ok kept) (cond over (bad at DataFull) (Ok laid))

  placed_so : (over : Bool)
      → (cond over (bad at DataFull) (Ok (length a.objects, with_object (83 ∷ decimal a.literals) 1 (length bytes + 1) (bytes ++ 0 ∷ []) a))
      >>= λ (r : ℕ × Area). Ok (LiteralAt r.0 (length bytes + 1), one_more_literal r.1))
      ≡ cond over (bad at DataFull) (Ok laid)
  placed_so true = refl
  placed_so false = refl

  answered : literal at bytes a ≡ answer a.measuring (nat_lt 1114112 (end_with (length bytes + 1) a))
  unfolding literal placed
  answered = ap (cond a.measuring (Ok kept)) (placed_so (nat_lt 1114112 (end_with (length bytes + 1) a)))

  within : (over : Bool) → nat_lt 1114112 (end_with (length bytes + 1) a) ≡ over → over ≡ false → end_with (length bytes + 1) a ≤ 1114112
  within over is low = ltb-false 1114112 (end_with (length bytes + 1) a) (is ∙ low)

  found : (t : AnExpression × Area) (m over : Bool) → a.measuring ≡ m → nat_lt 1114112 (end_with (length bytes + 1) a) ≡ over → answer m over ≡ Ok t → IsLiteral bytes a t
  found t true over is o e = Measured is (cc)
  found t false true is o e = absurd (cc)
  found t false false is o e = Laid is (within false o refl) (cc)

  only : (t : AnExpression × Area) → IsLiteral bytes a t → answer a.measuring (nat_lt 1114112 (end_with (length bytes + 1) a)) ≡ Ok t
  only t (Measured m is) = ap (λ (b : Bool). answer b (nat_lt 1114112 (end_with (length bytes + 1) a))) m ∙ ap Ok (sym is)
  only t (Laid m room is) =
      ap (λ (b : Bool). answer b (nat_lt 1114112 (end_with (length bytes + 1) a))) m
      ∙ (ap (answer false) (le-ltb 1114112 (end_with (length bytes + 1) a) room) ∙ ap Ok (sym is))

  faults : (f : Fault) (m over : Bool) → a.measuring ≡ m → nat_lt 1114112 (end_with (length bytes + 1) a) ≡ over → answer m over ≡ Err f → LiteralFault at bytes a f
  faults f true over is o e = absurd (cc)
  faults f false true is o e = record { lying = is; over = ltb-true 1114112 (end_with (length bytes + 1) a) o; is = cc }
  faults f false false is o e = absurd (cc)

  first : (f : Fault) → LiteralFault at bytes a f → answer a.measuring (nat_lt 1114112 (end_with (length bytes + 1) a)) ≡ Err f
  first f w =
      ap (λ (b : Bool). answer b (nat_lt 1114112 (end_with (length bytes + 1) a))) w.lying
      ∙ (ap (answer false) (lt-ltb 1114112 (end_with (length bytes + 1) a) w.over) ∙ ap Err (sym w.is))

  pub literals_mean : Means (literal at bytes a) (IsLiteral bytes a) (LiteralFault at bytes a)
  literals_mean = record {
    found = λ t e. found t a.measuring (nat_lt 1114112 (end_with (length bytes + 1) a)) refl refl (sym answered ∙ e);
    only = λ t r. answered ∙ only t r;
    faults = λ f e. faults f a.measuring (nat_lt 1114112 (end_with (length bytes + 1) a)) refl refl (sym answered ∙ e);
    first = λ f w. answered ∙ first f w;
  }

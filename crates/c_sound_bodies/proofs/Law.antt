-- Typed statements are sound, by one induction over statements.
use Rattle.std.proofs.Common.{◌≡◌, ℕ, Bool, true, List, Option, Some, None}
use Rattle.c_types.specs.declared.types.CType.{CType}
use Rattle.c_types.specs.Typed.{AnExpression, ConvertTo}
use Rattle.c_typed_scope.specs.declared.entry.Entry.{Entry}
use Rattle.c_typed_scope.specs.declared.entry.Signature.{Signature}
use Rattle.c_phrases.specs.Phrases.{AnExp}
use Rattle.c_phrases.specs.Units.{local_item, statement_item, AStatement, block, empty, expression, break_off}
use Rattle.c_phrases.specs.Units.{continue_on, give_back, if_then, if_else, while_loop, do_loop, for_loop, SomeItems}
use Rattle.c_phrases.specs.Units.{no_items}
use Rattle.c_program.specs.Statements.{AnAction, SomeActions, ReturnOf}
use Rattle.c_sound.specs.Fits.{behind_act, declaring, no_local}
use Rattle.c_typed_law.specs.c_typed_definition.specs.State.{State}
use Rattle.c_typed_law.specs.c_typed_definition.specs.Statements.{entered}
use Rattle.c_typed_law.specs.Statements.{IsFull, IsCondition, IsPart, IsTurn, IsReturn, IsStatement, AreItems}
use Rattle.c_typed_law.proofs.Statements.{items_mean}
use Rattle.c_typed_words.specs.Words.{IsToken}
use Rattle.c_typed_words.specs.Phrases.{ExpOf, PartOf, StatementOf, ItemsOf}
use Rattle.c_sound_bodies.specs.States.{InOrder}
use Rattle.c_sound_bodies.specs.Claim.{BodiesAreSound}
use Rattle.c_sound_bodies.proofs.Steps.{ExpressionIsSound, converted_sound, expression_is}
use Rattle.c_sound_bodies.proofs.Locals.{locals_sound}
use Rattle.c_sound_bodies.proofs.Parts.{PartIsSound, ActIsSound, ActsAreSound, part_none, part_some, order_entered, block_sound, empty_sound, evaluate_sound}
use Rattle.c_sound_bodies.proofs.Parts.{return_sound, break_sound, continue_sound, if_sound, if_else_sound, while_sound, do_sound, for_sound, none_sound, order_plain}
use Rattle.c_sound_bodies.proofs.Parts.{statement_first, declaration_first}

module _ (names : List (List ℕ × Entry)) (signatures : List Signature) (scope : ℕ → Type 0) (parameters : ℕ) where
  pub full_sound : (e : AnExp) (s : State) (r : AnExpression × State) → InOrder scope parameters s → IsFull names signatures e s r →
      ExpressionIsSound (ExpOf IsToken e) signatures scope parameters s r.0 r.1
  full_sound e s r o j = rw (j.whole) (expression_is names signatures scope parameters e s j.part o j.typed)

  condition_is : {W : Type 0} (s : State) (x r : AnExpression × State) (c : AnExpression) → ExpressionIsSound W signatures scope parameters s x.0 x.1 → c ≡ x.0 →
      r ≡ (c, x.1) → ExpressionIsSound W signatures scope parameters s r.0 r.1
  condition_is s x r c h same is = rw (is, same) h

  pub condition_sound : (e : AnExp) (s : State) (r : AnExpression × State) → InOrder scope parameters s → IsCondition names signatures e s r →
      ExpressionIsSound (ExpOf IsToken e) signatures scope parameters s r.0 r.1
  condition_sound e s r o j = let k = j.whole in condition_is s j.part r k.part (full_sound e s j.part o j.typed) k.typed.typed k.whole

  left_out : (s : State) (r : Option AnExpression × State) → InOrder scope parameters s → r ≡ (None, s) →
      PartIsSound (Unit {0}) signatures scope parameters s r.0 r.1
  left_out s r o is = rw is (part_none signatures scope parameters s o)

  written_out : {W : Type 0} (s : State) (x : AnExpression × State) (r : Option AnExpression × State) → ExpressionIsSound W signatures scope parameters s x.0 x.1 →
      r ≡ (Some x.0, x.1) → PartIsSound W signatures scope parameters s r.0 r.1
  written_out s x r h is = rw is (part_some signatures scope parameters s x.0 x.1 h)

  pub part_sound : (e : Option AnExp) (s : State) (r : Option AnExpression × State) → InOrder scope parameters s → IsPart names signatures e s r →
      PartIsSound (PartOf IsToken e) signatures scope parameters s r.0 r.1
  part_sound None s r o j = left_out s r o j
  part_sound (Some e) s r o j = written_out s j.part r (full_sound e s j.part o j.typed) j.whole

  pub turn_sound : (e : Option AnExp) (s : State) (r : Option AnExpression × State) → InOrder scope parameters s → IsTurn names signatures e s r →
      PartIsSound (PartOf IsToken e) signatures scope parameters s r.0 r.1
  turn_sound None s r o j = left_out s r o j
  turn_sound (Some e) s r o j = written_out s j.part r (condition_sound e s j.part o j.typed) j.whole

module _ (names : List (List ℕ × Entry)) (signatures : List Signature) (result_type : CType) (parameters : ℕ) where
  returned_is : {W : Type 0} (scope : ℕ → Type 0) (looping : Bool) (s : State) (x : AnExpression × State) (r : AnAction × State) (y : AnExpression) →
      ExpressionIsSound W signatures scope parameters s x.0 x.1 → y ≡ ConvertTo result_type x.0 → r ≡ (ReturnOf (Some y), x.1) →
      ActIsSound W signatures scope parameters looping s r.0 r.1
  returned_is scope looping s x r y h same is =
      rw (is, same) (return_sound signatures scope parameters looping s (Some (ConvertTo result_type x.0)) x.1
      (part_some signatures scope parameters s (ConvertTo result_type x.0) x.1
      (converted_sound signatures scope parameters result_type s x.0 x.1 h)))

  returned_sound : (scope : ℕ → Type 0) (looping : Bool) (e : Option AnExp) (s : State) (r : AnAction × State) → InOrder scope parameters s →
      IsReturn names signatures result_type e s r → ActIsSound (PartOf IsToken e) signatures scope parameters looping s r.0 r.1
  returned_sound scope looping None s r o j = rw j
      (return_sound signatures scope parameters looping s None s (part_none signatures scope parameters s o))
  returned_sound scope looping (Some e) s r o j =
      let k = j.whole in
      returned_is scope looping s j.part r k.part (full_sound names signatures scope parameters e s j.part o j.typed) k.typed.typed k.whole

  mutual
    pub statement_sound : (scope : ℕ → Type 0) (looping : Bool) (a : AStatement) (s : State) (r : AnAction × State) →
        InOrder scope parameters s → IsStatement names signatures result_type looping a s r →
        ActIsSound (StatementOf IsToken a) signatures scope parameters looping s r.0 r.1
    statement_sound scope looping (block row) s r o j =
        rw (j.whole) (block_sound signatures scope parameters looping s j.part.0 j.part.1 o
        (items_sound scope looping row (entered s) j.part (order_entered signatures scope parameters s o) j.typed))
    statement_sound scope looping empty s r o j = rw j (empty_sound signatures scope parameters looping s o)
    statement_sound scope looping (expression e) s r o j =
        rw (j.whole) (evaluate_sound signatures scope parameters looping s j.part.0 j.part.1
        (full_sound names signatures scope parameters e s j.part o j.typed))
    statement_sound scope looping (break_off at) s r o j = rw (j.typed) (break_sound signatures scope parameters looping s j.holds o)
    statement_sound scope looping (continue_on at) s r o j = rw (j.typed) (continue_sound signatures scope parameters looping s j.holds o)
    statement_sound scope looping (give_back at e) s r o j = returned_sound scope looping e s r o j
    statement_sound scope looping (if_then at opened c a) s r o j =
        let k = j.whole in
        let h = condition_sound names signatures scope parameters c s j.part o j.typed in
        rw (k.whole) (if_sound signatures scope parameters looping s j.part.1 k.part.1 j.part.0 k.part.0 h
        (statement_sound scope looping a j.part.1 k.part h.order k.typed))
    statement_sound scope looping (if_else at opened c a other b) s r o j =
        let k = j.whole in
        let m = k.whole in
        let h = condition_sound names signatures scope parameters c s j.part o j.typed in
        let first = statement_sound scope looping a j.part.1 k.part h.order k.typed in
        rw (m.whole) (if_else_sound signatures scope parameters looping s j.part.1 k.part.1 m.part.1 j.part.0 k.part.0 m.part.0 h first
        (statement_sound scope looping b k.part.1 m.part first.order m.typed))
    statement_sound scope looping (while_loop at opened c a) s r o j =
        let k = j.whole in
        let h = condition_sound names signatures scope parameters c s j.part o j.typed in
        rw (k.whole) (while_sound signatures scope parameters looping s j.part.1 k.part.1 j.part.0 k.part.0 h
        (statement_sound scope true a j.part.1 k.part h.order k.typed))
    statement_sound scope looping (do_loop at a again opened c) s r o j =
        let k = j.whole in
        let h = statement_sound scope true a s j.part o j.typed in
        rw (k.whole) (do_sound signatures scope parameters looping s j.part.1 k.part.1 j.part.0 k.part.0 h
        (condition_sound names signatures scope parameters c j.part.1 k.part h.order k.typed))
    statement_sound scope looping (for_loop at opened i c e a) s r o j =
        let k = j.whole in
        let m = k.whole in
        let q = m.whole in
        let hi = part_sound names signatures scope parameters i s j.part o j.typed in
        let hc = turn_sound names signatures scope parameters c j.part.1 k.part hi.order k.typed in
        let he = part_sound names signatures scope parameters e k.part.1 m.part hc.order m.typed in
        rw (q.whole) (for_sound signatures scope parameters looping s j.part.1 k.part.1 m.part.1 q.part.1
        j.part.0 k.part.0 m.part.0 q.part.0 hi hc he
        (statement_sound scope true a m.part.1 q.part he.order q.typed))

    pub items_sound : (scope : ℕ → Type 0) (looping : Bool) (row : SomeItems) (s : State) (r : SomeActions × State) →
        InOrder scope parameters s → AreItems names signatures result_type looping row s r →
        ActsAreSound (ItemsOf IsToken row) signatures scope parameters looping s r.0 r.1
    items_sound scope looping no_items s r o j = rw j (none_sound signatures scope parameters looping s o)
    items_sound scope looping (local_item l rest) s r o j =
        let k = j.whole in
        let h = locals_sound names signatures scope parameters l.storage l.spec l.declarators s j.part o j.typed in
        rw (k.whole) (declaration_first signatures scope parameters looping s j.part.1 k.part.1 j.part.0 k.part.0 h
        (items_sound (declaring scope j.part.0) looping rest j.part.1 k.part h.order k.typed))
    items_sound scope looping (statement_item a rest) s r o j =
        let k = j.whole in
        let h = statement_sound scope looping a s j.part o j.typed in
        rw (k.whole) (statement_first signatures scope parameters looping s j.part.1 k.part.1 j.part.0 k.part.0 h
        (items_sound (behind_act scope j.part.0) looping rest j.part.1 k.part
        (order_plain signatures scope parameters looping j.part.0 j.part.1 h.plain h.order) k.typed))

pub bodies_are_sound : BodiesAreSound
bodies_are_sound names signatures result looping row parameters s r acts o e =
    let h = items_sound names signatures result parameters no_local looping row s (acts, r) o
    ((items_mean names signatures result looping row s).found (acts, r) e) in
    record { fits = h.fits; stands = h.stands; order = h.order; grows = h.grows }

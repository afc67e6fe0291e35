-- Statements are sound where their parts are.
use Rattle.std.proofs.Common.{◌≡◌, ℕ, ◌≤◌, Bool, true, List, Option, Some, None, refl, ap, ◌∙◌}
use Rattle.c_types.specs.Typed.{AnExpression}
use Rattle.c_typed_scope.specs.declared.entry.Signature.{Signature}
use Rattle.c_typed_scope.specs.Scopes.{Scope, leave}
use Rattle.c_program.specs.Statements.{ADeclaration, AnAction, SomeActions, NoActions, MoreActions, DeclareOf, BlockOf, EvaluateOf, BreakOf, ContinueOf, ReturnOf, IfOf, IfElseOf, WhileOf, DoOf, ForOf}
use Rattle.c_program.specs.Programs.{ARoutine}
use Rattle.c_sound.specs.Fits.{FitsMaybe, FitsAct, FitsActs, behind_act, declaring}
use Rattle.c_sound.specs.Stands.{IsThere, Takes, StandsMaybe, StandsAct, StandsActs}
use Rattle.c_typed_law.specs.c_typed_definition.specs.State.{State}
use Rattle.c_typed_law.specs.c_typed_definition.specs.Statements.{entered, left}
use Rattle.c_sound_bodies.specs.States.{InOrder, Grows, HasRoom, HasPlaces}
use Rattle.c_sound_bodies.specs.Claim.{AreDefined, behind_acts}
use Rattle.c_sound_bodies.proofs.Names.{scope_entered, left_scope}
use Rattle.c_sound_bodies.proofs.Steps.{ExpressionIsSound, grows_same, grows_further, room_before, places_before, order_more}
use Rattle.c_sound_bodies.proofs.Declared.{LocalsAreSound}

-- an expression that may be left out
pub record PartIsSound (W : Type 0) (signatures : List Signature) (scope : ℕ → Type 0) (parameters : ℕ) (s : State) (x : Option AnExpression)
    (r : State) : Type 0 where
  pub fits : r.room.length ≤ 262144 → W → FitsMaybe scope x
  pub stands : (gs : List ARoutine) (objects block : ℕ) → HasPlaces objects block r → AreDefined signatures gs →
      StandsMaybe (IsThere objects parameters block) (Takes gs) objects x
  pub names : r.scope ≡ s.scope
  pub order : InOrder scope parameters r
  pub grows : Grows s r

abbrev pub DeclaresNothing : AnAction → Type 0
DeclaresNothing (DeclareOf ds) = ⊥
DeclaresNothing (BlockOf row) = Unit {0}
DeclaresNothing (EvaluateOf e) = Unit {0}
DeclaresNothing BreakOf = Unit {0}
DeclaresNothing ContinueOf = Unit {0}
DeclaresNothing (ReturnOf e) = Unit {0}
DeclaresNothing (IfOf c a) = Unit {0}
DeclaresNothing (IfElseOf c a b) = Unit {0}
DeclaresNothing (WhileOf c a) = Unit {0}
DeclaresNothing (DoOf a c) = Unit {0}
DeclaresNothing (ForOf i c e a) = Unit {0}

-- a statement, which leaves what is in scope
pub record ActIsSound (W : Type 0) (signatures : List Signature) (scope : ℕ → Type 0) (parameters : ℕ) (looping : Bool) (s : State) (a : AnAction)
    (r : State) : Type 0 where
  pub fits : (size : ℕ) → HasRoom size r → W → FitsAct size scope looping a
  pub stands : (gs : List ARoutine) (objects block : ℕ) → HasPlaces objects block r → AreDefined signatures gs →
      StandsAct (IsThere objects parameters block) (Takes gs) objects a
  pub names : r.scope ≡ s.scope
  pub plain : DeclaresNothing a
  pub order : InOrder scope parameters r
  pub grows : Grows s r

-- declarations and statements in a row
pub record ActsAreSound (W : Type 0) (signatures : List Signature) (scope : ℕ → Type 0) (parameters : ℕ) (looping : Bool) (s : State) (acts : SomeActions)
    (r : State) : Type 0 where
  pub fits : (size : ℕ) → HasRoom size r → W → FitsActs size scope looping acts
  pub stands : (gs : List ARoutine) (objects block : ℕ) → HasPlaces objects block r → AreDefined signatures gs →
      StandsActs (IsThere objects parameters block) (Takes gs) objects acts
  pub order : InOrder (behind_acts scope acts) parameters r
  pub grows : Grows s r

module _ (signatures : List Signature) (scope : ℕ → Type 0) (parameters : ℕ) where
  pub part_none : (s : State) → InOrder scope parameters s → PartIsSound (Unit {0}) signatures scope parameters s None s
  part_none s o = record { fits = λ small h. tt; stands = λ gs objects block l defined. tt; names = refl; order = o; grows = grows_same s }

  pub part_some : {W : Type 0} (s : State) (x : AnExpression) (r : State) → ExpressionIsSound W signatures scope parameters s x r →
      PartIsSound W signatures scope parameters s (Some x) r
  part_some s x r h = record { fits = h.fits; stands = h.stands; names = h.names; order = h.order; grows = h.grows }

  pub order_entered : (s : State) → InOrder scope parameters s → InOrder scope parameters (entered s)
  order_entered s o = record { names = λ small. scope_entered _ s.scope (o.names small); laying = o.laying }

  module _ (looping : Bool) where
    -- a block ends with what was in scope where it began
    pub block_sound : {W : Type 0} (s : State) (acts : SomeActions) (r : State) → InOrder scope parameters s →
        ActsAreSound W signatures scope parameters looping (entered s) acts r →
        ActIsSound W signatures scope parameters looping s (BlockOf acts) (left r)
    block_sound s acts r o h =
        let names : leave r.scope ≡ s.scope = left_scope s.scope r.scope h.grows.outer in
        let grows : Grows s (left r) = record {
          locals = h.grows.locals;
          registers = h.grows.registers;
          room = h.grows.room;
          stores = h.grows.stores;
          area = h.grows.area;
          outer = ap (λ (z : Scope). z.outer) names;
        } in
        record {
          fits = λ size l w. h.fits size (record { locals = l.locals; block = l.block }) w;
          stands = λ gs objects block l defined.
              h.stands gs objects block (record { objects = l.objects; block = l.block; limit = l.limit }) defined;
          names = names;
          plain = tt;
          order = order_more scope parameters s (left r) o names grows;
          grows = grows;
        }

    pub empty_sound : (s : State) → InOrder scope parameters s → ActIsSound (Unit {0}) signatures scope parameters looping s (BlockOf NoActions) s
    empty_sound s o = record {
      fits = λ size l h. tt;
      stands = λ gs objects block l defined. tt;
      names = refl;
      plain = tt;
      order = o;
      grows = grows_same s;
    }

    pub evaluate_sound : {W : Type 0} (s : State) (x : AnExpression) (r : State) → ExpressionIsSound W signatures scope parameters s x r →
        ActIsSound W signatures scope parameters looping s (EvaluateOf x) r
    evaluate_sound s x r h = record {
      fits = λ size l w. h.fits l.block w;
      stands = h.stands;
      names = h.names;
      plain = tt;
      order = h.order;
      grows = h.grows;
    }

    pub return_sound : {W : Type 0} (s : State) (x : Option AnExpression) (r : State) → PartIsSound W signatures scope parameters s x r →
        ActIsSound W signatures scope parameters looping s (ReturnOf x) r
    return_sound s x r h = record {
      fits = λ size l w. h.fits l.block w;
      stands = h.stands;
      names = h.names;
      plain = tt;
      order = h.order;
      grows = h.grows;
    }

    pub break_sound : (s : State) → looping ≡ true → InOrder scope parameters s → ActIsSound (Unit {0}) signatures scope parameters looping s BreakOf s
    break_sound s inside o = record {
      fits = λ size l h. inside;
      stands = λ gs objects block l defined. tt;
      names = refl;
      plain = tt;
      order = o;
      grows = grows_same s;
    }

    pub continue_sound : (s : State) → looping ≡ true → InOrder scope parameters s →
        ActIsSound (Unit {0}) signatures scope parameters looping s ContinueOf s
    continue_sound s inside o = record {
      fits = λ size l h. inside;
      stands = λ gs objects block l defined. tt;
      names = refl;
      plain = tt;
      order = o;
      grows = grows_same s;
    }

    pub if_sound : {W V : Type 0} (s m r : State) (c : AnExpression) (a : AnAction) → ExpressionIsSound W signatures scope parameters s c m →
        ActIsSound V signatures scope parameters looping m a r → ActIsSound (W × V) signatures scope parameters looping s (IfOf c a) r
    if_sound s m r c a h k =
        record {
          fits = λ size l w. (h.fits (room_before size m r k.grows l).block w.0, k.fits size l w.1);
          stands = λ gs objects block l defined. (
            h.stands gs objects block (places_before objects block m r k.grows l) defined,
            k.stands gs objects block l defined,
          );
          names = k.names ∙ h.names;
          plain = tt;
          order = k.order;
          grows = grows_further s m r h.grows k.grows;
        }

    pub if_else_sound : {W V U : Type 0} (s m n r : State) (c : AnExpression) (a b : AnAction) → ExpressionIsSound W signatures scope parameters s c m →
        ActIsSound V signatures scope parameters looping m a n → ActIsSound U signatures scope parameters looping n b r →
        ActIsSound (W × V × U) signatures scope parameters looping s (IfElseOf c a b) r
    if_else_sound s m n r c a b h k q =
        let further = grows_further m n r k.grows q.grows in
        record {
          fits = λ size l w. (
            h.fits (room_before size m r further l).block w.0,
            k.fits size (room_before size n r q.grows l) w.1,
            q.fits size l w.2,
          );
          stands = λ gs objects block l defined. (
            h.stands gs objects block (places_before objects block m r further l) defined,
            k.stands gs objects block (places_before objects block n r q.grows l) defined,
            q.stands gs objects block l defined,
          );
          names = q.names ∙ (k.names ∙ h.names);
          plain = tt;
          order = q.order;
          grows = grows_further s m r h.grows further;
        }

    pub while_sound : {W V : Type 0} (s m r : State) (c : AnExpression) (a : AnAction) → ExpressionIsSound W signatures scope parameters s c m →
        ActIsSound V signatures scope parameters true m a r → ActIsSound (W × V) signatures scope parameters looping s (WhileOf c a) r
    while_sound s m r c a h k =
        record {
          fits = λ size l w. (h.fits (room_before size m r k.grows l).block w.0, k.fits size l w.1);
          stands = λ gs objects block l defined. (
            h.stands gs objects block (places_before objects block m r k.grows l) defined,
            k.stands gs objects block l defined,
          );
          names = k.names ∙ h.names;
          plain = tt;
          order = k.order;
          grows = grows_further s m r h.grows k.grows;
        }

    pub do_sound : {W V : Type 0} (s m r : State) (a : AnAction) (c : AnExpression) → ActIsSound W signatures scope parameters true s a m →
        ExpressionIsSound V signatures scope parameters m c r → ActIsSound (W × V) signatures scope parameters looping s (DoOf a c) r
    do_sound s m r a c k h =
        record {
          fits = λ size l w. (k.fits size (room_before size m r h.grows l) w.0, h.fits l.block w.1);
          stands = λ gs objects block l defined. (
            k.stands gs objects block (places_before objects block m r h.grows l) defined,
            h.stands gs objects block l defined,
          );
          names = h.names ∙ k.names;
          plain = tt;
          order = h.order;
          grows = grows_further s m r k.grows h.grows;
        }

    pub for_sound : {W V U X : Type 0} (s m n q r : State) (i c e : Option AnExpression) (a : AnAction) → PartIsSound W signatures scope parameters s i m →
        PartIsSound V signatures scope parameters m c n → PartIsSound U signatures scope parameters n e q →
        ActIsSound X signatures scope parameters true q a r → ActIsSound (W × V × U × X) signatures scope parameters looping s (ForOf i c e a) r
    for_sound s m n q r i c e a hi hc he ha =
        let second = grows_further n q r he.grows ha.grows in
        let first = grows_further m n r hc.grows second in
        record {
          fits = λ size l w. (
            hi.fits (room_before size m r first l).block w.0,
            hc.fits (room_before size n r second l).block w.1,
            he.fits (room_before size q r ha.grows l).block w.2,
            ha.fits size l w.3,
          );
          stands = λ gs objects block l defined. (
            hi.stands gs objects block (places_before objects block m r first l) defined,
            hc.stands gs objects block (places_before objects block n r second l) defined,
            he.stands gs objects block (places_before objects block q r ha.grows l) defined,
            ha.stands gs objects block l defined,
          );
          names = ha.names ∙ (he.names ∙ (hc.names ∙ hi.names));
          plain = tt;
          order = ha.order;
          grows = grows_further s m r hi.grows first;
        }

    pub none_sound : (s : State) → InOrder scope parameters s → ActsAreSound (Unit {0}) signatures scope parameters looping s NoActions s
    none_sound s o = record { fits = λ size l h. tt; stands = λ gs objects block l defined. tt; order = o; grows = grows_same s }

    -- behind a statement the same is in scope
    pub order_plain : (a : AnAction) (r : State) → DeclaresNothing a → InOrder scope parameters r → InOrder (behind_act scope a) parameters r
    order_plain (DeclareOf ds) r plain o = absurd plain
    order_plain (BlockOf row) r plain o = o
    order_plain (EvaluateOf e) r plain o = o
    order_plain BreakOf r plain o = o
    order_plain ContinueOf r plain o = o
    order_plain (ReturnOf e) r plain o = o
    order_plain (IfOf c a) r plain o = o
    order_plain (IfElseOf c a b) r plain o = o
    order_plain (WhileOf c a) r plain o = o
    order_plain (DoOf a c) r plain o = o
    order_plain (ForOf i c e a) r plain o = o

    pub statement_first : {W V : Type 0} (s m r : State) (a : AnAction) (row : SomeActions) → ActIsSound W signatures scope parameters looping s a m →
        ActsAreSound V signatures (behind_act scope a) parameters looping m row r →
        ActsAreSound (W × V) signatures scope parameters looping s (MoreActions a row) r
    statement_first s m r a row h k =
        record {
          fits = λ size l w. (h.fits size (room_before size m r k.grows l) w.0, k.fits size l w.1);
          stands = λ gs objects block l defined. (
            h.stands gs objects block (places_before objects block m r k.grows l) defined,
            k.stands gs objects block l defined,
          );
          order = k.order;
          grows = grows_further s m r h.grows k.grows;
        }

    pub declaration_first : {W V : Type 0} (s m r : State) (ds : List ADeclaration) (row : SomeActions) → LocalsAreSound W signatures scope parameters s ds m →
        ActsAreSound V signatures (declaring scope ds) parameters looping m row r →
        ActsAreSound (W × V) signatures scope parameters looping s (MoreActions (DeclareOf ds) row) r
    declaration_first s m r ds row h k =
        record {
          fits = λ size l w. (h.fits size (room_before size m r k.grows l) w.0, k.fits size l w.1);
          stands = λ gs objects block l defined. (
            h.stands gs objects block (places_before objects block m r k.grows l) defined,
            k.stands gs objects block l defined,
          );
          order = k.order;
          grows = grows_further s m r h.grows k.grows;
        }

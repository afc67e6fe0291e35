-- From one state to the next: what grows, what stays in order, and expressions.
use Rattle.std.proofs.Common.{◌≡◌, ℕ, ◌≤◌, List, length, refl, ◌∙◌, arith}
use Rattle.c_phrases.specs.Phrases.{AnExp}
use Rattle.c_types.specs.declared.types.CType.{CType}
use Rattle.c_types.specs.Typed.{AnExpression, Constant, ConvertTo}
use Rattle.c_typed_scope.specs.declared.entry.Entry.{Entry}
use Rattle.c_typed_scope.specs.declared.entry.Signature.{Signature}
use Rattle.c_typed_scope.specs.Layout.{Area}
use Rattle.c_program.specs.Programs.{ARoutine}
use Rattle.c_sound.specs.Fits.{Fits}
use Rattle.c_sound.specs.Stands.{IsThere, Takes, Stands}
use Rattle.c_typed_expressions.specs.Relations.{IsTyped}
use Rattle.c_typed_law.specs.c_typed_definition.specs.State.{State, with_area}
use Rattle.c_typed_words.specs.Words.{IsToken}
use Rattle.c_typed_words.specs.Phrases.{ExpOf}
use Rattle.c_sound_bodies.specs.States.{InOrder, Extends, Grows, HasRoom, HasPlaces}
use Rattle.c_sound_bodies.specs.Claim.{AreDefined}
use Rattle.c_sound_bodies.proofs.Names.{scope_more, known_more}
use Rattle.c_sound_bodies.proofs.Growth.{extends_same, extends_further, exp_extends}
use Rattle.c_sound_bodies.proofs.Closures.{exp_fits, exp_stands}

pub grows_same : (s : State) → Grows s s
grows_same s = record {
  locals = omega arith;
  registers = λ x. x;
  room = λ small. omega arith;
  stores = refl;
  area = extends_same s.area;
  outer = refl;
}

room_further : (a b c : ℕ) → (b ≤ 262144 → a ≤ b) → (c ≤ 262144 → b ≤ c) → c ≤ 262144 → a ≤ c
room_further a b c h k small = let second : b ≤ c = k small in let first : a ≤ b = h (omega arith) in omega arith

pub grows_further : (s m r : State) → Grows s m → Grows m r → Grows s r
grows_further s m r h k = record {
  locals = omega arith;
  registers = λ x. k.registers (h.registers x);
  room = room_further s.room.length m.room.length r.room.length h.room k.room;
  stores = k.stores ∙ h.stores;
  area = extends_further s.area m.area r.area h.area k.area;
  outer = k.outer ∙ h.outer;
}

-- the area alone grows
pub grows_area : (s : State) (a : Area) → Extends s.area a → Grows s (with_area a s)
grows_area s a h = record {
  locals = omega arith;
  registers = λ x. x;
  room = λ small. omega arith;
  stores = refl;
  area = h;
  outer = refl;
}

-- where there is room for a state, there is for those before it
pub room_before : (size : ℕ) (m r : State) → Grows m r → HasRoom size r → HasRoom size m
room_before size m r h l =
    let locals : length m.locals ≤ length r.locals = h.locals in
    let most : length r.locals ≤ size = l.locals in
    let small : r.room.length ≤ 262144 = l.block in
    let block : m.room.length ≤ r.room.length = h.room small in
    record { locals = omega arith; block = omega arith }

pub places_before : (objects block : ℕ) (m r : State) → Grows m r → HasPlaces objects block r → HasPlaces objects block m
places_before objects block m r h l =
    let older : length m.area.objects ≤ length r.area.objects = h.area.objects in
    let most : length r.area.objects ≤ objects = l.objects in
    let inside : r.room.length ≤ block = l.block in
    let limit : block ≤ 262144 = l.limit in
    let before : m.room.length ≤ r.room.length = h.room (omega arith) in
    record { objects = omega arith; block = omega arith; limit = limit }

-- where more is in scope, and nothing is named that was not
pub order_more : (scope : ℕ → Type 0) (parameters : ℕ) (s r : State) → InOrder scope parameters s → r.scope ≡ s.scope → Grows s r →
    InOrder scope parameters r
order_more scope parameters s r o is h = record {
  names = λ small. let before : s.room.length ≤ r.room.length = h.room small in
      rw is (scope_more _ _ s.scope (known_more scope scope (length s.locals) parameters (length s.area.objects) s.room.length
      (length r.locals) (length r.area.objects) r.room.length (λ n k. k) h.locals h.area.objects before) (o.names (omega arith)));
  laying = h.area.measuring ∙ o.laying;
}

-- an expression of a statement
pub record ExpressionIsSound (W : Type 0) (signatures : List Signature) (scope : ℕ → Type 0) (parameters : ℕ) (s : State) (x : AnExpression) (r : State) : Type 0 where
  pub fits : r.room.length ≤ 262144 → W → Fits scope x
  pub stands : (gs : List ARoutine) (objects block : ℕ) → HasPlaces objects block r → AreDefined signatures gs →
      Stands (IsThere objects parameters block) (Takes gs) objects x
  pub names : r.scope ≡ s.scope
  pub order : InOrder scope parameters r
  pub grows : Grows s r

-- zero
pub zero_is : (signatures : List Signature) (scope : ℕ → Type 0) (parameters : ℕ) (s : State) → InOrder scope parameters s →
    ExpressionIsSound (Unit {0}) signatures scope parameters s (Constant 0) s
zero_is signatures scope parameters s o = record {
  fits = λ small w. omega arith;
  stands = λ gs objects block l defined. tt;
  names = refl;
  order = o;
  grows = grows_same s;
}

pub converted_sound : {W : Type 0} (signatures : List Signature) (scope : ℕ → Type 0) (parameters : ℕ) (t : CType) (s : State) (x : AnExpression) (r : State) →
    ExpressionIsSound W signatures scope parameters s x r → ExpressionIsSound W signatures scope parameters s (ConvertTo t x) r
converted_sound signatures scope parameters t s x r h =
    record { fits = h.fits; stands = h.stands; names = h.names; order = h.order; grows = h.grows }

pub expression_is : (names : List (List ℕ × Entry)) (signatures : List Signature) (scope : ℕ → Type 0) (parameters : ℕ) (e : AnExp) (s : State)
    (x : AnExpression × Area) → InOrder scope parameters s → IsTyped names signatures s.scope e s.area x →
    ExpressionIsSound (ExpOf IsToken e) signatures scope parameters s x.0 (with_area x.1 s)
expression_is names signatures scope parameters e s x o j =
    let further = grows_area s x.1 (exp_extends names signatures s.scope e s.area x j) in
    record {
      fits = λ small w. exp_fits names signatures scope parameters s e x o small j w;
      stands = λ gs objects block l defined. exp_stands names signatures scope parameters s gs objects block e x o l defined j;
      names = refl;
      order = order_more scope parameters s (with_area x.1 s) o refl further;
      grows = further;
    }

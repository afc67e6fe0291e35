-- Fitting and standing hold of an expression because they hold of its parts.
use Rattle.std.proofs.Common.{◌≡◌, ℕ, ◌≤◌, ◌<◌, ◌^◌, List, [], ◌∷◌, length, arith}
use Rattle.c_phrases.specs.Phrases.{AnExp}
use Rattle.c_types.specs.declared.types.CType.{CType}
use Rattle.c_types.specs.declared.typed.Variable.{Variable}
use Rattle.c_types.specs.declared.typed.Variable.TheVariants as variables
use Rattle.c_types.specs.declared.typed.Callee.{Callee}
use Rattle.c_types.specs.Typed.{AnExpression, SomeExpressions, NoExpressions, MoreExpressions, operand_size}
use Rattle.c_types.proofs.Sizes.{size_small}
use Rattle.c_typed_scope.specs.declared.entry.Entry.{Entry}
use Rattle.c_typed_scope.specs.declared.entry.Signature.{Signature}
use Rattle.c_typed_scope.specs.Layout.{Area}
use Rattle.c_program.specs.Programs.{ARoutine}
use Rattle.c_typed_words.specs.Words.{IsToken}
use Rattle.c_typed_words.specs.Phrases.{ExpOf}
use Rattle.c_typed_words.proofs.Any.{AnyToken, any_exp}
use Rattle.c_sound.specs.Fits.{StandsIn, Fits, FitsAll}
use Rattle.c_sound.specs.Stands.{arguments, IsThere, Takes, Stands, StandAll}
use Rattle.c_typed_expressions.specs.Relations.{IsTyped}
use Rattle.c_typed_law.specs.c_typed_definition.specs.State.{State, with_area}
use Rattle.c_sound_bodies.specs.States.{IsKnown, InOrder, HasPlaces}
use Rattle.c_sound_bodies.specs.Claim.{AreDefined}
use Rattle.c_sound_bodies.proofs.ByParts.{Every, Closed}
use Rattle.c_sound_bodies.proofs.Growth.{exp_extends}
use Rattle.c_sound_bodies.proofs.Expressions.{exp_has}

stands_in : (scope : ℕ → Type 0) (locals parameters objects block : ℕ) (v : Variable) (size : ℕ) →
    IsKnown scope locals parameters objects block v size → StandsIn scope v
stands_in scope locals parameters objects block (variables.Automatic n) size h = h.0
stands_in scope locals parameters objects block (variables.Parameter n) size h = tt
stands_in scope locals parameters objects block (variables.Global n) size h = tt
stands_in scope locals parameters objects block (variables.Static n) size h = tt
stands_in scope locals parameters objects block (variables.InBlock o) size h = tt

-- an array's size is a longword
short : (scope : ℕ → Type 0) (locals parameters objects block : ℕ) → block ≤ 262144 → (v : Variable) (size : ℕ) →
    IsKnown scope locals parameters objects block v size → size < 2 ^ 32
short scope locals parameters objects block l (variables.Automatic n) size h = h.2
short scope locals parameters objects block l (variables.Parameter n) size h = h.1
short scope locals parameters objects block l (variables.Global n) size h = h.1
short scope locals parameters objects block l (variables.Static n) size h = h.1
short scope locals parameters objects block l (variables.InBlock o) size h = let within : size ≤ block = h.1 in omega arith

-- an expression that fits, whose size is a longword
abbrev pub IsFit : (ℕ → Type 0) → AnExpression → Type 0
IsFit scope x = Fits scope x × (operand_size x < 2 ^ 32)

fits_all : (scope : ℕ → Type 0) (es : SomeExpressions) (to : List CType) → arguments es ≡ length to → Every (IsFit scope) es → FitsAll scope es to
fits_all scope NoExpressions to many all = tt
fits_all scope (MoreExpressions e es) [] many all = absurd (omega arith)
fits_all scope (MoreExpressions e es) (t ∷ to) many all = (all.0.0, fits_all scope es to (omega arith) all.1)

abbrev pub any_call : Callee → ℕ → Type 0
any_call f n = Unit {0}

pub fits_closed : (scope : ℕ → Type 0) (locals parameters known room objects : ℕ) → room ≤ 262144 →
    Closed IsToken (IsKnown scope locals parameters known room) any_call objects (IsFit scope)
unfolding operand_size
fits_closed scope locals parameters known room objects l = record {
  number = λ n small. (small, size_small _);
  literal = λ n size h small. (tt, small);
  array = λ t v size k. (tt, short scope locals parameters known room l v size k);
  variable = λ t v k. (stands_in scope locals parameters known room v 0 k, size_small _);
  pointed = λ t x p. (p.0, size_small _);
  element = λ t x a p. (p.0, size_small _);
  size_of_expression = λ x p. (p.1, size_small _);
  size = λ t. (size_small t, size_small _);
  address = λ t p h. (h.0, size_small _);
  call = λ t f to es takes many all. (fits_all scope es to many all, size_small _);
  step = λ m by p h. (h.0, size_small _);
  unary = λ op x p. (p.0, size_small _);
  cast = λ t x p. (p.0, size_small _);
  convert = λ t x p. (p.0, size_small _);
  arithmetic = λ op x y p q. ((p.0, q.0), size_small _);
  compare = λ rel x y p q. ((p.0, q.0), size_small _);
  both = λ x y p q. ((p.0, q.0), size_small _);
  either = λ x y p q. ((p.0, q.0), size_small _);
  advance = λ t x y p q. ((p.0, q.0), size_small _);
  advance_by = λ t x y p q. ((p.0, q.0), size_small _);
  retreat = λ t x y p q. ((p.0, q.0), size_small _);
  distance = λ t x y p q. ((p.0, q.0), size_small _);
  choice = λ t z x y o p q. ((o.0, p.0, q.0), size_small _);
  assign = λ p y a q. ((a.0, q.0), size_small _);
  arithmetic_assign = λ op p y a q. ((a.0, q.0), size_small _);
  advance_assign = λ p y a q. ((a.0, q.0), size_small _);
  retreat_assign = λ p y a q. ((a.0, q.0), size_small _);
  comma = λ t x y p q. ((p.0, q.0), size_small _);
}

is_there : (scope : ℕ → Type 0) (locals parameters known room objects block : ℕ) → known ≤ objects → room ≤ block → (v : Variable)
    (size : ℕ) → IsKnown scope locals parameters known room v size → IsThere objects parameters block v
is_there scope locals parameters known room objects block l m (variables.Automatic n) size h = tt
is_there scope locals parameters known room objects block l m (variables.Parameter n) size h = h.0
is_there scope locals parameters known room objects block l m (variables.Global n) size h = let below : n < known = h.0 in omega arith
is_there scope locals parameters known room objects block l m (variables.Static n) size h = let below : n < known = h.0 in omega arith
is_there scope locals parameters known room objects block l m (variables.InBlock o) size h = let below : o < room = h.0 in omega arith

-- an expression that names what is there stands
abbrev pub WillStand : (objects parameters block : ℕ) → List ARoutine → AnExpression → Type 0
WillStand objects parameters block gs x = Stands (IsThere objects parameters block) (Takes gs) objects x

stand_all : (objects parameters block : ℕ) (gs : List ARoutine) (es : SomeExpressions) → Every (WillStand objects parameters block gs) es →
    StandAll (IsThere objects parameters block) (Takes gs) objects es
stand_all objects parameters block gs NoExpressions all = tt
stand_all objects parameters block gs (MoreExpressions e es) all = (all.0, stand_all objects parameters block gs es all.1)

pub stands_closed : (scope : ℕ → Type 0) (locals parameters known room objects block : ℕ) (gs : List ARoutine) → known ≤ objects → room ≤ block →
    Closed AnyToken (IsKnown scope locals parameters known room) (Takes gs) objects (WillStand objects parameters block gs)
stands_closed scope locals parameters known room objects block gs l m = record {
  number = λ n w. tt;
  literal = λ n size h small. h;
  array = λ t v size k. is_there scope locals parameters known room objects block l m v size k;
  variable = λ t v k. is_there scope locals parameters known room objects block l m v 0 k;
  pointed = λ t x p. p;
  element = λ t x a p. (a, p);
  size_of_expression = λ x p. tt;
  size = λ t. tt;
  address = λ t p h. h;
  call = λ t f to es takes many all. (rw many takes, stand_all objects parameters block gs es all);
  step = λ m by p h. h;
  unary = λ op x p. p;
  cast = λ t x p. p;
  convert = λ t x p. p;
  arithmetic = λ op x y p q. (p, q);
  compare = λ rel x y p q. (p, q);
  both = λ x y p q. (p, q);
  either = λ x y p q. (p, q);
  advance = λ t x y p q. (p, q);
  advance_by = λ t x y p q. (p, q);
  retreat = λ t x y p q. (p, q);
  distance = λ t x y p q. (p, q);
  choice = λ t z x y o p q. (o, p, q);
  assign = λ p y a q. (a, q);
  arithmetic_assign = λ op p y a q. (a, q);
  advance_assign = λ p y a q. (a, q);
  retreat_assign = λ p y a q. (a, q);
  comma = λ t x y p q. (p, q);
}

module _ (names : List (List ℕ × Entry)) (signatures : List Signature) where
  -- what an expression is typed as fits, and stands
  pub exp_fits : (scope : ℕ → Type 0) (parameters : ℕ) (s : State) (e : AnExp) (t : AnExpression × Area) → InOrder scope parameters s →
      s.room.length ≤ 262144 → IsTyped names signatures s.scope e s.area t → ExpOf IsToken e → Fits scope t.0
  exp_fits scope parameters s e t o small j w =
      (exp_has IsToken (IsKnown scope (length s.locals) parameters (length s.area.objects) s.room.length) any_call (length t.1.objects) (IsFit scope)
      (fits_closed scope (length s.locals) parameters (length s.area.objects) s.room.length (length t.1.objects) small)
      names signatures s.scope (o.names small) (λ n g is. tt) e w s.area t j (record { laying = o.laying; most = omega arith })).0

  pub exp_stands : (scope : ℕ → Type 0) (parameters : ℕ) (s : State) (gs : List ARoutine) (objects block : ℕ) (e : AnExp) (t : AnExpression × Area) →
      InOrder scope parameters s → HasPlaces objects block (with_area t.1 s) → AreDefined signatures gs →
      IsTyped names signatures s.scope e s.area t → WillStand objects parameters block gs t.0
  exp_stands scope parameters s gs objects block e t o l defined j =
      let more = exp_extends names signatures s.scope e s.area t j in
      let first : length s.area.objects ≤ length t.1.objects = more.objects in
      let most : length t.1.objects ≤ objects = l.objects in
      let room : s.room.length ≤ block = l.block in
      let limit : block ≤ 262144 = l.limit in
      exp_has AnyToken (IsKnown scope (length s.locals) parameters (length s.area.objects) s.room.length) (Takes gs) objects
      (WillStand objects parameters block gs)
      (stands_closed scope (length s.locals) parameters (length s.area.objects) s.room.length objects block gs (omega arith) room)
      names signatures s.scope (o.names (omega arith)) defined e (any_exp e) s.area t j (record { laying = o.laying; most = most })

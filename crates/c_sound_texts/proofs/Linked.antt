-- An expression that stands for an object's address names an object that is there.
use Rattle.std.proofs.Common.{◌≡◌, ℕ, ◌<◌, ◌≤◌, List, length, Some, false, arith}
use Rattle.c_phrases.specs.Phrases.{AnExp}
use Rattle.c_types.specs.declared.typed.Variable.{Variable}
use Rattle.c_types.specs.declared.typed.Variable.TheVariants as variables
use Rattle.c_types.specs.Typed.{APlace, VariableAt, AnExpression, LiteralAt, ArrayAt, AddressOf, SomeExpressions, NoExpressions, MoreExpressions}
use Rattle.c_typed_scope.specs.declared.entry.Entry.{Entry}
use Rattle.c_typed_scope.specs.declared.entry.Signature.{Signature}
use Rattle.c_typed_scope.specs.Scopes.{Scope}
use Rattle.c_typed_scope.specs.Layout.{Area}
use Rattle.c_typed_scope.specs.Contents.{linked_place, linked}
use Rattle.c_sound.specs.Stands.{Stands, StandsAt, StandAll}
use Rattle.c_typed_expressions.specs.Relations.{IsTyped}
use Rattle.c_sound_bodies.specs.c_typed_words.proofs.Any.{AnyToken, any_exp}
use Rattle.c_sound_bodies.specs.States.{ScopeOf}
use Rattle.c_sound_bodies.proofs.ByParts.{Every, Closed}
use Rattle.c_sound_bodies.proofs.Names.{scope_more}
use Rattle.c_sound_bodies.proofs.Closures.{any_call}
use Rattle.c_sound_bodies.proofs.Expressions.{exp_has}
use Rattle.c_sound_texts.proofs.Areas.{Lays, longer}

-- a variable's object is one of so many
abbrev pub IsLaid : ℕ → Variable → Type 0
IsLaid objects (variables.Automatic n) = Unit {0}
IsLaid objects (variables.Parameter n) = Unit {0}
IsLaid objects (variables.Global n) = n < objects
IsLaid objects (variables.Static n) = n < objects
IsLaid objects (variables.InBlock o) = Unit {0}

-- so is an array's, whatever its size
abbrev pub LaidIn : ℕ → Variable → ℕ → Type 0
LaidIn objects v size = IsLaid objects v

pub laid_more : (objects many : ℕ) → objects ≤ many → (v : Variable) (size : ℕ) → LaidIn objects v size → LaidIn many v size
laid_more objects many l (variables.Automatic n) size h = tt
laid_more objects many l (variables.Parameter n) size h = tt
laid_more objects many l (variables.Global n) size h = omega arith
laid_more objects many l (variables.Static n) size h = omega arith
laid_more objects many l (variables.InBlock o) size h = tt

-- an expression names objects that are there
abbrev pub NamesObjects : ℕ → AnExpression → Type 0
NamesObjects objects x = Stands (IsLaid objects) any_call objects x

all_name : (objects : ℕ) (es : SomeExpressions) → Every (NamesObjects objects) es → StandAll (IsLaid objects) any_call objects es
all_name objects NoExpressions all = tt
all_name objects (MoreExpressions e es) all = (all.0, all_name objects es all.1)

closed : (objects : ℕ) → Closed AnyToken (LaidIn objects) any_call objects (NamesObjects objects)
closed objects = record {
  number = λ n w. tt;
  literal = λ n size h small. h;
  array = λ t v size k. k;
  variable = λ t v k. k;
  pointed = λ t x p. p;
  element = λ t x a p. (a, p);
  size_of_expression = λ x p. tt;
  size = λ t. tt;
  address = λ t p h. h;
  call = λ t f to es takes many all. (tt, all_name objects es all);
  step = λ m by p h. h;
  unary = λ op x p. p;
  cast = λ t x p. p;
  convert = λ t x p. p;
  arithmetic = λ op x y p q. (p, q);
  compare = λ rel x y p q. (p, q);
  both = λ x y p q. (p, q);
  either = λ x y p q. (p, q);
  advance = λ t x y p q. (p, q);
  advance_by = λ t x y p q. (p, q);
  retreat = λ t x y p q. (p, q);
  distance = λ t x y p q. (p, q);
  choice = λ t z x y o p q. (o, p, q);
  assign = λ p y a q. (a, q);
  arithmetic_assign = λ op p y a q. (a, q);
  advance_assign = λ p y a q. (a, q);
  retreat_assign = λ p y a q. (a, q);
  comma = λ t x y p q. (p, q);
}

-- what an expression is typed as, in a scope whose variables are laid out
pub exp_names : (names : List (List ℕ × Entry)) (signatures : List Signature) (scope : Scope) (e : AnExp) (a : Area)
    (t : AnExpression × Area) → ScopeOf (LaidIn (length a.objects)) scope → a.measuring ≡ false → Lays a t.1 →
    IsTyped names signatures scope e a t → NamesObjects (length t.1.objects) t.0
exp_names names signatures scope e a t o free h j =
    exp_has AnyToken (LaidIn (length t.1.objects)) any_call (length t.1.objects) (NamesObjects (length t.1.objects)) (closed (length t.1.objects))
    names signatures scope
    (scope_more (LaidIn (length a.objects)) (LaidIn (length t.1.objects)) scope
    (laid_more (length a.objects) (length t.1.objects) (longer a t.1 h)) o)
    (λ n g is. tt) e (any_exp e) a t j (record { laying = free; most = omega arith })

place_below : (objects n : ℕ) (p : APlace) → StandsAt (IsLaid objects) any_call objects p → linked_place p ≡ Some n → n < objects
place_below objects n (VariableAt t (variables.Global m)) h e = let same : n ≡ m = cc in omega arith
place_below objects n _ h e = absurd (cc)

-- the object whose address it is
pub linked_below : (objects n : ℕ) (x : AnExpression) → NamesObjects objects x → linked x ≡ Some n → n < objects
unfolding linked
linked_below objects n (LiteralAt m size) h e = let same : n ≡ m = cc in omega arith
linked_below objects n (ArrayAt t (variables.Global m) size) h e = let same : n ≡ m = cc in omega arith
linked_below objects n (AddressOf t p) h e = place_below objects n p h e
linked_below objects n _ h e = absurd (cc)

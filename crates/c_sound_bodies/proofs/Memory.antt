-- What memory locals become: values that are stored in the block, and arrays there.
use Rattle.std.proofs.Common.{◌≡◌, ℕ, ◌+◌, ◌-◌, ◌*◌, ◌==◌, ◌≤◌, ◌<◌, ◌^◌, Bool, true, false, List, [], ◌∷◌, ◌++◌, length, Option, Some, None, refl, ap, ◌∙◌, arith}
use Rattle.std.proofs.Math.Nat.{mul-le-mul_right, add-mul}
use Rattle.std.proofs.lemmas.Bool.{eqb-true}
use Rattle.std.proofs.lemmas.Bool.Decides.{nat_tests}
use Rattle.std.proofs.lemmas.Nat.{mul-le}
use Rattle.std.specs.Prelude.{nat_lt, ◌&&◌, if◌then◌else◌}
use Rattle.gg_base.proofs.Words.{zext8_small, zext16_small, sext8_small, sext16_small}
use Rattle.c_phrases.specs.Phrases.{AnExp, str, paren, SomeExps, no_exps, exps}
use Rattle.c_phrases.specs.Units.{AnInit, value, elements, ADeclarator}
use Rattle.c_types.specs.declared.types.CType.{CType}
use Rattle.c_types.specs.declared.types.CType.TheVariants as types
use Rattle.c_types.specs.declared.types.Integer.TheVariants as ints
use Rattle.c_types.specs.declared.typed.Variable.TheVariants as variables
use Rattle.c_types.specs.Types.{kept, size_of, is_integer, is_scalar, pointer_to}
use Rattle.c_types.specs.Typed.{AnExpression, Constant, ConvertTo, type_of}
use Rattle.c_types.specs.Constants.{converted, constant_of}
use Rattle.c_typed_scope.specs.declared.entry.Entry.{Entry}
use Rattle.c_typed_scope.specs.declared.entry.Entry.TheVariants as entries
use Rattle.c_typed_scope.specs.declared.entry.Signature.{Signature}
use Rattle.c_typed_scope.specs.Contents.{in_range, length_of}
use Rattle.c_typed_scope.specs.Layout.{Area}
use Rattle.c_program.specs.Statements.{ADeclaration, StoreOf, ZerosOf}
use Rattle.c_program.specs.Programs.{ARoutine}
use Rattle.c_typed_words.specs.Words.{IsToken}
use Rattle.c_typed_words.specs.Phrases.{ExpOf, ExpsOf, InitOf}
use Rattle.c_sound.specs.Fits.{AreBytes, declaring, FitsDeclared}
use Rattle.c_sound.specs.Stands.{IsThere, Takes, StandsDeclared}
use Rattle.c_typed_expressions.specs.Calls.{count}
use Rattle.c_typed_expressions.specs.Phrases.{init_in}
use Rattle.c_typed_law.specs.c_typed_definition.specs.Forms.{text_of, text_fits, array_form, text_length, given_count, own_length}
use Rattle.c_typed_law.specs.c_typed_definition.specs.Rooms.{offset_in, taking}
use Rattle.c_typed_law.specs.c_typed_definition.specs.State.{State, with_area, array_entry}
use Rattle.c_typed_law.specs.c_typed_definition.specs.Automatics.{memory_variable, memory_array, zeros, text_stores, text_stored}
use Rattle.c_typed_law.specs.Arrays.{IsGiven, IsStored, AreStored, IsArrayBegun, IsAutomaticLength, IsArray}
use Rattle.c_typed_law.specs.Locals.{IsMemoryBegun}
use Rattle.c_sound_bodies.specs.States.{IsKnown, OfVariable, InOrder, Grows, HasPlaces}
use Rattle.c_sound_bodies.proofs.Objects.{length_extends}
use Rattle.c_sound_bodies.proofs.Steps.{ExpressionIsSound, grows_same, grows_further, grows_area, order_more, zero_is, converted_sound, expression_is}
use Rattle.c_sound_bodies.proofs.Rooms.{some_bytes, Lies, lies_further, memory_lies, memory_grows, memory_order}
use Rattle.c_sound_bodies.proofs.Declared.{LocalsAreSound, Behind, none_declared, none_behind, behind_given, behind_further}

-- what lies in a state's block is there
inside : (s : State) (objects block o n : ℕ) → Lies s o n → HasPlaces objects block s → o + n ≤ block
inside s objects block o n lies l =
    let room : s.room.length ≤ block = l.block in
    let limit : block ≤ 262144 = l.limit in
    let end : o + n ≤ s.room.length = lies (omega arith) in
    omega arith

-- elements of an array, one behind another
first_room : (s : State) (o n z : ℕ) → Lies s o ((n + 1) * z) → Lies s o z
first_room s o n z lies small =
    let end : o + (n + 1) * z ≤ s.room.length = lies small in
    let split = add-mul n 1 z in
    omega arith

later_room : (s : State) (o n z : ℕ) → Lies s o ((n + 1) * z) → Lies s (o + z) (n * z)
later_room s o n z lies small =
    let end : o + (n + 1) * z ≤ s.room.length = lies small in
    let split = add-mul n 1 z in
    omega arith

fewer_room : (s : State) (o m n z : ℕ) → m ≤ n → Lies s o (n * z) → Lies s o (m * z)
fewer_room s o m n z le lies small =
    let end : o + n * z ≤ s.room.length = lies small in
    let fewer : m * z ≤ n * z = mul-le-mul_right z le in
    omega arith

parts_of : (m n z : ℕ) → m ≤ n → n * z ≡ m * z + (n - m) * z
parts_of m n z le = let whole : n ≡ m + (n - m) = omega arith in ap (λ (k : ℕ). k * z) whole ∙ add-mul m (n - m) z

rest_room : (s : State) (o m n z : ℕ) → m ≤ n → Lies s o (n * z) → Lies s (o + m * z) ((n - m) * z)
rest_room s o m n z le lies small =
    let end : o + n * z ≤ s.room.length = lies small in
    let split = parts_of m n z le in
    omega arith

product_some : (n z : ℕ) → 1 ≤ n → 1 ≤ z → 1 ≤ n * z
product_some n z h k = let least : 1 * 1 ≤ n * z = mul-le 1 1 n z h k in omega arith

converted_small : (t : CType) (b : ℕ) → b < 256 → converted t b < 2 ^ 32
unfolding converted kept
converted_small types.Void b h = omega arith
converted_small (types.Integer ints.Char) b h = sext8_small b
converted_small (types.Integer ints.UnsignedChar) b h = zext8_small b
converted_small (types.Integer ints.Short) b h = sext16_small b
converted_small (types.Integer ints.UnsignedShort) b h = zext16_small b
converted_small (types.Integer ints.Int) b h = omega arith
converted_small (types.Pointer i n) b h = omega arith

-- bytes of a literal, where there is one
abbrev pub TextOf : Option (List ℕ) → Type 0
TextOf None = Unit {0}
TextOf (Some bytes) = AreBytes bytes

pub text_is : (e : AnExp) → ExpOf IsToken e → TextOf (text_of e)
unfolding text_of
text_is (str b at) w = w
text_is (paren o e) w = text_is e w
text_is e w = tt

-- elements of one byte
text_room : (p : Option (List ℕ)) (t : CType) (s : State) (o : ℕ) → text_fits p t ≡ true → Lies s o (text_length p * size_of t) →
    Lies s o (text_length p)
text_room None t s o form lies small = absurd (cc)
text_room (Some b) t s o form lies small =
    let end : o + length b * size_of t ≤ s.room.length = lies small in
    let one : size_of t ≡ 1 = eqb-true (size_of t) 1 form in
    let same : length b * size_of t ≡ length b * 1 = ap (λ (z : ℕ). length b * z) one in
    omega arith

module _ (signatures : List Signature) (parameters : ℕ) where
  -- one value
  store_behind : {W : Type 0} (scope : ℕ → Type 0) (t : CType) (o : ℕ) (x : AnExpression) (s m : State) (done : List ADeclaration)
      (r : List ADeclaration × State) → is_scalar t ≡ true → Lies s o (size_of t) →
      ExpressionIsSound W signatures scope parameters s x m → r ≡ (done ++ StoreOf t o x ∷ [], m) →
      Behind W signatures scope parameters s done r
  store_behind scope t o x s m done r scalar lies h is = rw is (record {
    rest = StoreOf t o x ∷ [];
    is = refl;
    sound = record {
      fits = λ size l w. (scalar, h.fits l.block w, tt);
      stands = λ gs objects block l defined.
          let some = some_bytes t scalar in
          let end = inside m objects block o (size_of t) (lies_further s m o (size_of t) h.grows lies) l in
          (omega arith, h.stands gs objects block l defined, tt);
      order = h.order;
      grows = h.grows;
    };
  })

  zero_behind : (scope : ℕ → Type 0) (t : CType) (o : ℕ) (s : State) (done : List ADeclaration) (r : List ADeclaration × State) →
      InOrder scope parameters s → is_scalar t ≡ true → Lies s o (size_of t) → r ≡ (done ++ StoreOf t o (Constant 0) ∷ [], s) →
      Behind (Unit {0}) signatures scope parameters s done r
  zero_behind scope t o s done r q scalar lies is =
      store_behind scope t o (Constant 0) s s done r scalar lies (zero_is signatures scope parameters s q) is

  -- the bytes of a literal
  text_fit : (scope : ℕ → Type 0) (size : ℕ) (t : CType) (o : ℕ) (bs : List ℕ) → is_scalar t ≡ true → AreBytes bs →
      FitsDeclared size scope (text_stores t o bs)
  text_fit scope size t o [] scalar w = tt
  text_fit scope size t o (b ∷ bs) scalar w = (scalar, converted_small t b w.0, text_fit scope size t (o + 1) bs scalar w.1)

  text_stand : (gs : List ARoutine) (objects block : ℕ) (t : CType) (o : ℕ) (bs : List ℕ) → o + length bs ≤ block →
      StandsDeclared (IsThere objects parameters block) (Takes gs) objects (text_stores t o bs)
  text_stand gs objects block t o [] end = tt
  text_stand gs objects block t o (b ∷ bs) end = (omega arith, tt, text_stand gs objects block t (o + 1) bs (omega arith))

  text_order : (scope : ℕ → Type 0) (t : CType) (o : ℕ) (bs : List ℕ) (s : State) → InOrder scope parameters s →
      InOrder (declaring scope (text_stores t o bs)) parameters s
  text_order scope t o [] s q = q
  text_order scope t o (b ∷ bs) s q = text_order scope t (o + 1) bs s q

  text_behind : (scope : ℕ → Type 0) (t : CType) (o : ℕ) (p : Option (List ℕ)) (s : State) (done : List ADeclaration)
      (r : List ADeclaration × State) → InOrder scope parameters s → is_scalar t ≡ true → Lies s o (text_length p) →
      r ≡ (done ++ text_stored t o p, s) → Behind (TextOf p) signatures scope parameters s done r
  text_behind scope t o None s done r q scalar lies is = rw is (record {
    rest = [];
    is = refl;
    sound = record { fits = λ size l w. tt; stands = λ gs objects block l defined. tt; order = q; grows = grows_same s };
  })
  text_behind scope t o (Some bs) s done r q scalar lies is = rw is (record {
    rest = text_stores t o bs;
    is = refl;
    sound = record {
      fits = λ size l w. text_fit scope size t o bs scalar w;
      stands = λ gs objects block l defined. text_stand gs objects block t o bs (inside s objects block o (length bs) lies l);
      order = text_order scope t o bs s q;
      grows = grows_same s;
    };
  })

  -- missing elements
  zeros_sound : (scope : ℕ → Type 0) (t : CType) (o n : ℕ) (s : State) (test : Bool) → test ≡ (n == 0) → InOrder scope parameters s →
      is_scalar t ≡ true → Lies s o (n * size_of t) →
      LocalsAreSound (Unit {0}) signatures scope parameters s (if test then [] else ZerosOf t o n ∷ []) s
  zeros_sound scope t o n s true is q scalar lies =
      record { fits = λ size l w. tt; stands = λ gs objects block l defined. tt; order = q; grows = grows_same s }
  zeros_sound scope t o n s false is q scalar lies =
      let some : 1 ≤ n = grind (arith, nat_tests) in
      let whole = product_some n (size_of t) some (some_bytes t scalar) in
      record {
        fits = λ size l w. (scalar, some, tt);
        stands = λ gs objects block l defined. let end = inside s objects block o (n * size_of t) lies l in (omega arith, omega arith, tt);
        order = q;
        grows = grows_same s;
      }

  zeros_behind : (scope : ℕ → Type 0) (t : CType) (o n : ℕ) (s : State) (done : List ADeclaration) (r : List ADeclaration × State) →
      InOrder scope parameters s → is_scalar t ≡ true → Lies s o (n * size_of t) → r ≡ (done ++ zeros t o n, s) →
      Behind (Unit {0}) signatures scope parameters s done r
  zeros_behind scope t o n s done r q scalar lies is = rw is (record {
    rest = zeros t o n;
    is = refl;
    sound = zeros_sound scope t o n s (n == 0) refl q scalar lies;
  })

text_form : (t : CType) (l : Option AnExp) (e : AnExp) → array_form t l (Some (value e)) ≡ true → text_fits (text_of e) t ≡ true
text_form t None e form = form
text_form t (Some n) e form = form

-- a length is at least 1
pub own_some : (t : CType) (i : Option AnInit) → array_form t None i ≡ true → 1 ≤ own_length i
own_some t None form = absurd (cc)
own_some t (Some (elements no_exps comma)) form = absurd (cc)
own_some t (Some (elements (exps e es) comma)) form = omega arith
own_some t (Some (value e)) form = omega arith

range_some : (o : Option ℕ) (n : ℕ) → in_range o ≡ Some n → 1 ≤ n
range_some None n e = absurd (cc)
range_some (Some v) n e = by (nat_lt 0 v && nat_lt v 1048577) refl e
  where
    by : (test : Bool) → test ≡ (nat_lt 0 v && nat_lt v 1048577) → (if test then Some v else None) ≡ Some n → 1 ≤ n
    by true is k = let same : n ≡ v = cc in rw same (grind (arith, nat_tests))
    by false is k = absurd (cc)

pub length_some : (x : AnExpression) (n : ℕ) → length_of x ≡ Some n → 1 ≤ n
unfolding length_of
length_some x n e = by (is_integer (type_of x)) e
  where
    by : (test : Bool) → (if test then in_range (constant_of x) else None) ≡ Some n → 1 ≤ n
    by true k = range_some (constant_of x) n k
    by false k = absurd (cc)

-- and no fewer elements than its initialiser
pub many_enough : (m given n : ℕ) → nat_lt m given ≡ false → n ≡ m → given ≤ n
many_enough m given n fails is = grind (arith, nat_tests)

-- an array's entry in the block
entry_known : (scope : ℕ → Type 0) (locals parameters objects block o size : ℕ) (t : Option CType) → 1 ≤ size → o + size ≤ block →
    OfVariable (IsKnown scope locals parameters objects block) (array_entry t (variables.InBlock o) size)
entry_known scope locals parameters objects block o size None some end = (omega arith, omega arith)
entry_known scope locals parameters objects block o size (Some t) some end = (omega arith, omega arith)

module _ (names : List (List ℕ × Entry)) (signatures : List Signature) (parameters : ℕ) where
  given_is : {W : Type 0} (scope : ℕ → Type 0) (t : CType) (s : State) (y : AnExpression) (m : State) (x : AnExpression × State) (z : AnExpression) →
      ExpressionIsSound W signatures scope parameters s y m → z ≡ ConvertTo t y → x ≡ (z, m) →
      ExpressionIsSound W signatures scope parameters s x.0 x.1
  given_is scope t s y m x z h same is = rw (is, same) (converted_sound signatures scope parameters t s y m h)

  pub given_sound : (scope : ℕ → Type 0) (t : CType) (e : AnExp) (s : State) (x : AnExpression × State) → InOrder scope parameters s →
      IsGiven names signatures t e s x → ExpressionIsSound (ExpOf IsToken e) signatures scope parameters s x.0 x.1
  given_sound scope t e s x o j =
      let k = j.whole in
      given_is scope t s j.part.0 (with_area j.part.1 s) x k.part (expression_is names signatures scope parameters e s j.part o j.typed)
      k.typed.typed k.whole

  stored_behind : (scope : ℕ → Type 0) (t : CType) (o : ℕ) (e : AnExp) (done : List ADeclaration) (s : State) (r : List ADeclaration × State) →
      InOrder scope parameters s → is_scalar t ≡ true → Lies s o (size_of t) → IsStored names signatures t o e done s r →
      Behind (ExpOf IsToken e) signatures scope parameters s done r
  stored_behind scope t o e done s r q scalar lies j =
      store_behind signatures parameters scope t o j.part.0 s j.part.1 done r scalar lies (given_sound scope t e s j.part q j.typed) j.whole

  stored_list : (scope : ℕ → Type 0) (t : CType) (o : ℕ) (es : SomeExps) (done : List ADeclaration) (s : State) (r : List ADeclaration × State) →
      InOrder scope parameters s → is_scalar t ≡ true → Lies s o (count es * size_of t) → AreStored names signatures t o es done s r →
      Behind (ExpsOf IsToken es) signatures scope parameters s done r
  stored_list scope t o no_exps done s r q scalar lies j = none_behind signatures scope parameters s done r q j
  stored_list scope t o (exps e es) done s r q scalar lies j =
      let first = stored_behind scope t o e done s j.part q scalar (first_room s o (count es) (size_of t) lies) j.typed in
      let later = stored_list (declaring scope first.rest) t (o + size_of t) es j.part.0 j.part.1 r first.sound.order scalar
      (lies_further s j.part.1 (o + size_of t) (count es * size_of t) first.sound.grows (later_room s o (count es) (size_of t) lies)) j.whole in
      behind_further signatures scope parameters s done j.part r first later

  -- a memory local is 0, and then its value
  pub memory_begun : (scope : ℕ → Type 0) (t : CType) (o : ℕ) (i : Option AnInit) (done : List ADeclaration) (s : State) (r : List ADeclaration × State) →
      InOrder scope parameters s → is_scalar t ≡ true → Lies s o (size_of t) → IsMemoryBegun names signatures t o i done s r →
      Behind (InitOf IsToken i) signatures scope parameters s done r
  memory_begun scope t o None done s r q scalar lies j = zero_behind signatures parameters scope t o s done r q scalar lies j
  memory_begun scope t o (Some (elements es comma)) done s r q scalar lies j =
      behind_given signatures scope parameters s done r (zero_behind signatures parameters scope t o s done r q scalar lies j) (λ w. tt)
  memory_begun scope t o (Some (value e)) done s r q scalar lies j =
      let first = zero_behind signatures parameters scope t o s done (done ++ StoreOf t o (Constant 0) ∷ [], s) q scalar lies refl in
      behind_given signatures scope parameters s done r
      (behind_further signatures scope parameters s done (done ++ StoreOf t o (Constant 0) ∷ [], s) r first
      (stored_behind (declaring scope first.rest) t o e (done ++ StoreOf t o (Constant 0) ∷ []) s r first.sound.order scalar lies j)) (λ w. (tt, w))

  array_begun : (scope : ℕ → Type 0) (t : CType) (o : ℕ) (l : Option AnExp) (i : Option AnInit) (done : List ADeclaration) (s : State)
      (r : List ADeclaration × State) → InOrder scope parameters s → is_scalar t ≡ true → array_form t l i ≡ true →
      Lies s o (given_count i * size_of t) → IsArrayBegun names signatures t o i done s r →
      Behind (InitOf IsToken i) signatures scope parameters s done r
  array_begun scope t o l None done s r q scalar form lies j = none_behind signatures scope parameters s done r q j
  array_begun scope t o l (Some (elements es comma)) done s r q scalar form lies j = stored_list scope t o es done s r q scalar lies j
  array_begun scope t o l (Some (value e)) done s r q scalar form lies j =
      behind_given signatures scope parameters s done r
      (text_behind signatures parameters scope t o (text_of e) s done r q scalar (text_room (text_of e) t s o (text_form t l e form) lies) j) (text_is e)

  -- what the number of elements leaves
  pub record LengthIsSound (scope : ℕ → Type 0) (s : State) (m : ℕ × State) : Type 0 where
    pub some : 1 ≤ m.0
    pub order : InOrder scope parameters m.1
    pub grows : Grows s m.1

  length_sound : (scope : ℕ → Type 0) (t : CType) (l : Option AnExp) (i : Option AnInit) (s : State) (m : ℕ × State) → InOrder scope parameters s →
      array_form t l i ≡ true → IsAutomaticLength names signatures l i s m → LengthIsSound scope s m
  length_sound scope t None i s m o form j = rw j (record { some = own_some t i form; order = o; grows = grows_same s })
  length_sound scope t (Some e) i s m o form j =
      let k = j.typed in
      let n = k.whole in
      let some = length_some k.part.0 n.part n.typed in
      let number : j.part.0 ≡ n.part = ap (λ (x : ℕ × Area). x.0) n.whole in
      let further = grows_area s j.part.1 (length_extends names signatures s.scope e s.area j.part j.typed) in
      rw (j.whole) (record {
        some = rw number some;
        order = order_more scope parameters s (with_area j.part.1 s) o refl further;
        grows = further;
      })

  -- an array: its length, its elements, and the zeros behind them
  pub array_behind : (scope : ℕ → Type 0) (t : CType) (d : ADeclarator) (l : Option AnExp) (done : List ADeclaration) (s : State)
      (r : List ADeclaration × State) → InOrder scope parameters s → is_scalar t ≡ true → array_form t l (init_in d.init) ≡ true →
      IsArray names signatures t d l done s r → Behind (InitOf IsToken (init_in d.init)) signatures scope parameters s done r
  array_behind scope t d l done s r o scalar form j =
      let m = j.part in
      let k = j.whole in
      let n = k.part in
      let q = k.whole in
      let z = size_of t in
      let given = given_count (init_in d.init) in
      let at = offset_in (size_of t) m.1.room in
      let e = array_entry (pointer_to t) (variables.InBlock at) (n * z) in
      let a = memory_array t (n * z) d m.1 in
      let counted = length_sound scope t l (init_in d.init) s m o form j.typed in
      let same : n ≡ m.0 = k.typed.typed in
      let least : 1 ≤ m.0 = counted.some in
      let whole = product_some n z (omega arith) (some_bytes t scalar) in
      let few = many_enough m.0 given n k.typed.fails same in
      let lies = memory_lies t (n * z) d.name e m.1 scalar in
      let order = memory_order t (n * z) d.name e m.1 scalar scope parameters counted.order
      (λ small. entry_known scope (length m.1.locals) parameters (length m.1.area.objects) (taking z (n * z) m.1.room).length at (n * z) (pointer_to t)
      whole (lies small)) in
      let start = none_declared signatures scope parameters s done a order
      (grows_further s m.1 a counted.grows (memory_grows t (n * z) d.name e m.1 scalar)) in
      let begun = array_begun (declaring scope start.rest) t at l (init_in d.init) done a q.part start.sound.order scalar form
      (fewer_room a at given n z few lies) q.typed in
      let both = behind_further signatures scope parameters s done (done, a) q.part start begun in
      let last = zeros_behind signatures parameters (declaring scope both.rest) t (at + given * z) (n - given) q.part.1 q.part.0 r both.sound.order scalar
      (lies_further a q.part.1 (at + given * z) ((n - given) * z) begun.sound.grows (rest_room a at given n z few lies)) q.whole in
      behind_given signatures scope parameters s done r (behind_further signatures scope parameters s done q.part r both last) (λ w. ((tt, w), tt))

  -- a variable that is no array
  pub variable_behind : (scope : ℕ → Type 0) (t : CType) (d : ADeclarator) (done : List ADeclaration) (s : State) (r : List ADeclaration × State) →
      InOrder scope parameters s → is_scalar t ≡ true →
      IsMemoryBegun names signatures t (offset_in (size_of t) s.room) (init_in d.init) done (memory_variable t d s) r →
      Behind (InitOf IsToken (init_in d.init)) signatures scope parameters s done r
  variable_behind scope t d done s r o scalar j =
      let z = size_of t in
      let at = offset_in (size_of t) s.room in
      let e = entries.Variable t (variables.InBlock at) in
      let a = memory_variable t d s in
      let some = some_bytes t scalar in
      let lies = memory_lies t z d.name e s scalar in
      let order = memory_order t z d.name e s scalar scope parameters o
      (λ small. let end : at + z ≤ (taking z z s.room).length = lies small in (omega arith, omega arith)) in
      let start = none_declared signatures scope parameters s done a order (memory_grows t z d.name e s scalar) in
      behind_given signatures scope parameters s done r
      (behind_further signatures scope parameters s done (done, a) r start
      (memory_begun (declaring scope start.rest) t at (init_in d.init) done a r start.sound.order scalar lies j)) (λ w. (tt, w))

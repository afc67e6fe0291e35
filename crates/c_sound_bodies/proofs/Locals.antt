-- Declarations in a block.
use Rattle.std.proofs.Common.{◌≡◌, ℕ, ◌+◌, ◌≤◌, Bool, true, false, List, [], ◌∷◌, ◌++◌, length, Option, Some, None, refl, inl, inr, length-append, arith}
use Rattle.std.proofs.lemmas.Bool.{and_parts}
use Rattle.std.specs.Prelude.{not, ◌&&◌, is_some}
use Rattle.c_phrases.specs.declared.operator.Spec.{Spec}
use Rattle.c_phrases.specs.declared.operator.Storage.{Storage}
use Rattle.c_phrases.specs.declared.operator.Storage.TheVariants as storages
use Rattle.c_phrases.specs.Phrases.{AnExp}
use Rattle.c_phrases.specs.Units.{AnInit, value, elements, ADeclarator}
use Rattle.c_types.specs.declared.types.CType.{CType}
use Rattle.c_types.specs.declared.typed.Variable.TheVariants as variables
use Rattle.c_types.specs.Types.{is_scalar}
use Rattle.c_types.specs.Typed.{AnExpression}
use Rattle.c_typed_scope.specs.declared.entry.Entry.{Entry}
use Rattle.c_typed_scope.specs.declared.entry.Entry.TheVariants as entries
use Rattle.c_typed_scope.specs.declared.entry.Signature.{Signature}
use Rattle.c_program.specs.Statements.{ADeclaration, KeepOf, ClearOf, BeginOf}
use Rattle.c_typed_words.specs.Words.{IsToken}
use Rattle.c_typed_words.specs.Phrases.{InitOf, DeclaratorOf, DeclaratorsOf}
use Rattle.c_sound.specs.Fits.{more, declaring}
use Rattle.c_sound.proofs.Registers.{locals_same, locals_more, locals_push}
use Rattle.c_typed_expressions.specs.Phrases.{init_in, brackets_in}
use Rattle.c_typed_expressions.specs.Expressions.{written}
use Rattle.c_typed_law.specs.c_typed_definition.specs.Forms.{form_fits, array_form, is_automatic}
use Rattle.c_typed_law.specs.c_typed_definition.specs.Rooms.{is_next_addressed}
use Rattle.c_typed_law.specs.c_typed_definition.specs.State.{State, with_local, with_register}
use Rattle.c_typed_law.specs.Arrays.{IsGiven}
use Rattle.c_typed_law.specs.Locals.{IsBegun, IsVariable, IsAutomaticBy, IsAutomatic, IsLocal, AreLocals}
use Rattle.c_sound_bodies.specs.States.{IsKnown, InOrder, Grows}
use Rattle.c_sound_bodies.proofs.Names.{scope_more, scope_named, known_more, named_outer}
use Rattle.c_sound_bodies.proofs.Growth.{extends_same}
use Rattle.c_sound_bodies.proofs.Objects.{Declares, declares_grows, declares_order, object_declares}
use Rattle.c_sound_bodies.proofs.Steps.{ExpressionIsSound, grows_further}
use Rattle.c_sound_bodies.proofs.Declared.{LocalsAreSound, Behind, none_behind, behind_given, behind_further}
use Rattle.c_sound_bodies.proofs.Memory.{given_sound, array_behind, variable_behind}

local_longer : (t : CType) (n : List ℕ) (s : State) → length (with_local t n s).locals ≡ length s.locals + 1
local_longer t n s = length-append s.locals (t ∷ [])

local_grows : (t : CType) (n : List ℕ) (s : State) → Grows s (with_local t n s)
local_grows t n s = let longer = local_longer t n s in
    record {
      locals = omega arith;
      registers = locals_more (length s.locals) (length (with_local t n s).locals) s.registers (omega arith);
      room = λ small. omega arith;
      stores = refl;
      area = extends_same s.area;
      outer = named_outer n (entries.Variable t (variables.Automatic (length s.locals))) s.scope;
    }

-- one local more, and no `register` local
record AddsLocal (s r : State) : Type 0 where
  locals : length r.locals ≡ length s.locals + 1
  registers : r.registers ≡ s.registers

local_added : (t : CType) (n : List ℕ) (s : State) → AddsLocal s (with_local t n s)
local_added t n s = record { locals = local_longer t n s; registers = refl }

-- a new local is in scope
local_order : (scope : ℕ → Type 0) (parameters : ℕ) (t : CType) (n : List ℕ) (s : State) → InOrder scope parameters s →
    InOrder (more scope (length s.locals)) parameters (with_local t n s)
local_order scope parameters t n s o =
    let longer = local_longer t n s in
    let new = IsKnown (more scope (length s.locals)) (length (with_local t n s).locals) parameters (length s.area.objects) s.room.length in
    record {
      names = λ small. scope_named new s.scope n (entries.Variable t (variables.Automatic (length s.locals)))
          (scope_more (IsKnown scope (length s.locals) parameters (length s.area.objects) s.room.length) new s.scope
          (known_more scope (more scope (length s.locals)) (length s.locals) parameters (length s.area.objects) s.room.length
          (length (with_local t n s).locals) (length s.area.objects) s.room.length (λ m k. inl k) (omega arith) (omega arith) (omega arith))
          (o.names small))
          (inr refl, omega arith, omega arith);
      laying = o.laying;
    }

-- the form of an automatic variable: its type has values, and its initialiser suits
array_fits : (t : CType) (l : Option AnExp) (i : Option AnInit) → form_fits t (Some l) i ≡ true → array_form t l i ≡ true
array_fits t l None h = h
array_fits t l (Some (value e)) h = h
array_fits t l (Some (elements es comma)) h = h

scalar_is : (is_register : Bool) (l : Option (Option AnExp)) (t : CType) → is_automatic is_register l t ≡ true → is_scalar t ≡ true
scalar_is is_register l t h = (and_parts (is_scalar t) (not (is_register && is_some l)) h).0

no_register_array : (l : Option AnExp) (t : CType) → is_automatic true (Some l) t ≡ true → ⊥
no_register_array l t h = let wrong : false ≡ true = (and_parts (is_scalar t) false h).1 in cc

module _ (names : List (List ℕ × Entry)) (signatures : List Signature) where
  cleared : {W : Type 0} (scope : ℕ → Type 0) (parameters : ℕ) (t : CType) (n : List ℕ) (done : List ADeclaration) (s : State)
      (r : List ADeclaration × State) → InOrder scope parameters s → r ≡ (done ++ ClearOf (length s.locals) ∷ [], with_local t n s) →
      Behind W signatures scope parameters s done r
  cleared scope parameters t n done s r o is = let longer = local_longer t n s in rw is (record {
    rest = ClearOf (length s.locals) ∷ [];
    is = refl;
    sound = record {
      fits = λ size l w. let most : length (with_local t n s).locals ≤ size = l.locals in (omega arith, tt);
      stands = λ gs objects block l defined. tt;
      order = local_order scope parameters t n s o;
      grows = local_grows t n s;
    };
  })

  begun_is : {W : Type 0} (scope : ℕ → Type 0) (parameters : ℕ) (t : CType) (n : List ℕ) (done : List ADeclaration) (s : State) (x : AnExpression)
      (m : State) (r : List ADeclaration × State) →
      ExpressionIsSound W signatures (more scope (length s.locals)) parameters (with_local t n s) x m →
      r ≡ (done ++ BeginOf (length s.locals) x ∷ [], m) → Behind W signatures scope parameters s done r
  begun_is scope parameters t n done s x m r h is =
      let longer = local_longer t n s in
      let further : length (with_local t n s).locals ≤ length m.locals = h.grows.locals in
      rw is (record {
        rest = BeginOf (length s.locals) x ∷ [];
        is = refl;
        sound = record {
          fits = λ size l w. let most : length m.locals ≤ size = l.locals in (omega arith, h.fits l.block w, tt);
          stands = λ gs objects block l defined. (h.stands gs objects block l defined, tt);
          order = h.order;
          grows = grows_further s (with_local t n s) m (local_grows t n s) h.grows;
        };
      })

  begun_sound : (scope : ℕ → Type 0) (parameters : ℕ) (t : CType) (n : List ℕ) (i : Option AnInit) (done : List ADeclaration) (s : State)
      (r : List ADeclaration × State) → InOrder scope parameters s → IsBegun names signatures t (length s.locals) i done (with_local t n s) r →
      Behind (InitOf IsToken i) signatures scope parameters s done r
  begun_sound scope parameters t n None done s r o j = cleared scope parameters t n done s r o j
  begun_sound scope parameters t n (Some (elements es comma)) done s r o j = cleared scope parameters t n done s r o j
  begun_sound scope parameters t n (Some (value e)) done s r o j =
      begun_is scope parameters t n done s j.part.0 j.part.1 r
      (given_sound names signatures parameters (more scope (length s.locals)) t e (with_local t n s) j.part (local_order scope parameters t n s o) j.typed)
      j.whole

  variable_sound : (scope : ℕ → Type 0) (parameters : ℕ) (in_memory : Bool) (t : CType) (d : ADeclarator) (done : List ADeclaration) (s : State)
      (r : List ADeclaration × State) → InOrder scope parameters s → is_scalar t ≡ true → IsVariable names signatures in_memory t d done s r →
      Behind (InitOf IsToken (init_in d.init)) signatures scope parameters s done r
  variable_sound scope parameters true t d done s r o scalar j = variable_behind names signatures parameters scope t d done s r o scalar j
  variable_sound scope parameters false t d done s r o scalar j = begun_sound scope parameters t d.name (init_in d.init) done s r o j

  automatic_by_sound : (scope : ℕ → Type 0) (parameters : ℕ) (l : Option (Option AnExp)) (is_register : Bool) (t : CType) (d : ADeclarator)
      (done : List ADeclaration) (s : State) (r : List ADeclaration × State) → InOrder scope parameters s → is_scalar t ≡ true →
      form_fits t l (init_in d.init) ≡ true → IsAutomaticBy names signatures l is_register t d done s r →
      Behind (InitOf IsToken (init_in d.init)) signatures scope parameters s done r
  automatic_by_sound scope parameters None is_register t d done s r o scalar form j =
      variable_sound scope parameters (not is_register && is_next_addressed s.room) t d done s r o scalar j
  automatic_by_sound scope parameters (Some l) is_register t d done s r o scalar form j =
      array_behind names signatures parameters scope t d l done s r o scalar (array_fits t l (init_in d.init) form) j

  automatic_sound : (scope : ℕ → Type 0) (parameters : ℕ) (is_register : Bool) (spec : Spec) (d : ADeclarator) (done : List ADeclaration) (s : State)
      (r : List ADeclaration × State) → InOrder scope parameters s → IsAutomatic names signatures is_register spec d done s r →
      Behind (DeclaratorOf IsToken d) signatures scope parameters s done r
  automatic_sound scope parameters is_register spec d done s r o j =
      let form = j.typed.typed in
      let scalar = scalar_is is_register (brackets_in d.length) (written spec d.stars) form.typed.holds in
      behind_given signatures scope parameters s done r
      (automatic_by_sound scope parameters (brackets_in d.length) is_register (written spec d.stars) d done s r o scalar form.holds j.whole) (λ w. w.2)

  given_adds : (t : CType) (n : List ℕ) (e : AnExp) (s : State) (x : AnExpression × State) → IsGiven names signatures t e (with_local t n s) x →
      AddsLocal s x.1
  given_adds t n e s x j =
      let k = j.whole in
      let one = local_added t n s in
      rw (k.whole) (record { locals = one.locals; registers = one.registers })

  begun_adds : (t : CType) (n : List ℕ) (k : ℕ) (i : Option AnInit) (done : List ADeclaration) (s : State) (r : List ADeclaration × State) →
      IsBegun names signatures t k i done (with_local t n s) r → AddsLocal s r.1
  begun_adds t n k None done s r j = rw j (local_added t n s)
  begun_adds t n k (Some (elements es comma)) done s r j = rw j (local_added t n s)
  begun_adds t n k (Some (value e)) done s r j = rw (j.whole) (given_adds t n e s j.part j.typed)

  register_adds : (l : Option (Option AnExp)) (t : CType) (d : ADeclarator) (done : List ADeclaration) (s : State) (r : List ADeclaration × State) →
      is_automatic true l t ≡ true → IsAutomaticBy names signatures l true t d done s r → AddsLocal s r.1
  register_adds None t d done s r form j = begun_adds t d.name (length s.locals) (init_in d.init) done s r j
  register_adds (Some l) t d done s r form j = absurd (no_register_array l t form)

  -- a `register` local, whose number is noted, is an automatic one
  register_sound : (scope : ℕ → Type 0) (parameters : ℕ) (spec : Spec) (d : ADeclarator) (done : List ADeclaration) (s : State)
      (r : List ADeclaration × State) → InOrder scope parameters s → IsAutomatic names signatures true spec d done (with_register s) r →
      Behind (DeclaratorOf IsToken d) signatures scope parameters s done r
  register_sound scope parameters spec d done s r o j =
      let h = automatic_sound scope parameters true spec d done (with_register s) r (record { names = o.names; laying = o.laying }) j in
      let one = register_adds (brackets_in d.length) (written spec d.stars) d done (with_register s) r j.typed.typed.typed.holds j.whole in
      record {
        rest = h.rest;
        is = h.is;
        sound = record {
          fits = h.sound.fits;
          stands = h.sound.stands;
          order = h.sound.order;
          grows = record {
            locals = h.sound.grows.locals;
            registers = λ x. locals_same (length r.1.locals) (length s.locals + 1) r.1.registers (s.registers ++ length s.locals ∷ [])
                one.locals one.registers (locals_push (length s.locals) s.registers x);
            room = h.sound.grows.room;
            stores = h.sound.grows.stores;
            area = h.sound.grows.area;
            outer = h.sound.grows.outer;
          };
        };
      }

  kept_is : {W : Type 0} (scope : ℕ → Type 0) (parameters : ℕ) (name : List ℕ) (done : List ADeclaration) (s : State) (x : ℕ × State)
      (r : List ADeclaration × State) → InOrder scope parameters s → Declares name s x.1 → r ≡ (done ++ KeepOf x.0 ∷ [], x.1) →
      Behind W signatures scope parameters s done r
  kept_is scope parameters name done s x r o h is = rw is (record {
    rest = KeepOf x.0 ∷ [];
    is = refl;
    sound = record {
      fits = λ size l w. tt;
      stands = λ gs objects block l defined. tt;
      order = declares_order scope parameters name s x.1 o h;
      grows = declares_grows name s x.1 h;
    };
  })

  pub local_sound : (scope : ℕ → Type 0) (parameters : ℕ) (storage : Storage) (spec : Spec) (d : ADeclarator) (done : List ADeclaration) (s : State)
      (r : List ADeclaration × State) → InOrder scope parameters s → IsLocal names signatures storage spec d done s r →
      Behind (DeclaratorOf IsToken d) signatures scope parameters s done r
  local_sound scope parameters storages.Automatic spec d done s r o j = automatic_sound scope parameters false spec d done s r o j
  local_sound scope parameters (storages.Register at) spec d done s r o j = register_sound scope parameters spec d done s r o j
  local_sound scope parameters (storages.Static at) spec d done s r o j =
      kept_is scope parameters d.name done s j.part r o (object_declares names signatures true spec d s j.part o.laying j.typed) j.whole

  locals_behind : (scope : ℕ → Type 0) (parameters : ℕ) (storage : Storage) (spec : Spec) (ds : List ADeclarator)
      (done : List ADeclaration) (s : State) (r : List ADeclaration × State) → InOrder scope parameters s →
      AreLocals names signatures storage spec ds done s r → Behind (DeclaratorsOf IsToken ds) signatures scope parameters s done r
  locals_behind scope parameters storage spec [] done s r o j = none_behind signatures scope parameters s done r o j
  locals_behind scope parameters storage spec (d ∷ ds) done s r o j =
      let first = local_sound scope parameters storage spec d done s j.part o j.typed in
      behind_further signatures scope parameters s done j.part r first
      (locals_behind (declaring scope first.rest) parameters storage spec ds j.part.0 j.part.1 r first.sound.order j.whole)

  -- the declarators of a declaration
  pub locals_sound : (scope : ℕ → Type 0) (parameters : ℕ) (storage : Storage) (spec : Spec) (ds : List ADeclarator) (s : State)
      (r : List ADeclaration × State) → InOrder scope parameters s → AreLocals names signatures storage spec ds [] s r →
      LocalsAreSound (DeclaratorsOf IsToken ds) signatures scope parameters s r.0 r.1
  locals_sound scope parameters storage spec ds s r o j = let b = locals_behind scope parameters storage spec ds [] s r o j in
      rw (b.is) (b.sound)

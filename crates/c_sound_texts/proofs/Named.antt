-- The labels of a text's objects differ, and are no function's.
use Rattle.std.proofs.Common.{◌≡◌, ◌≢◌, ℕ, ◌+◌, ◌≤◌, Bool, true, false, List, [], ◌∷◌, ◌++◌, length, Option, Some, None, map, inl, inr, refl, sym, ap, subst, ◌∙◌, length-append, append_assoc, arith}
use Rattle.std.proofs.lemmas.List.{length-map, append-nil}
use Rattle.std.specs.Fmt.{decimal}
use Rattle.std.specs.Prelude.{codes, is_some, slice_get, if◌then◌else◌}
use Rattle.std.specs.Str.{bytes_eq}
use Rattle.std.proofs.lemmas.Slice.Eq.{bytes_eq-Decides}
use Rattle.gg_base.proofs.Facts.{slice_cases, tail_same, head_same, not_some}
use Rattle.c_phrases.specs.declared.operator.Spec.{Spec}
use Rattle.c_phrases.specs.Phrases.{AnExp}
use Rattle.c_phrases.specs.Units.{SomeItems, ADeclarator, AParam, AFunction, ADeclared, function, globals, AnExternal}
use Rattle.c_types.specs.declared.types.CType.{CType}
use Rattle.c_typed_scope.specs.declared.entry.Entry.{Entry}
use Rattle.c_typed_scope.specs.declared.entry.Entry.TheVariants as entries
use Rattle.c_typed_scope.specs.declared.entry.Signature.{Signature}
use Rattle.c_typed_scope.specs.Scopes.{Scope, find, is_taken, with_name, enter}
use Rattle.c_typed_scope.specs.Layout.{Area}
use Rattle.c_program.specs.Statements.{SomeActions}
use Rattle.c_program.specs.Programs.{ARoutine}
use Rattle.c_sound.specs.Fits.{no_local}
use Rattle.c_typed_expressions.specs.Phrases.{brackets_in, params_in}
use Rattle.c_typed_expressions.specs.Expressions.{written}
use Rattle.c_sound_bodies.specs.c_typed_definition.specs.State.{State, with_area}
use Rattle.c_sound_bodies.specs.c_typed_definition.specs.Signatures.{parameter_type}
use Rattle.c_sound_bodies.specs.c_typed_definition.specs.Headings.{Text, with_declared}
use Rattle.c_sound_bodies.specs.c_typed_definition.specs.Bodies.{routine_of, entered_function}
use Rattle.c_sound_bodies.specs.c_typed_definition.specs.Texts.{empty_text}
use Rattle.c_sound_bodies.specs.c_typed_law.specs.Headings.{IsEarlier}
use Rattle.c_sound_bodies.specs.c_typed_law.specs.Texts.{IsParameterLength, AreParameters, IsBody, IsFunction, AreGlobals, IsExternalBy}
use Rattle.c_sound_bodies.specs.c_typed_law.specs.Texts.{AreExternals}
use Rattle.c_sound_bodies.specs.c_typed_law.specs.Statements.{AreItems}
use Rattle.c_sound_bodies.specs.c_typed_law.proofs.Statements.{items_mean}
use Rattle.c_sound_bodies.specs.c_typed_law.proofs.Declared.{parameter_area}
use Rattle.c_sound_bodies.specs.c_typed_words.specs.Words.{IsName, IsToken}
use Rattle.c_sound_bodies.specs.c_typed_words.specs.Phrases.{DeclaratorsOf, DeclaredOf, ExternalsOf}
use Rattle.c_sound_bodies.specs.c_typed_words.proofs.Any.{AnyToken, any_exp, any_items}
use Rattle.c_sound_bodies.specs.States.{InOrder}
use Rattle.c_sound_bodies.proofs.Names.{left_scope}
use Rattle.c_sound_bodies.proofs.Growth.{exp_lays}
use Rattle.c_sound_bodies.proofs.Areas.{items_lay, order_any}
use Rattle.c_sound_bodies.proofs.Objects.{IsVariable, object_declares}
use Rattle.c_sound_texts.proofs.Labels.{Each, Differ, each_weaker, each_joined, differ_joined, labels, IsNew, OfStatic, OfLiteral, HasFew, Numbers, numbers_same, numbers_further, few_before}
use Rattle.c_sound_texts.proofs.Labels.{numbering, new_more, new_apart, Declared, object_declared, static_numbers, labels_joined}
use Rattle.c_sound_texts.proofs.Functions.{find_further}
use Rattle.c_sound_bodies.proofs.Law.{bodies_are_sound}
use Rattle.c_sound_texts.proofs.Bodies.{TextIsSound, function_begins, parameters_order, declared_sound, external_sound}

-- where nothing is laid
abbrev pub start : Area
start = (empty_text []).state.area

-- what a name stands for at file level
abbrev pub Finds : Scope → List ℕ → Entry → Type 0
Finds s n e = find s.here n ≡ Some e

abbrev pub IsFunctionEntry : Entry → Type 0
IsFunctionEntry (entries.Function n) = Unit {0}
IsFunctionEntry (entries.Variable t v) = ⊥
IsFunctionEntry (entries.Array t v size) = ⊥

-- the label of an object: of a static local or a literal, or of a variable at file level
pub data IsLabel (s : State) (label : List ℕ) : Type 0 where
  Numbered : (new : IsNew start s.area label) → IsLabel s label
  Variable : (n : List ℕ) (e : Entry) (is_name : IsName n) (found : Finds s.scope n e) (variable : IsVariable e) (is : label ≡ 95 ∷ n) → IsLabel s label

-- a function's name
pub record NamesFunction (s : Scope) (n : List ℕ) : Type 0 where
  pub entry : Entry
  pub found : Finds s n entry
  pub function : IsFunctionEntry entry

-- the objects and functions of the text so far
pub record IsNamed (s : State) (bodies : List ARoutine) : Type 0 where
  pub each : Each (IsLabel s) (labels s.area.objects)
  pub differ : HasFew s.area → Differ (labels s.area.objects)
  pub counted : s.area.statics + s.area.literals ≤ length s.area.objects
  pub functions : (i : ℕ) (g : ARoutine) → slice_get bodies i ≡ Some g → NamesFunction s.scope g.name
  pub putchar : NamesFunction s.scope (codes "putchar")
  pub getchar : NamesFunction s.scope (codes "getchar")

-- names are added
record More (s r : Scope) : Type 0 where
  names : List (List ℕ × Entry)
  here : r.here ≡ s.here ++ names

finds_more : (s r : Scope) (n : List ℕ) (e : Entry) → More s r → Finds s n e → Finds r n e
finds_more s r n e h f = ap (λ (es : List (List ℕ × Entry)). find es n) h.here ∙ find_further s.here h.names n e f

names_function_more : (s r : Scope) (n : List ℕ) → More s r → NamesFunction s n → NamesFunction r n
names_function_more s r n h f = record { entry = f.entry; found = finds_more s r n f.entry h f.found; function = f.function }

label_more : (s r : State) → More s.scope r.scope → s.area.statics ≤ r.area.statics → s.area.literals ≤ r.area.literals →
    (x : List ℕ) → IsLabel s x → IsLabel r x
label_more s r h statics literals x (Numbered new) =
    Numbered (new_more start s.area start r.area (omega arith) (omega arith) statics literals x new)
label_more s r h statics literals x (Variable n e is_name found variable is) = Variable n e is_name (finds_more s.scope r.scope n e h found) variable is

-- a label that is not of a name at file level
pub not_named : (a b : Area) (n x : List ℕ) → IsNew a b x → 95 ∷ n ≢ x
not_named a b n x (OfStatic k least below is) e = let equal = head_same 95 84 n (decimal k) (e ∙ is) in omega arith
not_named a b n x (OfLiteral k least below is) e = let equal = head_same 95 83 n (decimal k) (e ∙ is) in omega arith

old_apart : (s : State) (b : Area) → HasFew b → s.area.statics ≤ b.statics → s.area.literals ≤ b.literals →
    (x y : List ℕ) → IsLabel s x → IsNew s.area b y → x ≢ y
old_apart s b few statics literals x y (Numbered new) k e = new_apart start s.area b few statics literals x y new k e
old_apart s b few statics literals x y (Variable n f is_name found variable is) k e = not_named s.area b n y k (sym is ∙ e)

no_functions : (s r : Scope) (bodies : List ARoutine) → More s r → ((i : ℕ) (g : ARoutine) → slice_get bodies i ≡ Some g → NamesFunction s g.name) →
    (i : ℕ) (g : ARoutine) → slice_get bodies i ≡ Some g → NamesFunction r g.name
no_functions s r bodies h old i g here = names_function_more s r g.name h (old i g here)

-- literals and static locals are laid, and names are added
named_numbers : (s r : State) (bodies : List ARoutine) → IsNamed s bodies → More s.scope r.scope → Numbers s.area r.area → IsNamed r bodies
named_numbers s r bodies h more k =
    let statics : s.area.statics ≤ r.area.statics = k.statics in
    let literals : s.area.literals ≤ r.area.literals = k.literals in
    let old = each_weaker (IsLabel s) (IsLabel r) (label_more s r more statics literals) (labels s.area.objects) h.each in
    let new = each_weaker (IsNew s.area r.area) (IsLabel r)
    (λ x n. Numbered (new_more s.area r.area start r.area (omega arith) (omega arith) (omega arith) (omega arith) x n)) k.more k.each in
    record {
      each = subst (Each (IsLabel r)) (sym k.is) (each_joined (IsLabel r) (labels s.area.objects) k.more old new);
      differ = λ few. subst Differ (sym k.is)
          (differ_joined (IsLabel s) (IsNew s.area r.area) (old_apart s r.area few statics literals) (labels s.area.objects) k.more h.each k.each
          (h.differ (few_before s.area r.area statics literals few)) (k.differ few));
      counted = let one : s.area.statics + s.area.literals ≤ length s.area.objects = h.counted in
          let two : r.area.statics + r.area.literals + length s.area.objects ≤ s.area.statics + s.area.literals + length r.area.objects = k.counted in
          omega arith;
      functions = no_functions s.scope r.scope bodies more h.functions;
      putchar = names_function_more s.scope r.scope (codes "putchar") more h.putchar;
      getchar = names_function_more s.scope r.scope (codes "getchar") more h.getchar;
    }

free_name : (s : Scope) (n : List ℕ) → is_taken s n ≡ false → find s.here n ≡ None
unfolding is_taken
free_name s n h = not_some (find s.here n) h

same_bytes : (n : List ℕ) → bytes_eq n n ≡ true
same_bytes n = (bytes_eq-Decides n n).1 refl

found_if : (test : Bool) (x e : Entry) (o p : Option Entry) → (if test then Some x else o) ≡ None → (o ≡ None → p ≡ Some e) →
    (if test then Some x else p) ≡ Some e
found_if true x e o p h f = absurd (cc)
found_if false x e o p h f = f h

first_if : (test : Bool) (e : Entry) → test ≡ true → (if test then Some e else None) ≡ Some e
first_if true e h = refl
first_if false e h = absurd (cc)

-- a new name is found behind the others
find_new : (es : List (List ℕ × Entry)) (n : List ℕ) (e : Entry) → find es n ≡ None → find (es ++ (n, e) ∷ []) n ≡ Some e
find_new [] n e h = first_if (bytes_eq n n) e (same_bytes n)
find_new (x ∷ es) n e h = found_if (bytes_eq n x.0) x.1 e (find es n) (find (es ++ (n, e) ∷ []) n) h (find_new es n e)

named_more : (s : Scope) (n : List ℕ) (e : Entry) → More s (with_name n e s)
unfolding with_name
named_more s n e = record { names = (n, e) ∷ []; here = refl }

finds_new : (s : Scope) (n : List ℕ) (e : Entry) → find s.here n ≡ None → Finds (with_name n e s) n e
unfolding with_name
finds_new s n e h = find_new s.here n e h

same_names : (s : Scope) → More s s
same_names s = record { names = []; here = sym (append-nil s.here) }

-- an old label is not that of a new name
name_apart : (s : State) (n : List ℕ) → find s.scope.here n ≡ None → (x : List ℕ) → IsLabel s x → x ≢ 95 ∷ n
name_apart s n none x (Numbered new) e = not_named start s.area n x new (sym e)
name_apart s n none x (Variable m f is_name found variable is) e =
    let same : m ≡ n = tail_same 95 95 m n (sym is ∙ e) in
    let here : find s.scope.here n ≡ Some f = subst (λ (z : List ℕ). find s.scope.here z ≡ Some f) same found in
    absurd (let clash : None ≡ Some f = sym none ∙ here in cc)

-- what the declaration of a variable at file level adds
data IsAdded (n : List ℕ) (a b : Area) (x : List ℕ) : Type 0 where
  TheName : (is : x ≡ 95 ∷ n) → IsAdded n a b x
  Behind : (new : IsNew a b x) → IsAdded n a b x

added_apart : (s : State) (n : List ℕ) (m b : Area) → find s.scope.here n ≡ None → HasFew b → m.statics ≡ s.area.statics → m.literals ≡ s.area.literals →
    m.statics ≤ b.statics → m.literals ≤ b.literals → (x y : List ℕ) → IsLabel s x → IsAdded n m b y → x ≢ y
added_apart s n m b none few st lt sb lb x y h (TheName is) e = name_apart s n none x h (e ∙ is)
added_apart s n m b none few st lt sb lb x y h (Behind new) e =
    old_apart s b few (omega arith) (omega arith) x y h
    (new_more m b s.area b (omega arith) (omega arith) (omega arith) (omega arith) y new) e

added_label : (s : State) (n : List ℕ) (e : Entry) (m : Area) → IsName n → Finds s.scope n e → IsVariable e → (x : List ℕ) → IsAdded n m s.area x → IsLabel s x
added_label s n e m is_name found variable x (TheName is) = Variable n e is_name found variable is
added_label s n e m is_name found variable x (Behind new) =
    Numbered (new_more m s.area start s.area (omega arith) (omega arith) (omega arith) (omega arith) x new)

-- one variable more at file level
named_variable : (s r : State) (bodies : List ARoutine) (n : List ℕ) (e : Entry) → IsNamed s bodies → IsName n → find s.scope.here n ≡ None →
    IsVariable e → r.scope ≡ with_name n e s.scope → Declared false n s.area r.area → IsNamed r bodies
named_variable s r bodies n e h is_name none variable scope d =
    let first = d.first in
    let rest = d.rest in
    let m = d.middle in
    let st : m.statics ≡ s.area.statics = first.statics in
    let lt : m.literals ≡ s.area.literals = first.literals in
    let sb : m.statics ≤ r.area.statics = rest.statics in
    let lb : m.literals ≤ r.area.literals = rest.literals in
    let more : More s.scope r.scope = subst (More s.scope) (sym scope) (named_more s.scope n e) in
    let found : Finds r.scope n e = subst (λ (z : Scope). Finds z n e) (sym scope) (finds_new s.scope n e none) in
    let one : labels m.objects ≡ labels s.area.objects ++ (95 ∷ n) ∷ [] =
    ap labels first.objects ∙ labels_joined s.area.objects (first.object ∷ [])
    ∙ ap (λ (z : List ℕ). labels s.area.objects ++ z ∷ []) first.label in
    let added = (95 ∷ n) ∷ rest.more in
    let all : labels r.area.objects ≡ labels s.area.objects ++ added =
    rest.is ∙ ap (λ (z : List (List ℕ)). z ++ rest.more) one ∙ append_assoc (labels s.area.objects) ((95 ∷ n) ∷ []) rest.more in
    let each_added : Each (IsAdded n m r.area) added =
    (TheName refl, each_weaker (IsNew m r.area) (IsAdded n m r.area) (λ x new. Behind new) rest.more rest.each) in
    record {
      each = subst (Each (IsLabel r)) (sym all) (each_joined (IsLabel r) (labels s.area.objects) added
          (each_weaker (IsLabel s) (IsLabel r) (label_more s r more (omega arith) (omega arith)) (labels s.area.objects) h.each)
          (each_weaker (IsAdded n m r.area) (IsLabel r) (added_label r n e m is_name found variable) added each_added));
      differ = λ few. subst Differ (sym all)
          (differ_joined (IsLabel s) (IsAdded n m r.area) (added_apart s n m r.area none few st lt sb lb) (labels s.area.objects) added h.each each_added
          (h.differ (few_before s.area r.area (omega arith) (omega arith) few))
          (each_weaker (IsNew m r.area) (λ y. 95 ∷ n ≢ y) (λ x new. not_named m r.area n x new) rest.more rest.each, rest.differ few));
      counted = let old : s.area.statics + s.area.literals ≤ length s.area.objects = h.counted in
          let many : length m.objects ≡ length s.area.objects + 1 = ap length first.objects ∙ length-append s.area.objects (first.object ∷ []) in
          let two : r.area.statics + r.area.literals + length m.objects ≤ m.statics + m.literals + length r.area.objects = rest.counted in
          omega arith;
      functions = no_functions s.scope r.scope bodies more h.functions;
      putchar = names_function_more s.scope r.scope (codes "putchar") more h.putchar;
      getchar = names_function_more s.scope r.scope (codes "getchar") more h.getchar;
    }

-- a function's name is in scope from here on
declared_finds : (earlier : Option ℕ) (spec : Spec) (f : AFunction) (t : Text) (o : Option Entry) → find t.state.scope.here f.name ≡ o → IsEarlier o earlier →
    NamesFunction (with_declared earlier spec f t).state.scope f.name
declared_finds earlier spec f t None is j =
    rw j (record {
      entry = entries.Function (length t.declared);
      found = finds_new t.state.scope f.name (entries.Function (length t.declared)) is;
      function = tt;
    })
declared_finds earlier spec f t (Some (entries.Function k)) is j = rw j (record { entry = entries.Function k; found = is; function = tt })
declared_finds earlier spec f t (Some (entries.Variable c v)) is j = absurd j
declared_finds earlier spec f t (Some (entries.Array c v size)) is j = absurd j

-- one function more
function_added : (s : State) (bodies : List ARoutine) (b : ARoutine) → IsNamed s bodies → NamesFunction s.scope b.name → IsNamed s (bodies ++ b ∷ [])
function_added s bodies b h f = record {
  each = h.each;
  differ = h.differ;
  counted = h.counted;
  functions = λ i g here. elim (slice_cases bodies b i g here) [ inl x ↦ h.functions i g x | inr x ↦ rw (x.1) f ];
  putchar = h.putchar;
  getchar = h.getchar;
}

module _ (names : List (List ℕ × Entry)) (signatures : List Signature) where
  parameter_length_numbers : (l : Option (Option AnExp)) (scope : Scope) (a b : Area) → IsParameterLength names signatures l scope a b → Numbers a b
  parameter_length_numbers None scope a b j = rw j (numbers_same a)
  parameter_length_numbers (Some None) scope a b j = rw j (numbers_same a)
  parameter_length_numbers (Some (Some e)) scope a b j =
      let k = j.typed in
      let m = k.whole in
      let area : b ≡ k.part.1 = j.whole ∙ ap (λ (x : ℕ × Area). x.1) m.whole in
      rw area (exp_lays AnyToken Numbers numbering names signatures scope e (any_exp e) a k.part k.typed)

  parameters_number : (defines : Bool) (ps : List AParam) (n : ℕ) (s r : State) → AreParameters names signatures defines ps n s r → Numbers s.area r.area
  parameters_number defines [] n s r j = rw j (numbers_same s.area)
  parameters_number defines (p ∷ ps) n s r j =
      let i = j.typed in
      let k = i.whole in
      let first = parameter_length_numbers (brackets_in p.length) s.scope s.area k.part k.typed in
      let area : j.part.area ≡ k.part =
      ap (λ (z : State). z.area) k.whole ∙ parameter_area p.name (parameter_type p) n (with_area k.part s) in
      numbers_further s.area j.part.area r.area (subst (Numbers s.area) (sym area) first) (parameters_number defines ps (n + 1) j.part r j.whole)

  -- a function's body, and where it ends
  record Ends (u r : Text) : Type 0 where
    area : Numbers u.state.area r.state.area
    scope : r.state.scope ≡ u.state.scope

  items_number : (result : CType) (row : SomeItems) (parameters : ℕ) (s : State) (x : SomeActions × State) → InOrder no_local parameters s →
      AreItems names signatures result false row s x → Numbers s.area x.1.area
  items_number result row parameters s x o j =
      items_lay AnyToken Numbers numbering names signatures parameters
      (λ spec d m q w order k. static_numbers d.name m.area q.1.area (object_declared names signatures true spec d m q order.laying k))
      result false row (any_items row) s x (order_any no_local parameters s o) j

  body_ends : (spec : Spec) (f : AFunction) (o : Option SomeItems) (parameters : ℕ) (s : State) (u r : Text) → InOrder no_local parameters s →
      s.scope.outer ≡ (enter u.state.scope).outer → Numbers u.state.area s.area → IsBody names signatures spec f o s u r → Ends u r
  body_ends spec f None parameters s u r order outer k j = rw j (record { area = k; scope = left_scope u.state.scope s.scope outer })
  body_ends spec f (Some row) parameters s u r order outer k j =
      let x = j.part in
      let sound = bodies_are_sound names signatures (written spec f.stars) false row parameters s x.1 x.0 order
      ((items_mean names signatures (written spec f.stars) false row s).only x j.typed) in
      let further = items_number (written spec f.stars) row parameters s x order j.typed in
      rw (j.whole.typed) (record {
        area = numbers_further u.state.area s.area x.1.area k further;
        scope = left_scope u.state.scope x.1.scope (sound.grows.outer ∙ outer);
      })

  body_named : (spec : Spec) (f : AFunction) (o : Option SomeItems) (s : State) (u r : Text) → IsBody names signatures spec f o s u r →
      NamesFunction u.state.scope f.name → Ends u r → IsNamed u.state u.bodies → IsNamed r.state r.bodies
  body_named spec f None s u r j named e h =
      let after = named_numbers u.state r.state u.bodies h (subst (More u.state.scope) (sym e.scope) (same_names u.state.scope)) e.area in
      let bodies : r.bodies ≡ u.bodies = ap (λ (z : Text). z.bodies) j in
      subst (IsNamed r.state) (sym bodies) after
  body_named spec f (Some row) s u r j named e h =
      let x = j.part in
      let b = routine_of spec f x.1 x.0 in
      let after = named_numbers u.state r.state u.bodies h (subst (More u.state.scope) (sym e.scope) (same_names u.state.scope)) e.area in
      let name : NamesFunction r.state.scope f.name = subst (λ (z : Scope). NamesFunction z f.name) (sym e.scope) named in
      let bodies : r.bodies ≡ u.bodies ++ b ∷ [] = ap (λ (z : Text). z.bodies) j.whole.typed in
      subst (IsNamed r.state) (sym bodies) (function_added r.state u.bodies b after name)

  declared_named : (earlier : Option ℕ) (spec : Spec) (f : AFunction) (t : Text) → IsNamed t.state t.bodies →
      IsNamed (with_declared earlier spec f t).state (with_declared earlier spec f t).bodies
  declared_named None spec f t h =
      named_numbers t.state (with_declared None spec f t).state t.bodies h
      (named_more t.state.scope f.name (entries.Function (length t.declared))) (numbers_same t.state.area)
  declared_named (Some n) spec f t h = h

  function_named : (spec : Spec) (f : AFunction) (t r : Text) → TextIsSound signatures t → IsNamed t.state t.bodies →
      IsFunction names signatures spec f t r → IsNamed r.state r.bodies
  function_named spec f t r sound h j =
      let i = j.whole in
      let m = i.whole in
      let q = m.whole in
      let u = with_declared j.part spec f t in
      let parameters = length (map parameter_type (params_in f.params)) in
      let many : length (map parameter_type (params_in f.params)) ≡ length (params_in f.params) =
      length-map (params_in f.params) parameter_type in
      let k = declared_sound names signatures j.part spec f t sound in
      let p = parameters_order names signatures parameters (is_some f.body) (params_in f.params) 0 (entered_function f u.state) m.part (omega arith)
      (function_begins f parameters u.state k.order k.room) m.typed in
      let numbers = parameters_number (is_some f.body) (params_in f.params) 0 (entered_function f u.state) m.part m.typed in
      let named = declared_finds j.part spec f t (find t.state.scope.here f.name) refl j.typed in
      body_named spec f f.body m.part u r q.whole named
      (body_ends spec f f.body parameters m.part u r p.order p.outer numbers q.whole) (declared_named j.part spec f t h)

  globals_named : (spec : Spec) (ds : List ADeclarator) → DeclaratorsOf IsToken ds → (s r : State) (bodies : List ARoutine) → s.area.measuring ≡ false →
      IsNamed s bodies → AreGlobals names signatures spec ds s r → IsNamed r bodies
  globals_named spec [] w s r bodies free h j = rw j h
  globals_named spec (d ∷ ds) w s r bodies free h j =
      let x = j.part in
      let one = object_declares names signatures false spec d s x free j.typed in
      let laid = object_declared names signatures false spec d s x free j.typed in
      let next = named_variable s x.1 bodies d.name one.entry h w.0.0 (free_name s.scope d.name j.typed.typed.fails) one.variable one.names laid in
      globals_named spec ds w.1 x.1 r bodies (one.extends.measuring ∙ free) next j.whole

  external_named : (spec : Spec) (d : ADeclared) → DeclaredOf IsToken d → (t r : Text) → TextIsSound signatures t → IsNamed t.state t.bodies →
      IsExternalBy names signatures spec d t r → IsNamed r.state r.bodies
  external_named spec (function f) w t r sound h j = function_named spec f t r sound h j
  external_named spec (globals ds) w t r sound h j =
      rw (j.whole) (globals_named spec ds w t.state j.part t.bodies sound.order.laying h j.typed)

  -- the externals in order
  pub externals_named : (es : List AnExternal) → ExternalsOf IsToken es → (t r : Text) → TextIsSound signatures t → IsNamed t.state t.bodies →
      AreExternals names signatures es t r → IsNamed r.state r.bodies
  externals_named [] w t r sound h j = rw j h
  externals_named (e ∷ es) w t r sound h j =
      externals_named es w.1 j.part r (external_sound names signatures e.spec e.declared w.0 t j.part sound j.typed)
      (external_named e.spec e.declared w.0 t j.part sound h j.typed) j.whole

-- Each function of a text that is defined is typed, once, in the order of the first definitions.
use Rattle.std.proofs.Common.{◌≡◌, ℕ, zero, suc, ◌+◌, ◌-◌, ◌≤◌, ◌==◌, ◌&&◌, Bool, true, false, List, [], ◌∷◌, ◌++◌, length, map, Option, Some, None, inl, inr, refl, sym, ap, subst, ◌∙◌, arith}
use Rattle.std.proofs.lemmas.List.{length-map, map-append}
use Rattle.std.proofs.lemmas.Bool.{lt-ltb, ne_eqb, and_from}
use Rattle.std.proofs.lemmas.Slice.Eq.{bytes_eq-Decides}
use Rattle.std.specs.Prelude.{codes, is_some, slice_get, if◌then◌else◌}
use Rattle.std.specs.Str.{bytes_eq}
use Rattle.gg_base.proofs.Facts.{slice_cases, if_false}
use Rattle.c_phrases.specs.declared.operator.Spec.{Spec}
use Rattle.c_phrases.specs.Units.{SomeItems, AFunction, ADeclared, function, globals, AnExternal}
use Rattle.c_typed_scope.specs.declared.entry.Entry.{Entry}
use Rattle.c_typed_scope.specs.declared.entry.Entry.TheVariants as entries
use Rattle.c_typed_scope.specs.declared.entry.Signature.{Signature}
use Rattle.c_typed_scope.specs.Scopes.{find}
use Rattle.c_program.specs.Programs.{ARoutine}
use Rattle.c_types.specs.declared.typed.Callee.{Callee}
use Rattle.c_types.specs.declared.typed.Callee.TheVariants as callees
use Rattle.c_typed_expressions.specs.Calls.{callee_of}
use Rattle.c_sound.specs.Stands.{IsDefined, Takes}
use Rattle.c_sound_bodies.specs.c_typed_definition.specs.State.{State}
use Rattle.c_sound_bodies.specs.c_typed_definition.specs.Signatures.{signature_of, services, service_names, Known, with_function, known_by}
use Rattle.c_sound_bodies.specs.c_typed_definition.specs.Signatures.{known_with, known_from}
use Rattle.c_sound_bodies.specs.c_typed_definition.specs.Headings.{Text, is_below, with_declared}
use Rattle.c_sound_bodies.specs.c_typed_definition.specs.Bodies.{routine_of}
use Rattle.c_sound_bodies.specs.c_typed_law.specs.Texts.{IsBody, IsFunction, IsExternalBy, AreExternals}
use Rattle.c_sound_bodies.specs.c_typed_law.proofs.Declared.{declared_bodies}
use Rattle.c_sound_bodies.specs.Claim.{AreDefined}

-- the signature of a typed function
abbrev pub heading_of : ARoutine → Signature
heading_of b = record { result = b.result; parameters = b.parameters }

-- the names of typed functions, numbered from n on
abbrev pub numbered : ℕ → List ARoutine → List (List ℕ × Entry)
numbered n [] = []
numbered n (b ∷ bs) = (b.name, entries.Function n) ∷ numbered (n + 1) bs

-- the services, and typed functions behind them
abbrev pub known_of : List ARoutine → Known
known_of bodies = record { names = service_names ++ numbered 2 bodies; signatures = services ++ map heading_of bodies }

numbered_more : (n : ℕ) (bodies : List ARoutine) (b : ARoutine) →
    numbered n (bodies ++ b ∷ []) ≡ numbered n bodies ++ (b.name, entries.Function (n + length bodies)) ∷ []
numbered_more n [] b = let same : n ≡ n + 0 = omega arith in ap (λ (m : ℕ). (b.name, entries.Function m) ∷ []) same
numbered_more n (x ∷ bodies) b =
    let rest = numbered_more (n + 1) bodies b in
    let same : (n + 1) + length bodies ≡ n + length (x ∷ bodies) = omega arith in
    ap (λ (es : List (List ℕ × Entry)). (x.name, entries.Function n) ∷ es)
    (rest ∙ ap (λ (m : ℕ). numbered (n + 1) bodies ++ (b.name, entries.Function m) ∷ []) same)

-- what is found in a list is found in a longer one
find_if : (test : Bool) (x e : Entry) (o p : Option Entry) → (o ≡ Some e → p ≡ Some e) → (if test then Some x else o) ≡ Some e →
    (if test then Some x else p) ≡ Some e
find_if true x e o p more h = h
find_if false x e o p more h = more h

pub find_further : (es more : List (List ℕ × Entry)) (name : List ℕ) (e : Entry) → find es name ≡ Some e → find (es ++ more) name ≡ Some e
find_further [] more name e h = absurd (cc)
find_further (x ∷ es) more name e h =
    find_if (bytes_eq name x.0) x.1 e (find es name) (find (es ++ more) name) (find_further es more name e) h

-- each name stands for a function of a number below this one
abbrev Below : ℕ → List (List ℕ × Entry) → Type 0
Below k [] = Unit {0}
Below k (e ∷ es) = (is_below (Some e.1) k ≡ true) × Below k es

found_if : (k : ℕ) (test : Bool) (x e : Entry) (o : Option Entry) → is_below (Some x) k ≡ true →
    (o ≡ Some e → is_below (Some e) k ≡ true) → (if test then Some x else o) ≡ Some e → is_below (Some e) k ≡ true
found_if k true x e o here rest h = let same : e ≡ x = cc in rw same here
found_if k false x e o here rest h = rest h

found_below : (k : ℕ) (es : List (List ℕ × Entry)) (name : List ℕ) (e : Entry) → Below k es → find es name ≡ Some e →
    is_below (Some e) k ≡ true
found_below k [] name e all h = absurd (cc)
found_below k (x ∷ es) name e all h =
    found_if k (bytes_eq name x.0) x.1 e (find es name) all.0 (found_below k es name e all.1) h

numbers_below : (k n : ℕ) (bodies : List ARoutine) → n + length bodies ≤ k → Below k (numbered n bodies)
numbers_below k n [] le = tt
numbers_below k n (b ∷ bodies) le = (lt-ltb n k (omega arith), numbers_below k (n + 1) bodies (omega arith))

known_below : (bodies : List ARoutine) (name : List ℕ) (e : Entry) → find (known_of bodies).names name ≡ Some e →
    is_below (Some e) (length bodies + 2) ≡ true
known_below bodies name e h =
    found_below (length bodies + 2) (known_of bodies).names name e (
      lt-ltb 0 (length bodies + 2) (omega arith),
      (
        lt-ltb 1 (length bodies + 2) (omega arith),
        numbers_below (length bodies + 2) 2 bodies (omega arith),
      ),
    ) h

-- the names that are known are kept
find_kept : (test : Bool) (k : Known) (more : Known) (name : List ℕ) (e : Entry) →
    (find k.names name ≡ Some e → find more.names name ≡ Some e) →
    find k.names name ≡ Some e → find (if test then k else more).names name ≡ Some e
find_kept true k more name e h f = f
find_kept false k more name e h f = h f

find_with : (spec : Spec) (f : AFunction) (k : Known) (name : List ℕ) (e : Entry) → find k.names name ≡ Some e →
    find (with_function spec f k).names name ≡ Some e
find_with spec f k name e h = find_kept (is_some (find k.names f.name)) k _ name e (find_further k.names _ name e) h

find_known : (spec : Spec) (o : Option SomeItems) (f : AFunction) (k : Known) (name : List ℕ) (e : Entry) → find k.names name ≡ Some e →
    find (if is_some o then with_function spec f k else k).names name ≡ Some e
find_known spec None f k name e h = h
find_known spec (Some row) f k name e h = find_with spec f k name e h

find_by : (spec : Spec) (d : ADeclared) (k : Known) (name : List ℕ) (e : Entry) → find k.names name ≡ Some e →
    find (known_by spec d k).names name ≡ Some e
find_by spec (globals ds) k name e h = h
find_by spec (function f) k name e h = find_known spec f.body f k name e h

find_from : (es : List AnExternal) (k : Known) (name : List ℕ) (e : Entry) → find k.names name ≡ Some e →
    find (known_from es k).names name ≡ Some e
find_from [] k name e h = h
find_from (x ∷ es) k name e h = find_from es (known_with x k) name e (find_by x.spec x.declared k name e h)

none_if : (test : Bool) (x : Entry) (o : Option Entry) → (if test then Some x else o) ≡ None → (test ≡ false) × (o ≡ None)
none_if true x o h = absurd (cc)
none_if false x o h = (refl, h)

-- a name that is not found is no function's
not_numbered : (n : ℕ) (bodies : List ARoutine) (name : List ℕ) (i : ℕ) (g : ARoutine) → find (numbered n bodies) name ≡ None →
    slice_get bodies i ≡ Some g → bytes_eq name g.name ≡ false
not_numbered n [] name i g h e = absurd (cc)
not_numbered n (b ∷ bodies) name zero g h e =
    let here = none_if (bytes_eq name b.name) (entries.Function n) (find (numbered (n + 1) bodies) name) h in
    let same : g ≡ b = cc in
    rw same (here.0)
not_numbered n (b ∷ bodies) name (suc i) g h e =
    let here = none_if (bytes_eq name b.name) (entries.Function n) (find (numbered (n + 1) bodies) name) h in
    not_numbered (n + 1) bodies name i g here.1 e

-- a new name
record IsNew (name : List ℕ) (bodies : List ARoutine) : Type 0 where
  putchar : bytes_eq name (codes "putchar") ≡ false
  getchar : bytes_eq name (codes "getchar") ≡ false
  others : (i : ℕ) (g : ARoutine) → slice_get bodies i ≡ Some g → bytes_eq name g.name ≡ false

new_name : (name : List ℕ) (bodies : List ARoutine) → find (known_of bodies).names name ≡ None → IsNew name bodies
new_name name bodies h =
    let first = none_if (bytes_eq name (codes "putchar")) _ _ h in
    let second = none_if (bytes_eq name (codes "getchar")) _ _ first.1 in
    record { putchar = first.0; getchar = second.0; others = λ i g e. not_numbered 2 bodies name i g second.1 e }

other_way : (a b : List ℕ) → bytes_eq a b ≡ true → bytes_eq b a ≡ true
other_way a b h = (bytes_eq-Decides b a).1 (sym ((bytes_eq-Decides a b).0 h))

-- the functions that are known are those that are typed, whose names differ
pub record Corresponds (k : Known) (bodies : List ARoutine) : Type 0 where
  pub is : k ≡ known_of bodies
  pub differ : (i j : ℕ) (g h : ARoutine) → slice_get bodies i ≡ Some g → slice_get bodies j ≡ Some h →
      bytes_eq g.name h.name ≡ true → i ≡ j
  pub no_putchar : (i : ℕ) (g : ARoutine) → slice_get bodies i ≡ Some g → bytes_eq g.name (codes "putchar") ≡ false
  pub no_getchar : (i : ℕ) (g : ARoutine) → slice_get bodies i ≡ Some g → bytes_eq g.name (codes "getchar") ≡ false

not_both : {A : Type 0} (test : Bool) → test ≡ true → test ≡ false → A
not_both test h k = absurd (cc)

differ_more : (bodies : List ARoutine) (b : ARoutine) → IsNew b.name bodies →
    ((i j : ℕ) (g h : ARoutine) → slice_get bodies i ≡ Some g → slice_get bodies j ≡ Some h → bytes_eq g.name h.name ≡ true → i ≡ j) →
    (i j : ℕ) (g h : ARoutine) → slice_get (bodies ++ b ∷ []) i ≡ Some g → slice_get (bodies ++ b ∷ []) j ≡ Some h →
    bytes_eq g.name h.name ≡ true → i ≡ j
differ_more bodies b new old i j g h p q same =
    elim (slice_cases bodies b i g p) [
      | inl x ↦ elim (slice_cases bodies b j h q) [
        | inl y ↦ old i j g h x y same
        | inr y ↦ not_both (bytes_eq b.name g.name) (other_way g.name b.name (rw (y.1) at same)) (new.others i g x)
      ]
      | inr x ↦ elim (slice_cases bodies b j h q) [
        | inl y ↦ not_both (bytes_eq b.name h.name) (rw (x.1) at same) (new.others j h y)
        | inr y ↦ x.0 ∙ sym y.0
      ]
    ]

none_more : (bodies : List ARoutine) (b : ARoutine) (name : List ℕ) → bytes_eq b.name name ≡ false →
    ((i : ℕ) (g : ARoutine) → slice_get bodies i ≡ Some g → bytes_eq g.name name ≡ false) →
    (i : ℕ) (g : ARoutine) → slice_get (bodies ++ b ∷ []) i ≡ Some g → bytes_eq g.name name ≡ false
none_more bodies b name new old i g p =
    elim (slice_cases bodies b i g p) [ inl x ↦ old i g x | inr x ↦ rw (x.1) new ]

known_is : (a c : List (List ℕ × Entry)) (b d : List Signature) → a ≡ c → b ≡ d →
    ◌≡◌ {A = Known} (record { names = a; signatures = b }) (record { names = c; signatures = d })
known_is a c b d p q = rw (p, q) refl

abbrev one_entry : List ℕ → ℕ → List (List ℕ × Entry)
one_entry name n = (name, entries.Function n) ∷ []

names_more : (bodies : List ARoutine) (name : List ℕ) (b : ARoutine) → b.name ≡ name →
    (known_of bodies).names ++ one_entry name (length (known_of bodies).signatures) ≡ (known_of (bodies ++ b ∷ [])).names
names_more bodies name b same =
    let many : length (map heading_of bodies) ≡ length bodies = length-map bodies heading_of in
    let number : length (known_of bodies).signatures ≡ 2 + length bodies = omega arith in
    let one : one_entry name (length (known_of bodies).signatures) ≡ one_entry b.name (2 + length bodies) =
    ap (one_entry name) number ∙ ap (λ (x : List ℕ). one_entry x (2 + length bodies)) (sym same) in
    ap (λ (es : List (List ℕ × Entry)). service_names ++ es)
    (ap (λ (z : List (List ℕ × Entry)). numbered 2 bodies ++ z) one ∙ sym (numbered_more 2 bodies b))

signatures_more : (bodies : List ARoutine) (s : Signature) (b : ARoutine) → heading_of b ≡ s →
    (known_of bodies).signatures ++ s ∷ [] ≡ (known_of (bodies ++ b ∷ [])).signatures
signatures_more bodies s b same =
    ap (λ (ss : List Signature). services ++ ss)
    (ap (λ (z : Signature). map heading_of bodies ++ z ∷ []) (sym same) ∙ sym (map-append heading_of bodies (b ∷ [])))

-- one more function is known, and typed
with_known : (bodies : List ARoutine) (spec : Spec) (f : AFunction) (b : ARoutine) → b.name ≡ f.name → heading_of b ≡ signature_of spec f →
    find (known_of bodies).names f.name ≡ None → with_function spec f (known_of bodies) ≡ known_of (bodies ++ b ∷ [])
with_known bodies spec f b name heading none =
    if_false (is_some (find (known_of bodies).names f.name)) (known_of bodies) _ (ap is_some none)
    ∙ known_is _ _ _ _ (names_more bodies f.name b name) (signatures_more bodies (signature_of spec f) b heading)

corresponds_more : (k : Known) (bodies : List ARoutine) (spec : Spec) (f : AFunction) (b : ARoutine) → b.name ≡ f.name →
    heading_of b ≡ signature_of spec f → find k.names f.name ≡ None → Corresponds k bodies →
    Corresponds (with_function spec f k) (bodies ++ b ∷ [])
corresponds_more k bodies spec f b name heading none c =
    let is : k ≡ known_of bodies = c.is in
    let missing : find (known_of bodies).names f.name ≡ None = ap (λ (x : Known). find x.names f.name) (sym is) ∙ none in
    let new : IsNew b.name bodies = rw name (new_name f.name bodies missing) in
    record {
      is = ap (with_function spec f) is ∙ with_known bodies spec f b name heading missing;
      differ = differ_more bodies b new c.differ;
      no_putchar = none_more bodies b (codes "putchar") new.putchar c.no_putchar;
      no_getchar = none_more bodies b (codes "getchar") new.getchar c.no_getchar;
    }

-- a function that is defined was not known before
fresh_by : (defines : Bool) (o all : Option Entry) (n : ℕ) → ((e : Entry) → o ≡ Some e → all ≡ Some e) →
    ((e : Entry) → o ≡ Some e → is_below (Some e) n ≡ true) → (defines && is_below all n) ≡ false → defines ≡ true → o ≡ None
fresh_by defines None all n more below fails h = refl
fresh_by defines (Some e) all n more below fails h =
    let is : all ≡ Some e = more e refl in
    let b : is_below all n ≡ true = rw is (below e refl) in
    not_both (defines && is_below all n) (and_from defines (is_below all n) h b) fails

module _ (names : List (List ℕ × Entry)) (signatures : List Signature) where
  body_corresponds : (spec : Spec) (f : AFunction) (o : Option SomeItems) (k : Known) (s : State) (t r : Text) →
      IsBody names signatures spec f o s t r → Corresponds k t.bodies → (is_some o ≡ true → find k.names f.name ≡ None) →
      Corresponds (if is_some o then with_function spec f k else k) r.bodies
  body_corresponds spec f None k s t r j c new = rw j c
  body_corresponds spec f (Some row) k s t r j c new =
      rw (j.whole.typed) (corresponds_more k t.bodies spec f (routine_of spec f j.part.1 j.part.0) refl refl (new refl) c)

  function_corresponds : (spec : Spec) (f : AFunction) (es : List AnExternal) (k : Known) (t r : Text) →
      names ≡ (known_from es (known_by spec (function f) k)).names → IsFunction names signatures spec f t r → Corresponds k t.bodies →
      Corresponds (known_by spec (function f) k) r.bodies
  function_corresponds spec f es k t r all j c =
      let i = j.whole in
      let m = i.whole in
      let q = m.whole in
      let is : k ≡ known_of t.bodies = c.is in
      let found = λ (e : Entry) (h : find k.names f.name ≡ Some e).
      ap (λ (x : List (List ℕ × Entry)). find x f.name) all
      ∙ find_from es (known_by spec (function f) k) f.name e (find_by spec (function f) k f.name e h) in
      let below = λ (e : Entry) (h : find k.names f.name ≡ Some e).
      known_below t.bodies f.name e (ap (λ (x : Known). find x.names f.name) (sym is) ∙ h) in
      body_corresponds spec f f.body k m.part (with_declared j.part spec f t) r q.whole
      (subst (Corresponds k) (sym (declared_bodies j.part spec f t)) c)
      (fresh_by (is_some f.body) (find k.names f.name) (find names f.name) (length t.bodies + 2) found below i.typed.fails)

  external_corresponds : (spec : Spec) (d : ADeclared) (es : List AnExternal) (k : Known) (t r : Text) →
      names ≡ (known_from es (known_by spec d k)).names → IsExternalBy names signatures spec d t r → Corresponds k t.bodies →
      Corresponds (known_by spec d k) r.bodies
  external_corresponds spec (function f) es k t r all j c = function_corresponds spec f es k t r all j c
  external_corresponds spec (globals ds) es k t r all j c = rw (j.whole) c

  pub externals_correspond : (es : List AnExternal) (k : Known) (t r : Text) → names ≡ (known_from es k).names →
      AreExternals names signatures es t r → Corresponds k t.bodies → Corresponds (known_from es k) r.bodies
  externals_correspond [] k t r all j c = rw j c
  externals_correspond (e ∷ es) k t r all j c =
      externals_correspond es (known_with e k) j.part r all j.whole (external_corresponds e.spec e.declared es k t j.part all j.typed c)

-- the function of a number behind the services
callee_if : (first second : Bool) (m n : ℕ) → first ≡ false → second ≡ false → m ≡ n →
    (if first then callees.Putchar else if second then callees.Getchar else callees.Defined m) ≡ callees.Defined n
callee_if true second m n h k e = absurd (cc)
callee_if false true m n h k e = absurd (cc)
callee_if false false m n h k e = ap (λ (x : ℕ). callees.Defined x) e

callee_behind : (n : ℕ) → callee_of (suc (suc n)) ≡ callees.Defined n
unfolding callee_of
callee_behind n =
    callee_if (suc (suc n) == 0) (suc (suc n) == 1) (suc (suc n) - 2) n (ne_eqb _ _ (λ e. omega arith)) (ne_eqb _ _ (λ e. omega arith))
    (omega arith)

heading_at : (bodies : List ARoutine) (n : ℕ) (s : Signature) → slice_get (map heading_of bodies) n ≡ Some s →
    IsDefined bodies n (length s.parameters)
heading_at [] n s h = absurd (cc)
heading_at (b ∷ bodies) zero s h =
    let same : heading_of b ≡ s = cc in
    record { routine = b; here = refl; takes = ap (λ (x : Signature). length x.parameters) same }
heading_at (b ∷ bodies) (suc n) s h =
    let d = heading_at bodies n s h in
    record { routine = d.routine; here = d.here; takes = d.takes }

putchar_takes : (bodies : List ARoutine) → Takes bodies (callee_of 0) 1
unfolding callee_of
putchar_takes bodies = refl

getchar_takes : (bodies : List ARoutine) → Takes bodies (callee_of 1) 0
unfolding callee_of
getchar_takes bodies = refl

service_takes : (bodies : List ARoutine) (f : Callee) (a s : Signature) → Some a ≡ Some s → Takes bodies f (length a.parameters) →
    Takes bodies f (length s.parameters)
service_takes bodies f a s same takes = let is : s ≡ a = cc in rw is takes

pub known_defined : (bodies : List ARoutine) → AreDefined (known_of bodies).signatures bodies
known_defined bodies zero s h = service_takes bodies (callee_of 0) _ s h (putchar_takes bodies)
known_defined bodies (suc zero) s h = service_takes bodies (callee_of 1) _ s h (getchar_takes bodies)
known_defined bodies (suc (suc n)) s h = rw (callee_behind n) (heading_at bodies n s h)

pub corresponds_defined : (k : Known) (bodies : List ARoutine) → Corresponds k bodies → AreDefined k.signatures bodies
corresponds_defined k bodies c = rw (c.is) (known_defined bodies)

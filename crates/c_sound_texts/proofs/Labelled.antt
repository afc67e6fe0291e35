-- The labels of a typed program's objects, as `AreLabelled` has them, and the addresses at their links.
use Rattle.std.proofs.Common.{◌≡◌, ◌≢◌, ℕ, zero, suc, ◌+◌, ◌^◌, ◌<◌, ◌≤◌, ◌==◌, ◌&&◌, true, List, [], ◌∷◌, length, map, Some, inl, inr, refl}
use Rattle.std.proofs.Common.{sym, ap, subst, ◌∙◌, arith}
use Rattle.std.proofs.lemmas.Bool.{and_from, and_parts, le-leb, leb-true, eqb-true}
use Rattle.std.proofs.lemmas.Fmt.{length-decimal-le}
use Rattle.std.proofs.lemmas.List.Elements.{All-head, All-tail, All-weaker}
use Rattle.std.specs.Fmt.{decimal}
use Rattle.std.specs.Int.{w32, to_le_bytes}
use Rattle.std.specs.List.{All, list_all}
use Rattle.std.specs.Prelude.{codes, nat_le, slice_get}
use Rattle.gg_base.proofs.Facts.{tail_same, head_same}
use Rattle.gg_base.specs.Names.{is_name_part}
use Rattle.gg_base.proofs.Names.{digits_are_parts}
use Rattle.tree_core.specs.declared.program.Object.{Object}
use Rattle.tree_core.specs.declared.program.Link.{Link}
use Rattle.tree_core.specs.Valid.{is_aligned, is_whole, is_placed, rounded, object_lies}
use Rattle.tree_core.proofs.Validity.{rounded_up}
use Rattle.tree_core.specs.Area.{HoldsAddress}
use Rattle.tree_core.specs.Names.{function_label}
use Rattle.c_tokens.proofs.NameParts.{letters_are_parts}
use Rattle.c_typed_scope.specs.declared.entry.Entry.{Entry}
use Rattle.c_typed_scope.specs.declared.entry.Entry.TheVariants as entries
use Rattle.c_typed_scope.specs.Scopes.{Scope, find}
use Rattle.c_typed_scope.proofs.Written.{low_is}
use Rattle.c_program.specs.Programs.{ARoutine}
use Rattle.c_sound.specs.Labels.{is_label_start, is_label, HoldsAddresses, AreLabelled}
use Rattle.c_sound_bodies.specs.c_typed_definition.specs.State.{State}
use Rattle.c_sound_bodies.specs.c_typed_words.specs.Words.{IsName}
use Rattle.c_sound_bodies.proofs.Objects.{IsVariable}
use Rattle.c_sound_texts.proofs.Areas.{LieTo}
use Rattle.c_sound_texts.proofs.Held.{places_of, Addressed, Contains, contents, AreContained}
use Rattle.c_sound_texts.proofs.Labels.{Each, Differ, labels, OfStatic, OfLiteral, HasFew}
use Rattle.c_sound_texts.proofs.Named.{start, IsFunctionEntry, not_named, IsLabel, Numbered, Variable, NamesFunction, IsNamed}
use Rattle.c_sound_texts.proofs.Finished.{IsLabelled, Plain, OfStack}

numbered_spelled : (c k : ℕ) → is_label_start c ≡ true → k < 2 ^ 32 → is_label (c ∷ decimal k) ≡ true
numbered_spelled c k begins small =
    let short = length-decimal-le 10 k (omega arith) (omega arith) (omega arith) in
    and_from (is_label_start c) _ begins
    (and_from (nat_le (length (decimal k)) 63) (list_all is_name_part (decimal k)) (le-leb _ _ (omega arith)) (digits_are_parts k (omega arith)))

named_spelled : (n : List ℕ) → IsName n → is_label (95 ∷ n) ≡ true
named_spelled n h =
    and_from (is_label_start 95) _ refl (and_from (nat_le (length n) 63) (list_all is_name_part n) (le-leb _ _ h.short) (letters_are_parts n h.letters))

label_spelled : (s : State) → HasFew s.area → (x : List ℕ) → IsLabel s x → is_label x ≡ true
label_spelled s few x (Numbered (OfStatic k least below is)) =
    let small : s.area.statics < 2 ^ 32 = few.statics in rw is (numbered_spelled 84 k refl (omega arith))
label_spelled s few x (Numbered (OfLiteral k least below is)) =
    let small : s.area.literals < 2 ^ 32 = few.literals in rw is (numbered_spelled 83 k refl (omega arith))
label_spelled s few x (Variable n e is_name found variable is) = rw is (named_spelled n is_name)

-- and is no function's
not_function : (e f : Entry) → e ≡ f → IsVariable e → IsFunctionEntry f → ⊥
not_function (entries.Variable t v) f is a b = subst IsFunctionEntry (sym is) b
not_function (entries.Array t v size) f is a b = subst IsFunctionEntry (sym is) b
not_function (entries.Function n) f is a b = a

no_function : (s : State) (name x : List ℕ) → NamesFunction s.scope name → IsLabel s x → x ≢ function_label name
no_function s name x f (Numbered new) e = not_named start s.area name x new (sym e)
no_function s name x f (Variable n e is_name found variable is) same =
    let names : n ≡ name = tail_same 95 95 n name (sym is ∙ same) in
    let here : find s.scope.here name ≡ Some e = subst (λ (z : List ℕ). find s.scope.here z ≡ Some e) names found in
    let both : Some e ≡ Some f.entry = sym here ∙ f.found in
    not_function e f.entry (cc) variable f.function

-- the labels of the second stack are spelled, and no function's
labelled_spelled : (s : State) → HasFew s.area → (x : List ℕ) → IsLabelled s x → is_label x ≡ true
labelled_spelled s few x (Plain h) = label_spelled s few x h
labelled_spelled s few x (OfStack (inl is)) = rw is refl
labelled_spelled s few x (OfStack (inr is)) = rw is refl

labelled_apart : (s : State) (name x : List ℕ) → NamesFunction s.scope name → IsLabelled s x → x ≢ function_label name
labelled_apart s name x f (Plain h) = no_function s name x f h
labelled_apart s name x f (OfStack (inl is)) =
    λ e. let equal = head_same 84 95 (95 ∷ 115 ∷ 112 ∷ []) name (sym is ∙ e) in omega arith
labelled_apart s name x f (OfStack (inr is)) =
    λ e. let equal = head_same 84 95 (95 ∷ 97 ∷ 114 ∷ 101 ∷ 97 ∷ []) name (sym is ∙ e) in omega arith

-- by number
each_at : (P : List ℕ → Type 0) (os : List Object) → Each P (labels os) → (i : ℕ) (o : Object) → slice_get os i ≡ Some o → P o.label
each_at P [] all i o here = absurd (cc)
each_at P (x ∷ os) all zero o here = let same : o ≡ x = cc in rw same (all.0)
each_at P (x ∷ os) all (suc i) o here = each_at P os all.1 i o here

differ_at : (os : List Object) → Differ (labels os) → (i j : ℕ) (o p : Object) → slice_get os i ≡ Some o → slice_get os j ≡ Some p →
    o.label ≡ p.label → i ≡ j
differ_at [] all i j o p here there e = absurd (cc)
differ_at (x ∷ os) all zero zero o p here there e = refl
differ_at (x ∷ os) all zero (suc j) o p here there e =
    let same : o ≡ x = cc in
    absurd (each_at (λ y. x.label ≢ y) os all.0 j p there (ap (λ (z : Object). z.label) (sym same) ∙ e))
differ_at (x ∷ os) all (suc i) zero o p here there e =
    let same : p ≡ x = cc in
    absurd (each_at (λ y. x.label ≢ y) os all.0 i o here (ap (λ (z : Object). z.label) (sym same) ∙ sym e))
differ_at (x ∷ os) all (suc i) (suc j) o p here there e = ap suc (differ_at os all.1 i j o p here there e)

function_at : (s : Scope) (bodies : List ARoutine) → ((i : ℕ) (g : ARoutine) → slice_get bodies i ≡ Some g → NamesFunction s g.name) →
    (f : ℕ) (name : List ℕ) → slice_get (map (λ (g : ARoutine). g.name) bodies) f ≡ Some name → NamesFunction s name
function_at s [] all f name here = absurd (cc)
function_at s (g ∷ bodies) all zero name here = let same : name ≡ g.name = cc in rw same (all 0 g refl)
function_at s (g ∷ bodies) all (suc f) name here = function_at s bodies (λ i h at. all (suc i) h at) f name here

place_is : (os : List Object) (n : ℕ) (o : Object) (a : ℕ) → slice_get os n ≡ Some o → slice_get (places_of os) n ≡ Some a → a ≡ o.address
place_is [] n o a here there = absurd (cc)
place_is (x ∷ os) zero o a here there = let same : o ≡ x = cc in let is : a ≡ x.address = cc in is ∙ ap (λ (z : Object). z.address) (sym same)
place_is (x ∷ os) (suc n) o a here there = place_is os n o a here there

address_held : (os : List Object) (bytes : List ℕ) (l : Link) → Addressed (places_of os) bytes l → HoldsAddress os bytes l
address_held os bytes l h o here =
    h.four ∙ (low_is h.address ∙ ap (to_le_bytes w32) (place_is os l.object o h.address here h.named))

addresses_held : (os : List Object) (o : Object) → Contains (places_of os) (contents o) → HoldsAddresses os o
addresses_held os o h = All-weaker (Addressed (places_of os) o.bytes) (HoldsAddress os o.bytes) (address_held os o.bytes) o.links h.links

-- each object takes a byte, so there are no more of them than bytes

lies_behind : (at : ℕ) (o : Object) → object_lies at o ≡ true → (at ≤ o.address) × (o.address + o.size ≤ 1114112)
lies_behind at o h =
    let shape = and_parts (is_aligned o) (is_whole o && is_placed at o) h in
    let place = (and_parts (is_whole o) (is_placed at o) shape.1).1 in
    let parts = and_parts (o.address == rounded o.align at) (nat_le (o.address + o.size) (65536 + 1048576)) place in
    let is : o.address ≡ rounded o.align at = eqb-true o.address (rounded o.align at) parts.0 in
    let up : at ≤ rounded o.align at = rounded_up o.align at shape.0 in
    let within = leb-true (o.address + o.size) (65536 + 1048576) parts.1 in
    (omega arith, omega arith)

few_objects : (at : ℕ) (os : List Object) (last : ℕ) → at ≤ 1114112 → LieTo at os last → All (λ (o : Object). 1 ≤ o.size) os →
    at + length os ≤ 1114112
few_objects at [] last le lie some = omega arith
few_objects at (o ∷ os) last le lie some =
    let here = lies_behind at o lie.0 in
    let first : at ≤ o.address = here.0 in
    let within : o.address + o.size ≤ 1114112 = here.1 in
    let one = All-head (λ (x : Object). 1 ≤ x.size) o os some in
    let rest = few_objects (o.address + o.size) os last within lie.1 (All-tail (λ (x : Object). 1 ≤ x.size) o os some) in
    omega arith

pub has_few : (s : State) (bodies : List ARoutine) (last : ℕ) → IsNamed s bodies → LieTo 65536 s.area.objects last →
    All (λ (o : Object). 1 ≤ o.size) s.area.objects → HasFew s.area
has_few s bodies last h lie some =
    let counted : s.area.statics + s.area.literals ≤ length s.area.objects = h.counted in
    let most = few_objects 65536 s.area.objects last (omega arith) lie some in
    record { statics = omega arith; literals = omega arith }

pub are_labelled : (s : State) (bodies : List ARoutine) (os : List Object) → IsNamed s bodies → HasFew s.area → Each (IsLabelled s) (labels os) →
    Differ (labels os) → AreContained (places_of os) os → AreLabelled os (map (λ (g : ARoutine). g.name) bodies)
are_labelled s bodies os h few each differ contained =
    let at = each_at (IsLabelled s) os each in
    record {
      differ = differ_at os differ;
      spelled = λ i o here. labelled_spelled s few o.label (at i o here);
      functions = λ i f o name here there. labelled_apart s name o.label (function_at s.scope bodies h.functions f name there) (at i o here);
      putchar = λ i o here. labelled_apart s (codes "putchar") o.label h.putchar (at i o here);
      getchar = λ i o here. labelled_apart s (codes "getchar") o.label h.getchar (at i o here);
      addresses = All-weaker (λ (o : Object). Contains (places_of os) (contents o)) (HoldsAddresses os) (λ o k. addresses_held os o k) os contained;
    }

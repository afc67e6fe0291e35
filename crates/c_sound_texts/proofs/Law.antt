-- The program of a well-typed text is sound.
use Rattle.std.proofs.Common.{◌≡◌, ℕ, zero, suc, ◌+◌, ◌<◌, ◌≤◌, ◌^◌, ◌==◌, ◌&&◌, true, List, [], ◌∷◌, length, Some, refl, sym, ap, subst, ◌∙◌, arith}
use Rattle.std.proofs.lemmas.Bool.{and_from, and_parts, leb-true}
use Rattle.std.proofs.lemmas.List.Elements.{All-head, All-tail}
use Rattle.std.specs.Prelude.{codes, slice_get, nat_le, IsTrue}
use Rattle.std.specs.List.{All}
use Rattle.tree_core.specs.declared.program.Object.{Object}
use Rattle.tree_core.specs.Valid.{LinksLie, is_aligned, is_whole, is_placed, rounded, object_lies, objects_lie}
use Rattle.c_phrases.specs.Units.{AnExternal}
use Rattle.c_typed_scope.specs.Layout.{Area}
use Rattle.c_typed_scope.specs.declared.entry.Entry.TheVariants as entries
use Rattle.c_typed_scope.specs.declared.entry.Signature.{Signature}
use Rattle.c_program.specs.Programs.{AProgram}
use Rattle.c_sound.specs.Sound.{HoldBytes, IsSound}
use Rattle.c_sound.proofs.Bytes.{same_names}
use Rattle.c_sound_bodies.specs.c_typed_definition.specs.Signatures.{known, services, service_names, Known}
use Rattle.c_sound_bodies.specs.c_typed_definition.specs.Headings.{Text}
use Rattle.c_sound_bodies.specs.c_typed_definition.specs.Texts.{main_of, empty_text}
use Rattle.c_sound_bodies.specs.c_typed_law.specs.Wholes.{IsStacked}
use Rattle.c_sound_bodies.specs.c_typed_law.specs.Texts.{AreExternals, IsText}
use Rattle.c_sound_bodies.specs.c_typed_words.specs.Words.{IsToken}
use Rattle.c_sound_bodies.specs.c_typed_words.specs.Phrases.{ExternalsOf}
use Rattle.c_sound_bodies.specs.c_typed_words.proofs.Spelled.{tokens_of}
use Rattle.c_sound_texts.specs.Claim.{TypedIsSound}
use Rattle.c_sound_texts.proofs.Held.{places_of, Contains, contents, AreContained}
use Rattle.c_sound_texts.proofs.Named.{start, IsNamed, externals_named}
use Rattle.c_sound_texts.proofs.Finished.{finished}
use Rattle.c_sound_texts.proofs.Labelled.{has_few, are_labelled}
use Rattle.c_sound_texts.proofs.Areas.{LieTo, longer, lays_same, lays_further}
use Rattle.c_sound_texts.proofs.Objects.{InPlace}
use Rattle.c_sound_texts.proofs.Places.{externals_in_place}
use Rattle.c_sound_texts.proofs.Functions.{Corresponds, externals_correspond, corresponds_defined}
use Rattle.c_sound_texts.proofs.Main.{main_at, called_main, main_takes_nothing}
use Rattle.c_sound_texts.proofs.Bodies.{TextIsSound, externals_sound}

-- objects that lie one behind another
lie_true : (at : ℕ) (os : List Object) (last : ℕ) → LieTo at os last → objects_lie at os ≡ true
lie_true at [] last h = refl
lie_true at (o ∷ os) last h =
    and_from (object_lies at o) (objects_lie (o.address + o.size) os) h.0 (lie_true (o.address + o.size) os last h.1)

address_below : (at : ℕ) (o : Object) → object_lies at o ≡ true → o.address < 2 ^ 32
address_below at o h =
    let shape = (and_parts (is_aligned o) (is_whole o && is_placed at o) h).1 in
    let place = (and_parts (is_whole o) (is_placed at o) shape).1 in
    let end = (and_parts (o.address == rounded o.align at) (nat_le (o.address + o.size) (65536 + 1048576)) place).1 in
    let within = leb-true (o.address + o.size) (65536 + 1048576) end in
    omega arith

addresses_below : (at : ℕ) (os : List Object) (last : ℕ) → LieTo at os last → (n : ℕ) (o : Object) → slice_get os n ≡ Some o →
    o.address < 2 ^ 32
addresses_below at [] last h n o here = absurd (cc)
addresses_below at (x ∷ os) last h zero o here = let same : o ≡ x = cc in rw same (address_below at x h.0)
addresses_below at (x ∷ os) last h (suc n) o here = addresses_below (x.address + x.size) os last h.1 n o here

-- where a text begins
abbrev beginning : Known
beginning = record { names = service_names; signatures = services }

begins_corresponding : Corresponds beginning []
begins_corresponding = record {
  is = refl;
  differ = λ i j g h p q same. absurd (cc);
  no_putchar = λ i g p. absurd (cc);
  no_getchar = λ i g p. absurd (cc);
}

begins_sound : (signatures : List Signature) (ends : List ℕ) → TextIsSound signatures (empty_text ends)
begins_sound signatures ends = record {
  order = record { names = λ small. record { here = (tt, (tt, tt)); outer = tt }; laying = refl };
  room = refl;
  routines = λ i g p. absurd (cc);
}

begins_in_place : (ends : List ℕ) → InPlace start (empty_text ends).state
begins_in_place ends = record {
  names = record { here = (tt, (tt, tt)); outer = tt };
  laying = refl;
  lays = lays_same start;
}

begins_named : (ends : List ℕ) → IsNamed (empty_text ends).state []
begins_named ends = record {
  each = tt;
  differ = λ few. tt;
  counted = omega arith;
  functions = λ i g p. absurd (cc);
  putchar = record { entry = entries.Function 0; found = refl; function = tt };
  getchar = record { entry = entries.Function 1; found = refl; function = tt };
}

holds_bytes : (ps : List ℕ) (os : List Object) → AreContained ps os → HoldBytes os
holds_bytes ps [] all n o here = absurd (cc)
holds_bytes ps (x ∷ os) all zero o here =
    let same : o ≡ x = cc in
    let one = All-head (λ (z : Object). Contains ps (contents z)) x os all in
    rw same (one.bytes)
holds_bytes ps (x ∷ os) all (suc n) o here =
    holds_bytes ps os (All-tail (λ (z : Object). Contains ps (contents z)) x os all) n o here

-- the program of a text with these objects
abbrev pub program_of : Text → Area → ℕ → AProgram
program_of t a n = record { objects = a.objects; routines = t.bodies; main = n }

whole_is_sound : (text : List AnExternal) (ends : List ℕ) (end : ℕ) (t : Text) (a : Area) (n : ℕ) → ExternalsOf IsToken text →
    AreExternals (known text).names (known text).signatures text (empty_text ends) t → IsStacked end t a → main_of t.bodies ≡ Some n →
    IsSound (program_of t a n)
whole_is_sound text ends end t a n w j stack main =
    let k = known text in
    let c = externals_correspond k.names k.signatures text beginning (empty_text ends) t refl j begins_corresponding in
    let s = externals_sound k.names k.signatures text w (empty_text ends) t (begins_sound k.signatures ends) j in
    let named = externals_named k.names k.signatures text w (empty_text ends) t (begins_sound k.signatures ends) (begins_named ends) j in
    let place = externals_in_place start k.names k.signatures text w (empty_text ends) t (begins_in_place ends) j in
    let whole = finished end t.state t.bodies a named stack in
    let first = place.lays in
    let before : t.state.area.objects ≡ first.more = first.objects in
    let few = has_few t.state t.bodies t.state.area.end named
    (subst (λ (x : List Object). LieTo 65536 x t.state.area.end) (sym before) first.lie)
    (subst (All (λ (o : Object). 1 ≤ o.size)) (sym before) first.sizes) in
    let lays = lays_further start t.state.area a first whole.lays in
    let os : a.objects ≡ lays.more = lays.objects in
    let more = longer t.state.area a whole.lays in
    let contained = subst (AreContained (places_of a.objects)) (sym os) lays.contents in
    let m = main_at t.bodies n main in
    record {
      fits = λ f g here. (s.routines f g here).fits;
      stands = λ f g here. (s.routines f g here).stands t.bodies (length a.objects) more (corresponds_defined k t.bodies c);
      registers = λ f g here. (s.routines f g here).registers;
      blocks = λ f g here. (s.routines f g here).block;
      stacked = whole.stacked;
      parameters = λ f g here. (s.routines f g here).parameters;
      differ = c.differ;
      no_putchar = c.no_putchar;
      no_getchar = c.no_getchar;
      main = (m.routine, m.here, called_main m.routine m.main, main_takes_nothing m.routine m.main);
      only_main = λ f g here is.
          c.differ f n g m.routine here m.here (same_names g.name m.routine.name (codes "main") is (called_main m.routine m.main));
      objects = subst (λ (x : List Object). IsTrue (objects_lie 65536 x)) (sym os) (lie_true 65536 lays.more a.end lays.lie);
      links = subst (All (LinksLie (length a.objects))) (sym os) lays.links;
      addresses = λ i o here.
          addresses_below 65536 lays.more a.end lays.lie i o (ap (λ (x : List Object). slice_get x i) (sym os) ∙ here);
      contents = holds_bytes (places_of a.objects) a.objects contained;
      labels = are_labelled t.state t.bodies a.objects named few whole.each (whole.differ few) contained;
    }

-- the program that a text whose phrases are of tokens of the grammar is typed as
pub text_is_sound : (p : AProgram) (text : List AnExternal) (ends : List ℕ) (end : ℕ) → ExternalsOf IsToken text → IsText text ends end p → IsSound p
unfolding IsText
text_is_sound p text ends end w j =
    let k = j.whole in
    let m = k.whole in
    subst IsSound (sym m.whole) (whole_is_sound text ends end j.part k.part m.part w j.typed k.typed m.typed)

pub typed_is_sound : TypedIsSound
typed_is_sound p unit ends w j = text_is_sound p unit.externals ends unit.end (tokens_of unit w) j

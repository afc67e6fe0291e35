-- How the data area grows: objects are laid one behind another.
use Rattle.std.proofs.Common.{◌≡◌, ℕ, ◌+◌, ◌≤◌, ◌==◌, ◌||◌, Bool, true, false, List, [], ◌∷◌, ◌++◌, length, Result, Ok, Err, refl, sym, ap, subst, ◌∙◌, length-append, append-nil, append_assoc, arith}
use Rattle.std.proofs.lemmas.Bool.{and_from, le-leb, eq-eqb}
use Rattle.std.proofs.lemmas.Bool.Decides.{nat_tests}
use Rattle.std.proofs.lemmas.List.Elements.{All-nil, All-cons, All-append, All-weaker}
use Rattle.std.proofs.lemmas.List.{map-append}
use Rattle.c_typed_scope.specs.Contents.{Filled}
use Rattle.std.specs.Prelude.{nat_lt, if◌then◌else◌}
use Rattle.std.specs.List.{All}
use Rattle.tree_core.specs.declared.program.Object.{Object}
use Rattle.tree_core.specs.declared.program.Link.{Link}
use Rattle.tree_core.specs.Valid.{object_lies, link_lies, LinksLie}
use Rattle.c_types.specs.Answers.{Fault, ◌>>=◌}
use Rattle.c_types.specs.Typed.{AnExpression, LiteralAt}
use Rattle.c_typed_scope.specs.Layout.{Area, aligned, with_object, placed, one_more_literal, literal}
use Rattle.c_tokens.specs.declared.token.Token.TheVariants as token
use Rattle.c_sound.specs.Fits.{AreBytes}
use Rattle.c_sound.proofs.Bytes.{bytes_joined}
use Rattle.c_sound_bodies.specs.c_typed_words.specs.Words.{IsToken}
use Rattle.c_sound_bodies.proofs.Growth.{Laying}
use Rattle.c_sound_texts.proofs.Held.{places_of, Addressed, Contains, contains_more, contents, AreContained, contained_more}

-- the objects lie one behind another from an address on, up to another
abbrev pub LieTo : ℕ → List Object → ℕ → Type 0
LieTo at [] last = last ≡ at
LieTo at (o ∷ os) last = (object_lies at o ≡ true) × LieTo (o.address + o.size) os last

lie_further : (at middle last : ℕ) (os more : List Object) → LieTo at os middle → LieTo middle more last → LieTo at (os ++ more) last
lie_further at middle last [] more h k = subst (λ m. LieTo m more last) h k
lie_further at middle last (o ∷ os) more h k = (h.0, lie_further (o.address + o.size) middle last os more h.1 k)

-- objects are laid behind those of an area, with links that lie in them, bytes, and addresses at their links
pub record Lays (a b : Area) : Type 0 where
  pub more : List Object
  pub objects : b.objects ≡ a.objects ++ more
  pub lie : LieTo a.end more b.end
  pub links : All (LinksLie (length b.objects)) more
  pub contents : AreContained (places_of b.objects) more
  pub sizes : All (λ (o : Object). 1 ≤ o.size) more
  pub measuring : b.measuring ≡ a.measuring

pub lays_same : (a : Area) → Lays a a
lays_same a = record {
  more = [];
  objects = sym (append-nil a.objects);
  lie = refl;
  links = All-nil (LinksLie (length a.objects));
  contents = All-nil (λ (o : Object). Contains (places_of a.objects) (contents o));
  sizes = All-nil (λ (o : Object). 1 ≤ o.size);
  measuring = refl;
}

pub link_more : (m n size : ℕ) → m ≤ n → (l : Link) → link_lies m size l ≡ true → link_lies n size l ≡ true
link_more m n size le l h = grind (arith, nat_tests)

-- where there are more objects
pub links_more : (m n : ℕ) → m ≤ n → (o : Object) → LinksLie m o → LinksLie n o
links_more m n le o h =
    (All-weaker (λ l. link_lies m o.size l ≡ true) (λ l. link_lies n o.size l ≡ true) (link_more m n o.size le) o.links h.0, h.1)

pub longer : (a b : Area) → Lays a b → length a.objects ≤ length b.objects
longer a b h =
    let same : length b.objects ≡ length (a.objects ++ h.more) = ap length h.objects in
    let sum = length-append a.objects h.more in
    omega arith

pub places_further : (os ps more : List Object) → ps ≡ os ++ more → places_of ps ≡ places_of os ++ places_of more
places_further os ps more is = ap places_of is ∙ map-append (λ (o : Object). o.address) os more

-- what was held at first, where objects are laid behind
pub contains_laid : (a b : Area) (f : Filled) → Lays a b → Contains (places_of a.objects) f → Contains (places_of b.objects) f
contains_laid a b f h c =
    subst (λ (ps : List ℕ). Contains ps f) (sym (places_further a.objects b.objects h.more h.objects))
    (contains_more (places_of a.objects) (places_of h.more) f c)

pub lays_further : (a b c : Area) → Lays a b → Lays b c → Lays a c
lays_further a b c h k = record {
  more = h.more ++ k.more;
  objects = k.objects ∙ ap (λ (x : List Object). x ++ k.more) h.objects ∙ append_assoc a.objects h.more k.more;
  lie = lie_further a.end b.end c.end h.more k.more h.lie k.lie;
  links = All-append (LinksLie (length c.objects)) h.more k.more
      (All-weaker (LinksLie (length b.objects)) (LinksLie (length c.objects))
      (links_more (length b.objects) (length c.objects) (longer b c k))
      h.more h.links) k.links;
  contents = All-append (λ (o : Object). Contains (places_of c.objects) (contents o)) h.more k.more
      (subst (λ (ps : List ℕ). AreContained ps h.more) (sym (places_further b.objects c.objects k.more k.objects))
      (contained_more (places_of b.objects) (places_of k.more) h.more h.contents)) k.contents;
  sizes = All-append (λ (o : Object). 1 ≤ o.size) h.more k.more h.sizes k.sizes;
  measuring = k.measuring ∙ h.measuring;
}

-- an object that is placed is the last, and lies behind the others
pub record Placed (label : List ℕ) (align size : ℕ) (bytes : List ℕ) (a : Area) (r : ℕ × Area) : Type 0 where
  pub is : r ≡ (length a.objects, with_object label align size bytes a)
  pub within : aligned a.end align + size ≤ 1114112

placed_by : (test : Bool) (n size : ℕ) (m r : ℕ × Area) (f : Fault) → test ≡ nat_lt 1114112 n → (if test then Err f else Ok m) ≡ Ok r →
    (r ≡ m) × (n ≤ 1114112)
placed_by true n size m r f is e = absurd (cc)
placed_by false n size m r f is e = (cc, grind (arith, nat_tests))

pub placed_is : (at : ℕ) (label : List ℕ) (align size : ℕ) (bytes : List ℕ) (a : Area) (r : ℕ × Area) →
    placed at label align size bytes a ≡ Ok r → Placed label align size bytes a r
unfolding placed
placed_is at label align size bytes a r e =
    let h = placed_by (nat_lt 1114112 (aligned a.end align + size)) (aligned a.end align + size) size _ r _ refl e in
    record { is = h.0; within = h.1 }

-- an object of an alignment, and how it is laid out
abbrev pub is_alignment : ℕ → Bool
is_alignment n = (n == 1) || ((n == 2) || (n == 4))

abbrev pub object_at : List ℕ → ℕ → ℕ → List ℕ → List Link → Area → Object
object_at label align size bytes links a =
    record { label = label; address = aligned a.end align; size = size; align = align; bytes = bytes; links = links }

pub object_lies_at : (label : List ℕ) (align size : ℕ) (bytes : List ℕ) (links : List Link) (a : Area) → is_alignment align ≡ true →
    length bytes ≡ size → aligned a.end align + size ≤ 1114112 → object_lies a.end (object_at label align size bytes links a) ≡ true
unfolding aligned
object_lies_at label align size bytes links a fits whole within =
    and_from _ _ fits (and_from _ _ (eq-eqb (length bytes) size whole)
    (and_from _ _ (eq-eqb _ _ refl) (le-leb _ _ within)))

no_links : (n : ℕ) (o : Object) → o.links ≡ [] → LinksLie n o
no_links n o none = rw none (All-nil (λ l. link_lies n o.size l ≡ true), λ i j d before within. absurd (omega arith))

-- one more object, which is whole and has no links
one_more : (label : List ℕ) (align size : ℕ) (bytes : List ℕ) (a b : Area) → AreBytes bytes → 1 ≤ size → is_alignment align ≡ true → length bytes ≡ size →
    aligned a.end align + size ≤ 1114112 → b.objects ≡ a.objects ++ object_at label align size bytes [] a ∷ [] →
    b.end ≡ aligned a.end align + size → b.measuring ≡ a.measuring → Lays a b
one_more label align size bytes a b low some fits whole within objects end measuring = record {
  more = object_at label align size bytes [] a ∷ [];
  objects = objects;
  lie = (object_lies_at label align size bytes [] a fits whole within, end);
  links = All-cons (LinksLie (length b.objects)) (object_at label align size bytes [] a) []
      (no_links (length b.objects) (object_at label align size bytes [] a) refl) (All-nil (LinksLie (length b.objects)));
  contents = All-cons (λ (o : Object). Contains (places_of b.objects) (contents o)) (object_at label align size bytes [] a) []
      (record { bytes = low; links = All-nil (Addressed (places_of b.objects) bytes) })
      (All-nil (λ (o : Object). Contains (places_of b.objects) (contents o)));
  sizes = All-cons (λ (o : Object). 1 ≤ o.size) (object_at label align size bytes [] a) [] some (All-nil (λ (o : Object). 1 ≤ o.size));
  measuring = measuring;
}

literal_by : (at : ℕ) (bytes : List ℕ) → AreBytes bytes → (measures : Bool) (label : List ℕ) (a : Area) (m : Result (ℕ × Area) Fault) (t : AnExpression × Area) →
    ((r : ℕ × Area) → m ≡ Ok r → Placed label 1 (length bytes + 1) (bytes ++ 0 ∷ []) a r) →
    (if measures then Ok (LiteralAt 0 (length bytes + 1), a)
    else (m >>= λ r. Ok (LiteralAt r.0 (length bytes + 1), one_more_literal r.1))) ≡ Ok t → Lays a t.1
literal_by at bytes w true label a m t h e = let same : t ≡ (LiteralAt 0 (length bytes + 1), a) = cc in rw same (lays_same a)
literal_by at bytes w false label a (Err f) t h e = absurd (cc)
literal_by at bytes w false label a (Ok r) t h e =
    let p = h r refl in
    let same : t ≡ (LiteralAt r.0 (length bytes + 1), one_more_literal r.1) = cc in
    let area : r.1 ≡ with_object label 1 (length bytes + 1) (bytes ++ 0 ∷ []) a = ap (λ (x : ℕ × Area). x.1) p.is in
    rw (same, area) (one_more label 1 (length bytes + 1) (bytes ++ 0 ∷ []) a _ (bytes_joined bytes (0 ∷ []) w (omega arith, tt)) (omega arith) refl (length-append bytes (0 ∷ [])) p.within
    refl refl refl)

literal_lays : (at : ℕ) (bytes : List ℕ) (a : Area) (t : AnExpression × Area) → IsToken (token.Str bytes) → literal at bytes a ≡ Ok t → Lays a t.1
unfolding literal
literal_lays at bytes a t w e = literal_by at bytes w a.measuring _ a _ t (λ r is. placed_is _ _ _ _ _ a r is) e

pub laying : Laying IsToken Lays
laying = record { same = lays_same; further = lays_further; literal = literal_lays }

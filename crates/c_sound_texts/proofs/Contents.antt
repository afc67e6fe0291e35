-- What an object holds at first: as many bytes as its size, and links that lie in them.
use Rattle.std.proofs.Common.{◌≡◌, ℕ, ◌+◌, ◌-◌, ◌<◌, ◌≤◌, true, List, [], length, refl, inl, length-append, arith}
use Rattle.std.proofs.Math.ListN.{replicate, get_or}
use Rattle.std.proofs.lemmas.Bool.{and_from, le-leb, lt-ltb}
use Rattle.std.proofs.lemmas.Bool.Decides.{nat_tests}
use Rattle.std.proofs.lemmas.List.{length-replicate}
use Rattle.std.proofs.lemmas.List.Elements.{All-nil, All-push, All-weaker}
use Rattle.std.proofs.lemmas.List.Quantifiers.{all_pairs_push}
use Rattle.std.specs.List.{AllPass}
use Rattle.tree_core.specs.declared.program.Object.{Object}
use Rattle.tree_core.specs.declared.program.Link.{Link}
use Rattle.tree_core.specs.Valid.{link_lies, LinksApart, Apart}
use Rattle.c_types.specs.declared.types.CType.{CType}
use Rattle.c_types.specs.declared.types.CType.TheVariants as types
use Rattle.c_types.specs.Types.{integer_size, size_of}
use Rattle.c_types.specs.Typed.{AnExpression}
use Rattle.c_typed_scope.specs.Contents.{low_bytes, Filled, with_value, address_at, with_link, filled_to}
use Rattle.c_typed_scope.proofs.Written.{low_length}
use Rattle.c_sound_bodies.specs.c_typed_law.specs.Values.{Null, Address, IsWritten}
use Rattle.c_sound_texts.proofs.Held.{Contains, places_of, value_contained, link_contained}
use Rattle.c_sound_texts.proofs.Areas.{link_more}
use Rattle.c_sound_texts.proofs.Linked.{NamesObjects, linked_below}

-- one value more
pub written_contained : (t : CType) (x : AnExpression) (os : List Object) (f g : Filled) → NamesObjects (length os) x →
    IsWritten t x os f g → Contains (places_of os) f → Contains (places_of os) g
written_contained types.Void x os f g named j h = absurd j
written_contained (types.Integer b) x os f g named j h =
    let k = j.whole in rw (k.typed) (value_contained (places_of os) (integer_size b) j.part f h)
written_contained (types.Pointer b n) x os f g named (Null null is) h = rw is (value_contained (places_of os) 4 0 f h)
written_contained (types.Pointer b n) x os f g named (Address other j) h =
    let k = j.whole in rw (k.typed) (link_contained os j.part f (linked_below (length os) j.part x named j.typed) h)

-- so many bytes, with links that lie in them, where there are so many objects
pub record Holds (objects size : ℕ) (f : Filled) : Type 0 where
  pub many : length f.bytes ≡ size
  pub links : AllPass (link_lies objects size) f.links
  pub apart : LinksApart f.links

abbrev pub nothing : Filled
nothing = record { bytes = []; links = [] }

pub holds_nothing : (objects : ℕ) → Holds objects 0 nothing
holds_nothing objects = record {
  many = refl;
  links = All-nil (λ l. link_lies objects 0 l ≡ true);
  apart = λ i j d before within. absurd (omega arith);
}

link_wider : (objects size wide : ℕ) → size ≤ wide → (l : Link) → link_lies objects size l ≡ true → link_lies objects wide l ≡ true
link_wider objects size wide le l h = grind (arith, nat_tests)

-- in more bytes
links_wider : (objects size wide : ℕ) (links : List Link) → size ≤ wide → AllPass (link_lies objects size) links →
    AllPass (link_lies objects wide) links
links_wider objects size wide links le all =
    All-weaker (λ l. link_lies objects size l ≡ true) (λ l. link_lies objects wide l ≡ true) (link_wider objects size wide le) links all

-- where there are more objects
pub holds_more : (objects many size : ℕ) (f : Filled) → objects ≤ many → Holds objects size f → Holds many size f
holds_more objects many size f le h = record {
  many = h.many;
  links = All-weaker (λ l. link_lies objects size l ≡ true) (λ l. link_lies many size l ≡ true) (link_more objects many size le)
      f.links h.links;
  apart = h.apart;
}

value_holds : (objects size wide v : ℕ) (f : Filled) → Holds objects size f → Holds objects (size + wide) (with_value wide v f)
value_holds objects size wide v f h =
    let low = low_length wide v in
    let sum = length-append f.bytes (low_bytes wide v) in
    let many : length f.bytes ≡ size = h.many in
    record {
      many = omega arith;
      links = links_wider objects size (size + wide) f.links (omega arith) h.links;
      apart = h.apart;
    }

ends_before : (objects size : ℕ) (l : Link) → link_lies objects size l ≡ true → l.at + 4 ≤ size
ends_before objects size l h = grind (arith, nat_tests)

pub link_holds : (objects size n : ℕ) (os : List Object) (f : Filled) → n < objects → Holds objects size f →
    Holds objects (size + 4) (with_link os n f)
link_holds objects size n os f below h =
    let low = low_length 4 (address_at os n) in
    let sum = length-append f.bytes (low_bytes 4 (address_at os n)) in
    let many : length f.bytes ≡ size = h.many in
    let new : Link = record { at = length f.bytes; object = n } in
    record {
      many = omega arith;
      links = All-push (λ l. link_lies objects (size + 4) l ≡ true) f.links new
          (links_wider objects size (size + 4) f.links (omega arith) h.links)
          (and_from _ _ (le-leb _ _ (omega arith)) (lt-ltb _ _ below));
      apart = all_pairs_push (λ k l. Apart k.at l.at) f.links new h.apart
          (λ k d within. let here = ends_before objects size (get_or f.links k d) (h.links k d within) in inl (omega arith));
    }

-- one value more
pub written_holds : (objects size : ℕ) (t : CType) (x : AnExpression) (os : List Object) (f g : Filled) → NamesObjects objects x →
    IsWritten t x os f g → Holds objects size f → Holds objects (size + size_of t) g
unfolding size_of
written_holds objects size types.Void x os f g named j h = absurd j
written_holds objects size (types.Integer b) x os f g named j h =
    let k = j.whole in rw (k.typed) (value_holds objects size (integer_size b) j.part f h)
written_holds objects size (types.Pointer b n) x os f g named (Null null is) h = rw is (value_holds objects size 4 0 f h)
written_holds objects size (types.Pointer b n) x os f g named (Address other j) h =
    let k = j.whole in
    rw (k.typed) (link_holds objects size j.part os f (linked_below objects j.part x named j.typed) h)

zeros_length : (n : ℕ) → length {A = ℕ} (replicate n 0) ≡ n
zeros_length n = length-replicate {A = ℕ} n 0

-- zeros behind
pub filled_holds : (objects size wide : ℕ) (f : Filled) → size ≤ wide → Holds objects size f → Holds objects wide (filled_to wide f)
filled_holds objects size wide f le h =
    let zeros = zeros_length (wide - length f.bytes) in
    let sum = length-append f.bytes (replicate (wide - length f.bytes) 0) in
    let many : length f.bytes ≡ size = h.many in
    record {
      many = omega arith;
      links = links_wider objects size wide f.links le h.links;
      apart = h.apart;
    }

-- What objects hold: bytes, and at each link the address of the object that it names.
use Rattle.std.proofs.Common.{◌≡◌, ℕ, zero, suc, ◌+◌, ◌-◌, ◌/◌, ◌^◌, ◌<◌, ◌≤◌, List, [], ◌∷◌, ◌++◌, length, take, drop, map, Some, refl, subst, ◌∙◌, length-append, append-nil, arith}
use Rattle.std.proofs.Math.ListN.{replicate}
use Rattle.std.proofs.lemmas.List.Elements.{All-nil, All-push, All-weaker}
use Rattle.std.specs.Prelude.{slice_get}
use Rattle.std.specs.List.{All}
use Rattle.gg_base.proofs.Facts.{slice_left, take_within}
use Rattle.tree_core.specs.declared.program.Object.{Object}
use Rattle.tree_core.specs.declared.program.Link.{Link}
use Rattle.c_typed_scope.specs.Contents.{low_bytes, Filled, with_value, address_at, with_link, filled_to}
use Rattle.c_sound.specs.Fits.{AreBytes}
use Rattle.c_sound.proofs.Bytes.{zeros_are_bytes, bytes_joined}

low_bytes_are : (n v : ℕ) → AreBytes (low_bytes n v)
low_bytes_are zero v = tt
low_bytes_are (suc n) v = (omega arith, low_bytes_are n (v / 2 ^ 8))

-- the addresses of objects
abbrev pub places_of : List Object → List ℕ
places_of os = map (λ (o : Object). o.address) os

-- the four bytes at a link are the address of the object that it names
pub record Addressed (places bytes : List ℕ) (l : Link) : Type 0 where
  pub address : ℕ
  pub named : slice_get places l.object ≡ Some address
  pub within : l.at + 4 ≤ length bytes
  pub four : take 4 (drop l.at bytes) ≡ low_bytes 4 address

-- what an object holds is bytes, and addresses at its links
pub record Contains (places : List ℕ) (f : Filled) : Type 0 where
  pub bytes : AreBytes f.bytes
  pub links : All (Addressed places f.bytes) f.links

four_longer : (at : ℕ) (bytes more : List ℕ) → at + 4 ≤ length bytes → take 4 (drop at (bytes ++ more)) ≡ take 4 (drop at bytes)
four_longer zero bytes more le = take_within bytes more 4 (omega arith)
four_longer (suc at) [] more le = absurd (omega arith)
four_longer (suc at) (b ∷ bytes) more le = four_longer at bytes more (omega arith)

-- more objects, and more bytes
addressed_more : (places more bytes behind : List ℕ) (l : Link) → Addressed places bytes l → Addressed (places ++ more) (bytes ++ behind) l
addressed_more places more bytes behind l h =
    let sum = length-append bytes behind in
    let within : l.at + 4 ≤ length bytes = h.within in
    record {
      address = h.address;
      named = slice_left places more l.object h.address h.named;
      within = omega arith;
      four = four_longer l.at bytes behind within ∙ h.four;
    }

pub contains_nothing : (places : List ℕ) → Contains places (record { bytes = []; links = [] })
contains_nothing places = record { bytes = tt; links = All-nil (Addressed places []) }

links_more : (places more bytes behind : List ℕ) (links : List Link) → All (Addressed places bytes) links →
    All (Addressed (places ++ more) (bytes ++ behind)) links
links_more places more bytes behind links all =
    All-weaker (Addressed places bytes) (Addressed (places ++ more) (bytes ++ behind)) (addressed_more places more bytes behind) links all

pub contains_more : (places more : List ℕ) (f : Filled) → Contains places f → Contains (places ++ more) f
contains_more places more f h = record {
  bytes = h.bytes;
  links = subst (λ (bs : List ℕ). All (Addressed (places ++ more) bs) f.links) (append-nil f.bytes)
      (links_more places more f.bytes [] f.links h.links);
}

links_longer : (places bytes behind : List ℕ) (links : List Link) → All (Addressed places bytes) links →
    All (Addressed places (bytes ++ behind)) links
links_longer places bytes behind links all =
    subst (λ (ps : List ℕ). All (Addressed ps (bytes ++ behind)) links) (append-nil places) (links_more places [] bytes behind links all)

pub value_contained : (places : List ℕ) (wide v : ℕ) (f : Filled) → Contains places f → Contains places (with_value wide v f)
value_contained places wide v f h = record {
  bytes = bytes_joined f.bytes (low_bytes wide v) h.bytes (low_bytes_are wide v);
  links = links_longer places f.bytes (low_bytes wide v) f.links h.links;
}

four_behind : (bytes : List ℕ) (v : ℕ) → take 4 (drop (length bytes) (bytes ++ low_bytes 4 v)) ≡ low_bytes 4 v
four_behind [] v = refl
four_behind (b ∷ bytes) v = four_behind bytes v

address_named : (os : List Object) (n : ℕ) → n < length os → slice_get (places_of os) n ≡ Some (address_at os n)
address_named [] n below = absurd (omega arith)
address_named (o ∷ os) zero below = refl
address_named (o ∷ os) (suc n) below = address_named os n (omega arith)

pub link_contained : (os : List Object) (n : ℕ) (f : Filled) → n < length os → Contains (places_of os) f → Contains (places_of os) (with_link os n f)
link_contained os n f below h =
    let address = address_at os n in
    let sum = length-append f.bytes (low_bytes 4 address) in
    let new : Link = record { at = length f.bytes; object = n } in
    record {
      bytes = bytes_joined f.bytes (low_bytes 4 address) h.bytes (low_bytes_are 4 address);
      links = All-push (Addressed (places_of os) (f.bytes ++ low_bytes 4 address)) f.links new
          (links_longer (places_of os) f.bytes (low_bytes 4 address) f.links h.links)
          (record { address = address; named = address_named os n below; within = omega arith; four = four_behind f.bytes address });
    }

-- zeros behind
pub filled_contained : (places : List ℕ) (wide : ℕ) (f : Filled) → Contains places f → Contains places (filled_to wide f)
filled_contained places wide f h =
    let zeros = replicate (wide - length f.bytes) 0 in
    record {
      bytes = bytes_joined f.bytes zeros h.bytes (zeros_are_bytes (wide - length f.bytes));
      links = links_longer places f.bytes zeros f.links h.links;
    }

-- each of these objects
abbrev pub contents : Object → Filled
contents o = record { bytes = o.bytes; links = o.links }

abbrev pub AreContained : List ℕ → List Object → Type 0
AreContained places os = All (λ (o : Object). Contains places (contents o)) os

pub contained_more : (places more : List ℕ) (os : List Object) → AreContained places os → AreContained (places ++ more) os
contained_more places more os all =
    All-weaker (λ (o : Object). Contains places (contents o)) (λ (o : Object). Contains (places ++ more) (contents o))
    (λ o h. contains_more places more (contents o) h) os all

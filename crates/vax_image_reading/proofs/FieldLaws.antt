-- Each spelling of a field is found, with its ref.
use Rattle.std.proofs.Common.{◌≡◌, ℕ, suc, ◌+◌, ◌%◌, ◌^◌, ◌<◌, false, eqb, List, [], ◌∷◌, ◌++◌, length, Option, Some, None, refl, ap, arith}
use Rattle.std.proofs.lemmas.Bool.{le-leb, eq-eqb, ne_eqb}
use Rattle.std.proofs.lemmas.Nat.{from_le_bytes-to_le_bytes_2, from_le_bytes-to_le_bytes_4}
use Rattle.std.proofs.Math.Nat.{mod-lt}
use Rattle.gg_base.specs.declared.size.Size.{Size}
use Rattle.gg_base.specs.declared.size.Size.TheVariants.{Byte, Word, Long}
use Rattle.gg_base.specs.Sizes.{bytes_of, low}
use Rattle.vax_image_format.specs.declared.field.Ref.{Ref}
use Rattle.vax_image_format.specs.Specifiers.{field, ref}
use Rattle.vax_image_reading.specs.Fronts.{front, field_front, ref_at, behind_ref, held_front}
use Rattle.vax_image_reading.specs.Taken.{AreLater}

pub byte_again : (place b : ℕ) (rest : List ℕ) (refs : List Ref) → field_front Byte (front place (b ∷ rest) refs) ≡ Some (b, front (place + 1) rest refs)
unfolding field_front
byte_again place b rest refs = rw (le-leb 1 (suc (length rest)) (omega arith)) refl

pub field_again : (size : Size) (n place : ℕ) (rest : List ℕ) (refs : List Ref) → n < 2 ^ 32
    → field_front size (front place (field size n ++ rest) refs) ≡ Some (low size n, front (place + bytes_of size) rest refs)
unfolding field_front
field_again Byte n place rest refs lt = rw (le-leb 1 (suc (length rest)) (omega arith)) refl
field_again Word n place rest refs lt =
    rw (le-leb 2 (suc (suc (length rest))) (omega arith))
    (ap (λ (x : ℕ). Some (x, front (place + 2) rest refs)) (from_le_bytes-to_le_bytes_2 (n % 2 ^ 16) (mod-lt n (omega arith))))
field_again Long n place rest refs lt =
    rw (le-leb 4 (suc (suc (suc (suc (length rest))))) (omega arith))
    (ap (λ (x : ℕ). Some (x, front (place + 4) rest refs)) (from_le_bytes-to_le_bytes_4 n lt))

-- a later ref is not that of an earlier field
pub no_ref : (place later : ℕ) (refs : List Ref) → AreLater later refs → place < later → (ref_at place refs ≡ None) × (behind_ref place refs ≡ refs)
no_ref place later [] h lt = (refl, refl)
no_ref place later (r ∷ refs) h lt =
    let differ : eqb r.place place ≡ false = ne_eqb r.place place (λ e. omega (arith, e, h, lt)) in
    (rw differ refl, rw differ refl)

-- a field without a ref
pub bare_again : (size : Size) (n place : ℕ) (rest : List ℕ) (refs : List Ref) → n < 2 ^ 32 → AreLater (place + bytes_of size) refs
    → held_front size (front place (field size n ++ rest) refs) ≡ Some (low size n, None, front (place + bytes_of size) rest refs)
unfolding held_front
bare_again size n place rest refs lt later =
    let none = no_ref place (place + bytes_of size) refs later (some_bytes size) in
    rw (field_again size n place rest refs lt, none.0, none.1) refl
  where
    some_bytes : (size : Size) → place < place + bytes_of size
    some_bytes Byte = omega arith
    some_bytes Word = omega arith
    some_bytes Long = omega arith

-- a field with one
pub named_again : (size : Size) (n place : ℕ) (name : Option (List ℕ)) (offset : ℕ) (rest : List ℕ) (refs : List Ref) → n < 2 ^ 32
    → held_front size (front place (field size n ++ rest) (ref place name offset ++ refs))
    ≡ Some (low size n, Some (record { name = name; offset = offset }), front (place + bytes_of size) rest refs)
unfolding held_front
named_again size n place name offset rest refs lt = rw (field_again size n place rest (ref place name offset ++ refs) lt, eq-eqb place place refl) refl

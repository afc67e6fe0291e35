-- Each spelling of a part of an image is found.
use Rattle.std.proofs.Common.{◌≡◌, ℕ, suc, ◌^◌, ◌<◌, true, leb, ◌&&◌, not, eqb, List, [], ◌∷◌, ◌++◌, length, Option, Some, None, refl, ap, ◌∙◌, arith, append_assoc, length-append}
use Rattle.std.specs.Option.{option_and_then}
use Rattle.std.specs.List.{flat_map}
use Rattle.std.proofs.lemmas.Bool.{and_parts, le-leb, leb-true, ltb-true}
use Rattle.std.proofs.lemmas.List.{take_at, drop_at}
use Rattle.std.proofs.Math.Nat.{mod-eq_of_lt}
use Rattle.gg_base.specs.declared.size.Size.{Size}
use Rattle.gg_base.specs.declared.size.Size.TheVariants.{Byte, Word, Long}
use Rattle.gg_base.specs.Sizes.{low}
use Rattle.vax_core.specs.declared.code.AreaItem.{AreaItem}
use Rattle.vax_core.specs.declared.code.AreaItem.TheVariants as areas
use Rattle.vax_core.specs.Valid.{is_name, is_long, is_addr_of, is_area_item}
use Rattle.vax_image_format.specs.declared.field.Ref.{Ref}
use Rattle.vax_image_format.specs.declared.field.Sign.{Sign}
use Rattle.vax_image_format.specs.declared.field.Sign.TheVariants as signs
use Rattle.vax_image_format.specs.declared.field.Mark.{Mark}
use Rattle.vax_image_format.specs.Specifiers.{field}
use Rattle.vax_image_format.specs.Sections.{name_bytes, sign_bytes, mark_bytes, ref_bytes, area_bytes}
use Rattle.vax_image_reading.specs.Reading.{number_front, bytes_front, name_front, some_name, mark_behind, mark_front, ref_behind, ref_front, area_of, area_front, list_front, counted_front}
use Rattle.vax_image_format.proofs.FitLaws.{IsNamed, named_of, IsFitMark, IsFitRef, AllFit}
use Rattle.vax_image_reading.proofs.FieldLaws.{byte_again, field_again}

pub number_again : (size : Size) (n : ℕ) (rest : List ℕ) → n < 2 ^ 32 → number_front size (field size n ++ rest) ≡ Some (low size n, rest)
number_again size n rest lt = rw (field_again size n 0 rest [] lt) refl

pub byte_number : (b : ℕ) (rest : List ℕ) → number_front Byte (b ∷ rest) ≡ Some (b, rest)
byte_number b rest = rw (byte_again 0 b rest []) refl

pub bytes_again : (bytes rest : List ℕ) → bytes_front (length bytes, bytes ++ rest) ≡ Some (bytes, rest)
bytes_again bytes rest = rw (
  le-leb (length bytes) (length (bytes ++ rest)) (omega (arith, length-append bytes rest)),
  take_at bytes rest (length bytes) refl,
  drop_at bytes rest (length bytes) refl,
) refl

name_again : (name rest : List ℕ) → name_front (length name ∷ (name ++ rest)) ≡ Some (name, rest)
name_again name rest = rw (byte_number (length name) (name ++ rest)) (bytes_again name rest)

-- the bytes of a name that may be missing
spelled_name : Option (List ℕ) → List ℕ
spelled_name None = []
spelled_name (Some name) = name

missing_again : (name : Option (List ℕ)) (rest : List ℕ) → name_front (name_bytes name ++ rest) ≡ Some (spelled_name name, rest)
unfolding spelled_name
missing_again None rest = name_again [] rest
missing_again (Some name) rest = name_again name rest

missing_is : (name : Option (List ℕ)) → IsNamed name → some_name (spelled_name name) ≡ name
unfolding spelled_name
missing_is None h = refl
missing_is (Some []) h = absurd h
missing_is (Some (c ∷ cs)) h = refl

-- marks, refs and area items

mark_of : (place : ℕ) (sign : Sign) (rest : List ℕ) → mark_behind (place, sign_bytes sign ++ rest) ≡ Some (record { place = place; sign = sign }, rest)
mark_of place (signs.Label name) rest = rw (byte_number 0 (length name ∷ (name ++ rest)), name_again name rest) refl
mark_of place (signs.Globl name) rest = rw (byte_number 1 (length name ∷ (name ++ rest)), name_again name rest) refl
mark_of place signs.Mask rest = rw (byte_number 2 rest) refl

pub mark_again : (m : Mark) (rest : List ℕ) → IsFitMark (2 ^ 32) m → mark_front (mark_bytes m ++ rest) ≡ Some (m, rest)
unfolding mark_front
mark_again m rest h =
    ap (λ (b : List ℕ). option_and_then mark_behind (number_front Long b)) (append_assoc (field Long m.place) (sign_bytes m.sign) rest)
    ∙ rw (number_again Long m.place (sign_bytes m.sign ++ rest) h.place) (mark_of m.place m.sign rest)

pub ref_again : (r : Ref) (rest : List ℕ) → IsFitRef (2 ^ 32) r → ref_front (ref_bytes r ++ rest) ≡ Some (r, rest)
unfolding ref_front
ref_again r rest h =
    let name = name_bytes r.addr.name in
    let offset = field Long r.addr.offset in
    ap (λ (b : List ℕ). option_and_then ref_behind (number_front Long b))
    (append_assoc (field Long r.place) (name ++ offset) rest ∙ ap (λ (b : List ℕ). field Long r.place ++ b) (append_assoc name offset rest))
    ∙ rw (number_again Long r.place (name ++ (offset ++ rest)) h.place, missing_again r.addr.name (offset ++ rest), number_again Long r.addr.offset rest h.offset, missing_is r.addr.name h.named) refl

long_fits : (name : Option (List ℕ)) (offset : ℕ) → is_addr_of name offset ≡ true → (offset < 2 ^ 32) × IsNamed name
long_fits None offset h = (ltb-true offset (2 ^ 32) h, tt)
long_fits (Some name) offset h =
    let p = and_parts (is_name name) (is_long offset && not (eqb offset (2 ^ 31))) h in
    (ltb-true offset (2 ^ 32) (and_parts (is_long offset) (not (eqb offset (2 ^ 31))) p.1).0, named_of name p.0)

pub area_again : (a : AreaItem) (rest : List ℕ) → is_area_item a ≡ true → area_front (area_bytes a ++ rest) ≡ Some (a, rest)
unfolding area_front
area_again (areas.Label name) rest h = rw (byte_number 0 (length name ∷ (name ++ rest)), name_again name rest) refl
area_again (areas.Globl name) rest h = rw (byte_number 1 (length name ∷ (name ++ rest)), name_again name rest) refl
area_again (areas.Align k) rest h = rw (byte_number 2 (k ∷ rest), byte_number k rest) refl
area_again (areas.Byte n) rest h = rw (byte_number 3 (n ∷ rest), byte_number n rest) refl
area_again (areas.Word n) rest h =
    let lt = ltb-true n (2 ^ 16) h in
    rw (byte_number 4 (field Word n ++ rest), number_again Word n rest (omega (arith, lt)), mod-eq_of_lt lt) refl
area_again (areas.Long a) rest h =
    let p = long_fits a.name a.offset h in
    ap (λ (b : List ℕ). option_and_then area_of (number_front Byte (5 ∷ b))) (append_assoc (field Long a.offset) (name_bytes a.name) rest)
    ∙ rw (byte_number 5 (field Long a.offset ++ (name_bytes a.name ++ rest)), number_again Long a.offset (name_bytes a.name ++ rest) p.0, missing_again a.name rest, missing_is a.name p.1) refl
area_again (areas.Space n) rest h =
    let le = leb-true n 1048576 (and_parts (leb 1 n) (leb n 1048576) h).1 in
    rw (byte_number 6 (field Long n ++ rest), number_again Long n rest (omega (arith, le))) refl

-- lists

pub list_again : {A : Type 0} (one : List ℕ → Option (A × List ℕ)) (spell : A → List ℕ) (P : A → Type 0) → ((x : A) (rest : List ℕ) → P x → one (spell x ++ rest) ≡ Some (x, rest))
    → (xs : List A) (rest : List ℕ) → AllFit P xs → list_front one (length xs) (flat_map spell xs ++ rest) ≡ Some (xs, rest)
list_again one spell P again [] rest h = refl
list_again one spell P again (x ∷ xs) rest h =
    ap (λ (b : List ℕ). list_front one (suc (length xs)) b) (append_assoc (spell x) (flat_map spell xs) rest)
    ∙ rw (again x (flat_map spell xs ++ rest) h.0, list_again one spell P again xs rest h.1) refl

pub counted_again : {A : Type 0} (one : List ℕ → Option (A × List ℕ)) (spell : A → List ℕ) (P : A → Type 0) → ((x : A) (rest : List ℕ) → P x → one (spell x ++ rest) ≡ Some (x, rest))
    → (xs : List A) (rest : List ℕ) → AllFit P xs → length xs < 2 ^ 32
    → counted_front one ((field Long (length xs) ++ flat_map spell xs) ++ rest) ≡ Some (xs, rest)
counted_again one spell P again xs rest h lt =
    ap (λ (b : List ℕ). counted_front one b) (append_assoc (field Long (length xs)) (flat_map spell xs) rest)
    ∙ rw (number_again Long (length xs) (flat_map spell xs ++ rest) lt) (list_again one spell P again xs rest h)

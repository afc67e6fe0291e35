-- What is read and written again is the one code whose image the bytes are.
use Rattle.std.proofs.Common.{◌≡◌, ℕ, true, false, List, Some, None, Err, sym, subst, ◌∙◌}
use Rattle.std.specs.Str.{bytes_eq}
use Rattle.std.proofs.lemmas.Option.{none-some, same_Some}
use Rattle.std.proofs.lemmas.Slice.Eq.{bytes_eq-Decides}
use Rattle.gg_base.proofs.Facts.{true_or_false}
use Rattle.vax_core.specs.declared.code.Code.{Code}
use Rattle.vax_core.specs.Valid.{is_code}
use Rattle.vax_machine.specs.Loading.{Loads}
use Rattle.vax_image_format.specs.Image.{IsImage}
use Rattle.vax_image_format.proofs.RowLaws.{image_is_one}
use Rattle.vax_image_reading.specs.Decoding.{read_loosely}
use Rattle.vax_image_reading.proofs.ImageLaws.{image_again}
use Rattle.vax_image_reading.specs.declared.fault.DecodeFault.{DecodeFault}
use Rattle.vax_image_reading.specs.declared.fault.DecodeFault.TheVariants as decode_fault
use Rattle.vax_image_reading.specs.Views.{GivesCode}
use Rattle.vax_image.specs.Answers.{IsTooLarge, Decoded}

abbrev pub NoImage : List ℕ → Type 0
NoImage bytes = (c : Code) → IsImage c bytes → ⊥

pub unread : (bytes : List ℕ) → read_loosely bytes ≡ None → NoImage bytes
unread bytes none c h = none-some c (sym none ∙ image_again c bytes h)

-- why nothing was read
pub unread_by : (bytes : List ℕ) (f : DecodeFault) → GivesCode (Err f) (read_loosely bytes) → Decoded bytes (Err f)
unread_by bytes decode_fault.NoMemory h = tt
unread_by bytes decode_fault.NotImage h = unread bytes h

-- a code whose image these are is the one that was read
one_code : (bytes : List ℕ) (read c : Code) → read_loosely bytes ≡ Some read → IsImage c bytes → c ≡ read
one_code bytes read c some h = same_Some c read (sym (image_again c bytes h) ∙ some)

pub not_valid : (bytes : List ℕ) (read : Code) → read_loosely bytes ≡ Some read → is_code read ≡ false → NoImage bytes
not_valid bytes read some invalid c h = true_or_false (is_code read) (subst (λ (x : Code). is_code x ≡ true) (one_code bytes read c some h) h.valid) invalid

pub not_linked : (bytes : List ℕ) (read : Code) → read_loosely bytes ≡ Some read → (Loads read → ⊥) → NoImage bytes
not_linked bytes read some fails c h = fails (subst Loads (one_code bytes read c some h) h.loads)

pub not_small : (bytes : List ℕ) (read : Code) → read_loosely bytes ≡ Some read → IsTooLarge read → NoImage bytes
not_small bytes read some large c h =
    let mine : IsImage read bytes = subst (λ (x : Code). IsImage x bytes) (one_code bytes read c some h) h in
    large mine.forms mine.least mine.short

pub not_again : (bytes written : List ℕ) (read : Code) → read_loosely bytes ≡ Some read → IsImage read written → bytes_eq written bytes ≡ false → NoImage bytes
not_again bytes written read some image differ c h =
    let same = image_is_one read written bytes image (subst (λ (x : Code). IsImage x bytes) (one_code bytes read c some h) h) in
    true_or_false (bytes_eq written bytes) ((bytes_eq-Decides written bytes).1 same) differ

pub again : (bytes written : List ℕ) (read : Code) → IsImage read written → bytes_eq written bytes ≡ true → IsImage read bytes
again bytes written read image same = subst (IsImage read) ((bytes_eq-Decides written bytes).0 same) image

pub ruleset decoding_facts = (unread_by, not_valid, not_linked, not_small, not_again, again)

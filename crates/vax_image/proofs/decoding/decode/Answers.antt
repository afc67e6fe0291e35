use Rattle.std.proofs.Common.{◌≡◌, ℕ, false, List, Err, subst, sym, ap, ◌∙◌}
use Rattle.std.specs.Str.{bytes_eq}
use Rattle.vax_core.specs.Valid.{is_code}
use Rattle.vax_image.specs.declared.fault.ImageFault.{ImageFault}
use Rattle.vax_image.specs.declared.fault.ImageFault.TheVariants as image_fault
use Rattle.vax_image.specs.Answers.{Encoded}
use Rattle.vax_image.proofs.DecodingLaws.{not_valid, not_again, not_linked, not_small}
use Rattle.vax_image.proofs.decoding.decode.Goals as goal

pub returns-then-not-valid : goal.returns-then-not-valid
returns-then-not-valid c =
    let invalid : is_code c.in-Ok.code ≡ false = cc in
    not_valid c.args.bytes.now c.in-Ok.code c.in-Ok.ensures invalid

pub returns-in-Ok-encode : goal.returns-in-Ok-encode
returns-in-Ok-encode c =
    let bytes = c.args.bytes.now in
    let written = c.in-Ok-encode.again.items in
    let differ : bytes_eq written bytes ≡ false = ap (λ (x : List ℕ). bytes_eq x bytes) (sym c.as_slice.ensures.value) ∙ sym c.eq.ensures ∙ c.if-eq.false in
    not_again bytes written c.in-Ok.code c.in-Ok.ensures c.in-Ok-encode.ensures differ

pub returns-in-Err-Unlinked : goal.returns-in-Err-Unlinked
returns-in-Err-Unlinked c =
    let code = c.in-Ok.code in
    let h : Encoded code (Err image_fault.Unlinked) = subst (λ (f : ImageFault). Encoded code (Err f)) c.in-Err-Unlinked.field-0-is c.in-Err-Unlinked.ensures in
    not_linked c.args.bytes.now code c.in-Ok.ensures h

pub returns : goal.returns
returns c =
    let code = c.in-Ok.code in
    let h : Encoded code (Err image_fault.TooLarge) = subst (λ (f : ImageFault). Encoded code (Err f)) c.in-Err-TooLarge.field-0-is c.in-Err-TooLarge.ensures in
    not_small c.args.bytes.now code c.in-Ok.ensures h.1

use Rattle.std.proofs.Common.{◌≡◌, ◌-◌, ◌/◌, slice_index_or, Some, refl, sym, ap, ◌∙◌}
use Rattle.std.specs.Prelude.{slice_get}
use Rattle.std.proofs.lemmas.Option.{slice_get_past, slice_get-get_or}
use Rattle.vax_machine_live.specs.declared.frame.Frame.{Frame}
use Rattle.vax_machine_live.proofs.OwnerLaws.{owned_by_nobody, owned_by_none, owned_by}
use Rattle.vax_machine_live.proofs.frames.is_control.Goals as goal

pub returns-then-owners-place : goal.returns-then-owners-place
returns-then-owners-place c = owned_by_nobody c.args.frames.now c.args.owners.now c.args.address c.requires.owned c.requires.high c.if-owners-place.true

pub returns-in-None : goal.returns-in-None
returns-in-None c =
    let frames = c.args.frames.now in
    let owners = c.args.owners.now in
    let address = c.args.address in
    let owner = slice_index_or owners ((2147483647 - address) / 4) 0 in
    owned_by_none frames owners address owner c.requires.owned c.requires.high refl (slice_get_past frames owner c.in-None.ensures.lookup.3)

pub returns-in-Some : goal.returns-in-Some
returns-in-Some c =
    let frames = c.args.frames.now in
    let owners = c.args.owners.now in
    let address = c.args.address in
    let owner = slice_index_or owners ((2147483647 - address) / 4) 0 in
    let f = c.in-Some.f.now in
    let there : slice_get frames owner ≡ Some f =
    slice_get-get_or frames owner f c.in-Some.ensures.lookup.3.0 ∙ ap (λ (x : Frame). Some x) (sym c.in-Some.ensures.lookup.1) in
    c.holds.ensures ∙ owned_by frames owners address owner f c.requires.owned c.requires.high refl there

use Rattle.std.proofs.Common.{◌<◌, ◌≤◌, length, arith}
use Rattle.std.specs.Prelude.{slice_index}
use Rattle.vax_image_branches.specs.Least.{IsLeast}
use Rattle.vax_image_branches.specs.Rounds.{ArePlaces}
use Rattle.vax_image_writing.specs.Laid.{IsLaid}
use Rattle.vax_image_writing.specs.Texts.{IsText}
use Rattle.vax_image.proofs.EncodingLaws.{serves, read_end, are_laid, too_long_text, items_valid, bytes_short, refs_few, refs_short, encoded}
use Rattle.vax_image.proofs.encoding.write.Goals as goal

pub least_forms-requires : goal.least_forms-requires
least_forms-requires c =
    let ps = c.in_ok-pieces.pieces.items in
    let items = c.args.labels.now.items.now in
    let area = c.args.area.now in
    rw c.deref.ensures.value (serves area items ps c.requires.valid c.requires.few c.in_ok-pieces.ensures)

pub places_of-requires-clause-pieces : goal.places_of-requires-clause-pieces
places_of-requires-clause-pieces c =
    let ps = c.in_ok-pieces.pieces.items in
    let items = c.args.labels.now.items.now in
    let area = c.args.area.now in
    rw c.deref-2.ensures.value (serves area items ps c.requires.valid c.requires.few c.in_ok-pieces.ensures)

pub returns-then-index-gt-SECTION_LIMIT : goal.returns-then-index-gt-SECTION_LIMIT
returns-then-index-gt-SECTION_LIMIT c =
    let ps = c.in_ok-pieces.pieces.items in
    let items = c.args.labels.now.items.now in
    let area = c.args.area.now in
    let forms = c.in_ok-forms.forms.items in
    let places = c.in_ok-places.places.items in
    let least : IsLeast ps forms = rw c.deref.ensures.value at c.in_ok-forms.ensures in
    let at : ArePlaces ps forms (length ps) places = rw (c.deref-2.ensures.value, c.deref-3.ensures.value) at c.in_ok-places.ensures.places in
    let end : 1073741823 < slice_index places (length ps) =
    omega (arith, c.if-index-gt-SECTION_LIMIT.true, read_end ps forms places c.len.result c.index.result.now at (omega arith) c.index.ensures) in
    (c.requires.loads, too_long_text area items ps forms places c.requires.valid c.in_ok-pieces.ensures least at end)

pub invariant_of-plan : goal.invariant_of-plan
invariant_of-plan c =
    let ps = c.in_ok-pieces.pieces.items in
    let items = c.args.labels.now.items.now in
    let area = c.args.area.now in
    let forms = c.in_ok-forms.forms.items in
    let places = c.in_ok-places.places.items in
    let least : IsLeast ps forms = rw c.deref.ensures.value at c.in_ok-forms.ensures in
    let at : ArePlaces ps forms (length ps) places = rw (c.deref-2.ensures.value, c.deref-3.ensures.value) at c.in_ok-places.ensures.places in
    let end : slice_index places (length ps) ≤ 1073741823 =
    omega (arith, c.if-index-gt-SECTION_LIMIT.false, read_end ps forms places c.len.result c.index.result.now at (omega arith) c.index.ensures) in
    let laid : IsLaid items forms places = are_laid items ps forms places c.in_ok-pieces.ensures least at end in
    record { laid = rw (c.deref-4.ensures.value, c.deref-5.ensures.value) laid }

pub image_of-requires-clause-short : goal.image_of-requires-clause-short
image_of-requires-clause-short c =
    let ps = c.in_ok-pieces.pieces.items in
    let items = c.args.labels.now.items.now in
    let area = c.args.area.now in
    let forms = c.in_ok-forms.forms.items in
    let places = c.in_ok-places.places.items in
    let least : IsLeast ps forms = rw c.deref.ensures.value at c.in_ok-forms.ensures in
    let at : ArePlaces ps forms (length ps) places = rw (c.deref-2.ensures.value, c.deref-3.ensures.value) at c.in_ok-places.ensures.places in
    let end : slice_index places (length ps) ≤ 1073741823 =
    omega (arith, c.if-index-gt-SECTION_LIMIT.false, read_end ps forms places c.len.result c.index.result.now at (omega arith) c.index.ensures) in
    let laid : IsLaid items forms places = are_laid items ps forms places c.in_ok-pieces.ensures least at end in
    let text : IsText items forms c.in_ok-text.text = rw c.deref-4.ensures.value at c.in_ok-text.ensures in
    let valid = items_valid area items c.requires.valid in
    bytes_short items forms places c.in_ok-text.text valid laid text

pub image_of-requires-clause-few : goal.image_of-requires-clause-few
image_of-requires-clause-few c =
    let ps = c.in_ok-pieces.pieces.items in
    let items = c.args.labels.now.items.now in
    let area = c.args.area.now in
    let forms = c.in_ok-forms.forms.items in
    let places = c.in_ok-places.places.items in
    let least : IsLeast ps forms = rw c.deref.ensures.value at c.in_ok-forms.ensures in
    let at : ArePlaces ps forms (length ps) places = rw (c.deref-2.ensures.value, c.deref-3.ensures.value) at c.in_ok-places.ensures.places in
    let end : slice_index places (length ps) ≤ 1073741823 =
    omega (arith, c.if-index-gt-SECTION_LIMIT.false, read_end ps forms places c.len.result c.index.result.now at (omega arith) c.index.ensures) in
    let laid : IsLaid items forms places = are_laid items ps forms places c.in_ok-pieces.ensures least at end in
    let text : IsText items forms c.in_ok-text.text = rw c.deref-4.ensures.value at c.in_ok-text.ensures in
    let valid = items_valid area items c.requires.valid in
    refs_few items forms places c.in_ok-text.text valid laid text

pub image_of-requires-clause-named : goal.image_of-requires-clause-named
image_of-requires-clause-named c =
    let ps = c.in_ok-pieces.pieces.items in
    let items = c.args.labels.now.items.now in
    let area = c.args.area.now in
    let forms = c.in_ok-forms.forms.items in
    let places = c.in_ok-places.places.items in
    let least : IsLeast ps forms = rw c.deref.ensures.value at c.in_ok-forms.ensures in
    let at : ArePlaces ps forms (length ps) places = rw (c.deref-2.ensures.value, c.deref-3.ensures.value) at c.in_ok-places.ensures.places in
    let end : slice_index places (length ps) ≤ 1073741823 =
    omega (arith, c.if-index-gt-SECTION_LIMIT.false, read_end ps forms places c.len.result c.index.result.now at (omega arith) c.index.ensures) in
    let laid : IsLaid items forms places = are_laid items ps forms places c.in_ok-pieces.ensures least at end in
    let text : IsText items forms c.in_ok-text.text = rw c.deref-4.ensures.value at c.in_ok-text.ensures in
    let valid = items_valid area items c.requires.valid in
    refs_short items forms places c.in_ok-text.text valid laid text

pub returns : goal.returns
returns c =
    let ps = c.in_ok-pieces.pieces.items in
    let items = c.args.labels.now.items.now in
    let area = c.args.area.now in
    let forms = c.in_ok-forms.forms.items in
    let places = c.in_ok-places.places.items in
    let least : IsLeast ps forms = rw c.deref.ensures.value at c.in_ok-forms.ensures in
    let at : ArePlaces ps forms (length ps) places = rw (c.deref-2.ensures.value, c.deref-3.ensures.value) at c.in_ok-places.ensures.places in
    let end : slice_index places (length ps) ≤ 1073741823 =
    omega (arith, c.if-index-gt-SECTION_LIMIT.false, read_end ps forms places c.len.result c.index.result.now at (omega arith) c.index.ensures) in
    let laid : IsLaid items forms places = are_laid items ps forms places c.in_ok-pieces.ensures least at end in
    let text : IsText items forms c.in_ok-text.text = rw c.deref-4.ensures.value at c.in_ok-text.ensures in
    let valid = items_valid area items c.requires.valid in
    encoded area items ps forms places c.in_ok-text.text c.args.marks c.in_ok-image_of.field-0.items c.requires.valid c.requires.loads c.requires.marks
    (omega arith) c.requires.small c.in_ok-pieces.ensures least laid text c.in_ok-image_of.ensures

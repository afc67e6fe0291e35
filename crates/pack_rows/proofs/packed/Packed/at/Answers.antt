use Rattle.std.proofs.Common.{◌<◌, length, refl, arith, rules}
use Rattle.pack_rows.proofs.Looking.{starts_in, span_in}
use Rattle.pack_rows.proofs.packed.Packed.at.Goals as goal

pub bounds-as_slice-row : goal.bounds-as_slice-row
bounds-as_slice-row c =
    let l = starts_in _ _ _ _ c.requires.1 _ c.as_slice.ensures in
    omega (arith, l)

pub offset_bounds-as_slice-row : goal.offset_bounds-as_slice-row
offset_bounds-as_slice-row c =
    let l = starts_in _ _ _ _ c.requires.1 _ c.as_slice.ensures in
    let m : c.args.row < length c.as_slice.result.now = omega (arith, l) in
    search rules

pub overflow_add-to : goal.overflow_add-to
overflow_add-to c =
    let l = starts_in _ _ _ _ c.requires.1 _ c.as_slice-2.ensures in
    search rules

pub bounds-as_slice-row-2 : goal.bounds-as_slice-row-2
bounds-as_slice-row-2 c = starts_in _ _ _ _ c.requires.1 _ c.as_slice-2.ensures

pub offset_bounds-as_slice-row-2 : goal.offset_bounds-as_slice-row-2
offset_bounds-as_slice-row-2 c =
    let l = starts_in _ _ _ _ c.requires.1 _ c.as_slice-2.ensures in
    search rules

pub place_of-requires-clause-ordered : goal.place_of-requires-clause-ordered
place_of-requires-clause-ordered c = (span_in _ _ _ _ c.requires.1 _ _ _ c.args.self.now.entries c.args.self.now.defaults c.as_slice.ensures c.as_slice-2.ensures c.as_slice-3.ensures refl refl).ordered

pub place_of-requires-clause-within : goal.place_of-requires-clause-within
place_of-requires-clause-within c = (span_in _ _ _ _ c.requires.1 _ _ _ c.args.self.now.entries c.args.self.now.defaults c.as_slice.ensures c.as_slice-2.ensures c.as_slice-3.ensures refl refl).within

pub place_of-requires-clause-rising : goal.place_of-requires-clause-rising
place_of-requires-clause-rising c = (span_in _ _ _ _ c.requires.1 _ _ _ c.args.self.now.entries c.args.self.now.defaults c.as_slice.ensures c.as_slice-2.ensures c.as_slice-3.ensures refl refl).rising

pub bounds-as_slice-place : goal.bounds-as_slice-place
bounds-as_slice-place c =
    let t = (span_in _ _ _ _ c.requires.1 _ _ _ _ c.args.self.now.defaults c.as_slice.ensures c.as_slice-2.ensures c.as_slice-3.ensures c.as_slice-in-Some.ensures refl).entry_in in
    let i = c.in-Some.ensures in
    let lt = i.1 in
    omega (arith, t, lt)

pub offset_bounds-as_slice-place : goal.offset_bounds-as_slice-place
offset_bounds-as_slice-place c =
    let t = (span_in _ _ _ _ c.requires.1 _ _ _ _ c.args.self.now.defaults c.as_slice.ensures c.as_slice-2.ensures c.as_slice-3.ensures c.as_slice-in-Some.ensures refl).entry_in in
    let i = c.in-Some.ensures in
    let lt = i.1 in
    let l : c.in-Some.place < length c.as_slice-in-Some.result.now = omega (arith, t, lt) in
    search rules

pub bounds-as_slice-row-in-None : goal.bounds-as_slice-row-in-None
bounds-as_slice-row-in-None c = (span_in _ _ _ _ c.requires.1 _ _ _ c.args.self.now.entries _ c.as_slice.ensures c.as_slice-2.ensures c.as_slice-3.ensures refl c.as_slice-in-None.ensures).default_in

pub offset_bounds-as_slice-row-in-None : goal.offset_bounds-as_slice-row-in-None
offset_bounds-as_slice-row-in-None c =
    let l = (span_in _ _ _ _ c.requires.1 _ _ _ c.args.self.now.entries _ c.as_slice.ensures c.as_slice-2.ensures c.as_slice-3.ensures refl c.as_slice-in-None.ensures).default_in in
    search rules

pub returns-in-Some : goal.returns-in-Some
returns-in-Some c = λ rows w.
    let i = c.in-Some.ensures in
    (span_in _ _ _ _ w _ _ _ _ c.args.self.now.defaults c.as_slice.ensures c.as_slice-2.ensures c.as_slice-3.ensures c.as_slice-in-Some.ensures refl).found
    c.args.column c.in-Some.place i.0 i.1 i.2

pub returns-in-None : goal.returns-in-None
returns-in-None c = λ rows w.
    (span_in _ _ _ _ w _ _ _ c.args.self.now.entries _ c.as_slice.ensures c.as_slice-2.ensures c.as_slice-3.ensures refl c.as_slice-in-None.ensures).missed
    c.args.column w.column_in c.in-None.ensures

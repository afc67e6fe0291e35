use Rattle.std.proofs.Common.{◌≡◌, ◌<◌, ◌∙◌, ℕ, List, [], length, get_or, slice_get, ap, ap₂, arith}
use Rattle.lr_tables.specs.declared.types.Choice.{Choice}
use Rattle.lr_tables.specs.Statements.{stmt_of}
use Rattle.lr_tables.specs.Leads.{actions_in, actions_at}
use Rattle.lr_tables.specs.View.{TableView}
use Rattle.lr_tables.proofs.Symbols_apart.{number-below}
use Rattle.lr_tables.proofs.KeepTurns.{kept_rows, has_action, choices_found, no_choices}
use Rattle.lr_tables.proofs.tables.Tables.choices.Goals as goal

pub at-place-requires : goal.at-place-requires
at-place-requires c =
    let d = c.self.inside.description in
    let e = ap (λ (x : List (List (List Choice))). length x) c.deref.ensures.value in
    let lt = c.in-Some.ensures.lookup.3.0 in
    let n = c.number.ensures in
    let b = number-below c.args.token in
    has_action d.rules (stmt_of d.classes) (length d.classes) c.self.inside.kept c.self.invariant c.number-row.result c.number.result (omega (arith, e, lt)) (omega (arith, n, b))

pub returns-in-Some-get : goal.returns-in-Some-get
returns-in-Some-get c =
    let d = c.self.inside.description in
    let k = c.self.inside.kept in
    let row = c.number-row.result in
    let e = ap (λ (x : List (List (List Choice))). length x) c.deref.ensures.value in
    let l = c.in-Some.ensures.lookup in
    let lt : row < length k.lists.items = (let a = l.3.0 in omega (arith, e, a)) in
    let few : c.number.result < 40 = (let n = c.number.ensures in let b = number-below c.args.token in omega (arith, n, b)) in
    let own : c.as_slice.result.now ≡ get_or k.lists.items row [] = c.as_slice.ensures ∙ (l.3.1 [] ∙ ap (λ (x : List (List (List Choice))). get_or x row []) c.deref.ensures.value) in
    c.as_slice-in-Some-get.ensures ∙ (c.in-Some-get.ensures.lookup.3.1 [] ∙ (ap (λ (x : List (List Choice)). get_or x c.at-place.result []) own
    ∙ (choices_found d.rules (stmt_of d.classes) (length d.classes) k c.self.invariant row c.number.result c.at-place.result lt few c.at-place.ensures
    ∙ (ap₂ (λ (q s : ℕ). actions_in (slice_get (kept_rows d.rules (stmt_of d.classes) (length d.classes) k c.self.invariant) q) s) c.number-row.ensures c.number.ensures
    ∙ ap (λ (t : TableView). actions_at t c.args.state c.args.token) c.self.view_is))))

pub returns-in-None-get : goal.returns-in-None-get
returns-in-None-get c =
    let d = c.self.inside.description in
    let k = c.self.inside.kept in
    let row = c.number-row.result in
    let e = ap (λ (x : List (List (List Choice))). length x) c.deref.ensures.value in
    let l = c.in-Some.ensures.lookup in
    let lt : row < length k.lists.items = (let a = l.3.0 in omega (arith, e, a)) in
    let few : c.number.result < 40 = (let n = c.number.ensures in let b = number-below c.args.token in omega (arith, n, b)) in
    let own : c.as_slice.result.now ≡ get_or k.lists.items row [] = c.as_slice.ensures ∙ (l.3.1 [] ∙ ap (λ (x : List (List (List Choice))). get_or x row []) c.deref.ensures.value) in
    c.in-None-get.ensures.lookup.4 (omega arith) [] ∙ (ap (λ (x : List (List Choice)). get_or x c.at-place.result []) own
    ∙ (choices_found d.rules (stmt_of d.classes) (length d.classes) k c.self.invariant row c.number.result c.at-place.result lt few c.at-place.ensures
    ∙ (ap₂ (λ (q s : ℕ). actions_in (slice_get (kept_rows d.rules (stmt_of d.classes) (length d.classes) k c.self.invariant) q) s) c.number-row.ensures c.number.ensures
    ∙ ap (λ (t : TableView). actions_at t c.args.state c.args.token) c.self.view_is)))

pub returns-in-None : goal.returns-in-None
returns-in-None c =
    let d = c.self.inside.description in
    let k = c.self.inside.kept in
    let e = ap (λ (x : List (List (List Choice))). length x) c.deref.ensures.value in
    let le = c.in-None.ensures.lookup.3 in
    let n = c.number-row.ensures in
    no_choices d.rules (stmt_of d.classes) (length d.classes) k c.self.invariant c.args.state _ (omega (arith, e, le, n))
    ∙ ap (λ (t : TableView). actions_at t c.args.state c.args.token) c.self.view_is

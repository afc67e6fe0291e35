use Rattle.std.proofs.Common.{sym, ◌∙◌, ap, length}
use Rattle.c_typed_expressions.proofs.Rows.{signature_found, signature_missing, called_missing, called_unlike, called_unfit, called_runs}
use Rattle.c_typed_expressions.proofs.phrase.called.Goals as goal

pub returns-then-parameters-arguments : goal.returns-then-parameters-arguments
returns-then-parameters-arguments c =
    let all = c.args.functions.now.signatures.items in
    let lookup = c.in-Some-get.ensures.lookup in
    let found = signature_found all c.deref.result.now c.in-Some.number c.in-Some-get.signature.now c.deref.ensures.value lookup.3.0 lookup.1 in
    called_unlike all c.args.number c.in-Some.number c.args.bracket c.in-Some-get.signature.now c.as_slice-parameters.result.now c.args.arguments.now c.args.xs.items _ c.in-Some.is found
    c.as_slice-parameters.ensures c.if-parameters-arguments.true c.bad_call-then-parameters-arguments.ensures

pub returns-in-None : goal.returns-in-None
returns-in-None c =
    let all = c.args.functions.now.signatures.items in
    called_missing all c.args.number c.in-Some.number c.args.bracket c.args.arguments.now c.args.xs.items _ c.in-Some.is
    (signature_missing all c.deref.result.now c.in-Some.number c.deref.ensures.value c.in-None.ensures.lookup.0) c.bad_call-in-None.ensures

pub returns-in-Some-unfit : goal.returns-in-Some-unfit
returns-in-Some-unfit c =
    let all = c.args.functions.now.signatures.items in
    let lookup = c.in-Some-get.ensures.lookup in
    let found = signature_found all c.deref.result.now c.in-Some.number c.in-Some-get.signature.now c.deref.ensures.value lookup.3.0 lookup.1 in
    called_unfit all c.args.number c.in-Some.number c.args.bracket c.in-Some-get.signature.now c.as_slice-parameters.result.now c.args.arguments.now c.args.xs.items
    c.deref-in-Some-get.result.now c.unfit.result c.in-Some-unfit.at _ c.in-Some.is found c.as_slice-parameters.ensures c.if-parameters-arguments.false
    c.deref-in-Some-get.ensures.value c.unfit.ensures c.in-Some-unfit.is c.bad_type.ensures

pub returns-in_ok-from_slice-in-None-unfit : goal.returns-in_ok-from_slice-in-None-unfit
returns-in_ok-from_slice-in-None-unfit c =
    let all = c.args.functions.now.signatures.items in
    let lookup = c.in-Some-get.ensures.lookup in
    let found = signature_found all c.deref.result.now c.in-Some.number c.in-Some-get.signature.now c.deref.ensures.value lookup.3.0 lookup.1 in
    let same = c.as_slice-parameters.ensures in
    let fit = sym c.in-None-unfit.is ∙ c.unfit.ensures in
    called_runs all c.args.number c.in-Some.number c.in-Some-get.signature.now c.args.bracket c.args.arguments.now c.args.xs c.callee_of.result c.from_vec-to.result c.in-Some.is found
    (ap length (sym same) ∙ c.if-parameters-arguments.false) (rw (← same, ← c.deref-in-Some-get.ensures.value) fit) c.callee_of.ensures
    (c.from_vec-to.ensures ∙ c.in_ok-from_slice-in-None-unfit.ensures.items ∙ same)

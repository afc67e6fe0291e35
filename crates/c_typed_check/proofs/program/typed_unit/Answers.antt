use Rattle.std.proofs.Common.{refl}
use Rattle.std.proofs.lemmas.Result.{err_from_is_err_and}
use Rattle.c_phrases.specs.UnitShapes.{unit_of}
use Rattle.c_typed_scope.specs.Views.{area}
use Rattle.c_typed_statements.specs.Views.{text}
use Rattle.c_typed_law.proofs.Law.{text_means}
use Rattle.c_typed_check.specs.Functions.{functions_of}
use Rattle.c_typed_check.proofs.Texts.{whole_runs, whole_fails, stack_fails, whole_lacks}
use Rattle.c_typed_check.proofs.program.typed_unit.Goals as goal

pub returns-in_err-externals : goal.returns-in_err-externals
returns-in_err-externals c = record {
  computed =
      let p = err_from_is_err_and c.from_residual-in_err-externals.result c.from_residual-in_err-externals.ensures.1 in
      rw (p.1, p.2) (whole_fails c.args.ast.now.externals.items c.deref.result.now c.deref-2.result.now c.args.ast.now.body_ends c.args.ast.now.end
      (functions_of c.in_ok-functions.functions) (text c.in_ok-builder.builder) c.deref.ensures.value c.deref-2.ensures.value c.in_ok-functions.ensures c.in_ok-builder.ensures
      c.in_err-externals.field-0.0 c.in_err-externals.ensures);
}

pub returns-in_err-lay_if : goal.returns-in_err-lay_if
returns-in_err-lay_if c = record {
  computed =
      let p = err_from_is_err_and c.from_residual-in_err-lay_if.result c.from_residual-in_err-lay_if.ensures.1 in
      rw (p.1, p.2) (stack_fails c.args.ast.now.externals.items c.deref.result.now c.deref-2.result.now c.args.ast.now.body_ends c.args.ast.now.end
      (functions_of c.in_ok-functions.functions) (text c.in_ok-builder.builder) c.deref.ensures.value c.deref-2.ensures.value c.in_ok-functions.ensures c.in_ok-builder.ensures
      c.in_err-lay_if.field-0.0 (text c.externals.new.builder) c.any_block.result c.externals.new.builder.routines.items c.deref-3.result.now (c.in_ok-externals.ensures, refl)
      c.any_block.ensures c.deref-3.ensures.value c.in_err-lay_if.ensures);
}

pub returns-in-None : goal.returns-in-None
returns-in-None c = record {
  computed = whole_lacks c.args.ast.now.externals.items c.deref.result.now c.deref-2.result.now c.args.ast.now.body_ends c.args.ast.now.end
      (functions_of c.in_ok-functions.functions) (text c.in_ok-builder.builder) c.deref.ensures.value c.deref-2.ensures.value c.in_ok-functions.ensures c.in_ok-builder.ensures
      (text c.externals.new.builder) c.any_block.result (area c.lay_if.new.layout) c.externals.new.builder.routines.items c.deref-3.result.now c.deref-4.result.now
      (c.in_ok-externals.ensures, refl) c.any_block.ensures c.deref-3.ensures.value c.in_ok-lay_if.ensures c.in-None.ensures c.deref-4.ensures.value;
}

pub invariant_of-result : goal.invariant_of-result
invariant_of-result c = record {
  is_typed = ∣ record {
    unit = unit_of c.args.ast.now;
    ends = c.args.ast.now.body_ends;
    tokens = c.requires;
    typed = (text_means (unit_of c.args.ast.now).externals c.args.ast.now.body_ends (unit_of c.args.ast.now).end).found _
        (whole_runs c.args.ast.now.externals.items c.deref.result.now c.deref-2.result.now c.args.ast.now.body_ends c.args.ast.now.end
        (functions_of c.in_ok-functions.functions) (text c.in_ok-builder.builder) c.deref.ensures.value c.deref-2.ensures.value c.in_ok-functions.ensures c.in_ok-builder.ensures
        (text c.externals.new.builder) c.any_block.result (area c.lay_if.new.layout) c.in-Some.main c.from_vec.result c.externals.new.builder.routines.items c.deref-3.result.now
        c.deref-4.result.now (c.in_ok-externals.ensures, refl) c.any_block.ensures c.deref-3.ensures.value c.in_ok-lay_if.ensures c.in-Some.ensures c.deref-4.ensures.value c.from_vec.ensures);
  } ∣₁;
}

pub returns : goal.returns
returns c = record {
  computed = whole_runs c.args.ast.now.externals.items c.deref.result.now c.deref-2.result.now c.args.ast.now.body_ends c.args.ast.now.end
      (functions_of c.in_ok-functions.functions) (text c.in_ok-builder.builder) c.deref.ensures.value c.deref-2.ensures.value c.in_ok-functions.ensures c.in_ok-builder.ensures
      (text c.externals.new.builder) c.any_block.result (area c.lay_if.new.layout) c.in-Some.main c.from_vec.result c.externals.new.builder.routines.items c.deref-3.result.now
      c.deref-4.result.now (c.in_ok-externals.ensures, refl) c.any_block.ensures c.deref-3.ensures.value c.in_ok-lay_if.ensures c.in-Some.ensures c.deref-4.ensures.value c.from_vec.ensures;
}

use Rattle.std.proofs.Common.{rules, arith}
use Rattle.std.proofs.lemmas.Result.{IfOk-weaker}
use Rattle.c_lower_parts.specs.Views.{low, found, passing, done, destination}
use Rattle.c_lower_parts.proofs.Falls.{call_falls}
use Rattle.c_lower_code.proofs.Calls.{call_value, call_effect, call_deliver, step_effect}
use Rattle.c_lower_code.proofs.lowerer.Lowerer.+expression.Goals as goal

pub value-pass-requires : goal.value-pass-requires
value-pass-requires t c = (
  let h = call_falls c.args.e.now c.in-Call.field-0 c.in-Call.f c.in-Call.to c.in-Call.es c.deref.result.now c.in-Call.is (search rules) in let d = c.decreases in
      omega (arith, h, d),
  tt,
)

pub discard-pass-requires : goal.discard-pass-requires
discard-pass-requires t c = (
  let h = call_falls c.args.e.now c.in-Call.field-0 c.in-Call.f c.in-Call.to c.in-Call.es c.deref.result.now c.in-Call.is (search rules) in let d = c.decreases in
      omega (arith, h, d),
  tt,
)

pub deliver-pass-requires : goal.deliver-pass-requires
deliver-pass-requires t c = (
  let h = call_falls c.args.e.now c.in-Call.field-0 c.in-Call.f c.in-Call.types c.in-Call.es c.deref.result.now c.in-Call.is (search rules) in let d = c.decreases in
      omega (arith, h, d),
  tt,
)

pub value-returns-in_ok-pass-in-Call : goal.value-returns-in_ok-pass-in-Call
value-returns-in_ok-pass-in-Call t c =
    IfOk-weaker _ _ _ (λ r made. call_value c.args.self.frame.locals c.args.self.frame.functions c.args.e.now c.in-Call.field-0 c.in-Call.f c.in-Call.to c.in-Call.es c.deref.result.now
    c.as_slice.result.now c.args.free.temps c.args.free.labels _ (passing c.in_ok-pass-in-Call.field-0) (low r) c.in-Call.is (search rules) (search rules) (search rules) c.in_ok-pass-in-Call.ensures
    made) c.called_low.ensures

pub discard-returns-in_ok-pass-in-Call : goal.discard-returns-in_ok-pass-in-Call
discard-returns-in_ok-pass-in-Call t c =
    IfOk-weaker _ _ _ (λ r made. call_effect c.args.self.frame.locals c.args.self.frame.functions c.args.e.now c.in-Call.field-0 c.in-Call.f c.in-Call.to c.in-Call.es c.deref.result.now
    c.as_slice.result.now c.args.free.temps c.args.free.labels _ (passing c.in_ok-pass-in-Call.field-0) (done r) c.in-Call.is (search rules) (search rules) (search rules) c.in_ok-pass-in-Call.ensures
    made) c.called_drop.ensures

pub deliver-returns-in_ok-pass-in-Call : goal.deliver-returns-in_ok-pass-in-Call
deliver-returns-in_ok-pass-in-Call t c =
    IfOk-weaker _ _ _ (λ r made. call_deliver c.args.self.frame.locals c.args.self.frame.functions c.args.e.now c.in-Call.field-0 c.in-Call.f c.in-Call.types c.in-Call.es c.deref.result.now
    c.as_slice.result.now c.args.free.temps c.args.free.labels _ (destination c.args.to) (passing c.in_ok-pass-in-Call.field-0) (done r) c.in-Call.is (search rules) (search rules) (search rules)
    c.in_ok-pass-in-Call.ensures made) c.called_deliver.ensures

pub discard-returns-in_ok-seek-in-Step : goal.discard-returns-in_ok-seek-in-Step
discard-returns-in_ok-seek-in-Step t c =
    IfOk-weaker _ _ _ (λ r made. step_effect c.args.self.frame.locals c.args.self.frame.functions c.args.e.now c.in-Step.field-0 c.in-Step.by c.in-Step.p c.args.free.temps c.args.free.labels
    (found c.in_ok-seek-in-Step.field-0) (done r) c.in-Step.is c.in_ok-seek-in-Step.ensures made) c.step_drop.ensures

use Rattle.std.proofs.Common.{◌≡◌, Some, None, Option, sym, ap, ◌∙◌, subst}
use Rattle.gg_base.specs.Arithmetic.{add32}
use Rattle.std.specs.Prelude.{is_some, IfSome}
use Rattle.c_meaning.specs.declared.store.Spot.TheVariants.{InBlock}
use Rattle.c_meaning.specs.State.{State, put, put_zeros}
use Rattle.c_meaning.specs.Parts.{state}
use Rattle.c_meaning.proofs.Steps.{none_there, state_some}
use Rattle.c_meaning.proofs.Zeros.{zeros_stop, zeros_more}
use Rattle.c_meaning.proofs.store.Store.put_zeros.Goals as goal

none_put : (c : goal.Then-not-put) → put_zeros c.args.of c.args.offset c.args.count (Some (state c.args.self.now)) ≡ None
none_put c =
    zeros_stop (put_zeros c.args.of c.args.offset c.args.count (Some (state c.args.self.now))) c.args.of c.loop.next c.args.count c.loop.counter (state c.loop.self) c.loop-test.true c.loop.invariant
    (none_there (put c.args.of (InBlock c.loop.next) 0 (state c.loop.self)) c.if-not-put.ensures.done)

pub returns-then-not-put-clause-done : goal.returns-then-not-put-clause-done
returns-then-not-put-clause-done c = sym (ap (λ (o : Option State). is_some o) (none_put c))

pub returns-then-not-put-clause-new : goal.returns-then-not-put-clause-new
returns-then-not-put-clause-new c = subst (λ (o : Option State). IfSome o (λ st. state c.put.new.self ≡ st)) (sym (none_put c)) tt

pub loop-preserved : goal.loop-preserved
loop-preserved c =
    let whole = put_zeros c.args.of c.args.offset c.args.count (Some (state c.args.self.now)) in
    let st = state c.loop.self in
    let puts = state_some (put c.args.of (InBlock c.loop.next) 0 st) st (state c.put.new.self) c.if-not-put.ensures.done c.if-not-put.ensures.new in
    let at = c.add-next.ensures ∙ ap (add32 c.loop.next) c.size.ensures.size in
    zeros_more whole c.args.of c.loop.next c.add-next.result c.args.count c.loop.counter st (state c.put.new.self) c.loop-test.true c.loop.invariant puts at

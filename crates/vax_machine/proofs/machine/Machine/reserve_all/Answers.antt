use Rattle.std.proofs.Common.{◌≡◌, ℕ, suc, ◌+◌, ◌-◌, ◌<◌, Result, Ok, Err, sym, ap, ◌∙◌, arith}
use Rattle.std.proofs.lemmas.Result.{err_from_is_err_and}
use Rattle.vax_machine.specs.declared.turn.Stop.{Stop}
use Rattle.vax_machine.specs.State.{State, ◌>>=◌}
use Rattle.vax_machine.specs.View.{state}
use Rattle.vax_machine.specs.Calls.{reserved, all_reserved}
use Rattle.vax_machine.proofs.machine.Machine.reserve_all.Goals as goal

-- the first of the longwords that are left
first_reserved : (count i : ℕ) (m : State) (total : Result State Stop) → i < count → all_reserved (count - i) m ≡ total → (reserved m >>= λ (n : State). all_reserved (count - (i + 1)) n) ≡ total
first_reserved count i m total lt h =
    let e : count - i ≡ suc (count - (i + 1)) = omega arith in
    sym (ap (λ (k : ℕ). all_reserved k m) e) ∙ h

goes_on : (count i : ℕ) (m n : State) (total : Result State Stop) → i < count → reserved m ≡ Ok n → all_reserved (count - i) m ≡ total → all_reserved (count - (i + 1)) n ≡ total
goes_on count i m n total lt did h =
    sym (ap (λ (r : Result State Stop). r >>= λ (n : State). all_reserved (count - (i + 1)) n) did) ∙ first_reserved count i m total lt h

breaks : (count i : ℕ) (m : State) (e : Stop) (total : Result State Stop) → i < count → reserved m ≡ Err e → all_reserved (count - i) m ≡ total → total ≡ Err e
breaks count i m e total lt did h =
    sym (first_reserved count i m total lt h) ∙ ap (λ (r : Result State Stop). r >>= λ (n : State). all_reserved (count - (i + 1)) n) did

pub loop-preserved : goal.loop-preserved
loop-preserved c =
    goes_on c.args.count c.loop.counter (state c.loop.self) (state c.reserve.new.self) (all_reserved c.args.count (state c.args.self.now)) c.loop-test.true c.in_ok-reserve.ensures c.loop.invariant

pub returns-in_err-reserve : goal.returns-in_err-reserve
returns-in_err-reserve c =
    let p = err_from_is_err_and c.from_residual.result c.from_residual.ensures.1 in
    rw (p.1, p.2) (breaks c.args.count c.loop.counter (state c.loop.self) c.in_err-reserve.field-0.0 (all_reserved c.args.count (state c.args.self.now)) c.loop-test.true
    c.in_err-reserve.ensures c.loop.invariant)

use Rattle.std.proofs.Common.{◌≡◌, Some, sym, subst}
use Rattle.c_meaning.specs.State.{address}
use Rattle.c_meaning.specs.Parts.{state}
use Rattle.c_meaning.proofs.Taking.{given_back}
use Rattle.c_meaning.proofs.store.Store.release.Goals as goal

pub returns-in-Some-address_at : goal.returns-in-Some-address_at
returns-in-Some-address_at c =
    let objects = c.args.objects.now in
    let pointer = c.in-Some-address_at.pointer in
    let at = subst (λ n. address objects n ≡ Some pointer) c.pointer_number.ensures (sym c.in-Some-address_at.ensures) in
    given_back objects c.args.block c.in-Some.begin pointer (state c.args.self.now) (state c.put.new.self) c.put.result c.if-block-eq0.false c.in-Some.is at c.put.ensures.done c.put.ensures.new

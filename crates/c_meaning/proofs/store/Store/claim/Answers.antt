use Rattle.std.proofs.Common.{◌≡◌, ◌+◌, Some, sym, ◌∙◌, subst}
use Rattle.c_meaning.specs.declared.store.Spot.TheVariants.{Memory}
use Rattle.c_meaning.specs.State.{address, put}
use Rattle.c_meaning.specs.Blocks.{int}
use Rattle.c_meaning.specs.Parts.{state}
use Rattle.c_meaning.proofs.Steps.{state_some}
use Rattle.c_meaning.proofs.Taking.{takes}
use Rattle.c_meaning.proofs.store.Store.claim.Goals as goal

pub returns : goal.returns
returns c =
    let objects = c.args.objects.now in
    let st = state c.args.self.now in
    let st' = state c.put.new.self in
    let pointer = c.in_ok-pointer.pointer in
    let at = subst (λ n. address objects n ≡ Some pointer) c.pointer_number-number.ensures (sym c.address_at.ensures ∙ c.in_ok-pointer.ensures.ok_part) in
    let holds = sym c.held.ensures ∙ c.in_ok-begin.ensures.ok_part in
    let lies = subst (λ n. address objects (n + 1) ≡ Some c.in_ok-area.area) c.pointer_number-number.ensures (sym c.address_at-2.ensures ∙ c.in_ok-area.ensures.ok_part) in
    let begins = sym c.beginning.ensures ∙ c.in_ok-begin-2.ensures.ok_part in
    let puts = subst (λ v. put int (Memory pointer) v st ≡ Some st') c.add.ensures (state_some (put int (Memory pointer) c.add.result st) st st' c.if-not-put.ensures.done c.if-not-put.ensures.new) in
    takes objects c.args.block pointer c.in_ok-begin.begin c.in_ok-area.area c.in_ok-begin-2.begin st st' c.if-block-eq0.false at holds lies begins puts

use Rattle.std.proofs.Common.{◌≡◌, ◌-◌, ◌∙◌, Bool, false, List, Option, length, sym, ap}
use Rattle.std.specs.Prelude.{◌&&◌, nat_lt, slice_get}
use Rattle.gg_base.proofs.Facts.{and_false}
use Rattle.vax_core.specs.declared.code.CodeItem.{CodeItem}
use Rattle.vax_codes.specs.Testing.{is_needless, last_item}
use Rattle.vax_codes.proofs.Testing.{one_kept, not_below}
use Rattle.vax_codes.proofs.needless_test.NeedlessTest.keep.Goals as goal
use Rattle.vax_codes.proofs.needless_test.NeedlessTest.keep.Goals.{else-self-lt18446744073709551615-via-then-self-lt18446744073709551615+else-is_needless, else-self-lt18446744073709551615-via-else-self-lt18446744073709551615}

pub returns-clause-kept : goal.returns-clause-kept
returns-clause-kept c =
    let judged : (nat_lt c.args.self.now.made 18446744073709551615 && is_needless c.args.item (last_item c.args.kept.now.items) c.args.read) ≡ false =
    elim c.else-self-lt18446744073709551615.branch [
      | else-self-lt18446744073709551615-via-then-self-lt18446744073709551615+else-is_needless w ↦
          ap (λ (b : Bool). nat_lt c.args.self.now.made 18446744073709551615 && b)
          (ap (λ (o : Option CodeItem). is_needless c.args.item o c.args.read)
          (sym (w.last.ensures.value ∙ ap (λ (xs : List CodeItem). slice_get xs (length xs - 1)) w.deref.ensures.value))
          ∙ sym w.is_needless.ensures
          ∙ w.if-is_needless.false)
          ∙ and_false (nat_lt c.args.self.now.made 18446744073709551615)
      | else-self-lt18446744073709551615-via-else-self-lt18446744073709551615 w ↦
          ap (λ (b : Bool). b && is_needless c.args.item (last_item c.args.kept.now.items) c.args.read) (not_below c.args.self.now.made 18446744073709551615 w.if-self-lt18446744073709551615.false)
    ] in
    λ reads place rest is. one_kept reads place rest c.args.item c.args.kept.now.items c.args.self.now.made c.args.read is judged c.push.new.self.items c.in_ok-push.ensures.items

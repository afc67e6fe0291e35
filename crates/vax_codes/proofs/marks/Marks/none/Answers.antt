use Rattle.vax_codes.proofs.Marking.{empty}
use Rattle.vax_codes.proofs.marks.Marks.none.Goals as goal

pub returns : goal.returns
returns c = empty _ c.args.places (c.in_ok-vec.ensures.items_if_clones_equal (λ y e. e)) c.new.ensures.items

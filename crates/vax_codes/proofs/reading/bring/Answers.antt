use Rattle.std.proofs.Common.{◌≡◌, ◌<◌, ◌∙◌, ℕ, List, true, length, subst, sym}
use Rattle.std.specs.List.{All}
use Rattle.vax_codes.specs.Marks.{is_in, Adds}
use Rattle.vax_codes.proofs.Bringing.{sources_below, all_brought}
use Rattle.vax_codes.proofs.reading.bring.Goals as goal

pub add_all-requires : goal.add_all-requires
add_all-requires c =
    subst (λ (xs : List ℕ). All (λ (p : ℕ). p < length c.bring_before.new.marks.marked.items) xs) (sym c.to.ensures)
    (sources_below c.args.items.now c.args.sources.now c.args.place (length c.bring_before.new.marks.marked.items) c.requires.sources (c.in_ok-bring_before.ensures.each ∙ c.requires.each))

pub returns : goal.returns
returns c =
    all_brought c.args.items.now c.args.sources.now c.args.place c.args.marks.now c.bring_before.new.marks c.add_all.new.self c.requires.sources c.in_ok-bring_before.ensures
    (subst (λ (xs : List ℕ). Adds (λ (p : ℕ). is_in p xs ≡ true) c.bring_before.new.marks c.add_all.new.self) c.to.ensures c.in_ok-add_all.ensures)

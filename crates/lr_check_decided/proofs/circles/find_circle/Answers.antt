use Rattle.std.proofs.Common.{ℕ, List, length, ap, refl, arith}
use Rattle.std.proofs.lemmas.Option.{slice_get_within}
use Rattle.md_reader.specs.declared.types.Sym.{Sym}
use Rattle.lr_check_sets.specs.Faults.{Calms}
use Rattle.lr_check_sets.specs.Table.{automaton_of}
use Rattle.lr_check_found.specs.declared.places.Place.{Place}
use Rattle.lr_check_found.specs.declared.settlings.Settling.{Settling}
use Rattle.lr_check_found.specs.Lists.{IsList}
use Rattle.lr_check_found.specs.Found.{IsPlaceAt, IsSettlingAt}
use Rattle.lr_check_complete.proofs.Turns.{up_to}
use Rattle.lr_check_decided.proofs.Calming.{none_at}
use Rattle.lr_check_decided.proofs.circles.find_circle.Goals as goal

pub loop-number-init : goal.loop-number-init
loop-number-init c = record { right = c.new-held.ensures (automaton_of c.args.tables.now); calm = λ n lt. absurd (omega (arith, lt)) }

pub loop-number-preserved : goal.loop-number-preserved
loop-number-preserved c = record {
  right = c.in_ok-flaw.ensures.right;
  calm = up_to c.loop-number.number
      (λ (i : ℕ). (e : Settling) (x : Place) (s : List Sym) → IsSettlingAt c.args.found.now i e → IsPlaceAt c.args.found.now e.place x → IsList c.args.found.now.lists e.list s →
      Calms (automaton_of c.args.tables.now) x.state x.behind s)
      c.loop-number.number c.loop-number.invariant.calm refl
      (none_at c.in_ok-flaw.field-0 ((e : Settling) (x : Place) (s : List Sym) → IsSettlingAt c.args.found.now c.loop-number.number e → IsPlaceAt c.args.found.now e.place x
      → IsList c.args.found.now.lists e.list s → Calms (automaton_of c.args.tables.now) x.state x.behind s) c.in_default.is c.in_ok-flaw.ensures.none);
}

pub returns-clause-none : goal.returns-clause-none
returns-clause-none c = λ i e x s at.
    let lt = slice_get_within c.args.found.now.settlings i e at in
    c.loop-number.invariant.calm i (omega (arith, lt, ap length c.settlings-number-end.ensures)) e x s at

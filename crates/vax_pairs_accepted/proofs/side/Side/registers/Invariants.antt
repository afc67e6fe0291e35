use Rattle.std.proofs.Common.{◌≡◌, map, take}
use Rattle.term_core.specs.Shape.{shape_of}
use Rattle.vax_core.specs.declared.register.Reg.{Reg}
use Rattle.vax_core.specs.Registers.{reg_number}
use Rattle.vax_pairs_cuts.specs.declared.fact.TheConstants.{GENERAL}
use Rattle.vax_pairs_cuts.specs.Views.{fact_of}
use Rattle.vax_pairs_accepted.specs.Sides.{term_of}
use Rattle.vax_pairs_accepted.proofs.side.Side.registers.Given as goal

abbrev pub invariant-loop-r : goal.invariant-loop-r
invariant-loop-r l =
    map shape_of l.registers.items ≡ map (λ (r : Reg). term_of l.self (map fact_of l.facts) (reg_number r)) (take l.r-index GENERAL)

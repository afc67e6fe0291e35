use Rattle.std.proofs.Common.{◌≡◌, take}
use Rattle.vax_target.specs.vax_target_meaning.specs.Vax.{vax}
use Rattle.gg_compile_code.specs.Selecting.{AreSelected}
use Rattle.gg_compile_code.proofs.items.body_of.Given as goal

-- the code of the items so far, and the slots behind it
abbrev pub invariant-loop-item : goal.invariant-loop-item
invariant-loop-item l = record {
  code : AreSelected vax l.generator.tables.content l.program l.f.locals l.f.locals (take l.item-index l.f.items) l.items.items l.slots.used;
  first : l.slots.first ≡ l.f.locals;
}

use Rattle.std.proofs.Common.{◌≡◌, take}
use Rattle.gg_compile_law.specs.Spelling.{blocks_of}
use Rattle.gg_compile_area.proofs.area.area_items.Given as goal

-- the blocks so far
abbrev pub invariant-loop-o : goal.invariant-loop-o
invariant-loop-o l = l.items.items ≡ blocks_of l.objects (take l.o-index l.objects)

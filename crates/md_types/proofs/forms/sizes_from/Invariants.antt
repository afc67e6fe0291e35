use Rattle.std.proofs.Common.{◌≡◌, ◌≤◌, ◌++◌, List, length}
use Rattle.std.specs.Option.{option_map}
use Rattle.gg_base.specs.declared.size.Size.{Size}
use Rattle.md_reader_text.specs.Words.{words}
use Rattle.md_types.specs.Forms.{sizes_from}
use Rattle.md_types.proofs.forms.sizes_from.Given as goal

abbrev pub invariant-loop-word : goal.invariant-loop-word
invariant-loop-word l =
    (option_map (λ (zs : List Size). l.sizes.items ++ zs) (sizes_from l.least (words l.rest)) ≡ sizes_from 0 (words l.fn.letters))
    × (l.least ≤ 3)

abbrev pub decreases-loop-word : goal.decreases-loop-word
decreases-loop-word l = length (words l.rest)

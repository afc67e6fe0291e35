-- The laws.
use Rattle.lr_check_sets.specs.Exact.{MeetsLaws}
use Rattle.lr_check_sets.specs.Table.{automaton_of}
use Rattle.lr_check_sets.proofs.Meeting.{tables_meet_laws}
use Rattle.lr_check_parse.specs.Typed.{IsStatement}
use Rattle.lr_check_samples.specs.Claims.{FoundTreesLead, ContextsLead, SamplesBlock, SamplesLoop}
use Rattle.lr_check_samples.specs.Stops.{tokens}
use Rattle.lr_check_samples.proofs.Found_trees.{leads}
use Rattle.lr_check_samples.proofs.Round.{comes_to_quiet, reaches}
use Rattle.lr_check_samples.proofs.Typing.{blocking_typed, looping_typed}
use Rattle.lr_check_samples.proofs.Stopping.{blocking_blocks, looping_loops}
use Rattle.lr_check_samples.proofs.Following.{typed_no_ends, blocks_of, loops_of}

pub found_trees_lead : FoundTreesLead
found_trees_lead t v b f found i p x s ws own ds at fixed a z w here quiet next =
    let c = comes_to_quiet (leads t (tables_meet_laws t v b) f found fixed x s p at) a z w quiet here next in
    record { stack = c.stack; quiet = c.quiet; runs = c.runs }

pub contexts_lead : ContextsLead
contexts_lead t v b f found n x before behind at c =
    let r = reaches t (tables_meet_laws t v b) f found c x at in
    record { below = r.below; at = r.at; next = r.next; comes = λ w e. let k = r.comes w e in record { stack = k.stack; quiet = k.quiet; runs = k.runs } }

pub samples_block : SamplesBlock
samples_block t v b f found w s =
    let m : MeetsLaws t = tables_meet_laws t v b in
    let typed : IsStatement (tokens w) = blocking_typed (automaton_of t) f found s in
    record { statement = typed; blocks = blocks_of t v b m w (typed_no_ends w typed) (blocking_blocks t m f found s) }

pub samples_loop : SamplesLoop
samples_loop t v b f found w s =
    let m : MeetsLaws t = tables_meet_laws t v b in
    let typed : IsStatement (tokens w) = looping_typed (automaton_of t) f found s in
    record { statement = typed; loops = loops_of t v b m w (typed_no_ends w typed) (looping_loops t m f found s) }

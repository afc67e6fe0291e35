-- The code of a typed program whose functions want other locals in registers: its bound, its registers, its beginning.
use Rattle.std.proofs.Common.{subst}
use Rattle.gg_base.specs.Runs.{Outcome}
use Rattle.c_lower_follows.specs.c_meaning.specs.Programs.{source}
use Rattle.c_lower_scheme.specs.Programs.{lowered}
use Rattle.c_lower_counts.specs.Zeros.{with_zeros}
use Rattle.c_lower_counts.proofs.Law.{lowering_counts_no_more}
use Rattle.tree_counts.specs.Counted.{tree_tally}
use Rattle.gg_compile_tallies.proofs.Law.{written_codes_count_no_more}
use Rattle.gg_compile_laws.specs.gg_compile_keeps.proofs.Law.{is_written}
use Rattle.gg_compile_laws.proofs.Objects.{all_below}
use Rattle.gg_compile_codes.proofs.Starting.{written_programs_begin}
use Rattle.gg_compile_codes.proofs.Frames.{selected_codes_are_guarded}
use Rattle.gg_compile_codes.proofs.Keeping.{guarded_runs_keep_registers}
use Rattle.gg_compile_homes_codes.specs.Claims.{RehomedCodesAreBounded, RehomedCodesKeepRegisters, RehomedProgramsBegin}
use Rattle.gg_compile_homes_codes.proofs.Counting.{tallies_same}
use Rattle.gg_compile_homes_codes.proofs.Bounding.{CountsNoMore, bounded_by}
use Rattle.gg_compile_homes.proofs.Law.{sound, selectable}

pub rehomed_codes_are_bounded : RehomedCodesAreBounded
rehomed_codes_are_bounded p q d c h shown selected input bytes n =
    let w = is_written q d c (selectable p q h) shown selected in
    bounded_by c input (tree_tally (lowered p) input)
    (λ m.
    subst (λ (o : Outcome). CountsNoMore c input o) (tallies_same (lowered p) q h.rehomed input m) (written_codes_count_no_more q c w input (all_below input bytes) m))
    (with_zeros p n) (source p input n).end (source p input n).output (lowering_counts_no_more p (sound p h.typed) input bytes n)

pub rehomed_codes_keep_registers : RehomedCodesKeepRegisters
rehomed_codes_keep_registers p q d c h shown selected input m reached =
    guarded_runs_keep_registers c input m (selected_codes_are_guarded q d c (selectable p q h) shown selected) reached

pub rehomed_programs_begin : RehomedProgramsBegin
rehomed_programs_begin p q d c h shown selected input bytes =
    let ok = selectable p q h in
    written_programs_begin q c input ok.names (is_written q d c ok shown selected) (all_below input bytes)

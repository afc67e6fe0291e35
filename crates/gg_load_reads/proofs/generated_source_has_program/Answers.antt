use Rattle.std.proofs.Common.{refl}
use Rattle.c_syntax.specs.Ends.{body_ends}
use Rattle.gg_load_tokens.specs.Lines.{source_tokens}
use Rattle.gg_load_phrases.specs.Unit.{source_unit}
use Rattle.gg_load_program.specs.Program.{source_program}
use Rattle.gg_load_reads.proofs.Needs.{small_at}
use Rattle.gg_load_reads.proofs.generated_source_has_program.Goals as goal

pub returns-clause-reads : goal.returns-clause-reads
returns-clause-reads c = λ k low. record {
  unit = source_unit k;
  ends = body_ends (source_tokens k);
  spells = record {
    list = source_tokens k;
    tokens = c.generated_source_has_tokens.ensures k low;
    phrases = c.generated_source_has_unit.ensures k;
    bodies = refl;
  };
  typed = c.generated_unit_is_typed.ensures k (body_ends (source_tokens k)) low;
}

pub returns-clause-needs : goal.returns-clause-needs
returns-clause-needs c = λ k n. small_at (source_program k).routines n (c.generated_frames_are_small.ensures k)

use Rattle.std.proofs.Common.{◌≡◌, [], length, sym, subst, rules}
use Rattle.std.specs.String.{string_bytes}
use Rattle.c_program.specs.Programs.{AProgram, program}
use Rattle.c_typed.specs.Sources.{Reads}
use Rattle.c_meaning.specs.Programs.{source}
use Rattle.cmd_compile.specs.Keeping.{Keeps}
use Rattle.gg_load.specs.Source.{source_text}
use Rattle.gg_load_meaning.specs.Run.{ComesTo, source_outcome}
use Rattle.cmd_compile.proofs.Counting.{kept_same}
use Rattle.cmd_load_runs.specs.Tallies.{outcome_of}
use Rattle.cmd_load.proofs.Joining.{runnable, told_so}
use Rattle.cmd_load.proofs.load.load_by.Goals as goal

pub run_sides-requires : goal.run_sides-requires
run_sides-requires g c =
    rw c.as_bytes.ensures.value
    (runnable c.args.accepted.now.content (program c.in-Ok.generated.program.held) (string_bytes c.in-Ok-text_of.text) c.in-Ok-text_of.ensures.text.is_text)

pub returns-in-Ok-run_sides-clause-loads : goal.returns-in-Ok-run_sides-clause-loads
returns-in-Ok-run_sides-clause-loads g c =
    let k = c.args.functions in
    let p : AProgram = program c.in-Ok.generated.program.held in
    let by_text = c.in-Ok-text_of.ensures.text in
    let is_text = by_text.is_text in
    let text_is : c.len.result ≡ length (string_bytes c.in-Ok-text_of.text) = search (rules, c.len.ensures) in
    told_so _ c.args.accepted.now.content k (program c.in-Ok.generated.program.held) (string_bytes c.in-Ok-text_of.text)
    (subst (λ (x : AProgram). Reads (source_text k) x) (sym c.in-Ok.ensures.program) (c.generated_source_has_program.ensures.reads k c.requires.1))
    by_text
    (subst (λ (x : AProgram). ComesTo (source x []) (source_outcome k)) (sym c.in-Ok.ensures.program) (c.both_sides_end_alike.ensures.comes k))
    (c.both_sides_end_alike.ensures.few k c.requires.1)
    (c.both_sides_end_alike.ensures.one_end is_text.code)
    (c.both_sides_end_alike.ensures.alike k is_text.code (subst (λ (x : AProgram). ∥ Keeps x is_text.code ∥₁) c.in-Ok.ensures.program is_text.keeps))
    (outcome_of c.in-Ok-run_sides.sides.source)
    (outcome_of c.in-Ok-run_sides.sides.text)
    (rw c.plain.ensures at c.in-Ok-run_sides.ensures.source)
    (c.in-Ok-run_sides.ensures.text is_text.code (rw c.as_bytes.ensures.value is_text.read.reads))
    _ _ _
    (rw (c.in-Ok.ensures.size, text_is, c.in-Ok-text_of.ensures.untold) at c.tell_sides.ensures)

pub returns-in-Err-clause-kept : goal.returns-in-Err-clause-kept
returns-in-Err-clause-kept g c = kept_same _ _ _

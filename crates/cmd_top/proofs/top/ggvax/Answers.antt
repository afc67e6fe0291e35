use Rattle.cmd_session.specs.Reading.{intake}
use Rattle.cmd_files.specs.Outsides.{lookup, outside}
use Rattle.cmd_files.specs.Outcome.{Leaves}
use Rattle.cmd_files.specs.Calls.{call_of}
use Rattle.cmd_files.specs.Exact.{IsExact}
use Rattle.cmd_files.specs.Translations.{IsTranslated}
use Rattle.cmd_meaning.specs.Sources.{source_form, source_runner}
use Rattle.cmd_run.specs.Texts.{text_form, code_runner}
use Rattle.cmd_run32.specs.Texts.{text_form as text_form32, code_runner as code_runner32}
use Rattle.cmd_load.specs.cmd_check.specs.Outcome.{Leaves as CheckLeaves}
use Rattle.cmd_load.specs.cmd_check.specs.Exact.{IsExact as CheckIsExact}
use Rattle.cmd_check32.specs.cmd_descriptions.specs.Outcome.{LeavesFor as CheckLeavesFor}
use Rattle.cmd_check32.specs.cmd_descriptions.specs.Exact.{IsExactFor as CheckIsExactFor}
use Rattle.cmd_check32.specs.Machine.{the_l32}
use Rattle.cmd_load.specs.cmd_compile.specs.Outcome.{files, FailAtMost}
use Rattle.cmd_load.specs.cmd_compile.specs.Exact.{IsExact as CompileIsExact}
use Rattle.cmd_load.specs.Exact.{IsExact as LoadIsExact}
use Rattle.cmd_load.specs.cmd_compile.proofs.Counting.{kept_same}
use Rattle.cmd_image.specs.Texts.{image_of_text}
use Rattle.cmd_text.specs.Images.{text_of_image}
use Rattle.cmd_top.proofs.Chosen.{only_check, only_compile, only_run, only_meaning, only_load, only_image, only_text, only_check32, only_run32, counts, carried, named, paired, named_pair, compiled, loaded}
use Rattle.cmd_top.proofs.top.ggvax.Goals as goal

pub returns-in-Meaning-clause-meaning : goal.returns-in-Meaning-clause-meaning
returns-in-Meaning-clause-meaning g c = λ source count said.
    carried (λ s n. Leaves source_form source_runner c.run_source.result (call_of s n
    (intake g.I.Source c.args.input.now c.run_source.new.input)
    (outside g.F.Folder g.O.Sink g.E.Sink c.args.folder.now c.run_source.new.folder c.args.out.now c.run_source.new.out c.args.report.now c.run_source.new.report)))
    _ _ _ _ (only_meaning _ _ _ _ c.in-Some.ensures.only c.in-Meaning.is source count said) c.run_source.ensures.runs.leaves

pub returns-in-Meaning-clause-meaning_exact : goal.returns-in-Meaning-clause-meaning_exact
returns-in-Meaning-clause-meaning_exact g c = λ source count said.
    carried (λ s n. IsExact source_form source_runner c.run_source.result (call_of s n
    (intake g.I.Source c.args.input.now c.run_source.new.input)
    (outside g.F.Folder g.O.Sink g.E.Sink c.args.folder.now c.run_source.new.folder c.args.out.now c.run_source.new.out c.args.report.now c.run_source.new.report)))
    _ _ _ _ (only_meaning _ _ _ _ c.in-Some.ensures.only c.in-Meaning.is source count said) c.run_source.ensures.runs.exact

pub returns-in-Run-clause-run : goal.returns-in-Run-clause-run
returns-in-Run-clause-run g c = λ text count said.
    carried (λ s n. Leaves text_form code_runner c.run_text.result (call_of s n
    (intake g.I.Source c.args.input.now c.run_text.new.input)
    (outside g.F.Folder g.O.Sink g.E.Sink c.args.folder.now c.run_text.new.folder c.args.out.now c.run_text.new.out c.args.report.now c.run_text.new.report)))
    _ _ _ _ (only_run _ _ _ _ c.in-Some.ensures.only c.in-Run.is text count said) c.run_text.ensures.runs.leaves

pub returns-in-Run-clause-run_exact : goal.returns-in-Run-clause-run_exact
returns-in-Run-clause-run_exact g c = λ text count said.
    carried (λ s n. IsExact text_form code_runner c.run_text.result (call_of s n
    (intake g.I.Source c.args.input.now c.run_text.new.input)
    (outside g.F.Folder g.O.Sink g.E.Sink c.args.folder.now c.run_text.new.folder c.args.out.now c.run_text.new.out c.args.report.now c.run_text.new.report)))
    _ _ _ _ (only_run _ _ _ _ c.in-Some.ensures.only c.in-Run.is text count said) c.run_text.ensures.runs.exact

pub returns-in-Check-clause-check : goal.returns-in-Check-clause-check
returns-in-Check-clause-check g c = λ d said.
    named (λ s. CheckLeaves c.check_description.result s
    (outside g.F.Folder g.O.Sink g.E.Sink c.args.folder.now c.check_description.new.folder c.args.out.now c.check_description.new.out c.args.report.now c.check_description.new.report))
    _ _ (only_check _ _ _ c.in-Some.ensures.only c.in-Check.is d said) c.check_description.ensures.leaves

pub returns-in-Check-clause-check_exact : goal.returns-in-Check-clause-check_exact
returns-in-Check-clause-check_exact g c = λ d said.
    named (λ s. CheckIsExact c.check_description.result s
    (outside g.F.Folder g.O.Sink g.E.Sink c.args.folder.now c.check_description.new.folder c.args.out.now c.check_description.new.out c.args.report.now c.check_description.new.report))
    _ _ (only_check _ _ _ c.in-Some.ensures.only c.in-Check.is d said) c.check_description.ensures.exact

pub returns-in-Compile-clause-compile : goal.returns-in-Compile-clause-compile
returns-in-Compile-clause-compile g c = λ d source said.
    compiled _ c.compile.result
    (outside g.F.Folder g.O.Sink g.E.Sink c.args.folder.now c.compile.new.folder c.args.out.now c.compile.new.out c.args.report.now c.compile.new.report)
    _ _ _ _ (only_compile _ _ _ _ c.in-Some.ensures.only c.in-Compile.is d source said) c.compile.ensures.leaves

pub returns-in-Compile-clause-compile_exact : goal.returns-in-Compile-clause-compile_exact
returns-in-Compile-clause-compile_exact g c = λ d source said.
    paired (λ x y. CompileIsExact c.compile.result (files x y)
    (outside g.F.Folder g.O.Sink g.E.Sink c.args.folder.now c.compile.new.folder c.args.out.now c.compile.new.out c.args.report.now c.compile.new.report))
    _ _ _ _ (only_compile _ _ _ _ c.in-Some.ensures.only c.in-Compile.is d source said) c.compile.ensures.exact

pub returns-in-Compile-clause-compile_names : goal.returns-in-Compile-clause-compile_names
returns-in-Compile-clause-compile_names g c = λ d source said.
    paired (λ x y. FailAtMost (files x y) (lookup g.F.Folder c.args.folder.now c.compile.new.folder))
    _ _ _ _ (only_compile _ _ _ _ c.in-Some.ensures.only c.in-Compile.is d source said) c.compile.ensures.names

pub compile-requires : goal.compile-requires
compile-requires g c = record { named = named_pair _ _ _ _ c.in-Some.ensures.some c.in-Compile.is }

pub load_generated-requires : goal.load_generated-requires
load_generated-requires g c = counts _ _ _ _ c.in-Some.ensures.some c.in-Load.is

pub returns-in-Load-clause-load : goal.returns-in-Load-clause-load
returns-in-Load-clause-load g c = λ d k said.
    loaded _ c.load_generated.result
    (outside g.F.Folder g.O.Sink g.E.Sink c.args.folder.now c.load_generated.new.folder c.args.out.now c.load_generated.new.out c.args.report.now c.load_generated.new.report)
    _ _ _ _ (only_load _ _ _ _ c.in-Some.ensures.only c.in-Load.is d k said) c.load_generated.ensures.leaves

pub returns-in-Load-clause-load_exact : goal.returns-in-Load-clause-load_exact
returns-in-Load-clause-load_exact g c = λ d k said.
    carried (λ s n. LoadIsExact c.load_generated.result s
    (outside g.F.Folder g.O.Sink g.E.Sink c.args.folder.now c.load_generated.new.folder c.args.out.now c.load_generated.new.out c.args.report.now c.load_generated.new.report))
    _ _ _ _ (only_load _ _ _ _ c.in-Some.ensures.only c.in-Load.is d k said) c.load_generated.ensures.exact

pub returns-in_default-clause-kept : goal.returns-in_default-clause-kept
returns-in_default-clause-kept g c = kept_same _ _ _

pub returns-in-Check-clause-kept : goal.returns-in-Check-clause-kept
returns-in-Check-clause-kept g c = kept_same _ _ _

pub returns-in-Run-clause-kept : goal.returns-in-Run-clause-kept
returns-in-Run-clause-kept g c = kept_same _ _ _

pub returns-in-Meaning-clause-kept : goal.returns-in-Meaning-clause-kept
returns-in-Meaning-clause-kept g c = kept_same _ _ _

pub returns-in-Image-clause-kept : goal.returns-in-Image-clause-kept
returns-in-Image-clause-kept g c = kept_same _ _ _

pub returns-in-Text-clause-kept : goal.returns-in-Text-clause-kept
returns-in-Text-clause-kept g c = kept_same _ _ _

pub returns-in-Image-clause-image : goal.returns-in-Image-clause-image
returns-in-Image-clause-image g c = λ text said.
    named (λ s. IsTranslated image_of_text c.write_image.result s
    (outside g.F.Folder g.O.Sink g.E.Sink c.args.folder.now c.write_image.new.folder c.args.out.now c.write_image.new.out c.args.report.now c.write_image.new.report))
    _ _ (only_image _ _ _ c.in-Some.ensures.only c.in-Image.is text said) c.write_image.ensures.translates

pub returns-in-Text-clause-text : goal.returns-in-Text-clause-text
returns-in-Text-clause-text g c = λ image said.
    named (λ s. IsTranslated text_of_image c.write_text.result s
    (outside g.F.Folder g.O.Sink g.E.Sink c.args.folder.now c.write_text.new.folder c.args.out.now c.write_text.new.out c.args.report.now c.write_text.new.report))
    _ _ (only_text _ _ _ c.in-Some.ensures.only c.in-Text.is image said) c.write_text.ensures.translates

pub returns-in-Check32-clause-check32 : goal.returns-in-Check32-clause-check32
returns-in-Check32-clause-check32 g c = λ d said.
    named (λ s. CheckLeavesFor the_l32 c.check_description32.result s
    (outside g.F.Folder g.O.Sink g.E.Sink c.args.folder.now c.check_description32.new.folder c.args.out.now c.check_description32.new.out c.args.report.now c.check_description32.new.report))
    _ _ (only_check32 _ _ _ c.in-Some.ensures.only c.in-Check32.is d said) c.check_description32.ensures.leaves

pub returns-in-Check32-clause-check32_exact : goal.returns-in-Check32-clause-check32_exact
returns-in-Check32-clause-check32_exact g c = λ d said.
    named (λ s. CheckIsExactFor the_l32 c.check_description32.result s
    (outside g.F.Folder g.O.Sink g.E.Sink c.args.folder.now c.check_description32.new.folder c.args.out.now c.check_description32.new.out c.args.report.now c.check_description32.new.report))
    _ _ (only_check32 _ _ _ c.in-Some.ensures.only c.in-Check32.is d said) c.check_description32.ensures.exact

pub returns-in-Run32-clause-run32 : goal.returns-in-Run32-clause-run32
returns-in-Run32-clause-run32 g c = λ text count said.
    carried (λ s n. Leaves text_form32 code_runner32 c.run_text32.result (call_of s n
    (intake g.I.Source c.args.input.now c.run_text32.new.input)
    (outside g.F.Folder g.O.Sink g.E.Sink c.args.folder.now c.run_text32.new.folder c.args.out.now c.run_text32.new.out c.args.report.now c.run_text32.new.report)))
    _ _ _ _ (only_run32 _ _ _ _ c.in-Some.ensures.only c.in-Run32.is text count said) c.run_text32.ensures.runs.leaves

pub returns-in-Run32-clause-run32_exact : goal.returns-in-Run32-clause-run32_exact
returns-in-Run32-clause-run32_exact g c = λ text count said.
    carried (λ s n. IsExact text_form32 code_runner32 c.run_text32.result (call_of s n
    (intake g.I.Source c.args.input.now c.run_text32.new.input)
    (outside g.F.Folder g.O.Sink g.E.Sink c.args.folder.now c.run_text32.new.folder c.args.out.now c.run_text32.new.out c.args.report.now c.run_text32.new.report)))
    _ _ _ _ (only_run32 _ _ _ _ c.in-Some.ensures.only c.in-Run32.is text count said) c.run_text32.ensures.runs.exact

pub returns-in-Check32-clause-kept : goal.returns-in-Check32-clause-kept
returns-in-Check32-clause-kept g c = kept_same _ _ _

pub returns-in-Run32-clause-kept : goal.returns-in-Run32-clause-kept
returns-in-Run32-clause-kept g c = kept_same _ _ _

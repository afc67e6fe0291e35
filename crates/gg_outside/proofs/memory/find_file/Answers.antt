use Rattle.std.proofs.Common.{◌≡◌, rules, ap, sym, subst, ◌∙◌}
use Rattle.std.specs.Prelude.{IfNone}
use Rattle.std.specs.Option.{option_map}
use Rattle.std.specs.Str.{bytes_eq}
use borrow.Author.Tests.{tests}
use Rattle.std.proofs.lemmas.Iterator.{YieldsList-from_slice}
use Rattle.std.proofs.lemmas.Iterator.Search.{find_from_yields_List}
use Rattle.gg_outside.specs.declared.memory.MemFile.{MemFile}
use Rattle.gg_outside.specs.Outside.{Missing, Stored}
use Rattle.gg_outside.specs.Memory.{content_of}
use Rattle.gg_outside.proofs.Naming.{given, content_found}
use Rattle.gg_outside.proofs.memory.find_file.Goals as goal

pub returns-in_err-file-clause-missing : goal.returns-in_err-file-clause-missing
returns-in_err-file-clause-missing c =
    let files = c.args.files.now in
    let found = find_from_yields_List (λ (f : MemFile). bytes_eq f.name c.args.name.now) c.find.new.self _ c.find.result c.find.ensures.ran (YieldsList-from_slice files cc)
    (λ x b q k. search (rules, tests)) in
    subst (λ o. IfNone o (content_of files c.args.name.now ≡ Missing)) (sym c.from_residual.ensures)
    (content_found c.args.name.now files ∙ ap given (sym found ∙ ap (option_map _) c.in_err-file.was))

pub returns-clause-found : goal.returns-clause-found
returns-clause-found c =
    let files = c.args.files.now in
    let found = find_from_yields_List (λ (f : MemFile). bytes_eq f.name c.args.name.now) c.find.new.self _ c.find.result c.find.ensures.ran (YieldsList-from_slice files cc)
    (λ x b q k. search (rules, tests)) in
    content_found c.args.name.now files ∙ (ap given (sym found ∙ ap (option_map _) c.in_ok-file.was) ∙ ap Stored (sym c.as_slice.ensures))

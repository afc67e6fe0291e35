use Rattle.std.proofs.Common.{subst, sym, ap, ◌∙◌}
use Rattle.c_phrases.specs.UnitShapes.{unit_of}
use Rattle.c_tokens.specs.Grammar.{Tokens}
use Rattle.c_typed.specs.Sources.{place_at}
use Rattle.c_typed_words.specs.c_sound.proofs.Bytes.{bytes_fit}
use Rattle.c_typed.proofs.Firsts.{not_here_first, too_deep_first, types_first, no_fault}
use Rattle.c_typed.proofs.source.read_source.Goals as goal

pub check-requires : goal.check-requires
check-requires c =
    let ts = c.deref.result.now in
    c.source_has_tokens.ensures.tokens c.args.bytes.now ts (unit_of c.in-Ok-parse.ast) (bytes_fit c.args.bytes.now c.type_inv.bytes) c.requires
    (subst (Tokens 0 c.args.bytes.now) (sym c.deref.ensures.value) c.in-Ok.ensures.found) c.in-Ok-parse.ensures.found

pub returns-in-Err-NotHere-clause-first : goal.returns-in-Err-NotHere-clause-first
returns-in-Err-NotHere-clause-first c =
    let ts = c.deref.result.now in
    not_here_first c.args.bytes.now c.in-Ok.list.items ts c.deref.ensures.value c.in-Ok.ensures.only c.in-Ok.ensures.refused
    (c.tokens_are_ended.ensures 0 c.args.bytes.now ts (subst (Tokens 0 c.args.bytes.now) (sym c.deref.ensures.value) c.in-Ok.ensures.found))
    c.in-Err-NotHere.field-0 c.in-Err-NotHere.offset c.place_at-in-Err-NotHere.result c.in-Err-NotHere.field-0-is
    (c.place_at-in-Err-NotHere.ensures ∙ ap (place_at c.args.bytes.now) c.in-Err-NotHere.offset-is) c.in-Err-NotHere.ensures.only c.in-Err-NotHere.ensures.first

pub returns-in-Err-TooDeep-clause-first : goal.returns-in-Err-TooDeep-clause-first
returns-in-Err-TooDeep-clause-first c =
    let ts = c.deref.result.now in
    too_deep_first c.args.bytes.now c.in-Ok.list.items ts c.deref.ensures.value c.in-Ok.ensures.only c.in-Ok.ensures.refused
    (c.tokens_are_ended.ensures 0 c.args.bytes.now ts (subst (Tokens 0 c.args.bytes.now) (sym c.deref.ensures.value) c.in-Ok.ensures.found))
    c.in-Err-TooDeep.field-0 c.in-Err-TooDeep.offset c.place_at-in-Err-TooDeep.result c.in-Err-TooDeep.field-0-is
    (c.place_at-in-Err-TooDeep.ensures ∙ ap (place_at c.args.bytes.now) c.in-Err-TooDeep.offset-is) c.in-Err-TooDeep.ensures.only c.in-Err-TooDeep.ensures.first

pub returns-in-Ok-check-clause-first : goal.returns-in-Ok-check-clause-first
returns-in-Ok-check-clause-first c =
    let ts = c.deref.result.now in
    no_fault c.args.bytes.now c.in-Ok.list.items ts c.deref.ensures.value c.in-Ok.ensures.only c.in-Ok.ensures.refused
    (c.tokens_are_ended.ensures 0 c.args.bytes.now ts (subst (Tokens 0 c.args.bytes.now) (sym c.deref.ensures.value) c.in-Ok.ensures.found))
    c.in-Ok-parse.ast c.in-Ok-parse.ensures.only c.in-Ok-parse.ensures.ends c.in-Ok-parse.ensures.first c.in-Ok-check.ensures.first

pub returns-clause-first : goal.returns-clause-first
returns-clause-first c =
    let ts = c.deref.result.now in
    types_first c.args.bytes.now c.in-Ok.list.items ts c.deref.ensures.value c.in-Ok.ensures.only c.in-Ok.ensures.refused
    (c.tokens_are_ended.ensures 0 c.args.bytes.now ts (subst (Tokens 0 c.args.bytes.now) (sym c.deref.ensures.value) c.in-Ok.ensures.found))
    c.in-Ok-parse.ast c.in-Ok-parse.ensures.only c.in-Ok-parse.ensures.ends c.in-Ok-parse.ensures.first c.in-Err-At-check.field-0 c.in-Err-At-check.place c.in-Err-At-check.kind
    c.place_at-in-Err-At-check.result c.in-Err-At-check.field-0-is
    (c.place_at-in-Err-At-check.ensures ∙ ap (place_at c.args.bytes.now) c.in-Err-At-check.place-is) c.in-Err-At-check.ensures.first

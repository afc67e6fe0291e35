use Rattle.std.proofs.Common.{rules, arith, ap, sym, ◌∙◌}
use Rattle.c_types.proofs.Rows.{call_is}
use Rattle.c_lower_scheme.specs.Mentions.{mentions}
use Rattle.c_lower_parts.proofs.Falls.{call_falls}
use Rattle.c_lower_parts.proofs.mention.+mentions.Goals as goal

pub mentions-any_mentions-requires : goal.mentions-any_mentions-requires
mentions-any_mentions-requires t c = (
  let h = call_falls c.args.e.now c.in-Call.field-0 c.in-Call.field-1 c.in-Call.field-2 c.in-Call.es c.deref.result.now c.in-Call.is (search rules) in
      let d = c.decreases in omega (arith, h, d),
  tt,
)

pub mentions-returns-in-Call : goal.mentions-returns-in-Call
mentions-returns-in-Call t c =
    c.any_mentions.ensures ∙ sym (ap (mentions c.args.local) (call_is c.args.e.now c.in-Call.field-0 c.in-Call.field-1 c.in-Call.field-2 c.in-Call.es c.deref.result.now c.in-Call.is (search rules)))

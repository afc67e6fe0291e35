use Rattle.std.proofs.Common.{rules, ◌≡◌, length, arith, ap, sym, ◌∙◌}
use Rattle.std.specs.String.{string_bytes, string_len}
use Rattle.std.proofs.lemmas.Bool.{eqb-true}
use Rattle.cmd_session.proofs.Commands.{two_words, named_length, named_parts, differs}
use Rattle.cmd_session.proofs.words.named.Goals as goal
use Rattle.cmd_session.proofs.words.named.Goals.{in_default-via-then-words-lt2, in_default-via-in-len2+then-eq+else-not-is_empty, in_default-via-in-len2+else-eq}
use Rattle.cmd_session.proofs.words.named.Goals.{in_default-via-else-words-lt2+else-words-lt3}

pub returns-in-len2-clause-some : goal.returns-in-len2-clause-some
returns-in-len2-clause-some c = record {
  words_are =
      two_words _ _ _ c.as_str.result.now _ _ c.in-len2.len_at_least c.in-len2.len_below c.first-item.is c.name-item.is
      c.as_str.ensures.value c.if-eq.ensures c.as_str-in-len2.ensures.value;
  named = search rules;
}

pub returns-in_default-clause-none : goal.returns-in_default-clause-none
returns-in_default-clause-none c = λ name h.
    let long : length c.args.words.now ≡ 2 = named_length c.args.words.now c.args.word.now name h in
    elim c.in_default.branch [
      | in_default-via-then-words-lt2 w ↦ search (rules, long)
      | in_default-via-in-len2+then-eq+else-not-is_empty w ↦
          let parts = named_parts _ _ _ _ _ w.in-len2.len_at_least w.in-len2.len_below w.first-item.is w.name-item.is h in
          let none : string_len w.name-item.result ≡ 0 = eqb-true _ _ (sym w.if-not-is_empty.ensures) in
          let same : length (string_bytes w.name-item.result) ≡ string_len w.name-item.result = search rules in
          omega (arith, h.named, none, same, ap length parts.1)
      | in_default-via-in-len2+else-eq w ↦
          let parts = named_parts _ _ _ _ _ w.in-len2.len_at_least w.in-len2.len_below w.first-item.is w.name-item.is h in
          differs w.as_str.result.now c.args.word.now w.if-eq.ensures (w.as_str.ensures.value ∙ parts.0)
      | in_default-via-else-words-lt2+else-words-lt3 w ↦ search (rules, long)
    ]

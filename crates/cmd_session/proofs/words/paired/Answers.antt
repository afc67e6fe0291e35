use Rattle.std.proofs.Common.{rules, ◌≡◌, length, arith, ap, sym, ◌∙◌, refl}
use Rattle.std.specs.String.{string_bytes, string_len}
use Rattle.std.proofs.lemmas.Bool.{eqb-true}
use Rattle.cmd_session.proofs.Commands.{three_words, paired_length, paired_parts, differs}
use Rattle.cmd_session.proofs.words.paired.Goals as goal
use Rattle.cmd_session.proofs.words.paired.Goals.{in_default-via-then-words-lt3, in_default-via-in-len3+then-eq+then-not-is_empty+else-not-is_empty-2}
use Rattle.cmd_session.proofs.words.paired.Goals.{in_default-via-in-len3+then-eq+else-not-is_empty, in_default-via-in-len3+else-eq, in_default-via-else-words-lt3+else-words-lt4}

pub returns-in-len3-clause-some : goal.returns-in-len3-clause-some
returns-in-len3-clause-some c = record {
  words_are =
      three_words _ _ _ _ c.as_str.result.now _ c.as_str-in-len3.result.now c.as_str-in-len3-2.result.now _ c.in-len3.len_at_least c.in-len3.len_below
      c.first-item.is c.one-item.is c.other-item.is
      c.as_str.ensures.value c.if-eq.ensures c.as_str-in-len3.ensures.value c.as_str-in-len3-2.ensures.value refl;
  first_named = search rules;
  second_named = search rules;
}

pub returns-in_default-clause-none : goal.returns-in_default-clause-none
returns-in_default-clause-none c = λ one other h.
    let long : length c.args.words.now ≡ 3 = paired_length c.args.words.now c.args.word.now one other h in
    elim c.in_default.branch [
      | in_default-via-then-words-lt3 w ↦ search (rules, long)
      | in_default-via-in-len3+then-eq+then-not-is_empty+else-not-is_empty-2 w ↦
          let parts = paired_parts _ _ _ _ _ _ _ w.in-len3.len_at_least w.in-len3.len_below w.first-item.is w.one-item.is w.other-item.is h in
          let none : string_len w.other-item.result ≡ 0 = eqb-true _ _ (sym w.if-not-is_empty-2.ensures) in
          let same : length (string_bytes w.other-item.result) ≡ string_len w.other-item.result = search rules in
          omega (arith, h.second_named, none, same, ap length parts.2)
      | in_default-via-in-len3+then-eq+else-not-is_empty w ↦
          let parts = paired_parts _ _ _ _ _ _ _ w.in-len3.len_at_least w.in-len3.len_below w.first-item.is w.one-item.is w.other-item.is h in
          let none : string_len w.one-item.result ≡ 0 = eqb-true _ _ (sym w.if-not-is_empty.ensures) in
          let same : length (string_bytes w.one-item.result) ≡ string_len w.one-item.result = search rules in
          omega (arith, h.first_named, none, same, ap length parts.1)
      | in_default-via-in-len3+else-eq w ↦
          let parts = paired_parts _ _ _ _ _ _ _ w.in-len3.len_at_least w.in-len3.len_below w.first-item.is w.one-item.is w.other-item.is h in
          differs w.as_str.result.now c.args.word.now w.if-eq.ensures (w.as_str.ensures.value ∙ parts.0)
      | in_default-via-else-words-lt3+else-words-lt4 w ↦ search (rules, long)
    ]

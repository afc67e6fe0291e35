use Rattle.std.proofs.Common.{rules, ◌≡◌, length, arith, ap, sym, ◌∙◌}
use Rattle.std.specs.String.{string_bytes, string_len}
use Rattle.std.proofs.lemmas.Bool.{eqb-true}
use Rattle.cmd_session.proofs.Commands.{three_words, counted_length, counted_parts, differs}
use Rattle.cmd_session.proofs.words.counted.Goals as goal
use Rattle.cmd_session.proofs.words.counted.Goals.{in_default-via-then-words-lt3, in_default-via-in-len3+then-eq+else-not-is_empty, in_default-via-in-len3+else-eq}
use Rattle.cmd_session.proofs.words.counted.Goals.{in_default-via-else-words-lt3+else-words-lt4}

pub returns-in_ok-count-in-len3-clause-some : goal.returns-in_ok-count-in-len3-clause-some
returns-in_ok-count-in-len3-clause-some c = record {
  words_are =
      three_words _ _ _ _ c.as_str.result.now _ c.as_str-in-len3-2.result.now c.as_str-in-len3.result.now _ c.in-len3.len_at_least c.in-len3.len_below
      c.first-item.is c.name-item.is c.count-item.is
      c.as_str.ensures.value c.if-eq.ensures c.as_str-in-len3-2.ensures.value c.as_str-in-len3.ensures.value
      c.in_ok-count-in-len3.ensures.spelled;
  named = search rules;
  counts = c.in_ok-count-in-len3.ensures.some;
}

pub returns-in_default-clause-none : goal.returns-in_default-clause-none
returns-in_default-clause-none c = λ name count h.
    let long : length c.args.words.now ≡ 3 = counted_length c.args.words.now c.args.word.now c.args.greatest name count h in
    elim c.in_default.branch [
      | in_default-via-then-words-lt3 w ↦ search (rules, long)
      | in_default-via-in-len3+then-eq+else-not-is_empty w ↦
          let parts = counted_parts _ _ _ _ _ _ _ _ w.in-len3.len_at_least w.in-len3.len_below w.first-item.is w.name-item.is w.count-item.is h in
          let none : string_len w.name-item.result ≡ 0 = eqb-true _ _ (sym w.if-not-is_empty.ensures) in
          let same : length (string_bytes w.name-item.result) ≡ string_len w.name-item.result = search rules in
          omega (arith, h.named, none, same, ap length parts.1)
      | in_default-via-in-len3+else-eq w ↦
          let parts = counted_parts _ _ _ _ _ _ _ _ w.in-len3.len_at_least w.in-len3.len_below w.first-item.is w.name-item.is w.count-item.is h in
          differs w.as_str.result.now c.args.word.now w.if-eq.ensures (w.as_str.ensures.value ∙ parts.0)
      | in_default-via-else-words-lt3+else-words-lt4 w ↦ search (rules, long)
    ]

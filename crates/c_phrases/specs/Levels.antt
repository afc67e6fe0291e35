-- Which levels an expression opens: each must be allowed.
use Rattle.std.specs.Prelude.{◌≡◌, ℕ, ◌+◌, Bool, true, nat_lt}
use Rattle.c_phrases.specs.Phrases.{AnExp, name, number, str, paren, call, index, step_after, step_before, prefix}
use Rattle.c_phrases.specs.Phrases.{sizeof_exp, sizeof_type, cast, binary, choice, assign, comma, SomeExps, no_exps}
use Rattle.c_phrases.specs.Phrases.{exps, after_exp}

module _ (L : ℕ → Bool) where
  abbrev mutual
    pub LowExp : AnExp → ℕ → Type 0
    LowExp (name x at) n = Unit {0}
    LowExp (number v at) n = Unit {0}
    LowExp (str b at) n = Unit {0}
    LowExp (paren o e) n = (L (n + 1) ≡ true) × LowExp e (n + 1)
    LowExp (call x at o es) n = (L (n + 2) ≡ true) × LowExps es (n + 2)
    LowExp (index e o i) n = LowExp e n × ((L (after_exp e n + 2) ≡ true) × LowExp i (after_exp e n + 2))
    LowExp (step_after e op at) n = LowExp e n × (L (after_exp e n + 1) ≡ true)
    LowExp (step_before op at e) n = (L (n + 1) ≡ true) × LowExp e (n + 1)
    LowExp (prefix op at e) n = (L (n + 1) ≡ true) × LowExp e (n + 1)
    LowExp (sizeof_exp at e) n = (L (n + 1) ≡ true) × LowExp e (n + 1)
    LowExp (sizeof_type at o t) n = (L (n + 1) ≡ true) × (L (n + 1 + 1) ≡ true)
    LowExp (cast o t e) n = (L (n + 1) ≡ true) × LowExp e (n + 1)
    LowExp (binary l op at r) n = LowExp l n × ((L (after_exp l n + 1) ≡ true) × LowExp r (after_exp l n + 1))
    LowExp (choice c at e d) n = LowExp c n × ((L (after_exp c n + 1) ≡ true)
        × (LowExp e (after_exp c n + 1) × LowExp d (after_exp e (after_exp c n + 1))))
    LowExp (assign p op at v) n = LowExp p n × ((L (after_exp p n + 1) ≡ true) × LowExp v (after_exp p n + 1))
    LowExp (comma l r) n = LowExp l n × ((L (after_exp l n + 1) ≡ true) × LowExp r (after_exp l n + 1))

    -- each argument is an expression of its own
    pub LowExps : SomeExps → ℕ → Type 0
    LowExps no_exps n = Unit {0}
    LowExps (exps e es) n = LowExp e n × LowExps es n

-- the parser's limit, and none
abbrev pub free : ℕ → Bool
free n = true

abbrev pub limit : ℕ → Bool
limit n = nat_lt n 201

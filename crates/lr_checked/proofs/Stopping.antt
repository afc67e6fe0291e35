-- How the parse ends that ends at the first stack that comes twice, and where it stops step by step.
use Rattle.std.proofs.Common.{◌≡◌, ◌⊎◌, ℕ, List, [], ◌∷◌, None, Contains, ⊎_elim}
use Rattle.md_reader.specs.declared.types.Rule.{Rule}
use Rattle.md_reader.specs.declared.types.Sym.{Sym}
use Rattle.lr_check.specs.declared.sample.Outcome.{Outcome}
use Rattle.lr_check.specs.declared.sample.Outcome.TheVariants as outcome
use Rattle.lr_check.specs.Tree.{Token}
use Rattle.lr_check.specs.Parse.{Part, symbols, Reduction, Ends, loops, accepts, shifts, reduces, blocks}
use Rattle.lr_check_drawn.specs.lr_check_samples.specs.Stops.{Moves, by_shift, by_rule, Comes, at_once, by_move, Turns, one_turn, more_turns}
use Rattle.lr_check.proofs.Contained.{nowhere_in, cons_cases}

module _ (rules : List Rule) (stmt : ℕ) where
  one_move : {ws us vs : List Token} {s a b : List Part} → Comes rules stmt ws s us a → Moves rules stmt us a vs b → Comes rules stmt ws s vs b
  one_move at_once m = by_move m at_once
  one_move (by_move n c) m = by_move n (one_move c m)

  one_turn_more : {ws : List Token} {s a b : List Part} → Turns rules stmt ws s a → Moves rules stmt ws a ws b → Turns rules stmt ws s b
  one_turn_more (one_turn n) m = more_turns n (one_turn m)
  one_turn_more (more_turns n r) m = more_turns n (one_turn_more r m)

  -- a parse that ends blocked comes to a stack at which nothing is taken
  pub record Nothing (w : List Token) : Type 0 where
    pub rest : List Token
    pub stack : List Part
    pub behind : List Part
    pub comes : Comes rules stmt w [] rest stack
    pub nothing : Reduction rules stmt rest stack None behind

  not_blocked_loop : (m n : ℕ) → outcome.Loops m ≡ outcome.Blocks n → ⊥
  not_blocked_loop m n e = cc

  not_blocked_done : (n : ℕ) → outcome.Done ≡ outcome.Blocks n → ⊥
  not_blocked_done n e = cc

  pub ends_blocked : {at : ℕ} {before : List (List Sym)} {ws : List Token} {s : List Part} {o : Outcome} → Ends rules stmt at before ws s o → (n : ℕ) → o ≡ outcome.Blocks n →
      (w : List Token) → Comes rules stmt w [] ws s → Nothing w
  ends_blocked {at = at} (loops h) n e w c = absurd (not_blocked_loop at n e)
  ends_blocked (accepts new f g) n e w c = absurd (not_blocked_done n e)
  ends_blocked (shifts new ne sb x) n e w c = ends_blocked x n e w (one_move c (by_shift ne sb))
  ends_blocked (reduces r new red there x) n e w c = ends_blocked x n e w (one_move c (by_rule r red there))
  ends_blocked (blocks {ws = ws} {s = s} {s' = u} new red) n e w c = record { rest = ws; stack = s; behind = u; comes = c; nothing = red }

  -- a stack that was there since the last shift
  pub record Was (w : List Token) (b : List Sym) (ws : List Token) (s : List Part) : Type 0 where
    pub first : List Part
    pub comes : Comes rules stmt w [] ws first
    pub turns : Turns rules stmt ws first s
    pub same : symbols first ≡ b

  pub record Twice (w : List Token) : Type 0 where
    pub rest : List Token
    pub first : List Part
    pub second : List Part
    pub comes : Comes rules stmt w [] rest first
    pub turns : Turns rules stmt rest first second
    pub same : symbols first ≡ symbols second

  not_looped_block : (m n : ℕ) → outcome.Blocks m ≡ outcome.Loops n → ⊥
  not_looped_block m n e = cc

  not_looped_done : (n : ℕ) → outcome.Done ≡ outcome.Loops n → ⊥
  not_looped_done n e = cc

  was_more : {w ws : List Token} {s u : List Part} (before : List (List Sym)) → Comes rules stmt w [] ws s → Moves rules stmt ws s ws u →
      ((b : List Sym) → Contains before b → Was w b ws s) → (b : List Sym) → Contains (symbols s ∷ before) b → Was w b ws u
  was_more {s = s} before c m was b there =
      ⊎_elim
      (λ e. record { first = s; comes = c; turns = one_turn m; same = e })
      (λ h. let k = was b h in record { first = k.first; comes = k.comes; turns = one_turn_more k.turns m; same = k.same })
      (cons_cases (symbols s) before b there)

  -- a parse that ends at a stack that came before comes to one stack twice without a shift between
  pub ends_looping : {at : ℕ} {before : List (List Sym)} {ws : List Token} {s : List Part} {o : Outcome} → Ends rules stmt at before ws s o → (n : ℕ) → o ≡ outcome.Loops n →
      (w : List Token) → Comes rules stmt w [] ws s → ((b : List Sym) → Contains before b → Was w b ws s) → Twice w
  ends_looping (loops {ws = ws} {s = s} h) n e w c was =
      let k = was (symbols s) h in
      record { rest = ws; first = k.first; second = s; comes = k.comes; turns = k.turns; same = k.same }
  ends_looping (accepts new f g) n e w c was = absurd (not_looped_done n e)
  ends_looping (shifts new ne sb x) n e w c was = ends_looping x n e w (one_move c (by_shift ne sb)) (λ b h. absurd (nowhere_in b h))
  ends_looping (reduces {before = before} r new red there x) n e w c was =
      ends_looping x n e w (one_move c (by_rule r red there)) (was_more before c (by_rule r red there) was)
  ends_looping {at = at} (blocks new red) n e w c was = absurd (not_looped_block at n e)

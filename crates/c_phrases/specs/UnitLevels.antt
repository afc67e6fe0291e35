-- The levels that declarations and statements open, where only some may be opened.
use Rattle.std.specs.Prelude.{◌≡◌, ℕ, ◌+◌, List, [], ◌∷◌, Option, Some, None, Bool, true}
use Rattle.c_phrases.specs.Phrases.{AnExp}
use Rattle.c_phrases.specs.Levels.{LowExp, LowExps}
use Rattle.c_phrases.specs.Units.{ALength, AnInit, value, elements, AnInitialised, ADeclarator, AStatement}
use Rattle.c_phrases.specs.Units.{block, empty, expression, break_off, continue_on, give_back, if_then, if_else}
use Rattle.c_phrases.specs.Units.{while_loop, do_loop, for_loop, SomeItems, no_items, local_item, statement_item}
use Rattle.c_phrases.specs.Units.{AParam, SomeParams, no_params, void_word, params, ADeclared, function, globals}
use Rattle.c_phrases.specs.Units.{AnExternal}

module _ (L : ℕ → Bool) where
  abbrev pub LowPart : Option AnExp → ℕ → Type 0
  LowPart None n = Unit {0}
  LowPart (Some e) n = LowExp L e n

  abbrev pub LowLength : Option ALength → ℕ → Type 0
  LowLength None n = Unit {0}
  LowLength (Some l) n = (L (n + 1) ≡ true) × LowPart l.value (n + 1)

  abbrev pub LowInit : AnInit → ℕ → Type 0
  LowInit (value e) n = LowExp L e n
  LowInit (elements es t) n = (L (n + 1) ≡ true) × LowExps L es (n + 1)

  abbrev pub LowInitialised : Option AnInitialised → ℕ → Type 0
  LowInitialised None n = Unit {0}
  LowInitialised (Some i) n = LowInit i.with_init n

  abbrev pub LowDeclarator : ADeclarator → ℕ → Type 0
  LowDeclarator d n = LowLength d.length n × LowInitialised d.init n

  abbrev pub LowDeclarators : List ADeclarator → ℕ → Type 0
  LowDeclarators [] n = Unit {0}
  LowDeclarators (d ∷ ds) n = LowDeclarator d n × LowDeclarators ds n

  abbrev pub LowCondition : AnExp → ℕ → Type 0
  LowCondition e n = (L (n + 1) ≡ true) × LowExp L e (n + 1)

  abbrev mutual
    pub LowStatement : AStatement → ℕ → Type 0
    LowStatement (block is) n = (L (n + 1) ≡ true) × LowItems is (n + 1)
    LowStatement empty n = Unit {0}
    LowStatement (expression e) n = LowExp L e n
    LowStatement (break_off at) n = Unit {0}
    LowStatement (continue_on at) n = Unit {0}
    LowStatement (give_back at e) n = LowPart e n
    LowStatement (if_then at o e s) n = (L (n + 1) ≡ true) × (LowCondition e (n + 1) × LowStatement s (n + 1))
    LowStatement (if_else at o e s other t) n = (L (n + 1) ≡ true) × (LowCondition e (n + 1)
        × (LowStatement s (n + 1) × LowStatement t (n + 1)))
    LowStatement (while_loop at o e s) n = (L (n + 1) ≡ true) × (LowCondition e (n + 1) × LowStatement s (n + 1))
    LowStatement (do_loop at s again o e) n = (L (n + 1) ≡ true) × (LowStatement s (n + 1) × LowCondition e (n + 1))
    LowStatement (for_loop at o a b c s) n = (L (n + 1) ≡ true) × ((L (n + 1 + 1) ≡ true)
        × (LowPart a (n + 1 + 1) × (LowPart b (n + 1 + 1) × (LowPart c (n + 1 + 1) × LowStatement s (n + 1)))))

    pub LowItems : SomeItems → ℕ → Type 0
    LowItems no_items n = Unit {0}
    LowItems (local_item l is) n = LowDeclarators l.declarators n × LowItems is n
    LowItems (statement_item s is) n = LowStatement s n × LowItems is n

  abbrev pub LowParams : List AParam → ℕ → Type 0
  LowParams [] n = Unit {0}
  LowParams (p ∷ ps) n = LowLength p.length n × LowParams ps n

  abbrev pub LowSomeParams : SomeParams → ℕ → Type 0
  LowSomeParams no_params n = Unit {0}
  LowSomeParams (void_word at) n = Unit {0}
  LowSomeParams (params ps) n = LowParams ps n

  abbrev pub LowBody : Option SomeItems → Type 0
  LowBody None = Unit {0}
  LowBody (Some is) = (L 1 ≡ true) × LowItems is 1

  abbrev pub LowDeclared : ADeclared → Type 0
  LowDeclared (function f) = (L 1 ≡ true) × (LowSomeParams f.params 1 × LowBody f.body)
  LowDeclared (globals ds) = LowDeclarators ds 0

  abbrev pub LowExternals : List AnExternal → Type 0
  LowExternals [] = Unit {0}
  LowExternals (x ∷ xs) = LowDeclared x.declared × LowExternals xs

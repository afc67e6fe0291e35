-- What typing asks of phrases beside their parts.
use Rattle.std.specs.Prelude.{ℕ, List, [], Option, Some, None}
use Rattle.c_phrases.specs.Phrases.{AnExp, name, number, str, paren, call, index, step_after, step_before, prefix}
use Rattle.c_phrases.specs.Phrases.{sizeof_exp, sizeof_type, cast, binary, choice, assign, comma}
use Rattle.c_phrases.specs.Units.{ALength, AnInit, AnInitialised, AParam, SomeParams, no_params, void_word, params}

-- the offset of the first token
unfoldable pub first : AnExp → ℕ
first (name n at) = at
first (number v at) = at
first (str b at) = at
first (paren o e) = o
first (call n at o es) = at
first (index e o i) = first e
first (step_after e op at) = first e
first (step_before op at e) = at
first (prefix op at e) = at
first (sizeof_exp at e) = at
first (sizeof_type at o t) = at
first (cast o t e) = o
first (binary l op at r) = first l
first (choice c at e d) = first c
first (assign p op at v) = first p
first (comma l r) = first l

-- the parameters of a heading; the word void alone is none
abbrev pub params_in : SomeParams → List AParam
params_in no_params = []
params_in (void_word at) = []
params_in (params ps) = ps

-- the initialiser behind its =
abbrev pub init_in : Option AnInitialised → Option AnInit
init_in None = None
init_in (Some i) = Some i.with_init

-- the length in brackets
abbrev pub brackets_in : Option ALength → Option (Option AnExp)
brackets_in None = None
brackets_in (Some l) = Some l.value

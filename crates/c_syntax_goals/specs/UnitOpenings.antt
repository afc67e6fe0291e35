-- The tokens of what stands at file level, each with the level that it opens.
use Rattle.std.specs.Prelude.{ℕ, ◌+◌, List, [], ◌∷◌, map, Option, Some, None}
use Rattle.c_tokens.specs.declared.token.Token.TheVariants as token
use Rattle.c_tokens.specs.declared.words.Key.TheVariants as keys
use Rattle.c_tokens.specs.declared.marks.Mark.TheVariants as marks
use Rattle.c_phrases.specs.declared.tree.Named.{Named}
use Rattle.c_phrases.specs.Classes.{Placed, word, sign}
use Rattle.c_phrases.specs.Units.{SomeItems, AParam, SomeParams, no_params}
use Rattle.c_phrases.specs.Units.{void_word, params, ADeclared, function, globals, AnExternal, AUnit}
use Rattle.c_syntax_goals.specs.Openings.{Opening, opens, plain, levelled_spec, levelled_stars, levelled_name}
use Rattle.c_syntax_goals.specs.StatementOpenings.{levelled_length, levelled_declarators, levelled_items}

abbrev pub levelled_named : Option Named → List Opening → List Opening
levelled_named None w = w
levelled_named (Some n) w = levelled_name n.name n.at w

abbrev pub levelled_param : AParam → ℕ → List Opening → List Opening
levelled_param p n w = levelled_spec p.spec (levelled_stars p.stars (levelled_named p.name (levelled_length p.length n w)))

abbrev pub levelled_more_params : List AParam → ℕ → List Opening → List Opening
levelled_more_params [] n w = w
levelled_more_params (p ∷ ps) n w = plain (sign marks.Comma 0) ∷ levelled_param p n (levelled_more_params ps n w)

abbrev pub levelled_param_list : List AParam → ℕ → List Opening → List Opening
levelled_param_list [] n w = w
levelled_param_list (p ∷ ps) n w = levelled_param p n (levelled_more_params ps n w)

abbrev pub levelled_params : SomeParams → ℕ → List Opening → List Opening
levelled_params no_params n w = w
levelled_params (void_word at) n w = plain (word keys.Void at) ∷ w
levelled_params (params ps) n w = levelled_param_list ps n w

abbrev pub levelled_body : Option SomeItems → ℕ → List Opening → List Opening
levelled_body None n w = plain (sign marks.Semicolon 0) ∷ w
levelled_body (Some is) n w = opens (n + 1) (sign marks.OpenBrace 0) ∷ levelled_items is (n + 1) (plain (sign marks.CloseBrace 0) ∷ w)

abbrev pub levelled_declared : ADeclared → ℕ → List Opening → List Opening
levelled_declared (function f) n w = levelled_stars f.stars (levelled_name f.name f.at
    (opens (n + 1) (sign marks.OpenParenthesis f.opened) ∷ levelled_params f.params (n + 1)
    (plain (sign marks.CloseParenthesis 0) ∷ levelled_body f.body n w)))
levelled_declared (globals ds) n w = levelled_declarators ds n (plain (sign marks.Semicolon 0) ∷ w)

abbrev pub levelled_static : Option ℕ → List Opening → List Opening
levelled_static None w = w
levelled_static (Some at) w = plain (word keys.Static at) ∷ w

abbrev pub levelled_external : AnExternal → ℕ → List Opening → List Opening
levelled_external x n w = levelled_static x.static_at (levelled_spec x.spec (levelled_declared x.declared n w))

abbrev pub levelled_externals : List AnExternal → ℕ → List Opening → List Opening
levelled_externals [] n w = w
levelled_externals (x ∷ xs) n w = levelled_external x n (levelled_externals xs n w)

-- The tokens of a unit, each with the level that it opens. Units begin at level 0.
abbrev pub levelled : AUnit → List Opening
levelled u = levelled_externals u.externals 0 (plain (record { kind = token.End; at = u.end }) ∷ [])

-- The tokens alone.
abbrev pub tokens_of : List Opening → List Placed
tokens_of ts = map (λ (t : Opening). t.token) ts

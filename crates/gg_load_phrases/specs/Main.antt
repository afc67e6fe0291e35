-- The phrases of `main` in a generated source, line by line.
use Rattle.std.specs.Prelude.{ℕ, zero, suc, [], codes, Some, None}
use Rattle.c_phrases.specs.declared.operator.BinaryOperator.TheVariants.{Add, And, ShiftRight}
use Rattle.c_phrases.specs.declared.operator.AssignOperator.TheVariants.{Assign}
use Rattle.c_phrases.specs.declared.operator.Spec.TheVariants.{Int}
use Rattle.c_phrases.specs.Phrases.{AnExp, name, number, paren, call, binary, assign, no_exps, exps}
use Rattle.c_phrases.specs.Units.{AStatement, block, SomeItems, no_items, local_item, statement_item, expression}
use Rattle.c_phrases.specs.Units.{give_back, while_loop, no_params, AFunction, function, AnExternal}
use Rattle.gg_load_tokens.specs.Words.{place, behind}
use Rattle.gg_load_tokens.specs.Lines.{function_name, call_words, words_up_to}
use Rattle.gg_load_phrases.specs.Functions.{Places, plain_local}

-- s=f(s+i)
abbrev pub call_of : ℕ → Places → AnExp
call_of i p =
    assign (name (codes "s") (p 0)) Assign (p 1)
    (call (function_name i) (p 2) (p 3) (exps (binary (name (codes "s") (p 4)) Add (p 5) (number i (p 6))) no_exps))

-- the offsets of the words of call i, where the first call's line stands at `at`
abbrev pub call_places : ℕ → ℕ → Places
call_places at i = place (behind at (words_up_to call_words i)) (call_words i)

-- the calls of the functions 0, 1, .. n - 1, in front of what follows
abbrev pub onto_calls : ℕ → ℕ → SomeItems → SomeItems
onto_calls at zero is = is
onto_calls at (suc n) is = onto_calls at n (statement_item (expression (call_of n (call_places at n))) is)

-- putchar(65+(s&15))
abbrev pub put_letter : Places → AnExp
put_letter p =
    call (codes "putchar") (p 5) (p 6)
    (exps (binary (number 65 (p 7)) Add (p 8) (paren (p 9) (binary (name (codes "s") (p 10)) And (p 11) (number 15 (p 12))))) no_exps)

-- s=(s>>4)&268435455
abbrev pub shift : Places → AnExp
shift p =
    assign (name (codes "s") (p 16)) Assign (p 17)
    (binary (paren (p 18) (binary (name (codes "s") (p 19)) ShiftRight (p 20) (number 4 (p 21)))) And (p 23) (number 268435455 (p 24)))

abbrev pub letters : Places → AStatement
letters p =
    while_loop (p 0) (p 1) (name (codes "s") (p 2))
    (block (statement_item (expression (put_letter p)) (statement_item (expression (shift p)) no_items)))

-- putchar(10);return 0;
abbrev pub ending : Places → SomeItems
ending p =
    statement_item (expression (call (codes "putchar") (p 0) (p 1) (exps (number 10 (p 2)) no_exps)))
    (statement_item (give_back (p 5) (Some (number 0 (p 7)))) no_items)

-- int s;s=1; in front of what follows
abbrev pub beginning : Places → SomeItems → SomeItems
beginning p is =
    local_item (plain_local (p 6) (codes "s") (p 8))
    (statement_item (expression (assign (name (codes "s") (p 10)) Assign (p 11) (number 1 (p 12)))) is)

abbrev pub main_of : Places → SomeItems → AFunction
main_of p is = record { stars = []; name = codes "main"; at = p 2; opened = p 3; params = no_params; body = Some (beginning p is) }

abbrev pub main_external : Places → SomeItems → AnExternal
main_external p is = record { static_at = None; spec = Int (p 0); declared = function (main_of p is) }

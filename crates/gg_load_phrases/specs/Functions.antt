-- The phrases of a generated source up to `main`. Each definition is given the offsets of its line's words, by their numbers.
use Rattle.std.specs.Prelude.{ℕ, zero, suc, ◌+◌, ◌*◌, List, [], ◌∷◌, codes, Some, None}
use Rattle.c_phrases.specs.declared.operator.BinaryOperator.TheVariants.{Multiply, Add, And, Xor, ShiftRight}
use Rattle.c_phrases.specs.declared.operator.AssignOperator.TheVariants.{Assign}
use Rattle.c_phrases.specs.declared.operator.Spec.TheVariants.{Int}
use Rattle.c_phrases.specs.declared.operator.Storage.TheVariants.{Automatic}
use Rattle.c_phrases.specs.Phrases.{AnExp, name, number, paren, index, binary, assign}
use Rattle.c_phrases.specs.Units.{ADeclarator, ALocal, SomeItems, no_items, local_item, statement_item, expression}
use Rattle.c_phrases.specs.Units.{give_back, AParam, params, AFunction, function, globals, AnExternal}
use Rattle.gg_load_tokens.specs.Words.{place, behind}
use Rattle.gg_load_tokens.specs.Lines.{function_name, function_words, words_up_to}

-- the offsets of the words of a line, by their numbers
abbrev pub Places : Type 0
Places = ℕ → ℕ

-- int t[64];
abbrev pub table : Places → ADeclarator
table p =
    record {
      stars = [];
      name = codes "t";
      at = p 2;
      length = Some (record { opened = p 3; value = Some (number 64 (p 4)) });
      init = None;
    }

abbrev pub first_external : Places → AnExternal
first_external p = record { static_at = None; spec = Int (p 0); declared = globals (table p ∷ []) }

-- a variable without an initialiser
abbrev pub plain : List ℕ → ℕ → ADeclarator
plain n at = record { stars = []; name = n; at = at; length = None; init = None }

abbrev pub plain_local : ℕ → List ℕ → ℕ → ALocal
plain_local word n at = record { storage = Automatic; spec = Int word; declarators = plain n at ∷ [] }

-- y=x*2i+1+i
abbrev pub product : ℕ → Places → AnExp
product i p =
    assign (name (codes "y") (p 13)) Assign (p 14)
    (binary (binary (name (codes "x") (p 15)) Multiply (p 16) (number (2 * i + 1) (p 17))) Add (p 18) (number i (p 19)))

-- t[n&63], whose words begin at this number
abbrev pub element : List ℕ → Places → ℕ → AnExp
element n p word =
    index (name (codes "t") (p word)) (p (word + 1)) (binary (name n (p (word + 2))) And (p (word + 3)) (number 63 (p (word + 4))))

-- t[x&63]=t[y&63]+y
abbrev pub exchange : Places → AnExp
exchange p =
    assign (element (codes "x") p 21) Assign (p 27) (binary (element (codes "y") p 28) Add (p 34) (name (codes "y") (p 35)))

-- y^(y>>3)
abbrev pub answer : Places → AnExp
answer p =
    binary (name (codes "y") (p 39)) Xor (p 40) (paren (p 41) (binary (name (codes "y") (p 42)) ShiftRight (p 43) (number 3 (p 44))))

abbrev pub body : ℕ → Places → SomeItems
body i p =
    local_item (plain_local (p 9) (codes "y") (p 11))
    (statement_item (expression (product i p))
    (statement_item (expression (exchange p))
    (statement_item (give_back (p 37) (Some (answer p))) no_items)))

abbrev pub parameter : Places → AParam
parameter p = record { spec = Int (p 4); stars = []; name = Some (record { name = codes "x"; at = p 6 }); length = None }

abbrev pub function_of : ℕ → Places → AFunction
function_of i p =
    record {
      stars = [];
      name = function_name i;
      at = p 2;
      opened = p 3;
      params = params (parameter p ∷ []);
      body = Some (body i p);
    }

abbrev pub function_external : ℕ → Places → AnExternal
function_external i p = record { static_at = None; spec = Int (p 0); declared = function (function_of i p) }

-- the offsets of the words of function i, where the first function's line stands at `at`
abbrev pub function_places : ℕ → ℕ → Places
function_places at i = place (behind at (words_up_to function_words i)) (function_words i)

-- the functions 0, 1, .. n - 1, in front of what follows
abbrev pub onto_functions : ℕ → ℕ → List AnExternal → List AnExternal
onto_functions at zero xs = xs
onto_functions at (suc n) xs = onto_functions at n (function_external n (function_places at n) ∷ xs)

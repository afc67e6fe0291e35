-- The phrases of a generated source are the grammar's, and open few levels.
use Rattle.std.proofs.Common.{◌≤◌, ℕ, zero, suc, List, ◌∷◌, refl, arith, codes}
use Rattle.c_phrases.specs.Phrases.{IsAt}
use Rattle.c_phrases.specs.Levels.{LowExp, limit}
use Rattle.c_phrases.specs.Units.{SomeItems, statement_item, AnExternal}
use Rattle.c_phrases.specs.Fits.{StatementFits, ItemsFit, DeclaredFits, ExternalsFit}
use Rattle.c_phrases.specs.UnitLevels.{LowStatement, LowItems, LowDeclared, LowExternals}
use Rattle.gg_load_phrases.specs.Functions.{Places, first_external, product, element, exchange, answer, body, function_external, function_places, onto_functions}
use Rattle.gg_load_phrases.specs.Main.{call_of, call_places, onto_calls, put_letter, shift, letters, ending, main_external}

-- the grammar's levels of an expression
element_is : (n : List ℕ) (p : Places) (word k : ℕ) → k ≤ 15 → IsAt k (element n p word)
element_is n p word k low = (low, (tt, (omega arith, (tt, tt))))

product_is : (i : ℕ) (p : Places) → IsAt 0 (product i p)
product_is i p = (omega arith, (tt, (omega arith, ((omega arith, (tt, tt)), tt))))

exchange_is : (p : Places) → IsAt 0 (exchange p)
exchange_is p =
    (omega arith, (element_is (codes "x") p 21 14 (omega arith), (omega arith, (element_is (codes "y") p 28 11 (omega arith), tt))))

answer_is : (p : Places) → IsAt 0 (answer p)
answer_is p = (omega arith, (tt, (omega arith, (tt, tt))))

body_fits : (i : ℕ) (p : Places) → ItemsFit (body i p)
body_fits i p = ((tt, ((tt, tt), tt)), (product_is i p, (exchange_is p, (answer_is p, tt))))

pub first_fits : (p : Places) → DeclaredFits (first_external p).declared
first_fits p = (tt, ((tt, tt), tt))

pub function_fits : (i : ℕ) (p : Places) → DeclaredFits (function_external i p).declared
function_fits i p = ((tt, λ b. b.0), body_fits i p)

pub functions_fit : (at n : ℕ) (xs : List AnExternal) → ExternalsFit xs → ExternalsFit (onto_functions at n xs)
functions_fit at zero xs h = h
functions_fit at (suc n) xs h =
    functions_fit at n (function_external n (function_places at n) ∷ xs) (function_fits n (function_places at n), h)

call_is : (i : ℕ) (p : Places) → IsAt 0 (call_of i p)
call_is i p = (omega arith, (tt, ((omega arith, (tt, tt)), tt)))

pub calls_fit : (at n : ℕ) (is : SomeItems) → ItemsFit is → ItemsFit (onto_calls at n is)
calls_fit at zero is h = h
calls_fit at (suc n) is h = calls_fit at n (statement_item _ is) (call_is n (call_places at n), h)

put_letter_is : (p : Places) → IsAt 0 (put_letter p)
put_letter_is p = ((omega arith, (tt, (omega arith, (tt, tt)))), tt)

shift_is : (p : Places) → IsAt 0 (shift p)
shift_is p = (omega arith, (tt, (omega arith, ((omega arith, (tt, tt)), tt))))

pub letters_fit : (p : Places) → StatementFits (letters p)
letters_fit p = (tt, (put_letter_is p, (shift_is p, tt)))

pub ending_fits : (p : Places) → ItemsFit (ending p)
ending_fits p = ((tt, tt), (tt, tt))

pub main_fits : (p : Places) (is : SomeItems) → ItemsFit is → DeclaredFits (main_external p is).declared
main_fits p is h = (tt, ((tt, ((tt, tt), tt)), ((omega arith, (tt, tt)), h)))

-- the levels that are opened
product_low : (i : ℕ) (p : Places) → LowExp limit (product i p) 1
product_low i p = (tt, (refl, ((tt, (refl, tt)), (refl, tt))))

exchange_low : (p : Places) → LowExp limit (exchange p) 1
exchange_low p = ((tt, (refl, (tt, (refl, tt)))), (refl, ((tt, (refl, (tt, (refl, tt)))), (refl, tt))))

answer_low : (p : Places) → LowExp limit (answer p) 1
answer_low p = (tt, (refl, (refl, (tt, (refl, tt)))))

pub first_low : (p : Places) → LowDeclared limit (first_external p).declared
first_low p = (((refl, tt), tt), tt)

pub function_low : (i : ℕ) (p : Places) → LowDeclared limit (function_external i p).declared
function_low i p = (refl, ((tt, tt), (refl, (((tt, tt), tt), (product_low i p, (exchange_low p, (answer_low p, tt)))))))

pub functions_low : (at n : ℕ) (xs : List AnExternal) → LowExternals limit xs → LowExternals limit (onto_functions at n xs)
functions_low at zero xs h = h
functions_low at (suc n) xs h =
    functions_low at n (function_external n (function_places at n) ∷ xs) (function_low n (function_places at n), h)

call_low : (i : ℕ) (p : Places) → LowExp limit (call_of i p) 1
call_low i p = (tt, (refl, (refl, ((tt, (refl, tt)), tt))))

pub calls_low : (at n : ℕ) (is : SomeItems) → LowItems limit is 1 → LowItems limit (onto_calls at n is) 1
calls_low at zero is h = h
calls_low at (suc n) is h = calls_low at n (statement_item _ is) (call_low n (call_places at n), h)

put_letter_low : (p : Places) → LowExp limit (put_letter p) 3
put_letter_low p = (refl, ((tt, (refl, (refl, (tt, (refl, tt))))), tt))

shift_low : (p : Places) → LowExp limit (shift p) 3
shift_low p = (tt, (refl, ((refl, (tt, (refl, tt))), (refl, tt))))

pub letters_low : (p : Places) → LowStatement limit (letters p) 1
letters_low p = (refl, ((refl, tt), (refl, (put_letter_low p, (shift_low p, tt)))))

pub ending_low : (p : Places) → LowItems limit (ending p) 1
ending_low p = ((refl, (tt, tt)), (tt, tt))

pub main_low : (p : Places) (is : SomeItems) → LowItems limit is 1 → LowDeclared limit (main_external p is).declared
main_low p is h = (refl, (tt, (refl, (((tt, tt), tt), ((tt, (refl, tt)), h)))))

-- A generated source of at most 1,000 functions is within the limit of a source.
use Rattle.std.proofs.Common.{ℕ, zero, suc, ◌+◌, ◌*◌, ◌≤◌, ◌<◌, List, length, arith, decimal, length-append}
use Rattle.std.proofs.lemmas.Fmt.{length-decimal-le}
use Rattle.gg_load.specs.Source.{up_to, function_line, call_line, source_text}

short : (n : ℕ) → n < 10000 → length (decimal n) ≤ 4
short n low = length-decimal-le 4 n (omega arith) (omega (arith, low)) (omega (arith, low))

function_short : (i : ℕ) → i < 1000 → length (function_line i) ≤ 100
function_short i low =
    let one = short i (omega (arith, low)) in
    let two = short (2 * i + 1) (omega (arith, low)) in
    grind (arith, length-append)

call_short : (i : ℕ) → i < 1000 → length (call_line i) ≤ 100
call_short i low =
    let one = short i (omega (arith, low)) in
    grind (arith, length-append)

lines_short : (line : ℕ → List ℕ) → ((i : ℕ) → i < 1000 → length (line i) ≤ 100) → (n : ℕ) → n ≤ 1000 → length (up_to line n) ≤ 100 * n
lines_short line each zero low = omega arith
lines_short line each (suc n) low =
    let rest = lines_short line each n (omega (arith, low)) in
    let last = each n (omega (arith, low)) in
    let both = length-append (up_to line n) (line n) in
    omega (arith, rest, last, both)

pub within : (k : ℕ) → k ≤ 1000 → length (source_text k) ≤ 1048576
within k low =
    let functions = lines_short function_line function_short k low in
    let calls = lines_short call_line call_short k low in
    grind (arith, length-append)

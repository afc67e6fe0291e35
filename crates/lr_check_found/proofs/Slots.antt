-- No two places have one slot.
use Rattle.std.proofs.Common.{◌≡◌, ℕ, ◌+◌, ◌*◌, ◌<◌, ap, ◌∙◌, arith}
use Rattle.tree_core.specs.declared.token.Tok.{Tok}
use Rattle.lr_tables.specs.Symbols.{number}
use Rattle.lr_tables.proofs.Symbols_apart.{number_same, number-below}
use Rattle.lr_check_found.specs.declared.places.Place.{Place}
use Rattle.lr_check_found.specs.Found.{slot, place_of}

upper : (a b c d : ℕ) → b < 40 → d < 40 → a * 40 + b ≡ c * 40 + d → a ≡ c
upper a b c d l k e = omega arith

lower : (a b c d : ℕ) → b < 40 → d < 40 → a * 40 + b ≡ c * 40 + d → b ≡ d
lower a b c d l k e = omega arith

-- two places
pub same_place : (x y : Place) → x.state ≡ y.state → number x.token ≡ number y.token → number x.behind ≡ number y.behind → x ≡ y
same_place x y s t b =
    let token : x.token ≡ y.token = number_same x.token y.token t in
    let behind : x.behind ≡ y.behind = number_same x.behind y.behind b in
    ap (λ (q : ℕ). place_of q x.token x.behind) s ∙ (ap (λ (k : Tok). place_of y.state k x.behind) token ∙ ap (λ (k : Tok). place_of y.state y.token k) behind)

pub one_slot : (x y : Place) → slot x ≡ slot y → x ≡ y
one_slot x y e =
    let pair : x.state * 40 + number x.token ≡ y.state * 40 + number y.token =
    upper (x.state * 40 + number x.token) (number x.behind) (y.state * 40 + number y.token) (number y.behind) (number-below x.behind) (number-below y.behind) e in
    same_place x y (upper x.state (number x.token) y.state (number y.token) (number-below x.token) (number-below y.token) pair)
    (lower x.state (number x.token) y.state (number y.token) (number-below x.token) (number-below y.token) pair)
    (lower (x.state * 40 + number x.token) (number x.behind) (y.state * 40 + number y.token) (number y.behind) (number-below x.behind) (number-below y.behind) e)

-- The forms of a rule's lines, over their words: `rule`, `if`, `do` and `give`.
use Rattle.std.specs.Prelude.{ℕ, Bool, true, false, ◌||◌, ◌&&◌, List, [], ◌∷◌, Option, Some, None, codes, ℤ}
use Rattle.std.specs.Prelude.{if◌then◌else◌}
use Rattle.std.specs.Option.{option_map}
use Rattle.md_reader_text.specs.Words.{words, same}
use Rattle.md_reader_text.specs.Numbers.{number, integer}
use Rattle.md_reader.specs.declared.types.Restriction.{Restriction}
use Rattle.md_reader.specs.declared.types.Restriction.TheVariants as restriction
use Rattle.md_reader.specs.declared.types.Give.{Give}
use Rattle.md_reader.specs.declared.types.Give.TheVariants as give
use Rattle.md_types.specs.declared.types.ExpandedLine.{ExpandedLine}
use Rattle.md_types.specs.Forms.{is_skipped}

-- `rule CLASS : SYMBOL ..`
abbrev pub rule_form : List (List ℕ) → Option (List ℕ × List (List ℕ))
rule_form (a ∷ class ∷ colon ∷ s ∷ ss) = if same a (codes "rule") && same colon (codes ":") then Some (class, s ∷ ss) else None
rule_form ws = None

-- the number of a symbol; all from 255 on are 255
abbrev pub symbol_number : List ℕ → Option ℕ
symbol_number w = number 255 w

abbrev pub same_form : Option ℕ → Option ℕ → Option Restriction
same_form (Some i) (Some j) = Some (restriction.Same i j)
same_form a b = None

abbrev pub range_form : Option ℕ → Option ℤ → Option ℤ → Option Restriction
range_form (Some i) (Some lo) (Some hi) = Some (restriction.Range i lo hi)
range_form a b c = None

-- `same I J`, `range I LO HI`, `signed I`
abbrev pub restriction_form : List (List ℕ) → Option Restriction
restriction_form (k ∷ a ∷ []) = if same k (codes "signed") then option_map restriction.Signed (symbol_number a) else None
restriction_form (k ∷ a ∷ b ∷ []) = if same k (codes "same") then same_form (symbol_number a) (symbol_number b) else None
restriction_form (k ∷ a ∷ b ∷ c ∷ []) = if same k (codes "range") then range_form (symbol_number a) (integer b) (integer c) else None
restriction_form ws = None

-- `if RESTRICTION`
abbrev pub if_form : List (List ℕ) → Option Restriction
if_form [] = None
if_form (a ∷ ws) = if same a (codes "if") then restriction_form ws else None

-- `do LINE`
abbrev pub do_form : List (List ℕ) → Option (List (List ℕ))
do_form [] = None
do_form (a ∷ ws) = if same a (codes "do") then Some ws else None

-- `give WORD`
abbrev pub give_form : List (List ℕ) → Option (List ℕ)
give_form (a ∷ w ∷ []) = if same a (codes "give") then Some w else None
give_form ws = None

-- what a rule gives, unless it is an operand
abbrev pub plain_give : List ℕ → Option Give
plain_give w =
    if same w (codes "fresh") then Some give.Fresh
    else if same w (codes "reuse") then Some give.Reuse
    else if same w (codes "scratch") then Some give.Scratch
    else if same w (codes "nothing") then Some give.Nothing else None

-- whether a rule that gives this has a register of its own
abbrev pub has_register : Option Give → Bool
has_register (Some give.Fresh) = true
has_register (Some give.Reuse) = true
has_register (Some give.Scratch) = true
has_register g = false

abbrev pub gives_register : Option (List ℕ) → Bool
gives_register None = true
gives_register (Some w) = has_register (plain_give w)

-- an `if` or a `do` line, or a line that says nothing
abbrev pub is_passed : List (List ℕ) → Bool
is_passed [] = true
is_passed (a ∷ ws) = is_skipped (a ∷ ws) || (same a (codes "if") || same a (codes "do"))

-- whether `%0` may stand in the template of the rule in front of these lines: no `give` line of
-- another kind follows
abbrev pub register_behind : List ExpandedLine → Bool
register_behind [] = true
register_behind (l ∷ ls) = if is_passed (words l.bytes) then register_behind ls else gives_register (give_form (words l.bytes))

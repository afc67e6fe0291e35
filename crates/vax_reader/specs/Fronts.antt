-- What stands at the front of some bytes, and what is left behind it: words, numbers, names and registers. This file,
-- Operands, Lines and Kinds compute as the reader does; what its answers mean is in Grammar and WrongLine.
use Rattle.std.specs.Prelude.{ℕ, ◌-◌, ◌^◌, Bool, false, ◌==◌, nat_le, nat_lt, List, [], ◌∷◌, take, drop, Option}
use Rattle.std.specs.Prelude.{Some, None, if◌then◌else◌, codes}
use Rattle.std.specs.Char.{is_ascii_digit}
use Rattle.std.specs.Str.Parse.{digits_value}
use Rattle.std.specs.Option.{option_and_then, option_map, option_map_or}
use Rattle.gg_base.specs.Fronts.{run_len}
use Rattle.gg_base.specs.Names.{is_name_part}
use Rattle.vax_core.specs.declared.register.Reg.{Reg}
use Rattle.vax_core.specs.declared.register.Reg.TheVariants as regs
use Rattle.vax_core.specs.Valid.{is_name_start}

-- what is left behind a word that stands at the front
abbrev pub strip : List ℕ → List ℕ → Option (List ℕ)
strip [] bytes = Some bytes
strip (c ∷ cs) [] = None
strip (c ∷ cs) (b ∷ bs) = if b == c then strip cs bs else None

-- a zero stands before other digits
abbrev pub is_padded : List ℕ → Bool
is_padded [] = false
is_padded (c ∷ []) = false
is_padded (c ∷ (d ∷ ds)) = c == 48

-- the number up to 2147483648 that has these digits as its spelling
abbrev pub number_of : List ℕ → List ℕ → Option (ℕ × List ℕ)
number_of [] rest = None
number_of (d ∷ ds) rest =
    if is_padded (d ∷ ds) then None
    else if nat_lt (2 ^ 31) (digits_value 10 (d ∷ ds)) then None else Some (digits_value 10 (d ∷ ds), rest)

-- the number without sign whose digits are those at the front
unfoldable pub number_front : List ℕ → Option (ℕ × List ℕ)
number_front bytes = number_of (take (run_len is_ascii_digit bytes) bytes) (drop (run_len is_ascii_digit bytes) bytes)

-- a number that is no more than a limit, and one that is also no less than another
abbrev pub at_most : ℕ → ℕ × List ℕ → Option (ℕ × List ℕ)
at_most limit x = if nat_le x.0 limit then Some x else None

abbrev pub at_least : ℕ → ℕ × List ℕ → Option (ℕ × List ℕ)
at_least limit x = if nat_le limit x.0 then Some x else None

abbrev pub up_to : ℕ → List ℕ → Option (ℕ × List ℕ)
up_to limit bytes = option_and_then (at_most limit) (number_front bytes)

abbrev pub from_one : ℕ → List ℕ → Option (ℕ × List ℕ)
from_one limit bytes = option_and_then (at_least 1) (up_to limit bytes)

-- the same below zero, on 32 bits
abbrev pub below_zero : ℕ → List ℕ → Option (ℕ × List ℕ)
below_zero limit bytes = option_map (λ (x : ℕ × List ℕ). (2 ^ 32 - x.0, x.1)) (from_one limit bytes)

abbrev pub minus_front : ℕ → List ℕ → Option (ℕ × List ℕ)
minus_front limit bytes = option_and_then (below_zero limit) (strip (codes "-") bytes)

-- a number with its sign, on 32 bits
unfoldable pub signed_front : List ℕ → Option (ℕ × List ℕ)
signed_front bytes = option_map_or (at_most 2147483647) (number_front bytes) (minus_front 2147483648 bytes)

-- an offset behind a name, which may be missing
unfoldable pub offset_front : List ℕ → Option (ℕ × List ℕ)
offset_front bytes =
    option_map_or (from_one 2147483647) (strip (codes "+") bytes)
    (option_map_or (below_zero 2147483647) (strip (codes "-") bytes) (Some (0, bytes)))

-- a name of at most 64 bytes
abbrev pub name_of : ℕ → List ℕ → ℕ → Option (List ℕ × List ℕ)
name_of c cs len = if nat_le len 63 then Some (c ∷ take len cs, drop len cs) else None

abbrev pub name_front : List ℕ → Option (List ℕ × List ℕ)
name_front [] = None
name_front (c ∷ cs) = if is_name_start c then name_of c cs (run_len is_name_part cs) else None

-- the general register of this number
abbrev pub general : ℕ → Option Reg
general n =
    if n == 0 then Some regs.R0
    else if n == 1 then Some regs.R1
    else if n == 2 then Some regs.R2
    else if n == 3 then Some regs.R3
    else if n == 4 then Some regs.R4
    else if n == 5 then Some regs.R5
    else if n == 6 then Some regs.R6
    else if n == 7 then Some regs.R7
    else if n == 8 then Some regs.R8
    else if n == 9 then Some regs.R9
    else if n == 10 then Some regs.R10
    else if n == 11 then Some regs.R11
    else None

abbrev pub numbered : ℕ × List ℕ → Option (Reg × List ℕ)
numbered x = option_map (λ (r : Reg). (r, x.1)) (general x.0)

abbrev pub general_front : List ℕ → Option (Reg × List ℕ)
general_front bytes = option_and_then numbered (number_front bytes)

abbrev pub found_reg : Reg → List ℕ → Option (Reg × List ℕ)
found_reg r rest = Some (r, rest)

-- a register
unfoldable pub reg_front : List ℕ → Option (Reg × List ℕ)
reg_front bytes =
    option_map_or general_front (strip (codes "r") bytes)
    (option_map_or (found_reg regs.Ap) (strip (codes "ap") bytes)
    (option_map_or (found_reg regs.Fp) (strip (codes "fp") bytes)
    (option_and_then (found_reg regs.Sp) (strip (codes "sp") bytes))))

-- a word, then a closing word behind what is read
abbrev pub closed : {A : Type 0} → List ℕ → A × List ℕ → Option (A × List ℕ)
closed word x = option_map (λ (rest : List ℕ). (x.0, rest)) (strip word x.1)

-- `(r)`
unfoldable pub at_front : List ℕ → Option (Reg × List ℕ)
at_front bytes = option_and_then (λ (inner : List ℕ). option_and_then (closed (codes ")")) (reg_front inner)) (strip (codes "(") bytes)

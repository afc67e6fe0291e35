-- No two symbols have one number.
use Rattle.std.proofs.Common.{◌≡◌, ◌<◌, List, [], ◌∷◌, Some, slice_get, refl, sym, ap, ◌∙◌, arith}
use Rattle.std.proofs.lemmas.Option.{same_Some}
use Rattle.tree_core.specs.declared.token.Tok.{Tok}
use Rattle.tree_core.specs.declared.token.Tok.TheVariants as tok
use Rattle.md_reader.specs.declared.types.Sym.{Sym}
use Rattle.md_reader.specs.declared.types.Sym.TheVariants as grammar_symbol
use Rattle.lr_tables.specs.Symbols.{number, symbol_number}

-- the tokens in table order
all_tokens : List Tok
all_tokens = tok.Zero ∷ tok.One ∷ tok.Two ∷ tok.Four ∷ tok.Eight ∷ tok.Const ∷ tok.Gaddr ∷ tok.Loc ∷ tok.Arg ∷ tok.IndirB ∷ tok.IndirW ∷ tok.IndirL ∷ tok.Plus ∷ tok.Minus ∷ tok.Mul ∷
    tok.Div ∷ tok.Mod ∷ tok.And ∷ tok.Or ∷ tok.Xor ∷ tok.Lsh ∷ tok.Rsh ∷ tok.Neg ∷ tok.Com ∷ tok.Sxb ∷ tok.Zxb ∷ tok.Sxw ∷ tok.Zxw ∷ tok.Ncb ∷ tok.Ncw ∷ tok.AssignB ∷ tok.AssignW ∷
    tok.AssignL ∷ tok.Cbr ∷ tok.Push ∷ tok.Ret ∷ tok.Call ∷ tok.Save ∷ tok.Jump ∷ tok.End ∷ []

token_at : (t : Tok) → slice_get all_tokens (number t) ≡ Some t
unfolding all_tokens
token_at tok.Zero = refl
token_at tok.One = refl
token_at tok.Two = refl
token_at tok.Four = refl
token_at tok.Eight = refl
token_at tok.Const = refl
token_at tok.Gaddr = refl
token_at tok.Loc = refl
token_at tok.Arg = refl
token_at tok.IndirB = refl
token_at tok.IndirW = refl
token_at tok.IndirL = refl
token_at tok.Plus = refl
token_at tok.Minus = refl
token_at tok.Mul = refl
token_at tok.Div = refl
token_at tok.Mod = refl
token_at tok.And = refl
token_at tok.Or = refl
token_at tok.Xor = refl
token_at tok.Lsh = refl
token_at tok.Rsh = refl
token_at tok.Neg = refl
token_at tok.Com = refl
token_at tok.Sxb = refl
token_at tok.Zxb = refl
token_at tok.Sxw = refl
token_at tok.Zxw = refl
token_at tok.Ncb = refl
token_at tok.Ncw = refl
token_at tok.AssignB = refl
token_at tok.AssignW = refl
token_at tok.AssignL = refl
token_at tok.Cbr = refl
token_at tok.Push = refl
token_at tok.Ret = refl
token_at tok.Call = refl
token_at tok.Save = refl
token_at tok.Jump = refl
token_at tok.End = refl

pub number-below : (t : Tok) → number t < 40
number-below tok.Zero = omega arith
number-below tok.One = omega arith
number-below tok.Two = omega arith
number-below tok.Four = omega arith
number-below tok.Eight = omega arith
number-below tok.Const = omega arith
number-below tok.Gaddr = omega arith
number-below tok.Loc = omega arith
number-below tok.Arg = omega arith
number-below tok.IndirB = omega arith
number-below tok.IndirW = omega arith
number-below tok.IndirL = omega arith
number-below tok.Plus = omega arith
number-below tok.Minus = omega arith
number-below tok.Mul = omega arith
number-below tok.Div = omega arith
number-below tok.Mod = omega arith
number-below tok.And = omega arith
number-below tok.Or = omega arith
number-below tok.Xor = omega arith
number-below tok.Lsh = omega arith
number-below tok.Rsh = omega arith
number-below tok.Neg = omega arith
number-below tok.Com = omega arith
number-below tok.Sxb = omega arith
number-below tok.Zxb = omega arith
number-below tok.Sxw = omega arith
number-below tok.Zxw = omega arith
number-below tok.Ncb = omega arith
number-below tok.Ncw = omega arith
number-below tok.AssignB = omega arith
number-below tok.AssignW = omega arith
number-below tok.AssignL = omega arith
number-below tok.Cbr = omega arith
number-below tok.Push = omega arith
number-below tok.Ret = omega arith
number-below tok.Call = omega arith
number-below tok.Save = omega arith
number-below tok.Jump = omega arith
number-below tok.End = omega arith

pub number_same : (t u : Tok) → number t ≡ number u → t ≡ u
number_same t u e = same_Some t u (sym (token_at t) ∙ ap (slice_get all_tokens) e ∙ token_at u)

pub symbol_number_same : (X Y : Sym) → symbol_number X ≡ symbol_number Y → X ≡ Y
symbol_number_same (grammar_symbol.Tok t) (grammar_symbol.Tok u) e = ap grammar_symbol.Tok (number_same t u e)
symbol_number_same (grammar_symbol.Class c) (grammar_symbol.Class d) e = ap grammar_symbol.Class (omega (arith, e))
symbol_number_same (grammar_symbol.Tok t) (grammar_symbol.Class c) e = let lt = number-below t in absurd (omega (arith, e, lt))
symbol_number_same (grammar_symbol.Class c) (grammar_symbol.Tok t) e = let lt = number-below t in absurd (omega (arith, e, lt))

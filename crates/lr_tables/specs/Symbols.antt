-- The symbols by number: the tokens in table order, `End` the last of them, then the classes.
use Rattle.std.specs.Prelude.{ℕ, ◌+◌}
use Rattle.tree_core.specs.declared.token.Tok.{Tok}
use Rattle.tree_core.specs.declared.token.Tok.TheVariants as tok
use Rattle.md_reader.specs.declared.types.Sym.{Sym}
use Rattle.md_reader.specs.declared.types.Sym.TheVariants as grammar_symbol

abbrev pub number : Tok → ℕ
number tok.Zero = 0
number tok.One = 1
number tok.Two = 2
number tok.Four = 3
number tok.Eight = 4
number tok.Const = 5
number tok.Gaddr = 6
number tok.Loc = 7
number tok.Arg = 8
number tok.IndirB = 9
number tok.IndirW = 10
number tok.IndirL = 11
number tok.Plus = 12
number tok.Minus = 13
number tok.Mul = 14
number tok.Div = 15
number tok.Mod = 16
number tok.And = 17
number tok.Or = 18
number tok.Xor = 19
number tok.Lsh = 20
number tok.Rsh = 21
number tok.Neg = 22
number tok.Com = 23
number tok.Sxb = 24
number tok.Zxb = 25
number tok.Sxw = 26
number tok.Zxw = 27
number tok.Ncb = 28
number tok.Ncw = 29
number tok.AssignB = 30
number tok.AssignW = 31
number tok.AssignL = 32
number tok.Cbr = 33
number tok.Push = 34
number tok.Ret = 35
number tok.Call = 36
number tok.Save = 37
number tok.Jump = 38
number tok.End = 39

abbrev pub symbol_number : Sym → ℕ
symbol_number (grammar_symbol.Tok t) = number t
symbol_number (grammar_symbol.Class c) = 40 + c

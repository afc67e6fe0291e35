-- The shipped description of L32, examples/l32.gg, as data: its classes, the lines that save and reload, and its rules. A line has its
-- number in the file, and the pieces that the reader of descriptions finds in its text.
use Rattle.std.specs.Prelude.{ℕ, List, [], ◌∷◌, unwrap_or, codes}
use Rattle.l32_templates.specs.vax_templates.specs.gg_base.specs.declared.size.Size.TheVariants.{Byte, Word, Long}
use Rattle.l32_templates.specs.vax_templates.specs.sel_target.specs.tree_core.specs.declared.token.Tok.{Tok}
use Rattle.l32_templates.specs.vax_templates.specs.sel_target.specs.tree_core.specs.declared.token.Tok.TheVariants as tok
use Rattle.l32_templates.specs.vax_templates.specs.md_reader_pieces.specs.declared.piece.Line.{Line}
use Rattle.l32_templates.specs.vax_templates.specs.md_reader_pieces.specs.Pieces.{pieces}
use Rattle.l32_templates.specs.vax_templates.specs.md_reader.specs.declared.types.Kind.{Kind}
use Rattle.l32_templates.specs.vax_templates.specs.md_reader.specs.declared.types.Kind.TheVariants as kind
use Rattle.l32_templates.specs.vax_templates.specs.md_reader.specs.declared.types.Class.{Class}
use Rattle.l32_templates.specs.vax_templates.specs.md_reader.specs.declared.types.Sym.{Sym}
use Rattle.l32_templates.specs.vax_templates.specs.md_reader.specs.declared.types.Sym.TheVariants as grammar_symbol
use Rattle.l32_templates.specs.vax_templates.specs.md_reader.specs.declared.types.Give.{Give}
use Rattle.l32_templates.specs.vax_templates.specs.md_reader.specs.declared.types.Give.TheVariants as give
use Rattle.l32_templates.specs.vax_templates.specs.md_reader.specs.declared.types.Rule.{Rule}

-- a line with its number
abbrev pub line : ℕ → List ℕ → Line
line n text = record { line = n; pieces = unwrap_or (pieces text) [] }

-- the operand that a rule gives, by its line
abbrev pub given : ℕ → List ℕ → Give
given n text = give.Shape (line n text)

abbrev pub rule : ℕ → List Sym → List Line → Give → Rule
rule left right lines g = record { left = left; right = right; restrictions = []; lines = lines; give = g }

abbrev pub class : List ℕ → Kind → Class
class name k = record { name = name; kind = k }

abbrev pub classes : List Class
classes =
    class (codes "reg") kind.Reg ∷
    class (codes "rval") (kind.Value Long) ∷
    class (codes "wval") (kind.Value Word) ∷
    class (codes "bval") (kind.Value Byte) ∷
    class (codes "lpl") (kind.Place Long) ∷
    class (codes "wpl") (kind.Place Word) ∷
    class (codes "bpl") (kind.Place Byte) ∷
    class (codes "con") kind.Con ∷
    class (codes "ea") kind.Ea ∷
    class (codes "stmt") kind.Nothing ∷ []

-- the classes by their names
abbrev pub reg : ℕ
reg = 0

abbrev pub rval : ℕ
rval = 1

abbrev pub wval : ℕ
wval = 2

abbrev pub bval : ℕ
bval = 3

abbrev pub lpl : ℕ
lpl = 4

abbrev pub wpl : ℕ
wpl = 5

abbrev pub bpl : ℕ
bpl = 6

abbrev pub con : ℕ
con = 7

abbrev pub ea : ℕ
ea = 8

abbrev pub stmt : ℕ
stmt = 9

-- a class or a token on the right side of a rule
abbrev pub symbol : ℕ → Sym
symbol = grammar_symbol.Class

abbrev pub token : Tok → Sym
token = grammar_symbol.Tok

abbrev pub spills : List Line
spills =
    line 18 (codes "sb %1,%0") ∷
    line 19 (codes "sh %1,%0") ∷
    line 20 (codes "sw %1,%0") ∷
    line 21 (codes "sta %1,%0") ∷
    line 22 (codes "sta %1,%0") ∷
    line 23 (codes "sta %1,%0") ∷
    line 24 (codes "sta %1,%0") ∷
    line 25 (codes "lw %0,%1") ∷ []

abbrev pub rules : List Rule
rules =
    rule con (token tok.Zero ∷ []) [] (given 27 (codes "%1")) ∷
    rule con (token tok.One ∷ []) [] (given 29 (codes "%1")) ∷
    rule con (token tok.Two ∷ []) [] (given 31 (codes "%1")) ∷
    rule con (token tok.Four ∷ []) [] (given 33 (codes "%1")) ∷
    rule con (token tok.Eight ∷ []) [] (given 35 (codes "%1")) ∷
    rule con (token tok.Const ∷ []) [] (given 37 (codes "%1")) ∷
    rule ea (token tok.Gaddr ∷ []) [] (given 39 (codes "%1")) ∷
    rule lpl (token tok.Loc ∷ []) [] (given 41 (codes "%1")) ∷
    rule lpl (token tok.Arg ∷ []) [] (given 43 (codes "%1")) ∷
    rule lpl (token tok.IndirL ∷ symbol reg ∷ []) [] (given 45 (codes "0(%2)")) ∷
    rule lpl (token tok.IndirL ∷ symbol ea ∷ []) [] (given 47 (codes "%2")) ∷
    rule wpl (token tok.IndirW ∷ symbol reg ∷ []) [] (given 49 (codes "0(%2)")) ∷
    rule wpl (token tok.IndirW ∷ symbol ea ∷ []) [] (given 51 (codes "%2")) ∷
    rule bpl (token tok.IndirB ∷ symbol reg ∷ []) [] (given 53 (codes "0(%2)")) ∷
    rule bpl (token tok.IndirB ∷ symbol ea ∷ []) [] (given 55 (codes "%2")) ∷
    rule rval (symbol lpl ∷ []) [] (given 57 (codes "%1")) ∷
    rule wval (symbol wpl ∷ []) [] (given 59 (codes "%1")) ∷
    rule bval (symbol bpl ∷ []) [] (given 61 (codes "%1")) ∷
    rule wval (token tok.Ncw ∷ symbol reg ∷ []) [] (given 63 (codes "%2")) ∷
    rule bval (token tok.Ncb ∷ symbol reg ∷ []) [] (given 65 (codes "%2")) ∷
    rule reg (symbol con ∷ []) (line 67 (codes "li %0,$%1") ∷ []) give.Fresh ∷
    rule reg (symbol rval ∷ []) (line 70 (codes "lw %0,%1") ∷ []) give.Reuse ∷
    rule reg (symbol ea ∷ []) (line 73 (codes "la %0,%1") ∷ []) give.Reuse ∷
    rule reg (token tok.Plus ∷ symbol reg ∷ symbol reg ∷ []) (line 76 (codes "add %0,%2,%3") ∷ []) give.Reuse ∷
    rule reg (token tok.Minus ∷ symbol reg ∷ symbol reg ∷ []) (line 79 (codes "sub %0,%2,%3") ∷ []) give.Reuse ∷
    rule reg (token tok.Mul ∷ symbol reg ∷ symbol reg ∷ []) (line 82 (codes "mul %0,%2,%3") ∷ []) give.Reuse ∷
    rule reg (token tok.Div ∷ symbol reg ∷ symbol reg ∷ []) (line 85 (codes "div %0,%2,%3") ∷ []) give.Reuse ∷
    rule reg (token tok.And ∷ symbol reg ∷ symbol reg ∷ []) (line 88 (codes "and %0,%2,%3") ∷ []) give.Reuse ∷
    rule reg (token tok.Or ∷ symbol reg ∷ symbol reg ∷ []) (line 91 (codes "or %0,%2,%3") ∷ []) give.Reuse ∷
    rule reg (token tok.Xor ∷ symbol reg ∷ symbol reg ∷ []) (line 94 (codes "xor %0,%2,%3") ∷ []) give.Reuse ∷
    rule reg (token tok.Lsh ∷ symbol reg ∷ symbol reg ∷ []) (line 97 (codes "sll %0,%2,%3") ∷ []) give.Reuse ∷
    rule reg (token tok.Rsh ∷ symbol reg ∷ symbol reg ∷ []) (line 100 (codes "sra %0,%2,%3") ∷ []) give.Reuse ∷
    rule reg (token tok.Mod ∷ symbol reg ∷ symbol reg ∷ [])
    (line 103 (codes "div %0,%2,%3") ∷ line 104 (codes "mul %0,%0,%3") ∷ line 105 (codes "sub %0,%2,%0") ∷ []) give.Fresh ∷
    rule reg (token tok.Neg ∷ symbol reg ∷ []) (line 108 (codes "neg %0,%2") ∷ []) give.Reuse ∷
    rule reg (token tok.Com ∷ symbol reg ∷ []) (line 111 (codes "not %0,%2") ∷ []) give.Reuse ∷
    rule reg (token tok.Sxb ∷ symbol bval ∷ []) (line 114 (codes "lb %0,%2") ∷ []) give.Reuse ∷
    rule reg (token tok.Zxb ∷ symbol bval ∷ []) (line 117 (codes "lbu %0,%2") ∷ []) give.Reuse ∷
    rule reg (token tok.Sxw ∷ symbol wval ∷ []) (line 120 (codes "lh %0,%2") ∷ []) give.Reuse ∷
    rule reg (token tok.Zxw ∷ symbol wval ∷ []) (line 123 (codes "lhu %0,%2") ∷ []) give.Reuse ∷
    rule stmt (token tok.AssignL ∷ symbol lpl ∷ symbol reg ∷ []) (line 126 (codes "sw %3,%2") ∷ []) give.Nothing ∷
    rule stmt (token tok.AssignW ∷ symbol wpl ∷ symbol wval ∷ []) (line 129 (codes "sh %3,%2") ∷ []) give.Nothing ∷
    rule stmt (token tok.AssignB ∷ symbol bpl ∷ symbol bval ∷ []) (line 132 (codes "sb %3,%2") ∷ []) give.Nothing ∷
    rule stmt (token tok.Cbr ∷ symbol reg ∷ symbol reg ∷ []) (line 135 (codes "j%1 %2,%3,%L") ∷ []) give.Nothing ∷
    rule stmt (token tok.Push ∷ symbol reg ∷ []) (line 138 (codes "push %2") ∷ []) give.Nothing ∷
    rule stmt (token tok.Ret ∷ symbol reg ∷ []) (line 141 (codes "lw a0,%2") ∷ line 142 (codes "ret") ∷ []) give.Nothing ∷
    rule stmt (token tok.Jump ∷ []) (line 145 (codes "b %L") ∷ []) give.Nothing ∷
    rule stmt (token tok.Call ∷ []) (line 148 (codes "call %F,%N") ∷ []) give.Nothing ∷
    rule stmt (token tok.Save ∷ []) (line 151 (codes "sw a0,%1") ∷ []) give.Nothing ∷ []

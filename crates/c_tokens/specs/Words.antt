-- How each keyword is written, and which keyword a word is.
use Rattle.std.specs.Prelude.{ℕ, List, [], ◌∷◌, codes, nat_eq, Option, Some, None, if◌then◌else◌}
use Rattle.std.specs.Cmp.Lexicographic.{pointwise}
use Rattle.c_tokens.specs.declared.words.TheConstants.{KEYS}
use Rattle.c_tokens.specs.declared.words.Key.{Key}
use Rattle.c_tokens.specs.declared.words.Key.TheVariants as keys

abbrev pub key_text : Key → List ℕ
key_text keys.Int = codes "int"
key_text keys.Char = codes "char"
key_text keys.Short = codes "short"
key_text keys.Unsigned = codes "unsigned"
key_text keys.Void = codes "void"
key_text keys.Static = codes "static"
key_text keys.Register = codes "register"
key_text keys.If = codes "if"
key_text keys.Else = codes "else"
key_text keys.While = codes "while"
key_text keys.Do = codes "do"
key_text keys.For = codes "for"
key_text keys.Break = codes "break"
key_text keys.Continue = codes "continue"
key_text keys.Return = codes "return"
key_text keys.Sizeof = codes "sizeof"
key_text keys.Auto = codes "auto"
key_text keys.Case = codes "case"
key_text keys.Const = codes "const"
key_text keys.Default = codes "default"
key_text keys.Double = codes "double"
key_text keys.Enum = codes "enum"
key_text keys.Extern = codes "extern"
key_text keys.Float = codes "float"
key_text keys.Goto = codes "goto"
key_text keys.Long = codes "long"
key_text keys.Signed = codes "signed"
key_text keys.Struct = codes "struct"
key_text keys.Switch = codes "switch"
key_text keys.Typedef = codes "typedef"
key_text keys.Union = codes "union"
key_text keys.Volatile = codes "volatile"

-- the first of these keywords that is written so
abbrev pub key_among : List Key → List ℕ → Option Key
key_among [] word = None
key_among (k ∷ ks) word = if pointwise nat_eq word (key_text k) then Some k else key_among ks word

-- the keyword that the word is
unfoldable pub key_of : List ℕ → Option Key
key_of word = key_among KEYS word

-- How terms are written.
use Rattle.std.specs.Prelude.{ℕ, List, ◌++◌, codes}
use Rattle.std.specs.Fmt.{decimal}
use Rattle.gg_base.specs.Numbers.{signed_text}
use Rattle.gg_base.specs.declared.size.Size.{Size}
use Rattle.gg_base.specs.declared.size.Size.TheVariants.{Byte, Word, Long}
use Rattle.term_core.specs.Operators.{unary_name, binary_name}
use Rattle.term_core.specs.Shape.{Shape, Constant, Symbol, LastResult, Memory, Unary, Binary}

abbrev pub size_name : Size → List ℕ
size_name Byte = codes "b"
size_name Word = codes "w"
size_name Long = codes "l"

abbrev pub term_text : Shape → List ℕ
term_text (Constant n) = codes "K" ++ signed_text n
term_text (Symbol i) = codes "V" ++ decimal i
term_text LastResult = codes "Res"
term_text (Memory size a) = codes "Mem(" ++ size_name size ++ codes "," ++ term_text a ++ codes ")"
term_text (Unary op t) = unary_name op ++ codes "(" ++ term_text t ++ codes ")"
term_text (Binary op a b) = binary_name op ++ codes "(" ++ term_text a ++ codes "," ++ term_text b ++ codes ")"

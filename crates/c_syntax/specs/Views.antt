-- What the code holds while it looks for the ends of bodies, as plain data.
use Rattle.c_syntax.specs.declared.ends.Braces.{Braces}
use Rattle.c_syntax.specs.Ends.{SomeBraces}

abbrev pub braces : Braces → SomeBraces
braces b = record { opened = b.«open»; is_body = b.is_body; behind_bracket = b.behind_bracket }

-- The form of a term with its parts, as plain data.
use Rattle.term_core.specs.declared.term.Form.{Form}
use Rattle.term_core.specs.declared.term.Form.TheVariants as forms
use Rattle.term_core.specs.Shape.{Shape, Constant, Symbol, LastResult, Memory, Unary, Binary, shape_of}

abbrev pub shape_of_form : Form → Shape
shape_of_form (forms.Constant n) = Constant n
shape_of_form (forms.Symbol i) = Symbol i
shape_of_form forms.LastResult = LastResult
shape_of_form (forms.Memory size a) = Memory size (shape_of a.now)
shape_of_form (forms.Unary op t) = Unary op (shape_of t.now)
shape_of_form (forms.Binary op a b) = Binary op (shape_of a.now) (shape_of b.now)

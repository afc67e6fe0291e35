-- Faults in declarations and statements, and those that one further on gives here.
use Rattle.std.specs.Prelude.{◌≡◌, ℕ, List, [], ◌∷◌}
use Rattle.c_tokens.specs.declared.token.Token.TheVariants as token
use Rattle.c_tokens.specs.declared.words.Key.TheVariants as keys
use Rattle.c_tokens.specs.declared.marks.Mark.TheVariants as marks
use Rattle.c_tokens.specs.declared.marks.Mark.{Mark}
use Rattle.c_syntax_goals.specs.declared.fault.Fault.{Fault}
use Rattle.c_phrases.specs.Classes.{Placed}
use Rattle.c_syntax_goals.specs.Goals.{Want, PartSemi, PartParen, MoreDeclarators, MoreParams, Items}
use Rattle.c_syntax_goals.specs.Externals.{list_goals}
use Rattle.c_syntax.specs.Leads.{Fails}

-- the word void alone does not stand in front of a closing bracket
abbrev pub NoVoidAlone : List Placed → Type 0
NoVoidAlone [] = Unit {0}
NoVoidAlone (t ∷ []) = Unit {0}
NoVoidAlone (t ∷ u ∷ ts) = t.kind ≡ token.Key keys.Void → u.kind ≡ token.Mark marks.CloseParenthesis → ⊥

-- a fault of the part of a statement that this mark ends
abbrev pub PartFails : Mark → ℕ → List Placed → Fault → Type 0
PartFails marks.Semicolon n ts f = Fails (Want PartSemi) n ts f
PartFails marks.CloseParenthesis n ts f = Fails (Want PartParen) n ts f
PartFails m n ts f = Unit {0}

-- a fault there is a fault here
abbrev pub MoreLeads : ℕ → List Placed → List Placed → Type 0
MoreLeads n ts rest = (f : Fault) → Fails (Want MoreDeclarators) n rest f → Fails (Want MoreDeclarators) n ts f

abbrev pub ItemsLead : ℕ → List Placed → List Placed → Type 0
ItemsLead n ts rest = (f : Fault) → Fails (Want Items) n rest f → Fails (Want Items) n ts f

abbrev pub ParamsLead : ℕ → List Placed → List Placed → Type 0
ParamsLead n ts rest = (f : Fault) → Fails (Want MoreParams) n rest f → Fails list_goals n ts f

-- the text is not at its end
abbrev pub HasToken : List Placed → Type 0
HasToken [] = ⊥
HasToken (t ∷ ts) = Unit {0}

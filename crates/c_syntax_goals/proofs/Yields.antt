-- What the parts still to be read stand for: which tokens they may be spelled by, and the unit that comes of them.
use Rattle.std.specs.Prelude.{◌≡◌, ◌≢◌, ◌⊎◌, ℕ, ◌+◌, List, [], ◌∷◌, Option, Some, None, Bool, true, false}
use Rattle.c_tokens.specs.declared.token.Token.TheVariants as token
use Rattle.c_tokens.specs.declared.words.Key.TheVariants as keys
use Rattle.c_tokens.specs.declared.marks.Mark.TheVariants as marks
use Rattle.c_phrases.specs.declared.operator.Spec.{Spec}
use Rattle.c_phrases.specs.declared.tree.Named.{Named}
use Rattle.c_phrases.specs.Classes.{Placed, word, sign}
use Rattle.c_phrases.specs.Phrases.{AnExp, SomeExps, IsAt, AllAt, after_exp}
use Rattle.c_phrases.specs.Units.{ALength, AnInit, AnInitialised, ADeclarator, ALocal, AStatement, if_then, if_else}
use Rattle.c_phrases.specs.Units.{SomeItems, AParam, SomeParams, ADeclared, AnExternal, AUnit}
use Rattle.c_phrases.specs.Fits.{PartFits, LengthFits, InitFits, InitialisedFits, DeclaratorFits, DeclaratorsFit}
use Rattle.c_phrases.specs.Fits.{LocalFits, IsShut, StatementFits, ItemsFit, ParamsFit, SomeParamsFit, BodyFits}
use Rattle.c_phrases.specs.Fits.{DeclaredFits, ExternalsFit}
use Rattle.c_syntax_goals.specs.Openings.{Opening, opens, plain, levelled_int, levelled_spec, levelled_stars}
use Rattle.c_syntax_goals.specs.Openings.{levelled_name, levelled_exp, levelled_first, levelled_others, levelled_part}
use Rattle.c_syntax_goals.specs.StatementOpenings.{levelled_length, levelled_trailing, levelled_init}
use Rattle.c_syntax_goals.specs.StatementOpenings.{levelled_initialised, levelled_declarator}
use Rattle.c_syntax_goals.specs.StatementOpenings.{levelled_more_declarators, levelled_local, levelled_condition}
use Rattle.c_syntax_goals.specs.StatementOpenings.{levelled_statement, levelled_items}
use Rattle.c_syntax_goals.specs.UnitOpenings.{levelled_named, levelled_more_params, levelled_params, levelled_body}
use Rattle.c_syntax_goals.specs.UnitOpenings.{levelled_declared, levelled_external, levelled_externals}
use Rattle.c_syntax_goals.specs.Goals.{Goal, Val, Stack, Done, Want, Expr, Commas, Assign, Cond, Cast, Unary, Primary}
use Rattle.c_syntax_goals.specs.Goals.{Parens, CallTail, PostTail, Ended, Tail, First, Group, SizeofTail, SizeofGroup}
use Rattle.c_syntax_goals.specs.Goals.{Arguments, MoreArguments, Back, WantParen, WantBracket, WantColon, WantSemi}
use Rattle.c_syntax_goals.specs.Goals.{WantWhile, TypeWords, AfterShort, AfterUnsigned, Stars, Condition, Simple}
use Rattle.c_syntax_goals.specs.Goals.{Statement, Items, PartSemi, PartParen, ForOpen, ElsePart, Local}
use Rattle.c_syntax_goals.specs.Goals.{DeclaratorName, ArrayPart, Length, InitPart, Init, Elements, InitMore}
use Rattle.c_syntax_goals.specs.Goals.{InitNext, MoreDeclarators, DeclaredName, AfterName, Body, Params, OptName}
use Rattle.c_syntax_goals.specs.Goals.{MoreParams, External, Whole}

-- a phrase at the front, and what is asked of the rest
pub record Found (A : Type 0) (P : A → List Opening → Type 0) (K : A → List Opening → Type 0) : Type 0 where
  pub item : A
  pub rest : List Opening
  pub is : P item rest
  pub onwards : K item rest

abbrev pub open_paren : ℕ → Placed
open_paren o = sign marks.OpenParenthesis o

abbrev pub close_paren : Opening
close_paren = plain (sign marks.CloseParenthesis 0)

abbrev pub close_bracket : Opening
close_bracket = plain (sign marks.CloseBracket 0)

abbrev pub close_brace : Opening
close_brace = plain (sign marks.CloseBrace 0)

abbrev pub semi : Opening
semi = plain (sign marks.Semicolon 0)

abbrev pub comma_mark : Opening
comma_mark = plain (sign marks.Comma 0)

abbrev pub NoElse : List Opening → Type 0
NoElse [] = Unit {0}
NoElse (o ∷ w) = o.token.kind ≢ token.Key keys.Else

-- a statement in front of the rest
abbrev pub IsStatement : List Opening → ℕ → AStatement → List Opening → Type 0
IsStatement ts n s w = (ts ≡ levelled_statement s n w) × (StatementFits s × (IsShut s ⊎ NoElse w))

-- an expression of the phrase k in front of the rest
abbrev pub IsExp : ℕ → List Opening → ℕ → AnExp → List Opening → Type 0
IsExp k ts n e w = (ts ≡ levelled_exp e n w) × IsAt k e

-- an expression of the phrase k, which begins with l of the phrase j in front of the text, where the level is n
abbrev pub Onto : (j k : ℕ) → AnExp → ℕ → List Opening → (AnExp → ℕ → List Opening → Type 0) → Type 0
Onto j k l n ts K = (b : ℕ) → n ≡ after_exp l b → IsAt j l → Found AnExp (λ e w. IsExp k (levelled_exp l b ts) b e w) (λ e w. K e (after_exp e b) w)

abbrev pub after_part : Option AnExp → ℕ → ℕ
after_part None n = n
after_part (Some e) n = after_exp e n

-- Where the level is n, these tokens can be read by this part; its phrase, the level behind it and the rest are as asked.
abbrev pub Part : (g : Goal) → ℕ → List Opening → (Val g → ℕ → List Opening → Type 0) → Type 0
Part Expr n ts K = Found AnExp (λ e w. IsExp 0 ts n e w) (λ e w. K e (after_exp e n) w)
Part (Commas l) n ts K = Onto 0 0 l n ts K
Part Assign n ts K = Found AnExp (λ e w. IsExp 1 ts n e w) (λ e w. K e (after_exp e n) w)
Part Cond n ts K = Found AnExp (λ e w. IsExp 2 ts n e w) (λ e w. K e (after_exp e n) w)
Part Cast n ts K = Found AnExp (λ e w. IsExp 13 ts n e w) (λ e w. K e (after_exp e n) w)
Part Unary n ts K = Found AnExp (λ e w. IsExp 14 ts n e w) (λ e w. K e (after_exp e n) w)
Part Primary n ts K = Found AnExp (λ e w. IsExp 16 ts n e w) (λ e w. K e (after_exp e n) w)
Part Parens n ts K = Found AnExp (λ e w. IsExp 16 ts n e w) (λ e w. K e (after_exp e n) w)
Part (CallTail f at) n ts K = Found AnExp (λ e w. IsExp 16 (levelled_name f at ts) n e w) (λ e w. K e (after_exp e n) w)
Part (PostTail l) n ts K = Onto 15 15 l n ts K
Part Ended n ts K = K tt n ts
Part (Tail true l) n ts K = Onto 14 1 l n ts K
Part (Tail false l) n ts K = Onto 3 2 l n ts K
Part (First o m) n ts K = n ≡ m + 1 → Found AnExp (λ e w. IsExp 1 (opens (m + 1) (open_paren o) ∷ ts) m e w) (λ e w. K e (after_exp e m) w)
Part (Group o m) n ts K = n ≡ m + 1 → Found AnExp (λ e w. IsExp 13 (opens (m + 1) (open_paren o) ∷ ts) m e w) (λ e w. K e (after_exp e m) w)
Part (SizeofTail at) n ts K = (b : ℕ) → n ≡ b + 1 → Found AnExp (λ e w. IsExp 14 (opens (b + 1) (word keys.Sizeof at) ∷ ts) b e w) (λ e w. K e (after_exp e b) w)
Part (SizeofGroup at o m) n ts K = (b : ℕ) → m ≡ b + 1 → n ≡ m + 1 → Found AnExp (λ e w. IsExp 14 (opens (b + 1) (word keys.Sizeof at) ∷ opens (b + 1 + 1) (open_paren o) ∷ ts) b e w)
    (λ e w. K e (after_exp e b) w)
Part Arguments n ts K = Found SomeExps (λ es w. (ts ≡ levelled_first es n (close_paren ∷ w)) × AllAt es) (λ es w. K es n w)
Part MoreArguments n ts K = Found SomeExps (λ es w. (ts ≡ levelled_others es n (close_paren ∷ w)) × AllAt es) (λ es w. K es n w)
Part (Back m) n ts K = K tt m ts
Part WantParen n ts K = Found (Unit {0}) (λ x w. ts ≡ close_paren ∷ w) (λ x w. K x n w)
Part WantBracket n ts K = Found (Unit {0}) (λ x w. ts ≡ close_bracket ∷ w) (λ x w. K x n w)
Part WantColon n ts K = Found (Unit {0}) (λ x w. ts ≡ plain (sign marks.Colon 0) ∷ w) (λ x w. K x n w)
Part WantSemi n ts K = Found (Unit {0}) (λ x w. ts ≡ semi ∷ w) (λ x w. K x n w)
Part WantWhile n ts K = Found ℕ (λ at w. ts ≡ plain (word keys.While at) ∷ w) (λ at w. K at n w)
Part TypeWords n ts K = Found Spec (λ s w. ts ≡ levelled_spec s w) (λ s w. K s n w)
Part AfterShort n ts K = Found (Option ℕ) (λ i w. ts ≡ levelled_int i w) (λ i w. K i n w)
Part (AfterUnsigned at) n ts K = Found Spec (λ s w. plain (word keys.Unsigned at) ∷ ts ≡ levelled_spec s w) (λ s w. K s n w)
Part Stars n ts K = Found (List ℕ) (λ ats w. ts ≡ levelled_stars ats w) (λ ats w. K ats n w)
Part Condition n ts K = Found (ℕ × AnExp) (λ h w. (ts ≡ levelled_condition h.0 h.1 n w) × IsAt 0 h.1) (λ h w. K h n w)
Part Simple n ts K = Found AStatement (λ s w. IsStatement ts n s w) (λ s w. K s n w)
Part Statement n ts K = Found AStatement (λ s w. IsStatement ts n s w) (λ s w. K s n w)
Part Items n ts K = Found SomeItems (λ is w. (ts ≡ levelled_items is n (close_brace ∷ w)) × ItemsFit is) (λ is w. K is n w)
Part PartSemi n ts K = Found (Option AnExp) (λ e w. (ts ≡ levelled_part e n (semi ∷ w)) × PartFits 0 e) (λ e w. K e n w)
Part PartParen n ts K = Found (Option AnExp) (λ e w. (ts ≡ levelled_part e n (close_paren ∷ w)) × PartFits 0 e) (λ e w. K e n w)
Part ForOpen n ts K = Found ℕ (λ o w. ts ≡ opens (n + 1) (open_paren o) ∷ w) (λ o w. K o (n + 1) w)
Part (ElsePart at o e s) n ts K = (NoElse ts × K (if_then at o e s) n ts) ⊎ Found (ℕ × AStatement)
    (λ x w. (v : List Opening) × ((ts ≡ plain (word keys.Else x.0) ∷ v) × IsStatement v n x.1 w)) (λ x w. K (if_else at o e s x.0 x.1) n w)
Part Local n ts K = Found ALocal (λ l w. (ts ≡ levelled_local l n w) × LocalFits l) (λ l w. K l n w)
Part (DeclaratorName ats) n ts K = Found ADeclarator (λ d w. (levelled_stars ats ts ≡ levelled_declarator d n w) × DeclaratorFits d) (λ d w. K d n w)
Part ArrayPart n ts K = Found (Option ALength) (λ l w. (ts ≡ levelled_length l n w) × LengthFits l) (λ l w. K l n w)
Part Length n ts K = Found (Option AnExp) (λ e w. (ts ≡ levelled_part e n (close_bracket ∷ w)) × PartFits 2 e) (λ e w. K e (after_part e n) w)
Part InitPart n ts K = Found (Option AnInitialised) (λ i w. (ts ≡ levelled_initialised i n w) × InitialisedFits i) (λ i w. K i n w)
Part Init n ts K = Found AnInit (λ i w. (ts ≡ levelled_init i n w) × InitFits i) (λ i w. K i n w)
Part Elements n ts K = (b : ℕ) → n ≡ b + 1 → Found AnInit (λ i w. (opens (b + 1) (sign marks.OpenBrace 0) ∷ ts ≡ levelled_init i b w) × InitFits i) (λ i w. K i n w)
Part InitMore n ts K = Found (SomeExps × Bool) (λ r w. (ts ≡ levelled_others r.0 n (levelled_trailing r.1 (close_brace ∷ w))) × AllAt r.0) (λ r w. K r n w)
Part InitNext n ts K = Found (SomeExps × Bool) (λ r w. (comma_mark ∷ ts ≡ levelled_others r.0 n (levelled_trailing r.1 (close_brace ∷ w))) × AllAt r.0) (λ r w. K r n w)
Part MoreDeclarators n ts K = Found (List ADeclarator) (λ ds w. (ts ≡ levelled_more_declarators ds n (semi ∷ w)) × DeclaratorsFit ds) (λ ds w. K ds n w)
Part (DeclaredName ats) n ts K = Found ADeclared (λ d w. (levelled_stars ats ts ≡ levelled_declared d n w) × DeclaredFits d) (λ d w. K d n w)
Part (AfterName ats f at) n ts K = Found ADeclared (λ d w. (levelled_stars ats (levelled_name f at ts) ≡ levelled_declared d n w) × DeclaredFits d) (λ d w. K d n w)
Part Body n ts K = Found (Option SomeItems) (λ b w. (ts ≡ levelled_body b n w) × BodyFits b) (λ b w. K b n w)
Part Params n ts K = Found SomeParams (λ ps w. (ts ≡ levelled_params ps n (close_paren ∷ w)) × SomeParamsFit ps) (λ ps w. K ps n w)
Part OptName n ts K = Found (Option Named) (λ m w. ts ≡ levelled_named m w) (λ m w. K m n w)
Part MoreParams n ts K = Found (List AParam) (λ ps w. (ts ≡ levelled_more_params ps n (close_paren ∷ w)) × ParamsFit ps) (λ ps w. K ps n w)
Part External n ts K = Found AnExternal (λ x w. (ts ≡ levelled_external x n w) × DeclaredFits x.declared) (λ x w. K x n w)
Part Whole n ts K = Found AUnit (λ u w. (ts ≡ levelled_externals u.externals n (plain (record { kind = token.End; at = u.end }) ∷ w)) × ExternalsFit u.externals) (λ u w. K u n w)

-- Where the level is n, these tokens can be read by all that is to be read, and this unit comes of them.
abbrev pub Yields : Stack → ℕ → List Opening → AUnit → Type 0
Yields (Done v) n ts u = (ts ≡ []) × (v ≡ u)
Yields (Want g κ) n ts u = Part g n ts (λ v m w. Yields (κ v) m w u)

-- What is claimed of the counts that typing and lowering make: in a unit of a source each stays far below 32 bits.
use Rattle.std.specs.Prelude.{◌≡◌, ℕ, ◌+◌, ◌*◌, ◌≤◌, Bool, false, List, [], ◌++◌, length, Some, slice_get}
use Rattle.gg_base.specs.declared.limits.TheConstants.{SOURCE_LIMIT}
use Rattle.tree_core.specs.declared.program.TreeFn.{TreeFn}
use Rattle.c_tokens.specs.declared.token.Token.{Token}
use Rattle.c_tokens.specs.declared.token.Token.TheVariants as token
use Rattle.c_tokens.specs.declared.token.Spanned.{Spanned}
use Rattle.c_tokens.specs.Grammar.{Tokens}
use Rattle.c_phrases.specs.Classes.{seen}
use Rattle.c_phrases.specs.Phrases.{SomeExps}
use Rattle.c_phrases.specs.Units.{AStatement, SomeItems, AFunction, function, AnExternal, AUnit}
use Rattle.c_phrases.specs.UnitSpelling.{onto_statement, unit_tokens}
use Rattle.c_phrases.specs.Grammar.{IsUnit}
use Rattle.c_types.specs.declared.types.CType.{CType}
use Rattle.c_program.specs.Need.{need_of}
use Rattle.c_program.specs.Programs.{AProgram}
use Rattle.c_program.specs.Statements.{AnAction, SomeActions}
use Rattle.c_typed_scope.specs.declared.entry.Entry.{Entry}
use Rattle.c_typed_scope.specs.declared.entry.Signature.{Signature}
use Rattle.c_typed_scope.specs.Scopes.{Scope}
use Rattle.c_typed_scope.specs.Layout.{Area}
use Rattle.c_typed_scope.specs.Contents.{Filled}
use Rattle.c_typed_expressions.specs.Phrases.{params_in}
use Rattle.c_typed_expressions.specs.Calls.{count}
use Rattle.c_typed_words.specs.Words.{EachIs, HasTokens}
use Rattle.c_typed_definition.specs.State.{State}
use Rattle.c_typed_definition.specs.Signatures.{known}
use Rattle.c_typed_definition.specs.Headings.{Text}
use Rattle.c_typed_definition.specs.Texts.{empty_text}
use Rattle.c_typed_law.specs.Values.{AreElements}
use Rattle.c_typed_law.specs.Statements.{IsStatement, AreItems}
use Rattle.c_typed_law.specs.Texts.{AreExternals, IsText}
use Rattle.c_lower_scheme.specs.Programs.{lowered}
use Rattle.gg_compile_counts.specs.gg_compile_spelled.specs.Claims.{label_count, NeedAtMost}

-- how many objects the data area has, with how many literals and static locals among them
abbrev pub Weight : Area → ℕ
Weight a = length a.objects + (a.literals + a.statics)

-- the unit declares this function
pub record Declares (unit : AUnit) (f : AFunction) : Type 0 where
  pub number : ℕ
  pub external : AnExternal
  pub there : slice_get unit.externals number ≡ Some external
  pub is : external.declared ≡ function f

-- What a function's body is typed as needs at most 4,194,304 longwords, whatever is in scope there.
abbrev pub BodiesNeedLittle : Type 0
BodiesNeedLittle = (unit : AUnit) → HasTokens unit → (f : AFunction) (row : SomeItems) → Declares unit f → f.body ≡ Some row
    → (names : List (List ℕ × Entry)) (signatures : List Signature) (result : CType) (s : State) (r : SomeActions × State)
    → s.locals ≡ [] → AreItems names signatures result false row s r → (block : ℕ) → need_of r.1.locals block r.0 ≤ 4194304

-- what a phrase of so many tokens adds at most
pub record AddsLittle (tokens : ℕ) (s r : State) : Type 0 where
  pub locals : length r.locals ≤ length s.locals + tokens
  pub weight : Weight r.area ≤ Weight s.area + 4 * tokens

-- A statement adds at most one automatic local for each of its tokens, and four to the weight of the data area.
abbrev pub StatementsAddLittle : Type 0
StatementsAddLittle = (names : List (List ℕ × Entry)) (signatures : List Signature) (result : CType) (looping : Bool) (a : AStatement)
    (s : State) (r : AnAction × State) → IsStatement names signatures result looping a s r
    → AddsLittle (length (onto_statement a [])) s r.1

-- So the weight is at most 4,194,308 behind each external of a unit.
abbrev pub TextsAddLittle : Type 0
TextsAddLittle = (unit : AUnit) (ends : List ℕ) → HasTokens unit → (before behind : List AnExternal) → unit.externals ≡ before ++ behind
    → (names : List (List ℕ × Entry)) (signatures : List Signature) (t : Text) → AreExternals names signatures before (empty_text ends) t
    → Weight t.state.area ≤ 4194308

-- a string of at most so many bytes
abbrev pub IsShort : Token → Type 0
IsShort (token.Name n) = Unit {0}
IsShort (token.Number v) = Unit {0}
IsShort (token.Str bytes) = length bytes ≤ SOURCE_LIMIT
IsShort (token.Key k) = Unit {0}
IsShort (token.Mark m) = Unit {0}
IsShort token.End = Unit {0}

-- A string has at most `SOURCE_LIMIT` bytes in a source that has no more.
abbrev pub StringsAreShort : Type 0
StringsAreShort = (bytes : List ℕ) (list : List Spanned) (unit : AUnit) → length bytes ≤ SOURCE_LIMIT → Tokens 0 bytes list
    → IsUnit (seen list) unit → EachIs IsShort (unit_tokens unit)

-- Each element of an initialiser writes at most four bytes.
abbrev pub ElementsAreSmall : Type 0
ElementsAreSmall = (names : List (List ℕ × Entry)) (signatures : List Signature) (scope : Scope) (t : CType) (es : SomeExps)
    (s r : Filled × Area) → AreElements names signatures scope t es s r → length r.0.bytes ≤ length s.0.bytes + 4 * count es

-- A function has at most `SOURCE_LIMIT` parameters, before these are counted against their limit.
abbrev pub HeadingsAreShort : Type 0
HeadingsAreShort = (unit : AUnit) → HasTokens unit → (f : AFunction) → Declares unit f → length (params_in f.params) ≤ SOURCE_LIMIT

-- At most 1,048,578 functions are known, the two services among them.
abbrev pub FunctionsAreFew : Type 0
FunctionsAreFew = (unit : AUnit) → HasTokens unit → length (known unit.externals).signatures ≤ 1048578

-- what lowering counts: functions, labels, and in each function its locals and temporaries
pub record HasFewCounts (p : AProgram) : Type 0 where
  pub functions : length p.routines ≤ SOURCE_LIMIT
  pub labels : label_count p ≤ 3145728
  pub needs : NeedAtMost p 4194304
  pub temporaries : (n : ℕ) (f : TreeFn) → slice_get (lowered p).functions n ≡ Some f → f.locals ≤ 4194304

-- In the program that a unit is typed as these are few, where the unit's tokens are those of a source.
abbrev pub CountsFit : Type 0
CountsFit = (p : AProgram) (unit : AUnit) (ends : List ℕ) → HasTokens unit → IsText unit.externals ends unit.end p → HasFewCounts p

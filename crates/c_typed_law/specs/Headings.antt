-- The heading of a function: what it is typed as by itself, and which fault is its first.
use Rattle.std.specs.Prelude.{◌≡◌, ℕ, nat_lt, Bool, ◌&&◌, List, [], ◌∷◌, length, slice_get, Option, Some, None}
use Rattle.c_phrases.specs.declared.tree.Named.{Named}
use Rattle.c_types.specs.declared.types.Integer.{Integer}
use Rattle.c_types.specs.declared.fault.TypeKind.TheVariants.{Twice, BadType}
use Rattle.c_types.specs.Answers.{Fault}
use Rattle.c_types.specs.Types.{is_scalar}
use Rattle.c_typed_scope.specs.declared.entry.Entry.{Entry}
use Rattle.c_typed_scope.specs.declared.entry.Entry.TheVariants as entries
use Rattle.c_typed_scope.specs.declared.entry.Signature.{Signature}
use Rattle.c_typed_scope.specs.Scopes.{Scope, is_taken}
use Rattle.c_phrases.specs.Units.{AParam}
use Rattle.c_typed_definition.specs.c_typed_expressions.specs.Expressions.{written}
use Rattle.c_typed_definition.specs.c_typed_expressions.specs.Relations.{Unless}
use Rattle.c_typed_definition.specs.Headings.{same_signature, word_of}
use Rattle.c_typed_law.specs.Tests.{With, Without, Lacking, Never, IsFault}

-- the earlier declaration of a function's name, which is no variable's
abbrev pub IsEarlier : Option Entry → Option ℕ → Type 0
IsEarlier None n = n ≡ None
IsEarlier (Some (entries.Function k)) n = n ≡ Some k
IsEarlier (Some (entries.Variable t v)) n = ⊥
IsEarlier (Some (entries.Array t v size)) n = ⊥

abbrev pub EarlierFault : Option Entry → ℕ → Fault → Type 0
EarlierFault None at f = ⊥
EarlierFault (Some (entries.Function k)) at f = ⊥
EarlierFault (Some (entries.Variable t v)) at f = IsFault at Twice f
EarlierFault (Some (entries.Array t v size)) at f = IsFault at Twice f

-- a result is no void with stars
abbrev pub IsResult : Option Integer → List ℕ → Unit {0} → Type 0
IsResult (Some b) stars ok = ok ≡ tt
IsResult None [] ok = ok ≡ tt
IsResult None (s ∷ ss) ok = ⊥

abbrev pub ResultFault : Option Integer → List ℕ → ℕ → Fault → Type 0
ResultFault (Some b) stars at f = ⊥
ResultFault None [] at f = ⊥
ResultFault None (s ∷ ss) at f = IsFault at BadType f

-- a function is defined once
abbrev pub IsHead : Bool → Bool → Option Integer → List ℕ → Unit {0} → Type 0
IsHead defines defined b stars ok = Without (defines && defined) (IsResult b stars) ok

abbrev pub HeadFault : Bool → Bool → Option Integer → List ℕ → ℕ → Fault → Type 0
HeadFault defines defined b stars at f = Unless (defines && defined) at Twice (ResultFault b stars at) f

-- a parameter is an integer or a pointer; where the function is defined it has a name, and two have different ones
abbrev pub IsParameterForm : Option Named → Bool → AParam → Scope → Unit {0} → Type 0
IsParameterForm (Some n) defines p scope ok = Without (is_taken scope n.name) (With (is_scalar (written p.spec p.stars)) (λ u. u ≡ tt)) ok
IsParameterForm None defines p scope ok = With (is_scalar (written p.spec p.stars)) (Without defines (λ u. u ≡ tt)) ok

abbrev pub ParameterFormFault : Option Named → Bool → ℕ → AParam → Scope → Fault → Type 0
ParameterFormFault (Some n) defines at p scope f = Unless (is_taken scope n.name) n.at Twice
    (Lacking (is_scalar (written p.spec p.stars)) n.at BadType Never) f
ParameterFormFault None defines at p scope f = Lacking (is_scalar (written p.spec p.stars)) (word_of p.spec) BadType
    (Unless defines at BadType Never) f

-- the types of an earlier declaration
abbrev pub IsSameAs : Option Signature → Signature → Unit {0} → Type 0
IsSameAs None mine ok = ok ≡ tt
IsSameAs (Some s) mine ok = With (same_signature s mine) (λ u. u ≡ tt) ok

abbrev pub SameFault : Option Signature → Signature → ℕ → Fault → Type 0
SameFault None mine at f = ⊥
SameFault (Some s) mine at f = Lacking (same_signature s mine) at BadType Never f

abbrev pub AgreesWith : Option ℕ → List Signature → Signature → Unit {0} → Type 0
AgreesWith None declared mine ok = ok ≡ tt
AgreesWith (Some n) declared mine ok = IsSameAs (slice_get declared n) mine ok

abbrev pub DisagreesWith : Option ℕ → List Signature → Signature → ℕ → Fault → Type 0
DisagreesWith None declared mine at f = ⊥
DisagreesWith (Some n) declared mine at f = SameFault (slice_get declared n) mine at f

-- at most 32 parameters, and the types of the earlier declaration
abbrev pub Agrees : Option ℕ → List Signature → Signature → Unit {0} → Type 0
Agrees earlier declared mine ok = Without (nat_lt 32 (length mine.parameters)) (AgreesWith earlier declared mine) ok

abbrev pub AgreesFault : Option ℕ → List Signature → Signature → ℕ → Fault → Type 0
AgreesFault earlier declared mine at f = Unless (nat_lt 32 (length mine.parameters)) at BadType (DisagreesWith earlier declared mine at) f

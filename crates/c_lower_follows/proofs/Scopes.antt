-- Scopes: what fits them, and what they become.
use Rattle.std.proofs.Common.{◌≡◌, ℕ, ◌<◌, List, [], ◌∷◌, refl, sym, subst, arith, ◌⊎◌, inl, inr, ⊎_elim}
use Rattle.std.specs.Prelude.{Bool, false, ◌||◌}
use Rattle.std.proofs.lemmas.Bool.{cases_eq, eqb-false, or_parts}
use Rattle.c_types.specs.declared.types.CType.{CType}
use Rattle.c_types.specs.declared.typed.Variable.{Variable}
use Rattle.c_types.specs.declared.typed.Variable.TheVariants as variables
use Rattle.c_types.specs.Typed.{APlace, VariableAt, PointedBy, ElementBy, AnExpression, Constant, LiteralAt, ArrayAt, ReadOf, SizeOfExpression, SizeOf, AddressOf, CallOf, StepOf}
use Rattle.c_types.specs.Typed.{UnaryOf, CastTo, ConvertTo, ArithmeticOf, CompareOf, BothOf, EitherOf, AdvanceOf, AdvanceByOf, RetreatOf, DistanceOf, ChoiceOf, AssignTo}
use Rattle.c_types.specs.Typed.{ArithmeticAssignTo, AdvanceAssignTo, RetreatAssignTo, CommaOf, SomeExpressions, NoExpressions, MoreExpressions}
use Rattle.c_program.specs.Statements.{ADeclaration, KeepOf, ClearOf, BeginOf, StoreOf, ZerosOf, AnAction, DeclareOf, BlockOf}
use Rattle.c_program.specs.Statements.{EvaluateOf, BreakOf, ContinueOf, ReturnOf, IfOf, IfElseOf, WhileOf, DoOf, ForOf}
use Rattle.c_meaning.specs.State.{State}
use Rattle.c_lower_scheme.specs.Mentions.{is_local, place_mentions, mentions, any_mentions}
use Rattle.c_sound.specs.Fits.{StandsIn, FitsAt, Fits, FitsAll, more, declaring, behind_act, FitsDeclared, FitsAct}
use Rattle.c_lower_follows.proofs.Steps.{Desk}
use Rattle.c_lower_follows.proofs.Agreeing.{Agree}

-- Expressions fit where each local in scope that they name is.
module _ (live scope : ℕ → Type 0) where
  abbrev pub Unless : (ℕ → Bool) → Type 0
  Unless f = (x : ℕ) → scope x → live x ⊎ (f x ≡ false)

  left : (f g : ℕ → Bool) → Unless (λ x. f x || g x) → Unless f
  left f g h x s = ⊎_elim (λ l. inl l) (λ e. inr (or_parts (f x) (g x) e).0) (h x s)

  right : (f g : ℕ → Bool) → Unless (λ x. f x || g x) → Unless g
  right f g h x s = ⊎_elim (λ l. inl l) (λ e. inr (or_parts (f x) (g x) e).1) (h x s)

  first : (a b : AnExpression) → Unless (λ x. mentions x a || mentions x b) → Unless (λ x. mentions x a)
  first a b u = left (λ x. mentions x a) (λ x. mentions x b) u

  second : (a b : AnExpression) → Unless (λ x. mentions x a || mentions x b) → Unless (λ x. mentions x b)
  second a b u = right (λ x. mentions x a) (λ x. mentions x b) u

  at_first : (a : APlace) (b : AnExpression) → Unless (λ x. place_mentions x a || mentions x b) → Unless (λ x. place_mentions x a)
  at_first a b u = left (λ x. place_mentions x a) (λ x. mentions x b) u

  at_second : (a : APlace) (b : AnExpression) → Unless (λ x. place_mentions x a || mentions x b) → Unless (λ x. mentions x b)
  at_second a b u = right (λ x. place_mentions x a) (λ x. mentions x b) u

  variable_where : (v : Variable) → Unless (λ x. is_local x v) → StandsIn scope v → StandsIn live v
  variable_where (variables.Automatic m) u h = ⊎_elim (λ l. l) (λ e. absurd (eqb-false m m e refl)) (u m h)
  variable_where (variables.Parameter m) u h = tt
  variable_where (variables.Global m) u h = tt
  variable_where (variables.Static m) u h = tt
  variable_where (variables.InBlock o) u h = tt

  mutual
    pub place_where : (a : APlace) → Unless (λ x. place_mentions x a) → FitsAt scope a → FitsAt live a
    place_where (VariableAt t v) u h = variable_where v u h
    place_where (PointedBy t e) u h = fits_where e u h
    place_where (ElementBy t e) u h = fits_where e u h

    pub fits_where : (e : AnExpression) → Unless (λ x. mentions x e) → Fits scope e → Fits live e
    fits_where (Constant v) u h = h
    fits_where (LiteralAt object bytes) u h = tt
    fits_where (ArrayAt t v bytes) u h = tt
    fits_where (ReadOf a) u h = place_where a u h
    fits_where (SizeOfExpression v e) u h = h
    fits_where (SizeOf v) u h = h
    fits_where (AddressOf t a) u h = place_where a u h
    fits_where (CallOf t f to es) u h = all_where es to u h
    fits_where (StepOf m by a) u h = place_where a u h
    fits_where (UnaryOf op e) u h = fits_where e u h
    fits_where (CastTo t e) u h = fits_where e u h
    fits_where (ConvertTo t e) u h = fits_where e u h
    fits_where (ArithmeticOf op a b) u h = (fits_where a (first a b u) h.0, fits_where b (second a b u) h.1)
    fits_where (CompareOf r a b) u h = (fits_where a (first a b u) h.0, fits_where b (second a b u) h.1)
    fits_where (BothOf a b) u h = (fits_where a (first a b u) h.0, fits_where b (second a b u) h.1)
    fits_where (EitherOf a b) u h = (fits_where a (first a b u) h.0, fits_where b (second a b u) h.1)
    fits_where (AdvanceOf t a b) u h = (fits_where a (first a b u) h.0, fits_where b (second a b u) h.1)
    fits_where (AdvanceByOf t a b) u h = (fits_where a (first a b u) h.0, fits_where b (second a b u) h.1)
    fits_where (RetreatOf t a b) u h = (fits_where a (first a b u) h.0, fits_where b (second a b u) h.1)
    fits_where (DistanceOf t a b) u h = (fits_where a (first a b u) h.0, fits_where b (second a b u) h.1)
    fits_where (CommaOf t a b) u h = (fits_where a (first a b u) h.0, fits_where b (second a b u) h.1)
    fits_where (ChoiceOf t c a b) u h =
        let f : ℕ → Bool = λ x. mentions x a || mentions x b in
        let v = right (λ x. mentions x c) f u in
        (fits_where c (left (λ x. mentions x c) f u) h.0, fits_where a (first a b v) h.1, fits_where b (second a b v) h.2)
    fits_where (AssignTo a b) u h = (place_where a (at_first a b u) h.0, fits_where b (at_second a b u) h.1)
    fits_where (ArithmeticAssignTo op a b) u h = (place_where a (at_first a b u) h.0, fits_where b (at_second a b u) h.1)
    fits_where (AdvanceAssignTo a b) u h = (place_where a (at_first a b u) h.0, fits_where b (at_second a b u) h.1)
    fits_where (RetreatAssignTo a b) u h = (place_where a (at_first a b u) h.0, fits_where b (at_second a b u) h.1)

    all_where : (es : SomeExpressions) (to : List CType) → Unless (λ x. any_mentions x es) → FitsAll scope es to → FitsAll live es to
    all_where NoExpressions to u h = tt
    all_where (MoreExpressions e es) [] u h = h
    all_where (MoreExpressions e es) (t ∷ to) u h =
        (fits_where e (left (λ x. mentions x e) (λ x. any_mentions x es) u) h.0, all_where es to (right (λ x. mentions x e) (λ x. any_mentions x es) u) h.1)

-- an expression that does not name a local fits a scope without it
abbrev pub without : (ℕ → Type 0) → ℕ → ℕ → Type 0
without scope n m = scope m × (m ≡ n → ⊥)

pub fits_without : (scope : ℕ → Type 0) (n : ℕ) (e : AnExpression) → mentions n e ≡ false → Fits (more scope n) e → Fits (without scope n) e
fits_without scope n e unnamed h = fits_where (without scope n) (more scope n) e
    (λ x s. ⊎_elim (λ eq. inr (subst (λ i. mentions i e ≡ false) (sym eq) unnamed)) (λ ne. inl (⊎_elim (λ sc. (sc, ne)) (λ eq. absurd (ne eq)) s)) (cases_eq x n)) h

-- scopes only grow within a block
pub declaring_more : (scope : ℕ → Type 0) (ds : List ADeclaration) (x : ℕ) → scope x → declaring scope ds x
declaring_more scope [] x h = h
declaring_more scope (KeepOf object ∷ ds) x h = declaring_more scope ds x h
declaring_more scope (ClearOf n ∷ ds) x h = declaring_more (more scope n) ds x (inl h)
declaring_more scope (BeginOf n e ∷ ds) x h = declaring_more (more scope n) ds x (inl h)
declaring_more scope (StoreOf t o e ∷ ds) x h = declaring_more scope ds x h
declaring_more scope (ZerosOf t o count ∷ ds) x h = declaring_more scope ds x h

pub behind_more : (scope : ℕ → Type 0) (a : AnAction) (x : ℕ) → scope x → behind_act scope a x
behind_more scope (DeclareOf ds) x h = declaring_more scope ds x h
behind_more scope (BlockOf row) x h = h
behind_more scope (EvaluateOf e) x h = h
behind_more scope BreakOf x h = h
behind_more scope ContinueOf x h = h
behind_more scope (ReturnOf e) x h = h
behind_more scope (IfOf c a) x h = h
behind_more scope (IfElseOf c a b) x h = h
behind_more scope (WhileOf c a) x h = h
behind_more scope (DoOf a c) x h = h
behind_more scope (ForOf i c e a) x h = h

pub more_within : (size : ℕ) (scope : ℕ → Type 0) (n : ℕ) → n < size → ((x : ℕ) → scope x → x < size) → (x : ℕ) → more scope n x → x < size
more_within size scope n lt within x (inl h) = within x h
more_within size scope n lt within x (inr e) = omega arith

pub declaring_within : (size : ℕ) (scope : ℕ → Type 0) (ds : List ADeclaration) → FitsDeclared size scope ds → ((x : ℕ) → scope x → x < size) → (x : ℕ) → declaring scope ds x → x < size
declaring_within size scope [] fit within x h = within x h
declaring_within size scope (KeepOf object ∷ ds) fit within x h = declaring_within size scope ds fit within x h
declaring_within size scope (ClearOf n ∷ ds) fit within x h = declaring_within size (more scope n) ds fit.1 (more_within size scope n fit.0 within) x h
declaring_within size scope (BeginOf n e ∷ ds) fit within x h = declaring_within size (more scope n) ds fit.2 (more_within size scope n fit.0 within) x h
declaring_within size scope (StoreOf t o e ∷ ds) fit within x h = declaring_within size scope ds fit.2 within x h
declaring_within size scope (ZerosOf t o count ∷ ds) fit within x h = declaring_within size scope ds fit.2 within x h

pub behind_within : (size : ℕ) (scope : ℕ → Type 0) (inside : Bool) (a : AnAction) → FitsAct size scope inside a → ((x : ℕ) → scope x → x < size) → (x : ℕ) → behind_act scope a x → x < size
behind_within size scope inside (DeclareOf ds) fit within x h = declaring_within size scope ds fit within x h
behind_within size scope inside (BlockOf row) fit within x h = within x h
behind_within size scope inside (EvaluateOf e) fit within x h = within x h
behind_within size scope inside BreakOf fit within x h = within x h
behind_within size scope inside ContinueOf fit within x h = within x h
behind_within size scope inside (ReturnOf e) fit within x h = within x h
behind_within size scope inside (IfOf c a) fit within x h = within x h
behind_within size scope inside (IfElseOf c a b) fit within x h = within x h
behind_within size scope inside (WhileOf c a) fit within x h = within x h
behind_within size scope inside (DoOf a c) fit within x h = within x h
behind_within size scope inside (ForOf i c e a) fit within x h = within x h

pub agree_less : (extent size first depth : ℕ) (less scope : ℕ → Type 0) (st : State) (d : Desk) → ((x : ℕ) → less x → scope x) → Agree extent size first scope depth st d
    → Agree extent size first less depth st d
agree_less extent size first depth less scope st d sub h = record {
  local = λ x l. h.local x (sub x l);
  count = h.count;
  arguments = h.arguments;
  area = h.area;
  input = h.input;
  pushed = h.pushed;
  active = h.active;
  ranged = h.ranged;
  bytes = h.bytes;
  whole = h.whole;
  pointer = h.pointer;
}

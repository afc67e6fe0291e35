-- Locals whose zero is not written: until they are assigned to, the states need not agree on them.
use Rattle.std.proofs.Common.{◌≡◌, ℕ, zero, suc, List, [], ◌∷◌, Option, Some, refl, sym, subst, ◌⊎◌, inl, inr, ⊎_elim}
use Rattle.std.specs.Prelude.{true, false, not, ◌==◌, ◌&&◌, ◌||◌}
use Rattle.std.proofs.lemmas.Bool.{cases_eq, eqb-true, or_parts, or_cases, and_parts, not-true, not-false}
use Rattle.c_types.specs.declared.types.CType.{CType}
use Rattle.c_types.specs.declared.typed.Variable.TheVariants as variables
use Rattle.c_types.specs.Typed.{VariableAt, PointedBy, ElementBy, AnExpression, Constant, LiteralAt, ArrayAt, ReadOf, SizeOfExpression, SizeOf, AddressOf, CallOf, StepOf}
use Rattle.c_types.specs.Typed.{UnaryOf, CastTo, ConvertTo, ArithmeticOf, CompareOf, BothOf, EitherOf, AdvanceOf, AdvanceByOf, RetreatOf, DistanceOf, ChoiceOf, AssignTo}
use Rattle.c_types.specs.Typed.{ArithmeticAssignTo, AdvanceAssignTo, RetreatAssignTo, CommaOf}
use Rattle.c_program.specs.Statements.{ADeclaration, KeepOf, ClearOf, BeginOf, StoreOf, ZerosOf, AnAction, SomeActions, MoreActions, DeclareOf, BlockOf, EvaluateOf, ForOf}
use Rattle.c_lower_scheme.specs.Mentions.{mentions}
use Rattle.c_lower_scheme.specs.Zeros.{sets, maybe_sets, is_overwritten, is_zeroed}
use Rattle.c_sound.specs.Fits.{Fits, more}
use Rattle.c_lower_follows.proofs.Scopes.{fits_where, without}

-- an assignment to a local
pub data Sets : AnExpression → Type 0 where
  SetsLocal : (t : CType) (m : ℕ) (e : AnExpression) → Sets (AssignTo (VariableAt t (variables.Automatic m)) e)

pub sets_or_not : (e : AnExpression) → Sets e ⊎ ((x : ℕ) → sets x e ≡ false)
sets_or_not (AssignTo (VariableAt t (variables.Automatic m)) e) = inl (SetsLocal t m e)
sets_or_not (AssignTo (VariableAt t (variables.Parameter m)) e) = inr (λ x. refl)
sets_or_not (AssignTo (VariableAt t (variables.Global m)) e) = inr (λ x. refl)
sets_or_not (AssignTo (VariableAt t (variables.Static m)) e) = inr (λ x. refl)
sets_or_not (AssignTo (VariableAt t (variables.InBlock o)) e) = inr (λ x. refl)
sets_or_not (AssignTo (PointedBy t a) e) = inr (λ x. refl)
sets_or_not (AssignTo (ElementBy t a) e) = inr (λ x. refl)
sets_or_not (Constant v) = inr (λ x. refl)
sets_or_not (LiteralAt object bytes) = inr (λ x. refl)
sets_or_not (ArrayAt t v bytes) = inr (λ x. refl)
sets_or_not (ReadOf a) = inr (λ x. refl)
sets_or_not (SizeOfExpression v e) = inr (λ x. refl)
sets_or_not (SizeOf v) = inr (λ x. refl)
sets_or_not (AddressOf t a) = inr (λ x. refl)
sets_or_not (CallOf t f to es) = inr (λ x. refl)
sets_or_not (StepOf m by a) = inr (λ x. refl)
sets_or_not (UnaryOf op e) = inr (λ x. refl)
sets_or_not (CastTo t e) = inr (λ x. refl)
sets_or_not (ConvertTo t e) = inr (λ x. refl)
sets_or_not (ArithmeticOf op a b) = inr (λ x. refl)
sets_or_not (CompareOf r a b) = inr (λ x. refl)
sets_or_not (BothOf a b) = inr (λ x. refl)
sets_or_not (EitherOf a b) = inr (λ x. refl)
sets_or_not (AdvanceOf t a b) = inr (λ x. refl)
sets_or_not (AdvanceByOf t a b) = inr (λ x. refl)
sets_or_not (RetreatOf t a b) = inr (λ x. refl)
sets_or_not (DistanceOf t a b) = inr (λ x. refl)
sets_or_not (ChoiceOf t c a b) = inr (λ x. refl)
sets_or_not (ArithmeticAssignTo op a e) = inr (λ x. refl)
sets_or_not (AdvanceAssignTo a e) = inr (λ x. refl)
sets_or_not (RetreatAssignTo a e) = inr (λ x. refl)
sets_or_not (CommaOf t a b) = inr (λ x. refl)

-- such an assignment: the local is that one, and the value does not name it
set_parts : (t : CType) (m : ℕ) (e : AnExpression) (x : ℕ) → sets x (AssignTo (VariableAt t (variables.Automatic m)) e) ≡ true → (x ≡ m) × (mentions x e ≡ false)
set_parts t m e x h = let q = and_parts (m == x) (not (mentions x e)) h in (sym (eqb-true m x q.0), not-true (mentions x e) q.1)

-- A local waits where it is assigned to before anything names it.
pub record Waits (n : ℕ) (ds : List ADeclaration) (row : SomeActions) : Type 0 where
  pub ahead : ℕ
  pub found : is_overwritten ahead n ds row ≡ true

-- The states agree on the live locals; each other one that is in scope waits.
pub record Partly (live scope : ℕ → Type 0) (ds : List ADeclaration) (row : SomeActions) : Type 0 where
  pub inside : (x : ℕ) → live x → scope x
  pub each : (x : ℕ) → scope x → live x ⊎ Waits x ds row

pub wholly : (scope : ℕ → Type 0) (ds : List ADeclaration) (row : SomeActions) → Partly scope scope ds row
wholly scope ds row = record { inside = λ x h. h; each = λ x h. inl h }

-- where none waits, all are live
pub none_waits : (live scope : ℕ → Type 0) (ds : List ADeclaration) (row : SomeActions) → ((k x : ℕ) → is_overwritten (suc k) x ds row ≡ false)
    → Partly live scope ds row → (x : ℕ) → scope x → live x
none_waits live scope ds row none h x s = ⊎_elim (λ l. l) (λ w. absurd (by w.ahead w.found)) (h.each x s)
  where
    by : (k : ℕ) → is_overwritten k x ds row ≡ true → ⊥
    by zero e = cc
    by (suc k) e = let f = none k x in cc

-- one declaration or statement further on, a waiting local is live or waits
further : (live live' scope scope' : ℕ → Type 0) (ds ds' : List ADeclaration) (row row' : SomeActions) → ((x : ℕ) → live' x → scope' x)
    → ((x : ℕ) → scope' x → live' x ⊎ scope x) → ((x : ℕ) → live x → live' x ⊎ Waits x ds' row')
    → ((k x : ℕ) → is_overwritten (suc k) x ds row ≡ true → live' x ⊎ (is_overwritten k x ds' row' ≡ true)) → Partly live scope ds row → Partly live' scope' ds' row'
further live live' scope scope' ds ds' row row' within back stays step h = record {
  inside = within;
  each = λ x s. ⊎_elim (λ l. inl l) (λ sc. ⊎_elim (stays x) (λ w. by x w.ahead w.found) (h.each x sc)) (back x s);
}
  where
    by : (x k : ℕ) → is_overwritten k x ds row ≡ true → live' x ⊎ Waits x ds' row'
    by x zero e = absurd (cc)
    by x (suc k) e = ⊎_elim (λ l. inl l) (λ f. inr (record { ahead = k; found = f })) (step k x e)

module _ (live scope : ℕ → Type 0) (row : SomeActions) where
  pub past_keep : (object : ℕ) (ds : List ADeclaration) → Partly live scope (KeepOf object ∷ ds) row → Partly live scope ds row
  past_keep object ds h = further live live scope scope (KeepOf object ∷ ds) ds row row h.inside (λ x s. inr s) (λ x l. inl l) (λ k x e. inr e) h

  -- a zero that is written, and one that is not
  pub past_clear : (n : ℕ) (ds : List ADeclaration) → Partly live scope (ClearOf n ∷ ds) row → Partly (more live n) (more scope n) ds row
  past_clear n ds h = further live (more live n) scope (more scope n) (ClearOf n ∷ ds) ds row row (λ x l. ⊎_elim (λ m. inl (h.inside x m)) (λ e. inr e) l)
      (λ x s. ⊎_elim (λ m. inr m) (λ e. inl (inr e)) s) (λ x l. inl (inl l)) (λ k x e. inr e) h

  left_waits : (n : ℕ) (ds : List ADeclaration) → is_zeroed n ds row ≡ false → Waits n ds row
  left_waits n ds zeroed = record { ahead = 64; found = not-false (is_overwritten 64 n ds row) zeroed }

  pub past_left : (n : ℕ) (ds : List ADeclaration) → is_zeroed n ds row ≡ false → Partly live scope (ClearOf n ∷ ds) row → Partly (without live n) (more scope n) ds row
  past_left n ds zeroed h = record {
    inside = λ x l. inl (h.inside x l.0);
    each = λ x s. ⊎_elim
        (λ eq. inr (subst (λ i. Waits i ds row) (sym eq) (left_waits n ds zeroed)))
        (λ ne. ⊎_elim (λ sc. ⊎_elim (λ l. inl (l, ne)) (λ w. inr (by x w.ahead w.found)) (h.each x sc)) (λ eq. absurd (ne eq)) s)
        (cases_eq x n);
  }
    where
      by : (x k : ℕ) → is_overwritten k x (ClearOf n ∷ ds) row ≡ true → Waits x ds row
      by x zero e = absurd (cc)
      by x (suc k) e = record { ahead = k; found = e }

  pub past_begin : (n : ℕ) (e : AnExpression) (ds : List ADeclaration) → Partly live scope (BeginOf n e ∷ ds) row → Partly (more live n) (more scope n) ds row
  past_begin n e ds h = further live (more live n) scope (more scope n) (BeginOf n e ∷ ds) ds row row (λ x l. ⊎_elim (λ m. inl (h.inside x m)) (λ e. inr e) l)
      (λ x s. ⊎_elim (λ m. inr m) (λ e. inl (inr e)) s) (λ x l. inl (inl l))
      (λ k x f. ⊎_elim (λ eq. inl (inr (sym (eqb-true n x eq)))) (λ g. inr g)
      (or_cases (n == x) (is_overwritten k x ds row) (and_parts (not (mentions x e)) (n == x || is_overwritten k x ds row) f).1)) h

  pub begin_fits : (n : ℕ) (e : AnExpression) (ds : List ADeclaration) → Partly live scope (BeginOf n e ∷ ds) row → Fits (more scope n) e → Fits (more live n) e
  begin_fits n e ds h fit = fits_where (more live n) (more scope n) e
      (λ x s. ⊎_elim (λ sc. ⊎_elim (λ l. inl (inl l)) (λ w. inr (by x w.ahead w.found)) (h.each x sc)) (λ eq. inl (inr eq)) s) fit
    where
      by : (x k : ℕ) → is_overwritten k x (BeginOf n e ∷ ds) row ≡ true → mentions x e ≡ false
      by x zero f = absurd (cc)
      by x (suc k) f = not-true (mentions x e) (and_parts (not (mentions x e)) (n == x || is_overwritten k x ds row) f).0

  -- a value that is stored in the block, and zeros
  store_parts : (t : CType) (o : ℕ) (e : AnExpression) (ds : List ADeclaration) (k x : ℕ) → is_overwritten (suc k) x (StoreOf t o e ∷ ds) row ≡ true
      → (mentions x e ≡ false) × (is_overwritten k x ds row ≡ true)
  store_parts t o e ds k x f = let q = and_parts (not (mentions x e)) (is_overwritten k x ds row) f in (not-true (mentions x e) q.0, q.1)

  pub past_store : (t : CType) (o : ℕ) (e : AnExpression) (ds : List ADeclaration) → Partly live scope (StoreOf t o e ∷ ds) row → Partly live scope ds row
  past_store t o e ds h = further live live scope scope (StoreOf t o e ∷ ds) ds row row h.inside (λ x s. inr s) (λ x l. inl l) (λ k x f. inr (store_parts t o e ds k x f).1) h

  pub store_fits : (t : CType) (o : ℕ) (e : AnExpression) (ds : List ADeclaration) → Partly live scope (StoreOf t o e ∷ ds) row → Fits scope e → Fits live e
  store_fits t o e ds h fit = fits_where live scope e (λ x s. ⊎_elim (λ l. inl l) (λ w. inr (by x w.ahead w.found)) (h.each x s)) fit
    where
      by : (x k : ℕ) → is_overwritten k x (StoreOf t o e ∷ ds) row ≡ true → mentions x e ≡ false
      by x zero f = absurd (cc)
      by x (suc k) f = (store_parts t o e ds k x f).0

  pub past_zeros : (t : CType) (o count : ℕ) (ds : List ADeclaration) → Partly live scope (ZerosOf t o count ∷ ds) row → Partly live scope ds row
  past_zeros t o count ds h = further live live scope scope (ZerosOf t o count ∷ ds) ds row row h.inside (λ x s. inr s) (λ x l. inl l) (λ k x e. inr e) h

  pub past_declare : (ds : List ADeclaration) → Partly live scope [] (MoreActions (DeclareOf ds) row) → Partly live scope ds row
  past_declare ds h = further live live scope scope [] ds (MoreActions (DeclareOf ds) row) row h.inside (λ x s. inr s) (λ x l. inl l) (λ k x e. inr e) h

  pub into_block : (inner : SomeActions) → Partly live scope [] (MoreActions (BlockOf inner) row) → Partly live scope [] inner
  into_block inner h = further live live scope scope [] [] (MoreActions (BlockOf inner) row) inner h.inside (λ x s. inr s) (λ x l. inl l) (λ k x e. inr e) h

  -- an expression statement that assigns to no local
  after_other : (e : AnExpression) → ((x : ℕ) → sets x e ≡ false) → (k x : ℕ) → is_overwritten (suc k) x [] (MoreActions (EvaluateOf e) row) ≡ true
      → (mentions x e ≡ false) × (is_overwritten k x [] row ≡ true)
  after_other e none k x f = ⊎_elim (λ s. absurd (let g = none x in cc))
      (λ m. let q = and_parts (not (mentions x e)) (is_overwritten k x [] row) m in (not-true (mentions x e) q.0, q.1))
      (or_cases (sets x e) (not (mentions x e) && is_overwritten k x [] row) f)

  pub past_other : (e : AnExpression) → ((x : ℕ) → sets x e ≡ false) → Partly live scope [] (MoreActions (EvaluateOf e) row) → Partly live scope [] row
  past_other e none h = further live live scope scope [] [] (MoreActions (EvaluateOf e) row) row h.inside (λ x s. inr s) (λ x l. inl l)
      (λ k x f. inr (after_other e none k x f).1) h

  pub other_fits : (e : AnExpression) → ((x : ℕ) → sets x e ≡ false) → Partly live scope [] (MoreActions (EvaluateOf e) row) → Fits scope e → Fits live e
  other_fits e none h fit = fits_where live scope e (λ x s. ⊎_elim (λ l. inl l) (λ w. inr (by x w.ahead w.found)) (h.each x s)) fit
    where
      by : (x k : ℕ) → is_overwritten k x [] (MoreActions (EvaluateOf e) row) ≡ true → mentions x e ≡ false
      by x zero f = absurd (cc)
      by x (suc k) f = (after_other e none k x f).0

  -- and one that does: the local is that one, or waits on
  after_set : (t : CType) (m : ℕ) (e : AnExpression) (k x : ℕ)
      → is_overwritten (suc k) x [] (MoreActions (EvaluateOf (AssignTo (VariableAt t (variables.Automatic m)) e)) row) ≡ true
      → (mentions x e ≡ false) × ((x ≡ m) ⊎ (is_overwritten k x [] row ≡ true))
  after_set t m e k x f =
      let a = AssignTo (VariableAt t (variables.Automatic m)) e in
      ⊎_elim (λ s. let q = set_parts t m e x s in (q.1, inl q.0))
      (λ r. let q = and_parts (not (mentions x a)) (is_overwritten k x [] row) r in
      ((or_parts (m == x) (mentions x e) (not-true (mentions x a) q.0)).1, inr q.1))
      (or_cases (sets x a) (not (mentions x a) && is_overwritten k x [] row) f)

  pub past_set : (t : CType) (m : ℕ) (e : AnExpression) → scope m → Partly live scope [] (MoreActions (EvaluateOf (AssignTo (VariableAt t (variables.Automatic m)) e)) row)
      → Partly (more live m) scope [] row
  past_set t m e sm h = further live (more live m) scope scope [] [] (MoreActions (EvaluateOf (AssignTo (VariableAt t (variables.Automatic m)) e)) row) row
      (λ x l. ⊎_elim (h.inside x) (λ eq. subst scope (sym eq) sm) l) (λ x s. inr s) (λ x l. inl (inl l))
      (λ k x f. ⊎_elim (λ eq. inl (inr eq)) (λ g. inr g) (after_set t m e k x f).1) h

  pub set_fits : (t : CType) (m : ℕ) (e : AnExpression) → Partly live scope [] (MoreActions (EvaluateOf (AssignTo (VariableAt t (variables.Automatic m)) e)) row)
      → Fits scope e → Fits live e
  set_fits t m e h fit = fits_where live scope e (λ x s. ⊎_elim (λ l. inl l) (λ w. inr (by x w.ahead w.found)) (h.each x s)) fit
    where
      by : (x k : ℕ) → is_overwritten k x [] (MoreActions (EvaluateOf (AssignTo (VariableAt t (variables.Automatic m)) e)) row) ≡ true → mentions x e ≡ false
      by x zero f = absurd (cc)
      by x (suc k) f = (after_set t m e k x f).0

  -- the first part of a `for`
  for_each : (i c e : Option AnExpression) (a : AnAction) → Partly live scope [] (MoreActions (ForOf i c e a) row) → (x : ℕ) → scope x → live x ⊎ (maybe_sets x i ≡ true)
  for_each i c e a h x s = ⊎_elim (λ l. inl l) (λ w. inr (by w.ahead w.found)) (h.each x s)
    where
      by : (k : ℕ) → is_overwritten k x [] (MoreActions (ForOf i c e a) row) ≡ true → maybe_sets x i ≡ true
      by zero f = absurd (cc)
      by (suc k) f = f

  pub for_live : (i c e : Option AnExpression) (a : AnAction) → ((x : ℕ) → maybe_sets x i ≡ false) → Partly live scope [] (MoreActions (ForOf i c e a) row)
      → (x : ℕ) → scope x → live x
  for_live i c e a none h x s = ⊎_elim (λ l. l) (λ f. absurd (let g = none x in cc)) (for_each i c e a h x s)

  pub for_set : (t : CType) (m : ℕ) (v : AnExpression) (c e : Option AnExpression) (a : AnAction)
      → Partly live scope [] (MoreActions (ForOf (Some (AssignTo (VariableAt t (variables.Automatic m)) v)) c e a) row) → (x : ℕ) → scope x → more live m x
  for_set t m v c e a h x s = ⊎_elim (λ l. inl l) (λ f. inr (set_parts t m v x f).0) (for_each (Some (AssignTo (VariableAt t (variables.Automatic m)) v)) c e a h x s)

  pub for_fits : (t : CType) (m : ℕ) (v : AnExpression) (c e : Option AnExpression) (a : AnAction)
      → Partly live scope [] (MoreActions (ForOf (Some (AssignTo (VariableAt t (variables.Automatic m)) v)) c e a) row) → Fits scope v → Fits live v
  for_fits t m v c e a h fit = fits_where live scope v
      (λ x s. ⊎_elim (λ l. inl l) (λ f. inr (set_parts t m v x f).1) (for_each (Some (AssignTo (VariableAt t (variables.Automatic m)) v)) c e a h x s)) fit

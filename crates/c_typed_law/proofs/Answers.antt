-- A function that answers a definition answers what the relations say of it.
use Rattle.std.proofs.Common.{◌≡◌, ℕ, List, Result, Ok, Err}
use Rattle.std.specs.Prelude.{IfOk, IfErr}
use Rattle.c_types.specs.declared.fault.TypeFault.{TypeFault}
use Rattle.c_types.specs.declared.fault.TypeFault.TheVariants.{NoMemory, At}
use Rattle.c_types.specs.Answers.{Fault, Gives}
use Rattle.c_typed_definition.specs.c_typed_operators.specs.Table.{Means, Refused, OnlyAnswer, OnlyFault}
use Rattle.c_phrases.specs.Units.{AnExternal}
use Rattle.c_typed_definition.specs.c_program.specs.Programs.{AProgram}
use Rattle.c_typed_definition.specs.Texts.{type_text}
use Rattle.c_typed_law.specs.Texts.{IsText, TextFault}
use Rattle.c_typed_law.proofs.Law.{text_means}

means_found : {X A : Type 0} (view : X → A) (r : Result X TypeFault) (m : Result A Fault) (R : A → Type 0) (F : Fault → Type 0) → Means m R F → Gives view r m → IfOk r (λ x. R (view x))
means_found view (Ok x) m R F h given = h.found (view x) given
means_found view (Err e) m R F h given = tt

means_only : {X A : Type 0} (view : X → A) (r : Result X TypeFault) (m : Result A Fault) (R : A → Type 0) (F : Fault → Type 0) → Means m R F → Gives view r m → (t : A) → R t → OnlyAnswer view r t
means_only view (Ok x) m R F h given t typed = let same : m ≡ Ok t = h.only t typed in cc
means_only view (Err NoMemory) m R F h given t typed = tt
means_only view (Err (At place kind)) m R F h given t typed = let same : m ≡ Ok t = h.only t typed in absurd (cc)

means_refused : {X A : Type 0} (view : X → A) (r : Result X TypeFault) (m : Result A Fault) (R : A → Type 0) (F : Fault → Type 0) → Means m R F → Gives view r m → IfErr r (λ e. Refused F e)
means_refused view (Ok x) m R F h given = tt
means_refused view (Err NoMemory) m R F h given = tt
means_refused view (Err (At place kind)) m R F h given = h.faults (record { place = place; kind = kind }) given

means_first : {X A : Type 0} (view : X → A) (r : Result X TypeFault) (m : Result A Fault) (R : A → Type 0) (F : Fault → Type 0) → Means m R F → Gives view r m → (f : Fault) → F f → OnlyFault r f
means_first view (Ok x) m R F h given f first = let same : m ≡ Err f = h.first f first in absurd (cc)
means_first view (Err NoMemory) m R F h given f first = tt
means_first view (Err (At place kind)) m R F h given f first = let same : m ≡ Err f = h.first f first in cc

module _ {X : Type 0} (view : X → AProgram) (r : Result X TypeFault) (text : List AnExternal) (ends : List ℕ) (end : ℕ) where
  -- what is answered is the text's program
  pub text_found : Gives view r (type_text text ends end) → IfOk r (λ x. IsText text ends end (view x))
  text_found given = means_found view r (type_text text ends end) (IsText text ends end) (TextFault text ends end) (text_means text ends end) given

  -- what the text is typed as is answered
  pub text_only : Gives view r (type_text text ends end) → (p : AProgram) → IsText text ends end p → OnlyAnswer view r p
  text_only given = means_only view r (type_text text ends end) (IsText text ends end) (TextFault text ends end) (text_means text ends end) given

  -- the fault that is answered is the text's first one
  pub text_refused : Gives view r (type_text text ends end) → IfErr r (λ e. Refused (TextFault text ends end) e)
  text_refused given = means_refused view r (type_text text ends end) (IsText text ends end) (TextFault text ends end) (text_means text ends end) given

  -- the text's first fault is answered
  pub text_first : Gives view r (type_text text ends end) → (f : Fault) → TextFault text ends end f → OnlyFault r f
  text_first given = means_first view r (type_text text ends end) (IsText text ends end) (TextFault text ends end) (text_means text ends end) given

pub ruleset text_answers = (text_found, text_only, text_refused, text_first)

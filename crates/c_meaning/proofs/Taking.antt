-- A block is taken, step by step, or there is no room for it.
use Rattle.std.proofs.Common.{◌≡◌, ℕ, zero, suc, List, Option, Some, None, refl, sym, ap, ◌∙◌}
use Rattle.std.specs.Prelude.{Bool, is_some, unwrap_or}
use Rattle.gg_base.specs.declared.run.End.TheVariants.{Wild, Trapped}
use Rattle.gg_base.specs.Runs.{Runs, stop}
use Rattle.gg_base.specs.Arithmetic.{add32}
use Rattle.tree_core.specs.declared.program.Object.{Object}
use Rattle.c_types.specs.Types.{kept}
use Rattle.c_types.specs.Constants.{converted}
use Rattle.c_meaning.specs.declared.flow.Flow.{Flow}
use Rattle.c_meaning.specs.declared.store.Spot.TheVariants.{Memory}
use Rattle.c_meaning.specs.State.{State, address, held, put}
use Rattle.c_meaning.specs.Values.{Behind, or_wild, written, store_at}
use Rattle.c_meaning.specs.Parts.{changed_if}
use Rattle.c_meaning.specs.Blocks.{int, pointer_number, area_number, beginning, with_block, claimed, released}

module _ (objects : List Object) where
  pub no_pointer : (n : ℕ) (st : State) → (n ≡ 0 → ⊥) → address objects (pointer_number objects) ≡ None → (κ : State → Runs) → claimed objects n κ st ≡ stop Wild
  no_pointer zero st some none κ = absurd (some refl)
  no_pointer (suc n) st some none κ = rw none refl

  pub no_value : (n pointer : ℕ) (st : State) → (n ≡ 0 → ⊥) → address objects (pointer_number objects) ≡ Some pointer → held int (Memory pointer) st ≡ None
      → (κ : State → Runs) → claimed objects n κ st ≡ stop Wild
  no_value zero pointer st some at none κ = absurd (some refl)
  no_value (suc n) pointer st some at none κ = rw (at, none) refl

  pub no_area : (n pointer p : ℕ) (st : State) → (n ≡ 0 → ⊥) → address objects (pointer_number objects) ≡ Some pointer → held int (Memory pointer) st ≡ Some p
      → address objects (area_number objects) ≡ None → (κ : State → Runs) → claimed objects n κ st ≡ stop Wild
  no_area zero pointer p st some at holds none κ = absurd (some refl)
  no_area (suc n) pointer p st some at holds none κ = rw (at, holds, none) refl

  pub no_room : (n pointer p area : ℕ) (st : State) → (n ≡ 0 → ⊥) → address objects (pointer_number objects) ≡ Some pointer → held int (Memory pointer) st ≡ Some p
      → address objects (area_number objects) ≡ Some area → beginning area n p ≡ None → (κ : State → Runs) → claimed objects n κ st ≡ stop Trapped
  no_room zero pointer p area st some at holds lies none κ = absurd (some refl)
  no_room (suc n) pointer p area st some at holds lies none κ = rw (at, holds, lies, none) refl

  pub no_write : (n pointer p area b : ℕ) (st : State) → (n ≡ 0 → ⊥) → address objects (pointer_number objects) ≡ Some pointer → held int (Memory pointer) st ≡ Some p
      → address objects (area_number objects) ≡ Some area → beginning area n p ≡ Some b → put int (Memory pointer) (add32 b n) st ≡ None
      → (κ : State → Runs) → claimed objects n κ st ≡ stop Wild
  unfolding converted kept
  no_write zero pointer p area b st some at holds lies begins none κ = absurd (some refl)
  no_write (suc n) pointer p area b st some at holds lies begins none κ = rw (at, holds, lies, begins, none) refl

  pub takes : (n pointer p area b : ℕ) (st st' : State) → (n ≡ 0 → ⊥) → address objects (pointer_number objects) ≡ Some pointer → held int (Memory pointer) st ≡ Some p
      → address objects (area_number objects) ≡ Some area → beginning area n p ≡ Some b → put int (Memory pointer) (add32 b n) st ≡ Some st'
      → (κ : State → Runs) → claimed objects n κ st ≡ κ (with_block b st')
  unfolding converted kept
  takes zero pointer p area b st st' some at holds lies begins puts κ = absurd (some refl)
  takes (suc n) pointer p area b st st' some at holds lies begins puts κ = rw (at, holds, lies, begins, puts) refl

  -- it is given back, or can't be
  pub no_block : (n : ℕ) (st : State) → (n ≡ 0 → ⊥) → st.call.block ≡ None → (κ : Behind) (w : Flow) → released objects n κ w st ≡ stop Wild
  no_block zero st some none κ w = absurd (some refl)
  no_block (suc n) st some none κ w = rw none refl

  pub nowhere : (n b : ℕ) (st : State) → (n ≡ 0 → ⊥) → st.call.block ≡ Some b → address objects (pointer_number objects) ≡ None → (κ : Behind) (w : Flow)
      → released objects n κ w st ≡ stop Wild
  nowhere zero b st some begins none κ w = absurd (some refl)
  nowhere (suc n) b st some begins none κ w = rw (begins, none) refl

  pub gives : (n b pointer : ℕ) (st st' : State) → (n ≡ 0 → ⊥) → st.call.block ≡ Some b → address objects (pointer_number objects) ≡ Some pointer
      → put int (Memory pointer) b st ≡ Some st' → (κ : Behind) (w : Flow) → released objects n κ w st ≡ κ w st'
  unfolding converted kept
  gives zero b pointer st st' some begins at puts κ w = absurd (some refl)
  gives (suc n) b pointer st st' some begins at puts κ w =
      ap (λ o. or_wild o (λ b. or_wild (address objects (pointer_number objects)) (λ pointer. store_at int (Memory pointer) b (λ v. κ w))) st) begins
      ∙ ap (λ o. or_wild o (λ pointer. store_at int (Memory pointer) b (λ v. κ w)) st) at ∙ ap (λ o. written o b (λ v. κ w)) puts

  pub gives_none : (n b pointer : ℕ) (st : State) → (n ≡ 0 → ⊥) → st.call.block ≡ Some b → address objects (pointer_number objects) ≡ Some pointer
      → put int (Memory pointer) b st ≡ None → (κ : Behind) (w : Flow) → released objects n κ w st ≡ stop Wild
  unfolding converted kept
  gives_none zero b pointer st some begins at none κ w = absurd (some refl)
  gives_none (suc n) b pointer st some begins at none κ w =
      ap (λ o. or_wild o (λ b. or_wild (address objects (pointer_number objects)) (λ pointer. store_at int (Memory pointer) b (λ v. κ w))) st) begins
      ∙ ap (λ o. or_wild o (λ pointer. store_at int (Memory pointer) b (λ v. κ w)) st) at ∙ ap (λ o. written o b (λ v. κ w)) none

  given_to : (n b pointer : ℕ) (st st' : State) (done : Bool) (o : Option State) → (n ≡ 0 → ⊥) → st.call.block ≡ Some b → address objects (pointer_number objects) ≡ Some pointer
      → put int (Memory pointer) b st ≡ o → done ≡ is_some o → st' ≡ unwrap_or o st → (κ : Behind) (w : Flow) → released objects n κ w st ≡ changed_if done st' (κ w)
  given_to n b pointer st st' done None some begins at puts test new κ w = gives_none n b pointer st some begins at puts κ w ∙ sym (ap (λ d. changed_if d st' (κ w)) test)
  given_to n b pointer st st' done (Some s) some begins at puts test new κ w =
      gives n b pointer st s some begins at puts κ w ∙ sym (ap (κ w) new) ∙ sym (ap (λ d. changed_if d st' (κ w)) test)

  pub given_back : (n b pointer : ℕ) (st st' : State) (done : Bool) → (n ≡ 0 → ⊥) → st.call.block ≡ Some b → address objects (pointer_number objects) ≡ Some pointer
      → done ≡ is_some (put int (Memory pointer) b st) → st' ≡ unwrap_or (put int (Memory pointer) b st) st → (κ : Behind) (w : Flow) → released objects n κ w st ≡ changed_if done st' (κ w)
  given_back n b pointer st st' done some begins at test new κ w = given_to n b pointer st st' done (put int (Memory pointer) b st) some begins at refl test new κ w

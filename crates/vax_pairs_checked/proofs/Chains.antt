-- Chains of frames: registers outside the masks.
use Rattle.std.proofs.Common.{◌≡◌, ℕ, zero, suc, ◌-◌, ◌<◌, ◌≤◌, Bool, true, false, cond, List, [], ◌∷◌, ◌++◌, length, take, Option, Some, refl, sym, ap, subst, ◌∙◌, arith}
use Rattle.std.specs.Prelude.{slice_index, slice_get}
use Rattle.std.proofs.lemmas.Option.{same_Some}
use Rattle.vax_pairs.specs.vax_machine_live.specs.declared.frame.Frame.{Frame}
use Rattle.vax_pairs.specs.vax_machine.specs.State.{State}
use Rattle.vax_pairs.specs.Standing.{IsSteady}
use Rattle.vax_pairs.specs.Functions.{has, Outside, BackIn, Chain}

module _ (In : (mask place : ℕ) → Type 0) where
  -- the innermost function goes on
  pub chain_goes : (fs : List Frame) (us vs : List ℕ) (p q : ℕ) → Chain In fs us p → ((mask : ℕ) → In mask p → Outside mask vs us × In mask q) → Chain In fs vs q
  chain_goes [] us vs p q h go = tt
  chain_goes (f ∷ []) us vs p q h go = (let k = go f.mask h.0.1 in ((λ r low high e. k.0 r low high e ∙ h.0.0 r low high e, k.1), tt))
  chain_goes (f ∷ (g ∷ fs)) us vs p q h go = (h.0, chain_goes (g ∷ fs) us vs p q h.1 go)

  -- one more frame
  pub chain_calls : (fs : List Frame) (g : Frame) (us vs : List ℕ) (p q : ℕ) → Chain In fs us p → ((r : ℕ) → 2 ≤ r → r < 12 → slice_index g.saved r ≡ slice_index us r)
      → ((mask : ℕ) → In mask p → BackIn In mask g.back)
      → ((r : ℕ) → 2 ≤ r → r < 12 → slice_index vs r ≡ slice_index g.saved r) → In g.mask q → Chain In (fs ++ g ∷ []) vs q
  chain_calls [] g us vs p q h saved back low at = ((λ r a b e. low r a b, at), tt)
  chain_calls (f ∷ []) g us vs p q h saved back low at = ((λ r a b e. saved r a b ∙ h.0.0 r a b e, back f.mask h.0.1), ((λ r a b e. low r a b, at), tt))
  chain_calls (f ∷ (k ∷ fs)) g us vs p q h saved back low at = (h.0, chain_calls (k ∷ fs) g us vs p q h.1 saved back low at)

  -- the innermost frame
  abbrev Last : List Frame → Frame → Type 0
  Last [] g = ⊥
  Last (f ∷ []) g = f ≡ g
  Last (f ∷ (k ∷ fs)) g = Last (k ∷ fs) g

  abbrev front : List Frame → List Frame
  front [] = []
  front (f ∷ []) = []
  front (f ∷ (k ∷ fs)) = f ∷ front (k ∷ fs)

  minus_one : (n : ℕ) → suc (suc n) - 1 ≡ suc n
  minus_one n = omega arith

  one_minus : suc zero - 1 ≡ zero
  one_minus = omega arith

  pub last_is : (fs : List Frame) (g : Frame) → slice_get fs (length fs - 1) ≡ Some g → Last fs g
  last_is [] g e = absurd (cc)
  last_is (f ∷ []) g e = same_Some f g (sym (ap (λ (n : ℕ). slice_get (f ∷ []) n) one_minus) ∙ e)
  last_is (f ∷ (k ∷ fs)) g e =
      last_is (k ∷ fs) g (ap (λ (n : ℕ). slice_get (k ∷ fs) n) (less (length fs)) ∙ sym (ap (λ (n : ℕ). slice_get (f ∷ (k ∷ fs)) n) (minus_one (length fs))) ∙ e) where
        less : (n : ℕ) → suc n - 1 ≡ n
        less n = omega arith

  pub front_is : (fs : List Frame) → take (length fs - 1) fs ≡ front fs
  front_is [] = refl
  front_is (f ∷ []) = ap (λ (n : ℕ). take n (f ∷ [])) one_minus
  front_is (f ∷ (k ∷ fs)) =
      ap (λ (n : ℕ). take n (f ∷ (k ∷ fs))) (minus_one (length fs))
      ∙ ap (λ (xs : List Frame). f ∷ xs) (ap (λ (n : ℕ). take n (k ∷ fs)) (more (length fs)) ∙ front_is (k ∷ fs)) where
        more : (n : ℕ) → n ≡ suc n - 1
        more n = omega arith

  -- the innermost frame is gone
  pub chain_returns : (fs : List Frame) (g : Frame) (us vs : List ℕ) (p q : ℕ) → Last fs g → Chain In fs us p → ((r : ℕ) → 2 ≤ r → r < 12 → slice_index vs r ≡ slice_index g.saved r)
      → g.back ≡ Some q → Chain In (front fs) vs q
  chain_returns [] g us vs p q l h low e = tt
  chain_returns (f ∷ []) g us vs p q l h low e = tt
  chain_returns (f ∷ (k ∷ [])) g us vs p q l h low e = (
    (
      λ r a b c. low r a b ∙ sym (ap (λ (x : Frame). slice_index x.saved r) l) ∙ h.0.0 r a b c,
      subst (λ (o : Option ℕ). BackIn In f.mask o) (ap (λ (x : Frame). x.back) l ∙ e) h.0.1,
    ),
    tt,
  )
  chain_returns (f ∷ (k ∷ (j ∷ fs))) g us vs p q l h low e = (h.0, chain_returns (k ∷ (j ∷ fs)) g us vs p q l h.1 low e)

  -- ---- what a return restores

  last_kept : (fs : List Frame) (g : Frame) (us : List ℕ) (p : ℕ) → Last fs g → Chain In fs us p → Outside g.mask us g.saved × In g.mask p
  last_kept [] g us p l h = absurd l
  last_kept (f ∷ []) g us p l h = subst (λ (x : Frame). Outside x.mask us x.saved × In x.mask p) l h.0
  last_kept (f ∷ (k ∷ fs)) g us p l h = last_kept (k ∷ fs) g us p l h.1

  restored_by : (b : Bool) (x y : ℕ) → (b ≡ false → y ≡ x) → cond b x y ≡ x
  restored_by true x y h = refl
  restored_by false x y h = h refl

  kept_by : (b : Bool) (x y : ℕ) → b ≡ false → cond b x y ≡ y
  kept_by b x y e = ap (λ (c : Bool). cond c x y) e

  pub chain_steady : (m : State) → ((mask p : ℕ) → In mask p → has mask 0 ≡ false) → Chain In m.frames m.registers m.place → IsSteady m
  chain_steady m result h f e =
      let k = last_kept m.frames f m.registers m.place (last_is m.frames f e) h in record {
        result = kept_by (has f.mask 0) (slice_index f.saved 0) (slice_index m.registers 0) (result f.mask m.place k.1);
        others = λ r low high. restored_by (has f.mask r) (slice_index f.saved r) (slice_index m.registers r) (λ e. k.0 r low high e);
      }

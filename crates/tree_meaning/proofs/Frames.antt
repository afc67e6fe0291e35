-- Where a label first stands.
use Rattle.std.proofs.Common.{◌≡◌, ℕ, suc, ◌+◌, ◌==◌, List, [], ◌∷◌, Bool, true, false, not, Option, Some, None, cond, length, drop, refl, sym, ap, subst, ◌∙◌, arith}
use Rattle.std.proofs.lemmas.Bool.{ltb-false}
use Rattle.std.proofs.lemmas.List.{drop_all}
use Rattle.std.proofs.Math.Dec.{ltb}
use Rattle.std.specs.List.{position_or_len}
use Rattle.std.specs.Option.{MatchOption}
use Rattle.tree_core.specs.declared.program.TreeItem.{TreeItem}
use Rattle.tree_core.specs.declared.program.TreeItem.TheVariants.{Label, Root}
use Rattle.tree_meaning.specs.State.{is_label, behind}

-- the items behind a label stand behind the first item that is it
behind_first : (l : ℕ) (is : List TreeItem) → behind is l ≡ drop (position_or_len (is_label l) is + 1) is
behind_first l [] = refl
behind_first l (Root w ∷ is) =
    let p = position_or_len (is_label l) is in
    let on : suc (p + 1) ≡ 1 + p + 1 = omega arith in
    behind_first l is ∙ ap (λ k. drop k (Root w ∷ is)) on
behind_first l (Label m ∷ is) = by (m == l) (behind_first l is)
  where
    p : ℕ
    p = position_or_len (is_label l) is

    by : (b : Bool) → behind is l ≡ drop (p + 1) is → cond b is (behind is l) ≡ drop (cond (not b) (1 + p) 0 + 1) (Label m ∷ is)
    by true e = refl
    by false e = let on : suc (p + 1) ≡ 1 + p + 1 = omega arith in e ∙ ap (λ k. drop k (Label m ∷ is)) on

module _ (l : ℕ) (is : List TreeItem) where
  -- what stands behind the label, by its first place
  abbrev pub BehindIs : Option ℕ → Type 0
  BehindIs r = MatchOption r (behind is l ≡ []) (λ at. behind is l ≡ drop (at + 1) is)

  pub behind_found : (r : Option ℕ) → r ≡ cond (ltb (position_or_len (is_label l) is) (length is)) (Some (position_or_len (is_label l) is)) None → BehindIs r
  behind_found r e = subst BehindIs (sym e) (by (ltb p (length is)) refl)
    where
      p : ℕ
      p = position_or_len (is_label l) is

      by : (b : Bool) → ltb p (length is) ≡ b → BehindIs (cond b (Some p) None)
      by true t = behind_first l is
      by false t = behind_first l is ∙ drop_all (p + 1) is (omega (arith, ltb-false p (length is) t))

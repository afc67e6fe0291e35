-- The loop over the candidates.
use Rattle.std.proofs.Common.{◌≡◌, ℕ, ◌+◌, ◌≤◌, ◌<◌, List, ◌∷◌, Some, None, Bool, true, false, cond, length, get_or, drop, slice_get, sym, ap, ◌∙◌, subst}
use Rattle.std.proofs.lemmas.List.{drop_all}
use Rattle.gg_base.proofs.Facts.{front_is}
use Rattle.md_reader.specs.declared.types.Rule.{Rule}
use Rattle.lr_tables.specs.declared.types.Choice.{Choice}
use Rattle.lr_tables.specs.declared.types.Choice.TheVariants as choice
use Rattle.lr_check.specs.declared.stack.Entry.{Entry}
use Rattle.lr_check.specs.Tree.{Node}
use Rattle.lr_check.specs.Questions.{Asked, Taken, question_at, taken_or, chosen}

module _ (rules : List Rule) (nodes : List Node) (cs : List Choice) (start : List Entry) (i : ℕ) (s : List Entry) (inv : chosen rules nodes (drop i cs) s ≡ chosen rules nodes cs start) where
  pub chosen_none : length cs ≤ i → ◌≡◌ {A = Taken} (record { choice = None; stack = s }) (chosen rules nodes cs start)
  unfolding chosen
  chosen_none le = sym (ap (λ (x : List Choice). chosen rules nodes x s) (drop_all i cs le)) ∙ inv

  here : (x : Choice) → i < length cs → x ≡ get_or cs i x → chosen rules nodes (x ∷ drop (i + 1) cs) s ≡ chosen rules nodes cs start
  here x lt e =
      let there = front_is cs i x lt e in
      sym (ap (λ (y : List Choice). chosen rules nodes y s) there) ∙ inv

  at : (x y : Choice) → i < length cs → x ≡ get_or cs i x → x ≡ y → chosen rules nodes (y ∷ drop (i + 1) cs) s ≡ chosen rules nodes cs start
  at x y lt e f = subst (λ (z : Choice). chosen rules nodes (z ∷ drop (i + 1) cs) s ≡ chosen rules nodes cs start) f (here x lt e)

  pub chosen_accept : (x : Choice) → i < length cs → x ≡ get_or cs i x → x ≡ choice.Accept → ◌≡◌ {A = Taken} (record { choice = Some choice.Accept; stack = s }) (chosen rules nodes cs start)
  unfolding chosen
  chosen_accept x lt e f = at x choice.Accept lt e f

  pub chosen_shift : (x : Choice) (q : ℕ) → i < length cs → x ≡ get_or cs i x → x ≡ choice.Shift q
      → ◌≡◌ {A = Taken} (record { choice = Some (choice.Shift q); stack = s }) (chosen rules nodes cs start)
  unfolding chosen
  chosen_shift x q lt e f = at x (choice.Shift q) lt e f

  chosen_by : (x : Choice) (n : ℕ) (a : Asked) → i < length cs → x ≡ get_or cs i x → x ≡ choice.Reduce n → a ≡ question_at nodes s (slice_get rules n)
      → taken_or (choice.Reduce n) a (λ k. chosen rules nodes (drop (i + 1) cs) k) ≡ chosen rules nodes cs start
  unfolding chosen
  chosen_by x n a lt e f g = ap (λ (y : Asked). taken_or (choice.Reduce n) y (λ k. chosen rules nodes (drop (i + 1) cs) k)) g ∙ at x (choice.Reduce n) lt e f

  pub chosen_taken : (x : Choice) (n : ℕ) (b : Bool) (s' : List Entry) → i < length cs → x ≡ get_or cs i x → x ≡ choice.Reduce n
      → ◌≡◌ {A = Asked} (record { yes = b; stack = s' }) (question_at nodes s (slice_get rules n)) → b ≡ true
      → ◌≡◌ {A = Taken} (record { choice = Some (choice.Reduce n); stack = s' }) (chosen rules nodes cs start)
  chosen_taken x n b s' lt e f g h =
      ap (λ (y : Bool). cond y (record { choice = Some (choice.Reduce n); stack = s' }) (chosen rules nodes (drop (i + 1) cs) s')) (sym h) ∙ chosen_by x n (record { yes = b; stack = s' }) lt e f g

  pub chosen_passed : (x : Choice) (n : ℕ) (b : Bool) (s' : List Entry) → i < length cs → x ≡ get_or cs i x → x ≡ choice.Reduce n
      → ◌≡◌ {A = Asked} (record { yes = b; stack = s' }) (question_at nodes s (slice_get rules n)) → b ≡ false → chosen rules nodes (drop (i + 1) cs) s' ≡ chosen rules nodes cs start
  chosen_passed x n b s' lt e f g h =
      ap (λ (y : Bool). cond y (record { choice = Some (choice.Reduce n); stack = s' }) (chosen rules nodes (drop (i + 1) cs) s')) (sym h) ∙ chosen_by x n (record { yes = b; stack = s' }) lt e f g

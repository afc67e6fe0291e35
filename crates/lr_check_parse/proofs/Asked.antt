-- Questions that attributes answer change nothing.
use Rattle.std.proofs.Common.{◌≡◌, ℕ, ◌==◌, List, [], ◌∷◌, Option, Some, None, Bool, true, false, length, slice_get, refl, sym, ap, ◌∙◌}
use Rattle.std.specs.Prelude.{if◌then◌else◌}
use Rattle.tree_core.specs.declared.tree.Leaf.{Leaf}
use Rattle.md_reader.specs.declared.types.Rule.{Rule}
use Rattle.md_reader.specs.declared.types.Sym.{Sym}
use Rattle.lr_check_parse.specs.Moves.{Taken, taken, decided_at, Choice}
use Rattle.lr_check_parse.specs.Attributes.{Selecting, by_attributes, answered}

module _ {X A : Type 0} (of : Selecting X A) (rules : List Rule) where
  -- what is kept stays
  pub keeps : (ns : List ℕ) (x : X) → (taken (by_attributes of) rules ns x).kept ≡ x
  keeps [] x = refl
  keeps (n ∷ ns) x = by (slice_get rules n) (keeps ns x)
    where
      others : X → Taken X
      others z = taken (by_attributes of) rules ns z

      tests : (b c : Bool) → (others x).kept ≡ x
          → (if b then record { rule = Some n; kept = x } else if c then record { rule = Some n; kept = x } else others x).kept ≡ x
      tests true c go = refl
      tests false true go = refl
      tests false false go = go

      by : (o : Option Rule) → (others x).kept ≡ x → (decided_at (by_attributes of) n o x others).kept ≡ x
      by None go = go
      by (Some r) go = tests (length r.restrictions == 0) (answered of r x) go

  pub kept_so : (stmt : ℕ) (ws : List Leaf) (a : List Sym) (x y : X) (o : Option ℕ) → Choice (by_attributes of) rules stmt ws a x o y → x ≡ y
  kept_so stmt ws a x y o c = sym (keeps c.candidates x) ∙ ap (λ (t : Taken X). t.kept) c.takes

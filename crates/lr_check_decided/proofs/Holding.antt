-- Marks of calm classes as they are held.
use Rattle.std.proofs.Common.{◌≡◌, ℕ, List, [], ◌∷◌, ◌++◌, Contains, subst, inl, inr, ◌⊎◌, arith}
use Rattle.lr_tables.proofs.Members.{In, In-cases, Contains-In, In-Contains}
use Rattle.tree_core.specs.declared.token.Tok.{Tok}
use Rattle.lr_check_sets.specs.Automaton.{Automaton}
use Rattle.lr_check_decided.specs.declared.held.CalmAt.{CalmAt}
use Rattle.lr_check_decided.specs.declared.held.CalmHeld.{CalmHeld}
use Rattle.lr_check_decided.specs.Calm.{AreCalm}
use Rattle.lr_check_decided.specs.Held.{AreRight, IsHeld}

pub held_calm : (A : Automaton) (h : CalmHeld) (q : ℕ) (b : Tok) → AreRight A h → (c : CalmAt) → IsHeld h q b c → AreCalm A q b c.marks.items
held_calm A h q b right c is =
    subst (λ (j : ℕ). AreCalm A j b c.marks.items) is.state (subst (λ (t : Tok). AreCalm A c.state t c.marks.items) is.behind (right.each c is.there))

-- one more is held
pub more_right : (A : Automaton) (g h : CalmHeld) (c : CalmAt) → AreRight A g → AreCalm A c.state c.behind c.marks.items → h.held.items ≡ g.held.items ++ c ∷ [] → AreRight A h
more_right A g h c right calm is = record { each = λ d m. by d (In-cases d g.held.items (c ∷ []) (Contains-In d (g.held.items ++ c ∷ []) (subst (λ (l : List CalmAt). Contains l d) is m))) }
  where
    last : (d : CalmAt) → In d (c ∷ []) → AreCalm A d.state d.behind d.marks.items
    last d (inl same) = subst (λ (z : CalmAt). AreCalm A z.state z.behind z.marks.items) same calm
    last d (inr n) = absurd n

    by : (d : CalmAt) → In d g.held.items ⊎ In d (c ∷ []) → AreCalm A d.state d.behind d.marks.items
    by d (inl m) = right.each d (In-Contains d g.held.items m)
    by d (inr m) = last d m

pub none_right : (A : Automaton) (h : CalmHeld) → h.held.items ≡ [] → AreRight A h
none_right A h e = record { each = λ c m. absurd (let l = subst (λ (l : List CalmAt). Contains l c) e m in let lt = l.1 in omega (arith, lt)) }

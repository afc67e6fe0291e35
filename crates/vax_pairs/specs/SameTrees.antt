-- When two trees say the same, over one numbering of symbols for both codes.
use Rattle.std.specs.Prelude.{◌≡◌, ℕ, ◌^◌, ◌<◌, Bool, true, List, length, ◌⊎◌}
use Rattle.term_core.specs.Shape.{Shape}
use Rattle.vax_machine_lists.specs.vax_core.specs.declared.code.CodeItem.{CodeItem}
use Rattle.vax_machine_lists.specs.vax_machine.specs.declared.function.Conditions.{Conditions}
use Rattle.vax_machine_lists.specs.vax_machine.specs.declared.function.Test.{Test}
use Rattle.vax_machine_lists.specs.vax_machine.specs.Functions.{passes}
use Rattle.vax_machine_lists.specs.vax_machine.specs.Labels.{label_place}
use Rattle.vax_machine_lists.specs.Sound.{AllBelow}
use Rattle.vax_pairs.specs.Standing.{Seen, Later}
use Rattle.vax_pairs.specs.Piecewise.{Enters}
use Rattle.vax_pairs.specs.Events.{worth, Event, Reads, Stores, Lowers, Divides, Gets, Puts}
use Rattle.vax_pairs.specs.TermStates.{TermState, coded, valued_registers, sight, term_at}
use Rattle.vax_pairs.specs.Trees.{Tree, Emits, Asks, Arrives, CallsHere, ReturnsHere}

-- terms of one worth, whatever longwords the symbols are worth
abbrev pub Agree : Shape → Shape → Type 0
Agree s t = (env : List ℕ) → AllBelow (2 ^ 32) env → worth env s ≡ worth env t

abbrev pub SameEvent : Event → Event → Type 0
SameEvent (Reads z a) (Reads y b) = (z ≡ y) × Agree a b
SameEvent (Stores z a v) (Stores y b w) = (z ≡ y) × (Agree a b × Agree v w)
SameEvent (Lowers a) (Lowers b) = Agree a b
SameEvent (Divides a) (Divides b) = Agree a b
SameEvent Gets Gets = Unit {0}
SameEvent (Puts a) (Puts b) = Agree a b
SameEvent e f = ⊥

-- the answer to a question is the same, whatever the condition codes at the beginning of either piece
abbrev pub SameAnswer : Test → TermState → Test → TermState → Type 0
SameAnswer t s u r = (env : List ℕ) (k l : Conditions) → AllBelow (2 ^ 32) env → passes u (coded env l r) ≡ passes t (coded env k s)

module _ (Rel : Type 0) (Holds : Rel → Seen → Seen → Type 0) (At : ℕ → ℕ → ℕ → Rel → Type 0) (cs ds : List CodeItem) where
  pub record SameArrival (k : ℕ) (moved others_moved : Bool) (p q : ℕ) (s t : TermState) : Type 0 where
    pub nearer : ℕ
    pub relation : Rel
    pub at : At nearer p q relation
    pub lower : ((moved ≡ true) × (others_moved ≡ true)) ⊎ (nearer < k)
    pub long : length s.registers ≡ 15
    pub others_long : length t.registers ≡ 15
    pub ap : Agree (term_at t 12) (term_at s 12)
    pub fp : Agree (term_at t 13) (term_at s 13)
    pub sp : Agree (term_at t 14) (term_at s 14)
    pub holds : (env : List ℕ) (k l : Conditions) → AllBelow (2 ^ 32) env → Holds relation (sight env k s) (sight env l t)

  pub record SameCall (name : List ℕ) (p q : ℕ) (s t : TermState) : Type 0 where
    pub long : length s.registers ≡ 15
    pub others_long : length t.registers ≡ 15
    pub ap : Agree (term_at t 12) (term_at s 12)
    pub fp : Agree (term_at t 13) (term_at s 13)
    pub sp : Agree (term_at t 14) (term_at s 14)
    pub enters : (env : List ℕ) → AllBelow (2 ^ 32) env
        → Enters Rel Holds At cs ds (label_place cs name) (label_place ds name) (valued_registers env s) (valued_registers env t)
    pub nearer : ℕ
    pub relation : Rel
    pub at : At nearer p q relation
    pub later : (env : List ℕ) → AllBelow (2 ^ 32) env → Later Rel Holds At relation (valued_registers env s) (valued_registers env t)

  pub record SameReturn (s t : TermState) : Type 0 where
    pub long : length s.registers ≡ 15
    pub others_long : length t.registers ≡ 15
    pub ap : Agree (term_at t 12) (term_at s 12)
    pub fp : Agree (term_at t 13) (term_at s 13)
    pub sp : Agree (term_at t 14) (term_at s 14)
    pub result : Agree (term_at t 0) (term_at s 0)

  -- two trees say the same
  abbrev pub SameTree : ℕ → Tree → Tree → Type 0
  SameTree k (Emits e s) (Emits f t) = SameEvent e f × SameTree k s t
  SameTree k (Asks u s a b) (Asks v t c d) = SameAnswer u s v t × (SameTree k a c × SameTree k b d)
  SameTree k (Arrives v p s) (Arrives w q t) = SameArrival k v w p q s t
  SameTree k (CallsHere n f p s) (CallsHere o g q t) = (n ≡ o) × ((f ≡ g) × SameCall f p q s t)
  SameTree k (ReturnsHere p s) (ReturnsHere q t) = SameReturn s t
  SameTree k s t = ⊥

-- Stacks that answer alike are parsed alike.
use Rattle.std.proofs.Common.{◌≡◌, ℕ, zero, suc, List, [], ◌∷◌, Option, Some, None, Bool, true, false, drop, refl, ap, ap₂, sym, ◌∙◌, subst, true≢false}
use Rattle.md_reader.specs.declared.types.Sym.{Sym}
use Rattle.md_reader.specs.declared.types.Sym.TheVariants as grammar_symbol
use Rattle.lr_check.specs.Tree.{Token}
use Rattle.lr_check.specs.Parse.{Part, symbols, answer}
use Rattle.lr_check_sets.specs.Automaton.{Automaton, Production, Candidate, shift, reduce, walk, size_of, CanBlock}
use Rattle.lr_check_sets.specs.Answers.{owner, asked, Picked, pick_by, pick, held_reduced, Step, shifts, reduces, Runs, here}
use Rattle.lr_check_sets.specs.Answers.{then_step, Reductions, one_reduction, more_reductions}
use Rattle.lr_check_sets.proofs.Asks.{by_no}
use Rattle.lr_check_samples.specs.Quiet.{SameAnswers, AreAlike, bare, IsQuiet}

pub same-first : (b c : List Bool) → SameAnswers b c → answer b ≡ answer c
same-first [] [] h = refl
same-first [] (y ∷ c) h = h 0
same-first (x ∷ b) [] h = h 0
same-first (x ∷ b) (y ∷ c) h = h 0

pub same-others : (b c : List Bool) → SameAnswers b c → SameAnswers (drop 1 b) (drop 1 c)
same-others [] [] h n = refl
same-others [] (y ∷ c) h n = h (suc n)
same-others (x ∷ b) [] h n = h (suc n)
same-others (x ∷ b) (y ∷ c) h n = h (suc n)

pub alike-trans : (a b c : List Part) → AreAlike a b → AreAlike b c → AreAlike a c
alike-trans [] [] c h k = k
alike-trans [] (g ∷ b) c h k = absurd h
alike-trans (f ∷ a) [] c h k = absurd h
alike-trans (f ∷ a) (g ∷ b) [] h k = absurd k
alike-trans (f ∷ a) (g ∷ b) (e ∷ c) h k = (h.0 ∙ k.0, (λ n. h.1 n ∙ k.1 n), alike-trans a b c h.2 k.2)

pub symbols-alike : (a b : List Part) → AreAlike a b → symbols a ≡ symbols b
symbols-alike [] [] h = refl
symbols-alike [] (g ∷ b) h = absurd h
symbols-alike (f ∷ a) [] h = absurd h
symbols-alike (f ∷ a) (g ∷ b) h = ap₂ (λ x y. x ∷ y) h.0 (symbols-alike a b h.2)

owner-alike : (right : List Sym) (a b : List Part) → AreAlike a b → SameAnswers (owner right a) (owner right b)
owner-alike right [] [] h n = refl
owner-alike right [] (g ∷ b) h n = absurd h
owner-alike right (f ∷ a) [] h n = absurd h
owner-alike [] (f ∷ a) (g ∷ b) h n = refl
owner-alike (X ∷ []) (f ∷ a) (g ∷ b) h n = h.1 n
owner-alike (X ∷ Y ∷ right) (f ∷ a) (g ∷ b) h n = owner-alike (Y ∷ right) a b h.2 n

asked-alike : (right : List Sym) (a b : List Part) → AreAlike a b → AreAlike (asked right a) (asked right b)
asked-alike right [] [] h = tt
asked-alike right [] (g ∷ b) h = absurd h
asked-alike right (f ∷ a) [] h = absurd h
asked-alike [] (f ∷ a) (g ∷ b) h = h
asked-alike (X ∷ []) (f ∷ a) (g ∷ b) h = (h.0, same-others f.answers g.answers h.1, h.2)
asked-alike (X ∷ Y ∷ right) (f ∷ a) (g ∷ b) h = (h.0, h.1, asked-alike (Y ∷ right) a b h.2)

drop-alike : (n : ℕ) (a b : List Part) → AreAlike a b → AreAlike (drop n a) (drop n b)
drop-alike zero a b h = h
drop-alike (suc n) [] [] h = tt
drop-alike (suc n) [] (g ∷ b) h = absurd h
drop-alike (suc n) (f ∷ a) [] h = absurd h
drop-alike (suc n) (f ∷ a) (g ∷ b) h = drop-alike n a b h.2

-- what is picked
record SamePicks (p q : Picked) : Type 0 where
  taken : p.taken ≡ q.taken
  stack : AreAlike p.stack q.stack

pick_by-alike : (asks said said' : Bool) (r : Production) (a b a' b' : List Part) (p q : Picked) → said ≡ said' → AreAlike a a' → AreAlike b b' → SamePicks p q →
    SamePicks (pick_by asks said r a b p) (pick_by asks said' r a' b' q)
pick_by-alike false said said' r a b a' b' p q e h k s = record { taken = refl; stack = h }
pick_by-alike true true true r a b a' b' p q e h k s = record { taken = refl; stack = k }
pick_by-alike true false false r a b a' b' p q e h k s = s
pick_by-alike true true false r a b a' b' p q e h k s = absurd (true≢false e)
pick_by-alike true false true r a b a' b' p q e h k s = absurd (true≢false (sym e))

pick-alike : (cs : List Candidate) (a b : List Part) → AreAlike a b → SamePicks (pick cs a) (pick cs b)
pick-alike [] a b h = record { taken = refl; stack = h }
pick-alike (shift ∷ cs) a b h = record { taken = refl; stack = h }
pick-alike (reduce r ∷ cs) a b h =
    pick_by-alike r.asks (answer (owner r.right a)) (answer (owner r.right b)) r a (asked r.right a) b (asked r.right b) (pick cs (asked r.right a)) (pick cs (asked r.right b))
    (same-first (owner r.right a) (owner r.right b) (owner-alike r.right a b h)) h (asked-alike r.right a b h)
    (pick-alike cs (asked r.right a) (asked r.right b) (asked-alike r.right a b h))

-- the same pick, with the stack behind it
pub record PicksSo (cs : List Candidate) (taken : Option Candidate) (b x : List Part) : Type 0 where
  pub stack : List Part
  pub picks : pick cs x ≡ record { taken = taken; stack = stack }
  pub alike : AreAlike b stack

pub picks_so : (cs : List Candidate) (taken : Option Candidate) (a b x : List Part) → pick cs a ≡ record { taken = taken; stack = b } → AreAlike a x → PicksSo cs taken b x
picks_so cs taken a b x e h =
    let s : SamePicks (pick cs a) (pick cs x) = pick-alike cs a x h in
    record {
      stack = (pick cs x).stack;
      picks = ap (λ (o : Option Candidate). record { taken = o; stack = (pick cs x).stack }) (sym s.taken ∙ ap (λ (p : Picked). p.taken) e);
      alike = subst (λ l. AreAlike l (pick cs x).stack) (ap (λ (p : Picked). p.stack) e) s.stack;
    }

-- steps
pub record StepsSo (A : Automaton) (x : List Part) (u : List Token) (b : List Part) (v : List Token) : Type 0 where
  pub stack : List Part
  pub step : Step A x u stack v
  pub alike : AreAlike b stack

pub steps_so : {A : Automaton} {a b : List Part} {u v : List Token} (x : List Part) → Step A a u b v → AreAlike a x → StepsSo A x u b v
steps_so {A = A} x (shifts {a = a} {b = b} {f = f} {w = w} {p = p} at pk) h =
    let k : PicksSo (A.candidates p f.tok) (Some shift) b x = picks_so (A.candidates p f.tok) (Some shift) a b x pk h in
    record {
      stack = record { symbol = grammar_symbol.Tok f.tok; answers = f.answers } ∷ k.stack;
      step = shifts (ap (walk A 0) (sym (symbols-alike a x h)) ∙ at) k.picks;
      alike = (refl, (λ n. refl), k.alike);
    }
steps_so {A = A} x (reduces {a = a} {b = b} {f = f} {w = w} {p = p} {r = r} at pk) h =
    let k : PicksSo (A.candidates p f.tok) (Some (reduce r)) b x = picks_so (A.candidates p f.tok) (Some (reduce r)) a b x pk h in
    record {
      stack = held_reduced r k.stack;
      step = reduces (ap (walk A 0) (sym (symbols-alike a x h)) ∙ at) k.picks;
      alike = (refl, owner-alike r.right b k.stack k.alike, drop-alike (size_of r) b k.stack k.alike);
    }

pub record RunsSo (A : Automaton) (x : List Part) (u : List Token) (b : List Part) (v : List Token) : Type 0 where
  pub stack : List Part
  pub runs : Runs A x u stack v
  pub alike : AreAlike b stack

pub runs_so : {A : Automaton} {a b : List Part} {u v : List Token} (x : List Part) → Runs A a u b v → AreAlike a x → RunsSo A x u b v
runs_so x here h = record { stack = x; runs = here; alike = h }
runs_so {A = A} {u = u} x (then_step {b = b} {c = c} {v = v} {w = w} r s) h =
    let k : RunsSo A x u b v = runs_so x r h in
    let l : StepsSo A k.stack v c w = steps_so k.stack s k.alike in
    record { stack = l.stack; runs = then_step k.runs l.step; alike = l.alike }

pub record TurnsSo (A : Automaton) (w : List Token) (x b : List Part) : Type 0 where
  pub stack : List Part
  pub turns : Reductions A w x stack
  pub alike : AreAlike b stack

pub turns_so : {A : Automaton} {w : List Token} {a b : List Part} (x : List Part) → Reductions A w a b → AreAlike a x → TurnsSo A w x b
turns_so {A = A} {w = w} x (one_reduction {b = b} s) h =
    let l : StepsSo A x w b w = steps_so x s h in
    record { stack = l.stack; turns = one_reduction l.step; alike = l.alike }
turns_so {A = A} {w = w} x (more_reductions {b = b} {c = c} r s) h =
    let k : TurnsSo A w x b = turns_so x r h in
    let l : StepsSo A k.stack w c w = steps_so k.stack s k.alike in
    record { stack = l.stack; turns = more_reductions k.turns l.step; alike = l.alike }

-- where some answers take nothing, a stack that answers no takes nothing
owner-bare : (right s : List Sym) → owner right (bare s) ≡ []
owner-bare right [] = refl
owner-bare [] (Y ∷ s) = refl
owner-bare (X ∷ []) (Y ∷ s) = refl
owner-bare (X ∷ Z ∷ right) (Y ∷ s) = owner-bare (Z ∷ right) s

asked-bare : (right s : List Sym) → asked right (bare s) ≡ bare s
asked-bare right [] = refl
asked-bare [] (Y ∷ s) = refl
asked-bare (X ∷ []) (Y ∷ s) = refl
asked-bare (X ∷ Z ∷ right) (Y ∷ s) = ap (λ l. record { symbol = Y; answers = [] } ∷ l) (asked-bare (Z ∷ right) s)

bare_takes_nothing : (cs : List Candidate) (s : List Sym) → CanBlock cs → pick cs (bare s) ≡ record { taken = None; stack = bare s }
bare_takes_nothing [] s h = refl
bare_takes_nothing (shift ∷ cs) s h = absurd h
bare_takes_nothing (reduce r ∷ cs) s h =
    by_no r.asks (answer (owner r.right (bare s))) r (bare s) (asked r.right (bare s)) (pick cs (asked r.right (bare s))) h.0 (ap answer (owner-bare r.right s))
    ∙ (ap (pick cs) (asked-bare r.right s) ∙ bare_takes_nothing cs s h.1)

pub quiet_takes_nothing : (cs : List Candidate) (s : List Sym) (z : List Part) → CanBlock cs → IsQuiet s z → PicksSo cs None (bare s) z
quiet_takes_nothing cs s z h k = picks_so cs None (bare s) (bare s) z (bare_takes_nothing cs s h) k

pub symbols-bare : (s : List Sym) → symbols (bare s) ≡ s
symbols-bare [] = refl
symbols-bare (X ∷ s) = ap (λ l. X ∷ l) (symbols-bare s)

pub symbols-quiet : (s : List Sym) (z : List Part) → IsQuiet s z → symbols z ≡ s
symbols-quiet s z h = sym (symbols-alike (bare s) z h) ∙ symbols-bare s

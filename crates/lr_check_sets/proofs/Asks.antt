-- Any free choice is taken under some answers, and what is taken is a free choice.
use Rattle.std.proofs.Common.{◌≡◌, ◌≤◌, ◌<◌, List, [], ◌∷◌, Option, Some, None, Bool, true, false, length, refl, ap, sym, ◌∙◌, ⊎_elim, subst, arith, true≢false}
use Rattle.md_reader.specs.declared.types.Sym.{Sym}
use Rattle.lr_check.specs.Parse.{Part, symbols, answer}
use Rattle.lr_check_sets.specs.Automaton.{Production, Candidate, shift, reduce, size_of, Free, CanBlock}
use Rattle.lr_check_sets.specs.Answers.{owner, asked, Picked, pick_by, pick}
use Rattle.lr_check_sets.proofs.Tables.{reduce_same, shift_reduce}

-- an answer more, in front of the owner's
abbrev pub push : List Sym → Bool → List Part → List Part
push right x [] = []
push [] x (h ∷ a) = h ∷ a
push (X ∷ []) x (h ∷ a) = record { symbol = h.symbol; answers = x ∷ h.answers } ∷ a
push (X ∷ Y ∷ right) x (h ∷ a) = h ∷ push (Y ∷ right) x a

symbols-push : (right : List Sym) (x : Bool) (a : List Part) → symbols (push right x a) ≡ symbols a
symbols-push right x [] = refl
symbols-push [] x (h ∷ a) = refl
symbols-push (X ∷ []) x (h ∷ a) = refl
symbols-push (X ∷ Y ∷ right) x (h ∷ a) = ap (λ l. h.symbol ∷ l) (symbols-push (Y ∷ right) x a)

asked-push : (right : List Sym) (x : Bool) (a : List Part) → asked right (push right x a) ≡ a
asked-push right x [] = refl
asked-push [] x (h ∷ a) = refl
asked-push (X ∷ []) x (h ∷ a) = refl
asked-push (X ∷ Y ∷ right) x (h ∷ a) = ap (λ l. h ∷ l) (asked-push (Y ∷ right) x a)

says_no : (right : List Sym) (a : List Part) → answer (owner right (push right false a)) ≡ false
says_no right [] = refl
says_no [] (h ∷ a) = refl
says_no (X ∷ []) (h ∷ a) = refl
says_no (X ∷ Y ∷ right) (h ∷ a) = says_no (Y ∷ right) a

says_yes : (right : List Sym) (a : List Part) → 0 < length right → length right ≤ length a → answer (owner right (push right true a)) ≡ true
says_yes right [] h g = absurd (omega arith)
says_yes [] (h ∷ a) lt le = absurd (omega arith)
says_yes (X ∷ []) (h ∷ a) lt le = refl
says_yes (X ∷ Y ∷ right) (h ∷ a) lt le = says_yes (Y ∷ right) a (omega arith) (omega arith)

pub by_none : (asks said : Bool) (r : Production) (a b : List Part) (rest : Picked) → asks ≡ false → pick_by asks said r a b rest ≡ record { taken = Some (reduce r); stack = a }
by_none false said r a b rest e = refl
by_none true said r a b rest e = absurd (true≢false e)

by_yes : (asks said : Bool) (r : Production) (a b c : List Part) (rest : Picked) → asks ≡ true → said ≡ true → b ≡ c → pick_by asks said r a b rest ≡ record { taken = Some (reduce r); stack = c }
by_yes false said r a b c rest e f g = absurd (true≢false (sym e))
by_yes true false r a b c rest e f g = absurd (true≢false (sym f))
by_yes true true r a b c rest e f g = ap (λ l. record { taken = Some (reduce r); stack = l }) g

pub by_no : (asks said : Bool) (r : Production) (a b : List Part) (rest : Picked) → asks ≡ true → said ≡ false → pick_by asks said r a b rest ≡ rest
by_no false said r a b rest e f = absurd (true≢false (sym e))
by_no true true r a b rest e f = absurd (true≢false f)
by_no true false r a b rest e f = refl

-- the stack before the questions
pub record Source (cs : List Candidate) (taken : Option Candidate) (b : List Part) : Type 0 where
  pub stack : List Part
  pub same : symbols stack ≡ symbols b
  pub picks : pick cs stack ≡ record { taken = taken; stack = b }

-- a question more, answered by no
source_no : (r : Production) (cs : List Candidate) (taken : Option Candidate) (b : List Part) → r.asks ≡ true → Source cs taken b → Source (reduce r ∷ cs) taken b
source_no r cs taken b e s = record {
  stack = push r.right false s.stack;
  same = symbols-push r.right false s.stack ∙ s.same;
  picks = by_no r.asks (answer (owner r.right (push r.right false s.stack))) r (push r.right false s.stack) (asked r.right (push r.right false s.stack))
      (pick cs (asked r.right (push r.right false s.stack))) e (says_no r.right s.stack)
      ∙ (ap (pick cs) (asked-push r.right false s.stack) ∙ s.picks);
}

source_here : (r : Production) (cs : List Candidate) (b : List Part) (asks : Bool) → r.asks ≡ asks → 0 < size_of r → size_of r ≤ length b → Source (reduce r ∷ cs) (Some (reduce r)) b
source_here r cs b false e lt le = record {
  stack = b;
  same = refl;
  picks = by_none r.asks (answer (owner r.right b)) r b (asked r.right b) (pick cs (asked r.right b)) e;
}
source_here r cs b true e lt le = record {
  stack = push r.right true b;
  same = symbols-push r.right true b;
  picks = by_yes r.asks (answer (owner r.right (push r.right true b))) r (push r.right true b) (asked r.right (push r.right true b)) b (pick cs (asked r.right (push r.right true b))) e
      (says_yes r.right b lt le) (asked-push r.right true b);
}

-- a reduction that is a free choice
pub reduce_source : (cs : List Candidate) (r : Production) (b : List Part) → Free cs (reduce r) → 0 < size_of r → size_of r ≤ length b → Source cs (Some (reduce r)) b
reduce_source [] r b f lt le = absurd f
reduce_source (shift ∷ cs) r b f lt le = absurd (shift_reduce r f)
reduce_source (reduce x ∷ cs) r b f lt le =
    ⊎_elim
    (λ e. subst (λ y. Source (reduce x ∷ cs) (Some y) b) (sym e) (source_here x cs b x.asks refl (subst (λ y. 0 < size_of y) (reduce_same r x e) lt)
    (subst (λ y. size_of y ≤ length b) (reduce_same r x e) le)))
    (λ h. source_no x cs (Some (reduce r)) b h.0 (reduce_source cs r b h.1 lt le))
    f

-- no candidate is taken
pub block_source : (cs : List Candidate) (b : List Part) → CanBlock cs → Source cs None b
block_source [] b h = record { stack = b; same = refl; picks = refl }
block_source (shift ∷ cs) b h = absurd h
block_source (reduce r ∷ cs) b h = source_no r cs None b h.0 (block_source cs b h.1)

-- the same, one candidate at a time
pub pick_free : (r : Production) (cs : List Candidate) (b : List Part) → r.asks ≡ false → pick (reduce r ∷ cs) b ≡ record { taken = Some (reduce r); stack = b }
pick_free r cs b e = by_none r.asks (answer (owner r.right b)) r b (asked r.right b) (pick cs (asked r.right b)) e

pub pick_yes : (r : Production) (cs : List Candidate) (b : List Part) → r.asks ≡ true → 0 < size_of r → size_of r ≤ length b →
    pick (reduce r ∷ cs) (push r.right true b) ≡ record { taken = Some (reduce r); stack = b }
pick_yes r cs b e lt le = by_yes r.asks (answer (owner r.right (push r.right true b))) r (push r.right true b) (asked r.right (push r.right true b)) b
    (pick cs (asked r.right (push r.right true b))) e (says_yes r.right b lt le) (asked-push r.right true b)

pub pick_no : (r : Production) (cs : List Candidate) (b : List Part) (k : Picked) → r.asks ≡ true → pick cs b ≡ k → pick (reduce r ∷ cs) (push r.right false b) ≡ k
pick_no r cs b k e h =
    by_no r.asks (answer (owner r.right (push r.right false b))) r (push r.right false b) (asked r.right (push r.right false b)) (pick cs (asked r.right (push r.right false b))) e
    (says_no r.right b)
    ∙ (ap (pick cs) (asked-push r.right false b) ∙ h)

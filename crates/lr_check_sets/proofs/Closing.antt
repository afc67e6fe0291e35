-- Predicates that are closed under the rules hold of the least sets, and without faults these have none.
use Rattle.std.proofs.Common.{◌≡◌, ℕ, ◌≤◌, List, [], ◌∷◌, ◌++◌, Some, length, refl, sym, ap, subst, arith}
use Rattle.gg_base.proofs.Facts.{nil_cons}
use Rattle.tree_core.specs.declared.token.Tok.{Tok}
use Rattle.tree_core.specs.declared.token.Tok.TheVariants as tok
use Rattle.tree_core.specs.declared.token.Sort.{Sort}
use Rattle.tree_core.specs.Grammar.{kids}
use Rattle.md_reader.specs.declared.types.Sym.{Sym}
use Rattle.md_reader.specs.declared.types.Sym.TheVariants as grammar_symbol
use Rattle.lr_check_sets.specs.Trees.{May, Begins}
use Rattle.lr_check_sets.specs.Automaton.{Automaton, walk}
use Rattle.lr_check_sets.specs.Sums.{Place, Partly, Settling, Sum, at_start, at_kid, opened, with_kid, whole, settled, sum}
use Rattle.lr_check_sets.specs.Faults.{NoFault}
use Rattle.lr_check_sets.specs.Closed.{IsClosed, IsFine, marked, marked_at, ClosedIsEnough}

-- tokens have at most two kids
pub few : (k : Tok) → length (kids k) ≤ 2
few tok.Zero = omega arith
few tok.One = omega arith
few tok.Two = omega arith
few tok.Four = omega arith
few tok.Eight = omega arith
few tok.Const = omega arith
few tok.Gaddr = omega arith
few tok.Loc = omega arith
few tok.Arg = omega arith
few tok.IndirB = omega arith
few tok.IndirW = omega arith
few tok.IndirL = omega arith
few tok.Plus = omega arith
few tok.Minus = omega arith
few tok.Mul = omega arith
few tok.Div = omega arith
few tok.Mod = omega arith
few tok.And = omega arith
few tok.Or = omega arith
few tok.Xor = omega arith
few tok.Lsh = omega arith
few tok.Rsh = omega arith
few tok.Neg = omega arith
few tok.Com = omega arith
few tok.Sxb = omega arith
few tok.Zxb = omega arith
few tok.Sxw = omega arith
few tok.Zxw = omega arith
few tok.Ncb = omega arith
few tok.Ncw = omega arith
few tok.AssignB = omega arith
few tok.AssignW = omega arith
few tok.AssignL = omega arith
few tok.Cbr = omega arith
few tok.Push = omega arith
few tok.Ret = omega arith
few tok.Call = omega arith
few tok.Save = omega arith
few tok.Jump = omega arith
few tok.End = omega arith

tail_nil : (x y : Sort) (xs : List Sort) → x ∷ xs ≡ y ∷ [] → xs ≡ []
tail_nil x y xs e = cc

module _ (A : Automaton) (P : ℕ → Tok → Tok → Type 0) (T S : ℕ → Tok → Tok → List Sym → Type 0) (closed : IsClosed A P T S) where
  -- how far a subtree of a place is read: its token alone, the only kid, the first of two, or both
  data Stage (q : ℕ) (k t : Tok) (s : List Sym) (xs : List Sort) (n : Tok) : Type 0 where
    at_token : (p : ℕ) → P q k t → A.go q (grammar_symbol.Tok k) ≡ Some p → Begins (kids k) t n → kids k ≡ xs → s ≡ grammar_symbol.Tok k ∷ [] → Stage q k t s xs n
    behind_only : (p : ℕ) (m : Tok) (x : Sort) (z : List Sym) →
        P q k t → kids k ≡ x ∷ [] → A.go q (grammar_symbol.Tok k) ≡ Some p → May m x → S p m t z → s ≡ z ++ (grammar_symbol.Tok k ∷ []) → xs ≡ [] → Stage q k t s xs n
    behind_first : (p : ℕ) (m : Tok) (x y : Sort) (z : List Sym) →
        P q k t → kids k ≡ x ∷ y ∷ [] → A.go q (grammar_symbol.Tok k) ≡ Some p → May m x → S p m n z → May n y → s ≡ z ++ (grammar_symbol.Tok k ∷ []) → xs ≡ y ∷ [] → Stage q k t s xs n
    behind_both : (p j : ℕ) (m l : Tok) (x y : Sort) (z w : List Sym) →
        P q k t → kids k ≡ x ∷ y ∷ [] → A.go q (grammar_symbol.Tok k) ≡ Some p → May m x → May l y → S p m l z → walk A q (z ++ (grammar_symbol.Tok k ∷ [])) ≡ Some j → S j l t w →
        s ≡ w ++ (z ++ (grammar_symbol.Tok k ∷ [])) → xs ≡ [] → Stage q k t s xs n

  -- the state behind the token
  same_state : (q p j : ℕ) (k : Tok) (s : List Sym) → A.go q (grammar_symbol.Tok k) ≡ Some j → s ≡ grammar_symbol.Tok k ∷ [] → walk A q s ≡ Some p → A.go q (grammar_symbol.Tok k) ≡ Some p
  same_state q p j k s go e ws = subst (λ l. walk A q l ≡ Some p) e ws

  kid_place : (q p : ℕ) (k t n m : Tok) (s : List Sym) (x : Sort) (xs : List Sort) → Stage q k t s (x ∷ xs) n → walk A q s ≡ Some p → Begins xs t m → P p n m
  kid_place q p k t n m s x [] (at_token j place go bg e es) ws same =
      subst (P p n) (sym same) (closed.only q p k t n x place e (same_state q p j k s go es ws) (subst (λ l. Begins l t n) e bg))
  kid_place q p k t n m s x (y ∷ []) (at_token j place go bg e es) ws may =
      closed.first q p k t n m x y place e (same_state q p j k s go es ws) (subst (λ l. Begins l t n) e bg) may
  kid_place q p k t n m s x (y ∷ z ∷ xs) (at_token j place go bg e es) ws may = absurd (let long : length (kids k) ≡ length (x ∷ y ∷ z ∷ xs) = ap length e in let le = few k in omega (arith, long, le))
  kid_place q p k t n m s x xs (behind_only j l y z place e go fit kid es none) ws bg = absurd (nil_cons x xs (sym none))
  kid_place q p k t n m s x xs (behind_first j l w y z place e go fit kid may es one) ws bg =
      let same : m ≡ t = subst (λ (c : List Sort). Begins c t m) (tail_nil x y xs one) bg in
      subst (P p n) (sym same) (closed.second q j p k t l n w y z place e go fit may kid (subst (λ c. walk A q c ≡ Some p) es ws))
  kid_place q p k t n m s x xs (behind_both i j a l w y z v place e go fit fit' kid ws' kid' es none) ws bg = absurd (nil_cons x xs (sym none))

  kid_stage : (q p : ℕ) (k t n m : Tok) (s z : List Sym) (x : Sort) (xs : List Sort) → Stage q k t s (x ∷ xs) n → walk A q s ≡ Some p → Begins xs t m → S p n m z → Stage q k t (z ++ s) xs m
  kid_stage q p k t n m s z x [] (at_token j place go bg e es) ws same sm =
      behind_only p n x z place e (same_state q p j k s go es ws) (subst (λ l. Begins l t n) e bg) (subst (λ b. S p n b z) same sm) (ap (λ l. z ++ l) es) refl
  kid_stage q p k t n m s z x (y ∷ []) (at_token j place go bg e es) ws may sm =
      behind_first p n x y z place e (same_state q p j k s go es ws) (subst (λ l. Begins l t n) e bg) sm may (ap (λ l. z ++ l) es) refl
  kid_stage q p k t n m s z x (y ∷ w ∷ xs) (at_token j place go bg e es) ws may sm =
      absurd (let long : length (kids k) ≡ length (x ∷ y ∷ w ∷ xs) = ap length e in let le = few k in omega (arith, long, le))
  kid_stage q p k t n m s z x xs (behind_only j l y v place e go fit kid es none) ws bg sm = absurd (nil_cons x xs (sym none))
  kid_stage q p k t n m s z x xs (behind_first j l w y v place e go fit kid may es one) ws bg sm =
      let none : xs ≡ [] = tail_nil x y xs one in
      let same : m ≡ t = subst (λ (c : List Sort). Begins c t m) none bg in
      behind_both j p l n w y v z place e go fit may kid (subst (λ c. walk A q c ≡ Some p) es ws) (subst (λ b. S p n b z) same sm) (ap (λ c. z ++ c) es) none
  kid_stage q p k t n m s z x xs (behind_both i j a l w y u v place e go fit fit' kid ws' kid' es none) ws bg sm = absurd (nil_cons x xs (sym none))

  whole_in : (q : ℕ) (k t n : Tok) (s : List Sym) → Stage q k t s [] n → T q k t s
  whole_in q k t n s (at_token p place go bg e es) = subst (T q k t) (sym es) (closed.alone q p k t place e go)
  whole_in q k t n s (behind_only p m x z place e go fit kid es none) = subst (T q k t) (sym es) (closed.only_in q p k t m x z place e go fit kid)
  whole_in q k t n s (behind_first p m x y z place e go fit kid may es one) = absurd (nil_cons y [] one)
  whole_in q k t n s (behind_both p j m l x y z w place e go fit fit' kid ws kid' es none) = subst (T q k t) (sym es) (closed.both_in q p j k t m l x y z w place e go fit fit' kid ws kid')

  mutual
    pub place_in : {q : ℕ} {k t : Tok} → Place A q k t → P q k t
    place_in (at_start {k = k} may) = closed.starts k may
    place_in (at_kid {q = q} {k = k} {t = t} {s = s} {x = x} {xs = xs} {n = n} {p = p} {m = m} part ws bg) = kid_place q p k t n m s x xs (part_in part) ws bg

    part_in : {q : ℕ} {k t : Tok} {s : List Sym} {xs : List Sort} {n : Tok} → Partly A q k t s xs n → Stage q k t s xs n
    part_in (opened {p = p} place go bg) = at_token p (place_in place) go bg refl refl
    part_in (with_kid {q = q} {k = k} {t = t} {s = s} {x = x} {xs = xs} {n = n} {p = p} {m = m} {s' = s'} part ws bg kid) = kid_stage q p k t n m s s' x xs (part_in part) ws bg (sum_in kid)

    pub settling_in : {q : ℕ} {k t : Tok} {s : List Sym} → Settling A q k t s → T q k t s
    settling_in (whole {q = q} {k = k} {t = t} {s = s} part) = whole_in q k t t s (part_in part)
    settling_in (settled {q = q} {k = k} {t = t} {s = s} {p = p} r set ws f e) = closed.settles q p k t s r (settling_in set) ws f e

    pub sum_in : {q : ℕ} {k t : Tok} {s : List Sym} → Sum A q k t s → S q k t s
    sum_in (sum {q = q} {k = k} {t = t} {s = s} {p = p} c set ws f o) = closed.sums q p k t s c (settling_in set) ws f o

  module _ (fine : IsFine A P T) where
    pub no_fault : NoFault A
    no_fault = record {
      shifts = λ q k t place. fine.shifts q k t (place_in place);
      takes = λ q k t s p set ws can. fine.takes q p k t s (settling_in set) ws can;
      ends = λ q k t s part. fine.ends q k t s (whole_in q k t t s (part_in part));
    }

pub closed_is_enough : ClosedIsEnough
closed_is_enough A places settlings sums closed fine = no_fault A (marked places) (marked_at settlings) (marked_at sums) closed fine

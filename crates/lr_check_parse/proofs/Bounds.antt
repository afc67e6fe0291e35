-- Each move leaves less to do.
use Rattle.std.proofs.Common.{◌≡◌, ◌⊎◌, inl, inr, ℕ, zero, suc, ◌+◌, ◌-◌, ◌*◌, ◌≤◌, ◌<◌, List, [], ◌∷◌, Bool, true, false, not, Contains, length, count_by, get_or, set, drop}
use Rattle.std.proofs.Common.{replicate, refl, sym, ap, ◌∙◌, subst, arith, length-set}
use Rattle.std.proofs.lemmas.List.{length-replicate}
use Rattle.std.proofs.lemmas.Bool.{false_from_ne_true}
use Rattle.std.proofs.lemmas.Option.{same_Some}
use Rattle.md_reader.specs.declared.types.Rule.{Rule}
use Rattle.md_reader.specs.declared.types.Sym.{Sym}
use Rattle.md_reader.specs.declared.types.Sym.TheVariants as grammar_symbol
use Rattle.lr_tables.specs.Grammar.{IsGrammar}
use Rattle.lr_tables.specs.Statements.{stmt_of}
use Rattle.lr_tables.proofs.Validity.{is_grammar}
use Rattle.lr_check.proofs.Seen.{Seen, seen_start, seen_shift, seen_unit, seen_long}
use Rattle.lr_check.proofs.Falling.{count_most, mark_count}
use Rattle.lr_check_parse.specs.Moves.{Answering, Move, Shift, Reduce, Ending, Parses, loops, accepts, shifts, reduces, refuses, blocks}
use Rattle.lr_check_parse.specs.Claims.{IsBounded}
use Rattle.lr_check_parse.proofs.Choosing.{taken_fits}

-- what is left to do: each leaf counts twice, each symbol once, and then the classes that were not on top
abbrev pub left : ℕ → ℕ → List Bool → ℕ
left leaves size seen = (2 * leaves + size) * (length seen + 1) + count_by not seen

pub shift_less : (w i n k u v : ℕ) → k ≤ (2 * w + (i + 1)) * (n + 1) + v → v ≤ n → k + 1 ≤ (2 * (w + 1) + i) * (n + 1) + u
shift_less w i n k u v h le = omega (arith, h, le)

pub long_less : (w i e n k u v : ℕ) → k ≤ (2 * w + (i + 1)) * (n + 1) + v → v ≤ n → k + 1 ≤ (2 * w + (i + 2 + e)) * (n + 1) + u
long_less w i e n k u v h le = omega (arith, h, le)

pub unit_less : (w i n k u v : ℕ) → k ≤ (2 * w + (i + 1)) * (n + 1) + v → v + 1 ≡ u → k + 1 ≤ (2 * w + (i + 1)) * (n + 1) + u
unit_less w i n k u v h e = omega (arith, h, e)

pub length-drop : (k : ℕ) (a : List Sym) → k ≤ length a → length (drop k a) + k ≡ length a
length-drop zero [] le = refl
length-drop zero (X ∷ a) le = omega arith
length-drop (suc k) [] le = absurd (omega (arith, le))
length-drop (suc k) (X ∷ a) le = let e = length-drop k a (omega (arith, le)) in omega (arith, e)

pub one_or_more : (k : ℕ) → 0 < k → (k ≡ 1) ⊎ (2 ≤ k)
one_or_more k h = grind (arith, h)

module _ {L X : Type 0} (of : Answering L X) (rules : List Rule) (stmt classes : ℕ) (g : IsGrammar rules stmt classes) where
  -- the rest of the parse makes at most so many moves
  abbrev Within : List L → List Sym → List Bool → List (Move L) → Type 0
  Within ws a seen log = length log ≤ left (length ws) (length a) seen

  -- marks for the stack, if it hasn't stood before
  pub record Marks (before : List (List Sym)) (a : List Sym) (seen : List Bool) : Type 0 where
    pub seen_is : Seen seen a (a ∷ before)
    pub size : length seen ≡ classes

  abbrev Rest : List (List Sym) → List L → List Sym → List (Move L) → Type 0
  Rest before ws a log = (log ≡ []) ⊎ ((Contains before a → ⊥) × ((seen : List Bool) → Marks before a seen → Within ws a seen log))

  shift_within : (l : L) (ws : List L) (a : List Sym) (log : List (Move L)) (m : Move L) (seen : List Bool) → length seen ≡ classes → Rest [] ws (grammar_symbol.Tok (of.token l) ∷ a) log
      → Within (l ∷ ws) a seen (m ∷ log)
  shift_within l ws a log m seen size (inl e) =
      let z : length log ≡ 0 = ap (λ (t : List (Move L)). length t) e in
      let h : length log ≤ (2 * length ws + (length a + 1)) * (length seen + 1) + 0 = omega (arith, z) in
      let q = shift_less (length ws) (length a) (length seen) (length log) (count_by not seen) 0 h (omega arith) in
      subst (λ n. n ≤ left (length (l ∷ ws)) (length a) seen) (let e : length log + 1 ≡ suc (length log) = omega arith in e)
      (subst (λ n. length log + 1 ≤ (2 * n + length a) * (length seen + 1) + count_by not seen) (let e : length ws + 1 ≡ length (l ∷ ws) = omega arith in e) q)
  shift_within l ws a log m seen size (inr r) =
      let fresh = replicate classes false in
      let is : length fresh ≡ classes = length-replicate classes false in
      let h0 = r.1 fresh (record { seen_is = seen_shift classes (of.token l) a; size = is }) in
      let n : length fresh ≡ length seen = is ∙ sym size in
      let most = count_most fresh in
      let h : length log ≤ (2 * length ws + (length a + 1)) * (length seen + 1) + count_by not fresh =
      subst (λ k. length log ≤ (2 * length ws + k) * (length seen + 1) + count_by not fresh) (let e : length (grammar_symbol.Tok (of.token l) ∷ a) ≡ length a + 1 = omega arith in e)
      (subst (λ k. length log ≤ (2 * length ws + length (grammar_symbol.Tok (of.token l) ∷ a)) * (k + 1) + count_by not fresh) n h0) in
      let q = shift_less (length ws) (length a) (length seen) (length log) (count_by not seen) (count_by not fresh) h (omega (arith, most, n)) in
      subst (λ n. n ≤ left (length (l ∷ ws)) (length a) seen) (let e : length log + 1 ≡ suc (length log) = omega arith in e)
      (subst (λ n. length log + 1 ≤ (2 * n + length a) * (length seen + 1) + count_by not seen) (let e : length ws + 1 ≡ length (l ∷ ws) = omega arith in e) q)

  -- a class comes on top of what a right side leaves
  unit_within : (ws : List L) (a : List Sym) (c : ℕ) (log : List (Move L)) (m : Move L) (before : List (List Sym)) (seen : List Bool) → Marks before a seen → c < classes → 0 < length a →
      (Contains (a ∷ before) (grammar_symbol.Class c ∷ drop 1 a) → ⊥)
      → ((s : List Bool) → Marks (a ∷ before) (grammar_symbol.Class c ∷ drop 1 a) s → Within ws (grammar_symbol.Class c ∷ drop 1 a) s log) → Within ws a seen (m ∷ log)
  unit_within ws a c log m before seen marks lt some fresh ih =
      let within : c < length seen = (let s = marks.size in omega (arith, lt, s)) in
      let new = set seen c true in
      let size : length new ≡ length seen = length-set seen c true in
      let h0 = ih new (record { seen_is = seen_unit seen a (a ∷ before) c marks.seen_is some within; size = size ∙ marks.size }) in
      let off : get_or seen c false ≡ false = false_from_ne_true (get_or seen c false) (λ e. fresh (marks.seen_is.there c e)) in
      let count = mark_count seen c within off in
      let d = length-drop 1 a (omega (arith, some)) in
      let long : length (grammar_symbol.Class c ∷ drop 1 a) ≡ length (drop 1 a) + 1 = omega arith in
      let h : length log ≤ (2 * length ws + (length (drop 1 a) + 1)) * (length seen + 1) + count_by not new =
      subst (λ k. length log ≤ (2 * length ws + k) * (length seen + 1) + count_by not new) long
      (subst (λ k. length log ≤ (2 * length ws + length (grammar_symbol.Class c ∷ drop 1 a)) * (k + 1) + count_by not new) size h0) in
      let q = unit_less (length ws) (length (drop 1 a)) (length seen) (length log) (count_by not seen) (count_by not new) h count in
      subst (λ n. n ≤ left (length ws) (length a) seen) (let e : length log + 1 ≡ suc (length log) = omega arith in e)
      (subst (λ n. length log + 1 ≤ (2 * length ws + n) * (length seen + 1) + count_by not seen) d q)

  long_within : (ws : List L) (a : List Sym) (c k : ℕ) (log : List (Move L)) (m : Move L) (before : List (List Sym)) (seen : List Bool) → Marks before a seen → c < classes
      → 2 ≤ k → k ≤ length a →
      ((s : List Bool) → Marks (a ∷ before) (grammar_symbol.Class c ∷ drop k a) s → Within ws (grammar_symbol.Class c ∷ drop k a) s log) → Within ws a seen (m ∷ log)
  long_within ws a c k log m before seen marks lt two le ih =
      let d = length-drop k a le in
      let new = set (replicate classes false) c true in
      let size : length new ≡ classes = length-set (replicate classes false) c true ∙ length-replicate classes false in
      let shorter : length (drop k a) + 1 < length a = omega (arith, d, two) in
      let h0 = ih new (record { seen_is = seen_long seen a (drop k a) (a ∷ before) c classes marks.seen_is shorter lt; size = size }) in
      let n : length new ≡ length seen = size ∙ sym marks.size in
      let most = count_most new in
      let h : length log ≤ (2 * length ws + (length (drop k a) + 1)) * (length seen + 1) + count_by not new =
      subst (λ j. length log ≤ (2 * length ws + j) * (length seen + 1) + count_by not new) (let e : length (grammar_symbol.Class c ∷ drop k a) ≡ length (drop k a) + 1 = omega arith in e)
      (subst (λ j. length log ≤ (2 * length ws + length (grammar_symbol.Class c ∷ drop k a)) * (j + 1) + count_by not new) n h0) in
      let q = long_less (length ws) (length (drop k a)) (k - 2) (length seen) (length log) (count_by not seen) (count_by not new) h (omega (arith, most, n)) in
      let whole : length (drop k a) + 2 + (k - 2) ≡ length a = omega (arith, d, two) in
      subst (λ n. n ≤ left (length ws) (length a) seen) (let e : length log + 1 ≡ suc (length log) = omega arith in e)
      (subst (λ n. length log + 1 ≤ (2 * length ws + n) * (length seen + 1) + count_by not seen) whole q)

  reduce_within : (ws : List L) (a : List Sym) (r : Rule) (log : List (Move L)) (m : Move L) (before : List (List Sym)) (seen : List Bool) → Marks before a seen
      → r.left < classes → 0 < length r.right → length r.right ≤ length a →
      Rest (a ∷ before) ws (grammar_symbol.Class r.left ∷ drop (length r.right) a) log → Within ws a seen (m ∷ log)
  reduce_within ws a r log m before seen marks lt some le (inl e) =
      let z : length (m ∷ log) ≡ 1 = ap (λ (t : List (Move L)). suc (length t)) e in
      let size : 0 < length a = omega (arith, some, le) in
      one_move (length ws) (length a) (length seen) (count_by not seen) (length (m ∷ log)) z size
    where
      one_move : (w i n u k : ℕ) → k ≡ 1 → 0 < i → k ≤ (2 * w + i) * (n + 1) + u
      one_move w zero n u k e lt = absurd (omega (arith, lt))
      one_move w (suc i) n u k e lt = big w i n u k e
        where
          big : (w i n u k : ℕ) → k ≡ 1 → k ≤ (2 * w + suc i) * (n + 1) + u
          big w i n u k e = let s : (2 * w + suc i) * (n + 1) + u ≡ 1 + (2 * w * (n + 1) + i * (n + 1) + n + u) = omega arith in omega (arith, s, e)
  reduce_within ws a r log m before seen marks lt some le (inr h) = by (one_or_more (length r.right) some)
    where
      by : (length r.right ≡ 1) ⊎ (2 ≤ length r.right) → Within ws a seen (m ∷ log)
      by (inl e) =
          unit_within ws a r.left log m before seen marks lt (omega (arith, some, le))
          (subst (λ k. Contains (a ∷ before) (grammar_symbol.Class r.left ∷ drop k a) → ⊥) e h.0)
          (λ s k. subst (λ j. Within ws (grammar_symbol.Class r.left ∷ drop j a) s log) e (h.1 s (subst (λ j. Marks (a ∷ before) (grammar_symbol.Class r.left ∷ drop j a) s) (sym e) k)))
      by (inr two) = long_within ws a r.left (length r.right) log m before seen marks lt two le h.1

  pub bounded : {at : ℕ} {before : List (List Sym)} {ws : List L} {a : List Sym} {x : X} {log : List (Move L)} {e : Ending X} → Parses of rules stmt at before ws a x log e → Rest before ws a log
  bounded (loops h) = inl refl
  bounded (accepts h s f) = inl refl
  bounded (refuses r h c t f) = inl refl
  bounded (blocks h c) = inl refl
  bounded (shifts {l = l} {ws = ws} {a = a} {log = log} h q s more) = (let ih = bounded more in inr (h, λ seen marks. shift_within l ws a log (Shift l) seen marks.size ih))
  bounded (reduces {n = n} {before = before} {ws = ws} {a = a} {x = x} {y = y} {log = log} r h c there red more) =
      let ih = bounded more in
      let t = taken_fits of rules stmt classes g ws a x n y c in
      let same : t.rule ≡ r = same_Some t.rule r (sym t.there ∙ there) in
      let size : length t.rule.right ≡ length r.right = ap (λ (q : Rule). length q.right) same in
      inr (h, λ seen marks. reduce_within ws a r log (Reduce n) before seen marks (g.lefts n r there) (let p = t.some in omega (arith, p, size)) (let p = t.within in omega (arith, p, size)) ih)

  pub from_start : (w : List L) (log : List (Move L)) → Rest [] w [] log → length log ≤ 2 * length w * (classes + 1) + classes
  from_start w log (inl e) = let z : length log ≡ 0 = ap (λ (t : List (Move L)). length t) e in omega (arith, z)
  from_start w log (inr h) =
      let fresh = replicate classes false in
      let is : length fresh ≡ classes = length-replicate classes false in
      let k = h.1 fresh (record { seen_is = seen_start classes; size = is }) in
      let most = count_most fresh in
      let j : length log ≤ (2 * length w + 0) * (classes + 1) + count_by not fresh = subst (λ n. length log ≤ (2 * length w + 0) * (n + 1) + count_by not fresh) is k in
      last (length w) classes (length log) (count_by not fresh) j (omega (arith, most, is))
    where
      last : (w n k u : ℕ) → k ≤ (2 * w + 0) * (n + 1) + u → u ≤ n → k ≤ 2 * w * (n + 1) + n
      last w n k u h le = omega (arith, h, le)

pub parse_bounded : {L X : Type 0} (of : Answering L X) → IsBounded of
parse_bounded of d valid w x log e g =
    from_start of d.rules (stmt_of d.classes) (length d.classes) (is_grammar d valid) w log
    (bounded of d.rules (stmt_of d.classes) (length d.classes) (is_grammar d valid) g)

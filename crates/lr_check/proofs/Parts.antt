-- The entries of the code's stack, whose top stands last, and the parts that they stand for.
use Rattle.std.proofs.Common.{◌≡◌, ℕ, zero, suc, ◌+◌, ◌-◌, ◌≤◌, ◌<◌, List, [], ◌∷◌, ◌++◌, Bool, true, false, cond, length, get_or, set, take, drop, slice_get, refl, sym, ap}
use Rattle.std.proofs.Common.{◌∙◌, subst, arith, add-zero}
use Rattle.std.specs.Prelude.{nat_lt}
use Rattle.std.proofs.lemmas.List.{get_or-drop, drop-drop, drop_all, take_all, take-append-le, set-append_left, set_at, get_or_append_left, get_or_at, length_push}
use Rattle.std.proofs.lemmas.Bool.{ltb-false}
use Rattle.gg_base.proofs.Facts.{slice_last}
use Rattle.md_reader.specs.declared.types.Sym.{Sym}
use Rattle.lr_tables.specs.View.{TableView}
use Rattle.lr_tables.specs.Leads.{Leads, nowhere}
use Rattle.lr_check.specs.declared.stack.Entry.{Entry}
use Rattle.lr_check.specs.Tree.{Node}
use Rattle.lr_check.specs.Parse.{Part, symbols, answers_at, answer, used_at}
use Rattle.lr_check.specs.Questions.{answers_of, answer_of, asked_of, entry_at}
use Rattle.lr_check.specs.Steps.{state_of, top_of}

-- what is left of the answers of an entry's node
abbrev pub left : List Node → Entry → List Bool
left nodes e = drop e.used (answers_of (slice_get nodes e.node))

pub answer_left : (nodes : List Node) (e : Entry) → answer_of nodes e ≡ answer (left nodes e)
answer_left nodes e =
    let all = answers_of (slice_get nodes e.node) in
    sym (get_or-drop e.used all 0 false ∙ ap (λ (n : ℕ). get_or all n false) (add-zero e.used))

pub left_asked : (nodes : List Node) (e : Entry) → left nodes (asked_of nodes e) ≡ drop 1 (left nodes e)
left_asked nodes e = by (nat_lt e.used (length (answers_of (slice_get nodes e.node)))) refl
  where
    all : List Bool
    all = answers_of (slice_get nodes e.node)

    by : (b : Bool) → nat_lt e.used (length (answers_of (slice_get nodes e.node))) ≡ b → left nodes (cond b (record { state = e.state; node = e.node; used = e.used + 1 }) e)
        ≡ drop 1 (drop e.used (answers_of (slice_get nodes e.node)))
    by true f = sym (drop-drop 1 e.used (answers_of (slice_get nodes e.node)))
    by false f =
        let none : drop e.used (answers_of (slice_get nodes e.node)) ≡ [] = drop_all e.used (answers_of (slice_get nodes e.node)) (ltb-false e.used (length (answers_of (slice_get nodes e.node))) f) in
        none ∙ sym (ap (drop 1) none)

state_asked : (nodes : List Node) (e : Entry) → (asked_of nodes e).state ≡ e.state
state_asked nodes e = by (nat_lt e.used (length (answers_of (slice_get nodes e.node))))
  where
    by : (b : Bool) → (cond b (record { state = e.state; node = e.node; used = e.used + 1 }) e).state ≡ e.state
    by true = refl
    by false = refl

-- the state of each entry is that to which the stack up to its part leads
pub data Stands (t : TableView) (nodes : List Node) : List Entry → List Part → Type 0 where
  bottom : Stands t nodes [] []
  above : {es l : List Entry} {s : List Part} {p : Part} (e : Entry) →
      Stands t nodes es s → Leads t (p.symbol ∷ symbols s) e.state → p.answers ≡ left nodes e → l ≡ es ++ e ∷ [] →
      Stands t nodes l (p ∷ s)

length_last : (es l : List Entry) (e : Entry) → l ≡ es ++ e ∷ [] → length l ≡ length es + 1
length_last es l e f = ap (λ (x : List Entry). length x) f ∙ length_push es e

get_last : (es : List Entry) (e d : Entry) → get_or (es ++ e ∷ []) (length es) d ≡ e
get_last es e d = get_or_at es e [] d (length es) refl

pub top_last : (es : List Entry) (e : Entry) → top_of (es ++ e ∷ []) ≡ e.state
top_last es e =
    let n : length (es ++ e ∷ []) - 1 ≡ length es = (let m = length_push es e in omega (arith, m)) in
    ap state_of (ap (slice_get (es ++ e ∷ [])) n ∙ slice_last es e)

pub symbols_used : (k : ℕ) (s : List Part) → symbols (used_at k s) ≡ symbols s
symbols_used k [] = refl
symbols_used zero (p ∷ s) = refl
symbols_used (suc k) (p ∷ s) = ap (λ (a : List Sym). p.symbol ∷ a) (symbols_used k s)

module _ (t : TableView) (nodes : List Node) where
  pub stands_length : {l : List Entry} {s : List Part} → Stands t nodes l s → length l ≡ length s
  stands_length bottom = refl
  stands_length (above {es = es} {l = l} {s = s} e h leads a f) = let m = length_last es l e f in let n = stands_length h in omega (arith, m, n)

  pub stands_leads : {l : List Entry} {s : List Part} → Stands t nodes l s → Leads t (symbols s) (top_of l)
  stands_leads bottom = nowhere
  stands_leads (above {es = es} {l = l} {s = s} {p = p} e h leads a f) = subst (Leads t (p.symbol ∷ symbols s)) (sym (ap top_of f ∙ top_last es e)) leads

  -- below so many parts
  pub stands_below : {l : List Entry} {s : List Part} → Stands t nodes l s → (k : ℕ) → k ≤ length s → Stands t nodes (take (length l - k) l) (drop k s)
  stands_below bottom zero le = bottom
  stands_below bottom (suc k) le = absurd (omega (arith, le))
  stands_below (above {es = es} {l = l} {s = s} {p = p} e h leads a f) zero le =
      subst (λ (x : List Entry). Stands t nodes x (p ∷ s)) (sym (take_all (length l - 0) l (omega arith))) (above e h leads a f)
  stands_below (above {es = es} {l = l} {s = s} {p = p} e h leads a f) (suc k) le =
      let m = length_last es l e f in
      let n : length l - suc k ≡ length es - k = omega (arith, m) in
      let same : take (length l - suc k) l ≡ take (length es - k) es =
      ap (λ (x : List Entry). take (length l - suc k) x) f ∙ (ap (λ (i : ℕ). take i (es ++ e ∷ [])) n ∙ take-append-le (length es - k) es (e ∷ []) (omega arith)) in
      subst (λ (x : List Entry). Stands t nodes x (drop k s)) (sym same) (stands_below h k (omega (arith, le)))

  -- the answers at a depth
  pub stands_answers : {l : List Entry} {s : List Part} → Stands t nodes l s → (k i : ℕ) → k < length s → i + k + 1 ≡ length l → answers_at s k ≡ left nodes (entry_at l i)
  stands_answers bottom k i lt e = absurd (omega (arith, lt))
  stands_answers (above {es = es} {l = l} {s = s} {p = p} e h leads a f) zero i lt g =
      let m = length_last es l e f in
      let n : i ≡ length es = omega (arith, m, g) in
      a ∙ ap (left nodes) (sym (ap (λ (x : List Entry). entry_at x i) f ∙ (ap (entry_at (es ++ e ∷ [])) n ∙ get_last es e _)))
  stands_answers (above {es = es} {l = l} {s = s} {p = p} e h leads a f) (suc k) i lt g =
      let m = length_last es l e f in
      let n : i < length es = omega (arith, m, g) in
      stands_answers h k i (omega (arith, lt)) (omega (arith, m, g))
      ∙ ap (left nodes) (sym (ap (λ (x : List Entry). entry_at x i) f ∙ get_or_append_left es (e ∷ []) _ i n))

  -- behind a question at a depth
  pub stands_used : {l : List Entry} {s : List Part} → Stands t nodes l s → (k i : ℕ) → k < length s → i + k + 1 ≡ length l → Stands t nodes (set l i (asked_of nodes (entry_at l i))) (used_at k s)
  stands_used bottom k i lt e = absurd (omega (arith, lt))
  stands_used (above {es = es} {l = l} {s = s} {p = p} e h leads a f) zero i lt g =
      let m = length_last es l e f in
      let n : i ≡ length es = omega (arith, m, g) in
      let here : entry_at l i ≡ e = ap (λ (x : List Entry). entry_at x i) f ∙ (ap (entry_at (es ++ e ∷ [])) n ∙ get_last es e _) in
      let made : set l i (asked_of nodes (entry_at l i)) ≡ es ++ asked_of nodes e ∷ [] =
      ap (λ (x : List Entry). set x i (asked_of nodes (entry_at l i))) f
      ∙ (ap (λ (x : Entry). set (es ++ e ∷ []) i (asked_of nodes x)) here ∙ set_at es e [] (asked_of nodes e) i (sym n)) in
      above (asked_of nodes e) h (subst (Leads t (p.symbol ∷ symbols s)) (sym (state_asked nodes e)) leads) (ap (drop 1) a ∙ sym (left_asked nodes e)) made
  stands_used (above {es = es} {l = l} {s = s} {p = p} e h leads a f) (suc k) i lt g =
      let m = length_last es l e f in
      let n : i < length es = omega (arith, m, g) in
      let here : entry_at l i ≡ entry_at es i = ap (λ (x : List Entry). entry_at x i) f ∙ get_or_append_left es (e ∷ []) _ i n in
      let made : set l i (asked_of nodes (entry_at l i)) ≡ set es i (asked_of nodes (entry_at es i)) ++ e ∷ [] =
      ap (λ (x : List Entry). set x i (asked_of nodes (entry_at l i))) f
      ∙ (ap (λ (x : Entry). set (es ++ e ∷ []) i (asked_of nodes x)) here ∙ set-append_left es (e ∷ []) i (asked_of nodes (entry_at es i)) n) in
      above e (stands_used h k i (omega (arith, lt)) (omega (arith, m, g))) (subst (λ (b : List Sym). Leads t (p.symbol ∷ b) e.state) (sym (symbols_used k s)) leads) a made

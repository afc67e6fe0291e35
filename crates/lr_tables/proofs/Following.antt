-- FOLLOW as it is computed is the least set.
use Rattle.std.proofs.Common.{◌≡◌, ◌⊎◌, ℕ, zero, suc, ◌+◌, ◌-◌, ◌<◌, List, [], ◌∷◌, Option, Some, None, Bool, true, false, cond, length, set, slice_get}
use Rattle.std.proofs.Common.{replicate, refl, sym, ap, ◌∙◌, subst, inl, inr, ⊎_elim, arith, length-set, true≢false}
use Rattle.std.specs.Prelude.{◌==◌}
use Rattle.std.proofs.lemmas.Bool.{eqb-true, eq-eqb}
use Rattle.std.proofs.lemmas.List.{length-replicate}
use Rattle.std.proofs.lemmas.Option.{slice_get_within, same_Some, none-some}
use Rattle.tree_core.specs.declared.token.Tok.{Tok}
use Rattle.tree_core.specs.declared.token.Tok.TheVariants as tok
use Rattle.md_reader.specs.declared.types.Rule.{Rule}
use Rattle.md_reader.specs.declared.types.Sym.{Sym}
use Rattle.md_reader.specs.declared.types.Sym.TheVariants as grammar_symbol
use Rattle.lr_tables.specs.declared.marks.Edge.{Edge}
use Rattle.lr_tables.specs.Symbols.{number}
use Rattle.lr_tables.specs.Follow.{Starts, itself, by_rule, Follow, at_end, within, behind}
use Rattle.lr_tables.specs.Grammar.{IsGrammar}
use Rattle.lr_tables.specs.Marks.{rounds}
use Rattle.lr_tables.specs.Sets.{edge_to}
use Rattle.lr_tables.specs.Looking as code
use Rattle.lr_tables.proofs.Members.{In, In-filter_map, filter_map-In, slice_get-In, In-slice_get}
use Rattle.lr_tables.proofs.Marking.{Marked, marked_set, marked_kept, marked_here, rounds_sound, rounds_closed, rounds_kept}
use Rattle.lr_tables.proofs.Symbols_apart.{number_same}
use Rattle.lr_tables.proofs.Closing.{none_marked, edge_is}

from_is : (to : ℕ) (o : Option Sym) (e : Edge) → code.edge_from to o ≡ Some e → (e.to ≡ to) × (o ≡ Some (grammar_symbol.Class e.from))
from_is to None e h = cc
from_is to (Some (grammar_symbol.Tok t)) e h = cc
from_is to (Some (grammar_symbol.Class c)) e h =
    let same : record { from = c; to = to } ≡ e = same_Some _ _ h in
    (sym (ap (λ (x : Edge). x.to) same), ap (λ (x : Edge). Some (grammar_symbol.Class x.from)) same)

token_is : (k : Tok) (o : Option Sym) → code.is_token (number k) o ≡ true → o ≡ Some (grammar_symbol.Tok k)
token_is k None h = cc
token_is k (Some (grammar_symbol.Tok u)) h = ap (λ x. Some (grammar_symbol.Tok x)) (number_same u k (eqb-true (number u) (number k) h))
token_is k (Some (grammar_symbol.Class c)) h = cc

is_token_itself : (k : Tok) → code.is_token (number k) (Some (grammar_symbol.Tok k)) ≡ true
is_token_itself k = eq-eqb (number k) (number k) refl

-- a set with or without one more
if_kept : (b : Bool) (m : List Bool) (d c : ℕ) → Marked m c → Marked (cond b (set m d true) m) c
if_kept true m d c h = marked_kept m d c h
if_kept false m d c h = h

length-if : (b : Bool) (m : List Bool) (d : ℕ) → length (cond b (set m d true) m) ≡ length m
length-if true m d = length-set m d true
length-if false m d = refl

if_cases : (b : Bool) (m : List Bool) (d c : ℕ) → Marked (cond b (set m d true) m) c → ((b ≡ true) × (c ≡ d)) ⊎ Marked m c
if_cases true m d c h = ⊎_elim (λ e. inl (refl, e)) (λ x. inr x) (marked_set m d c h)
if_cases false m d c h = inr h

if_there : (b : Bool) (m : List Bool) (d : ℕ) → b ≡ true → d < length m → Marked (cond b (set m d true) m) d
if_there true m d e lt = marked_here m d lt
if_there false m d e lt = absurd (true≢false (sym e))

module _ (k : Tok) where
  begun_kept : (rs : List Rule) (m : List Bool) (c : ℕ) → Marked m c → Marked (code.begun (number k) rs m) c
  begun_kept [] m c h = h
  begun_kept (r ∷ rs) m c h = begun_kept rs (cond (code.is_token (number k) (slice_get r.right 0)) (set m r.left true) m) c (if_kept (code.is_token (number k) (slice_get r.right 0)) m r.left c h)

  length-begun : (rs : List Rule) (m : List Bool) → length (code.begun (number k) rs m) ≡ length m
  length-begun [] m = refl
  length-begun (r ∷ rs) m = length-begun rs (cond (code.is_token (number k) (slice_get r.right 0)) (set m r.left true) m) ∙ length-if (code.is_token (number k) (slice_get r.right 0)) m r.left

  begun_there : (rs : List Rule) (m : List Bool) (r : Rule) → In r rs → r.left < length m → slice_get r.right 0 ≡ Some (grammar_symbol.Tok k) → Marked (code.begun (number k) rs m) r.left
  begun_there [] m r at lt e = absurd at
  begun_there (q ∷ rs) m r at lt e =
      ⊎_elim
      (λ same. begun_kept rs (cond (code.is_token (number k) (slice_get q.right 0)) (set m q.left true) m) r.left
      (subst (λ (x : Rule). Marked (cond (code.is_token (number k) (slice_get x.right 0)) (set m x.left true) m) r.left) (sym same)
      (if_there (code.is_token (number k) (slice_get r.right 0)) m r.left (ap (code.is_token (number k)) e ∙ is_token_itself k) lt)))
      (λ later. begun_there rs (cond (code.is_token (number k) (slice_get q.right 0)) (set m q.left true) m) r later
      (subst (λ n. r.left < n) (sym (length-if (code.is_token (number k) (slice_get q.right 0)) m q.left)) lt) e)
      at

  begun_only : (rs : List Rule) (m : List Bool) (c : ℕ) → Marked (code.begun (number k) rs m) c
      → Marked m c ⊎ ((r : Rule) × In r rs × (r.left ≡ c) × (slice_get r.right 0 ≡ Some (grammar_symbol.Tok k)))
  begun_only [] m c h = inl h
  begun_only (q ∷ rs) m c h =
      ⊎_elim
      (λ a. ⊎_elim
      (λ x. inr (q, inl refl, sym x.1, token_is k (slice_get q.right 0) x.0))
      (λ x. inl x)
      (if_cases (code.is_token (number k) (slice_get q.right 0)) m q.left c a))
      (λ b. inr (b.0, inr b.1, b.2, b.3))
      (begun_only rs (cond (code.is_token (number k) (slice_get q.right 0)) (set m q.left true) m) c h)

module _ (rules : List Rule) (stmt classes : ℕ) (g : IsGrammar rules stmt classes) (k : Tok) where
  left_within : (r : Rule) → In r rules → r.left < classes
  left_within r at = let n : (i : ℕ) × (slice_get rules i ≡ Some r) = In-slice_get r rules at in g.lefts n.0 r n.1

  length-empty : length (replicate classes false) ≡ classes
  length-empty = length-replicate classes false

  -- a class that is marked may begin with the token
  pub begins_sound : (c : ℕ) → Marked (code.begins rules classes (number k)) c → Starts rules (grammar_symbol.Class c) k
  unfolding code.begins
  begins_sound c h = rounds_sound (λ (d : ℕ). Starts rules (grammar_symbol.Class d) k) classes (code.begin_edges rules) (code.begun (number k) rules (replicate classes false)) given along c h
    where
      given : (d : ℕ) → Marked (code.begun (number k) rules (replicate classes false)) d → Starts rules (grammar_symbol.Class d) k
      given d h = ⊎_elim
          (λ x. absurd (none_marked classes d x))
          (λ x. let n : (i : ℕ) × (slice_get rules i ≡ Some x.0) = In-slice_get x.0 rules x.1 in by_rule n.0 x.0 n.1 x.2 x.3 itself)
          (begun_only k rules (replicate classes false) d h)

      along : (e : Edge) → In e (code.begin_edges rules) → Starts rules (grammar_symbol.Class e.from) k → Starts rules (grammar_symbol.Class e.to) k
      along e at s =
          let q : (r : Rule) × In r rules × (code.begin_edge r ≡ Some e) = filter_map-In code.begin_edge e rules at in
          let is : (e.to ≡ q.0.left) × (slice_get q.0.right 0 ≡ Some (grammar_symbol.Class e.from)) = from_is q.0.left (slice_get q.0.right 0) e q.2 in
          let n : (i : ℕ) × (slice_get rules i ≡ Some q.0) = In-slice_get q.0 rules q.1 in
          by_rule n.0 q.0 n.1 (sym is.0) is.1 s

  pub begins_complete : {X : Sym} {t : Tok} → Starts rules X t → t ≡ k → (c : ℕ) → X ≡ grammar_symbol.Class c → Marked (code.begins rules classes (number k)) c
  unfolding code.begins
  begins_complete (itself {t = t}) same c e = absurd (unlike e)
    where
      unlike : grammar_symbol.Tok t ≡ grammar_symbol.Class c → ⊥
      unlike e = cc
  begins_complete (by_rule {c = d} {t = t} {X = X} n r there left first s) same c e = by X first (λ b f. begins_complete s same b f) (tok_case s)
    where
      is : r.left ≡ c
      is = left ∙ class_same d c e
        where
          class_same : (a b : ℕ) → grammar_symbol.Class a ≡ grammar_symbol.Class b → a ≡ b
          class_same a b e = cc

      len : length (code.begun (number k) rules (replicate classes false)) ≡ classes
      len = length-begun k rules (replicate classes false) ∙ length-empty

      at : In r rules
      at = slice_get-In r rules n there

      lt : r.left < classes
      lt = left_within r at

      tok_case : {Y : Sym} {u : Tok} → Starts rules Y u → (v : Tok) → Y ≡ grammar_symbol.Tok v → u ≡ v
      tok_case (itself {t = u}) v e = cc
      tok_case (by_rule {c = d} n r there left first s) v e = cc

      by : (Y : Sym) → slice_get r.right 0 ≡ Some Y → ((b : ℕ) → Y ≡ grammar_symbol.Class b
          → Marked (rounds classes (code.begin_edges rules) (code.begun (number k) rules (replicate classes false))) b) → ((v : Tok) → Y ≡ grammar_symbol.Tok v → t ≡ v)
          → Marked (rounds classes (code.begin_edges rules) (code.begun (number k) rules (replicate classes false))) c
      by (grammar_symbol.Tok v) first ih tk =
          let vk : v ≡ k = sym (tk v refl) ∙ same in
          rounds_kept classes (code.begin_edges rules) (code.begun (number k) rules (replicate classes false)) c
          (subst (Marked (code.begun (number k) rules (replicate classes false))) is
          (begun_there k rules (replicate classes false) r at (subst (λ x. r.left < x) (sym length-empty) lt) (first ∙ ap (λ x. Some (grammar_symbol.Tok x)) vk)))
      by (grammar_symbol.Class b) first ih tk =
          let edge : Edge = record { from = b; to = r.left } in
          let there' : In edge (code.begin_edges rules) = In-filter_map code.begin_edge r edge rules at (ap (code.edge_from r.left) first) in
          subst (Marked (rounds classes (code.begin_edges rules) (code.begun (number k) rules (replicate classes false)))) is
          (rounds_closed classes (code.begin_edges rules) (code.begun (number k) rules (replicate classes false)) len edge there' (ih b refl) lt)

  -- the symbol may begin with the token
  may_sound : (X : Sym) → code.may_begin (number k) (code.begins rules classes (number k)) X ≡ true → Starts rules X k
  may_sound (grammar_symbol.Tok u) h = subst (λ x. Starts rules (grammar_symbol.Tok x) k) (sym (number_same u k (eqb-true (number u) (number k) h))) itself
  may_sound (grammar_symbol.Class c) h = begins_sound c h

  may_complete : (X : Sym) → Starts rules X k → code.may_begin (number k) (code.begins rules classes (number k)) X ≡ true
  may_complete (grammar_symbol.Tok u) s = by s refl
    where
      by : {Y : Sym} {t : Tok} → Starts rules Y t → Y ≡ grammar_symbol.Tok u → (number u == number t) ≡ true
      by (itself {t = t}) e = let same : t ≡ u = cc in eq-eqb (number u) (number t) (ap number (sym same))
      by (by_rule {c = d} n r there left first s) e = cc
  may_complete (grammar_symbol.Class c) s = begins_complete s refl c refl

-- a symbol before the list, if there is one
lead : Option Sym → List Sym → List Sym
lead None w = w
lead (Some Y) w = Y ∷ w

module _ (t : ℕ) (firsts : List Bool) where
  -- the class stands before a symbol that may begin with the token
  record Adjacent (w : List Sym) (c : ℕ) : Type 0 where
    at : ℕ
    after : Sym
    here : slice_get w at ≡ Some (grammar_symbol.Class c)
    next : slice_get w (suc at) ≡ Some after
    may : code.may_begin t firsts after ≡ true

  later : (Y : Sym) (w : List Sym) (c : ℕ) → Adjacent w c → Adjacent (Y ∷ w) c
  later Y w c a = record { at = suc a.at; after = a.after; here = a.here; next = a.next; may = a.may }

  mark_kept : (b : Bool) (o : Option Sym) (m : List Bool) (c : ℕ) → Marked m c → Marked (code.marked_if b o m) c
  mark_kept true None m c h = h
  mark_kept true (Some (grammar_symbol.Tok u)) m c h = h
  mark_kept true (Some (grammar_symbol.Class d)) m c h = marked_kept m d c h
  mark_kept false o m c h = h

  length-mark : (b : Bool) (o : Option Sym) (m : List Bool) → length (code.marked_if b o m) ≡ length m
  length-mark true None m = refl
  length-mark true (Some (grammar_symbol.Tok u)) m = refl
  length-mark true (Some (grammar_symbol.Class d)) m = length-set m d true
  length-mark false o m = refl

  within_kept : (w : List Sym) (o : Option Sym) (m : List Bool) (c : ℕ) → Marked m c → Marked (code.within t firsts o w m) c
  within_kept [] o m c h = h
  within_kept (X ∷ w) o m c h = within_kept w (Some X) (code.marked_if (code.may_begin t firsts X) o m) c (mark_kept (code.may_begin t firsts X) o m c h)

  length-within : (w : List Sym) (o : Option Sym) (m : List Bool) → length (code.within t firsts o w m) ≡ length m
  length-within [] o m = refl
  length-within (X ∷ w) o m = length-within w (Some X) (code.marked_if (code.may_begin t firsts X) o m) ∙ length-mark (code.may_begin t firsts X) o m

  within_only : (w : List Sym) (o : Option Sym) (m : List Bool) (c : ℕ) → Marked (code.within t firsts o w m) c → Marked m c ⊎ Adjacent (lead o w) c
  unfolding lead
  within_only [] o m c h = inl h
  within_only (X ∷ w) o m c h =
      ⊎_elim
      (λ a. first (code.may_begin t firsts X) refl o a)
      (λ a. inr (behind o a))
      (within_only w (Some X) (code.marked_if (code.may_begin t firsts X) o m) c h)
    where
      behind : (o : Option Sym) → Adjacent (X ∷ w) c → Adjacent (lead o (X ∷ w)) c
      behind None a = a
      behind (Some Y) a = later Y (X ∷ w) c a

      first : (b : Bool) → code.may_begin t firsts X ≡ b → (o : Option Sym) → Marked (code.marked_if b o m) c → Marked m c ⊎ Adjacent (lead o (X ∷ w)) c
      first true e None a = inl a
      first true e (Some (grammar_symbol.Tok u)) a = inl a
      first true e (Some (grammar_symbol.Class d)) a = ⊎_elim (λ s. inr (record { at = 0; after = X; here = ap (λ x. Some (grammar_symbol.Class x)) (sym s); next = refl; may = e }))
          (λ x. inl x) (marked_set m d c a)
      first false e o a = inl a

  within_there : (w : List Sym) (o : Option Sym) (m : List Bool) (c j : ℕ) (X : Sym) → slice_get (lead o w) j ≡ Some (grammar_symbol.Class c) → slice_get (lead o w) (suc j) ≡ Some X
      → code.may_begin t firsts X ≡ true → c < length m → Marked (code.within t firsts o w m) c
  unfolding lead
  within_there [] None m c j X e f h lt = absurd (none-some (grammar_symbol.Class c) e)
  within_there [] (Some Y) m c j X e f h lt = absurd (none-some X f)
  within_there (Z ∷ w) None m c j X e f h lt =
      within_there w (Some Z) (code.marked_if (code.may_begin t firsts Z) None m) c j X e f h (subst (λ n. c < n) (sym (length-mark (code.may_begin t firsts Z) None m)) lt)
  within_there (Z ∷ w) (Some Y) m c zero X e f h lt =
      let y : Y ≡ grammar_symbol.Class c = same_Some Y (grammar_symbol.Class c) e in
      let z : Z ≡ X = same_Some Z X f in
      within_kept w (Some Z) (code.marked_if (code.may_begin t firsts Z) (Some Y) m) c
      (subst (λ (b : Bool). Marked (code.marked_if b (Some Y) m) c) (sym (ap (code.may_begin t firsts) z ∙ h))
      (subst (λ (x : Sym). Marked (code.marked_if true (Some x) m) c) (sym y) (marked_here m c lt)))
  within_there (Z ∷ w) (Some Y) m c (suc j) X e f h lt =
      within_there w (Some Z) (code.marked_if (code.may_begin t firsts Z) (Some Y) m) c j X e f h (subst (λ n. c < n) (sym (length-mark (code.may_begin t firsts Z) (Some Y) m)) lt)

  all_kept : (rs : List Rule) (m : List Bool) (c : ℕ) → Marked m c → Marked (code.all_within t firsts rs m) c
  all_kept [] m c h = h
  all_kept (r ∷ rs) m c h = all_kept rs (code.within t firsts None r.right m) c (within_kept r.right None m c h)

  length-all : (rs : List Rule) (m : List Bool) → length (code.all_within t firsts rs m) ≡ length m
  length-all [] m = refl
  length-all (r ∷ rs) m = length-all rs (code.within t firsts None r.right m) ∙ length-within r.right None m

  all_only : (rs : List Rule) (m : List Bool) (c : ℕ) → Marked (code.all_within t firsts rs m) c → Marked m c ⊎ ((r : Rule) × In r rs × Adjacent r.right c)
  unfolding lead
  all_only [] m c h = inl h
  all_only (r ∷ rs) m c h =
      ⊎_elim
      (λ a. ⊎_elim (λ x. inl x) (λ x. inr (r, inl refl, from x)) (within_only r.right None m c a))
      (λ b. inr (b.0, inr b.1, b.2))
      (all_only rs (code.within t firsts None r.right m) c h)
    where
      from : Adjacent (lead None r.right) c → Adjacent r.right c
      from a = a

  all_there : (rs : List Rule) (m : List Bool) (r : Rule) (c j : ℕ) (X : Sym) → In r rs → slice_get r.right j ≡ Some (grammar_symbol.Class c) → slice_get r.right (suc j) ≡ Some X
      → code.may_begin t firsts X ≡ true → c < length m → Marked (code.all_within t firsts rs m) c
  unfolding lead
  all_there [] m r c j X at e f h lt = absurd at
  all_there (q ∷ rs) m r c j X at e f h lt =
      ⊎_elim
      (λ same. all_kept rs (code.within t firsts None q.right m) c (here q (sym same)))
      (λ x. all_there rs (code.within t firsts None q.right m) r c j X x e f h (subst (λ n. c < n) (sym (length-within q.right None m)) lt))
      at
    where
      here : (q : Rule) → r ≡ q → Marked (code.within t firsts None q.right m) c
      here q same = subst (λ (x : Rule). Marked (code.within t firsts None x.right m) c) same (within_there r.right None m c j X e f h lt)

module _ (rules : List Rule) (stmt classes : ℕ) (g : IsGrammar rules stmt classes) (k : Tok) where
  -- a class behind which the token is marked
  pub follow_sound : (c : ℕ) → Marked (code.follows rules stmt classes (number k)) c → Follow rules stmt c k
  unfolding code.follows
  follow_sound c h =
      rounds_sound (λ (d : ℕ). Follow rules stmt d k) classes (code.end_edges rules)
      (code.all_within (number k) (code.begins rules classes (number k)) rules (code.ended stmt (number k) (replicate classes false))) given along c h
    where
      end_case : (b : Bool) → (number k == 39) ≡ b → (d : ℕ) → Marked (cond b (set (replicate classes false) stmt true) (replicate classes false)) d → Follow rules stmt d k
      end_case true e d h = ⊎_elim
          (λ s. let is : k ≡ tok.End = number_same k tok.End (eqb-true (number k) 39 e) in subst (λ x. Follow rules stmt x k) (sym s) (subst (λ x. Follow rules stmt stmt x) (sym is) at_end))
          (λ x. absurd (none_marked classes d x))
          (marked_set (replicate classes false) stmt d h)
      end_case false e d h = absurd (none_marked classes d h)

      given : (d : ℕ) → Marked (code.all_within (number k) (code.begins rules classes (number k)) rules (code.ended stmt (number k) (replicate classes false))) d → Follow rules stmt d k
      given d h = ⊎_elim
          (λ x. end_case (number k == 39) refl d x)
          (λ x. let n : (i : ℕ) × (slice_get rules i ≡ Some x.0) = In-slice_get x.0 rules x.1 in
          let a : Adjacent (number k) (code.begins rules classes (number k)) x.0.right d = x.2 in
          within n.0 a.at x.0 n.1 a.here (ap (slice_get x.0.right) (let z : a.at + 1 ≡ suc a.at = omega arith in z) ∙ a.next) (may_sound rules stmt classes g k a.after a.may))
          (all_only (number k) (code.begins rules classes (number k)) rules (code.ended stmt (number k) (replicate classes false)) d h)

      along : (e : Edge) → In e (code.end_edges rules) → Follow rules stmt e.from k → Follow rules stmt e.to k
      along e at f =
          let q : (r : Rule) × In r rules × (code.end_edge r ≡ Some e) = filter_map-In code.end_edge e rules at in
          let is : (e.from ≡ q.0.left) × (slice_get q.0.right (length q.0.right - 1) ≡ Some (grammar_symbol.Class e.to)) = edge_is q.0.left (slice_get q.0.right (length q.0.right - 1)) e q.2 in
          let n : (i : ℕ) × (slice_get rules i ≡ Some q.0) = In-slice_get q.0 rules q.1 in
          let some : length q.0.right - 1 < length q.0.right = slice_get_within q.0.right (length q.0.right - 1) (grammar_symbol.Class e.to) is.1 in
          behind n.0 (length q.0.right - 1) q.0 n.1 is.1 (omega (arith, some)) (sym is.0) f

  length-ended : length (code.ended stmt (number k) (replicate classes false)) ≡ classes
  length-ended = length-if (number k == 39) (replicate classes false) stmt ∙ length-replicate classes false

  pub follow_complete : {c : ℕ} {t : Tok} → Follow rules stmt c t → t ≡ k → Marked (code.follows rules stmt classes (number k)) c
  unfolding code.follows
  follow_complete at_end e =
      let m = code.ended stmt (number k) (replicate classes false) in
      let firsts = code.begins rules classes (number k) in
      rounds_kept classes (code.end_edges rules) (code.all_within (number k) firsts rules m) stmt
      (all_kept (number k) firsts rules m stmt
      (if_there (number k == 39) (replicate classes false) stmt (eq-eqb (number k) 39 (ap number (sym e))) (subst (λ x. stmt < x) (sym (length-replicate classes false)) g.start)))
  follow_complete (within {c = c} {t = t} {X = X} n j r there here next s) e =
      let m = code.ended stmt (number k) (replicate classes false) in
      let firsts = code.begins rules classes (number k) in
      rounds_kept classes (code.end_edges rules) (code.all_within (number k) firsts rules m) c
      (all_there (number k) firsts rules m r c j X (slice_get-In r rules n there) here
      (ap (slice_get r.right) (let z : suc j ≡ j + 1 = omega arith in z) ∙ next)
      (may_complete rules stmt classes g k X (subst (Starts rules X) e s))
      (subst (λ x. c < x) (sym length-ended) (g.within n j c r there here)))
  follow_complete (behind {c = c} {d = d} {t = t} n j r there here last left f) e =
      let m = code.ended stmt (number k) (replicate classes false) in
      let firsts = code.begins rules classes (number k) in
      let len : length (code.all_within (number k) firsts rules m) ≡ classes = length-all (number k) firsts rules m ∙ length-ended in
      let edge : Edge = record { from = r.left; to = c } in
      let is : slice_get r.right (length r.right - 1) ≡ Some (grammar_symbol.Class c) = ap (slice_get r.right) (let z : length r.right - 1 ≡ j = omega (arith, last) in z) ∙ here in
      let there' : In edge (code.end_edges rules) = In-filter_map code.end_edge r edge rules (slice_get-In r rules n there) (ap (edge_to r.left) is) in
      rounds_closed classes (code.end_edges rules) (code.all_within (number k) firsts rules m) len edge there'
      (subst (Marked (rounds classes (code.end_edges rules) (code.all_within (number k) firsts rules m))) (sym left) (follow_complete f e))
      (g.within n j c r there here)

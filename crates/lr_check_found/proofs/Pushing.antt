-- A symbol comes on top of a list.
use Rattle.std.proofs.Common.{◌≡◌, ℕ, zero, suc, ◌+◌, ◌<◌, List, [], ◌∷◌, ◌++◌, Some, Contains, length, get_or, slice_get, refl, sym, ap, ◌∙◌, subst, ⊎_elim, arith, length-append}
use Rattle.std.specs.Prelude.{slice_index_or}
use Rattle.std.proofs.lemmas.Option.{slice_get_within, slice_get-get_or, get_or_from_slice_get, same_Some}
use Rattle.lr_check_sets.proofs.Rows.{at_contains}
use Rattle.gg_base.proofs.Facts.{slice_left, slice_cases, head_same, tail_same, nil_cons}
use Rattle.md_reader.specs.declared.types.Sym.{Sym}
use Rattle.lr_tables.specs.Symbols.{symbol_number}
use Rattle.lr_tables.proofs.Symbols_apart.{symbol_number_same}
use Rattle.lr_check_found.specs.declared.lists.Cell.{Cell}
use Rattle.lr_check_found.specs.Lists.{ListsView, IsList, IsCell, AreLists, KeepsLists, IsPushed}
use Rattle.lr_check_found.proofs.Reading.{slice_at_last}

-- the cell that is there is the symbol's
pub found_cell : (v : ListsView) (X : Sym) (rest n : ℕ) (c : Cell) → AreLists v → slice_get v.cells n ≡ Some c → c.symbol ≡ symbol_number X → c.rest ≡ rest → IsPushed v X rest (n + 1)
found_cell v X rest n c lists there is below s at =
    let h : IsCell v n c = lists.cells n c there in
    let top : h.top ≡ X = symbol_number_same h.top X (h.number ∙ is) in
    let lower : h.rest ≡ s = same_Some h.rest s (sym h.lower ∙ (ap (slice_get v.all) below ∙ at)) in
    h.whole ∙ ap Some (ap (λ Y. Y ∷ h.rest) top ∙ ap (λ l. X ∷ l) lower)

pub keeps_same : (v : ListsView) → KeepsLists v v
keeps_same v = record { kept = λ n s e. e }

pub keeps_both : (u v w : ListsView) → KeepsLists u v → KeepsLists v w → KeepsLists u w
keeps_both u v w a b = record { kept = λ n s e. b.kept n s (a.kept n s e) }

-- nothing is new
pub pushed_old : (v w : ListsView) → w.cells ≡ v.cells → w.all ≡ v.all → AreLists v → AreLists w × KeepsLists v w
pushed_old v w cells all lists =
    let same : v ≡ w = ap (λ (cs : List Cell). let u : ListsView = record { cells = cs; all = v.all } in u) (sym cells) ∙
    ap (λ (ls : List (List Sym)). let u : ListsView = record { cells = w.cells; all = ls } in u) (sym all) in
    (subst AreLists same lists, record { kept = λ n s e. ap (λ ls. slice_get ls n) all ∙ e })

-- a new cell
module _ (v w : ListsView) (X : Sym) (rest : ℕ) (s : List Sym) (lists : AreLists v) (at : IsList v rest s) (c : Cell) (is : c.symbol ≡ symbol_number X) (below : c.rest ≡ rest)
    (cells : w.cells ≡ v.cells ++ c ∷ []) (all : w.all ≡ v.all ++ (X ∷ s) ∷ []) (absent : Contains v.cells c → ⊥) where
  kept : (n : ℕ) (l : List Sym) → IsList v n l → IsList w n l
  kept n l e = ap (λ ls. slice_get ls n) all ∙ slice_left v.all ((X ∷ s) ∷ []) n l e

  cell_kept : (n : ℕ) (d : Cell) → IsCell v n d → IsCell w n d
  cell_kept n d h = record { top = h.top; rest = h.rest; number = h.number; lower = kept d.rest h.rest h.lower; whole = kept (n + 1) (h.top ∷ h.rest) h.whole }

  pub new_list : IsList w (length v.cells + 1) (X ∷ s)
  new_list = slice_at_last v.all w.all (X ∷ s) (length v.cells + 1) all (sym lists.many)

  new_cell : IsCell w (length v.cells) c
  new_cell = record { top = X; rest = s; number = sym is; lower = kept c.rest s (ap (slice_get v.all) below ∙ at); whole = new_list }

  pub pushed_lists : AreLists w
  pushed_lists = record {
    first = kept 0 [] lists.first;
    many = ap length all ∙ (length-append v.all ((X ∷ s) ∷ []) ∙ (ap (λ n. n + 1) (lists.many ∙ sym (ap length cells ∙ length-append v.cells (c ∷ []))) ∙ refl));
    cells = λ n d e. ⊎_elim
        (λ h. cell_kept n d (lists.cells n d h))
        (λ h. subst (λ k. IsCell w k d) (sym h.0) (subst (IsCell w (length v.cells)) (sym h.1) new_cell))
        (slice_cases v.cells c n d (ap (λ l. slice_get l n) (sym cells) ∙ e));
    apart = λ n m d e f. ⊎_elim
        (λ h. ⊎_elim
        (λ g. lists.apart n m d h g)
        (λ g. absurd (absent (subst (Contains v.cells) g.1 (at_contains v.cells n d h))))
        (slice_cases v.cells c m d (ap (λ l. slice_get l m) (sym cells) ∙ f)))
        (λ h. ⊎_elim
        (λ g. absurd (absent (subst (Contains v.cells) h.1 (at_contains v.cells m d g))))
        (λ g. h.0 ∙ sym g.0)
        (slice_cases v.cells c m d (ap (λ l. slice_get l m) (sym cells) ∙ f)))
        (slice_cases v.cells c n d (ap (λ l. slice_get l n) (sym cells) ∙ e));
  }

  pub pushed_keeps : KeepsLists v w
  pushed_keeps = record { kept = kept }

-- two numbers of one list are the same
-- a number is the empty list's or a cell's
data Which (v : ListsView) (n : ℕ) (s : List Sym) : Type 0 where
  empty : n ≡ 0 → s ≡ [] → Which v n s
  celled : (k : ℕ) (c : Cell) → n ≡ k + 1 → slice_get v.cells k ≡ Some c → (h : IsCell v k c) → s ≡ h.top ∷ h.rest → Which v n s

which : (v : ListsView) (n : ℕ) (s : List Sym) → AreLists v → IsList v n s → Which v n s
which v zero s lists e = empty refl (sym (same_Some [] s (sym lists.first ∙ e)))
which v (suc k) s lists e =
    let within : suc k < length v.all = slice_get_within v.all (suc k) s e in
    let many = lists.many in
    let lt : k < length v.cells = omega (arith, within, many) in
    let c : Cell = get_or v.cells k (record { symbol = 0; rest = 0 }) in
    let there : slice_get v.cells k ≡ Some c = slice_get-get_or v.cells k (record { symbol = 0; rest = 0 }) lt in
    let h : IsCell v k c = lists.cells k c there in
    let up : suc k ≡ k + 1 = omega arith in
    celled k c up there h (same_Some s (h.top ∷ h.rest) (sym e ∙ (ap (slice_get v.all) up ∙ h.whole)))

pub one_number : (v : ListsView) → AreLists v → (s : List Sym) (n m : ℕ) → IsList v n s → IsList v m s → n ≡ m
one_number v lists [] n m a b = by (which v n [] lists a) (which v m [] lists b)
  where
    by : Which v n [] → Which v m [] → n ≡ m
    by (empty e none) (empty f none') = e ∙ sym f
    by (empty e none) (celled k c f there h is) = absurd (nil_cons h.top h.rest is)
    by (celled k c f there h is) w = absurd (nil_cons h.top h.rest is)
one_number v lists (X ∷ s) n m a b = by (which v n (X ∷ s) lists a) (which v m (X ∷ s) lists b) (λ i j p q. one_number v lists s i j p q)
  where
    by : Which v n (X ∷ s) → Which v m (X ∷ s) → ((i j : ℕ) → IsList v i s → IsList v j s → i ≡ j) → n ≡ m
    by (empty e none) w ih = absurd (nil_cons X s (sym none))
    by (celled k c e there h is) (empty f none) ih = absurd (nil_cons X s (sym none))
    by (celled k c e there h is) (celled l d f there' g is') ih =
        let rest : c.rest ≡ d.rest = ih c.rest d.rest (subst (IsList v c.rest) (sym (tail_same X h.top s h.rest is)) h.lower)
        (subst (IsList v d.rest) (sym (tail_same X g.top s g.rest is')) g.lower) in
        let top : c.symbol ≡ d.symbol = sym h.number ∙ (ap symbol_number (sym (head_same X h.top s h.rest is) ∙ head_same X g.top s g.rest is') ∙ g.number) in
        let same : c ≡ d = ap (λ (x : ℕ). let z : Cell = record { symbol = x; rest = c.rest } in z) top ∙ ap (λ (x : ℕ). let z : Cell = record { symbol = d.symbol; rest = x } in z) rest in
        e ∙ (ap (λ x. x + 1) (lists.apart k l d (there ∙ ap Some same) there') ∙ sym f)

-- what a push makes
pub record Pushed (v w : ListsView) (X : Sym) (rest n : ℕ) : Type 0 where
  pub lists : AreLists w
  pub kept : KeepsLists v w
  pub number : IsPushed w X rest n
  pub there : (s : List Sym) × IsList w n s

pub pushed_is_old : (v w : ListsView) (X : Sym) (rest n : ℕ) (c : Cell) → AreLists v → (s : List Sym) × IsList v rest s → w.cells ≡ v.cells → w.all ≡ v.all → slice_get w.cells n ≡ Some c →
    c.symbol ≡ symbol_number X → c.rest ≡ rest → Pushed v w X rest (n + 1)
pushed_is_old v w X rest n c lists there cells all at is below =
    let h : AreLists w × KeepsLists v w = pushed_old v w cells all lists in
    let number : IsPushed w X rest (n + 1) = found_cell w X rest n c h.0 at is below in
    record { lists = h.0; kept = h.1; number = number; there = (X ∷ there.0, number there.0 (h.1.kept rest there.0 there.1)) }

pub pushed_is_new : (v w : ListsView) (X : Sym) (rest n : ℕ) (c : Cell) (l : List Sym) → AreLists v → (s : List Sym) × IsList v rest s → w.cells ≡ v.cells ++ c ∷ [] → w.all ≡ v.all ++ l ∷ [] →
    l ≡ X ∷ slice_index_or v.all rest [] → (Contains v.cells c → ⊥) → slice_get w.cells n ≡ Some c → c.symbol ≡ symbol_number X → c.rest ≡ rest → Pushed v w X rest (n + 1)
pushed_is_new v w X rest n c l lists there cells all long absent at is below =
    let s : List Sym = there.0 in
    let same : l ≡ X ∷ s = long ∙ ap (λ k. X ∷ k) (get_or_from_slice_get v.all rest s [] there.1) in
    let all' : w.all ≡ v.all ++ (X ∷ s) ∷ [] = all ∙ ap (λ (k : List Sym). v.all ++ k ∷ []) same in
    let last : n ≡ length v.cells = ⊎_elim (λ h. absurd (absent (at_contains v.cells n c h))) (λ h. h.0) (slice_cases v.cells c n c (ap (λ k. slice_get k n) (sym cells) ∙ at)) in
    let kept : KeepsLists v w = pushed_keeps v w X rest s lists there.1 c is below cells all' absent in
    let new : IsList w (n + 1) (X ∷ s) = subst (λ k. IsList w (k + 1) (X ∷ s)) (sym last) (new_list v w X rest s lists there.1 c is below cells all' absent) in
    record {
      lists = pushed_lists v w X rest s lists there.1 c is below cells all' absent;
      kept = kept;
      number = λ u e. new ∙ ap Some (ap (λ k. X ∷ k) (same_Some s u (sym (kept.kept rest s there.1) ∙ e)));
      there = (X ∷ s, new);
    }

-- Samples whose kids have lower numbers.
use Rattle.std.proofs.Common.{◌≡◌, ◌↔◌, ℕ, ◌+◌, ◌<◌, List, [], Some, Bool, true, false, All, Contains, length, get_or, slice_get, refl, sym, ap, ◌∙◌, subst, arith, true≢false}
use Rattle.std.specs.Bool.{MatchBool}
use Rattle.std.specs.List.{AllWithin, HoldsAt, enumerate_from}
use Rattle.std.proofs.lemmas.List.Elements.{All-contains, All-from_get_or, Contains-get_or}
use Rattle.std.proofs.lemmas.List.FromFn.{length-enumerate_from, get_or-enumerate_from}
use Rattle.std.proofs.lemmas.Option.{slice_get-get_or, get_or_from_slice_get, slice_get_within}
use Rattle.tree_core.specs.declared.token.Tok.TheVariants as tok
use Rattle.lr_check.specs.Tree.{Node, IsSample}

-- a number, and a node whose kids have lower numbers
abbrev pub IsAbove : ℕ × Node → Type 0
IsAbove p = All (λ (k : ℕ). k < p.0) p.1.kids

abbrev pub NotAbove : ℕ × Node → Type 0
NotAbove p = IsAbove p → ⊥

abbrev pub AreAbove : List Node → Type 0
AreAbove nodes = AllWithin IsAbove (enumerate_from 0 nodes) 0 (length (enumerate_from 0 nodes))

abbrev pub OneIsNot : List Node → Type 0
OneIsNot nodes = (n : ℕ) × (n < length (enumerate_from 0 nodes)) × HoldsAt NotAbove (enumerate_from 0 nodes) n

nothing : Node
nothing = record { tok = tok.End; kids = []; answers = [] }

pair_is : (nodes : List Node) (n : ℕ) (d v : Node) → n < length nodes → get_or nodes n d ≡ v → get_or (enumerate_from 0 nodes) n (n, d) ≡ (n, v)
pair_is nodes n d v lt e =
    let zero_plus : 0 + n ≡ n = omega arith in
    get_or-enumerate_from 0 nodes n (n, d) lt ∙ (ap (λ (m : ℕ). (m, get_or nodes n d)) zero_plus ∙ ap (λ (x : Node). (n, x)) e)

lower : (nodes : List Node) → AreAbove nodes → (n k : ℕ) (v : Node) → slice_get nodes n ≡ Some v → Contains v.kids k → k < n
lower nodes all n k v there c =
    let lt : n < length nodes = slice_get_within nodes n v there in
    let within : n < length (enumerate_from 0 nodes) = omega (arith, lt, length-enumerate_from 0 nodes) in
    let above : All (λ (j : ℕ). j < n) v.kids = subst IsAbove (pair_is nodes n v v lt (get_or_from_slice_get nodes n v v there)) (all n (n, v) (omega arith) within) in
    All-contains (λ (j : ℕ). j < n) v.kids k above c

not_lower : (nodes : List Node) → IsSample nodes → OneIsNot nodes → ⊥
not_lower nodes s h =
    let within = h.1 in
    let lt : h.0 < length nodes = omega (arith, within, length-enumerate_from 0 nodes) in
    let v : Node = get_or nodes h.0 nothing in
    let here : slice_get nodes h.0 ≡ Some v = slice_get-get_or nodes h.0 nothing lt in
    let above : IsAbove (h.0, v) = All-from_get_or (λ (k : ℕ). k < h.0) v.kids 0 (λ i l. s.lower h.0 (get_or v.kids i 0) v here (Contains-get_or v.kids i 0 l)) in
    h.2 (h.0, nothing) (subst IsAbove (sym (pair_is nodes h.0 nothing v lt refl)) above)

pub numbered : (nodes : List Node) (b : Bool) → 0 < length nodes → MatchBool b (AreAbove nodes) (OneIsNot nodes) → (b ≡ true) ↔ IsSample nodes
numbered nodes true some h = ((λ e. record { some = some; lower = lower nodes h }), (λ s. refl))
numbered nodes false some h = ((λ e. absurd (true≢false (sym e))), (λ s. absurd (not_lower nodes s h)))

-- A place that is read and then assigned to, put together piece by piece.
use Rattle.std.proofs.Common.{◌≡◌, ℕ, suc, List, [], ◌∷◌, ◌++◌, Bool, not, append_assoc}
use Rattle.c_lower_scheme.specs.Trees.{Tree, Item, Loc, AssignLoc}
use Rattle.c_lower_scheme.specs.Parts.{Lowered, Located, Where, is_nil}
use Rattle.c_lower_scheme.specs.Saving.{saving, saved, next_if}
use Rattle.c_lower_scheme.specs.Places.{holding, held, read_from, assign_to}
use Rattle.c_lower_scheme.specs.Assignments.{must_keep, update_ready, postfix}

pub updated : (l f : ℕ) (g : Tree → Tree → Tree) (p : Located) (q : Lowered) (b c : Bool) (n m : ℕ) (s s' : Where) (rd old val : Tree) (first second all : List Item)
    → b ≡ must_keep l f q.items p.place
    → c ≡ not (is_nil q.items)
    → n ≡ next_if b q.temps
    → m ≡ next_if c n
    → s ≡ held b q.temps p.place
    → first ≡ p.items ++ holding b q.temps p.place
    → s' ≡ s
    → rd ≡ read_from p.type s'
    → old ≡ saved c n rd
    → second ≡ first ++ saving c n rd
    → all ≡ second ++ q.items
    → val ≡ g old q.tree
    → record { items = all; type = p.type; place = s; value = val; temps = m; labels = q.labels } ≡ update_ready l f g p q
updated l f g p q b c n m s s' rd old val first second all is_b is_c is_n is_m is_s is_first is_s' is_rd is_old is_second is_all is_val =
    let one = append_assoc first (saving c n rd) q.items in
    let two = append_assoc p.items (holding b q.temps p.place) (saving c n rd ++ q.items) in
    cc

pub stepped : (l f : ℕ) (g : Tree → Tree) (p : Located) (b : Bool) (n m : ℕ) (s s' : Where) (rd new w : Tree) (put : Item) (first second all : List Item)
    → b ≡ must_keep l f [] p.place
    → n ≡ next_if b p.temps
    → m ≡ suc n
    → s ≡ held b p.temps p.place
    → first ≡ p.items ++ holding b p.temps p.place
    → s' ≡ s
    → rd ≡ read_from p.type s'
    → second ≡ first ++ (AssignLoc n rd ∷ [])
    → new ≡ g (Loc n)
    → put ≡ assign_to p.type s new
    → all ≡ second ++ (put ∷ [])
    → w ≡ Loc n
    → record { items = all; tree = w; temps = m; labels = p.labels } ≡ postfix l f g p
stepped l f g p b n m s s' rd new w put first second all is_b is_n is_m is_s is_first is_s' is_rd is_second is_new is_put is_all is_w =
    let one = append_assoc first (AssignLoc n rd ∷ []) (put ∷ []) in
    let two = append_assoc p.items (holding b p.temps p.place) (AssignLoc n rd ∷ put ∷ []) in
    cc

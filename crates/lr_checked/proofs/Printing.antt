-- Lines of nodes, one after another.
use Rattle.std.proofs.Common.{◌≡◌, ℕ, ◌+◌, ◌≤◌, ◌<◌, List, ◌++◌, length, get_or, drop, sym, ap, ◌∙◌, append_assoc, append-nil}
use Rattle.std.proofs.lemmas.List.{drop_all}
use Rattle.gg_base.proofs.Facts.{front_is}
use Rattle.lr_check.specs.Tree.{Node}
use Rattle.lr_checked.specs.Lines.{node_line, lines_from}

pub lines_turn : (vs : List Node) (n : ℕ) (v : Node) (a b whole : List ℕ) → a ++ lines_from n (drop n vs) ≡ whole → n < length vs → v ≡ get_or vs n v → b ≡ a ++ node_line n v →
    b ++ lines_from (n + 1) (drop (n + 1) vs) ≡ whole
lines_turn vs n v a b whole e lt is put =
    let cons = front_is vs n v lt is in
    ap (λ (l : List ℕ). l ++ lines_from (n + 1) (drop (n + 1) vs)) put ∙
    (append_assoc a (node_line n v) (lines_from (n + 1) (drop (n + 1) vs)) ∙ (ap (λ (l : List Node). a ++ lines_from n l) (sym cons) ∙ e))

pub lines_all : (vs : List Node) (n : ℕ) (a whole : List ℕ) → a ++ lines_from n (drop n vs) ≡ whole → length vs ≤ n → a ≡ whole
lines_all vs n a whole e le =
    sym (append-nil a) ∙ (ap (λ (l : List Node). a ++ lines_from n l) (sym (drop_all n vs le)) ∙ e)

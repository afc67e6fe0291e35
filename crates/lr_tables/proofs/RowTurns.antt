-- One turn of each loop that makes a row.
use Rattle.std.proofs.Common.{◌≡◌, ℕ, ◌+◌, ◌≤◌, ◌<◌, List, [], ◌∷◌, ◌++◌, Option, None, Bool, length, get_or, map, take, refl, sym, ap, ap₂, ◌∙◌, arith}
use Rattle.std.specs.Prelude.{Vec}
use Rattle.std.specs.declared.alloc.Global.{Global}
use Rattle.std.proofs.lemmas.List.{take_more, take_all, map_push, length-map}
use Rattle.std.proofs.lemmas.List.FromFn.{map-range_with_len_more, length-map-range_with_len}
use Rattle.md_reader.specs.declared.types.Rule.{Rule}
use Rattle.lr_tables.specs.declared.item.Item.{Item}
use Rattle.lr_tables.specs.declared.types.Choice.{Choice}
use Rattle.lr_tables.specs.Sets.{chains, item_set, moved}
use Rattle.lr_tables.specs.View.{RowView}
use Rattle.lr_tables.specs.Looking.{follows}
use Rattle.lr_tables.specs.Numbering.{kernels, found}
use Rattle.lr_tables.specs.Built.{IsRows}
use Rattle.lr_tables.specs.Rows.{target_of, targets_of, cell, reductions, actions_of, all_follows, row_of}

pub targets_none : (rules : List Rule) (stmt : ℕ) (items : List Item) (ks : List (List Item)) → [] ≡ targets_of rules stmt items ks 0
unfolding targets_of
targets_none rules stmt items ks = refl

pub targets_turn : (rules : List Rule) (stmt : ℕ) (items : List Item) (ks : List (List Item)) (n : ℕ) (ts : List (Option ℕ)) (t : Option ℕ) (k : List Item) → ts
    ≡ targets_of rules stmt items ks n → k ≡ moved rules stmt n items → t ≡ target_of ks k → ts ++ t ∷ [] ≡ targets_of rules stmt items ks (n + 1)
unfolding targets_of
targets_turn rules stmt items ks n ts t k e f h =
    ap₂ (λ (x : List (Option ℕ)) (y : Option ℕ). x ++ y ∷ []) e (h ∙ ap (target_of ks) f) ∙ sym (map-range_with_len_more (λ (m : ℕ). target_of ks (moved rules stmt m items)) 0 n n (omega arith))

pub length-targets : (rules : List Rule) (stmt : ℕ) (items : List Item) (ks : List (List Item)) (n : ℕ) → length (targets_of rules stmt items ks n) ≡ n
unfolding targets_of
length-targets rules stmt items ks n = length-map-range_with_len (λ (m : ℕ). target_of ks (moved rules stmt m items)) 0 n

pub actions_none : (rules : List Rule) (fs : List (List Bool)) (kernel : List Item) (ts : List (Option ℕ)) → [] ≡ actions_of rules fs kernel ts 0
unfolding actions_of
actions_none rules fs kernel ts = refl

pub actions_turn : (rules : List Rule) (fs : List (List Bool)) (kernel : List Item) (ts : List (Option ℕ)) (n : ℕ) (done : List (List Choice)) (cs : List Choice) → done
    ≡ actions_of rules fs kernel ts n → cs ≡ cell n (get_or ts n None) (reductions rules (get_or fs n []) kernel) → done ++ cs ∷ [] ≡ actions_of rules fs kernel ts (n + 1)
unfolding actions_of
actions_turn rules fs kernel ts n done cs e f =
    ap₂ (λ (x : List (List Choice)) (y : List Choice). x ++ y ∷ []) e f
    ∙ sym (map-range_with_len_more (λ (t : ℕ). cell t (get_or ts t None) (reductions rules (get_or fs t []) kernel)) 0 n n (omega arith))

pub length-actions : (rules : List Rule) (fs : List (List Bool)) (kernel : List Item) (ts : List (Option ℕ)) (n : ℕ) → length (actions_of rules fs kernel ts n) ≡ n
unfolding actions_of
length-actions rules fs kernel ts n = length-map-range_with_len (λ (t : ℕ). cell t (get_or ts t None) (reductions rules (get_or fs t []) kernel)) 0 n

pub length-follows : (rules : List Rule) (stmt classes : ℕ) → length (all_follows rules stmt classes 40) ≡ 40
unfolding all_follows
length-follows rules stmt classes = length-map-range_with_len (follows rules stmt classes) 0 40

pub row_is : (rules : List Rule) (stmt classes : ℕ) (ks : List (List Item)) (kernel items : List Item) (fs : List (List Bool)) (ts : List (Option ℕ)) (acts : List (List Choice)) → items
    ≡ item_set rules stmt classes (chains rules) kernel → fs ≡ all_follows rules stmt classes 40 → ts ≡ targets_of rules stmt items ks (40 + classes) → acts
    ≡ actions_of rules fs kernel ts 40 → record { targets = ts; actions = acts } ≡ row_of rules stmt classes ks kernel
unfolding row_of
row_is rules stmt classes ks kernel items fs ts acts e f h k =
    let t : ts ≡ targets_of rules stmt (item_set rules stmt classes (chains rules) kernel) ks (40 + classes) = h ∙ ap (λ (x : List Item). targets_of rules stmt x ks (40 + classes)) e in
    let a : acts ≡ actions_of rules (all_follows rules stmt classes 40) kernel (targets_of rules stmt (item_set rules stmt classes (chains rules) kernel) ks (40 + classes)) 40 = k
    ∙ ap₂ (λ (x : List (List Bool)) (y : List (Option ℕ)). actions_of rules x kernel y 40) f t in
    λ i. record { targets = t i; actions = a i }

pub follows_none : (rules : List Rule) (stmt classes : ℕ) → [] ≡ all_follows rules stmt classes 0
unfolding all_follows
follows_none rules stmt classes = refl

pub follows_turn : (rules : List Rule) (stmt classes n : ℕ) (fs : List (List Bool)) (f : List Bool) → fs ≡ all_follows rules stmt classes n → f ≡ follows rules stmt classes n → fs
    ++ f ∷ [] ≡ all_follows rules stmt classes (n + 1)
unfolding all_follows
follows_turn rules stmt classes n fs f e g =
    ap₂ (λ (x : List (List Bool)) (y : List Bool). x ++ y ∷ []) e g ∙ sym (map-range_with_len_more (follows rules stmt classes) 0 n n (omega arith))

-- one more row
pub rows_turn : (F : List Item → RowView) (keys : List (Vec Item Global)) (n : ℕ) (v : Vec Item Global) (rows : List RowView) (row : RowView) (k : List Item) → n < length keys → v
    ≡ get_or keys n v → rows ≡ map F (kernels (take n keys)) → k ≡ v.items → row ≡ F k → rows ++ row ∷ [] ≡ map F (kernels (take (n + 1) keys))
rows_turn F keys n v rows row k lt e h f g =
    ap₂ (λ (x : List RowView) (y : RowView). x ++ y ∷ []) h (g ∙ ap F (f ∙ ap (λ (w : Vec Item Global). w.items) e))
    ∙ sym (ap (λ (x : List (Vec Item Global)). map F (kernels x)) (take_more keys n v lt)
    ∙ (ap (map F) (map_push (λ (w : Vec Item Global). w.items) (take n keys) (get_or keys n v)) ∙ map_push F (kernels (take n keys)) (get_or keys n v).items))

pub rows_done : (F : List Item → RowView) (keys items : List (Vec Item Global)) (n : ℕ) (rows : List RowView) → rows ≡ map F (kernels (take n items)) → length items ≤ n → items ≡ keys
    → rows ≡ map F (kernels keys)
rows_done F keys items n rows h le e = h ∙ ap (λ (x : List (Vec Item Global)). map F (kernels x)) (take_all n items le ∙ e)

pub rows_all : (rules : List Rule) (stmt classes : ℕ) (keys : List (Vec Item Global)) (rows : List RowView) → length keys ≤ 4096 → kernels keys ≡ found rules stmt classes (length keys)
    → rows ≡ map (row_of rules stmt classes (kernels keys)) (kernels keys) → IsRows rules stmt classes rows
rows_all rules stmt classes keys rows le e h =
    let F = row_of rules stmt classes (kernels keys) in
    let r : rows ≡ map F (kernels keys) = h in
    let len : length rows ≡ length keys = ap (λ (x : List RowView). length x) r ∙ (length-map (kernels keys) F ∙ length-map keys (λ (w : Vec Item Global). w.items)) in
    let k : kernels keys ≡ found rules stmt classes (length rows) = e ∙ ap (found rules stmt classes) (sym len) in
    record {
      few = omega (arith, len, le);
      many = sym (ap (λ (x : List (List Item)). length x) k) ∙ (length-map keys (λ (w : Vec Item Global). w.items) ∙ sym len);
      each = r ∙ ap (λ (x : List (List Item)). map (row_of rules stmt classes x) x) k;
    }

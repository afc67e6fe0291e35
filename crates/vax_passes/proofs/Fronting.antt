-- What comes next in front of some items: one item more.
use Rattle.std.proofs.Common.{◌≡◌, ℕ, Bool, true, false, cond, List, [], ◌∷◌, ◌++◌, Option, Some, None, refl, sym, ap, ◌∙◌}
use Rattle.std.specs.Prelude.{◌||◌, ◌&&◌, not}
use Rattle.std.specs.List.{list_any}
use Rattle.std.specs.Str.{bytes_eq}
use Rattle.std.specs.Global.{Vec}
use Rattle.std.proofs.lemmas.List.Folds.{list_any-append}
use Rattle.std.proofs.lemmas.Slice.Eq.{bytes_eq-Decides}
use Rattle.indexmap.specs.IndexSet.{insert_key}
use Rattle.gg_base.proofs.Facts.{same_bool}
use Rattle.vax_core.specs.declared.code.Instr.{Instr}
use Rattle.vax_core.specs.declared.code.CodeItem.{CodeItem}
use Rattle.vax_core.specs.declared.code.CodeItem.TheVariants as item_kind
use Rattle.vax_passes.specs.declared.front.Front.{Front}
use Rattle.vax_passes.specs.Jumps.{leads_to, mask_next}
use Rattle.vax_passes.specs.Dropping.{is_jump, leads_by, is_next_jump}
use Rattle.vax_passes.specs.Fronts.{has_label, IsFront, jumps_to}
use Rattle.vax_passes.specs.Fronts.{leads_by as front_leads}

-- ---- a set of names after one more is put into it

either_way : (a b : List ℕ) → bytes_eq a b ≡ bytes_eq b a
either_way a b = same_bool _ _ (λ e. (bytes_eq-Decides b a).1 (sym ((bytes_eq-Decides a b).0 e))) (λ e. (bytes_eq-Decides a b).1 (sym ((bytes_eq-Decides b a).0 e)))

turned : (a b : Bool) → (a || (b || false)) ≡ (b || a)
turned true true = refl
turned true false = refl
turned false true = refl
turned false false = refl

module _ (k : Vec ℕ) (ks : List (Vec ℕ)) (other : List ℕ) where
  abbrev holds : List ℕ → Bool
  holds name = list_any (λ (j : Vec ℕ). bytes_eq name j.items) ks

  held : holds k.items ≡ true → (b : Bool) → bytes_eq k.items other ≡ b → holds other ≡ (b || holds other)
  held e true is = sym (ap holds ((bytes_eq-Decides k.items other).0 is)) ∙ e
  held e false is = refl

  added_by : (b : Bool) → holds k.items ≡ b → list_any (λ (j : Vec ℕ). bytes_eq other j.items) (cond b ks (ks ++ k ∷ [])) ≡ (bytes_eq k.items other || holds other)
  added_by true e = held e (bytes_eq k.items other) refl
  added_by false e =
      list_any-append (λ (j : Vec ℕ). bytes_eq other j.items) ks (k ∷ [])
      ∙ turned (holds other) (bytes_eq other k.items)
      ∙ ap (λ (b : Bool). b || holds other) (either_way other k.items)

  pub added : list_any (λ (j : Vec ℕ). bytes_eq other j.items) (insert_key (λ (a b : Vec ℕ). bytes_eq a.items b.items) ks k) ≡ (bytes_eq k.items other || holds other)
  added = added_by (holds k.items) refl

-- ---- one item more

pub label_in_front : (old new : Front) (n : List ℕ) (items : List CodeItem) → ((other : List ℕ) → has_label new other ≡ (bytes_eq n other || has_label old other)) → new.is_mask ≡ old.is_mask
    → IsFront old items → IsFront new (item_kind.Label n ∷ items)
label_in_front old new n items labels mask h = record { labels = λ name. labels name ∙ ap (λ (b : Bool). bytes_eq n name || b) (h.labels name); mask = mask ∙ h.mask }

pub globl_in_front : (f : Front) (n : List ℕ) (items : List CodeItem) → IsFront f items → IsFront f (item_kind.Globl n ∷ items)
globl_in_front f n items h = record { labels = h.labels; mask = h.mask }

pub mask_in_front : (new : Front) (m : ℕ) (items : List CodeItem) → ((name : List ℕ) → has_label new name ≡ false) → new.is_mask ≡ true → IsFront new (item_kind.Mask m ∷ items)
mask_in_front new m items none mask = record { labels = none; mask = mask }

pub instr_in_front : (new : Front) (i : Instr) (items : List CodeItem) → ((name : List ℕ) → has_label new name ≡ false) → new.is_mask ≡ false → IsFront new (item_kind.Instr i ∷ items)
instr_in_front new i items none mask = record { labels = none; mask = mask }

pub no_items : (new : Front) → ((name : List ℕ) → has_label new name ≡ false) → new.is_mask ≡ false → IsFront new []
no_items new none mask = record { labels = none; mask = mask }

-- ---- a jump to what comes next anyway

leads_same : (f : Front) (t : Option (List ℕ)) (items : List CodeItem) → IsFront f items → front_leads f t ≡ (leads_by t items && not (mask_next items))
leads_same f None items h = refl
leads_same f (Some name) items h =
    ap (λ (b : Bool). b && not f.is_mask) (h.labels name) ∙ ap (λ (b : Bool). leads_to name items && not b) h.mask

pub jumps_same : (x : CodeItem) (f : Front) (items : List CodeItem) → IsFront f items → jumps_to x f ≡ is_next_jump x items
jumps_same (item_kind.Label n) f items h = refl
jumps_same (item_kind.Globl n) f items h = refl
jumps_same (item_kind.Mask m) f items h = refl
jumps_same (item_kind.Instr i) f items h = ap (λ (b : Bool). is_jump i.op && b) (leads_same f i.target items h)

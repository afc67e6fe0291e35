-- The scene in which a line saves: one symbol, and the slot for `%0`.
use Rattle.std.proofs.Common.{◌≡◌, ℕ, zero, suc, ◌-◌, ◌*◌, ◌%◌, ◌^◌, ◌<◌, true, cond, Option, Some, None, List, [], ◌∷◌, refl, sym, ap, subst, ◌∙◌, arith}
use Rattle.std.proofs.Common.{slice_get, option_map}
use Rattle.std.specs.Prelude.{is_none, unwrap_or}
use Rattle.gg_base.proofs.Facts.{first_true, not_zero, one_less, none_is}
use Rattle.gg_base.specs.declared.size.Size.{Size}
use Rattle.gg_base.specs.declared.size.Size.TheVariants.{Long}
use Rattle.gg_base.specs.Sizes.{bytes_of}
use Rattle.gg_base.proofs.Words.{is_long}
use Rattle.tree_core.specs.declared.program.TreeProgram.{TreeProgram}
use Rattle.vax_target_spelling.specs.tree_meaning.specs.State.{Extent}
use Rattle.vax_target_spelling.specs.md_reader.specs.declared.types.Kind.{Kind}
use Rattle.vax_target_spelling.specs.md_reader.specs.declared.types.Kind.TheVariants as kind
use Rattle.term_core.specs.Shape.{Symbol}
use Rattle.vax_target_spelling.specs.sel_target.specs.declared.attr.Attr.{Attr}
use Rattle.vax_target_spelling.specs.sel_target.specs.declared.attr.Attr.TheVariants as attr
use Rattle.vax_target_spelling.specs.sel_target.specs.Values.{View, value, worth}
use Rattle.vax_target_spelling.specs.sel_target.specs.SavingLaws.{IsValue, operand, register}
use Rattle.vax_core.specs.declared.operand.Operand.{Operand}
use Rattle.vax_machine.specs.State.{State}
use Rattle.vax_target_spelling.specs.vax_templates.specs.declared.setting.Hole.TheVariants as hole_kind
use Rattle.vax_target_spelling.specs.vax_templates.specs.Settings.{hole_or_other, hole_at, saved_hole, saved_setting}
use Rattle.vax_target_spelling.specs.vax_templates.specs.Filled.{attr_at}
use Rattle.vax_target_spelling.specs.vax_target_meaning.specs.Fitting.{fits, is_place}
use Rattle.vax_target_spelling.specs.vax_target_meaning.specs.Reading.{named, moved, names}
use Rattle.vax_target_spelling.specs.vax_target_meaning.specs.Vax.{vax}
use Rattle.vax_target_runs.specs.vax_target_operands.specs.Scenes.{Scene, Means, OwnIs, Sees}

-- the scene of a line that saves what is of a kind, or reloads
abbrev pub scene : TreeProgram → Kind → Attr Operand → Attr Operand → View → Scene
scene q k a res v = record { program = q; setting = saved_setting k; roles = saved_hole k ∷ []; holes = a ∷ []; own = res; view = v }

-- one symbol means what its hole stands for
module _ (q : TreeProgram) (k : Kind) (a res : Attr Operand) (v : View) (m : State) (h : Means (scene q k a res v) m (saved_hole k) 1 a) where
  abbrev the : Scene
  the = scene q k a res v

  role_is : (j : ℕ) → hole_at (saved_hole k ∷ []) (suc j) ≡ hole_or_other (slice_get (saved_hole k ∷ []) j)
  role_is j =
      ap (λ b. cond b hole_kind.Other (hole_or_other (slice_get (saved_hole k ∷ []) (suc j - 1)))) (not_zero j)
      ∙ ap (λ n. hole_or_other (slice_get (saved_hole k ∷ []) n)) (one_less j)

  filling_is : (j : ℕ) → attr_at (a ∷ []) res (suc j) ≡ unwrap_or (slice_get (a ∷ []) j) res
  filling_is j =
      ap (λ b. cond b res (unwrap_or (slice_get (a ∷ []) (suc j - 1)) res)) (not_zero j)
      ∙ ap (λ n. unwrap_or (slice_get (a ∷ []) n) res) (one_less j)

  means : (i : ℕ) → Means the m (hole_at (saved_hole k ∷ []) i) i (attr_at (a ∷ []) res i)
  means zero = tt
  means (suc zero) =
      subst (λ x. Means the m x 1 (attr_at (a ∷ []) res 1)) (sym (role_is 0)) (subst (Means the m (saved_hole k) 1) (sym (filling_is 0)) h)
  means (suc (suc j)) = subst (λ x. Means the m x (suc (suc j)) (attr_at (a ∷ []) res (suc (suc j)))) (sym (role_is (suc j))) tt

  pub sees : (f : Extent) (fs : List Extent) → vax.agrees q f fs v.state m → OwnIs the (saved_setting k).own → Sees the None m
  sees f fs agrees is = record {
    sound = agrees.sound;
    area = agrees.area;
    means = λ i e. means i;
    own_is = is;
    holds = tt;
    answered = λ e none. absurd (cc);
  }

-- the symbol's number
pub symbol_is : (v : View) (n : ℕ) → v.symbol 1 ≡ Some n → n < 2 ^ 32 → value v (Symbol 1) ≡ n
symbol_is v n known lt = ap (λ (o : Option ℕ). unwrap_or o 0 % 2 ^ 32) known ∙ (let e : n % 2 ^ 32 ≡ n = omega (arith, lt) in e)

-- ---- what is saved

pub value_means : (q : TreeProgram) (size : Size) (a res : Attr Operand) (n : ℕ) (v : View) (m : State) → IsValue vax size a → v.symbol 1 ≡ Some n →
    worth vax q size a m ≡ Some n → n < 2 ^ (8 * bytes_of size) → Means (scene q (kind.Value size) a res v) m (hole_kind.Value size) 1 a
value_means q size a res n v m (operand o fit) known e lt = e ∙ ap Some (sym (symbol_is v n known (is_long size n lt)))
value_means q size a res n v m (register r long below) known e lt = e ∙ ap Some (sym (symbol_is v n known (is_long size n lt)))

pub place_means : (q : TreeProgram) (size : Size) (o : Operand) (res : Attr Operand) (n : ℕ) (v : View) (m : State) → v.symbol 1 ≡ Some n →
    names o size m ≡ Some n → n < 2 ^ 32 → Means (scene q (kind.Place size) (attr.Place o) res v) m (hole_kind.SavedPlace size) 1 (attr.Place o)
place_means q size o res n v m known e lt = e ∙ ap Some (sym (symbol_is v n known lt))

without : (o : Operand) (size : Size) (m : State) (n : ℕ) → o.index ≡ None → names o size m ≡ Some n → named m o.base ≡ Some n
without o size m n plain e = same (named m o.base) ∙ (ap (λ i. option_map (moved m i size) (named m o.base)) (sym plain) ∙ e) where
  same : (x : Option ℕ) → x ≡ option_map (λ y. y) x
  same None = refl
  same (Some y) = refl

pub address_means : (q : TreeProgram) (o : Operand) (res : Attr Operand) (n : ℕ) (v : View) (m : State) → fits kind.Ea o ≡ true → v.symbol 1 ≡ Some n →
    names o Long m ≡ Some n → n < 2 ^ 32 → Means (scene q kind.Ea (attr.Ea o) res v) m hole_kind.Address 1 (attr.Ea o)
address_means q o res n v m fit known e lt =
    let plain = none_is o.index (first_true (is_none o.index) (is_place o) fit) in
    record { plain = plain; named_so = without o Long m n plain e ∙ ap Some (sym (symbol_is v n known lt)) }

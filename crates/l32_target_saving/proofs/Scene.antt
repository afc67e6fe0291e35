-- The scene in which a line saves: one symbol, and the slot for `%0`.
use Rattle.std.proofs.Common.{◌≡◌, ℕ, zero, suc, ◌-◌, ◌*◌, ◌%◌, ◌^◌, ◌<◌, cond, Option, Some, None, List, [], ◌∷◌, sym, ap, subst, ◌∙◌, arith, slice_get}
use Rattle.std.specs.Prelude.{unwrap_or}
use Rattle.gg_base.specs.declared.size.Size.{Size}
use Rattle.gg_base.specs.Sizes.{bytes_of}
use Rattle.gg_base.proofs.Facts.{not_zero, one_less}
use Rattle.gg_base.proofs.Words.{is_long}
use Rattle.l32_target_rules.specs.vax_target_meaning.specs.tree_core.specs.declared.program.TreeProgram.{TreeProgram}
use Rattle.l32_target_rules.specs.vax_target_meaning.specs.tree_meaning.specs.State.{Extent}
use Rattle.l32_target_rules.specs.judging_laws.specs.md_reader.specs.declared.types.Kind.{Kind}
use Rattle.l32_target_rules.specs.judging_laws.specs.md_reader.specs.declared.types.Kind.TheVariants as kind
use Rattle.l32_target_rules.specs.judging_laws.specs.term_core.specs.Shape.{Symbol}
use Rattle.l32_target_rules.specs.judging_laws.specs.sel_target.specs.declared.attr.Attr.{Attr}
use Rattle.l32_target_rules.specs.judging_laws.specs.sel_target.specs.Values.{View, value, worth}
use Rattle.l32_target_rules.specs.judging_laws.specs.sel_target.specs.SavingLaws.{IsValue, operand, register}
use Rattle.l32_target_rules.specs.judging_laws.specs.vax_templates.specs.declared.setting.Hole.TheVariants as hole_kind
use Rattle.l32_target_rules.specs.judging_laws.specs.vax_templates.specs.Settings.{saved_hole, saved_setting, hole_at, hole_or_other}
use Rattle.l32_target_rules.specs.l32_templates.specs.l32_core.specs.declared.operand.Operand32.{Operand32}
use Rattle.l32_target_rules.specs.l32_templates.specs.l32_machine.specs.State.{State}
use Rattle.l32_target_rules.specs.l32_templates.specs.Filled.{attr_at}
use Rattle.l32_target_rules.specs.l32_target_meaning.specs.L32.{l32}
use Rattle.l32_target_rules.specs.l32_target_operands.specs.Scenes.{Scene, Means, OwnIs, Sees}

-- the scene of a line that saves what is of a kind, or reloads
abbrev pub scene : TreeProgram → Kind → Attr Operand32 → Attr Operand32 → View → Scene
scene q k a res v = record { program = q; setting = saved_setting k; roles = saved_hole k ∷ []; holes = a ∷ []; own = res; view = v }

-- one hole's role and filling
pub role_is : (k : Kind) (j : ℕ) → hole_at (saved_hole k ∷ []) (suc j) ≡ hole_or_other (slice_get (saved_hole k ∷ []) j)
role_is k j =
    ap (λ b. cond b hole_kind.Other (hole_or_other (slice_get (saved_hole k ∷ []) (suc j - 1)))) (not_zero j)
    ∙ ap (λ n. hole_or_other (slice_get (saved_hole k ∷ []) n)) (one_less j)

pub filling_is : (a res : Attr Operand32) (j : ℕ) → attr_at (a ∷ []) res (suc j) ≡ unwrap_or (slice_get (a ∷ []) j) res
filling_is a res j =
    ap (λ b. cond b res (unwrap_or (slice_get (a ∷ []) (suc j - 1)) res)) (not_zero j)
    ∙ ap (λ n. unwrap_or (slice_get (a ∷ []) n) res) (one_less j)

-- one symbol means what its hole stands for
module _ (q : TreeProgram) (k : Kind) (a res : Attr Operand32) (v : View) (m : State) (h : Means (scene q k a res v) m (saved_hole k) 1 a) where
  abbrev the : Scene
  the = scene q k a res v

  means : (i : ℕ) → Means the m (hole_at (saved_hole k ∷ []) i) i (attr_at (a ∷ []) res i)
  means zero = tt
  means (suc zero) =
      subst (λ x. Means the m x 1 (attr_at (a ∷ []) res 1)) (sym (role_is k 0)) (subst (Means the m (saved_hole k) 1) (sym (filling_is a res 0)) h)
  means (suc (suc j)) = subst (λ x. Means the m x (suc (suc j)) (attr_at (a ∷ []) res (suc (suc j)))) (sym (role_is k (suc j))) tt

  pub sees : (f : Extent) (fs : List Extent) → l32.agrees q f fs v.state m → OwnIs the (saved_setting k).own → Sees the None m
  sees f fs agrees is = record {
    sound = agrees.sound;
    area = agrees.area;
    means = λ i e. means i;
    own_is = is;
    holds = tt;
    answered = λ e none. absurd (cc);
  }

-- the symbol's number
pub symbol_is : (v : View) (n : ℕ) → v.symbol 1 ≡ Some n → n < 2 ^ 32 → value v (Symbol 1) ≡ n
symbol_is v n known lt = ap (λ (o : Option ℕ). unwrap_or o 0 % 2 ^ 32) known ∙ (let e : n % 2 ^ 32 ≡ n = omega (arith, lt) in e)

-- ---- what is saved

pub value_means : (q : TreeProgram) (size : Size) (a res : Attr Operand32) (n : ℕ) (v : View) (m : State) → IsValue l32 size a → v.symbol 1 ≡ Some n →
    worth l32 q size a m ≡ Some n → n < 2 ^ (8 * bytes_of size) → Means (scene q (kind.Value size) a res v) m (hole_kind.Value size) 1 a
value_means q size a res n v m (operand o fit) known e lt = e ∙ ap Some (sym (symbol_is v n known (is_long size n lt)))
value_means q size a res n v m (register r long below) known e lt = e ∙ ap Some (sym (symbol_is v n known (is_long size n lt)))

pub name_means : (v : View) (o : Option ℕ) (n : ℕ) → v.symbol 1 ≡ Some n → o ≡ Some n → n < 2 ^ 32 → o ≡ Some (value v (Symbol 1))
name_means v o n known e lt = e ∙ ap Some (sym (symbol_is v n known lt))

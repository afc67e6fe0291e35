-- The code that is selected of a function's trees, one after another.
use Rattle.std.proofs.Common.{◌≡◌, ℕ, suc, ◌≤◌, max, List, [], ◌∷◌, length, true, Some, refl, sym, subst, arith}
use Rattle.std.specs.Prelude.{slice_get}
use Rattle.std.specs.List.{AllByRecursion as All}
use Rattle.std.proofs.lemmas.Bool.{and_parts}
use Rattle.tree_core.specs.declared.token.Sort.TheVariants as sort
use Rattle.tree_core.specs.declared.tree.Leaf.{Leaf}
use Rattle.tree_core.specs.declared.program.TreeItem.{TreeItem}
use Rattle.tree_core.specs.declared.program.TreeItem.TheVariants as tree_item
use Rattle.tree_core.specs.declared.program.TreeFn.{TreeFn}
use Rattle.tree_core.specs.declared.program.TreeProgram.{TreeProgram}
use Rattle.tree_core.specs.Trees.{IsTyped}
use Rattle.tree_core.specs.Valid.{leaf_names, ItemStands, ItemsStand}
use Rattle.md_reader.specs.State.{Content}
use Rattle.sel_parse_joined.specs.sel_parse_desk.specs.Selected.{tree_of}
use Rattle.sel_parse_joined.specs.sel_parse_desk.specs.Selected as desk
use Rattle.sel_parse_joined.specs.sel_parse_selected.specs.Selected.{Selected}
use Rattle.sel_parse_joined.specs.sel_parse_effect.specs.Claims.{IsFit}
use Rattle.gg_compile_names.specs.sel_parse_lines.proofs.Words.{selections_use_few_words}
use Rattle.sel_parse_joined.proofs.Law.{same_code}
use Rattle.vax_core.specs.declared.code.Instr.{Instr}
use Rattle.vax_core.specs.Ops.{shape}
use Rattle.vax_core.specs.Valid.{are_operands, is_target, is_instr}
use Rattle.vax_core.specs.declared.code.CodeItem.{CodeItem}
use Rattle.gg_compile_names.specs.vax_target_meaning.specs.Vax.{vax}
use Rattle.gg_compile_effect.specs.vax_target_laws.proofs.Law.{vax_is_lawful}
use Rattle.gg_compile_effect.specs.gg_compile_law.specs.Effects.{HasEffect}
use Rattle.gg_compile_effect.specs.gg_compile_law.specs.Assembled.{IsPlainCode}
use Rattle.gg_compile_effect.specs.gg_compile_law.specs.Assembled as assembled
use Rattle.gg_compile_effect.specs.gg_compile_law.proofs.Validity.{all_at, IsIn}
use Rattle.gg_compile_effect.specs.Claims.{IsTreeOf}
use Rattle.gg_compile_effect.proofs.Trees.{root_is}
use Rattle.gg_compile_effect.proofs.Law.{all_taken, selected_trees_have_effect}
use Rattle.gg_compile_code.specs.Selecting.{AreSelected, nothing, label, tree}
use Rattle.gg_compile_keeps.specs.Programs.{IsSelectable}
use Rattle.gg_compile_effect.proofs.Naming.{passes}
use Rattle.gg_compile_effect.specs.gg_compile_law.specs.vax_homes_items.specs.Standing.{IsPlain, ArgumentsFit}
use Rattle.gg_compile_arguments.proofs.Arguments.{selected_arguments_fit}
use Rattle.gg_compile_keeps.proofs.Leaves.{tree_own}
use Rattle.gg_compile_keeps.proofs.Lines.{instrs_valid}

-- where a frame has more words, the code has its effect all the more
wider : (q : TreeProgram) (locals args most words : ℕ) (w : List Leaf) (code : List Instr) → most ≤ words → HasEffect q locals args most w code → HasEffect q locals args words w code
wider q locals args most words w code le h = record {
  some = h.some;
  does = λ e es t m agrees ready. h.does e es t m agrees
      (record {
        room = ready.room;
        same_locals = ready.same_locals;
        words = (let enough = ready.words in omega (arith, enough, le));
        few = ready.few;
        arguments = ready.arguments;
        pushed = ready.pushed;
        result = ready.result;
      });
}

all_plain : (args : ℕ) (is : List Instr) → All (λ (i : Instr). is_instr i ≡ true) is → All (ArgumentsFit args) is → All (IsPlain args) is
all_plain args [] valid fits = tt
all_plain args (i ∷ is) valid fits = (
  record { valid = (and_parts (are_operands (shape i.op).operands i.operands) (is_target (shape i.op).target i.target) valid.0).0; fits = fits.0 },
  all_plain args is valid.1 fits.1,
)

module _ (q : TreeProgram) (ok : IsSelectable q) (d : Content) (fit : IsFit vax d) (n : ℕ) (g : TreeFn) (there : slice_get q.functions n ≡ Some g) where
  pub stands : ItemsStand q.functions (length q.objects) g
  stands = all_at (ItemsStand q.functions (length q.objects)) q.functions n g ok.valid.roots there

  pub tree_of_it : (w : List Leaf) → IsIn (tree_item.Root w) g.items → IsTreeOf q g w
  tree_of_it w at = record {
    stands = all_at (ItemStands q.functions (length q.objects) g) g.items at.0 (tree_item.Root w) stands at.1;
    spelled = ok.longwords n at.0 g w there at.1;
    calm = ok.calm n at.0 g w there at.1;
  }

  -- the selection that is computed is the one of which the laws speak
  pub selected : (w : List Leaf) → IsIn (tree_item.Root w) g.items → (instrs : List Instr) (most : ℕ) → desk.Selected vax q d g.locals (tree_of w) instrs most
      → Selected vax q d g.locals (tree_of w) instrs most
  selected w at instrs most s =
      let t = tree_of_it w at in
      same_code vax vax_is_lawful q d g.locals (tree_of w) instrs most
      (record {
        spelled = ok.names;
        taken = record { valid = fit.valid; taken = all_taken d.classes _ d.rules fit.rules };
        typed = subst (λ (x : List Leaf). IsTyped x sort.Stmt) (sym (root_is w t.stands.0)) t.stands.0;
        own = tree_own q g (ok.locals n g there) w t.stands.0 t.stands.1 t.spelled;
      })
      s

  effect : (w : List Leaf) → IsIn (tree_item.Root w) g.items → (instrs : List Instr) (most : ℕ) → desk.Selected vax q d g.locals (tree_of w) instrs most
      → HasEffect q g.locals g.args most w instrs
  effect w at instrs most s = selected_trees_have_effect q d g w instrs most ok.valid ok.names fit (tree_of_it w at) (selected w at instrs most s)

  -- its operands are valid, and its arguments the function's
  plain : (w : List Leaf) → IsIn (tree_item.Root w) g.items → (instrs : List Instr) (most : ℕ) → desk.Selected vax q d g.locals (tree_of w) instrs most → All (IsPlain g.args) instrs
  plain w at instrs most s =
      let t = tree_of_it w at in
      all_plain g.args instrs
      (instrs_valid q d g w ok.names fit (ok.locals n g there) t.stands t.spelled instrs most s)
      (selected_arguments_fit q g d g.locals (tree_of w) instrs most (passes (leaf_names q.functions (length q.objects) g) w t.stands.1) (selected w at instrs most s))

  few : (w : List Leaf) → IsIn (tree_item.Root w) g.items → (instrs : List Instr) (most : ℕ) → desk.Selected vax q d g.locals (tree_of w) instrs most → most ≤ 1024
  few w at instrs most s = selections_use_few_words vax q d g.locals (tree_of w) instrs most (ok.locals n g there) (selected w at instrs most s)

  -- ---- all items

  abbrev pub Among : List TreeItem → Type 0
  Among is = (w : List Leaf) → IsIn (tree_item.Root w) is → IsIn (tree_item.Root w) g.items

  pub behind : (i : TreeItem) (is : List TreeItem) → Among (i ∷ is) → Among is
  behind i is sub w at = sub w (suc at.0, at.1)

  pub used_up : (used most : ℕ) (is : List TreeItem) (code : List CodeItem) → AreSelected vax d q g.locals used is code most → used ≤ most
  used_up used most is code (nothing u) = omega arith
  used_up used most is code (label u m l js rest h) = used_up u most js rest h
  used_up used most is code (tree u k m w js instrs rest one h) =
      let a = used_up (max u k) most js rest h in
      omega (arith, a)

  pub words_few : (used most : ℕ) (is : List TreeItem) (code : List CodeItem) → Among is → used ≤ 1024 → AreSelected vax d q g.locals used is code most → most ≤ 1024
  words_few used most is code sub le (nothing u) = le
  words_few used most is code sub le (label u m l js rest h) = words_few u most js rest (behind (tree_item.Label l) js sub) le h
  words_few used most is code sub le (tree u k m w js instrs rest one h) =
      words_few (max u k) most js rest (behind (tree_item.Root w) js sub) (let low : k ≤ 1024 = few w (sub w (0, refl)) instrs k one in omega (arith, le, low)) h

  pub tree_code : (words used most : ℕ) (is : List TreeItem) (code : List CodeItem) → Among is → most ≤ words → AreSelected vax d q g.locals used is code most
      → IsPlainCode q g words is code
  tree_code words used most is code sub le (nothing u) = assembled.plain_nothing
  tree_code words used most is code sub le (label u m l js rest h) = assembled.plain_label l js rest (tree_code words u most js rest (behind (tree_item.Label l) js sub) le h)
  tree_code words used most is code sub le (tree u k m w js instrs rest one h) =
      let up = used_up (max u k) most js rest h in
      assembled.plain_root w js instrs rest (wider q g.locals g.args k words w instrs (omega (arith, up, le)) (effect w (sub w (0, refl)) instrs k one)) (plain w (sub w (0, refl)) instrs k one)
      (tree_code words (max u k) most js rest (behind (tree_item.Root w) js sub) le h)

-- The code of a program's functions can be written.
use Rattle.std.proofs.Common.{◌≡◌, ℕ, zero, suc, ◌*◌, ◌^◌, ◌≤◌, max, Bool, true, false, List, [], ◌∷◌, ◌++◌, Some, refl, sym, subst, arith}
use Rattle.std.specs.Prelude.{◌&&◌, slice_get}
use Rattle.std.specs.List.{AllByRecursion as All}
use Rattle.std.proofs.lemmas.Bool.{le-leb, lt-ltb}
use Rattle.gg_base.proofs.Facts.{all_append}
use Rattle.tree_core.specs.declared.tree.Leaf.{Leaf}
use Rattle.tree_core.specs.declared.program.TreeItem.{TreeItem}
use Rattle.tree_core.specs.declared.program.TreeItem.TheVariants as tree_item
use Rattle.tree_core.specs.declared.program.TreeFn.{TreeFn}
use Rattle.tree_core.specs.declared.program.TreeProgram.{TreeProgram}
use Rattle.tree_core.specs.Valid.{IsValid}
use Rattle.tree_core.specs.Names.{function_label}
use Rattle.md_reader.specs.State.{Content}
use Rattle.sel_parse_written.specs.sel_parse_effect.specs.Claims.{IsFit}
use Rattle.vax_core.specs.declared.code.CodeItem.{CodeItem}
use Rattle.vax_core.specs.declared.code.Instr.{Instr}
use Rattle.vax_core.specs.Valid.{is_long, is_name, is_instr, is_code_item}
use Rattle.vax_frames.specs.Frames.{room_code, end_code, code_items}
use Rattle.gg_compile_keeps.specs.vax_target_meaning.specs.Fitting.{CanWrite}
use Rattle.gg_compile_keeps.specs.vax_target_meaning.specs.Vax.{vax}
use Rattle.gg_compile_counts.specs.gg_compile_law.specs.Names.{AreSmall, HaveSmall}
use Rattle.gg_compile_counts.specs.gg_compile_law.proofs.Validity.{IsIn}
use Rattle.gg_compile_counts.specs.gg_compile_law.specs.vax_homes_items.specs.vax_homes_law.specs.vax_homes.specs.Homing.{homed}
use Rattle.gg_compile_counts.specs.gg_compile_law.specs.vax_homes_items.proofs.Writing.{homed_bodies_can_be_written}
use Rattle.gg_compile_keeps.specs.gg_compile_code.specs.Selecting.{AreSelected, nothing, label, tree, IsSelectedFunction, AreSelectedFunctions, none, more}
use Rattle.gg_compile_laws.specs.Keeping.{IsWithinLimits}
use Rattle.gg_compile_laws.proofs.Tests.{all_true, all_passed, label_spelled}
use Rattle.gg_compile_laws.proofs.Trees.{instrs_valid, words_low}

abbrev pub Fine : CodeItem → Type 0
Fine x = is_code_item x ≡ true

instrs_fine : (is : List Instr) → All (λ (i : Instr). is_instr i ≡ true) is → All Fine (code_items is)
instrs_fine [] h = tt
instrs_fine (i ∷ is) h = (h.0, instrs_fine is h.1)

-- ---- frames

room_long : (words : ℕ) → words ≤ 1024 → is_long (4 * words) ≡ true
room_long words le = lt-ltb (4 * words) (2 ^ 32) (omega (arith, le))

long_first : (b : Bool) → b ≡ true → (((b && true) && true) && true) ≡ true
long_first true e = refl
long_first false e = absurd (cc)

room_fine : (words : ℕ) → words ≤ 1024 → All Fine (code_items (room_code words))
room_fine zero le = tt
room_fine (suc n) le = (long_first (is_long (4 * suc n)) (room_long (suc n) le), tt)

-- ---- what stands at a place of the lists of functions

small_at : (fs : List TreeFn) (n : ℕ) (g : TreeFn) → HaveSmall fs → slice_get fs n ≡ Some g → AreSmall g.items
small_at [] n g h e = absurd (cc)
small_at (f ∷ fs) zero g h e = subst (λ (x : TreeFn). AreSmall x.items) (let same : f ≡ g = cc in same) h.0
small_at (f ∷ fs) (suc n) g h e = small_at fs n g h.1 e

name_at : (fs : List TreeFn) (n : ℕ) (g : TreeFn) → All (λ (f : TreeFn). is_name (function_label f.name) ≡ true) fs → slice_get fs n ≡ Some g → is_name (function_label g.name) ≡ true
name_at [] n g h e = absurd (cc)
name_at (f ∷ fs) zero g h e = subst (λ (x : TreeFn). is_name (function_label x.name) ≡ true) (let same : f ≡ g = cc in same) h.0
name_at (f ∷ fs) (suc n) g h e = name_at fs n g h.1 e

module _ (q : TreeProgram) (valid : IsValid q) (limits : IsWithinLimits q) (can : CanWrite q) (d : Content) (fit : IsFit vax d) where
  module _ (n : ℕ) (g : TreeFn) (there : slice_get q.functions n ≡ Some g) where
    abbrev Among : List TreeItem → Type 0
    Among is = (w : List Leaf) → IsIn (tree_item.Root w) is → IsIn (tree_item.Root w) g.items

    behind : (i : TreeItem) (is : List TreeItem) → Among (i ∷ is) → Among is
    behind i is sub w at = sub w (suc at.0, at.1)

    -- the code of items, and how many words are used behind it
    record Written (body : List CodeItem) (most : ℕ) : Type 0 where
      fine : All Fine body
      low : most ≤ 1024

    body_written : (used most : ℕ) (is : List TreeItem) (body : List CodeItem) → Among is → AreSmall is → used ≤ 1024 → AreSelected vax d q g.locals used is body most → Written body most
    body_written used most is body sub small le (nothing u) = record { fine = tt; low = le }
    body_written used most is body sub small le (label u m l js rest h) =
        let k = body_written u most js rest (behind (tree_item.Label l) js sub) small.1 le h in
        record { fine = (label_spelled l small.0, k.fine); low = k.low }
    body_written used most is body sub small le (tree u words m w js instrs rest one h) =
        let at = sub w (0, refl) in
        let few : words ≤ 1024 = words_low q valid limits can d fit n g there w at instrs words one in
        let k = body_written (max u words) most js rest (behind (tree_item.Root w) js sub) small (omega (arith, le, few)) h in
        record { fine = all_append Fine (code_items instrs) rest (instrs_fine instrs (instrs_valid q valid limits can d fit n g there w at instrs words one)) k.fine; low = k.low }

    function_fine : (part : List CodeItem) → IsSelectedFunction vax d q g part → All Fine part
    function_fine part s =
        let name = name_at q.functions n g limits.names there in
        let small = s.framed.small in
        let b = body_written g.locals s.words g.items s.body (λ w at. at) (small_at q.functions n g limits.small there) (limits.locals n g there) s.selected in
        subst (All Fine) (sym s.framed.code_is) (
          name,
          (
            name,
            (
              le-leb s.framed.mask 4095 (omega (arith, small)),
              all_append Fine (code_items (room_code s.words)) (homed g.wanted s.body ++ code_items end_code) (room_fine s.words b.low)
                  (all_append Fine (homed g.wanted s.body) (code_items end_code)
                  (all_passed is_code_item (homed g.wanted s.body) (homed_bodies_can_be_written g.wanted s.body (all_true is_code_item s.body b.fine))) (refl, (refl, tt))),
            ),
          ),
        )

  -- functions of the program
  abbrev AreOf : List TreeFn → Type 0
  AreOf gs = (k : ℕ) (g : TreeFn) → slice_get gs k ≡ Some g → (n : ℕ) × (slice_get q.functions n ≡ Some g)

  functions_fine : (gs : List TreeFn) (part : List CodeItem) → AreOf gs → AreSelectedFunctions vax d q gs part → All Fine part
  functions_fine gs part of none = tt
  functions_fine gs part of (more g hs front rest one others) =
      let at = of 0 g refl in
      all_append Fine front rest (function_fine at.0 g at.1 front one) (functions_fine hs rest (λ k h e. of (suc k) h e) others)

  pub code_fine : (code : List CodeItem) → AreSelectedFunctions vax d q q.functions code → All Fine code
  code_fine code s = functions_fine q.functions code (λ k g e. (k, e)) s

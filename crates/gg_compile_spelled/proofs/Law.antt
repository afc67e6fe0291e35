-- Numbers, offsets and labels of a program's trees.
use Rattle.std.proofs.Common.{◌≡◌, ℕ, zero, suc, ◌<◌, ◌≤◌, ◌^◌, List, [], ◌∷◌, length, Some, refl, ap, sym, subst, arith, ◌+◌, ◌-◌}
use Rattle.std.specs.Prelude.{false, slice_get}
use Rattle.gg_base.proofs.Facts.{false_true}
use Rattle.gg_base.proofs.Words.{zero_small}
use Rattle.c_types.specs.declared.typed.Callee.{Callee}
use Rattle.c_program.specs.Programs.{ARoutine, AProgram}
use Rattle.c_sound.specs.Fits.{FitsActs, no_local}
use Rattle.c_sound.specs.Stands.{StandsActs, IsThere, Takes}
use Rattle.c_sound.specs.Sound.{IsSound}
use Rattle.tree_core.specs.declared.program.TreeItem.{TreeItem}
use Rattle.tree_core.specs.declared.program.TreeItem.TheVariants as tree_item
use Rattle.tree_core.specs.declared.program.TreeFn.{TreeFn}
use Rattle.gg_compile_law.specs.Names.{HaveSmall}
use Rattle.c_lower_scheme.specs.Trees.{Item, Num}
use Rattle.c_lower_scheme.specs.Spelling.{spelled_all}
use Rattle.c_lower_scheme.specs.Programs.{body_of, function_of, lower_all, lowered, first_temporary, way_in, way_out}
use Rattle.c_lower_scheme.specs.Parts.{Emitted, Destination, due, delivered}
use Rattle.c_lower_scheme.specs.Flow.{two_done}
use Rattle.c_lower_scheme.specs.Statements.{lower_row}
use Rattle.gg_compile_spelled.specs.Claims.{labels_behind, label_count, LoweredIsSpelled, LabelsAreSmall}
use Rattle.gg_compile_spelled.proofs.Trees.{AreLong, none, roots_spell, labels_small, next}
use Rattle.gg_compile_spelled.proofs.Parts.{LongEnds, LongTo, delivered_long, due_long, two_long}
use Rattle.gg_compile_spelled.proofs.Statements.{row_long}

-- the way in and the way out of a function that has memory locals
module _ (objects most : ℕ) where
  way_in_long : (size first pointer block l : ℕ) → block ≤ 262144 → (1 ≤ block → pointer + 2 ≤ objects)
      → LongEnds objects most (Unit {0}) l (way_in size first pointer block l)
  way_in_long size first pointer zero l small there = record { grows = omega arith; items = λ y le. none }
  way_in_long size first pointer (suc block) l small there =
      let two : pointer + 2 ≤ objects = there (omega arith) in
      let here : pointer < objects = omega arith in
      let next_there : suc pointer < objects = omega arith in
      let bytes : suc block < 2 ^ 32 = omega arith in
      let whole : 262144 < 2 ^ 32 = omega arith in
      record {
        grows = omega arith;
        items = λ y le.
            let lt : l < most = omega arith in
            next here (next (lt, ((next_there, whole), tt), bytes) (next (zero_small, zero_small) (next lt (next (here, (tt, bytes)) none))));
      }

  leads_out : (pointer size block : ℕ) → (1 ≤ block → pointer + 2 ≤ objects) → LongTo objects (way_out pointer size block)
  leads_out pointer size zero there = tt
  leads_out pointer size (suc block) there = let two : pointer + 2 ≤ objects = there (omega arith) in omega arith

module _ (objects most pointer count : ℕ) (takes : Callee → ℕ → Type 0) where
  -- what is known of a function
  record Ready (g : ARoutine) : Type 0 where
    fits : FitsActs (length g.locals) no_local false g.body
    stands : StandsActs (IsThere objects (length g.parameters) g.block) takes objects g.body
    block : g.block ≤ 262144
    stacked : 1 ≤ g.block → pointer + 2 ≤ objects

  abbrev AreReady : List ARoutine → Type 0
  AreReady gs = (f : ℕ) (g : ARoutine) → slice_get gs f ≡ Some g → Ready g

  body_long : (g : ARoutine) (l : ℕ) → Ready g → LongEnds objects most (Unit {0}) l (body_of pointer count g l)
  body_long g l h =
      let size : ℕ = length g.locals in
      let first : ℕ = first_temporary size g.block in
      let out : Destination = way_out pointer size g.block in
      let a : Emitted = way_in size first pointer g.block l in
      let b : Emitted = lower_row size count first out g.body 0 0 a.labels in
      let leads = leads_out objects most pointer size g.block h.stacked in
      let x = way_in_long objects most size first pointer g.block l h.block h.stacked in
      let y = row_long objects most (length g.parameters) g.block size count first out h.block leads takes no_local false g.body 0 0 a.labels h.fits h.stands in
      let z = delivered_long objects most out b.labels (due (Num 0) first b.labels)
      (due_long objects most (Num 0) zero_small first b.labels) in
      two_long objects most (Unit {0}) l a (two_done b (delivered out (due (Num 0) first b.labels))) x
      (two_long objects most (Unit {0}) a.labels b (delivered out (due (Num 0) first b.labels))
      (record { grows = y.grows; items = λ k le. y.items false_true le }) (record { grows = z.grows; items = λ k le. z.items leads le }))

  items_long : (g : ARoutine) (l : ℕ) → Ready g → (body_of pointer count g l).labels ≤ most → AreLong objects most (body_of pointer count g l).items
  items_long g l h le = (body_long g l h).items tt le

  later : (g : ARoutine) (gs : List ARoutine) → AreReady (g ∷ gs) → AreReady gs
  later g gs h f x e = h (suc f) x e

  grows_all : (gs : List ARoutine) (l : ℕ) → AreReady gs → l ≤ labels_behind pointer count gs l
  grows_all [] l h = omega arith
  grows_all (g ∷ gs) l h =
      let up = (body_long g l (h 0 g refl)).grows in
      let rest = grows_all gs (body_of pointer count g l).labels (later g gs h) in
      omega arith

  -- the items of a function of the trees
  record Spells (tf : TreeFn) : Type 0 where
    items : List Item
    spelled : spelled_all items ≡ tf.items
    long : AreLong objects most items

  all_spell : (gs : List ARoutine) (l : ℕ) → AreReady gs → labels_behind pointer count gs l ≤ most → (f : ℕ) (tf : TreeFn)
      → slice_get (lower_all pointer count gs l) f ≡ Some tf → Spells tf
  all_spell [] l h le f tf e = absurd (cc)
  all_spell (g ∷ gs) l h le zero tf e =
      let up = grows_all gs (body_of pointer count g l).labels (later g gs h) in
      let same : function_of g (body_of pointer count g l) ≡ tf = cc in
      record {
        items = (body_of pointer count g l).items;
        spelled = ap (λ (x : TreeFn). x.items) same;
        long = items_long g l (h 0 g refl) (omega arith);
      }
  all_spell (g ∷ gs) l h le (suc f) tf e = all_spell gs (body_of pointer count g l).labels (later g gs h) le f tf e

  all_small : (gs : List ARoutine) (l : ℕ) → AreReady gs → labels_behind pointer count gs l ≤ most → most ≤ 2 ^ 64
      → HaveSmall (lower_all pointer count gs l)
  all_small [] l h le few = tt
  all_small (g ∷ gs) l h le few =
      let up = grows_all gs (body_of pointer count g l).labels (later g gs h) in
      let here : (body_of pointer count g l).labels ≤ most = omega arith in (
        labels_small few (items_long g l (h 0 g refl) here),
        all_small gs (body_of pointer count g l).labels (later g gs h) le few,
      )

-- the functions of a sound program
sound_ready : (p : AProgram) → IsSound p → AreReady (length p.objects) (label_count p) (length p.objects - 2) (length p.routines) (Takes p.routines) p.routines
sound_ready p sound f g e = record {
  fits = sound.fits f g e;
  stands = sound.stands f g e;
  block = sound.blocks f g e;
  stacked = λ some. let two : 2 ≤ length p.objects = sound.stacked f g e some in omega arith;
}

pub lowered_is_spelled : LoweredIsSpelled
lowered_is_spelled p sound few f n g w e h =
    let own = all_spell (length p.objects) (label_count p) (length p.objects - 2) (length p.routines) (Takes p.routines) p.routines 0 (sound_ready p sound)
    (omega arith) f g e in
    let there = subst (λ (is : List TreeItem). slice_get is n ≡ Some (tree_item.Root w)) (sym own.spelled) h in
    roots_spell (lowered p) (label_count p) few own.long n w there

pub labels_are_small : LabelsAreSmall
labels_are_small p sound few =
    all_small (length p.objects) (label_count p) (length p.objects - 2) (length p.routines) (Takes p.routines) p.routines 0 (sound_ready p sound)
    (omega arith) few

-- Where the functions' code and labels stand in an assembled code.
use Rattle.std.proofs.Common.{◌≡◌, ℕ, zero, suc, ◌+◌, ◌<◌, Bool, true, false, cond, List, [], ◌∷◌, ◌++◌, length, drop, Option, Some, None, refl, sym, ap, subst, ◌∙◌, arith}
use Rattle.std.proofs.Common.{append_assoc, length-append}
use Rattle.std.specs.Prelude.{slice_get, codes, not, ◌||◌, ◌==◌}
use Rattle.std.specs.Str.{bytes_eq}
use Rattle.std.proofs.lemmas.List.{drop_at}
use Rattle.std.proofs.lemmas.Bool.{eqb-true, true≢false}
use Rattle.std.proofs.lemmas.Slice.Eq.{bytes_eq-Decides}
use Rattle.std.proofs.lemmas.Option.{same_Some}
use Rattle.std.specs.Option.{option_or}
use Rattle.gg_base.proofs.Facts.{some_none, slice_seam}
use Rattle.vax_core.specs.declared.code.Code.{Code}
use Rattle.vax_core.specs.declared.code.CodeItem.{CodeItem}
use Rattle.vax_core.specs.declared.code.CodeItem.TheVariants as item_kind
use Rattle.vax_machine.specs.Labels.{label_place, double_label, double_area_label, skipped, next_item}
use Rattle.vax_machine.specs.Loading.{Loads, or_double}
use Rattle.tree_core.specs.declared.program.TreeItem.{TreeItem}
use Rattle.tree_core.specs.declared.program.TreeItem.TheVariants as tree_item
use Rattle.tree_core.specs.declared.program.TreeFn.{TreeFn}
use Rattle.tree_core.specs.declared.program.TreeProgram.{TreeProgram}
use Rattle.tree_meaning.specs.State.{behind}
use Rattle.vax_frames_law.specs.vax_frames.specs.Frames.{code_items, room_code, end_code, frame_items}
use Rattle.gg_compile_law.specs.Framing.{FrameLayout, homed_code}
use Rattle.gg_compile_law.specs.Programs.{HasItems, stands_in, IsBody, nothing, label, root, StandsAt, IsEmitted, IsCompiled}
use Rattle.gg_compile_law.specs.Assembled.{IsTreeCode, nothing as nothing_of, label as label_of, root as root_of, IsFunctionCode, AreFunctions, none, more, IsAssembled}
use Rattle.gg_compile_law.specs.Assembled.{AssembledFollow, SourceIsFollowed}
use Rattle.gg_compile_law.proofs.Validity.{all_at, IsIn, RootFacts, root_facts, items_in_order}
use Rattle.tree_core.specs.declared.tree.Leaf.{Leaf}
use Rattle.tree_core.specs.Valid.{named, main_takes_nothing, IsValid}
use Rattle.tree_core.specs.Names.{label_name, function_label}
use Rattle.gg_compile_law.specs.Areas.{HoldsObjects}
use Rattle.gg_compile_law.proofs.Areas.{blocks_hold_objects}
use Rattle.gg_compile_law.proofs.Placing.{has_instrs, has_rest}
use Rattle.gg_base.proofs.Composing.{composes}
use Rattle.vax_machine.specs.Running.{run}
use Rattle.tree_meaning.specs.Meaning.{main_of, tree_run}
use Rattle.vax_frames_law.proofs.Labelling.{first_place}
use Rattle.vax_frames_law.proofs.Framing.{four}
use Rattle.tree_meaning.proofs.Law.{tree_run_unbroken}
use Rattle.gg_compile_law.proofs.Starting.{found, compiled_follow}

-- ---- items in a list

pub has_all : (xs pre rest : List CodeItem) → HasItems (pre ++ (xs ++ rest)) (length pre) xs
has_all [] pre rest = tt
has_all (x ∷ xs) pre rest =
    let e : (pre ++ x ∷ []) ++ (xs ++ rest) ≡ pre ++ x ∷ (xs ++ rest) = append_assoc pre (x ∷ []) (xs ++ rest) in
    let l : length (pre ++ x ∷ []) ≡ length pre + 1 = omega (arith, length-append pre (x ∷ [])) in (
      slice_seam pre x (xs ++ rest),
      subst (λ (n : ℕ). HasItems (pre ++ x ∷ (xs ++ rest)) n xs) l (subst (λ (list : List CodeItem). HasItems list (length (pre ++ x ∷ [])) xs) e (has_all xs (pre ++ x ∷ []) rest)),
    )

-- ---- labels

-- the labels of a code that can be loaded differ
pub labels_differ : (c : Code) → Loads c → double_label c.items ≡ None
labels_differ c h = by (double_area_label c.area c.items) (double_label c.items) h
  where
    by : (a b : Option (List ℕ)) → or_double (option_or a b) c ≡ None → b ≡ None
    by (Some n) b e = absurd (some_none _ e)
    by None (Some n) e = absurd (some_none _ e)
    by None None e = refl

-- ---- labels in a body

pub record LabelIn (program : TreeProgram) (g : TreeFn) (y : FrameLayout) (l : ℕ) (is : List TreeItem) (body : List CodeItem) : Type 0 where
  pub pre : List CodeItem
  pub post : List CodeItem
  pub body_is : body ≡ pre ++ item_kind.Label (label_name l) ∷ post
  pub rest : IsBody program g y (behind is l) post

module _ (program : TreeProgram) (g : TreeFn) (y : FrameLayout) (l : ℕ) where
  label_in : (is : List TreeItem) (body : List CodeItem) → IsBody program g y is body → stands_in is l ≡ true → LabelIn program g y l is body
  label_in is body nothing e = absurd (true≢false (sym e))
  label_in is body (root w is' instrs code s h) e =
      let r = label_in is' code h e in
      record {
        pre = code_items (homed_code y instrs) ++ r.pre;
        post = r.post;
        body_is = ap (λ (x : List CodeItem). code_items (homed_code y instrs) ++ x) r.body_is ∙ sym
            (append_assoc (code_items (homed_code y instrs)) r.pre (item_kind.Label (label_name l) ∷ r.post));
        rest = r.rest;
      }
  label_in is body (label k is' code h) e = by (k == l) refl e (λ f. label_in is' code h f)
    where
      by : (b : Bool) → (k == l) ≡ b → (b || stands_in is' l) ≡ true → (stands_in is' l ≡ true → LabelIn program g y l is' code)
          → LabelIn program g y l (tree_item.Label k ∷ is') (item_kind.Label (label_name k) ∷ code)
      by true eq f rest =
          record {
            pre = [];
            post = code;
            body_is = ap (λ (n : ℕ). item_kind.Label (label_name n) ∷ code) (eqb-true k l eq);
            rest = subst
                (λ (b : Bool). IsBody program g y (cond b is' (behind is' l)) code) (sym eq) h;
          }
      by false eq f rest =
          let r = rest f in
          record {
            pre = item_kind.Label (label_name k) ∷ r.pre;
            post = r.post;
            body_is = ap (λ (x : List CodeItem). item_kind.Label (label_name k) ∷ x) r.body_is;
            rest = subst
                (λ (b : Bool). IsBody program g y (cond b is' (behind is' l)) r.post) (sym eq) r.rest;
          }

-- ---- a function's code

-- the code of trees is a body, where the program is valid
module _ (program : TreeProgram) (v : IsValid program) (n : ℕ) (g : TreeFn) (there : slice_get program.functions n ≡ Some g) (y : FrameLayout) where
  tree_body : (is : List TreeItem) (body : List CodeItem) → IsTreeCode program g y is body → ((w : List Leaf) → IsIn (tree_item.Root w) is → IsIn (tree_item.Root w) g.items)
      → IsBody program g y is body
  tree_body is body nothing_of sub = nothing
  tree_body is body (label_of l rest code h) sub = label l rest code (tree_body rest code h (λ w at. sub w (suc at.0, at.1)))
  tree_body is body (root_of w rest instrs code h t) sub =
      let r : RootFacts program g w = root_facts program v n g there w (sub w (0, refl)) in
      root w rest instrs code (record { root = h; target = r.target; call = r.call }) (tree_body rest code t (λ x at. sub x (suc at.0, at.1)))

module _ (program : TreeProgram) (valid : IsValid program) (number : ℕ) (g : TreeFn) (is_there : slice_get program.functions number ≡ Some g) (part pre post code : List CodeItem)
    (f : IsFunctionCode program g part) (code_is : code ≡ pre ++ (part ++ post)) (once : double_label code ≡ None) where
  abbrev name : List ℕ
  name = function_label g.name

  is_body : IsBody program g f.layout g.items f.body
  is_body = tree_body program valid number g is_there f.layout g.items f.body f.is_body (λ w at. at)

  abbrev frame : List CodeItem
  frame = frame_items name f.layout.mask f.layout.words f.body

  framed_code : code ≡ pre ++ (frame ++ post)
  framed_code = code_is ∙ ap (λ (x : List CodeItem). pre ++ (x ++ post)) f.part_is

  there : HasItems code (length pre) frame
  there = subst (λ (x : List CodeItem). HasItems x (length pre) frame) (sym framed_code) (has_all frame pre post)

  abbrev tail : List CodeItem
  tail = item_kind.Mask f.layout.mask ∷ ((code_items (room_code f.layout.words) ++ (f.body ++ code_items end_code)) ++ post)

  code_at_label : code ≡ (pre ++ item_kind.Globl name ∷ []) ++ item_kind.Label name ∷ tail
  code_at_label = framed_code ∙ sym (append_assoc pre (item_kind.Globl name ∷ []) (item_kind.Label name ∷ tail))

  before_label : length (pre ++ item_kind.Globl name ∷ []) ≡ length pre + 1
  before_label = omega (arith, length-append pre (item_kind.Globl name ∷ []))

  label_is : label_place code name ≡ length pre + 1
  label_is =
      ap (λ (x : List CodeItem). label_place x name) code_at_label
      ∙ first_place (pre ++ item_kind.Globl name ∷ []) tail name (subst (λ (x : List CodeItem). double_label x ≡ None) code_at_label once)
      ∙ before_label

  skips : skipped (drop (length pre + 1) code) ≡ 1
  skips = ap (λ (x : List CodeItem). skipped (drop (length pre + 1) x)) code_at_label
      ∙ ap skipped (drop_at (pre ++ item_kind.Globl name ∷ []) (item_kind.Label name ∷ tail) (length pre + 1) before_label)

  entry_is : next_item code (label_place code name) ≡ length pre + 1 + 1
  entry_is = ap (λ (p : ℕ). next_item code p) label_is ∙ ap (λ (k : ℕ). length pre + 1 + k) skips

  abbrev rest_there : HasItems code (length pre + 1 + 1 + 1) (code_items (room_code f.layout.words) ++ (f.body ++ code_items end_code))
  rest_there = there.1.1.1

  label_stands : (l : ℕ) → stands_in g.items l ≡ true → StandsAt program code g f.layout (label_place code (label_name l)) (tree_item.Label l ∷ behind g.items l)
  label_stands l e =
      let r : LabelIn program g f.layout l g.items f.body = label_in program g f.layout l g.items f.body is_body e in
      let at = item_kind.Label (label_name l) ∷ r.post in
      let front = item_kind.Globl name ∷ (item_kind.Label name ∷ (item_kind.Mask f.layout.mask ∷ (code_items (room_code f.layout.words) ++ r.pre))) in
      let behind_it = (at ++ code_items end_code) ++ post in
      let split : code ≡ (pre ++ front) ++ behind_it =
      framed_code
      ∙ ap (λ (b : List CodeItem). pre ++ (frame_items name f.layout.mask f.layout.words b ++ post)) r.body_is
      ∙ ap (λ (x : List CodeItem). pre ++ (item_kind.Globl name ∷ (item_kind.Label name ∷ (item_kind.Mask f.layout.mask ∷ x))))
      (four (code_items (room_code f.layout.words)) r.pre at (code_items end_code) post)
      ∙ sym (append_assoc pre front behind_it) in
      let place : label_place code (label_name l) ≡ length (pre ++ front) =
      ap (λ (x : List CodeItem). label_place x (label_name l)) split
      ∙ first_place (pre ++ front) ((r.post ++ code_items end_code) ++ post) (label_name l) (subst (λ (x : List CodeItem). double_label x ≡ None) split once) in
      record {
        body = at;
        is_body = label l (behind g.items l) r.post r.rest;
        there =
            subst (λ (p : ℕ). HasItems code p (at ++ code_items end_code)) (sym place)
            (subst (λ (x : List CodeItem). HasItems x (length (pre ++ front)) (at ++ code_items end_code)) (sym split) (has_all (at ++ code_items end_code) (pre ++ front) post));
      }

  pub function_emitted : IsEmitted program code g
  function_emitted = record {
    frame = record {
      words = f.layout.words;
      mask = f.layout.mask;
      entry = length pre + 1 + 1;
      enough = f.locals;
      few = f.few;
      is_mask = f.is_mask;
      entry_is = entry_is;
      mask_there = there.1.1.0;
      room = has_instrs code (length pre + 1 + 1 + 1) (room_code f.layout.words) (f.body ++ code_items end_code) rest_there;
    };
    homes = f.layout.homes;
    are_homes = f.are_homes;
    begins = record { body = f.body; is_body = is_body; there = has_rest code (length pre + 1 + 1 + 1) (room_code f.layout.words) (f.body ++ code_items end_code) rest_there };
    labels = label_stands;
    order = items_in_order program valid number g is_there;
  }

-- ---- all functions

module _ (program : TreeProgram) (valid : IsValid program) (code : List CodeItem) (once : double_label code ≡ None) where
  all_emitted : (gs : List TreeFn) (part pre : List CodeItem) (first : ℕ) → ((n : ℕ) (g : TreeFn) → slice_get gs n ≡ Some g → slice_get program.functions (first + n) ≡ Some g)
      → AreFunctions program gs part → code ≡ pre ++ part
      → (n : ℕ) (g : TreeFn) → slice_get gs n ≡ Some g → IsEmitted program code g
  all_emitted gs part pre first named none e zero g is = absurd cc
  all_emitted gs part pre first named none e (suc n) g is = absurd cc
  all_emitted gs part pre first named (more h hs front rest f others) e zero g is =
      subst (λ (x : TreeFn). IsEmitted program code x) (same_Some h g is) (function_emitted program valid (first + 0) h (named 0 h refl) front pre rest code f e once)
  all_emitted gs part pre first named (more h hs front rest f others) e (suc n) g is =
      all_emitted hs rest (pre ++ front) (first + 1)
      (λ k x at. let z : first + suc k ≡ first + 1 + k = omega arith in ap (λ (i : ℕ). slice_get program.functions i) (sym z) ∙ named (suc k) x at) others
      (e ∙ sym (append_assoc pre front rest)) n g is

-- a function called main is found, where one is named so
find_main : (fs : List TreeFn) → 0 < named (codes "main") fs → (g : TreeFn) × (main_of fs ≡ Some g)
find_main [] lt = absurd (omega (arith, lt))
find_main (f ∷ fs) lt = by (bytes_eq f.name (codes "main")) lt (λ h. find_main fs h)
  where
    by : (b : Bool) → 0 < cond b 1 0 + named (codes "main") fs → (0 < named (codes "main") fs → (g : TreeFn) × (main_of fs ≡ Some g)) → (g : TreeFn) × (cond b (Some f) (main_of fs) ≡ Some g)
    by true lt rest = (f, refl)
    by false lt rest = rest (omega (arith, lt))

no_arguments : (g : TreeFn) → main_takes_nothing g ≡ true → g.name ≡ codes "main" → g.args ≡ 0
no_arguments g h e = by (bytes_eq g.name (codes "main")) ((bytes_eq-Decides g.name (codes "main")).1 e) h
  where
    by : (b : Bool) → b ≡ true → (not b || (g.args == 0)) ≡ true → g.args ≡ 0
    by true e h = eqb-true g.args 0 h
    by false e h = absurd (true≢false (sym e))

pub assembled_is_compiled : (program : TreeProgram) (c : Code) → IsAssembled program c → IsCompiled program c
assembled_is_compiled program c h =
    let names = h.valid.names in
    let main = find_main program.functions (omega (arith, names.one_main)) in
    let at = found program.functions main.0 main.1 in
    let held : HoldsObjects program c = blocks_hold_objects program c h.valid h.loads h.blocks in
    record {
      emitted =
          all_emitted program h.valid c.items (labels_differ c h.loads) program.functions c.items [] 0
          (λ n g is. let z : 0 + n ≡ n = omega arith in ap (λ (i : ℕ). slice_get program.functions i) z ∙ is) h.functions refl;
      main = main.0;
      main_is = main.1;
      main_args = no_arguments main.0 (all_at (λ (f : TreeFn). main_takes_nothing f ≡ true) program.functions at.0 main.0 names.main_args at.1) at.2;
      labelled = held.labelled;
      area = held.area;
      bytes = held.bytes;
      size = held.size;
    }

pub assembled_follow : AssembledFollow
assembled_follow program c h = compiled_follow program c (assembled_is_compiled program c h)

pub source_is_followed : SourceIsFollowed
source_is_followed program c h source input bytes follows = composes source (tree_run program input) (run c input) follows (tree_run_unbroken program input) (assembled_follow program c h input bytes)

-- The frame round a body with homes is the code of its function.
use Rattle.std.proofs.Common.{◌≡◌, inl, inr, ℕ, ◌<◌, ◌≤◌, Bool, true, false, eqb, List, [], ◌∷◌, ◌++◌, map, refl, sym, ap, subst, ◌∙◌}
use Rattle.std.specs.Prelude.{◌&&◌}
use Rattle.std.specs.List.{AllByRecursion as All}
use Rattle.std.specs.Int.{bit_at}
use Rattle.std.proofs.lemmas.Bool.{or_parts, le-leb, lt-ltb, true≢false}
use Rattle.gg_base.specs.Numbers.{truth}
use Rattle.tree_core.specs.declared.program.TreeItem.{TreeItem}
use Rattle.tree_core.specs.declared.program.TreeFn.{TreeFn}
use Rattle.tree_core.specs.declared.program.TreeProgram.{TreeProgram}
use Rattle.tree_core.specs.Valid.{WantedStand}
use Rattle.vax_core.specs.declared.code.Instr.{Instr}
use Rattle.vax_core.specs.declared.code.CodeItem.{CodeItem}
use Rattle.vax_core.specs.declared.code.CodeItem.TheVariants as item_kind
use Rattle.vax_core.specs.Registers.{operands_name}
use Rattle.vax_frames_law.specs.vax_frames.specs.Frames.{code_items, is_kept, body_names, IsMaskOf}
use Rattle.vax_frames_law.specs.Guarding.{has}
use Rattle.vax_frames_law.proofs.Masks.{mask_is}
use Rattle.vax_homes_items.specs.vax_homes_law.specs.vax_homes.specs.declared.choose.Home.{Home}
use Rattle.vax_homes_items.specs.vax_homes_law.specs.vax_homes.specs.Choosing.{homes_of}
use Rattle.vax_homes_items.specs.vax_homes_law.specs.vax_homes.specs.Homing.{homed_item, homed}
use Rattle.vax_homes_items.specs.vax_homes_law.specs.Ready.{IsIn}
use Rattle.vax_homes_items.specs.Standing.{AreHomes}
use Rattle.vax_homes_items.proofs.Items.{homed_bodies_are_like}
use Rattle.vax_homes_items.proofs.Standing.{homes_stand}
use Rattle.vax_homes_frames.specs.Trees.{NamesOnly}
use Rattle.gg_compile_law.specs.Framing.{FrameLayout, homed_code}
use Rattle.gg_compile_law.specs.Assembled.{IsTreeCode, IsPlainCode, FramesAreFunctionCodes}
use Rattle.gg_compile_law.specs.Assembled as assembled

-- ---- the mask has each kept register that the body names

is_kept_so : (r : ℕ) → 2 ≤ r → r < 12 → is_kept r ≡ true
is_kept_so r low high = rw (le-leb 2 r low, lt-ltb r 12 high) refl

unnamed_by : (b : Bool) (k : ℕ) → k ≡ truth b → eqb k 1 ≡ false → b ≡ false
unnamed_by false k e f = refl
unnamed_by true k e f = absurd (true≢false (sym (ap (λ (n : ℕ). eqb n 1) e) ∙ f))

unnamed : (mask : ℕ) (body : List CodeItem) → IsMaskOf mask body → (r : ℕ) → 2 ≤ r → r < 12 → has mask r ≡ false → body_names body r ≡ false
unnamed mask body h r low high out = unnamed_by (body_names body r) (bit_at mask r) (h r ∙ ap (λ (b : Bool). truth (b && body_names body r)) (is_kept_so r low high)) out

-- no register of r2 to r11 outside a mask is named by a part of a body
abbrev AreUnnamed : ℕ → List CodeItem → Type 0
AreUnnamed mask xs = (r : ℕ) → 2 ≤ r → r < 12 → has mask r ≡ false → body_names xs r ≡ false

front_only : (mask : ℕ) (is : List Instr) (rest : List CodeItem) → AreUnnamed mask (code_items is ++ rest) → NamesOnly mask is × AreUnnamed mask rest
front_only mask [] rest h = (tt, h)
front_only mask (i ∷ is) rest h =
    let more = front_only mask is rest (λ r low high out. (or_parts (operands_name i.operands r) (body_names (code_items is ++ rest) r) (h r low high out)).1) in
    ((λ r low high out. (or_parts (operands_name i.operands r) (body_names (code_items is ++ rest) r) (h r low high out)).0, more.0), more.1)

-- ---- instructions of the body

abbrev AreAmong : List CodeItem → List CodeItem → Type 0
AreAmong body xs = (x : CodeItem) → IsIn x xs → IsIn x body

front_in : (body : List CodeItem) (is : List Instr) (rest : List CodeItem) → AreAmong body (code_items is ++ rest) → All (λ (i : Instr). IsIn (item_kind.Instr i) body) is × AreAmong body rest
front_in body [] rest h = (tt, h)
front_in body (i ∷ is) rest h = let more = front_in body is rest (λ x at. h x (inr at)) in ((h (item_kind.Instr i) (inl refl), more.0), more.1)

module _ (program : TreeProgram) (g : TreeFn) (words mask : ℕ) (body : List CodeItem) (wanted : WantedStand g) where
  abbrev homes : List Home
  homes = homes_of g.wanted body

  abbrev layout : FrameLayout
  layout = record { words = words; mask = mask; homes = homes }

  are : AreHomes g body
  are = homes_stand g body wanted

  tree_code : (is : List TreeItem) (part : List CodeItem) → IsPlainCode program g words is part → AreAmong body part → AreUnnamed mask (map (homed_item homes) part)
      → IsTreeCode program g layout is (map (homed_item homes) part)
  tree_code is part assembled.plain_nothing among named = assembled.nothing
  tree_code is part (assembled.plain_label l js rest h) among named =
      assembled.label l js (map (homed_item homes) rest) (tree_code js rest h (λ x at. among x (inr at)) named)
  tree_code is part (assembled.plain_root w js instrs rest effect plain h) among named =
      let split = (homed_bodies_are_like homes rest).behind instrs in
      let there = front_in body instrs rest among in
      let only = front_only mask (homed_code layout instrs) (map (homed_item homes) rest) (subst (AreUnnamed mask) split named) in
      subst (IsTreeCode program g layout is) (sym split)
      (assembled.root w js instrs (map (homed_item homes) rest) (record { effect = effect; ready = are.ready instrs there.0 plain; named = only.0 })
      (tree_code js rest h there.1 only.1))

pub frames_are_function_codes : FramesAreFunctionCodes
frames_are_function_codes program g words body code locals few wanted is_body h =
    let y : FrameLayout = record { words = words; mask = h.mask; homes = homes_of g.wanted body } in
    let are_so : AreHomes g body = homes_stand g body wanted in
    record {
      layout = y;
      body = homed g.wanted body;
      locals = locals;
      few = few;
      is_mask = mask_is g.name words (homed g.wanted body) code h;
      are_homes = record { paired = are_so.paired; fits = are_so.locals };
      is_body = tree_code program g words h.mask body wanted g.items body is_body (λ x at. at) (unnamed h.mask (homed g.wanted body) h.is_mask);
      part_is = h.code_is;
    }

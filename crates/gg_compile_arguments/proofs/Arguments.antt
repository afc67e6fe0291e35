-- An argument comes into an operand by an Arg token alone.
use Rattle.std.proofs.Common.{◌≡◌, ℕ, zero, suc, ◌-◌, ◌*◌, ◌%◌, ◌<◌, ◌==◌, List, [], ◌∷◌, length, map, Option, Some, None, Bool, true, false, cond, refl, sym, ap, subst, ◌∙◌, arith, take}
use Rattle.std.specs.Prelude.{nat_lt, nat_le, ◌&&◌, slice_get, unwrap_or}
use Rattle.std.specs.List.{AllByRecursion as All}
use Rattle.std.proofs.lemmas.Bool.{leb-true, le-leb, ltb-true, lt-ltb, eq-eqb}
use Rattle.vax_target_meaning.specs.tree_core.specs.declared.token.Tok.{Tok}
use Rattle.vax_target_meaning.specs.tree_core.specs.declared.token.Tok.TheVariants as tok
use Rattle.vax_target_meaning.specs.tree_core.specs.declared.tree.Att.{Att}
use Rattle.vax_target_meaning.specs.tree_core.specs.declared.tree.Att.TheVariants as att
use Rattle.vax_target_meaning.specs.tree_core.specs.declared.tree.Leaf.{Leaf}
use Rattle.vax_target_meaning.specs.tree_core.specs.declared.program.TreeFn.{TreeFn}
use Rattle.vax_target_meaning.specs.tree_core.specs.declared.program.TreeProgram.{TreeProgram}
use Rattle.vax_target_meaning.specs.tree_core.specs.Valid.{leaf_names}
use Rattle.vax_target_meaning.specs.sel_target.specs.declared.attr.Attr.{Attr}
use Rattle.vax_target_meaning.specs.sel_target.specs.declared.attr.Attr.TheVariants as attr
use Rattle.vax_homes_items.specs.vax_homes_law.specs.vax_confined.specs.vax_core.specs.declared.register.Reg.{Reg}
use Rattle.vax_homes_items.specs.vax_homes_law.specs.vax_confined.specs.vax_core.specs.declared.operand.Addr.{Addr}
use Rattle.vax_homes_items.specs.vax_homes_law.specs.vax_confined.specs.vax_core.specs.declared.operand.Base.{Base}
use Rattle.vax_homes_items.specs.vax_homes_law.specs.vax_confined.specs.vax_core.specs.declared.operand.Base.TheVariants as bases
use Rattle.vax_homes_items.specs.vax_homes_law.specs.vax_confined.specs.vax_core.specs.declared.operand.Operand.{Operand}
use Rattle.vax_homes_items.specs.vax_homes_law.specs.vax_confined.specs.vax_core.specs.declared.code.Instr.{Instr}
use Rattle.vax_homes_items.specs.vax_homes_law.specs.vax_confined.specs.vax_core.specs.Registers.{reg_number}
use Rattle.vax_homes_items.specs.vax_homes_law.specs.vax_confined.specs.vax_core.specs.Homes.{home, at_home, argument_home}
use Rattle.vax_homes_items.specs.vax_homes_law.specs.vax_confined.specs.Confined.{is_argument}
use Rattle.vax_homes_items.specs.vax_homes_law.specs.Alike.{is_argument_of, FitsArguments}
use Rattle.vax_target_meaning.specs.vax_templates.specs.declared.form.Base.TheVariants as base
use Rattle.vax_target_meaning.specs.vax_templates.specs.declared.form.Base.{Base as FormBase}
use Rattle.vax_target_meaning.specs.vax_templates.specs.declared.form.Form.{Form}
use Rattle.vax_target_meaning.specs.vax_templates.specs.Instructions.{Instruction, Relation, Jump, Calls, Ret, Operates, instruction_of, shape_of_pieces}
use Rattle.vax_target_meaning.specs.vax_templates.specs.Filled.{spare, addr_number, numbered, register_in, attr_at, number_addr, word_operand, slot_operand, argument_deferred, slot_deferred}
use Rattle.vax_target_meaning.specs.vax_templates.specs.Filled.{leaf_operand, operand_in, leaf_deferred, deferred_in, filled_base, with_index, filled, filled_or_spare}
use Rattle.vax_target_meaning.specs.vax_templates.specs.FilledLines.{callee_among, call_of, filled_instruction}
use Rattle.vax_target_meaning.specs.Vax.{vax}
use Rattle.sel_parse_lines.specs.Claims.{IsFilled}
use Rattle.vax_homes_items.specs.Standing.{ArgumentsFit}
use Rattle.gg_compile_arguments.specs.Claims.{SelectedArgumentsFit}
use Rattle.gg_compile_arguments.proofs.Filling.{Lasts, selections_are_filled}

-- a register among r0 to r11 is not ap
not_ap : (n : ℕ) → n < 12 → (reg_number (numbered n) == 12) ≡ false
not_ap zero lt = refl
not_ap (suc zero) lt = refl
not_ap (suc (suc zero)) lt = refl
not_ap (suc (suc (suc zero))) lt = refl
not_ap (suc (suc (suc (suc zero)))) lt = refl
not_ap (suc (suc (suc (suc (suc zero))))) lt = refl
not_ap (suc (suc (suc (suc (suc (suc zero)))))) lt = refl
not_ap (suc (suc (suc (suc (suc (suc (suc zero))))))) lt = refl
not_ap (suc (suc (suc (suc (suc (suc (suc (suc zero)))))))) lt = refl
not_ap (suc (suc (suc (suc (suc (suc (suc (suc (suc zero))))))))) lt = refl
not_ap (suc (suc (suc (suc (suc (suc (suc (suc (suc (suc zero)))))))))) lt = refl
not_ap (suc (suc (suc (suc (suc (suc (suc (suc (suc (suc (suc zero))))))))))) lt = refl
not_ap (suc (suc (suc (suc (suc (suc (suc (suc (suc (suc (suc (suc n)))))))))))) lt = absurd (omega (arith, lt))

module _ (q : TreeProgram) (args : ℕ) where
  -- ---- operands

  -- the same as a test
  abbrev own_fits : Bool → Addr → Bool
  own_fits is_ap a = cond is_ap (cond (is_argument a) (is_argument_of args a) true) true

  abbrev fits : Base → Bool
  fits (bases.Disp a r) = own_fits (reg_number r == 12) a
  fits (bases.DispDef a r) = own_fits (reg_number r == 12) a
  fits b = true

  abbrev Fits : Operand → Type 0
  Fits o = fits o.base ≡ true

  own_means : (r : Reg) (a : Addr) → own_fits (reg_number r == 12) a ≡ true → (reg_number r ≡ 12) → is_argument a ≡ true → is_argument_of args a ≡ true
  own_means r a h e is =
      sym (ap (λ (b : Bool). cond b (is_argument_of args a) true) is)
      ∙ (sym (ap (λ (b : Bool). own_fits b a) (eq-eqb (reg_number r) 12 e)) ∙ h)

  base_means : (b : Base) → fits b ≡ true → FitsArguments args b
  base_means (bases.Disp a r) h = own_means r a h
  base_means (bases.DispDef a r) h = own_means r a h
  base_means (bases.Imm a) h = tt
  base_means (bases.Reg r) h = tt
  base_means (bases.Def r) h = tt
  base_means (bases.Inc r) h = tt
  base_means (bases.IncDef r) h = tt
  base_means (bases.Dec r) h = tt
  base_means (bases.Abs n) h = tt
  base_means (bases.Rel a) h = tt
  base_means (bases.RelDef a) h = tt

  -- ---- tokens

  abbrev token_fits : Tok → Att → Bool
  token_fits tok.Arg (att.Slot k) = nat_le k args
  token_fits t a = true

  abbrev good : Attr Operand → Bool
  good (attr.Reg r) = nat_lt r 12
  good (attr.InSlot w) = true
  good (attr.Value o) = fits o.base
  good (attr.Place o) = fits o.base
  good (attr.Con n) = true
  good (attr.Ea o) = fits o.base
  good (attr.Token l) = token_fits l.tok l.att
  good attr.Nothing = true

  abbrev Good : Attr Operand → Type 0
  Good a = good a ≡ true

  either_fits : (b : Bool) (x y : Operand) → Fits x → Fits y → Fits (cond b x y)
  either_fits true x y h k = h
  either_fits false x y h k = k

  word_fits : (k : ℕ) → Fits (word_operand k)
  word_fits k = either_fits (nat_lt k 1024) (home k) spare refl refl

  argument_fits : (k : ℕ) → nat_le k args ≡ true → own_fits true (addr_number (4 * k)) ≡ true
  argument_fits k h =
      let le = leb-true k args h in
      by (nat_le 4 (4 * k)) (nat_le (4 * k) 1020) (4 * k % 4 == 0) (nat_le (4 * k) (4 * args)) (le-leb (4 * k) (4 * args) (omega (arith, le)))
    where
      by : (a b c e : Bool) → e ≡ true → cond (a && (b && c)) (a && (e && c)) true ≡ true
      by false b c e is = refl
      by true false c e is = refl
      by true true false e is = refl
      by true true true true is = refl
      by true true true false is = absurd cc

  slot_fits : (t : Tok) (k : ℕ) → token_fits t (att.Slot k) ≡ true → Fits (slot_operand t k)
  slot_fits tok.Arg k h = either_fits (nat_le k 255) (argument_home k) spare (argument_fits k h) refl
  slot_fits t k h = word_fits k

  deferred_fits : (t : Tok) (k : ℕ) → token_fits t (att.Slot k) ≡ true → Fits (slot_deferred t k)
  deferred_fits tok.Arg k h = either_fits (nat_le k 255) (argument_deferred k) spare (argument_fits k h) refl
  deferred_fits t k h = either_fits (nat_lt k 1024) (at_home k) spare refl refl

  leaf_fits_so : (t : Tok) (a : Att) → token_fits t a ≡ true → Fits (leaf_operand q t a)
  leaf_fits_so t (att.Slot k) h = slot_fits t k h
  leaf_fits_so t att.Nothing h = refl
  leaf_fits_so t (att.Number n) h = refl
  leaf_fits_so t (att.Object object offset) h = refl
  leaf_fits_so t (att.Branch rel label) h = refl
  leaf_fits_so t (att.Label label) h = refl
  leaf_fits_so t (att.Callee function count) h = refl

  far_fits : (t : Tok) (a : Att) → token_fits t a ≡ true → Fits (leaf_deferred q t a)
  far_fits t (att.Slot k) h = deferred_fits t k h
  far_fits t att.Nothing h = refl
  far_fits t (att.Number n) h = refl
  far_fits t (att.Object object offset) h = refl
  far_fits t (att.Branch rel label) h = refl
  far_fits t (att.Label label) h = refl
  far_fits t (att.Callee function count) h = refl

  operand_fits : (a : Attr Operand) → Good a → Fits (operand_in q a)
  operand_fits (attr.Reg r) h = refl
  operand_fits (attr.InSlot w) h = word_fits w
  operand_fits (attr.Value o) h = h
  operand_fits (attr.Place o) h = h
  operand_fits (attr.Con n) h = refl
  operand_fits (attr.Ea o) h = h
  operand_fits (attr.Token l) h = leaf_fits_so l.tok l.att h
  operand_fits attr.Nothing h = refl

  held_fits : (a : Attr Operand) → Good a → Fits (deferred_in q a)
  held_fits (attr.Token l) h = far_fits l.tok l.att h
  held_fits (attr.Reg r) h = refl
  held_fits (attr.InSlot w) h = refl
  held_fits (attr.Value o) h = refl
  held_fits (attr.Place o) h = refl
  held_fits (attr.Con n) h = refl
  held_fits (attr.Ea o) h = refl
  held_fits attr.Nothing h = refl

  -- ---- holes

  get_good : (holes : List (Attr Operand)) (n : ℕ) (z : Attr Operand) → All Good holes → Good z → Good (unwrap_or (slice_get holes n) z)
  get_good [] zero z h k = k
  get_good [] (suc n) z h k = k
  get_good (a ∷ holes) zero z h k = h.0
  get_good (a ∷ holes) (suc n) z h k = get_good holes n z h.1 k

  either_good : (b : Bool) (x y : Attr Operand) → Good x → Good y → Good (cond b x y)
  either_good true x y h k = h
  either_good false x y h k = k

  at_good : (holes : List (Attr Operand)) (z : Attr Operand) (i : ℕ) → All Good holes → Good z → Good (attr_at holes z i)
  at_good holes z i h k = either_good (i == 0) z (unwrap_or (slice_get holes (i - 1)) z) k (get_good holes (i - 1) z h k)

  -- no register in a hole is ap
  hole_not_ap : (a : Attr Operand) → Good a → (reg_number (register_in a) == 12) ≡ false
  hole_not_ap (attr.Reg r) h = not_ap r (ltb-true r 12 h)
  hole_not_ap (attr.InSlot w) h = refl
  hole_not_ap (attr.Value o) h = refl
  hole_not_ap (attr.Place o) h = refl
  hole_not_ap (attr.Con n) h = refl
  hole_not_ap (attr.Ea o) h = refl
  hole_not_ap (attr.Token l) h = refl
  hole_not_ap attr.Nothing h = refl

  base_fits : (holes : List (Attr Operand)) (z : Attr Operand) (b : FormBase) → All Good holes → Good z → Fits (filled_base q holes z b)
  unfolding filled_base
  base_fits holes z base.RegisterZero h k = refl
  base_fits holes z (base.Hole i) h k = operand_fits (attr_at holes z i) (at_good holes z i h k)
  base_fits holes z (base.Immediate n) h k = refl
  base_fits holes z (base.Negative i) h k = refl
  base_fits holes z (base.RegisterDeferred i) h k = refl
  base_fits holes z (base.Displacement n i) h k = ap (λ (b : Bool). own_fits b (number_addr q holes z n)) (hole_not_ap (attr_at holes z i) (at_good holes z i h k))
  base_fits holes z (base.DisplacementDeferred n i) h k = ap (λ (b : Bool). own_fits b (number_addr q holes z n)) (hole_not_ap (attr_at holes z i) (at_good holes z i h k))
  base_fits holes z (base.Absolute n) h k = refl
  base_fits holes z (base.Deferred i) h k = held_fits (attr_at holes z i) (at_good holes z i h k)

  index_fits : (holes : List (Attr Operand)) (z : Attr Operand) (i : Option ℕ) (o : Operand) → Fits o → Fits (with_index holes z i o)
  index_fits holes z None o h = h
  index_fits holes z (Some i) o h = h

  filled_fits : (holes : List (Attr Operand)) (z : Attr Operand) (f : Form) → All Good holes → Good z → Fits (filled q holes z f)
  filled_fits holes z f h k = index_fits holes z f.index (filled_base q holes z f.base) (base_fits holes z f.base h k)

  shape_fits : (holes : List (Attr Operand)) (o : Option Form) → All Good holes → Fits (filled_or_spare q holes o)
  shape_fits holes None h = refl
  shape_fits holes (Some f) h = filled_fits holes attr.Nothing f h refl

  arguments_last : Lasts vax q good
  arguments_last = record {
    register = λ r lt. lt-ltb r 12 lt;
    in_slot = λ w. refl;
    number = λ n. refl;
    nothing = refl;
    slot_value = λ w. refl;
    slot_place = λ w. refl;
    deferred_place = λ w. refl;
    deferred_address = λ w. refl;
    shape_value = λ l hs h. shape_fits hs (shape_of_pieces l.pieces) h;
    shape_place = λ l hs h. shape_fits hs (shape_of_pieces l.pieces) h;
    shape_address = λ l hs h. shape_fits hs (shape_of_pieces l.pieces) h;
  }

  -- ---- instructions

  operands_fit : (holes : List (Attr Operand)) (z : Attr Operand) → All Good holes → Good z → (fs : List Form) → All (λ (o : Operand). FitsArguments args o.base) (map (filled q holes z) fs)
  operands_fit holes z h k [] = tt
  operands_fit holes z h k (f ∷ fs) = (base_means (filled q holes z f).base (filled_fits holes z f h k), operands_fit holes z h k fs)

  call_fits : (c : Option (ℕ × ℕ)) → ArgumentsFit args (call_of q c)
  call_fits None = tt
  call_fits (Some c) = (tt, tt)

  instruction_fits : (holes : List (Attr Operand)) (z : Attr Operand) → All Good holes → Good z → (i : Option Instruction) → ArgumentsFit args (filled_instruction q holes z i)
  instruction_fits holes z h k None = tt
  instruction_fits holes z h k (Some (Relation i)) = tt
  instruction_fits holes z h k (Some Jump) = tt
  instruction_fits holes z h k (Some Calls) = call_fits (callee_among holes)
  instruction_fits holes z h k (Some Ret) = tt
  instruction_fits holes z h k (Some (Operates op fs)) = operands_fit holes z h k (take 3 fs)

  all_fit : (is : List Instr) → All (IsFilled vax q good) is → All (ArgumentsFit args) is
  all_fit [] h = tt
  all_fit (i ∷ is) h = (
    subst (ArgumentsFit args) (sym h.0.is) (instruction_fits h.0.holes h.0.result h.0.holes_pass h.0.result_passes (instruction_of h.0.line.pieces)),
    all_fit is h.1,
  )

-- ---- leaves

named_fits : (q : TreeProgram) (g : TreeFn) (l : Leaf) → leaf_names q.functions (length q.objects) g l ≡ true → Good q g.args (attr.Token l)
named_fits q g l h = by l.tok l.att h
  where
    by : (t : Tok) (a : Att) → leaf_names q.functions (length q.objects) g (record { tok = t; att = a }) ≡ true → token_fits q g.args t a ≡ true
    by tok.Arg (att.Slot k) e = e
    by t a e = refl

all_named : (q : TreeProgram) (g : TreeFn) (w : List Leaf) → All (λ (l : Leaf). leaf_names q.functions (length q.objects) g l ≡ true) w → All (λ (l : Leaf). Good q g.args (attr.Token l)) w
all_named q g [] h = tt
all_named q g (l ∷ w) h = (named_fits q g l h.0, all_named q g w h.1)

pub selected_arguments_fit : SelectedArgumentsFit
selected_arguments_fit q g d first w instrs most named s =
    all_fit q g.args instrs (selections_are_filled vax q d first w instrs most (good q g.args) (arguments_last q g.args) (all_named q g w named) s)

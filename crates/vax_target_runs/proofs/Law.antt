-- Lines do what they are judged to do, one after another.
use Rattle.std.proofs.Common.{◌≡◌, ℕ, ◌^◌, ◌<◌, ◌⊎◌, inl, inr, ◌++◌, Bool, true, false, List, [], ◌∷◌, length, map, Option, Some, None}
use Rattle.std.proofs.Common.{Result, Ok, Err, refl, sym, ap, subst, ◌∙◌, arith, append-nil, get_or-set_same, get_or-set_other}
use Rattle.std.specs.Prelude.{slice_index, slice_set}
use Rattle.std.specs.List.{AllByRecursion}
use Rattle.gg_base.proofs.Facts.{err_ok, ok_same}
use Rattle.vax_target_lines.specs.md_reader_pieces.specs.declared.piece.Line.{Line}
use Rattle.vax_target_lines.specs.md_reader_pieces.specs.declared.piece.Piece.{Piece}
use Rattle.vax_target_lines.specs.term_core.specs.Shape.{Shape}
use Rattle.vax_target_lines.specs.sel_terms.specs.Effects.{ActShape, Return}
use Rattle.vax_target_lines.specs.sel_target.specs.declared.fault.TemplateKind.{TemplateKind}
use Rattle.vax_target_lines.specs.sel_target.specs.Meaning.{RegAt}
use Rattle.vax_target_lines.specs.sel_target.specs.Instances.{attr_touches}
use Rattle.vax_core.specs.declared.register.Reg.{Reg}
use Rattle.vax_core.specs.declared.register.Reg.TheVariants.{R0}
use Rattle.vax_core.specs.Registers.{reg_number}
use Rattle.vax_core.specs.declared.code.Instr.{Instr}
use Rattle.vax_target_lines.specs.vax_machine.specs.declared.function.Conditions.{Conditions}
use Rattle.vax_target_lines.specs.vax_machine.specs.State.{State, with_reg, with_conditions}
use Rattle.vax_target_lines.specs.vax_machine_lists.specs.Sound.{IsSound}
use Rattle.vax_target_lines.specs.vax_machine_lists.specs.Instructions.{Course, Ending, Comes, Goes, Calls, Returns, Stops, ends, comes, followed}
use Rattle.vax_target_lines.specs.vax_confined.specs.Confined.{performed, exec}
use Rattle.vax_target_lines.specs.vax_machine_lists.proofs.Soundness.{conditions_sound}
use Rattle.vax_target_lines.specs.vax_states.proofs.Keeping.{sound_register}
use Rattle.vax_target_lines.specs.vax_templates.specs.declared.setting.Hole.{Hole}
use Rattle.vax_target_lines.specs.vax_templates.specs.declared.setting.Own.TheVariants as own
use Rattle.vax_target_lines.specs.vax_templates.specs.declared.setting.Setting.{Setting}
use Rattle.vax_target_lines.specs.vax_templates.specs.Instructions.{Instruction, Ret, instruction_of}
use Rattle.vax_target_lines.specs.vax_templates.specs.Deeds.{Last, Plain, Compared, Tested, Returning, Ended, Deed, leaves}
use Rattle.vax_target_lines.specs.vax_templates.specs.Judging.{returned, did_behind, line_did, is_operand}
use Rattle.vax_target_lines.specs.vax_templates.specs.Judging as judging
use Rattle.vax_target_lines.specs.vax_templates.specs.Progress.{Progress, start, kept_or_put, progressed, at_line, kept, judged}
use Rattle.vax_target_lines.specs.vax_templates.specs.Progress.{lines_judged}
use Rattle.vax_target_lines.specs.vax_templates.specs.Filled.{register_in}
use Rattle.vax_target_lines.specs.vax_templates.specs.FilledLines.{filled_instruction, filled_line}
use Rattle.vax_target_lines.specs.vax_templates.proofs.Judgements.{read_is}
use Rattle.vax_target_lines.specs.vax_target_meaning.specs.Vax.{vax}
use Rattle.vax_target_lines.specs.vax_target_operands.specs.Scenes.{Scene, worth, role_at, filling_at, is_lost, Holds, Sees}
use Rattle.vax_target_lines.specs.vax_target_operands.proofs.Binds.{chained}
use Rattle.vax_target_lines.specs.vax_target_operands.proofs.Worths.{worth_small}
use Rattle.vax_target_lines.specs.Takings.{AreRead}
use Rattle.vax_target_lines.specs.Lines.{with_own, MayHold, GoesOn, DoesLine, EndIsRead, NoneIsZero}
use Rattle.vax_target_lines.proofs.Performing.{lines_do, returns_so}
use Rattle.vax_target_runs.specs.Kept.{Differs}
use Rattle.vax_target_runs.proofs.Seen.{means_kept}
use Rattle.vax_target_runs.specs.Runs.{OwnChanged, ZeroChanged, Changed, Reaches, IsReturn, EndsIn, ComesTo, RunsTo, IsApart, line_of, AllRead, IsCalm, LinesRun}

-- ---- states that differ

-- one change after another
joined : (a b e : ℕ → Type 0) (m n x : State) → ((r : ℕ) → a r → e r) → ((r : ℕ) → b r → e r) → Differs a m n → Differs b n x → Differs e m x
joined a b e m n x fa fb p q = record {
  registers = q.registers;
  conditions = q.conditions;
  is = q.is ∙ ap (λ (y : State). record y { registers = q.registers; conditions = q.conditions }) p.is;
  others = λ r off. q.others r (λ h. off (fb r h)) ∙ ap (λ (y : State). slice_index y.registers r) p.is ∙ p.others r (λ h. off (fa r h));
  sound = q.sound;
}

set_differs : (n : State) (r : Reg) (v : ℕ) (k : Conditions) → IsSound n → v < 2 ^ 32 → Differs (λ x. x ≡ reg_number r) n (with_conditions (with_reg n r v) k)
set_differs n r v k s small_v = record {
  registers = slice_set n.registers (reg_number r) v;
  conditions = k;
  is = refl;
  others = λ x off. get_or-set_other n.registers (reg_number r) x v 0 (λ q. off (let e : x ≡ reg_number r = omega (arith, q) in e));
  sound = conditions_sound (with_reg n r v) k (sound_register n (reg_number r) v s small_v);
}

codes_differ : (n : State) (k : Conditions) → IsSound n → Differs (λ x. ⊥) n (with_conditions n k)
codes_differ n k s = record { registers = n.registers; conditions = k; is = refl; others = λ r off. refl; sound = conditions_sound n k s }

-- ---- courses

ending_none : (w : List ℕ) (e : Ending) → followed (record { written = w; ending = e }) [] (exec []) ≡ record { written = w; ending = e }
ending_none w (Comes m) = ap (λ (l : List ℕ). record { written = l; ending = Comes m }) (append-nil w)
ending_none w (Goes label m) = ap (λ (l : List ℕ). record { written = l; ending = Goes label m }) (append-nil w)
ending_none w (Calls name count m rest) = λ i. record { written = append-nil w i; ending = Calls name count m (append-nil rest i) }
ending_none w (Returns m) = ap (λ (l : List ℕ). record { written = l; ending = Returns m }) (append-nil w)
ending_none w (Stops e) = ap (λ (l : List ℕ). record { written = l; ending = Stops e }) (append-nil w)

pub followed_none : (d : Course) → followed d [] (exec []) ≡ d
followed_none d = ending_none d.written d.ending

-- ---- judgements

-- a line that was judged
pub record IsJudged (s : Setting) (roles : List Hole) (is_first : Bool) (l : Line) (p q : Progress) : Type 0 where
  pub deed : Deed
  pub did : line_did s roles is_first p.own p.last l.pieces ≡ Ok deed
  pub is : progressed l.line p deed ≡ q

pub at_line_is : {A : Type 0} (line : ℕ) (r : Result A TemplateKind) (x : A) → at_line line r ≡ Ok x → r ≡ Ok x
at_line_is line (Ok y) x e = ap (λ z. Ok z) (ok_same y x e)
at_line_is line (Err k) x e = absurd (err_ok _ x e)

pub judged_is : (s : Setting) (roles : List Hole) (is_first : Bool) (l : Line) (p q : Progress) → judged s roles is_first l p ≡ Ok q → IsJudged s roles is_first l p q
judged_is s roles is_first l p q e =
    let d = chained (at_line l.line (line_did s roles is_first p.own p.last l.pieces)) (kept l.line p) q e in
    record { deed = d.first; did = at_line_is l.line (line_did s roles is_first p.own p.last l.pieces) d.first d.is; is = ok_same (progressed l.line p d.first) q d.then_so }

all_front : {A : Type 0} (P : A → Type 0) (xs ys : List A) → AllByRecursion P (xs ++ ys) → AllByRecursion P xs
all_front P [] ys h = tt
all_front P (x ∷ xs) ys h = (h.0, all_front P xs ys h.1)

all_back : {A : Type 0} (P : A → Type 0) (xs ys : List A) → AllByRecursion P (xs ++ ys) → AllByRecursion P ys
all_back P [] ys h = h
all_back P (x ∷ xs) ys h = all_back P xs ys h.1

module _ (c : Scene) where
  -- what holds of all that lines read holds of what was read before
  pub reads_before : (ls : List Line) (is_first : Bool) (p q : Progress) → lines_judged c.setting c.roles is_first p ls ≡ Ok q → AllRead c q.reads → AllRead c p.reads
  reads_before [] is_first p q e h = subst (λ (x : Progress). AllRead c x.reads) (sym (ok_same p q e)) h
  reads_before (l ∷ ls) is_first p q e h =
      let d = chained (judged c.setting c.roles is_first l p) (λ (x : Progress). lines_judged c.setting c.roles false x ls) q e in
      let j = judged_is c.setting c.roles is_first l p d.first d.is in
      all_front (λ (r : ℕ × List Shape). AreRead c r.1) p.reads ((l.line, j.deed.reads) ∷ []) (subst (λ (x : Progress). AllRead c x.reads) (sym j.is) (reads_before ls false d.first q d.then_so h))

  pub divisors_before : (ls : List Line) (is_first : Bool) (p q : Progress) → lines_judged c.setting c.roles is_first p ls ≡ Ok q → NoneIsZero c q.divisors → NoneIsZero c p.divisors
  divisors_before [] is_first p q e h = subst (λ (x : Progress). NoneIsZero c x.divisors) (sym (ok_same p q e)) h
  divisors_before (l ∷ ls) is_first p q e h =
      let d = chained (judged c.setting c.roles is_first l p) (λ (x : Progress). lines_judged c.setting c.roles false x ls) q e in
      let j = judged_is c.setting c.roles is_first l p d.first d.is in
      all_front (λ (w : Shape). worth c w ≡ 0 → ⊥) p.divisors j.deed.divisors (subst (λ (x : Progress). NoneIsZero c x.divisors) (sym j.is) (divisors_before ls false d.first q d.then_so h))

  -- nothing stands behind a deed
  nothing_behind : (is_first : Bool) (held : Option Shape) (deed : ActShape) (ps : List Piece) (d : Deed) → line_did c.setting c.roles is_first held (Ended deed) ps ≡ Ok d → ⊥
  unfolding line_did
  nothing_behind is_first held deed ps d e =
      let i = chained (judging.read (instruction_of ps)) (did_behind c.setting c.roles is_first held (Ended deed)) d e in
      err_ok _ d i.then_so

  pub closed : (ls : List Line) (is_first : Bool) (p q : Progress) (deed : ActShape) → p.last ≡ Ended deed → lines_judged c.setting c.roles is_first p ls ≡ Ok q → (ls ≡ []) × (q.last ≡ Ended deed)
  closed [] is_first p q deed is e = (refl, ap (λ (x : Progress). x.last) (sym (ok_same p q e)) ∙ is)
  closed (l ∷ ls) is_first p q deed is e =
      let d = chained (judged c.setting c.roles is_first l p) (λ (x : Progress). lines_judged c.setting c.roles false x ls) q e in
      let j = judged_is c.setting c.roles is_first l p d.first d.is in
      absurd (nothing_behind is_first p.own deed l.pieces j.deed (subst (λ x. line_did c.setting c.roles is_first p.own x l.pieces ≡ Ok j.deed) is j.did))

  -- `ret` stands behind a value that is to be returned
  abbrev Leaves : Shape → State → Deed → Course → Type 0
  Leaves t n d did = (d.last ≡ Ended (Return t)) × (did ≡ ends (Returns n))

  returned_leaves : (t : Shape) (n : State) (i : Instruction) (d : Deed) → returned t i ≡ Ok d → Leaves t n d (performed (filled_instruction c.program c.holes c.own (Some i)) n)
  returned_leaves t n Ret d e = (ap (λ (x : Deed). x.last) (sym (ok_same (leaves (Ended (Return t))) d e)), returns_so n)
  returned_leaves t n _ d e = absurd (err_ok _ d e)

  returning_leaves : (is_first : Bool) (held : Option Shape) (t : Shape) (n : State) (ps : List Piece) (d : Deed) → line_did c.setting c.roles is_first held (Returning t) ps ≡ Ok d →
      Leaves t n d (performed (filled_line c.program ps c.holes c.own) n)
  unfolding line_did
  returning_leaves is_first held t n ps d e =
      let i = chained (judging.read (instruction_of ps)) (did_behind c.setting c.roles is_first held (Returning t)) d e in
      subst (λ o. Leaves t n d (performed (filled_instruction c.program c.holes c.own o) n)) (sym (read_is (instruction_of ps) i.first i.is)) (returned_leaves t n i.first d i.then_so)

-- ---- a line behind others

module _ (c : Scene) (m : State) (apart : IsApart c) (low : reg_number (register_in c.own) < 12) where
  -- a line does not end the template
  abbrev pub IsOpen : Last → Type 0
  IsOpen (Ended deed) = ⊥
  IsOpen l = Unit {0}

  lost_so : (held : Option Shape) → is_lost c held ≡ true → c.setting.is_reused ≡ true
  lost_so None e = cc
  lost_so (Some t) e = e

  holds_kept : (held : Option Shape) (n : State) (k : Conditions) → Holds c n held → Holds c (with_conditions n k) held
  holds_kept None n k h = h
  holds_kept (Some t) n k h = h

  own_step : (o : Option Shape) (n : State) (k : Conditions) → IsSound n → Differs (OwnChanged c o) n (with_conditions (with_own c n o) k)
  own_step None n k s = codes_differ n k s
  own_step (Some t) n k s = set_differs n (register_in c.own) (worth c t) k s (worth_small c t)

  -- the register of `%0` is no operand's
  is_off : c.setting.own ≡ own.Register → (i : ℕ) → (c.setting.is_reused ≡ true → is_operand (role_at c i) ≡ false) → is_operand (role_at c i) ≡ true → (x : ℕ) → x ≡ reg_number (register_in c.own) →
      attr_touches vax (filling_at c i) (RegAt x) ≡ false
  is_off may i free op x e = by c.setting.is_reused refl where
    by : (b : Bool) → c.setting.is_reused ≡ b → attr_touches vax (filling_at c i) (RegAt x) ≡ false
    by true is = absurd (let r : true ≡ false = sym op ∙ free is in cc)
    by false is = ap (λ y. attr_touches vax (filling_at c i) (RegAt y)) e ∙ apart may is i op

  sees_own : (held o : Option Shape) (n : State) (k : Conditions) → MayHold c o → Sees c held n → Sees c (kept_or_put held o) (with_conditions (with_own c n o) k)
  sees_own held None n k may h = record {
    sound = conditions_sound n k h.sound;
    area = h.area;
    means = λ i free. means_kept c (λ x. ⊥) n (with_conditions n k) (codes_differ n k h.sound) (λ x e. absurd e) (role_at c i) i (filling_at c i) (λ op x e. absurd e) (h.means i free);
    own_is = h.own_is;
    holds = holds_kept held n k h.holds;
    answered = h.answered;
  }
  sees_own held (Some t) n k may h =
      let d = set_differs n (register_in c.own) (worth c t) k h.sound (worth_small c t) in
      record {
        sound = d.sound;
        area = h.area;
        means = λ i free. means_kept c (λ x. x ≡ reg_number (register_in c.own)) n (with_conditions (with_own c n (Some t)) k) d (λ x e. subst (λ y. y < 12) (sym e) low) (role_at c i) i
            (filling_at c i) (is_off may i free) (h.means i (λ lost. free (lost_so held lost)));
        own_is = h.own_is;
        holds = get_or-set_same n.registers (reg_number (register_in c.own)) (worth c t) 0 (omega (arith, low, h.sound.registers));
        answered = λ o none. cc;
      }

  own_after : (held o : Option Shape) (r : ℕ) → OwnChanged c o r → OwnChanged c (kept_or_put held o) r
  own_after held None r e = absurd e
  own_after held (Some t) r e = e

  own_before : (held o : Option Shape) (r : ℕ) → OwnChanged c held r → OwnChanged c (kept_or_put held o) r
  own_before None o r e = absurd e
  own_before (Some s) None r e = e
  own_before (Some s) (Some t) r e = e

  abbrev IsReturned : Last → Type 0
  IsReturned (Ended deed) = IsReturn deed
  IsReturned l = ⊥

  -- what a line behind others did
  record LineRan (held : Option Shape) (l0 : Last) (n : State) (o : Option Shape) (l : Last) (did : Course) : Type 0 where
    does : DoesLine c n o did l
    seen : IsOpen l → Sees c held n
    quiet : IsOpen l → (r : ℕ) → ZeroChanged l0 r → ⊥
    settled : IsReturned l ⊎ ((r : ℕ) → ZeroChanged l0 r → ⊥)

  before : (held o : Option Shape) (l0 l : Last) → ((r : ℕ) → ZeroChanged l0 r → ⊥) → (r : ℕ) → Changed c held l0 r → Changed c (kept_or_put held o) l r
  before held o l0 l quiet r (inl e) = inl (own_before held o r e)
  before held o l0 l quiet r (inr e) = absurd (quiet r e)

  goes_plain : (held o : Option Shape) (l0 l : Last) (n : State) (k : Conditions) → Reaches c held l0 m n → Sees c held n → ((r : ℕ) → ZeroChanged l0 r → ⊥) →
      Differs (Changed c (kept_or_put held o) l) m (with_conditions (with_own c n o) k)
  goes_plain held o l0 l n k r h quiet =
      joined (Changed c held l0) (OwnChanged c o) (Changed c (kept_or_put held o) l) m n (with_conditions (with_own c n o) k) (before held o l0 l quiet) (λ x e. inl (own_after held o x e))
      r.differs (own_step o n k h.sound)

  goes_returning : (held o : Option Shape) (l0 : Last) (t : Shape) (n : State) (k : Conditions) → Reaches c held l0 m n → Sees c held n → ((r : ℕ) → ZeroChanged l0 r → ⊥) →
      Differs (Changed c (kept_or_put held o) (Returning t)) m (with_conditions (with_reg (with_own c n o) R0 (worth c t)) k)
  goes_returning held o l0 t n k r h quiet =
      let first = goes_plain held o l0 (Returning t) n n.conditions r h quiet in
      joined (Changed c (kept_or_put held o) (Returning t)) (λ x. x ≡ 0) (Changed c (kept_or_put held o) (Returning t)) m (with_conditions (with_own c n o) n.conditions)
      (with_conditions (with_reg (with_own c n o) R0 (worth c t)) k) (λ x e. e) (λ x e. inr e) first
      (again (set_differs (with_conditions (with_own c n o) n.conditions) R0 (worth c t) k first.sound (worth_small c t)))
    where
      again : Differs (λ x. x ≡ 0) (with_conditions (with_own c n o) n.conditions) (with_conditions (with_reg (with_conditions (with_own c n o) n.conditions) R0 (worth c t)) k) →
          Differs (λ x. x ≡ 0) (with_conditions (with_own c n o) n.conditions) (with_conditions (with_reg (with_own c n o) R0 (worth c t)) k)
      again d = d

  fifteen : (o : Option Shape) (n : State) → IsSound n → 0 < length (with_own c n o).registers
  fifteen o n s = let d = own_step o n n.conditions s in let e = d.sound.registers in omega (arith, e)

  may_after : (held o : Option Shape) → MayHold c held → MayHold c o → MayHold c (kept_or_put held o)
  may_after held None h g = h
  may_after held (Some t) h g = g

  -- where a line goes on
  next : (held o : Option Shape) (l0 l : Last) (n : State) (did : Course) → Reaches c held l0 m n → LineRan held l0 n o l did → IsOpen l → ComesTo c (kept_or_put held o) l m did
  next held o l0 Plain n did r x open_ = made x.does where
    made : GoesOn c n o Plain did → ComesTo c (kept_or_put held o) Plain m did
    made g = record {
      state = with_conditions (with_own c n o) g.conditions;
      is = g.is;
      reaches =
          record {
            differs = goes_plain held o l0 Plain n g.conditions r (x.seen tt) (x.quiet tt);
            codes = g.codes_mean;
            zero_holds = tt;
            sees =
                sees_own held o n g.conditions g.may (x.seen tt);
            may = may_after held o r.may g.may;
          };
    }
  next held o l0 (Compared a b) n did r x open_ = made x.does where
    made : GoesOn c n o (Compared a b) did → ComesTo c (kept_or_put held o) (Compared a b) m did
    made g = record {
      state = with_conditions (with_own c n o) g.conditions;
      is = g.is;
      reaches =
          record {
            differs = goes_plain held o l0 (Compared a b) n g.conditions r (x.seen tt) (x.quiet tt);
            codes = g.codes_mean;
            zero_holds = tt;
            sees =
                sees_own held o n g.conditions g.may (x.seen tt);
            may = may_after held o r.may g.may;
          };
    }
  next held o l0 (Tested t) n did r x open_ = made x.does where
    made : GoesOn c n o (Tested t) did → ComesTo c (kept_or_put held o) (Tested t) m did
    made g = record {
      state = with_conditions (with_own c n o) g.conditions;
      is = g.is;
      reaches =
          record {
            differs = goes_plain held o l0 (Tested t) n g.conditions r (x.seen tt) (x.quiet tt);
            codes = g.codes_mean;
            zero_holds = tt;
            sees =
                sees_own held o n g.conditions g.may (x.seen tt);
            may = may_after held o r.may g.may;
          };
    }
  next held o l0 (Returning t) n did r x open_ = made x.does where
    made : GoesOn c n o (Returning t) did → ComesTo c (kept_or_put held o) (Returning t) m did
    made g = record {
      state = with_conditions (with_reg (with_own c n o) R0 (worth c t)) g.conditions;
      is = g.is;
      reaches = record {
        differs = goes_returning held o l0 t n g.conditions r (x.seen tt) (x.quiet tt);
        codes = tt;
        zero_holds = (get_or-set_same (with_own c n o).registers 0 (worth c t) 0 (fifteen o n (x.seen tt).sound), g.last_may);
        sees = tt;
        may = may_after held o r.may g.may;
      };
    }
  next held o l0 (Ended deed) n did r x open_ = absurd open_

  -- a line behind others
  line_ran : (held : Option Shape) (l0 : Last) (is_first : Bool) (n : State) (ps : List Piece) (d : Deed) → Reaches c held l0 m n → IsOpen l0 →
      line_did c.setting c.roles is_first held l0 ps ≡ Ok d → AreRead c d.reads → EndIsRead c d.last → NoneIsZero c d.divisors →
      LineRan held l0 n d.own d.last (performed (filled_line c.program ps c.holes c.own) n)
  line_ran held Plain is_first n ps d r op e reads ends_read some = record {
    does = lines_do c held n is_first Plain ps d r.sees r.codes r.zero_holds e reads ends_read some;
    seen = λ o. r.sees;
    quiet = λ o x z. z;
    settled = inr (λ x z. z);
  }
  line_ran held (Compared a b) is_first n ps d r op e reads ends_read some = record {
    does = lines_do c held n is_first (Compared a b) ps d r.sees r.codes r.zero_holds e reads ends_read some;
    seen = λ o. r.sees;
    quiet = λ o x z. z;
    settled = inr (λ x z. z);
  }
  line_ran held (Tested t) is_first n ps d r op e reads ends_read some = record {
    does = lines_do c held n is_first (Tested t) ps d r.sees r.codes r.zero_holds e reads ends_read some;
    seen = λ o. r.sees;
    quiet = λ o x z. z;
    settled = inr (λ x z. z);
  }
  line_ran held (Returning t) is_first n ps d r op e reads ends_read some =
      let x = returning_leaves c is_first held t n ps d e in
      subst (λ l. LineRan held (Returning t) n d.own l (performed (filled_line c.program ps c.holes c.own) n)) (sym x.0)
      (record { does = (inl r.zero_holds.1, (x.1, r.zero_holds.0)); seen = λ o. absurd o; quiet = λ o. absurd o; settled = inl tt })
  line_ran held (Ended deed) is_first n ps d r op e reads ends_read some = absurd op

  -- where no line is left
  abbrev Ended_in : Progress → Course → Type 0
  Ended_in q did = RunsTo c q.own m did q.last

  none_left : (o : Option Shape) (l : Last) (n : State) → IsOpen l → Reaches c o l m n → RunsTo c o m (comes n) l
  none_left o Plain n op r = record { state = n; is = refl; reaches = r }
  none_left o (Compared a b) n op r = record { state = n; is = refl; reaches = r }
  none_left o (Tested t) n op r = record { state = n; is = refl; reaches = r }
  none_left o (Returning t) n op r = record { state = n; is = refl; reaches = r }
  none_left o (Ended deed) n op r = absurd op

  -- the terms of a last line's deed can be read
  ends_so : (l : Last) (q : Progress) → IsCalm c q → ((deed : ActShape) → l ≡ Ended deed → q.last ≡ Ended deed) → EndIsRead c l
  ends_so Plain q h same = λ is. tt
  ends_so (Compared a b) q h same = λ is. tt
  ends_so (Tested t) q h same = λ is. tt
  ends_so (Returning t) q h same = λ is. tt
  ends_so (Ended deed) q h same = subst (EndIsRead c) (same deed refl) h.ends_read

  -- a line is done, and the others behind it
  goes_on : (held o : Option Shape) (l0 l : Last) (n : State) (did : Course) (rest : List Instr) (q : Progress) → Reaches c held l0 m n → LineRan held l0 n o l did →
      ((k : State) → IsOpen l → Reaches c (kept_or_put held o) l m k → Ended_in q (exec rest k)) → ((deed : ActShape) → l ≡ Ended deed → (rest ≡ []) × (q.last ≡ Ended deed)) →
      Ended_in q (followed did rest (exec rest))
  goes_on held o l0 Plain n did rest q r x more end =
      let y = next held o l0 Plain n did r x tt in subst (λ d. Ended_in q (followed d rest (exec rest))) (sym y.is) (more y.state tt y.reaches)
  goes_on held o l0 (Compared a b) n did rest q r x more end =
      let y = next held o l0 (Compared a b) n did r x tt in subst (λ d. Ended_in q (followed d rest (exec rest))) (sym y.is) (more y.state tt y.reaches)
  goes_on held o l0 (Tested t) n did rest q r x more end =
      let y = next held o l0 (Tested t) n did r x tt in subst (λ d. Ended_in q (followed d rest (exec rest))) (sym y.is) (more y.state tt y.reaches)
  goes_on held o l0 (Returning t) n did rest q r x more end =
      let y = next held o l0 (Returning t) n did r x tt in subst (λ d. Ended_in q (followed d rest (exec rest))) (sym y.is) (more y.state tt y.reaches)
  goes_on held o l0 (Ended deed) n did rest q r x more end =
      let y = end deed refl in
      subst (λ l. RunsTo c q.own m (followed did rest (exec rest)) l) (sym y.1)
      (subst (λ is. EndsIn c m deed (followed did is (exec is))) (sym y.0)
      (subst (EndsIn c m deed) (sym (followed_none did)) (record { own_is = held; last = l0; state = n; reaches = r; may = x.does.0; settled = x.settled; does = x.does.1 })))

  pub all_run : (ls : List Line) (is_first : Bool) (p q : Progress) (n : State) → lines_judged c.setting c.roles is_first p ls ≡ Ok q → IsOpen p.last → Reaches c p.own p.last m n → IsCalm c q →
      NoneIsZero c q.divisors → Ended_in q (exec (map (line_of c) ls) n)
  all_run [] is_first p q n e op r calm some = subst (λ x. Ended_in x (comes n)) (ok_same p q e) (none_left p.own p.last n op r)
  all_run (l ∷ ls) is_first p q n e op r calm some =
      let d = chained (judged c.setting c.roles is_first l p) (λ (x : Progress). lines_judged c.setting c.roles false x ls) q e in
      let j = judged_is c.setting c.roles is_first l p d.first d.is in
      let then_so = subst (λ x. lines_judged c.setting c.roles false x ls ≡ Ok q) (sym j.is) d.then_so in
      let reads = (all_back (λ (x : ℕ × List Shape). AreRead c x.1) p.reads ((l.line, j.deed.reads) ∷ []) (reads_before c ls false (progressed l.line p j.deed) q then_so calm.reads)).0 in
      let divisors = all_back (λ (w : Shape). worth c w ≡ 0 → ⊥) p.divisors j.deed.divisors (divisors_before c ls false (progressed l.line p j.deed) q then_so some) in
      let shut = λ (deed : ActShape) (is : j.deed.last ≡ Ended deed). closed c ls false (progressed l.line p j.deed) q deed is then_so in
      let x = line_ran p.own p.last is_first n l.pieces j.deed r op j.did reads (ends_so j.deed.last q calm (λ deed is. (shut deed is).1)) divisors in
      goes_on p.own j.deed.own p.last j.deed.last n (performed (line_of c l) n) (map (line_of c) ls) q r x
      (λ k open_ reaches. all_run ls false (progressed l.line p j.deed) q k then_so open_ reaches calm some)
      (λ deed is. (ap (map (line_of c)) (shut deed is).0, (shut deed is).1))

-- where no line is done yet
pub begins : (c : Scene) (m : State) → Sees c None m → Reaches c None Plain m m
begins c m h = record {
  differs = record { registers = m.registers; conditions = m.conditions; is = refl; others = λ r off. refl; sound = h.sound };
  codes = tt;
  zero_holds = tt;
  sees = h;
  may = tt;
}

pub lines_run : LinesRun
lines_run c m ls p h apart low e calm some = all_run c m apart low ls true start p m e tt (begins c m h) calm some

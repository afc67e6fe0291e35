-- The lines of a template do what they are judged to do, one after another.
use Rattle.std.proofs.Common.{◌≡◌, ℕ, inl, inr, ◌<◌, Bool, true, false, cond, Option, Some, None, Ok, Err, List, [], ◌∷◌, map, refl, sym, ap, append-nil, subst, ◌∙◌}
use Rattle.gg_base.proofs.Facts.{err_ok, ok_same}
use Rattle.l32_target_lines.specs.judging_laws.specs.md_reader_pieces.specs.declared.piece.Piece.{Piece}
use Rattle.l32_target_lines.specs.judging_laws.specs.md_reader_pieces.specs.declared.piece.Line.{Line}
use Rattle.l32_target_lines.specs.judging_laws.specs.term_core.specs.Shape.{Shape}
use Rattle.l32_target_lines.specs.judging_laws.specs.sel_terms.specs.Effects.{ActShape, Return}
use Rattle.l32_target_lines.specs.judging_laws.specs.sel_target.specs.declared.fault.TemplateKind.TheVariants.{NotInstr}
use Rattle.l32_target_lines.specs.judging_laws.specs.sel_target.specs.Courses.{Course, Ending, Comes, Goes, Calls, Returns, Traps, Breaks, ends, comes, followed}
use Rattle.l32_target_lines.specs.judging_laws.specs.sel_target.specs.Meaning.{RegAt}
use Rattle.l32_target_lines.specs.judging_laws.specs.sel_target.specs.Instances.{attr_touches}
use Rattle.l32_target_lines.specs.judging_laws.specs.sel_target.specs.Outcomes.{Keeps}
use Rattle.l32_target_lines.specs.judging_laws.specs.vax_templates.specs.declared.setting.Own.TheVariants as own
use Rattle.l32_target_lines.specs.judging_laws.specs.vax_templates.specs.Judging.{is_operand}
use Rattle.l32_target_lines.specs.judging_laws.specs.vax_templates.specs.Deeds as deeds
use Rattle.l32_target_lines.specs.judging_laws.specs.vax_templates.specs.Deeds.{Last, Plain, Compared, Tested, Returning, Ended, Deed, leaves}
use Rattle.l32_target_lines.specs.judging_laws.specs.vax_templates.specs.Progress.{Progress, start, progressed, kept_or_put}
use Rattle.l32_target_lines.specs.judging_laws.specs.template_judging.specs.Lines.{lines_judged}
use Rattle.l32_target_lines.specs.judging_laws.proofs.Binds.{chained}
use Rattle.l32_target_lines.specs.l32_templates.specs.l32_core.specs.declared.op.Op32.{Op32}
use Rattle.l32_target_lines.specs.l32_templates.specs.l32_core.specs.declared.code.Instr32.{Instr32}
use Rattle.l32_target_lines.specs.l32_templates.specs.l32_machine.specs.State.{State, with_reg}
use Rattle.l32_target_lines.specs.l32_templates.specs.Instructions.{Instruction, Operates, instruction_of}
use Rattle.l32_target_lines.specs.l32_templates.specs.Judging.{is_ret, returned, did_behind, line_did}
use Rattle.l32_target_lines.specs.l32_templates.specs.Judging as judging
use Rattle.l32_target_lines.specs.l32_templates.specs.Filled.{register_in}
use Rattle.l32_target_lines.specs.l32_templates.specs.FilledLines.{with_operands, filled_instruction, filled_line}
use Rattle.l32_target_lines.specs.l32_target_meaning.specs.Running.{performed, run}
use Rattle.l32_target_lines.specs.l32_target_meaning.specs.L32.{l32}
use Rattle.l32_target_lines.specs.l32_target_operands.specs.Scenes.{Scene, worth, role_at, filling_at, is_lost, Sees}
use Rattle.l32_target_lines.specs.l32_target_operands.proofs.Worths.{worth_small}
use Rattle.l32_target_lines.specs.Takings.{AreRead}
use Rattle.l32_target_lines.specs.Lines.{with_own, MayHold, DoesLine, EndIsRead, NoneIsZero, IsSettled}
use Rattle.l32_target_lines.proofs.Table.{ret_is}
use Rattle.l32_target_lines.proofs.Performing.{read_is, returns_so, lines_do}
use Rattle.l32_states.proofs.Sound.{sound_register, reg_same}
use Rattle.judging_effects.proofs.Lines.{all_back, judged_is, reads_before, divisors_before, closed}
use Rattle.l32_target_runs.specs.Runs.{spots_of, Reaches, EndsIn, RunsTo, IsApart, line_of, IsCalm, LinesRun}
use Rattle.l32_target_runs.proofs.Kept.{register_keeps, all_kept, both_kept, none_then}
use Rattle.l32_target_runs.proofs.Seen.{means_kept}

-- ---- courses

ending_none : (w : List ℕ) (e : Ending Instr32 State) → followed (record { written = w; ending = e }) [] (run []) ≡ record { written = w; ending = e }
ending_none w (Comes m) = ap (λ (l : List ℕ). record { written = l; ending = Comes m }) (append-nil w)
ending_none w (Goes label m) = ap (λ (l : List ℕ). record { written = l; ending = Goes label m }) (append-nil w)
ending_none w (Calls name count m rest) = λ i. record { written = append-nil w i; ending = Calls name count m (append-nil rest i) }
ending_none w (Returns m) = ap (λ (l : List ℕ). record { written = l; ending = Returns m }) (append-nil w)
ending_none w Traps = ap (λ (l : List ℕ). record { written = l; ending = Traps }) (append-nil w)
ending_none w Breaks = ap (λ (l : List ℕ). record { written = l; ending = Breaks }) (append-nil w)

pub followed_none : (d : Course Instr32 State) → followed d [] (run []) ≡ d
followed_none d = ending_none d.written d.ending

-- ---- judgements

module _ (c : Scene) where
  -- nothing stands behind a deed
  nothing_behind : (is_first : Bool) (held : Option Shape) (deed : ActShape) (ps : List Piece) (d : Deed) → line_did c.setting c.roles is_first held (Ended deed) ps ≡ Ok d → ⊥
  unfolding line_did
  nothing_behind is_first held deed ps d e =
      let i = chained (judging.read (instruction_of ps)) (did_behind c.setting c.roles is_first held (Ended deed)) d e in
      err_ok _ d i.then_so

  -- `ret` stands behind a value that is to be returned
  abbrev Leaves : Shape → State → Deed → Course Instr32 State → Type 0
  Leaves t n d did = (d.last ≡ Ended (Return t)) × (did ≡ ends (Returns n))

  returned_leaves : (t : Shape) (n : State) (i : Instruction) (d : Deed) → returned t i ≡ Ok d → Leaves t n d (performed (filled_instruction c.program c.holes c.own (Some i)) n)
  returned_leaves t n (Operates op fs) d e = by (is_ret op) refl e where
    by : (b : Bool) → is_ret op ≡ b → cond b (deeds.ends (Return t)) (Err NotInstr) ≡ Ok d → Leaves t n d (performed (with_operands c.program c.holes c.own op fs) n)
    by true is e = (
      ap (λ (x : Deed). x.last) (sym (ok_same (leaves (Ended (Return t))) d e)),
      ap (λ (o : Op32). performed (with_operands c.program c.holes c.own o fs) n) (ret_is op is) ∙ returns_so c.program c.holes c.own fs n,
    )
    by false is e = absurd (err_ok _ d e)
  returned_leaves t n _ d e = absurd (err_ok _ d e)

  returning_leaves : (is_first : Bool) (held : Option Shape) (t : Shape) (n : State) (ps : List Piece) (d : Deed) → line_did c.setting c.roles is_first held (Returning t) ps ≡ Ok d →
      Leaves t n d (performed (filled_line c.program ps c.holes c.own) n)
  unfolding line_did
  returning_leaves is_first held t n ps d e =
      let i = chained (judging.read (instruction_of ps)) (did_behind c.setting c.roles is_first held (Returning t)) d e in
      subst (λ o. Leaves t n d (performed (filled_instruction c.program c.holes c.own o) n)) (sym (read_is (instruction_of ps) i.first i.is))
      (returned_leaves t n i.first d i.then_so)

module _ (c : Scene) (m : State) (settled : IsSettled c) (apart : IsApart c) (low : register_in c.own < 12) where
  -- ---- what lines lead to

  lost_so : (held : Option Shape) → is_lost c held ≡ true → c.setting.is_reused ≡ true
  lost_so None e = cc
  lost_so (Some t) e = e

  -- the register of `%0` is no operand's
  is_off : c.setting.own ≡ own.Register → (i : ℕ) → (c.setting.is_reused ≡ true → is_operand (role_at c i) ≡ false) → is_operand (role_at c i) ≡ true →
      attr_touches l32 (filling_at c i) (RegAt (register_in c.own)) ≡ false
  is_off may i free op = by c.setting.is_reused refl where
    by : (b : Bool) → c.setting.is_reused ≡ b → attr_touches l32 (filling_at c i) (RegAt (register_in c.own)) ≡ false
    by true is = absurd (let r : true ≡ false = sym op ∙ free is in cc)
    by false is = apart may is i op

  own_keeps : (n : State) (t : Shape) → Keeps l32 (RegAt (register_in c.own) ∷ []) n (with_reg n (register_in c.own) (worth c t))
  own_keeps n t = register_keeps n (register_in c.own) (worth c t) low (worth_small c t)

  sees_own : (held : Option Shape) (t : Shape) (n : State) → c.setting.own ≡ own.Register → Sees c held n → Sees c (Some t) (with_reg n (register_in c.own) (worth c t))
  sees_own held t n may h = record {
    sound = sound_register n (register_in c.own) (worth c t) h.sound (worth_small c t);
    area = h.area;
    means = λ i free. means_kept c n (with_reg n (register_in c.own) (worth c t)) (register_in c.own) (own_keeps n t) (role_at c i) i (filling_at c i) (is_off may i free)
        (h.means i (λ lost. free (lost_so held lost)));
    own_is = h.own_is;
    holds = reg_same n (register_in c.own) (worth c t) h.sound low;
    answered = λ o none. cc;
  }

  keeps_more : (held : Option Shape) (t : Shape) (n : State) → Keeps l32 (spots_of c held) m n → Keeps l32 (spots_of c (Some t)) m (with_reg n (register_in c.own) (worth c t))
  keeps_more None t n k = none_then (RegAt (register_in c.own) ∷ []) m n (with_reg n (register_in c.own) (worth c t)) k (own_keeps n t)
  keeps_more (Some s) t n k = both_kept (RegAt (register_in c.own) ∷ []) m n (with_reg n (register_in c.own) (worth c t)) k (own_keeps n t)

  -- what a line puts into `%0` leads on
  reaches_more : (held o : Option Shape) (n : State) → MayHold c o → Reaches c held m n → Reaches c (kept_or_put held o) m (with_own c n o)
  reaches_more held None n may r = r
  reaches_more held (Some t) n may r = record { keeps = keeps_more held t n r.keeps; sees = sees_own held t n may r.sees; may = may }

  -- where lines that left this have led
  abbrev At : Option Shape → Last → State → Type 0
  At o (Ended deed) n = ⊥
  At o (Returning t) n = (k : State) × Reaches c o m k × (n ≡ with_reg k 0 (worth c t)) × (c.setting.is_statement ≡ true)
  At o l n = Reaches c o m n

  abbrev Ended_in : Progress → Course Instr32 State → Type 0
  Ended_in q did = RunsTo c q.own m did q.last

  -- where no line is left
  none_left : (o : Option Shape) (l : Last) (n : State) → At o l n → RunsTo c o m (comes n) l
  none_left o Plain n r = record { state = n; is = refl; reaches = r }
  none_left o (Compared a b) n r = record { state = n; is = refl; reaches = r }
  none_left o (Tested t) n r = record { state = n; is = refl; reaches = r }
  none_left o (Returning t) n r = record { state = r.0; is = ap comes r.2; reaches = r.1; may = r.3 }
  none_left o (Ended deed) n r = absurd r

  -- the terms of a last line's deed can be read
  ends_so : (l : Last) (q : Progress) → IsCalm c q → ((deed : ActShape) → l ≡ Ended deed → q.last ≡ Ended deed) → EndIsRead c l
  ends_so (Ended deed) q h same = subst (EndIsRead c) (same deed refl) h.ends_read
  ends_so Plain q h same = λ is. tt
  ends_so (Compared a b) q h same = λ is. tt
  ends_so (Tested t) q h same = λ is. tt
  ends_so (Returning t) q h same = λ is. tt

  -- one line, and those behind it
  module _ (held o : Option Shape) (l : Last) (n : State) (did : Course Instr32 State) (rest : List Instr32) (q : Progress)
      (more : (k : State) → At (kept_or_put held o) l k → Ended_in q (run rest k)) (shut : (deed : ActShape) → l ≡ Ended deed → (rest ≡ []) × (q.last ≡ Ended deed)) where
    -- the run goes on behind it
    then_more : (k : State) → did ≡ comes k → At (kept_or_put held o) l k → Ended_in q (followed did rest (run rest))
    then_more k is at = subst (λ d. Ended_in q (followed d rest (run rest))) (sym is) (more k at)

    -- the run ends with it
    then_none : (deed : ActShape) → l ≡ Ended deed → EndsIn c m deed did → Ended_in q (followed did rest (run rest))
    then_none deed is x =
        let y = shut deed is in
        subst (λ z. RunsTo c q.own m (followed did rest (run rest)) z) (sym y.1)
        (subst (λ is. EndsIn c m deed (followed did is (run is))) (sym y.0) (subst (EndsIn c m deed) (sym (followed_none did)) x))

    plainly : (l1 : Last) → l ≡ l1 → Reaches c held m n → DoesLine c n o did l1 → Ended_in q (followed did rest (run rest))
    plainly Plain is r x = then_more (with_own c n o) x.is (subst (λ y. At (kept_or_put held o) y (with_own c n o)) (sym is) (reaches_more held o n x.may r))
    plainly (Compared a b) is r x = then_more (with_own c n o) x.is (subst (λ y. At (kept_or_put held o) y (with_own c n o)) (sym is) (reaches_more held o n x.may r))
    plainly (Tested t) is r x = then_more (with_own c n o) x.is (subst (λ y. At (kept_or_put held o) y (with_own c n o)) (sym is) (reaches_more held o n x.may r))
    plainly (Returning t) is r x =
        let k = with_reg (with_own c n o) 0 (worth c t) in
        then_more k x.is (subst (λ y. At (kept_or_put held o) y k) (sym is) (with_own c n o, reaches_more held o n x.may r, refl, x.last_may))
    plainly (Ended deed) is r x = then_none deed is (record { own_is = held; state = n; reaches = r; does = inl x })

    returning : (t : Shape) → At held (Returning t) n → l ≡ Ended (Return t) → did ≡ ends (Returns n) → Ended_in q (followed did rest (run rest))
    returning t at is done =
        then_none (Return t) is
        (record { own_is = held; state = at.0; reaches = at.1; does = inr (t, refl, done ∙ ap (λ (k : State). ends (Returns k)) at.2, at.3) })

  pub all_run : (ls : List Line) (is_first : Bool) (p q : Progress) (n : State) → lines_judged (line_did c.setting c.roles) is_first p ls ≡ Ok q → At p.own p.last n
      → IsCalm c q → NoneIsZero c q.divisors → Ended_in q (run (map (line_of c) ls) n)
  all_run [] is_first p q n e at calm some = subst (λ x. Ended_in x (comes n)) (ok_same p q e) (none_left p.own p.last n at)
  all_run (l ∷ ls) is_first p q n e at calm some =
      let j = judged_is (line_did c.setting c.roles) is_first l ls p q e in
      let behind = progressed l.line p j.deed in
      let reads = (all_back (λ (x : ℕ × List Shape). AreRead c x.1) p.reads ((l.line, j.deed.reads) ∷ [])
      (reads_before (line_did c.setting c.roles) (λ (x : ℕ × List Shape). AreRead c x.1) ls false behind q j.then_so calm.reads)).0 in
      let divisors = all_back (λ (w : Shape). worth c w ≡ 0 → ⊥) p.divisors j.deed.divisors
      (divisors_before (line_did c.setting c.roles) (λ (w : Shape). worth c w ≡ 0 → ⊥) ls false behind q j.then_so some) in
      let shut = λ (deed : ActShape) (is : j.deed.last ≡ Ended deed). closed (line_did c.setting c.roles) (nothing_behind c) ls false behind q deed is j.then_so in
      by j.deed reads divisors (ends_so j.deed.last q calm (λ deed is. (shut deed is).1)) p.last j.does at
      (λ k there. all_run ls false behind q k j.then_so there calm some) (λ deed is. (ap (map (line_of c)) (shut deed is).0, (shut deed is).1))
    where
      by : (d : Deed) → AreRead c d.reads → NoneIsZero c d.divisors → EndIsRead c d.last → (l0 : Last) → line_did c.setting c.roles is_first p.own l0 l.pieces ≡ Ok d → At p.own l0 n
          → ((k : State) → At (kept_or_put p.own d.own) d.last k → Ended_in q (run (map (line_of c) ls) k))
          → ((deed : ActShape) → d.last ≡ Ended deed → (map (line_of c) ls ≡ []) × (q.last ≡ Ended deed)) → Ended_in q (run (map (line_of c) (l ∷ ls)) n)
      by d reads divisors ends_read Plain does at more shut =
          plainly p.own d.own d.last n (performed (line_of c l) n) (map (line_of c) ls) q more shut d.last refl at
          (lines_do c p.own n is_first Plain l.pieces d at.sees settled tt does reads ends_read divisors)
      by d reads divisors ends_read (Compared a b) does at more shut =
          plainly p.own d.own d.last n (performed (line_of c l) n) (map (line_of c) ls) q more shut d.last refl at
          (lines_do c p.own n is_first (Compared a b) l.pieces d at.sees settled tt does reads ends_read divisors)
      by d reads divisors ends_read (Tested t) does at more shut =
          plainly p.own d.own d.last n (performed (line_of c l) n) (map (line_of c) ls) q more shut d.last refl at
          (lines_do c p.own n is_first (Tested t) l.pieces d at.sees settled tt does reads ends_read divisors)
      by d reads divisors ends_read (Returning t) does at more shut =
          let x = returning_leaves c is_first p.own t n l.pieces d does in
          returning p.own d.own d.last n (performed (line_of c l) n) (map (line_of c) ls) q more shut t at x.0 x.1
      by d reads divisors ends_read (Ended deed) does at more shut = absurd at

-- where no line is done yet
pub begins : (c : Scene) (m : State) → Sees c None m → Reaches c None m m
begins c m h = record { keeps = all_kept m; sees = h; may = tt }

pub lines_run : LinesRun
lines_run c m ls p h settled apart low e calm some = all_run c m settled apart low ls true start p m e (begins c m h) calm some

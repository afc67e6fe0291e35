-- Needless tests dropped from the front on, each judged against what was kept last, are dropped one by one.
use Rattle.std.proofs.Common.{◌≡◌, ◌⊎◌, inl, inr, ℕ, zero, suc, ◌+◌, ◌<◌, ◌≤◌, Bool, true, false, cond, List, [], ◌∷◌, ◌++◌, length, Option, Some, None, refl, sym, ap, subst, ◌∙◌, arith}
use Rattle.std.specs.Prelude.{◌&&◌, ◌||◌, not, nat_lt, slice_get}
use Rattle.std.proofs.lemmas.Bool.{lt-ltb, true≢false}
use Rattle.gg_base.proofs.Facts.{false_true, some_none, first_true, second_true, true_or_false, slice_seam, or_true}
use Rattle.vax_core.specs.declared.op.Op.{Op}
use Rattle.vax_core.specs.declared.op.Op.TheVariants.{Tstl}
use Rattle.vax_core.specs.declared.operand.Operand.{Operand}
use Rattle.vax_core.specs.declared.code.Code.{Code}
use Rattle.vax_core.specs.declared.code.Instr.{Instr}
use Rattle.vax_core.specs.declared.code.CodeItem.{CodeItem}
use Rattle.vax_core.specs.declared.code.CodeItem.TheVariants as item_kind
use Rattle.vax_core.specs.Ops.{shape}
use Rattle.vax_core.specs.Valid.{is_code}
use Rattle.vax_core.proofs.SameLaws.{operand_is}
use Rattle.vax_machine.specs.declared.function.Action.{Action}
use Rattle.vax_machine.specs.declared.function.Action.TheVariants.{Compute}
use Rattle.vax_machine.specs.declared.function.Function.{Function}
use Rattle.vax_machine.specs.Functions.{action_of}
use Rattle.vax_alike.specs.Alike.{Alike}
use Rattle.vax_alike.proofs.Sharing.{alike_is_same, alike_goes_on}
use Rattle.vax_passes.specs.Thinned.{Thinned}
use Rattle.vax_passes.specs.Thinned.{nothing as thin_nothing, kept as thin_kept, dropped as thin_dropped}
use Rattle.vax_passes.specs.Dropping.{Kept, put_first}
use Rattle.vax_passes.proofs.Thinning.{thinned_valid}
use Rattle.vax_codes.specs.Carry.{IsCarrySet, MayRead}
use Rattle.vax_codes.specs.Needless.{ends_written, last_operand, function_clears, is_plain, IsNeedless, Untested}
use Rattle.vax_codes.specs.Needless.{none as untested_none, kept as untested_kept, dropped as untested_dropped}
use Rattle.vax_codes.specs.Testing.{is_test, computes, is_last, tests_result, is_needless, without_tests}
use Rattle.vax_codes.proofs.Dropping.{untested_is_alike}
use Rattle.vax_codes.proofs.Removing.{skip, carry_less, may_less}

-- what was kept last
abbrev last_of : Option CodeItem → List CodeItem → Option CodeItem
last_of before [] = before
last_of before (x ∷ pre) = last_of (Some x) pre

-- The second list is the first without so many needless tests, from a place on, behind what was kept last; where a needless test is kept, P
-- holds: the count is at its end.
module _ (P : Type 0) where
  pub data Sweep (reads : ℕ → Bool) : ℕ → Option CodeItem → ℕ → List CodeItem → List CodeItem → Type 0 where
    none : {at : ℕ} {b : Option CodeItem} → Sweep reads at b 0 [] []
    keeps : {at k : ℕ} {b : Option CodeItem} {c d : List CodeItem} (x : CodeItem) → (is_needless x b (reads (suc at)) ≡ true → P) → Sweep reads (suc at) (Some x) k c d
        → Sweep reads at b k (x ∷ c) (x ∷ d)
    drops : {at k : ℕ} {b : Option CodeItem} {c d : List CodeItem} (i : Instr) → is_needless (item_kind.Instr i) b (reads (suc at)) ≡ true → Sweep reads (suc at) b k c d
        → Sweep reads at b (suc k) (item_kind.Instr i ∷ c) d

  -- ---- what a needless test is

  record Tested (i : Instr) (b : Option CodeItem) (read : Bool) : Type 0 where
    writer : Instr
    operand : Operand
    function : Function
    before : b ≡ Some (item_kind.Instr writer)
    op : i.op ≡ Tstl
    operands : i.operands ≡ operand ∷ []
    plain : is_plain operand ≡ true
    action : action_of writer.op ≡ Compute function
    writes : ends_written (shape writer.op).operands ≡ true
    written : last_operand writer.operands ≡ Some operand
    carry : (function_clears function ≡ true) ⊎ (read ≡ true → ⊥)

  test_is : (op : Op) → is_test op ≡ true → op ≡ Tstl
  test_is Tstl e = refl
  test_is _ e = false_true e

  last_is : (o : Operand) (p : Option Operand) → is_last o p ≡ true → p ≡ Some o
  last_is o None e = false_true e
  last_is o (Some p) e = ap (λ (q : Operand). Some q) (sym ((operand_is o p).0 e))

  computes_is : (a : Action) (read : Bool) → computes a read ≡ true → (f : Function) × (a ≡ Compute f) × ((function_clears f ≡ true) ⊎ (read ≡ true → ⊥))
  computes_is (Compute f) read e = (f, refl, by (function_clears f) read refl e)
    where
      by : (b r : Bool) → function_clears f ≡ b → (b || not r) ≡ true → (function_clears f ≡ true) ⊎ (r ≡ true → ⊥)
      by true r is e = inl is
      by false true is e = false_true e
      by false false is e = inr (λ t. true≢false (sym t))
  computes_is _ read e = false_true e

  tested_by : (i w : Instr) (os : List Operand) (read : Bool) → i.operands ≡ os → is_test i.op ≡ true → tests_result os w read ≡ true → Tested i (Some (item_kind.Instr w)) read
  tested_by i w [] read e test t = false_true t
  tested_by i w (o ∷ (p ∷ os)) read e test t = false_true t
  tested_by i w (o ∷ []) read e test t =
      let more = second_true (is_plain o) _ t in
      let c = computes_is (action_of w.op) read (first_true (computes (action_of w.op) read) _ more) in
      let rest = second_true (computes (action_of w.op) read) _ more in
      record {
        writer = w;
        operand = o;
        function = c.0;
        before = refl;
        op = test_is i.op test;
        operands = e;
        plain = first_true (is_plain o) _ t;
        action = c.1;
        writes = first_true (ends_written (shape w.op).operands) _ rest;
        written = last_is o (last_operand w.operands) (second_true (ends_written (shape w.op).operands) _ rest);
        carry = c.2;
      }

  tested : (i : Instr) (b : Option CodeItem) (read : Bool) → is_needless (item_kind.Instr i) b read ≡ true → Tested i b read
  tested i (Some (item_kind.Instr w)) read e = tested_by i w i.operands read refl (first_true (is_test i.op) _ e) (second_true (is_test i.op) _ e)
  tested i _ read e = false_true e

  -- what writes a longword is no test
  no_writer : (w : Instr) (b : Option CodeItem) (read : Bool) → ends_written (shape w.op).operands ≡ true → is_needless (item_kind.Instr w) b read ≡ true → ⊥
  no_writer w b read writes e = true≢false (sym writes ∙ ap (λ (op : Op). ends_written (shape op).operands) (tested w b read e).op)

  -- ---- the first test that is dropped

  record First (reads : ℕ → Bool) (at : ℕ) (b : Option CodeItem) (k : ℕ) (c d : List CodeItem) : Type 0 where
    pre : List CodeItem
    test : Instr
    post : List CodeItem
    is : c ≡ pre ++ item_kind.Instr test ∷ post
    needless : is_needless (item_kind.Instr test) (last_of b pre) (reads (suc (at + length pre))) ≡ true
    rest : Sweep (λ p. reads (skip (at + length pre) p)) at b k (pre ++ post) d

  skip_behind : (at p : ℕ) → at ≤ p → skip at p ≡ suc p
  skip_behind zero p le = refl
  skip_behind (suc at) zero le = absurd (omega (arith, le))
  skip_behind (suc at) (suc p) le = ap suc (skip_behind at p (omega (arith, le)))

  skip_before : (at p : ℕ) → p < at → skip at p ≡ p
  skip_before zero p lt = absurd (omega (arith, lt))
  skip_before (suc at) zero lt = refl
  skip_before (suc at) (suc p) lt = ap suc (skip_before at p (omega (arith, lt)))

  shifted : (g h : ℕ → Bool) {at k : ℕ} {b : Option CodeItem} {c d : List CodeItem} → ((p : ℕ) → at ≤ p → h p ≡ g (suc p)) → Sweep g (suc at) b k c d → Sweep h at b k c d
  shifted g h e none = none
  shifted g h {at = at} {b = b} e (keeps x f r) =
      keeps x (λ n. f (sym (ap (is_needless x b) (e (suc at) (omega arith))) ∙ n)) (shifted g h (λ p le. e p (omega (arith, le))) r)
  shifted g h {at = at} {b = b} e (drops i f r) =
      drops i (ap (is_needless (item_kind.Instr i) b) (e (suc at) (omega arith)) ∙ f) (shifted g h (λ p le. e p (omega (arith, le))) r)

  -- an item that is kept in front of the first test
  kept_first : (reads : ℕ → Bool) (at : ℕ) (b : Option CodeItem) (k : ℕ) (x : CodeItem) (c d : List CodeItem) → (is_needless x b (reads (suc at)) ≡ true → P)
      → First reads (suc at) (Some x) k c d → First reads at b k (x ∷ c) (x ∷ d)
  kept_first reads at b k x c d f h = record {
    pre = x ∷ h.pre;
    test = h.test;
    post = h.post;
    is = ap (λ (xs : List CodeItem). x ∷ xs) h.is;
    needless = ap (λ (n : ℕ). is_needless (item_kind.Instr h.test) (last_of (Some x) h.pre) (reads (suc n))) far ∙ h.needless;
    rest = keeps x (by h.pre refl) (subst (λ (n : ℕ). Sweep (λ p. reads (skip n p)) (suc at) (Some x) k (h.pre ++ h.post) d) (sym far) h.rest);
  }
    where
      far : at + length (x ∷ h.pre) ≡ suc at + length h.pre
      far = omega arith

      -- right in front of the test stands the instruction whose result it tests, which is no test itself
      by : (pre : List CodeItem) → h.pre ≡ pre → is_needless x b (reads (skip (at + length (x ∷ h.pre)) (suc at))) ≡ true → P
      by [] is n =
          let t = tested h.test (last_of (Some x) h.pre) _ h.needless in
          let same : x ≡ item_kind.Instr t.writer = let g : ◌≡◌ {A = Option CodeItem} (Some x) (Some (item_kind.Instr t.writer)) = sym (ap (last_of (Some x)) is) ∙ t.before in cc in
          absurd (no_writer t.writer b _ t.writes (sym (ap (λ (y : CodeItem). is_needless y b (reads (skip (at + length (x ∷ h.pre)) (suc at)))) same) ∙ n))
      by (y ∷ pre) is n =
          let long : length h.pre ≡ suc (length pre) = ap length is in
          f (ap (λ (p : ℕ). is_needless x b (reads p)) (sym (skip_before (at + length (x ∷ h.pre)) (suc at) (omega (arith, long)))) ∙ n)

  first_drop : (reads : ℕ → Bool) {at k : ℕ} {b : Option CodeItem} {c d : List CodeItem} → Sweep reads at b (suc k) c d → First reads at b k c d
  first_drop reads {at = at} {k = k} {b = b} (keeps {c = c} {d = d} x f r) = kept_first reads at b k x c d f (first_drop reads r)
  first_drop reads {at = at} {k = k} {b = b} (drops {c = c} {d = d} i f r) =
      let here : at + 0 ≡ at = omega arith in
      record {
        pre = [];
        test = i;
        post = c;
        is = refl;
        needless = ap (λ (n : ℕ). is_needless (item_kind.Instr i) b (reads (suc n))) here ∙ f;
        rest = subst (λ (n : ℕ). Sweep (λ p. reads (skip n p)) at b k c d) (sym here)
            (shifted reads (λ p. reads (skip at p)) (λ p le. ap reads (skip_behind at p le)) r);
      }

  -- ---- one test is dropped

  last_at : (pre post : List CodeItem) (y : CodeItem) → last_of None pre ≡ Some y → (j : ℕ) × (length pre ≡ j + 1) × (slice_get (pre ++ post) j ≡ Some y)
  last_at [] post y e = absurd (some_none y (sym e))
  last_at (x ∷ []) post y e = (zero, omega arith, e)
  last_at (x ∷ (z ∷ pre)) post y e = let h = last_at (z ∷ pre) post y e in (suc h.0, (let l = h.1 in omega (arith, l)), h.2)

  kept_all : (R : ℕ → Type 0) (cs : List CodeItem) (at : ℕ) (xs : List CodeItem) → Untested R cs at 0 xs xs
  kept_all R cs at [] = untested_none
  kept_all R cs at (x ∷ xs) = untested_kept x (kept_all R cs (suc at) xs)

  module _ (reads : ℕ → Bool) (pre post : List CodeItem) (t : Instr) (needless : is_needless (item_kind.Instr t) (last_of None pre) (reads (suc (length pre))) ≡ true) where
    abbrev more : List CodeItem
    more = pre ++ item_kind.Instr t ∷ post

    abbrev R : ℕ → Type 0
    R p = reads p ≡ true

    pub needless_at : IsNeedless R more (length pre)
    needless_at =
        let n = tested t (last_of None pre) (reads (suc (length pre))) needless in
        let l = last_at pre (item_kind.Instr t ∷ post) (item_kind.Instr n.writer) n.before in
        let e : length pre + 1 ≡ suc (length pre) = omega arith in
        record {
          before = l.0;
          place = l.1;
          test = t;
          writer = n.writer;
          operand = n.operand;
          here = slice_seam pre (item_kind.Instr t) post;
          first = l.2;
          tests = n.op;
          tested = n.operands;
          plain = n.plain;
          function = n.function;
          computes = n.action;
          writes = n.writes;
          written = n.written;
          carry = subst (λ (p : ℕ). (function_clears n.function ≡ true) ⊎ (reads p ≡ true → ⊥)) (sym e) n.carry;
        }

    untested_from : (front : List CodeItem) (at : ℕ) → at + length front ≡ length pre → Untested R more at 1 (front ++ item_kind.Instr t ∷ post) (front ++ post)
    untested_from [] at e = untested_dropped t (let same : length pre ≡ at = omega (arith, e) in subst (λ (p : ℕ). IsNeedless R more p) same needless_at) (kept_all R more (suc at) post)
    untested_from (x ∷ front) at e = untested_kept x (untested_from front (suc at) (omega (arith, e)))

    pub untested_one : Untested R more 0 1 more (pre ++ post)
    untested_one = untested_from pre 0 (omega arith)

  -- ---- all that are dropped

  swept_same : {reads : ℕ → Bool} {at k : ℕ} {b : Option CodeItem} {c d : List CodeItem} → Sweep reads at b k c d → k ≡ 0 → d ≡ c
  swept_same none e = refl
  swept_same (keeps x f r) e = ap (λ (xs : List CodeItem). x ∷ xs) (swept_same r e)
  swept_same (drops i f r) e = absurd (omega (arith, e))

  thin_all : (xs : List CodeItem) → Thinned 0 xs xs
  thin_all [] = thin_nothing
  thin_all (x ∷ xs) = thin_kept x (thin_all xs)

  thin_one : (pre : List CodeItem) (t : Instr) (post : List CodeItem) → Thinned 1 (pre ++ item_kind.Instr t ∷ post) (pre ++ post)
  thin_one [] t post = thin_dropped t (thin_all post)
  thin_one (x ∷ pre) t post = thin_kept x (thin_one pre t post)

  pub swept_alike : (k : ℕ) (reads : ℕ → Bool) (c d : Code) → d.area ≡ c.area → is_code c ≡ true → IsCarrySet (λ p. reads p ≡ true) c.items → Sweep reads 0 None k c.items d.items → Alike c d
  swept_alike zero reads c d area valid set r =
      let items = swept_same r refl in
      subst (λ (e : Code). Alike c e) (λ t. record { area = sym area t; items = sym items t }) (alike_is_same c)
  swept_alike (suc k) reads c d area valid set r = by (λ shifted less same_area valid_less set_less rest. swept_alike k shifted less d same_area valid_less set_less rest) (first_drop reads r)
    where
      by : ((shifted : ℕ → Bool) (less : Code) → d.area ≡ less.area → is_code less ≡ true → IsCarrySet (λ p. shifted p ≡ true) less.items → Sweep shifted 0 None k less.items d.items → Alike less d)
          → First reads 0 None k c.items d.items → Alike c d
      by go h =
          let none_before : 0 + length h.pre ≡ length h.pre = omega arith in
          let needless = sym (ap (λ (n : ℕ). is_needless (item_kind.Instr h.test) (last_of None h.pre) (reads (suc n))) none_before) ∙ h.needless in
          let whole : Code = record { area = c.area; items = h.pre ++ item_kind.Instr h.test ∷ h.post } in
          let same : c ≡ whole = λ t. record { area = c.area; items = h.is t } in
          let less : Code = record { area = c.area; items = h.pre ++ h.post } in
          let valid_whole : is_code whole ≡ true = subst (λ (e : Code). is_code e ≡ true) same valid in
          let set_whole : IsCarrySet (λ p. reads p ≡ true) whole.items = subst (λ (e : Code). IsCarrySet (λ p. reads p ≡ true) e.items) same set in
          let one = untested_one reads h.pre h.post h.test needless in
          let alike : Alike whole less = untested_is_alike reads whole less 1 valid_whole refl set_whole one in
          let valid_less : is_code less ≡ true = thinned_valid 1 whole less refl (thin_one h.pre h.test h.post) valid_whole in
          let rest : Sweep (λ p. reads (skip (length h.pre) p)) 0 None k less.items d.items =
          subst (λ (n : ℕ). Sweep (λ p. reads (skip n p)) 0 None k less.items d.items) none_before h.rest in
          let set_less = carry_less h.test h.post h.pre (λ p. reads p ≡ true) (needless_at reads h.pre h.post h.test needless) set_whole in
          subst (λ (e : Code). Alike e d) (sym same) (alike_goes_on whole less d alike (go (λ p. reads (skip (length h.pre) p)) less area valid_less set_less rest))

  -- ---- none is left

  -- the items of a code of which none was dropped
  kept_at : {reads : ℕ → Bool} {at : ℕ} {b : Option CodeItem} {c d : List CodeItem} → Sweep reads at b 0 c d → (p : ℕ) (x y : CodeItem) → slice_get c p ≡ Some y → slice_get c (suc p) ≡ Some x
      → is_needless x (Some y) (reads (suc (suc (at + p)))) ≡ true → P
  kept_at none zero x y here next n = absurd (some_none y (sym here))
  kept_at none (suc p) x y here next n = absurd (some_none y (sym here))
  kept_at {reads = reads} {at = at} (keeps z f r) zero x y here next n =
      first_of r (let same : z ≡ y = cc in sym same) next
      (let e : suc (suc (at + 0)) ≡ suc (suc at) = omega arith in sym (ap (λ (q : ℕ). is_needless x (Some y) (reads q)) e) ∙ n)
    where
      first_of : {s : ℕ} {w : CodeItem} {xs ys : List CodeItem} → Sweep reads s (Some w) 0 xs ys → y ≡ w → slice_get xs zero ≡ Some x → is_needless x (Some y) (reads (suc s)) ≡ true → P
      first_of none same at_front m = absurd (some_none x (sym at_front))
      first_of {s = s} (keeps v g q) same at_front m =
          let front : x ≡ v = let e : Some v ≡ Some x = at_front in cc in
          g (sym (ap (λ (u : CodeItem). is_needless u (Some y) (reads (suc s))) front ∙ ap (λ (u : CodeItem). is_needless v (Some u) (reads (suc s))) same) ∙ m)
  kept_at {reads = reads} {at = at} (keeps z f r) (suc p) x y here next n =
      kept_at r p x y here next (let e : suc (suc (at + suc p)) ≡ suc (suc (suc at + p)) = omega arith in sym (ap (λ (q : ℕ). is_needless x (Some y) (reads q)) e) ∙ n)

  -- what is needless by its record is so by the test
  needless_by : (c : List CodeItem) (reads : ℕ → Bool) → ((p : ℕ) → reads p ≡ true → MayRead c p) → (p : ℕ) (h : IsNeedless (MayRead c) c p)
      → is_needless (item_kind.Instr h.test) (Some (item_kind.Instr h.writer)) (reads (suc p)) ≡ true
  needless_by c reads sound p h =
      ap (λ (op : Op). is_test op && tests_result h.test.operands h.writer (reads (suc p))) h.tests
      ∙ ap (λ (os : List Operand). tests_result os h.writer (reads (suc p))) h.tested
      ∙ ap (λ (b : Bool). b && (computes (action_of h.writer.op) (reads (suc p)) && (ends_written (shape h.writer.op).operands && is_last h.operand (last_operand h.writer.operands)))) h.plain
      ∙ ap (λ (a : Action). computes a (reads (suc p)) && (ends_written (shape h.writer.op).operands && is_last h.operand (last_operand h.writer.operands))) h.computes
      ∙ ap (λ (b : Bool). b && (ends_written (shape h.writer.op).operands && is_last h.operand (last_operand h.writer.operands))) (carry_by (reads (suc p)) refl h.carry)
      ∙ ap (λ (b : Bool). b && is_last h.operand (last_operand h.writer.operands)) h.writes
      ∙ ap (λ (o : Option Operand). is_last h.operand o) h.written
      ∙ (operand_is h.operand h.operand).1 refl
    where
      carry_by : (r : Bool) → reads (suc p) ≡ r → (function_clears h.function ≡ true) ⊎ (MayRead c (p + 1) → ⊥) → (function_clears h.function || not r) ≡ true
      carry_by r is (inl clears) = ap (λ (b : Bool). b || not r) clears
      carry_by false is (inr never) = or_true (function_clears h.function)
      carry_by true is (inr never) = absurd (never (let e : suc p ≡ p + 1 = omega arith in subst (λ (q : ℕ). MayRead c q) e (sound (suc p) is)))

  pub swept_settled : (k : ℕ) (reads : ℕ → Bool) (c d : List CodeItem) → ((p : ℕ) → reads p ≡ true → MayRead c p) → Sweep reads 0 None k c d → (P → ⊥) → (p : ℕ) → IsNeedless (MayRead d) d p → ⊥
  swept_settled zero reads c d sound r full p h =
      let same = swept_same r refl in
      settled_at (subst (λ (xs : List CodeItem). IsNeedless (MayRead xs) xs p) same h)
    where
      settled_at : IsNeedless (MayRead c) c p → ⊥
      settled_at g =
          let e : g.before + 1 ≡ suc g.before = omega arith in
          let at : p ≡ suc g.before = g.place ∙ e in
          let z : suc (suc (0 + g.before)) ≡ suc p = omega (arith, at) in
          full (kept_at r g.before (item_kind.Instr g.test) (item_kind.Instr g.writer) g.first (sym (ap (λ (q : ℕ). slice_get c q) at) ∙ g.here)
          (ap (λ (q : ℕ). is_needless (item_kind.Instr g.test) (Some (item_kind.Instr g.writer)) (reads q)) z ∙ needless_by c reads sound p g))
  swept_settled (suc k) reads c d sound r full p h = by (λ shifted less sound_less rest. swept_settled k shifted less d sound_less rest full p h) (first_drop reads r)
    where
      by : ((shifted : ℕ → Bool) (less : List CodeItem) → ((q : ℕ) → shifted q ≡ true → MayRead less q) → Sweep shifted 0 None k less d → ⊥) → First reads 0 None k c d → ⊥
      by go f =
          let none_before : 0 + length f.pre ≡ length f.pre = omega arith in
          let needless = sym (ap (λ (n : ℕ). is_needless (item_kind.Instr f.test) (last_of None f.pre) (reads (suc n))) none_before) ∙ f.needless in
          let sound_whole : (q : ℕ) → reads q ≡ true → MayRead (f.pre ++ item_kind.Instr f.test ∷ f.post) q = λ q e. subst (λ (xs : List CodeItem). MayRead xs q) f.is (sound q e) in
          let rest : Sweep (λ q. reads (skip (length f.pre) q)) 0 None k (f.pre ++ f.post) d =
          subst (λ (n : ℕ). Sweep (λ q. reads (skip n q)) 0 None k (f.pre ++ f.post) d) none_before f.rest in
          go (λ q. reads (skip (length f.pre) q)) (f.pre ++ f.post)
          (λ q e. may_less f.test f.post f.pre (λ x. reads x ≡ true) (needless_at reads f.pre f.post f.test needless) (skip (length f.pre) q) (sound_whole (skip (length f.pre) q) e) q refl)
          rest

-- ---- how the pass goes through a code

pub record Swept (reads : ℕ → Bool) (start at : ℕ) (b : Option CodeItem) (c : List CodeItem) (k : Kept) : Type 0 where
  pub number : ℕ
  pub sweep : Sweep (k.made < 18446744073709551615 → ⊥) reads at b number c k.items
  pub counts : k.made ≡ start + number

module _ (reads : ℕ → Bool) where
  swept_by : (x : CodeItem) (xs : List CodeItem) (at made : ℕ) (b : Option CodeItem) → Swept reads (made + 1) (suc at) b xs (without_tests reads xs (suc at) b (made + 1))
      → Swept reads made (suc at) (Some x) xs (without_tests reads xs (suc at) (Some x) made) → (full needless : Bool) → nat_lt made 18446744073709551615 ≡ full
      → is_needless x b (reads (suc at)) ≡ needless
      → Swept reads made at b (x ∷ xs) (cond (full && needless) (without_tests reads xs (suc at) b (made + 1)) (put_first x (without_tests reads xs (suc at) (Some x) made)))
  swept_by (item_kind.Instr i) xs at made b h g true true e n = record { number = suc h.number; sweep = drops i n h.sweep; counts = (let f = h.counts in omega (arith, f)) }
  swept_by x xs at made b h g true false e n = record { number = g.number; sweep = keeps x (λ m. absurd (true_or_false _ m n)) g.sweep; counts = g.counts }
  swept_by x xs at made b h g false needless e n = record {
    number = g.number;
    sweep = keeps x (λ m lt. true_or_false _ (lt-ltb made 18446744073709551615 (let f = g.counts in omega (arith, f, lt))) e) g.sweep;
    counts = g.counts;
  }
  swept_by _ xs at made b h g true true e n = absurd (true≢false (sym n))

  pub swept : (xs : List CodeItem) (at made : ℕ) (b : Option CodeItem) → Swept reads made at b xs (without_tests reads xs at b made)
  swept [] at made b = record { number = 0; sweep = none; counts = omega arith }
  swept (x ∷ xs) at made b = swept_by x xs at made b (swept xs (suc at) (made + 1) b) (swept xs (suc at) made (Some x)) (nat_lt made 18446744073709551615) (is_needless x b (reads (suc at))) refl refl

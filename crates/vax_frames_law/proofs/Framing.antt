-- A code of frames keeps within its functions.
use Rattle.std.proofs.Common.{◌≡◌, ℕ, zero, suc, ◌+◌, Bool, true, false, List, [], ◌∷◌, ◌++◌, length, drop, None, refl, sym, ap, subst, ◌∙◌, arith, append_assoc}
use Rattle.std.specs.Prelude.{◌==◌, ◌||◌, ◌&&◌, nat_lt}
use Rattle.std.specs.Str.{bytes_eq}
use Rattle.std.proofs.lemmas.Bool.{ne_eqb, and_left, true≢false}
use Rattle.std.proofs.lemmas.List.{drop_at}
use Rattle.std.proofs.lemmas.Slice.Eq.{bytes_eq-Decides}
use Rattle.std.proofs.lemmas.Option.{none-some}
use Rattle.vax_core.specs.declared.code.Instr.{Instr}
use Rattle.vax_core.specs.declared.code.CodeItem.{CodeItem}
use Rattle.vax_core.specs.declared.code.CodeItem.TheVariants as item_kind
use Rattle.vax_machine.specs.Labels.{has_label, label_place, double_label, skipped, next_item}
use Rattle.vax_frames.specs.Frames.{code_items, room_code, end_code, frame_items}
use Rattle.vax_frames_law.specs.Within.{mask_of, mask_from, RunsOn, AreClosed, KeepWithin, AreFrames, no_frame, one_more, FramesAreGuarded}
use Rattle.vax_frames_law.proofs.Labelling.{first_place}
use Rattle.vax_frames_law.proofs.Closing.{runs_on, closed_is_guarded}

-- ---- masks over lists

abbrev mask_after : ℕ → List CodeItem → ℕ
mask_after k [] = k
mask_after k (x ∷ xs) = mask_after (mask_of x k) xs

mask_behind : (xs ys : List CodeItem) (k p : ℕ) → mask_from k (xs ++ ys) (length xs + p) ≡ mask_from (mask_after k xs) ys p
mask_behind [] ys k p = let z : 0 + p ≡ p = omega arith in ap (mask_from k ys) z
mask_behind (x ∷ xs) ys k p = let z : suc (length xs) + p ≡ suc (length xs + p) = omega arith in ap (mask_from k (x ∷ (xs ++ ys))) z ∙ mask_behind xs ys (mask_of x k) p

after_both : (xs ys : List CodeItem) (k : ℕ) → mask_after k (xs ++ ys) ≡ mask_after (mask_after k xs) ys
after_both [] ys k = refl
after_both (x ∷ xs) ys k = after_both xs ys (mask_of x k)

after_instrs : (is : List Instr) (k : ℕ) → mask_after k (code_items is) ≡ k
after_instrs [] k = refl
after_instrs (i ∷ is) k = after_instrs is k

-- a body has no mask
after_body : (body : List CodeItem) (mask : ℕ) (xs ys : List CodeItem) (k : ℕ) → KeepWithin body mask (xs ++ ys) → mask_after k xs ≡ k
after_body body mask [] ys k h = refl
after_body body mask (item_kind.Label l ∷ xs) ys k h = after_body body mask xs ys k h
after_body body mask (item_kind.Globl l ∷ xs) ys k h = after_body body mask xs ys k h
after_body body mask (item_kind.Mask n ∷ xs) ys k h = absurd h
after_body body mask (item_kind.Instr i ∷ xs) ys k h = after_body body mask xs ys k h.1

-- behind a body's items an instruction comes
runs_behind : (body : List CodeItem) (mask : ℕ) (xs ys rest : List CodeItem) → KeepWithin body mask (xs ++ ys) → RunsOn rest → RunsOn (ys ++ rest)
runs_behind body mask [] [] rest h r = r
runs_behind body mask [] (item_kind.Label l ∷ ys) rest h r = runs_behind body mask [] ys rest h r
runs_behind body mask [] (item_kind.Globl l ∷ ys) rest h r = runs_behind body mask [] ys rest h r
runs_behind body mask [] (item_kind.Mask n ∷ ys) rest h r = absurd h
runs_behind body mask [] (item_kind.Instr i ∷ ys) rest h r = tt
runs_behind body mask (item_kind.Label l ∷ xs) ys rest h r = runs_behind body mask xs ys rest h r
runs_behind body mask (item_kind.Globl l ∷ xs) ys rest h r = runs_behind body mask xs ys rest h r
runs_behind body mask (item_kind.Mask n ∷ xs) ys rest h r = absurd h
runs_behind body mask (item_kind.Instr i ∷ xs) ys rest h r = runs_behind body mask xs ys rest h.1 r

-- ---- a label of a body

pub record Splits (body : List CodeItem) (name : List ℕ) : Type 0 where
  pub pre : List CodeItem
  pub post : List CodeItem
  pub body_is : body ≡ pre ++ item_kind.Label name ∷ post

splits : (body : List CodeItem) (name : List ℕ) → has_label body name ≡ true → Splits body name
splits [] name e = absurd (true≢false (sym e))
splits (item_kind.Globl l ∷ body) name e = let r = splits body name e in
    record { pre = item_kind.Globl l ∷ r.pre; post = r.post; body_is = ap (λ (x : List CodeItem). item_kind.Globl l ∷ x) r.body_is }
splits (item_kind.Mask n ∷ body) name e = let r = splits body name e in record { pre = item_kind.Mask n ∷ r.pre; post = r.post; body_is = ap (λ (x : List CodeItem). item_kind.Mask n ∷ x) r.body_is }
splits (item_kind.Instr i ∷ body) name e = let r = splits body name e in
    record { pre = item_kind.Instr i ∷ r.pre; post = r.post; body_is = ap (λ (x : List CodeItem). item_kind.Instr i ∷ x) r.body_is }
splits (item_kind.Label l ∷ body) name e = by (bytes_eq l name) refl e (λ f. splits body name f)
  where
    by : (b : Bool) → bytes_eq l name ≡ b → (b || has_label body name) ≡ true → (has_label body name ≡ true → Splits body name) → Splits (item_kind.Label l ∷ body) name
    by true eq e rest = record { pre = []; post = body; body_is = ap (λ (n : List ℕ). item_kind.Label n ∷ body) ((bytes_eq-Decides l name).0 eq) }
    by false eq e rest = let r = rest e in record { pre = item_kind.Label l ∷ r.pre; post = r.post; body_is = ap (λ (x : List CodeItem). item_kind.Label l ∷ x) r.body_is }

-- ---- a frame

pub four : (r p l e post : List CodeItem) → (r ++ ((p ++ l) ++ e)) ++ post ≡ (r ++ p) ++ ((l ++ e) ++ post)
four r p l e post =
    append_assoc r ((p ++ l) ++ e) post
    ∙ ap (λ (x : List CodeItem). r ++ (x ++ post)) (append_assoc p l e)
    ∙ ap (λ (x : List CodeItem). r ++ x) (append_assoc p (l ++ e) post)
    ∙ sym (append_assoc r p ((l ++ e) ++ post))

not_number : (n r : ℕ) → (n ≡ r → ⊥) → ((n == r) && nat_lt r 12) ≡ false
not_number n r ne = and_left (n == r) (nat_lt r 12) (ne_eqb n r ne)

module _ (code : List CodeItem) (once : double_label code ≡ None) (name : List ℕ) (mask words : ℕ) (body pre post : List CodeItem) (within : KeepWithin body mask body)
    (code_is : code ≡ pre ++ (frame_items name mask words body ++ post)) where
  abbrev tail : List CodeItem
  tail = code_items end_code ++ post

  -- a label of the body stands under the frame's mask
  label_under : (label : List ℕ) → has_label body label ≡ true → mask_from 0 code (next_item code (label_place code label)) ≡ mask
  label_under label e =
      let s = splits body label e in
      let at = item_kind.Label label ∷ s.post in
      let front = item_kind.Globl name ∷ (item_kind.Label name ∷ (item_kind.Mask mask ∷ (code_items (room_code words) ++ s.pre))) in
      let rest = (at ++ code_items end_code) ++ post in
      let split : code ≡ (pre ++ front) ++ rest =
      code_is
      ∙ ap (λ (b : List CodeItem). pre ++ (frame_items name mask words b ++ post)) s.body_is
      ∙ ap (λ (x : List CodeItem). pre ++ (item_kind.Globl name ∷ (item_kind.Label name ∷ (item_kind.Mask mask ∷ x)))) (four (code_items (room_code words)) s.pre at (code_items end_code) post)
      ∙ sym (append_assoc pre front rest) in
      let place : label_place code label ≡ length (pre ++ front) =
      ap (λ (x : List CodeItem). label_place x label) split
      ∙ first_place (pre ++ front) ((s.post ++ code_items end_code) ++ post) label (subst (λ (x : List CodeItem). double_label x ≡ None) split once) in
      let inside : KeepWithin body mask (s.pre ++ at) = subst (λ (x : List CodeItem). KeepWithin body mask x) s.body_is within in
      let under : mask_after 0 (pre ++ front) ≡ mask =
      after_both pre front 0 ∙ after_both (code_items (room_code words)) s.pre mask ∙ ap (λ (k : ℕ). mask_after k s.pre) (after_instrs (room_code words) mask)
      ∙ after_body body mask s.pre at mask inside in
      let on : RunsOn rest = subst RunsOn (sym (append_assoc at (code_items end_code) post)) (runs_behind body mask s.pre at (code_items end_code ++ post) inside tt) in
      let skip : skipped (drop (length (pre ++ front)) code) ≡ skipped rest =
      ap (λ (x : List CodeItem). skipped (drop (length (pre ++ front)) x)) split ∙ ap skipped (drop_at (pre ++ front) rest (length (pre ++ front)) refl) in
      ap (λ (p : ℕ). mask_from 0 code (next_item code p)) place
      ∙ ap (λ (k : ℕ). mask_from 0 code (length (pre ++ front) + k)) skip
      ∙ ap (λ (x : List CodeItem). mask_from 0 x (length (pre ++ front) + skipped rest)) split
      ∙ mask_behind (pre ++ front) rest 0 (skipped rest)
      ∙ ap (λ (k : ℕ). mask_from k rest (skipped rest)) under
      ∙ runs_on mask rest on

  end_closed : AreClosed code mask post → AreClosed code mask tail
  end_closed h = (
    record { named = λ r low high e. or_both r (not_number 0 r (λ q. omega (arith, q, low))); onward = λ e. tt; branch = λ label e. absurd (none-some label e) },
    (record { named = λ r low high e. refl; onward = λ e. absurd (true≢false (sym e)); branch = λ label e. absurd (none-some label e) }, h),
  )
    where
      or_both : (r : ℕ) → ((0 == r) && nat_lt r 12) ≡ false → ((((0 == r) && nat_lt r 12) || false) || false) ≡ false
      or_both r e = ap (λ (b : Bool). (b || false) || false) e

  body_closed : (xs ys : List CodeItem) → KeepWithin body mask ys → AreClosed code mask tail → AreClosed code mask (ys ++ tail)
  body_closed xs [] h t = t
  body_closed xs (item_kind.Label l ∷ ys) h t = body_closed xs ys h t
  body_closed xs (item_kind.Globl l ∷ ys) h t = body_closed xs ys h t
  body_closed xs (item_kind.Mask n ∷ ys) h t = absurd h
  body_closed xs (item_kind.Instr i ∷ ys) h t = (
    record { named = h.0.named; onward = λ e. runs_behind body mask [] ys tail h.1 tt; branch = λ label e no_call. label_under label (h.0.branch label e no_call) },
    body_closed xs ys h.1 t,
  )

  room_closed : (w : ℕ) (rest : List CodeItem) → RunsOn rest → AreClosed code mask rest → AreClosed code mask (code_items (room_code w) ++ rest)
  room_closed zero rest r h = h
  room_closed (suc w) rest r h = (
    record { named = λ r low high e. or_three r (not_number 14 r (λ q. omega (arith, q, high))); onward = λ e. r; branch = λ label e. absurd (none-some label e) },
    h,
  )
    where
      or_three : (r : ℕ) → ((14 == r) && nat_lt r 12) ≡ false → ((false || false) || ((((14 == r) && nat_lt r 12) || false) || false)) ≡ false
      or_three r e = ap (λ (b : Bool). (b || false) || false) e

  frame_closed : (k : ℕ) → AreClosed code mask post → AreClosed code k (frame_items name mask words body ++ post)
  frame_closed k h =
      let body_tail = body_closed [] body within (end_closed h) in
      let runs : RunsOn (body ++ tail) = runs_behind body mask [] body tail within tt in
      let room = room_closed words (body ++ tail) runs body_tail in
      let room_runs : RunsOn (code_items (room_code words) ++ (body ++ tail)) = room_on words runs in
      let shape : code_items (room_code words) ++ (body ++ tail) ≡ (code_items (room_code words) ++ (body ++ code_items end_code)) ++ post =
      ap (λ (x : List CodeItem). code_items (room_code words) ++ x) (sym (append_assoc body (code_items end_code) post))
      ∙ sym (append_assoc (code_items (room_code words)) (body ++ code_items end_code) post) in
      (subst RunsOn shape room_runs, subst (λ (x : List CodeItem). AreClosed code mask x) shape room)
    where
      room_on : (w : ℕ) → RunsOn (body ++ tail) → RunsOn (code_items (room_code w) ++ (body ++ tail))
      room_on zero r = r
      room_on (suc w) r = tt

frames_closed : (code : List CodeItem) → double_label code ≡ None → (part pre : List CodeItem) (k : ℕ) → AreFrames part → code ≡ pre ++ part → AreClosed code k part
frames_closed code once part pre k no_frame e = tt
frames_closed code once part pre k (one_more name mask words body rest all within others part_is) e =
    let is : code ≡ pre ++ (frame_items name mask words body ++ rest) = e ∙ ap (λ (x : List CodeItem). pre ++ x) part_is in
    subst (λ (x : List CodeItem). AreClosed code k x) (sym part_is)
    (frame_closed code once name mask words body pre rest within is k
    (frames_closed code once rest (pre ++ frame_items name mask words body) mask others (is ∙ sym (append_assoc pre (frame_items name mask words body) rest))))

pub frames_are_guarded : FramesAreGuarded
frames_are_guarded code once frames = closed_is_guarded code (frames_closed code once code [] 0 frames refl)

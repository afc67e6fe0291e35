-- An operand more at the end of a row of binary operators: its tokens, its levels, its phrase.
use Rattle.std.proofs.Common.{◌≡◌, ◌≤◌, ℕ, ◌+◌, List, ◌∷◌, refl, ap, arith}
use Rattle.std.specs.Prelude.{Bool, true, false, nat_lt, if◌then◌else◌}
use Rattle.std.proofs.lemmas.Bool.{ltb-true, ltb-false}
use Rattle.c_phrases.specs.declared.operator.BinaryOperator.{BinaryOperator}
use Rattle.c_phrases.specs.Classes.{sign}
use Rattle.c_phrases.specs.Phrases.{AnExp, name, number, str, paren, call, sizeof_type, binary, choice, assign, comma}
use Rattle.c_phrases.specs.Phrases.{IsAt, after_exp}
use Rattle.c_phrases.specs.Operators.{level_of, binary_mark}
use Rattle.c_syntax_goals.specs.Openings.{Opening, opens, levelled_exp}
use Rattle.c_syntax_goals.specs.Expressions.{insert}
use Rattle.c_syntax_goals.proofs.PhraseLaws.{lower, level_top}
use Rattle.c_syntax_goals.proofs.Going.{level_least}

chosen_text : (t : Bool) (x y : AnExp) (b : ℕ) (w v : List Opening) → levelled_exp x b w ≡ v → levelled_exp y b w ≡ v → levelled_exp (if t then x else y) b w ≡ v
chosen_text true x y b w v h k = h
chosen_text false x y b w v h k = k

pub insert_text : (l : AnExp) (op : BinaryOperator) (at : ℕ) (e : AnExp) (b : ℕ) (w : List Opening) → levelled_exp (insert l op at e) b w
    ≡ levelled_exp l b (opens (after_exp l b + 1) (sign (binary_mark op) at) ∷ levelled_exp e (after_exp l b + 1) w)
insert_text (binary l q p r) op at e b w =
    let m : ℕ = after_exp l b + 1 in
    chosen_text (nat_lt (level_of q) (level_of op)) (binary l q p (insert r op at e)) (binary (binary l q p r) op at e) b w _
    (ap (λ (x : List Opening). levelled_exp l b (opens m (sign (binary_mark q) p) ∷ x)) (insert_text r op at e m w)) refl
insert_text (name n p) op at e b w = refl
insert_text l op at e b w = refl

chosen_after : (t : Bool) (x y : AnExp) (b m : ℕ) → after_exp x b ≡ m → after_exp y b ≡ m → after_exp (if t then x else y) b ≡ m
chosen_after true x y b m h k = h
chosen_after false x y b m h k = k

pub insert_after : (l : AnExp) (op : BinaryOperator) (at : ℕ) (e : AnExp) (b : ℕ) → after_exp (insert l op at e) b ≡ after_exp e (after_exp l b + 1)
insert_after (binary l q p r) op at e b =
    chosen_after (nat_lt (level_of q) (level_of op)) (binary l q p (insert r op at e)) (binary (binary l q p r) op at e) b _
    (insert_after r op at e (after_exp l b + 1)) refl
insert_after (name n p) op at e b = refl
insert_after l op at e b = refl

chosen_fits : (t : Bool) (j : ℕ) (l : AnExp) (q : BinaryOperator) (p : ℕ) (r : AnExp) (op : BinaryOperator) (at : ℕ) (e : AnExp) → nat_lt (level_of q) (level_of op) ≡ t → j ≤ level_of op
    → IsAt j (binary l q p r) → IsAt 13 e → (level_of q + 1 ≤ level_of op → IsAt (level_of q + 1) (insert r op at e))
    → IsAt j (if t then binary l q p (insert r op at e) else binary (binary l q p r) op at e)
chosen_fits true j l q p r op at e d le h k ih = (h.0, (h.1.0, ih (omega (arith, ltb-true (level_of q) (level_of op) d))))
chosen_fits false j l q p r op at e d le h k ih = (le, ((ltb-false (level_of q) (level_of op) d, h.1), lower (level_of op + 1) 13 e (omega (arith, level_top op)) k))

pub insert_fits : (j : ℕ) (l : AnExp) (op : BinaryOperator) (at : ℕ) (e : AnExp) → 3 ≤ j → j ≤ level_of op → IsAt j l → IsAt 13 e → IsAt j (insert l op at e)
insert_fits j (binary l q p r) op at e least le h k =
    chosen_fits (nat_lt (level_of q) (level_of op)) j l q p r op at e refl le h k
    (λ below. insert_fits (level_of q + 1) r op at e (omega (arith, level_least q)) below h.1.1 k)
insert_fits j (name n p) op at e least le h k = (le, (tt, lower (level_of op + 1) 13 e (omega (arith, level_top op)) k))
insert_fits j (number v p) op at e least le h k = (le, (tt, lower (level_of op + 1) 13 e (omega (arith, level_top op)) k))
insert_fits j (str b p) op at e least le h k = (le, (tt, lower (level_of op + 1) 13 e (omega (arith, level_top op)) k))
insert_fits j (paren o d) op at e least le h k = (le, (h, lower (level_of op + 1) 13 e (omega (arith, level_top op)) k))
insert_fits j (call n p o es) op at e least le h k = (le, (h, lower (level_of op + 1) 13 e (omega (arith, level_top op)) k))
insert_fits j (sizeof_type p o t) op at e least le h k = (le, (omega (arith, level_top op), lower (level_of op + 1) 13 e (omega (arith, level_top op)) k))
insert_fits j (choice d p f g) op at e least le h k = absurd (omega (arith, least, h.0))
insert_fits j (assign d q p v) op at e least le h k = absurd (omega (arith, least, h.0))
insert_fits j (comma l r) op at e least le h k = absurd (omega (arith, least, h.0))
insert_fits j l op at e least le h k = (le, ((omega (arith, level_top op), h.1), lower (level_of op + 1) 13 e (omega (arith, level_top op)) k))

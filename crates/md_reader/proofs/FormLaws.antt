-- What the words of a line are where it has a form.
use Rattle.std.proofs.Common.{◌≡◌, ℕ, ◌≤◌, ◌<◌, ◌^◌, Bool, true, false, cond, eqb, nat_le, List, [], ◌∷◌, ◌++◌, Option, Some, None, refl, ap, arith}
use Rattle.std.specs.Prelude.{codes, bit_and, bit_or, ◌&&◌}
use Rattle.std.specs.Option.{option_map}
use Rattle.std.proofs.lemmas.Option.{none-some, same_Some, option_and_then_some}
use Rattle.std.proofs.lemmas.Bool.{and_parts, leb-true}
use Rattle.std.proofs.lemmas.Nat.{or_lt, le_or_r}
use Rattle.std.proofs.Math.Pow.{pow-lt}
use Rattle.std.proofs.Math.Nat.{one-le-pow}
use Rattle.md_reader_text.specs.Words.{same}
use Rattle.md_reader_text.specs.Numbers.{number}
use Rattle.gg_base.specs.declared.size.Size.{Size}
use Rattle.gg_base.specs.declared.size.Size.TheVariants as sizes
use Rattle.gg_base.proofs.Facts.{guarded}
use Rattle.md_reader.specs.declared.types.Kind.{Kind}
use Rattle.md_reader.specs.declared.types.Kind.TheVariants as kind
use Rattle.md_reader.specs.declared.types.Restriction.{Restriction}
use Rattle.md_reader.specs.declared.types.Give.{Give}
use Rattle.md_reader.specs.declared.types.Give.TheVariants as give
use Rattle.md_reader.specs.declared.forms.Saved.{Saved}
use Rattle.md_reader.specs.declared.forms.Saved.TheVariants as saved
use Rattle.md_types.specs.Copies.{letter}
use Rattle.md_types.specs.Forms.{are_both, size_of}
use Rattle.md_reader.specs.Forms.{register_numbered, register_of, with_register, pool_from, pool_form}
use Rattle.md_reader.specs.Forms.{is_name, sized_kind, kind_form, class_form, sized_form, spill_words}
use Rattle.md_reader.specs.Forms.{spill_form}
use Rattle.md_reader.specs.RuleForms.{rule_form, restriction_form, if_form, do_form, give_form, plain_give}
use Rattle.md_reader.specs.Valid.{IsPool}
use Rattle.md_reader.specs.Desc.{kind_words, saved_words, IsRestriction, GiveWord}
use Rattle.md_reader.proofs.Inversion.{same_true}

-- one arm of a chain of tests on a word
pick : {A : Type 0} (b : Bool) (a y : A) (o : Option A) (P : A → Type 0) → cond b (Some a) o ≡ Some y → (b ≡ true → P a) → (o ≡ Some y → P y) → P y
pick true a y o P e here next = rw (← same_Some a y e) (here refl)
pick false a y o P e here next = next e

pub both_words : (ws : List (List ℕ)) (v w : List ℕ) → are_both ws v w ≡ true → ws ≡ v ∷ w ∷ []
both_words (a ∷ b ∷ []) v w e =
    let p = and_parts (same a v) (same b w) e in
    rw (same_true a v p.0, same_true b w p.1) refl
both_words _ v w e = absurd cc

size_spelled : (w : List ℕ) (z : Size) → size_of w ≡ Some z → w ≡ letter z
size_spelled w z e =
    pick (same w (codes "b")) sizes.Byte z _ (λ z. w ≡ letter z) e (same_true w (codes "b")) (λ e.
    pick (same w (codes "w")) sizes.Word z _ (λ z. w ≡ letter z) e (same_true w (codes "w")) (λ e.
    pick (same w (codes "l")) sizes.Long z _ (λ z. w ≡ letter z) e (same_true w (codes "l")) (λ e. absurd (none-some z e))))

kind_spelled : (ws : List (List ℕ)) (k : Kind) → kind_form ws ≡ Some k → ws ≡ kind_words k
kind_spelled [] k e = absurd (none-some k e)
kind_spelled (w ∷ []) k e =
    pick (same w (codes "Reg")) kind.Reg k _ (λ k. (w ∷ []) ≡ kind_words k) e (λ f. one (codes "Reg") f) (λ e.
    pick (same w (codes "Con")) kind.Con k _ (λ k. (w ∷ []) ≡ kind_words k) e (λ f. one (codes "Con") f) (λ e.
    pick (same w (codes "Ea")) kind.Ea k _ (λ k. (w ∷ []) ≡ kind_words k) e (λ f. one (codes "Ea") f) (λ e.
    pick (same w (codes "Nothing")) kind.Nothing k _ (λ k. (w ∷ []) ≡ kind_words k) e (λ f. one (codes "Nothing") f) (λ e. absurd (none-some k e)))))
  where
    one : (v : List ℕ) → same w v ≡ true → (w ∷ []) ≡ v ∷ []
    one v f = ap (λ (x : List ℕ). x ∷ []) (same_true w v f)
kind_spelled (w ∷ s ∷ []) k e = option_and_then_some (sized_kind w) (size_of s) k e (λ z f g. at z (size_spelled s z f) g)
  where
    at : (z : Size) → s ≡ letter z → sized_kind w z ≡ Some k → (w ∷ s ∷ []) ≡ kind_words k
    at z f g =
        pick (same w (codes "Value")) (kind.Value z) k _ (λ k. (w ∷ s ∷ []) ≡ kind_words k) g (λ h. rw (same_true w (codes "Value") h, f) refl) (λ g.
        pick (same w (codes "Place")) (kind.Place z) k _ (λ k. (w ∷ s ∷ []) ≡ kind_words k) g (λ h. rw (same_true w (codes "Place") h, f) refl) (λ g. absurd (none-some k g)))
kind_spelled (w ∷ s ∷ v ∷ vs) k e = absurd (none-some k e)

-- `class NAME KIND`
pub record IsClassLine (ws : List (List ℕ)) (name : List ℕ) (k : Kind) : Type 0 where
  pub stands : ws ≡ codes "class" ∷ name ∷ kind_words k
  pub named : is_name name ≡ true

pub class_line_is : (ws : List (List ℕ)) (x : List ℕ × Kind) → class_form ws ≡ Some x → IsClassLine ws x.0 x.1
class_line_is [] x e = absurd (none-some x e)
class_line_is (a ∷ []) x e = absurd (none-some x e)
class_line_is (a ∷ name ∷ ws) x e =
    let p = guarded (same a (codes "class") && is_name name) _ x e in
    let q = and_parts (same a (codes "class")) (is_name name) p.0 in
    at (kind_form ws) refl p.1 (same_true a (codes "class") q.0) q.1
  where
    at : (o : Option Kind) → kind_form ws ≡ o → option_map (λ (k : Kind). (name, k)) o ≡ Some x → a ≡ codes "class" → is_name name ≡ true → IsClassLine (a ∷ name ∷ ws) x.0 x.1
    at None f e g h = absurd (none-some x e)
    at (Some k) f e g h = rw (← same_Some (name, k) x e) (record { stands = rw (g, kind_spelled ws k f) refl; named = h })

sized_spelled : (a : List ℕ) (ws : List (List ℕ)) (z : Size) (x : Saved × List (List ℕ)) → sized_form a ws z ≡ Some x → (codes "spill" ∷ a ∷ letter z ∷ ws) ≡ saved_words x.0 ++ x.1
sized_spelled a ws z x e =
    pick (same a (codes "value")) (saved.Value z, ws) x _ (λ x. (codes "spill" ∷ a ∷ letter z ∷ ws) ≡ saved_words x.0 ++ x.1) e (λ f. rw (same_true a (codes "value") f) refl) (λ e.
    pick (same a (codes "place")) (saved.Place z, ws) x _ (λ x. (codes "spill" ∷ a ∷ letter z ∷ ws) ≡ saved_words x.0 ++ x.1) e (λ f. rw (same_true a (codes "place") f) refl)
    (λ e. absurd (none-some x e)))

spill_words_are : (ws : List (List ℕ)) (x : Saved × List (List ℕ)) → spill_words ws ≡ Some x → (codes "spill" ∷ ws) ≡ saved_words x.0 ++ x.1
spill_words_are [] x e = absurd (none-some x e)
spill_words_are (a ∷ []) x e =
    pick (same a (codes "ea")) (saved.Ea, []) x _ (λ x. (codes "spill" ∷ a ∷ []) ≡ saved_words x.0 ++ x.1) e (λ f. rw (same_true a (codes "ea") f) refl) (λ e. absurd (none-some x e))
spill_words_are (a ∷ s ∷ ws) x e =
    pick (same a (codes "ea")) (saved.Ea, s ∷ ws) x _ (λ x. (codes "spill" ∷ a ∷ s ∷ ws) ≡ saved_words x.0 ++ x.1) e (λ f. rw (same_true a (codes "ea") f) refl) (λ e.
    option_and_then_some (sized_form a ws) (size_of s) x e (λ z f g. rw (size_spelled s z f) (sized_spelled a ws z x g)))

pub spill_line_is : (ws : List (List ℕ)) (x : Saved × List (List ℕ)) → spill_form ws ≡ Some x → ws ≡ saved_words x.0 ++ x.1
spill_line_is [] x e = absurd (none-some x e)
spill_line_is (a ∷ ws) x e =
    pick (same a (codes "reload")) (saved.Reload, ws) x _ (λ x. (a ∷ ws) ≡ saved_words x.0 ++ x.1) e (λ f. rw (same_true a (codes "reload") f) refl) (λ e.
    let p = guarded (same a (codes "spill")) (spill_words ws) x e in
    rw (same_true a (codes "spill") p.0) (spill_words_are ws x p.1))

pub rule_line_is : (ws : List (List ℕ)) (x : List ℕ × List (List ℕ)) → rule_form ws ≡ Some x → ws ≡ codes "rule" ∷ x.0 ∷ codes ":" ∷ x.1
rule_line_is (a ∷ c ∷ d ∷ s ∷ ss) x e =
    let p = guarded (same a (codes "rule") && same d (codes ":")) _ x e in
    let q = and_parts (same a (codes "rule")) (same d (codes ":")) p.0 in
    rw (same_true a (codes "rule") q.0, same_true d (codes ":") q.1) (ap (λ (y : List ℕ × List (List ℕ)). codes "rule" ∷ y.0 ∷ codes ":" ∷ y.1) (same_Some (c, s ∷ ss) x p.1))
rule_line_is _ x e = absurd (none-some x e)

pub if_line_is : (ws : List (List ℕ)) (r : Restriction) → if_form ws ≡ Some r → IsRestriction ws r
if_line_is [] r e = absurd (none-some r e)
if_line_is (a ∷ ws) r e =
    let p = guarded (same a (codes "if")) (restriction_form ws) r e in
    record { words = ws; stands = ap (λ (x : List ℕ). x ∷ ws) (same_true a (codes "if") p.0); says = p.1 }

pub do_line_is : (ws rest : List (List ℕ)) → do_form ws ≡ Some rest → ws ≡ codes "do" ∷ rest
do_line_is [] rest e = absurd (none-some rest e)
do_line_is (a ∷ ws) rest e =
    let p = guarded (same a (codes "do")) (Some ws) rest e in
    rw (same_true a (codes "do") p.0, same_Some ws rest p.1) refl

pub give_line_is : (ws : List (List ℕ)) (w : List ℕ) → give_form ws ≡ Some w → ws ≡ codes "give" ∷ w ∷ []
give_line_is (a ∷ v ∷ []) w e =
    let p = guarded (same a (codes "give")) (Some v) w e in
    rw (same_true a (codes "give") p.0, same_Some v w p.1) refl
give_line_is _ w e = absurd (none-some w e)

-- a register more
grown : (m n : ℕ) → m < 2 ^ 12 → n ≤ 11 → bit_or m (2 ^ n) < 2 ^ 12
grown m n lt le = let l : n < 12 = omega arith in or_lt 12 m (2 ^ n) lt (pow-lt {i = n} {j = 12} l)

least : (m n : ℕ) → 1 ≤ bit_or m (2 ^ n)
least m n = let a = le_or_r m (2 ^ n) in let b = one-le-pow n 2 (omega arith) in omega (arith, a, b)

register_small : (w : List ℕ) (n : ℕ) → register_of w ≡ Some n → n ≤ 11
register_small [] n e = absurd (none-some n e)
register_small (b ∷ w) n e =
    let p = guarded (eqb b 114) _ n e in
    option_and_then_some register_numbered (number 255 w) n p.1 (λ i f g. let q = guarded (nat_le i 11) (Some i) n g in rw (← same_Some i n q.1) (leb-true i 11 q.0))

with_grown : (m : ℕ) (o : Option ℕ) (k : ℕ) → ((n : ℕ) → o ≡ Some n → n ≤ 11) → m < 2 ^ 12 → with_register m o ≡ Some k → (k < 2 ^ 12) × (1 ≤ k)
with_grown m None k h lt e = absurd (none-some k e)
with_grown m (Some n) k h lt e =
    let p = guarded (eqb (bit_and m (2 ^ n)) 0) (Some (bit_or m (2 ^ n))) k e in
    let q = same_Some (bit_or m (2 ^ n)) k p.1 in
    rw (← q) (grown m n lt (h n refl), least m n)

pool_grown : (ws : List (List ℕ)) (m k : ℕ) → m < 2 ^ 12 → 1 ≤ m → pool_from m ws ≡ Some k → (k < 2 ^ 12) × (1 ≤ k)
pool_grown [] m k lt le e = rw (← same_Some m k e) (lt, le)
pool_grown (w ∷ ws) m k lt le e =
    option_and_then_some (λ (n : ℕ). pool_from n ws) (with_register m (register_of w)) k e (λ i f g. let p = with_grown m (register_of w) i (register_small w) lt f in pool_grown ws i k p.0 p.1 g)

pub pool_is : (ws : List (List ℕ)) (k : ℕ) → pool_form ws ≡ Some k → IsPool k
pool_is [] k e = absurd (none-some k e)
pool_is (a ∷ []) k e = absurd (none-some k e)
pool_is (a ∷ w ∷ ws) k e =
    let p = guarded (same a (codes "pool")) (pool_from 0 (w ∷ ws)) k e in
    option_and_then_some (λ (n : ℕ). pool_from n ws) (with_register 0 (register_of w)) k p.1
    (λ i f g. let q = with_grown 0 (register_of w) i (register_small w) (omega arith) f in whole (pool_grown ws i k q.0 q.1 g))
  where
    whole : (k < 2 ^ 12) × (1 ≤ k) → IsPool k
    whole h = record { some = h.1; within = omega (arith, h.0) }

-- the word of a `give` line that is no operand
pub plain_word : (n : ℕ) (w : List ℕ) (g : Give) → plain_give w ≡ Some g → GiveWord n w g
plain_word n w g e =
    pick (same w (codes "fresh")) give.Fresh g _ (GiveWord n w) e (same_true w (codes "fresh")) (λ e.
    pick (same w (codes "reuse")) give.Reuse g _ (GiveWord n w) e (same_true w (codes "reuse")) (λ e.
    pick (same w (codes "scratch")) give.Scratch g _ (GiveWord n w) e (same_true w (codes "scratch")) (λ e.
    pick (same w (codes "nothing")) give.Nothing g _ (GiveWord n w) e (same_true w (codes "nothing")) (λ e. absurd (none-some g e)))))

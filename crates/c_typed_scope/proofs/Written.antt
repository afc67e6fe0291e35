-- Bytes that are written one after another, and the object that holds them.
use Rattle.std.proofs.Common.{◌≡◌, ℕ, zero, suc, ◌+◌, ◌-◌, ◌*◌, ◌<◌, ◌≤◌, ◌/◌, ◌%◌, ◌^◌, List, [], ◌∷◌, ◌++◌, length, take, get_or, refl, ap, sym, ◌∙◌, arith}
use Rattle.std.proofs.Math.ListN.{set}
use Rattle.std.proofs.Math.Nat.{div-mul-le_self}
use Rattle.tree_core.specs.declared.program.Object.{Object}
use Rattle.tree_core.specs.declared.program.Link.{Link}
use Rattle.std.proofs.Common.{Bool, true, false, cond, Result, Ok, Err}
use Rattle.std.specs.Fmt.{decimal}
use Rattle.std.specs.Int.{w32, to_le_bytes}
use Rattle.c_types.specs.declared.fault.TypeKind.TheVariants.{DataFull}
use Rattle.c_types.specs.Answers.{Fault, bad}
use Rattle.c_types.specs.Typed.{LiteralAt}
use Rattle.c_typed_scope.specs.Layout.{Area, placed, literal, with_object}
use Rattle.c_typed_scope.specs.Contents.{low_bytes, Filled, holding, with_contents}

pub contents_beyond : (n : ℕ) (f : Filled) (os : List Object) → length os ≤ n → with_contents n f os ≡ os
contents_beyond n f [] le = refl
contents_beyond zero f (o ∷ os) le = absurd (omega arith)
contents_beyond (suc n) f (o ∷ os) le = ap (λ l. o ∷ l) (contents_beyond n f os (omega arith))

pub contents_set : (n : ℕ) (f : Filled) (os : List Object) (d : Object) → n < length os → with_contents n f os ≡ set os n (holding f (get_or os n d))
contents_set n f [] d lt = absurd (omega arith)
contents_set zero f (o ∷ os) d lt = refl
contents_set (suc n) f (o ∷ os) d lt = ap (λ l. o ∷ l) (contents_set n f os d (omega arith))

-- the four bytes of a number
pub low_is : (v : ℕ) → low_bytes 4 v ≡ to_le_bytes w32 v
low_is v =
    let a : v / 2 ^ 8 / 2 ^ 8 ≡ v / 256 ^ 2 = omega arith in
    let b : v / 2 ^ 8 / 2 ^ 8 / 2 ^ 8 ≡ v / 256 ^ 3 = omega arith in
    ap (λ (z : ℕ). (v % 2 ^ 8) ∷ (v / 2 ^ 8 % 2 ^ 8) ∷ (z % 2 ^ 8) ∷ (v / 2 ^ 8 / 2 ^ 8 / 2 ^ 8 % 2 ^ 8) ∷ []) a
    ∙ ap (λ (z : ℕ). (v % 2 ^ 8) ∷ (v / 2 ^ 8 % 2 ^ 8) ∷ (v / 256 ^ 2 % 2 ^ 8) ∷ (z % 2 ^ 8) ∷ []) b

low_taken : (n m v : ℕ) → n ≤ m → take n (low_bytes m v) ≡ low_bytes n v
low_taken zero m v le = refl
low_taken (suc n) zero v le = absurd (omega arith)
low_taken (suc n) (suc m) v le = ap (λ l. (v % 2 ^ 8) ∷ l) (low_taken n m (v / 2 ^ 8) (omega arith))

-- the low bytes are the first of the four
pub low_first : (size v : ℕ) → size ≤ 4 → take size (to_le_bytes w32 v) ≡ low_bytes size v
low_first size v le = ap (take size) (sym (low_is v)) ∙ low_taken size 4 v le

pub near : (end n a b c d : ℕ) → a ≡ end → b ≡ n → c ≡ n → d ≡ n → 1 ≤ n → n ≤ 4 → (a + (b - 1)) / c * d ≤ end + 3
near end n a b c d p q r s one four = rw (p, q, r, s) (omega (arith, div-mul-le_self (end + (n - 1)) n))

-- an object that holds what was written
pub held : (n : ℕ) (f : Filled) (os : List Object) (d : Object) (b : List ℕ) (l : List Link) → n < length os → d ≡ get_or os n d → b ≡ f.bytes → l ≡ f.links
    → set os n (record { label = d.label; address = d.address; size = d.size; align = d.align; bytes = b; links = l }) ≡ with_contents n f os
held n f os d b l lt is eb el = rw (eb, el) (sym (contents_set n f os d lt ∙ ap (λ o. set os n (holding f o)) (sym is)))

abbrev laid_in : Area → Result (ℕ × Area) Fault → Area
laid_in d (Ok r) = r.1
laid_in d (Err e) = d

unless : {A : Type 0} (t : Bool) (x y : A) → t ≡ false → cond t x y ≡ y
unless true x y e = absurd (cc)
unless false x y e = refl

kept_by : (t : Bool) (at k n : ℕ) (m b : Area) → cond t (bad {A = ℕ × Area} at DataFull) (Ok (k, m)) ≡ Ok (n, b) → m ≡ b
kept_by true at k n m b e = absurd (cc)
kept_by false at k n m b e = ap (laid_in b) e

-- laying an object counts no literal
placed_literals : (at : ℕ) (label bytes : List ℕ) (align size n : ℕ) (a b : Area) → placed at label align size bytes a ≡ Ok (n, b) → b.literals ≡ a.literals
unfolding placed
placed_literals at label bytes align size n a b e = sym (ap (λ (x : Area). x.literals) (kept_by _ at _ n (with_object label align size bytes a) b e))

pub literal_laid : (at : ℕ) (bytes label closed : List ℕ) (size n : ℕ) (a b : Area) → a.measuring ≡ false → label ≡ 83 ∷ decimal a.literals → closed ≡ bytes ++ 0 ∷ [] → size ≡ length bytes
    + 1 → placed at label 1 size closed a ≡ Ok (n, b) → literal at bytes a
    ≡ Ok (LiteralAt n size, record { objects = b.objects; end = b.end; literals = a.literals + 1; statics = b.statics; measuring = b.measuring })
unfolding literal
literal_laid at bytes label closed size n a b off named ended sized laid =
    let same : b.literals ≡ a.literals = placed_literals at label closed 1 size n a b laid in
    let h : placed at (83 ∷ decimal a.literals) 1 (length bytes + 1) (bytes ++ 0 ∷ []) a ≡ Ok (n, b) = rw (← named, ← ended, ← sized) laid in
    unless a.measuring _ _ off ∙ rw (h, same, sized) refl

-- lengths stay

pub held_length : (n : ℕ) (g : Filled) (os : List Object) → length (with_contents n g os) ≡ length os
held_length n g [] = refl
held_length zero g (o ∷ os) = refl
held_length (suc n) g (o ∷ os) = ap suc (held_length n g os)

pub low_length : (n v : ℕ) → length (low_bytes n v) ≡ n
low_length zero v = refl
low_length (suc n) v = ap suc (low_length n (v / 2 ^ 8))

-- Zeros are put into elements of a block one after another. Offsets count modulo 2^32.
use Rattle.std.proofs.Common.{◌≡◌, ℕ, zero, suc, ◌+◌, ◌-◌, ◌%◌, ◌^◌, ◌<◌, ◌≤◌, Some, None, Option, refl, sym, ap, ◌∙◌, arith}
use Rattle.std.specs.Option.{option_map}
use Rattle.gg_base.specs.Arithmetic.{add32}
use Rattle.c_types.specs.declared.types.CType.{CType}
use Rattle.c_types.specs.Types.{size_of}
use Rattle.c_meaning.specs.declared.store.Spot.TheVariants.{InBlock}
use Rattle.c_meaning.specs.State.{State, put, put_at, put_zeros}

-- an offset counts modulo 2^32
add_wraps : (b o : ℕ) → add32 b (o % 2 ^ 32) ≡ add32 b o
add_wraps b o = omega arith

put_wraps : (t : CType) (o v : ℕ) (st : State) → put t (InBlock (o % 2 ^ 32)) v st ≡ put t (InBlock o) v st
put_wraps t o v st = ap (λ (f : ℕ → ℕ). put_at t (option_map f st.call.block) v st) (λ i b. add_wraps b o i)

zeros_wrap : (t : CType) (o k : ℕ) (st : Option State) → put_zeros t (o % 2 ^ 32) k st ≡ put_zeros t o k st
zeros_wrap t o zero st = refl
zeros_wrap t o (suc k) None = refl
zeros_wrap t o (suc k) (Some st) =
    let s = size_of t in
    let same : (o % 2 ^ 32 + s) % 2 ^ 32 ≡ (o + s) % 2 ^ 32 = omega arith in
    ap (put_zeros t (o % 2 ^ 32 + s) k) (put_wraps t o 0 st)
    ∙ sym (zeros_wrap t (o % 2 ^ 32 + s) k (put t (InBlock o) 0 st))
    ∙ ap (λ x. put_zeros t x k (put t (InBlock o) 0 st)) same
    ∙ zeros_wrap t (o + s) k (put t (InBlock o) 0 st)

zeros_none : (t : CType) (o k : ℕ) → put_zeros t o k None ≡ None
zeros_none t o zero = refl
zeros_none t o (suc k) = refl

zeros_first : (t : CType) (o j k : ℕ) (st : State) → j ≡ suc k → put_zeros t o j (Some st) ≡ put_zeros t (o + size_of t) k (put t (InBlock o) 0 st)
zeros_first t o j k st is = ap (λ x. put_zeros t o x (Some st)) is

-- one element more
pub zeros_more : (whole : Option State) (t : CType) (o next count i : ℕ) (st st' : State) → i < count → whole ≡ put_zeros t o (count - i) (Some st)
    → put t (InBlock o) 0 st ≡ Some st' → next ≡ add32 o (size_of t) → whole ≡ put_zeros t next (count - (i + 1)) (Some st')
zeros_more whole t o next count i st st' lt is puts at =
    is ∙ zeros_first t o (count - i) (count - (i + 1)) st (omega arith)
    ∙ ap (put_zeros t (o + size_of t) (count - (i + 1))) puts
    ∙ sym (zeros_wrap t (o + size_of t) (count - (i + 1)) (Some st'))
    ∙ ap (λ x. put_zeros t x (count - (i + 1)) (Some st')) (sym at)

-- an element can't be put
pub zeros_stop : (whole : Option State) (t : CType) (o count i : ℕ) (st : State) → i < count → whole ≡ put_zeros t o (count - i) (Some st)
    → put t (InBlock o) 0 st ≡ None → whole ≡ None
zeros_stop whole t o count i st lt is puts =
    is ∙ zeros_first t o (count - i) (count - (i + 1)) st (omega arith)
    ∙ ap (put_zeros t (o + size_of t) (count - (i + 1))) puts ∙ zeros_none t (o + size_of t) (count - (i + 1))

-- all are put
pub zeros_all : (whole : Option State) (t : CType) (o count i : ℕ) (st : State) → count ≤ i → whole ≡ put_zeros t o (count - i) (Some st) → whole ≡ Some st
zeros_all whole t o count i st le is = is ∙ (let none : count - i ≡ 0 = omega arith in ap (λ x. put_zeros t o x (Some st)) none)

-- Each function fits the frame that it needs.
use Rattle.std.proofs.Common.{◌≡◌, ℕ, zero, suc, ◌+◌, ◌*◌, ◌<◌, ◌≤◌, List, [], ◌∷◌, length, Some, refl, ap, arith, sym, subst}
use Rattle.std.specs.Prelude.{◌-◌, ◌/◌, max, slice_get}
use Rattle.std.proofs.lemmas.Bool.{ne_eqb}
use Rattle.c_types.specs.declared.typed.Variable.{Variable}
use Rattle.c_types.specs.declared.typed.Variable.TheVariants as variables
use Rattle.tree_core.specs.declared.program.TreeFn.{TreeFn}
use Rattle.c_program.specs.Need.{block_words, largest_of, need_of}
use Rattle.c_program.specs.Programs.{ARoutine, AProgram}
use Rattle.c_sound.specs.Stands.{IsThere, Takes}
use Rattle.c_sound.specs.Sound.{BodyStands}
use Rattle.c_lower_scheme.specs.Parts.{Emitted, Destination}
use Rattle.c_lower_scheme.specs.Places.{where_of}
use Rattle.c_lower_scheme.specs.Statements.{lower_row}
use Rattle.c_lower_scheme.specs.Programs.{first_temporary, way_in, way_out, body_of, function_of, lower_all}
use Rattle.c_lower_scheme.proofs.Facts.{all_lowered}
use Rattle.c_lower_bounds.specs.Claim.{FitsFrame, EachFunctionFits, FunctionsStay}
use Rattle.c_lower_bounds.proofs.Trees.{Narrow, none, next, root_forks}
use Rattle.c_lower_bounds.proofs.Places.{place_forks, where_forks}
use Rattle.c_lower_bounds.proofs.Phrases.{Widens}
use Rattle.c_lower_bounds.proofs.Statements.{Holds, two_hold, row_holds, zero_holds}

-- three forks for two nodes
rich : ℕ → ℕ
rich n = n + (n + 1) / 2

-- A tree of a function without a block has fewer forks than nodes, and one of a function with a block at most three for two nodes.
abbrev bound : ℕ → ℕ → ℕ
bound zero n = n
bound (suc block) n = rich n

-- how many forks no item of a function has, whose full expressions have at most m nodes: three are those of taking a block
abbrev most : ℕ → ℕ → ℕ
most zero m = m
most (suc block) m = 3 + rich m

rich_grows : (m n : ℕ) → m ≤ n → rich m ≤ rich n
unfolding rich
rich_grows m n le = omega arith

rich_most : (n : ℕ) → 2 * rich n ≤ 3 * n + 1
unfolding rich
rich_most n = omega arith

widens : (block : ℕ) → Widens (bound block)
unfolding rich
widens zero = record { one = omega arith; grows = λ m n le. le; next = λ n. omega arith; joins = λ m n. omega arith }
widens (suc block) = record { one = omega arith; grows = rich_grows; next = λ n. omega arith; joins = λ m n. omega arith }

-- nothing is there in a block of no bytes
names_fit : (block objects params size : ℕ) (v : Variable) → IsThere objects params block v → suc (place_forks (where_of size v)) ≤ bound block 1
unfolding rich
names_fit zero objects params size (variables.Automatic n) h = omega arith
names_fit zero objects params size (variables.Parameter n) h = omega arith
names_fit zero objects params size (variables.Global n) h = omega arith
names_fit zero objects params size (variables.Static n) h = omega arith
names_fit zero objects params size (variables.InBlock o) h = absurd (omega arith)
names_fit (suc block) objects params size v h = let few = where_forks size v in omega (arith, few)

some_fit : (block m : ℕ) → 1 ≤ m → 1 ≤ most block m
some_fit zero m one = one
some_fit (suc block) m one = omega arith

wide_fit : (block m n : ℕ) → n ≤ m → bound block n ≤ most block m
wide_fit zero m n le = le
wide_fit (suc block) m n le = let h = rich_grows n m le in omega (arith, h)

stores_fit : (block m o : ℕ) → o < block → (2 ≤ most block m) × ((n : ℕ) → n ≤ m → suc (bound block n) ≤ most block m)
stores_fit zero m o h = absurd (omega arith)
stores_fit (suc block) m o h = (omega arith, λ n le. (let g = rich_grows n m le in omega (arith, g)))

way_in_holds : (block size pointer l m : ℕ) → Holds (first_temporary size block) m (most block m) (way_in size (first_temporary size block) pointer block l)
way_in_holds zero size pointer l m = record { temps = omega arith; items = none }
way_in_holds (suc block) size pointer l m = record {
  temps = omega arith;
  items = next (omega arith) (next (omega arith) (next (omega arith) (next (omega arith) (next (omega arith) none))));
}

words_fit : (block : ℕ) → block_words (suc block) ≡ 8
words_fit block = rw (ne_eqb (suc block) 0 (λ e. absurd (omega arith))) refl

need_fits : (block size m t : ℕ) → 1 ≤ m → 2 * t ≤ 2 * first_temporary size block + 3 * m → t + 1 + most block m ≤ size + (block_words block + 3 * m)
need_fits zero size m t one h = omega arith
need_fits (suc block) size m t one h = let few = rich_most m in let words = words_fit block in omega (arith, few, words)

-- items that fit a frame
record FitsIn (need : ℕ) (p : Emitted) : Type 0 where
  pub forks : ℕ
  pub items : Narrow forks p.items
  pub room : p.temps + 1 + forks ≤ need

body_fits : (p : AProgram) (pointer count l : ℕ) (g : ARoutine) → BodyStands p g
    → FitsIn (length g.locals + (block_words g.block + 3 * max 1 (largest_of g.body))) (body_of pointer count g l)
body_fits p pointer count l g s =
    let size : ℕ = length g.locals in
    let first : ℕ = first_temporary size g.block in
    let out : Destination = way_out pointer size g.block in
    let there : Variable → Type 0 = IsThere (length p.objects) (length g.parameters) g.block in
    let m : ℕ = max 1 (largest_of g.body) in
    let one : 1 ≤ m = omega arith in
    let less : largest_of g.body ≤ m = omega arith in
    let start : Emitted = way_in size first pointer g.block l in
    let row : Emitted = lower_row size count first out g.body 0 0 start.labels in
    let h = row_holds size count first out there (Takes p.routines) (length p.objects) (bound g.block) (widens g.block)
    (names_fit g.block (length p.objects) (length g.parameters) size) m (most g.block m) one (some_fit g.block m one) (wide_fit g.block m)
    (stores_fit g.block m) g.body s less 0 0 start.labels in
    let end = zero_holds size count first out there (Takes p.routines) (length p.objects) (bound g.block) (widens g.block)
    (names_fit g.block (length p.objects) (length g.parameters) size) m (most g.block m) one (some_fit g.block m one) (wide_fit g.block m)
    (stores_fit g.block m) row.labels in
    let all = two_hold (way_in_holds g.block size pointer l m) (two_hold h end) in
    record { forks = most g.block m; items = all.items; room = need_fits g.block size m _ one all.temps }

fits_frame : (need : ℕ) (g : ARoutine) (p : Emitted) → FitsIn need p → FitsFrame need (function_of g p)
fits_frame need g p h = record {
  locals = omega (arith, h.room);
  roots = λ n w e. let most = root_forks h.items n w e in omega (arith, h.room, most);
}

function_fits : (p : AProgram) (pointer count l : ℕ) (g : ARoutine) → BodyStands p g
    → FitsFrame (need_of g.locals g.block g.body) (function_of g (body_of pointer count g l))
unfolding need_of
function_fits p pointer count l g s = fits_frame _ g (body_of pointer count g l) (body_fits p pointer count l g s)

-- the function at a number is the one that the program's function there is lowered to
at_number : (pointer count : ℕ) (gs : List ARoutine) (l n : ℕ) (g : ARoutine) (f : TreeFn)
    → slice_get gs n ≡ Some g → slice_get (lower_all pointer count gs l) n ≡ Some f → (k : ℕ) × (function_of g (body_of pointer count g k) ≡ f)
at_number pointer count [] l n g f e h = absurd (cc)
at_number pointer count (x ∷ gs) l zero g f e h =
    let same : x ≡ g = cc in
    let made : function_of x (body_of pointer count x l) ≡ f = cc in
    (l, subst (λ (y : ARoutine). function_of y (body_of pointer count y l) ≡ f) same made)
at_number pointer count (x ∷ gs) l (suc n) g f e h = at_number pointer count gs (body_of pointer count x l).labels n g f e h

pub each_function_fits : EachFunctionFits
each_function_fits p s n g f e h =
    let pointer : ℕ = length p.objects - 2 in
    let k = at_number pointer (length p.routines) p.routines 0 n g f e h in
    subst (FitsFrame (need_of g.locals g.block g.body)) k.1 (function_fits p pointer (length p.routines) k.0 g (s.stands n g e))

pub functions_stay : FunctionsStay
functions_stay p =
    let pointer : ℕ = length p.objects - 2 in
    record {
      count = all_lowered pointer (length p.routines) p.routines 0;
      functions = λ n g f e h.
          let made = (at_number pointer (length p.routines) p.routines 0 n g f e h).1 in
          record {
            name = ap (λ (x : TreeFn). x.name) (sym made);
            args = ap (λ (x : TreeFn). x.args) (sym made);
            wanted = ap (λ (x : TreeFn). x.wanted) (sym made);
          };
      objects = refl;
    }

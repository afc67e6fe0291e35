-- The run of the trees counts no more than the run of the program.
use Rattle.std.proofs.Common.{◌≡◌, ℕ, zero, suc, ◌+◌, ◌-◌, List, [], ◌∷◌, length, Some, refl, ap, arith, sym, ◌∙◌, subst, ◌*◌, ◌≤◌}
use Rattle.std.specs.Prelude.{Bool, true, false, slice_get, codes, cond, replicate}
use Rattle.std.specs.List.{find}
use Rattle.std.specs.Str.{bytes_eq}
use Rattle.tree_core.specs.declared.program.Object.{Object}
use Rattle.tree_core.specs.declared.program.TreeFn.{TreeFn}
use Rattle.tree_core.specs.Area.{bytes_from}
use Rattle.tree_meaning.specs.Meaning.{main_at, main_of as main_of_trees}
use Rattle.tree_counts.specs.Counted.{tallies as runs, tree_tally}
use Rattle.c_program.specs.Programs.{ARoutine, AProgram}
use Rattle.c_meaning.specs.Blocks.{pointer_number}
use Rattle.c_meaning.specs.Programs.{finished, means, at_first, main_of}
use Rattle.c_meaning.proofs.Law.{means_is}
use Rattle.c_sound.specs.Fits.{AreBytes}
use Rattle.c_sound.specs.Sound.{IsMain, IsSound}
use Rattle.c_sound.proofs.Bytes.{zeros_are_bytes, bytes_joined}
use Rattle.c_lower_scheme.specs.Programs.{body_of, function_of, lower_all, lowered}
use Rattle.c_lower_scheme.proofs.Facts.{all_lowered}
use Rattle.c_lower_counts.specs.Claim.{LoweringCountsNoMore, Within}
use Rattle.c_lower_counts.specs.Zeros.{row_zeros, all_zeros, zeros_of, with_zeros}
use Rattle.c_lower_counts.proofs.Leads.{Leads, leads_ended, Depth, fuller, times_suc}
use Rattle.c_lower_follows.proofs.Calling.{CodeOf}
use Rattle.c_lower_counts.proofs.Calling.{Backed}
use Rattle.c_lower_counts.proofs.Functions.{calls_at}
use Rattle.c_lower_follows.proofs.Labels.{all_code}

-- the data area holds bytes
opening_bytes : (at : ℕ) (os : List Object) → ((n : ℕ) (o : Object) → slice_get os n ≡ Some o → AreBytes o.bytes) → AreBytes (bytes_from at os)
opening_bytes at [] h = tt
opening_bytes at (o ∷ os) h = bytes_joined (replicate (o.address - at) 0) _ (zeros_are_bytes (o.address - at))
    (bytes_joined o.bytes _ (h 0 o refl) (opening_bytes (o.address + o.size) os (λ n x e. h (suc n) x e)))

abbrev is_main : TreeFn → Bool
is_main f = bytes_eq f.name (codes "main")

-- the only function called main is found
find_main : (pointer count : ℕ) (gs : List ARoutine) (l n : ℕ) (g : ARoutine) → slice_get gs n ≡ Some g → IsMain g.name → ((f : ℕ) (h : ARoutine) → slice_get gs f ≡ Some h → IsMain h.name → f ≡ n)
    → find is_main (lower_all pointer count gs l) ≡ slice_get (lower_all pointer count gs l) n
find_main pointer count [] l n g e main only = absurd (cc)
find_main pointer count (h ∷ gs) l zero g e main only = let same : h ≡ g = cc in
    ap (λ b. cond b (Some (function_of h (body_of pointer count h l))) (find is_main (lower_all pointer count gs (body_of pointer count h l).labels))) (subst (λ (x : ARoutine). IsMain x.name)
    (sym same) main)
find_main pointer count (h ∷ gs) l (suc n) g e main only =
    let other : bytes_eq h.name (codes "main") ≡ false = not_main (bytes_eq h.name (codes "main")) refl in
    ap (λ b. cond b (Some (function_of h (body_of pointer count h l))) (find is_main (lower_all pointer count gs (body_of pointer count h l).labels))) other
    ∙ find_main pointer count gs (body_of pointer count h l).labels n g e main (λ f x ex mx. let r = only (suc f) x ex mx in omega (arith, r))
  where
    not_main : (b : Bool) → bytes_eq h.name (codes "main") ≡ b → bytes_eq h.name (codes "main") ≡ false
    not_main true eb = absurd (let r = only 0 h refl eb in omega (arith, r))
    not_main false eb = eb

-- a function's zeros are among those of the program
zeros_within : (gs : List ARoutine) (f : ℕ) (g : ARoutine) → slice_get gs f ≡ Some g → row_zeros g.body ≤ all_zeros gs
zeros_within [] f g e = absurd (cc)
zeros_within (h ∷ gs) zero g e = let same : h ≡ g = cc in subst (λ (x : ARoutine). row_zeros x.body ≤ row_zeros h.body + all_zeros gs) same (omega arith)
zeros_within (h ∷ gs) (suc f) g e = let below : row_zeros g.body ≤ all_zeros gs = zeros_within gs f g e in omega arith

-- what is allowed, put together
allowed_is : (z n : ℕ) → n + z * n + (0 + z) ≡ n + z * (n + 1)
allowed_is z n = let more : z * suc n ≡ z * n + z = times_suc z n in let next : n + 1 ≡ suc n = omega arith in rw next (omega arith)

-- before the first counted turn of a program, with so many turns to be looked at
abbrev start : AProgram → ℕ → Depth
start p t = record { turns = t; spare = 0; each = zeros_of p }

main_leads : (p : AProgram) (input : List ℕ) → IsSound p → AreBytes input → (g : ARoutine) → slice_get p.routines p.main ≡ Some g → (tf : TreeFn)
    → CodeOf (pointer_number p.objects) (length p.routines) g tf.items
    → (t : ℕ) → Leads (fuller (start p t)) (main_of (Some g) p input) (runs (lowered p) (main_at (lowered p) (Some tf) input))
main_leads p input sound bytes g at_main tf own t =
    let k : Depth = start p t in
    let backed : Backed (lowered p) k finished [] = record { goes = λ w st lt area i. leads_ended k _ } in
    let calls = calls_at (lowered p) (length p.routines) p (means p) (all_lowered (pointer_number p.objects) (length p.routines) p.routines 0) (λ f h e. all_code (pointer_number p.objects)
    (length p.routines) p.routines 0 f h e) refl
    sound.addresses (λ t κ st. means_is p t κ st) sound.fits sound.stands sound.blocks (zeros_of p) (λ f h e. zeros_within p.routines f h e) (suc t) in
    calls.runs_body k (omega arith, refl) p.main g at_main tf own [] tt finished [] backed (at_first p input) refl (record { bytes = opening_bytes 65536 p.objects sound.contents; long = refl })
    bytes

main_is_bounded : (p : AProgram) (input : List ℕ) → IsSound p → AreBytes input → (g : ARoutine) → slice_get p.routines p.main ≡ Some g → (tf : TreeFn)
    → CodeOf (pointer_number p.objects) (length p.routines) g tf.items
    → main_of_trees (lowered p).functions ≡ Some tf → (n : ℕ)
    → Within (with_zeros p n) (main_of (Some g) p input n).end (main_of (Some g) p input n).output (tree_tally (lowered p) input)
main_is_bounded p input sound bytes g at_main tf own found n =
    let leads : Leads (fuller (start p (suc n))) (main_of (Some g) p input) (tree_tally (lowered p) input) =
    subst (λ o. Leads (fuller (start p (suc n))) (main_of (Some g) p input) (runs (lowered p) (main_at (lowered p) o input))) (sym found)
    (main_leads p input sound bytes g at_main tf own (suc n)) in
    subst (λ m. Within m (main_of (Some g) p input n).end (main_of (Some g) p input n).output (tree_tally (lowered p) input)) (allowed_is (zeros_of p) n) (leads.within n (omega arith))

pub lowering_counts_no_more : LoweringCountsNoMore
lowering_counts_no_more p sound input bytes n =
    let main = sound.main in
    let own = all_code (pointer_number p.objects) (length p.routines) p.routines 0 p.main main.0 main.1 in
    let found = find_main (pointer_number p.objects) (length p.routines) p.routines 0 p.main main.0 main.1 main.2 sound.only_main ∙ own.1 in
    subst (λ o. Within (with_zeros p n) (main_of o p input n).end (main_of o p input n).output (tree_tally (lowered p) input)) (sym main.1)
    (main_is_bounded p input sound bytes main.0 main.1 own.0 own.2 found n)

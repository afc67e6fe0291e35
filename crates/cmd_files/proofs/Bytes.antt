-- Numbers that code holds as bytes are bytes.
use Rattle.std.proofs.Common.{ℕ, suc, List, [], ◌∷◌, Fits, w8, arith}
use Rattle.std.specs.Prelude.{slice_index_or}
use Rattle.cmd_files.specs.Calls.{AreBytes}

pub bytes_fit : (bs : List ℕ) → ((i : ℕ) → Fits w8 (slice_index_or bs i 0)) → AreBytes bs
bytes_fit [] f = tt
bytes_fit (b ∷ bs) f = (let fits = (f 0).fits in omega arith, bytes_fit bs (λ i. f (suc i)))

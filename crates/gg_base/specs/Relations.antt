-- Relations between two longwords.
use Rattle.std.specs.Prelude.{ℕ, ◌+◌, ◌%◌, ◌^◌, ◌==◌, nat_lt, nat_le, not, Bool, true, false}
use Rattle.gg_base.specs.declared.relation.Rel.{Rel}
use Rattle.gg_base.specs.declared.relation.Rel.TheVariants.{Eq, Ne, Lt, Le, Gt, Ge, Ltu, Leu, Gtu, Geu}

-- the place of a signed number in the order from -2^31 to 2^31 - 1, counted from 0
abbrev pub signed_rank : ℕ → ℕ
signed_rank a = (a + 2 ^ 31) % 2 ^ 32

abbrev pub holds : Rel → ℕ → ℕ → Bool
holds Eq a b = a == b
holds Ne a b = not (a == b)
holds Lt a b = nat_lt (signed_rank a) (signed_rank b)
holds Le a b = nat_le (signed_rank a) (signed_rank b)
holds Gt a b = nat_lt (signed_rank b) (signed_rank a)
holds Ge a b = nat_le (signed_rank b) (signed_rank a)
holds Ltu a b = nat_lt a b
holds Leu a b = nat_le a b
holds Gtu a b = nat_lt b a
holds Geu a b = nat_le b a

-- the relation compares with signs, or for equality
abbrev pub compares_signed : Rel → Bool
compares_signed Ltu = false
compares_signed Leu = false
compares_signed Gtu = false
compares_signed Geu = false
compares_signed r = true

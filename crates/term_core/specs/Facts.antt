-- What is known of a rule's symbols.
use Rattle.std.specs.Prelude.{ℕ, Bool, false, ◌==◌, List, slice_index_or}
use Rattle.gg_base.specs.declared.size.Size.{Size}
use Rattle.gg_base.specs.declared.size.Size.TheVariants.{Long}
use Rattle.gg_base.specs.Sizes.{bytes_of}
use Rattle.term_core.specs.declared.facts.Fact.{Fact}

-- the fact of symbol i stands at index i; behind the list nothing is known
abbrev pub fact_at : List Fact → ℕ → Fact
fact_at facts i = slice_index_or facts i (record { size = Long; is_count = false; same_as = i })

abbrev pub has_size : List Fact → ℕ → Size → Bool
has_size facts i size = bytes_of (fact_at facts i).size == bytes_of size

abbrev pub is_count : List Fact → ℕ → Bool
is_count facts i = (fact_at facts i).is_count

abbrev pub same_as : List Fact → ℕ → ℕ
same_as facts i = (fact_at facts i).same_as

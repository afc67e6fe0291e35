-- The lines of a text.
use Rattle.std.specs.Prelude.{ℕ, ◌==◌, List, [], ◌∷◌, take, drop, Option, Some, None, if◌then◌else◌}
use Rattle.gg_base.specs.Fronts.{run_len, in_line}
use Rattle.md_reader_text.specs.Lists.{put_front}

-- what line feeds end; the last line may lack its own
abbrev pub lines : List ℕ → List (List ℕ)
lines [] = []
lines (b ∷ bs) = if b == 10 then [] ∷ lines bs else put_front b (lines bs)

-- how a line is cut off
abbrev pub cut_line : List ℕ → Option (List ℕ × List ℕ)
cut_line [] = None
cut_line (b ∷ bs) = Some (take (run_len in_line (b ∷ bs)) (b ∷ bs), drop 1 (drop (run_len in_line (b ∷ bs)) (b ∷ bs)))

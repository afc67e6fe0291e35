-- The first line is cut off exactly as it stands.
use Rattle.std.proofs.Common.{Bor, ◌≡◌, ℕ, Bool, true, false, eqb, List, [], ◌∷◌, take, drop, Option, Some, None, refl, sym, ap, ◌∙◌}
use Rattle.std.specs.Option.{option_map}
use Rattle.gg_base.specs.Fronts.{run_len, in_line}
use Rattle.md_reader_text.specs.Lists.{put_front, list_of}
use Rattle.md_reader_text.specs.Lines.{lines, cut_line}

-- the first line of a text that is not empty is what stands in front of the first line feed
lines_front : (b : ℕ) (bs : List ℕ) → lines (b ∷ bs) ≡ take (run_len in_line (b ∷ bs)) (b ∷ bs) ∷ lines (drop 1 (drop (run_len in_line (b ∷ bs)) (b ∷ bs)))
lines_front b bs = at (eqb b 10) b bs refl (inner bs)
  where
    at : (t : Bool) (b : ℕ) (bs : List ℕ) → eqb b 10 ≡ t → ((x : ℕ) → put_front x (lines bs) ≡ (x ∷ take (run_len in_line bs) bs) ∷ lines (drop 1 (drop (run_len in_line bs) bs))) → lines (b ∷ bs)
        ≡ take (run_len in_line (b ∷ bs)) (b ∷ bs) ∷ lines (drop 1 (drop (run_len in_line (b ∷ bs)) (b ∷ bs)))
    at true b bs e h = rw e refl
    at false b bs e h = rw e (h b)

    inner : (bs : List ℕ) (x : ℕ) → put_front x (lines bs) ≡ (x ∷ take (run_len in_line bs) bs) ∷ lines (drop 1 (drop (run_len in_line bs) bs))
    inner [] x = refl
    inner (b ∷ bs) x = rw (at (eqb b 10) b bs refl (inner bs)) refl

abbrev go_on : List ℕ × List ℕ → List ℕ × List (List ℕ)
go_on x = (x.0, lines x.1)

cut_line_is : (text : List ℕ) → lines text ≡ list_of (option_map go_on (cut_line text))
cut_line_is [] = refl
cut_line_is (b ∷ bs) = lines_front b bs

-- the same where the parts lie behind references
pub seen_lines : (r : Option (Bor (List ℕ) × Bor (List ℕ))) (text : List ℕ) → option_map (λ (x : Bor (List ℕ) × Bor (List ℕ)). (x.0.now, x.1.now)) r ≡ cut_line text → lines text
    ≡ list_of (option_map (λ (x : Bor (List ℕ) × Bor (List ℕ)). (x.0.now, lines x.1.now)) r)
seen_lines None text e = cut_line_is text ∙ ap (λ (o : Option (List ℕ × List ℕ)). list_of (option_map go_on o)) (sym e)
seen_lines (Some x) text e = cut_line_is text ∙ ap (λ (o : Option (List ℕ × List ℕ)). list_of (option_map go_on o)) (sym e)

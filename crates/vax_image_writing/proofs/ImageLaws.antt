-- The parts of an image, one behind the other.
use Rattle.std.proofs.Common.{◌≡◌, ℕ, List, ◌++◌, ap, ◌∙◌, append_assoc}

pub joined : (magic a b c d e f text marks count refs number area : List ℕ) → a ≡ magic ++ text → b ≡ a ++ marks → c ≡ b ++ count → d ≡ c ++ refs → e ≡ d ++ number → f ≡ e ++ area
    → f ≡ magic ++ (text ++ (marks ++ ((count ++ refs) ++ (number ++ area))))
joined magic a b c d e f text marks count refs number area ha hb hc hd he hf = rw (hf, he, hd, hc, hb, ha) (simp append_assoc)

-- what was written and what is left, behind one part more
pub part_step : (old new one rest whole : List ℕ) → new ≡ old ++ one → old ++ (one ++ rest) ≡ whole → new ++ rest ≡ whole
part_step old new one rest whole put h = ap (λ (t : List ℕ). t ++ rest) put ∙ append_assoc old one rest ∙ h

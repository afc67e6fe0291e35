-- Which bytes are a description, and what it says.
use Rattle.std.specs.Prelude.{◌≡◌, ℕ, true, List, [], ◌∷◌, ◌++◌, codes, Some, None, if◌then◌else◌}
use Rattle.md_reader_text.specs.Words.{words}
use Rattle.md_types.specs.declared.types.ExpandedLine.{ExpandedLine}
use Rattle.md_types.specs.Forms.{is_skipped}
use Rattle.md_types.specs.Copies.{letter}
use Rattle.md_types.specs.Expand.{expand}
use Rattle.md_reader_pieces.specs.declared.piece.Line.{Line}
use Rattle.md_reader_pieces.specs.Pieces.{text_of, pieces}
use Rattle.md_reader.specs.declared.types.Kind.{Kind}
use Rattle.md_reader.specs.declared.types.Kind.TheVariants as kind
use Rattle.md_reader.specs.declared.types.Restriction.{Restriction}
use Rattle.md_reader.specs.declared.types.Give.{Give}
use Rattle.md_reader.specs.declared.types.Give.TheVariants as give
use Rattle.md_reader.specs.declared.forms.Saved.{Saved}
use Rattle.md_reader.specs.declared.forms.Saved.TheVariants as saved
use Rattle.md_reader.specs.declared.faults.DescFault.{DescFault}
use Rattle.md_reader.specs.declared.faults.DescFault.TheVariants as desc_fault
use Rattle.md_reader.specs.Forms.{is_version, pool_form, saved_number}
use Rattle.md_reader.specs.RuleForms.{restriction_form, plain_give}
use Rattle.md_reader.specs.State.{Content}
use Rattle.md_reader.specs.Valid.{IsValid}
use Rattle.md_reader.specs.Telling.{Form, Version, Target, Pool, Declares, Saves, Head, Restricts, Writes, Gives, telling}

abbrev pub kind_words : Kind → List (List ℕ)
kind_words kind.Reg = codes "Reg" ∷ []
kind_words kind.Con = codes "Con" ∷ []
kind_words kind.Ea = codes "Ea" ∷ []
kind_words kind.Nothing = codes "Nothing" ∷ []
kind_words (kind.Value z) = codes "Value" ∷ letter z ∷ []
kind_words (kind.Place z) = codes "Place" ∷ letter z ∷ []

abbrev pub saved_words : Saved → List (List ℕ)
saved_words (saved.Value z) = codes "spill" ∷ codes "value" ∷ letter z ∷ []
saved_words (saved.Place z) = codes "spill" ∷ codes "place" ∷ letter z ∷ []
saved_words saved.Ea = codes "spill" ∷ codes "ea" ∷ []
saved_words saved.Reload = codes "reload" ∷ []

-- behind these words stands an instruction, whose text has these pieces
pub record IsInstruction (head : List (List ℕ)) (n : ℕ) (ws : List (List ℕ)) (l : Line) : Type 0 where
  pub words : List (List ℕ)
  pub stands : ws ≡ head ++ words
  pub text : List ℕ
  pub joined : text_of words ≡ Some text
  pub pieces : pieces text ≡ Some l.pieces
  pub number : l.line ≡ n

-- one of the eight lines, by its place among them
pub record IsSaved (i n : ℕ) (ws : List (List ℕ)) (l : Line) : Type 0 where
  pub saved : Saved
  pub place : saved_number saved ≡ i
  pub instruction : IsInstruction (saved_words saved) n ws l

pub record IsRestriction (ws : List (List ℕ)) (r : Restriction) : Type 0 where
  pub words : List (List ℕ)
  pub stands : ws ≡ codes "if" ∷ words
  pub says : restriction_form words ≡ Some r

-- the word of a `give` line
abbrev pub GiveWord : ℕ → List ℕ → Give → Type 0
GiveWord n w give.Fresh = w ≡ codes "fresh"
GiveWord n w give.Reuse = w ≡ codes "reuse"
GiveWord n w give.Scratch = w ≡ codes "scratch"
GiveWord n w give.Nothing = w ≡ codes "nothing"
GiveWord n w (give.Shape l) = (plain_give w ≡ None) × (pieces w ≡ Some l.pieces) × (l.line ≡ n)

pub record IsGive (n : ℕ) (ws : List (List ℕ)) (g : Give) : Type 0 where
  pub word : List ℕ
  pub stands : ws ≡ codes "give" ∷ word ∷ []
  pub says : GiveWord n word g

-- the line with this number and these words says this; the word of a `target` line must be `target`
abbrev pub Says : List ℕ → ℕ → List (List ℕ) → Form → Type 0
Says target n ws Version = is_version ws ≡ true
Says target n ws Target = ws ≡ codes "target" ∷ target ∷ []
Says target n ws (Pool m) = pool_form ws ≡ Some m
Says target n ws (Declares c) = ws ≡ codes "class" ∷ c.name ∷ kind_words c.kind
Says target n ws (Saves i l) = IsSaved i n ws l
Says target n ws (Head class ss) = ws ≡ codes "rule" ∷ class ∷ codes ":" ∷ ss
Says target n ws (Restricts r) = IsRestriction ws r
Says target n ws (Writes l) = IsInstruction (codes "do" ∷ []) n ws l
Says target n ws (Gives g) = IsGive n ws g

-- the lines that say something, each with its number and its words; blank lines and comments don't
abbrev pub not_skipped : List ExpandedLine → List (ℕ × List (List ℕ))
not_skipped [] = []
not_skipped (l ∷ ls) = if is_skipped (words l.bytes) then not_skipped ls else (l.from, words l.bytes) ∷ not_skipped ls

-- these lines say this one after the other
abbrev pub Tell : List ℕ → List (ℕ × List (List ℕ)) → List Form → Type 0
Tell target [] [] = Unit {0}
Tell target [] (f ∷ fs) = ⊥
Tell target (x ∷ xs) [] = ⊥
Tell target (x ∷ xs) (f ∷ fs) = Says target x.0 x.1 f × Tell target xs fs

-- these bytes are a description for the target of that word, and that is its content: no `each` line is bad, and the lines say it in
-- which the rules are written out
pub record DescFor (target bytes : List ℕ) (d : Content) : Type 0 where
  pub valid : IsValid d
  pub good : (expand bytes).bad ≡ None
  pub text : Tell target (not_skipped (expand bytes).lines) (telling d)

-- a refusal that isn't for want of memory: these bytes are no description for that target
abbrev pub RefusedFor : List ℕ → List ℕ → DescFault → Type 0
RefusedFor target bytes desc_fault.NoMemory = Unit {0}
RefusedFor target bytes (desc_fault.Line line kind) = (d : Content) → DescFor target bytes d → ⊥

-- with the VAX as the target
abbrev pub Desc : List ℕ → Content → Type 0
Desc bytes d = DescFor (codes "vax") bytes d

abbrev pub Refused : List ℕ → DescFault → Type 0
Refused bytes fault = RefusedFor (codes "vax") bytes fault

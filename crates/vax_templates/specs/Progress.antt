-- What the lines of a template leave, one behind another.
-- This is how the code computes it; that instructions do so is the law vax_is_lawful of vax_target_laws.
use Rattle.std.specs.Prelude.{ℕ, ◌-◌, Bool, false, List, [], ◌∷◌, ◌++◌, length, slice_get, Option, Some, None, Result}
use Rattle.std.specs.Prelude.{Ok, Err}
use Rattle.sel_target.specs.md_reader_pieces.specs.declared.piece.Line.{Line}
use Rattle.sel_target.specs.term_core.specs.Shape.{Shape}
use Rattle.sel_target.specs.declared.fault.TemplateKind.{TemplateKind}
use Rattle.sel_target.specs.Meaning.{Fault}
use Rattle.vax_templates.specs.declared.setting.Hole.{Hole}
use Rattle.vax_templates.specs.declared.setting.Setting.{Setting}
use Rattle.vax_templates.specs.Standing.{◌>>=◌}
use Rattle.vax_templates.specs.Deeds.{Last, Plain, Deed}
use Rattle.vax_templates.specs.Judging.{line_did}

-- what `%0` holds, what the last line left, by what was divided, and what each line read of memory
pub record Progress : Type 0 where
  pub own : Option Shape
  pub last : Last
  pub divisors : List Shape
  pub reads : List (ℕ × List Shape)

abbrev pub start : Progress
start = record { own = None; last = Plain; divisors = []; reads = [] }

abbrev pub kept_or_put : Option Shape → Option Shape → Option Shape
kept_or_put kept None = kept
kept_or_put kept (Some t) = Some t

abbrev pub progressed : ℕ → Progress → Deed → Progress
progressed line p d = record {
  own = kept_or_put p.own d.own;
  last = d.last;
  divisors = p.divisors ++ d.divisors;
  reads = p.reads ++ (line, d.reads) ∷ [];
}

abbrev pub at_line : {A : Type 0} → ℕ → Result A TemplateKind → Result A Fault
at_line line (Ok x) = Ok x
at_line line (Err k) = Err (record { line = line; kind = k })

abbrev pub kept : ℕ → Progress → Deed → Result Progress Fault
kept line p d = Ok (progressed line p d)

-- what is left behind a line
abbrev pub judged : Setting → List Hole → Bool → Line → Progress → Result Progress Fault
judged s holes is_first l p = at_line l.line (line_did s holes is_first p.own p.last l.pieces) >>= kept l.line p

abbrev pub lines_judged : Setting → List Hole → Bool → Progress → List Line → Result Progress Fault
lines_judged s holes is_first p [] = Ok p
lines_judged s holes is_first p (l ∷ ls) = judged s holes is_first l p >>= λ (q : Progress). lines_judged s holes false q ls

abbrev pub line_or_zero : Option Line → ℕ
line_or_zero None = 0
line_or_zero (Some l) = l.line

-- the number of the last line
abbrev pub last_line : List Line → ℕ
last_line ls = line_or_zero (slice_get ls (length ls - 1))

-- A refusal names the first wrong line.
use Rattle.std.proofs.Common.{◌≡◌, ◌⊎◌, inl, inr, ℕ, List, [], ◌∷◌, ◌++◌, Option, Result, Ok, Err, refl, sym, ap, ◌∙◌}
use Rattle.std.specs.Result.{IfErr}
use Rattle.std.proofs.lemmas.List.{append-nil}
use Rattle.md_reader_text.specs.Words.{words}
use Rattle.md_types.specs.declared.types.ExpandedLine.{ExpandedLine}
use Rattle.md_types.specs.Expand.{expand}
use Rattle.md_reader.specs.declared.faults.DescKind.{DescKind}
use Rattle.md_reader.specs.declared.faults.DescKind.TheVariants as kinds
use Rattle.md_reader.specs.declared.faults.DescFault.{DescFault}
use Rattle.md_reader.specs.declared.faults.DescFault.TheVariants as desc_fault
use Rattle.md_reader.specs.RuleForms.{register_behind}
use Rattle.md_reader.specs.State.{State, Content}
use Rattle.md_reader.specs.Steps.{line_step}
use Rattle.md_reader.specs.Reads.{start, taken, read_from, line_behind, read_for, Answers}
use Rattle.md_reader.specs.First.{no_line, one_line, WrongLine, WrongEnd, IsFirstFor}

abbrev fault : ℕ → DescKind → Result Content (ℕ × DescKind)
fault n k = Err (n, k)

abbrev of_fault : Result Content (ℕ × DescKind) → ℕ × DescKind
of_fault (Ok d) = (0, kinds.BadWord)
of_fault (Err x) = x

-- the number of a line and what is wrong there
line_of : (n m : ℕ) (k j : DescKind) → fault n k ≡ fault m j → n ≡ m
line_of n m k j e = ap (λ (r : Result Content (ℕ × DescKind)). (of_fault r).0) e

kind_of : (n m : ℕ) (k j : DescKind) → fault n k ≡ fault m j → k ≡ j
kind_of n m k j e = ap (λ (r : Result Content (ℕ × DescKind)). (of_fault r).1) e

abbrev Wrong : (target : List ℕ) → Option ℕ → ℕ → State → List ExpandedLine → ℕ → DescKind → Type 0
Wrong target bad m s ls n k = WrongLine target s ls n k ⊎ WrongEnd target bad m s ls n k

first_from : (target : List ℕ) (bad : Option ℕ) (m n : ℕ) (k : DescKind) (s : State) (ls : List ExpandedLine) → read_from target bad m s ls ≡ fault n k → Wrong target bad m s ls n k
first_from target bad m n k s [] e = inr (record { state = s; right = no_line; wrong = e })
first_from target bad m n k s (l ∷ ls) e = at (line_step target s l.from (words l.bytes) (register_behind ls)) refl e (λ t f. first_from target bad m n k t ls f)
  where
    longer : (t : State) → line_step target s l.from (words l.bytes) (register_behind ls) ≡ Ok t → Wrong target bad m t ls n k → Wrong target bad m s (l ∷ ls) n k
    longer t f (inl w) =
        let g : line_step target s l.from (words l.bytes) (register_behind (w.front ++ w.line ∷ w.back)) ≡ Ok t =
        ap (λ (x : List ExpandedLine). line_step target s l.from (words l.bytes) (register_behind x)) (sym w.stands) ∙ f in
        inl (record {
          front = l ∷ w.front;
          line = w.line;
          back = w.back;
          stands = ap (λ (x : List ExpandedLine). l ∷ x) w.stands;
          number = w.number;
          state = w.state;
          right = one_line g w.right;
          wrong = w.wrong;
        })
    longer t f (inr w) =
        let g : line_step target s l.from (words l.bytes) (register_behind (ls ++ [])) ≡ Ok t =
        ap (λ (x : List ExpandedLine). line_step target s l.from (words l.bytes) (register_behind x)) (append-nil ls) ∙ f in
        inr (record { state = w.state; right = one_line g w.right; wrong = w.wrong })

    at : (r : Result State DescKind) → line_step target s l.from (words l.bytes) (register_behind ls) ≡ r → taken l.from r (λ (t : State). read_from target bad m t ls) ≡ fault n k
        → ((t : State) → read_from target bad m t ls ≡ fault n k → Wrong target bad m t ls n k) → Wrong target bad m s (l ∷ ls) n k
    at (Ok t) f e go = longer t f (go t e)
    at (Err j) f e go =
        let q = line_of l.from n j k e in
        inl (record {
          front = [];
          line = l;
          back = ls;
          stands = refl;
          number = sym q;
          state = s;
          right = no_line;
          wrong = ap (λ (i : ℕ). line_step target s i (words l.bytes) (register_behind ls)) (sym q)
              ∙ f ∙ ap (λ (x : DescKind). Err x) (kind_of l.from n j k e);
        })

pub is_first : (target : List ℕ) (r : Result Content DescFault) (bytes : List ℕ) → Answers r (read_for target bytes) → IfErr r (IsFirstFor target bytes)
is_first target (Ok d) bytes e = tt
is_first target (Err desc_fault.NoMemory) bytes e = tt
is_first target (Err (desc_fault.Line n k)) bytes e = first_from target (expand bytes).bad (line_behind bytes) n k start (expand bytes).lines e

-- What a write to a register or to a free word leaves as it was.
use Rattle.std.proofs.Common.{◌≡◌, ℕ, ◌*◌, ◌^◌, ◌<◌, ◌==◌, List, [], ◌∷◌, Some, Bool, true, false, refl, sym, ap, ◌∙◌, arith}
use Rattle.std.specs.Prelude.{cond}
use Rattle.std.specs.Int.{bit_at}
use Rattle.std.proofs.lemmas.Bool.{eqb-true, false≢true}
use Rattle.sel_target.specs.sel_terms.proofs.Alike.{number_is}
use Rattle.gg_base.specs.declared.size.Size.{Size}
use Rattle.gg_base.specs.declared.size.Size.TheVariants.{Long}
use Rattle.gg_base.specs.Sizes.{bytes_of}
use Rattle.tree_core.specs.declared.program.TreeProgram.{TreeProgram}
use Rattle.tree_core.specs.Area.{fetched}
use Rattle.sel_target.specs.tree_meaning.specs.State.{State, Extent}
use Rattle.sel_target.specs.declared.attr.Attr.TheVariants as attr
use Rattle.sel_target.specs.Courses.{comes}
use Rattle.sel_target.specs.Meaning.{RegAt, WordAt, IsFree, touches}
use Rattle.sel_target.specs.Outcomes.{Keeps, Sets, SetsName}
use Rattle.sel_toy_machine.specs.declared.operand.Operand.{Operand}
use Rattle.sel_toy_machine.specs.declared.operand.Operand.TheVariants.{Register, Based, Word, Deferred, Argument, Number}
use Rattle.sel_toy_machine.specs.declared.operand.Instr.{Instr}
use Rattle.sel_toy_machine.specs.Machine.{Machine, in_register, in_word, part, long, reads, names, bit_of, Stands, with_register, with_word}
use Rattle.sel_toy_machine.specs.Running.{run}
use Rattle.sel_toy_machine.proofs.Spelled.{own_register}
use Rattle.sel_toy_machine.proofs.Readings.{part_same}
use Rattle.sel_toy_machine.specs.Toy.{toy}

-- another register than the one whose bit is spelled
other_register : (k r : ℕ) → r < 12 → (bit_at (bit_of k) r == 1) ≡ false → (k == r) ≡ false
other_register k r lt free = by (k == r) refl where
  by : (b : Bool) → (k == r) ≡ b → (k == r) ≡ false
  by true e = absurd (false≢true (sym free ∙ (ap (λ j. bit_at (bit_of j) r == 1) (eqb-true k r e) ∙ own_register r lt)))
  by false e = e

register_reads : (m : Machine) (r x : ℕ) (o : Operand) (size : Size) (y : ℕ) → r < 12 → touches toy o (RegAt r) ≡ false →
    reads o size m ≡ Some y → reads o size (with_register m r x) ≡ Some y
register_reads m r x (Register k) size y lt free e = ap (λ b. Some (part size (cond b x (in_register m k)))) (other_register k r lt free) ∙ e
register_reads m r x (Based k) size y lt free e = ap (λ b. fetched size m.area (long (cond b x (in_register m k)))) (other_register k r lt free) ∙ e
register_reads m r x (Word w) size y lt free e = e
register_reads m r x (Deferred w) size y lt free e = e
register_reads m r x (Argument k) size y lt free e = e
register_reads m r x (Number n) size y lt free e = e

register_names : (m : Machine) (r x : ℕ) (o : Operand) (size : Size) (y : ℕ) → r < 12 → touches toy o (RegAt r) ≡ false →
    names o size m ≡ Some y → names o size (with_register m r x) ≡ Some y
register_names m r x (Register k) size y lt free e = e
register_names m r x (Based k) size y lt free e = ap (λ b. Some (long (cond b x (in_register m k)))) (other_register k r lt free) ∙ e
register_names m r x (Word w) size y lt free e = e
register_names m r x (Deferred w) size y lt free e = e
register_names m r x (Argument k) size y lt free e = e
register_names m r x (Number n) size y lt free e = e

register_stands : (m : Machine) (r x : ℕ) (q : TreeProgram) (f : Extent) (fs : List Extent) (t : State) → Stands q f fs t m → Stands q f fs t (with_register m r x)
register_stands m r x q f fs t h = record {
  area = h.area;
  input = h.input;
  arguments = h.arguments;
  pushed = h.pushed;
  callers = h.callers;
  functions = h.functions;
  locals = h.locals;
  bytes = h.bytes;
  inputs = h.inputs;
  longwords = h.longwords;
}

pub register_kept : (m : Machine) (r x : ℕ) → r < 12 → Keeps toy (RegAt r ∷ []) m (with_register m r x)
register_kept m r x lt = record {
  reads = λ o size y free e. register_reads m r x o size y lt free.0 e;
  names = λ o size y free e. register_names m r x o size y lt free.0 e;
  agrees = λ q f fs t free h. register_stands m r x q f fs t h;
  room = λ h. h;
  live = refl;
}

word_reads : (m : Machine) (w x : ℕ) (o : Operand) (size : Size) (y : ℕ) → touches toy o (WordAt w) ≡ false →
    reads o size m ≡ Some y → reads o size (with_word m w x) ≡ Some y
word_reads m w x (Register k) size y free e = e
word_reads m w x (Based k) size y free e = e
word_reads m w x (Word k) size y free e = ap (λ b. Some (part size (cond b x (in_word m k)))) free ∙ e
word_reads m w x (Deferred k) size y free e = ap (λ b. fetched size m.area (long (cond b x (in_word m k)))) free ∙ e
word_reads m w x (Argument k) size y free e = e
word_reads m w x (Number n) size y free e = e

word_names : (m : Machine) (w x : ℕ) (o : Operand) (size : Size) (y : ℕ) → touches toy o (WordAt w) ≡ false →
    names o size m ≡ Some y → names o size (with_word m w x) ≡ Some y
word_names m w x (Register k) size y free e = e
word_names m w x (Based k) size y free e = e
word_names m w x (Word k) size y free e = e
word_names m w x (Deferred k) size y free e = ap (λ b. Some (long (cond b x (in_word m k)))) free ∙ e
word_names m w x (Argument k) size y free e = e
word_names m w x (Number n) size y free e = e

-- a local's word isn't free
other_word : (f : Extent) (k w : ℕ) → k < f.locals → IsFree f (WordAt w) → (k == w) ≡ false
other_word f k w lt free = by (k == w) refl where
  by : (b : Bool) → (k == w) ≡ b → (k == w) ≡ false
  by true e = absurd (let g = eqb-true k w e in let le = free.0 in omega (arith, g, lt, le))
  by false e = e

word_stands : (m : Machine) (w x : ℕ) (q : TreeProgram) (f : Extent) (fs : List Extent) (t : State) → IsFree f (WordAt w) → Stands q f fs t m → Stands q f fs t (with_word m w x)
word_stands m w x q f fs t free h = record {
  area = h.area;
  input = h.input;
  arguments = h.arguments;
  pushed = h.pushed;
  callers = h.callers;
  functions = h.functions;
  locals = λ k n e. ((h.locals k n e).0, ap (λ b. long (cond b x (in_word m k))) (other_word f k w (h.locals k n e).0 free) ∙ (h.locals k n e).1);
  bytes = h.bytes;
  inputs = h.inputs;
  longwords = h.longwords;
}

pub word_kept : (m : Machine) (w x : ℕ) → Keeps toy (WordAt w ∷ []) m (with_word m w x)
word_kept m w x = record {
  reads = λ o size y free e. word_reads m w x o size y free.0 e;
  names = λ o size y free e. word_names m w x o size y free.0 e;
  agrees = λ q f fs t free h. word_stands m w x q f fs t free.0 h;
  room = λ h. h;
  live = refl;
}

-- code that writes a register sets it
pub sets_register : (q : TreeProgram) (code : List Instr) (r x : ℕ) (m : Machine) → r < 12 → x < 2 ^ 32 → run code m ≡ comes (with_register m r x) →
    Sets toy code (RegAt r) q Long (attr.Reg r) x m
sets_register q code r x m lt small e = record {
  state = with_register m r x;
  ran = e;
  gets = ap (λ b. Some (part Long (cond b x (in_register m r)))) (number_is r) ∙ ap Some (part_same Long x small);
  keeps = register_kept m r x lt;
}

-- code that writes a word sets it, at a size of the number
pub sets_word : (q : TreeProgram) (code : List Instr) (size : Size) (w x : ℕ) (m : Machine) → x < 2 ^ (8 * bytes_of size) → run code m ≡ comes (with_word m w x) →
    Sets toy code (WordAt w) q size (attr.Value (Word w)) x m
sets_word q code size w x m small e = record {
  state = with_word m w x;
  ran = e;
  gets = ap (λ b. Some (part size (cond b x (in_word m w)))) (number_is w) ∙ ap Some (part_same size x small);
  keeps = word_kept m w x;
}

pub sets_name : (code : List Instr) (w x : ℕ) (m : Machine) → x < 2 ^ 32 → run code m ≡ comes (with_word m w x) → SetsName toy code (WordAt w) (Deferred w) x m
sets_name code w x m small e = record {
  state = with_word m w x;
  ran = e;
  gets = λ size. ap (λ b. Some (long (cond b x (in_word m w)))) (number_is w) ∙ ap Some (part_same Long x small);
  keeps = word_kept m w x;
}

-- nothing is written
pub unchanged : (m : Machine) → Keeps toy [] m m
unchanged m = record { reads = λ o size y free e. e; names = λ o size y free e. e; agrees = λ q f fs t free h. h; room = λ h. h; live = refl }

-- What the toy machine's operands read and name, where its state stands for a state of trees.
use Rattle.std.proofs.Common.{◌≡◌, ℕ, zero, suc, ◌+◌, ◌-◌, ◌*◌, ◌^◌, ◌<◌, List, [], ◌∷◌, length, Option, Some, None, true, refl, sym, ap, ◌∙◌, subst, arith, slice_get}
use Rattle.std.specs.Prelude.{IsSome}
use Rattle.std.specs.Option.{option_map}
use Rattle.std.specs.List.{AllByRecursion}
use Rattle.std.proofs.lemmas.Option.{none-some, same_Some}
use Rattle.std.proofs.lemmas.Bool.{false≢true}
use Rattle.gg_base.specs.declared.size.Size.{Size}
use Rattle.gg_base.specs.declared.size.Size.TheVariants.{Byte, Word as Halfword, Long}
use Rattle.gg_base.specs.Sizes.{bytes_of}
use Rattle.tree_core.specs.declared.program.TreeProgram.{TreeProgram}
use Rattle.tree_core.specs.Area.{fetched}
use Rattle.sel_target.specs.tree_meaning.specs.State.{State, Extent}
use Rattle.sel_target.specs.OperandLaws.{ReadsWhatIsThere}
use Rattle.sel_toy_machine.specs.declared.operand.Operand.{Operand}
use Rattle.sel_toy_machine.specs.declared.operand.Operand.TheVariants.{Register, Based, Word, Deferred, Argument, Number}
use Rattle.sel_toy_machine.specs.Machine.{Machine, in_register, in_word, part, long, reads, names, registers, is_place, Stands}
use Rattle.sel_target.proofs.AreaBytes.{Bytes, fetched_small, not_at_0}
use Rattle.sel_toy_machine.specs.Toy.{toy}

pub part_small : (size : Size) (n : ℕ) → part size n < 2 ^ (8 * bytes_of size)
part_small Byte n = omega arith
part_small Halfword n = omega arith
part_small Long n = omega arith

pub part_same : (size : Size) (n : ℕ) → n < 2 ^ (8 * bytes_of size) → part size n ≡ n
part_same Byte n lt = omega (arith, lt)
part_same Halfword n lt = omega (arith, lt)
part_same Long n lt = omega (arith, lt)

some_part : (size : Size) (n x : ℕ) → Some (part size n) ≡ Some x → x < 2 ^ (8 * bytes_of size)
some_part size n x e = subst (λ k. k < 2 ^ (8 * bytes_of size)) (same_Some (part size n) x e) (part_small size n)

argument_part : (size : Size) (o : Option ℕ) (x : ℕ) → option_map (part size) o ≡ Some x → x < 2 ^ (8 * bytes_of size)
argument_part size None x e = absurd (none-some x e)
argument_part size (Some n) x e = some_part size n x e

some_long : (n x : ℕ) → Some (long n) ≡ Some x → x < 2 ^ 32
some_long n x e = subst (λ k. k < 2 ^ 32) (same_Some (long n) x e) (omega arith)

pub small : (m : Machine) (o : Operand) (size : Size) (x : ℕ) → Bytes m.area → reads o size m ≡ Some x → x < 2 ^ (8 * bytes_of size)
small m (Register r) size x h e = some_part size (in_register m r) x e
small m (Based r) size x h e = fetched_small size m.area (long (in_register m r)) x h e
small m (Word w) size x h e = some_part size (in_word m w) x e
small m (Deferred w) size x h e = fetched_small size m.area (long (in_word m w)) x h e
small m (Argument k) size x h e = argument_part size (slice_get m.arguments (k - 1)) x e
small m (Number n) size x h e = some_part size n x e

pub names_small : (m : Machine) (o : Operand) (size : Size) (x : ℕ) → names o size m ≡ Some x → x < 2 ^ 32
names_small m (Register r) size x e = absurd (none-some x e)
names_small m (Based r) size x e = some_long (in_register m r) x e
names_small m (Word w) size x e = subst (λ k. k < 2 ^ 32) (same_Some 0 x e) (omega arith)
names_small m (Deferred w) size x e = some_long (in_word m w) x e
names_small m (Argument k) size x e = subst (λ k. k < 2 ^ 32) (same_Some 0 x e) (omega arith)
names_small m (Number n) size x e = absurd (none-some x e)

-- no word and no argument lies in the data area
at_0 : (size : Size) (area : List ℕ) (a x : ℕ) → Some 0 ≡ Some a → fetched size area a ≡ Some x → ⊥
at_0 size area a x e g = not_at_0 size area x (subst (λ k. fetched size area k ≡ Some x) (sym (same_Some 0 a e)) g)

memory_read : (m : Machine) (o : Operand) (size : Size) (a x : ℕ) → is_place o ≡ true → names o size m ≡ Some a → fetched size m.area a ≡ Some x → reads o size m ≡ Some x
memory_read m (Register r) size a x p e g = absurd (false≢true p)
memory_read m (Based r) size a x p e g = subst (λ k. fetched size m.area k ≡ Some x) (sym (same_Some (long (in_register m r)) a e)) g
memory_read m (Word w) size a x p e g = absurd (at_0 size m.area a x e g)
memory_read m (Deferred w) size a x p e g = subst (λ k. fetched size m.area k ≡ Some x) (sym (same_Some (long (in_word m w)) a e)) g
memory_read m (Argument k) size a x p e g = absurd (at_0 size m.area a x e g)
memory_read m (Number n) size a x p e g = absurd (false≢true p)

place_read : (m : Machine) (o : Operand) (size : Size) (a x : ℕ) → is_place o ≡ true → (registers o ≡ 0 → ⊥) → names o size m ≡ Some a → reads o size m ≡ Some x →
    fetched size m.area a ≡ Some x
place_read m (Register r) size a x p some e g = absurd (false≢true p)
place_read m (Based r) size a x p some e g = subst (λ k. fetched size m.area k ≡ Some x) (same_Some (long (in_register m r)) a e) g
place_read m (Number n) size a x p some e g = absurd (false≢true p)
place_read m _ size a x p some e g = absurd (some refl)

long_at : (xs : List ℕ) (k x : ℕ) → AllByRecursion (λ n. n < 2 ^ 32) xs → slice_get xs k ≡ Some x → x < 2 ^ 32
long_at [] k x h e = absurd (none-some x e)
long_at (y ∷ ys) zero x h e = subst (λ n. n < 2 ^ 32) (same_Some y x e) h.0
long_at (y ∷ ys) (suc k) x h e = long_at ys k x h.1 e

there : {X : Type 0} (xs : List X) (k : ℕ) → k < length xs → IsSome (slice_get xs k)
there [] k lt = absurd (omega (arith, lt))
there (x ∷ xs) zero lt = refl
there (x ∷ xs) (suc k) lt = there xs k (omega (arith, lt))

mapped_there : {X Y : Type 0} (f : X → Y) (o : Option X) → IsSome o → IsSome (option_map f o)
mapped_there f None h = h
mapped_there f (Some x) h = refl

one_back : (k : ℕ) → k + 1 - 1 ≡ k
one_back k = omega arith

-- an argument as the machine has it
argument_is : (m : Machine) (arguments : List ℕ) (k : ℕ) → m.arguments ≡ arguments → reads (Argument (k + 1)) Long m ≡ option_map (part Long) (slice_get arguments k)
argument_is m arguments k e = ap (λ l. option_map (part Long) (slice_get l (k + 1 - 1))) e ∙ ap (λ j. option_map (part Long) (slice_get arguments j)) (one_back k)

argument_read : (q : TreeProgram) (f : Extent) (fs : List Extent) (t : State) (k x : ℕ) (m : Machine) → Stands q f fs t m → slice_get t.running.arguments k ≡ Some x →
    reads (Argument (k + 1)) Long m ≡ Some x
argument_read q f fs t k x m h e =
    argument_is m t.running.arguments k h.arguments ∙ ap (option_map (part Long)) e ∙ ap Some (part_same Long x (long_at t.running.arguments k x h.longwords e))

argument_there : (q : TreeProgram) (f : Extent) (fs : List Extent) (t : State) (k : ℕ) (m : Machine) → Stands q f fs t m → k < length t.running.arguments →
    IsSome (reads (Argument (k + 1)) Long m)
argument_there q f fs t k m h lt =
    subst IsSome (sym (argument_is m t.running.arguments k h.arguments)) (mapped_there (part Long) (slice_get t.running.arguments k) (there t.running.arguments k lt))

pub machine_bytes : (q : TreeProgram) (f : Extent) (fs : List Extent) (t : State) (m : Machine) → Stands q f fs t m → Bytes m.area
machine_bytes q f fs t m h = subst Bytes (sym h.area) h.bytes

pub toy_reads : ReadsWhatIsThere toy
toy_reads = record {
  reads_small = λ q f fs t o size x m h e. small m o size x (machine_bytes q f fs t m h) e;
  names_small = λ q f fs t o size x m h e. names_small m o size x e;
  area_bytes = λ q f fs t m h. h.bytes;
  memory_read = λ q f fs t o size a x m h p e g. memory_read m o size a x p e (subst (λ bytes. fetched size bytes a ≡ Some x) (sym h.area) g);
  place_read = λ q f fs t o size a x m h p some e g. subst (λ bytes. fetched size bytes a ≡ Some x) h.area (place_read m o size a x p some e g);
  local_read = λ q f fs t k x m h lt e. ap Some ((h.locals k x e).1);
  local_there = λ q f fs t k m h lt lt'. refl;
  local_named = λ q f fs t k m h lt lt'. refl;
  argument_read = argument_read;
  argument_there = argument_there;
  argument_named = λ q f fs t k m h lt. refl;
}

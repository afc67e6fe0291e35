-- A call of `run` on the text of a program runs its code, which has one end and keeps the program.
use Rattle.std.proofs.Common.{◌≡◌, ◌⊎◌, ℕ, ◌+◌, ◌<◌, ◌≤◌, List, [], ◌∷◌, ◌++◌, Option, Some, inl, inr, refl, sym, ap, ◌∙◌, subst, arith}
use Rattle.std.proofs.Math.Logic.{∥∥₁_map}
use Rattle.std.proofs.lemmas.Bool.{cases_lt}
use Rattle.gg_base.specs.declared.run.End.{End}
use Rattle.gg_base.specs.declared.run.End.TheVariants as ends
use Rattle.gg_base.specs.Runs.{Outcome, Runs, OneEnd}
use Rattle.gg_base.specs.Follows.{IsLost, GetsLost, Says, Reaches, Asks, Tells, Follows}
use Rattle.gg_outside.specs.Outside.{Content as File, Stored, IsThat, IsLonger}
use Rattle.md_reader.specs.State.{Content}
use Rattle.c_program.specs.Programs.{AProgram}
use Rattle.c_meaning.specs.Programs.{source}
use Rattle.vax_core.specs.declared.code.Code.{Code}
use Rattle.vax_reader.specs.Grammar.{Reads}
use Rattle.vax_machine.specs.Running.{run}
use Rattle.vax_machine.proofs.Law.{run_has_one_end}
use Rattle.cmd_session.specs.declared.status.Status.{Status}
use Rattle.cmd_session.specs.declared.status.Status.TheVariants as statuses
use Rattle.cmd_session.specs.Lines.{end_status, end_line}
use Rattle.cmd_session.specs.Reading.{LosesAll}
use Rattle.cmd_session.specs.Writing.{TakesAll, Reports}
use Rattle.cmd_files.specs.Calls.{Call, AreBytes}
use Rattle.cmd_files.specs.Outcome.{RanTo, IsRefusedAs, Leaves}
use Rattle.cmd_files.specs.Exact.{IsItem, IsAnswer}
use Rattle.cmd_run.specs.Texts.{text_limit, text_form, code_runner, fault_line}
use Rattle.cmd_compile.specs.Keeping.{Keeps}
use Rattle.cmd_compile.specs.Texts.{IsTextOf}
use Rattle.gg_headline.specs.Claims.{HoldsText}
use Rattle.gg_headline.proofs.Telling.{texts_are_taken, runs_tell}
use Rattle.gg_headline.specs.Running.{RunComesTo, Starved, FileNotRead, InputNotRead, NotWritten, TextTooLong, InputTooLong, RunsComeTo}
use Rattle.gg_headline.specs.Running.{IsRunOf, CameTo, Comes, IsSpentBefore, IsSpentBehind, EndsFrom, WritesFrom}
use Rattle.gg_headline.specs.Running.{EndedTextsEnd, TrappingTextsTrap, EndlessTextsGoOn, EndlessTextsWrite, RunsTellAll}
use Rattle.gg_headline.specs.Running as claims

-- ---- bytes

add_byte : (b : ℕ) (bs : List ℕ) → (b < 256) ⊎ (256 ≤ b) → AreBytes bs ⊎ (AreBytes bs → ⊥) → AreBytes (b ∷ bs) ⊎ (AreBytes (b ∷ bs) → ⊥)
add_byte b bs (inl low) (inl are) = inl (low, are)
add_byte b bs (inl low) (inr not) = inr (λ h. not h.1)
add_byte b bs (inr high) d = inr (λ h. let low : b < 256 = h.0 in omega arith)

bytes_or_not : (bs : List ℕ) → AreBytes bs ⊎ (AreBytes bs → ⊥)
bytes_or_not [] = inl tt
bytes_or_not (b ∷ bs) = add_byte b bs (cases_lt b 256) (bytes_or_not bs)

-- ---- a call

-- the run came to an end, which was told
record Ran (call : Call) : Type 0 where
  end : End
  ran : RanTo text_form code_runner call end
  line : Reports call.at.report (end_line end call.count)

ran_of : (call : Call) (e : End) → Leaves text_form code_runner (end_status e) call → Ran call
ran_of call (ends.Ended value) l = record { end = ends.Ended l.value; ran = l.ran; line = inl l.line }
ran_of call ends.Trapped l = record { end = ends.Trapped; ran = l.ran; line = l.line }
ran_of call ends.Wild l = record { end = ends.Wild; ran = l.ran; line = l.line }
ran_of call ends.Deep l = record { end = ends.Deep; ran = l.ran; line = l.line }
ran_of call ends.Spent l = record { end = ends.Spent; ran = l.ran; line = l.line }
ran_of call (ends.Broken kind) l = record { end = ends.Broken l.kind; ran = l.halted.ran; line = l.halted.line }

all_is : (old new : Option (List ℕ)) (bytes given : List ℕ) → old ≡ Some bytes → LosesAll old new given → given ≡ bytes
all_is old new bytes given e h = (let t : LosesAll (Some bytes) new given = subst (λ (x : Option (List ℕ)). LosesAll x new given) e h in t.0)

module _ (d : Content) (p : AProgram) (text : List ℕ) (is : IsTextOf d p text) where
  -- what a file of the text is found to hold is its code
  found : (file : File) (c : Code) (bytes : List ℕ) → file ≡ Stored text → IsThat file bytes → Reads bytes c → is.code ≡ c
  found file c bytes stored that reads =
      let same : bytes ≡ text = subst (λ (f : File). IsThat f bytes) stored that in
      is.read.only c (subst (λ (b : List ℕ). Reads b c) same reads)

  -- what a call of `run` comes to, by its status
  module _ (call : Call) (stored : HoldsText text call) where
    other_status : (status : Status) → statuses.AsmRefused ≡ status → IsRefusedAs text_form code_runner status call → ⊥
    other_status status e r = texts_are_taken d p text call is stored (subst (λ (s : Status). IsRefusedAs text_form code_runner s call) (sym e) r)

    came_to : (result : Status) → Leaves text_form code_runner result call → RunComesTo text result call
    came_to statuses.Done l = claims.Ran (ends.Ended l.value) refl l.ran (inl l.line)
    came_to statuses.NoMemory l = Starved refl
    came_to statuses.FileFault l = FileNotRead refl l.1.noted
    came_to statuses.InputFault l = InputNotRead refl l.fails
    came_to statuses.WriteFault (inl cut) = NotWritten refl (inl cut.cut.rises)
    came_to statuses.WriteFault (inr cut) = NotWritten refl (inr cut.cut.rises)
    came_to statuses.TooLong (inl long) = TextTooLong refl (subst (λ (f : File). IsLonger f text_limit) stored long.1.longer)
    came_to statuses.TooLong (inr long) = InputTooLong refl long.longer
    came_to statuses.SourceRefused l = absurd (other_status statuses.SourceRefused l.status_is l)
    came_to statuses.DescRefused l = absurd (other_status statuses.DescRefused l.status_is l)
    came_to statuses.AsmRefused l = absurd (other_status statuses.AsmRefused l.status_is l)
    came_to statuses.ImageRefused l = absurd (other_status statuses.ImageRefused l.status_is l)
    came_to statuses.Spent l = claims.Ran ends.Spent refl l.ran l.line
    came_to statuses.Trapped l = claims.Ran ends.Trapped refl l.ran l.line
    came_to statuses.Wild l = claims.Ran ends.Wild refl l.ran l.line
    came_to statuses.Deep l = claims.Ran ends.Deep refl l.ran l.line
    came_to statuses.Broken l = claims.Ran (ends.Broken l.kind) refl l.halted.ran l.halted.line
    came_to _ l = absurd l

  module _ (bytes : List ℕ) (result : Status) (call : Call) (of : IsRunOf text bytes result call) where
    abbrev outcome : Outcome
    outcome = run is.code bytes call.count

    item : IsItem text_form (call.at.folder.holds call.name) is.code
    item = record { bytes = text; stored = of.stored; within = of.within; reads = is.read.reads }

    answer : Keeps p is.code → IsAnswer (end_status outcome.end) result
    answer k = (of.exact of.no_fault of.unbroken).ends is.code bytes item of.left (ap fault_line k.loads)

    module _ (x : Ran call) where
      same_code : is.code ≡ x.ran.item
      same_code = found _ x.ran.item x.ran.starts.finds.holds.bytes of.stored x.ran.starts.finds.holds.stored x.ran.starts.finds.holds.read.reads

      same_bytes : x.ran.bytes ≡ bytes
      same_bytes = all_is call.input.old call.input.new bytes x.ran.bytes of.left.left x.ran.starts.input.all

      same_outcome : run x.ran.item x.ran.bytes call.count ≡ outcome
      same_outcome = λ i. run (sym same_code i) (same_bytes i) call.count

      are_bytes : AreBytes bytes
      are_bytes = subst AreBytes same_bytes x.ran.starts.input.are_bytes

      end_is : x.end ≡ outcome.end
      end_is = sym x.ran.ends ∙ ap (λ (o : Outcome). o.end) same_outcome

      came : result ≡ end_status outcome.end → CameTo outcome.output outcome.end result call
      came is_status = record {
        status = is_status;
        written = subst (λ (o : Outcome). TakesAll call.at.out o.output) same_outcome x.ran.output;
        line = subst (λ (e : End). Reports call.at.report (end_line e call.count)) end_is x.line;
      }

    -- memory ran out, or the call came to the end of the code's run, on bytes
    comes : Keeps p is.code → (AreBytes bytes × CameTo outcome.output outcome.end result call) ⊎ (result ≡ statuses.NoMemory)
    comes k = by (answer k)
      where
        by : IsAnswer (end_status outcome.end) result
            → (AreBytes bytes × CameTo outcome.output outcome.end result call) ⊎ (result ≡ statuses.NoMemory)
        by (inr no_memory) = inr no_memory
        by (inl is_status) =
            let x = ran_of call outcome.end (subst (λ (s : Status). Leaves text_form code_runner s call) is_status of.leaves) in
            inl (are_bytes x, came x is_status)

  -- ---- the run of the code on an input
  module _ (bytes : List ℕ) (k : Keeps p is.code) where
    abbrev runs : Runs
    runs = run is.code bytes

    one : OneEnd runs
    one = run_has_one_end is.code bytes

    comes_as : (output : List ℕ) (end : End) (result : Status) (call : Call) → (runs call.count).output ≡ output → (runs call.count).end ≡ end
        → IsRunOf text bytes result call → Comes output end result call
    comes_as output end result call o e of = by (comes bytes result call of k)
      where
        by : (AreBytes bytes × CameTo (runs call.count).output (runs call.count).end result call) ⊎ (result ≡ statuses.NoMemory)
            → Comes output end result call
        by (inl c) =
            inl (subst (λ (x : List ℕ). CameTo x end result call) o (subst (λ (x : End). CameTo (runs call.count).output x result call) e c.1))
        by (inr no_memory) = inr no_memory

    -- an input that is told and no bytes leads to nothing but want of memory
    no_bytes : (AreBytes bytes → ⊥) → (output : List ℕ) (end : End) → EndsFrom text bytes output end 0
    no_bytes not output end = record {
      enough = λ result call of le. starved result call of (comes bytes result call of k);
      few = λ result call of lt. absurd (omega arith);
    }
      where
        starved : (result : Status) (call : Call) → IsRunOf text bytes result call
            → (AreBytes bytes × CameTo (runs call.count).output (runs call.count).end result call) ⊎ (result ≡ statuses.NoMemory)
            → Comes output end result call
        starved result call of (inl c) = absurd (not c.0)
        starved result call of (inr no_memory) = inr no_memory

    starved_behind : (AreBytes bytes → ⊥) → (output : List ℕ) (result : Status) (call : Call)
        → (AreBytes bytes × CameTo (runs call.count).output (runs call.count).end result call) ⊎ (result ≡ statuses.NoMemory)
        → IsSpentBehind output result call
    starved_behind not output result call (inl c) = absurd (not c.0)
    starved_behind not output result call (inr no_memory) = record { rest = []; comes = inr no_memory }

    -- an end that the code's run has with some number it has from its own number on
    from : (output : List ℕ) (end : End) → (end ≡ ends.Spent → ⊥) → Says runs output end → (least : ℕ) × EndsFrom text bytes output end least
    from output end not (n, o, e) =
        let spent : (runs n).end ≡ ends.Spent → ⊥ = λ s. not (sym e ∙ s) in (
          (runs n).number,
          record {
            enough = λ result call of le.
                let same : runs call.count ≡ runs n = one.stays call.count n spent le in
                comes_as output end result call (ap (λ (x : Outcome). x.output) same ∙ o) (ap (λ (x : Outcome). x.end) same ∙ e) of;
            few = λ result call of lt.
                let within = one.within n in
                let longer = one.longer call.count n (omega (arith, within, lt)) in
                record {
                  front = (runs call.count).output;
                  rest = longer.0;
                  split = sym o ∙ longer.1;
                  comes = comes_as (runs call.count).output ends.Spent result call refl (one.before call.count n lt) of;
                };
          },
        )

    asked : (n : ℕ) (end : End) → (source p bytes n).end ≡ end → AreBytes bytes → Asks end (source p bytes n).output runs
    asked n end e are = subst (λ (x : End). Asks x (source p bytes n).output runs) e ((k.follows bytes are).forward n)

    ended : (n value : ℕ) → (source p bytes n).end ≡ ends.Ended value → (least : ℕ) × EndsFrom text bytes (source p bytes n).output (ends.Ended value) least
    ended n value e = by (bytes_or_not bytes)
      where
        by : AreBytes bytes ⊎ (AreBytes bytes → ⊥) → (least : ℕ) × EndsFrom text bytes (source p bytes n).output (ends.Ended value) least
        by (inl are) = from (source p bytes n).output (ends.Ended value) (λ s. absurd (cc)) (asked n (ends.Ended value) e are)
        by (inr not) = (0, no_bytes not (source p bytes n).output (ends.Ended value))

    trapped : (n : ℕ) → (source p bytes n).end ≡ ends.Trapped → (least : ℕ) × EndsFrom text bytes (source p bytes n).output ends.Trapped least
    trapped n e = by (bytes_or_not bytes)
      where
        by : AreBytes bytes ⊎ (AreBytes bytes → ⊥) → (least : ℕ) × EndsFrom text bytes (source p bytes n).output ends.Trapped least
        by (inl are) = from (source p bytes n).output ends.Trapped (λ s. absurd (cc)) (asked n ends.Trapped e are)
        by (inr not) = (0, no_bytes not (source p bytes n).output ends.Trapped)

    -- ---- a source that goes on for ever
    module _ (endless : (n : ℕ) → (source p bytes n).end ≡ ends.Spent) where
      not_lost : GetsLost (source p bytes) → ⊥
      not_lost (n, lost) = subst IsLost (endless n) lost

      not_ended : (end : End) (output : List ℕ) → Says (source p bytes) output end → end ≡ ends.Spent
      not_ended end output (n, o, e) = sym e ∙ endless n

      -- so its text's run is spent, at an output that the source's reaches
      is_spent : (end : End) (output : List ℕ) → Tells end output (source p bytes) → end ≡ ends.Spent
      is_spent (ends.Ended value) output (inl says) = not_ended (ends.Ended value) output says
      is_spent (ends.Ended value) output (inr lost) = absurd (not_lost lost)
      is_spent ends.Trapped output (inl says) = not_ended ends.Trapped output says
      is_spent ends.Trapped output (inr lost) = absurd (not_lost lost)
      is_spent ends.Spent output tells = refl
      is_spent ends.Wild output lost = absurd (not_lost lost)
      is_spent ends.Deep output lost = absurd (not_lost lost)
      is_spent (ends.Broken kind) output lost = absurd (not_lost lost)

      reached : (output : List ℕ) → Tells ends.Spent output (source p bytes) → Reaches (source p bytes) output
      reached output (inl reaches) = reaches
      reached output (inr lost) = absurd (not_lost lost)

      spent_with : AreBytes bytes → (m : ℕ) → (runs m).end ≡ ends.Spent
      spent_with are m = is_spent (runs m).end (runs m).output ((k.follows bytes are).backward m)

      reached_with : AreBytes bytes → (m : ℕ) → Reaches (source p bytes) (runs m).output
      reached_with are m = reached (runs m).output
          (subst (λ (e : End). Tells e (runs m).output (source p bytes)) (spent_with are m) ((k.follows bytes are).backward m))

      module _ (result : Status) (call : Call) (of : IsRunOf text bytes result call) where
        goes_on : (AreBytes bytes × CameTo (runs call.count).output (runs call.count).end result call) ⊎ (result ≡ statuses.NoMemory)
            → (n : ℕ) × IsSpentBefore (source p bytes n).output result call
        goes_on (inr no_memory) = (0, record { front = []; rest = (source p bytes 0).output; split = refl; comes = inr no_memory })
        goes_on (inl c) =
            let r = reached_with c.0 call.count in (
              r.0,
              record {
                front = (runs call.count).output;
                rest = r.1.0;
                split = r.1.1;
                comes = comes_as (runs call.count).output ends.Spent result call refl (spent_with c.0 call.count) of;
              },
            )

        -- what the run has written with some number of steps, it has written with each greater one
        writes_on : (m : ℕ) (output : List ℕ) → (runs m).output ≡ output → m ≤ call.count
            → (AreBytes bytes × CameTo (runs call.count).output (runs call.count).end result call) ⊎ (result ≡ statuses.NoMemory)
            → IsSpentBehind output result call
        writes_on m output o le (inr no_memory) = record { rest = []; comes = inr no_memory }
        writes_on m output o le (inl c) =
            let longer = one.longer m call.count le in
            record {
              rest = longer.0;
              comes = comes_as (output ++ longer.0) ends.Spent result call (longer.1 ∙ ap (λ (x : List ℕ). x ++ longer.0) o)
                  (spent_with c.0 call.count) of;
            }

      writes : (n : ℕ) → (least : ℕ) × WritesFrom text bytes (source p bytes n).output least
      writes n = by (bytes_or_not bytes)
        where
          by : AreBytes bytes ⊎ (AreBytes bytes → ⊥) → (least : ℕ) × WritesFrom text bytes (source p bytes n).output least
          by (inl are) =
              let says = asked n ends.Spent (endless n) are in (
                says.0,
                λ result call of le. writes_on result call of says.0 (source p bytes n).output says.1 le (comes bytes result call of k),
              )
          by (inr not) = (
            0,
            λ result call of le. starved_behind not (source p bytes n).output result call (comes bytes result call of k),
          )

pub ended_texts_end : EndedTextsEnd
ended_texts_end d p text bytes n value is e = ∥∥₁_map is.keeps (λ k. ended d p text is bytes k n value e)

pub trapping_texts_trap : TrappingTextsTrap
trapping_texts_trap d p text bytes n is e = ∥∥₁_map is.keeps (λ k. trapped d p text is bytes k n e)

pub endless_texts_go_on : EndlessTextsGoOn
endless_texts_go_on d p text bytes result call is endless of =
    ∥∥₁_map is.keeps (λ k. goes_on d p text is bytes k endless result call of (comes d p text is bytes result call of k))

pub endless_texts_write : EndlessTextsWrite
endless_texts_write d p text bytes n is endless = ∥∥₁_map is.keeps (λ k. writes d p text is bytes k endless n)

pub runs_tell_all : RunsTellAll
runs_tell_all d p text call end is stored ran = runs_tell d p text call end is stored ran ran.starts.input.are_bytes

pub runs_come_to : RunsComeTo
runs_come_to d p text result call is stored leaves = came_to d p text is call stored result leaves

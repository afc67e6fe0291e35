-- A code that can be written and has no fault begins with a sound machine.
use Rattle.std.proofs.Common.{◌≡◌, ℕ, zero, suc, ◌+◌, ◌^◌, ◌≤◌, Bool, true, false, cond, List, [], ◌∷◌, length, replicate, Option, Some, None, Result, Ok, Err, refl}
use Rattle.std.proofs.Common.{arith, length-append}
use Rattle.std.specs.Prelude.{nat_lt}
use Rattle.std.specs.List.{list_all}
use Rattle.std.proofs.lemmas.Bool.{ltb-true, ltb-false, and_parts}
use Rattle.vax_core.specs.declared.code.AreaItem.{AreaItem}
use Rattle.vax_core.specs.declared.code.AreaItem.TheVariants as areas
use Rattle.vax_core.specs.declared.code.Code.{Code}
use Rattle.vax_core.specs.Valid.{is_area_item, is_code_item, is_code}
use Rattle.vax_core.specs.First.{main_name}
use Rattle.vax_machine.specs.declared.turn.Stop.{Stop}
use Rattle.vax_machine.specs.declared.loading.LoadFault.TheVariants as loading_fault
use Rattle.vax_machine.specs.State.{State}
use Rattle.vax_machine.specs.Area.{zeros, padding, size_at, end_from, area_size, item_bytes, bytes_from, area_bytes}
use Rattle.vax_machine.specs.Labels.{has_label, label_place}
use Rattle.vax_machine.specs.Calls.{called}
use Rattle.vax_machine.specs.Loading.{too_large, no_main, or_undefined, or_double, undefined_name_of, double_label_of, Loads, blank, begun}
use Rattle.vax_machine.proofs.LayoutLaws.{length-item_bytes, length-zeros}
use Rattle.vax_machine_lists.specs.Sound.{AllBelow, IsRunning, RunsBeginSound}
use Rattle.vax_machine_lists.proofs.Longwords.{below_append, four_below, two_below}
use Rattle.vax_machine_lists.proofs.Soundness.{After, called_running}

-- ---- bytes

pub below_zeros : (n : ℕ) → AllBelow 256 (replicate n 0)
below_zeros zero = tt
below_zeros (suc n) = (omega arith, below_zeros n)

pub zeros_below : (n : ℕ) → AllBelow 256 (zeros n)
unfolding zeros
zeros_below n = below_zeros n

item_below : (layout : List AreaItem) (item : AreaItem) (at : ℕ) → is_area_item item ≡ true → AllBelow 256 (item_bytes layout item at)
item_below layout (areas.Label name) at e = tt
item_below layout (areas.Globl name) at e = tt
item_below layout (areas.Align k) at e = zeros_below (padding k at)
item_below layout (areas.Byte n) at e = (ltb-true n (2 ^ 8) e, tt)
item_below layout (areas.Word n) at e = two_below n
item_below layout (areas.Long a) at e = four_below _
item_below layout (areas.Space n) at e = zeros_below n

bytes_below : (layout items : List AreaItem) (at : ℕ) → list_all is_area_item items ≡ true → AllBelow 256 (bytes_from layout items at)
bytes_below layout [] at e = tt
bytes_below layout (item ∷ rest) at e =
    let p = and_parts (is_area_item item) (list_all is_area_item rest) e in
    below_append 256 (item_bytes layout item at) _ (item_below layout item at p.0) (bytes_below layout rest (at + size_at item at) p.1)

length_bytes : (layout items : List AreaItem) (at : ℕ) → at + length (bytes_from layout items at) ≡ end_from items at
length_bytes layout [] at = omega arith
length_bytes layout (item ∷ rest) at =
    let one = length-item_bytes layout item at in
    let others = length_bytes layout rest (at + size_at item at) in
    let both_so = length-append (item_bytes layout item at) (bytes_from layout rest (at + size_at item at)) in
    omega (arith, one, others, both_so)

-- ---- the size of the data area

double_by : (c : Code) (o : Option (List ℕ)) → or_double o c ≡ None → or_undefined (undefined_name_of c) c ≡ None
double_by c None e = e
double_by c (Some n) e = absurd (cc)

undefined_by : (c : Code) (o : Option (List ℕ)) → or_undefined o c ≡ None → no_main c ≡ None
undefined_by c None e = e
undefined_by c (Some n) e = absurd (cc)

main_by : (c : Code) (b : Bool) → cond b (too_large c) (Some loading_fault.NoMain) ≡ None → too_large c ≡ None
main_by c true e = e
main_by c false e = absurd (cc)

large_by : (size : ℕ) (b : Bool) → nat_lt 1048576 size ≡ b → cond b (Some loading_fault.TooLarge) None ≡ None → size ≤ 1048576
large_by size true f e = absurd (cc)
large_by size false f e = ltb-false 1048576 size f

pub loads_small : (c : Code) → Loads c → length (area_bytes c.area) ≤ 1048576
loads_small c h =
    let named = undefined_by c (undefined_name_of c) (double_by c (double_label_of c) h) in
    let fits = large_by (area_size c.area) (nat_lt 1048576 (area_size c.area)) refl (main_by c (has_label c.items main_name) named) in
    let same = length_bytes c.area c.area 65536 in
    omega (arith, fits, same)

-- ---- the state before the call, and behind it

blank_running : (c : Code) (input : List ℕ) → is_code c ≡ true → Loads c → AllBelow 256 input → IsRunning (blank c input)
blank_running c input valid h bytes =
    let p = and_parts (list_all is_area_item c.area) (list_all is_code_item c.items) valid in
    record {
      sound = record {
        going = refl;
        registers = refl;
        longwords = (
          omega arith,
          (
            omega arith,
            (
              omega arith,
              (
                omega arith,
                (
                  omega arith,
                  (
                    omega arith,
                    (
                      omega arith,
                      (
                        omega arith,
                        (
                          omega arith,
                          (omega arith, (omega arith, (omega arith, (omega arith, (omega arith, (omega arith, tt)))))),
                        ),
                      ),
                    ),
                  ),
                ),
              ),
            ),
          ),
        );
        stack = length-zeros 8388608;
        stack_bytes = zeros_below 8388608;
        area = loads_small c h;
        area_bytes = bytes_below c.area c.area 65536 p.0;
        input_bytes = bytes;
      };
      saved = tt;
      valid = p.1;
    }

begun_running : (m : State) (t : Result State Stop) → After t → (begun m t).over ≡ None → IsRunning (begun m t)
begun_running m (Ok n) h e = h
begun_running m (Err x) h e = absurd (cc)

pub runs_begin_sound : RunsBeginSound
runs_begin_sound c input valid h bytes going =
    let place = label_place c.items main_name in
    begun_running (blank c input) (called (blank c input) 0 place None) (called_running (blank c input) 0 place None (blank_running c input valid h bytes)) going

-- The names of valid codes are short.
use Rattle.std.proofs.Common.{◌≡◌, ℕ, ◌^◌, ◌≤◌, true, ◌&&◌, not, eqb, List, [], ◌∷◌, length, Option, Some, None, arith}
use Rattle.std.proofs.lemmas.Bool.{and_parts}
use Rattle.vax_core.specs.Valid.{is_name, is_long, is_addr_of}
use Rattle.vax_image_format.specs.declared.field.Ref.{Ref}
use Rattle.vax_image_format.proofs.FitLaws.{IsNamed, named_of, IsFitRef, AllFit}
use Rattle.vax_image_writing.specs.Texts.{name_length, AreNamed}

pub name_short : (name : List ℕ) → is_name name ≡ true → length name ≤ 64
name_short [] h = omega arith
name_short (c ∷ cs) h = omega (arith, named_of (c ∷ cs) h)

pub addr_short : (name : Option (List ℕ)) (offset : ℕ) → is_addr_of name offset ≡ true → name_length name ≤ 64
addr_short None offset h = omega arith
addr_short (Some name) offset h = name_short name (and_parts (is_name name) (is_long offset && not (eqb offset (2 ^ 31))) h).0

fit_short : (name : Option (List ℕ)) → IsNamed name → name_length name ≤ 64
fit_short None h = omega arith
fit_short (Some []) h = absurd h
fit_short (Some (c ∷ cs)) h = omega (arith, h)

pub refs_named : (limit : ℕ) (refs : List Ref) → AllFit (IsFitRef limit) refs → AreNamed refs
refs_named limit [] h = tt
refs_named limit (r ∷ refs) h = (fit_short r.addr.name h.0.named, refs_named limit refs h.1)

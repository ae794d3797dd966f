-- A port that is put into a channel.
use Rattle.std.proofs.Common.{◌≡◌, refl, ◌∙◌, ℕ, Bool, true, false, ◌&&◌, cond, Option, Some, None, if◌then◌else◌, nat_eq}
use Rattle.std.specs.Option.{option_or}
use Rattle.std.specs.Cmp.{nat_eq_equiv}
use Rattle.std.proofs.lemmas.Bool.{eqb-true}

pub added : (old : ℕ → ℕ → Option ℕ) (new : Option ℕ) (part port channel i p : ℕ) → old part port ≡ None
    → new ≡ cond (nat_eq part i && nat_eq port p) (Some channel) (old i p)
    → new ≡ option_or (old i p) (if nat_eq i part && nat_eq p port then Some channel else None)
added old new part port channel i p none is = is ∙ rw (nat_eq_equiv.symm part i, nat_eq_equiv.symm port p) (by_test (nat_eq i part) (nat_eq p port) refl refl)
  where
    no_other : (o : Option ℕ) → o ≡ option_or o None
    no_other None = refl
    no_other (Some x) = refl

    by_test : (b d : Bool) → nat_eq i part ≡ b → nat_eq p port ≡ d → cond (b && d) (Some channel) (old i p) ≡ option_or (old i p) (if b && d then Some channel else None)
    by_test true true same alike =
        let first : i ≡ part = eqb-true i part same in
        let second : p ≡ port = eqb-true p port alike in
        rw (first, second, none) refl
    by_test true false same alike = no_other (old i p)
    by_test false true same alike = no_other (old i p)
    by_test false false same alike = no_other (old i p)

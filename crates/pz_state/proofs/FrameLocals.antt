-- The locals that the frame of a number has.
use Rattle.std.proofs.Common.{◌≡◌, ℕ, ◌-◌, ◌≤◌, ◌<◌, List, [], length, slice_index_or, Option, Vec, unwrap_or, ap, subst, sym, arith}
use Rattle.std.specs.declared.alloc.Global.{Global}
use Rattle.pz_value.specs.declared.value.Value.{Value}
use Rattle.pz_state.specs.States.{locals_of}
use Rattle.pz_state.specs.devices.FrameTables.{Table, StoredFrames, stored}
use Rattle.pz_state.proofs.FrameTables.{items_of, absent, past, at_number}

abbrev pub or_none : Option (List Value) → List Value
or_none o = unwrap_or o []

pub none_at_zero : {seen : StoredFrames} (table : Table) → stored table ≡ seen → (number : ℕ) → number ≡ 0 → [] ≡ locals_of seen.frames number
none_at_zero {seen} table v number z = subst (λ (s : StoredFrames). [] ≡ locals_of s.frames number) v
    (sym (ap or_none (absent 1 number table (omega arith))))

pub none_past : {seen : StoredFrames} (table : Table) → stored table ≡ seen → (number : ℕ) → length table < number → [] ≡ locals_of seen.frames number
none_past {seen} table v number lt = subst (λ (s : StoredFrames). [] ≡ locals_of s.frames number) v
    (sym (ap or_none (past 1 number table (omega arith))))

pub locals_at : {seen : StoredFrames} (table : Table) → stored table ≡ seen → (number : ℕ) (x : Option (Vec Value Global)) → 1 ≤ number → number - 1 < length table → x ≡ slice_index_or table (number - 1) x → or_none (items_of x) ≡ locals_of seen.frames number
locals_at {seen} table v number x ge lt e = subst (λ (s : StoredFrames). or_none (items_of x) ≡ locals_of s.frames number) v
    (sym (ap or_none (at_number table number x ge lt e)))

-- All processes before the first step.
use Rattle.std.proofs.Common.{◌≡◌, ◌+◌, ◌∙◌, ℕ, zero, suc, List, [], ◌∷◌, ◌++◌, length, map, Some, refl, ap, subst}
use Rattle.std.specs.Prelude.{slice_get}
use Rattle.std.proofs.Math.Logic.{∥∥₁_elim}
use Rattle.std.proofs.Math.Nat.{ℕ_set}
use Rattle.std.proofs.lemmas.List.{length-map, length-append}
use Rattle.pz_classes_code.specs.pz_syntax.Classes.{ModelTree}
use Rattle.pz_bind_levels.specs.Places.{Address}
use Rattle.pz_rules.specs.pz_classes_rules.Soundness.{IsSound}
use Rattle.pz_rules.specs.pz_bind_rules.Nest.{processes}
use Rattle.pz_bind.specs.devices.Nets.{IsNet}
use Rattle.pz_bind.specs.declared.net.Net.{Net}
use Rattle.pz_rules.specs.declared.limits.Limits.{Limits}
use Rattle.pz_rules.specs.Settings as rules
use Rattle.pz_rules.specs.Starting.{StartsAs, IsStart}
use Rattle.pz_rules.specs.Heights.{IsLow}
use Rattle.pz_rules.specs.Laws.{StartFits, OneStart}
use Rattle.pz_rules.specs.devices.Start.{StartIsComputed}
use Rattle.pz_term_processes.specs.Starting.{StartsLow}
use Rattle.pz_term_processes.proofs.Beginnings.{starts_low}
use Rattle.pz_term_processes.specs.declared.process.Process.{Process}
use Rattle.pz_term_processes.specs.Standing.{setting_of, process_view, config_of, AreProcesses}

-- the first n processes stand at their start
pub record AreStarted (m : ModelTree) (limits : Limits) (n : ℕ) (ps : List Process) : Type 0 where
  pub count : length ps ≡ n
  pub each : (i : ℕ) (place : Address) (p : Process) → slice_get (processes m) i ≡ Some place → slice_get ps i ≡ Some p → StartsAs (setting_of m limits) place (process_view p)

no_some : (i : ℕ) (p : Process) → slice_get [] i ≡ Some p → ⊥
no_some i p e = cc

pub none_started : (m : ModelTree) (limits : Limits) → AreStarted m limits 0 []
none_started m limits = record { count = refl; each = λ i place p at is. absurd (no_some i p is) }

some_is : {X : Type 0} {x y : X} → Some x ≡ Some y → x ≡ y
some_is e = cc

-- the last of a list, or one before it
last_or_before : {X : Type 0} (P : ℕ → X → Type 0) (xs : List X) (x : X) → ((i : ℕ) (y : X) → slice_get xs i ≡ Some y → P i y) → P (length xs) x
    → (i : ℕ) (y : X) → slice_get (xs ++ x ∷ []) i ≡ Some y → P i y
last_or_before P [] x before last zero y is = subst (P 0) (some_is is) last
last_or_before P [] x before last (suc i) y is = absurd cc
last_or_before P (z ∷ zs) x before last zero y is = before 0 y is
last_or_before P (z ∷ zs) x before last (suc i) y is = last_or_before (λ j. P (suc j)) zs x (λ j w. before (suc j) w) last i y is

pub next_started : (m : ModelTree) (limits : Limits) (n : ℕ) (ps : List Process) (p : Process) → AreStarted m limits n ps
    → ((place : Address) → slice_get (processes m) n ≡ Some place → StartsAs (setting_of m limits) place (process_view p))
    → AreStarted m limits (n + 1) (ps ++ p ∷ [])
next_started m limits n ps p were starts = record {
  count = length-append ps (p ∷ []) ∙ ap (λ (k : ℕ). k + 1) were.count;
  each = λ i place q at is.
      last_or_before (λ j x. (here : Address) → slice_get (processes m) j ≡ Some here → StartsAs (setting_of m limits) here (process_view x)) ps p
      (λ j x x_is here h. were.each j here x h x_is)
      (λ here h. starts here (subst (λ (k : ℕ). slice_get (processes m) k ≡ Some here) were.count h)) i q is place at;
}

view_at : (ps : List Process) (i : ℕ) (q : rules.Process) → slice_get (map process_view ps) i ≡ Some q → (p : Process) × (slice_get ps i ≡ Some p) × (process_view p ≡ q)
view_at [] i q is = absurd cc
view_at (p ∷ ps) zero q is = (p, refl, some_is is)
view_at (p ∷ ps) (suc i) q is = view_at ps i q is

pub all_started : (m : ModelTree) (n : ℕ) (ps : List Process) (limits : Limits) → n ≡ length (processes m) → AreStarted m limits n ps → IsStart (setting_of m limits) (config_of 0 ps)
all_started m n ps limits all were = record {
  clock = refl;
  all = length-map ps process_view ∙ were.count ∙ all;
  each = λ i place q at is.
      let p = view_at ps i q is in
      subst (StartsAs (setting_of m limits) place) p.2 (were.each i place p.0 at p.1);
}

-- how many there are
pub counted : (m : ModelTree) (net : Net) (n : ℕ) → ∥ IsNet m net ∥₁ → ((model : ModelTree) → IsNet model net → n ≡ length (processes model)) → n ≡ length (processes m)
counted m net n known is = ∥∥₁_elim known (ℕ_set n (length (processes m))) (is m)

pub are_processes : (law : StartFits) (one : OneStart) (computed : StartIsComputed) (m : ModelTree) (ps : List Process) (limits : Limits) → IsSound m → IsStart (setting_of m limits) (config_of 0 ps) → StartsLow (setting_of m limits)
    → AreProcesses (setting_of m limits) 0 ps
are_processes law one computed m ps limits sound start low =
    let h = law (setting_of m limits) (config_of 0 ps) sound start in
    record { whole = h.0; fit = h.1; low = starts_low (setting_of m limits) (config_of 0 ps) one computed sound start low }

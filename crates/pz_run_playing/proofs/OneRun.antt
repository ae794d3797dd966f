-- A policy chooses one run of a sound model.
use Rattle.std.proofs.Common.{◌≡◌, ◌∙◌, ◌<◌, ℕ, zero, suc, List, [], ◌∷◌, length, Some, refl, sym, subst, ap, arith}
use Rattle.std.specs.Prelude.{slice_get}
use Rattle.std.proofs.lemmas.Option.{slice_get_within}
use Rattle.pz_bind_levels.specs.Places.{Address}
use Rattle.pz_rules.specs.pz_bind_rules.Nest.{processes}
use Rattle.pz_rules.specs.Settings.{Setting, Process}
use Rattle.pz_rules.specs.Configurations.{Config}
use Rattle.pz_rules.specs.Starting.{begins_with, StartsAs, IsStart}
use Rattle.pz_rules.specs.ChosenRuns.{IsChosenRun}
use Rattle.pz_rules.specs.Laws.{OneChosenRun, StartFits}
use Rattle.pz_run_playing.specs.Laws.{HasOneRun}

some_is : {X : Type 0} (x y : X) → Some x ≡ Some y → x ≡ y
some_is x y same = cc

-- lists by their elements

there : {X : Type 0} (xs : List X) (i : ℕ) → i < length xs → (x : X) × (slice_get xs i ≡ Some x)
there [] i within = absurd (omega (arith, within))
there (x ∷ xs) zero within = (x, refl)
there (x ∷ xs) (suc i) within = there xs i (omega (arith, within))

same_list : {X : Type 0} (xs ys : List X) → length xs ≡ length ys → ((i : ℕ) (x y : X) → slice_get xs i ≡ Some x → slice_get ys i ≡ Some y → x ≡ y) → xs ≡ ys
same_list [] [] long same = refl
same_list [] (y ∷ ys) long same = absurd (omega (arith, long))
same_list (x ∷ xs) [] long same = absurd (omega (arith, long))
same_list (x ∷ xs) (y ∷ ys) long same =
    let rest : xs ≡ ys = same_list xs ys (omega (arith, long)) (λ i. same (suc i)) in
    ap (λ z. z ∷ xs) (same 0 x y refl refl) ∙ ap (λ zs. y ∷ zs) rest

module _ (setting : Setting) where
  one_process : (place : Address) (p q : Process) → StartsAs setting place p → StartsAs setting place q → p ≡ q
  one_process place p q a b =
      let same : a.call ≡ b.call = some_is a.call b.call (sym a.is_call ∙ b.is_call) in
      a.stands ∙ ap (begins_with setting place) same ∙ sym b.stands

  module _ (c d : Config) (a : IsStart setting c) (b : IsStart setting d) where
    same_at : (i : ℕ) (p q : Process) → slice_get c.processes i ≡ Some p → slice_get d.processes i ≡ Some q → p ≡ q
    same_at i p q here other =
        let place = there (processes setting.model) i (omega (arith, a.all, slice_get_within c.processes i p here)) in
        one_process place.0 p q (a.each i place.0 p place.1 here) (b.each i place.0 q place.1 other)

    one_start : c ≡ d
    one_start =
        let clock : c.clock ≡ d.clock = a.clock ∙ sym b.clock in
        let list : c.processes ≡ d.processes = same_list c.processes d.processes (a.all ∙ sym b.all) same_at in
        ap (λ (n : ℕ). let z : Config = record { clock = n; processes = c.processes } in z) clock ∙ ap (λ (ps : List Process). let z : Config = record { clock = d.clock; processes = ps } in z) list

pub one_run : OneChosenRun → StartFits → HasOneRun
one_run one fits setting policy sound x y =
    let other : IsChosenRun setting policy 0 x.start y.events y.end y.ending =
    subst (λ (c : Config). IsChosenRun setting policy 0 c y.events y.end y.ending) (one_start setting y.start x.start y.is_start x.is_start) y.is_chosen in
    one setting policy 0 x.start x.events y.events x.end y.end x.ending y.ending (fits setting x.start sound x.is_start).0 x.is_chosen other

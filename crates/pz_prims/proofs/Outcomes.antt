-- Outcomes by the row that gives them.
use Rattle.std.proofs.Common.{◌≡◌, ℕ, List, Option, Result, Ok, Err, refl, ap}
use Rattle.std.specs.Prelude.{OnOk}
use Rattle.std.specs.Option.{option_map_or}
use Rattle.pz_state.specs.pz_value.declared.value.Value.{Value}
use Rattle.pz_state.specs.pz_value.declared.value.Value.TheVariants as value
use Rattle.pz_state.specs.States.{StateView}
use Rattle.pz_prims.specs.Rows.{Answer, answered}
use Rattle.pz_prims.specs.EveryValue.{every_value}
use Rattle.pz_prims.specs.Table.{Outcome, outcome, of_itself, by_sort, told, understood}

module _ (s : StateView) (v : Value) (selector : List ℕ) (args : List Value) where
  abbrev pub by_found : Option (Answer Value) → Outcome
  by_found found = option_map_or (λ answer. record { answer = told answer; state = s }) found (of_itself s v selector args)

  pub outcome-by_found : (found : Option (Answer Value)) → answered (every_value v) selector args ≡ found → outcome s v selector args ≡ by_found found
  unfolding outcome
  outcome-by_found found is = ap by_found is

-- no reference
abbrev pub IsPlain : Value → Type 0
IsPlain v = (r : ℕ) → v ≡ value.Ref r → ⊥

pub of_itself-plain : (s : StateView) (v : Value) (selector : List ℕ) (args : List Value) → IsPlain v → of_itself s v selector args ≡ record { answer = understood (by_sort v selector args); state = s }
of_itself-plain s value.Nil selector args plain = refl
of_itself-plain s (value.Bool b) selector args plain = refl
of_itself-plain s (value.Int n) selector args plain = refl
of_itself-plain s (value.Char c) selector args plain = refl
of_itself-plain s (value.Str t) selector args plain = refl
of_itself-plain s (value.Ref r) selector args plain = absurd (plain r refl)

-- what an Ok leaves may be said of every result
pub on_ok : {A E : Type 0} (result : Result A E) (P : Type 0) → P → OnOk result P
on_ok (Ok x) P h = h
on_ok (Err e) P h = tt

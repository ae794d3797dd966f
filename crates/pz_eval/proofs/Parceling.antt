-- Values in parcels, and bound.
use Rattle.std.proofs.Common.{◌≡◌, ℕ, ◌+◌, ◌<◌, ◌≤◌, ◌⊎◌, inl, inr, List, [], ◌∷◌, length, drop, get_or, Result, Ok, Err, refl, sym, ap, ◌∙◌, subst, arith}
use Rattle.std.specs.Prelude.{All, IfOk, IfErr, OnOk, OnErr}
use Rattle.std.proofs.lemmas.List.{drop_more, drop_all}
use Rattle.std.proofs.lemmas.Bool.{cases_lt}
use Rattle.pz_classes_code.specs.pz_syntax.Classes.{ModelTree}
use Rattle.pz_classes_code.specs.pz_value.declared.value.Value.{Value}
use Rattle.pz_classes_code.specs.declared.slot.Slot.{Slot}
use Rattle.pz_classes_code.specs.declared.slot.Slot.TheVariants.{Local, Shared, Unknown}
use Rattle.pz_copy.specs.pz_state.States.{StateView}
use Rattle.pz_copy.specs.pz_state.Marks.{Seen, changed}
use Rattle.pz_copy.specs.pz_state.References.{RefersWithin}
use Rattle.pz_copy.specs.declared.unpacking.UnpackError.{UnpackError}
use Rattle.pz_copy.specs.declared.unpacking.UnpackError.TheVariants.{NoMemory, StoreFull}
use Rattle.pz_copy.specs.Parcels.{ParcelView}
use Rattle.pz_copy.specs.Packing.{IsParcelOf}
use Rattle.pz_eval_machine.specs.pz_eval_rules.declared.allowance.Allowance.{Allowance}
use Rattle.pz_eval_machine.specs.pz_eval_rules.declared.outcome.Listed.{Listed}
use Rattle.pz_eval_machine.specs.pz_eval_rules.declared.outcome.Listed.TheVariants as listed
use Rattle.pz_eval_machine.specs.pz_eval_rules.Steps.{Codes}
use Rattle.pz_eval_machine.specs.pz_eval_rules.Outcomes.{FindsAll}
use Rattle.pz_eval.specs.declared.parcels.Parceled.{Parceled}
use Rattle.pz_eval.specs.Promises.{NameWithin}
use Rattle.pz_eval.specs.Parcels.{FindsParcel, a_parcel}
use Rattle.pz_eval_binding.specs.Binding.{set_slots}
use Rattle.pz_eval.specs.devices.Parceled.{parceled}

pub listed_within : {E : Type 0} (result : Result Listed E) (ys : List Value) (count : ℕ) → result ≡ Ok (listed.Values ys) → IfOk result (NameWithin count) → All (RefersWithin count) ys
listed_within {E} result ys count e h = subst (λ (x : Result Listed E). IfOk x (NameWithin count)) e h

module _ (model : ModelTree) (now frame : ℕ) (s : StateView) (ts : Codes) (allowed : Allowance) (left : StateView) where
  pub found_listed : {E : Type 0} (result : Result Listed E) (o : Listed) → result ≡ Ok o → IfOk result (λ x. FindsAll model now frame s ts allowed x left) → FindsAll model now frame s ts allowed o left
  found_listed {E} result o e h = subst (λ (y : Result Listed E). IfOk y (λ x. FindsAll model now frame s ts allowed x left)) e h

  pub found_parcel : {E : Type 0} (ys zs : List Value) (parcel : Result ParcelView E) (result : Result Parceled E) → result ≡ parceled parcel → zs ≡ ys
      → FindsAll model now frame s ts allowed (listed.Values ys) left → IfOk parcel (λ p. IsParcelOf left zs p) → IfOk result (FindsParcel model now frame s ts allowed)
  found_parcel ys zs (Ok p) result e same found h = rw e (a_parcel found (subst (λ (vs : List Value). IsParcelOf left vs p) same h))
  found_parcel ys zs (Err error) result e same found h = rw e tt

pub bound_changed : (frame : ℕ) (xs : List Slot) (s0 s1 s2 : Seen) (u : StateView) (vs ws : List Value) → s1 ≡ changed s0 u → vs ≡ ws → s2 ≡ changed s1 (set_slots frame xs vs s1.held) → s2 ≡ changed s0 (set_slots frame xs ws u)
bound_changed frame xs s0 s1 s2 u vs ws e h g =
    g ∙ ap (λ (t : Seen). changed t (set_slots frame xs vs t.held)) e ∙ ap (λ (zs : List Value). changed s0 (set_slots frame xs zs u)) h

pub on_ok_map : {T E P Q : Type 0} (result : Result T E) → (P → Q) → OnOk result P → OnOk result Q
on_ok_map (Ok x) f h = f h
on_ok_map (Err e) f h = tt

pub ok_not_err : {T E : Type 0} (result : Result T E) (x : T) (e : E) → result ≡ Ok x → result ≡ Err e → ⊥
ok_not_err {T} {E} result x e h g = subst (λ (y : Result T E). OnErr y ⊥) (sym h ∙ g) tt

pub fits_of : {T E : Type 0} (result : Result T E) (x : T) (e : E) (n limit : ℕ) → result ≡ Ok x → (limit < n → result ≡ Err e) → n ≤ limit
fits_of result x e n limit h refused = by (cases_lt limit n)
  where
    by : (limit < n) ⊎ (n ≤ limit) → n ≤ limit
    by (inl over) = absurd (ok_not_err result x e h (refused over))
    by (inr within) = within

is_want : UnpackError → Type 0
is_want NoMemory = Unit {0}
is_want StoreFull = ⊥

pub not_full_of : {T : Type 0} (result : Result T UnpackError) → OnErr result (result ≡ Err NoMemory) → result ≡ Err StoreFull → ⊥
unfolding is_want
not_full_of {T} (Ok x) h e = subst (λ (y : Result T UnpackError). OnErr y ⊥) e tt
not_full_of {T} (Err error) h e = subst (λ (y : Result T UnpackError). IfErr y is_want) (sym h ∙ e) tt

error_or : {T E : Type 0} → E → Result T E → E
error_or e (Ok x) = e
error_or e (Err y) = y

pub same_error : {S T E : Type 0} (result : Result T E) (x y : E) → result ≡ Err x → ◌≡◌ {A = Result S E} (Err x) (Err y) → result ≡ Err y
unfolding error_or
same_error {S} {T} {E} result x y h e = h ∙ ap (λ (z : E). Err z) (ap (λ (r : Result S E). error_or x r) e)

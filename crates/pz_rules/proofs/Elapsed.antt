-- Time passes to one configuration, and neither an action nor the passing of time makes or ends a
-- process.
use Rattle.std.proofs.Common.{◌≡◌, ◌<◌, ℕ, zero, suc, List, [], ◌∷◌, length, Some, Result, Ok, Err, refl, sym, ap, ◌∙◌, arith}
use Rattle.std.specs.Prelude.{slice_get, slice_set}
use Rattle.pz_bind_rules.specs.Nest.{processes, class_at}
use Rattle.pz_offer.specs.declared.trouble.Trouble.{Trouble}
use Rattle.pz_rules.specs.declared.action.Action.{Action}
use Rattle.pz_rules.specs.Terms.{Term}
use Rattle.pz_rules.specs.Settings.{Setting, Process, Context}
use Rattle.pz_rules.specs.Meanings.{and_then}
use Rattle.pz_rules.specs.Configurations.{Config, Stands, IsWhole}
use Rattle.pz_rules.specs.Steps.{with_process, with_both, Next, internal, communication, PassesTo}
use Rattle.pz_rules.proofs.Passings.{passes_once}

-- Lists by their elements

pub there : {X : Type 0} (xs : List X) (i : ℕ) → i < length xs → (x : X) × (slice_get xs i ≡ Some x)
there [] i within = absurd (omega (arith, within))
there (x ∷ xs) zero within = (x, refl)
there (x ∷ xs) (suc i) within = there xs i (omega (arith, within))

same_list : {X : Type 0} (xs ys : List X) → length xs ≡ length ys → ((i : ℕ) → i < length xs → slice_get xs i ≡ slice_get ys i) → xs ≡ ys
same_list [] [] long same = refl
same_list [] (y ∷ ys) long same = absurd (omega (arith, long))
same_list (x ∷ xs) [] long same = absurd (omega (arith, long))
same_list (x ∷ xs) (y ∷ ys) long same =
    let rest : xs ≡ ys = same_list xs ys (omega (arith, long)) (λ i within. same (suc i) (omega (arith, within))) in
    let first : x ≡ y = first_is (same 0 (omega arith)) in
    ap (λ z. z ∷ xs) first ∙ ap (λ zs. y ∷ zs) rest
  where
    first_is : Some x ≡ Some y → x ≡ y
    first_is e = cc

length_set : {X : Type 0} (xs : List X) (i : ℕ) (x : X) → length (slice_set xs i x) ≡ length xs
length_set [] i x = refl
length_set (y ∷ xs) zero x = refl
length_set (y ∷ xs) (suc i) x = ap suc (length_set xs i x)

module _ (setting : Setting) (c : Config) where
  -- what stands at a number
  pub stands_there : (i : ℕ) (p : Process) → IsWhole setting c → slice_get c.processes i ≡ Some p → i < length c.processes → (a : Context) × Stands setting c i p a
  stands_there i p all is within =
      let place = there (processes setting.model) i (omega (arith, all, within)) in (
        record { setting = setting; process = i; class = class_at setting.model place.0; clock = c.clock; state = p.state },
        record { place = place.0; is_process = place.1; is_here = is; seen = refl },
      )

  module _ (d : ℕ) (x y : Config) (all : IsWhole setting c) (one : PassesTo setting c d x) (other : PassesTo setting c d y) where
    same_at : (i : ℕ) → i < length x.processes → slice_get x.processes i ≡ slice_get y.processes i
    same_at i within =
        let p = there c.processes i (omega (arith, one.all, within)) in
        let a = stands_there i p.0 all p.1 (omega (arith, one.all, within)) in
        let u = one.each i p.0 a.0 a.1 in
        let v = other.each i p.0 a.0 a.1 in
        u.2 ∙ ap (λ (t : Term). let q : Process = record { term = t; state = p.0.state } in Some q) (passes_once a.0 d 0 p.0.term u.0 v.0 u.1 v.1) ∙ sym v.2

    pub passing_once : x ≡ y
    passing_once =
        let clock : x.clock ≡ y.clock = one.clock ∙ sym other.clock in
        let list : x.processes ≡ y.processes = same_list x.processes y.processes (one.all ∙ sym other.all) same_at in
        ap (λ (n : ℕ). let z : Config = record { clock = n; processes = x.processes } in z) clock ∙ ap (λ (ps : List Process). let z : Config = record { clock = y.clock; processes = ps } in z) list

  -- an outcome with as many processes
  abbrev AsMany : Result Config Trouble → Type 0
  AsMany (Ok next) = length next.processes ≡ length c.processes
  AsMany (Err trouble) = Unit {0}

  pub as_many : (a : Action) (q : Result Config Trouble) → Next setting c a q → AsMany q
  as_many _ _ (internal at kind pos result x) = by result
    where
      by : (r : Result Process Trouble) → AsMany (and_then r (λ p. Ok (with_process c at.process p)))
      by (Ok p) = length_set c.processes at.process p
      by (Err trouble) = tt
  as_many _ _ (communication number sender receiver message parcel sent taken x y) = by sent taken
    where
      by : (r s : Result Process Trouble) → AsMany (and_then r (λ p. and_then s (λ q. Ok (with_both c sender receiver p q))))
      by (Ok p) (Ok q) = length_set (slice_set c.processes sender.process p) receiver.process q ∙ length_set c.processes sender.process p
      by (Ok p) (Err trouble) = tt
      by (Err trouble) s = tt

  pub next_whole : (a : Action) (next : Config) → IsWhole setting c → Next setting c a (Ok next) → IsWhole setting next
  next_whole a next all h = as_many a (Ok next) h ∙ all

  pub passing_whole : (d : ℕ) (next : Config) → IsWhole setting c → PassesTo setting c d next → IsWhole setting next
  passing_whole d next all h = h.all ∙ all

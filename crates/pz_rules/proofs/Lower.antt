-- Where no term is too high, none is after an action or a passing of time.
use Rattle.std.proofs.Common.{◌≡◌, ◌⊎◌, ◌<◌, ◌≤◌, inl, inr, max, ℕ, suc, Bool, true, false, length, Some, Result, Ok, Err, refl, sym, subst, ap, ◌∙◌}
use Rattle.std.proofs.lemmas.Option.{slice_get_within}
use Rattle.std.proofs.lemmas.Bool.{leb-true}
use Rattle.std.specs.Prelude.{slice_get, if◌then◌else◌, nat_le}
use Rattle.pz_bind_rules.specs.pz_syntax.declared.tokens.Pos.{Pos}
use Rattle.pz_offer.specs.declared.end.End.{End}
use Rattle.pz_offer.specs.PlaceOrder.{Place}
use Rattle.pz_offer.specs.declared.trouble.Trouble.{Trouble}
use Rattle.pz_offer.specs.declared.trouble.Trouble.TheVariants.{High}
use Rattle.pz_rules.specs.declared.action.Action.{Action}
use Rattle.pz_rules.specs.Terms.{Term, Terms, height, greatest_height}
use Rattle.pz_rules.specs.Settings.{Setting, Process, Context, home_of}
use Rattle.pz_rules.specs.Meanings.{and_then}
use Rattle.pz_rules.specs.InternalActions.{Performs}
use Rattle.pz_rules.specs.Messages.{Hands, Takes}
use Rattle.pz_rules.specs.Leaving.{residual, swept, not_too_high, settled}
use Rattle.pz_rules.specs.Delays as delays
use Rattle.pz_rules.specs.Delays.{Passes, PassesAll}
use Rattle.pz_rules.specs.Configurations.{Config, IsWhole}
use Rattle.pz_rules.specs.Heights.{IsLow}
use Rattle.pz_rules.specs.Steps.{Deed, Acts, with_process, with_both, Next, internal, communication, PassesTo}
use Rattle.pz_rules.proofs.Locals.{some_is}
use Rattle.pz_rules.proofs.Elapsed.{there, stands_there}
use Rattle.pz_rules.proofs.Kept.{set_get}

-- An action

abbrev LeftLow : ℕ → Result Process Trouble → Type 0
LeftLow limit (Ok p) = height p.term ≤ limit
LeftLow limit (Err t) = Unit {0}

unless_high : (a : Context) (pos : Pos) (p : Process) → LeftLow a.setting.limits.height (not_too_high a pos p)
unless_high a pos p = by (nat_le (height p.term) a.setting.limits.height) refl
  where
    by : (b : Bool) → nat_le (height p.term) a.setting.limits.height ≡ b → LeftLow a.setting.limits.height (if b then Ok p else Err (High a.process pos))
    by true e = leb-true (height p.term) a.setting.limits.height e
    by false e = tt

settled_low : (a : Context) (pos : Pos) (t : Term) (place : Place) (left : Result Process Trouble) → LeftLow a.setting.limits.height (and_then left (settled a pos t place))
settled_low a pos t place (Ok y) = unless_high a pos (swept (residual (home_of a) 0 t place y))
settled_low a pos t place (Err e) = tt

put_low : (setting : Setting) (c : Config) (i : ℕ) (p : Process) → IsLow setting c → height p.term ≤ setting.limits.height → IsLow setting (with_process c i p)
put_low setting c i p low new k q is = by (set_get c.processes i k p q is)
  where
    by : ((k ≡ i) × (q ≡ p)) ⊎ (slice_get c.processes k ≡ Some q) → height q.term ≤ setting.limits.height
    by (inl same) = subst (λ (r : Process). height r.term ≤ setting.limits.height) (sym same.1) new
    by (inr other) = low k q other

abbrev OutcomeLow : Setting → Result Config Trouble → Type 0
OutcomeLow setting (Ok next) = IsLow setting next
OutcomeLow setting (Err t) = Unit {0}

module _ (setting : Setting) (c : Config) (low : IsLow setting c) where
  acts_low : (does : Deed) (end : End) (q : Result Process Trouble) → Acts setting c does end q → LeftLow setting.limits.height q
  acts_low does end q x =
      let outcome = and_then x.left (settled x.seen x.pos x.process.term end.place) in
      subst (LeftLow setting.limits.height) (sym x.leaves)
      (subst (λ (b : Context). LeftLow b.setting.limits.height outcome) x.stands.seen (settled_low x.seen x.pos x.process.term end.place x.left))

  internal_low : (i : ℕ) (q : Result Process Trouble) → LeftLow setting.limits.height q → OutcomeLow setting (and_then q (λ p. Ok (with_process c i p)))
  internal_low i (Ok p) h = put_low setting c i p low h
  internal_low i (Err t) h = tt

  both_low : (sender receiver : End) (q r : Result Process Trouble) → LeftLow setting.limits.height q → LeftLow setting.limits.height r → OutcomeLow setting (and_then q (λ p. and_then r (λ u. Ok (with_both c sender receiver p u))))
  both_low sender receiver (Ok p) (Ok u) h k = put_low setting (with_process c sender.process p) receiver.process u (put_low setting c sender.process p low h) k
  both_low sender receiver (Ok p) (Err t) h k = tt
  both_low sender receiver (Err t) r h k = tt

  outcome_low : (action : Action) (q : Result Config Trouble) → Next setting c action q → OutcomeLow setting q
  outcome_low _ _ (internal end kind pos result x) = internal_low end.process result (acts_low Performs end result x)
  outcome_low _ _ (communication number sender receiver message parcel sent taken x y) =
      both_low sender receiver sent taken (acts_low (λ a f. Hands a f parcel) sender sent x) (acts_low (λ a f. Takes a f parcel) receiver taken y)

  pub next_low : (action : Action) (next : Config) → Next setting c action (Ok next) → IsLow setting next
  next_low action next h = outcome_low action (Ok next) h

-- The passing of time leaves each term as high as it is

mutual
  as_high : (a : Context) (d f : ℕ) (t x : Term) → Passes a d f t x → height x ≡ height t
  as_high a d _ _ _ (delays.is_done f) = refl
  as_high a d _ _ _ (delays.stays f s is) = refl
  as_high a d _ _ _ (delays.begins f at e left lasts) = refl
  as_high a d _ _ _ (delays.goes_on f left at) = refl
  as_high a d _ _ _ (delays.in_sequence f t x rest p) = ap suc (as_high a d f t x p)
  as_high a d _ _ _ (delays.in_parallel f ts xs p) = ap suc (all_as_high a d f ts xs p)
  as_high a d _ _ _ (delays.in_select f ts xs p) = ap suc (all_as_high a d f ts xs p)
  as_high a d _ _ _ (delays.behind_true f test at t x is p) = ap suc (as_high a d f t x p)
  as_high a d _ _ _ (delays.behind_false f test at t is) = refl
  as_high a d _ _ _ (delays.in_frame f number inputs results t x p) = ap suc (as_high a d number t x p)
  as_high a d _ _ _ (delays.in_abort f t x u y p q) = ap (λ (n : ℕ). suc (max n (height y))) (as_high a d f t x p) ∙ ap (λ (n : ℕ). suc (max (height t) n)) (as_high a d f u y q)
  as_high a d _ _ _ (delays.in_idle f t x u y again p q) = ap (λ (n : ℕ). suc (max n (height y))) (as_high a d f t x p) ∙ ap (λ (n : ℕ). suc (max (height t) n)) (as_high a d f u y q)
  as_high a d _ _ _ (delays.in_handling f t u y again p) = ap (λ (n : ℕ). suc (max (height t) n)) (as_high a d f u y p)

  all_as_high : (a : Context) (d f : ℕ) (ts xs : Terms) → PassesAll a d f ts xs → greatest_height xs ≡ greatest_height ts
  all_as_high a d _ _ _ (delays.none f) = refl
  all_as_high a d _ _ _ (delays.both f t x ts xs p q) = ap (λ (n : ℕ). max n (greatest_height xs)) (as_high a d f t x p) ∙ ap (λ (n : ℕ). max (height t) n) (all_as_high a d f ts xs q)

pub passing_low : (setting : Setting) (c next : Config) (d : ℕ) → IsWhole setting c → IsLow setting c → PassesTo setting c d next → IsLow setting next
passing_low setting c next d all low passes i q is =
    let within : i < length c.processes = subst (λ (n : ℕ). i < n) passes.all (slice_get_within next.processes i q is) in
    let p = there c.processes i within in
    let a = stands_there setting c i p.0 all p.1 within in
    let one = passes.each i p.0 a.0 a.1 in
    let same : (let r : Process = record { term = one.0; state = p.0.state } in r) ≡ q = some_is (sym one.2 ∙ is) in
    subst (λ (r : Process). height r.term ≤ setting.limits.height) same
    (subst (λ (n : ℕ). n ≤ setting.limits.height) (sym (as_high a.0 d 0 p.0.term one.0 one.1)) (low i p.0 p.1))

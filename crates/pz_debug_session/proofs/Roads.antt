-- Steps lead on in one way.
use Rattle.std.proofs.Common.{◌≡◌, ◌<◌, ◌≤◌, ◌+◌, ◌*◌, ◌^◌, ℕ, zero, suc, List, [], ◌∷◌, ◌++◌, length, get_or, take, drop, drop-cons, Some, Result, Ok, Err, refl, sym, ap, subst, ◌∙◌, arith}
use Rattle.std.specs.Prelude.{slice_get}
use Rattle.std.proofs.lemmas.List.{take_all}
use Rattle.std.proofs.Math.Seq.{take-suc}
use Rattle.pz_rules.specs.pz_offer.declared.end.End.{End}
use Rattle.pz_rules.specs.pz_offer.declared.trouble.Trouble.{Trouble}
use Rattle.pz_rules.specs.declared.action.Action.{Action}
use Rattle.pz_rules.specs.declared.moment.Moment.{Moment}
use Rattle.pz_rules.specs.declared.moment.Moment.TheVariants.{Actions, Time}
use Rattle.pz_rules.specs.Settings.{Setting, Process}
use Rattle.pz_rules.specs.Configurations.{Config}
use Rattle.pz_rules.specs.Runs.{whole, stopped, IsChoice}
use Rattle.pz_rules.specs.Meanings.{and_then}
use Rattle.pz_rules.specs.Steps.{Next, internal, communication, with_process, with_both, PassesTo}
use Rattle.pz_rules.specs.Laws.{OneListOfOffers}
use Rattle.pz_term_simulator.specs.Simulations as simulations
use Rattle.pz_term_simulator.specs.Simulations.{Simulation, stands, broken, IsMomentOf, Chooses, Passes, clock_in}
use Rattle.pz_debug_session.specs.declared.step.Step.{Step}
use Rattle.pz_debug_session.specs.declared.step.Step.TheVariants.{Pick, Pass}
use Rattle.pz_debug_session.specs.devices.Known.{Known}
use Rattle.pz_debug_session.specs.devices.Leading.{Takes, CanTake, IsShort, Leads, arrived, further, IsWholeAt, OnTheWay}

-- A step that is taken can be

below_there : (xs : List Action) (k : ℕ) (a : Action) → slice_get xs k ≡ Some a → k < length xs
below_there [] k a e = absurd cc
below_there (x ∷ xs) zero a e = omega arith
below_there (x ∷ xs) (suc k) a e = let more : k < length xs = below_there xs k a e in omega (arith, more)

choice_within : (setting : Setting) (c : Config) (n k : ℕ) (a : Action) → IsChoice setting c n k a → k < n
choice_within setting c n k a choice = omega (arith, choice.count, below_there choice.offers k a choice.chosen)

-- where the clock is low, if it is a passing
abbrev pub IsLowFor : Step → Simulation → Type 0
IsLowFor (Pick k) s = Unit {0}
IsLowFor Pass s = clock_in s < 2 ^ 127

pub can_take : (step : Step) (s t : Simulation) → Takes step s t → IsLowFor step s → CanTake step s
can_take (Pick k) _ _ (simulations.acts setting c next n a is choice to) low = (n, is, choice_within setting c n k a choice)
can_take (Pick k) _ _ (simulations.stops setting c n a trouble is choice to) low = (n, is, choice_within setting c n k a choice)
can_take Pass _ _ (simulations.passes setting c next d is to) low = (d, is, low)

-- It leads to one place

count_of : Moment → ℕ
count_of (Actions n) = n
count_of (Time d) = d
count_of m = 0

same_count : (m n : ℕ) → Actions m ≡ Actions n → m ≡ n
unfolding count_of
same_count m n e = ap count_of e

same_time : (d e : ℕ) → Time d ≡ Time e → d ≡ e
unfolding count_of
same_time d e same = ap count_of same

some_is : {A : Type 0} {x y : A} → Some x ≡ Some y → x ≡ y
some_is e = cc

ok_is : {x y : Config} → (let r : Result Config Trouble = Ok x in r) ≡ Ok y → x ≡ y
ok_is e = cc

err_is : {x y : Trouble} → (let r : Result Config Trouble = Err x in r) ≡ Err y → x ≡ y
err_is e = cc

not_both : {x : Config} {y : Trouble} → (let r : Result Config Trouble = Ok x in r) ≡ Err y → ⊥
not_both e = cc

one_action : OneListOfOffers → (setting : Setting) (c : Config) (n m k : ℕ) (a b : Action) → IsChoice setting c n k a → IsChoice setting c m k b → a ≡ b
one_action one setting c n m k a b x y =
    let same : x.offers ≡ y.offers = one setting c x.offers y.offers x.all y.all in
    some_is (sym x.chosen ∙ ap (λ (xs : List Action). slice_get xs k) same ∙ y.chosen)

module _ (known : Known) where
  one_next : (setting : Setting) (c : Config) (n m k : ℕ) (a b : Action) (x y : Result Config Trouble) → IsChoice setting c n k a → IsChoice setting c m k b → Next setting c a x → Next setting c b y → x ≡ y
  one_next setting c n m k a b x y one other to on =
      known.one_next setting c a x y to (subst (λ (e : Action). Next setting c e y) (sym (one_action known.one_list setting c n m k a b one other)) on)

  pub one_taken : (step : Step) (s t u : Simulation) → IsWholeAt s → Takes step s t → Takes step s u → t ≡ u
  one_taken (Pick k) _ _ _ all (simulations.acts setting c next n a is choice to) (simulations.acts _ _ after m b at other on) =
      ap (λ (x : Config). stands setting x whole) (ok_is (one_next setting c n m k a b (Ok next) (Ok after) choice other to on))
  one_taken (Pick k) _ _ _ all (simulations.acts setting c next n a is choice to) (simulations.stops _ _ m b trouble at other on) =
      absurd (not_both (one_next setting c n m k a b (Ok next) (Err trouble) choice other to on))
  one_taken (Pick k) _ _ _ all (simulations.stops setting c n a trouble is choice to) (simulations.acts _ _ after m b at other on) =
      absurd (not_both (one_next setting c m n k b a (Ok after) (Err trouble) other choice on to))
  one_taken (Pick k) _ _ _ all (simulations.stops setting c n a trouble is choice to) (simulations.stops _ _ m b other_trouble at other on) =
      ap (λ (x : Trouble). stands setting c (stopped x)) (err_is (one_next setting c n m k a b (Err trouble) (Err other_trouble) choice other to on))
  one_taken Pass _ _ _ all (simulations.passes setting c next d is to) (simulations.passes _ _ after e at on) =
      let same : d ≡ e = same_time d e (known.one_moment setting c (Time d) (Time e) is at) in
      ap (λ (x : Config). stands setting x whole) (known.one_passing setting c d next after all to (subst (λ (f : ℕ). PassesTo setting c f after) (sym same) on))

  pub whole_taken : (step : Step) (s t : Simulation) → IsWholeAt s → Takes step s t → IsWholeAt t
  whole_taken (Pick k) _ _ all (simulations.acts setting c next n a is choice to) = (known.stays_whole setting c next a 0 all).0 to
  whole_taken (Pick k) _ _ all (simulations.stops setting c n a trouble is choice to) = all
  whole_taken Pass _ _ all (simulations.passes setting c next d is to) = to.all ∙ all

  pub one_road : (s t u : Simulation) (steps : List Step) → IsWholeAt s → Leads s steps t → Leads s steps u → t ≡ u
  one_road _ _ _ _ all (arrived s) (arrived _) = refl
  one_road _ _ u _ all (further step s m t steps takes leads) (further _ _ n _ _ also there) =
      let same : m ≡ n = one_taken step s m n all takes also in
      one_road m t u steps (whole_taken step s m all takes) leads (subst (λ (x : Simulation). Leads x steps u) (sym same) there)

-- The clock: an action leaves it, and a passing is short

module _ (c next : Config) where
  ok_clock : (i : ℕ) (left : Result Process Trouble) → and_then left (λ p. Ok (with_process c i p)) ≡ Ok next → next.clock ≡ c.clock
  ok_clock i (Ok p) e = ap (λ (x : Config). x.clock) (sym (ok_is {x = with_process c i p} {y = next} e))
  ok_clock i (Err t) e = absurd cc

  both_clock : (sender receiver : End) (sent taken : Result Process Trouble) → and_then sent (λ p. and_then taken (λ q. Ok (with_both c sender receiver p q))) ≡ Ok next → next.clock ≡ c.clock
  both_clock sender receiver (Ok p) (Ok q) e = ap (λ (x : Config). x.clock) (sym (ok_is {x = with_both c sender receiver p q} {y = next} e))
  both_clock sender receiver (Ok p) (Err t) e = absurd cc
  both_clock sender receiver (Err t) taken e = absurd cc

  next_clock : (setting : Setting) (a : Action) (r : Result Config Trouble) → Next setting c a r → r ≡ Ok next → next.clock ≡ c.clock
  next_clock setting _ _ (internal at kind pos left acts) e = ok_clock at.process left e
  next_clock setting _ _ (communication number sender receiver message parcel sent taken hands takes) e = both_clock sender receiver sent taken e

chosen_clock : (k : ℕ) (s t : Simulation) → Chooses k s t → clock_in t ≡ clock_in s
chosen_clock k _ _ (simulations.acts setting c next n a is choice to) = next_clock c next setting a (Ok next) to refl
chosen_clock k _ _ (simulations.stops setting c n a trouble is choice to) = refl

-- where the clock was at most 2^64 units for each step, it is so with one step more
pub stays_low : (step : Step) (s t : Simulation) (n : ℕ) → Takes step s t → IsShort step s t → clock_in s ≤ 2 ^ 64 * n → clock_in t ≤ 2 ^ 64 * (n + 1)
stays_low (Pick k) s t n takes short low = let same : clock_in t ≡ clock_in s = chosen_clock k s t takes in omega (arith, same, low)
stays_low Pass s t n takes short low = let less : clock_in t < clock_in s + 2 ^ 64 = short in omega (arith, less, low)

-- and a list has fewer than 2^63 steps
pub is_low : (n clock : ℕ) → n < 2 ^ 63 → clock ≤ 2 ^ 64 * n → clock < 2 ^ 127
is_low n clock few low = omega (arith, few, low)

-- Lists of steps

pub leads_on : (s t u : Simulation) (steps : List Step) (step : Step) → Leads s steps t → Takes step t u → Leads s (steps ++ step ∷ []) u
leads_on _ _ u _ step (arrived s) takes = further step s u u [] takes (arrived u)
leads_on _ _ u _ step (further first s m t steps begins leads) takes = further first s m u (steps ++ step ∷ []) begins (leads_on m t u steps step leads takes)

pub record Splits (s t : Simulation) (steps more : List Step) : Type 0 where
  pub mid : Simulation
  pub before : Leads s steps mid
  pub after : Leads mid more t

pub splits : (s t : Simulation) (steps more : List Step) → Leads s (steps ++ more) t → Splits s t steps more
splits s t [] more leads = record { mid = s; before = arrived s; after = leads }
splits s t (step ∷ steps) more (further _ _ m _ _ takes leads) =
    let x = splits m t steps more leads in
    record { mid = x.mid; before = further step s m x.mid steps takes x.before; after = x.after }

-- On the way

first_of : (s t : Simulation) (step : Step) (steps : List Step) → Leads s (step ∷ steps) t → (m : Simulation) × Takes step s m × Leads m steps t
first_of s t step steps (further _ _ m _ _ takes leads) = (m, takes, leads)

pub sets_out : (s t : Simulation) (steps : List Step) → IsWholeAt s → clock_in s ≡ 0 → Leads s steps t → OnTheWay steps 0 s s
sets_out s t steps all start leads = record { within = omega arith; all = all; low = omega (arith, start); before = arrived s; to = t; after = leads }

module _ (steps : List Step) (i : ℕ) (d : Step) (first here : Simulation) (within : i < length steps) (way : OnTheWay steps i first here) where
  abbrev step : Step
  step = get_or steps i d

  next_of : (m : Simulation) × Takes step here m × Leads m (drop (suc i) steps) way.to
  next_of = first_of here way.to step (drop (suc i) steps) (subst (λ (l : List Step). Leads here l way.to) (drop-cons steps i d within) way.after)

  pub next_can : length steps < 2 ^ 63 → CanTake step here
  next_can few = can_take step here next_of.0 next_of.1 (low_for step)
    where
      low_for : (x : Step) → IsLowFor x here
      low_for (Pick k) = tt
      low_for Pass = is_low i (clock_in here) (omega (arith, within, few)) way.low

  pub goes_further : Known → (next : Simulation) → Takes step here next → IsShort step here next → OnTheWay steps (i + 1) first next
  goes_further known next takes short =
      let same : suc i ≡ i + 1 = omega arith in
      let front : take i steps ++ step ∷ [] ≡ take (i + 1) steps = sym (take-suc steps i d within) ∙ ap (λ (j : ℕ). take j steps) same in
      record {
        within = omega (arith, within);
        all = whole_taken known step here next way.all takes;
        low = stays_low step here next i takes short way.low;
        before = subst (λ (l : List Step). Leads first l next) front (leads_on first here next (take i steps) step way.before takes);
        to = way.to;
        after = subst (λ (j : ℕ). Leads next (drop j steps) way.to) same (subst (λ (x : Simulation). Leads x (drop (suc i) steps) way.to) (one_taken known step here next_of.0 next way.all next_of.1 takes) next_of.2);
      }

pub has_come : (steps : List Step) (i : ℕ) (first here : Simulation) → length steps ≤ i → OnTheWay steps i first here → Leads first steps here
has_come steps i first here over way = subst (λ (l : List Step). Leads first l here) (take_all i steps over) way.before

pub comes_low : (steps : List Step) (i : ℕ) (first here : Simulation) → OnTheWay steps i first here → clock_in here ≤ 2 ^ 64 * length steps
comes_low steps i first here way = let within : i ≤ length steps = way.within in let low : clock_in here ≤ 2 ^ 64 * i = way.low in omega (arith, within, low)

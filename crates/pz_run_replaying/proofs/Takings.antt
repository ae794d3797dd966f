-- Which line is taken at a stage, and to which one stage it leads.
use Rattle.std.proofs.Common.{◌≡◌, ◌<◌, ◌^◌, refl, sym, subst, ap, ◌∙◌, ℕ, List, [], Some, Result, Ok, Err, arith}
use Rattle.std.specs.Prelude.{slice_get}
use Rattle.std.proofs.lemmas.Option.{slice_get_within}
use Rattle.pz_rules.specs.pz_offer.declared.trouble.Trouble.{Trouble}
use Rattle.pz_rules.specs.declared.action.Kind.TheVariants.{Skip}
use Rattle.pz_rules.specs.declared.action.Action.{Action}
use Rattle.pz_rules.specs.declared.action.Action.TheVariants.{Internal}
use Rattle.pz_rules.specs.declared.moment.Moment.{Moment}
use Rattle.pz_rules.specs.declared.moment.Moment.TheVariants.{Actions, Time}
use Rattle.pz_rules.specs.Settings.{Setting}
use Rattle.pz_rules.specs.Configurations.{Config}
use Rattle.pz_rules.specs.Steps.{PassesTo}
use Rattle.pz_rules.specs.Moments.{IsMoment}
use Rattle.pz_rules.specs.Runs.{Standing, whole, stopped, IsChoice}
use Rattle.pz_trace.specs.declared.ending.Ending.{Ending}
use Rattle.pz_trace.specs.Lines.{time_line, action_line, end_line}
use Rattle.pz_run_replaying.specs.Stages.{Stage, unbegun, underway, concluded}
use Rattle.pz_run_replaying.specs.devices.Known.{Known}
use Rattle.pz_run_replaying.specs.devices.Readiness.{Ready, IsEndAt}
use Rattle.pz_run_replaying.specs.devices.Taking.{After, takes_place, fails, Takes, header_taken, action_taken, passing_taken, end_taken, HasFew, IsKept}
use Rattle.pz_run_replaying.proofs.Moments.{MomentAt, some_at, ends_at, one_end}
use Rattle.pz_run_replaying.proofs.Starts.{one_start}

some_is : {A : Type 0} {x y : A} → Some x ≡ Some y → x ≡ y
some_is h = cc

ok_is : {x y : Config} → (let r : Result Config Trouble = Ok x in r) ≡ Ok y → x ≡ y
ok_is h = cc

err_is : {t u : Trouble} → (let r : Result Config Trouble = Err t in r) ≡ Err u → t ≡ u
err_is h = cc

ok_err : {x : Config} {t : Trouble} → (let r : Result Config Trouble = Ok x in r) ≡ Err t → ⊥
ok_err h = cc

-- At a moment, one of these lines is taken.
pub data TakenAt (setting : Setting) (c : Config) (standing : Standing) (line : List ℕ) (to : Stage) : Moment → Type 0 where
  an_offer : (n k : ℕ) (a : Action) (next : Config) (left : Standing) → IsChoice setting c n k a → After setting c a next left
      → line ≡ action_line setting.model c.clock n k a → to ≡ underway next left → TakenAt setting c standing line to (Actions n)
  a_passing : (d : ℕ) (next : Config) → PassesTo setting c d next → line ≡ time_line c.clock d → to ≡ underway next whole → TakenAt setting c standing line to (Time d)
  an_end : (m : Moment) (e : Ending) → IsEndAt m e → line ≡ end_line setting.model c.clock e → to ≡ concluded c standing e → TakenAt setting c standing line to m

pub taken_at : Known → (setting : Setting) (c : Config) (standing : Standing) (line : List ℕ) (to : Stage) (m : Moment)
    → MomentAt setting c standing m → Takes setting (underway c standing) line to → TakenAt setting c standing line to m
taken_at known setting c _ _ _ m at (action_taken _ next left n k a is choice after) =
    subst (TakenAt setting c whole (action_line setting.model c.clock n k a) (underway next left)) (known.one_moment setting c (Actions n) m is at) (an_offer n k a next left choice after refl refl)
taken_at known setting c _ _ _ m at (passing_taken _ next d is passes) =
    subst (TakenAt setting c whole (time_line c.clock d) (underway next whole)) (known.one_moment setting c (Time d) m is at) (a_passing d next passes refl refl)
taken_at known setting c standing _ _ m at (end_taken _ _ e so) = an_end m e (ends_at known.one_moment_of setting c standing m e at so) refl refl

-- the offer of a number

pub offer_within : (setting : Setting) (c : Config) (n k : ℕ) (a : Action) → IsChoice setting c n k a → k < n
offer_within setting c n k a choice = omega (arith, choice.count, slice_get_within choice.offers k a choice.chosen)

pub one_offer : Known → (setting : Setting) (c : Config) (n m k l : ℕ) (a b : Action) → k ≡ l → IsChoice setting c n k a → IsChoice setting c m l b → a ≡ b
one_offer known setting c n m k l a b same x y =
    some_is (sym x.chosen ∙ ap (λ (i : ℕ). slice_get x.offers i) same ∙ ap (λ (os : List Action). slice_get os l) (known.one_list setting c x.offers y.offers x.all y.all) ∙ y.chosen)

pub record SameAfter (c d : Config) (x y : Standing) : Type 0 where
  pub config : c ≡ d
  pub standing : x ≡ y

pub one_after : Known → (setting : Setting) (c : Config) (a : Action) (next next' : Config) (left left' : Standing) → After setting c a next left → After setting c a next' left' → SameAfter next next' left left'
one_after known setting c a _ _ _ _ (takes_place next to) (takes_place next' to') = record { config = ok_is (known.one_next setting c a (Ok next) (Ok next') to to'); standing = refl }
one_after known setting c a _ _ _ _ (takes_place next to) (fails t to') = absurd (ok_err (known.one_next setting c a (Ok next) (Err t) to to'))
one_after known setting c a _ _ _ _ (fails t to) (takes_place next to') = absurd (ok_err (known.one_next setting c a (Ok next) (Err t) to' to))
one_after known setting c a _ _ _ _ (fails t to) (fails u to') = record { config = refl; standing = ap stopped (err_is (known.one_next setting c a (Err t) (Err u) to to')) }

module _ (known : Known) (setting : Setting) (c : Config) (standing : Standing) (ready : Ready setting c standing) (line : List ℕ) where
  -- two lines that are taken and read alike are one
  same_taken : (line' : List ℕ) (to to' : Stage) (m : Moment) → line ≡ line' → ((n : ℕ) → m ≡ Actions n → n < 2 ^ 64) → TakenAt setting c standing line to m → TakenAt setting c standing line' to' m → to ≡ to'
  same_taken line' to to' _ e few (an_offer n k a next left choice after is leads) (an_offer _ k' a' next' left' choice' after' is' leads') =
      let small : n < 2 ^ 64 = few n refl in
      let number : k ≡ k' = known.actions_differ setting.model c.clock n k k' a a'
      (omega (arith, small, offer_within setting c n k a choice)) (omega (arith, small, offer_within setting c n k' a' choice')) (sym is ∙ e ∙ is') in
      let action : a ≡ a' = one_offer known setting c n n k k' a a' number choice choice' in
      let same = one_after known setting c a' next next' left left' (subst (λ (b : Action). After setting c b next left) action after) after' in
      leads ∙ ap (λ (d : Config). underway d left) same.config ∙ ap (λ (s : Standing). underway next' s) same.standing ∙ sym leads'
  same_taken line' to to' _ e few (an_offer n k a next left choice after is leads) (an_end _ f ends' is' leads') =
      absurd (known.stop_acting setting.model c.clock n k a (sym is ∙ e ∙ is' ∙ ap (λ (x : Ending). end_line setting.model c.clock x) ends'))
  same_taken line' to to' _ e few (a_passing d next passes is leads) (a_passing _ next' passes' is' leads') =
      leads ∙ ap (λ (x : Config). underway x whole) (known.one_passing setting c d next next' ready.all passes passes') ∙ sym leads'
  same_taken line' to to' _ e few (a_passing d next passes is leads) (an_end _ f ends' is' leads') =
      absurd (known.stop_passing setting.model c.clock d (sym is ∙ e ∙ is' ∙ ap (λ (x : Ending). end_line setting.model c.clock x) ends'))
  same_taken line' to to' _ e few (an_end _ f so is leads) (an_offer n k a next left choice after is' leads') =
      absurd (known.stop_acting setting.model c.clock n k a (sym is' ∙ sym e ∙ is ∙ ap (λ (x : Ending). end_line setting.model c.clock x) so))
  same_taken line' to to' _ e few (an_end _ f so is leads) (a_passing d next passes is' leads') =
      absurd (known.stop_passing setting.model c.clock d (sym is' ∙ sym e ∙ is ∙ ap (λ (x : Ending). end_line setting.model c.clock x) so))
  same_taken line' to to' _ e few (an_end m f so is leads) (an_end _ f' so' is' leads') =
      leads ∙ ap (λ (x : Ending). concluded c standing x) (one_end m f f' so so') ∙ sym leads'

few_at : (setting : Setting) (c : Config) (standing : Standing) (m : Moment) → MomentAt setting c standing m → HasFew setting (underway c standing) → (n : ℕ) → m ≡ Actions n → n < 2 ^ 64
few_at setting c whole m at few n e = few n (subst (IsMoment setting c) e at)
few_at setting c (stopped t) m at few n e = cc

-- where offers are few, a line leads to one stage
pub one_taken : Known → (setting : Setting) (s t u : Stage) (line line' : List ℕ) → IsKept setting s → HasFew setting s → line ≡ line' → Takes setting s line t → Takes setting s line' u → t ≡ u
one_taken known setting unbegun _ _ _ _ kept few e (header_taken start is) (header_taken start' is') = ap (λ (c : Config). underway c whole) (one_start setting start start' is is')
one_taken known setting (underway c standing) t u line line' kept few e x y =
    let m = some_at known.some_moment setting c standing kept.wires in
    same_taken known setting c standing kept line line' t u m.0 e (few_at setting c standing m.0 m.1 few)
    (taken_at known setting c standing line t m.0 m.1 x) (taken_at known setting c standing line' u m.0 m.1 y)
one_taken known setting (concluded c standing f) t u line line' kept few e x y = elim x [ ]

-- What a run of a sound model keeps

some_action : Action
some_action = Internal (record { process = 0; place = [] }) Skip (record { line = 0; column = 0 })

kept_after : Known → (setting : Setting) (c next : Config) (left : Standing) (a : Action) → Ready setting c whole → After setting c a next left → Ready setting next left
kept_after known setting c _ _ a ready (takes_place next to) = record {
  sound = ready.sound;
  wires = ready.wires;
  all = (known.stays_whole setting c next a 0 ready.all).0 to;
  fit = (known.stays_fit setting c next a 0 ready.sound ready.all ready.fit).0 to;
  failed = tt;
}
kept_after known setting c _ _ a ready (fails t to) = record { sound = ready.sound; wires = ready.wires; all = ready.all; fit = ready.fit; failed = (a, to) }

pub kept_taken : Known → (setting : Setting) (s t : Stage) (line : List ℕ) → IsKept setting s → Takes setting s line t → IsKept setting t
kept_taken known setting _ _ _ kept (header_taken start is) =
    let fits = known.start_fits setting start kept.0 is in
    record { sound = kept.0; wires = kept.1; all = fits.0; fit = fits.1; failed = tt }
kept_taken known setting _ _ _ kept (action_taken c next left n k a is choice after) = kept_after known setting c next left a kept after
kept_taken known setting _ _ _ kept (passing_taken c next d is passes) = record {
  sound = kept.sound;
  wires = kept.wires;
  all = (known.stays_whole setting c next some_action d kept.all).1 passes;
  fit = (known.stays_fit setting c next some_action d kept.sound kept.all kept.fit).1 passes;
  failed = tt;
}
kept_taken known setting _ _ _ kept (end_taken c standing e so) = kept

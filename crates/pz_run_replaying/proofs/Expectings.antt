-- The rules have one line, at most, in the place of one that is refused.
use Rattle.std.proofs.Common.{◌≡◌, ◌≢◌, ◌<◌, ◌≤◌, ◌⊎◌, inl, inr, refl, sym, subst, ap, ◌∙◌, ℕ, suc, List, [], ◌++◌, length, Option, Some, None, arith, length-append}
use Rattle.std.specs.List.{concat}
use Rattle.std.proofs.lemmas.List.{append-nil}
use Rattle.pz_rules.specs.pz_syntax.ModelForm.{Each}
use Rattle.pz_rules.specs.declared.action.Action.{Action}
use Rattle.pz_rules.specs.declared.moment.Moment.{Moment}
use Rattle.pz_rules.specs.declared.moment.Moment.TheVariants.{Actions, Time}
use Rattle.pz_rules.specs.Settings.{Setting}
use Rattle.pz_rules.specs.Configurations.{Config}
use Rattle.pz_rules.specs.Runs.{Standing, IsChoice}
use Rattle.pz_trace.specs.declared.ending.Ending.{Ending}
use Rattle.pz_trace.specs.declared.ending.Ending.TheVariants.{Stop}
use Rattle.pz_trace.specs.declared.headings.Heading.TheVariants.{Step}
use Rattle.pz_trace.specs.Lines.{time_line, action_line, end_line}
use Rattle.pz_trace.specs.Headings.{IsHeading}
use Rattle.pz_trace.specs.Laws.{IsLine}
use Rattle.pz_term_simulator.specs.Simulations.{Simulation}
use Rattle.pz_run_replaying.specs.declared.replayed.Replayed.{Replayed}
use Rattle.pz_run_replaying.specs.Refusals.{IsRefusedAt}
use Rattle.pz_run_replaying.specs.Stages.{Stage, unbegun, underway, concluded, LeadsTo}
use Rattle.pz_run_replaying.specs.Expected.{NamesOffer, Expects, the_header, the_offer, no_offer, the_passing, the_end, nothing_more}
use Rattle.pz_run_replaying.specs.Replays.{Replays, accepts, refuses, TellsLines, refusal_text}
use Rattle.pz_run_replaying.specs.devices.Known.{Known}
use Rattle.pz_run_replaying.specs.devices.Readiness.{IsEndAt}
use Rattle.pz_run_replaying.specs.devices.Taking.{Follows, IsKept, Differs}
use Rattle.pz_run_replaying.specs.devices.Progress.{Progress}
use Rattle.pz_run_replaying.proofs.Cuts.{goes_on}
use Rattle.pz_run_replaying.proofs.Moments.{MomentAt, some_at, ends_at, one_end}
use Rattle.pz_run_replaying.proofs.Takings.{offer_within, one_offer}
use Rattle.pz_run_replaying.proofs.Roads.{one_road, leads_followed, lines_told}
use Rattle.pz_run_replaying.proofs.Refused.{either_less, no_more, agrees_within, refused_there}

number_is : {c n k c' n' k' : ℕ} → Step c n k ≡ Step c' n' k' → k ≡ k'
number_is h = cc

-- what is left of a trace names one offer
pub one_named : Known → (rest : List ℕ) (k l : ℕ) → NamesOffer rest k → NamesOffer rest l → k ≡ l
one_named known rest k l x y =
    let same = known.one_line x.line y.line x.left y.left x.is_line y.is_line (sym x.begins ∙ y.begins) in
    number_is (known.one_heading y.line (Step x.clock x.n k) (Step y.clock y.n l) (subst (λ (line : List ℕ). IsHeading line (Step x.clock x.n k)) same.same_line x.heading) y.heading)

-- At a moment, one of these lines is expected.
data ExpectedAt (setting : Setting) (rest : List ℕ) (c : Config) (x : Option (List ℕ)) : Moment → Type 0 where
  an_offer : (n k : ℕ) (a : Action) → NamesOffer rest k → IsChoice setting c n k a → x ≡ Some (action_line setting.model c.clock n k a) → ExpectedAt setting rest c x (Actions n)
  none_named : (n : ℕ) → ((k : ℕ) → k < n → NamesOffer rest k → ⊥) → x ≡ None → ExpectedAt setting rest c x (Actions n)
  a_passing : (d : ℕ) → x ≡ Some (time_line c.clock d) → ExpectedAt setting rest c x (Time d)
  an_end : (m : Moment) (e : Ending) → IsEndAt m e → e ≢ Stop → x ≡ Some (end_line setting.model c.clock e) → ExpectedAt setting rest c x m

module _ (known : Known) (setting : Setting) (rest : List ℕ) where
  expected_at : (c : Config) (standing : Standing) (x : Option (List ℕ)) (m : Moment) → MomentAt setting c standing m → Expects setting rest (underway c standing) x → ExpectedAt setting rest c x m
  expected_at c _ _ m at (the_offer _ n k a is named choice) =
      subst (ExpectedAt setting rest c (Some (action_line setting.model c.clock n k a))) (known.one_moment setting c (Actions n) m is at) (an_offer n k a named choice refl)
  expected_at c _ _ m at (no_offer _ n is none) = subst (ExpectedAt setting rest c None) (known.one_moment setting c (Actions n) m is at) (none_named n none refl)
  expected_at c _ _ m at (the_passing _ d is) = subst (ExpectedAt setting rest c (Some (time_line c.clock d))) (known.one_moment setting c (Time d) m is at) (a_passing d refl)
  expected_at c standing _ m at (the_end _ _ e so no_stop) = an_end m e (ends_at known.one_moment_of setting c standing m e at so) no_stop refl

  same_expected : (c : Config) (x y : Option (List ℕ)) (m : Moment) → ExpectedAt setting rest c x m → ExpectedAt setting rest c y m → x ≡ y
  same_expected c x y _ (an_offer n k a named choice is) (an_offer _ l b named' choice' is') =
      let number : k ≡ l = one_named known rest k l named named' in
      let action : a ≡ b = one_offer known setting c n n k l a b number choice choice' in
      is ∙ ap (λ (i : ℕ). Some (action_line setting.model c.clock n i a)) number ∙ ap (λ (z : Action). Some (action_line setting.model c.clock n l z)) action ∙ sym is'
  same_expected c x y _ (an_offer n k a named choice is) (none_named _ none is') = absurd (none k (offer_within setting c n k a choice) named)
  same_expected c x y _ (an_offer n k a named choice is) (an_end _ e so no_stop is') = absurd (no_stop so)
  same_expected c x y _ (none_named n none is) (an_offer _ k a named choice is') = absurd (none k (offer_within setting c n k a choice) named)
  same_expected c x y _ (none_named n none is) (none_named _ none' is') = is ∙ sym is'
  same_expected c x y _ (none_named n none is) (an_end _ e so no_stop is') = absurd (no_stop so)
  same_expected c x y _ (a_passing d is) (a_passing _ is') = is ∙ sym is'
  same_expected c x y _ (a_passing d is) (an_end _ e so no_stop is') = absurd (no_stop so)
  same_expected c x y _ (an_end _ e so no_stop is) (an_offer n k a named choice is') = absurd (no_stop so)
  same_expected c x y _ (an_end _ e so no_stop is) (none_named n none is') = absurd (no_stop so)
  same_expected c x y _ (an_end _ e so no_stop is) (a_passing d is') = absurd (no_stop so)
  same_expected c x y _ (an_end m e so no_stop is) (an_end _ f so' no_stop' is') = is ∙ ap (λ (z : Ending). Some (end_line setting.model c.clock z)) (one_end m e f so so') ∙ sym is'

  pub one_expected : (s : Stage) (x y : Option (List ℕ)) → IsKept setting s → Expects setting rest s x → Expects setting rest s y → x ≡ y
  one_expected unbegun _ _ kept the_header the_header = refl
  one_expected (underway c standing) x y kept one other =
      let m = some_at known.some_moment setting c standing kept.wires in
      same_expected c x y m.0 (expected_at c standing x m.0 m.1 one) (expected_at c standing y m.0 m.1 other)
  one_expected (concluded c standing e) _ _ kept (nothing_more _ _ _) (nothing_more _ _ _) = refl

-- Where a line is refused, each replay says so.
module _ (known : Known) (setting : Setting) (tells : TellsLines setting) (trace : List ℕ) (lines : List (List ℕ)) (stage : Stage) (rest : List ℕ) (x : Progress setting trace lines stage rest)
    (sound : IsKept setting unbegun) (other : Differs setting stage rest) (expected : Option (List ℕ)) (expects : Expects setting rest stage expected) where
  abbrev Refusal : List ℕ
  Refusal = concat lines ++ refusal_text (suc (length lines)) expected

  refused : IsRefusedAt setting trace (suc (length lines))
  refused = refused_there known setting tells trace lines stage rest x sound other

  as_many : (others : List (List ℕ)) → IsRefusedAt setting trace (suc (length others)) → length others ≡ length lines
  as_many others is = by (either_less (length others) (length lines)) (either_less (length lines) (length others))
    where
      by : (length others ≤ length lines) ⊎ (length lines < length others) → (length lines ≤ length others) ⊎ (length others < length lines) → length others ≡ length lines
      by (inl one) (inl two) = omega (arith, one, two)
      by (inl one) (inr two) = absurd (is.differs (agrees_within known setting tells trace lines stage rest x (suc (length others)) (omega (arith, two))))
      by (inr one) two = absurd (refused.differs (is.first (suc (length lines)) (omega (arith, one))))

  same_refused : (others : List (List ℕ)) (left : List ℕ) (s : Stage) (y : Option (List ℕ)) → IsRefusedAt setting trace (suc (length others)) → Each IsLine others → trace ≡ concat others ++ left
      → LeadsTo setting others s → Expects setting left s y → concat others ++ refusal_text (suc (length others)) y ≡ Refusal
  same_refused others left s y is are text leads expects' =
      let count = as_many others is in
      let on = goes_on known.one_line lines others rest left (lines_told known setting tells lines stage x.leads) are (sym x.is_trace ∙ text) (omega (arith, count)) in
      let none : on.more ≡ [] = no_more on.more (omega (arith, count, ap (λ (ls : List (List ℕ)). length ls) on.is_more, length-append lines on.more)) in
      let same : others ≡ lines = on.is_more ∙ ap (λ (ls : List (List ℕ)). lines ++ ls) none ∙ append-nil lines in
      let behind : rest ≡ left = on.is_rest ∙ ap (λ (ls : List (List ℕ)). concat ls ++ left) none in
      let way : Follows setting unbegun lines s = subst (λ (ls : List (List ℕ)). Follows setting unbegun ls s) same (leads_followed setting others s leads) in
      let here : stage ≡ s = one_road known setting unbegun stage s lines sound x.path way in
      let there : Expects setting rest stage y = subst (λ (z : Stage). Expects setting rest z y) (sym here) (subst (λ (l : List ℕ). Expects setting l s y) (sym behind) expects') in
      ap (λ (ls : List (List ℕ)). concat ls ++ refusal_text (suc (length ls)) y) same
      ∙ ap (λ (z : Option (List ℕ)). concat lines ++ refusal_text (suc (length lines)) z) (one_expected known setting rest stage y expected x.kept there expects)

  pub any_refusal : (text : List ℕ) (replayed : Replayed) (last : Simulation) → Replays setting trace text replayed last → text ≡ Refusal
  any_refusal _ _ _ (accepts run) = absurd (refused.no_run run)
  any_refusal _ _ _ (refuses others left s y last is are text leads expects' at) = same_refused others left s y is are text leads expects'

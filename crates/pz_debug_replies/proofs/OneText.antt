-- A session goes on in one way.
use Rattle.std.proofs.Common.{◌≡◌, refl, sym, ap, subst, ◌∙◌, ℕ, true, false, List, [], ◌∷◌, ◌++◌, Option}
use Rattle.pz_rules.specs.declared.action.Action.{Action}
use Rattle.pz_rules.specs.declared.moment.Moment.{Moment}
use Rattle.pz_rules.specs.declared.moment.Moment.TheVariants.{Actions, Time}
use Rattle.pz_rules.specs.Settings.{Setting}
use Rattle.pz_trace.specs.Lines.{action_line, time_line}
use Rattle.pz_term_simulator.specs.Simulations.{Simulation, IsMomentOf, IsOffer, clock_in}
use Rattle.pz_term_simulator.specs.Refusals.{NoActions, NoTime}
use Rattle.pz_term_simulator.specs.Laws.{OneMomentOf, OneOfferOf}
use Rattle.pz_debug_session.specs.declared.step.Step.{Step}
use Rattle.pz_debug_session.specs.declared.step.Step.TheVariants.{Pick, Pass}
use Rattle.pz_debug_session.specs.Steps.{StandsAfter}
use Rattle.pz_debug_session.specs.Laws.{OnePlace}
use Rattle.pz_debug_replies.specs.Advancing.{is_wanted, Advances, used_up, held, passes, acts, found}

false_true : false ≡ true → ⊥
false_true e = cc

pub time_is : {d e : ℕ} → Time d ≡ Time e → d ≡ e
time_is same = cc

pub count_is : {n k : ℕ} → Actions n ≡ Actions k → n ≡ k
count_is same = cc

pub never_both : {n d : ℕ} → Actions n ≡ Time d → ⊥
never_both same = cc

module _ (place : OnePlace) (moments : OneMomentOf) (offer : OneOfferOf) (setting : Setting) (wanted : Option (List ℕ)) where
  one_moment : (xs : List Step) (s t : Simulation) (m n : Moment) → StandsAfter setting xs s → StandsAfter setting xs t → IsMomentOf s m → IsMomentOf t n → m ≡ n
  one_moment xs s t m n at other is are = moments s m n is (subst (λ (u : Simulation). IsMomentOf u n) (sym (place setting xs s t at other)) are)

  one_clock : (xs : List Step) (s t : Simulation) → StandsAfter setting xs s → StandsAfter setting xs t → clock_in s ≡ clock_in t
  one_clock xs s t at other = ap clock_in (place setting xs s t at other)

  one_offer : (xs : List Step) (s t : Simulation) (a b : Action) → StandsAfter setting xs s → StandsAfter setting xs t → IsOffer s 0 a → IsOffer t 0 b → a ≡ b
  one_offer xs s t a b at other is are = offer s 0 a b is (subst (λ (u : Simulation). IsOffer u 0 b) (sym (place setting xs s t at other)) are)

  no_time : (m : Moment) (d : ℕ) → NoTime m → m ≡ Time d → ⊥
  no_time m d none e = subst NoTime e none

  no_actions : (m : Moment) (n : ℕ) → NoActions m → m ≡ Actions n → ⊥
  no_actions m n none e = subst NoActions e none

  one_line : (k l : ℕ) (a b : Action) (c e : ℕ) → c ≡ e → k ≡ l → a ≡ b → action_line setting.model c k 0 a ≡ action_line setting.model e l 0 b
  one_line k l a b c e clocks counts actions =
      ap (λ (x : ℕ). action_line setting.model x k 0 a) clocks ∙ ap (λ (x : ℕ). action_line setting.model e x 0 a) counts ∙ ap (λ (x : Action). action_line setting.model e l 0 x) actions

  pub one_advance : (n : ℕ) (xs ys zs : List Step) (text other : List ℕ) → Advances setting wanted n xs text ys → Advances setting wanted n xs other zs → (text ≡ other) × (ys ≡ zs)
  one_advance _ _ _ _ _ _ (used_up xs) (used_up _) = (refl, refl)
  one_advance _ _ _ _ _ _ (held n xs s m at is none nor) (held _ _ t o also are none' nor') = (refl, refl)
  one_advance _ _ _ _ _ _ (held n xs s m at is none nor) (passes _ d _ zs other t also are rest) = absurd (no_time m d nor (one_moment xs s t m (Time d) at also is are))
  one_advance _ _ _ _ _ _ (held n xs s m at is none nor) (acts _ k a _ zs other t also are offered free rest) = absurd (no_actions m k none (one_moment xs s t m (Actions k) at also is are))
  one_advance _ _ _ _ _ _ (held n xs s m at is none nor) (found _ k a _ t also are offered same) = absurd (no_actions m k none (one_moment xs s t m (Actions k) at also is are))
  one_advance _ _ _ _ _ _ (passes n d xs ys text s at is rest) (held _ _ t o also are none nor) = absurd (no_time o d nor (one_moment xs t s o (Time d) also at are is))
  one_advance _ _ _ _ _ _ (passes n d xs ys text s at is rest) (passes _ e _ zs other t also are more) =
      let time : d ≡ e = time_is (one_moment xs s t (Time d) (Time e) at also is are) in
      let further = one_advance n (xs ++ Pass ∷ []) ys zs text other rest more in
      (ap (λ (x : ℕ). time_line x d ++ text) (one_clock xs s t at also) ∙ ap (λ (x : ℕ). time_line (clock_in t) x ++ text) time ∙ ap (λ (x : List ℕ). time_line (clock_in t) e ++ x) further.0, further.1)
  one_advance _ _ _ _ _ _ (passes n d xs ys text s at is rest) (acts _ k a _ zs other t also are offered free more) = absurd (never_both (one_moment xs t s (Actions k) (Time d) also at are is))
  one_advance _ _ _ _ _ _ (passes n d xs ys text s at is rest) (found _ k a _ t also are offered same) = absurd (never_both (one_moment xs t s (Actions k) (Time d) also at are is))
  one_advance _ _ _ _ _ _ (acts n k a xs ys text s at is offered free rest) (held _ _ t o also are none nor) = absurd (no_actions o k none (one_moment xs t s o (Actions k) also at are is))
  one_advance _ _ _ _ _ _ (acts n k a xs ys text s at is offered free rest) (passes _ d _ zs other t also are more) = absurd (never_both (one_moment xs s t (Actions k) (Time d) at also is are))
  one_advance _ _ _ _ _ _ (acts n k a xs ys text s at is offered free rest) (acts _ l b _ zs other t also are offers loose more) =
      let counts : k ≡ l = count_is (one_moment xs s t (Actions k) (Actions l) at also is are) in
      let lines = one_line k l a b (clock_in s) (clock_in t) (one_clock xs s t at also) counts (one_offer xs s t a b at also offered offers) in
      let further = one_advance n (xs ++ Pick 0 ∷ []) ys zs text other rest more in
      (ap (λ (x : List ℕ). x ++ text) lines ∙ ap (λ (x : List ℕ). action_line setting.model (clock_in t) l 0 b ++ x) further.0, further.1)
  one_advance _ _ _ _ _ _ (acts n k a xs ys text s at is offered free rest) (found _ l b _ t also are offers same) =
      absurd (false_true (sym free ∙ ap (is_wanted wanted) (one_offer xs s t a b at also offered offers) ∙ same))
  one_advance _ _ _ _ _ _ (found n k a xs s at is offered same) (held _ _ t o also are none nor) = absurd (no_actions o k none (one_moment xs t s o (Actions k) also at are is))
  one_advance _ _ _ _ _ _ (found n k a xs s at is offered same) (passes _ d _ zs other t also are more) = absurd (never_both (one_moment xs s t (Actions k) (Time d) at also is are))
  one_advance _ _ _ _ _ _ (found n k a xs s at is offered same) (acts _ l b _ zs other t also are offers free more) =
      absurd (false_true (sym free ∙ ap (is_wanted wanted) (one_offer xs t s b a also at offers offered) ∙ same))
  one_advance _ _ _ _ _ _ (found n k a xs s at is offered same) (found _ l b _ t also are offers alike) =
      let counts : k ≡ l = count_is (one_moment xs s t (Actions k) (Actions l) at also is are) in
      (one_line k l a b (clock_in s) (clock_in t) (one_clock xs s t at also) counts (one_offer xs s t a b at also offered offers), refl)

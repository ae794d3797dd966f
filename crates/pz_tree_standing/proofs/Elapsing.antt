-- As time passes the same frames stand.
use Rattle.std.proofs.Common.{◌≡◌, ℕ, ◌∷◌, ◌++◌, refl, ap, ◌∙◌}
use Rattle.pz_rules.specs.pz_state.States.{StateView}
use Rattle.pz_rules.specs.Terms.{Term, Terms, frames_in, frames_in_all}
use Rattle.pz_rules.specs.Settings.{Context}
use Rattle.pz_rules.specs.Delays as delays
use Rattle.pz_rules.specs.Delays.{Passes, PassesAll}
use Rattle.pz_tree_standing.specs.FrameCounts.{count_in}
use Rattle.pz_tree_standing.specs.Frames.{FramesStand}

module _ (a : Context) (d : ℕ) where
  mutual
    frames_stay : (f : ℕ) (t u : Term) → Passes a d f t u → frames_in u ≡ frames_in t
    frames_stay f _ _ (delays.is_done _) = refl
    frames_stay f _ _ (delays.stays _ s timeless) = refl
    frames_stay f _ _ (delays.begins _ at e left lasts) = refl
    frames_stay f _ _ (delays.goes_on _ left at) = refl
    frames_stay f _ _ (delays.in_sequence _ t x rest passes) = frames_stay f t x passes
    frames_stay f _ _ (delays.in_parallel _ ts xs passes) = all_stay f ts xs passes
    frames_stay f _ _ (delays.in_select _ ts xs passes) = all_stay f ts xs passes
    frames_stay f _ _ (delays.behind_true _ test at t x tests passes) = frames_stay f t x passes
    frames_stay f _ _ (delays.behind_false _ test at t tests) = refl
    frames_stay f _ _ (delays.in_frame _ number inputs results t x passes) = ap (λ l. number ∷ l) (frames_stay number t x passes)
    frames_stay f _ _ (delays.in_abort _ t x u y first second) = λ i. frames_stay f t x first i ++ frames_stay f u y second i
    frames_stay f _ _ (delays.in_idle _ t x u y again first second) = λ i. frames_stay f t x first i ++ frames_stay f u y second i
    frames_stay f _ _ (delays.in_handling _ t u y again passes) = ap (λ l. frames_in t ++ l) (frames_stay f u y passes)

    all_stay : (f : ℕ) (ts us : Terms) → PassesAll a d f ts us → frames_in_all us ≡ frames_in_all ts
    all_stay f _ _ (delays.none _) = refl
    all_stay f _ _ (delays.both _ t x ts xs passes others) = λ i. frames_stay f t x passes i ++ all_stay f ts xs others i

pub as_time_passes : (a : Context) (d f : ℕ) (t u : Term) (s : StateView) → Passes a d f t u → FramesStand t s → FramesStand u s
as_time_passes a d f t u s passes stand n = ap (count_in n) (frames_stay a d f t u passes) ∙ stand n

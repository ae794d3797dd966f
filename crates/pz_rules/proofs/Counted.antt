-- A moment with actions counts the offers.
use Rattle.std.proofs.Common.{◌≡◌, ℕ, length, refl, sym, arith}
use Rattle.pz_offer.specs.declared.trouble.Trouble.{Trouble}
use Rattle.pz_rules.specs.declared.moment.Moment.{Moment}
use Rattle.pz_rules.specs.declared.moment.Moment.TheVariants.{Actions, Time, Finished, Deadlock, Faulty, Stopped}
use Rattle.pz_rules.specs.Settings.{Setting}
use Rattle.pz_rules.specs.Configurations.{Config}
use Rattle.pz_rules.specs.Moments.{Candidate, high, faulty, acting, passing, finished, deadlock}
use Rattle.pz_rules.specs.Laws.{HasOffers, MomentsCountOffers}

count_is : {n m : ℕ} → Actions n ≡ Actions m → n ≡ m
count_is h = cc

stopped_acts : {t : Trouble} {n : ℕ} → Stopped t ≡ Actions n → ⊥
stopped_acts h = cc

faulty_acts : {t : Trouble} {n : ℕ} → Faulty t ≡ Actions n → ⊥
faulty_acts h = cc

time_acts : {d n : ℕ} → Time d ≡ Actions n → ⊥
time_acts h = cc

finished_acts : {n : ℕ} → Finished ≡ Actions n → ⊥
finished_acts h = cc

deadlock_acts : {n : ℕ} → Deadlock ≡ Actions n → ⊥
deadlock_acts h = cc

counted_by : (setting : Setting) (c : Config) (m : Moment) (n : ℕ) → m ≡ Actions n → Candidate setting c m → HasOffers setting c n
counted_by setting c _ n e (acting offers are some) = let count : n ≡ length offers = sym (count_is e) in record { offers = offers; all = are; count = count; some = omega (arith, some, count) }
counted_by setting c _ n e (high trouble first) = absurd (stopped_acts e)
counted_by setting c _ n e (faulty trouble least) = absurd (faulty_acts e)
counted_by setting c _ n e (passing d least) = absurd (time_acts e)
counted_by setting c _ n e (finished all) = absurd (finished_acts e)
counted_by setting c _ n e deadlock = absurd (deadlock_acts e)

pub moments_count : MomentsCountOffers
moments_count setting c n is = counted_by setting c (Actions n) n refl is.applies

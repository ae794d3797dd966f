-- The answers of `choose` and `pass` other than Ok, by cases.
use Rattle.std.specs.Prelude.{ℕ}
use Rattle.pz_rules.specs.declared.moment.Moment.{Moment}
use Rattle.pz_rules.specs.declared.moment.Moment.TheVariants.{Actions, Time}
use Rattle.pz_term_simulator.specs.declared.refusal.ChooseError.{ChooseError}
use Rattle.pz_term_simulator.specs.declared.refusal.ChooseError.TheVariants as choose
use Rattle.pz_term_simulator.specs.declared.refusal.PassError.{PassError}
use Rattle.pz_term_simulator.specs.declared.refusal.PassError.TheVariants as pass

abbrev pub OnNoSuchOffer : (ℕ → Type 0) → ChooseError → Type 0
OnNoSuchOffer P (choose.NoSuchOffer offers) = P offers
OnNoSuchOffer P e = Unit {0}

abbrev pub OnChooseNotNow : (Moment → Type 0) → ChooseError → Type 0
OnChooseNotNow P (choose.NotNow m) = P m
OnChooseNotNow P e = Unit {0}

-- any answer but want of memory
abbrev pub OnChooseRefused : Type 0 → ChooseError → Type 0
OnChooseRefused P choose.NoMemory = Unit {0}
OnChooseRefused P e = P

abbrev pub OnChooseNoMemory : Type 0 → ChooseError → Type 0
OnChooseNoMemory P choose.NoMemory = P
OnChooseNoMemory P e = Unit {0}

abbrev pub OnPassNotNow : (Moment → Type 0) → PassError → Type 0
OnPassNotNow P pass.NoMemory = Unit {0}
OnPassNotNow P (pass.NotNow m) = P m

abbrev pub OnPassRefused : Type 0 → PassError → Type 0
OnPassRefused P pass.NoMemory = Unit {0}
OnPassRefused P (pass.NotNow m) = P

abbrev pub OnPassNoMemory : Type 0 → PassError → Type 0
OnPassNoMemory P pass.NoMemory = P
OnPassNoMemory P (pass.NotNow m) = Unit {0}

-- the moment is another
abbrev pub NoActions : Moment → Type 0
NoActions (Actions n) = ⊥
NoActions m = Unit {0}

abbrev pub NoTime : Moment → Type 0
NoTime (Time d) = ⊥
NoTime m = Unit {0}

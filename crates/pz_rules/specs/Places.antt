-- Where a part of a term may act.
use Rattle.std.specs.Prelude.{◌≡◌, ◌<◌, ℕ, [], ◌∷◌}
use Rattle.pz_offer.specs.PlaceOrder.{Place}
use Rattle.pz_rules.specs.Terms.{Term, sequence, parallel, select, guarded, frame, abort, idle, handling, count, child}

-- the child of this number may act: it is there, and it is not what is interrupted
abbrev pub MayActIn : Term → ℕ → Type 0
MayActIn (sequence t rest) i = i ≡ 0
MayActIn (parallel ts) i = i < count ts
MayActIn (select ts) i = i < count ts
MayActIn (guarded test at t) i = i ≡ 0
MayActIn (frame number inputs results t) i = i ≡ 0
MayActIn (abort t u) i = i < 2
MayActIn (idle t u again) i = i < 2
MayActIn (handling t u again) i = i ≡ 1
MayActIn _ i = ⊥

-- and so on, from the term to the part at this place
abbrev pub MayAct : Term → Place → Type 0
MayAct t [] = Unit {0}
MayAct t (i ∷ place) = MayActIn t i × MayAct (child t i) place

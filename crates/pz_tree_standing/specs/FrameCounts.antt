-- How often frames stand in a term, which stand no longer after an action, and which open.
use Rattle.std.specs.Prelude.{ℕ, zero, suc, ◌+◌, Bool, true, false, eqb, if◌then◌else◌, List, [], ◌∷◌, ◌++◌}
use Rattle.pz_rules.specs.pz_classes_code.declared.slot.Slot.{Slot}
use Rattle.pz_rules.specs.pz_offer.PlaceOrder.{Place}
use Rattle.pz_rules.specs.pz_state.States.{StateView}
use Rattle.pz_rules.specs.Terms.{Term, done, sequence, select, frame, abort, idle, handling, frames_in, frames_in_all, child, frame_in}
use Rattle.pz_rules.specs.Settings.{Process, Home}
use Rattle.pz_rules.specs.Opening.{opened, opened_all}
use Rattle.pz_rules.specs.Leaving.{replaced, is_done, residual}

abbrev pub count_in : ℕ → List ℕ → ℕ
count_in n [] = 0
count_in n (m ∷ ms) = (if eqb n m then 1 else 0) + count_in n ms

-- how often this frame stands in a term
abbrev pub times : ℕ → Term → ℕ
times n t = count_in n (frames_in t)

abbrev pub if_done : Term → List ℕ → List ℕ
if_done x ns = if is_done x then ns else []

-- whether a frame without outputs, round this, is replaced by it
abbrev pub gives_way : List Slot → Term → Bool
gives_way [] (frame number inputs [] t) = true
gives_way results x = false

-- what stands no longer, on this level, once child i has become x
abbrev pub lost : Term → ℕ → Term → List ℕ
lost (select ts) i x = frames_in_all (replaced ts i done)
lost (frame number inputs results t) i x = if is_done x then number ∷ [] else (if gives_way results x then number ∷ [] else [])
lost (abort t u) zero x = if_done x (frames_in u)
lost (abort t u) (suc i) x = frames_in t
lost (idle t u again) zero x = if_done x (frames_in u)
lost t i x = []

-- all frames that stand no longer once the part at the place has become this
abbrev pub lost_all : Home → ℕ → Term → Place → Process → List ℕ
lost_all h f t [] x = []
lost_all h f t (i ∷ place) x = lost_all h (frame_in t f) (child t i) place x ++ lost t i (residual h (frame_in t f) (child t i) place x).term

-- what opens, on this level and in this state, once child i has become x: the statements behind what is
-- done, and a second part that is done and stands afresh
abbrev pub gained : Home → StateView → Term → ℕ → Term → List ℕ
gained h s (sequence t rest) i x = if_done x (frames_in (opened_all h rest s).term)
gained h s (idle t u again) (suc i) x = if_done x (frames_in (opened h again s).term)
gained h s (handling t u again) i x = if_done x (frames_in (opened h again s).term)
gained h s t i x = []

-- all frames that open once the part at the place has become this
abbrev pub gained_all : Home → ℕ → Term → Place → Process → List ℕ
gained_all h f t [] x = []
gained_all h f t (i ∷ place) x =
    let inner = residual h (frame_in t f) (child t i) place x in
    gained_all h (frame_in t f) (child t i) place x ++ gained h inner.state t i inner.term

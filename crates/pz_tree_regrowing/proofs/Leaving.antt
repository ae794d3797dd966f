-- What is around a part that is done, or is not.
use Rattle.std.proofs.Common.{◌≡◌, ℕ, Bool, true, false, List, [], ◌∷◌, refl, ap, sym}
use Rattle.std.specs.Prelude.{if◌then◌else◌}
use Rattle.pz_classes_code.specs.declared.slot.Slot.{Slot}
use Rattle.pz_rules.specs.pz_state.States.{StateView}
use Rattle.pz_rules.specs.pz_state.Marks.{Seen, changed}
use Rattle.pz_term_around.specs.pz_part_opening.Bare.{is_bare}
use Rattle.pz_rules.specs.Terms.{Step, Steps, Term, done, leaf, wait, sequence, parallel, select, guarded, frame, abort, idle, handling, Terms}
use Rattle.pz_rules.specs.Settings.{Process, left_by, Home}
use Rattle.pz_rules.specs.Framing.{framed}
use Rattle.pz_rules.specs.Leaving.{is_done, all_done, joined, around, aborted, interrupted, handled}
use Rattle.pz_rules.specs.Becoming.{Became}
use Rattle.pz_tree_nodes.specs.pz_tree_standing.FrameCounts.{gives_way}

-- where the state stays
pub in_place : (p : Process) (t : Term) (s : Seen) → p ≡ left_by s.held t → Became p t s s
in_place p t s is = record { term = sym (ap (λ (q : Process). q.term) is); state = ap (λ (q : Process). changed s q.state) (sym is) }

pub sequence_stays : (h : Home) (f : ℕ) (s : StateView) (t : Term) (rest : Steps) (i : ℕ) (x : Term) → is_done x ≡ false → around h f s (sequence t rest) i x ≡ left_by s (sequence x rest)
sequence_stays h f s t rest i done u = absurd cc
sequence_stays h f s t rest i x u = refl

pub frame_stays : (h : Home) (f : ℕ) (s : StateView) (number inputs : ℕ) (results : List Slot) (t : Term) (i : ℕ) (x : Term) → is_done x ≡ false
    → around h f s (frame number inputs results t) i x ≡ left_by s (framed number inputs results x)
frame_stays h f s number inputs results t i done u = absurd cc
frame_stays h f s number inputs results t i x u = refl

pub aborted_stays : (u x : Term) → is_done x ≡ false → aborted u x ≡ abort x u
aborted_stays u done e = absurd cc
aborted_stays u x e = refl

pub interrupted_stays : (u : Term) (again : Step) (x : Term) → is_done x ≡ false → interrupted u again x ≡ idle x u again
interrupted_stays u again done e = absurd cc
interrupted_stays u again x e = refl

pub handled_stays : (h : Home) (s : StateView) (t : Term) (again : Step) (x : Term) → is_done x ≡ false → handled h s t again x ≡ left_by s (handling t x again)
handled_stays h s t again done e = absurd cc
handled_stays h s t again x e = refl

-- a frame round another

bare_gives : (number inputs : ℕ) (x : Term) → is_bare x ≡ true → (framed number inputs [] x ≡ x) × (gives_way [] x ≡ true)
bare_gives number inputs (frame inner k [] t) e = (refl, refl)
bare_gives number inputs (frame inner k (r ∷ rs) t) e = absurd cc
bare_gives number inputs done e = absurd cc
bare_gives number inputs (leaf s) e = absurd cc
bare_gives number inputs (wait left at) e = absurd cc
bare_gives number inputs (sequence t rest) e = absurd cc
bare_gives number inputs (parallel ts) e = absurd cc
bare_gives number inputs (select ts) e = absurd cc
bare_gives number inputs (guarded test at t) e = absurd cc
bare_gives number inputs (abort s t) e = absurd cc
bare_gives number inputs (idle s t i) e = absurd cc
bare_gives number inputs (handling s t i) e = absurd cc

other_stays : (number inputs : ℕ) (x : Term) → is_bare x ≡ false → (framed number inputs [] x ≡ frame number inputs [] x) × (gives_way [] x ≡ false)
other_stays number inputs (frame inner k [] t) e = absurd cc
other_stays number inputs (frame inner k (r ∷ rs) t) e = (refl, refl)
other_stays number inputs done e = (refl, refl)
other_stays number inputs (leaf s) e = (refl, refl)
other_stays number inputs (wait left at) e = (refl, refl)
other_stays number inputs (sequence t rest) e = (refl, refl)
other_stays number inputs (parallel ts) e = (refl, refl)
other_stays number inputs (select ts) e = (refl, refl)
other_stays number inputs (guarded test at t) e = (refl, refl)
other_stays number inputs (abort s t) e = (refl, refl)
other_stays number inputs (idle s t i) e = (refl, refl)
other_stays number inputs (handling s t i) e = (refl, refl)

abbrev is_none : List Slot → Bool
is_none [] = true
is_none (r ∷ rs) = false

pub frame_gives : (number inputs : ℕ) (results : List Slot) (x : Term) → results ≡ [] → is_bare x ≡ true → (framed number inputs results x ≡ x) × (gives_way results x ≡ true)
frame_gives number inputs [] x n e = bare_gives number inputs x e
frame_gives number inputs (r ∷ rs) x n e = absurd cc

pub frame_keeps : (number inputs : ℕ) (results : List Slot) (x : Term) → (is_bare x ≡ true → results ≡ [] → ⊥) → (framed number inputs results x ≡ frame number inputs results x) × (gives_way results x ≡ false)
frame_keeps number inputs (r ∷ rs) x n = (refl, refl)
frame_keeps number inputs [] x n = other_stays number inputs x (never (is_bare x) (λ e. n e refl))
  where
    never : (b : Bool) → (b ≡ true → ⊥) → b ≡ false
    never true g = absurd (g refl)
    never false g = refl

-- ------------------------------------------------------------ parts side by side

pub joined_done : (ts : Terms) → all_done ts ≡ true → joined ts ≡ done
joined_done ts e = ap (λ b. if b then done else parallel ts) e

pub joined_stays : (ts : Terms) → all_done ts ≡ false → joined ts ≡ parallel ts
joined_stays ts e = ap (λ b. if b then done else parallel ts) e

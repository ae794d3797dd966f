-- Active delays that have not begun are short, each and all.
use Rattle.std.proofs.Common.{◌≡◌, ◌<◌, ◌^◌, ℕ, zero, suc, Bool, true, false, List, [], ◌∷◌, ◌++◌, map, Option, Some, Result, Ok, refl, sym, subst, ap, arith}
use Rattle.pz_classes_code.specs.pz_syntax.declared.tokens.Pos.{Pos}
use Rattle.pz_rules.specs.pz_offer.PlaceOrder.{Place}
use Rattle.pz_rules.specs.pz_offer.declared.trouble.Trouble.{Trouble}
use Rattle.pz_rules.specs.Terms.{Term, done, leaf, wait, sequence, parallel, select, guarded, frame, abort, idle, handling, Terms, no_terms, and, term_at, count, child, frame_in}
use Rattle.pz_rules.specs.Settings.{Context}
use Rattle.pz_rules.specs.Active.{Reached, Active, here, inside}
use Rattle.pz_rules.specs.Delays.{Delays, not_begun, begun}
use Rattle.pz_rules.specs.devices.Found.{tested}
use Rattle.pz_rules.specs.devices.Computed.{TestsAreComputed, TimesAreComputed}
use Rattle.pz_rules.specs.devices.Walk.{ActivePart, under, behind, active_parts, active_children, waiting, answered}
use Rattle.pz_term_enabled.specs.devices.Walked.{has_begun, IsFew, BeginsShort, AllBeginShort}

module _ (a : Context) where
  pub begin_both : (ps qs : List ActivePart) → AllBeginShort a ps → AllBeginShort a qs → AllBeginShort a (ps ++ qs)
  begin_both [] qs h k = k
  begin_both (p ∷ ps) qs h k = (h.0, begin_both ps qs h.1 k)

  begin_first : (ps qs : List ActivePart) → AllBeginShort a (ps ++ qs) → AllBeginShort a ps
  begin_first [] qs h = tt
  begin_first (p ∷ ps) qs h = (h.0, begin_first ps qs h.1)

  begin_second : (ps qs : List ActivePart) → AllBeginShort a (ps ++ qs) → AllBeginShort a qs
  begin_second [] qs h = h
  begin_second (p ∷ ps) qs h = begin_second ps qs h.1

  pub begin_under : (i : ℕ) (ps : List ActivePart) → AllBeginShort a ps → AllBeginShort a (map (under i) ps)
  begin_under i [] h = tt
  begin_under i (p ∷ ps) h = (h.0, begin_under i ps h.1)

  begin_inside : (i : ℕ) (ps : List ActivePart) → AllBeginShort a (map (under i) ps) → AllBeginShort a ps
  begin_inside i [] h = tt
  begin_inside i (p ∷ ps) h = (h.0, begin_inside i ps h.1)

  in_children : (f k : ℕ) (ts : Terms) (i : ℕ) → i < count ts → AllBeginShort a (active_children a f k ts) → AllBeginShort a (active_parts a f (term_at ts i))
  in_children f k no_terms i within h = absurd (omega (arith, within))
  in_children f k (and t ts) zero within h = begin_inside k (active_parts a f t) (begin_first (map (under k) (active_parts a f t)) (active_children a f (suc k) ts) h)
  in_children f k (and t ts) (suc i) within h = in_children f (suc k) ts i (omega (arith, within)) (begin_second (map (under k) (active_parts a f t)) (active_children a f (suc k) ts) h)

  in_first : (f : ℕ) (t u : Term) → AllBeginShort a (map (under 0) (active_parts a f t) ++ map (under 1) (active_parts a f u)) → AllBeginShort a (active_parts a f t)
  in_first f t u h = begin_inside 0 (active_parts a f t) (begin_first (map (under 0) (active_parts a f t)) (map (under 1) (active_parts a f u)) h)

  in_second : (f : ℕ) (t u : Term) → AllBeginShort a (map (under 0) (active_parts a f t) ++ map (under 1) (active_parts a f u)) → AllBeginShort a (active_parts a f u)
  in_second f t u h = begin_inside 1 (active_parts a f u) (begin_second (map (under 0) (active_parts a f t)) (map (under 1) (active_parts a f u)) h)

  module _ (tests : TestsAreComputed) where
    in_child : (f : ℕ) (t : Term) (i : ℕ) → Reached a f t i → AllBeginShort a (active_parts a f t) → AllBeginShort a (active_parts a (frame_in t f) (child t i))
    in_child f done i r h = absurd r
    in_child f (leaf s) i r h = absurd r
    in_child f (wait left at) i r h = absurd r
    in_child f (sequence t rest) zero r h = begin_inside 0 (active_parts a f t) h.1
    in_child f (sequence t rest) (suc i) r h = absurd (omega (arith, r))
    in_child f (parallel ts) i r h = in_children f 0 ts i r h.1
    in_child f (select ts) i r h = in_children f 0 ts i r h.1
    in_child f (guarded test at t) zero r h = begin_inside 0 (active_parts a f t)
        (subst (λ (x : Result Bool Trouble). AllBeginShort a (behind x (map (under 0) (active_parts a f t)))) (sym (tests a f at test (Ok true) r.1)) h.1)
    in_child f (guarded test at t) (suc i) r h = let e = r.0 in absurd (omega (arith, e))
    in_child f (frame number inputs results t) zero r h = begin_inside 0 (active_parts a number t) h.1
    in_child f (frame number inputs results t) (suc i) r h = absurd (omega (arith, r))
    in_child f (abort t u) zero r h = in_first f t u h.1
    in_child f (abort t u) (suc zero) r h = in_second f t u h.1
    in_child f (abort t u) (suc (suc i)) r h = absurd (omega (arith, r))
    in_child f (idle t u again) zero r h = in_first f t u h.1
    in_child f (idle t u again) (suc zero) r h = in_second f t u h.1
    in_child f (idle t u again) (suc (suc i)) r h = absurd (omega (arith, r))
    in_child f (handling t u again) zero r h = absurd (omega (arith, r))
    in_child f (handling t u again) (suc zero) r h = begin_inside 1 (active_parts a f u) h.1
    in_child f (handling t u again) (suc (suc i)) r h = absurd (omega (arith, r))

    first_part : (f : ℕ) (t : Term) → AllBeginShort a (active_parts a f t) → BeginsShort a f t
    first_part f done h = h.0
    first_part f (leaf s) h = h.0
    first_part f (wait left at) h = h.0
    first_part f (sequence t rest) h = h.0
    first_part f (parallel ts) h = h.0
    first_part f (select ts) h = h.0
    first_part f (guarded test at t) h = h.0
    first_part f (frame number inputs results t) h = h.0
    first_part f (abort t u) h = h.0
    first_part f (idle t u again) h = h.0
    first_part f (handling t u again) h = h.0

    pub part_begins : (f : ℕ) (t : Term) (place : Place) (g : ℕ) (part : Term) → Active a f t place g part → AllBeginShort a (active_parts a f t) → BeginsShort a g part
    part_begins _ _ _ _ _ (here f t) h = first_part f t h
    part_begins _ _ _ _ _ (inside f t i place g part r x) h = part_begins (frame_in t f) (child t i) place g part x (in_child f t i r h)

pub few_left : TimesAreComputed → (a : Context) (f : ℕ) (t : Term) (left : ℕ) → Delays a f t left → has_begun t ≡ false → IsFew (waiting a f t) → left < 2 ^ 64
few_left times a f _ _ (not_begun at e left lasts) unbegun h = subst (λ (r : Result ℕ Trouble). IsFew (answered r)) (sym (times a f at e (Ok left) lasts)) h
few_left times a f _ _ (begun left at) unbegun h = absurd cc

-- What a call adds that begins with the state and the place of the one before.
use Rattle.std.proofs.Common.{◌≡◌, ◌<◌, ◌+◌, ℕ, true, List, [], ◌++◌, map, take, length, get_or, Result, Ok, OnOk, subst}
use Rattle.std.proofs.lemmas.Result.{on_ok_weaker}
use Rattle.pz_classes_code.specs.pz_syntax.declared.tokens.Pos.{Pos}
use Rattle.pz_rules.specs.pz_state.Marks.{Seen}
use Rattle.pz_rules.specs.pz_offer.PlaceOrder.{Place}
use Rattle.pz_rules.specs.declared.term.Term.{Term}
use Rattle.pz_rules.specs.Terms.{Code, guarded}
use Rattle.pz_rules.specs.Terms as terms
use Rattle.pz_rules.specs.View.{term_view, terms_view}
use Rattle.pz_rules.specs.Settings.{Context}
use Rattle.pz_rules.specs.devices.Found.{tested}
use Rattle.pz_rules.specs.devices.Walk.{under, active_parts, active_children}
use Rattle.pz_term_enabled.specs.declared.found.Found.{Found}
use Rattle.pz_term_enabled.specs.devices.Walked.{IsWalked}
use Rattle.pz_term_enabled.specs.devices.Listings.{Adds}
use Rattle.pz_term_enabled.proofs.Notes.{adds_both}
use Rattle.pz_term_enabled.proofs.Walks.{child_added, guard_open, walked}

module _ (at : Seen → Context) (f : ℕ) where
  pub both_added : {R E : Type 0} (r : Result R E) (s later : Seen) (place there : Place) (first second : terms.Term) (o m n : Found) → later ≡ s → there ≡ place
      → Adds (at s) place (map (under 0) (active_parts (at s) f first)) o m
      → OnOk r (Adds (at later) there (map (under 1) (active_parts (at later) f second)) m n)
      → OnOk r (Adds (at s) place (map (under 0) (active_parts (at s) f first) ++ map (under 1) (active_parts (at s) f second)) o n)
  both_added r s later place there first second o m n same stayed adds more =
      on_ok_weaker r (adds_both (at s) place (map (under 0) (active_parts (at s) f first)) (map (under 1) (active_parts (at s) f second)) o m n adds)
      (subst (λ (p : Place). OnOk r (Adds (at s) p (map (under 1) (active_parts (at s) f second)) m n)) stayed
      (subst (λ (x : Seen). OnOk r (Adds (at x) there (map (under 1) (active_parts (at x) f second)) m n)) same more))

  pub next_added : (s later : Seen) (place there : Place) (ts : List Term) (i : ℕ) (t : Term) (o m n : Found) → later ≡ s → there ≡ place → i < length ts → t ≡ get_or ts i t
      → Adds (at s) place (active_children (at s) f 0 (terms_view (take i ts))) o m
      → Adds (at later) there (map (under i) (active_parts (at later) f (term_view t))) m n
      → Adds (at s) place (active_children (at s) f 0 (terms_view (take (i + 1) ts))) o n
  next_added s later place there ts i t o m n same stayed within is so_far more =
      child_added (at s) f place ts i t o m n within is so_far
      (subst (λ (p : Place). Adds (at s) p (map (under i) (active_parts (at s) f (term_view t))) m n) stayed
      (subst (λ (x : Seen). Adds (at x) there (map (under i) (active_parts (at x) f (term_view t))) m n) same more))

  pub behind_added : {R E : Type 0} (r : Result R E) (s later : Seen) (place : Place) (test : Code) (pos : Pos) (t : terms.Term) (o n : Found) → later ≡ s → Ok true ≡ tested (at s) f pos test
      → OnOk r (Adds (at later) place (map (under 0) (active_parts (at later) f t)) o n)
      → OnOk r (Adds (at s) place (active_parts (at s) f (guarded test pos t)) o n)
  behind_added r s later place test pos t o n same is more =
      on_ok_weaker r (guard_open (at s) f place test pos t o n is)
      (subst (λ (x : Seen). OnOk r (Adds (at x) place (map (under 0) (active_parts (at x) f t)) o n)) same more)

pub walked_at : (a : Context) (t : terms.Term) (place : Place) (o n : Found) → place ≡ [] → o.internal.items ≡ [] → o.sends.items ≡ [] → o.receives.items ≡ [] → o.delays.items ≡ [] → o.troubles.items ≡ []
    → Adds a place (active_parts a 0 t) o n → IsWalked a t n
walked_at a t place o n root internal sends receives delays troubles adds =
    walked a t o n internal sends receives delays troubles (subst (λ (p : Place). Adds a p (active_parts a 0 t) o n) root adds)

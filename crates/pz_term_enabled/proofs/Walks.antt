-- What the walk adds for each form of a term.
use Rattle.std.proofs.Common.{◌≡◌, ◌<◌, ◌+◌, ℕ, suc, Bool, true, false, List, [], ◌∷◌, ◌++◌, map, take, length, get_or, Result, Ok, Err, sym, subst, ap, ◌∙◌, append_assoc, append-nil, arith}
use Rattle.std.proofs.lemmas.List.{take_more, length-take-le}
use Rattle.pz_classes_code.specs.pz_syntax.declared.tokens.Pos.{Pos}
use Rattle.pz_rules.specs.pz_offer.PlaceOrder.{Place}
use Rattle.pz_rules.specs.pz_offer.declared.trouble.Trouble.{Trouble}
use Rattle.pz_rules.specs.declared.term.Term.{Term}
use Rattle.pz_rules.specs.Terms.{Code, Terms, guarded}
use Rattle.pz_rules.specs.Terms as terms
use Rattle.pz_rules.specs.View.{term_view, terms_view}
use Rattle.pz_rules.specs.Settings.{Context}
use Rattle.pz_rules.specs.devices.Found.{tested}
use Rattle.pz_rules.specs.devices.Walk as walk
use Rattle.pz_rules.specs.devices.Walk.{ActivePart, here, under, behind, active_parts, active_children, trouble_of, Noted, internal_actions, active_sends, active_receives, active_delays, active_troubles}
use Rattle.pz_term_enabled.specs.declared.found.Found.{Found}
use Rattle.pz_term_enabled.specs.devices.Walked.{IsWalked, CarryAll, doing_view, receiving_view, whats}
use Rattle.pz_term_enabled.specs.devices.Listings.{Adds, Notes, notes_of, nothing, only_troubles, below}
use Rattle.pz_term_enabled.proofs.Places.{below_root}
use Rattle.pz_term_enabled.proofs.Notes.{adds_none, adds_both, adds_after}

module _ (a : Context) (f : ℕ) where
  -- further children

  pub children_push : (k : ℕ) (ts : List Term) (t : Term) → active_children a f k (terms_view (ts ++ t ∷ [])) ≡ active_children a f k (terms_view ts) ++ map (under (k + length ts)) (active_parts a f (term_view t))
  children_push k [] t =
      let n : k ≡ k + 0 = omega arith in
      append-nil (map (under k) (active_parts a f (term_view t))) ∙ ap (λ (m : ℕ). map (under m) (active_parts a f (term_view t))) n
  children_push k (x ∷ ts) t =
      let n : suc k + length ts ≡ k + suc (length ts) = omega arith in
      ap (λ (l : List ActivePart). map (under k) (active_parts a f (term_view x)) ++ l) (children_push (suc k) ts t)
      ∙ sym (append_assoc (map (under k) (active_parts a f (term_view x))) (active_children a f (suc k) (terms_view ts)) (map (under (suc k + length ts)) (active_parts a f (term_view t))))
      ∙ ap (λ (m : ℕ). map (under k) (active_parts a f (term_view x)) ++ active_children a f (suc k) (terms_view ts) ++ map (under m) (active_parts a f (term_view t))) n

  pub child_added : (place : Place) (ts : List Term) (i : ℕ) (t : Term) (o m n : Found) → i < length ts → t ≡ get_or ts i t
      → Adds a place (active_children a f 0 (terms_view (take i ts))) o m
      → Adds a place (map (under i) (active_parts a f (term_view t))) m n
      → Adds a place (active_children a f 0 (terms_view (take (i + 1) ts))) o n
  child_added place ts i t o m n within is so_far added =
      let more : take (i + 1) ts ≡ take i ts ++ t ∷ [] = take_more ts i t within ∙ ap (λ (x : Term). take i ts ++ x ∷ []) (sym is) in
      let count : 0 + length (take i ts) ≡ i = let e = length-take-le i ts (omega (arith, within)) in omega (arith, e) in
      let parts : active_children a f 0 (terms_view (take i ts)) ++ map (under i) (active_parts a f (term_view t)) ≡ active_children a f 0 (terms_view (take (i + 1) ts)) =
      ap (λ (k : ℕ). active_children a f 0 (terms_view (take i ts)) ++ map (under k) (active_parts a f (term_view t))) (sym count)
      ∙ sym (children_push 0 (take i ts) t)
      ∙ ap (λ (l : List Term). active_children a f 0 (terms_view l)) (sym more) in
      subst (λ (ps : List ActivePart). Adds a place ps o n) parts (adds_both a place (active_children a f 0 (terms_view (take i ts))) (map (under i) (active_parts a f (term_view t))) o m n so_far added)

  -- a guard

  quiet_guard : (test : Code) (at : Pos) (t : terms.Term) (b : Bool) → tested a f at test ≡ Ok b → notes_of a f (guarded test at t) ≡ nothing
  quiet_guard test at t b is = ap (λ (r : Result Bool Trouble). let x : Notes = record nothing { trouble = trouble_of r } in x) is

  pub guard_open : (place : Place) (test : Code) (at : Pos) (t : terms.Term) (o n : Found) → Ok true ≡ tested a f at test
      → Adds a place (map (under 0) (active_parts a f t)) o n → Adds a place (active_parts a f (guarded test at t)) o n
  guard_open place test at t o n is adds =
      subst (λ (r : Result Bool Trouble). Adds a place (here f (guarded test at t) ∷ behind r (map (under 0) (active_parts a f t))) o n) is
      (adds_after a place f (guarded test at t) (map (under 0) (active_parts a f t)) o n (quiet_guard test at t true (sym is)) adds)

  pub guard_closed : (place : Place) (test : Code) (at : Pos) (t : terms.Term) (o : Found) → Ok false ≡ tested a f at test → Adds a place (active_parts a f (guarded test at t)) o o
  guard_closed place test at t o is =
      subst (λ (r : Result Bool Trouble). Adds a place (here f (guarded test at t) ∷ behind r (map (under 0) (active_parts a f t))) o o) is
      (adds_after a place f (guarded test at t) [] o o (quiet_guard test at t false (sym is)) (adds_none a place o))

  pub troubled_guard : (test : Code) (at : Pos) (t : terms.Term) (u : Trouble) → Err u ≡ tested a f at test → notes_of a f (guarded test at t) ≡ only_troubles u
  troubled_guard test at t u is = ap (λ (r : Result Bool Trouble). let x : Notes = record nothing { trouble = trouble_of r } in x) (sym is)

  pub guard_troubled : (place : Place) (test : Code) (at : Pos) (t : terms.Term) (u : Trouble) (o n : Found) → Err u ≡ tested a f at test
      → Adds a place (here f (guarded test at t) ∷ []) o n → Adds a place (active_parts a f (guarded test at t)) o n
  guard_troubled place test at t u o n is adds =
      subst (λ (r : Result Bool Trouble). Adds a place (here f (guarded test at t) ∷ behind r (map (under 0) (active_parts a f t))) o n) is adds

-- from nothing, of a whole term
pub walked : (a : Context) (t : terms.Term) (o n : Found) → o.internal.items ≡ [] → o.sends.items ≡ [] → o.receives.items ≡ [] → o.delays.items ≡ [] → o.troubles.items ≡ []
    → Adds a [] (active_parts a 0 t) o n → IsWalked a t n
walked a t o n internal sends receives delays troubles adds = record {
  internal = adds.internal ∙ ap (λ (l : List _). map doing_view l ++ map (below []) (internal_actions a t)) internal ∙ below_root (internal_actions a t);
  sends = subst (λ (l : List _). CarryAll l (active_sends a t)) (sym (adds.sends.added ∙ ap (λ (l : List _). l ++ adds.sends.more) sends))
      (subst (λ (l : List (Noted walk.ActiveSend)). CarryAll adds.sends.more l) (below_root (active_sends a t)) adds.sends.carried);
  receives = adds.receives ∙ ap (λ (l : List _). map receiving_view l ++ map (below []) (active_receives a t)) receives ∙ below_root (active_receives a t);
  delays = adds.delays ∙ ap (λ (l : List ℕ). l ++ whats (active_delays a t)) delays;
  troubles = adds.troubles ∙ ap (λ (l : List Trouble). l ++ whats (active_troubles a t)) troubles;
  times = adds.times;
}

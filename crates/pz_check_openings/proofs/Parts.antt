-- The graph of some of the methods, of which each stands at its number, is part of the graph of all.
use Rattle.std.proofs.Common.{◌≡◌, refl, sym, ap, subst, ◌∙◌, ℕ, Bool, true, false, List, [], map, Option, Some, None, slice_get, if◌then◌else◌, ◌<◌, arith}
use Rattle.std.specs.List.{Contains}
use Rattle.std.specs.Option.{option_map}
use Rattle.std.proofs.lemmas.Option.{slice_get-map}
use Rattle.pz_classes.specs.pz_syntax.Classes.{ProcessMethodTree, ModelTree}
use Rattle.pz_classes.specs.pz_check_violations.declared.violation.Violation.{Violation}
use Rattle.pz_classes.specs.pz_classes_rules.Ancestors.{ancestors}
use Rattle.pz_classes_openings.specs.Methods.{method_at}
use Rattle.pz_classes_openings.specs.Openings.{begun_at}
use Rattle.pz_check_components.specs.Graph.{Reaches}
use Rattle.pz_check_components.specs.Graph as graph
use Rattle.pz_check_calls.specs.declared.graph.Call.{Call}
use Rattle.pz_check_calls.specs.Calls.{begun_by, edges, IsRound, round}
use Rattle.pz_check_calls.proofs.LeadingBack.{edge_to, edge_by}
use Rattle.pz_check_openings.specs.declared.outline.Outline.{Outline}
use Rattle.pz_check_openings.specs.devices.Outlines.{outline_of, outlines}
use Rattle.pz_check_openings.specs.devices.InClass.{calls_in, method_in, methods_in, RoundIn, round_in}
use Rattle.pz_check_openings.specs.devices.Suspects.{kept}
use Rattle.pz_check_openings.specs.devices.Through.{Through, itself, further, RoundThrough, round_through}
use Rattle.pz_check_openings.proofs.InClasses.{call_of}
use Rattle.pz_check_openings.proofs.Listed.{outline_is}

module _ (p : Outline → Bool) (all those : List (Option Outline)) (are : those ≡ map (kept p) all) where
  number_kept : (k : ℕ) → slice_get those k ≡ option_map (kept p) (slice_get all k)
  number_kept k = ap (λ (l : List (Option Outline)). slice_get l k) are ∙ slice_get-map (kept p) all k

  -- what is kept is one of all
  pub is_of_all : (k : ℕ) (o : Outline) → slice_get those k ≡ Some (Some o) → slice_get all k ≡ Some (Some o)
  is_of_all k o here = by_item (slice_get all k) refl (sym (number_kept k) ∙ here)
    where
      by_test : (q : Outline) (b : Bool) → Some (if b then Some q else None) ≡ Some (Some o) → q ≡ o
      by_test q true is = cc
      by_test q false is = cc

      by_item : (x : Option (Option Outline)) → slice_get all k ≡ x → option_map (kept p) x ≡ Some (Some o) → slice_get all k ≡ Some (Some o)
      by_item None at is = cc
      by_item (Some None) at is = cc
      by_item (Some (Some q)) at is = at ∙ ap (λ (r : Outline). Some (Some r)) (by_test q (p q) is)

  module _ (m : ModelTree) (c : ℕ) where
    in_part : (k : ℕ) → slice_get (methods_in m c those) k ≡ option_map (method_in m c) (slice_get those k)
    in_part k = slice_get-map (method_in m c) those k

    in_all : (k : ℕ) → slice_get (methods_in m c all) k ≡ option_map (method_in m c) (slice_get all k)
    in_all k = slice_get-map (method_in m c) all k

    begun_more : (k : ℕ) (x : Call) → Contains (begun_by (methods_in m c those) k) x → Contains (begun_by (methods_in m c all) k) x
    begun_more k x among = by_item (slice_get those k) refl
      where
        none_there : {A : Type 0} (xs : List Call) → xs ≡ [] → Contains xs x → A
        none_there xs is at = let wrong : Contains {X = Call} [] x = subst (λ (l : List Call). Contains l x) is at in absurd (let below : wrong.0 < 0 = wrong.1 in omega arith)

        by_item : (o : Option (Option Outline)) → slice_get those k ≡ o → Contains (begun_by (methods_in m c all) k) x
        by_item None at = none_there (begun_by (methods_in m c those) k) (rw (in_part k, at) refl) among
        by_item (Some None) at = none_there (begun_by (methods_in m c those) k) (rw (in_part k, at) refl) among
        by_item (Some (Some o)) at =
            let same : begun_by (methods_in m c those) k ≡ begun_by (methods_in m c all) k = rw (in_part k, at, in_all k, is_of_all k o at) refl in
            subst (λ (l : List Call). Contains l x) same among

    reaches_more : (n k : ℕ) → Reaches (edges (methods_in m c those)) n k → Reaches (edges (methods_in m c all)) n k
    reaches_more n _ graph.itself = graph.itself
    reaches_more n _ (graph.further u w before edge) =
        let h = edge_by (methods_in m c those) u w edge in
        let there : Contains (begun_by (methods_in m c all) u) h.0 = begun_more u h.0 h.1 in
        graph.further u w (reaches_more n u before) (subst (λ (t : ℕ). Contains (graph.targets (edges (methods_in m c all)) u) t) h.2 (edge_to (methods_in m c all) u h.0 there))

    round_more : (v : Violation) → IsRound (methods_in m c those) v → IsRound (methods_in m c all) v
    round_more _ (round k x among reaches) = round k x (begun_more k x among) (reaches_more x.method k reaches)

    pub round_in_all : (v : Violation) → RoundIn m those c v → RoundIn m all c v
    round_in_all _ (round_in d v declared process here) = round_in d v declared process (round_more v here)

-- a round through methods that are kept is one in the graph of those
module _ (m : ModelTree) (p : Outline → Bool) (those : List (Option Outline)) (are : those ≡ map (kept p) (outlines m)) (c : ℕ) where
  abbrev Kept : ℕ → Type 0
  Kept k = (o : Outline) × (slice_get those k ≡ Some (Some o))

  begun_there : (k : ℕ) → Kept k → begun_by (methods_in m c those) k ≡ calls_in m c (begun_at m k)
  begun_there k (o, here) = by_method (outline_is m k o (is_of_all p (outlines m) those are k o here))
    where
      by_method : (r : ProcessMethodTree) × (method_at m k ≡ Some r) × (o ≡ outline_of r) → begun_by (methods_in m c those) k ≡ calls_in m c (begun_at m k)
      by_method (r, at, is) = rw (slice_get-map (method_in m c) those k, here, at, is) refl

  last_is : (n k : ℕ) → Through Kept m (ancestors m c) n k → Kept k
  last_is n _ (itself kind) = kind
  last_is n _ (further u w x before among finds kind) = kind

  reaches : (n k : ℕ) → Through Kept m (ancestors m c) n k → Reaches (edges (methods_in m c those)) n k
  reaches n _ (itself kind) = graph.itself
  reaches n _ (further u w x before among finds kind) =
      let call : Contains (begun_by (methods_in m c those) u) (record { method = w; pos = x.pos }) =
      subst (λ (hs : List Call). Contains hs (record { method = w; pos = x.pos })) (sym (begun_there u (last_is n u before))) (call_of m c (begun_at m u) x w among finds) in
      graph.further u w (reaches n u before) (edge_to (methods_in m c those) u (record { method = w; pos = x.pos }) call)

  pub round_there : (v : Violation) → RoundThrough Kept m (ancestors m c) v → IsRound (methods_in m c those) v
  round_there _ (round_through k n x among finds leads) =
      let call : Contains (begun_by (methods_in m c those) k) (record { method = n; pos = x.pos }) =
      subst (λ (hs : List Call). Contains hs (record { method = n; pos = x.pos })) (sym (begun_there k (last_is n k leads))) (call_of m c (begun_at m k) x n among finds) in
      round k (record { method = n; pos = x.pos }) call (reaches n k leads)

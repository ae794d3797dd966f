-- Classes by the numbers of their components are an order in which they can be counted.
use Rattle.std.proofs.Common.{◌≡◌, ◌≢◌, refl, sym, subst, ◌∙◌, ℕ, ◌<◌, ◌≤◌, List, length, Some, slice_get, arith}
use Rattle.std.specs.List.{Contains}
use Rattle.std.proofs.lemmas.List.{length-map}
use Rattle.std.proofs.lemmas.Option.{slice_get_within}
use Rattle.pz_check_components.specs.Graph.{Reaches, itself, further, number_of, AreComponents}
use Rattle.pz_check_components.proofs.Walks.{reaches_on}
use Rattle.pz_check_size.specs.declared.nodes.Held.{Held}
use Rattle.pz_check_size.specs.declared.nodes.Node.{Node}
use Rattle.pz_check_size.specs.devices.Nodes.{held_by}
use Rattle.pz_check_size.specs.devices.LeadingBack.{classes_of, edges}
use Rattle.pz_check_size.specs.devices.Counting.{NoneHoldsItself, IsNumbering, ArePlaced, IsCountingOrder}
use Rattle.pz_check_size.proofs.SelfHolding.{edge_to, edge_by}
use Rattle.pz_check_size.proofs.Numberings.{placed_at}

module _ (nodes : List Node) (numbers : List ℕ) (are : AreComponents (edges nodes) numbers) (none : NoneHoldsItself nodes) where
  size : length (edges nodes) ≡ length nodes
  size = length-map nodes (λ (n : Node). classes_of n.held)

  count : length numbers ≡ length nodes
  count = are.sized ∙ size

  -- two that reach each other are one
  one_class : (c d : ℕ) → Reaches (edges nodes) c d → Reaches (edges nodes) d c → c ≡ d
  one_class c _ itself back = refl
  one_class c _ (further u d before edge) back = absurd (by_held (edge_by nodes u d edge))
    where
      by_held : (h : Held) × Contains (held_by nodes u) h × (h.class ≡ d) → ⊥
      by_held (h, among, is) = none u h among (subst (λ (k : ℕ). Reaches (edges nodes) k u) (sym is) (reaches_on (edges nodes) d c u back before))

  apart : (c d : ℕ) → c < length numbers → d < length numbers → number_of numbers c ≡ number_of numbers d → c ≡ d
  apart c d first second same = let both = (are.same c d (omega (arith, are.sized)) (omega (arith, are.sized))).0 same in one_class c d both.0 both.1

  pub is_numbering : IsNumbering numbers
  is_numbering = record {
    bounded = λ c below. (let less : number_of numbers c < length (edges nodes) = are.bounded c (omega (arith, are.sized)) in omega (arith, are.sized));
    apart = apart;
  }

  module _ (order : List ℕ) (all : ArePlaced numbers order (length numbers)) where
    -- what stands at a place has its number
    record Standing (i c : ℕ) : Type 0 where
      pub below : c < length nodes
      pub number : number_of numbers c ≡ i

    standing : (i c : ℕ) → slice_get order i ≡ Some c → Standing i c
    standing i c at = by_place (placed_at numbers is_numbering order all i small)
      where
        small : i < length numbers
        small = let inside : i < length order = slice_get_within order i c at in omega (arith, all.sized)

        by_place : (d : ℕ) × (d < length numbers) × (number_of numbers d ≡ i) × (slice_get order i ≡ Some d) → Standing i c
        by_place (d, less, is, here) =
            let same : Some d ≡ Some c = sym here ∙ at in
            let equal : d ≡ c = cc in
            record { below = rw (← equal) (omega (arith, count)); number = rw (← equal) is }

    after : (i c : ℕ) (h : Held) → slice_get order i ≡ Some c → Contains (held_by nodes c) h → h.class < length nodes → (j : ℕ) × (j < i) × (slice_get order j ≡ Some h.class)
    after i c h at among inside = (number_of numbers h.class, earlier, all.placed h.class (omega (arith, count)))
      where
        s : Standing i c
        s = standing i c at

        within : h.class < length (edges nodes)
        within = omega (arith, size)

        here : c < length (edges nodes)
        here = let below : c < length nodes = s.below in omega (arith, size)

        reaches : Reaches (edges nodes) c h.class
        reaches = further c h.class itself (edge_to nodes c h among)

        other : number_of numbers h.class ≢ number_of numbers c
        other same =
            let both = (are.same h.class c within here).0 same in
            none c h among both.0

        earlier : number_of numbers h.class < i
        earlier =
            let most : number_of numbers h.class ≤ number_of numbers c = are.ordered c h.class here within reaches in
            let number : number_of numbers c ≡ i = s.number in
            let apart_from : number_of numbers h.class ≢ number_of numbers c = other in
            omega (arith, apart_from)

    pub is_order : IsCountingOrder nodes order
    is_order = record {
      sized = all.sized ∙ count;
      within = λ i c at. (standing i c at).below;
      each = λ c below. (number_of numbers c, all.placed c (omega (arith, count)));
      after = after;
    }

-- what the code makes
pub ordered : (nodes : List Node) (es seen_edges : List (List ℕ)) (numbers seen order : List ℕ) → NoneHoldsItself nodes → es ≡ edges nodes → seen_edges ≡ es → AreComponents seen_edges numbers → seen ≡ numbers → ArePlaced seen order (length seen) → IsCountingOrder nodes order
ordered nodes es seen_edges numbers seen order none es_are edges_are are seen_are all =
    let components : AreComponents (edges nodes) numbers = subst (λ (x : List (List ℕ)). AreComponents x numbers) (edges_are ∙ es_are) are in
    let placed : ArePlaced numbers order (length numbers) = subst (λ (x : List ℕ). ArePlaced x order (length x)) seen_are all in
    is_order nodes numbers components none order placed

pub numbered : (nodes : List Node) (es seen_edges : List (List ℕ)) (numbers seen : List ℕ) → NoneHoldsItself nodes → es ≡ edges nodes → seen_edges ≡ es → AreComponents seen_edges numbers → seen ≡ numbers → IsNumbering seen
numbered nodes es seen_edges numbers seen none es_are edges_are are seen_are =
    let components : AreComponents (edges nodes) numbers = subst (λ (x : List (List ℕ)). AreComponents x numbers) (edges_are ∙ es_are) are in
    subst IsNumbering (sym seen_are) (is_numbering nodes numbers components none)

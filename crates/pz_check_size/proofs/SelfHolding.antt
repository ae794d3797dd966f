-- The rule that no cluster class holds itself, and what the numbers of the classes tell.
use Rattle.std.proofs.Common.{◌≡◌, refl, sym, ap, subst, ◌∙◌, ℕ, zero, suc, ◌+◌, ◌<◌, Bool, true, false, nat_eq, List, [], ◌∷◌, length, Option, Some, None, Result, Ok, Err, slice_get, arith, ◌⊎◌, inl, inr, if◌then◌else◌}
use Rattle.std.specs.List.{Contains}
use Rattle.std.specs.Result.{IfOk}
use Rattle.std.specs.Option.{option_map_or, unwrap_or}
use Rattle.std.proofs.lemmas.Bool.{eqb-true}
use Rattle.std.proofs.lemmas.Bool.Decides.{nat_tests}
use Rattle.std.proofs.lemmas.List.{length-map}
use Rattle.std.proofs.lemmas.Option.{slice_get_within}
use Rattle.std.specs.declared.alloc.AllocError.{AllocError}
use Rattle.pz_classes.specs.pz_syntax.declared.tokens.Pos.{Pos}
use Rattle.pz_classes.specs.pz_syntax.Classes.{ModelTree}
use Rattle.pz_check_violations.specs.declared.violation.Violation.{Violation}
use Rattle.pz_check_violations.specs.Order.{violation}
use Rattle.pz_check_violations.specs.Least.{LeastOf, listed, least_from, Member}
use Rattle.pz_check_violations.proofs.Members.{member_left, member_right, member_cases, listed_is, is_listed}
use Rattle.pz_check_violations.proofs.Leasts as leasts
use Rattle.pz_classes.specs.pz_classes_rules.Kinds.{is_cluster}
use Rattle.pz_classes.specs.pz_classes_rules.Instances.{instances}
use Rattle.pz_classes.specs.pz_classes_rules.InstanceRules.{Holds, directly, through, BreaksC15, holds_itself}
use Rattle.pz_check_components.specs.Graph.{targets, Reaches, itself, further, number_of, AreComponents}
use Rattle.pz_check_components.proofs.Walks.{reaches_on}
use Rattle.pz_check_size.specs.declared.nodes.Held.{Held}
use Rattle.pz_check_size.specs.declared.nodes.Node.{Node}
use Rattle.pz_check_size.specs.devices.Nodes.{held_by, node_of, nodes as nodes_in}
use Rattle.pz_check_size.specs.devices.LeadingBack.{classes_of, edges, LeadsBack, leads_back, is_numbered, back_in, back_from, back_among}
use Rattle.pz_check_size.proofs.ModelNodes.{HeldAs, as_instance, is_held, declared, node_here}

held_first : (h : Held) (hs : List Held) (x : Held) → Contains (h ∷ hs) x → (h ≡ x) ⊎ Contains hs x
held_first h hs x (zero, below, is) = inl is
held_first h hs x (suc k, below, is) = inr (k, omega arith, is)

held_rest : (h : Held) (hs : List Held) (x : Held) → Contains hs x → Contains (h ∷ hs) x
held_rest h hs x (k, below, is) = (suc k, omega arith, is)

no_held : (h : Held) → Contains [] h → ⊥
no_held h (k, below, is) = omega arith

-- an instance whose class has the number, and the place that is refused for it
record Numbered (numbers : List ℕ) (number : ℕ) (hs : List Held) (v : Violation) : Type 0 where
  instance : Held
  among : Contains hs instance
  numbered : is_numbered numbers number instance.class ≡ true
  place : violation 15 instance.pos ≡ v

in_sound : (numbers : List ℕ) (number : ℕ) (hs : List Held) (v : Violation) → Member v (back_in numbers number hs) → Numbered numbers number hs v
in_sound numbers number [] v found = absurd found
in_sound numbers number (h ∷ hs) v found = by_part (member_cases v (listed (is_numbered numbers number h.class) (violation 15 h.pos)) (back_in numbers number hs) found) (in_sound numbers number hs v)
  where
    by_part : Member v (listed (is_numbered numbers number h.class) (violation 15 h.pos)) ⊎ Member v (back_in numbers number hs) → (Member v (back_in numbers number hs) → Numbered numbers number hs v) → Numbered numbers number (h ∷ hs) v
    by_part (inl here) on = let r = listed_is (is_numbered numbers number h.class) (violation 15 h.pos) v here in record { instance = h; among = (0, omega arith, refl); numbered = r.0; place = r.1 }
    by_part (inr later) on = let rest : Numbered numbers number hs v = on later in record { instance = rest.instance; among = held_rest h hs rest.instance rest.among; numbered = rest.numbered; place = rest.place }

in_complete : (numbers : List ℕ) (number : ℕ) (hs : List Held) (h : Held) → Contains hs h → is_numbered numbers number h.class ≡ true → Member (violation 15 h.pos) (back_in numbers number hs)
in_complete numbers number [] h among is = absurd (no_held h among)
in_complete numbers number (g ∷ hs) h among is = elim (held_first g hs h among) [
  | inl same ↦ member_left (violation 15 h.pos) (listed (is_numbered numbers number g.class) (violation 15 g.pos)) (back_in numbers number hs)
      (subst (λ (x : Held). Member (violation 15 h.pos) (listed (is_numbered numbers number x.class) (violation 15 x.pos))) (sym same) (is_listed (is_numbered numbers number h.class) (violation 15 h.pos) is))
  | inr later ↦ member_right (violation 15 h.pos) (listed (is_numbered numbers number g.class) (violation 15 g.pos)) (back_in numbers number hs) (in_complete numbers number hs h later is)
]

-- an instance whose class has the number of the cluster class that it stands in; the first of these
-- classes is number c
record Back (numbers : List ℕ) (c : ℕ) (ns : List Node) (v : Violation) : Type 0 where
  at : ℕ
  node : Node
  here : slice_get ns at ≡ Some node
  cluster : node.is_cluster ≡ true
  held : Numbered numbers (number_of numbers (at + c)) node.held v

from_sound : (numbers : List ℕ) (number : ℕ) (n : Node) (v : Violation) → Member v (back_from numbers number n) → (n.is_cluster ≡ true) × Member v (back_in numbers number n.held)
from_sound numbers number n v found = by_test n.is_cluster refl found
  where
    by_test : (t : Bool) → n.is_cluster ≡ t → Member v (if t then back_in numbers number n.held else []) → (n.is_cluster ≡ true) × Member v (back_in numbers number n.held)
    by_test true is at = (is, at)
    by_test false is at = absurd at

among_sound : (numbers : List ℕ) (c : ℕ) (ns : List Node) (v : Violation) → Member v (back_among numbers c ns) → Back numbers c ns v
among_sound numbers c [] v found = absurd found
among_sound numbers c (n ∷ ns) v found = by_part (member_cases v (back_from numbers (number_of numbers c) n) (back_among numbers (suc c) ns) found) (among_sound numbers (suc c) ns v)
  where
    by_part : Member v (back_from numbers (number_of numbers c) n) ⊎ Member v (back_among numbers (suc c) ns) → (Member v (back_among numbers (suc c) ns) → Back numbers (suc c) ns v) → Back numbers c (n ∷ ns) v
    by_part (inl first) on =
        let r = from_sound numbers (number_of numbers c) n v first in
        let none : c ≡ 0 + c = omega arith in
        record { at = 0; node = n; here = refl; cluster = r.0; held = subst (λ (k : ℕ). Numbered numbers (number_of numbers k) n.held v) none (in_sound numbers (number_of numbers c) n.held v r.1) }
    by_part (inr later) on =
        let rest : Back numbers (suc c) ns v = on later in
        let same : rest.at + suc c ≡ suc rest.at + c = omega arith in
        record { at = suc rest.at; node = rest.node; here = rest.here; cluster = rest.cluster; held = subst (λ (k : ℕ). Numbered numbers (number_of numbers k) rest.node.held v) same rest.held }

among_complete : (numbers : List ℕ) (c : ℕ) (ns : List Node) (at : ℕ) (n : Node) (v : Violation) → slice_get ns at ≡ Some n → n.is_cluster ≡ true → Member v (back_in numbers (number_of numbers (at + c)) n.held) → Member v (back_among numbers c ns)
among_complete numbers c [] at n v here cluster found = cc
among_complete numbers c (x ∷ ns) zero n v here cluster found =
    let none : 0 + c ≡ c = omega arith in
    let same : n ≡ x = cc in
    let first : Member v (back_in numbers (number_of numbers c) n.held) = rw none at found in
    let from_it : Member v (back_from numbers (number_of numbers c) n) = rw cluster first in
    member_left v (back_from numbers (number_of numbers c) x) (back_among numbers (suc c) ns) (subst (λ (y : Node). Member v (back_from numbers (number_of numbers c) y)) same from_it)
among_complete numbers c (x ∷ ns) (suc at) n v here cluster found =
    let same : suc at + c ≡ at + suc c = omega arith in
    let later : Member v (back_in numbers (number_of numbers (at + suc c)) n.held) = rw same at found in
    member_right v (back_from numbers (number_of numbers c) x) (back_among numbers (suc c) ns) (among_complete numbers (suc c) ns at n v here cluster later)

-- the edges from a class are its instances
targets_are : (nodes : List Node) (c : ℕ) → targets (edges nodes) c ≡ classes_of (held_by nodes c)
targets_are [] c = refl
targets_are (n ∷ nodes) zero = refl
targets_are (n ∷ nodes) (suc c) = targets_are nodes c

of_classes : (hs : List Held) (k : ℕ) → Contains (classes_of hs) k → (h : Held) × Contains hs h × (h.class ≡ k)
of_classes [] k (j, below, is) = absurd (omega arith)
of_classes (h ∷ hs) k (zero, below, is) = (h, (0, omega arith, refl), is)
of_classes (h ∷ hs) k (suc j, below, is) = let rest = of_classes hs k (j, omega arith, is) in (rest.0, held_rest h hs rest.0 rest.1, rest.2)

in_classes : (hs : List Held) (h : Held) → Contains hs h → Contains (classes_of hs) h.class
in_classes [] h among = absurd (no_held h among)
in_classes (g ∷ hs) h (zero, below, is) = (0, omega arith, ap (λ (x : Held). x.class) is)
in_classes (g ∷ hs) h (suc j, below, is) = let rest = in_classes hs h (j, omega arith, is) in (suc rest.0, (let inside : rest.0 < length (classes_of hs) = rest.1 in omega arith), rest.2)

module _ (nodes : List Node) where
  inside : (c : ℕ) (n : Node) → slice_get nodes c ≡ Some n → c < length (edges nodes)
  inside c n here =
      let within : c < length nodes = slice_get_within nodes c n here in
      let size : length (edges nodes) ≡ length nodes = length-map nodes (λ (x : Node). classes_of x.held) in
      omega arith

  pub edge_to : (c : ℕ) (h : Held) → Contains (held_by nodes c) h → Contains (targets (edges nodes) c) h.class
  edge_to c h among = rw (targets_are nodes c) (in_classes (held_by nodes c) h among)

  pub edge_by : (c k : ℕ) → Contains (targets (edges nodes) c) k → (h : Held) × Contains (held_by nodes c) h × (h.class ≡ k)
  edge_by c k edge = of_classes (held_by nodes c) k (rw (targets_are nodes c) at edge)

  at_node : (c : ℕ) (n : Node) (h : Held) → slice_get nodes c ≡ Some n → Contains n.held h → Contains (held_by nodes c) h
  at_node c n h here among = rw here among

  has_edge : (es : List (List ℕ)) (c k : ℕ) → Contains (targets es c) k → c < length es
  has_edge [] c k (j, below, is) = absurd (omega arith)
  has_edge (e ∷ es) zero k edge = omega arith
  has_edge (e ∷ es) (suc c) k edge = let rest : c < length es = has_edge es c k edge in omega arith

  starts_inside : (k c : ℕ) → Reaches (edges nodes) k c → c < length (edges nodes) → k < length (edges nodes)
  starts_inside k _ itself below = below
  starts_inside k _ (further b c before edge) below = starts_inside k b before (has_edge (edges nodes) b c edge)

  module _ (numbers : List ℕ) (are : AreComponents (edges nodes) numbers) where
    is_number : (k number : ℕ) → is_numbered numbers number k ≡ true → (k < length (edges nodes)) × (number_of numbers k ≡ number)
    is_number k number is = by_number (slice_get numbers k) refl is
      where
        by_number : (o : Option ℕ) → slice_get numbers k ≡ o → option_map_or (λ j. nat_eq j number) o false ≡ true → (k < length (edges nodes)) × (unwrap_or (slice_get numbers k) 0 ≡ number)
        by_number None at wrong = cc
        by_number (Some j) at same =
            let within : k < length numbers = slice_get_within numbers k j at in
            let size : length numbers ≡ length (edges nodes) = are.sized in
            (omega arith, ap (λ (o : Option ℕ). unwrap_or o 0) at ∙ eqb-true j number same)

    numbered_so : (k number : ℕ) → k < length (edges nodes) → number_of numbers k ≡ number → is_numbered numbers number k ≡ true
    numbered_so k number below is = by_number (slice_get numbers k) refl
      where
        by_number : (o : Option ℕ) → slice_get numbers k ≡ o → is_numbered numbers number k ≡ true
        by_number None at = absurd (not_there numbers k (let size : length numbers ≡ length (edges nodes) = are.sized in omega arith) at)
          where
            not_there : (ns : List ℕ) (j : ℕ) → j < length ns → slice_get ns j ≡ None → ⊥
            not_there [] j less none = omega arith
            not_there (n ∷ ns) zero less none = cc
            not_there (n ∷ ns) (suc j) less none = not_there ns j (omega arith) none
        by_number (Some j) at =
            let same : j ≡ number = sym (ap (λ (o : Option ℕ). unwrap_or o 0) at) ∙ is in
            let test : nat_eq j number ≡ true = grind (arith, nat_tests) in
            ap (λ (o : Option ℕ). option_map_or (λ i. nat_eq i number) o false) at ∙ test

    back_sound : (v : Violation) → Member v (back_among numbers 0 nodes) → LeadsBack nodes v
    back_sound v found = by_back (among_sound numbers 0 nodes v found)
      where
        by_back : Back numbers 0 nodes v → LeadsBack nodes v
        by_back b =
            let none : b.at + 0 ≡ b.at = omega arith in
            let number = is_number b.held.instance.class (number_of numbers (b.at + 0)) b.held.numbered in
            let same : number_of numbers b.held.instance.class ≡ number_of numbers b.at = number.1 ∙ ap (number_of numbers) none in
            let both : Reaches (edges nodes) b.held.instance.class b.at × Reaches (edges nodes) b.at b.held.instance.class = (are.same b.held.instance.class b.at number.0 (inside b.at b.node b.here)).0 same in
            subst (LeadsBack nodes) b.held.place (leads_back b.at b.node b.held.instance b.here b.cluster b.held.among both.0)

    back_complete : (v : Violation) → LeadsBack nodes v → Member v (back_among numbers 0 nodes)
    back_complete _ (leads_back c n h here cluster among reaches) =
        let none : c ≡ c + 0 = omega arith in
        let at : c < length (edges nodes) = inside c n here in
        let from : h.class < length (edges nodes) = starts_inside h.class c reaches at in
        let back : Reaches (edges nodes) c h.class = further c h.class itself (edge_to c h (at_node c n h here among)) in
        let same : number_of numbers h.class ≡ number_of numbers (c + 0) = (are.same h.class c from at).1 (reaches, back) ∙ ap (number_of numbers) none in
        among_complete numbers 0 nodes c n (violation 15 h.pos) here cluster (in_complete numbers (number_of numbers (c + 0)) n.held h among (numbered_so h.class (number_of numbers (c + 0)) from same))

    -- the least instance that leads back
    pub least_back : LeastOf (LeadsBack nodes) (least_from None (back_among numbers 0 nodes))
    least_back = leasts.least_found (LeadsBack nodes) (back_among numbers 0 nodes) back_sound back_complete

-- what the code finds
pub found_back : (nodes : List Node) (es seen_edges : List (List ℕ)) (numbers seen : List ℕ) (found : Option Violation) → es ≡ edges nodes → seen_edges ≡ es → AreComponents seen_edges numbers → seen ≡ numbers
    → found ≡ least_from None (back_among seen 0 nodes) → LeastOf (LeadsBack nodes) found
found_back nodes es seen_edges numbers seen found es_are edges_are are seen_are is =
    let components : AreComponents (edges nodes) numbers = subst (λ (x : List (List ℕ)). AreComponents x numbers) (edges_are ∙ es_are) are in
    subst (LeastOf (LeadsBack nodes)) (sym (is ∙ ap (λ (x : List ℕ). least_from None (back_among x 0 nodes)) seen_are)) (least_back nodes numbers components)

module _ (m : ModelTree) where
  -- what stands in a class
  pub stands : (c : ℕ) (h : Held) → Contains (held_by (nodes_in m) c) h → (n : Node) × (slice_get (nodes_in m) c ≡ Some n) × Contains n.held h
  stands c h among = by_node (slice_get (nodes_in m) c) refl among
    where
      by_node : (o : Option Node) → slice_get (nodes_in m) c ≡ o → Contains (option_map_or (λ n. n.held) o []) h → (n : Node) × (slice_get (nodes_in m) c ≡ Some n) × Contains n.held h
      by_node None is at = absurd (no_held h at)
      by_node (Some n) is at = (n, is, at)

  pub holds : (c : ℕ) (h : Held) → Contains (held_by (nodes_in m) c) h → Holds m c h.class
  holds c h among =
      let s = stands c h among in
      let d = declared m c s.0 h s.1 s.2 in
      let i : HeldAs m (instances d.decl) h = as_instance m (instances d.decl) h (subst (λ (n : Node). Contains n.held h) d.node s.2) in
      directly c h.class d.decl i.instance d.declared i.among i.class

  pub reaches_held : (k c : ℕ) → Reaches (edges (nodes_in m)) k c → (c ≡ k) ⊎ Holds m k c
  reaches_held k _ itself = inl refl
  reaches_held k _ (further c b before edge) = by_case (reaches_held k c before) (edge_by (nodes_in m) c b edge)
    where
      by_case : (c ≡ k) ⊎ Holds m k c → (h : Held) × Contains (held_by (nodes_in m) c) h × (h.class ≡ b) → (b ≡ k) ⊎ Holds m k b
      by_case (inl same) (h, among, class) = inr (subst (Holds m k) class (subst (λ (x : ℕ). Holds m x h.class) same (holds c h among)))
      by_case (inr before_it) (h, among, class) = inr (subst (Holds m k) class (through k c h.class before_it (holds c h among)))

  held_reaches : (k c : ℕ) → Holds m k c → Reaches (edges (nodes_in m)) k c
  held_reaches k c (directly _ _ d i here among class) =
      let h : Held = record { class = c; pos = i.class.pos } in
      let there : Contains (held_by (nodes_in m) k) h = rw (node_here m k d here) (is_held m (instances d) i c among class) in
      further k c itself (edge_to (nodes_in m) k h there)
  held_reaches k c (through _ b _ first second) = reaches_on (edges (nodes_in m)) k b c (held_reaches k b first) (held_reaches b c second)

  back_is_c15 : (v : Violation) → LeadsBack (nodes_in m) v → BreaksC15 m v
  back_is_c15 _ (leads_back c n h here cluster among reaches) =
      let d = declared m c n h here among in
      let i : HeldAs m (instances d.decl) h = as_instance m (instances d.decl) h (subst (λ (x : Node). Contains x.held h) d.node among) in
      let is : is_cluster d.decl ≡ true = subst (λ (x : Node). x.is_cluster ≡ true) d.node cluster in
      let either : (h.class ≡ c) ⊎ Holds m h.class c = elim (reaches_held h.class c reaches) [ inl same ↦ inl (sym same) | inr held ↦ inr held ] in
      subst (λ (p : Pos). BreaksC15 m (violation 15 p)) i.place (holds_itself c h.class d.decl i.instance d.declared is i.among i.class either)

  c15_is_back : (v : Violation) → BreaksC15 m v → LeadsBack (nodes_in m) v
  c15_is_back _ (holds_itself c k d i here cluster among class either) =
      let h : Held = record { class = k; pos = i.class.pos } in
      let reaches : Reaches (edges (nodes_in m)) k c = elim either [ inl same ↦ subst (Reaches (edges (nodes_in m)) k) same itself | inr held ↦ held_reaches k c held ] in
      leads_back c (node_of m d) h (node_here m c d here) cluster (is_held m (instances d) i k among class) reaches

  -- the least instance that leads back is the least by which a cluster class holds itself
  holding_found : (found : Option Violation) → LeastOf (LeadsBack (nodes_in m)) found → LeastOf (BreaksC15 m) found
  holding_found None none = λ v breaks. none v (c15_is_back v breaks)
  holding_found (Some v) is = record { violated = back_is_c15 v is.violated; least = λ u breaks. is.least u (c15_is_back u breaks) }

pub found_holding : (m : ModelTree) (ns seen : List Node) (r : Result (Option Violation) AllocError) → ns ≡ nodes_in m → seen ≡ ns → IfOk r (LeastOf (LeadsBack seen)) → IfOk r (LeastOf (BreaksC15 m))
found_holding m ns seen (Ok found) nodes_are seen_are is = holding_found m found (subst (λ (x : List Node). LeastOf (LeadsBack x) found) (seen_are ∙ nodes_are) is)
found_holding m ns seen (Err e) nodes_are seen_are is = tt

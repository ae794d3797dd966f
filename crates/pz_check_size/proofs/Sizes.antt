-- The totals of the levels are the sizes of what is expanded, as far as just above the limits.
use Rattle.std.proofs.Common.{◌≡◌, refl, sym, ap, subst, ◌∙◌, ℕ, zero, suc, ◌+◌, ◌<◌, true, nat_le, nat_lt, min, List, [], ◌∷◌, ◌++◌, map, length, Option, Some, None, slice_get, arith, ◌⊎◌, inl, inr}
use Rattle.std.specs.List.{Contains, flat_map}
use Rattle.std.specs.Option.{option_map_or}
use Rattle.std.proofs.lemmas.Bool.Decides.{nat_tests}
use Rattle.std.proofs.lemmas.List.{length-map}
use Rattle.pz_classes.specs.pz_syntax.declared.clusters.Instance.{Instance}
use Rattle.pz_classes.specs.pz_syntax.declared.clusters.SystemDecl.{SystemDecl}
use Rattle.pz_classes.specs.pz_syntax.Classes.{DeclTree, data_class, process_class, cluster_class, system, ModelTree}
use Rattle.pz_check_violations.specs.declared.violation.Violation.{Violation}
use Rattle.pz_check_violations.specs.Order.{violation}
use Rattle.pz_check_violations.specs.Least.{LeastOf, least_from, Member}
use Rattle.pz_check_violations.proofs.Members.{member_left, member_right, member_cases, listed_is, is_listed}
use Rattle.pz_check_violations.proofs.Leasts as leasts
use Rattle.pz_classes.specs.pz_classes_rules.Instances.{instances, channels, instance_class}
use Rattle.pz_classes.specs.pz_classes_rules.SizeRules as size
use Rattle.pz_classes.specs.pz_classes_rules.SizeRules.{system_of, systems, all_of, one_of, expanded, system_size, is_too_large, HasNoSize, BreaksC19, too_large}
use Rattle.pz_check_size.specs.declared.nodes.Node.{Node}
use Rattle.pz_check_size.specs.declared.totals.Totals.{Totals}
use Rattle.pz_check_size.specs.devices.Nodes.{all_held, node_of, nodes}
use Rattle.pz_check_size.specs.devices.Levels.{none_yet, capped_plus, is_above, total_in, with_all, total_with, level}
use Rattle.pz_check_size.specs.devices.Oversized.{oversized_at, oversized_among}

-- as far as just above the limits
abbrev capped : size.Totals → Totals
capped t = record { processes = min t.processes 10001; clusters = min t.clusters 10001; channels = min t.channels 1000001 }

capped_sum : (a b l : ℕ) → min (min a l + min b l) l ≡ min (a + b) l
capped_sum a b l = omega arith

capped_both : (a b : size.Totals) → capped_plus (capped a) (capped b) ≡ capped (size.plus a b)
capped_both a b = rw (capped_sum a.processes b.processes 10001, capped_sum a.clusters b.clusters 10001, capped_sum a.channels b.channels 1000001) refl

and_nothing : (t : size.Totals) → size.plus t size.nothing ≡ t
and_nothing t =
    let p : t.processes + 0 ≡ t.processes = omega arith in
    let c : t.clusters + 0 ≡ t.clusters = omega arith in
    let h : t.channels + 0 ≡ t.channels = omega arith in
    rw (p, c, h) refl

nothing_and : (t : size.Totals) → size.plus size.nothing t ≡ t
nothing_and t =
    let p : 0 + t.processes ≡ t.processes = omega arith in
    let c : 0 + t.clusters ≡ t.clusters = omega arith in
    let h : 0 + t.channels ≡ t.channels = omega arith in
    rw (p, c, h) refl

regrouped : (a b c : size.Totals) → size.plus (size.plus a b) c ≡ size.plus a (size.plus b c)
regrouped a b c =
    let p : (a.processes + b.processes) + c.processes ≡ a.processes + (b.processes + c.processes) = omega arith in
    let q : (a.clusters + b.clusters) + c.clusters ≡ a.clusters + (b.clusters + c.clusters) = omega arith in
    let r : (a.channels + b.channels) + c.channels ≡ a.channels + (b.channels + c.channels) = omega arith in
    rw (p, q, r) refl

module _ (m : ModelTree) where
  -- instances that are counted by totals of this level
  module _ (count : ℕ → size.Totals) (totals : List Totals) (agree : (k : ℕ) → total_in totals k ≡ capped (count k)) where
    with_all_is : (is : List Instance) (t : size.Totals) → with_all totals (capped t) (all_held m is) ≡ capped (size.plus t (all_of m count is))
    with_all_is [] t = ap capped (sym (and_nothing t))
    with_all_is (i ∷ is) t = by_class (instance_class m i.class.name) (with_all_is is)
      where
        by_class : (o : Option ℕ) → ((u : size.Totals) → with_all totals (capped u) (all_held m is) ≡ capped (size.plus u (all_of m count is)))
            → with_all totals (capped t) (option_map_or (λ k. record { class = k; pos = i.class.pos } ∷ []) o [] ++ all_held m is) ≡ capped (size.plus t (size.plus (option_map_or count o size.nothing) (all_of m count is)))
        by_class None on = on t ∙ ap (λ (u : size.Totals). capped (size.plus t u)) (sym (nothing_and (all_of m count is)))
        by_class (Some k) on =
            let one : capped_plus (capped t) (total_in totals k) ≡ capped (size.plus t (count k)) = ap (λ (u : Totals). capped_plus (capped t) u) (agree k) ∙ capped_both t (count k) in
            ap (λ (u : Totals). with_all totals u (all_held m is)) one ∙ (on (size.plus t (count k)) ∙ ap capped (regrouped t (count k) (all_of m count is)))

    one_is : (d : DeclTree) → total_with totals (node_of m d) ≡ capped (one_of m count d)
    one_is (data_class c) = refl
    one_is (process_class c) = refl
    one_is (cluster_class c) = with_all_is (instances (cluster_class c)) (record { processes = 0; clusters = 1; channels = length (channels (cluster_class c)) })
    one_is (system s) = with_all_is (instances (system s)) (record { processes = 0; clusters = 0; channels = length (channels (system s)) })

    at_decl : (ds : List DeclTree) (i : ℕ) → total_in (map (total_with totals) (map (node_of m) ds)) i ≡ capped (option_map_or (one_of m count) (slice_get ds i) size.nothing)
    at_decl [] i = refl
    at_decl (d ∷ ds) zero = one_is d
    at_decl (d ∷ ds) (suc i) = at_decl ds i

  none_at : (ns : List Node) (c : ℕ) → total_in (map (λ n. none_yet) ns) c ≡ none_yet
  none_at [] c = refl
  none_at (n ∷ ns) zero = refl
  none_at (n ∷ ns) (suc c) = none_at ns c

  level_is : (l c : ℕ) → total_in (level (nodes m) l) c ≡ capped (expanded m l c)
  level_is zero c = none_at (nodes m) c
  level_is (suc l) zero = refl
  level_is (suc l) (suc i) = at_decl (expanded m l) (level (nodes m) l) (level_is l) m.decls i

  size_at : (levels c i : ℕ) (s : SystemDecl) → levels ≡ suc (length m.decls) → c ≡ suc i → slice_get m.decls i ≡ Some (system s) → expanded m levels c ≡ system_size m s
  size_at levels c i s all number here = rw (all, number, here) refl

  levels_are : length (nodes m) ≡ suc (length m.decls)
  levels_are = ap (λ (k : ℕ). suc k) (length-map m.decls (node_of m))

above : (p : ℕ) → nat_le 10001 (min p 10001) ≡ nat_lt 10000 p
above p = grind (arith, nat_tests)

above_channels : (p : ℕ) → nat_le 1000001 (min p 1000001) ≡ nat_lt 1000000 p
above_channels p = grind (arith, nat_tests)

capped_above : (t : size.Totals) → is_above (capped t) ≡ is_too_large t
capped_above t = rw (above t.processes, above t.clusters, above_channels t.channels) refl

-- a system among these declarations, which is above a limit
record Above (totals : List Totals) (n : ℕ) (ds : List DeclTree) (v : Violation) : Type 0 where
  at : ℕ
  which : SystemDecl
  here : slice_get ds at ≡ Some (system which)
  above_it : is_above (total_in totals (at + n)) ≡ true
  place : violation 19 which.pos ≡ v

at_sound : (t : Totals) (d : DeclTree) (v : Violation) → Member v (oversized_at t d) → (s : SystemDecl) × (d ≡ system s) × (is_above t ≡ true) × (violation 19 s.pos ≡ v)
at_sound t (data_class c) v found = absurd found
at_sound t (process_class c) v found = absurd found
at_sound t (cluster_class c) v found = absurd found
at_sound t (system s) v found = let r = listed_is (is_above t) (violation 19 s.pos) v found in (s, refl, r.0, r.1)

among_sound : (totals : List Totals) (n : ℕ) (ds : List DeclTree) (v : Violation) → Member v (oversized_among totals n ds) → Above totals n ds v
among_sound totals n [] v found = absurd found
among_sound totals n (d ∷ ds) v found = by_part (member_cases v (oversized_at (total_in totals n) d) (oversized_among totals (suc n) ds) found) (among_sound totals (suc n) ds v)
  where
    by_part : Member v (oversized_at (total_in totals n) d) ⊎ Member v (oversized_among totals (suc n) ds) → (Member v (oversized_among totals (suc n) ds) → Above totals (suc n) ds v) → Above totals n (d ∷ ds) v
    by_part (inl first) on =
        let r = at_sound (total_in totals n) d v first in
        let none : 0 + n ≡ n = omega arith in
        record { at = 0; which = r.0; here = ap (λ (x : DeclTree). Some x) r.1; above_it = rw none r.2; place = r.3 }
    by_part (inr later) on =
        let rest : Above totals (suc n) ds v = on later in
        let same : suc rest.at + n ≡ rest.at + suc n = omega arith in
        record { at = suc rest.at; which = rest.which; here = rest.here; above_it = rw same rest.above_it; place = rest.place }

among_complete : (totals : List Totals) (n : ℕ) (ds : List DeclTree) (at : ℕ) (s : SystemDecl) → slice_get ds at ≡ Some (system s) → is_above (total_in totals (at + n)) ≡ true → Member (violation 19 s.pos) (oversized_among totals n ds)
among_complete totals n [] at s here is = cc
among_complete totals n (d ∷ ds) zero s here is =
    let none : 0 + n ≡ n = omega arith in
    let same : d ≡ system s = cc in
    let first : is_above (total_in totals n) ≡ true = rw none at is in
    member_left (violation 19 s.pos) (oversized_at (total_in totals n) d) (oversized_among totals (suc n) ds)
    (subst (λ (x : DeclTree). Member (violation 19 s.pos) (oversized_at (total_in totals n) x)) (sym same) (is_listed (is_above (total_in totals n)) (violation 19 s.pos) first))
among_complete totals n (d ∷ ds) (suc at) s here is =
    let same : suc at + n ≡ at + suc n = omega arith in
    let later : is_above (total_in totals (at + suc n)) ≡ true = rw same at is in
    member_right (violation 19 s.pos) (oversized_at (total_in totals n) d) (oversized_among totals (suc n) ds) (among_complete totals (suc n) ds at s here later)

-- the systems and their places among the declarations
in_systems : (ds : List DeclTree) (at : ℕ) (s : SystemDecl) → slice_get ds at ≡ Some (system s) → Contains (flat_map system_of ds) s
in_systems [] at s here = cc
in_systems (data_class c ∷ ds) zero s here = cc
in_systems (process_class c ∷ ds) zero s here = cc
in_systems (cluster_class c ∷ ds) zero s here = cc
in_systems (system t ∷ ds) zero s here = let same : t ≡ s = cc in (0, omega arith, same)
in_systems (data_class c ∷ ds) (suc at) s here = in_systems ds at s here
in_systems (process_class c ∷ ds) (suc at) s here = in_systems ds at s here
in_systems (cluster_class c ∷ ds) (suc at) s here = in_systems ds at s here
in_systems (system t ∷ ds) (suc at) s here = let rest = in_systems ds at s here in (suc rest.0, (let below : rest.0 < length (flat_map system_of ds) = rest.1 in omega arith), rest.2)

more_place : (d : DeclTree) (ds : List DeclTree) (s : SystemDecl) → ((at : ℕ) × (slice_get ds at ≡ Some (system s))) → (at : ℕ) × (slice_get (d ∷ ds) at ≡ Some (system s))
more_place d ds s (at, here) = (suc at, here)

system_place : (ds : List DeclTree) (s : SystemDecl) → Contains (flat_map system_of ds) s → (at : ℕ) × (slice_get ds at ≡ Some (system s))
system_place [] s (k, below, is) = absurd (omega arith)
system_place (data_class c ∷ ds) s among = more_place (data_class c) ds s (system_place ds s among)
system_place (process_class c ∷ ds) s among = more_place (process_class c) ds s (system_place ds s among)
system_place (cluster_class c ∷ ds) s among = more_place (cluster_class c) ds s (system_place ds s among)
system_place (system t ∷ ds) s (zero, below, is) = (0, ap (λ (x : SystemDecl). Some (system x)) is)
system_place (system t ∷ ds) s (suc k, below, is) = more_place (system t) ds s (system_place ds s (k, omega arith, is))

module _ (m : ModelTree) where
  above_is : (at : ℕ) (s : SystemDecl) → slice_get m.decls at ≡ Some (system s) → is_above (total_in (level (nodes m) (length (nodes m))) (at + 1)) ≡ is_too_large (system_size m s)
  above_is at s here =
      let number : at + 1 ≡ suc at = omega arith in
      ap is_above (level_is m (length (nodes m)) (at + 1) ∙ ap capped (size_at m (length (nodes m)) (at + 1) at s (levels_are m) number here)) ∙ capped_above (system_size m s)

  sound : (HasNoSize m → ⊥) → (v : Violation) → Member v (oversized_among (level (nodes m) (length (nodes m))) 1 m.decls) → BreaksC19 m v
  sound sized v found =
      let a : Above (level (nodes m) (length (nodes m))) 1 m.decls v = among_sound (level (nodes m) (length (nodes m))) 1 m.decls v found in
      subst (BreaksC19 m) a.place (too_large a.which sized (in_systems m.decls a.at a.which a.here) (sym (above_is a.at a.which a.here) ∙ a.above_it))

  complete : (v : Violation) → BreaksC19 m v → Member v (oversized_among (level (nodes m) (length (nodes m))) 1 m.decls)
  complete _ (too_large s sized among is) =
      let place = system_place m.decls s among in
      among_complete (level (nodes m) (length (nodes m))) 1 m.decls place.0 s place.1 (above_is place.0 s place.1 ∙ is)

  -- the least system that is too large
  oversized_found : (HasNoSize m → ⊥) → LeastOf (BreaksC19 m) (least_from None (oversized_among (level (nodes m) (length (nodes m))) 1 m.decls))
  oversized_found sized = leasts.least_found (BreaksC19 m) (oversized_among (level (nodes m) (length (nodes m))) 1 m.decls) (sound sized) complete

-- what the code finds
chained : (seen nm : List Node) (items totals : List Totals) (ds : List DeclTree) (found : Option Violation) → seen ≡ nm → items ≡ level seen (length seen) → totals ≡ items
    → found ≡ least_from None (oversized_among totals 1 ds) → found ≡ least_from None (oversized_among (level nm (length nm)) 1 ds)
chained seen nm items totals ds found seen_are items_are totals_are is =
    let all : totals ≡ level nm (length nm) = totals_are ∙ (items_are ∙ ap (λ (x : List Node). level x (length x)) seen_are) in
    is ∙ ap (λ (ts : List Totals). least_from None (oversized_among ts 1 ds)) all

pub found_oversized : (m : ModelTree) (ns seen : List Node) (items totals : List Totals) (found : Option Violation) → (HasNoSize m → ⊥) → ns ≡ nodes m → seen ≡ ns → items ≡ level seen (length seen) → totals ≡ items
    → found ≡ least_from None (oversized_among totals 1 m.decls) → LeastOf (BreaksC19 m) found
found_oversized m ns seen items totals found sized nodes_are seen_are items_are totals_are is =
    subst (LeastOf (BreaksC19 m)) (sym (chained seen (nodes m) items totals m.decls found (seen_are ∙ nodes_are) items_are totals_are is)) (oversized_found m sized)

-- Nodes seen as something else.
use Rattle.std.proofs.Common.{◌≡◌, ℕ, suc, ◌+◌, Bool, false, ◌||◌, eqb, ◌∷◌, Option, Some, None, refl, ap, sym, ◌∙◌, inl, inr}
use Rattle.std.specs.Prelude.{option_map}
use Rattle.pz_nodes_shapes.specs.declared.node.Node.{Node}
use Rattle.pz_nodes_shapes.specs.Rose.{Rose, Roses, node, none, gone, more, Map, root, roots, size, sizes, has, has_any, Apart, Stands, StandAll}
use Rattle.pz_nodes_shapes.specs.Change.{Change, no_key}
use Rattle.pz_nodes_shapes.specs.Seen.{seen_node, seen, seen_shape, seen_shapes}
use Rattle.pz_nodes_shapes.specs.Laws.{StandsSeen, ChangeSeen, DropSeen}

module _ {X Y : Type 0} (v : X → Y) where
  root_seen : (s : Rose X) → root (seen_shape v s) ≡ root s
  root_seen (node k x ss) = refl

  roots_seen : (ss : Roses X) → roots (seen_shapes v ss) ≡ roots ss
  roots_seen none = refl
  roots_seen (gone ss) = ap (λ z. None ∷ z) (roots_seen ss)
  roots_seen (more s ss) = (λ i. Some (root_seen s i) ∷ roots_seen ss i)

  mutual
    has_seen : (s : Rose X) (j : ℕ) → has (seen_shape v s) j ≡ has s j
    has_seen (node k x ss) j = ap (λ b. eqb j k || b) (has_any_seen ss j)

    has_any_seen : (ss : Roses X) (j : ℕ) → has_any (seen_shapes v ss) j ≡ has_any ss j
    has_any_seen none j = refl
    has_any_seen (gone ss) j = has_any_seen ss j
    has_any_seen (more s ss) j = λ i. has_seen s j i || has_any_seen ss j i

  mutual
    size_seen : (s : Rose X) → size (seen_shape v s) ≡ size s
    size_seen (node k x ss) = ap suc (sizes_seen ss)

    sizes_seen : (ss : Roses X) → sizes (seen_shapes v ss) ≡ sizes ss
    sizes_seen none = refl
    sizes_seen (gone ss) = sizes_seen ss
    sizes_seen (more s ss) = λ i. size_seen s i + sizes_seen ss i

  -- what is seen is something that is there
  was_there : (o : Option (Node X)) (n : Node Y) → option_map (seen_node v) o ≡ Some n → (w : Node X) × (o ≡ Some w) × (seen_node v w ≡ n)
  was_there None n e = absurd cc
  was_there (Some w) n e = (w, refl, cc)

  mutual
    stands : (m : Map X) (s : Rose Y) → Stands (seen v m) s → (t : Rose X) × Stands m t × (seen_shape v t ≡ s)
    stands m (node k y ss) h =
        let w = was_there (m k) (record { what = y; kids = roots ss }) h.0 in
        let ts = all_stand m ss h.2 in
        let kids : w.0.kids ≡ roots ts.0 = ap (λ n. n.kids) w.2 ∙ ap roots (sym ts.2) ∙ roots_seen ts.0 in
        let out : has_any ts.0 k ≡ false = sym (has_any_seen ts.0 k) ∙ ap (λ z. has_any z k) ts.2 ∙ h.1 in
        (node k w.0.what ts.0, (w.1 ∙ ap (λ z. Some (record { what = w.0.what; kids = z })) kids, out, ts.1), λ i. node k (w.2 i).what (ts.2 i))

    all_stand : (m : Map X) (ss : Roses Y) → StandAll (seen v m) ss → (ts : Roses X) × StandAll m ts × (seen_shapes v ts ≡ ss)
    all_stand m none h = (none, tt, refl)
    all_stand m (gone ss) h = let ts = all_stand m ss h in (gone ts.0, ts.1, ap gone ts.2)
    all_stand m (more s ss) h =
        let t = stands m s h.1 in
        let ts = all_stand m ss h.2 in
        let apart : Apart (has t.0) (has_any ts.0) = λ j p q. h.0 j (ap (λ z. has z j) (sym t.2) ∙ has_seen t.0 j ∙ p) (ap (λ z. has_any z j) (sym ts.2) ∙ has_any_seen ts.0 j ∙ q) in
        (more t.0 ts.0, (apart, t.1, ts.1), λ i. more (t.2 i) (ts.2 i))

pub stands_seen : {X Y : Type 0} → StandsSeen X Y
stands_seen {X} {Y} v = stands v

pub change_seen : {X Y : Type 0} → ChangeSeen X Y
change_seen {X} {Y} v m n f g c = record {
  kept = λ j p q. ap (option_map (seen_node v)) (c.kept j p q);
  freed = λ j p q. ap (option_map (seen_node v)) (c.freed j p q);
  fresh = λ j p. elim (c.fresh j p) [ inl q ↦ inl q | inr q ↦ inr (ap (option_map (seen_node v)) q) ];
}

-- the same keys, counted otherwise
of_keys : {Y : Type 0} (m n : Map Y) (f g h : ℕ → Bool) → ((j : ℕ) → f j ≡ g j) → Change m n f h → Change m n g h
of_keys m n f g h e c = record {
  kept = λ j p q. c.kept j (e j ∙ p) q;
  freed = λ j p q. c.freed j (e j ∙ p) q;
  fresh = λ j p. elim (c.fresh j p) [ inl q ↦ inl (sym (e j) ∙ q) | inr q ↦ inr q ];
}

pub drop_seen : {X Y : Type 0} → DropSeen X Y
drop_seen {X} {Y} v m n key old new d s h r =
    let t = stands v m s h in
    let a = d t.0 t.1 (sym (root_seen v t.0) ∙ ap root t.2 ∙ r) in
    let keys : (j : ℕ) → has t.0 j ≡ has s j = λ j. sym (has_seen v t.0 j) ∙ ap (λ z. has z j) t.2 in
    let size_is : size t.0 ≡ size s = sym (size_seen v t.0) ∙ ap size t.2 in
    (of_keys (seen v m) (seen v n) (has t.0) (has s) no_key keys (change_seen v m n (has t.0) no_key a.0), a.1 ∙ ap (λ z. old + z) size_is)

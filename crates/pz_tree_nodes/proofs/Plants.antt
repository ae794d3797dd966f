-- Nodes as they lie in the map stand for their term.
use Rattle.std.proofs.Common.{◌≡◌, ℕ, ◌||◌, eqb, ◌∷◌, Some, None, refl, ap, sym, ◌∙◌}
use Rattle.std.specs.Prelude.{option_map}
use Rattle.pz_nodes_shapes.specs.Rose.{Rose, Roses, node, none, gone, more, Map, root, roots, has, has_any, Stands, StandAll}
use Rattle.pz_nodes_shapes.specs.Seen.{seen_node, seen, seen_shape, seen_shapes}
use Rattle.pz_tree_nodes.specs.View.{what_view}
use Rattle.pz_tree_nodes.specs.Seeking.{TendedStand}

module _ {X Y : Type 0} (v : X → Y) where
  root_seen : (s : Rose X) → root (seen_shape v s) ≡ root s
  root_seen (node k x ss) = refl

  roots_seen : (ss : Roses X) → roots (seen_shapes v ss) ≡ roots ss
  roots_seen none = refl
  roots_seen (gone ss) = ap (λ z. None ∷ z) (roots_seen ss)
  roots_seen (more s ss) = (λ i. Some (root_seen s i) ∷ roots_seen ss i)

  mutual
    has_seen : (s : Rose X) (j : ℕ) → has (seen_shape v s) j ≡ has s j
    has_seen (node k x ss) j = ap (λ b. eqb j k || b) (has_any_seen ss j)

    has_any_seen : (ss : Roses X) (j : ℕ) → has_any (seen_shapes v ss) j ≡ has_any ss j
    has_any_seen none j = refl
    has_any_seen (gone ss) j = has_any_seen ss j
    has_any_seen (more s ss) j = λ i. has_seen s j i || has_any_seen ss j i

  mutual
    stands : (m : Map X) (s : Rose X) → Stands m s → Stands (seen v m) (seen_shape v s)
    stands m (node k x ss) h = (
      ap (option_map (seen_node v)) h.0 ∙ ap (λ z. Some (record { what = v x; kids = z })) (sym (roots_seen ss)),
      has_any_seen ss k ∙ h.1,
      all_stand m ss h.2,
    )

    all_stand : (m : Map X) (ss : Roses X) → StandAll m ss → StandAll (seen v m) (seen_shapes v ss)
    all_stand m none h = tt
    all_stand m (gone ss) h = all_stand m ss h
    all_stand m (more s ss) h = ((λ j p q. h.0 j (sym (has_seen s j) ∙ p) (sym (has_any_seen ss j) ∙ q)), stands m s h.1, all_stand m ss h.2)

pub tended_stand : TendedStand
tended_stand m f c p h t = record {
  shape = seen_shape what_view p;
  stands = stands what_view m p h;
  under = root_seen what_view p;
  whole = t.sound.whole;
  fits = t.sound.fits;
  means = refl;
}

-- What stands under a key is what is read there.
use Rattle.std.proofs.Common.{◌≡◌, ℕ, zero, suc, ◌≤◌, Some, refl, ap, arith}
use Rattle.pz_nodes_shapes.specs.Rose.{Rose, Roses, node, none, gone, more, Map, root, roots, size, sizes, Stands, StandAll}
use Rattle.pz_nodes_shapes.specs.Reading.{read, read_kids, depth, depths}

module _ {X : Type 0} where
  mutual
    pub reads : (m : Map X) (fuel : ℕ) (s : Rose X) → Stands m s → depth s ≤ fuel → read fuel m (root s) ≡ Some s
    reads m zero (node k x ss) h b = absurd (omega arith)
    reads m (suc fuel) (node k x ss) h b = rw (h.0, all_read m fuel ss h.2 (omega arith)) refl

    pub all_read : (m : Map X) (fuel : ℕ) (ss : Roses X) → StandAll m ss → depths ss ≤ fuel → read_kids (read fuel m) (roots ss) ≡ ss
    all_read m fuel none h b = refl
    all_read m fuel (gone ss) h b = ap gone (all_read m fuel ss h b)
    all_read m fuel (more s ss) h b = rw (reads m fuel s h.1 (omega arith), all_read m fuel ss h.2 (omega arith)) refl

  mutual
    pub depth_le : (s : Rose X) → depth s ≤ size s
    depth_le (node k x ss) = omega (arith, depths_le ss)

    pub depths_le : (ss : Roses X) → depths ss ≤ sizes ss
    depths_le none = omega arith
    depths_le (gone ss) = depths_le ss
    depths_le (more s ss) = omega (arith, depth_le s, depths_le ss)

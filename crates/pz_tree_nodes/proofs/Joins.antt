-- What is kept of parts side by side, however they are joined.
use Rattle.std.proofs.Common.{◌≡◌, ℕ, max, arith}
use Rattle.pz_rules.proofs.pz_offer_proofs.Joins.{join_associative, join_left, join_right}
use Rattle.pz_tree_nodes.specs.declared.kept.Kept.{Kept}
use Rattle.pz_tree_nodes.specs.Keeping.{kept_none, joined}
use Rattle.pz_tree_nodes.proofs.Wakings.{or_associative, or_none}

max_associative : (a b c : ℕ) → max (max a b) c ≡ max a (max b c)
max_associative a b c = omega arith

max_left : (a : ℕ) → max 0 a ≡ a
max_left a = omega arith

max_right : (a : ℕ) → max a 0 ≡ a
max_right a = omega arith

pub joined_associative : (k l r : Kept) → joined (joined k l) r ≡ joined k (joined l r)
joined_associative k l r = λ i. record {
  summary = join_associative k.summary l.summary r.summary i;
  asks = or_associative k.asks l.asks r.asks i;
  starts = or_associative k.starts l.starts r.starts i;
  clocked = or_associative k.clocked l.clocked r.clocked i;
  height = max_associative k.height l.height r.height i;
}

pub none_joined : (k : Kept) → joined kept_none k ≡ k
none_joined k = λ i. record { summary = join_left k.summary i; asks = k.asks; starts = k.starts; clocked = k.clocked; height = max_left k.height i }

pub joined_none : (k : Kept) → joined k kept_none ≡ k
joined_none k = λ i. record {
  summary = join_right k.summary i;
  asks = or_none k.asks i;
  starts = or_none k.starts i;
  clocked = or_none k.clocked i;
  height = max_right k.height i;
}

-- What a cycle that was found adds.
use Rattle.std.proofs.Common.{◌≡◌, ℕ, ◌↔◌, Bool, List, Option, Some, ◌⊎◌, inl, inr}
use Rattle.pz_classes_lineage.specs.Reached.{Reaches, GoesRound}
use Rattle.pz_classes_lineage.specs.devices.Walks.{IsWalked, Finds, IsMarked, AreFound}
use Rattle.pz_classes_lineage.proofs.CycleWays.{one_more, round_on}

module _ (up : ℕ → Option ℕ) (old new : List ℕ) (before : List Bool) (found : AreFound up old before) where
  pub found_cycle : (k : ℕ) (after : List Bool) → Finds up old new (Some k) → ((c : ℕ) → IsMarked after c ↔ (IsMarked before c ⊎ Reaches up k c)) → AreFound up new after
  found_cycle k after finds marked = record {
    sound = λ c is. sound c ((marked c).0 is);
    whole = λ c is goes. whole c goes (finds.1 c is goes);
    closed = λ c p is step. closed c p step ((marked c).0 is);
  }
    where
      sound : (c : ℕ) → IsMarked before c ⊎ Reaches up k c → GoesRound up c
      sound c (inl was) = found.sound c was
      sound c (inr way) = round_on up k c way finds.0

      whole : (c : ℕ) → GoesRound up c → IsWalked old c ⊎ Reaches up k c → IsMarked after c
      whole c goes (inl was) = (marked c).1 (inl (found.whole c was goes))
      whole c goes (inr way) = (marked c).1 (inr way)

      closed : (c p : ℕ) → up c ≡ Some p → IsMarked before c ⊎ Reaches up k c → IsMarked after p
      closed c p step (inl was) = (marked p).1 (inl (found.closed c p was step))
      closed c p step (inr way) = (marked p).1 (inr (one_more up k c p way step))

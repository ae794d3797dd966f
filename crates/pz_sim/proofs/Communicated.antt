-- The offer of a number is a communication of a pair that is taken.
use Rattle.std.proofs.Common.{◌≡◌, ◌<◌, ◌≤◌, ◌-◌, ℕ, zero, suc, List, [], ◌∷◌, map, length, Option, Some, None, refl, sym, ap, ◌∙◌, arith}
use Rattle.std.specs.Prelude.{slice_get, false}
use Rattle.std.proofs.Math.Logic.{∥∥₁_elim, ∥∥₁_map}
use Rattle.std.proofs.Math.Bool.{Bool-set}
use Rattle.pz_rules.specs.pz_classes_rules.Soundness.{IsSound}
use Rattle.pz_rules.specs.pz_offer.declared.end.End.{End}
use Rattle.pz_match.specs.declared.offers.Sender.{Sender}
use Rattle.pz_match.specs.Pairs.{Judged, taken, offered}
use Rattle.pz_match.specs.Table.{Table}
use Rattle.pz_rules.specs.Settings.{Setting}
use Rattle.pz_rules.specs.Laws.{WiresAreKnown}
use Rattle.pz_rules.specs.Offers.{IsPair}
use Rattle.pz_rules.specs.Runs.{IsChoice}
use Rattle.pz_sim_totals.specs.declared.total.Total.{Total}
use Rattle.pz_sim_totals.specs.Sums as sums
use Rattle.pz_sim_laws.specs.Members.{config_of}
use Rattle.pz_sim_laws.specs.Deciding.{offers_in}
use Rattle.pz_sim_laws.specs.Laws.{CommunicationsFollow, PairsAreCouples}
use Rattle.pz_tree.specs.declared.tree.Tree.{Tree}
use Rattle.pz_sim.specs.Members.{members_of}
use Rattle.pz_sim.specs.devices.Acting.{AreTold, communicated}
use Rattle.pz_sim.proofs.Chosen.{is_pair, chosen_communication, couples_there}
use Rattle.pz_sim.proofs.Replaced.{from_mapped}

none_within : {X Y : Type 0} (f : X → Y) (xs : List X) (j : ℕ) → j < length xs → None ≡ slice_get (map f xs) j → ⊥
none_within f [] j within e = omega (arith, within)
none_within f (x ∷ xs) zero within e = cc
none_within f (x ∷ xs) (suc j) within e = none_within f xs j (omega (arith, within)) e

module _ (setting : Setting) (clock : ℕ) (ts : List Tree) (totals : List Total) (table : Table) (told : ∥ AreTold setting clock ts totals table ∥₁) (k : ℕ) (past : (sums.all totals).summary.internal ≤ k)
    (pair : Option (Sender × End)) (pair_is : pair ≡ slice_get (map offered (taken table.pairs)) (k - (sums.all totals).summary.internal)) where
  pub pair_never : k < offers_in (sums.all totals) table.pairs → ((x : Sender × End) → pair ≡ Some x → ⊥) → ⊥
  pair_never below absent = by pair refl
    where
      by : (x : Option (Sender × End)) → pair ≡ x → ⊥
      by (Some x) e = absent x e
      by None e = none_within offered (taken table.pairs) (k - (sums.all totals).summary.internal) (omega (arith, below, past)) (sym e ∙ pair_is)

  module _ (s : Sender) (r : End) (some : pair ≡ Some (s, r)) where
    one : (p : Judged) × (slice_get (taken table.pairs) (k - (sums.all totals).summary.internal) ≡ Some p) × (offered p ≡ (s, r))
    one = from_mapped offered (taken table.pairs) (k - (sums.all totals).summary.internal) (s, r) (sym pair_is ∙ some)

    sends : one.0.sender ≡ s
    sends = ap (λ (x : Sender × End). x.0) one.2

    receives : one.0.receiver.end ≡ r
    receives = ap (λ (x : Sender × End). x.1) one.2

    pub pair_there : PairsAreCouples → WiresAreKnown → IsSound setting.model → ∥ IsPair setting (config_of clock (members_of setting.model ts)) s.wire s.end r s.message s.parcel ∥₁
    pair_there couples wires sound = ∥∥₁_map told (λ y. is_pair setting clock ts totals table y k past s r one.0 one.1 sends receives (couples_there setting clock ts totals table y couples wires sound))

    pub pair_chosen : CommunicationsFollow → PairsAreCouples → WiresAreKnown → IsSound setting.model
        → ∥ IsChoice setting (config_of clock (members_of setting.model ts)) (offers_in (sums.all totals) table.pairs) k (communicated s r) ∥₁
    pair_chosen follow couples wires sound =
        ∥∥₁_map told (λ y. chosen_communication setting clock ts totals table y k past s r one.0 one.1 sends receives follow (couples_there setting clock ts totals table y couples wires sound))

pub table_there : (setting : Setting) (clock : ℕ) (ts : List Tree) (totals : List Total) (table : Table) → ∥ AreTold setting clock ts totals table ∥₁ → table.lost ≡ false
table_there setting clock ts totals table told = ∥∥₁_elim told (Bool-set table.lost false) (λ k. k.is_table.there)

-- A simulator that goes on by an offer.
use Rattle.std.proofs.Common.{◌≡◌, ◌<◌, ℕ, List, Ok, Err, refl, sym, subst, ap, ◌∙◌, arith}
use Rattle.std.proofs.Math.Logic.{∥∥₁_elim, ∥∥₁_map, ∥∥₁_map₂}
use Rattle.std.proofs.Math.Nat.{ℕ_set}
use Rattle.pz_rules.specs.pz_classes_rules.Soundness.{IsSound}
use Rattle.pz_match.specs.Table.{Table}
use Rattle.pz_rules.specs.pz_offer.declared.trouble.Trouble.{Trouble}
use Rattle.pz_rules.specs.declared.moment.Moment.{Moment}
use Rattle.pz_rules.specs.declared.moment.Moment.TheVariants.{Actions, Stopped, Broken}
use Rattle.pz_rules.specs.Settings.{Setting}
use Rattle.pz_rules.specs.Configurations.{Config}
use Rattle.pz_rules.specs.Fitting.{IsFit}
use Rattle.pz_rules.specs.Laws.{WiresAreKnown, OneMoment}
use Rattle.pz_rules.specs.Moments as moments
use Rattle.pz_rules.specs.Moments.{IsFirstHigh, IsMoment}
use Rattle.pz_rules.specs.Runs.{whole, stopped}
use Rattle.pz_rules.specs.devices.Start.{start_of}
use Rattle.pz_sim_totals.specs.declared.total.Total.{Total}
use Rattle.pz_sim_totals.specs.Sums as sums
use Rattle.pz_sim_laws.specs.Members.{config_of}
use Rattle.pz_sim_laws.specs.Deciding.{total_of_all, offers_in, decided}
use Rattle.pz_sim_laws.specs.Laws.{MomentIsDecided, PairsAreCouples}
use Rattle.pz_sim_laws.specs.Leading.{LeadsTo, MerelyLeads}
use Rattle.pz_term_simulator.specs.Simulations as simulations
use Rattle.pz_term_simulator.specs.Simulations.{Simulation, stands, Chooses, IsMomentOf, setting_in}
use Rattle.pz_tree.specs.declared.tree.Tree.{Tree}
use Rattle.pz_sim.specs.Costs.{TakesSoon, ChoosesSoon, IfGoesOn}
use Rattle.pz_sim.specs.Members.{members_of}
use Rattle.pz_sim.specs.Sims.{simulation_at}
use Rattle.pz_sim.specs.declared.standing.Standing.{Standing}
use Rattle.pz_sim.specs.declared.standing.Standing.TheVariants as standing
use Rattle.pz_sim.specs.devices.Acting.{AreTold, HasAdvanced}
use Rattle.pz_sim.specs.devices.Holding.{AreKept, Holds}
use Rattle.pz_sim.proofs.Chosen.{as_many, totals_all, couples_there}
use Rattle.pz_sim.proofs.Kept.{kept_moment}

pub setting_stays : (setting : Setting) (clock : ℕ) (ts us : List Tree) (x y : Standing) → setting_in (simulation_at setting clock us y) ≡ setting_in (simulation_at setting clock ts x)
setting_stays setting clock ts us x y = of us y ∙ sym (of ts x)
  where
    of : (vs : List Tree) (z : Standing) → setting_in (simulation_at setting clock vs z) ≡ setting
    of vs (standing.Whole moment) = refl
    of vs (standing.High trouble) = refl
    of vs (standing.Stopped trouble) = refl
    of vs standing.Broken = refl

-- a start that is too high offers nothing
never_high : OneMoment → (setting : Setting) (n : ℕ) (trouble : Trouble) → IsMoment setting (start_of setting) (Actions n) → IsFirstHigh setting (start_of setting) trouble → ⊥
never_high one setting n trouble is high =
    let e = one setting (start_of setting) (Actions n) (Stopped trouble) is (record { applies = moments.high trouble high; first = λ m applies. omega arith }) in cc

module _ (one : OneMoment) (setting : Setting) (clock : ℕ) (ts : List Tree) (totals : List Total) (table : Table) (n : ℕ) where
  -- where there are offers, a simulator is whole
  pub whole_there : (s : Standing) → IsMomentOf (simulation_at setting clock ts s) (Actions n) → ∥ Holds setting clock ts totals table s ∥₁ → (moment : Moment) × (s ≡ standing.Whole moment)
  whole_there (standing.Whole moment) is h = (moment, refl)
  whole_there (standing.High trouble) is h = absurd (∥∥₁_elim h (λ x y. absurd x) (λ k. never_high one setting n trouble is k.1))
  whole_there (standing.Stopped trouble) is h = absurd (let e : Actions n ≡ Stopped trouble = is in cc)
  whole_there standing.Broken is h = absurd (let e : Actions n ≡ Broken = is in cc)

  module _ (s : Standing) (is : IsMomentOf (simulation_at setting clock ts s) (Actions n)) (h : ∥ Holds setting clock ts totals table s ∥₁) where
    abbrev there : (moment : Moment) × (s ≡ standing.Whole moment)
    there = whole_there s is h

    abbrev c : Config
    c = config_of clock (members_of setting.model ts)

    kept : ∥ AreKept setting clock ts totals table there.0 ∥₁
    kept = subst (λ (x : Standing). ∥ Holds setting clock ts totals table x ∥₁) there.1 h

    pub now : IsMoment setting c (Actions n)
    now = subst (λ (x : Standing). IsMomentOf (simulation_at setting clock ts x) (Actions n)) there.1 is

    pub told_there : ∥ AreTold setting clock ts totals table ∥₁
    told_there = ∥∥₁_map kept (λ k. record { are_trees = k.are_trees; are_totals = k.are_totals; is_table = k.is_table })

    fit_there : ∥ IsFit setting c ∥₁
    fit_there = ∥∥₁_map kept (λ k. k.are_trees.fit)

    pub many_there : MomentIsDecided → PairsAreCouples → WiresAreKnown → IsSound setting.model → offers_in (sums.all totals) table.pairs ≡ n
    many_there decides couples wires sound = ∥∥₁_elim kept (ℕ_set (offers_in (sums.all totals) table.pairs) n) (λ k.
        let ms = members_of setting.model ts in
        let told : AreTold setting clock ts totals table = record { are_trees = k.are_trees; are_totals = k.are_totals; is_table = k.is_table } in
        let same : there.0 ≡ Actions n = one setting c there.0 (Actions n) (kept_moment decides couples wires setting clock ts totals table there.0 sound k) now in
        ap (λ (total : Total). offers_in total table.pairs) (sym (totals_all setting clock ts totals table told))
        ∙ as_many clock n (total_of_all clock ms) table.pairs (sym k.is_moment ∙ same))

    pub below_there : MomentIsDecided → PairsAreCouples → WiresAreKnown → IsSound setting.model → (k : ℕ) → k < n → k < offers_in (sums.all totals) table.pairs
    below_there decides couples wires sound k below = subst (λ (j : ℕ). k < j) (sym (many_there decides couples wires sound)) below

    old_is : simulation_at setting clock ts s ≡ stands setting c whole
    old_is = ap (simulation_at setting clock ts) there.1

    -- what it has become is chosen
    pub has_chosen : MerelyLeads → IsSound setting.model → (k : ℕ) (us : List Tree) (x : Standing) → HasAdvanced setting clock n k ts us x → Chooses k (simulation_at setting clock ts s) (simulation_at setting clock us x)
    has_chosen merely sound k us (standing.Whole moment) advanced =
        let l : LeadsTo setting c n k (Ok (config_of clock (members_of setting.model us))) = merely setting c n k (Ok (config_of clock (members_of setting.model us))) sound fit_there advanced in
        subst (λ (old : Simulation). Chooses k old (stands setting (config_of clock (members_of setting.model us)) whole)) (sym old_is)
        (simulations.acts setting c (config_of clock (members_of setting.model us)) n l.action now l.chosen l.next)
    has_chosen merely sound k us (standing.Stopped trouble) advanced =
        let l : LeadsTo setting c n k (Err trouble) = merely setting c n k (Err trouble) sound fit_there advanced.0 in
        subst (λ (old : Simulation). Chooses k old (stands setting (config_of clock (members_of setting.model us)) (stopped trouble))) (sym old_is)
        (subst (λ (vs : List Tree). Chooses k (stands setting c whole) (stands setting (config_of clock (members_of setting.model vs)) (stopped trouble))) (sym advanced.1)
        (simulations.stops setting c n l.action trouble now l.chosen l.next))
    has_chosen merely sound k us (standing.High trouble) advanced = absurd advanced
    has_chosen merely sound k us standing.Broken advanced = absurd advanced

-- the pairs that it has come to are those of the rules
pub chosen_soon : PairsAreCouples → WiresAreKnown → (setting : Setting) (clock n k : ℕ) (ts us : List Tree) (totals : List Total) (table : Table) (begun ended : ℕ) → IsSound setting.model
    → (x : Standing) → HasAdvanced setting clock n k ts us x → ∥ Holds setting clock us totals table x ∥₁
    → IfGoesOn (simulation_at setting clock us x) (∥ TakesSoon setting clock k ts us table.pairs begun ended ∥₁) → IfGoesOn (simulation_at setting clock us x) (∥ ChoosesSoon setting clock k ts us begun ended ∥₁)
chosen_soon couples wires setting clock n k ts us totals table begun ended sound (standing.Whole moment) advanced h soon = ∥∥₁_map₂ h soon (λ (y : AreKept setting clock us totals table moment) z. record {
  pairs = table.pairs;
  couples = couples_there setting clock us totals table (record { are_trees = y.are_trees; are_totals = y.are_totals; is_table = y.is_table }) couples wires sound;
  takes = z;
})
chosen_soon couples wires setting clock n k ts us totals table begun ended sound (standing.Stopped trouble) advanced h soon = tt
chosen_soon couples wires setting clock n k ts us totals table begun ended sound (standing.High trouble) advanced h soon = absurd advanced
chosen_soon couples wires setting clock n k ts us totals table begun ended sound standing.Broken advanced h soon = tt

-- what is told, with the moment that it decides, is kept
pub kept_anew : (setting : Setting) (clock : ℕ) (ts : List Tree) (totals : List Total) (table : Table) (moment : Moment) → ∥ AreTold setting clock ts totals table ∥₁ → moment ≡ decided clock (sums.all totals) table.pairs
    → ∥ AreKept setting clock ts totals table moment ∥₁
kept_anew setting clock ts totals table moment told is = ∥∥₁_map told (λ k. record {
  are_trees = k.are_trees;
  are_totals = k.are_totals;
  is_table = k.is_table;
  is_moment = is ∙ ap (λ (total : Total). decided clock total table.pairs) (sym (totals_all setting clock ts totals table k));
})

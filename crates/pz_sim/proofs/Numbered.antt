-- The offer of a number, as it was found.
use Rattle.std.proofs.Common.{◌≡◌, ◌<◌, ◌≤◌, ◌-◌, ◌^◌, ℕ, zero, suc, false, List, [], ◌∷◌, length, map, Option, Some, None, Result, Ok, Err, refl, sym, ap, subst, ◌∙◌, arith}
use Rattle.std.specs.Prelude.{slice_get, option_map, IfOk}
use Rattle.std.specs.Coded.{le_prop}
use Rattle.std.specs.declared.alloc.AllocError.{AllocError}
use Rattle.std.proofs.Math.Logic.{∥∥₁_elim, ∥∥₁_map}
use Rattle.std.proofs.Math.Nat.{ℕ_set}
use Rattle.std.proofs.Math.Bool.{Bool-set}
use Rattle.std.proofs.lemmas.List.{length-map}
use Rattle.pz_rules.specs.pz_syntax.Classes.{ModelTree}
use Rattle.pz_rules.specs.pz_bind_rules.Nest.{processes}
use Rattle.pz_bind.specs.devices.Nets.{IsNet}
use Rattle.pz_bind.specs.declared.net.Net.{Net}
use Rattle.pz_rules.specs.pz_classes_rules.Soundness.{IsSound}
use Rattle.pz_match.specs.declared.offers.Sender.{Sender}
use Rattle.pz_match.specs.Pairs.{Judged, taken, offered}
use Rattle.pz_match.specs.Table.{Table}
use Rattle.pz_rules.specs.pz_offer.declared.end.End.{End}
use Rattle.pz_rules.specs.declared.action.Action.{Action}
use Rattle.pz_rules.specs.declared.action.Action.TheVariants.{Internal, Comm}
use Rattle.pz_rules.specs.declared.moment.Moment.TheVariants.{Actions}
use Rattle.pz_rules.specs.Laws.{WiresAreKnown, OneMoment}
use Rattle.pz_rules.specs.Runs.{IsChoice}
use Rattle.pz_rules.specs.Settings.{Setting}
use Rattle.pz_rules.specs.Configurations.{Config}
use Rattle.pz_rules.specs.devices.Walk.{internal_actions}
use Rattle.pz_sim_totals.specs.declared.total.Total.{Total}
use Rattle.pz_sim_totals.specs.declared.totals.Found.{Found}
use Rattle.pz_sim_totals.specs.Sums as sums
use Rattle.pz_sim_totals.specs.Sums.{IsAction}
use Rattle.pz_sim_laws.specs.Members.{config_of}
use Rattle.pz_sim_laws.specs.Deciding.{total_of, offers_in}
use Rattle.pz_sim_laws.specs.Laws.{InternalsComeFirst, CommunicationsFollow, MomentIsDecided, PairsAreCouples}
use Rattle.pz_sim_laws.specs.Leading.{MerelyChosen}
use Rattle.pz_term_simulator.specs.Simulations.{Simulation, IsMomentOf, IsOffer}
use Rattle.pz_tree.specs.declared.found.InternalAction.{InternalAction}
use Rattle.pz_tree.specs.declared.tree.Tree.{Tree}
use Rattle.pz_tree.specs.Asking.{noted_view}
use Rattle.pz_tree.specs.Trees.{IsFresh, at_in, term_in}
use Rattle.pz_sim.specs.Members.{member_of, members_of}
use Rattle.pz_sim.specs.Sims.{simulation_at}
use Rattle.pz_sim.specs.declared.standing.Standing.{Standing}
use Rattle.pz_sim.specs.declared.standing.Standing.TheVariants as standing
use Rattle.pz_sim.specs.devices.Acting.{AreTold}
use Rattle.pz_sim.specs.devices.Holding.{Holds}
use Rattle.pz_sim.specs.devices.Numbered.{HasAction, IsActionOf, IsCommunication}
use Rattle.pz_sim.proofs.Advanced.{whole_there, told_there, below_there}
use Rattle.pz_sim.proofs.Chosen.{number_within, couples_there, chosen_internal, chosen_communication}
use Rattle.pz_sim.proofs.Found.{found_below}
use Rattle.pz_sim.proofs.Replaced.{from_mapped, all_at}

-- an internal action that is there is found
nothing_past : {X : Type 0} (xs : List X) (n : ℕ) → n < length xs → None ≡ slice_get xs n → ⊥
nothing_past [] n within e = omega (arith, within)
nothing_past (x ∷ xs) zero within e = cc
nothing_past (x ∷ xs) (suc n) within e = nothing_past xs n (omega (arith, within)) e

pub never_none : (t : Tree) (n : ℕ) (o : Option InternalAction) → ∥ ((m : ModelTree) × IsFresh m t × HasAction m t n) ∥₁
    → ((m : ModelTree) → IsFresh m t → option_map noted_view o ≡ slice_get (internal_actions (at_in m t) (term_in t)) n) → ((x : InternalAction) → o ≡ Some x → ⊥) → ⊥
never_none t n (Some x) there says absent = absent x refl
never_none t n None there says absent = ∥∥₁_elim there (λ x y. absurd x) (λ x. nothing_past (internal_actions (at_in x.0 t) (term_in t)) n x.2 (says x.0 x.1))

pub action_found : (m : ModelTree) (t : Tree) (i n : ℕ) (o : Option InternalAction) (x : InternalAction) → o ≡ Some x → option_map noted_view o ≡ slice_get (internal_actions (at_in m t) (term_in t)) n
    → (a : Action) → a ≡ Internal (record { process = i; place = x.place }) x.kind x.pos → IsActionOf m t i n a
action_found m t i n o x is says a same = record { noted = noted_view x; is = sym says ∙ ap (option_map noted_view) is; action = same }

-- so is a pair
no_pair : (ps : List Judged) (n : ℕ) → n < length ps → None ≡ slice_get (map offered ps) n → ⊥
no_pair [] n within e = omega (arith, within)
no_pair (p ∷ ps) zero within e = cc
no_pair (p ∷ ps) (suc n) within e = no_pair ps n (omega (arith, within)) e

pub never_paired : (ps : List Judged) (n : ℕ) (o : Option (Sender × End)) → n < length (taken ps) → o ≡ slice_get (map offered (taken ps)) n → ((x : Sender × End) → o ≡ Some x → ⊥) → ⊥
never_paired ps n (Some x) within e absent = absent x refl
never_paired ps n None within e absent = no_pair (taken ps) n within e

pub pair_found : (ps : List Judged) (n : ℕ) (o : Option (Sender × End)) (s : Sender) (r : End) → o ≡ Some (s, r) → o ≡ slice_get (map offered (taken ps)) n
    → (a : Action) → a ≡ Comm s.wire s.end r s.message s.parcel → IsCommunication ps n a
pair_found ps n o s r is e a same =
    let made = from_mapped offered (taken ps) n (s, r) (sym e ∙ is) in
    record { pair = made.0; is = made.1; action = same ∙ ap (λ (x : Sender × End). Comm x.0.wire x.0.end x.1 x.0.message x.0.parcel) (sym made.2) }

module _ (one : OneMoment) (setting : Setting) (clock : ℕ) (ts : List Tree) (totals : List Total) (table : Table) (s : Standing) (n k : ℕ)
    (is : IsMomentOf (simulation_at setting clock ts s) (Actions n)) (h : ∥ Holds setting clock ts totals table s ∥₁) where
  abbrev c : Config
  c = config_of clock (members_of setting.model ts)

  told : ∥ AreTold setting clock ts totals table ∥₁
  told = told_there one setting clock ts totals table n s is h

  -- there are offers only where it is whole
  pub never_other : ((moment : _) → s ≡ standing.Whole moment → ⊥) → ⊥
  never_other absent = let there = whole_there one setting clock ts totals table n s is h in absent there.0 there.1

  offer_is : MerelyChosen → IsSound setting.model → (a : Action) → ∥ IsChoice setting c (offers_in (sums.all totals) table.pairs) k a ∥₁ → IsOffer (simulation_at setting clock ts s) k a
  offer_is merely sound a chosen =
      let x = merely setting c (offers_in (sums.all totals) table.pairs) k a sound chosen in
      subst (λ (y : Simulation). IsOffer y k a) (sym (ap (simulation_at setting clock ts) (whole_there one setting clock ts totals table n s is h).1))
      (record { offers = x.offers; all = x.all; chosen = x.chosen })

  module _ (found : Found) (at : IsAction totals k found) where
    pub process_within : found.process < length ts
    process_within = ∥∥₁_elim told le_prop (λ x.
        let same : length totals ≡ length ts = ap (λ (xs : List Total). length xs) x.are_totals ∙ length-map (members_of setting.model ts) (total_of clock) ∙ length-map ts (member_of setting.model) in
        let within = at.process in
        omega (arith, same, within))

    pub process_below : (net : Net) (count : ℕ) → ∥ IsNet setting.model net ∥₁ → ((m : ModelTree) → IsNet m net → count ≡ length (processes m)) → count ≤ 10000 → found.process < 2 ^ 32
    process_below net count known counted few =
        found_below setting clock ts totals table told found k at count (2 ^ 32)
        (∥∥₁_elim known (ℕ_set count (length (processes setting.model))) (counted setting.model)) (omega (arith, few))

    module _ (t : Tree) (t_is : slice_get ts found.process ≡ Some t) where
      pub has_action : ∥ ((m : ModelTree) × IsFresh m t × HasAction m t found.number) ∥₁
      has_action = ∥∥₁_map told (λ x. (setting.model, all_at (IsFresh setting.model) ts found.process t x.are_trees.fresh t_is, number_within setting clock ts totals table x k found at t t_is))

      pub internal_offered : MerelyChosen → InternalsComeFirst → PairsAreCouples → WiresAreKnown → IsSound setting.model
          → (r : Result Action AllocError) → ((m : ModelTree) → IsFresh m t → IfOk r (IsActionOf m t found.process found.number)) → IfOk r (IsOffer (simulation_at setting clock ts s) k)
      internal_offered merely first couples wires sound (Err e) says = tt
      internal_offered merely first couples wires sound (Ok a) says = offer_is merely sound a (∥∥₁_map told (λ x.
          let acts = says setting.model (all_at (IsFresh setting.model) ts found.process t x.are_trees.fresh t_is) in
          subst (λ (b : Action). IsChoice setting c (offers_in (sums.all totals) table.pairs) k b) (sym acts.action)
          (chosen_internal setting clock ts totals table x k found at t t_is (record { place = acts.noted.place; kind = acts.noted.what.kind; pos = acts.noted.what.pos }) acts.is first
          (couples_there setting clock ts totals table x couples wires sound))))

  pub table_there : table.lost ≡ false
  table_there = ∥∥₁_elim told (Bool-set table.lost false) (λ x. x.is_table.there)

  module _ (past : (sums.all totals).summary.internal ≤ k) where
    pub number_left : MomentIsDecided → PairsAreCouples → WiresAreKnown → IsSound setting.model → k < n → k - (sums.all totals).summary.internal < length (taken table.pairs)
    number_left decides couples wires sound below =
        let all = below_there one setting clock ts totals table n s is h decides couples wires sound k below in
        omega (arith, past, all)

    pub communication_offered : MerelyChosen → CommunicationsFollow → PairsAreCouples → WiresAreKnown → IsSound setting.model
        → (r : Result Action AllocError) → IfOk r (IsCommunication table.pairs (k - (sums.all totals).summary.internal)) → IfOk r (IsOffer (simulation_at setting clock ts s) k)
    communication_offered merely follow couples wires sound (Err e) says = tt
    communication_offered merely follow couples wires sound (Ok a) says = offer_is merely sound a (∥∥₁_map told (λ x.
        subst (λ (b : Action). IsChoice setting c (offers_in (sums.all totals) table.pairs) k b) (sym says.action)
        (chosen_communication setting clock ts totals table x k past says.pair.sender says.pair.receiver.end says.pair says.is refl refl follow
        (couples_there setting clock ts totals table x couples wires sound))))

-- Which action the offer of a number is, from totals and table.
use Rattle.std.proofs.Common.{◌≡◌, ◌<◌, ◌≤◌, ◌+◌, ◌-◌, ℕ, zero, suc, List, [], ◌∷◌, length, Option, Some, None, refl, sym, subst, ap, ◌∙◌, arith}
use Rattle.std.specs.Prelude.{slice_get, slice_index_or, option_map}
use Rattle.std.specs.Option.{option_or}
use Rattle.std.proofs.lemmas.Option.{same_Some}
use Rattle.std.proofs.lemmas.List.Elements.{All-filter}
use Rattle.pz_rules.specs.pz_classes_rules.Soundness.{IsSound}
use Rattle.pz_rules.specs.pz_offer.declared.end.End.{End}
use Rattle.pz_rules.specs.pz_offer.declared.trouble.Trouble.{Trouble}
use Rattle.pz_match.specs.declared.offers.Sender.{Sender}
use Rattle.pz_match.specs.Pairs.{Judged, taken, first_trouble, is_yes}
use Rattle.pz_match.specs.Table.{Table}
use Rattle.pz_rules.specs.declared.moment.Moment.{Moment}
use Rattle.pz_rules.specs.declared.moment.Moment.TheVariants.{Actions}
use Rattle.pz_rules.specs.declared.action.Action.{Action}
use Rattle.pz_rules.specs.declared.action.Action.TheVariants.{Internal}
use Rattle.pz_rules.specs.Settings.{Setting}
use Rattle.pz_rules.specs.Configurations.{Config}
use Rattle.pz_rules.specs.InternalActions.{Can}
use Rattle.pz_rules.specs.Laws.{WiresAreKnown}
use Rattle.pz_rules.specs.Offers.{IsPair}
use Rattle.pz_rules.specs.Runs.{IsChoice}
use Rattle.pz_rules.specs.devices.Walk as walk
use Rattle.pz_rules.specs.devices.Walk.{Noted, internal_actions}
use Rattle.pz_rules.specs.devices.Walks.{IsThere, InternalActionsAreListed}
use Rattle.pz_sim_totals.specs.declared.total.Total.{Total}
use Rattle.pz_sim_totals.specs.declared.totals.Found.{Found}
use Rattle.pz_sim_totals.specs.Sums as sums
use Rattle.pz_sim_totals.specs.Sums.{IsAction}
use Rattle.pz_sim_laws.specs.Members.{Member, config_of}
use Rattle.pz_sim_laws.specs.Couples.{AreCouples, IsCouple, communication}
use Rattle.pz_sim_laws.specs.Deciding.{total_of, total_of_all, offers_in, decided, calm, unless}
use Rattle.pz_sim_laws.specs.Laws.{InternalsComeFirst, CommunicationsFollow, PairsAreCouples}
use Rattle.pz_tree.specs.Deeds.{CanAct}
use Rattle.pz_tree.specs.declared.found.InternalAction.{InternalAction}
use Rattle.pz_tree.specs.declared.tree.Tree.{Tree}
use Rattle.pz_tree.specs.Asking.{noted_view}
use Rattle.pz_tree.specs.Trees.{at_in, term_in}
use Rattle.pz_sim.specs.Members.{member_of, members_of}
use Rattle.pz_sim.specs.devices.Acting.{AreTold, CanDoAt, communicated}
use Rattle.pz_sim.proofs.Acted.{member_is}
use Rattle.pz_sim.proofs.Replaced.{got_mapped, all_at}

-- where actions are what is decided, so many offers there are
counted : (clock n offers : ℕ) (due : Option ℕ) (left : ℕ) → calm clock offers due left ≡ Actions n → offers ≡ n
counted clock n (suc k) due left e = cc
counted clock n zero (Some d) left e = cc
counted clock n zero None zero e = cc
counted clock n zero None (suc k) e = cc

untroubled : (t : Option Trouble) (m : Moment) (n : ℕ) → unless t m ≡ Actions n → m ≡ Actions n
untroubled (Some t) m n e = cc
untroubled None m n e = e

pub as_many : (clock n : ℕ) (total : Total) (ps : List Judged) → decided clock total ps ≡ Actions n → offers_in total ps ≡ n
as_many clock n total ps e =
    counted clock n (offers_in total ps) total.summary.due total.unfinished
    (untroubled (option_or total.summary.trouble (first_trouble ps)) (calm clock (offers_in total ps) total.summary.due total.unfinished) n e)

-- what stands at a place within
pub got_index : {X : Type 0} (xs : List X) (k : ℕ) (d x : X) → slice_get xs k ≡ Some x → slice_index_or xs k d ≡ x
got_index [] k d x is = cc
got_index (z ∷ xs) zero d x is = same_Some z x is
got_index (z ∷ xs) (suc k) d x is = got_index xs k d x is

module _ (setting : Setting) (clock : ℕ) (ts : List Tree) (totals : List Total) (table : Table) (told : AreTold setting clock ts totals table) where
  abbrev ms : List Member
  ms = members_of setting.model ts

  abbrev c : Config
  c = config_of clock ms

  pub totals_all : total_of_all clock ms ≡ sums.all totals
  totals_all = ap sums.all (sym told.are_totals)

  pub couples_there : PairsAreCouples → WiresAreKnown → IsSound setting.model → AreCouples setting c table.pairs
  couples_there couples wires sound =
      couples setting clock ms table.senders table.receivers table.pairs (wires setting.model sound) told.are_trees.members told.is_table.senders told.is_table.receivers told.is_table.pairs told.is_table.truthful

  -- Internal actions

  module _ (k : ℕ) (found : Found) (is : IsAction totals k found) (t : Tree) (t_is : slice_get ts found.process ≡ Some t) where
    -- there are so many of this process
    pub number_within : found.number < length (internal_actions (at_in setting.model t) (term_in t))
    number_within =
        let got : slice_get totals found.process ≡ Some (total_of clock (member_of setting.model t)) =
        ap (λ (xs : List Total). slice_get xs found.process) told.are_totals ∙ got_mapped (total_of clock) ms found.process (member_of setting.model t) (got_mapped (member_of setting.model) ts found.process t t_is) in
        subst (λ (x : Total). found.number < x.summary.internal) (got_index totals found.process sums.none (total_of clock (member_of setting.model t)) got) is.number

    pub never_none : (action : Option InternalAction) → option_map noted_view action ≡ slice_get (internal_actions (at_in setting.model t) (term_in t)) found.number → ((x : InternalAction) → action ≡ Some x → ⊥) → ⊥
    never_none (Some x) e absent = absent x refl
    never_none None e absent = nothing_past (internal_actions (at_in setting.model t) (term_in t)) found.number number_within e
      where
        nothing_past : {X : Type 0} (xs : List X) (n : ℕ) → n < length xs → None ≡ slice_get xs n → ⊥
        nothing_past [] n within e = omega (arith, within)
        nothing_past (x ∷ xs) zero within e = cc
        nothing_past (x ∷ xs) (suc n) within e = nothing_past xs n (omega (arith, within)) e

    module _ (x : InternalAction) (x_is : slice_get (internal_actions (at_in setting.model t) (term_in t)) found.number ≡ Some (noted_view x)) where
      abbrev pub at : End
      at = record { process = found.process; place = x.place }

      pub acts_there : InternalActionsAreListed → CanDoAt setting.model CanAct ts at
      acts_there law =
          let it : IsThere (at_in setting.model t) (term_in t) x.place (λ f part. Can (at_in setting.model t) f part x.kind x.pos) =
          all_at (λ (n : Noted walk.Doing). IsThere (at_in setting.model t) (term_in t) n.place (λ f part. Can (at_in setting.model t) f part n.what.kind n.what.pos))
          (internal_actions (at_in setting.model t) (term_in t)) found.number (noted_view x) (law (at_in setting.model t) (term_in t)).derivable x_is in
          record { tree = t; is = t_is; it_can = record { frame = it.frame; part = it.part; active = it.active; it_holds = (x.pos, (x.kind, it.it_holds)) } }

      pub chosen_internal : InternalsComeFirst → AreCouples setting c table.pairs → IsChoice setting c (offers_in (sums.all totals) table.pairs) k (Internal at x.kind x.pos)
      chosen_internal first couples =
          subst (λ (total : Total). IsChoice setting c (offers_in total table.pairs) k (Internal at x.kind x.pos)) totals_all
          (first setting clock ms table.pairs told.are_trees.members couples k found (member_of setting.model t) (noted_view x)
          (subst (λ (xs : List Total). IsAction xs k found) told.are_totals is) (member_is setting clock ts told.are_trees found.process t t_is) x_is)

  -- Communications

  module _ (k : ℕ) (past : (sums.all totals).summary.internal ≤ k) (s : Sender) (r : End) (p : Judged) (p_is : slice_get (taken table.pairs) (k - (sums.all totals).summary.internal) ≡ Some p)
      (s_is : p.sender ≡ s) (r_is : p.receiver.end ≡ r) where
    same_action : communication p ≡ communicated s r
    same_action = ap (λ (x : Sender). communicated x p.receiver.end) s_is ∙ ap (communicated s) r_is

    pub is_pair : AreCouples setting c table.pairs → IsPair setting c s.wire s.end r s.message s.parcel
    is_pair couples =
        subst (λ (e : End). IsPair setting c s.wire s.end e s.message s.parcel) r_is
        (subst (λ (x : Sender). IsPair setting c x.wire x.end p.receiver.end x.message x.parcel) s_is
        (all_at (IsCouple setting c) (taken table.pairs) (k - (sums.all totals).summary.internal) p (All-filter (λ (q : Judged). is_yes q.verdict) (IsCouple setting c) table.pairs couples.are) p_is))

    pub chosen_communication : CommunicationsFollow → AreCouples setting c table.pairs → IsChoice setting c (offers_in (sums.all totals) table.pairs) k (communicated s r)
    chosen_communication follow couples =
        let there : IsChoice setting c (offers_in (total_of_all clock ms) table.pairs) ((total_of_all clock ms).summary.internal + (k - (sums.all totals).summary.internal)) (communication p) =
        follow setting clock ms table.pairs told.are_trees.members couples (k - (sums.all totals).summary.internal) p p_is in
        let same : (sums.all totals).summary.internal + (k - (sums.all totals).summary.internal) ≡ k = omega (arith, past) in
        subst (λ (a : Action). IsChoice setting c (offers_in (sums.all totals) table.pairs) k a) same_action
        (subst (λ (j : ℕ). IsChoice setting c (offers_in (sums.all totals) table.pairs) j (communication p)) same
        (subst (λ (total : Total). IsChoice setting c (offers_in total table.pairs) (total.summary.internal + (k - (sums.all totals).summary.internal)) (communication p)) totals_all there))

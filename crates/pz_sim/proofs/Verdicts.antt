-- What a tree says to a question is what is computed of it.
use Rattle.std.proofs.Common.{◌≡◌, ◌<◌, ℕ, List, length, get_or, Option, Some, Result, Ok, Err, refl, sym, subst, ap, ◌∙◌}
use Rattle.std.specs.Prelude.{slice_get, IfOk}
use Rattle.std.proofs.Math.Logic.{∥∥₁_elim, ∥∥₁_map}
use Rattle.std.proofs.Math.Nat.{ℕ_set}
use Rattle.std.specs.Coded.{Coded-set, le_prop}
use Rattle.std.specs.declared.alloc.AllocError.{AllocError}
use Rattle.std.proofs.lemmas.Option.{same_Some, slice_get_within, slice_get-get_or}
use Rattle.pz_rules.specs.pz_syntax.Classes.{ModelTree}
use Rattle.pz_rules.specs.pz_copy.Parcels.{ParcelView}
use Rattle.pz_rules.specs.pz_offer.declared.end.End.{End}
use Rattle.pz_rules.specs.pz_offer.declared.ends.Verdict.{Verdict}
use Rattle.pz_rules.specs.pz_offer.declared.ends.Verdict.TheVariants as says
use Rattle.pz_rules.specs.pz_offer.contracts.ends.Verdict as verdict_row
use Rattle.pz_rules.specs.pz_offer.PlaceOrder.{Place}
use Rattle.pz_rules.specs.Terms.{Term}
use Rattle.pz_rules.specs.Settings.{Context}
use Rattle.pz_sim_laws.specs.Elapsing as elapsing
use Rattle.pz_sim_laws.specs.devices.Saying.{verdict_of, SaysNothingElse}
use Rattle.pz_tree.specs.declared.tree.Tree.{Tree}
use Rattle.pz_tree.specs.Trees.{at_in, term_in, IsFresh}
use Rattle.pz_tree.specs.Asking.{HasReceive, JudgesAt, said_by}
use Rattle.pz_sim.specs.devices.Questions.{Stands, Takes, said_in, verdict_in}

told_back : (v : Verdict) → verdict_of (said_by v) ≡ v
told_back says.Yes = refl
told_back says.No = refl
told_back (says.Trouble t) = refl

-- at its place stands a receive, in the words of trees
has_receive : (a : Context) (t : Term) (place : Place) → elapsing.HasReceive a t place → HasReceive a t place
has_receive a t place x = record { frame = x.frame; part = x.part; active = x.active; it_holds = x.receive }

module _ (m : ModelTree) (clock : ℕ) (ts : List Tree) (r : End) (h : Takes m clock ts r) where
  pub within : r.process < length ts
  within = ∥∥₁_elim h le_prop (λ x. slice_get_within ts r.process x.tree x.is)

  -- the tree that is read
  module _ (d : Tree) where
    abbrev t : Tree
    t = get_or ts r.process d

    is : slice_get ts r.process ≡ Some t
    is = slice_get-get_or ts r.process d within

    the_tree : (x : Stands m clock ts r) → x.tree ≡ t
    the_tree x = same_Some x.tree t (sym x.is ∙ is)

    pub is_fresh : ∥ IsFresh m t ∥₁
    is_fresh = ∥∥₁_map h (λ x. subst (IsFresh m) (the_tree x) x.fresh)

    pub at_clock : clock ≡ t.clock
    at_clock = ∥∥₁_elim h (ℕ_set clock t.clock) (λ x. sym x.same_clock ∙ ap (λ (u : Tree). u.clock) (the_tree x))

    pub receives : ∥ HasReceive (at_in m t) (term_in t) r.place ∥₁
    receives = ∥∥₁_map h (λ x. subst (λ (u : Tree). HasReceive (at_in m u) (term_in u) r.place) (the_tree x) (has_receive (at_in m x.tree) (term_in x.tree) r.place x.receives))

    one_verdict : SaysNothingElse → (parcel : ParcelView) (v : Verdict) → Stands m clock ts r → (IsFresh m t → JudgesAt (at_in m t) (term_in t) r.place parcel v) → v ≡ verdict_in m ts r parcel
    one_verdict only parcel v x judges =
        let fresh : IsFresh m t = subst (IsFresh m) (the_tree x) x.fresh in
        let has : elapsing.HasReceive (at_in m t) (term_in t) r.place = subst (λ (u : Tree). elapsing.HasReceive (at_in m u) (term_in u) r.place) (the_tree x) x.receives in
        sym (told_back v) ∙ ap verdict_of (only (at_in m t) (term_in t) r.place parcel (said_by v) has (judges fresh))
        ∙ ap (λ (o : Option Tree). said_in m o r.place parcel) (sym is)

    pub verdict_is : SaysNothingElse → (parcel : ParcelView) (result : Result Verdict AllocError) → (IsFresh m t → IfOk result (JudgesAt (at_in m t) (term_in t) r.place parcel)) → IfOk result (λ v. v ≡ verdict_in m ts r parcel)
    verdict_is only parcel (Ok v) judges = ∥∥₁_elim h (Coded-set verdict_row.the_row.coded v (verdict_in m ts r parcel)) (λ x. one_verdict only parcel v x judges)
    verdict_is only parcel (Err e) judges = tt

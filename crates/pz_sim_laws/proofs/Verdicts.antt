-- What the receive at an end says to a parcel: one thing, and that which is kept of it.
use Rattle.std.proofs.Common.{◌≡◌, ℕ, Bool, true, false, List, Result, Ok, Some, refl, sym, subst, ap, ◌∙◌}
use Rattle.std.specs.Prelude.{slice_get, Contains}
use Rattle.std.proofs.lemmas.Option.{same_Some}
use Rattle.pz_tree_standing.specs.pz_copy.Parcels.{ParcelView}
use Rattle.pz_tree_standing.specs.pz_offer.declared.end.End.{End}
use Rattle.pz_tree_standing.specs.pz_offer.declared.trouble.Trouble.{Trouble}
use Rattle.pz_tree_standing.specs.pz_offer.declared.ends.Verdict.{Verdict}
use Rattle.pz_tree_standing.specs.pz_offer.PlaceOrder.{Place}
use Rattle.pz_match.specs.declared.offers.Receiver.{Receiver}
use Rattle.pz_match.specs.Pairs.{Judged}
use Rattle.pz_tree_standing.specs.pz_rules.Terms.{Term}
use Rattle.pz_tree_standing.specs.pz_rules.Settings.{Setting, Process, Context}
use Rattle.pz_tree_standing.specs.pz_rules.Active as active
use Rattle.pz_tree_standing.specs.pz_rules.Active.{Active, IsActive}
use Rattle.pz_tree_standing.specs.pz_rules.Messages.{Receives, Judges}
use Rattle.pz_tree_standing.specs.pz_rules.Offers.{IsJudged}
use Rattle.pz_tree_standing.specs.pz_rules.Laws.{WhatReceivesIsAReceive}
use Rattle.pz_tree_standing.specs.pz_rules.devices.Walk as walk
use Rattle.pz_tree_standing.specs.pz_rules.devices.Walk.{Noted, active_receives}
use Rattle.pz_tree_standing.specs.pz_rules.devices.Walks.{IsThere, ReceivesAreListed}
use Rattle.pz_part_queries.specs.Laws.{OneVerdict}
use Rattle.pz_sim_laws.specs.Members.{Member, process_of, config_of, AreMembers}
use Rattle.pz_sim_laws.specs.Offering.{AreReceivers, in_all}
use Rattle.pz_sim_laws.specs.Couples.{answer, IsTruthful}
use Rattle.pz_sim_laws.specs.Elapsing.{HasReceive}
use Rattle.pz_sim_laws.proofs.Lists.{all_got}
use Rattle.pz_sim_laws.proofs.Standing.{sits_of, part_of_member}
use Rattle.pz_sim_laws.proofs.Rows.{InRow, in_row}

pub record SamePart (g h : ℕ) (x y : Term) : Type 0 where
  pub frame : g ≡ h
  pub part : x ≡ y

pub active_once : {a : Context} {f : ℕ} {t : Term} {place : Place} {g h : ℕ} {x y : Term} → Active a f t place g x → Active a f t place h y → SamePart g h x y
active_once (active.here f t) (active.here _ _) = record { frame = refl; part = refl }
active_once (active.inside f t i place g x r k) (active.inside _ _ _ _ h y r' l) = active_once k l

-- a receive that is offered stands in its process

standing : (law : ReceivesAreListed) → WhatReceivesIsAReceive → (ms : List Member) (r : Receiver) → InRow ms r → (m : Member) × (slice_get ms r.end.process ≡ Some m) × HasReceive m.seen m.term r.end.place
standing law acts ms r x =
    let m = x.member in
    let n = x.noted in
    let it : IsThere m.seen m.term n.place (λ f part. Receives part n.what.pos n.what.port n.what.message n.what.count) =
    all_got (λ (k : Noted walk.ActiveReceive). IsThere m.seen m.term k.place (λ f part. Receives part k.what.pos k.what.port k.what.message k.what.count)) (active_receives m.seen m.term) n (law m.seen m.term).derivable x.within in
    subst (λ (y : Receiver). (k : Member) × (slice_get ms y.end.process ≡ Some k) × HasReceive k.seen k.term y.end.place) x.receiver_is (
      m,
      x.is,
      record {
        frame = it.frame;
        part = it.part;
        active = subst (λ (q : Place). IsActive m.seen m.term q it.frame it.part) (sym x.stands_for.place) it.active;
        receive = acts it.part n.what.pos n.what.port n.what.message n.what.count it.it_holds;
      },
    )

pub receivers_stand : ReceivesAreListed → WhatReceivesIsAReceive → (ms : List Member) (rows : List (List Receiver)) (r : Receiver) → AreReceivers ms rows → Contains (in_all rows) r
    → (m : Member) × (slice_get ms r.end.process ≡ Some m) × HasReceive m.seen m.term r.end.place
receivers_stand law acts ms rows r are there = standing law acts ms r (in_row ms rows r are there)

module _ (setting : Setting) (clock : ℕ) (ms : List Member) (are : AreMembers setting clock ms) where
  -- one verdict
  pub verdict_once : OneVerdict → (receiver : End) (parcel : ParcelView) (v w : Result Bool Trouble) → IsJudged setting (config_of clock ms) receiver parcel v → IsJudged setting (config_of clock ms) receiver parcel w → v ≡ w
  verdict_once law receiver parcel v w x y =
      let p = sits_of setting clock ms are receiver.process x.active.process x.seen x.active.stands in
      let q = sits_of setting clock ms are receiver.process y.active.process y.seen y.active.stands in
      let same : p.member ≡ q.member = same_Some p.member q.member (sym p.is ∙ q.is) in
      let seen : x.seen ≡ y.seen = p.seen ∙ ap (λ (m : Member). m.seen) same ∙ sym q.seen in
      let process : x.active.process ≡ y.active.process = p.process ∙ ap process_of same ∙ sym q.process in
      let here : IsActive y.seen y.active.process.term receiver.place x.frame x.part =
      subst (λ (a : Context). IsActive a y.active.process.term receiver.place x.frame x.part) seen
      (subst (λ (p : Process). IsActive x.seen p.term receiver.place x.frame x.part) process x.active.active) in
      let one = active_once here y.active.active in
      let judges : Judges y.seen y.frame parcel y.part v =
      subst (λ (t : Term). Judges y.seen y.frame parcel t v) one.part
      (subst (λ (f : ℕ). Judges y.seen f parcel x.part v) one.frame (subst (λ (a : Context). Judges a x.frame parcel x.part v) seen x.judges)) in
      law y.seen y.frame parcel y.part v w judges y.judges

  -- what is kept of a pair is what its receive says

  record IsFree (r : Receiver) : Type 0 where
    pub member : Member
    pub is : slice_get ms r.end.process ≡ Some member
    pub frame : ℕ
    pub part : Term
    pub active : IsActive member.seen member.term r.end.place frame part
    pub takes : r.conditional ≡ false → (parcel : ParcelView) → Judges member.seen frame parcel part (Ok true)

  is_free : ReceivesAreListed → (r : Receiver) → InRow ms r → IsFree r
  is_free law r x =
      let m = x.member in
      let n = x.noted in
      let it : IsThere m.seen m.term n.place (λ f part. Receives part n.what.pos n.what.port n.what.message n.what.count) =
      all_got (λ (k : Noted walk.ActiveReceive). IsThere m.seen m.term k.place (λ f part. Receives part k.what.pos k.what.port k.what.message k.what.count)) (active_receives m.seen m.term) n (law m.seen m.term).derivable x.within in
      subst IsFree x.receiver_is (record {
        member = m;
        is = x.is;
        frame = it.frame;
        part = it.part;
        active = subst (λ (q : Place). IsActive m.seen m.term q it.frame it.part) (sym x.stands_for.place) it.active;
        takes = λ free parcel. x.stands_for.free free it.frame it.part parcel it.active;
      })

  pub right : ReceivesAreListed → (rows : List (List Receiver)) (p : Judged) → AreReceivers ms rows → Contains (in_all rows) p.receiver → IsTruthful ms p
      → IsJudged setting (config_of clock ms) p.receiver.end p.sender.parcel (answer p.verdict)
  right law rows p are_so there truthful = by p.receiver.conditional refl
    where
      x : IsFree p.receiver
      x = is_free law p.receiver (in_row ms rows p.receiver are_so there)

      judged : Judges x.member.seen x.frame p.sender.parcel x.part (answer p.verdict) → IsJudged setting (config_of clock ms) p.receiver.end p.sender.parcel (answer p.verdict)
      judged judges = record {
        seen = x.member.seen;
        frame = x.frame;
        part = x.part;
        active = part_of_member setting clock ms are p.receiver.end.process x.member p.receiver.end.place x.frame x.part x.is x.active;
        judges = judges;
      }

      by : (b : Bool) → p.receiver.conditional ≡ b → IsJudged setting (config_of clock ms) p.receiver.end p.sender.parcel (answer p.verdict)
      by true is = judged (truthful.asked is x.member x.is x.frame x.part x.active)
      by false is = judged (subst (λ (v : Verdict). Judges x.member.seen x.frame p.sender.parcel x.part (answer v)) (sym (truthful.free is)) (x.takes is p.sender.parcel))

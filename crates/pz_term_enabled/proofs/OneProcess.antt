-- What the walk of the term of a process lists, as things that are found there.
use Rattle.std.proofs.Common.{◌≡◌, ℕ, List, [], ◌∷◌, map, refl, sym, subst, ap, ◌∙◌}
use Rattle.std.specs.List.{AllZip, Contains}
use Rattle.pz_classes_code.specs.pz_syntax.declared.tokens.Pos.{Pos}
use Rattle.pz_rules.specs.pz_copy.Parcels.{ParcelView}
use Rattle.pz_rules.specs.pz_copy.Packing.{IsParcelOf}
use Rattle.pz_rules.specs.pz_offer.PlaceOrder.{Place, PlaceBefore}
use Rattle.pz_rules.specs.Terms.{Term}
use Rattle.pz_rules.specs.Settings.{Context}
use Rattle.pz_rules.specs.Active.{IsActive}
use Rattle.pz_rules.specs.InternalActions.{Can}
use Rattle.pz_rules.specs.Messages.{Sends, sends, Receives}
use Rattle.pz_rules.specs.devices.Walk as walk
use Rattle.pz_rules.specs.devices.Walk.{Noted, internal_actions, active_sends, active_receives}
use Rattle.pz_rules.specs.devices.Walks.{IsThere, Lists, Offering, offering, InternalActionsAreListed, SendsAreListed, SendsHaveParcels, ReceivesAreListed}
use Rattle.pz_term_enabled.specs.declared.found.Doing.{Doing}
use Rattle.pz_term_enabled.specs.declared.found.ActiveSend.{ActiveSend}
use Rattle.pz_term_enabled.specs.declared.found.ActiveReceive.{ActiveReceive}
use Rattle.pz_term_enabled.specs.devices.Walked.{doing_view, receiving_view, Carries, CarryAll}
use Rattle.pz_term_enabled.proofs.Paired.{zip_ordered, zip_all, zip_contains, zip_view}
use Rattle.pz_term_enabled.proofs.Listed.{Here}

-- Of two lists, of which the one has what the rules derive, and each element of the other stands for
-- that of the one.
module _ {X W : Type 0} (a : Context) (t : Term) (holds : W → ℕ → Term → Type 0) (place : X → Place) (Holds : X → Type 0) (C : X → Noted W → Type 0) where
  -- what is noted there, for which nothing else stands
  record IsTold (x : X) : Type 0 where
    pub what : W
    pub is_there : IsThere a t (place x) (holds what)
    pub only : (y : X) → C y (record { place = place x; what = what }) → y ≡ x

  here : ((x : X) (n : Noted W) → C x n → place x ≡ n.place) → ((x : X) (n : Noted W) → C x n → IsThere a t n.place (holds n.what) → Holds x) → ((x : X) → Holds x → IsTold x)
      → (xs : List X) (ns : List (Noted W)) → AllZip C xs ns → Lists a t holds ns → Here place Holds xs
  here placed sound complete xs ns zip lists = record {
    ordered = zip_ordered C (λ x y. PlaceBefore (place x) (place y)) (λ m n. PlaceBefore m.place n.place) before xs ns zip lists.ordered;
    derivable = zip_all C (λ n. IsThere a t n.place (holds n.what)) Holds sound xs ns zip lists.derivable;
    every = λ x h.
        let told = complete x h in
        let pair = zip_contains C xs ns zip (record { place = place x; what = told.what }) (lists.every (place x) told.what told.is_there) in
        subst (λ (y : X). Contains xs y) (told.only pair.one pair.pairs) pair.within;
  }
    where
      before : (x y : X) (m n : Noted W) → C x m → C y n → PlaceBefore m.place n.place → PlaceBefore (place x) (place y)
      before x y m n one other first =
          subst (λ (q : Place). PlaceBefore q (place y)) (sym (placed x m one)) (subst (λ (q : Place). PlaceBefore m.place q) (sym (placed y n other)) first)

module _ (a : Context) (t : Term) where
  -- Internal actions

  abbrev pub DoesThere : Doing → Type 0
  DoesThere d = IsThere a t d.place (λ f part. Can a f part d.kind d.pos)

  abbrev doing_of : Noted walk.Doing → Doing
  doing_of n = record { place = n.place; kind = n.what.kind; pos = n.what.pos }

  pub doings_here : InternalActionsAreListed → (ds : List Doing) → map doing_view ds ≡ internal_actions a t → Here (λ (d : Doing). d.place) DoesThere ds
  doings_here law ds is =
      here a t (λ (w : walk.Doing) (f : ℕ) (part : Term). Can a f part w.kind w.pos) (λ (d : Doing). d.place) DoesThere (λ (d : Doing) (n : Noted walk.Doing). doing_view d ≡ n)
      (λ d n e. ap (λ (m : Noted walk.Doing). m.place) e)
      (λ d n e x. subst (λ (m : Noted walk.Doing). IsThere a t m.place (λ f part. Can a f part m.what.kind m.what.pos)) (sym e) x)
      (λ d h. record { what = record { kind = d.kind; pos = d.pos }; is_there = h; only = λ y e. ap doing_of e })
      ds (internal_actions a t) (zip_view doing_view ds (internal_actions a t) is) (law a t)

  -- Sends

  abbrev pub SendsThere : ActiveSend → Type 0
  SendsThere x = IsThere a t x.place (λ f part. Sends a f part x.pos x.port x.message x.parcel)

  zip_carried : (xs : List ActiveSend) (ns : List (Noted walk.ActiveSend)) → CarryAll xs ns → AllZip Carries xs ns
  zip_carried [] [] h = tt
  zip_carried [] (n ∷ ns) h = absurd h
  zip_carried (x ∷ xs) [] h = absurd h
  zip_carried (x ∷ xs) (n ∷ ns) h = (h.0, zip_carried xs ns h.1)

  sends_of : (f : ℕ) (part : Term) (w : walk.ActiveSend) (parcel : ParcelView) → Offering a f part w → IsParcelOf w.state w.values parcel → Sends a f part w.pos w.port w.message parcel
  sends_of f _ _ parcel (offering at port name args block values s gives) packed = sends at port name args block values s parcel gives packed

  -- a send, as the walk notes it
  record IsOffered (f : ℕ) (part : Term) (pos : Pos) (port : ℕ) (message : List ℕ) (parcel : ParcelView) : Type 0 where
    pub what : walk.ActiveSend
    pub offers : Offering a f part what
    pub pos_is : what.pos ≡ pos
    pub port_is : what.port ≡ port
    pub message_is : what.message ≡ message
    pub packed : IsParcelOf what.state what.values parcel

  offered : (f : ℕ) (part : Term) (pos : Pos) (port : ℕ) (message : List ℕ) (parcel : ParcelView) → Sends a f part pos port message parcel → IsOffered f part pos port message parcel
  offered f _ _ _ _ _ (sends at port name args block values s parcel gives packed) = record {
    what = record { pos = at; port = port; message = name.name; values = values; state = s };
    offers = offering at port name args block values s gives;
    pos_is = refl;
    port_is = refl;
    message_is = refl;
    packed = packed;
  }

  sends_sound : (x : ActiveSend) (n : Noted walk.ActiveSend) → Carries x n → IsThere a t n.place (λ f part. Offering a f part n.what) → SendsThere x
  sends_sound x n carries is = record {
    frame = is.frame;
    part = is.part;
    active = subst (λ (q : Place). IsActive a t q is.frame is.part) (sym carries.place) is.active;
    it_holds = subst (λ (q : Pos). Sends a is.frame is.part q x.port x.message x.parcel) (sym carries.pos)
        (subst (λ (k : ℕ). Sends a is.frame is.part n.what.pos k x.message x.parcel) (sym carries.port)
        (subst (λ (s : List ℕ). Sends a is.frame is.part n.what.pos n.what.port s x.parcel) (sym carries.message) (sends_of is.frame is.part n.what x.parcel is.it_holds carries.parcel)));
  }

  abbrev sending : Place → Pos → ℕ → List ℕ → ParcelView → ActiveSend
  sending place pos port message parcel = record { place = place; pos = pos; port = port; message = message; parcel = parcel }

  same_sending : (y x : ActiveSend) → y.place ≡ x.place → y.pos ≡ x.pos → y.port ≡ x.port → y.message ≡ x.message → y.parcel ≡ x.parcel → y ≡ x
  same_sending y x place pos port message parcel =
      ap (λ (q : Place). sending q y.pos y.port y.message y.parcel) place ∙ ap (λ (q : Pos). sending x.place q y.port y.message y.parcel) pos
      ∙ ap (λ (k : ℕ). sending x.place x.pos k y.message y.parcel) port ∙ ap (λ (s : List ℕ). sending x.place x.pos x.port s y.parcel) message
      ∙ ap (λ (p : ParcelView). sending x.place x.pos x.port x.message p) parcel

  pub sends_here : SendsAreListed → SendsHaveParcels → (xs : List ActiveSend) → CarryAll xs (active_sends a t) → Here (λ (x : ActiveSend). x.place) SendsThere xs
  sends_here law parcels xs carried =
      here a t (λ (w : walk.ActiveSend) (f : ℕ) (part : Term). Offering a f part w) (λ (x : ActiveSend). x.place) SendsThere Carries (λ x n carries. carries.place) sends_sound
      (λ x h.
      let is = offered h.frame h.part x.pos x.port x.message x.parcel h.it_holds in
      let one = (parcels a h.frame h.part is.what is.offers).1.only in
      record {
        what = is.what;
        is_there = record { frame = h.frame; part = h.part; active = h.active; it_holds = is.offers };
        only = λ y carries. same_sending y x carries.place (carries.pos ∙ is.pos_is) (carries.port ∙ is.port_is) (carries.message ∙ is.message_is)
            (one y.parcel (sends_of h.frame h.part is.what y.parcel is.offers carries.parcel) ∙ sym (one x.parcel (sends_of h.frame h.part is.what x.parcel is.offers is.packed)));
      }) xs (active_sends a t) (zip_carried xs (active_sends a t) carried) (law a t)

  -- Receives

  abbrev pub ReceivesThere : ActiveReceive → Type 0
  ReceivesThere x = IsThere a t x.place (λ f part. Receives part x.pos x.port x.message x.count)

  abbrev receiving_of : Noted walk.ActiveReceive → ActiveReceive
  receiving_of n = record { place = n.place; pos = n.what.pos; port = n.what.port; message = n.what.message; count = n.what.count }

  pub receives_here : ReceivesAreListed → (xs : List ActiveReceive) → map receiving_view xs ≡ active_receives a t → Here (λ (x : ActiveReceive). x.place) ReceivesThere xs
  receives_here law xs is =
      here a t (λ (w : walk.ActiveReceive) (f : ℕ) (part : Term). Receives part w.pos w.port w.message w.count) (λ (x : ActiveReceive). x.place) ReceivesThere (λ (x : ActiveReceive) (n : Noted walk.ActiveReceive). receiving_view x ≡ n)
      (λ x n e. ap (λ (m : Noted walk.ActiveReceive). m.place) e)
      (λ x n e h. subst (λ (m : Noted walk.ActiveReceive). IsThere a t m.place (λ f part. Receives part m.what.pos m.what.port m.what.message m.what.count)) (sym e) h)
      (λ x h. record { what = record { pos = x.pos; port = x.port; message = x.message; count = x.count }; is_there = h; only = λ y e. ap receiving_of e })
      xs (active_receives a t) (zip_view receiving_view xs (active_receives a t) is) (law a t)

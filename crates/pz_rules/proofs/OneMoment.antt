-- A configuration has no more than one moment.
use Rattle.std.proofs.Common.{◌≡◌, inl, inr, ℕ, List, length, Result, Err, refl, sym, subst, ap, ◌∙◌, arith}
use Rattle.std.specs.Prelude.{Bool}
use Rattle.pz_offer.specs.pz_copy.Parcels.{ParcelView}
use Rattle.pz_offer.specs.declared.end.End.{End}
use Rattle.pz_offer.specs.declared.trouble.Trouble.{Trouble}
use Rattle.pz_rules.specs.declared.action.Action.{Action}
use Rattle.pz_rules.specs.declared.moment.Moment.{Moment}
use Rattle.pz_rules.specs.declared.moment.Moment.TheVariants.{Actions, Time, Faulty, Stopped}
use Rattle.pz_rules.specs.Terms.{Term}
use Rattle.pz_rules.specs.Settings.{Setting, Process, Context}
use Rattle.pz_rules.specs.Active.{IsActive}
use Rattle.pz_rules.specs.Messages.{Judges}
use Rattle.pz_rules.specs.Asking.{Asks}
use Rattle.pz_rules.specs.Configurations.{Config}
use Rattle.pz_rules.specs.Offers.{PartAt, IsPair, IsJudged}
use Rattle.pz_rules.specs.Moments.{Source, SourceBefore, Troubles, asked, judged, IsLeastTrouble, IsLeast, Candidate, high, faulty, acting, passing, finished, deadlock, rank, IsMoment}
use Rattle.pz_rules.specs.devices.Walk.{ActiveSend, sent_by, troubled_by}
use Rattle.pz_rules.proofs.Locals.{some_is, sends_complete, asks_complete}
use Rattle.pz_rules.proofs.Once.{active_once, judges_once}
use Rattle.pz_rules.proofs.Orders.{one_list, Either, source_order}
use Rattle.pz_rules.proofs.Nexts.{stands_once}
use Rattle.pz_rules.proofs.TooHigh.{high_once}
use Rattle.pz_rules.proofs.Parcels.{the_parcel, parcel_once}

module _ (setting : Setting) (c : Config) where
  pub record SamePartAt (a b : Context) (f g : ℕ) (t u : Term) : Type 0 where
    pub seen : a ≡ b
    pub frame : f ≡ g
    pub part : t ≡ u

  -- one part stands at an end
  pub part_at_once : (end : End) (a b : Context) (f g : ℕ) (t u : Term) → PartAt setting c end a f t → PartAt setting c end b g u → SamePartAt a b f g t u
  part_at_once end a b f g t u x y =
      let same = stands_once setting c end.process x.process y.process a b x.stands y.stands in
      let active : IsActive b y.process.term end.place f t = subst (λ (d : Context). IsActive d y.process.term end.place f t) same.seen (subst (λ (p : Process). IsActive a p.term end.place f t) same.process x.active) in
      let one = active_once active y.active in
      record { seen = same.seen; frame = one.frame; part = one.part }

  -- what is computed of it is one
  pub computed_once : {X : Type 0} (h : Context → ℕ → Term → X) {a b : Context} {f g : ℕ} {t u : Term} → SamePartAt a b f g t u → h a f t ≡ h b g u
  computed_once h {a} {b} {f} {g} {t} {u} same = ap (λ (d : Context). h d f t) same.seen ∙ ap (λ (n : ℕ). h b n t) same.frame ∙ ap (λ (v : Term). h b g v) same.part

  -- it has one trouble
  asks_once : (end : End) (a b : Context) (f g : ℕ) (t u : Term) (x y : Trouble) → PartAt setting c end a f t → PartAt setting c end b g u → Asks a f t x → Asks b g u y → x ≡ y
  asks_once end a b f g t u x y at_one at_other one other =
      some_is (sym (asks_complete a f t x one) ∙ computed_once troubled_by (part_at_once end a b f g t u at_one at_other) ∙ asks_complete b g u y other)

  pub record SameSend (m n : List ℕ) (p q : ParcelView) : Type 0 where
    pub message : m ≡ n
    pub parcel : p ≡ q

  -- two ends have one message and one parcel
  pub pair_once : (w v : ℕ) (s r r' : End) (m n : List ℕ) (p q : ParcelView) → IsPair setting c w s r m p → IsPair setting c v s r' n q → SameSend m n p q
  pair_once w v s r r' m n p q x y =
      let at_once = part_at_once s x.sends_at y.sends_at x.sends_frame y.sends_frame x.sends_part y.sends_part x.sender_active y.sender_active in
      let one = sends_complete x.sends_at x.sends_frame x.sends_part x.sends_pos x.sends_port m p x.sends in
      let other = sends_complete y.sends_at y.sends_frame y.sends_part y.sends_pos y.sends_port n q y.sends in
      let same = some_is (sym one.is ∙ computed_once sent_by at_once ∙ other.is) in
      record {
        message = ap (λ (z : ActiveSend). z.message) same;
        parcel = parcel_once one.state one.values p one.packed ∙ ap (λ (z : ActiveSend). the_parcel z.state z.values) same ∙ sym (parcel_once other.state other.values q other.packed);
      }

  pub judgement_once : (receiver : End) (parcel : ParcelView) (v w : Result Bool Trouble) → IsJudged setting c receiver parcel v → IsJudged setting c receiver parcel w → v ≡ w
  judgement_once receiver parcel v w x y =
      let same = part_at_once receiver x.seen y.seen x.frame y.frame x.part y.part x.active y.active in
      let here : Judges y.seen y.frame parcel y.part v =
      subst (λ (t : Term). Judges y.seen y.frame parcel t v) same.part
      (subst (λ (f : ℕ). Judges y.seen f parcel x.part v) same.frame (subst (λ (a : Context). Judges a x.frame parcel x.part v) same.seen x.judges)) in
      judges_once y.seen y.frame parcel y.part v w here y.judges

  err_is : {A : Type 0} {t u : Trouble} → (let r : Result A Trouble = Err t in r) ≡ Err u → t ≡ u
  err_is e = cc

  pub trouble_once : (x : Source) (t u : Trouble) → Troubles setting c x t → Troubles setting c x u → t ≡ u
  trouble_once _ _ _ (asked at a f p t one asks) (asked _ b g q u other asks') = asks_once at a b f g p q t u one other asks asks'
  trouble_once _ _ _ (judged number sender receiver message parcel t is_pair is_judged) (judged _ _ _ message' parcel' u is_pair' is_judged') =
      let same = pair_once number number sender receiver receiver message message' parcel parcel' is_pair is_pair' in
      err_is (judgement_once receiver parcel' (Err t) (Err u) (subst (λ (p : ParcelView). IsJudged setting c receiver p (Err t)) same.parcel is_judged) is_judged')

  least_trouble_once : (t u : Trouble) → IsLeastTrouble setting c t → IsLeastTrouble setting c u → t ≡ u
  least_trouble_once t u x y = by (source_order x.source y.source)
    where
      by : Either SourceBefore x.source y.source → t ≡ u
      by (inl before) = absurd (y.least x.source t x.occurs before)
      by (inr (inl same)) = trouble_once y.source t u (subst (λ (z : Source). Troubles setting c z t) same x.occurs) y.occurs
      by (inr (inr after)) = absurd (x.least y.source u y.occurs after)

  least_once : (d e : ℕ) → IsLeast setting c d → IsLeast setting c e → d ≡ e
  least_once d e x y = omega (arith, x.least e y.is_left, y.least d x.is_left)

  by_rank : (m n : Moment) → rank m ≡ rank n → Candidate setting c m → Candidate setting c n → m ≡ n
  by_rank _ _ e (high t x) (high u y) = ap Stopped (high_once setting c t u x y)
  by_rank _ _ e (high t x) (faulty u y) = absurd (omega (arith, e))
  by_rank _ _ e (high t x) (acting ys y some') = absurd (omega (arith, e))
  by_rank _ _ e (high t x) (passing d' y) = absurd (omega (arith, e))
  by_rank _ _ e (high t x) (finished y) = absurd (omega (arith, e))
  by_rank _ _ e (high t x) deadlock = absurd (omega (arith, e))
  by_rank _ _ e (faulty t x) (high u y) = absurd (omega (arith, e))
  by_rank _ _ e (acting xs x some) (high u y) = absurd (omega (arith, e))
  by_rank _ _ e (passing d x) (high u y) = absurd (omega (arith, e))
  by_rank _ _ e (finished x) (high u y) = absurd (omega (arith, e))
  by_rank _ _ e deadlock (high u y) = absurd (omega (arith, e))
  by_rank _ _ e (faulty t x) (faulty u y) = ap Faulty (least_trouble_once t u x y)
  by_rank _ _ e (acting xs x some) (acting ys y some') = ap (λ (l : List Action). Actions (length l)) (one_list setting c xs ys x y)
  by_rank _ _ e (passing d x) (passing d' y) = ap Time (least_once d d' x y)
  by_rank _ _ e (finished x) (finished y) = refl
  by_rank _ _ e deadlock deadlock = refl
  by_rank _ _ e (faulty t x) (acting ys y some') = absurd (omega (arith, e))
  by_rank _ _ e (faulty t x) (passing d' y) = absurd (omega (arith, e))
  by_rank _ _ e (faulty t x) (finished y) = absurd (omega (arith, e))
  by_rank _ _ e (faulty t x) deadlock = absurd (omega (arith, e))
  by_rank _ _ e (acting xs x some) (faulty u y) = absurd (omega (arith, e))
  by_rank _ _ e (acting xs x some) (passing d' y) = absurd (omega (arith, e))
  by_rank _ _ e (acting xs x some) (finished y) = absurd (omega (arith, e))
  by_rank _ _ e (acting xs x some) deadlock = absurd (omega (arith, e))
  by_rank _ _ e (passing d x) (faulty u y) = absurd (omega (arith, e))
  by_rank _ _ e (passing d x) (acting ys y some') = absurd (omega (arith, e))
  by_rank _ _ e (passing d x) (finished y) = absurd (omega (arith, e))
  by_rank _ _ e (passing d x) deadlock = absurd (omega (arith, e))
  by_rank _ _ e (finished x) (faulty u y) = absurd (omega (arith, e))
  by_rank _ _ e (finished x) (acting ys y some') = absurd (omega (arith, e))
  by_rank _ _ e (finished x) (passing d' y) = absurd (omega (arith, e))
  by_rank _ _ e (finished x) deadlock = absurd (omega (arith, e))
  by_rank _ _ e deadlock (faulty u y) = absurd (omega (arith, e))
  by_rank _ _ e deadlock (acting ys y some') = absurd (omega (arith, e))
  by_rank _ _ e deadlock (passing d' y) = absurd (omega (arith, e))
  by_rank _ _ e deadlock (finished y) = absurd (omega (arith, e))

  pub one_moment : (m n : Moment) → IsMoment setting c m → IsMoment setting c n → m ≡ n
  one_moment m n x y = by_rank m n (omega (arith, x.first n y.applies, y.first m x.applies)) x.applies y.applies
